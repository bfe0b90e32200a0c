-- Where all levels could be read, all that walks lead to could.
use Rattle.std.proofs.Common.{◌≡◌, ℕ, zero, suc, ◌<◌, inl, inr, Bool, true, false, ◌&&◌, List, [], ◌∷◌, ◌++◌, length, is_some, refl, sym, ap, ◌∙◌, subst, arith, true≢false}
use Rattle.std.specs.List.{list_all}
use Rattle.wm_names.specs.Paths.{Path}
use Rattle.wm_names.specs.declared.entry.Meta.{Meta}
use Rattle.wm_names.specs.declared.subtree.Subtree.{Subtree}
use Rattle.wm_names.specs.declared.subtree.Subtree.TheVariants.{Below}
use Rattle.wm_names.specs.Entries.{join}
use Rattle.wm_crawler.specs.Trees.{Content, Among, is_folder}
use Rattle.wm_crawler.specs.Crawls.{HoldsName, IsFolder, IsWalk, IsBelow, IsEntered, AreReadable}
use Rattle.wm_crawler.specs.Levels.{with_meta, paths_in, folders, next_level, all_told, all_held, readable_levels}
use Rattle.wm_crawler.proofs.Walks.{Led, led, led_few, held_for, folder_for, next_for, found_meta}

first_true : (a b : Bool) → (a && b) ≡ true → a ≡ true
first_true true b e = refl
first_true false b e = absurd (true≢false (sym e))

last_true : (a b : Bool) → (a && b) ≡ true → b ≡ true
last_true true b e = e
last_true false b e = absurd (true≢false (sym e))

all_of : {A : Type 0} (h : A → Bool) (x : A) (xs : List A) → list_all h xs ≡ true → Among x xs → h x ≡ true
all_of h x [] e a = absurd a
all_of h x (y ∷ ys) e (inl s) = ap h s ∙ first_true (h y) (list_all h ys) e
all_of h x (y ∷ ys) e (inr a) = all_of h x ys (last_true (h y) (list_all h ys) e) a

module _ (c : Content) where
  -- what stands at the path could be told, and where it is a folder it could be read
  pub record ReadAt (p : Path) : Type 0 where
    pub told : is_some (c.meta p) ≡ true
    pub held : IsFolder c p → is_some (c.held (Below p)) ≡ true

  here : (n : ℕ) (ps : List Path) (p : Path) → readable_levels c (suc n) ps ≡ true → Among p ps → ReadAt p
  here n ps p e a =
      let rest = last_true (all_told c ps) (all_held c (folders (with_meta c ps)) && readable_levels c n (next_level c ps)) e in
      record {
        told = all_of (λ q. is_some (c.meta q)) p ps (first_true (all_told c ps) _ e) a;
        held = λ f. all_of (λ q. is_some (c.held q)) (Below p) (folders (with_meta c ps)) (first_true (all_held c (folders (with_meta c ps))) _ rest) (folder_for c ps p a f);
      }

  next_readable : (n : ℕ) (ps : List Path) → readable_levels c (suc n) ps ≡ true → readable_levels c n (next_level c ps) ≡ true
  next_readable n ps e = last_true (all_held c (folders (with_meta c ps))) _ (last_true (all_told c ps) _ e)

  at_level : (n : ℕ) (ps : List Path) (p : Path) → 0 < n → readable_levels c n ps ≡ true → Among p ps → ReadAt p
  at_level zero ps p l e a = absurd (omega arith)
  at_level (suc n) ps p l e a = here n ps p e a

  below_level : (n : ℕ) (ps : List Path) (q : Path) (names : List Path) (p : Path) → readable_levels c n ps ≡ true → Among q ps → IsFolder c q → length names < n → Led c (Below q) names p → ReadAt p
  below_level zero ps q names p e a f l w = absurd (omega arith)
  below_level (suc n) ps q [] p e a f l w = absurd w
  below_level (suc n) ps q (x ∷ []) p e a f l (h, s) = subst ReadAt (sym s) (at_level n (next_level c ps) (join (Below q) x) (omega arith) (next_readable n ps e) (next_for c ps q x a f h))
  below_level (suc n) ps q (x ∷ y ∷ ys) p e a f l (h, g, w) = below_level n (next_level c ps) (join (Below q) x) (y ∷ ys) p (next_readable n ps e) (next_for c ps q x a f h) g (omega arith) w

  from_top : (top : Subtree) (names : List Path) (p : Path) → readable_levels c 1024 (paths_in c top) ≡ true → Led c top names p → ReadAt p
  from_top top [] p e w = absurd w
  from_top top (x ∷ []) p e (h, s) = subst ReadAt (sym s) (at_level 1024 (paths_in c top) (join top x) (omega arith) e (held_for c top x h))
  from_top top (x ∷ y ∷ ys) p e (h, g, w) = below_level 1024 (paths_in c top) (join top x) (y ∷ ys) p e (held_for c top x h) g (led_few c top x y ys p h w) w

  led_more : (top : Subtree) (names : List Path) (q : Path) (m : Meta) (name : Path) → IsWalk c top names q m → IsFolder c q → HoldsName c (Below q) name → Led c top (names ++ name ∷ []) (join (Below q) name)
  led_more top [] q m name w f h = absurd w
  led_more top (x ∷ []) q m name (k, e, t) f h = (k, subst (IsFolder c) e f, (subst (λ y. HoldsName c (Below y) name) e h, ap (λ y. join (Below y) name) e))
  led_more top (x ∷ y ∷ ys) q m name (k, g, w) f h = (k, g, led_more (Below (join top x)) (y ∷ ys) q m name w f h)

  folder_there : (top : Subtree) (q : Path) (m : Meta) → IsBelow c top q m → is_folder m ≡ true → IsFolder c q
  folder_there top q m w k = record { meta = m; there = found_meta c top q m w; kind = k }

  pub readable : (top : Subtree) → is_some (c.held top) ≡ true → readable_levels c 1024 (paths_in c top) ≡ true → AreReadable c top
  readable top h e folder entered = (held entered, λ name k. told entered name k)
    where
      held : IsEntered c top folder → is_some (c.held folder) ≡ true
      held (inl s) = ap (λ f. is_some (c.held f)) s ∙ h
      held (inr (q, m, (names, w), k, s)) =
          ap (λ f. is_some (c.held f)) s ∙ (from_top top names q e (led c top names q m w)).held (folder_there top q m (names, w) k)

      told : IsEntered c top folder → (name : Path) → HoldsName c folder name → is_some (c.meta (join folder name)) ≡ true
      told (inl s) name k = (from_top top (name ∷ []) (join folder name) e (subst (λ f. HoldsName c f name) s k, ap (λ f. join f name) s)).told
      told (inr (q, m, (names, w), k, s)) name held =
          ap (λ f. is_some (c.meta (join f name))) s
          ∙ (from_top top (names ++ name ∷ []) (join (Below q) name) e (led_more top names q m name w (folder_there top q m (names, w) k) (subst (λ f. HoldsName c f name) s held))).told
