-- What is found level by level is what walks lead to.
use Rattle.std.proofs.Common.{◌≡◌, ℕ, zero, suc, ◌+◌, ◌<◌, ◌≤◌, ◌⊎◌, inl, inr, Bool, true, false, cond, not, ◌&&◌, ◌==◌, nat_le, List, [], ◌∷◌, length, Option, Some, None, is_some, unwrap_or, refl, sym, ap, ◌∙◌, subst, arith, true≢false, leb-true, length-append}
use Rattle.std.specs.List.{list_all}
use Rattle.wm_names.specs.Paths.{Path}
use Rattle.wm_names.specs.declared.entry.Meta.{Meta}
use Rattle.wm_names.specs.declared.subtree.Subtree.{Subtree}
use Rattle.wm_names.specs.declared.subtree.Subtree.TheVariants.{Whole, Below}
use Rattle.wm_names.specs.Entries.{is_fit, join}
use Rattle.wm_crawler.specs.Trees.{Content, Among, names_held, is_folder}
use Rattle.wm_crawler.specs.Crawls.{HoldsName, IsFolder, IsWalk, IsBelow}
use Rattle.wm_crawler.specs.Levels.{path_of, paired, with_meta, paths_in, folder_at, folders, levels, next_level}
use Rattle.wm_crawler.proofs.Elements.{among_left, among_right, among_either, made, makes, gathered, gathers}

-- ---- one level

none_some : {A : Type 0} {P : Type 0} (y : A) → None ≡ Some y → P
none_some y e = absurd (true≢false (sym (ap is_some e)))

paired_is : (q : Path) (o : Option (Option Meta)) (p : Path) (m : Meta) → paired q o ≡ Some (p, m) → (q ≡ p) × (o ≡ Some (Some m))
paired_is q None p m e = none_some (p, m) e
paired_is q (Some None) p m e = none_some (p, m) e
paired_is q (Some (Some k)) p m e = (ap (λ (o : Option (Path × Meta)). (unwrap_or o (p, m)).0) e, ap (λ (o : Option (Path × Meta)). Some (Some (unwrap_or o (p, m)).1)) e)

cond_is : {A : Type 0} (b : Bool) (x y : A) → cond b (Some x) None ≡ Some y → (b ≡ true) × (x ≡ y)
cond_is true x y e = (refl, ap (λ o. unwrap_or o x) e)
cond_is false x y e = none_some y e

module _ (c : Content) where
  pub meta_of : (ps : List Path) (p : Path) (m : Meta) → Among (p, m) (with_meta c ps) → Among p ps × (c.meta p ≡ Some (Some m))
  meta_of ps p m a =
      let (q, among, e) = made (λ q. paired q (c.meta q)) (p, m) ps a in
      let both = paired_is q (c.meta q) p m e in
      (subst (λ x. Among x ps) both.0 among, subst (λ x. c.meta x ≡ Some (Some m)) both.0 both.1)

  pub meta_for : (ps : List Path) (p : Path) (m : Meta) → Among p ps → c.meta p ≡ Some (Some m) → Among (p, m) (with_meta c ps)
  meta_for ps p m a e = makes (λ q. paired q (c.meta q)) (p, m) ps p a (ap (paired p) e)

  -- a path of a name that the folder holds
  abbrev pub IsHeld : Subtree → Path → Type 0
  IsHeld f q = (name : Path) × HoldsName c f name × (q ≡ join f name)

  pub held_of : (f : Subtree) (q : Path) → Among q (paths_in c f) → IsHeld f q
  held_of f q a =
      let (name, among, e) = made (path_of f) q (names_held (c.held f)) a in
      let both = cond_is (is_fit f name) (join f name) q e in
      (name, record { held = among; fits = both.0 }, sym both.1)

  pub held_for : (f : Subtree) (name : Path) → HoldsName c f name → Among (join f name) (paths_in c f)
  held_for f name h = makes (path_of f) (join f name) (names_held (c.held f)) name h.held (ap (λ b. cond b (Some (join f name)) None) h.fits)

  pub folder_of : (ps : List Path) (f : Subtree) → Among f (folders (with_meta c ps)) → (q : Path) × Among q ps × IsFolder c q × (f ≡ Below q)
  folder_of ps f a =
      let (e, among, is) = made folder_at f (with_meta c ps) a in
      let both = cond_is (is_folder e.1) (Below e.0) f is in
      let there = meta_of ps e.0 e.1 among in
      (e.0, there.0, record { meta = e.1; there = there.1; kind = both.0 }, sym both.1)

  pub folder_for : (ps : List Path) (q : Path) → Among q ps → IsFolder c q → Among (Below q) (folders (with_meta c ps))
  folder_for ps q a f = makes folder_at (Below q) (with_meta c ps) (q, f.meta) (meta_for ps q f.meta a f.there) (ap (λ b. cond b (Some (Below q)) None) f.kind)

  -- ---- all levels

  -- from q a walk of fewer than n names leads to p, or q is p
  abbrev pub Reach : ℕ → Path → Path → Meta → Type 0
  Reach n q p m = ((q ≡ p) × (c.meta q ≡ Some (Some m))) ⊎ (IsFolder c q × (names : List Path) × (length names < n) × IsWalk c (Below q) names p m)

  abbrev pub Walked : ℕ → Subtree → Path → Meta → Type 0
  Walked n f p m = (names : List Path) × (length names < n) × IsWalk c f names p m

  extend : (n : ℕ) (f : Subtree) (name q p : Path) (m : Meta) → HoldsName c f name → q ≡ join f name → 0 < n → Reach n q p m → Walked (suc n) f p m
  extend n f name q p m h e pos (inl (s, t)) = (name ∷ [], omega arith, (h, sym s ∙ e, subst (λ x. c.meta x ≡ Some (Some m)) s t))
  extend n f name q p m h e pos (inr (fo, [], l, w)) = absurd w
  extend n f name q p m h e pos (inr (fo, x ∷ xs, l, w)) = (name ∷ x ∷ xs, omega arith, (h, subst (IsFolder c) e fo, subst (λ y. IsWalk c (Below y) (x ∷ xs) p m) e w))

  some_levels : (n : ℕ) (ps : List Path) (x : Path × Meta) → Among x (levels c n ps) → 0 < n
  some_levels zero ps x a = absurd a
  some_levels (suc n) ps x a = omega arith

  abbrev pub Reached : ℕ → List Path → Path → Meta → Type 0
  Reached n ps p m = (q : Path) × Among q ps × Reach n q p m

  below_level : (n : ℕ) (ps : List Path) (p : Path) (m : Meta) → 0 < n → Reached n (next_level c ps) p m → Reached (suc n) ps p m
  below_level n ps p m pos (q, a, r) =
      let (f, among, held) = gathered (paths_in c) q (folders (with_meta c ps)) a in
      let (top, there, fo, is) = folder_of ps f among in
      let (name, holds, e) = held_of f q held in
      let walked = subst (λ g. Walked (suc n) g p m) is (extend n f name q p m holds e pos r) in
      (top, there, inr (fo, walked.0, walked.1, walked.2))

  here_or_below : (n : ℕ) (ps : List Path) (p : Path) (m : Meta) → (Among (p, m) (levels c n (next_level c ps)) → Reached n (next_level c ps) p m) → Among (p, m) (with_meta c ps) ⊎ Among (p, m) (levels c n (next_level c ps)) → Reached (suc n) ps p m
  here_or_below n ps p m rest (inl a) = let there = meta_of ps p m a in (p, there.0, inl (refl, there.1))
  here_or_below n ps p m rest (inr a) = below_level n ps p m (some_levels n (next_level c ps) (p, m) a) (rest a)

  pub reached : (n : ℕ) (ps : List Path) (p : Path) (m : Meta) → Among (p, m) (levels c n ps) → Reached n ps p m
  reached zero ps p m a = absurd a
  reached (suc n) ps p m a = here_or_below n ps p m (reached n (next_level c ps) p m) (among_either (p, m) (with_meta c ps) (levels c n (next_level c ps)) a)

  pub next_for : (ps : List Path) (q name : Path) → Among q ps → IsFolder c q → HoldsName c (Below q) name → Among (join (Below q) name) (next_level c ps)
  next_for ps q name a fo h = gathers (paths_in c) (join (Below q) name) (folders (with_meta c ps)) (Below q) (folder_for ps q a fo) (held_for (Below q) name h)

  pub reaches : (n : ℕ) (ps : List Path) (p : Path) (m : Meta) (q : Path) → 0 < n → Among q ps → Reach n q p m → Among (p, m) (levels c n ps)
  reaches zero ps p m q pos a r = absurd (omega arith)
  reaches (suc n) ps p m q pos a (inl (s, t)) = among_left (p, m) (with_meta c ps) (levels c n (next_level c ps)) (meta_for ps p m (subst (λ x. Among x ps) s a) (subst (λ x. c.meta x ≡ Some (Some m)) s t))
  reaches (suc n) ps p m q pos a (inr (fo, [], l, w)) = absurd w
  reaches (suc n) ps p m q pos a (inr (fo, x ∷ [], l, (h, e, t))) =
      among_right (p, m) (with_meta c ps) (levels c n (next_level c ps)) (reaches n (next_level c ps) p m (join (Below q) x) (omega arith) (next_for ps q x a fo h) (inl (sym e, subst (λ y. c.meta y ≡ Some (Some m)) e t)))
  reaches (suc n) ps p m q pos a (inr (fo, x ∷ y ∷ ys, l, (h, g, w))) =
      among_right (p, m) (with_meta c ps) (levels c n (next_level c ps)) (reaches n (next_level c ps) p m (join (Below q) x) (omega arith) (next_for ps q x a fo h) (inr (g, y ∷ ys, omega arith, w)))

  -- ---- a walk is no longer than its path

  abbrev pub size : Subtree → ℕ
  size Whole = 0
  size (Below f) = length f

  true_parts : (a b : Bool) → (a && b) ≡ true → (a ≡ true) × (b ≡ true)
  true_parts true b e = (refl, e)
  true_parts false b e = absurd (true≢false (sym e))

  longer : (f : Subtree) (name : Path) → is_fit f name ≡ true → size f < length (join f name)
  longer Whole [] e = absurd (true≢false (sym e))
  longer Whole (b ∷ bs) e = omega arith
  longer (Below f) name e = omega (arith, length-append f (47 ∷ name))

  short : (f : Subtree) (name : Path) → is_fit f name ≡ true → length (join f name) ≤ 1024
  short f name e = leb-true (length (join f name)) 1024 (true_parts (nat_le (length (join f name)) 1024) _ (true_parts (list_all (λ b. not (b == 47)) name) _ e).1).0

  -- names walked down from a folder, wherever the last leads
  abbrev pub Led : Subtree → List Path → Path → Type 0
  Led f [] p = ⊥
  Led f (x ∷ []) p = HoldsName c f x × (p ≡ join f x)
  Led f (x ∷ y ∷ ys) p = HoldsName c f x × IsFolder c (join f x) × Led (Below (join f x)) (y ∷ ys) p

  pub led : (f : Subtree) (names : List Path) (p : Path) (m : Meta) → IsWalk c f names p m → Led f names p
  led f [] p m w = absurd w
  led f (x ∷ []) p m (h, e, t) = (h, e)
  led f (x ∷ y ∷ ys) p m (h, g, w) = (h, g, led (Below (join f x)) (y ∷ ys) p m w)

  led_short : (f : Subtree) (names : List Path) (p : Path) → Led f names p → length p ≤ 1024
  led_short f [] p w = absurd w
  led_short f (x ∷ []) p (h, e) = subst (λ y. length y ≤ 1024) (sym e) (short f x h.fits)
  led_short f (x ∷ y ∷ ys) p (h, g, w) = led_short (Below (join f x)) (y ∷ ys) p w

  led_long : (f : Subtree) (names : List Path) (p : Path) → Led f names p → size f + length names ≤ length p
  led_long f [] p w = absurd w
  led_long f (x ∷ []) p (h, e) = let l : size f < length (join f x) = longer f x h.fits in subst (λ y. size f + 1 ≤ length y) (sym e) (omega arith)
  led_long f (x ∷ y ∷ ys) p (h, g, w) =
      let l : size f < length (join f x) = longer f x h.fits in
      let r : length (join f x) + length (y ∷ ys) ≤ length p = led_long (Below (join f x)) (y ∷ ys) p w in
      omega arith

  -- behind the first name there are fewer names than a path may have bytes
  pub led_few : (f : Subtree) (x y : Path) (ys : List Path) (p : Path) → HoldsName c f x → Led (Below (join f x)) (y ∷ ys) p → length (y ∷ ys) < 1024
  led_few f x y ys p h w =
      let l : length (join f x) + length (y ∷ ys) ≤ length p = led_long (Below (join f x)) (y ∷ ys) p w in
      let s : length p ≤ 1024 = led_short (Below (join f x)) (y ∷ ys) p w in
      let z : size f < length (join f x) = longer f x h.fits in
      omega arith

  -- ---- from the top

  pub found_below : (top : Subtree) (p : Path) (m : Meta) → Among (p, m) (levels c 1024 (paths_in c top)) → IsBelow c top p m
  found_below top p m a =
      let (q, among, r) = reached 1024 (paths_in c top) p m a in
      let (name, holds, e) = held_of top q among in
      let (names, l, w) = extend 1024 top name q p m holds e (omega arith) r in
      (names, w)

  pub below_found : (top : Subtree) (p : Path) (m : Meta) → IsBelow c top p m → Among (p, m) (levels c 1024 (paths_in c top))
  below_found top p m ([], w) = absurd w
  below_found top p m (x ∷ [], (h, e, t)) = reaches 1024 (paths_in c top) p m (join top x) (omega arith) (held_for top x h) (inl (sym e, subst (λ y. c.meta y ≡ Some (Some m)) e t))
  below_found top p m (x ∷ y ∷ ys, (h, g, w)) =
      reaches 1024 (paths_in c top) p m (join top x) (omega arith) (held_for top x h) (inr (g, y ∷ ys, led_few top x y ys p h (led (Below (join top x)) (y ∷ ys) p m w), w))

  pub found_meta : (top : Subtree) (p : Path) (m : Meta) → IsBelow c top p m → c.meta p ≡ Some (Some m)
  found_meta top p m ([], w) = absurd w
  found_meta top p m (x ∷ [], (h, e, t)) = t
  found_meta top p m (x ∷ y ∷ ys, (h, g, w)) = found_meta (Below (join top x)) p m (y ∷ ys, w)
