-- One turn of the loops over pairs, over what was read, and over the states.
use Rattle.std.proofs.Common.{◌≡◌, List, ◌∷◌, [], T, Bool, true, false, cond, Option, Some, None, IsSome, is_some, unwrap_or, option_map, refl, sym, ap, subst, ◌∙◌, true≢false}
use Rattle.std.specs.Ordering.{is_lt, is_eq}
use Rattle.std.specs.BTreeMap.{is_at}
use Rattle.std.specs.FinMap.{find}
use Rattle.std.specs.List.{AllByRecursion}
use Rattle.std.specs.List.Sorted.{IsStrictlySortedBy}
use Rattle.std.specs.Map.{keys_of, lookup}
use Rattle.std.specs.Option.{option_or}
use Rattle.std.specs.declared.cmp.Ordering.{Ordering}
use Rattle.std.specs.declared.cmp.Ordering.TheVariants.{Less}
use Rattle.std.proofs.lemmas.Map.Keys.{sorted_head}
use Rattle.wm_names.specs.Paths.{Path, path_cmp, same_path}
use Rattle.wm_names.specs.declared.entry.Meta.{Meta}
use Rattle.wm_view.specs.HistoryLaws.{last_told}
use Rattle.wm_view.specs.laws.PathSets.{same→≡}

turn : (p q : Path) → p ≡ q → same_path p q ≡ same_path q p
turn p q e = λ i. same_path (e i) (sym e i)

pub same_swap : (p q : Path) → same_path p q ≡ same_path q p
same_swap p q =
    elim (same_path p q) as (λ b. same_path p q ≡ b → b ≡ same_path q p) [
      | true ↦ λ e. sym e ∙ turn p q (same→≡ p q e)
      | false ↦ λ e. elim (same_path q p) as (λ b. same_path q p ≡ b → false ≡ b) [
        | true ↦ λ f. absurd (true≢false (sym f ∙ turn q p (same→≡ q p f) ∙ e))
        | false ↦ λ _. refl
      ] refl
    ] refl

-- a look-up is a find
pub lookup_finds : {V : Type 0} (p : Path) (es : List (Path × V)) → lookup (is_at (path_cmp p)) es ≡ find path_cmp p es
lookup_finds p [] = refl
lookup_finds p (e ∷ es) = ap (cond (same_path p e.0) (Some e.1)) (lookup_finds p es)

-- what pairs leave, once the first of them is noted
pub told_turn : (told : List (Path × Option Meta)) (new : List (Path × Option Meta)) (x : Path × Option Meta) (rest : List (Path × Option Meta)) (p : Path) (old : Option Meta)
    → lookup (is_at (path_cmp p)) new ≡ cond (is_at (path_cmp x.0) p) (Some x.1) (lookup (is_at (path_cmp p)) told)
    → last_told rest p (unwrap_or (lookup (is_at (path_cmp p)) new) old) ≡ last_told (x ∷ rest) p (unwrap_or (lookup (is_at (path_cmp p)) told) old)
told_turn told new x rest p old e =
    ap (λ o. last_told rest p (unwrap_or o old)) e
    ∙ ap (λ b. last_told rest p (unwrap_or (cond b (Some x.1) (lookup (is_at (path_cmp p)) told)) old)) (same_swap x.0 p)
    ∙ elim (same_path p x.0) as (λ b. last_told rest p (unwrap_or (cond b (Some x.1) (lookup (is_at (path_cmp p)) told)) old) ≡ last_told rest p (cond b x.1 (unwrap_or (lookup (is_at (path_cmp p)) told) old))) [ true ↦ refl | false ↦ refl ]

-- ---- what was read, once the first of it is added where no state is there

abbrev pub left_to_add : Option (Option Meta) → Option Meta → Option (Option Meta)
left_to_add has o = option_or has (option_map Some o)

-- a state is there
pub add_not : (has : Path → Option (Option Meta)) (x : Path × Meta) (rest : List (Path × Meta)) (p : Path) → is_some (has x.0) ≡ true
    → left_to_add (has p) (find path_cmp p rest) ≡ left_to_add (has p) (find path_cmp p (x ∷ rest))
add_not has x rest p there =
    elim (same_path p x.0) as (λ b. same_path p x.0 ≡ b → left_to_add (has p) (find path_cmp p rest) ≡ left_to_add (has p) (cond b (Some x.1) (find path_cmp p rest))) [
      | true ↦ λ same. covered (has p) (ap (λ q. is_some (has q)) (same→≡ p x.0 same) ∙ there) (find path_cmp p rest) (Some x.1)
      | false ↦ λ _. refl
    ] refl
  where
    covered : (o : Option (Option Meta)) → is_some o ≡ true → (a b : Option Meta) → left_to_add o a ≡ left_to_add o b
    covered (Some s) e a b = refl
    covered None e a b = absurd (true≢false (sym e))

-- none is there, and it is added
pub add_one : (has new : Path → Option (Option Meta)) (x : Path × Meta) (rest : List (Path × Meta)) (p : Path) → has x.0 ≡ None
    → new p ≡ cond (is_at (path_cmp x.0) p) (Some (Some x.1)) (has p)
    → left_to_add (new p) (find path_cmp p rest) ≡ left_to_add (has p) (find path_cmp p (x ∷ rest))
add_one has new x rest p none is =
    ap (λ o. left_to_add o (find path_cmp p rest)) (is ∙ ap (λ b. cond b (Some (Some x.1)) (has p)) (same_swap x.0 p))
    ∙ elim (same_path p x.0) as (λ b. same_path p x.0 ≡ b → left_to_add (cond b (Some (Some x.1)) (has p)) (find path_cmp p rest) ≡ left_to_add (has p) (cond b (Some x.1) (find path_cmp p rest))) [
      | true ↦ λ same. sym (ap (λ o. left_to_add o (Some x.1)) (ap has (same→≡ p x.0 same) ∙ none))
      | false ↦ λ _. refl
    ] refl

pub none_is : {A : Type 0} (o : Option A) → false ≡ is_some o → o ≡ None
none_is None e = refl
none_is (Some a) e = absurd (true≢false (sym e))

-- ---- a path that is added to a listing

-- the path stands outside the part
pub outside : (inside : Path → Bool) (files : Option Meta) (q p : Path) (meta : Meta) → inside q ≡ false → inside p ≡ true → files ≡ option_or files (cond (same_path p q) (Some meta) None)
outside inside files q p meta out within =
    elim (same_path p q) as (λ b. same_path p q ≡ b → files ≡ option_or files (cond b (Some meta) None)) [
      | true ↦ λ same. absurd (true≢false (sym within ∙ ap inside (same→≡ p q same) ∙ out))
      | false ↦ λ _. or_none files
    ] refl
  where
    or_none : (o : Option Meta) → o ≡ option_or o None
    or_none None = refl
    or_none (Some m) = refl

-- it is there already
pub there : (files : Path → Option Meta) (q p : Path) (meta : Meta) → IsSome (files q) → files p ≡ option_or (files p) (cond (same_path p q) (Some meta) None)
there files q p meta is =
    elim (same_path p q) as (λ b. same_path p q ≡ b → files p ≡ option_or (files p) (cond b (Some meta) None)) [
      | true ↦ λ same. kept (files p) (subst (λ r. IsSome (files r)) (sym (same→≡ p q same)) is) (Some meta)
      | false ↦ λ _. or_none (files p)
    ] refl
  where
    or_none : (o : Option Meta) → o ≡ option_or o None
    or_none None = refl
    or_none (Some m) = refl

    kept : (o : Option Meta) → IsSome o → (x : Option Meta) → o ≡ option_or o x
    kept (Some m) s x = refl
    kept None s x = absurd (true≢false (sym s))

-- it is new
pub came : (files : Path → Option Meta) (new : Option Meta) (q p : Path) (meta : Meta) → files q ≡ None → new ≡ cond (same_path p q) (Some meta) (files p)
    → new ≡ option_or (files p) (cond (same_path p q) (Some meta) None)
came files new q p meta none is =
    is ∙ elim (same_path p q) as (λ b. same_path p q ≡ b → cond b (Some meta) (files p) ≡ option_or (files p) (cond b (Some meta) None)) [
      | true ↦ λ same. sym (ap (λ o. option_or o (Some meta)) (ap files (same→≡ p q same) ∙ none))
      | false ↦ λ _. or_none (files p)
    ] refl
  where
    or_none : (o : Option Meta) → o ≡ option_or o None
    or_none None = refl
    or_none (Some m) = refl

-- ---- what is left to be listed

abbrev pub to_list : Option (Option Meta) → Option Meta
to_list o = unwrap_or o None

pub gone_turn : (x : Path × Option Meta) (rest : List (Path × Option Meta)) (p : Path) (files : Option Meta) → IsStrictlySortedBy path_cmp (keys_of (x ∷ rest)) → x.1 ≡ None
    → option_or files (to_list (find path_cmp p rest)) ≡ option_or files (to_list (find path_cmp p (x ∷ rest)))
gone_turn x rest p files s none =
    elim (same_path p x.0) as (λ b. same_path p x.0 ≡ b → option_or files (to_list (find path_cmp p rest)) ≡ option_or files (to_list (cond b (Some x.1) (find path_cmp p rest)))) [
      | true ↦ λ same. ap (λ o. option_or files (to_list o)) (ap (λ r. find path_cmp r rest) (same→≡ p x.0 same) ∙ not_found x.0 rest (sorted_head path_cmp x.0 (keys_of rest) s)) ∙ ap (option_or files) (sym none)
      | false ↦ λ _. refl
    ] refl
  where
    not_found : (q : Path) (es : List (Path × Option Meta)) → AllByRecursion (λ k. path_cmp q k ≡ Less) (keys_of es) → find path_cmp q es ≡ None
    not_found q [] h = refl
    not_found q (e ∷ es) h = ap (λ o. cond (is_eq o) (Some e.1) (find path_cmp q es)) h.0 ∙ not_found q es h.1

pub listed_turn : (x : Path × Option Meta) (meta : Meta) (rest : List (Path × Option Meta)) (p : Path) (files new : Option Meta) → x.1 ≡ Some meta
    → new ≡ option_or files (cond (same_path p x.0) (Some meta) None)
    → option_or new (to_list (find path_cmp p rest)) ≡ option_or files (to_list (find path_cmp p (x ∷ rest)))
listed_turn x meta rest p files new is came =
    ap (λ o. option_or o (to_list (find path_cmp p rest))) came
    ∙ elim (same_path p x.0) as (λ b. option_or (option_or files (cond b (Some meta) None)) (to_list (find path_cmp p rest)) ≡ option_or files (to_list (cond b (Some x.1) (find path_cmp p rest)))) [
      | true ↦ first files (to_list (find path_cmp p rest)) ∙ ap (option_or files) (sym is)
      | false ↦ second files (to_list (find path_cmp p rest))
    ]
  where
    first : (o r : Option Meta) → option_or (option_or o (Some meta)) r ≡ option_or o (Some meta)
    first None r = refl
    first (Some m) r = refl

    second : (o r : Option Meta) → option_or (option_or o None) r ≡ option_or o r
    second None r = refl
    second (Some m) r = refl
