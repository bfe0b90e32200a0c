-- Reading a line part by part.
use Rattle.std.proofs.Common.{◌≡◌, ◌≢◌, ℕ, ◌+◌, ◌-◌, ◌<◌, ◌≤◌, min, List, [], ◌∷◌, ◌++◌, length, take, drop, Bool, true, false, cond, Option, Some, None, refl, sym, ap, ◌∙◌, subst, arith, inl, inr, append_assoc, lit<}
use Rattle.std.proofs.lemmas.List.{take-append-le, drop-append-le, take-append-drop, length-take, length-take-le, append-nil, take_all, take_min, drop_all}
use Rattle.std.proofs.Math.Seq.{take-append-add}
use Rattle.std.proofs.lemmas.Bool.{cases_lt}
use Rattle.std.specs.Prelude.{IfSome, ◌==◌}
use Rattle.std.specs.Io.{StartsWith}
use Rattle.std.specs.Io.BufRead.{take_through, drop_through, DropsConsumable}
use Rattle.std.specs.Io.KnownBytes.{Keeps}
use Rattle.wm_session.specs.session.Inputs.{KeepsPart, SplitsAt, max_kept}
use Rattle.wm_session.specs.session.Reading.{TakesPart, ReadsLine}
use Rattle.wm_session.specs.declared.session.input.Part.TheVariants as part
use Rattle.wm_session.specs.declared.session.input.LineRead.TheVariants as read

-- ---- lists

-- what is kept of two parts, one kept after the other
take_kept : (n : ℕ) (xs ys : List ℕ) → take n (take n xs ++ ys) ≡ take n (xs ++ ys)
take_kept n xs ys =
    elim (cases_lt n (length xs)) [
      | inl lt ↦
          let long : length (take n xs) ≡ n = length-take-le n xs (omega arith) in
          take-append-le n (take n xs) ys (omega arith) ∙ take_all n (take n xs) (omega arith) ∙ sym (take-append-le n xs ys (omega arith))
      | inr le ↦ ap (λ (t : List ℕ). take n (t ++ ys)) (take_all n xs le)
    ]

-- what room for n bytes keeps of a part
pub kept_part : (n : ℕ) (old part : List ℕ) → length old ≤ n → old ++ take (min (n - length old) (length part)) part ≡ take n (old ++ part)
kept_part n old part h =
    let whole : length old + (n - length old) ≡ n = omega arith in
    ap (λ (t : List ℕ). old ++ t) (take_min (n - length old) part) ∙ sym (take-append-add old part (n - length old)) ∙ ap (λ (k : ℕ). take k (old ++ part)) whole

pub keeps_part : (was_lost : Bool) (old part new : List ℕ) → new ≡ take max_kept (old ++ part) → KeepsPart old part was_lost new was_lost
keeps_part true old part new e = inl refl
keeps_part false old part new e = (refl, e)

keeps_nothing : (was_lost : Bool) (old : List ℕ) → length old ≤ max_kept → KeepsPart old [] was_lost old was_lost
keeps_nothing was_lost old h = keeps_part was_lost old [] old (sym (ap (take max_kept) (append-nil old) ∙ take_all max_kept old h))

some_through : (x : ℕ) (xs : List ℕ) → take_through 10 (x ∷ xs) ≢ []
some_through x xs e = by_byte (x == 10) e
  where
    by_byte : (b : Bool) → cond b (x ∷ []) (x ∷ take_through 10 xs) ≡ [] → ⊥
    by_byte true e = absurd cc
    by_byte false e = absurd cc

-- a line with bytes comes of an input with bytes
some_input : (input : List ℕ) → take_through 10 input ≢ [] → input ≢ []
some_input [] ne e = ne refl
some_input (x ∷ xs) ne e = absurd cc

no_input : (input : List ℕ) → take_through 10 input ≡ [] → input ≡ []
no_input [] e = refl
no_input (x ∷ xs) e = absurd (some_through x xs e)

some_front : (prefix rest : List ℕ) → prefix ≢ [] → prefix ++ rest ≢ []
some_front [] rest ne e = ne refl
some_front (x ∷ prefix) rest ne e = absurd cc

some_end : (prefix rest : List ℕ) → rest ≢ [] → prefix ++ rest ≢ []
some_end [] rest ne e = ne e
some_end (x ∷ prefix) rest ne e = absurd cc

pub empty : (xs : List ℕ) → length xs ≡ 0 → xs ≡ []
empty [] e = refl
empty (x ∷ xs) e = absurd (omega arith)

pub not_empty : (xs : List ℕ) → 0 < length xs → xs ≢ []
not_empty xs some e = omega (arith, ap length e)

-- nothing is taken of nothing alone
none_taken : (n : ℕ) (xs : List ℕ) → 0 < n → take n xs ≡ [] → xs ≡ []
none_taken n [] some e = refl
none_taken n (x ∷ xs) some e = absurd (omega (arith, ap length e, length-take n (x ∷ xs)))

-- ---- a part

-- what a reader shows, what it has behind that, and what it has left once n bytes are consumed
pub record Shown (a c : Option (List ℕ)) (shown : List ℕ) (n : ℕ) (rest : List ℕ) : Type 0 where
  pub behind : List ℕ
  pub parts : rest ≡ shown ++ behind
  pub left_is : c ≡ Some (drop n shown ++ behind)

pub shown_parts : (a b c : Option (List ℕ)) (limit : Option ℕ) (shown : List ℕ) (n : ℕ) (rest : List ℕ) → a ≡ Some rest → n ≤ length shown
    → IfSome a (λ xs. StartsWith xs shown) → Keeps a b → IfSome a (λ _. IfSome limit (λ k. length shown ≤ k)) → DropsConsumable b c limit n → Shown a c shown n rest
shown_parts None b c limit shown n rest e le prefix keeps fits drops = absurd cc
shown_parts (Some xs) None c limit shown n rest e le prefix keeps fits drops = absurd keeps
shown_parts (Some xs) (Some ys) c limit shown n rest e le prefix keeps fits drops =
    let same : xs ≡ rest = cc in
    let parts : rest ≡ shown ++ drop (length shown) rest = sym (take-append-drop (length shown) rest) ∙ ap (λ (t : List ℕ). t ++ drop (length shown) rest) (ap (take (length shown)) (sym same) ∙ prefix) in
    record {
      behind = drop (length shown) rest;
      parts = parts;
      left_is = drops (room limit fits) ∙ ap (λ (t : List ℕ). Some (drop n t)) (keeps ∙ same ∙ parts) ∙ ap (λ (t : List ℕ). Some t) (drop-append-le n shown (drop (length shown) rest) le);
    }
  where
    room : (o : Option ℕ) → IfSome o (λ k. length shown ≤ k) → IfSome o (λ k. n ≤ k)
    room None h = tt
    room (Some k) h = omega arith

-- known bytes that were kept
pub kept_known : (a b : Option (List ℕ)) (rest : List ℕ) → a ≡ Some rest → Keeps a b → b ≡ Some rest
kept_known None b rest e keeps = absurd cc
kept_known (Some xs) None rest e keeps = absurd keeps
kept_known (Some xs) (Some ys) rest e keeps = let same : xs ≡ rest = cc in ap (λ (t : List ℕ). Some t) (keeps ∙ same)

-- no part
pub nothing_taken : (line : List ℕ) (was_lost : Bool) (left : Option (List ℕ)) (rest : List ℕ) → length line ≤ max_kept → left ≡ Some rest → TakesPart rest part.Open (line, was_lost) (line, was_lost) left
nothing_taken line was_lost left rest h e = record { prefix = []; behind = rest; left_is = e; takes = (refl, refl); kept = keeps_nothing was_lost line h }

pub end_taken : (line : List ℕ) (was_lost : Bool) (left : Option (List ℕ)) (rest : List ℕ) → length line ≤ max_kept → left ≡ Some rest → rest ≡ [] → TakesPart rest part.End (line, was_lost) (line, was_lost) left
end_taken line was_lost left rest h e none = record { prefix = []; behind = []; left_is = e ∙ ap (λ (t : List ℕ). Some t) none; takes = (refl, none, refl); kept = keeps_nothing was_lost line h }

take_some : (n : ℕ) (xs : List ℕ) → 0 < n → n ≤ length xs → take n xs ≢ []
take_some n xs some le e = omega (arith, ap length e, length-take-le n xs le)

pub closed_taken : (line new : List ℕ) (was_lost is_lost : Bool) (a left : Option (List ℕ)) (shown : List ℕ) (n : ℕ) (rest : List ℕ) → n ≤ length shown → Shown a left shown n rest → SplitsAt shown n true
    → KeepsPart line (take n shown) was_lost new is_lost → TakesPart rest part.Closed (line, was_lost) (new, is_lost) left
closed_taken line new was_lost is_lost a left shown n rest le s splits kept =
    let at = splits.1 s.behind in
    record {
      prefix = take n shown;
      behind = drop n shown ++ s.behind;
      left_is = s.left_is;
      takes = (take_some n shown splits.0 le, ap (take_through 10) s.parts ∙ at.0, ap (drop_through 10) s.parts ∙ at.1);
      kept = kept;
    }

pub open_taken : (line new : List ℕ) (was_lost is_lost : Bool) (a left : Option (List ℕ)) (shown : List ℕ) (n : ℕ) (rest : List ℕ) → Shown a left shown n rest → SplitsAt shown n false
    → KeepsPart line (take n shown) was_lost new is_lost → TakesPart rest part.Open (line, was_lost) (new, is_lost) left
open_taken line new was_lost is_lost a left shown n rest s splits kept =
    let at = splits.1 s.behind in
    let whole : take n shown ≡ shown = take_all n shown (omega (arith, splits.0)) in
    let none : drop n shown ≡ [] = drop_all n shown (omega (arith, splits.0)) in
    record {
      prefix = shown;
      behind = s.behind;
      left_is = s.left_is ∙ ap (λ (t : List ℕ). Some (t ++ s.behind)) none;
      takes = (ap (take_through 10) s.parts ∙ at.0, ap (drop_through 10) s.parts ∙ at.1);
      kept = subst (λ (t : List ℕ). KeepsPart line t was_lost new is_lost) whole kept;
    }

-- ---- a line

-- what has been taken of a line so far, and kept
pub record Reading (input : List ℕ) (left : Option (List ℕ)) (line : List ℕ) (is_lost : Bool) : Type 0 where
  pub done : List ℕ
  pub now : List ℕ
  pub left_is : left ≡ Some now
  pub prefix_is : take_through 10 input ≡ done ++ take_through 10 now
  pub behind_is : drop_through 10 input ≡ drop_through 10 now
  pub kept : is_lost ≡ false → line ≡ take max_kept done
  pub lost : is_lost ≡ true → done ≢ []

pub reading : (input : List ℕ) (left : Option (List ℕ)) → left ≡ Some input → Reading input left [] false
reading input left e = record { done = []; now = input; left_is = e; prefix_is = refl; behind_is = refl; kept = λ p. refl; lost = λ p. absurd cc }

still_kept : (old part new done : List ℕ) (was_lost is_lost : Bool) → KeepsPart old part was_lost new is_lost → (was_lost ≡ false → old ≡ take max_kept done) → is_lost ≡ false → new ≡ take max_kept (done ++ part)
still_kept old part new done was_lost true k kept e = absurd cc
still_kept old part new done was_lost false k kept e = k.1 ∙ ap (λ (t : List ℕ). take max_kept (t ++ part)) (kept k.0) ∙ take_kept max_kept done part

some_lost : (old part new done : List ℕ) (was_lost is_lost : Bool) → KeepsPart old part was_lost new is_lost → (was_lost ≡ true → done ≢ []) → is_lost ≡ true → done ++ part ≢ []
some_lost old part new done was_lost false k lost e = absurd cc
some_lost old part new done was_lost true (inl was) lost e = some_front done part (lost was)
some_lost old part new done was_lost true (inr some) lost e = some_end done part some

pub went_on : (input : List ℕ) (left left' : Option (List ℕ)) (line new : List ℕ) (was_lost is_lost : Bool) → Reading input left line was_lost
    → ((rest : List ℕ) → left ≡ Some rest → TakesPart rest part.Open (line, was_lost) (new, is_lost) left') → Reading input left' new is_lost
went_on input left left' line new was_lost is_lost r takes =
    let t = takes r.now r.left_is in
    record {
      done = r.done ++ t.prefix;
      now = t.behind;
      left_is = t.left_is;
      prefix_is = r.prefix_is ∙ ap (λ (x : List ℕ). r.done ++ x) t.takes.0 ∙ sym (append_assoc r.done t.prefix (take_through 10 t.behind));
      behind_is = r.behind_is ∙ t.takes.1;
      kept = still_kept line t.prefix new r.done was_lost is_lost t.kept r.kept;
      lost = some_lost line t.prefix new r.done was_lost is_lost t.kept r.lost;
    }

-- the line is taken whole
record Taken (input : List ℕ) (left : Option (List ℕ)) (line : List ℕ) (is_lost : Bool) (done : List ℕ) : Type 0 where
  pub prefix_is : take_through 10 input ≡ done
  pub left_is : left ≡ Some (drop_through 10 input)
  pub kept : is_lost ≡ false → line ≡ take max_kept done
  pub lost : is_lost ≡ true → done ≢ []

closed : (input : List ℕ) (left left' : Option (List ℕ)) (line new : List ℕ) (was_lost is_lost : Bool) → (r : Reading input left line was_lost)
    → (t : TakesPart r.now part.Closed (line, was_lost) (new, is_lost) left') → Taken input left' new is_lost (r.done ++ t.prefix)
closed input left left' line new was_lost is_lost r t = record {
  prefix_is = r.prefix_is ∙ ap (λ (x : List ℕ). r.done ++ x) t.takes.1;
  left_is = t.left_is ∙ ap (λ (x : List ℕ). Some x) (sym (r.behind_is ∙ t.takes.2));
  kept = still_kept line t.prefix new r.done was_lost is_lost t.kept r.kept;
  lost = some_lost line t.prefix new r.done was_lost is_lost t.kept r.lost;
}

ended : (input : List ℕ) (left left' : Option (List ℕ)) (line new : List ℕ) (was_lost is_lost : Bool) → (r : Reading input left line was_lost)
    → (t : TakesPart r.now part.End (line, was_lost) (new, is_lost) left') → Taken input left' new is_lost (r.done ++ t.prefix)
ended input left left' line new was_lost is_lost r t = record {
  prefix_is = r.prefix_is ∙ ap (λ (x : List ℕ). r.done ++ take_through 10 x) t.takes.1 ∙ ap (λ (x : List ℕ). r.done ++ x) (sym t.takes.0);
  left_is = t.left_is ∙ ap (λ (x : List ℕ). Some x) (t.takes.2 ∙ sym (r.behind_is ∙ ap (drop_through 10) t.takes.1));
  kept = still_kept line t.prefix new r.done was_lost is_lost t.kept r.kept;
  lost = some_lost line t.prefix new r.done was_lost is_lost t.kept r.lost;
}

pub closed_kept : (input : List ℕ) (left left' : Option (List ℕ)) (line new : List ℕ) (was_lost is_lost : Bool) → Reading input left line was_lost
    → ((rest : List ℕ) → left ≡ Some rest → TakesPart rest part.Closed (line, was_lost) (new, is_lost) left') → is_lost ≡ false → ReadsLine input read.Kept new left'
closed_kept input left left' line new was_lost is_lost r takes e =
    let t = takes r.now r.left_is in
    let c = closed input left left' line new was_lost is_lost r t in
    (some_input input (λ none. some_end r.done t.prefix t.takes.0 (sym c.prefix_is ∙ none)), c.kept e ∙ ap (take max_kept) (sym c.prefix_is), c.left_is)

pub closed_lost : (input : List ℕ) (left left' : Option (List ℕ)) (line new : List ℕ) (was_lost is_lost : Bool) → Reading input left line was_lost
    → ((rest : List ℕ) → left ≡ Some rest → TakesPart rest part.Closed (line, was_lost) (new, is_lost) left') → ReadsLine input read.Lost new left'
closed_lost input left left' line new was_lost is_lost r takes =
    let t = takes r.now r.left_is in
    let c = closed input left left' line new was_lost is_lost r t in
    (some_input input (λ none. some_end r.done t.prefix t.takes.0 (sym c.prefix_is ∙ none)), c.left_is)

pub ended_lost : (input : List ℕ) (left left' : Option (List ℕ)) (line new : List ℕ) (was_lost is_lost : Bool) → Reading input left line was_lost
    → ((rest : List ℕ) → left ≡ Some rest → TakesPart rest part.End (line, was_lost) (new, is_lost) left') → is_lost ≡ true → ReadsLine input read.Lost new left'
ended_lost input left left' line new was_lost is_lost r takes e =
    let t = takes r.now r.left_is in
    let c = ended input left left' line new was_lost is_lost r t in
    (some_input input (λ none. c.lost e (sym c.prefix_is ∙ none)), c.left_is)

pub ended_kept : (input : List ℕ) (left left' : Option (List ℕ)) (line new : List ℕ) (was_lost is_lost : Bool) → Reading input left line was_lost
    → ((rest : List ℕ) → left ≡ Some rest → TakesPart rest part.End (line, was_lost) (new, is_lost) left') → is_lost ≡ false → new ≢ [] → ReadsLine input read.Kept new left'
ended_kept input left left' line new was_lost is_lost r takes e some =
    let t = takes r.now r.left_is in
    let c = ended input left left' line new was_lost is_lost r t in
    let kept : new ≡ take max_kept (take_through 10 input) = c.kept e ∙ ap (take max_kept) (sym c.prefix_is) in
    (some_input input (λ none. some (kept ∙ ap (take max_kept) none)), kept, c.left_is)

pub ended_none : (input : List ℕ) (left left' : Option (List ℕ)) (line new : List ℕ) (was_lost is_lost : Bool) → Reading input left line was_lost
    → ((rest : List ℕ) → left ≡ Some rest → TakesPart rest part.End (line, was_lost) (new, is_lost) left') → is_lost ≡ false → new ≡ [] → ReadsLine input read.End new left'
ended_none input left left' line new was_lost is_lost r takes e none =
    let t = takes r.now r.left_is in
    let c = ended input left left' line new was_lost is_lost r t in
    let empty : take max_kept (take_through 10 input) ≡ [] = ap (take max_kept) c.prefix_is ∙ sym (c.kept e) ∙ none in
    no_input input (none_taken max_kept (take_through 10 input) (lit< tt) empty)
