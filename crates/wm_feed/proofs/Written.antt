-- Records that are written are read as what was written.
use Rattle.std.proofs.Common.{◌≡◌, ◌+◌, ◌-◌, ◌<◌, ◌==◌, ℕ, suc, Bool, true, false, not, [], ◌∷◌, ◌++◌, length, take, drop, refl, sym, ap, ap₂, ◌∙◌, arith, add-one, drop-cons, eqb-true, get_or, Some, length-append}
use Rattle.std.specs.Prelude.{◌&&◌, ◌^◌, Option, None, option_map}
use Rattle.std.specs.Fmt.{decimal}
use Rattle.std.specs.Cmp.{tied_itself}
use Rattle.std.specs.Cmp.Lexicographic.{nat_list_cmp_total}
use Rattle.std.specs.List.{position, position_or_len}
use Rattle.std.specs.Ordering.{is_eq}
use Rattle.std.specs.Str.{bytes_eq}
use Rattle.std.proofs.lemmas.Bool.{lt-ltb}
use Rattle.std.proofs.lemmas.List.{take-append-drop}
use Rattle.std.proofs.lemmas.List.Quantifiers.{position-Some}
use Rattle.std.proofs.lemmas.Map.Text.{is_eq-slice_cmp}
use Rattle.wm_feed.specs.Records.{Bytes, behind_root, below_of, cut_of, of_record, with_cookie, with_events, with_folder, with_name, without_last_slash}
use Rattle.wm_feed.specs.Laws.{EntryIsTold, LostIsDoubted, WrittenIsRead, folder_path, no_zero}
use Rattle.wm_feed.specs.Numbers.{numbered}
use Rattle.wm_feed.proofs.Numerals.{no_zero_decimal}

and_left : (a b : Bool) → (a && b) ≡ true → a ≡ true
and_left true b h = refl
and_left false b h = h

and_right : (a b : Bool) → (a && b) ≡ true → b ≡ true
and_right true b h = h
and_right false b h = cc

-- the first zero stands behind bytes without one
first_at : (xs ys : Bytes) → no_zero xs ≡ true → position_or_len (λ b. b == 0) (xs ++ 0 ∷ ys) ≡ length xs
first_at [] ys h = refl
first_at (x ∷ xs) ys h =
    let here : not (x == 0) ≡ true = and_left (not (x == 0)) (no_zero xs) h in
    let rest : position_or_len (λ b. b == 0) (xs ++ 0 ∷ ys) ≡ length xs = first_at xs ys (and_right (not (x == 0)) (no_zero xs) h) in
    let more : 1 + length xs ≡ suc (length xs) = omega arith in
    rw (here, rest) more

take_all : (xs ys : Bytes) → take (length xs) (xs ++ ys) ≡ xs
take_all [] ys = refl
take_all (x ∷ xs) ys = ap (λ (l : Bytes). x ∷ l) (take_all xs ys)

drop_all : (xs ys : Bytes) → drop (length xs) (xs ++ ys) ≡ ys
drop_all [] ys = refl
drop_all (x ∷ xs) ys = drop_all xs ys

drop_behind : (xs ys : Bytes) (y : ℕ) → drop (length xs + 1) (xs ++ y ∷ ys) ≡ ys
drop_behind [] ys y = refl
drop_behind (x ∷ xs) ys y =
    let more : suc (length xs) + 1 ≡ suc (length xs + 1) = omega arith in
    ap (λ (k : ℕ). drop k (x ∷ (xs ++ y ∷ ys))) more ∙ drop_behind xs ys y

zero_at : (xs ys : Bytes) → no_zero xs ≡ true → position (λ b. b == 0) (xs ++ 0 ∷ ys) ≡ Some (length xs)
zero_at xs ys h =
    let here : length xs < length (xs ++ 0 ∷ ys) = omega (arith, length-append xs (0 ∷ ys)) in
    rw (first_at xs ys h, lt-ltb (length xs) (length (xs ++ 0 ∷ ys)) here) refl

cut_at_zero : (xs ys : Bytes) → no_zero xs ≡ true → cut_of (xs ++ 0 ∷ ys) ≡ Some (xs, ys)
cut_at_zero xs ys h =
    ap (option_map (λ i. (take i (xs ++ 0 ∷ ys), drop (i + 1) (xs ++ 0 ∷ ys)))) (zero_at xs ys h)
    ∙ ap₂ (λ (a b : Bytes). Some (a, b)) (take_all xs (0 ∷ ys)) (drop_behind xs ys 0)

pub written_is_read : WrittenIsRead
written_is_read folder events cookie name f e c n =
    ap with_folder (cut_at_zero folder (events ++ 0 ∷ (cookie ++ 0 ∷ 47 ∷ (name ++ 0 ∷ []))) f)
    ∙ ap (with_events folder) (cut_at_zero events (cookie ++ 0 ∷ 47 ∷ (name ++ 0 ∷ [])) e)
    ∙ ap (with_cookie folder events) (cut_at_zero cookie (47 ∷ (name ++ 0 ∷ [])) c)
    ∙ ap (with_name folder events cookie) (cut_at_zero (47 ∷ name) [] n)

pub lost_is_doubted : LostIsDoubted
lost_is_doubted root folder events cookie name f e c n lost = ap (of_record root) (written_is_read folder events cookie name f e c n) ∙ rw lost refl

-- ---- folders below a root

bytes_itself : (bytes : Bytes) → bytes_eq bytes bytes ≡ true
bytes_itself bytes = sym (is_eq-slice_cmp bytes bytes) ∙ ap is_eq (tied_itself nat_list_cmp_total bytes)

behind_itself : (root rest : Bytes) → behind_root root (root ++ rest) ≡ Some rest
behind_itself root rest = rw (take_all root rest, bytes_itself root, drop_all root rest) refl

slash_taken : (b : ℕ) (below : Bytes) → without_last_slash ((b ∷ below) ++ 47 ∷ []) ≡ Some (b ∷ below)
slash_taken b below =
    let path : Bytes = b ∷ below in
    let last : length (path ++ 47 ∷ []) - 1 ≡ length path = omega (arith, length-append path (47 ∷ [])) in
    rw (last, drop_all path (47 ∷ []), take_all path (47 ∷ [])) refl

below_is : (root below : Bytes) → below_of root (folder_path root below) ≡ Some below
below_is root [] = rw (behind_itself root (47 ∷ [])) refl
below_is root (b ∷ below) = rw (behind_itself root (47 ∷ ((b ∷ below) ++ 47 ∷ []))) (slash_taken b below)

pub entry_is_told : EntryIsTold
entry_is_told root below events cookie b name f e c n lost folder_text name_text =
    ap (of_record root) (written_is_read (folder_path root below) events cookie (b ∷ name) f e c n)
    ∙ rw (lost, below_is root below, folder_text, name_text) refl

-- ---- a number in front

abbrev pub first_part : Option (Bytes × Bytes) → Bytes
first_part None = []
first_part (Some p) = p.0

abbrev pub second_part : Option (Bytes × Bytes) → Bytes
second_part None = []
second_part (Some p) = p.1

-- what is cut at a zero byte is what stands before it and behind it
pub cut_joins : (bytes before behind : Bytes) → cut_of bytes ≡ Some (before, behind) → bytes ≡ before ++ 0 ∷ behind
cut_joins bytes before behind h = by (position (λ x. x == 0) bytes) refl h
  where
    by : (o : Option ℕ) → position (λ x. x == 0) bytes ≡ o → option_map {U = Bytes × Bytes} (λ i. (take i bytes, drop (i + 1) bytes)) o ≡ Some (before, behind) → bytes ≡ before ++ 0 ∷ behind
    by None e s = cc
    by (Some i) e s =
        let at = position-Some (λ x. x == 0) bytes i 0 e in
        let zero_there : get_or bytes i 0 ≡ 0 = eqb-true (get_or bytes i 0) 0 at.1 in
        let front : take i bytes ≡ before = ap first_part s in
        let back : drop (suc i) bytes ≡ behind = ap (λ k. drop k bytes) (sym (add-one i)) ∙ ap second_part s in
        sym (take-append-drop i bytes)
        ∙ ap (λ l. take i bytes ++ l) (drop-cons bytes i 0 at.0)
        ∙ ap (λ x. take i bytes ++ x ∷ drop (suc i) bytes) zero_there
        ∙ ap₂ (λ (x y : Bytes). x ++ 0 ∷ y) front back

pub cut_numbered : (bytes : Bytes) (n : ℕ) (rest : Bytes) → n < 2 ^ 64 → bytes ≡ numbered n rest → cut_of bytes ≡ Some (decimal n, rest)
cut_numbered bytes n rest h e = ap cut_of e ∙ cut_at_zero (decimal n) rest (no_zero_decimal n h)
