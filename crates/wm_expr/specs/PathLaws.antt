-- Expressions with no term on type, existence or size read paths alone.
-- For proofs and the ghost members of impls: a reader of definitions may skip it.
use Rattle.std.proofs.Common.{◌≡◌, Bool, true, false, refl, sym, ap, ap₂, true≢false}
use Rattle.std.specs.Prelude.{not, ◌&&◌, ◌||◌}
use Rattle.wm_names.specs.Paths.{Path, basename}
use Rattle.wm_names.specs.declared.entry.Entry.{Entry}
use Rattle.wm_expr.specs.Meanings.{ReadsPathAlone, all_hold, are_path_only, has_suffix, is_one_of, is_path_only, one_holds, scoped}
use Rattle.std.specs.List.{list_any}
use Rattle.wm_expr.specs.Patterns.{fits}
use Rattle.wm_expr.specs.Terms.{Term, Always, Never, Not, AllOf, AnyOf, Name, Suffix, OfType, Exists, Empty, Size, Match, Terms, no_more, more}

both_parts : (a b : Bool) → (a && b) ≡ true → (a ≡ true) × (b ≡ true)
both_parts true b h = (refl, h)
both_parts false b h = absurd (true≢false (sym h))

mutual
  pub reads_path_alone : (x : Term) → is_path_only x ≡ true → ReadsPathAlone x
  reads_path_alone Always h a b same = refl
  reads_path_alone Never h a b same = refl
  reads_path_alone (Not x) h a b same = ap not (reads_path_alone x h a b same)
  reads_path_alone (AllOf xs) h a b same = all_read xs h a b same
  reads_path_alone (AnyOf xs) h a b same = one_reads xs h a b same
  reads_path_alone (Name names scope) h a b same = ap (λ (p : Path). is_one_of names (scoped scope p)) same
  reads_path_alone (Suffix suffixes) h a b same = ap (λ (p : Path). list_any (has_suffix (basename p)) suffixes) same
  reads_path_alone (OfType kind) h a b same = absurd (true≢false (sym h))
  reads_path_alone Exists h a b same = absurd (true≢false (sym h))
  reads_path_alone Empty h a b same = absurd (true≢false (sym h))
  reads_path_alone (Size op n) h a b same = absurd (true≢false (sym h))
  reads_path_alone (Match pattern scope) h a b same = ap (λ (p : Path). fits pattern (scoped scope p)) same

  all_read : (xs : Terms) → are_path_only xs ≡ true → (a b : Entry) → a.path ≡ b.path → all_hold xs a ≡ all_hold xs b
  all_read no_more h a b same = refl
  all_read (more x xs) h a b same =
      ap₂ (λ (p q : Bool). p && q) (reads_path_alone x (both_parts (is_path_only x) (are_path_only xs) h).0 a b same) (all_read xs (both_parts (is_path_only x) (are_path_only xs) h).1 a b same)

  one_reads : (xs : Terms) → are_path_only xs ≡ true → (a b : Entry) → a.path ≡ b.path → one_holds xs a ≡ one_holds xs b
  one_reads no_more h a b same = refl
  one_reads (more x xs) h a b same =
      ap₂ (λ (p q : Bool). p || q) (reads_path_alone x (both_parts (is_path_only x) (are_path_only xs) h).0 a b same) (one_reads xs (both_parts (is_path_only x) (are_path_only xs) h).1 a b same)
