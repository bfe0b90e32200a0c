-- The roots behind the first ones.
use Rattle.std.proofs.Common.{◌≡◌, ℕ, ◌+◌, ◌≤◌, true, cond, List, ◌∷◌, length, drop, slice_get, Some, ap, subst, ◌∙◌, arith}
use Rattle.std.proofs.lemmas.List.{drop_more}
use Rattle.std.proofs.lemmas.Option.{slice_get_within, get_or_from_slice_get}
use Rattle.std.specs.Map.{lookup, remove_entry}
use Rattle.std.specs.Str.{bytes_eq}
use Rattle.wm_registry.specs.declared.command.Command.TheVariants.{WatchDel}
use Rattle.wm_registry.specs.declared.reply.Reply.TheVariants.{Changed}
use Rattle.wm_registry.specs.declared.root.Root.{Root}
use Rattle.wm_registry.specs.Placing.{ArePlaced}
use Rattle.wm_registry.specs.Registry.{after_command, reply_to}
use Rattle.wm_registry.specs.Roots.{State, root_at, without_first, without_root}
use Rattle.wm_registry.specs.Spelling.{IsState, root_spelling, state_spelling}
use Rattle.wm_registry.proofs.Changing.{IsState-without_root, root_placed}
use Rattle.wm_registry.proofs.Lengths.{length-without_root}

at_front : {X : Type 0} (xs : List X) (k : ℕ) (x : X) → slice_get xs k ≡ Some x → drop k xs ≡ x ∷ drop (k + 1) xs
at_front xs k x at = drop_more xs k x (slice_get_within xs k x at) ∙ ap (λ y. y ∷ drop (k + 1) xs) (get_or_from_slice_get xs k x x at)

module _ (s : State) (k : ℕ) (path first : List ℕ) (root : Root) (at : slice_get s.roots k ≡ Some (first, root)) (same : bytes_eq path first ≡ true) where
  rest : List (List ℕ × Root)
  rest = drop (k + 1) s.roots

  -- the first root that isn't gone is the one at the path
  pub first_found : root_at path (without_first k s) ≡ Some root
  unfolding rest
  first_found = ap (lookup (bytes_eq path)) (at_front s.roots k (first, root) at) ∙ ap (λ b. cond b (Some root) (lookup (bytes_eq path) rest)) same

  -- and without it one more is gone
  pub first_gone : without_root (without_first k s) path ≡ without_first (k + 1) s
  unfolding rest
  first_gone =
      ap (λ (rs : List (List ℕ × Root)). record s { roots = rs })
      (ap (remove_entry (bytes_eq path)) (at_front s.roots k (first, root) at) ∙ ap (λ b. cond b rest ((first, root) ∷ remove_entry (bytes_eq path) rest)) same)

  pub first_within : k + 1 ≤ length s.roots
  first_within = omega (arith, slice_get_within s.roots k (first, root) at)

  -- so the command that takes it out is accepted, and leads there
  pub first_met : reply_to (without_first k s) (WatchDel path) ≡ Changed
  first_met = rw first_found (λ i. Changed)

  pub first_after : after_command (without_first k s) (WatchDel path) ≡ without_first (k + 1) s
  first_after = rw first_found first_gone

  pub first_size : length (state_spelling (without_first (k + 1) s)) + length (root_spelling s.version (path, root)) ≡ length (state_spelling (without_first k s))
  first_size = omega (arith, length-without_root (without_first k s) path root first_found, ap (λ (t : State). length (state_spelling t)) first_gone)

  pub first_fits : IsState (without_first k s) → IsState (without_first (k + 1) s)
  first_fits h = subst IsState first_gone (IsState-without_root (without_first k s) path root first_found h)

  pub first_placed : IsState (without_first k s) → ArePlaced s.version root.triggers
  first_placed h = root_placed (without_first k s) path root first_found h
