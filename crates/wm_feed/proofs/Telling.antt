-- The names of syncs that were told.
use Rattle.std.proofs.Common.{◌≡◌, ℕ, ◌<◌, List, length, get_or, sym, ap, ◌∙◌}
use Rattle.std.proofs.lemmas.List.{get_or-map}
use Rattle.wm_feed.specs.Syncs.{SyncTold, sync_names}

pub name_at : (told : List SyncTold) (i : ℕ) (one : SyncTold) → i < length told → one ≡ get_or told i one → one.name ≡ get_or (sync_names told) i one.name
name_at told i one h e = ap (λ x. x.name) e ∙ sym (get_or-map (λ x. x.name) told i one one.name h)
