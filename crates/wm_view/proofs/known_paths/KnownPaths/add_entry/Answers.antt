use Rattle.std.proofs.Common.{◌≡◌, None, filter, sym, ap, ◌∙◌, nat_lt, is_some}
use Rattle.std.specs.BTreeMap.{is_at}
use Rattle.std.specs.Map.{lookup}
use Rattle.wm_names.specs.Paths.{path_cmp}
use Rattle.wm_view.specs.KnownPaths.{is_told}
use Rattle.wm_view.proofs.Rooms.{sound_entries, told_insert, nothing_there}
use Rattle.wm_view.proofs.known_paths.KnownPaths.add_entry.Goals as goal

pub returns-in_err-insert-clause-sound : goal.returns-in_err-insert-clause-sound
returns-in_err-insert-clause-sound c =
    sound_entries c.args.self.now c.insert.new.self c.requires (ap (filter is_told) c.in_err-insert.ensures.err) c.in_err-insert.ensures.ordered

pub returns-clause-same : goal.returns-clause-same
returns-clause-same c =
    let es = c.args.self.now.known.entries in
    let none : lookup (is_at (path_cmp c.in_ok-path.path)) es ≡ None =
    nothing_there (lookup (is_at (path_cmp c.in_ok-path.path)) es) (ap (λ p. is_some (lookup (is_at (path_cmp p)) es)) c.in_ok-path.ensures ∙ sym c.contains_key.ensures ∙ c.if-contains_key.false) in
    ap (filter is_told) c.in_ok-insert.ensures.entries ∙ told_insert c.in_ok-path.path c.unknown.result es (ap (λ k. nat_lt 0 k.last) c.unknown.ensures) none

pub returns-clause-sound : goal.returns-clause-sound
returns-clause-sound c = sound_entries c.args.self.now c.insert.new.self c.requires (returns-clause-same c) c.in_ok-insert.ensures.ordered
