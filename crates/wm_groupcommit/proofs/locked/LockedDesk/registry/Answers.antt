use Rattle.std.proofs.Common.{◌≡◌, length, sym, ap, ◌∙◌}
use Rattle.std.proofs.Math.Seq.{take-length}
use Rattle.wm_checkpoint.specs.Machines.{replayed}
use Rattle.wm_registry.specs.Registry.{after_command}
use Rattle.wm_groupcommit.specs.Books.{commands_of, state_at}
use Rattle.wm_groupcommit.specs.Histories.{last_state}
use Rattle.wm_groupcommit.proofs.locked.LockedDesk.registry.Goals as goal

pub invariant_of-result : goal.invariant_of-result
invariant_of-result g c =
    let book = c.self.inside.book in
    let seen : c.seen.result.value ≡ record { base = book.base; list = book.list } = λ i. record { base = c.seen.ensures.0 i; list = c.seen.ensures.1 i } in
    let found = c.in_ok-registry.ensures.shown.1 ∙ ap (λ n. state_at book.base book.list n) c.in_ok-registry.ensures.registry.1 ∙ ap (λ l. replayed after_command book.base (commands_of l)) (take-length book.list) in
    (found ∙ ap last_state (sym seen), c.in_ok-registry.ensures.registry.1 ∙ ap length (sym c.seen.ensures.1))
