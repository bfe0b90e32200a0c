use Rattle.std.proofs.Common.{sym, ap, ◌∙◌}
use Rattle.wm_since.specs.Cursors.{moved_to}
use Rattle.wm_since.proofs.Moves.{inserted, written}
use Rattle.wm_since.proofs.cursors.Cursors.moved.Goals as goal

pub returns-in-Some : goal.returns-in-Some
returns-in-Some c =
    (c.get_mut.follows.holds c.args.clock).0
    ∙ written c.args.name c.args.clock c.in-Some.held.now c.self.inside.clocks.entries (sym c.in-Some.ensures.value)
    ∙ ap (moved_to c.args.name c.args.clock) c.self.view_is

pub returns : goal.returns
returns c =
    let entries = rw c.unwrap.ensures at c.insert.ensures.entries in
    entries
    ∙ inserted c.args.name c.args.clock c.get_mut.follows.lender-at-none.entries
    ∙ ap (moved_to c.args.name c.args.clock) (ap (λ m. m.entries) c.get_mut.follows.holds-at-none ∙ c.self.view_is)
