use Rattle.std.proofs.Common.{◌≡◌, [], length}
use Rattle.wm_session.specs.session.Tellings.{TellsUpTo}
use Rattle.wm_session.proofs.session.Session.tell_due.Given as goal

abbrev pub invariant-loop-place : goal.invariant-loop-place
invariant-loop-place g l =
    TellsUpTo g.F.Front.met l.fn.self.front l.fn.self.subscriptions l.fn.out.items l.place l.is_whole l.self.front l.self.subscriptions l.out.items
    × (l.place-end ≡ length l.fn.self.subscriptions) × (length l.self.subscriptions ≡ length l.fn.self.subscriptions)
    × g.F.Front.leads_to l.fn.self.front [] l.self.front
