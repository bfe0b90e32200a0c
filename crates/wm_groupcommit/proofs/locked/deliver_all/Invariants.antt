use Rattle.std.proofs.Common.{Some}
use Rattle.wm_groupcommit.specs.LockedState.{AllLater, AreNumbered, HaveGiven, deliveries_of}
use Rattle.wm_groupcommit.proofs.locked.deliver_all.Given as goal

abbrev pub invariant-loop-answer : goal.invariant-loop-answer
invariant-loop-answer g l = record {
  later : AllLater l.ends.items (Some l.book.base) l.book.list;
  numbered : AreNumbered 0 l.ends.items;
  given : HaveGiven 0 (deliveries_of l.book.base l.book.list l.yielded) l.initial.ends.items l.ends.items;
}
