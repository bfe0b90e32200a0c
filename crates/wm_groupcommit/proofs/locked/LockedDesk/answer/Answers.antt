use Rattle.std.proofs.Common.{◌≡◌, Some, length, sym, ap, ◌∙◌, subst, arith}
use Rattle.wm_groupcommit.specs.Commits.{IsCommit}
use Rattle.wm_groupcommit.specs.Counting.{IsCounted, newer_of}
use Rattle.wm_groupcommit.specs.LockedState.{LockedState, AllLater, IsFlushed}
use Rattle.wm_groupcommit.proofs.Locking.{AllLater-longer, IsCommit-longer, IsCommit-length, IsCommit-counted}
use Rattle.wm_groupcommit.proofs.Counted.{length-counts, length-newer}
use Rattle.wm_groupcommit.proofs.Giving.{given_length}
use Rattle.wm_groupcommit.proofs.locked.LockedDesk.answer.Goals as goal

pub commit-requires-clause-few : goal.commit-requires-clause-few
commit-requires-clause-few g c = omega (arith, ap length c.keep_newer.ensures.kept, length-newer c.self.inside.counts.items c.calls-all.result.items, ap length c.calls-all.ensures, c.requires.few)

pub commit-requires-clause-room : goal.commit-requires-clause-room
commit-requires-clause-room g c = (c.args.room.empty.1, omega (arith, ap length c.keep_newer.ensures.kept, length-newer c.self.inside.counts.items c.calls-all.result.items, ap length c.calls-all.ensures, c.requires.few, c.args.room.size.1))

pub deliver_all-requires-clause-later : goal.deliver_all-requires-clause-later
deliver_all-requires-clause-later g c =
    let old = c.self.inside.book in
    let new = c.commit.new.self in
    let h = c.commit.ensures.commits in
    subst (λ b. AllLater c.self.inside.ends.items (Some b) new.list) (sym h.0) (AllLater-longer c.self.inside.ends.items (Some old.base) old.list new.list (IsCommit-longer g.D.Disk old new _ _ h) c.self.invariant.0)

pub invariant_of-self : goal.invariant_of-self
invariant_of-self g c =
    let old = c.self.inside.book in
    let new = c.commit.new.self in
    let counts = c.self.inside.counts.items in
    let cs = c.calls-all.result.items in
    let xs = c.commit.new.answers.items in
    let h = subst (λ l. IsCommit g.D.Disk old new l xs) c.keep_newer.ensures.kept c.commit.ensures.commits in (
      c.deliver_all.ensures.later,
      subst (λ ks. IsCounted ks new.list) (sym c.keep_newer.ensures.counts) (IsCommit-counted g.D.Disk old new counts cs xs h c.self.invariant.1),
      c.deliver_all.ensures.numbered,
      ap length c.keep_newer.ensures.counts ∙ length-counts counts cs ∙ c.self.invariant.3 ∙ sym (given_length 0 _ _ _ c.deliver_all.ensures.given),
    )

pub invariant_of-result : goal.invariant_of-result
invariant_of-result g c =
    let counts = c.self.inside.counts.items in
    let xs = c.commit.new.answers.items in
    let h = subst (λ l. IsCommit g.D.Disk c.self.inside.book c.commit.new.self l xs) c.keep_newer.ensures.kept c.commit.ensures.commits in
    let all : length xs ≡ length (newer_of counts c.calls-all.result.items) = IsCommit-length g.D.Disk c.self.inside.book c.commit.new.self (newer_of counts c.calls-all.result.items) xs h in
    let taken = ap (λ v. length (newer_of counts v.items)) c.of-taken.ensures in
    (counts, omega (arith, c.len-count.ensures, c.commit.new.answers.ok, all, taken))

pub returns-clause-flushed : goal.returns-clause-flushed
returns-clause-flushed g c =
    let inside = c.self.inside in
    let book = c.commit.new.self in
    let xs = c.commit.new.answers.items in
    let kept = c.keep_newer.ensures.kept ∙ ap (newer_of inside.counts.items) c.calls-all.ensures in
    let h = subst (λ l. IsCommit g.D.Disk inside.book book l xs) kept c.commit.ensures.commits in
    let at : LockedState _ → Type 0 = λ s. IsFlushed g.D.Disk s (record { book = book; ends = c.deliver_all.new.ends.items; counts = c.keep_newer.new.counts.items; has_flusher = inside.has_flusher }) c.args.popped.calls.items c.len-count.result in
    subst at c.self.view_is
    (xs, h, c.commit.ensures.right, omega (arith, c.len-count.ensures, c.commit.new.answers.ok), c.deliver_all.ensures.given)
