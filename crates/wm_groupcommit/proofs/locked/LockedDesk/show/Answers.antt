use Rattle.std.proofs.Common.{◌≡◌, Some, [], ◌∷◌, sym, ◌∙◌, subst}
use Rattle.wm_disk.specs.declared.refusal.Refusal.TheVariants.{BadArguments}
use Rattle.wm_registry.specs.declared.command.Command.TheVariants.{Begin}
use Rattle.wm_registry.specs.declared.reply.Reply.TheVariants.{Refused}
use Rattle.wm_groupcommit.specs.Books.{answer}
use Rattle.wm_groupcommit.specs.LockedState.{HaveGiven, delivery_of, shown_to}
use Rattle.wm_groupcommit.proofs.Giving.{given_length}
use Rattle.wm_groupcommit.proofs.locked.LockedDesk.show.Goals as goal

pub invariant_of-self : goal.invariant_of-self
invariant_of-self g c = (c.deliver.ensures.later, c.self.invariant.1, c.deliver.ensures.numbered, c.self.invariant.3 ∙ sym (given_length 0 _ _ _ c.deliver.ensures.given))

pub returns-clause-given : goal.returns-clause-given
returns-clause-given g c =
    let inside = c.self.inside in
    let base = inside.book.base in
    let list = inside.book.list in
    let seat = c.args.seat in
    let e = c.in_ok-registry.ensures.registry in
    let same : delivery_of base list (Some c.in_ok-registry.registry) (answer (record { seat = seat; count = 0; command = Begin }) c.in_ok-registry.at (Refused BadArguments)) ≡ shown_to seat base list inside.book.store.registry =
    λ i. delivery_of base list (Some (e.0 i)) (answer (record { seat = seat; count = 0; command = Begin }) (e.1 i) (Refused BadArguments)) in
    subst (λ s. HaveGiven 0 (shown_to seat s.book.base s.book.list s.book.store.registry ∷ []) s.ends c.deliver.new.ends.items) c.self.view_is
    (subst (λ y. HaveGiven 0 (y ∷ []) inside.ends.items c.deliver.new.ends.items) same c.deliver.ensures.given)
