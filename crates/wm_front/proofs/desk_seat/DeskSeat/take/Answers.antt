use Rattle.std.proofs.Common.{◌≡◌, ◌∙◌, inl, inr, refl, sym, subst}
use Rattle.std.specs.Prelude.{Option, None}
use Rattle.wm_groupcommit.specs.declared.seat.Seat.{Seat}
use Rattle.wm_front.specs.Commands.{IsSatOn}
use Rattle.wm_front.specs.declared.desk_seat.TakenSeat.{TakenSeat}
use Rattle.wm_front.proofs.Sitting.{none_there, sat_there}
use Rattle.wm_front.proofs.desk_seat.DeskSeat.take.Goals as goal

pub returns-then-is_some : goal.returns-then-is_some
returns-then-is_some g c =
    let t = sat_there (λ (x : TakenSeat g.row.T.Denot g.T.Registrar). x.seat) c.self.inside.taken (sym c.is_some.ensures ∙ c.if-is_some.true) in
    inr (t.0, sym c.self.view_is ∙ t.1, subst (λ (o : Option Seat). IsSatOn o t.0) c.self.view_is t.2)

pub returns-in_default : goal.returns-in_default
returns-in_default g c =
    let none : c.args.self.now ≡ None = sym c.self.view_is ∙ none_there (λ (x : TakenSeat g.row.T.Denot g.T.Registrar). x.seat) c.self.inside.taken (sym c.is_some.ensures ∙ c.if-is_some.false) in
    inl (none, none)

pub returns : goal.returns
returns g c =
    let none : c.args.self.now ≡ None = sym c.self.view_is ∙ none_there (λ (x : TakenSeat g.row.T.Denot g.T.Registrar). x.seat) c.self.inside.taken (sym c.is_some.ensures ∙ c.if-is_some.false) in
    inr (c.in-Ok.taken.seat, refl, subst (λ (o : Option Seat). IsSatOn o c.in-Ok.taken.seat) (sym none) c.in-Ok.ensures)
