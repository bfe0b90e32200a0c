use Rattle.std.proofs.Common.{◌≡◌, ◌∙◌, inl, inr, refl, sym, ap}
use Rattle.std.specs.Prelude.{Option, Some, None}
use Rattle.std.specs.Option.{option_map}
use Rattle.wm_front.specs.declared.desk_seat.TakenSeat.{TakenSeat}
use Rattle.wm_front.proofs.Sitting.{sat_on, still_none}
use Rattle.wm_front.proofs.desk_seat.DeskSeat.submit.Goals as goal

pub returns-in_default : goal.returns-in_default
returns-in_default g c =
    let none : c.take.new.self ≡ None = sym c.self.view_is ∙ ap (λ (o : Option (TakenSeat g.row.T.Denot g.T.Registrar)). option_map (λ (x : TakenSeat g.row.T.Denot g.T.Registrar). x.seat) o) c.in_default.is in
    let same = still_none c.args.self.now c.take.new.self c.take.ensures none in
    inl (c.self.view_is ∙ same, refl)

pub returns : goal.returns
returns g c =
    let seat = c.in-Some.taken.seat in
    let there : c.take.new.self ≡ Some seat = sym c.self.view_is ∙ ap (λ (o : Option (TakenSeat g.row.T.Denot g.T.Registrar)). option_map (λ (x : TakenSeat g.row.T.Denot g.T.Registrar). x.seat) o) c.in-Some.is in
    let sat = sat_on c.args.self.now c.take.new.self seat c.take.ensures there in
    inr (seat, c.submit.new.self.seat, sat, refl, c.submit.ensures.continues, c.submit.ensures.met)
