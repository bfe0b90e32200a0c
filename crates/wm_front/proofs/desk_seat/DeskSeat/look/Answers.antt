use Rattle.std.proofs.Common.{◌≡◌, ◌∙◌, refl, sym, ap, subst}
use Rattle.std.specs.Prelude.{Option, Some, None}
use Rattle.std.specs.Option.{option_map}
use Rattle.wm_groupcommit.specs.declared.seat.Seat.{Seat}
use Rattle.wm_front.specs.Commands.{KeepsSeat, calls_of}
use Rattle.wm_front.specs.declared.desk_seat.TakenSeat.{TakenSeat}
use Rattle.wm_front.proofs.Looking.{sat_keeps}
use Rattle.wm_front.proofs.Sitting.{keeps_none, sat_calls, sat_on, still_none}
use Rattle.std.proofs.lemmas.Result.{IfOk-weaker}
use Rattle.wm_front.proofs.desk_seat.DeskSeat.look.Goals as goal

pub returns-in_default-clause-keeps : goal.returns-in_default-clause-keeps
returns-in_default-clause-keeps g c =
    let none : c.take.new.self ≡ None = sym c.self.view_is ∙ ap (λ (o : Option (TakenSeat g.row.T.Denot g.T.Registrar)). option_map (λ (x : TakenSeat g.row.T.Denot g.T.Registrar). x.seat) o) c.in_default.is in
    let same = still_none c.args.self.now c.take.new.self c.take.ensures none in
    subst (λ (o : Option Seat). KeepsSeat c.args.self.now o) (sym c.self.view_is) (keeps_none c.args.self.now c.take.new.self same none)

pub returns-in_default-clause-unsent : goal.returns-in_default-clause-unsent
returns-in_default-clause-unsent g c =
    let none : c.take.new.self ≡ None = sym c.self.view_is ∙ ap (λ (o : Option (TakenSeat g.row.T.Denot g.T.Registrar)). option_map (λ (x : TakenSeat g.row.T.Denot g.T.Registrar). x.seat) o) c.in_default.is in
    let same = still_none c.args.self.now c.take.new.self c.take.ensures none in
    ap calls_of (c.self.view_is ∙ same)

pub returns-clause-keeps : goal.returns-clause-keeps
returns-clause-keeps g c =
    let seat = c.in-Some.taken.seat in
    let there : c.take.new.self ≡ Some seat = sym c.self.view_is ∙ ap (λ (o : Option (TakenSeat g.row.T.Denot g.T.Registrar)). option_map (λ (x : TakenSeat g.row.T.Denot g.T.Registrar). x.seat) o) c.in-Some.is in
    let sat = sat_on c.args.self.now c.take.new.self seat c.take.ensures there in
    sat_keeps c.args.self.now (Some c.look.new.self.seat) seat c.look.new.self.seat sat refl c.look.ensures.continues

pub returns-clause-looked : goal.returns-clause-looked
returns-clause-looked g c =
    let seat = c.in-Some.taken.seat in
    let there : c.take.new.self ≡ Some seat = sym c.self.view_is ∙ ap (λ (o : Option (TakenSeat g.row.T.Denot g.T.Registrar)). option_map (λ (x : TakenSeat g.row.T.Denot g.T.Registrar). x.seat) o) c.in-Some.is in
    let sat = sat_on c.args.self.now c.take.new.self seat c.take.ensures there in
    IfOk-weaker c.look.result _ _ (λ r looked. (seat, c.look.new.self.seat, sat, refl, c.look.ensures.continues, looked)) c.look.ensures.looked

pub returns-clause-unsent : goal.returns-clause-unsent
returns-clause-unsent g c =
    let seat = c.in-Some.taken.seat in
    let there : c.take.new.self ≡ Some seat = sym c.self.view_is ∙ ap (λ (o : Option (TakenSeat g.row.T.Denot g.T.Registrar)). option_map (λ (x : TakenSeat g.row.T.Denot g.T.Registrar). x.seat) o) c.in-Some.is in
    let sat = sat_on c.args.self.now c.take.new.self seat c.take.ensures there in
    c.look.ensures.unsent ∙ sat_calls c.args.self.now seat sat
