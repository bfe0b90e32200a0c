-- A session's place at the desk, with a seat or without one.
use Rattle.std.proofs.Common.{◌≡◌, ◌∙◌, ◌⊎◌, inl, inr, true, false, refl, sym, ap, subst}
use Rattle.std.specs.Prelude.{Option, Some, None, is_some}
use Rattle.std.specs.Option.{option_map}
use Rattle.wm_groupcommit.specs.declared.seat.Seat.{Seat}
use Rattle.wm_groupcommit.specs.Seats.{pushed_calls}
use Rattle.wm_front.specs.Commands.{IsSatOn, KeepsSeat, calls_of}

pub sat_there : {A : Type 0} (f : A → Seat) (o : Option A) → is_some o ≡ true → (seat : Seat) × (option_map f o ≡ Some seat) × IsSatOn (option_map f o) seat
sat_there f None e = absurd (cc)
sat_there f (Some a) e = (f a, refl, refl)

pub none_there : {A : Type 0} (f : A → Seat) (o : Option A) → is_some o ≡ false → option_map f o ≡ None
none_there f None e = refl
none_there f (Some a) e = absurd (cc)

-- what sitting down leaves
abbrev pub Sits : Option Seat → Option Seat → Type 0
Sits old now = ((now ≡ None) × (old ≡ None)) ⊎ ((seat : Seat) × (now ≡ Some seat) × IsSatOn old seat)

some_seat : (a b : Seat) → Some a ≡ Some b → a ≡ b
some_seat a b e = cc

no_seat : (seat : Seat) → None ≡ Some seat → ⊥
no_seat seat e = cc

-- the seat that is there is sat on
pub sat_on : (old now : Option Seat) (seat : Seat) → Sits old now → now ≡ Some seat → IsSatOn old seat
sat_on old now seat (inl (none, was)) there = absurd (no_seat seat (sym none ∙ there))
sat_on old now seat (inr (s, is, sat)) there = subst (λ x. IsSatOn old x) (some_seat s seat (sym is ∙ there)) sat

-- it has submitted what the session had
pub sat_calls : (old : Option Seat) (seat : Seat) → IsSatOn old seat → pushed_calls seat ≡ calls_of old
sat_calls None seat sat = ap (λ x. x.pushed) sat.0
sat_calls (Some old) seat sat = ap pushed_calls sat

pub still_none : (old now : Option Seat) → Sits old now → now ≡ None → now ≡ old
still_none old now (inl (none, was)) e = none ∙ sym was
still_none old now (inr (s, is, sat)) e = absurd (no_seat s (sym e ∙ is))

pub keeps_none : (old now : Option Seat) → now ≡ old → now ≡ None → KeepsSeat old now
keeps_none None now same none = tt
keeps_none (Some seat) now same none = absurd (no_seat seat (sym none ∙ same))
