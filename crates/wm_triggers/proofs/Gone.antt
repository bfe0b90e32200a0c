-- What may not be started any more, and isn't being started, is never started again.
use Rattle.std.proofs.Common.{◌≡◌, Bool, true, false, not, ◌&&◌, ◌||◌, ◌==◌, cond, List, [], ◌∷◌, Option, Some, None, is_none, refl, sym, ap, ◌∙◌, true≢false}
use Rattle.std.proofs.lemmas.Bool.{and_parts, and_right, eqb-true}
use Rattle.std.specs.List.{list_any}
use Rattle.std.proofs.lemmas.Slice.Eq.{bytes_eq-Decides}
use Rattle.wm_triggers.specs.Definitions.{has_name, is_definition, stands, with_definition, without_definition}
use Rattle.wm_triggers.specs.Tables.{DefinedMayStart, EndedIsGone, NeverStartedAgain, OthersStand, RemovedIsGone, ReplacedIsGone, TableStep, Table, after_step, after_steps, begins, defines, defines_again, ends, ends_root, is_starting, is_starting_in, may_begin, may_reply_of, may_start, removes, table_starting}
use Rattle.wm_triggers.specs.declared.defined_trigger.DefinedTrigger.{DefinedTrigger}
use Rattle.wm_triggers.proofs.Naming.{any-with, any-without, defined-stands, other-with, other-without, removed-stands, replaced-stands}

-- the same name and number may be started alike
alike : (d one : DefinedTrigger) (t : Table) → is_definition d.trigger.name d.number one ≡ true → may_start one t ≡ may_start d t
alike d one t h =
    let both = and_parts (has_name d.trigger.name one) (one.number == d.number) h in
    ap (λ n. not t.has_ended && stands n one.number t.defined) (sym ((bytes_eq-Decides d.trigger.name one.trigger.name).0 both.0))
    ∙ ap (λ k. not t.has_ended && stands d.trigger.name k t.defined) (eqb-true one.number d.number both.1)

-- so what may be started isn't what may not
other : (d one : DefinedTrigger) (t : Table) → may_start d t ≡ false → may_start one t ≡ true → is_definition d.trigger.name d.number one ≡ false
other d one t gone may = by (is_definition d.trigger.name d.number one) refl
  where
    by : (b : Bool) → is_definition d.trigger.name d.number one ≡ b → b ≡ false
    by true same = absurd (true≢false (sym may ∙ alike d one t same ∙ gone))
    by false differs = refl

-- it may not be started, and isn't being started
record IsGone (d : DefinedTrigger) (t : Table) : Type 0 where
  pub gone : may_start d t ≡ false
  pub idle : is_starting d t ≡ false

idle_by : (d : DefinedTrigger) (t : Table) (starting : Option DefinedTrigger) → may_start d t ≡ false → may_reply_of starting t ≡ true → is_starting_in d starting ≡ false
idle_by d t None gone reply = refl
idle_by d t (Some one) gone reply = other d one t gone reply

and_of : (a b c : Bool) → (a && b) ≡ false → (b ≡ false → c ≡ false) → (a && c) ≡ false
and_of true b c h f = f h
and_of false b c h f = refl

begun : (d one : DefinedTrigger) (t : Table) → IsGone d t → (b : Bool) → may_begin one t ≡ b → IsGone d (cond b (table_starting one t) t)
begun d one t g true may = record { gone = g.gone; idle = other d one t g.gone (and_parts (is_none t.starting) (may_start one t) may).1 }
begun d one t g false stays = g

gone-step : (d : DefinedTrigger) (t : Table) (step : TableStep) → IsGone d t → defines_again d step ≡ false → IsGone d (after_step t step)
gone-step d t (defines new) g never = record {
  gone = and_of (not t.has_ended) (stands d.trigger.name d.number t.defined) (stands d.trigger.name d.number (with_definition new t.defined)) g.gone
      (λ h. any-with (is_definition d.trigger.name d.number) new t.defined h never);
  idle = g.idle;
}
gone-step d t (removes name) g never = record {
  gone = and_of (not t.has_ended) (stands d.trigger.name d.number t.defined) (stands d.trigger.name d.number (without_definition name t.defined)) g.gone
      (λ h. any-without (is_definition d.trigger.name d.number) name t.defined h);
  idle = g.idle;
}
gone-step d t (begins one) g never = begun d one t g (may_begin one t) refl
gone-step d t ends g never = record { gone = g.gone; idle = refl }
gone-step d t ends_root g never = record { gone = refl; idle = g.idle }

neither : (a b : Bool) → (a || b) ≡ false → (a ≡ false) × (b ≡ false)
neither true b e = absurd (true≢false e)
neither false b e = (refl, e)

gone-steps : (d : DefinedTrigger) (t : Table) (steps : List TableStep) → IsGone d t → list_any (defines_again d) steps ≡ false → IsGone d (after_steps t steps)
gone-steps d t [] g never = g
gone-steps d t (step ∷ steps) g never =
    let both = neither (defines_again d step) (list_any (defines_again d) steps) never in
    gone-steps d (after_step t step) steps (gone-step d t step g both.0) both.1

pub never_started_again : NeverStartedAgain
never_started_again d t steps gone reply never =
    let g = gone-steps d t steps (record { gone = gone; idle = idle_by d t t.starting gone reply }) never in
    (and_right (is_none (after_steps t steps).starting) (may_start d (after_steps t steps)) g.gone, g.idle)

pub removed_is_gone : RemovedIsGone
removed_is_gone d t apart = and_right (not t.has_ended) (stands d.trigger.name d.number (without_definition d.trigger.name t.defined)) (removed-stands d.trigger.name d.number t.defined apart)

pub replaced_is_gone : ReplacedIsGone
replaced_is_gone d new t apart same another =
    and_right (not t.has_ended) (stands d.trigger.name d.number (with_definition new t.defined))
    (replaced-stands d.trigger.name d.number new t.defined apart ((bytes_eq-Decides new.trigger.name d.trigger.name).0 same) another)

pub ended_is_gone : EndedIsGone
ended_is_gone d t = refl

pub defined_may_start : DefinedMayStart
defined_may_start d t = ap (λ b. not t.has_ended && b) (defined-stands d t.defined) ∙ and_true (not t.has_ended)
  where
    and_true : (b : Bool) → (b && true) ≡ b
    and_true true = refl
    and_true false = refl

pub others_stand : OthersStand
others_stand d new name t = (
  λ another. ap (λ b. not t.has_ended && b) (other-with d.trigger.name d.number new t.defined another),
  λ another. ap (λ b. not t.has_ended && b) (other-without d.trigger.name d.number name t.defined another),
)
