-- What every state of a run keeps, whatever numbers the registry gives: each history is made of operations, and nothing is in flight while
-- the server is up.
use Rattle.std.proofs.Common.{◌≡◌, inl, inr, ℕ, ◌-◌, ◌≤◌, Bool, true, false, cond, List, [], ◌∷◌, ◌++◌, map, refl, sym, subst, ◌∙◌, arith}
use Rattle.std.specs.List.{AllByRecursion, range_with_len}
use Rattle.wm_registry.specs.declared.root.Root.{Root}
use Rattle.wm_view.specs.Histories.{History, IsMade, after_operation, new_history}
use Rattle.wm_view.specs.laws.Made.{made_after}
use Rattle.wm_world.specs.declared.event.Event.{Event}
use Rattle.wm_registry.specs.declared.command.Command.{Command}
use Rattle.wm_registry.specs.declared.version.Version.{Version}
use Rattle.wm_world.specs.Worlds.{Stage, World, at_first, begun_on, in_version, registry, replay}
use Rattle.wm_world.specs.Steps.{IsReached, Run}
use Rattle.wm_world.specs.Laws.{PendingIsOwn}
use Rattle.wm_world.proofs.Replays.{Accepted}
use Rattle.wm_world.proofs.Shapes.{IsFlight, IsGrown, IsUp, Shape, all_reached, shape}

-- ---- of each of a list

pub all_each : {A : Type 0} (P Q : A → Type 0) → ((x : A) → P x → Q x) → (xs : List A) → AllByRecursion P xs → AllByRecursion Q xs
all_each P Q f [] h = tt
all_each P Q f (x ∷ xs) h = (f x h.0, all_each P Q f xs h.1)

pub all_both : {A : Type 0} (P : A → Type 0) (xs ys : List A) → AllByRecursion P xs → AllByRecursion P ys → AllByRecursion P (xs ++ ys)
all_both P [] ys a b = b
all_both P (x ∷ xs) ys a b = (a.0, all_both P xs ys a.1 b)

pub all_first : {A : Type 0} (P : A → Type 0) (test : A → Bool) (f : A → A) → ((x : A) → P x → P (f x)) → (xs : List A) → AllByRecursion P xs → AllByRecursion P (at_first test f xs)
all_first P test f goes [] h = tt
all_first P test f goes (x ∷ xs) h = elim (test x) as (λ b. AllByRecursion P (cond b (f x ∷ xs) (x ∷ at_first test f xs))) [
  | true ↦ (goes x h.0, h.1)
  | false ↦ (h.0, all_first P test f goes xs h.1)
]

-- ---- histories that begin

range_made : (i : ℕ) (ns : List ℕ) → AllByRecursion IsMade (map (new_history i) ns)
range_made i [] = tt
range_made i (n ∷ ns) = ((i, n, [], refl), range_made i ns)

roots_made : (i : ℕ) (roots : List (List ℕ × Root)) → AllByRecursion IsMade (map (λ r. new_history i r.1.number) roots)
roots_made i [] = tt
roots_made i (r ∷ roots) = ((i, r.1.number, [], refl), roots_made i roots)

-- ---- one step, and a run

pub record Settled (w : World) : Type 0 where
  pub pending : w.up ≡ true → w.pending ≡ []
  pub made : AllByRecursion IsMade w.histories
  pub accepted : Accepted (registry w) w.pending
  pub first : 1 ≤ w.slot

pub settled_shape : (old new : World) → Shape old new → Settled old → Settled new
settled_shape old new s was = record { pending = λ t. clear (s.up t); made = by s.histories; accepted = in_flight s.flight; first = omega (arith, was.first, s.slot) }
  where
    clear : IsUp old new → new.pending ≡ []
    clear (inl (up, p)) = p ∙ was.pending up
    clear (inr (c, b)) = c

    in_flight : IsFlight old new → Accepted (registry new) new.pending
    in_flight (inl (kept, pending, version)) =
        subst (λ p. Accepted (registry new) p) (sym pending) (subst (λ (v : Version). Accepted (in_version v (replay new.kept)) old.pending) (sym version) (subst (λ (k : List Command). Accepted (in_version old.version (replay k)) old.pending) (sym kept) was.accepted))
    in_flight (inr (inl up)) = subst (λ p. Accepted (registry new) p) (sym (clear (s.up up))) tt
    in_flight (inr (inr accepted)) = accepted

    to : (hs : List History) → new.histories ≡ hs → AllByRecursion IsMade hs → AllByRecursion IsMade new.histories
    to hs e k = subst (λ ks. AllByRecursion IsMade ks) (sym e) k

    by : IsGrown old new → AllByRecursion IsMade new.histories
    by (inl e) = to old.histories e was.made
    by (inr (inl (test, op, e))) = to _ e (all_first IsMade test (λ h. after_operation h op) (λ h m. made_after h op m) old.histories was.made)
    by (inr (inr (inl (up, e)))) = to _ e (all_both IsMade old.histories _ was.made (range_made (registry new).incarnation (range_with_len (registry old).next ((registry new).next - (registry old).next))))
    by (inr (inr (inr (part, later, e)))) = to _ e (all_both IsMade old.histories _ was.made (roots_made (registry new).incarnation (registry new).roots))

settled_run : (old : World) (events : List Event) (new : World) → Settled old → Run old events new → Settled new
settled_run old [] new i e = subst (λ w. Settled w) e i
settled_run old (event ∷ events) new i (mid, step, run) = settled_run mid events new (settled_shape old mid (shape old event mid step) i) run

pub settled_start : (v : Version) (stage : Stage) (faults other_faults : ℕ) → Settled (begun_on v stage faults other_faults)
settled_start v stage faults other_faults = record { pending = λ t. refl; made = tt; accepted = tt; first = omega arith }

pub settled_reached : (w : World) → IsReached w → Settled w
settled_reached w (events, leads) = all_reached Settled settled_start settled_run events w leads

pub pending_is_own : PendingIsOwn
pending_is_own w reached up = (settled_reached w reached).pending up
