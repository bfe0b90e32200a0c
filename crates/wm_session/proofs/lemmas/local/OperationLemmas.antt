-- A front's operations on views.
use Rattle.std.proofs.Common.{◌≡◌, ◌≢◌, ◌∙◌, ℕ, List, false, Result, Ok, Err, refl, sym, ap, subst, arith}
use Rattle.wm_disk.specs.declared.refusal.Refusal.{Refusal}
use Rattle.wm_disk.specs.declared.refusal.Refusal.TheVariants as refusals
use Rattle.wm_names.specs.Paths.{Path}
use Rattle.wm_lines.specs.declared.progress.Progress.{Progress}
use Rattle.wm_view.specs.declared.op.Op.{Op}
use Rattle.wm_view.specs.declared.op.Op.TheVariants.{Observe, Recrawl, AgeOut}
use Rattle.wm_session.specs.declared.local.root_views.RootView.{RootView}
use Rattle.wm_session.specs.session.Faults.{FrontState, Way, Defined, Memory, HasCause, Lasts, refusal_or, state_or}
use Rattle.wm_session.specs.session.Fronts.{Changes, MetAt, OperatedAt, at_moment, moment_given}
use Rattle.wm_session.specs.session.Sessions.{SessionState, operation_met, operation_outcome, view_of}
use Rattle.wm_session.specs.session.Watched.{Operated, progress_after, view_after}
use Rattle.wm_session.proofs.lemmas.local.LocalLemmas.{lasts_same}
use Rattle.wm_session.proofs.lemmas.local.MetLemmas.{met_at, no_look}

-- a front with these views in place of the others
abbrev pub viewing : FrontState → List RootView → FrontState
viewing old views = record old { state = record old.state { views = views } }

pub lasts_viewing : (s : FrontState) (views : List RootView) → Lasts s (viewing s views)
lasts_viewing s views = record { failures = omega arith; number = omega arith }

-- an operation is met at the moment that it has
pub when_given : (o : Op) → at_moment (moment_given o) o ≡ o
when_given (Observe given pairs) = refl
when_given (Recrawl given begun_at found) = refl
when_given (AgeOut given age) = refl

module _ {F : Type 0} (state : F → FrontState) where
  -- nothing was changed
  same_at : (a b : F) (root : Path) (given : ℕ) (way : Way) → state b ≡ state a → HasCause way false (state a) (state a) → met_at state a (Changes root given given) way false (state a).state (state a).state b
  same_at a b root given way same cause = subst (λ (x : FrontState). MetAt (Changes root given given) (state a) way false (state a).state (state a).state x) (sym same) (refl, refl, cause, (λ look. no_look look), refl)

  -- as it was given
  when_own : (a b : F) (root : Path) (o : Op) (way : Way) (result : Result Progress Refusal) → met_at state a (Changes root (moment_given o) (moment_given o)) way false (state a).state (state_or way (operation_outcome (state a).state root o).state (state a).state) b
      → result ≡ refusal_or way (progress_after (view_after (view_of (state a).state root) o)) → OperatedAt (met_at state) a root o result b
  when_own a b root o way result at is = record {
    way = way;
    found = (state a).state;
    moment = moment_given o;
    later = omega arith;
    at = subst (λ x. met_at state a (Changes root (moment_given o) (moment_given o)) way false (state a).state (state_or way (operation_outcome (state a).state root x).state (state a).state) b) (sym (when_given o)) at;
    reply_is = is ∙ ap (λ x. refusal_or way (progress_after (view_after (view_of (state a).state root) x))) (sym (when_given o));
  }

  pub refuses : (a b : F) (root : Path) (o : Op) (e : Refusal) → state b ≡ state a → view_after (view_of (state a).state root) o ≡ Err e → OperatedAt (met_at state) a root o (Err e) b
  refuses a b root o e same is = when_own a b root o Defined (Err e)
      (subst (λ (t : SessionState). met_at state a (Changes root (moment_given o) (moment_given o)) Defined false (state a).state t b) (sym (ap (λ r. (operation_met (state a).state root o r).state) is)) (same_at a b root (moment_given o) Defined same (lasts_same (state a))))
      (sym (ap progress_after is))

  refused_or_none : (a b : F) (root : Path) (o : Op) (e : Refusal) → state b ≡ state a → (e ≢ refusals.NoMemory → view_after (view_of (state a).state root) o ≡ Err e) → OperatedAt (met_at state) a root o (Err e) b
  refused_or_none a b root o refusals.NoMemory same h = when_own a b root o Memory (Err refusals.NoMemory) (same_at a b root (moment_given o) Memory same (lasts_same (state a), refl)) refl
  refused_or_none a b root o e same h = refuses a b root o e same (h (λ bad. cc))

  pub operates : (a b : F) (root : Path) (o : Op) (r : Result Progress Refusal) (views : List RootView) → state b ≡ viewing (state a) views → Operated root o (state a).state.registry.roots (state a).state.views r views → OperatedAt (met_at state) a root o r b
  operates a b root o (Ok progress) views left (view, is, progress_is, views_are) = when_own a b root o Defined (Ok progress)
      (subst (λ (x : FrontState). MetAt (Changes root (moment_given o) (moment_given o)) (state a) Defined false (state a).state (operation_met (state a).state root o (view_after (view_of (state a).state root) o)).state x) (sym left) (
        refl,
        ap (λ vs. record (state a).state { views = vs }) views_are ∙ sym (ap (λ r. (operation_met (state a).state root o r).state) is),
        lasts_viewing (state a) views,
        (λ look. no_look look),
        refl,
      ))
      (ap Ok progress_is ∙ sym (ap progress_after is))
  operates a b root o (Err e) views left (h, views_are) = refused_or_none a b root o e (left ∙ ap (viewing (state a)) views_are) h
