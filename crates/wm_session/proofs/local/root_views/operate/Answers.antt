use Rattle.std.proofs.Common.{◌∙◌, ◌≤◌, ◌<◌, length, Ok, sym, ap, refl, rules}
use Rattle.std.proofs.lemmas.List.{set-get_or}
use Rattle.std.specs.Prelude.{slice_set}
use Rattle.wm_view.specs.Steps.{step}
use Rattle.wm_view.specs.Summaries.{Summary}
use Rattle.wm_view.specs.declared.op.Op.{Op}
use Rattle.wm_session.specs.declared.local.root_views.RootView.{RootView}
use Rattle.wm_session.specs.session.Watched.{unless, view_after}
use Rattle.wm_session.proofs.lemmas.local.WatchedLemmas.{seen_at, set_at_place, unseen, unseen_past}
use Rattle.wm_session.proofs.local.root_views.operate.Goals as goal

abbrev with_summary : RootView → Summary → RootView
with_summary root view = record root { view = view }

abbrev stepped : RootView → Op → RootView
stepped root o = with_summary root (step root.view o)

pub returns-in_default : goal.returns-in_default
returns-in_default c = (λ _. ap (λ v. view_after v c.args.op.now) (unseen c.args.path.now c.args.roots.now.entries c.args.views.now.items (sym c.in_default.is ∙ c.place_of.ensures)), refl)

pub returns-then-place-len : goal.returns-then-place-len
returns-then-place-len c =
    let past : length c.args.views.now.items ≤ c.in-Some.place = search rules in
    (λ _. ap (λ v. view_after v c.args.op.now) (unseen_past c.args.path.now c.args.roots.now.entries c.args.views.now.items c.in-Some.place (sym c.in-Some.is ∙ c.place_of.ensures) past), refl)

pub returns-in-Ok : goal.returns-in-Ok
returns-in-Ok c =
    let view = c.index_mut-root.result.now in
    let within : c.in-Some.place < length c.args.views.now.items = search rules in
    let at = seen_at c.args.path.now c.args.roots.now.entries c.args.views.now.items c.in-Some.place view (sym c.in-Some.is ∙ c.place_of.ensures) within c.index_mut-root.ensures.value in
    let moved = c.in-Ok.ensures.by_step in
    let new = with_summary view c.perform.new.self in (
      new,
      ap (λ v. view_after v c.args.op.now) at ∙ ap (λ r. unless r (stepped view c.args.op.now)) moved.0 ∙ ap (λ v. Ok (with_summary view v)) (sym moved.1),
      c.progress_of.ensures,
      set_at_place c.args.path.now c.args.roots.now.entries c.args.views.now.items c.in-Some.place new (sym c.in-Some.is ∙ c.place_of.ensures),
    )

pub returns-in-Err : goal.returns-in-Err
returns-in-Err c =
    let view = c.index_mut-root.result.now in
    let within : c.in-Some.place < length c.args.views.now.items = search rules in
    let at = seen_at c.args.path.now c.args.roots.now.entries c.args.views.now.items c.in-Some.place view (sym c.in-Some.is ∙ c.place_of.ensures) within c.index_mut-root.ensures.value in
    let moved = c.in-Err.ensures.by_step in (
      λ n. ap (λ v. view_after v c.args.op.now) at ∙ ap (λ r. unless r (stepped view c.args.op.now)) (moved.0 n),
      ap (λ v. slice_set c.args.views.now.items c.in-Some.place v) (ap (with_summary view) moved.1 ∙ c.index_mut-root.ensures.value) ∙ set-get_or c.args.views.now.items c.in-Some.place view,
    )
