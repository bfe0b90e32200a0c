use Rattle.std.proofs.Common.{◌∙◌, sym}
use Rattle.wm_session.proofs.lemmas.local.WatchedLemmas.{seen_at, unseen, unseen_past}
use Rattle.wm_session.proofs.local.root_views.view_at.Goals as goal

pub returns-in_default : goal.returns-in_default
returns-in_default c = sym (unseen c.args.path.now c.args.roots.now.entries c.args.views.now (sym c.in_default.is ∙ c.place_of.ensures))

pub returns-then-place-views : goal.returns-then-place-views
returns-then-place-views c = sym (seen_at c.args.path.now c.args.roots.now.entries c.args.views.now c.in-Some.place _ (sym c.in-Some.is ∙ c.place_of.ensures) c.if-place-views.true c.index-views-place.is)

pub returns-else-place-views : goal.returns-else-place-views
returns-else-place-views c = sym (unseen_past c.args.path.now c.args.roots.now.entries c.args.views.now c.in-Some.place (sym c.in-Some.is ∙ c.place_of.ensures) c.if-place-views.false)
