use Rattle.std.proofs.Common.{◌≤◌, ◌<◌, length, rules, sym, ap, refl, ◌∙◌}
use Rattle.std.specs.Prelude.{slice_set}
use Rattle.wm_since.specs.Cursors.{CursorList}
use Rattle.wm_session.specs.session.Watched.{may_move, with_cursor}
use Rattle.wm_session.proofs.lemmas.local.WatchedLemmas.{seen_at, set_at_place, unseen, unseen_past}
use Rattle.wm_session.proofs.local.root_views.move_cursor.Goals as goal

pub returns-in_default : goal.returns-in_default
returns-in_default c =
    let not_there = unseen c.args.path.now c.args.roots.now.entries c.args.views.now.items (sym c.in_default.is ∙ c.place_of.ensures) in
    rw not_there refl

pub returns-then-place-len : goal.returns-then-place-len
returns-then-place-len c =
    let past : length c.args.views.now.items ≤ c.in-Some.place = search rules in
    let not_there = unseen_past c.args.path.now c.args.roots.now.entries c.args.views.now.items c.in-Some.place (sym c.in-Some.is ∙ c.place_of.ensures) past in
    rw not_there refl

pub moved-requires : goal.moved-requires
moved-requires c =
    let root = c.index_mut-root.result.now in
    let within : c.in-Some.place < length c.args.views.now.items = search rules in
    let at = seen_at c.args.path.now c.args.roots.now.entries c.args.views.now.items c.in-Some.place root (sym c.in-Some.is ∙ c.place_of.ensures) within c.index_mut-root.ensures.value in
    ap (λ v. may_move v c.args.name) (sym at) ∙ c.requires

pub returns : goal.returns
returns c =
    let root = c.index_mut-root.result.now in
    let views = c.args.views.now.items in
    let within : c.in-Some.place < length views = search rules in
    let at = seen_at c.args.path.now c.args.roots.now.entries views c.in-Some.place root (sym c.in-Some.is ∙ c.place_of.ensures) within c.index_mut-root.ensures.value in
    let new = with_cursor c.args.name c.args.clock root in
    let moved = ap (λ (cursors : CursorList). slice_set views c.in-Some.place (record root { cursors = cursors })) c.moved.ensures
    ∙ set_at_place c.args.path.now c.args.roots.now.entries views c.in-Some.place new (sym c.in-Some.is ∙ c.place_of.ensures) in
    rw at moved
