use Rattle.std.proofs.Common.{◌≡◌, ◌≤◌, None, length, rules, sym, ◌∙◌}
use Rattle.wm_session.proofs.lemmas.local.WatchedLemmas.{kept_past, kept_unwatched, out_at}
use Rattle.wm_session.proofs.local.root_views.forget.Goals.{in_default-via-in-None-1, in_default-via-in-Some+else-place-len}
use Rattle.wm_session.proofs.local.root_views.forget.Goals as goal

pub returns-then-place-len : goal.returns-then-place-len
returns-then-place-len c = λ path roots is. out_at path roots c.args.views.now.items _ c.in-Some.place (sym c.in-Some.is ∙ is) c.remove.ensures.items

pub returns-in_default : goal.returns-in_default
returns-in_default c = λ path roots is.
    let views = c.args.views.now.items in
    elim c.in_default.branch [
      | in_default-via-in-None-1 w ↦ (let none : c.args.place ≡ None = search rules in kept_unwatched path roots views (sym none ∙ is))
      | in_default-via-in-Some+else-place-len w ↦ (let past : length views ≤ w.in-Some.place = search rules in kept_past path roots views w.in-Some.place (sym w.in-Some.is ∙ is) past)
    ]
