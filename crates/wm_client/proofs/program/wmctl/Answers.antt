use Rattle.std.proofs.Common.{◌≡◌, List, map, option_map, rules, subst, ℕ}
use Rattle.std.specs.String.{string_bytes}
use Rattle.wm_client.specs.ClientWords.{AsksFor, request_wanted_of, shown_status, sync_wanted_of, wanted_of}
use Rattle.wm_client.specs.Waits.{GoneIn}
use Rattle.wm_client.proofs.Ending.{shows, talk_shown_ends}
use Rattle.wm_client.proofs.Synced.{ends_of}
use Rattle.wm_client.proofs.program.wmctl.Goals as goal

pub returns-in-Ok-Talk-clause-ends : goal.returns-in-Ok-Talk-clause-ends
returns-in-Ok-Talk-clause-ends g c =
    let words : List (List ℕ) = map (λ word. word.now) c.args.words.now in
    let request = c.in-Ok-Talk.request in
    let wanted : wanted_of c.in-Ok-Talk.field-0 ≡ request_wanted_of c.in-Ok-Talk.request = search rules in
    ends_of (GoneIn g.Y.SyncSystem.made_in g.Y.SyncSystem.gone c.args.system.now) words (string_bytes request.socket) (string_bytes request.json) request.follow (option_map sync_wanted_of request.sync)
    c.end.result _ _ c.talk_at.result (subst (AsksFor words) wanted c.in-Ok-Talk.ensures) c.talk_at.ensures c.end.ensures.status

pub returns-in-Ok-Shown-clause-ends : goal.returns-in-Ok-Shown-clause-ends
returns-in-Ok-Shown-clause-ends g c =
    let words : List (List ℕ) = map (λ word. word.now) c.args.words.now in
    let wanted : wanted_of c.in-Ok-Shown.field-0 ≡ shown_status c.in-Ok-Shown.status = search rules in
    talk_shown_ends (GoneIn g.Y.SyncSystem.made_in g.Y.SyncSystem.gone c.args.system.now) words c.in-Ok-Shown.status c.show.result _ _
    (subst (AsksFor words) wanted c.in-Ok-Shown.ensures) (shows c.in-Ok-Shown.status c.show.result c.show.ensures.asked c.show.ensures.fault)
