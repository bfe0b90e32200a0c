use Rattle.std.proofs.Common.{◌≡◌, List, None, Some, inr, map, refl, rules, subst, ℕ}
use Rattle.wm_client.specs.FeedWords.{FeedAsksFor, feed_shown, feed_to, feed_wanted_of}
use Rattle.wm_client.proofs.Ending.{feed_ends, shown_ends, shows}
use Rattle.wm_client.proofs.feeding.wmfeed.Goals as goal

pub returns-in-Ok-Shown : goal.returns-in-Ok-Shown
returns-in-Ok-Shown g c =
    let words : List (List ℕ) = map (λ word. word.now) c.args.words.now in
    let wanted : feed_wanted_of c.in-Ok-Shown.field-0 ≡ feed_shown c.in-Ok-Shown.status = search rules in
    shown_ends (g.F.Feeder.may_stop c.args.feeder.now) words c.show.result c.in-Ok-Shown.status
    (subst (FeedAsksFor words) wanted c.in-Ok-Shown.ensures) (shows c.in-Ok-Shown.status c.show.result c.show.ensures.asked c.show.ensures.fault)

pub returns-in-Some : goal.returns-in-Some
returns-in-Some g c =
    let words : List (List ℕ) = map (λ word. word.now) c.args.words.now in
    let socket = c.deref.result.now in
    let root = c.deref-in-Some.result.now in
    let wanted : feed_wanted_of c.in-Ok-Feed.field-0 ≡ feed_to socket (Some root) c.in-Ok-Feed.is_every_event = search rules in
    feed_ends (g.F.Feeder.may_stop c.args.feeder.now) words c.feed.result socket (Some root) c.in-Ok-Feed.is_every_event
    (subst (FeedAsksFor words) wanted c.in-Ok-Feed.ensures) c.feed.ensures

pub returns-in-Ok-Feed : goal.returns-in-Ok-Feed
returns-in-Ok-Feed g c =
    let words : List (List ℕ) = map (λ word. word.now) c.args.words.now in
    let socket = c.deref-in-None.result.now in
    let wanted : feed_wanted_of c.in-Ok-Feed.field-0 ≡ feed_to socket None c.in-Ok-Feed.is_every_event = search rules in
    feed_ends (g.F.Feeder.may_stop c.args.feeder.now) words c.end.result socket None c.in-Ok-Feed.is_every_event
    (subst (FeedAsksFor words) wanted c.in-Ok-Feed.ensures) (inr (inr (refl, c.feed-in-None.result, c.feed-in-None.ensures, c.end.ensures)))
