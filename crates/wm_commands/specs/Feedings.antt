-- How a root is fed, and when something is said of it while a change is waited for.
use Rattle.std.specs.Prelude.{Bool, true, false, not, if◌then◌else◌}
use Rattle.wm_commands.specs.declared.feeding.Feeding.{Feeding}
use Rattle.wm_commands.specs.declared.feeding.Feeding.TheVariants.{Fed, Unready, Unfed}
use Rattle.wm_commands.specs.declared.feeding.FeedSeen.{FeedSeen}
use Rattle.wm_commands.specs.declared.feeding.FeedSeen.TheVariants.{Present, Doubtful, Missing}
use Rattle.wm_commands.specs.declared.feeding.FeedNews.{FeedNews}
use Rattle.wm_commands.specs.declared.feeding.FeedNews.TheVariants.{Back, NotReady, Ended, NoFeed}

-- a root is fed if a feed runs that is ready for it
abbrev pub feeding_by : (is_running is_ready : Bool) → Feeding
feeding_by is_running is_ready = if is_running then (if is_ready then Fed else Unready) else Unfed

-- one look without a feed is a doubt, two make it missing; a look with one ends both
abbrev pub feed_seen : FeedSeen → (is_fed : Bool) → FeedSeen
feed_seen seen true = Present
feed_seen Present false = Doubtful
feed_seen Doubtful false = Missing
feed_seen Missing false = Missing

-- something is said as the feed gets missing, and as it is back behind that
abbrev pub feed_note : FeedSeen → (is_fed : Bool) → Bool
feed_note Present is_fed = false
feed_note Doubtful is_fed = not is_fed
feed_note Missing is_fed = is_fed

-- a feed has ended only if one was seen that ran
abbrev pub feed_news : Feeding → (has_run : Bool) → FeedNews
feed_news Fed has_run = Back
feed_news Unready has_run = NotReady
feed_news Unfed has_run = if has_run then Ended else NoFeed
