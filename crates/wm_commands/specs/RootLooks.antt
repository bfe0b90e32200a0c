-- What is at the path of a watched root, what a wait for its first crawl does then, and how many folders are named that can't be read.
use Rattle.std.specs.Prelude.{◌-◌, ℕ, Bool, Option, None, Some, nat_le, if◌then◌else◌}
use Rattle.wm_commands.specs.declared.root_looks.RootSeen.{RootSeen}
use Rattle.wm_commands.specs.declared.root_looks.RootSeen.TheVariants.{Folder, Unreadable, NoFolder, Nothing}
use Rattle.wm_commands.specs.declared.root_looks.CrawlStep.{CrawlStep}
use Rattle.wm_commands.specs.declared.root_looks.CrawlStep.TheVariants.{Done, GiveUp, AskForCrawl, LookAgain}
use Rattle.wm_commands.specs.declared.root_looks.FolderNote.{FolderNote}
use Rattle.wm_commands.specs.declared.root_looks.FolderNote.TheVariants.{Silent, Stale, Unknown}

abbrev pub root_seen : (is_there is_folder is_readable : Bool) → RootSeen
root_seen is_there is_folder is_readable = if is_there then (if is_folder then (if is_readable then Folder else Unreadable) else NoFolder) else Nothing

-- A root that isn't crawled yet is given up if it can't be read, since no crawl of it succeeds. Any other is asked for a crawl once it is
-- late, and is looked at again.
abbrev pub uncrawled_step : RootSeen → (is_late : Bool) → CrawlStep
uncrawled_step Unreadable is_late = GiveUp
uncrawled_step Folder is_late = if is_late then AskForCrawl else LookAgain
uncrawled_step NoFolder is_late = if is_late then AskForCrawl else LookAgain
uncrawled_step Nothing is_late = if is_late then AskForCrawl else LookAgain

abbrev pub crawl_step : (is_crawled : Bool) → RootSeen → (is_late : Bool) → CrawlStep
crawl_step is_crawled seen is_late = if is_crawled then Done else uncrawled_step seen is_late

-- three of the folders that can't be read are named; how many more there are, if there are more
abbrev pub more_unnamed : ℕ → Option ℕ
more_unnamed count = if nat_le count 3 then None else Some (count - 3)

-- A folder that can't be read is named. The command goes on only if a file in it is known, from before.
abbrev pub folder_note : RootSeen → (is_known : Bool) → FolderNote
folder_note Unreadable is_known = if is_known then Stale else Unknown
folder_note Folder is_known = Silent
folder_note NoFolder is_known = Silent
folder_note Nothing is_known = Silent
