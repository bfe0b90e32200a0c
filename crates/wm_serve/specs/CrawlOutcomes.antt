-- What a line comes to that asks a server for a crawl.
use Rattle.std.specs.Prelude.{◌≡◌, ◌≢◌, ◌⊎◌, ℕ, List, Result, Ok, Err, MatchResult}
use Rattle.wm_disk.specs.declared.refusal.Refusal.{Refusal}
use Rattle.wm_disk.specs.declared.refusal.Refusal.TheVariants.{Exhausted, NoMemory, NotWatched}
use Rattle.wm_root.specs.AskedCrawls.{AwaitedEnd}
use Rattle.wm_lines.specs.RecrawlLines.{server_request_of_line}
use Rattle.wm_lines.specs.declared.progress.Progress.{Progress}
use Rattle.wm_lines.specs.declared.recrawl.ServerRequest.TheVariants.{Recrawl}
use Rattle.wm_names.specs.Paths.{Path}
use Rattle.wm_names.specs.declared.subtree.Subtree.{Subtree}
use Rattle.wm_workers.specs.WatchedRoots.{MayHaveHad}

-- the line was read as a request for this crawl, or is refused so, unless memory ran out
abbrev pub IsCrawlRead : List ℕ → Result (Path × Subtree) Refusal → Type 0
IsCrawlRead line asked = MatchResult asked (λ crawl. server_request_of_line line ≡ Ok (Recrawl crawl.0 crawl.1)) (λ e. e ≢ NoMemory → server_request_of_line line ≡ Err e)

-- a root said how a crawl of a part of it ended
abbrev pub HasCrawled : Path → Subtree → AwaitedEnd → Type 0
HasCrawled path part crawled = MayHaveHad path crawled.root × (crawled.part ≡ part)

-- why no root was asked for a crawl: memory ran out, the root's tickets did, or it isn't watched
abbrev pub IsUnasked : Refusal → Type 0
IsUnasked e = (e ≡ NoMemory) ⊎ (e ≡ Exhausted) ⊎ (e ≡ NotWatched)

-- the line asks for a crawl of a part of a root, which said how that ended, or wasn't asked; or the line is refused, or memory ran out
abbrev pub IsCrawlOutcome : List ℕ → Result AwaitedEnd Refusal → Type 0
IsCrawlOutcome line outcome =
    ((path : Path) × (part : Subtree) × (server_request_of_line line ≡ Ok (Recrawl path part)) × MatchResult outcome (HasCrawled path part) IsUnasked)
    ⊎ ((e : Refusal) × (outcome ≡ Err e) × ((e ≡ NoMemory) ⊎ (server_request_of_line line ≡ Err e)))

-- how the crawl ended, or why no root was asked for it
abbrev pub outcome_end : Result AwaitedEnd Refusal → Result Progress Refusal
outcome_end (Ok crawled) = crawled.ended
outcome_end (Err e) = Err e
