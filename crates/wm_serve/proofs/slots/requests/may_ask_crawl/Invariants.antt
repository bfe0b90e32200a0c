use Rattle.std.proofs.Common.{◌≡◌, drop}
use Rattle.wm_serve.specs.CrawlLines.{may_ask_crawl as may_ask_crawl_lem}
use Rattle.wm_serve.proofs.slots.requests.may_ask_crawl.Given as goal

-- what stands from there on decides
abbrev pub invariant-loop-place : goal.invariant-loop-place
invariant-loop-place l = may_ask_crawl_lem (drop l.place l.line) ≡ may_ask_crawl_lem l.line
