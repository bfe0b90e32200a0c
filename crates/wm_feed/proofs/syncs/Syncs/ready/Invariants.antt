use Rattle.std.proofs.Common.{◌≡◌, map, take, string_bytes}
use Rattle.std.specs.List.{filter}
use Rattle.wm_feed.specs.Once.{each_once}
use Rattle.wm_feed.specs.Syncs.{is_sync_ready, sync_names}
use Rattle.wm_feed.proofs.syncs.Syncs.ready.Given as goal

abbrev pub invariant-loop-one : goal.invariant-loop-one
invariant-loop-one l = map string_bytes l.ready.items ≡ each_once (filter (λ name. is_sync_ready l.self.answered name l.watches l.one-items) (take l.one-index (sync_names l.one-items)))
