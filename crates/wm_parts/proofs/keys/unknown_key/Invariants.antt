use Rattle.std.proofs.Common.{◌≡◌}
use Rattle.serde_json.specs.View.{members_view}
use Rattle.wm_parts.specs.RefusedParts.{unknown_key}
use Rattle.wm_parts.proofs.keys.unknown_key.Given as goal

-- what is left of the members
abbrev pub invariant-loop-key : goal.invariant-loop-key
invariant-loop-key l = unknown_key l.asking (members_view l.key-iterator) ≡ unknown_key l.asking (members_view l.members.entries)
