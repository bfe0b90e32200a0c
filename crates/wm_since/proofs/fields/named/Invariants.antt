use Rattle.std.proofs.Common.{◌≡◌, filter, map, take}
use Rattle.wm_since.specs.Fields.{is_among, field_name}
use Rattle.wm_since.proofs.fields.named.Given as goal

abbrev pub invariant-loop-field : goal.invariant-loop-field
invariant-loop-field l = l.chosen.items ≡ filter (λ x. is_among (field_name x) (map (λ n. n.now) l.names)) (take l.field-index l.fields)
