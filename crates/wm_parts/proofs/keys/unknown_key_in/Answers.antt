use Rattle.std.proofs.Common.{◌≡◌, Bor, List, Option, None, Some, ap, false, sym, ◌∙◌, ℕ}
use Rattle.std.specs.Prelude.{IfSome, option_and_then, option_map}
use Rattle.serde_json.specs.Data.{Data, Members}
use Rattle.serde_json.specs.Find.{as_object}
use Rattle.serde_json.specs.View.{members_view, view}
use Rattle.wm_parts.specs.RefusedParts.{takes_keys, unknown_key, unknown_key_in}
use Rattle.wm_parts.specs.declared.keys.Asking.{Asking}
use Rattle.wm_parts.proofs.KeyCounts.{refused_keys}
use Rattle.wm_parts.proofs.keys.unknown_key_in.Goals as goal

not_taken : (r : Option (Bor (List ℕ))) (asking : Asking) (d : Data) → option_map (λ k. k.now) r ≡ unknown_key_in asking d → IfSome r (λ _. takes_keys asking d ≡ false)
not_taken None asking d e = tt
not_taken (Some k) asking d e = refused_keys asking d k.now (sym e)

pub returns-clause-refused : goal.returns-clause-refused
returns-clause-refused c =
    let members : Some (members_view c.in_ok-members.members.now.entries) ≡ as_object (view c.args.value.now) = c.in_ok-members.ensures in
    not_taken c.unknown_key.result c.args.asking (view c.args.value.now) (c.unknown_key.ensures ∙ ap (λ (o : Option Members). option_and_then (unknown_key c.args.asking) o) members)
