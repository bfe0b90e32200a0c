use Rattle.std.proofs.Common.{ℕ, ◌==◌, false, unwrap_or, option_map, Option, sym, ap, ◌∙◌}
use Rattle.serde_json.specs.Data.{Members}
use Rattle.wm_lines.specs.Keys.{members_len}
use Rattle.wm_lines.proofs.EachLemmas.{members_len-view}
use Rattle.wm_lines.proofs.keys.has_keys.Goals as goal

pub returns-in-Some : goal.returns-in-Some
returns-in-Some c =
    ap (λ (len : ℕ). len == c.args.n) (c.len.ensures.len ∙ sym (members_len-view c.in-Some.members.now.entries))
    ∙ ap (λ (o : Option Members). unwrap_or (option_map (λ ms. members_len ms == c.args.n) o) false) c.in-Some.ensures
