use Rattle.std.proofs.Common.{◌≡◌, ◌++◌, List, map, sym, ap, ◌∙◌}
use Rattle.std.specs.Map.{keys_of}
use Rattle.serde_json.specs.Data.{string}
use Rattle.serde_json.specs.View.{view}
use Rattle.serde_json.specs.declared.value.Value.{Value}
use Rattle.wm_names.specs.Paths.{Path}
use Rattle.wm_lines.proofs.ReplyTexts.{paths_by_keys}
use Rattle.wm_lines.proofs.reply.paths.Goals as goal

pub loop-path-init : goal.loop-path-init
loop-path-init c =
    let roots = c.args.roots.now.entries in
    let gone : c.into_iter-path-iterator.result ≡ keys_of roots = c.into_iter-path-iterator.ensures.into_iter_gives ∙ c.keys-path-items.ensures.rest in
    paths_by_keys roots ∙ ap (λ (paths : List Path). map (λ path. string path) paths) (sym gone)
    ∙ ap (λ (list : List Value). map view list ++ map (λ path. string path) c.into_iter-path-iterator.result) (sym c.in_ok-list.ensures.items)
