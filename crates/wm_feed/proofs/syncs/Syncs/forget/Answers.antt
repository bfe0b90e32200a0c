use Rattle.std.proofs.Common.{rules, map, string_bytes, not, sym, ap, ◌∙◌}
use Rattle.std.specs.List.{list_any}
use Rattle.std.specs.Str.{bytes_eq}
use Rattle.std.proofs.lemmas.Fn.{filter_same}
use Rattle.std.proofs.lemmas.List.Elements.{filter_agree}
use Rattle.wm_feed.specs.Once.{is_in_texts}
use Rattle.wm_feed.specs.Syncs.{SyncTold, SyncsKept, forgotten, with_syncs}
use Rattle.wm_feed.proofs.Once.{among_map}
use Rattle.wm_feed.proofs.syncs.Syncs.forget.Goals as goal

pub returns : goal.returns
returns c =
    let names = c.args.names.now in
    let before : SyncsKept = record { told = c.self.inside.told.items; sent = c.self.inside.sent; answered = c.self.inside.answered } in
    let left =
    filter_same _ (λ (one : SyncTold). not (list_any (λ n. bytes_eq (string_bytes n) one.name) names)) _ (λ x b f' k. search rules) _ _ c.retain.ensures.filtered
    ∙ filter_agree (λ (one : SyncTold). not (list_any (λ n. bytes_eq (string_bytes n) one.name) names)) (λ (one : SyncTold). not (is_in_texts one.name (map string_bytes names))) (λ one. ap not (sym (among_map string_bytes one.name names))) c.self.inside.told.items in
    ap (λ told. with_syncs told before) left ∙ ap (forgotten (map string_bytes names)) c.self.view_is
