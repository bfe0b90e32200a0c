use Rattle.std.proofs.Common.{◌≡◌, ◌∷◌, [], ◌++◌, true, false, map, string_bytes, cond, sym, ap, ◌∙◌}
use Rattle.std.specs.List.{list_any}
use Rattle.std.specs.Str.{bytes_eq}
use Rattle.std.proofs.lemmas.List.{map_push}
use Rattle.wm_feed.specs.Once.{is_in_texts}
use Rattle.wm_feed.proofs.Once.{among_map}
use Rattle.wm_feed.proofs.syncs.add_name.Goals as goal

pub returns-then-is_name : goal.returns-then-is_name
returns-then-is_name c =
    let names = c.args.names.now.items in
    let there : is_in_texts c.args.name.now (map string_bytes names) ≡ true =
    among_map string_bytes c.args.name.now names
    ∙ ap (λ ns. list_any (λ one. bytes_eq (string_bytes one) c.args.name.now) ns) (sym c.deref.ensures.value)
    ∙ sym c.is_name.ensures
    ∙ c.if-is_name.true in
    ap (λ b. cond b (map string_bytes names) (map string_bytes names ++ c.args.name.now ∷ [])) (sym there)

pub returns : goal.returns
returns c =
    let names = c.args.names.now.items in
    let new : is_in_texts c.args.name.now (map string_bytes names) ≡ false =
    among_map string_bytes c.args.name.now names
    ∙ ap (λ ns. list_any (λ one. bytes_eq (string_bytes one) c.args.name.now) ns) (sym c.deref.ensures.value)
    ∙ sym c.is_name.ensures
    ∙ c.if-is_name.false in
    ap (map string_bytes) c.in_ok-push.ensures.items
    ∙ map_push string_bytes names c.in_ok-from_str.field-0
    ∙ ap (λ n. map string_bytes names ++ n ∷ []) c.in_ok-from_str.ensures.ok
    ∙ ap (λ b. cond b (map string_bytes names) (map string_bytes names ++ c.args.name.now ∷ [])) (sym new)
