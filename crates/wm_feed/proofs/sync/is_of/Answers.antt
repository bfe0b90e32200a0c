use Rattle.std.proofs.Common.{◌∷◌, [], ◌++◌, sym, ap, ◌∙◌}
use Rattle.std.specs.Cmp.{unsigned_Decides}
use Rattle.std.specs.Str.{bytes_eq}
use Rattle.std.proofs.lemmas.Bool.{false_from_ne_true}
use Rattle.std.proofs.lemmas.Slice.Eq.{bytes_eq-Decides, strip_suffix_is}
use Rattle.wm_feed.proofs.Texts.{same_pushed}
use Rattle.wm_feed.proofs.sync.is_of.Goals as goal

pub returns-in-Some : goal.returns-in-Some
returns-in-Some c =
    let is = strip_suffix_is unsigned_Decides c.args.told.now (47 ∷ []) c.strip_suffix.result c.strip_suffix.ensures.cases in
    let cut = rw c.in-Some.is at is in
    c.eq.ensures ∙ same_pushed 47 c.in-Some.front.now c.args.folder.now ∙ ap (λ t. bytes_eq t (c.args.folder.now ++ 47 ∷ [])) (sym cut)

pub returns-in-None : goal.returns-in-None
returns-in-None c =
    let is = strip_suffix_is unsigned_Decides c.args.told.now (47 ∷ []) c.strip_suffix.result c.strip_suffix.ensures.cases in
    let other = rw c.in-None.is at is in
    sym (false_from_ne_true (bytes_eq c.args.told.now (c.args.folder.now ++ 47 ∷ [])) (λ h. other c.args.folder.now ((bytes_eq-Decides c.args.told.now (c.args.folder.now ++ 47 ∷ [])).0 h)))
