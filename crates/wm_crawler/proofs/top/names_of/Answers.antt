use Rattle.std.proofs.Common.{◌≡◌, ◌==◌, IfOk, lit<, map, subst}
use Rattle.std.specs.List.{slice_split}
use Rattle.std.proofs.lemmas.Iterator.Consumers.{map_from_collect}
use Rattle.std.proofs.lemmas.Iterator.Splits.{YieldsList-from_str_split}
use Rattle.wm_crawler.proofs.top.names_of.Goals as goal

pub returns : goal.returns
returns c =
    subst (λ bytes. IfOk c.collect.result (λ v. map (λ n. n.now) v.items ≡ slice_split (λ b. b == 47) bytes)) c.as_str.ensures.value
    (map_from_collect _ c.collect.ensures.ran (YieldsList-from_str_split 47 c.as_str.result.now (lit< tt) c.split.ensures.text c.split.ensures.has_more c.split.ensures.pattern))
