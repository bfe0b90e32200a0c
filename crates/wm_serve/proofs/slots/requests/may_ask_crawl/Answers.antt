use Rattle.std.proofs.Common.{◌≡◌, ◌∙◌, ◌<◌, ◌+◌, ◌||◌, ℕ, List, Bool, false, ◌∷◌, length, get_or, drop, ap, sym, subst}
use Rattle.std.proofs.lemmas.List.{drop_more}
use Rattle.wm_serve.specs.CrawlLines.{begins_crawl_word as begins_crawl_word_lem, may_ask_crawl as may_ask_crawl_lem}
use Rattle.wm_serve.proofs.slots.requests.may_ask_crawl.Goals as goal

-- where no word begins, the rest decides
passed : (line : List ℕ) (i : ℕ) → i < length line → begins_crawl_word_lem (drop i line) ≡ false → may_ask_crawl_lem (drop (i + 1) line) ≡ may_ask_crawl_lem (drop i line)
passed line i lt none =
    let parted = drop_more line i 0 lt in
    let none' : begins_crawl_word_lem (get_or line i 0 ∷ drop (i + 1) line) ≡ false = subst (λ (l : List ℕ). begins_crawl_word_lem l ≡ false) parted none in
    sym (ap may_ask_crawl_lem parted ∙ ap (λ (b : Bool). b || may_ask_crawl_lem (drop (i + 1) line)) none')

pub loop-place-preserved : goal.loop-place-preserved
loop-place-preserved c =
    passed c.args.line.now c.loop-place.place c.loop-place-test.true
    (ap begins_crawl_word_lem (sym c.split_at.ensures.back) ∙ (sym c.begins_crawl_word.ensures ∙ c.if-begins_crawl_word.false))
    ∙ c.loop-place.invariant
