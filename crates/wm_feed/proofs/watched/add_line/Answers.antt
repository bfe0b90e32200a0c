use Rattle.std.proofs.Common.{◌≡◌, ◌==◌, Bool, true, List, map, cond, sym, ap, subst, ◌∙◌}
use Rattle.std.specs.Prelude.{OnOk, codes}
use Rattle.std.specs.List.{slice_split}
use Rattle.wm_feed.specs.Records.{Bytes}
use Rattle.wm_feed.specs.Watched.{with_words}
use Rattle.wm_feed.specs.Words.{begins_with}
use Rattle.wm_feed.proofs.watched.add_line.Goals as goal

pub returns : goal.returns
returns c =
    let line = c.args.line.now in
    let before = c.args.watched.now.keys in
    let words : List Bytes = slice_split (λ b. b == 32) line in
    let P : List Bytes → Type 0 = λ ws. OnOk c.add_words.result (c.add_words.new.watched.keys ≡ with_words ws before) in
    let Q : Bool → Type 0 = λ b. OnOk c.add_words.result (c.add_words.new.watched.keys ≡ cond b (with_words words before) before) in
    let here : begins_with (codes "inotify wd:") line ≡ true = sym c.is_of_watch.ensures ∙ c.if-not-is_of_watch.false in
    subst Q (sym here) (subst P (ap (map (λ word. word.now)) c.deref.ensures.value ∙ c.in_ok-words.ensures) c.add_words.ensures)
