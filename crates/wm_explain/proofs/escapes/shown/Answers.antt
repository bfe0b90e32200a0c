use Rattle.std.proofs.Common.{◌≡◌, ◌+◌, ◌++◌, ◌<◌, ℕ, List, drop, flat_map, length, sym, ap, ◌∙◌, arith, append_assoc, append-nil, get_or}
use Rattle.std.proofs.lemmas.Iterator.{YieldsList-from_chars}
use Rattle.std.proofs.lemmas.Iterator.Consumers.{YieldsList-turn, YieldsList-end}
use Rattle.std.proofs.lemmas.List.{at_drop_more, at_drop_all, length_push}
use Rattle.std.specs.Prelude.{string_bytes}
use Rattle.std.specs.Str.{chars}
use Rattle.wm_explain.specs.Shown.{shown_char}
use Rattle.wm_explain.proofs.escapes.shown.Goals as goal

shown_drop : (cs : List ℕ) (n c : ℕ) → (n < length cs) × (c ≡ get_or cs n c) → flat_map shown_char (drop n cs) ≡ shown_char c ++ flat_map shown_char (drop (n + 1) cs)
shown_drop cs n c h = at_drop_more (flat_map shown_char) cs n c h.0 ∙ ap (λ x. shown_char x ++ flat_map shown_char (drop (n + 1) cs)) (sym h.1)

pub loop-c-preserved : goal.loop-c-preserved
loop-c-preserved c =
    let t = YieldsList-turn (YieldsList-from_chars c.args.text.now c.utf8.text cc) c.loop-c.yielded _ c.loop-c.yielded_by _ _ c.in-Some.c c.in-Some.is c.next.ensures.steps in
    let e = shown_drop _ _ _ t in
    let n = length_push c.loop-c.yielded c.in-Some.c in
    let w = c.in_ok-put.ensures in
    rw (w, n, append_assoc, ← e) c.loop-c.invariant

pub returns : goal.returns
returns c =
    let t = YieldsList-end (YieldsList-from_chars c.args.text.now c.utf8.text cc) c.loop-c.yielded _ c.loop-c.yielded_by _ _ c.in-None.is c.next.ensures.steps in
    let e = at_drop_all (flat_map shown_char) (chars c.args.text.now) (length c.loop-c.yielded) (omega (arith, t.1)) in
    sym (append-nil (string_bytes c.loop-c.line)) ∙ ap (λ x. string_bytes c.loop-c.line ++ x) (sym e) ∙ c.loop-c.invariant
