use Rattle.std.proofs.Common.{◌≡◌, ◌<◌, ◌==◌, length, true, false, sym, ap, ◌∙◌, arith}
use Rattle.std.proofs.lemmas.Bool.{eqb-false}
use Rattle.wm_feed.specs.Syncs.{is_new_file, sync}
use Rattle.wm_feed.proofs.Texts.{sync_no_text, sync_text}
use Rattle.wm_feed.proofs.sync.asked.Goals as goal

pub returns-in-Ok : goal.returns-in-Ok
returns-in-Ok c =
    let none : (length c.args.name.now == 0) ≡ false = sym c.is_empty.ensures ∙ c.if-is_empty.false in
    let there : 0 < length c.args.name.now = omega (arith, eqb-false (length c.args.name.now) 0 none) in
    let new : is_new_file c.args.events.now ≡ true = sym c.is_new_file.ensures ∙ c.if-not-is_new_file.false in
    ap sync c.in-Ok.ensures.cases.0 ∙ sync_text c.args.events.now c.args.name.now there new c.in-Ok.ensures.cases.1

pub returns-in-Err : goal.returns-in-Err
returns-in-Err c = sync_no_text c.args.events.now c.args.name.now c.in-Err.ensures.cases.0
