use Rattle.std.proofs.Common.{◌++◌, codes}
use Rattle.wm_disk.specs.Refusals.{refusal_text}
use Rattle.wm_session.specs.session.RunLaws.{appends-then}
use Rattle.wm_server.proofs.program.lines.tell.Goals as goal

pub returns-clause-told : goal.returns-clause-told
returns-clause-told g c =
    let first = c.in_ok-put.ensures.bytes in
    let second = rw (c.as_bytes.ensures.value, c.text.ensures) at c.in_ok-put-2.ensures.bytes in
    let third = c.in_ok-put-3.ensures.bytes in
    appends-then _ _ _ (codes "watchmand: " ++ refusal_text c.args.refusal) (codes "\n") (appends-then _ _ _ (codes "watchmand: ") (refusal_text c.args.refusal) first second) third
