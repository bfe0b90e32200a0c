use Rattle.std.proofs.Common.{rules}
use Rattle.wm_front.specs.SharedLaws.{keeps_same, keeps_then}
use Rattle.wm_front.proofs.Looking.{refused_since}
use Rattle.wm_front.proofs.shared_front.find_root.Goals as goal

pub finds-init : goal.finds-init
finds-init g c = keeps_same c.args.seat.now

pub finds-preserved : goal.finds-preserved
finds-preserved g c = keeps_then c.args.seat.now c.finds.seat c.confirm.new.seat c.finds.invariant c.confirm.ensures.keeps

pub returns-in_err-confirm-in-Err-NotWatched-clause-keeps :
    goal.returns-in_err-confirm-in-Err-NotWatched-clause-keeps
returns-in_err-confirm-in-Err-NotWatched-clause-keeps g c = keeps_then c.args.seat.now c.finds.seat c.confirm.new.seat c.finds.invariant c.confirm.ensures.keeps

pub returns-in_err-confirm-in-Err-NotWatched-clause-refused :
    goal.returns-in_err-confirm-in-Err-NotWatched-clause-refused
returns-in_err-confirm-in-Err-NotWatched-clause-refused g c =
    let e = c.in_err-confirm-in-Err-NotWatched.field-0.0 in
    let why = refused_since c.args.path.now c.args.seat.now c.finds.seat c.confirm.new.seat e c.finds.invariant c.in_err-confirm-in-Err-NotWatched.ensures.refused in
    search rules
