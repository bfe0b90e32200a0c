use Rattle.std.proofs.Common.{Err, ap, inl, inr, refl}
use Rattle.std.proofs.lemmas.Result.{err_from_is_err_and}
use Rattle.wm_server.proofs.lemmas.program.MigrationLemmas.{found_retired, look_refused, moves_or_fails}
use Rattle.wm_server.proofs.program.migration.move_into.Goals as goal

pub returns-in_err-is_retired : goal.returns-in_err-is_retired
returns-in_err-is_retired g c =
    let p = err_from_is_err_and c.from_residual.result c.from_residual.ensures.1 in
    let why = c.in_err-is_retired.ensures in record {
      moves = rw (p.1, p.2) (inl (
        refl,
        refl,
        λ h. ((why.reads h).seen, (why.reads h).any_moment),
        look_refused g.S.File.Disk c.args.old.now c.is_retired.new.disk c.in_err-is_retired.field-0.0 why.kinds
            (λ is. why.device.failed (ap Err is)) (λ h is. why.damaged h (ap Err is)),
      ));
    }

pub returns-in_default : goal.returns-in_default
returns-in_default g c =
    let looked = c.in_ok-is_retired.ensures in record {
      moves = inr (inl (
        refl,
        refl,
        record {
          retired = c.in_ok-is_retired.is_retired;
          found = λ h. found_retired c.in_ok-is_retired.is_retired _ (looked.retired h) (looked.means h);
          looks = λ h. ((looked.reads h).seen, (looked.reads h).any_moment);
          taken = c.in_default.ensures.taken;
        },
      ));
    }

pub returns : goal.returns
returns g c =
    let looked = c.in_ok-is_retired.ensures in record {
      moves = moves_or_fails g.S.File.Disk g.S.System g.W.Write.contents c.args.path.now c.args.system.now c.close.new.self c.args.old.now c.write_moved-moved.new.old
          c.args.writer.now c.write_moved-moved.new.writer c.is_retired.new.disk c.in-Ok.new c.write_moved-moved.new.new
          (λ Moved moved. record {
            retired = c.in_ok-is_retired.is_retired;
            looked = c.is_retired.new.disk;
            found = λ h. found_retired c.in_ok-is_retired.is_retired _ (looked.retired h) (looked.means h);
            looks = λ h. ((looked.reads h).seen, (looked.reads h).any_moment);
            begun = c.take.new.system;
            new_before = c.in-Ok.new;
            new_after = c.write_moved-moved.new.new;
            taken = c.in-Ok.ensures.taken;
            closed = c.close.ensures;
            safe = c.write_moved-moved.ensures.safe;
            moved = moved;
          })
          c.write_moved-moved.result c.write_moved-moved.ensures.moved;
    }
