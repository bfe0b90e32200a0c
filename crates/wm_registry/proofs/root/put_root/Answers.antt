use Rattle.byteorder.specs.Endian.{big_bytes}
use Rattle.wm_wire.specs.Spelling.{text, list_spelling}
use Rattle.wm_registry.specs.Spelling.{trigger_spelling}
use Rattle.std.proofs.lemmas.Result.{on_ok_weaker}
use Rattle.wm_registry.proofs.Parts.{three_parts}
use Rattle.wm_registry.proofs.root.put_root.Goals as goal

pub returns-clause-ok : goal.returns-clause-ok
returns-clause-ok c =
    let root = c.args.root.now in
    on_ok_weaker c.put_triggers.result
    (three_parts c.args.out.now.items (text c.args.path.now) (big_bytes 8 root.number) (list_spelling (trigger_spelling c.args.version) root.triggers) c.put_path.new.out.items c.put.new.out.items c.put_triggers.new.out.items c.in_ok-put_path.ensures.ok c.in_ok-put.ensures.ok)
    c.put_triggers.ensures.ok
