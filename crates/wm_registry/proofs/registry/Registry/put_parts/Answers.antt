use Rattle.std.proofs.Common.{◌≡◌, length, flat_map, ap, ◌∙◌, ◌++◌}
use Rattle.std.proofs.lemmas.Result.{on_ok_weaker, on_err_weaker}
use Rattle.byteorder.specs.Endian.{big_bytes}
use Rattle.wm_registry.specs.Spelling.{root_spelling}
use Rattle.wm_registry.proofs.Parts.{four_parts, front_kept}
use Rattle.wm_registry.proofs.registry.Registry.put_parts.Goals as goal

pub returns-clause-ok : goal.returns-clause-ok
returns-clause-ok c =
    let s = c.self.inside in
    let count : c.put-3.new.out.items ≡ c.put-2.new.out.items ++ big_bytes 4 (length s.roots.entries) = c.in_ok-put-3.ensures.ok ∙ ap (λ n. c.put-2.new.out.items ++ big_bytes 4 n) c.len.ensures.len in
    rw (← c.self.view_is)
    (on_ok_weaker c.put_roots.result
    (four_parts c.args.out.now.items (big_bytes 8 s.incarnation) (big_bytes 8 s.next) (big_bytes 4 (length s.roots.entries)) (flat_map (root_spelling s.version) s.roots.entries)
    c.put.new.out.items c.put-2.new.out.items c.put-3.new.out.items c.put_roots.new.out.items c.in_ok-put.ensures.ok c.in_ok-put-2.ensures.ok count)
    c.put_roots.ensures.ok)

pub returns-clause-err : goal.returns-clause-err
returns-clause-err c =
    let s = c.self.inside in
    on_err_weaker c.put_roots.result
    (front_kept c.args.out.now.items (big_bytes 8 s.incarnation) (big_bytes 8 s.next) (big_bytes 4 c.len.result)
    c.put.new.out.items c.put-2.new.out.items c.put-3.new.out.items c.put_roots.new.out.items c.in_ok-put.ensures.ok c.in_ok-put-2.ensures.ok c.in_ok-put-3.ensures.ok)
    c.put_roots.ensures.err
