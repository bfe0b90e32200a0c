use Rattle.std.proofs.Common.{List, ℕ, take, ap, arith, subst, ◌∙◌}
use Rattle.wm_checkpoint.specs.Machines.{meaning}
use Rattle.wm_checkpoint.specs.Meanings.{IsDamaged, IsRetired}
use Rattle.wm_checkpoint.specs.Found.{IsFound}
use Rattle.wm_checkpoint.proofs.Deciding.{if_ok, found_whole, found_within, damaged_whole, retired_whole, front_is, front_long}
use Rattle.wm_checkpoint.proofs.read.decode_front.Goals as goal

pub returns-clause-found : goal.returns-clause-found
returns-clause-found g c = λ d front.
    let l = g.L.Layout.sizes in
    let m = meaning g.M.Machine g.M.State.Wire g.M.Command.Wire l in
    let long = front_long l c.args.bytes.now d front (omega arith) in
    if_ok c.decode.result (λ f found. found_whole m d f.slot f.number f.state f.end long (subst (λ (b : List ℕ). IsFound m b f.slot f.number f.state f.end) (c.part.ensures.value ∙ ap (λ n. take n c.args.bytes.now) c.file_len-2.ensures ∙ front_is l c.args.bytes.now d front) found)) c.decode.ensures.found

pub returns-clause-damaged : goal.returns-clause-damaged
returns-clause-damaged g c = λ d front is.
    let l = g.L.Layout.sizes in
    let m = meaning g.M.Machine g.M.State.Wire g.M.Command.Wire l in
    damaged_whole m d (subst (λ (b : List ℕ). IsDamaged m b) (c.part.ensures.value ∙ ap (λ n. take n c.args.bytes.now) c.file_len-2.ensures ∙ front_is l c.args.bytes.now d front) (c.decode.ensures.damaged is))

pub returns-clause-retired : goal.returns-clause-retired
returns-clause-retired g c = λ d front is.
    let l = g.L.Layout.sizes in
    let long = front_long l c.args.bytes.now d front (omega arith) in
    retired_whole l d long (subst (λ (b : List ℕ). IsRetired l b) (c.part.ensures.value ∙ ap (λ n. take n c.args.bytes.now) c.file_len-2.ensures ∙ front_is l c.args.bytes.now d front) (c.decode.ensures.retired is))

pub returns-clause-within : goal.returns-clause-within
returns-clause-within g c =
    let m = meaning g.M.Machine g.M.State.Wire g.M.Command.Wire g.L.Layout.sizes in
    if_ok c.decode.result (λ f found. found_within m c.part.result.now f.slot f.number f.state f.end found) c.decode.ensures.found
