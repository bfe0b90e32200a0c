use Rattle.std.proofs.Common.{◌≡◌, List, ℕ, refl, sym, subst, ap, ◌∙◌, arith}
use Rattle.wm_disk.specs.Contents.{Only}
use Rattle.wm_journal.specs.Regions.{IsAt}
use Rattle.wm_checkpoint.specs.Machines.{meaning}
use Rattle.wm_checkpoint.specs.Layout.{journal_place, journal_len}
use Rattle.wm_checkpoint.specs.Meanings.{Means, MeansState}
use Rattle.wm_checkpoint.proofs.Deciding.{IsLawful, one_meaning}
use Rattle.wm_checkpoint.proofs.Keeping.{journal_at_rest, opened_on}
use Rattle.wm_checkpoint.proofs.keeper.Keeper.of_found.Goals as goal

pub go_to-requires-clause-within : goal.go_to-requires-clause-within
go_to-requires-clause-within g c = omega (arith, c.requires, c.new-region.ensures.place.len_is)

pub returns-clause-opened : goal.returns-clause-opened
returns-clause-opened g c = λ old on.
    let D = g.D.Disk in
    let m = meaning g.M.Machine g.M.State.Wire g.M.Command.Wire g.L.Layout.sizes in
    let region = c.go_to.new.self in
    let found_here = c.args.found in
    let slot = found_here.slot in
    let place : IsAt region (journal_place g.L.Layout.sizes slot) journal_len = record { offset_is = c.go_to.ensures.place.offset_is ∙ c.journal_place-place.ensures; len_is = c.go_to.ensures.place.len_is ∙ c.new-region.ensures.place.len_is } in
    let there : region.disk ≡ c.args.disk = c.go_to.ensures.disk ∙ c.new-region.ensures.disk in
    opened_on D m old _ place
    (λ h.
    let is_on = on (subst D.honest there h) in
    let found = is_on.found in
    let same : D.seen region.disk ≡ D.seen old = ap D.seen there ∙ is_on.seen in
    let means : Means m (D.seen region.disk) slot found_here.number found.base found.commands = subst (λ (x : List ℕ). Means m x slot found_here.number found.base found.commands) (sym same) found.means in
    let durable : Only (D.seen region.disk) (D.may_leave region.disk) = λ f left. is_on.durable f (subst (λ d. D.may_leave d f) there left) ∙ sym same in
    record {
      base = found.base;
      commands = found.commands;
      at_rest = journal_at_rest D m region slot found_here.number found.base found.commands place (c.go_to.ensures.end.end_is ∙ found.ends) c.go_to.ensures.end.none_staged means durable;
      means = means;
      is = found.is;
    })
    refl
    (λ state h means.
    let law : IsLawful m = record { sized = g.met.L.Layout.lawful; state_alone = g.met.M.State.Wire.alone; command_alone = g.met.M.Command.Wire.alone } in
    let found = (on (subst D.honest there h)).found in
    let here : MeansState m found_here.state (D.seen old) = record { slot = slot; number = found_here.number; base = found.base; commands = found.commands; means = found.means; is = found.is } in
    one_meaning m (D.seen old) law found_here.state state here means)
