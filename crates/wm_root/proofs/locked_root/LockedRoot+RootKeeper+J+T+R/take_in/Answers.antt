use Rattle.std.proofs.Common.{inl, subst, rules}
use Rattle.wm_disk.specs.declared.refusal.Refusal.TheVariants.{BadClock}
use Rattle.wm_root.specs.RootStates.{IsOperated, root_state}
use Rattle.wm_root.proofs.Operating.{reading_ends}
use Rattle.wm_root.proofs.locked_root.LockedRoot+RootKeeper+J+T+R.take_in.Goals as goal

pub returns-in-Ok-clause-operated : goal.returns-in-Ok-clause-operated
returns-in-Ok-clause-operated g c =
    let h = c.in-Ok.ensures.op in
    let before = root_state c.args.self.now.keeper c.args.self.now.backlog in
    let after = root_state c.operate.new.keeper c.operate.new.backlog in
    inl (h.0, h.1, search rules, h.3, h.4, subst (λ op. IsOperated c.args.self.now.retention op BadClock before after c.operate.result.last c.operate.result.is_published c.operate.result.ended) h.5 c.operate.ensures.operated)

pub returns-in-Ok-clause-ended : goal.returns-in-Ok-clause-ended
returns-in-Ok-clause-ended g c =
    let h = c.in-Ok.ensures.op in
    let before = root_state c.args.self.now.keeper c.args.self.now.backlog in
    let after = root_state c.operate.new.keeper c.operate.new.backlog in
    reading_ends c.args.self.now.retention c.args.moment c.args.found h.0 h.1 before after c.operate.result.last c.operate.result.is_published c.operate.result.ended h.4
    (subst (λ op. IsOperated c.args.self.now.retention op BadClock before after c.operate.result.last c.operate.result.is_published c.operate.result.ended) h.5 c.operate.ensures.operated)
