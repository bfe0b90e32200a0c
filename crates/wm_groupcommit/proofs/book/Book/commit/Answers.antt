use Rattle.std.proofs.Common.{◌≡◌, length, refl, sym, ap, ◌∙◌, subst, inl, inr, ⊎_elim, arith, length-append, ◌+◌}
use Rattle.wm_disk.specs.declared.refusal.Refusal.TheVariants.{NoMemory}
use Rattle.wm_checkpoint.specs.Machines.{replayed}
use Rattle.wm_registry.specs.Registry.{after_command}
use Rattle.wm_store.specs.Batches.{AreAnswered, accepted_of}
use Rattle.wm_groupcommit.specs.Books.{commands_of, accepted_calls, answers_from, all_refused}
use Rattle.wm_groupcommit.proofs.Answering.{AllFair, all_fair, answers_right, state_after, refused_right, length-fair}
use Rattle.wm_groupcommit.proofs.book.Book.commit.Goals as goal

pub returns-then-is_none-clause-commits : goal.returns-then-is_none-clause-commits
returns-then-is_none-clause-commits g c =
    (refl, inr (NoMemory, refl, c.refuse_all.ensures ∙ ap (λ n. all_refused n NoMemory c.args.calls.items) (c.self.invariant.1 ∙ ap (λ b. length b.list) c.self.view_is), inr (inr (refl, refl))))

pub returns-then-is_none-clause-right : goal.returns-then-is_none-clause-right
returns-then-is_none-clause-right g c = rw c.refuse_all.ensures (refused_right _ _ _ _ _ (inr (inr (inr refl))))

pub returns-in_default-clause-commits : goal.returns-in_default-clause-commits
returns-in_default-clause-commits g c =
    (refl, inr (NoMemory, refl, c.refuse_all-in_default.ensures ∙ ap (λ n. all_refused n NoMemory c.args.calls.items) (c.self.invariant.1 ∙ ap (λ b. length b.list) c.self.view_is), inr (inr (refl, refl))))

pub returns-in_default-clause-right : goal.returns-in_default-clause-right
returns-in_default-clause-right g c = rw c.refuse_all-in_default.ensures (refused_right _ _ _ _ _ (inr (inr (inr refl))))

pub answer_all-self-inside-requires-clause-same : goal.answer_all-self-inside-requires-clause-same
answer_all-self-inside-requires-clause-same g c =
    let rs = c.in-Ok-replies_of.replies.items in
    let s = c.self.inside.store.registry in
    let n = c.replies_of.new.store.number in
    let room = c.replies_of.new.store.room in
    let cs = c.args.calls.items in
    let answered = subst (λ l. AreAnswered s.version n room s l rs) c.in-Ok.ensures c.in-Ok-replies_of.ensures.committed.batch.answered in
    length-fair s cs rs (all_fair s.version n room s (commands_of cs) rs answered)

pub invariant_of-self : goal.invariant_of-self
invariant_of-self g c =
    let base = c.self.inside.history.base in
    let h = c.self.inside.history.list in
    let cs = c.args.calls.items in
    let rs = c.in-Ok-replies_of.replies.items in
    let s = c.self.inside.store.registry in
    let told = c.answer_all-self-inside.ensures in
    let new = c.answer_all-self-inside.new.history in
    let registry = c.in-Ok-replies_of.ensures.committed.registry ∙ ap (λ l. replayed after_command s (accepted_of l rs)) c.in-Ok.ensures
    ∙ ap (λ t. replayed after_command t (accepted_of (commands_of cs) rs)) c.self.invariant.0 ∙ state_after base h cs rs
    ∙ ap (λ l. replayed after_command base (commands_of l)) (sym told.list) ∙ ap (λ b. replayed after_command b (commands_of new.list)) (sym told.base) in
    let longer : length new.list ≡ length h + length (accepted_calls cs rs) = ap length told.list ∙ length-append h (accepted_calls cs rs) in
    (registry, omega (arith, told.count, c.self.invariant.1, longer))

pub returns-in-Ok-replies_of-clause-right : goal.returns-in-Ok-replies_of-clause-right
returns-in-Ok-replies_of-clause-right g c =
    let base = c.self.inside.history.base in
    let h = c.self.inside.history.list in
    let cs = c.args.calls.items in
    let rs = c.in-Ok-replies_of.replies.items in
    let s = c.self.inside.store.registry in
    let n = c.replies_of.new.store.number in
    let room = c.replies_of.new.store.room in
    let told = c.answer_all-self-inside.ensures in
    let answers = told.answers ∙ ap (λ k. answers_from k cs rs) c.self.invariant.1 in
    let answered = subst (λ l. AreAnswered s.version n room s l rs) c.in-Ok.ensures c.in-Ok-replies_of.ensures.committed.batch.answered in
    let fair = subst (λ t. AllFair t (commands_of cs) rs) c.self.invariant.0 (all_fair s.version n room s (commands_of cs) rs answered) in
    rw (told.list, told.base, answers) (answers_right base h cs rs fair)

pub returns-in-Err-clause-right : goal.returns-in-Err-clause-right
returns-in-Err-clause-right g c = rw c.refuse_all-in-Err.ensures (refused_right _ _ _ _ _ (⊎_elim (λ d. inr (inl d)) (λ k. ⊎_elim (λ n. inr (inr (inr n))) (λ s. inl s) k) c.in-Err.ensures.kinds))
