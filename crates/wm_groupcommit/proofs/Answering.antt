-- The answers to a committed list are right for the longer book.
use Rattle.std.proofs.Common.{◌≡◌, ◌≤◌, ◌<◌, ◌+◌, ℕ, get_or, zero, suc, true, false, true≢false, List, [], ◌∷◌, ◌++◌, length, map, take, Some, inl, inr, ⊎_elim, ◌⊎◌, refl, sym, ap, ◌∙◌, subst, arith, length-append, append_assoc}
use Rattle.std.specs.Prelude.{slice_get}
use Rattle.wm_disk.specs.declared.refusal.Refusal.{Refusal}
use Rattle.wm_disk.specs.declared.refusal.Refusal.TheVariants.{Exhausted, NoMemory}
use Rattle.wm_checkpoint.specs.Machines.{replayed}
use Rattle.wm_registry.specs.declared.command.Command.{Command}
use Rattle.wm_registry.specs.declared.command.Command.TheVariants.{Begin, Watch, WatchDel, Trigger, TriggerDel}
use Rattle.wm_registry.specs.declared.reply.Reply.{Reply}
use Rattle.wm_registry.specs.declared.reply.Reply.TheVariants.{Changed, Replaced, Unchanged, Refused}
use Rattle.wm_registry.specs.Registry.{after_command, changed, is_change}
use Rattle.wm_registry.specs.declared.version.Version.{Version}
use Rattle.wm_registry.specs.Roots.{State}
use Rattle.wm_store.specs.Batches.{AreAnswered, IsMet, accepted_of, in_batch, after_reply, unless_begin}
use Rattle.wm_groupcommit.specs.declared.queued.Call.{Call}
use Rattle.wm_groupcommit.specs.declared.queued.Answer.{Answer}
use Rattle.wm_groupcommit.specs.Books.{commands_of, IsFailure, IsFailed, RightReply, Right, AllRight, answer, accepted_calls, answers_from, all_refused, at_next, kept_if}

off : false ≡ true → ⊥
off e = true≢false (sym e)

take_front : (h t : List Call) → take (length h) (h ++ t) ≡ h
take_front [] t = refl
take_front (x ∷ h) t = ap (λ l. x ∷ l) (take_front h t)

take_less : (n : ℕ) (h t : List Call) → n ≤ length h → take n (h ++ t) ≡ take n h
take_less zero h t e = refl
take_less (suc n) [] t e = absurd (omega arith)
take_less (suc n) (x ∷ h) t e = ap (λ l. x ∷ l) (take_less n h t (omega arith))

at_middle : (h t : List Call) (c : Call) → slice_get (h ++ c ∷ t) (length h) ≡ Some c
at_middle [] t c = refl
at_middle (x ∷ h) t c = at_middle h t c

pub get_front : (h t : List Call) (k : ℕ) (c : Call) → slice_get h k ≡ Some c → slice_get (h ++ t) k ≡ Some c
get_front [] t k c e = absurd (cc)
get_front (x ∷ h) t zero c e = e
get_front (x ∷ h) t (suc k) c e = get_front h t k c e

commands_of-append : (h t : List Call) → commands_of (h ++ t) ≡ commands_of h ++ commands_of t
commands_of-append [] t = refl
commands_of-append (x ∷ h) t = ap (λ l. x.command ∷ l) (commands_of-append h t)

replay-append : (s : State) (cs ds : List Command) → replayed after_command s (cs ++ ds) ≡ replayed after_command (replayed after_command s cs) ds
replay-append s [] ds = refl
replay-append s (c ∷ cs) ds = replay-append (after_command s c) cs ds

state-push : (base : State) (h : List Call) (c : Call) → replayed after_command base (commands_of (h ++ c ∷ [])) ≡ after_command (replayed after_command base (commands_of h)) c.command
state-push base h c = ap (replayed after_command base) (commands_of-append h (c ∷ [])) ∙ replay-append base (commands_of h) (c.command ∷ [])

pub Right-front : (base : State) (h t : List Call) (a : Answer) → Right base h a → Right base (h ++ t) a
Right-front base h t a r = ⊎_elim (λ f. inl f) (λ (k : RightReply base h a). inr (omega (arith, k.0, length-append h t), k.1 ∙ ap (λ l. in_batch (replayed after_command base (commands_of l)) a.call.command) (sym (take_less a.at h t k.0)), λ e. get_front h t a.at a.call (k.2 e))) r

pub AllRight-front : (base : State) (h t : List Call) (xs : List Answer) → AllRight base h xs → AllRight base (h ++ t) xs
AllRight-front base h t [] r = tt
AllRight-front base h t (a ∷ xs) r = (Right-front base h t a r.0, AllRight-front base h t xs r.1)

-- ---- how the commands of a batch were met

-- the reply speaks of the store or of memory, or is the registry's
abbrev pub Fair : State → Command → Reply → Type 0
Fair s c r = IsFailed r ⊎ (r ≡ in_batch s c)

abbrev pub AllFair : State → List Command → List Reply → Type 0
AllFair s [] [] = Unit {0}
AllFair s [] (r ∷ rs) = ⊥
AllFair s (c ∷ cs) [] = ⊥
AllFair s (c ∷ cs) (r ∷ rs) = Fair s c r × AllFair (after_reply s c r) cs rs

fair_spent : (s : State) (c : Command) → Fair s c (unless_begin c (Refused Exhausted))
fair_spent s Begin = inr refl
fair_spent s (Watch p) = inl (Exhausted, refl, inr (inr (inl refl)))
fair_spent s (WatchDel p) = inl (Exhausted, refl, inr (inr (inl refl)))
fair_spent s (Trigger p t) = inl (Exhausted, refl, inr (inr (inl refl)))
fair_spent s (TriggerDel p n) = inl (Exhausted, refl, inr (inr (inl refl)))

fair_short : (s : State) (c : Command) → Fair s c (unless_begin c (Refused NoMemory))
fair_short s Begin = inr refl
fair_short s (Watch p) = inl (NoMemory, refl, inr (inr (inr refl)))
fair_short s (WatchDel p) = inl (NoMemory, refl, inr (inr (inr refl)))
fair_short s (Trigger p t) = inl (NoMemory, refl, inr (inr (inr refl)))
fair_short s (TriggerDel p n) = inl (NoMemory, refl, inr (inr (inr refl)))

all_spent : (s : State) (cs : List Command) → AllFair s cs (map (λ c. unless_begin c (Refused Exhausted)) cs)
all_spent s [] = tt
all_spent s (c ∷ cs) = (fair_spent s c, all_spent (after_reply s c (unless_begin c (Refused Exhausted))) cs)

fair_met : (s : State) (c : Command) (r : Reply) → IsMet s c r → Fair s c r
fair_met s c r m = ⊎_elim (λ e. inr e) (λ (e : r ≡ unless_begin c (Refused NoMemory)). subst (Fair s c) (sym e) (fair_short s c)) m

pub all_fair : (v : Version) (number room : ℕ) (s : State) (cs : List Command) (rs : List Reply) → AreAnswered v number room s cs rs → AllFair s cs rs
all_fair v number room s [] [] h = tt
all_fair v number room s [] (r ∷ rs) h = absurd h
all_fair v number room s (c ∷ cs) [] h = absurd h
all_fair v number room s (c ∷ cs) (r ∷ rs) h =
    ⊎_elim (λ (k : IsMet s c r × AreAnswered v number room (after_reply s c r) cs rs). (fair_met s c r k.0, all_fair v number room (after_reply s c r) cs rs k.1))
    (λ k. subst (λ qs. AllFair s (c ∷ cs) qs) (sym k.2) (all_spent s (c ∷ cs)))
    h

-- an accepted command is met as in a replay
met_changed : (s : State) (c : Command) (r : Reply) → r ≡ in_batch s c → is_change r ≡ true → after_command s c ≡ changed s c
met_changed s Begin r e h = absurd (off (sym (ap is_change e) ∙ h))
met_changed s (Watch p) r e h = rw (sym e) (rw h refl)
met_changed s (WatchDel p) r e h = rw (sym e) (rw h refl)
met_changed s (Trigger p t) r e h = rw (sym e) (rw h refl)
met_changed s (TriggerDel p n) r e h = rw (sym e) (rw h refl)

taken : (s : State) (c : Command) (r : Reply) → Fair s c r → is_change r ≡ true → r ≡ in_batch s c
taken s c r f h = ⊎_elim (λ (k : IsFailed r). absurd (off (sym (ap is_change k.1) ∙ h))) (λ e. e) f

here : (base : State) (h t : List Call) (c : Call) (r : Reply) → Fair (replayed after_command base (commands_of h)) c.command r → (is_change r ≡ true → slice_get (h ++ t) (length h) ≡ Some c) → Right base (h ++ t) (answer c (length h) r)
here base h t c r f stands =
    ⊎_elim (λ k. inl k) (λ (is : r ≡ in_batch (replayed after_command base (commands_of h)) c.command). inr (omega (arith, length-append h t), is ∙ ap (λ l. in_batch (replayed after_command base (commands_of l)) c.command) (sym (take_front h t)), stands)) f

-- the rest of the answers, behind one that was accepted
behind : (base : State) (h : List Call) (c : Call) (cs : List Call) (rs : List Reply) → AllRight base ((h ++ c ∷ []) ++ accepted_calls cs rs) (answers_from (length (h ++ c ∷ [])) cs rs) → AllRight base (h ++ c ∷ accepted_calls cs rs) (answers_from (length h + 1) cs rs)
behind base h c cs rs ih =
    let len : length (h ++ c ∷ []) ≡ length h + 1 = omega (arith, length-append h (c ∷ [])) in
    subst (λ (p : List Call × ℕ). AllRight base p.0 (answers_from p.1 cs rs)) (λ i. (append_assoc h (c ∷ []) (accepted_calls cs rs) i, len i)) ih

grown : (base : State) (h : List Call) (c : Call) (r : Reply) (cs : List Call) (rs : List Reply) → Fair (replayed after_command base (commands_of h)) c.command r → is_change r ≡ true → AllFair (changed (replayed after_command base (commands_of h)) c.command) (commands_of cs) rs → AllFair (replayed after_command base (commands_of (h ++ c ∷ []))) (commands_of cs) rs
grown base h c r cs rs f k rest =
    let s = replayed after_command base (commands_of h) in
    subst (λ t. AllFair t (commands_of cs) rs) (sym (state-push base h c ∙ met_changed s c.command r (taken s c.command r f k) k)) rest

pub answers_right : (base : State) (h : List Call) (cs : List Call) (rs : List Reply) → AllFair (replayed after_command base (commands_of h)) (commands_of cs) rs → AllRight base (h ++ accepted_calls cs rs) (answers_from (length h) cs rs)
answers_right base h [] rs k = tt
answers_right base h (c ∷ cs) [] k = absurd k
answers_right base h (c ∷ cs) (Changed ∷ rs) k =
    (here base h (c ∷ accepted_calls cs rs) c Changed k.0 (λ _. at_middle h (accepted_calls cs rs) c), behind base h c cs rs (answers_right base (h ++ c ∷ []) cs rs (grown base h c Changed cs rs k.0 refl k.1)))
answers_right base h (c ∷ cs) (Replaced ∷ rs) k =
    (here base h (c ∷ accepted_calls cs rs) c Replaced k.0 (λ _. at_middle h (accepted_calls cs rs) c), behind base h c cs rs (answers_right base (h ++ c ∷ []) cs rs (grown base h c Replaced cs rs k.0 refl k.1)))
answers_right base h (c ∷ cs) (Unchanged ∷ rs) k = (here base h (accepted_calls cs rs) c Unchanged k.0 (λ e. absurd (off e)), answers_right base h cs rs k.1)
answers_right base h (c ∷ cs) (Refused e ∷ rs) k = (here base h (accepted_calls cs rs) c (Refused e) k.0 (λ x. absurd (off x)), answers_right base h cs rs k.1)

pub length-fair : (s : State) (cs : List Call) (rs : List Reply) → AllFair s (commands_of cs) rs → length rs ≡ length cs
length-fair s [] [] h = refl
length-fair s [] (r ∷ rs) h = absurd h
length-fair s (c ∷ cs) [] h = absurd h
length-fair s (c ∷ cs) (r ∷ rs) h = ap suc (length-fair (after_reply s c.command r) cs rs h.1)

pub commands_of-accepted_calls : (cs : List Call) (rs : List Reply) → commands_of (accepted_calls cs rs) ≡ accepted_of (commands_of cs) rs
commands_of-accepted_calls [] rs = refl
commands_of-accepted_calls (c ∷ cs) [] = refl
commands_of-accepted_calls (c ∷ cs) (Changed ∷ rs) = ap (λ l. c.command ∷ l) (commands_of-accepted_calls cs rs)
commands_of-accepted_calls (c ∷ cs) (Replaced ∷ rs) = ap (λ l. c.command ∷ l) (commands_of-accepted_calls cs rs)
commands_of-accepted_calls (c ∷ cs) (Unchanged ∷ rs) = commands_of-accepted_calls cs rs
commands_of-accepted_calls (c ∷ cs) (Refused e ∷ rs) = commands_of-accepted_calls cs rs

-- the registry after the accepted ones
pub state_after : (base : State) (h cs : List Call) (rs : List Reply) → replayed after_command (replayed after_command base (commands_of h)) (accepted_of (commands_of cs) rs) ≡ replayed after_command base (commands_of (h ++ accepted_calls cs rs))
state_after base h cs rs =
    ap (replayed after_command (replayed after_command base (commands_of h))) (sym (commands_of-accepted_calls cs rs))
    ∙ sym (replay-append base (commands_of h) (commands_of (accepted_calls cs rs)))
    ∙ ap (replayed after_command base) (sym (commands_of-append h (accepted_calls cs rs)))

-- refusals that don't speak of the registry are right for any list
pub refused_right : (base : State) (h : List Call) (n : ℕ) (e : Refusal) (cs : List Call) → IsFailure e → AllRight base h (all_refused n e cs)
refused_right base h n e [] f = tt
refused_right base h n e (c ∷ cs) f = (inl (e, refl, f), refused_right base h n e cs f)

pub AllRight-get : (base : State) (h : List Call) (xs : List Answer) (k : ℕ) (d : Answer) → k < length xs → AllRight base h xs → Right base h (get_or xs k d)
AllRight-get base h [] k d e r = absurd (omega (arith, e))
AllRight-get base h (a ∷ xs) zero d e r = r.0
AllRight-get base h (a ∷ xs) (suc k) d e r = AllRight-get base h xs k d (omega (arith, e)) r.1

-- ---- loops over calls and their replies

-- how many commands stand after these calls
abbrev pub at_after : ℕ → List Call → List Reply → ℕ
at_after n [] rs = n
at_after n (c ∷ cs) [] = n
at_after n (c ∷ cs) (r ∷ rs) = at_after (at_next n r) cs rs

pub at_after-push : (n : ℕ) (cs : List Call) (c : Call) (rs : List Reply) (d : Reply) → length cs < length rs → at_after n (cs ++ c ∷ []) rs ≡ at_next (at_after n cs rs) (get_or rs (length cs) d)
at_after-push n [] c [] d e = absurd (omega (arith, e))
at_after-push n [] c (r ∷ rs) d e = refl
at_after-push n (x ∷ cs) c [] d e = absurd (omega (arith, e))
at_after-push n (x ∷ cs) c (r ∷ rs) d e = at_after-push (at_next n r) cs c rs d (omega (arith, e))

pub answers_from-push : (n : ℕ) (cs : List Call) (c : Call) (rs : List Reply) (d : Reply) → length cs < length rs → answers_from n (cs ++ c ∷ []) rs ≡ answers_from n cs rs ++ answer c (at_after n cs rs) (get_or rs (length cs) d) ∷ []
answers_from-push n [] c [] d e = absurd (omega (arith, e))
answers_from-push n [] c (r ∷ rs) d e = refl
answers_from-push n (x ∷ cs) c [] d e = absurd (omega (arith, e))
answers_from-push n (x ∷ cs) c (r ∷ rs) d e = ap (λ l. answer x n r ∷ l) (answers_from-push (at_next n r) cs c rs d (omega (arith, e)))

pub accepted_calls-push : (cs : List Call) (c : Call) (rs : List Reply) (d : Reply) → length cs < length rs → accepted_calls (cs ++ c ∷ []) rs ≡ accepted_calls cs rs ++ kept_if c (get_or rs (length cs) d)
accepted_calls-push [] c [] d e = absurd (omega (arith, e))
accepted_calls-push [] c (r ∷ rs) d e = refl
accepted_calls-push (x ∷ cs) c [] d e = absurd (omega (arith, e))
accepted_calls-push (x ∷ cs) c (Changed ∷ rs) d e = ap (λ l. x ∷ l) (accepted_calls-push cs c rs d (omega (arith, e)))
accepted_calls-push (x ∷ cs) c (Replaced ∷ rs) d e = ap (λ l. x ∷ l) (accepted_calls-push cs c rs d (omega (arith, e)))
accepted_calls-push (x ∷ cs) c (Unchanged ∷ rs) d e = accepted_calls-push cs c rs d (omega (arith, e))
accepted_calls-push (x ∷ cs) c (Refused z ∷ rs) d e = accepted_calls-push cs c rs d (omega (arith, e))

pub all_refused-push : (n : ℕ) (e : Refusal) (cs : List Call) (c : Call) → all_refused n e (cs ++ c ∷ []) ≡ all_refused n e cs ++ answer c n (Refused e) ∷ []
all_refused-push n e [] c = refl
all_refused-push n e (x ∷ cs) c = ap (λ l. answer x n (Refused e) ∷ l) (all_refused-push n e cs c)

pub at_next_most : (n : ℕ) (r : Reply) → at_next n r ≤ n + 1
at_next_most n Changed = omega arith
at_next_most n Replaced = omega arith
at_next_most n Unchanged = omega arith
at_next_most n (Refused e) = omega arith

-- a call adds itself if it was accepted
pub at_kept : (n : ℕ) (c : Call) (r : Reply) → at_next n r ≡ n + length (kept_if c r)
at_kept n c Changed = refl
at_kept n c Replaced = refl
at_kept n c Unchanged = omega arith
at_kept n c (Refused e) = omega arith

pub all_answered : (n : ℕ) (cs : List Call) (rs : List Reply) → length rs ≡ length cs → length (answers_from n cs rs) ≡ length cs
all_answered n [] rs e = refl
all_answered n (c ∷ cs) [] e = absurd (omega (arith, e))
all_answered n (c ∷ cs) (r ∷ rs) e = ap suc (all_answered (at_next n r) cs rs (omega (arith, e)))

pub each_refused : (n : ℕ) (e : Refusal) (cs : List Call) → length (all_refused n e cs) ≡ length cs
each_refused n e [] = refl
each_refused n e (c ∷ cs) = ap suc (each_refused n e cs)
