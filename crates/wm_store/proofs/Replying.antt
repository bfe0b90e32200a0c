-- Lists of replies, as a batch makes them.
use Rattle.std.proofs.Common.{◌≡◌, ◌≢◌, ◌⊎◌, ⊎_elim, inl, inr, refl, sym, ◌∙◌, ap, subst, ℕ, zero, suc, ◌+◌, Bool, true, false, List, [], ◌∷◌, ◌++◌, length, take, drop, map, arith}
use Rattle.std.specs.Prelude.{if◌then◌else◌}
use Rattle.wm_disk.specs.declared.refusal.Refusal.{Refusal}
use Rattle.wm_disk.specs.declared.refusal.Refusal.TheVariants.{BadArguments, NoMemory, Exhausted}
use Rattle.wm_journal.specs.Records.{taken}
use Rattle.wm_registry.specs.Commands.{command_spelling}
use Rattle.wm_registry.specs.declared.command.Command.{Command}
use Rattle.wm_registry.specs.declared.reply.Reply.{Reply}
use Rattle.wm_registry.specs.declared.reply.Reply.TheVariants.{Refused}
use Rattle.wm_registry.specs.Registry.{after_command, changed, changes, is_change, reply_to}
use Rattle.wm_registry.specs.Roots.{State}
use Rattle.wm_checkpoint.specs.Machines.{replayed}
use Rattle.wm_store.specs.Batches.{IsMet, IsOutOfMemory, IsWithoutRoom, AreAnswered, accepted_of, in_batch, is_begin, after_reply, unless_begin}
use Rattle.wm_store.specs.UnderWay.{AreMet, AreSpent, refused_for_memory, spent, with_command}
use Rattle.wm_store.proofs.Replies.{never_bad}
use Rattle.wm_store.specs.laws.Replies.{changes_met, refusal_stays}
use Rattle.wm_registry.specs.declared.version.Version.{Version}

-- ---- one reply

after_changes : (s : State) (c : Command) → changes s c ≡ true → after_command s c ≡ changed s c
after_changes s c h = rw h refl

-- the commands accepted by one reply lead to the state behind it
met_is : (b : Bool) (s : State) (c : Command) → (b ≡ true → after_command s c ≡ changed s c) → replayed after_command s (if b then c ∷ [] else []) ≡ (if b then changed s c else s)
met_is true s c h = h refl
met_is false s c h = refl

pub one_met : (s : State) (c : Command) (r : Reply) → IsMet s c r → replayed after_command s (with_command [] c r) ≡ after_reply s c r
one_met s c r m = met_is (is_change r) s c (λ h. after_changes s c (changes_met s c r m h))

stays_met : (b : Bool) (s t : State) → b ≡ false → (if b then t else s) ≡ s
stays_met true s t h = absurd cc
stays_met false s t h = refl

pub refusal_met : (s : State) (c : Command) (x : Refusal) → after_reply s c (unless_begin c (Refused x)) ≡ s
refusal_met s c x = stays_met (is_change (unless_begin c (Refused x))) s (changed s c) (refusal_stays c x)

-- ---- lists of them

first_accepted : (b : Bool) (c : Command) (rest more : List Command) → (if b then c ∷ rest else rest) ++ more ≡ (if b then c ∷ (rest ++ more) else rest ++ more)
first_accepted true c rest more = refl
first_accepted false c rest more = refl

pub accepted_append : (cs ds : List Command) (rs qs : List Reply) → length cs ≡ length rs → accepted_of (cs ++ ds) (rs ++ qs) ≡ accepted_of cs rs ++ accepted_of ds qs
accepted_append [] ds [] qs e = refl
accepted_append [] ds (r ∷ rs) qs e = absurd (omega (arith, e))
accepted_append (c ∷ cs) ds [] qs e = absurd (omega (arith, e))
accepted_append (c ∷ cs) ds (r ∷ rs) qs e =
    ap (λ (l : List Command). if is_change r then c ∷ l else l) (accepted_append cs ds rs qs (omega (arith, e))) ∙ sym (first_accepted (is_change r) c (accepted_of cs rs) (accepted_of ds qs))

if_nil : (b : Bool) (c : Command) (l : List Command) → b ≡ false → (if b then c ∷ l else l) ≡ l
if_nil true c l h = absurd cc
if_nil false c l h = refl

replay_first : (b : Bool) (s : State) (c : Command) (l : List Command) → replayed after_command s (if b then c ∷ l else l) ≡ replayed after_command (replayed after_command s (if b then c ∷ [] else [])) l
replay_first true s c l = refl
replay_first false s c l = refl

replay_met : (s : State) (c : Command) (r : Reply) (l : List Command) → IsMet s c r → replayed after_command s (if is_change r then c ∷ l else l) ≡ replayed after_command (after_reply s c r) l
replay_met s c r l m = replay_first (is_change r) s c l ∙ ap (λ (t : State). replayed after_command t l) (one_met s c r m)

pub met_append : (s : State) (cs ds : List Command) (rs qs : List Reply) → AreMet s cs rs → AreMet (replayed after_command s (accepted_of cs rs)) ds qs → AreMet s (cs ++ ds) (rs ++ qs)
met_append s [] ds [] qs h k = k
met_append s [] ds (r ∷ rs) qs h k = absurd h
met_append s (c ∷ cs) ds [] qs h k = absurd h
met_append s (c ∷ cs) ds (r ∷ rs) qs h k =
    (h.0, met_append (after_reply s c r) cs ds rs qs h.1 (subst (λ (t : State). AreMet t ds qs) (replay_met s c r (accepted_of cs rs) h.0) k))

pub met_more : (s : State) (cs : List Command) (rs : List Reply) (d : Command) (q : Reply) → AreMet s cs rs → IsMet (replayed after_command s (accepted_of cs rs)) d q → AreMet s (cs ++ (d ∷ [])) (rs ++ (q ∷ []))
met_more s cs rs d q h k = met_append s cs (d ∷ []) rs (q ∷ []) h (k, tt)

pub met_len : (s : State) (cs : List Command) (rs : List Reply) → AreMet s cs rs → length cs ≡ length rs
met_len s [] [] h = refl
met_len s [] (r ∷ rs) h = absurd h
met_len s (c ∷ cs) [] h = absurd h
met_len s (c ∷ cs) (r ∷ rs) h = omega (arith, met_len (after_reply s c r) cs rs h.1)

-- one command more that is answered as the registry has it, and isn't accepted
pub idle_more : (s : State) (cs : List Command) (rs : List Reply) (d : Command) (q : Reply) → AreMet s cs rs → accepted_of cs rs ≡ [] → q ≡ in_batch s d → is_change q ≡ false
    → AreMet s (cs ++ (d ∷ [])) (rs ++ (q ∷ [])) × (accepted_of (cs ++ (d ∷ [])) (rs ++ (q ∷ [])) ≡ [])
idle_more s cs rs d q met none is idle = (
  met_more s cs rs d q met (subst (λ (l : List Command). IsMet (replayed after_command s l) d q) (sym none) (inl is)),
  accepted_append cs (d ∷ []) rs (q ∷ []) (met_len s cs rs met) ∙ ap (λ (l : List Command). l ++ accepted_of (d ∷ []) (q ∷ [])) none ∙ if_nil (is_change q) d [] idle,
)

pub answered_met : (version : Version) (n room : ℕ) (s : State) (cs : List Command) (rs : List Reply) → AreMet s cs rs → AreAnswered version n room s cs rs
answered_met version n room s [] [] h = tt
answered_met version n room s [] (r ∷ rs) h = absurd h
answered_met version n room s (c ∷ cs) [] h = absurd h
answered_met version n room s (c ∷ cs) (r ∷ rs) h = inl (h.0, answered_met version n room (after_reply s c r) cs rs h.1)

-- ---- a spent number

pub answered_spent : (version : Version) (n room : ℕ) (s : State) (cs : List Command) (rs : List Reply) → AreSpent version n room s cs rs → AreAnswered version n room s cs rs
answered_spent version n room s [] rs h = absurd h
answered_spent version n room s (c ∷ cs) [] h = absurd h
answered_spent version n room s (c ∷ cs) (r ∷ rs) (inl h) = inl (h.0, answered_spent version n room (after_reply s c r) cs rs h.1)
answered_spent version n room s (c ∷ cs) (r ∷ rs) (inr h) = inr h

spent_append : (cs : List Command) (d : Command) → spent (cs ++ (d ∷ [])) ≡ spent cs ++ (unless_begin d (Refused Exhausted) ∷ [])
spent_append [] d = refl
spent_append (c ∷ cs) d = ap (λ (l : List Reply). unless_begin c (Refused Exhausted) ∷ l) (spent_append cs d)

pub spent_more : (version : Version) (n room : ℕ) (s : State) (cs : List Command) (rs : List Reply) (d : Command) → AreSpent version n room s cs rs → AreSpent version n room s (cs ++ (d ∷ [])) (rs ++ (unless_begin d (Refused Exhausted) ∷ []))
spent_more version n room s [] rs d h = absurd h
spent_more version n room s (c ∷ cs) [] d h = absurd h
spent_more version n room s (c ∷ cs) (r ∷ rs) d (inl h) = inl (h.0, spent_more version n room (after_reply s c r) cs rs d h.1)
spent_more version n room s (c ∷ cs) (r ∷ rs) d (inr h) = inr (h.0, h.1, ap (λ (l : List Reply). l ++ (unless_begin d (Refused Exhausted) ∷ [])) h.2 ∙ sym (spent_append (c ∷ cs) d))

pub spent_first : (version : Version) (n room : ℕ) (s : State) (cs : List Command) (rs : List Reply) (d : Command) → AreMet s cs rs → IsWithoutRoom version n room d → is_change (in_batch (replayed after_command s (accepted_of cs rs)) d) ≡ true → AreSpent version n room s (cs ++ (d ∷ [])) (rs ++ (unless_begin d (Refused Exhausted) ∷ []))
spent_first version n room s [] [] d h less is = inr (less, is, refl)
spent_first version n room s [] (r ∷ rs) d h less is = absurd h
spent_first version n room s (c ∷ cs) [] d h less is = absurd h
spent_first version n room s (c ∷ cs) (r ∷ rs) d h less is =
    inl (h.0, spent_first version n room (after_reply s c r) cs rs d h.1 less (subst (λ (t : State). is_change (in_batch t d) ≡ true) (replay_met s c r (accepted_of cs rs) h.0) is))

-- ---- refusals when out of memory

-- what all commands are answered where memory runs out
abbrev pub out_of_memory_replies : List Command → List Reply
out_of_memory_replies cs = map (λ c. unless_begin c (Refused NoMemory)) cs

pub all_out_of_memory : (s : State) (cs : List Command) → AreMet s cs (out_of_memory_replies cs)
all_out_of_memory s [] = tt
all_out_of_memory s (c ∷ cs) = (inr refl, subst (λ (t : State). AreMet t cs (out_of_memory_replies cs)) (sym (refusal_met s c NoMemory)) (all_out_of_memory s cs))

pub none_accepted : (cs : List Command) → accepted_of cs (out_of_memory_replies cs) ≡ []
none_accepted [] = refl
none_accepted (c ∷ cs) = if_nil (is_change (unless_begin c (Refused NoMemory))) c (accepted_of cs (out_of_memory_replies cs)) (refusal_stays c NoMemory) ∙ none_accepted cs

refused_for_memory_other : (r : Reply) → r ≢ Refused BadArguments → refused_for_memory r ≡ Refused NoMemory
refused_for_memory_other (Refused BadArguments) h = absurd (h refl)
refused_for_memory_other r h = refl

refused_for_memory_in : (b : Bool) (r y : Reply) → y ≢ Refused BadArguments → r ≡ (if b then Refused BadArguments else y) → refused_for_memory r ≡ (if b then Refused BadArguments else Refused NoMemory)
refused_for_memory_in true r y h e = ap refused_for_memory e
refused_for_memory_in false r y h e = ap refused_for_memory e ∙ refused_for_memory_other y h

-- a reply that is turned into a refusal
pub refused_for_memory_met : (s : State) (c : Command) (r : Reply) → IsMet s c r → refused_for_memory r ≡ unless_begin c (Refused NoMemory)
refused_for_memory_met s c r (inl e) = refused_for_memory_in (is_begin c) r (reply_to s c) (never_bad s c) e
refused_for_memory_met s c r (inr e) = refused_for_memory_in (is_begin c) r (Refused NoMemory) (λ x. absurd cc) e

pub all_refused_for_memory : (s : State) (cs : List Command) (rs : List Reply) → AreMet s cs rs → map refused_for_memory rs ≡ out_of_memory_replies cs
all_refused_for_memory s [] [] h = refl
all_refused_for_memory s [] (r ∷ rs) h = absurd h
all_refused_for_memory s (c ∷ cs) [] h = absurd h
all_refused_for_memory s (c ∷ cs) (r ∷ rs) h =
    ap (λ (x : Reply). x ∷ map refused_for_memory rs) (refused_for_memory_met s c r h.0) ∙ ap (λ (l : List Reply). unless_begin c (Refused NoMemory) ∷ l) (all_refused_for_memory (after_reply s c r) cs rs h.1)

-- the replies, those from a place on turned
abbrev pub out_of_memory_behind : ℕ → List Reply → List Reply
out_of_memory_behind n rs = take n rs ++ map refused_for_memory (drop n rs)

pub met_behind : (n : ℕ) (s : State) (cs : List Command) (rs : List Reply) → AreMet s cs rs → AreMet s cs (out_of_memory_behind n rs)
met_behind zero s cs rs h = subst (λ (l : List Reply). AreMet s cs l) (sym (all_refused_for_memory s cs rs h)) (all_out_of_memory s cs)
met_behind (suc n) s [] [] h = tt
met_behind (suc n) s [] (r ∷ rs) h = absurd h
met_behind (suc n) s (c ∷ cs) [] h = absurd h
met_behind (suc n) s (c ∷ cs) (r ∷ rs) h = (h.0, met_behind n (after_reply s c r) cs rs h.1)

pub accepted_behind : (n : ℕ) (s : State) (cs : List Command) (rs : List Reply) → AreMet s cs rs → accepted_of cs (out_of_memory_behind n rs) ≡ accepted_of (take n cs) (take n rs)
accepted_behind zero s cs rs h = ap (λ (l : List Reply). accepted_of cs l) (all_refused_for_memory s cs rs h) ∙ none_accepted cs
accepted_behind (suc n) s [] [] h = refl
accepted_behind (suc n) s [] (r ∷ rs) h = absurd h
accepted_behind (suc n) s (c ∷ cs) [] h = absurd h
accepted_behind (suc n) s (c ∷ cs) (r ∷ rs) h = ap (λ (l : List Command). if is_change r then c ∷ l else l) (accepted_behind n (after_reply s c r) cs rs h.1)

out_of_memory_turned : (cs : List Command) (rs : List Reply) → length cs ≡ length rs → IsOutOfMemory (map refused_for_memory rs) ⊎ (accepted_of cs rs ≡ [])
out_of_memory_turned [] [] e = inr refl
out_of_memory_turned [] (r ∷ rs) e = absurd (omega (arith, e))
out_of_memory_turned (c ∷ cs) [] e = absurd (omega (arith, e))
out_of_memory_turned (c ∷ cs) (Refused BadArguments ∷ rs) e = ⊎_elim (λ k. inl (inr k)) (λ k. inr k) (out_of_memory_turned cs rs (omega (arith, e)))
out_of_memory_turned (c ∷ cs) (r ∷ rs) e = inl (inl refl)

-- one of them was turned; or all accepted commands stand before the place
pub out_of_memory_or_all : (n : ℕ) (cs : List Command) (rs : List Reply) → length cs ≡ length rs → IsOutOfMemory (out_of_memory_behind n rs) ⊎ (accepted_of cs rs ≡ accepted_of (take n cs) (take n rs))
out_of_memory_or_all zero cs rs e = out_of_memory_turned cs rs e
out_of_memory_or_all (suc n) [] [] e = inr refl
out_of_memory_or_all (suc n) [] (r ∷ rs) e = absurd (omega (arith, e))
out_of_memory_or_all (suc n) (c ∷ cs) [] e = absurd (omega (arith, e))
out_of_memory_or_all (suc n) (c ∷ cs) (r ∷ rs) e = ⊎_elim (λ k. inl (inr k)) (λ k. inr (ap (λ (l : List Command). if is_change r then c ∷ l else l) k)) (out_of_memory_or_all n cs rs (omega (arith, e)))

pub out_of_memory_append : (rs qs : List Reply) → IsOutOfMemory rs → IsOutOfMemory (rs ++ qs)
out_of_memory_append [] qs h = absurd h
out_of_memory_append (r ∷ rs) qs (inl h) = inl h
out_of_memory_append (r ∷ rs) qs (inr h) = inr (out_of_memory_append rs qs h)

pub out_of_memory_last : (rs : List Reply) (q : Reply) → q ≡ Refused NoMemory → IsOutOfMemory (rs ++ (q ∷ []))
out_of_memory_last [] q h = inl h
out_of_memory_last (r ∷ rs) q h = inr (out_of_memory_last rs q h)

-- ---- the group

pub taken_append : (version : Version) (cs ds : List Command) → taken (command_spelling version) (cs ++ ds) ≡ taken (command_spelling version) cs + taken (command_spelling version) ds
taken_append version [] ds = omega arith
taken_append version (c ∷ cs) ds = omega (arith, taken_append version cs ds)
