-- A replay in two parts, in a file of each version, and what a start's command makes of a registry. What a file means of a registry: its
-- slot's number is bounded.
use Rattle.std.proofs.Common.{◌≡◌, inl, inr, ◌+◌, ◌≤◌, ℕ, zero, suc, Bool, true, false, cond, List, [], ◌∷◌, ◌++◌, take, refl, sym, ◌∙◌, ap, subst}
use Rattle.wm_checkpoint.specs.Numbers.{IsNumberedTo}
use Rattle.wm_checkpoint.specs.laws.Numbering.{number_within}
use Rattle.wm_registry.specs.VersionLaws.{same_version_after}
use Rattle.wm_registry.specs.Versions.{sizes_of}
use Rattle.wm_registry.specs.declared.version.Version.{Version}
use Rattle.wm_registry.specs.declared.version.Version.TheVariants.{Two}
use Rattle.wm_store.specs.Meant.{MeansAfter, MeansRegistry}
use Rattle.wm_registry.specs.Laws.{AcceptedInVersion2}
use Rattle.wm_world.specs.Worlds.{in_version, replay}
use Rattle.wm_registry.specs.declared.command.Command.{Command}
use Rattle.wm_registry.specs.declared.command.Command.TheVariants.{Begin}
use Rattle.wm_registry.specs.declared.reply.Reply.{Reply}
use Rattle.wm_registry.specs.Registry.{after_command, changed, changes, empty_registry, is_change}
use Rattle.wm_registry.specs.Roots.{State, in_version_2}
use Rattle.wm_checkpoint.specs.laws.Replays.{replayed_append}
use Rattle.wm_checkpoint.specs.Machines.{AllChange, replayed}
use Rattle.wm_store.specs.Batches.{AreAnswered, accepted_of}
use Rattle.wm_store.specs.laws.Replies.{changes_met}
use Rattle.wm_world.proofs.Batching.{none_accepted}

pub replay_more : (s : State) (cs ds : List Command) → replayed after_command s (cs ++ ds) ≡ replayed after_command (replayed after_command s cs) ds
replay_more s cs ds = replayed_append after_command s cs ds

-- a Begin that is accepted makes the next incarnation
pub began : (s : State) → changes s Begin ≡ true → (after_command s Begin).incarnation ≡ s.incarnation + 1
began s h = ap (λ b. (cond b (changed s Begin) s).incarnation) h

pub version_replayed : (cs : List Command) → (replay cs).version ≡ Two
version_replayed cs = same_version_after (empty_registry Two) cs

-- ---- accepted commands

-- each of the commands is accepted, one after another
abbrev pub Accepted : State → List Command → Type 0
Accepted s cs = AllChange after_command changes s cs

pub accepted_begins : (s : State) (n : ℕ) (cs : List Command) → Accepted s cs → Accepted s (take n cs)
accepted_begins s zero cs h = tt
accepted_begins s (suc n) [] h = tt
accepted_begins s (suc n) (c ∷ cs) h = (h.0, accepted_begins (after_command s c) n cs h.1)

-- those of a batch are
pub accepted_batch : (v : Version) (n room : ℕ) (s : State) (cs : List Command) (rs : List Reply) → AreAnswered v n room s cs rs → Accepted s (accepted_of cs rs)
accepted_batch v n room s [] rs h = tt
accepted_batch v n room s (c ∷ cs) [] h = tt
accepted_batch v n room s (c ∷ cs) (r ∷ rs) (inr (spent, accepted, e)) = subst (λ ds. Accepted s ds) (sym (ap (λ qs. accepted_of (c ∷ cs) qs) e ∙ none_accepted (c ∷ cs))) tt
accepted_batch v n room s (c ∷ cs) (r ∷ rs) (inl (is, rest)) = by (λ t. accepted_batch v n room t cs rs) (is_change r) refl rest
  where
    by : ((t : State) → AreAnswered v n room t cs rs → Accepted t (accepted_of cs rs)) → (b : Bool) → is_change r ≡ b → AreAnswered v n room (cond b (changed s c) s) cs rs → Accepted s (cond b (c ∷ accepted_of cs rs) (accepted_of cs rs))
    by again true t h = let yes : changes s c ≡ true = changes_met s c r is t in (yes, subst (λ b. Accepted (cond b (changed s c) s) (accepted_of cs rs)) (sym yes) (again (changed s c) h))
    by again false t h = again s h

-- ---- in each version

-- a state in its own version
pub in_own : (s : State) (v : Version) → s.version ≡ v → in_version v s ≡ s
in_own s v e = λ i. record s { version = sym e i }

module _ (law : AcceptedInVersion2) where
  both_ways : (s : State) (cs : List Command) → Accepted s cs → replayed after_command (in_version_2 s) cs ≡ in_version_2 (replayed after_command s cs)
  both_ways s [] h = refl
  both_ways s (c ∷ cs) h = ap (λ t. replayed after_command t cs) (law s c h.0).1 ∙ both_ways (after_command s c) cs h.1

  -- commands that are accepted in a file of the version
  pub grown : (v : Version) (kept more : List Command) → Accepted (in_version v (replay kept)) more → in_version v (replay (kept ++ more)) ≡ replayed after_command (in_version v (replay kept)) more
  grown v kept more h =
      let s : State = in_version v (replay kept) in
      let two : in_version_2 s ≡ replay kept = in_own (replay kept) Two (version_replayed kept) in
      let more_two : replay (kept ++ more) ≡ in_version_2 (replayed after_command s more) = replay_more (empty_registry Two) kept more ∙ ap (λ t. replayed after_command t more) (sym two) ∙ both_ways s more h in
      ap (in_version v) more_two ∙ in_own (replayed after_command s more) v (same_version_after s more)

  -- what means the registry after a prefix of accepted commands
  pub means_grown : (v : Version) (kept more : List Command) → Accepted (in_version v (replay kept)) more → (c : List ℕ) → (m : MeansAfter (in_version v (replay kept)) more c) → MeansRegistry (in_version v (replay (kept ++ take m.count more))) c
  means_grown v kept more h c m = subst (λ r. MeansRegistry r c) (sym (grown v kept (take m.count more) (accepted_begins (in_version v (replay kept)) m.count more h))) m.means

-- ---- contents

-- the slots' numbers bound the number of the registry that the file means
pub number_meant : (found : State) (v : Version) → found.version ≡ v → (content : List ℕ) (m : MeansRegistry found content) (n : ℕ) → IsNumberedTo (sizes_of v) n content → m.number ≤ n
number_meant found v at content m n all = number_within content m n (subst (λ (u : Version). IsNumberedTo (sizes_of u) n content) (sym at) all)
