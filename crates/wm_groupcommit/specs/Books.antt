-- The accepted commands in their order, and the answers to calls.
use Rattle.std.specs.Prelude.{◌≡◌, ◌≤◌, ◌+◌, ℕ, true, cond, List, [], ◌∷◌, length, map, take, Option, Some, None, slice_get, ◌⊎◌}
use Rattle.wm_disk.specs.declared.refusal.Refusal.{Refusal}
use Rattle.wm_disk.specs.declared.refusal.Refusal.TheVariants.{StoreFailed, DeviceFailed, Exhausted, NoMemory}
use Rattle.wm_checkpoint.specs.Machines.{replayed}
use Rattle.wm_registry.specs.declared.command.Command.{Command}
use Rattle.wm_registry.specs.declared.reply.Reply.{Reply}
use Rattle.wm_registry.specs.declared.reply.Reply.TheVariants.{Refused}
use Rattle.wm_registry.specs.Registry.{after_command, is_change}
use Rattle.wm_registry.specs.Roots.{State}
use Rattle.wm_store.specs.Batches.{in_batch}
use Rattle.wm_groupcommit.specs.declared.queued.Call.{Call}
use Rattle.wm_groupcommit.specs.declared.queued.Answer.{Answer}

abbrev pub commands_of : List Call → List Command
commands_of calls = map (λ c. c.command) calls

-- the registry after the first n of the list
abbrev pub state_at : State → List Call → ℕ → State
state_at base list n = replayed after_command base (commands_of (take n list))

-- a refusal that speaks of the store, the device, the slot's number or memory, and not of the registry
abbrev pub IsFailure : Refusal → Type 0
IsFailure e = (e ≡ StoreFailed) ⊎ (e ≡ DeviceFailed) ⊎ (e ≡ Exhausted) ⊎ (e ≡ NoMemory)

abbrev pub IsFailed : Reply → Type 0
IsFailed reply = (e : Refusal) × (reply ≡ Refused e) × IsFailure e

-- The reply is the registry's after the first `at` commands of the list, but 3 to a Begin; and an accepted command stands there.
abbrev pub RightReply : State → List Call → Answer → Type 0
RightReply base list a =
    (a.at ≤ length list) × (a.reply ≡ in_batch (state_at base list a.at) a.call.command)
    × (is_change a.reply ≡ true → slice_get list a.at ≡ Some a.call)

abbrev pub Right : State → List Call → Answer → Type 0
Right base list a = IsFailed a.reply ⊎ RightReply base list a

-- a registry that is shown, if one is, is that after so many of the list
abbrev pub IsShownAt : State → List Call → ℕ → Option State → Type 0
IsShownAt base list n None = Unit {0}
IsShownAt base list n (Some r) = (n ≤ length list) × (r ≡ state_at base list n)

abbrev pub AllRight : State → List Call → List Answer → Type 0
AllRight base list [] = Unit {0}
AllRight base list (a ∷ as') = Right base list a × AllRight base list as'

abbrev pub answer : Call → ℕ → Reply → Answer
answer c n r = record { call = c; at = n; reply = r }

-- the call, where it was accepted
abbrev pub kept_if : Call → Reply → List Call
kept_if c r = cond (is_change r) (c ∷ []) []

-- the calls that were accepted
abbrev pub accepted_calls : List Call → List Reply → List Call
accepted_calls [] rs = []
accepted_calls (c ∷ cs) [] = []
accepted_calls (c ∷ cs) (r ∷ rs) = cond (is_change r) (c ∷ accepted_calls cs rs) (accepted_calls cs rs)

-- how many commands stand after a call with this reply
abbrev pub at_next : ℕ → Reply → ℕ
at_next n r = cond (is_change r) (n + 1) n

-- the answers to these calls, the first of them after n commands
abbrev pub answers_from : ℕ → List Call → List Reply → List Answer
answers_from n [] rs = []
answers_from n (c ∷ cs) [] = []
answers_from n (c ∷ cs) (r ∷ rs) = answer c n r ∷ answers_from (at_next n r) cs rs

-- the same refusal for each of these calls
abbrev pub all_refused : ℕ → Refusal → List Call → List Answer
all_refused n e calls = map (λ c. answer c n (Refused e)) calls
