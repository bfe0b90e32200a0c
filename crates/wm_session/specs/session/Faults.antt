-- How a line was met: as it is defined, or by a fault, which comes where its cause comes.
use Rattle.std.specs.Prelude.{◌≡◌, ◌≤◌, ℕ, List, ◌++◌, length, Bool, true, false, if◌then◌else◌, Result, Err}
use Rattle.serde_json.specs.Data.{Data}
use Rattle.wm_disk.specs.Contents.{Rose}
use Rattle.wm_disk.specs.declared.refusal.Refusal.{Refusal}
use Rattle.wm_disk.specs.declared.refusal.Refusal.TheVariants.{DeviceFailed, Exhausted, NoMemory}
use Rattle.wm_disk.specs.Counters.{max_counter}
use Rattle.wm_registry.specs.declared.command.Command.{Command}
use Rattle.wm_registry.specs.declared.reply.Reply.{Reply}
use Rattle.wm_registry.specs.declared.reply.Reply.TheVariants as reply
use Rattle.wm_registry.specs.Registry.{is_change}
use Rattle.wm_lines.specs.Lines.{request_of_line}
use Rattle.wm_lines.specs.Replies.{reply_bytes}
use Rattle.wm_session.specs.session.Sessions.{SessionState, WithSubscriptions, SubscriptionList, line_met, reply_to_command, state_after_command, subscriptions_after}
use Rattle.wm_session.specs.session.Dues.{after_told, are_all_found, told_lines}

-- what lines read and change of a front, how often the device under it has failed, and the number of the slot in use
pub record FrontState : Type 0 where
  pub state : SessionState
  pub failures : ℕ
  pub number : ℕ

-- How a line was met: as it is defined; or the device failed, and then the store has failed; or memory ran out, and then nothing
-- changed; or the slot's number was spent, and then nothing changed.
pub data Way : Type 0 where
  Defined : Way
  Device : Way
  Memory : Way
  Spent : Way

-- no number is taken back
pub record Lasts (old new : FrontState) : Type 0 where
  pub failures : old.failures ≤ new.failures
  pub number : old.number ≤ new.number

-- the way has its cause; the device is asked only for a command that is to be accepted
abbrev pub HasCause : Way → Bool → FrontState → FrontState → Type 0
HasCause Defined accepts old new = Lasts old new
HasCause Device accepts old new = (accepts ≡ true) × (old.state.has_failed ≡ false) × Lasts old new × Rose old.failures new.failures
HasCause Memory accepts old new = Lasts old new × (new.failures ≡ old.failures)
HasCause Spent accepts old new = (accepts ≡ true) × Lasts old new × (new.failures ≡ old.failures) × (max_counter ≤ new.number)

-- what is told in place of what is defined, and the state after it
abbrev pub refusal_or : {A : Type 0} → Way → Result A Refusal → Result A Refusal
refusal_or Defined defined = defined
refusal_or Device defined = Err DeviceFailed
refusal_or Memory defined = Err NoMemory
refusal_or Spent defined = Err Exhausted

abbrev pub reply_or : Way → Reply → Reply
reply_or Defined defined = defined
reply_or Device defined = reply.Refused DeviceFailed
reply_or Memory defined = reply.Refused NoMemory
reply_or Spent defined = reply.Refused Exhausted

abbrev pub state_or : Way → SessionState → SessionState → SessionState
state_or Defined defined old = defined
state_or Device defined old = record old { has_failed = true }
state_or Memory defined old = old
state_or Spent defined old = old

-- a front met a command
pub record Submits (old : FrontState) (command : Command) (result : Reply) (new : FrontState) : Type 0 where
  pub way : Way
  pub cause : HasCause way (is_change (reply_to_command old.state command)) old new
  pub reply_is : result ≡ reply_or way (reply_to_command old.state command)
  pub state_is : new.state ≡ state_or way (state_after_command old.state command) old.state

-- one for a fault
abbrev pub faults_of : Way → ℕ
faults_of Defined = 0
faults_of Device = 1
faults_of Memory = 1
faults_of Spent = 0

-- how a line was met, and for which of the subscriptions after it memory was found
pub record Meeting : Type 0 where
  pub way : Way
  pub finds : List Bool

-- one where the line or what is due after it met a fault
abbrev pub faults_at : Meeting → ℕ
faults_at meeting = if are_all_found meeting.finds then faults_of meeting.way else 1

-- what lines see of it
abbrev pub seen : WithSubscriptions FrontState → WithSubscriptions SessionState
seen s = record { front = s.front.state; subscriptions = s.subscriptions }

-- the reply to a line that was met in this way
abbrev pub told_by : Way → WithSubscriptions FrontState → ℕ → List ℕ → Result Data Refusal
told_by way old moment line = refusal_or way (line_met (seen old) moment line).reply

-- the subscriptions after that reply
abbrev pub subscriptions_told : Way → WithSubscriptions FrontState → ℕ → List ℕ → SubscriptionList
subscriptions_told way old moment line = subscriptions_after (told_by way old moment line) (seen old) (request_of_line line)

-- the line was answered with these bytes: its reply, and what is due after it
pub record RepliesTo (meeting : Meeting) (old : WithSubscriptions FrontState) (moment : ℕ) (line bytes : List ℕ) (new : WithSubscriptions FrontState) : Type 0 where
  pub cause : HasCause meeting.way (line_met (seen old) moment line).accepts old.front new.front
  pub state_is : new.front.state ≡ state_or meeting.way (line_met (seen old) moment line).state old.front.state
  pub marks : length meeting.finds ≡ length (subscriptions_told meeting.way old moment line)
  pub bytes_are : bytes ≡ reply_bytes (told_by meeting.way old moment line) ++ told_lines new.front.state meeting.finds (subscriptions_told meeting.way old moment line)
  pub subscriptions_are : new.subscriptions ≡ after_told new.front.state meeting.finds (subscriptions_told meeting.way old moment line)

-- a refusal that comes where its cause comes, and not by what is defined
abbrev pub is_fault : Refusal → Bool
is_fault DeviceFailed = true
is_fault NoMemory = true
is_fault _ = false
