-- What holds of the line of each reply.
use Rattle.std.specs.Prelude.{◌≡◌, ℕ, Bool, true, false, List}
use Rattle.serde_json.specs.Data.{Data}
use Rattle.wm_disk.specs.declared.refusal.Refusal.{Refusal}
use Rattle.wm_lines.specs.Replies.{answer_reply, clock_reply, due_object, floor_reply, line_text, refusal_reply, roots_reply, subscribe_reply, trigger_del_reply, trigger_reply, triggers_reply, unsubscribe_reply, version_reply, watch_del_reply, watch_reply}
use Rattle.wm_protocol.specs.Protocol.{is_refusal_line}

-- the line of none of these replies is taken for a refusal
abbrev pub NoneIsRefusal : {A : Type 0} → (A → Data) → Type 0
NoneIsRefusal reply = (a : _) → is_refusal_line (line_text (reply a)) ≡ false

-- the line of each refusal is taken for one, and that of no other reply
pub record RefusalsStandOut : Type 0 where
  pub refusals : (r : Refusal) → is_refusal_line (line_text (refusal_reply r)) ≡ true
  pub version : is_refusal_line (line_text version_reply) ≡ false
  pub watch : NoneIsRefusal watch_reply
  pub watch_del : NoneIsRefusal watch_del_reply
  pub roots : NoneIsRefusal roots_reply
  pub trigger : (disposition : List ℕ) → NoneIsRefusal (trigger_reply disposition)
  pub trigger_del : (is_deleted : Bool) → NoneIsRefusal (trigger_del_reply is_deleted)
  pub triggers : NoneIsRefusal triggers_reply
  pub clock : NoneIsRefusal clock_reply
  pub floor : NoneIsRefusal floor_reply
  pub answer : (clock : List ℕ) (files : Data) → NoneIsRefusal (answer_reply clock files)
  pub subscribe : (name : List ℕ) → NoneIsRefusal (λ clock. subscribe_reply clock name)
  pub unsubscribe : (is_deleted : Bool) → NoneIsRefusal (unsubscribe_reply is_deleted)
  pub due : (clock : List ℕ) (files : Data) (is_fresh : Bool) (root : List ℕ) → NoneIsRefusal (due_object clock files is_fresh root)
