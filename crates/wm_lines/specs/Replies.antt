-- The replies, as JSON values and as lines. The keys of each are in the order of their bytes.
use Rattle.std.specs.Prelude.{ℕ, Bool, true, List, [], ◌∷◌, ◌++◌, map, Option, Some, None, Result, Ok, Err, codes}
use Rattle.serde_json.specs.Data.{Data, Members, boolean, string, number, unsigned, array, object, member, no_members, put}
use Rattle.serde_json.specs.View.{items_of}
use Rattle.serde_json.specs.Written.{compact_text}
use Rattle.wm_disk.specs.Refusals.{refusal_text}
use Rattle.wm_disk.specs.declared.refusal.Refusal.{Refusal}
use Rattle.wm_clock.specs.Clocks.{clock_text}
use Rattle.wm_clock.specs.declared.clock_id.ClockId.{ClockId}
use Rattle.wm_since.specs.declared.field.Field.{Field}
use Rattle.wm_since.specs.Rendered.{files_data}
use Rattle.wm_since.specs.declared.query.Answer.{Answer}
use Rattle.wm_subs.specs.declared.subscribed.Subscribed.{Subscribed}
use Rattle.wm_registry.specs.declared.root.Root.{Root}
use Rattle.wm_registry.specs.declared.stdin.Stdin.{Stdin}
use Rattle.wm_registry.specs.declared.stdin.Stdin.TheVariants.{DevNull, NamePerLine}
use Rattle.wm_registry.specs.declared.command.Command.{Command}
use Rattle.wm_registry.specs.declared.command.Command.TheVariants as command
use Rattle.wm_registry.specs.declared.reply.Reply.{Reply}
use Rattle.wm_registry.specs.declared.reply.Reply.TheVariants as reply
use Rattle.wm_registry.specs.Registry.{is_change}
use Rattle.wm_registry.specs.Triggers.{Definition}
use Rattle.wm_names.specs.Paths.{Path}
use Rattle.wm_view.specs.declared.op.Op.{Op}
use Rattle.wm_view.specs.declared.op.Op.TheVariants as op
use Rattle.wm_lines.specs.declared.progress.Progress.{Progress}
use Rattle.wm_lines.specs.KeptExpressions.{expression_shown}

-- each reply has `"version":"w1"`
abbrev pub version_reply : Data
version_reply = object (member (codes "version") (string (codes "w1")) no_members)

abbrev pub refusal_reply : Refusal → Data
refusal_reply r = object (member (codes "error") (string (refusal_text r)) (member (codes "version") (string (codes "w1")) no_members))

abbrev pub watch_reply : List ℕ → Data
watch_reply path = object (member (codes "version") (string (codes "w1")) (member (codes "watch") (string path) no_members))

abbrev pub watch_del_reply : List ℕ → Data
watch_del_reply path =
    object (member (codes "root") (string path) (member (codes "version") (string (codes "w1")) (member (codes "watch-del") (boolean true) no_members)))

-- ---- triggers

-- what became of a trigger's definition
abbrev pub disposition_of : Reply → List ℕ
disposition_of reply.Changed = codes "created"
disposition_of reply.Replaced = codes "replaced"
disposition_of reply.Unchanged = codes "already_defined"
disposition_of (reply.Refused r) = codes "already_defined"

abbrev pub trigger_reply : List ℕ → List ℕ → Data
trigger_reply disposition name =
    object (member (codes "disposition") (string disposition) (member (codes "triggerid") (string name) (member (codes "version") (string (codes "w1")) no_members)))

abbrev pub trigger_del_reply : Bool → List ℕ → Data
trigger_del_reply is_deleted name =
    object (member (codes "deleted") (boolean is_deleted) (member (codes "trigger") (string name) (member (codes "version") (string (codes "w1")) no_members)))

-- the reply to a command, which wasn't refused
abbrev pub command_reply : Command → Reply → Data
command_reply command.Begin r = version_reply
command_reply (command.Watch path) r = watch_reply path
command_reply (command.WatchDel path) r = watch_del_reply path
command_reply (command.Trigger path trigger) r = trigger_reply (disposition_of r) trigger.name
command_reply (command.TriggerDel path name) r = trigger_del_reply (is_change r) name

abbrev pub stdin_text : Stdin → List ℕ
stdin_text DevNull = codes "/dev/null"
stdin_text NamePerLine = codes "NAME_PER_LINE"

-- an expression that is missing isn't shown
abbrev pub with_expression : Option (List ℕ) → Members → Members
with_expression None ms = ms
with_expression (Some text) ms = member (codes "expression") (expression_shown text) ms

-- nor is a number of files
abbrev pub with_file_count : Option ℕ → Members → Members
with_file_count None ms = ms
with_file_count (Some n) ms = member (codes "max_files_stdin") (number (unsigned n)) ms

-- members with one more under a key, where there is a value
abbrev pub with_some : List ℕ → Option Data → Members → Members
with_some key None ms = ms
with_some key (Some d) ms = put key d ms

abbrev pub trigger_data : Definition → Data
trigger_data t =
    object (member (codes "append_files") (boolean t.append_files)
    (member (codes "command") (array (items_of (map (λ word. string word) t.command)))
    (with_expression t.expression
    (with_file_count t.max_files_stdin
    (member (codes "name") (string t.name)
    (member (codes "stdin") (string (stdin_text t.stdin)) no_members))))))

abbrev pub triggers_reply : List Definition → Data
triggers_reply triggers =
    object (member (codes "triggers") (array (items_of (map trigger_data triggers))) (member (codes "version") (string (codes "w1")) no_members))

-- ---- questions

abbrev pub paths_of : List (Path × Root) → List Data
paths_of roots = map (λ root. string root.0) roots

abbrev pub roots_reply : List (Path × Root) → Data
roots_reply roots = object (member (codes "roots") (array (items_of (paths_of roots))) (member (codes "version") (string (codes "w1")) no_members))

abbrev pub clock_reply : ClockId → Data
clock_reply clock = object (member (codes "clock") (string (clock_text clock)) (member (codes "version") (string (codes "w1")) no_members))

abbrev pub floor_reply : ℕ → Data
floor_reply floor = object (member (codes "floor") (number (unsigned floor)) (member (codes "version") (string (codes "w1")) no_members))

-- where a view stands after an operation: an age-out tells its floor, the others its clock
abbrev pub operation_reply : Op → Progress → Data
operation_reply (op.Observe moment pairs) progress = clock_reply progress.clock
operation_reply (op.Recrawl moment begun_at found) progress = clock_reply progress.clock
operation_reply (op.AgeOut now age) progress = floor_reply progress.floor

abbrev pub answer_reply : List ℕ → Data → Bool → Data
answer_reply clock files is_fresh =
    object (member (codes "clock") (string clock)
    (member (codes "files") files
    (member (codes "is_fresh_instance") (boolean is_fresh)
    (member (codes "version") (string (codes "w1")) no_members))))

abbrev pub query_reply : List Field → Answer → Data
query_reply fields answer = answer_reply (clock_text answer.clock) (files_data fields answer) answer.fresh

-- ---- subscriptions

abbrev pub subscribe_reply : ClockId → List ℕ → Data
subscribe_reply clock name =
    object (member (codes "clock") (string (clock_text clock)) (member (codes "subscribe") (string name) (member (codes "version") (string (codes "w1")) no_members)))

abbrev pub unsubscribe_reply : Bool → List ℕ → Data
unsubscribe_reply is_deleted name =
    object (member (codes "deleted") (boolean is_deleted) (member (codes "unsubscribe") (string name) (member (codes "version") (string (codes "w1")) no_members)))

abbrev pub due_object : List ℕ → Data → Bool → List ℕ → List ℕ → Data
due_object clock files is_fresh root name =
    object (member (codes "clock") (string clock)
    (member (codes "files") files
    (member (codes "is_fresh_instance") (boolean is_fresh)
    (member (codes "root") (string root)
    (member (codes "subscription") (string name)
    (member (codes "unilateral") (boolean true)
    (member (codes "version") (string (codes "w1")) no_members)))))))

-- what is told unasked: an answer that is due to a subscription
abbrev pub due_data : {T : Type 0} → Subscribed T → Answer → Data
due_data s answer = due_object (clock_text answer.clock) (files_data s.fields answer) answer.fresh s.root s.subscription.name

-- a reply and its newline
unfoldable pub line_text : Data → List ℕ
line_text d = compact_text d ++ 10 ∷ []

-- what is written for a reply or a refusal
abbrev pub reply_bytes : Result Data Refusal → List ℕ
reply_bytes (Ok d) = line_text d
reply_bytes (Err r) = line_text (refusal_reply r)
