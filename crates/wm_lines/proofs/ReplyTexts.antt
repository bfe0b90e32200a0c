-- The texts of replies.
use Rattle.std.proofs.Common.{◌≡◌, ◌<◌, ◌/◌, ◌%◌, ◌==◌, ℕ, Bool, zero, suc, cond, List, [], ◌∷◌, ◌++◌, true, false, refl, sym, ap, ◌∙◌, arith, append_assoc, codes, decimal, map, Option, Some, None}
use Rattle.std.specs.Map.{keys_of}
use Rattle.std.specs.Fmt.{digit_glyph, digits, digits_onto}
use Rattle.std.proofs.lemmas.Bool.Decides.{nat_tests}
use Rattle.json.specs.Print.{escape, escape_byte}
use Rattle.wm_clock.specs.Clocks.{clock_text}
use Rattle.wm_clock.specs.declared.clock_id.ClockId.{ClockId}
use Rattle.serde_json.specs.Data.{Data, Members, member, no_members, object, string}
use Rattle.serde_json.specs.View.{items_of}
use Rattle.serde_json.specs.Written.{compact_text, has_float, items_have_float, members_have_float}
use Rattle.serde_json.proofs.OnLiterals.{serde_json_on_literals}
use Rattle.wm_disk.specs.Refusals.{refusal_text}
use Rattle.wm_disk.specs.declared.refusal.Refusal.{Refusal}
use Rattle.wm_disk.specs.declared.refusal.Refusal.TheVariants.{BadLine, BadCommand, BadArguments, BadPath, NotWatched, NotReady, BadClock, BadExpression, BadField, BadTrigger, Full, StoreFailed, DeviceFailed, Damaged, Exhausted, NoMemory, TooMany, NoPlace, NoQuestion, Retired, OldVersion}
use Rattle.wm_names.specs.Paths.{Path}
use Rattle.wm_registry.specs.declared.root.Root.{Root}
use Rattle.wm_registry.specs.declared.command.Command.{Command}
use Rattle.wm_registry.specs.declared.command.Command.TheVariants as command
use Rattle.wm_registry.specs.declared.reply.Reply.{Reply}
use Rattle.wm_registry.specs.Triggers.{Definition}
use Rattle.wm_lines.proofs.KeptLemmas.{shown_no_float}
use Rattle.wm_since.specs.Rendered.{files_data}
use Rattle.wm_since.specs.declared.field.Field.{Field}
use Rattle.wm_since.specs.declared.query.Answer.{Answer}
use Rattle.wm_subs.specs.declared.subscribed.Subscribed.{Subscribed}
use Rattle.wm_lines.specs.AnswerTexts.{answer_tail, answer_text, due_tail, due_text}
use Rattle.wm_lines.specs.Replies.{answer_reply, clock_reply, command_reply, due_data, due_object, floor_reply, paths_of, roots_reply, line_text, query_reply, refusal_reply, stdin_text, trigger_data, triggers_reply, with_expression, with_file_count}

paths_no_float : (roots : List (Path × Root)) → items_have_float (items_of (paths_of roots)) ≡ false
paths_no_float [] = refl
paths_no_float (root ∷ roots) = paths_no_float roots

pub roots_no_float : (roots : List (Path × Root)) → has_float (roots_reply roots) ≡ false
roots_no_float roots = rw (paths_no_float roots) refl

-- the paths are the keys
pub paths_by_keys : (roots : List (Path × Root)) → paths_of roots ≡ map (λ path. string path) (keys_of roots)
paths_by_keys [] = refl
paths_by_keys (root ∷ roots) = ap (λ (rest : List Data). string root.0 ∷ rest) (paths_by_keys roots)

words_no_float : (words : List (List ℕ)) → items_have_float (items_of (map (λ word. string word) words)) ≡ false
words_no_float [] = refl
words_no_float (word ∷ words) = words_no_float words

with_no_float : (expression : Option (List ℕ)) (rest : Members) → members_have_float rest ≡ false → members_have_float (with_expression expression rest) ≡ false
with_no_float None rest h = h
with_no_float (Some text) rest h = rw (shown_no_float text, h) refl

count_no_float : (count : Option ℕ) (rest : Members) → members_have_float rest ≡ false → members_have_float (with_file_count count rest) ≡ false
count_no_float None rest h = h
count_no_float (Some n) rest h = h

trigger_no_float : (t : Definition) → has_float (trigger_data t) ≡ false
trigger_no_float t =
    let named : Members = member (codes "name") (string t.name) (member (codes "stdin") (string (stdin_text t.stdin)) no_members) in
    let words : items_have_float (items_of (map (λ word. string word) t.command)) ≡ false = words_no_float t.command in
    let rest : members_have_float (with_expression t.expression (with_file_count t.max_files_stdin named)) ≡ false =
    with_no_float t.expression (with_file_count t.max_files_stdin named) (count_no_float t.max_files_stdin named refl) in
    rw (words, rest) refl

each_no_float : (triggers : List Definition) → items_have_float (items_of (map trigger_data triggers)) ≡ false
each_no_float [] = refl
each_no_float (t ∷ ts) = rw (trigger_no_float t, each_no_float ts) refl

pub triggers_no_float : (triggers : List Definition) → has_float (triggers_reply triggers) ≡ false
triggers_no_float triggers = rw (each_no_float triggers) refl

pub command_no_float : (c : Command) (r : Reply) → has_float (command_reply c r) ≡ false
command_no_float command.Begin r = refl
command_no_float (command.Watch path) r = refl
command_no_float (command.WatchDel path) r = refl
command_no_float (command.Trigger path trigger) r = refl
command_no_float (command.TriggerDel path name) r = refl

-- the line of a refusal, around its text
pub refusal_line : (r : Refusal) → line_text (refusal_reply r) ≡ (codes "{\"error\":\"" ++ refusal_text r) ++ codes "\",\"version\":\"w1\"}\n"
unfolding line_text serde_json_on_literals
refusal_line BadLine = refl
refusal_line BadCommand = refl
refusal_line BadArguments = refl
refusal_line BadPath = refl
refusal_line NotWatched = refl
refusal_line NotReady = refl
refusal_line BadClock = refl
refusal_line BadExpression = refl
refusal_line BadField = refl
refusal_line BadTrigger = refl
refusal_line Full = refl
refusal_line StoreFailed = refl
refusal_line DeviceFailed = refl
refusal_line Damaged = refl
refusal_line Exhausted = refl
refusal_line NoMemory = refl
refusal_line TooMany = refl
refusal_line NoPlace = refl
refusal_line NoQuestion = refl
refusal_line Retired = refl
refusal_line OldVersion = refl

-- ---- the line of a clock

plain_glyph : (d : ℕ) → d < 10 → escape_byte (digit_glyph false d) ≡ digit_glyph false d ∷ []
unfolding escape_byte
plain_glyph d digit = grind (arith, nat_tests)

plain_onto : (k n : ℕ) (acc : List ℕ) → escape acc ≡ acc → escape (digits_onto k 10 false n acc) ≡ digits_onto k 10 false n acc
plain_onto zero n acc plain = plain
plain_onto (suc k) n acc plain =
    let glyph = digit_glyph false (n % 10) in
    let more : escape (glyph ∷ acc) ≡ glyph ∷ acc = λ i. plain_glyph (n % 10) (omega arith) i ++ plain i in
    elim (n / 10 == 0) as (λ b. escape (cond b (glyph ∷ acc) (digits_onto k 10 false (n / 10) (glyph ∷ acc))) ≡ cond b (glyph ∷ acc) (digits_onto k 10 false (n / 10) (glyph ∷ acc))) [
      | true ↦ more
      | false ↦ plain_onto k (n / 10) (glyph ∷ acc) more
    ]

plain_number : (n : ℕ) → escape (decimal n) ≡ decimal n
unfolding digits
plain_number n = plain_onto 64 n [] refl

escape_both : (xs ys : List ℕ) → escape (xs ++ ys) ≡ escape xs ++ escape ys
escape_both [] ys = refl
escape_both (x ∷ xs) ys = ap (λ (t : List ℕ). escape_byte x ++ t) (escape_both xs ys) ∙ sym (append_assoc (escape_byte x) (escape xs) (escape ys))

plain_clock : (c : ClockId) → escape (clock_text c) ≡ clock_text c
unfolding escape_byte
plain_clock c =
    ap (λ (x : List ℕ). 99 ∷ 58 ∷ x)
    (escape_both (decimal c.incarnation) (58 ∷ (decimal c.root ++ 58 ∷ decimal c.tick))
    ∙ (λ j. plain_number c.incarnation j ++ 58 ∷ (escape_both (decimal c.root) (58 ∷ decimal c.tick) ∙ (λ k. plain_number c.root k ++ 58 ∷ plain_number c.tick k)) j))

around : (e r t : List ℕ) → ((e ++ 34 ∷ []) ++ r) ++ t ≡ e ++ 34 ∷ (r ++ t)
around e r t = append_assoc (e ++ 34 ∷ []) r t ∙ append_assoc e (34 ∷ []) (r ++ t)

-- the line of a clock's text, as it is escaped
text_line : (s : List ℕ) → line_text (object (member (codes "clock") (string s) (member (codes "version") (string (codes "w1")) no_members))) ≡ (codes "{\"clock\":\"" ++ escape s) ++ codes "\",\"version\":\"w1\"}\n"
unfolding line_text serde_json_on_literals
text_line s = ap (λ (t : List ℕ). codes "{\"clock\":\"" ++ t) (around (escape s) (codes ",\"version\":\"w1\"}") (10 ∷ []))

-- the line of a clock, around its text
pub clock_line : (c : ClockId) → line_text (clock_reply c) ≡ (codes "{\"clock\":\"" ++ clock_text c) ++ codes "\",\"version\":\"w1\"}\n"
clock_line c = text_line (clock_text c) ∙ ap (λ (s : List ℕ). (codes "{\"clock\":\"" ++ s) ++ codes "\",\"version\":\"w1\"}\n") (plain_clock c)

-- ---- the line of a floor

pub floor_line : (floor : ℕ) → line_text (floor_reply floor) ≡ (codes "{\"floor\":" ++ decimal floor) ++ codes ",\"version\":\"w1\"}\n"
unfolding line_text serde_json_on_literals
floor_line floor = ap (λ (t : List ℕ). codes "{\"floor\":" ++ t) (append_assoc (decimal floor) (codes ",\"version\":\"w1\"}") (10 ∷ []))

-- ---- the reply to a question

around_files : (e m f t n : List ℕ) → ((e ++ 34 ∷ []) ++ (m ++ (f ++ t))) ++ n ≡ ((e ++ 34 ∷ m) ++ f) ++ (t ++ n)
around_files e m f t n = simp append_assoc

-- the reply to a question, around the text of its files
answer_around : (s : List ℕ) (files : Data) (fresh : Bool) → line_text (answer_reply s files fresh) ≡ (((codes "{\"clock\":\"" ++ escape s) ++ codes "\",\"files\":") ++ compact_text files) ++ answer_tail fresh
unfolding line_text serde_json_on_literals
answer_around s files true =
    ap (λ (t : List ℕ). codes "{\"clock\":\"" ++ t) (around_files (escape s) (codes ",\"files\":") (compact_text files) (codes ",\"is_fresh_instance\":true,\"version\":\"w1\"}") (10 ∷ []))
answer_around s files false =
    ap (λ (t : List ℕ). codes "{\"clock\":\"" ++ t) (around_files (escape s) (codes ",\"files\":") (compact_text files) (codes ",\"is_fresh_instance\":false,\"version\":\"w1\"}") (10 ∷ []))

pub answer_line : (fields : List Field) (a : Answer) → line_text (query_reply fields a) ≡ answer_text fields a
answer_line fields a =
    answer_around (clock_text a.clock) (files_data fields a) a.fresh
    ∙ ap (λ (s : List ℕ). (((codes "{\"clock\":\"" ++ s) ++ codes "\",\"files\":") ++ compact_text (files_data fields a)) ++ answer_tail a.fresh) (plain_clock a.clock)

-- ---- the line that is told unasked

around_texts : (e m f t r k n w l : List ℕ)
    → ((e ++ 34 ∷ []) ++ (m ++ (f ++ (t ++ 34 ∷ ((r ++ 34 ∷ []) ++ (k ++ 34 ∷ ((n ++ 34 ∷ []) ++ w))))))) ++ l
    ≡ ((e ++ 34 ∷ m) ++ f) ++ ((((t ++ 34 ∷ (r ++ 34 ∷ [])) ++ k) ++ 34 ∷ (n ++ 34 ∷ [])) ++ (w ++ l))
around_texts e m f t r k n w l = simp append_assoc

-- such a line, around the texts of its files, its root and its name
due_around : (s : List ℕ) (files : Data) (fresh : Bool) (root name : List ℕ) → line_text (due_object s files fresh root name) ≡ (((codes "{\"clock\":\"" ++ escape s) ++ codes "\",\"files\":") ++ compact_text files) ++ due_tail fresh root name
unfolding line_text serde_json_on_literals
due_around s files true root name =
    ap (λ (t : List ℕ). codes "{\"clock\":\"" ++ t) (around_texts (escape s) (codes ",\"files\":") (compact_text files) (codes ",\"is_fresh_instance\":true,\"root\":") (escape root) (codes ",\"subscription\":") (escape name) (codes ",\"unilateral\":true,\"version\":\"w1\"}") (10 ∷ []))
due_around s files false root name =
    ap (λ (t : List ℕ). codes "{\"clock\":\"" ++ t) (around_texts (escape s) (codes ",\"files\":") (compact_text files) (codes ",\"is_fresh_instance\":false,\"root\":") (escape root) (codes ",\"subscription\":") (escape name) (codes ",\"unilateral\":true,\"version\":\"w1\"}") (10 ∷ []))

pub due_line : {T : Type 0} (s : Subscribed T) (a : Answer) → line_text (due_data s a) ≡ due_text s a
due_line s a =
    due_around (clock_text a.clock) (files_data s.fields a) a.fresh s.root s.subscription.name
    ∙ ap (λ (c : List ℕ). (((codes "{\"clock\":\"" ++ c) ++ codes "\",\"files\":") ++ compact_text (files_data s.fields a)) ++ due_tail a.fresh s.root s.subscription.name) (plain_clock a.clock)
