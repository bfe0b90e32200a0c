-- What is read of a line is never a fault.
use Rattle.std.proofs.Common.{◌≡◌, ℕ, List, Bool, true, false, cond, refl}
use Rattle.std.specs.Prelude.{Option, Some, None, Result, Ok, Err, ◌&&◌, option_and_then, option_map, unwrap_or, is_none, codes}
use Rattle.std.specs.Str.{bytes_eq}
use Rattle.std.specs.List.{list_all}
use Rattle.serde_json.specs.Data.{Data}
use Rattle.serde_json.specs.Find.{at, as_str, get}
use Rattle.wm_disk.specs.declared.refusal.Refusal.{Refusal}
use Rattle.wm_names.specs.Paths.{is_root_path, is_rel_path}
use Rattle.wm_names.specs.declared.subtree.Subtree.{Subtree}
use Rattle.wm_clock.specs.declared.clock_spec.ClockSpec.{ClockSpec}
use Rattle.wm_disk.specs.declared.refusal.Refusal.TheVariants.{BadArguments, BadPath, BadTrigger}
use Rattle.wm_registry.specs.Triggers.{Definition, is_name, is_trigger}
use Rattle.wm_view.specs.Files.{Files}
use Rattle.wm_lines.specs.declared.query.Inquiry.{Inquiry}
use Rattle.wm_lines.specs.declared.request.Request.{Request}
use Rattle.wm_lines.specs.declared.request.Request.TheVariants.{Version, Watch, WatchDel, WatchList, TriggerList, TriggerDel, Listing, AgeOut, Clock, Unsubscribe}
use Rattle.wm_lines.specs.AgeOutLines.{age_out_with}
use Rattle.wm_lines.specs.Arguments.{only_root, root_named, text_at, count_of}
use Rattle.wm_lines.specs.ClockLines.{clock_named, may_be_clock, since_clock, since_root}
use Rattle.wm_lines.specs.ListingLines.{are_below, files_of, found, listing_with, subtree_of}
use Rattle.wm_lines.specs.PairLines.{Pair, observe_with, pairs_of}
use Rattle.wm_lines.specs.Lines.{command_of, plain_request, request_named, request_of, request_of_line, request_of_text, request_with, value_of_line}
use Rattle.wm_expr.specs.Readings.{expression_of}
use Rattle.wm_expr.specs.Terms.{Term}
use Rattle.wm_since.specs.Fields.{fields_of}
use Rattle.wm_since.specs.declared.field.Field.{Field}
use Rattle.wm_lines.specs.QueryLines.{clock_at, clock_key, clock_read, empty_key, expression_at, expression_key, expression_read, fields_at, fields_key, fields_read, has_query_keys, has_query_kinds, inquiry_in, inquiry_of, names_in, query_at, query_on, query_with}
use Rattle.wm_lines.specs.KeptExpressions.{is_expression, kept_text}
use Rattle.wm_lines.specs.Keys.{flag_in, object_at}
use Rattle.wm_lines.specs.SubscribeLines.{subscribe_at, subscribe_on, subscribe_with, unsubscribe_with}
use Rattle.wm_subs.specs.SubscriptionNames.{is_subscription_name}
use Rattle.wm_lines.specs.TriggerLines.{by_rules, definition_in, trigger_at, trigger_del_with, trigger_in, trigger_keeping, trigger_with}
use Rattle.wm_session.specs.session.Faults.{is_fault}

-- a result that tells a fault
abbrev pub tells_fault : {A : Type 0} → Result A Refusal → Bool
tells_fault (Ok x) = false
tells_fault (Err e) = is_fault e

pub either : {A : Type 0} (b : Bool) (x y : Result A Refusal) → tells_fault x ≡ false → tells_fault y ≡ false → tells_fault (cond b x y) ≡ false
either true x y p q = p
either false x y p q = q

-- ---- reading

plain_plain : (d : Data) (r : Request) → tells_fault (plain_request d r) ≡ false
plain_plain d r = either (is_none (at 1 d)) _ _ refl refl

named_plain : (o : Option (List ℕ)) → tells_fault (root_named o) ≡ false
named_plain None = refl
named_plain (Some path) = either (is_root_path path) _ _ refl refl

alone_plain : (d : Data) → tells_fault (only_root d) ≡ false
alone_plain d = either (is_none (at 2 d)) _ _ (named_plain (text_at 1 d)) refl

with_plain : (make : List ℕ → Request) (r : Result (List ℕ) Refusal) → tells_fault r ≡ false → tells_fault (request_with make r) ≡ false
with_plain make (Ok path) h = refl
with_plain make (Err e) h = h

observed_plain : (root : Option (List ℕ)) (pairs : Option (List Pair)) → tells_fault (observe_with root pairs) ≡ false
observed_plain (Some root) (Some pairs) = either (is_root_path root && list_all (λ p. is_rel_path p.0) pairs) _ _ refl refl
observed_plain _ _ = refl

found_plain : (root : List ℕ) (begun_at : ℕ) (subtree : Option Subtree) (files : Files) → tells_fault (found root begun_at subtree files) ≡ false
found_plain root begun_at None files = refl
found_plain root begun_at (Some subtree) files = either {A = Request} (is_root_path root && are_below subtree files) (Ok (Listing root begun_at (record { subtree = subtree; files = files }))) (Err BadPath) refl refl

aged_plain : (root : Option (List ℕ)) (age : Option ℕ) → tells_fault (age_out_with root age) ≡ false
aged_plain (Some root) (Some age) = either {A = Request} (is_root_path root) (Ok (AgeOut root age)) (Err BadPath) refl refl
aged_plain _ _ = refl

listed_plain : (root : Option (List ℕ)) (begun_at : Option ℕ) (top : Option (List ℕ)) (files : Option Files) → tells_fault (listing_with root begun_at top files) ≡ false
listed_plain (Some root) (Some begun_at) (Some top) (Some files) = found_plain root begun_at (subtree_of top) files
listed_plain _ _ _ _ = refl

clock_plain : (root : List ℕ) (clock : Option ClockSpec) → tells_fault (since_clock root clock) ≡ false
clock_plain root None = refl
clock_plain root (Some clock) = refl

since_plain : (may : Bool) (root : Option (List ℕ)) (clock : Option ClockSpec) → tells_fault (since_root may root clock) ≡ false
since_plain true (Some root) clock = either (is_root_path root) _ _ (clock_plain root clock) refl
since_plain _ _ clock = refl

clock_at_plain : (o : Option Data) → tells_fault (clock_at o) ≡ false
clock_at_plain None = refl
clock_at_plain (Some d) = clock_read_plain (clock_named d)
  where
    clock_read_plain : (o : Option ClockSpec) → tells_fault (clock_read o) ≡ false
    clock_read_plain None = refl
    clock_read_plain (Some c) = refl

expression_at_plain : (o : Option Data) → tells_fault (expression_at o) ≡ false
expression_at_plain None = refl
expression_at_plain (Some d) = expression_read_plain (expression_of d)
  where
    expression_read_plain : (o : Option Term) → tells_fault (expression_read o) ≡ false
    expression_read_plain None = refl
    expression_read_plain (Some x) = refl

fields_at_plain : (o : Option Data) → tells_fault (fields_at o) ≡ false
fields_at_plain None = refl
fields_at_plain (Some d) = fields_read_plain (option_and_then fields_of (names_in d))
  where
    fields_read_plain : (o : Option (List Field)) → tells_fault (fields_read o) ≡ false
    fields_read_plain None = refl
    fields_read_plain (Some fields) = refl

inquiry_of_plain : (b : Bool) (c : Result (Option ClockSpec) Refusal) (x : Result Term Refusal) (fields : Result (List Field) Refusal)
    → tells_fault c ≡ false → tells_fault x ≡ false → tells_fault fields ≡ false → tells_fault (inquiry_of b c x fields) ≡ false
inquiry_of_plain b (Err e) x fields p q r = p
inquiry_of_plain b (Ok c) (Err e) fields p q r = q
inquiry_of_plain b (Ok c) (Ok x) (Err e) p q r = r
inquiry_of_plain b (Ok c) (Ok x) (Ok fields) p q r = refl

query_at_plain : (root : List ℕ) (q : Result Inquiry Refusal) → tells_fault q ≡ false → tells_fault (query_at root q) ≡ false
query_at_plain root (Ok q) h = refl
query_at_plain root (Err e) h = h

query_on_plain : (root : List ℕ) (d : Data) (b : Option Bool) → tells_fault (query_on root d b) ≡ false
query_on_plain root d None = refl
query_on_plain root d (Some b) =
    either (is_root_path root) (query_at root (inquiry_in b d)) (Err BadPath)
    (query_at_plain root (inquiry_in b d)
    (inquiry_of_plain b (clock_at (clock_key d)) (expression_at (expression_key d)) (fields_at (fields_key d)) (clock_at_plain (clock_key d)) (expression_at_plain (expression_key d)) (fields_at_plain (fields_key d)))) refl

queried_plain : (root : Option (List ℕ)) (d : Option Data) → tells_fault (query_with root d) ≡ false
queried_plain (Some root) (Some d) = either (has_query_keys d && has_query_kinds d) (query_on root d (flag_in (empty_key d))) (Err BadArguments) (query_on_plain root d (flag_in (empty_key d))) refl
queried_plain _ _ = refl

subscribe_at_plain : (root name : List ℕ) (q : Result Inquiry Refusal) → tells_fault q ≡ false → tells_fault (subscribe_at root name q) ≡ false
subscribe_at_plain root name (Ok q) h = refl
subscribe_at_plain root name (Err e) h = h

subscribe_on_plain : (root name : List ℕ) (d : Data) (b : Option Bool) → tells_fault (subscribe_on root name d b) ≡ false
subscribe_on_plain root name d None = refl
subscribe_on_plain root name d (Some b) =
    either (is_root_path root) (subscribe_at root name (inquiry_in b d)) (Err BadPath)
    (subscribe_at_plain root name (inquiry_in b d)
    (inquiry_of_plain b (clock_at (clock_key d)) (expression_at (expression_key d)) (fields_at (fields_key d)) (clock_at_plain (clock_key d)) (expression_at_plain (expression_key d)) (fields_at_plain (fields_key d)))) refl

subscribed_plain : (root name : Option (List ℕ)) (d : Option Data) → tells_fault (subscribe_with root name d) ≡ false
subscribed_plain (Some root) (Some name) (Some d) =
    either (is_subscription_name name && (has_query_keys d && has_query_kinds d)) (subscribe_on root name d (flag_in (empty_key d))) (Err BadArguments) (subscribe_on_plain root name d (flag_in (empty_key d))) refl
subscribed_plain _ _ _ = refl

unsubscribed_plain : (root name : Option (List ℕ)) → tells_fault (unsubscribe_with root name) ≡ false
unsubscribed_plain (Some root) (Some name) =
    either {A = Request} (is_subscription_name name) (cond (is_root_path root) (Ok (Unsubscribe root name)) (Err BadPath)) (Err BadArguments) (either {A = Request} (is_root_path root) (Ok (Unsubscribe root name)) (Err BadPath) refl refl) refl
unsubscribed_plain _ _ = refl

rules_plain : (t : Option Definition) → tells_fault (by_rules t) ≡ false
rules_plain None = refl
rules_plain (Some t) = either (is_trigger t) _ _ refl refl

kept_plain : (o : Option Data) → tells_fault (kept_text o) ≡ false
kept_plain None = refl
kept_plain (Some d) = either (is_expression d) _ _ refl refl

keeping_plain : (text : Result (Option (List ℕ)) Refusal) (d : Data) → tells_fault text ≡ false → tells_fault (trigger_keeping text d) ≡ false
keeping_plain (Ok text) d h = rules_plain (definition_in text d)
keeping_plain (Err e) d h = h

trigger_plain : (d : Data) → tells_fault (trigger_in d) ≡ false
trigger_plain d = keeping_plain (kept_text (get (codes "expression") d)) d (kept_plain (get (codes "expression") d))

at_plain : (root : List ℕ) (r : Result Definition Refusal) → tells_fault r ≡ false → tells_fault (trigger_at root r) ≡ false
at_plain root (Ok t) h = refl
at_plain root (Err e) h = h

defined_plain : (root : Option (List ℕ)) (d : Option Data) → tells_fault (trigger_with root d) ≡ false
defined_plain (Some root) (Some d) = either (is_root_path root) (trigger_at root (trigger_in d)) (Err BadPath) (at_plain root (trigger_in d) (trigger_plain d)) refl
defined_plain _ _ = refl

deleted_plain : (root name : Option (List ℕ)) → tells_fault (trigger_del_with root name) ≡ false
deleted_plain (Some root) (Some name) =
    either {A = Request} (is_root_path root) (cond (is_name name) (Ok (TriggerDel root name)) (Err BadTrigger)) (Err BadPath) (either {A = Request} (is_name name) (Ok (TriggerDel root name)) (Err BadTrigger) refl refl) refl
deleted_plain _ _ = refl

-- whichever of two commands it is
either_command : {C : Type 0} (reads : C → Result Request Refusal) (b : Bool) (x y : C) → tells_fault (reads x) ≡ false → tells_fault (reads y) ≡ false → tells_fault (reads (cond b x y)) ≡ false
either_command reads true x y p q = p
either_command reads false x y p q = q

command_plain : (d : Data) (name : Option (List ℕ)) → tells_fault (request_named d (option_and_then command_of name)) ≡ false
command_plain d None = refl
command_plain d (Some name) =
    either_command (request_named d) (bytes_eq name (codes "version")) _ _ (plain_plain d Version)
    (either_command (request_named d) (bytes_eq name (codes "watch")) _ _ (with_plain (λ path. Watch path) (only_root d) (alone_plain d))
    (either_command (request_named d) (bytes_eq name (codes "watch-del")) _ _ (with_plain (λ path. WatchDel path) (only_root d) (alone_plain d))
    (either_command (request_named d) (bytes_eq name (codes "watch-list")) _ _ (plain_plain d WatchList)
    (either_command (request_named d) (bytes_eq name (codes "trigger")) _ _ (either (is_none (at 3 d)) _ _ (defined_plain (text_at 1 d) (object_at 2 d)) refl)
    (either_command (request_named d) (bytes_eq name (codes "trigger-list")) _ _ (with_plain (λ path. TriggerList path) (only_root d) (alone_plain d))
    (either_command (request_named d) (bytes_eq name (codes "trigger-del")) _ _ (either (is_none (at 3 d)) _ _ (deleted_plain (text_at 1 d) (text_at 2 d)) refl)
    (either_command (request_named d) (bytes_eq name (codes "observe")) _ _ (either (is_none (at 3 d)) _ _ (observed_plain (text_at 1 d) (option_and_then pairs_of (at 2 d))) refl)
    (either_command (request_named d) (bytes_eq name (codes "listing")) _ _ (either (is_none (at 5 d)) _ _ (listed_plain (text_at 1 d) (option_and_then count_of (at 2 d)) (text_at 3 d) (option_and_then files_of (at 4 d))) refl)
    (either_command (request_named d) (bytes_eq name (codes "age-out")) _ _ (either (is_none (at 3 d)) _ _ (aged_plain (text_at 1 d) (option_and_then count_of (at 2 d))) refl)
    (either_command (request_named d) (bytes_eq name (codes "clock")) _ _ (with_plain (λ path. Clock path) (only_root d) (alone_plain d))
    (either_command (request_named d) (bytes_eq name (codes "since")) _ _ (either (is_none (at 3 d)) _ _ (since_plain (unwrap_or (option_map may_be_clock (at 2 d)) false) (text_at 1 d) (option_and_then clock_named (at 2 d))) refl)
    (either_command (request_named d) (bytes_eq name (codes "query")) _ _ (either (is_none (at 3 d)) _ _ (queried_plain (text_at 1 d) (object_at 2 d)) refl)
    (either_command (request_named d) (bytes_eq name (codes "subscribe")) _ _ (either (is_none (at 4 d)) _ _ (subscribed_plain (text_at 1 d) (text_at 2 d) (object_at 3 d)) refl)
    (either_command (request_named d) (bytes_eq name (codes "unsubscribe")) _ _ (either (is_none (at 3 d)) _ _ (unsubscribed_plain (text_at 1 d) (text_at 2 d)) refl) refl))))))))))))))

text_plain : (o : Option Data) → tells_fault (request_of_text o) ≡ false
unfolding request_of
text_plain None = refl
text_plain (Some d) = command_plain d (option_and_then as_str (at 0 d))

pub line_plain : (line : List ℕ) → tells_fault (request_of_line line) ≡ false
line_plain line = text_plain (value_of_line line)
