-- A registry in a file of version 2: its spelling is at most twice as long, and what it accepts in version 1 it accepts there too.
use Rattle.std.proofs.Common.{◌≡◌, ℕ, ◌+◌, ◌*◌, ◌≤◌, Bool, true, false, true≢false, cond, List, [], ◌∷◌, ◌++◌, length, flat_map, nat_lt, Option, Some, None, refl, sym, arith}
use Rattle.std.proofs.lemmas.Bool.{ltb-false, ltb-true}
use Rattle.std.proofs.lemmas.List.{length-append}
use Rattle.std.specs.List.{AllByRecursion, list_any}
use Rattle.std.specs.Option.{option_map_or}
use Rattle.byteorder.specs.Endian.{big_bytes}
use Rattle.wm_disk.specs.declared.refusal.Refusal.TheVariants.{Exhausted, Full, NotWatched, OldVersion, TooMany}
use Rattle.wm_wire.specs.Spelling.{text}
use Rattle.wm_registry.specs.EndingLaws.{small_ending}
use Rattle.wm_registry.specs.Endings.{count_fits}
use Rattle.wm_registry.specs.Limits.{max_roots, max_triggers}
use Rattle.wm_registry.specs.Registry.{after_command, changed, changes, is_change, reply_to_trigger, unless_full, watched}
use Rattle.wm_registry.specs.Roots.{State, in_version_2, is_watched, root_at, with_triggers}
use Rattle.wm_registry.specs.Spelling.{IsRoot, IsState, IsTrigger, root_spelling, state_spelling, trigger_spelling}
use Rattle.wm_registry.specs.StateLaws.{length-flat_map-at_most}
use Rattle.wm_registry.specs.TriggerLaws.{small_trigger}
use Rattle.wm_registry.specs.Triggers.{Definition, defined, has_trigger, same_definition, without}
use Rattle.wm_registry.specs.Versions.{max_state_bytes}
use Rattle.wm_registry.specs.declared.command.Command.{Command}
use Rattle.wm_registry.specs.declared.command.Command.TheVariants.{Begin, Watch, WatchDel, Trigger, TriggerDel}
use Rattle.wm_registry.specs.declared.reply.Reply.{Reply}
use Rattle.wm_registry.specs.declared.reply.Reply.TheVariants.{Changed, Replaced, Unchanged, Refused}
use Rattle.wm_registry.specs.declared.root.Root.{Root}
use Rattle.wm_registry.specs.declared.version.Version.{Version}
use Rattle.wm_registry.specs.declared.version.Version.TheVariants.{One, Two}
use Rattle.wm_registry.proofs.Placed.{length-trigger}

-- ---- lengths

-- a trigger's ending is no longer than what stands before it
double_trigger : (t : Definition) → length (trigger_spelling Two t) ≤ 2 * length (trigger_spelling One t)
double_trigger t =
    omega (
      arith,
      length-trigger One t,
      length-trigger Two t,
      small_ending Two t.max_files_stdin,
      length-append (big_bytes 4 (length t.name)) t.name,
      length-append (big_bytes 4 (length t.command)) (flat_map text t.command),
    )

-- items of at most twice the length each
double_all : {X : Type 0} (one two : X → List ℕ) → ((x : X) → length (two x) ≤ 2 * length (one x)) → (xs : List X) → length (flat_map two xs) ≤ 2 * length (flat_map one xs)
double_all one two each [] = omega arith
double_all one two each (x ∷ xs) =
    omega (arith, each x, double_all one two each xs, length-append (one x) (flat_map one xs), length-append (two x) (flat_map two xs))

length-root : (v : Version) (r : List ℕ × Root) → length (root_spelling v r) ≡ length (text r.0) + 12 + length (flat_map (trigger_spelling v) r.1.triggers)
length-root v r =
    let triggers = flat_map (trigger_spelling v) r.1.triggers in
    let count = big_bytes 4 (length r.1.triggers) in
    omega (
      arith,
      length-append count triggers,
      length-append (big_bytes 8 r.1.number) (count ++ triggers),
      length-append (text r.0) (big_bytes 8 r.1.number ++ (count ++ triggers)),
    )

double_root : (r : List ℕ × Root) → length (root_spelling Two r) ≤ 2 * length (root_spelling One r)
double_root r = omega (arith, length-root One r, length-root Two r, double_all (trigger_spelling One) (trigger_spelling Two) double_trigger r.1.triggers)

double_roots : (roots : List (List ℕ × Root)) → length (flat_map (root_spelling Two) roots) ≤ 2 * length (flat_map (root_spelling One) roots)
double_roots roots = double_all (root_spelling One) (root_spelling Two) double_root roots

pub length-state : (s : State) → length (state_spelling s) ≡ 20 + length (flat_map (root_spelling s.version) s.roots)
length-state s =
    let roots = flat_map (root_spelling s.version) s.roots in
    let count = big_bytes 4 (length s.roots) in
    omega (arith, length-append count roots, length-append (big_bytes 8 s.next) (count ++ roots), length-append (big_bytes 8 s.incarnation) (big_bytes 8 s.next ++ (count ++ roots)))

-- a state that has a place in a file of its version has one in a file of version 2
short_roots : (v : Version) (roots : List (List ℕ × Root)) → 20 + length (flat_map (root_spelling v) roots) ≤ max_state_bytes v → 20 + length (flat_map (root_spelling Two) roots) ≤ 4194291
short_roots One roots h = omega (arith, h, double_roots roots)
short_roots Two roots h = h

pub short_in_version_2 : (s : State) → length (state_spelling s) ≤ max_state_bytes s.version → length (state_spelling (in_version_2 s)) ≤ 4194291
short_in_version_2 s h =
    let here : 20 + length (flat_map (root_spelling s.version) s.roots) ≤ max_state_bytes s.version = omega (arith, h, length-state s) in
    omega (arith, short_roots s.version s.roots here, length-state (in_version_2 s))

-- ---- within the limits

place_in_two : (v : Version) (t : Definition) → IsTrigger v t → IsTrigger Two t
place_in_two v t h = record {
  name = h.name;
  command = h.command;
  program = h.program;
  expression = h.expression;
  ending = record { number = h.ending.number; some = h.ending.some; place = refl };
}

triggers_in_two : (v : Version) (ts : List Definition) → AllByRecursion (IsTrigger v) ts → AllByRecursion (IsTrigger Two) ts
triggers_in_two v [] h = tt
triggers_in_two v (t ∷ ts) h = (place_in_two v t h.0, triggers_in_two v ts h.1)

root_in_two : (v : Version) (r : List ℕ × Root) → IsRoot v r → IsRoot Two r
root_in_two v r h =
    let each = triggers_in_two v r.1.triggers h.triggers.each in
    record {
      path = h.path;
      some = h.some;
      number = h.number;
      triggers = record {
        count = h.triggers.count;
        below = h.triggers.below;
        each = each;
        short = omega (
          arith,
          h.triggers.count,
          length-flat_map-at_most (IsTrigger Two) (trigger_spelling Two) 21000 (small_trigger Two Two) r.1.triggers each,
          length-append (big_bytes 4 (length r.1.triggers)) (flat_map (trigger_spelling Two) r.1.triggers),
        );
      };
      apart = h.apart;
    }

roots_in_two : (v : Version) (rs : List (List ℕ × Root)) → AllByRecursion (IsRoot v) rs → AllByRecursion (IsRoot Two) rs
roots_in_two v [] h = tt
roots_in_two v (r ∷ rs) h = (root_in_two v r h.0, roots_in_two v rs h.1)

pub state_in_two : (s : State) → IsState s → IsState (in_version_2 s)
state_in_two s h =
    let short = short_in_version_2 s h.short in
    record {
      incarnation = h.incarnation;
      some = h.some;
      next = h.next;
      roots = record {
        count = h.roots.count;
        below = h.roots.below;
        each = roots_in_two s.version s.roots h.roots.each;
        short = omega (arith, short, length-state (in_version_2 s), length-append (big_bytes 4 (length s.roots)) (flat_map (root_spelling Two) s.roots));
      };
      apart = h.apart;
      short = short;
    }

-- so the roots are short in version 2 too
pub short_list : (s : State) → IsState s → length (flat_map (root_spelling Two) s.roots) ≤ 4194271
short_list s h = omega (arith, short_in_version_2 s h.short, length-state (in_version_2 s))

-- ---- commands

-- what isn't full in the version of the file isn't in version 2
not_full : (new : State) (r : Reply) → is_change (unless_full new r) ≡ true → is_change (unless_full (in_version_2 new) r) ≡ true
not_full new r h = by (nat_lt (max_state_bytes new.version) (length (state_spelling new))) refl h
  where
    in_two : (b : Bool) → nat_lt 4194291 (length (state_spelling (in_version_2 new))) ≡ b → length (state_spelling (in_version_2 new)) ≤ 4194291 → is_change r ≡ true → is_change (cond b (Refused Full) r) ≡ true
    in_two false is le change = change
    in_two true is le change = absurd (omega (arith, ltb-true _ _ is, le))

    by : (b : Bool) → nat_lt (max_state_bytes new.version) (length (state_spelling new)) ≡ b → is_change (cond b (Refused Full) r) ≡ true → is_change (unless_full (in_version_2 new) r) ≡ true
    by true is change = absurd (true≢false (sym change))
    by false is change = in_two (nat_lt 4194291 (length (state_spelling (in_version_2 new)))) refl (short_in_version_2 new (ltb-false _ _ is)) change

-- a root that may be watched
watch_in_two : (new : State) (there few left : Bool) → is_change (cond there Unchanged (cond few (cond left (unless_full new Changed) (Refused Exhausted)) (Refused TooMany))) ≡ true
    → is_change (cond there Unchanged (cond few (cond left (unless_full (in_version_2 new) Changed) (Refused Exhausted)) (Refused TooMany))) ≡ true
watch_in_two new true few left h = h
watch_in_two new false false left h = h
watch_in_two new false true false h = h
watch_in_two new false true true h = not_full new Changed h

-- a trigger that may be defined
trigger_in_two : (new : State) (placed same has few : Bool)
    → is_change (cond placed (cond same Unchanged (cond has (unless_full new Replaced) (cond few (unless_full new Changed) (Refused TooMany)))) (Refused OldVersion)) ≡ true
    → is_change (cond same Unchanged (cond has (unless_full (in_version_2 new) Replaced) (cond few (unless_full (in_version_2 new) Changed) (Refused TooMany)))) ≡ true
trigger_in_two new false same has few h = absurd (true≢false (sym h))
trigger_in_two new true true has few h = h
trigger_in_two new true false true few h = not_full new Replaced h
trigger_in_two new true false false true h = not_full new Changed h
trigger_in_two new true false false false h = h

define_in_two : (s : State) (path : List ℕ) (t : Definition) (o : Option Root) → is_change (option_map_or (reply_to_trigger s path t) o (Refused NotWatched)) ≡ true
    → is_change (option_map_or (reply_to_trigger (in_version_2 s) path t) o (Refused NotWatched)) ≡ true
define_in_two s path t None h = h
define_in_two s path t (Some root) h =
    trigger_in_two (with_triggers s path root (defined t root.triggers)) (count_fits s.version t.max_files_stdin) (list_any (same_definition t) root.triggers) (has_trigger t.name root.triggers) (nat_lt (length root.triggers) max_triggers) h

changes_in_two : (s : State) (c : Command) → changes s c ≡ true → changes (in_version_2 s) c ≡ true
changes_in_two s Begin h = h
changes_in_two s (Watch path) h = watch_in_two (watched s path) (is_watched path s) (nat_lt (length s.roots) max_roots) (nat_lt s.next 9223372036854775807) h
changes_in_two s (WatchDel path) h = h
changes_in_two s (Trigger path t) h = define_in_two s path t (root_at path s) h
changes_in_two s (TriggerDel path name) h = h

same_at : (s : State) (f : Root → State) (g : Root → State) → ((root : Root) → g root ≡ in_version_2 (f root)) → (o : Option Root) → option_map_or g o (in_version_2 s) ≡ in_version_2 (option_map_or f o s)
same_at s f g h None = refl
same_at s f g h (Some root) = h root

changed_in_two : (s : State) (c : Command) → changed (in_version_2 s) c ≡ in_version_2 (changed s c)
changed_in_two s Begin = refl
changed_in_two s (Watch path) = refl
changed_in_two s (WatchDel path) = refl
changed_in_two s (Trigger path t) = same_at s (λ root. with_triggers s path root (defined t root.triggers)) (λ root. with_triggers (in_version_2 s) path root (defined t root.triggers)) (λ root. refl) (root_at path s)
changed_in_two s (TriggerDel path name) = same_at s (λ root. with_triggers s path root (without name root.triggers)) (λ root. with_triggers (in_version_2 s) path root (without name root.triggers)) (λ root. refl) (root_at path s)

pub accepted_in_version_2 : (s : State) (c : Command) → changes s c ≡ true → (changes (in_version_2 s) c ≡ true) × (after_command (in_version_2 s) c ≡ in_version_2 (after_command s c))
accepted_in_version_2 s c h = (there, same (changes (in_version_2 s) c) there (changes s c) h)
  where
    there : changes (in_version_2 s) c ≡ true
    there = changes_in_two s c h

    same : (a : Bool) → a ≡ true → (b : Bool) → b ≡ true → cond a (changed (in_version_2 s) c) (in_version_2 s) ≡ in_version_2 (cond b (changed s c) s)
    same true p true q = changed_in_two s c
    same true p false q = absurd (true≢false (sym q))
    same false p b q = absurd (true≢false (sym p))
