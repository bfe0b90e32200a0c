-- A command that is accepted makes a state within its limits of one within them.
use Rattle.std.proofs.Common.{◌≡◌, ℕ, ◌+◌, ◌-◌, ◌^◌, ◌<◌, ◌≤◌, Bool, true, false, cond, List, [], ◌∷◌, ◌++◌, length, nat_lt, ◌==◌, Option, Some, None, is_some, refl, sym, ap, subst, ◌∙◌, arith, true≢false}
use Rattle.std.proofs.lemmas.List.{map-append}
use Rattle.std.proofs.lemmas.Bool.{ltb-true, ltb-false, eqb-true}
use Rattle.std.proofs.lemmas.List.{length-append}
use Rattle.std.proofs.lemmas.Map.{none_passes_from_lookup, keys-set_value, length-set_value}
use Rattle.std.proofs.lemmas.Map.Steps.{set_value_same}
use Rattle.std.specs.List.{AllByRecursion, IsDistinct, list_any}
use Rattle.std.specs.Option.{option_map_or}
use Rattle.std.specs.Map.{keys_of, set_value, remove_entry}
use Rattle.std.specs.Str.{bytes_eq}
use Rattle.wm_disk.specs.declared.refusal.Refusal.TheVariants.{NotWatched, Full, Exhausted, OldVersion, TooMany}
use Rattle.wm_disk.specs.Counters.{max_counter}
use Rattle.wm_wire.specs.Spelling.{text, IsList, list_spelling}
use Rattle.wm_registry.specs.Limits.{max_roots, max_triggers}
use Rattle.wm_registry.specs.PathSpelling.{IsPath}
use Rattle.wm_registry.specs.declared.command.Command.TheVariants.{Watch, Trigger}
use Rattle.wm_registry.specs.declared.reply.Reply.{Reply}
use Rattle.wm_registry.specs.declared.reply.Reply.TheVariants.{Changed, Replaced, Unchanged, Refused}
use Rattle.wm_registry.specs.declared.root.Root.{Root}
use Rattle.wm_registry.specs.Registry.{is_change, reply_to, reply_to_trigger, unless_full, watched}
use Rattle.wm_registry.specs.Roots.{State, root_at, is_watched, with_triggers, without_root}
use Rattle.wm_registry.specs.Spelling.{IsTrigger, IsRoot, IsState, names_of, numbers_of, trigger_spelling, root_spelling, state_spelling}
use Rattle.wm_registry.specs.Triggers.{Definition, has_trigger, same_definition, defined, without}
use Rattle.wm_registry.proofs.Entries.{AllByRecursion-each, AllByRecursion-map, AllByRecursion-push, AllByRecursion-remove_entry, AllByRecursion-set_value, Found, IsDistinct-push, IsDistinct-remove_entry, found, length-remove_entry, map-set_value}
use Rattle.wm_registry.proofs.Lengths.{length-watched, length-with_triggers, length-without_root, length-triggers}
use Rattle.wm_registry.proofs.Names.{apart-defined, apart-without, bytes_eq-flip, length-defined, length-defined-there, length-without}
use Rattle.wm_registry.specs.Endings.{count_fits}
use Rattle.wm_registry.specs.Placing.{ArePlaced}
use Rattle.wm_registry.specs.StateLaws.{small_state}
use Rattle.wm_registry.specs.declared.version.Version.TheVariants.{Two}
use Rattle.wm_registry.proofs.Placed.{each_placed, length-all-two, placed_defined, placed_without}
use Rattle.wm_registry.specs.Versions.{max_state_bytes}

-- ---- what an acceptance says

full_not : (new : State) (reply : Reply) → is_change (unless_full new reply) ≡ true → length (state_spelling new) ≤ max_state_bytes new.version
full_not new reply h = by (nat_lt (max_state_bytes new.version) (length (state_spelling new))) refl h
  where
    by : (b : Bool) → nat_lt (max_state_bytes new.version) (length (state_spelling new)) ≡ b → is_change (cond b (Refused Full) reply) ≡ true → length (state_spelling new) ≤ max_state_bytes new.version
    by true t q = absurd (true≢false (sym q))
    by false t q = ltb-false _ _ t

-- what is known of a path that may be watched
pub record MayWatch (s : State) (path : List ℕ) : Type 0 where
  pub none : root_at path s ≡ None
  pub room : length s.roots < max_roots
  pub number : s.next < max_counter
  pub short : length (state_spelling (watched s path)) ≤ max_state_bytes s.version

is_none : {V : Type 0} (o : Option V) → is_some o ≡ false → o ≡ None
is_none None h = refl
is_none (Some x) h = absurd (true≢false h)

pub may_watch : (s : State) (path : List ℕ) → is_change (reply_to s (Watch path)) ≡ true → MayWatch s path
may_watch s path h = by (is_watched path s) refl (nat_lt (length s.roots) max_roots) refl (nat_lt s.next max_counter) refl h
  where
    by : (a : Bool) → is_watched path s ≡ a → (b : Bool) → nat_lt (length s.roots) max_roots ≡ b → (d : Bool) → nat_lt s.next max_counter ≡ d
        → is_change (cond a Unchanged (cond b (cond d (unless_full (watched s path) Changed) (Refused Exhausted)) (Refused TooMany))) ≡ true → MayWatch s path
    by true ta b tb d td q = absurd (true≢false (sym q))
    by false ta false tb d td q = absurd (true≢false (sym q))
    by false ta true tb false td q = absurd (true≢false (sym q))
    by false ta true tb true td q = record {
      none = is_none (root_at path s) ta;
      room = ltb-true _ _ tb;
      number = ltb-true _ _ td;
      short = full_not (watched s path) Changed q;
    }

-- and of a trigger that may be defined for a root
pub record MayDefine (s : State) (path : List ℕ) (trigger : Definition) (root : Root) : Type 0 where
  pub place : count_fits s.version trigger.max_files_stdin ≡ true
  pub count : length root.triggers ≤ max_triggers → length (defined trigger root.triggers) ≤ max_triggers
  pub short : length (state_spelling (with_triggers s path root (defined trigger root.triggers))) ≤ max_state_bytes s.version

may_define_for : (s : State) (path : List ℕ) (trigger : Definition) (root : Root) → is_change (reply_to_trigger s path trigger root) ≡ true → MayDefine s path trigger root
may_define_for s path trigger root h = by (count_fits s.version trigger.max_files_stdin) refl (list_any (same_definition trigger) root.triggers) (has_trigger trigger.name root.triggers) refl (nat_lt (length root.triggers) max_triggers) refl h
  where
    new : State
    new = with_triggers s path root (defined trigger root.triggers)

    by : (p : Bool) → count_fits s.version trigger.max_files_stdin ≡ p → (a b : Bool) → has_trigger trigger.name root.triggers ≡ b → (d : Bool) → nat_lt (length root.triggers) max_triggers ≡ d
        → is_change (cond p (cond a Unchanged (cond b (unless_full new Replaced) (cond d (unless_full new Changed) (Refused TooMany)))) (Refused OldVersion)) ≡ true → MayDefine s path trigger root
    by false tp a b tb d td q = absurd (true≢false (sym q))
    by true tp true b tb d td q = absurd (true≢false (sym q))
    by true tp false true tb d td q = record {
      place = tp;
      count = λ le. omega (arith, length-defined-there trigger root.triggers tb);
      short = full_not new Replaced q;
    }
    by true tp false false tb false td q = absurd (true≢false (sym q))
    by true tp false false tb true td q = record {
      place = tp;
      count = λ le. omega (arith, ltb-true _ _ td, length-defined trigger root.triggers);
      short = full_not new Changed q;
    }

pub may_define : (s : State) (path : List ℕ) (trigger : Definition) (root : Root) → root_at path s ≡ Some root → is_change (reply_to s (Trigger path trigger)) ≡ true → MayDefine s path trigger root
may_define s path trigger root at h =
    may_define_for s path trigger root (subst (λ o. is_change (option_map_or (reply_to_trigger s path trigger) o (Refused NotWatched)) ≡ true) at h)

-- ---- a root more

below_is_other : (next : ℕ) (roots : List (List ℕ × Root)) → AllByRecursion (λ r. r.1.number < next) roots → AllByRecursion (λ n. (n == next) ≡ false) (numbers_of roots)
below_is_other next roots h = AllByRecursion-map (λ r. r.1.number < next) (λ n. (n == next) ≡ false) (λ r. r.1.number) (λ r lt. differ (r.1.number == next) refl lt) roots h
  where
    differ : {n : ℕ} (b : Bool) → (n == next) ≡ b → n < next → b ≡ false
    differ true e lt = absurd (omega (arith, eqb-true _ _ e))
    differ false e lt = refl

other_paths : (path : List ℕ) (roots : List (List ℕ × Root)) → AllByRecursion (λ r. bytes_eq path r.0 ≡ false) roots → AllByRecursion (λ p. bytes_eq p path ≡ false) (keys_of roots)
other_paths path roots h = AllByRecursion-map (λ r. bytes_eq path r.0 ≡ false) (λ p. bytes_eq p path ≡ false) (λ r. r.0) (λ r miss. bytes_eq-flip path r.0 miss) roots h

new_root : (s : State) (path : List ℕ) → IsState s → IsPath path → IsRoot s.version (path, record { number = s.next; triggers = [] })
unfolding IsDistinct
new_root s path h p = record {
  path = p;
  some = h.some;
  number = h.next;
  triggers = record { count = omega arith; below = omega arith; each = tt; short = omega arith };
  apart = tt;
}

pub IsState-watched : (s : State) (path : List ℕ) → IsState s → IsPath path → is_change (reply_to s (Watch path)) ≡ true → IsState (watched s path)
IsState-watched s path h p accepted =
    let may = may_watch s path accepted in
    let root : Root = record { number = s.next; triggers = [] } in
    let row = s.roots ++ (path, root) ∷ [] in
    let count : length row ≤ max_roots = omega (arith, may.room, length-append s.roots ((path, root) ∷ [])) in
    record {
      incarnation = h.incarnation;
      some = omega arith;
      next = omega (arith, may.number);
      roots = record {
        count = count;
        below = omega (arith, count);
        each = AllByRecursion-push (IsRoot s.version) s.roots (path, root) h.roots.each (new_root s path h p);
        short = omega (arith, may.short, small_state s.version);
      };
      apart = record {
        below = AllByRecursion-push (λ r. r.1.number < s.next + 1) s.roots (path, root) (AllByRecursion-each (λ r. r.1.number < s.next) (λ r. r.1.number < s.next + 1) (λ r lt. omega arith) s.roots h.apart.below) (omega arith);
        paths = rw (map-append (λ r. r.0) s.roots ((path, root) ∷ [])) (IsDistinct-push bytes_eq (keys_of s.roots) path h.apart.paths (other_paths path s.roots (none_passes_from_lookup (bytes_eq path) s.roots may.none)));
        numbers = rw (map-append (λ r. r.1.number) s.roots ((path, root) ∷ [])) (IsDistinct-push ◌==◌ (numbers_of s.roots) s.next h.apart.numbers (below_is_other s.next s.roots h.apart.below));
      };
      short = may.short;
    }

-- ---- a root less

pub IsState-without_root : (s : State) (path : List ℕ) (root : Root) → root_at path s ≡ Some root → IsState s → IsState (without_root s path)
IsState-without_root s path root at h =
    let fewer = length-remove_entry (bytes_eq path) s.roots in
    let less = length-without_root s path root at in
    record {
      incarnation = h.incarnation;
      some = h.some;
      next = h.next;
      roots = record {
        count = omega (arith, fewer, h.roots.count);
        below = omega (arith, fewer, h.roots.below);
        each = AllByRecursion-remove_entry (bytes_eq path) (IsRoot s.version) s.roots h.roots.each;
        short = omega (arith, less, h.short, small_state s.version);
      };
      apart = record {
        below = AllByRecursion-remove_entry (bytes_eq path) (λ r. r.1.number < s.next) s.roots h.apart.below;
        paths = IsDistinct-remove_entry (bytes_eq path) bytes_eq (λ r. r.0) s.roots h.apart.paths;
        numbers = IsDistinct-remove_entry (bytes_eq path) ◌==◌ (λ r. r.1.number) s.roots h.apart.numbers;
      };
      short = omega (arith, less, h.short);
    }

-- what taking a root out of the map and its size off the whole makes of a registry
pub unwatched : (s : State) (path : List ℕ) (root : Root) (roots : List (List ℕ × Root)) (whole size : ℕ) → IsState s → whole ≡ length (state_spelling s) → root_at path s ≡ Some root → size ≡ length (root_spelling s.version (path, root)) → roots ≡ remove_entry (bytes_eq path) s.roots
    → IsState (record s { roots = roots }) × (whole - size ≡ length (state_spelling (record s { roots = roots })))
unwatched s path root roots whole size h is at own e =
    subst (λ rs. IsState (record s { roots = rs }) × (whole - size ≡ length (state_spelling (record s { roots = rs })))) (sym e)
    (IsState-without_root s path root at h, omega (arith, is, own, length-without_root s path root at))

-- ---- other triggers of a root

-- what is known of a root that is watched
pub root_known : (s : State) (path : List ℕ) (root : Root) → root_at path s ≡ Some root → IsState s → Found (bytes_eq path) (IsRoot s.version) root
root_known s path root at h = found (bytes_eq path) (IsRoot s.version) s.roots root at h.roots.each

-- each of its triggers has a place
pub root_placed : (s : State) (path : List ℕ) (root : Root) → root_at path s ≡ Some root → IsState s → ArePlaced s.version root.triggers
root_placed s path root at h = each_placed s.version root.triggers (root_known s path root at h).known.triggers.each

pub IsState-with_triggers : (s : State) (path : List ℕ) (root : Root) (triggers : List Definition) → root_at path s ≡ Some root → IsState s → IsList max_triggers (IsTrigger s.version) (trigger_spelling s.version) triggers → IsDistinct bytes_eq (names_of triggers)
    → length (state_spelling (with_triggers s path root triggers)) ≤ max_state_bytes s.version → IsState (with_triggers s path root triggers)
IsState-with_triggers s path root triggers at h list apart short =
    let new : Root = record root { triggers = triggers } in
    let same = length-set_value (bytes_eq path) s.roots new in
    record {
      incarnation = h.incarnation;
      some = h.some;
      next = h.next;
      roots = record {
        count = omega (arith, same, h.roots.count);
        below = omega (arith, same, h.roots.below);
        each = AllByRecursion-set_value (bytes_eq path) (IsRoot s.version) s.roots root new at (λ k r. record { path = r.path; some = r.some; number = r.number; triggers = list; apart = apart }) h.roots.each;
        short = omega (arith, short, small_state s.version);
      };
      apart = record {
        below = AllByRecursion-set_value (bytes_eq path) (λ r. r.1.number < s.next) s.roots root new at (λ k lt. lt) h.apart.below;
        paths = rw (keys-set_value (bytes_eq path) s.roots new) h.apart.paths;
        numbers = rw (map-set_value (bytes_eq path) (λ r. r.1.number) s.roots root new at (λ k. refl)) h.apart.numbers;
      };
      short = short;
    }

-- without one of them the spelling is no longer
pub short-without : (s : State) (path : List ℕ) (root : Root) (name : List ℕ) → root_at path s ≡ Some root → IsState s → length (state_spelling (with_triggers s path root (without name root.triggers))) ≤ max_state_bytes s.version
short-without s path root name at h =
    omega (arith, h.short, length-with_triggers s path root (without name root.triggers) at, length-without (trigger_spelling s.version) name root.triggers)

pub IsState-defined : (s : State) (path : List ℕ) (trigger : Definition) (root : Root) (triggers : List Definition) → root_at path s ≡ Some root → IsState s → is_change (reply_to s (Trigger path trigger)) ≡ true
    → triggers ≡ defined trigger root.triggers → IsList max_triggers (IsTrigger s.version) (trigger_spelling s.version) triggers → IsState (with_triggers s path root triggers)
IsState-defined s path trigger root triggers at h accepted e list =
    IsState-with_triggers s path root triggers at h list
    (subst (λ ts. IsDistinct bytes_eq (names_of ts)) (sym e) (apart-defined trigger root.triggers (root_known s path root at h).known.apart))
    (subst (λ ts. length (state_spelling (with_triggers s path root ts)) ≤ max_state_bytes s.version) (sym e) (may_define s path trigger root at accepted).short)

pub IsState-forgotten : (s : State) (path name : List ℕ) (root : Root) (triggers : List Definition) → root_at path s ≡ Some root → IsState s
    → triggers ≡ without name root.triggers → IsList max_triggers (IsTrigger s.version) (trigger_spelling s.version) triggers → IsState (with_triggers s path root triggers)
IsState-forgotten s path name root triggers at h e list =
    IsState-with_triggers s path root triggers at h list
    (subst (λ ts. IsDistinct bytes_eq (names_of ts)) (sym e) (apart-without name root.triggers (root_known s path root at h).known.apart))
    (subst (λ ts. length (state_spelling (with_triggers s path root ts)) ≤ max_state_bytes s.version) (sym e) (short-without s path root name at h))

-- a trigger that may be defined has a place, as those of its root have
pub placed_then : (s : State) (path : List ℕ) (trigger : Definition) (root : Root) (triggers : List Definition) → root_at path s ≡ Some root → IsState s → is_change (reply_to s (Trigger path trigger)) ≡ true → triggers ≡ defined trigger root.triggers → ArePlaced s.version triggers
placed_then s path trigger root triggers at h accepted e =
    subst (ArePlaced s.version) (sym e) (placed_defined s.version trigger root.triggers (root_placed s path root at h) (may_define s path trigger root at accepted).place)

pub placed_still : (s : State) (path name : List ℕ) (root : Root) (triggers : List Definition) → root_at path s ≡ Some root → IsState s → triggers ≡ without name root.triggers → ArePlaced s.version triggers
placed_still s path name root triggers at h e = subst (ArePlaced s.version) (sym e) (placed_without s.version name root.triggers (root_placed s path root at h))

-- a trigger that may be defined leaves the root's triggers within their limits
pub defined_fits : (s : State) (path : List ℕ) (trigger : Definition) (root : Root) → root_at path s ≡ Some root → IsState s → is_change (reply_to s (Trigger path trigger)) ≡ true
    → (length (defined trigger root.triggers) ≤ max_triggers) × (length (list_spelling (trigger_spelling Two) (defined trigger root.triggers)) < 2 ^ 32)
defined_fits s path trigger root at h accepted =
    let may = may_define s path trigger root at accepted in
    let count = may.count (root_known s path root at h).known.triggers.count in
    let more = length-all-two s.version (defined trigger root.triggers) (placed_defined s.version trigger root.triggers (root_placed s path root at h) may.place) in (
      count,
      omega (arith, may.short, count, more, length-with_triggers s path root (defined trigger root.triggers) at, length-triggers s path root at, small_state s.version),
    )

-- what other triggers of a root and their size make of a registry, where the map is written through
pub changed_triggers : (s : State) (path : List ℕ) (root : Root) (triggers : List Definition) (roots : List (List ℕ × Root)) (whole less more : ℕ) → whole ≡ length (state_spelling s) → root_at path s ≡ Some root
    → IsState (with_triggers s path root triggers) → less ≡ length (list_spelling (trigger_spelling s.version) root.triggers) → more ≡ length (list_spelling (trigger_spelling s.version) triggers) → roots ≡ set_value (bytes_eq path) s.roots (record root { triggers = triggers })
    → IsState (record s { roots = roots }) × (whole - less + more ≡ length (state_spelling (record s { roots = roots })))
changed_triggers s path root triggers roots whole less more is at h old new e =
    subst (λ rs. IsState (record s { roots = rs }) × (whole - less + more ≡ length (state_spelling (record s { roots = rs })))) (sym e)
    (h, omega (arith, is, old, new, length-with_triggers s path root triggers at, length-triggers s path root at))

-- what a path more makes of a registry
pub watched_more : (s : State) (path : List ℕ) (roots : List (List ℕ × Root)) (whole more : ℕ) → IsState s → whole ≡ length (state_spelling s) → IsPath path → is_change (reply_to s (Watch path)) ≡ true → more ≡ length (text path)
    → roots ≡ s.roots ++ (path, record { number = s.next; triggers = [] }) ∷ []
    → IsState (record { version = s.version; incarnation = s.incarnation; next = s.next + 1; roots = roots }) × (whole + (more + 12) ≡ length (state_spelling (record { version = s.version; incarnation = s.incarnation; next = s.next + 1; roots = roots })))
watched_more s path roots whole more h is p accepted own e =
    subst (λ rs. IsState (record { version = s.version; incarnation = s.incarnation; next = s.next + 1; roots = rs }) × (whole + (more + 12) ≡ length (state_spelling (record { version = s.version; incarnation = s.incarnation; next = s.next + 1; roots = rs })))) (sym e)
    (IsState-watched s path h p accepted, omega (arith, is, own, length-watched s path))

-- what writing the same triggers back makes of the roots
pub same_triggers : (s : State) (path : List ℕ) (root : Root) (triggers : List Definition) (roots : List (List ℕ × Root)) → root_at path s ≡ Some root → triggers ≡ root.triggers → roots ≡ set_value (bytes_eq path) s.roots (record root { triggers = triggers }) → roots ≡ s.roots
same_triggers s path root triggers roots at same e =
    e ∙ ap (λ (ts : List Definition). set_value (bytes_eq path) s.roots (record root { triggers = ts })) same ∙ set_value_same (bytes_eq path) s.roots root at
