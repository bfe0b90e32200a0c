-- A command that is accepted makes another state of the one that it meets.
-- For proofs and the ghost members of impls: a reader of definitions may skip it.
use Rattle.std.proofs.Common.{◌≡◌, ◌≢◌, ℕ, ◌+◌, Bool, true, false, cond, ◌==◌, ◌||◌, List, [], ◌∷◌, length, nat_lt, Option, Some, None, is_some, refl, sym, ap, subst, ◌∙◌, arith, true≢false}
use Rattle.std.proofs.lemmas.Bool.{and_from, or_right}
use Rattle.std.proofs.lemmas.Slice.Eq.{bytes_eq-Decides}
use Rattle.std.proofs.lemmas.Cmp.{nat_eq_equiv}
use Rattle.std.specs.Cmp.Lexicographic.{pointwise_decides}
use Rattle.std.specs.List.{list_any}
use Rattle.std.specs.Map.{lookup, set_value, remove_entry}
use Rattle.std.specs.Option.{option_eq, option_map_or}
use Rattle.std.specs.Str.{bytes_eq}
use Rattle.wm_disk.specs.declared.refusal.Refusal.TheVariants.{NotWatched, OldVersion, TooMany}
use Rattle.wm_registry.specs.Endings.{count_fits}
use Rattle.wm_registry.specs.Limits.{max_triggers}
use Rattle.wm_registry.specs.Registry.{after_command, changed, changes, is_change, reply_to_trigger, unless_full}
use Rattle.wm_registry.specs.Roots.{State, root_at, is_watched, with_triggers}
use Rattle.wm_registry.specs.Triggers.{Definition, defined, has_trigger, is_named, same_definition, same_flag, same_stdin, without}
use Rattle.wm_registry.specs.declared.command.Command.{Command}
use Rattle.wm_registry.specs.declared.command.Command.TheVariants.{Begin, Watch, WatchDel, Trigger, TriggerDel}
use Rattle.wm_registry.specs.declared.reply.Reply.{Reply}
use Rattle.wm_registry.specs.declared.reply.Reply.TheVariants.{Changed, Replaced, Unchanged, Refused}
use Rattle.wm_registry.specs.declared.root.Root.{Root}
use Rattle.wm_registry.specs.declared.stdin.Stdin.{Stdin}
use Rattle.wm_registry.specs.declared.stdin.Stdin.TheVariants.{DevNull, NamePerLine}

-- ---- a definition equals itself

flag_itself : (a : Bool) → same_flag a a ≡ true
flag_itself true = refl
flag_itself false = refl

stdin_itself : (a : Stdin) → same_stdin a a ≡ true
stdin_itself DevNull = refl
stdin_itself NamePerLine = refl

expression_itself : (a : Option (List ℕ)) → option_eq bytes_eq a a ≡ true
expression_itself None = refl
expression_itself (Some x) = (bytes_eq-Decides x x).1 refl

count_itself : (a : Option ℕ) → option_eq ◌==◌ a a ≡ true
count_itself None = refl
count_itself (Some n) = nat_eq_equiv.refl n

pub itself : (a : Definition) → same_definition a a ≡ true
itself a =
    and_from _ _ ((bytes_eq-Decides a.name a.name).1 refl)
    (and_from _ _ ((pointwise_decides bytes_eq-Decides a.command a.command).1 refl)
    (and_from _ _ (expression_itself a.expression)
    (and_from _ _ (flag_itself a.append_files)
    (and_from _ _ (stdin_itself a.stdin) (count_itself a.max_files_stdin)))))

-- ---- a trigger that is put, and one that goes

-- where the triggers are the same with this one, an equal one was there
there_already : (t : Definition) (ts : List Definition) → defined t ts ≡ ts → list_any (same_definition t) ts ≡ true
there_already t [] e = absurd cc
there_already t (x ∷ ts) e = by (λ q. there_already t ts q) (is_named t.name x) e
  where
    by : (defined t ts ≡ ts → list_any (same_definition t) ts ≡ true) → (b : Bool) → cond b (t ∷ ts) (x ∷ defined t ts) ≡ x ∷ ts → (same_definition t x || list_any (same_definition t) ts) ≡ true
    by rest true q = let same : t ≡ x = cc in ap (λ b. b || list_any (same_definition t) ts) (subst (λ d. same_definition t d ≡ true) same (itself t))
    by rest false q = let same : defined t ts ≡ ts = cc in or_right (same_definition t x) (list_any (same_definition t) ts) (rest same)

one_less : (name : List ℕ) (ts : List Definition) → has_trigger name ts ≡ true → length (without name ts) + 1 ≡ length ts
one_less name [] h = absurd (true≢false (sym h))
one_less name (x ∷ ts) h = by (λ q. one_less name ts q) (is_named name x) h
  where
    by : (has_trigger name ts ≡ true → length (without name ts) + 1 ≡ length ts) → (b : Bool) → (b || has_trigger name ts) ≡ true → length (cond b ts (x ∷ without name ts)) + 1 ≡ length (x ∷ ts)
    by rest true q = omega arith
    by rest false q = omega (arith, rest q)

-- ---- a root that goes, and one of other triggers

module _ {K X : Type 0} (test : K → Bool) where
  fewer : (es : List (K × X)) → is_some (lookup test es) ≡ true → length (remove_entry test es) + 1 ≡ length es
  fewer [] h = absurd (true≢false (sym h))
  fewer (x ∷ es) h = by (λ q. fewer es q) (test x.0) h
    where
      by : (is_some (lookup test es) ≡ true → length (remove_entry test es) + 1 ≡ length es) → (b : Bool) → is_some (cond b (Some x.1) (lookup test es)) ≡ true → length (cond b es (x ∷ remove_entry test es)) + 1 ≡ length (x ∷ es)
      by rest true q = omega arith
      by rest false q = omega (arith, rest q)

  -- a value that leaves the entries as they are is the one that was there
  was_there : (es : List (K × X)) (v w : X) → lookup test es ≡ Some v → set_value test es w ≡ es → w ≡ v
  was_there [] v w at e = absurd cc
  was_there (x ∷ es) v w at e = by (λ a q. was_there es v w a q) (test x.0) at e
    where
      by : (lookup test es ≡ Some v → set_value test es w ≡ es → w ≡ v) → (b : Bool) → cond b (Some x.1) (lookup test es) ≡ Some v → cond b ((x.0, w) ∷ es) (x ∷ set_value test es w) ≡ x ∷ es → w ≡ v
      by rest true a q =
          let here : (x.0, w) ≡ x = cc in
          let found : x.1 ≡ v = cc in
          ap (λ (p : K × X). p.1) here ∙ found
      by rest false a q = let same : set_value test es w ≡ es = cc in rest a same

-- ---- commands

same_triggers : (s : State) (path : List ℕ) (root : Root) (triggers : List Definition) → root_at path s ≡ Some root → with_triggers s path root triggers ≡ s → triggers ≡ root.triggers
same_triggers s path root triggers at e =
    ap (λ (r : Root). r.triggers) (was_there (bytes_eq path) s.roots root (record root { triggers = triggers }) at (ap (λ (t : State). t.roots) e))

-- of a command on the root at the path, which there is
at_root : (s : State) (path : List ℕ) (reply : Root → Reply) (f : Root → State) → is_change (option_map_or reply (root_at path s) (Refused NotWatched)) ≡ true
    → ((root : Root) → root_at path s ≡ Some root → is_change (reply root) ≡ true → f root ≢ s) → option_map_or f (root_at path s) s ≢ s
at_root s path reply f h each = by (root_at path s) refl h
  where
    by : (o : Option Root) → root_at path s ≡ o → is_change (option_map_or reply o (Refused NotWatched)) ≡ true → option_map_or f o s ≢ s
    by None a q = absurd (true≢false (sym q))
    by (Some root) a q = each root a q

-- a trigger that is accepted isn't there yet
not_there : (s : State) (path : List ℕ) (t : Definition) (root : Root) → is_change (reply_to_trigger s path t root) ≡ true → list_any (same_definition t) root.triggers ≡ false
not_there s path t root h = by (count_fits s.version t.max_files_stdin) (list_any (same_definition t) root.triggers) h
  where
    new : State
    new = with_triggers s path root (defined t root.triggers)

    by : (p b : Bool) → is_change (cond p (cond b Unchanged (cond (has_trigger t.name root.triggers) (unless_full new Replaced) (cond (nat_lt (length root.triggers) max_triggers) (unless_full new Changed) (Refused TooMany)))) (Refused OldVersion)) ≡ true → b ≡ false
    by false b q = absurd (true≢false (sym q))
    by true true q = absurd (true≢false (sym q))
    by true false q = refl

defined_is_other : (s : State) (path : List ℕ) (t : Definition) (root : Root) → root_at path s ≡ Some root → is_change (reply_to_trigger s path t root) ≡ true → with_triggers s path root (defined t root.triggers) ≢ s
defined_is_other s path t root at h e =
    true≢false (sym (there_already t root.triggers (same_triggers s path root (defined t root.triggers) at e)) ∙ not_there s path t root h)

without_is_other : (s : State) (path name : List ℕ) (root : Root) → root_at path s ≡ Some root → is_change (cond (has_trigger name root.triggers) Changed Unchanged) ≡ true → with_triggers s path root (without name root.triggers) ≢ s
without_is_other s path name root at h e =
    let less = one_less name root.triggers (by (has_trigger name root.triggers) h) in
    omega (arith, less, ap length (same_triggers s path root (without name root.triggers) at e))
  where
    by : (b : Bool) → is_change (cond b Changed Unchanged) ≡ true → b ≡ true
    by true q = refl
    by false q = absurd (true≢false (sym q))

watched_then : (s : State) (path : List ℕ) → changes s (WatchDel path) ≡ true → is_watched path s ≡ true
watched_then s path h = by (is_watched path s) h
  where
    by : (b : Bool) → is_change (cond b Changed (Refused NotWatched)) ≡ true → b ≡ true
    by true q = refl
    by false q = absurd (true≢false (sym q))

changed_is_other : (s : State) (c : Command) → changes s c ≡ true → changed s c ≢ s
changed_is_other s Begin h e = omega (arith, ap (λ (t : State). t.incarnation) e)
changed_is_other s (Watch path) h e = omega (arith, ap (λ (t : State). t.next) e)
changed_is_other s (WatchDel path) h e =
    omega (arith, fewer (bytes_eq path) s.roots (watched_then s path h), ap (λ (t : State). length t.roots) e)
changed_is_other s (Trigger path trigger) h e =
    at_root s path (reply_to_trigger s path trigger) (λ root. with_triggers s path root (defined trigger root.triggers)) h (λ root at q. defined_is_other s path trigger root at q) e
changed_is_other s (TriggerDel path name) h e =
    at_root s path (λ root. cond (has_trigger name root.triggers) Changed Unchanged) (λ root. with_triggers s path root (without name root.triggers)) h (λ root at q. without_is_other s path name root at q) e

pub accepted_changes : (s : State) (c : Command) → changes s c ≡ true → after_command s c ≢ s
accepted_changes s c h e = changed_is_other s c h (sym (ap (λ b. cond b (changed s c) s) h) ∙ e)
