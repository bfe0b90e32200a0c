-- By path and number a table of roots steps as a registry that stands as it does.
use Rattle.std.proofs.Common.{◌≡◌, ◌∙◌, ◌+◌, ℕ, suc, List, [], ◌∷◌, ◌++◌, Bool, true, false, Option, Some, None, cond, length, nat_lt, inl, inr, ap, arith, refl, sym, true≢false}
use Rattle.std.proofs.lemmas.Bool.Decides.{nat_tests}
use Rattle.std.proofs.lemmas.Slice.Eq.{bytes_eq-Decides}
use Rattle.std.specs.List.{list_any}
use Rattle.std.specs.Map.{lookup, remove_entry, set_value}
use Rattle.std.specs.Option.{option_map_or}
use Rattle.std.specs.Prelude.{if◌then◌else◌}
use Rattle.std.specs.Str.{bytes_eq}
use Rattle.wm_disk.specs.Counters.{max_counter}
use Rattle.wm_disk.specs.declared.refusal.Refusal.TheVariants.{Exhausted, TooMany}
use Rattle.wm_names.specs.Paths.{Path}
use Rattle.wm_registry.specs.Limits.{max_roots}
use Rattle.wm_registry.specs.Registry.{after_command, changed, changes, is_change, unless_full, watched}
use Rattle.wm_registry.specs.Roots.{State, is_watched, root_at, with_triggers}
use Rattle.wm_registry.specs.Triggers.{Definition, defined, without}
use Rattle.wm_registry.specs.declared.command.Command.{Command}
use Rattle.wm_registry.specs.declared.command.Command.TheVariants.{Watch, WatchDel, Trigger, TriggerDel}
use Rattle.wm_registry.specs.declared.reply.Reply.{Reply}
use Rattle.wm_registry.specs.declared.reply.Reply.TheVariants.{Changed, Unchanged, Refused}
use Rattle.wm_registry.specs.declared.root.Root.{Root}
use Rattle.wm_workers.specs.FollowedRoots.{HasWorkers, IsStepOf, NumberedRoots, PutsRoot, TakesRoot, numbered_roots, registered, registry_roots}
use Rattle.wm_workers.specs.UnstartedWorkers.{WorkerList}
use Rattle.wm_workers.specs.WatchedRoots.{RootName, WatchedRoots, has_path, may_put, root_names, root_name, with_put_root}
use Rattle.wm_workers.specs.declared.roots.table.RootRow.{RootRow}
use Rattle.wm_workers.proofs.Names.{names_parted}
use Rattle.wm_workers.proofs.Parting.{neither}

pub name : Path → ℕ → RootName
name path number = record { path = path; number = number }

accepted : (s : State) (command : Command) → changes s command ≡ true → after_command s command ≡ changed s command
accepted s command h = ap (λ (b : Bool). if b then changed s command else s) h

-- ---- triggers leave the numbers

kept_at : (b : Bool) (e : Path × Root) (es rest : List (Path × Root)) (found : Option Root) (root : Root) (triggers : List Definition)
    → cond b (Some e.1) found ≡ Some root → (found ≡ Some root → registered rest ≡ registered es)
    → registered (cond b ((e.0, record root { triggers = triggers }) ∷ es) (e ∷ rest)) ≡ registered (e ∷ es)
kept_at true e es rest found root triggers is more =
    ap (λ (n : ℕ). record { path = e.0; number = n } ∷ registered es) (sym (ap (λ (o : Option Root). option_map_or (λ r. r.number) o 0) is))
kept_at false e es rest found root triggers is more = ap (λ (l : List RootName). record { path = e.0; number = e.1.number } ∷ l) (more is)

kept_numbers : (path : Path) (es : List (Path × Root)) (root : Root) (triggers : List Definition) → lookup (bytes_eq path) es ≡ Some root
    → registered (set_value (bytes_eq path) es (record root { triggers = triggers })) ≡ registered es
kept_numbers path [] root triggers is = refl
kept_numbers path (e ∷ es) root triggers is =
    kept_at (bytes_eq path e.0) e es (set_value (bytes_eq path) es (record root { triggers = triggers })) (lookup (bytes_eq path) es) root triggers is (kept_numbers path es root triggers)

triggers_kept : (s : State) (path : Path) (change : Root → List Definition) (o : Option Root) → root_at path s ≡ o
    → registry_roots (option_map_or (λ root. with_triggers s path root (change root)) o s) ≡ registry_roots s
triggers_kept s path change None is = refl
triggers_kept s path change (Some root) is = ap (λ (l : List RootName). record { roots = l; next = s.next }) (kept_numbers path s.roots root (change root) is)

pub trigger_step : (path : Path) (trigger : Definition) (at : NumberedRoots) → IsStepOf (Trigger path trigger) at at
trigger_step path trigger at s h is =
    sym is ∙ sym (ap registry_roots (accepted s (Trigger path trigger) h) ∙ triggers_kept s path (λ root. defined trigger root.triggers) (root_at path s) refl)

pub trigger_del_step : (path name : List ℕ) (at : NumberedRoots) → IsStepOf (TriggerDel path name) at at
trigger_del_step path name at s h is =
    sym is ∙ sym (ap registry_roots (accepted s (TriggerDel path name) h) ∙ triggers_kept s path (λ root. without name root.triggers) (root_at path s) refl)

-- ---- a root more

watch_room : (w a b : Bool) (r : Reply) → is_change (if w then Unchanged else (if a then (if b then r else Refused Exhausted) else Refused TooMany)) ≡ true → (a ≡ true) × (b ≡ true)
watch_room true a b r h = absurd (true≢false (sym h))
watch_room false true true r h = (refl, refl)
watch_room false true false r h = absurd (true≢false (sym h))
watch_room false false b r h = absurd (true≢false (sym h))

length_registered : (es : List (Path × Root)) → length (registered es) ≡ length es
length_registered [] = refl
length_registered (e ∷ es) = ap (λ (n : ℕ). suc n) (length_registered es)

registered_parted : (es : List (Path × Root)) (e : Path × Root) → registered (es ++ e ∷ []) ≡ registered es ++ name e.0 e.1.number ∷ []
unfolding name
registered_parted [] e = refl
registered_parted (first ∷ es) e = ap (λ (l : List RootName). record { path = first.0; number = first.1.number } ∷ l) (registered_parted es e)

module _ {H : Type 0} where
  length_names : (roots : List (RootRow H)) → length (root_names roots) ≡ length roots
  length_names [] = refl
  length_names (root ∷ roots) = ap (λ (n : ℕ). suc n) (length_names roots)

  room_for : (s : State) (path : Path) (old : WatchedRoots H) → changes s (Watch path) ≡ true → registry_roots s ≡ numbered_roots old → may_put old.next old ≡ true
  room_for s path old h is =
      let room = watch_room (is_watched path s) (nat_lt (length s.roots) max_roots) (nat_lt s.next max_counter) (unless_full (watched s path) Changed) h in
      let few : nat_lt (length s.roots) max_roots ≡ true = room.0 in
      let low : nat_lt s.next max_counter ≡ true = room.1 in
      let next : s.next ≡ old.next = ap (λ (n : NumberedRoots). n.next) is in
      let count : length s.roots ≡ length old.roots = sym (length_registered s.roots) ∙ ap (λ (n : NumberedRoots). length n.roots) is ∙ length_names old.roots in
      grind (arith, nat_tests)

  put_name : (root put : RootRow H) (u u' : WorkerList) → HasWorkers root u put u' → root_name put ≡ root_name root
  put_name root put u u' (inl h) = ap root_name h.0
  put_name root put u u' (inr h) = ap root_name h.0

  pub watch_step : (path : Path) (root : RootRow H) (old new : WatchedRoots H) (u u' : WorkerList) → root.path ≡ path → root.number ≡ old.next → PutsRoot root old u new u'
      → IsStepOf (Watch path) (numbered_roots old) (numbered_roots new)
  unfolding name
  watch_step path root old new u u' p n puts s h is =
      let room : may_put root.number old ≡ true = ap (λ (k : ℕ). may_put k old) n ∙ room_for s path old h is in
      let done : (put : RootRow H) × HasWorkers root u put u' × (new ≡ with_put_root put old) = rw room at puts in
      let put = done.0 in
      let next : s.next ≡ old.next = ap (λ (k : NumberedRoots). k.next) is in
      let same : root_name put ≡ name path s.next = put_name root put u u' done.1 ∙ (ap (λ (x : Path). name x root.number) p ∙ ap (name path) (n ∙ sym next)) in
      let roots : root_names (old.roots ++ put ∷ []) ≡ registered (s.roots ++ (path, record { number = s.next; triggers = [] }) ∷ []) =
      names_parted old.roots put [] ∙ ap (λ (x : RootName). root_names old.roots ++ x ∷ []) same
      ∙ ap (λ (l : List RootName). l ++ name path s.next ∷ []) (sym (ap (λ (k : NumberedRoots). k.roots) is)) ∙ sym (registered_parted s.roots (path, record { number = s.next; triggers = [] })) in
      let number : put.number + 1 ≡ s.next + 1 = ap (λ (x : RootName). x.number + 1) same in
      ap numbered_roots done.2
      ∙ (ap (λ (l : List RootName). record { roots = l; next = put.number + 1 }) roots
      ∙ ap (λ (k : ℕ). record { roots = registered (s.roots ++ (path, record { number = s.next; triggers = [] }) ∷ []); next = k }) number)
      ∙ sym (ap registry_roots (accepted s (Watch path) h))

-- ---- a root less

alike : (x y : Bool) → (x ≡ true → y ≡ true) → (y ≡ true → x ≡ true) → x ≡ y
alike true y f g = sym (f refl)
alike false true f g = g refl
alike false false f g = refl

same_test : (a b : List ℕ) → bytes_eq a b ≡ bytes_eq b a
same_test a b = alike (bytes_eq a b) (bytes_eq b a) (λ h. (bytes_eq-Decides b a).1 (sym ((bytes_eq-Decides a b).0 h))) (λ h. (bytes_eq-Decides a b).1 (sym ((bytes_eq-Decides b a).0 h)))

first_name : List RootName → RootName
first_name [] = name [] 0
first_name (x ∷ xs) = x

other_names : List RootName → List RootName
other_names [] = []
other_names (x ∷ xs) = xs

module _ {H : Type 0} where
  gone : (path : Path) (es : List (Path × Root)) (before : List (RootRow H)) (root : RootRow H) (after : List (RootRow H))
      → registered es ≡ root_names (before ++ root ∷ after) → list_any (has_path path) before ≡ false → has_path path root ≡ true
      → registered (remove_entry (bytes_eq path) es) ≡ root_names (before ++ after)
  unfolding first_name name other_names
  gone path [] [] root after is none at = absurd cc
  gone path [] (first ∷ before) root after is none at = absurd cc
  gone path (e ∷ es) [] root after is none at =
      let here : bytes_eq path e.0 ≡ true = ap (bytes_eq path) (ap (λ (l : List RootName). (first_name l).path) is) ∙ (same_test path root.path ∙ at) in
      rw here (ap other_names is)
  gone path (e ∷ es) (first ∷ before) root after is none at =
      let no = neither (has_path path first) (list_any (has_path path) before) none in
      let here : bytes_eq path e.0 ≡ false = ap (bytes_eq path) (ap (λ (l : List RootName). (first_name l).path) is) ∙ (same_test path first.path ∙ no.0) in
      let head : name e.0 e.1.number ≡ root_name first = ap first_name is in
      rw here (ap (λ (x : RootName). x ∷ registered (remove_entry (bytes_eq path) es)) head ∙ ap (λ (l : List RootName). root_name first ∷ l) (gone path es before root after (ap other_names is) no.1 at))

  absent : (path : Path) (es : List (Path × Root)) (roots : List (RootRow H)) → registered es ≡ root_names roots → list_any (has_path path) roots ≡ false
      → registered (remove_entry (bytes_eq path) es) ≡ registered es
  unfolding first_name other_names
  absent path [] roots is none = refl
  absent path (e ∷ es) [] is none = absurd cc
  absent path (e ∷ es) (first ∷ roots) is none =
      let no = neither (has_path path first) (list_any (has_path path) roots) none in
      let here : bytes_eq path e.0 ≡ false = ap (bytes_eq path) (ap (λ (l : List RootName). (first_name l).path) is) ∙ (same_test path first.path ∙ no.0) in
      rw here (ap (λ (l : List RootName). record { path = e.0; number = e.1.number } ∷ l) (absent path es roots (ap other_names is) no.1))

  taken_names : (path : Path) (s : State) (old new : WatchedRoots H) (b : Bool) → list_any (has_path path) old.roots ≡ b → TakesRoot path old new → registry_roots s ≡ numbered_roots old
      → numbered_roots new ≡ record { roots = registered (remove_entry (bytes_eq path) s.roots); next = s.next }
  taken_names path s old new true any takes is =
      let roots : registered s.roots ≡ root_names old.roots = ap (λ (k : NumberedRoots). k.roots) is in
      let next : s.next ≡ old.next = ap (λ (k : NumberedRoots). k.next) is in
      let done = rw any at takes in
      let first = done.1 in
      let left = gone path s.roots first.0 done.0 first.1 (roots ∙ ap root_names first.2) first.3 first.4 in
      ap (λ (l : List RootName). record { roots = l; next = new.next }) (ap root_names first.5 ∙ sym left)
      ∙ ap (λ (k : ℕ). record { roots = registered (remove_entry (bytes_eq path) s.roots); next = k }) (done.2 ∙ sym next)
  taken_names path s old new false any takes is =
      let roots : registered s.roots ≡ root_names old.roots = ap (λ (k : NumberedRoots). k.roots) is in
      let done : new ≡ old = rw any at takes in
      ap numbered_roots done ∙ (sym is ∙ ap (λ (l : List RootName). record { roots = l; next = s.next }) (sym (absent path s.roots old.roots roots any)))

  pub unwatch_step : (path : Path) (old new : WatchedRoots H) → TakesRoot path old new → IsStepOf (WatchDel path) (numbered_roots old) (numbered_roots new)
  unwatch_step path old new takes s h is =
      taken_names path s old new (list_any (has_path path) old.roots) refl takes is ∙ sym (ap registry_roots (accepted s (WatchDel path) h))
