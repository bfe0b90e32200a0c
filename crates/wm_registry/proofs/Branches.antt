-- How a command is met, branch by branch.
use Rattle.std.proofs.Common.{◌≡◌, ℕ, ◌+◌, ◌-◌, ◌<◌, ◌≤◌, Bool, true, false, List, length, get_or, position, Option, Some, None, nat_lt, if◌then◌else◌, refl, sym, ap, ◌∙◌, arith}
use Rattle.std.proofs.lemmas.Bool.{lt-ltb, le-ltb}
use Rattle.std.proofs.lemmas.List.Folds.{length-flat_map-take}
use Rattle.std.proofs.lemmas.List.Quantifiers.{position-Some}
use Rattle.std.specs.List.{list_any}
use Rattle.wm_disk.specs.declared.refusal.Refusal.TheVariants.{Full, OldVersion, TooMany}
use Rattle.wm_disk.specs.Counters.{max_counter}
use Rattle.wm_registry.specs.Limits.{max_roots, max_triggers}
use Rattle.wm_registry.specs.Registry.{unless_full, watched, reply_to, reply_to_trigger}
use Rattle.wm_registry.specs.Roots.{State, root_at, is_watched, with_triggers}
use Rattle.wm_registry.specs.Spelling.{state_spelling, trigger_spelling}
use Rattle.wm_registry.specs.Triggers.{Definition, defined, has_trigger, is_named, same_definition}
use Rattle.wm_registry.specs.declared.command.Command.TheVariants.{Watch}
use Rattle.wm_registry.specs.declared.reply.Reply.{Reply}
use Rattle.wm_registry.specs.declared.reply.Reply.TheVariants.{Changed, Replaced, Refused}
use Rattle.wm_registry.specs.declared.root.Root.{Root}
use Rattle.wm_registry.proofs.Sizes.{length-defined-new, length-defined-old, length-with_triggers, triggers-le-state, none_passes}
use Rattle.wm_registry.specs.Versions.{max_state_bytes}
use Rattle.wm_registry.specs.Endings.{count_fits}

-- what a list says of its items, an equal one says too
pub same_any : {X : Type 0} (p : X → Bool) (xs ys : List X) (b : Bool) → xs ≡ ys → b ≡ list_any p xs → list_any p ys ≡ b
same_any p xs ys b same is = sym (is ∙ ap (list_any p) same)

pub same_place : (name other : List ℕ) (ts us : List Definition) (place : Option ℕ) → name ≡ other → ts ≡ us → place ≡ position (is_named name) ts → position (is_named other) us ≡ place
same_place name other ts us place named same is =
    let path : position (is_named name) ts ≡ position (is_named other) us = λ i. position (is_named (named i)) (same i) in
    sym (is ∙ path)

-- a test of the new spelling's size
pub by_size : (new : State) (reply result : Reply) (size : ℕ) → length (state_spelling new) ≡ size → result ≡ (if nat_lt (max_state_bytes new.version) size then Refused Full else reply) → result ≡ unless_full new reply
by_size new reply result size e h = h ∙ ap (λ n. if nat_lt (max_state_bytes new.version) n then Refused Full else reply) (sym e)

pub watch_new : (s : State) (path : List ℕ) (result : Reply) → is_watched path s ≡ false → length s.roots < max_roots → s.next < max_counter → result ≡ unless_full (watched s path) Changed → result ≡ reply_to s (Watch path)
watch_new s path result new few left is =
    let room = lt-ltb (length s.roots) max_roots few in
    let number = lt-ltb s.next max_counter left in
    rw (new, room, number) is

module _ (s : State) (path : List ℕ) (t : Definition) (root : Root) where
  pub trigger_unplaced : count_fits s.version t.max_files_stdin ≡ false → Refused OldVersion ≡ reply_to_trigger s path t root
  trigger_unplaced none = rw none refl

  pub trigger_replaced : (result : Reply) → count_fits s.version t.max_files_stdin ≡ true → list_any (same_definition t) root.triggers ≡ false → has_trigger t.name root.triggers ≡ true
      → result ≡ unless_full (with_triggers s path root (defined t root.triggers)) Replaced → result ≡ reply_to_trigger s path t root
  trigger_replaced result place other named is = rw (place, other, named) is

  pub trigger_added : (result : Reply) → count_fits s.version t.max_files_stdin ≡ true → list_any (same_definition t) root.triggers ≡ false → has_trigger t.name root.triggers ≡ false → length root.triggers < max_triggers
      → result ≡ unless_full (with_triggers s path root (defined t root.triggers)) Changed → result ≡ reply_to_trigger s path t root
  trigger_added result place other new few is = let room = lt-ltb (length root.triggers) max_triggers few in rw (place, other, new, room) is

  pub trigger_refused : count_fits s.version t.max_files_stdin ≡ true → list_any (same_definition t) root.triggers ≡ false → has_trigger t.name root.triggers ≡ false → max_triggers ≤ length root.triggers → Refused TooMany ≡ reply_to_trigger s path t root
  trigger_refused place other new many = let full = le-ltb (length root.triggers) max_triggers many in rw (place, other, new, full) refl

  -- how many bytes the state has with the trigger in the place of one
  pub size_replaced : (i : ℕ) (d : Definition) → root_at path s ≡ Some root → position (is_named t.name) root.triggers ≡ Some i
      → length (state_spelling (with_triggers s path root (defined t root.triggers))) ≡ length (state_spelling s) + length (trigger_spelling s.version t) - length (trigger_spelling s.version (get_or root.triggers i d))
  size_replaced i d found at =
      let hit = position-Some (is_named t.name) root.triggers i d at in
      omega (arith, length-with_triggers s path root (defined t root.triggers) found, length-defined-old s.version t root.triggers i d hit.0 hit.1 hit.2)

  -- that one has no more bytes than the state
  pub old-le-state : (i : ℕ) (d : Definition) → root_at path s ≡ Some root → position (is_named t.name) root.triggers ≡ Some i → length (trigger_spelling s.version (get_or root.triggers i d)) ≤ length (state_spelling s)
  old-le-state i d found at =
      let hit = position-Some (is_named t.name) root.triggers i d at in
      let inside : i < length root.triggers = hit.0 in
      omega (arith, length-flat_map-take (trigger_spelling s.version) root.triggers i d inside, triggers-le-state s path root found)

  -- and with the trigger behind the others
  pub size_added : root_at path s ≡ Some root → position (is_named t.name) root.triggers ≡ None
      → length (state_spelling (with_triggers s path root (defined t root.triggers))) ≡ length (state_spelling s) + length (trigger_spelling s.version t) - 0
  size_added found none =
      omega (arith, length-with_triggers s path root (defined t root.triggers) found, length-defined-new s.version t root.triggers (none_passes (is_named t.name) root.triggers none))
