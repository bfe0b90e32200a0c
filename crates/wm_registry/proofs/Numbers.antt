-- The numbers of a registry along a replay: they never go back, they stay in range, and no two roots have one.
use Rattle.std.proofs.Common.{◌≡◌, ℕ, ◌+◌, ◌<◌, Bool, true, false, cond, List, [], ◌∷◌, ◌++◌, nat_lt, ◌==◌, Option, Some, None, refl, sym, subst, arith, true≢false, ne_eqb}
use Rattle.std.proofs.lemmas.Bool.{ltb-true}
use Rattle.std.proofs.lemmas.List.{map-append}
use Rattle.std.specs.List.{AllByRecursion, IsDistinct}
use Rattle.std.specs.Option.{option_map_or}
use Rattle.std.specs.Str.{bytes_eq}
use Rattle.wm_disk.specs.Counters.{max_counter}
use Rattle.wm_registry.specs.declared.command.Command.{Command}
use Rattle.wm_registry.specs.declared.command.Command.TheVariants.{Begin, Watch, WatchDel, Trigger, TriggerDel}
use Rattle.wm_registry.specs.declared.reply.Reply.TheVariants.{Changed, Refused}
use Rattle.wm_disk.specs.declared.refusal.Refusal.TheVariants.{Exhausted}
use Rattle.wm_registry.specs.declared.root.Root.{Root}
use Rattle.wm_registry.specs.Numbers.{InOrder, Rises}
use Rattle.wm_registry.specs.Registry.{after_command, changed, changes, empty_registry, is_change, watched}
use Rattle.wm_registry.specs.Roots.{State, root_at, with_triggers, without_root}
use Rattle.wm_registry.specs.Spelling.{numbers_of}
use Rattle.wm_registry.specs.Triggers.{Definition, defined, without}
use Rattle.wm_registry.specs.declared.version.Version.{Version}
use Rattle.wm_registry.proofs.Changing.{may_watch}
use Rattle.wm_registry.proofs.Entries.{AllByRecursion-each, AllByRecursion-push, AllByRecursion-remove_entry, AllByRecursion-set_value, IsDistinct-push, IsDistinct-remove_entry, map-set_value}
use Rattle.wm_checkpoint.specs.Machines.{replayed}
use Rattle.wm_checkpoint.specs.laws.Replays.{replayed_append}

-- what a command makes of a registry
pub record Goes (s t : State) : Type 0 where
  pub rises : Rises s t
  pub order : InOrder s → InOrder t

rises_same : (s : State) → Rises s s
rises_same s = record { incarnation = omega arith; next = omega arith }

goes_same : (s : State) → Goes s s
goes_same s = record { rises = rises_same s; order = λ h. h }

-- ---- one command

begin_below : (s : State) → changes s Begin ≡ true → s.incarnation < max_counter
begin_below s h = by (nat_lt s.incarnation max_counter) refl h
  where
    by : (b : Bool) → nat_lt s.incarnation max_counter ≡ b → is_change (cond b Changed (Refused Exhausted)) ≡ true → s.incarnation < max_counter
    by true t q = ltb-true _ _ t
    by false t q = absurd (true≢false (sym q))

goes_begin : (s : State) → changes s Begin ≡ true → Goes s (changed s Begin)
goes_begin s h =
    let low : s.incarnation < max_counter = begin_below s h in
    record {
      rises = record { incarnation = omega arith; next = omega arith };
      order = λ o. record { incarnation = omega (arith, low); some = o.some; next = o.next; roots = o.roots; apart = o.apart };
    }

below_is_other : (next : ℕ) (roots : List (List ℕ × Root)) → AllByRecursion (λ r. (0 < r.1.number) × (r.1.number < next)) roots → AllByRecursion (λ n. (n == next) ≡ false) (numbers_of roots)
below_is_other next [] h = tt
below_is_other next (r ∷ roots) h = (ne_eqb r.1.number next (λ e. let low : r.1.number < next = h.0.1 in omega (arith, e, low)), below_is_other next roots h.1)

goes_watched : (s : State) (path : List ℕ) → changes s (Watch path) ≡ true → Goes s (watched s path)
goes_watched s path h =
    let low : s.next < max_counter = (may_watch s path h).number in
    let root : Root = record { number = s.next; triggers = [] } in
    record {
      rises = record { incarnation = omega arith; next = omega arith };
      order = λ o. record {
        incarnation = o.incarnation;
        some = omega arith;
        next = omega (arith, low);
        roots = AllByRecursion-push (λ r. (0 < r.1.number) × (r.1.number < s.next + 1)) s.roots (path, root)
            (AllByRecursion-each (λ r. (0 < r.1.number) × (r.1.number < s.next)) (λ r. (0 < r.1.number) × (r.1.number < s.next + 1)) (λ r b. (b.0, let lt : r.1.number < s.next = b.1 in omega arith)) s.roots o.roots)
            (o.some, omega arith);
        apart = rw (map-append (λ r. r.1.number) s.roots ((path, root) ∷ [])) (IsDistinct-push ◌==◌ (numbers_of s.roots) s.next o.apart (below_is_other s.next s.roots o.roots));
      };
    }

goes_without_root : (s : State) (path : List ℕ) → Goes s (without_root s path)
goes_without_root s path = record {
  rises = record { incarnation = omega arith; next = omega arith };
  order = λ o. record {
    incarnation = o.incarnation;
    some = o.some;
    next = o.next;
    roots = AllByRecursion-remove_entry (bytes_eq path) (λ r. (0 < r.1.number) × (r.1.number < s.next)) s.roots o.roots;
    apart = IsDistinct-remove_entry (bytes_eq path) ◌==◌ (λ r. r.1.number) s.roots o.apart;
  };
}

goes_with_triggers : (s : State) (path : List ℕ) (root : Root) (triggers : List Definition) → root_at path s ≡ Some root → Goes s (with_triggers s path root triggers)
goes_with_triggers s path root triggers at =
    let new : Root = record root { triggers = triggers } in
    record {
      rises = record { incarnation = omega arith; next = omega arith };
      order = λ o. record {
        incarnation = o.incarnation;
        some = o.some;
        next = o.next;
        roots = AllByRecursion-set_value (bytes_eq path) (λ r. (0 < r.1.number) × (r.1.number < s.next)) s.roots root new at (λ k b. b) o.roots;
        apart = rw (map-set_value (bytes_eq path) (λ r. r.1.number) s.roots root new at (λ k. refl)) o.apart;
      };
    }

-- an operation on the root at the path, where there is one
goes_at : (s : State) (path : List ℕ) (f : Root → State) → ((root : Root) → root_at path s ≡ Some root → Goes s (f root)) → Goes s (option_map_or f (root_at path s) s)
goes_at s path f h = by (root_at path s) refl
  where
    by : (o : Option Root) → root_at path s ≡ o → Goes s (option_map_or f o s)
    by None e = goes_same s
    by (Some root) e = h root e

goes_changed : (s : State) (c : Command) → changes s c ≡ true → Goes s (changed s c)
goes_changed s Begin h = goes_begin s h
goes_changed s (Watch path) h = goes_watched s path h
goes_changed s (WatchDel path) h = goes_without_root s path
goes_changed s (Trigger path trigger) h = goes_at s path (λ root. with_triggers s path root (defined trigger root.triggers)) (λ root at. goes_with_triggers s path root (defined trigger root.triggers) at)
goes_changed s (TriggerDel path name) h = goes_at s path (λ root. with_triggers s path root (without name root.triggers)) (λ root at. goes_with_triggers s path root (without name root.triggers) at)

goes_after : (s : State) (c : Command) → Goes s (after_command s c)
goes_after s c = by (changes s c) refl
  where
    by : (b : Bool) → changes s c ≡ b → Goes s (cond b (changed s c) s)
    by true h = goes_changed s c h
    by false h = goes_same s

-- ---- many commands

goes_then : (s t u : State) → Goes s t → Goes t u → Goes s u
goes_then s t u a b = record {
  rises = record { incarnation = omega (arith, a.rises.incarnation, b.rises.incarnation); next = omega (arith, a.rises.next, b.rises.next) };
  order = λ o. b.order (a.order o);
}

goes_replay : (s : State) (cs : List Command) → Goes s (replayed after_command s cs)
goes_replay s [] = goes_same s
goes_replay s (c ∷ cs) = goes_then s (after_command s c) (replayed after_command (after_command s c) cs) (goes_after s c) (goes_replay (after_command s c) cs)

pub rises_more : (v : Version) (cs ds : List Command) → Rises (replayed after_command (empty_registry v) cs) (replayed after_command (empty_registry v) (cs ++ ds))
rises_more v cs ds =
    let now = replayed after_command (empty_registry v) cs in
    subst (λ t. Rises now t) (sym (replayed_append after_command (empty_registry v) cs ds)) (goes_replay now ds).rises

fresh_in_order : (v : Version) → InOrder (empty_registry v)
unfolding IsDistinct
fresh_in_order v = record { incarnation = omega arith; some = omega arith; next = omega arith; roots = tt; apart = tt }

pub in_order : (v : Version) (cs : List Command) → InOrder (replayed after_command (empty_registry v) cs)
in_order v cs = (goes_replay (empty_registry v) cs).order (fresh_in_order v)
