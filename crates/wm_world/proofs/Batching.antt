-- What a batch makes of the registry's numbers.
use Rattle.std.proofs.Common.{◌≡◌, inl, inr, ℕ, ◌≤◌, Bool, true, false, cond, List, [], ◌∷◌, map, refl, sym, ap, ◌∙◌, arith, true≢false}
use Rattle.wm_disk.specs.declared.refusal.Refusal.TheVariants.{Exhausted}
use Rattle.wm_registry.specs.declared.command.Command.{Command}
use Rattle.wm_registry.specs.declared.command.Command.TheVariants.{Begin, Watch, WatchDel, Trigger, TriggerDel}
use Rattle.wm_registry.specs.declared.reply.Reply.{Reply}
use Rattle.wm_registry.specs.declared.reply.Reply.TheVariants.{Refused}
use Rattle.wm_registry.specs.declared.root.Root.{Root}
use Rattle.wm_registry.specs.Registry.{after_command, changed, is_change}
use Rattle.wm_registry.specs.Roots.{State, root_at, with_triggers}
use Rattle.wm_registry.specs.declared.version.Version.{Version}
use Rattle.wm_registry.specs.Triggers.{defined, without}
use Rattle.std.specs.Option.{option_map_or}
use Rattle.std.specs.Prelude.{Option, Some, None}
use Rattle.wm_store.specs.Batches.{AreAnswered, IsMet, accepted_of, after_reply, unless_begin}
use Rattle.wm_store.specs.laws.Replies.{changes_met, refusal_stays}
use Rattle.wm_checkpoint.specs.Machines.{replayed}

-- a greater number is spent as well, and no command fits into no room
pub answered_more : (v : Version) (n room m : ℕ) (s : State) (cs : List Command) (rs : List Reply) → n ≤ m → AreAnswered v n room s cs rs → AreAnswered v m 0 s cs rs
answered_more v n room m s [] [] le h = h
answered_more v n room m s [] (r ∷ rs) le h = h
answered_more v n room m s (c ∷ cs) [] le h = h
answered_more v n room m s (c ∷ cs) (r ∷ rs) le (inl (is, rest)) = inl (is, answered_more v n room m (after_reply s c r) cs rs le rest)
answered_more v n room m s (c ∷ cs) (r ∷ rs) le (inr (spent, accepted, e)) = inr ((omega (arith, spent.0, le), omega arith), accepted, e)

pub none_accepted : (cs : List Command) → accepted_of cs (map (λ c. unless_begin c (Refused Exhausted)) cs) ≡ []
none_accepted [] = refl
none_accepted (c ∷ cs) =
    ap (λ b. cond b (c ∷ accepted_of cs (map (λ d. unless_begin d (Refused Exhausted)) cs)) (accepted_of cs (map (λ d. unless_begin d (Refused Exhausted)) cs))) (refusal_stays c Exhausted) ∙ none_accepted cs

-- a Begin of a batch isn't accepted
pub not_begin : (s : State) (r : Reply) → IsMet s Begin r → is_change r ≡ true → ⊥
not_begin s r (inl e) h = true≢false (sym h ∙ ap is_change e)
not_begin s r (inr e) h = true≢false (sym h ∙ ap is_change e)

-- and no other command begins an incarnation
stays : (s : State) (c : Command) (r : Reply) → IsMet s c r → is_change r ≡ true → (changed s c).incarnation ≡ s.incarnation
stays s Begin r is h = absurd (not_begin s r is h)
stays s (Watch path) r is h = refl
stays s (WatchDel path) r is h = refl
stays s (Trigger path trigger) r is h = at (root_at path s)
  where
    at : (o : Option Root) → (option_map_or (λ root. with_triggers s path root (defined trigger root.triggers)) o s).incarnation ≡ s.incarnation
    at None = refl
    at (Some root) = refl
stays s (TriggerDel path name) r is h = at (root_at path s)
  where
    at : (o : Option Root) → (option_map_or (λ root. with_triggers s path root (without name root.triggers)) o s).incarnation ≡ s.incarnation
    at None = refl
    at (Some root) = refl

pub same_incarnation : (v : Version) (n : ℕ) (s : State) (cs : List Command) (rs : List Reply) → AreAnswered v n 0 s cs rs → (replayed after_command s (accepted_of cs rs)).incarnation ≡ s.incarnation
same_incarnation v n s [] rs h = refl
same_incarnation v n s (c ∷ cs) [] h = refl
same_incarnation v n s (c ∷ cs) (r ∷ rs) (inr (spent, accepted, e)) =
    ap (λ qs. (replayed after_command s (accepted_of (c ∷ cs) qs)).incarnation) e ∙ ap (λ ds. (replayed after_command s ds).incarnation) (none_accepted (c ∷ cs))
same_incarnation v n s (c ∷ cs) (r ∷ rs) (inl (is, rest)) = by (λ t. same_incarnation v n t cs rs) (is_change r) refl rest
  where
    by : ((t : State) → AreAnswered v n 0 t cs rs → (replayed after_command t (accepted_of cs rs)).incarnation ≡ t.incarnation) → (b : Bool) → is_change r ≡ b → AreAnswered v n 0 (cond b (changed s c) s) cs rs
        → (replayed after_command s (cond b (c ∷ accepted_of cs rs) (accepted_of cs rs))).incarnation ≡ s.incarnation
    by again true t h =
        ap (λ b. (replayed after_command (cond b (changed s c) s) (accepted_of cs rs)).incarnation) (changes_met s c r is t) ∙ again (changed s c) h ∙ stays s c r is t
    by again false t h = again s h
