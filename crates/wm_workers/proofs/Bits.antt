-- The bits of the roots of subscriptions, from one place among them on.
use Rattle.std.proofs.Common.{◌<◌, ◌≤◌, ◌+◌, ℕ, List, Option, length, get_or, drop, refl, subst, sym}
use Rattle.std.specs.Prelude.{MatchOption}
use Rattle.std.proofs.lemmas.List.{drop_all, drop_more}
use Rattle.wm_subs.specs.declared.subscribed.Subscribed.{Subscribed}
use Rattle.wm_workers.specs.SubscribedRoots.{AddsBitsOf, with_bit}
use Rattle.wm_workers.specs.WatchedRoots.{MayHaveHad, MayHaveLacked}

pub one_more : {T : Type 0} (subs : List (Subscribed T)) (i : ℕ) (d : Subscribed T) (roots : ℕ) (number : Option ℕ) (all : ℕ) → i < length subs
    → MatchOption number (MayHaveLacked (get_or subs i d).root) (MayHaveHad (get_or subs i d).root) → AddsBitsOf (with_bit roots number) (drop (i + 1) subs) all → AddsBitsOf roots (drop i subs) all
one_more subs i d roots number all lt met rest = subst (λ l. AddsBitsOf roots l all) (sym (drop_more subs i d lt)) (number, met, rest)

pub none_left : {T : Type 0} (subs : List (Subscribed T)) (i : ℕ) (roots : ℕ) → length subs ≤ i → AddsBitsOf roots (drop i subs) roots
none_left subs i roots le = subst (λ l. AddsBitsOf roots l roots) (sym (drop_all i subs le)) refl
