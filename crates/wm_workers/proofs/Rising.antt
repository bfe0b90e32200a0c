-- Lists of roots whose numbers rise.
use Rattle.std.proofs.Common.{◌≡◌, ◌<◌, ◌≤◌, ◌+◌, ℕ, true, List, [], ◌∷◌, ◌++◌, arith, sym, subst}
use Rattle.std.proofs.lemmas.Bool.Decides.{nat_tests}
use Rattle.wm_workers.specs.WatchedRoots.{RiseFrom, WatchedRoots, may_put}
use Rattle.wm_workers.specs.declared.roots.table.RootRow.{RootRow}

risen_to : {H : Type 0} (low : ℕ) (roots : List (RootRow H)) (next : ℕ) → RiseFrom low roots next → low < next
risen_to low [] next h = h
risen_to low (root ∷ roots) next h = omega (arith, h.0, risen_to root.number roots next h.1)

-- a greater number at the end
pub rise_on : {H : Type 0} (low : ℕ) (roots : List (RootRow H)) (next : ℕ) (root : RootRow H) → RiseFrom low roots next → next ≤ root.number → RiseFrom low (roots ++ root ∷ []) (root.number + 1)
rise_on low [] next root h lt = (omega (arith, h, lt), omega arith)
rise_on low (first ∷ roots) next root h lt = (h.0, rise_on first.number roots next root h.1 lt)

-- a greater number to come
pub rise_to : {H : Type 0} (low : ℕ) (roots : List (RootRow H)) (next next' : ℕ) → RiseFrom low roots next → next ≤ next' → RiseFrom low roots next'
rise_to low [] next next' h le = omega (arith, h, le)
rise_to low (first ∷ roots) next next' h le = (h.0, rise_to first.number roots next next' h.1 le)

lower : {H : Type 0} (low high : ℕ) (roots : List (RootRow H)) (next : ℕ) → low ≤ high → RiseFrom high roots next → RiseFrom low roots next
lower low high [] next le h = omega (arith, le, h)
lower low high (root ∷ roots) next le h = (omega (arith, le, h.0), h.1)

-- without one of them
pub rise_without : {H : Type 0} (low : ℕ) (before : List (RootRow H)) (root : RootRow H) (after : List (RootRow H)) (next : ℕ) → RiseFrom low (before ++ root ∷ after) next → RiseFrom low (before ++ after) next
rise_without low [] root after next h = lower low root.number after next (omega (arith, h.0)) h.1
rise_without low (first ∷ before) root after next h = (h.0, rise_without first.number before root after next h.1)

-- with one of the same number in place of it
pub rise_with : {H : Type 0} (low : ℕ) (before : List (RootRow H)) (root other : RootRow H) (after : List (RootRow H)) (next : ℕ) → other.number ≡ root.number → RiseFrom low (before ++ root ∷ after) next → RiseFrom low (before ++ other ∷ after) next
rise_with low [] root other after next e h = (subst (λ n. low < n) (sym e) h.0, subst (λ n. RiseFrom n after next) (sym e) h.1)
rise_with low (first ∷ before) root other after next e h = (h.0, rise_with first.number before root other after next e h.1)

-- a root that may be put has no smaller number than the next root
pub put_above : {H : Type 0} (number : ℕ) (w : WatchedRoots H) → may_put number w ≡ true → w.next ≤ number
put_above number w h = grind (arith, nat_tests)
