-- Views that begin, one after another.
use Rattle.std.proofs.Common.{◌≡◌, inl, inr, ℕ, suc, ◌+◌, ◌-◌, ◌<◌, Bool, true, false, ◌||◌, List, [], ◌∷◌, ◌++◌, map, refl, sym, ap, ◌∙◌, arith, append_assoc, true≢false}
use Rattle.std.specs.List.{list_any, range_with_len}
use Rattle.std.specs.Map.{values_of}
use Rattle.wm_registry.specs.declared.reply.Reply.{Reply}
use Rattle.wm_registry.specs.declared.root.Root.{Root}
use Rattle.wm_store.specs.Batches.{IsOutOfMemory}
use Rattle.wm_view.specs.Histories.{new_history}
use Rattle.wm_view.specs.Summaries.{Summary, summary}
use Rattle.wm_world.specs.Refinement.{is_out_of_memory}

abbrev pub begun_views : ℕ → ℕ → ℕ → List Summary
begun_views i from to = map summary (map (new_history i) (range_with_len from (to - from)))

pub one_more : (i from to : ℕ) (vs : List Summary) → from < to → (vs ++ summary (new_history i from) ∷ []) ++ begun_views i (from + 1) to ≡ vs ++ begun_views i from to
one_more i from to vs low =
    let e : suc (to - (from + 1)) ≡ to - from = omega (arith, low) in
    append_assoc vs (summary (new_history i from) ∷ []) (begun_views i (from + 1) to) ∙ ap (λ k. vs ++ map summary (map (new_history i) (range_with_len from k))) e

pub by_values : (i : ℕ) (roots : List (List ℕ × Root)) → map summary (map (λ r. new_history i r.1.number) roots) ≡ map (λ (root : Root). summary (new_history i root.number)) (values_of roots)
by_values i [] = refl
by_values i (r ∷ roots) = ap (λ (vs : List Summary). summary (new_history i r.1.number) ∷ vs) (by_values i roots)

pub none_out_of_memory : (replies : List Reply) → list_any is_out_of_memory replies ≡ false → IsOutOfMemory replies → ⊥
none_out_of_memory [] e h = h
none_out_of_memory (r ∷ rs) e (inl is) = true≢false (sym (ap (λ x. is_out_of_memory x || list_any is_out_of_memory rs) is) ∙ e)
none_out_of_memory (r ∷ rs) e (inr h) = none_out_of_memory rs (second (is_out_of_memory r) (list_any is_out_of_memory rs) e) h
  where
    second : (a b : Bool) → (a || b) ≡ false → b ≡ false
    second true b q = absurd (true≢false q)
    second false b q = q
