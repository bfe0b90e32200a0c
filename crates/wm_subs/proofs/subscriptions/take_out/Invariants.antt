use Rattle.std.proofs.Common.{◌≡◌, ◌-◌, ◌≤◌, not, length, filter, option_map, vec_capacity}
use Rattle.wm_subs.specs.SessionLists.{is_meant}
use Rattle.wm_subs.proofs.Looking.{looked_at}
use Rattle.wm_subs.proofs.subscriptions.take_out.Given as goal

abbrev pub invariant-loop-i : goal.invariant-loop-i
invariant-loop-i g l =
    record {
      within : l.i ≤ length l.all.items;
      len : length l.all.items ≤ length l.initial.all.items;
      room : vec_capacity l.all ≡ vec_capacity l.initial.all;
      left : looked_at (λ s. not (is_meant l.root (option_map (λ n. n.now) l.name) s)) l.i l.all.items ≡ filter (λ s. not (is_meant l.root (option_map (λ n. n.now) l.name) s)) l.initial.all.items;
    }

abbrev pub decreases-loop-i : goal.decreases-loop-i
decreases-loop-i g l = length l.all.items - l.i
