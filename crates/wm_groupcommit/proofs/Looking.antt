-- What the contract of a look says, from what its last step says.
use Rattle.std.proofs.Common.{◌≡◌, ◌≤◌, ℕ, ◌∙◌, ap, subst, inr, length}
use Rattle.wm_registry.specs.Roots.{State}
use Rattle.wm_groupcommit.specs.declared.seat.Seat.{Seat}
use Rattle.wm_groupcommit.specs.Books.{state_at}
use Rattle.wm_groupcommit.specs.Seats.{HasLooked, HasNotLooked, known_list}
use Rattle.wm_groupcommit.specs.Submits.{LookAnswered, Unlooked}

pub looked : (old new : Seat) (registry : State) (count : ℕ) → new.calls ≡ old.calls → new.pass.me.view.client ≡ old.pass.me.view.client → LookAnswered old.replies new.replies old.seen new.seen registry count → HasLooked old new registry count
looked old new registry count calls queue h =
    let s = h.1.6 registry h.2 in
    record {
      base = s.0;
      found = s.1;
      later = (h.4, subst (λ n. n ≤ length (known_list new)) h.3 s.2);
      registry_is = s.3 ∙ ap (λ n. state_at s.0 (known_list new) n) h.3;
      seen = h.5;
      calls = calls;
      queue = queue;
      taken = h;
    }

pub not_looked : (old new : Seat) → new.calls ≡ old.calls → new.pass.me.view.client ≡ old.pass.me.view.client → new.seen ≡ old.seen → Unlooked old.replies new.replies old.seen → HasNotLooked old new
not_looked old new calls queue seen h = record { seen = seen; calls = calls; queue = queue; why = inr h }
