-- Moments of a session's front follow each other.
-- For proofs and the ghost members of impls: a reader of definitions may skip it.
use Rattle.std.proofs.Common.{◌≡◌, ◌∙◌, inl, inr, ℕ, Bool, true, false, List, [], ◌++◌, Option, Some, None, refl, sym, ap, subst, arith, append_assoc}
use Rattle.std.proofs.lemmas.List.{append-nil}
use Rattle.wm_names.specs.Paths.{Path}
use Rattle.wm_registry.specs.Roots.{State}
use Rattle.wm_groupcommit.specs.declared.queued.Call.{Call}
use Rattle.wm_groupcommit.specs.declared.seat.Seat.{Seat}
use Rattle.wm_groupcommit.specs.ReplyQueues.{KeepsBase, StartsWith}
use Rattle.wm_session.specs.session.Faults.{Defined, Memory}
use Rattle.wm_session.specs.session.Fronts.{IsMetWhenGiven, Part, Nowhere, Commands, Lists, Changes, Asks, Looks, is_look}
use Rattle.wm_session.specs.session.Sessions.{SessionState}
use Rattle.wm_front.specs.Commands.{KeepsSeat, SeatGoesOn}
use Rattle.wm_front.specs.MetShared.{IsMetOnRoot, MetShared, SharedKnown, no_root}

-- ---- seats

base_stays : (b : Option State) → KeepsBase b b
base_stays None = tt
base_stays (Some x) = refl

base_then : (a b c : Option State) → KeepsBase a b → KeepsBase b c → KeepsBase a c
base_then None b c x y = tt
base_then (Some s) b c x y = subst (λ o. KeepsBase o c) x y

list_then : (a b c : List Call) → StartsWith b a → StartsWith c b → StartsWith c a
list_then a b c x y = (x.0 ++ y.0, y.1 ∙ ap (λ (l : List Call). l ++ y.0) x.1 ∙ append_assoc a x.0 y.0)

pub seat_stays : (seat : Seat) → SeatGoesOn seat seat
seat_stays seat = (record { number = refl; later = (base_stays seat.replies.base, ([], sym (append-nil seat.replies.list))) }, omega arith)

pub seat_then : (a b c : Seat) → SeatGoesOn a b → SeatGoesOn b c → SeatGoesOn a c
seat_then a b c x y = (
  record {
    number = y.0.number ∙ x.0.number;
    later = (base_then a.replies.base b.replies.base c.replies.base x.0.later.0 y.0.later.0, list_then a.replies.list b.replies.list c.replies.list x.0.later.1 y.0.later.1);
  },
  omega (arith, x.1, y.1),
)

pub keeps_same : (seat : Option Seat) → KeepsSeat seat seat
keeps_same None = tt
keeps_same (Some seat) = (seat, refl, seat_stays seat)

pub keeps_then : (a b c : Option Seat) → KeepsSeat a b → KeepsSeat b c → KeepsSeat a c
keeps_then None b c x y = tt
keeps_then (Some a) b c x y =
    let next : KeepsSeat (Some x.0) c = subst (λ o. KeepsSeat o c) x.1 y in
    (next.0, next.1, seat_then a x.0 next.0 x.2 next.2)

-- ---- laws of a front

module _ (has : Path → ℕ → Type 0) (woken followed : ℕ → Type 0) where
  memory_on_root : (path : Path) (asks : Bool) (a : SharedKnown) (s : SessionState) → IsMetOnRoot has path asks Memory a s s a
  memory_on_root path asks a s = (tt, keeps_same a.seat, inl (tt, inl refl))

  pub stands_shared : (a : SharedKnown) (part : Part) → IsMetWhenGiven part → (s : SessionState) × ((accepts : Bool) → MetShared has woken followed a part Memory accepts s s a)
  stands_shared a Nowhere when = (no_root, λ accepts. (tt, refl, refl))
  stands_shared a Commands when = (no_root, λ accepts. (refl, inl (refl, keeps_same a.seat, refl)))
  stands_shared a Lists when = (no_root, λ accepts. (refl, refl, keeps_same a.seat, tt))
  stands_shared a (Changes path given moment) when = (no_root, λ accepts. (omega (arith, when), inl refl, memory_on_root path false a no_root))
  stands_shared a (Asks path) when = (no_root, λ accepts. memory_on_root path true a no_root)
  stands_shared a (Looks path) when = (no_root, λ accepts. memory_on_root path true a no_root)

  pub idles_shared : (a : SharedKnown) → (s : SessionState) × MetShared has woken followed a Nowhere Defined false s s a
  idles_shared a = (no_root, (tt, refl, refl))

  -- where memory runs out behind a look
  want_on_root : (path : Path) (asks : Bool) (a b : SharedKnown) (s : SessionState) → IsMetOnRoot has path asks Defined a s s b → IsMetOnRoot has path asks Memory a s s b
  want_on_root path asks a b s (device, keeps, met) = (
    tt,
    keeps,
    elim met [
      | inl none ↦ absurd none.0
      | inr (inl unwatched) ↦ inl (tt, inl unwatched.4)
      | inr (inr on) ↦ inl (tt, inr (on.number, on.more))
    ],
  )

  pub runs_out_shared : (a b : SharedKnown) (part : Part) (s : SessionState) → is_look part ≡ true → MetShared has woken followed a part Defined false s s b → (accepts : Bool) → MetShared has woken followed a part Memory accepts s s b
  runs_out_shared a b Nowhere s look met accepts = (tt, met.1, met.2)
  runs_out_shared a b Commands s look met accepts = absurd cc
  runs_out_shared a b Lists s look met accepts = (met.0, met.1, met.2, tt)
  runs_out_shared a b (Changes path given moment) s look met accepts = absurd cc
  runs_out_shared a b (Asks path) s look met accepts = absurd cc
  runs_out_shared a b (Looks path) s look met accepts = want_on_root path true a b s met
