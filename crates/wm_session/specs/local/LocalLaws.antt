-- Moments of a store follow each other.
-- For proofs and the ghost members of impls: a reader of definitions may skip it.
use Rattle.std.proofs.Common.{◌≡◌, ◌≤◌, ◌+◌, ℕ, List, [], ◌++◌, length, take, Bool, true, false, refl, sym, ap, ◌∙◌, subst, arith, inl, inr, append_assoc}
use Rattle.std.proofs.Math.Seq.{take-append-add}
use Rattle.std.proofs.lemmas.Bool.{cases_lt}
use Rattle.std.proofs.lemmas.List.{append-nil, length-append, take-append-le}
use Rattle.wm_disk.specs.Contents.{Rose}
use Rattle.wm_disk.specs.Counters.{max_counter}
use Rattle.wm_disk.specs.Moments.{LeavesOnly, then_runs}
use Rattle.wm_disk.specs.declared.disk.Disk.{Ghosts}
use Rattle.wm_disk.specs.Parts.{IsPartOf}
use Rattle.wm_disk.specs.PartLaws.{part_both, part_prefix}
use Rattle.wm_checkpoint.specs.laws.Replays.{replayed_append}
use Rattle.wm_registry.specs.Roots.{State}
use Rattle.wm_registry.specs.declared.command.Command.{Command}
use Rattle.wm_store.specs.Stored.{Stored}
use Rattle.wm_session.specs.local.Stores.{Later, Commits, LeadsTo}
use Rattle.wm_session.specs.session.Faults.{FrontState, Defined, Memory, Lasts}
use Rattle.wm_session.specs.session.Fronts.{Part, Nowhere, IsMetWhenGiven, MetAt, is_look}
use Rattle.wm_session.specs.session.Sessions.{SessionState}
use Rattle.wm_disk.specs.laws.Runs.{weaker}
use Rattle.wm_store.specs.Meant.{MeansAfter, MeansRegistry}
use Rattle.wm_checkpoint.specs.Machines.{replayed}
use Rattle.wm_registry.specs.Registry.{after_command}

-- ---- counts

pub rose_later : (a b c : ℕ) → a ≤ b → Rose b c → b ≤ c → Rose a c
rose_later a b c le rose le' below =
    elim (cases_lt b max_counter) [
      | inl lt ↦ let rest = rose lt in omega (arith, le, rest)
      | inr past ↦ omega (arith, le', below, past)
    ]

not_failed : (b : Bool) → (b ≡ true → ⊥) → b ≡ false
not_failed true h = absurd (h refl)
not_failed false h = refl

-- ---- prefixes of lists of commands

-- a prefix of some commands is one of these with others behind them
pub more_behind : (state : State) (first second : List Command) (content : List ℕ) → MeansAfter state first content → MeansAfter state (first ++ second) content
more_behind state first second content b = record {
  count = b.count;
  within = omega (arith, b.within, length-append first second);
  means = subst (λ (l : List Command). MeansRegistry (replayed after_command state l) content) (sym (take-append-le b.count first second b.within)) b.means;
}

-- and so is one after some commands, with these in front of it
pub more_before : (state next : State) (first second : List Command) (content : List ℕ) → next ≡ replayed after_command state first → MeansAfter next second content → MeansAfter state (first ++ second) content
more_before state next first second content is b =
    let here : replayed after_command next (take b.count second) ≡ replayed after_command state (take (length first + b.count) (first ++ second)) =
    ap (λ (s : State). replayed after_command s (take b.count second)) is ∙ sym (replayed_append after_command state first (take b.count second)) ∙ ap (λ (l : List Command). replayed after_command state l) (sym (take-append-add first second b.count)) in
    record {
      count = length first + b.count;
      within = omega (arith, b.within, length-append first second);
      means = subst (λ (s : State). MeansRegistry s content) here b.means;
    }

-- ---- moments of a store

module _ {D : Type 0} (disk : Ghosts D) where
  pub later_same : (a : D) → Later disk a a
  later_same a = record { honest = λ h. h; count = omega arith }

  pub later_then : (a b c : D) → Later disk a b → Later disk b c → Later disk a c
  later_then a b c p q = record { honest = λ h. p.honest (q.honest h); count = omega (arith, p.count, q.count) }

  -- nothing was done
  commits_none : (asked : List Command) (a : Stored D) → a.failed ≡ false → Commits disk asked a a
  commits_none asked a works = record {
    accepted = [];
    in_flight = [];
    part = tt;
    registry = refl;
    works = λ e. refl;
    leaves = λ f. let bad : false ≡ true = sym works ∙ f in absurd cc;
    any_moment = inl refl;
  }

  pub stays : (asked : List Command) (a : Stored D) → LeadsTo disk asked a a
  stays asked a = record { later = later_same a.disk; failed = λ e. e; still = λ e. refl; cause = λ e f. let bad : false ≡ true = sym e ∙ f in absurd cc; commits = λ e. commits_none asked a e }

  -- more was asked for
  asks_more : (asked more : List Command) (a b : Stored D) → ((some : List Command) → IsPartOf some asked → IsPartOf some more) → Commits disk asked a b → Commits disk more a b
  asks_more asked more a b wider p = record {
    accepted = p.accepted;
    in_flight = p.in_flight;
    part = wider (p.accepted ++ p.in_flight) p.part;
    registry = p.registry;
    works = p.works;
    leaves = p.leaves;
    any_moment = p.any_moment;
  }

  -- the device failed in the first part or in the second
  rises : (xs ys : List Command) (a b c : Stored D) → LeadsTo disk xs a b → LeadsTo disk ys b c → (middle : Bool) → b.failed ≡ middle → a.failed ≡ false → c.failed ≡ true → Rose (disk.failures a.disk) (disk.failures c.disk)
  rises xs ys a b c p q true m e f = λ below. omega (arith, p.cause e m below, q.later.count)
  rises xs ys a b c p q false m e f = λ below. rose_later (disk.failures a.disk) (disk.failures b.disk) (disk.failures c.disk) p.later.count (q.cause m f) q.later.count below

  -- Two runs of commands are one.
  both_run : (xs ys : List Command) (a b c : Stored D) → (disk.honest c.disk → disk.honest b.disk) → b.failed ≡ false → (p : Commits disk xs a b) (q : Commits disk ys b c)
      → (disk.honest b.disk → LeavesOnly disk.moment disk.left_since a.disk b.disk (MeansAfter a.registry (p.accepted ++ p.in_flight)))
      → (disk.honest c.disk → LeavesOnly disk.moment disk.left_since b.disk c.disk (MeansAfter b.registry (q.accepted ++ q.in_flight)))
      → Commits disk (xs ++ ys) a c
  both_run xs ys a b c honest works p q first second =
      let none : p.accepted ++ p.in_flight ≡ p.accepted = ap (λ (l : List Command). p.accepted ++ l) (p.works works) ∙ append-nil p.accepted in
      let all : p.accepted ++ (q.accepted ++ q.in_flight) ≡ (p.accepted ++ q.accepted) ++ q.in_flight = sym (append_assoc p.accepted q.accepted q.in_flight) in
      let Whole : List ℕ → Type 0 = MeansAfter a.registry ((p.accepted ++ q.accepted) ++ q.in_flight) in
      let of_first : (content : List ℕ) → MeansAfter a.registry (p.accepted ++ p.in_flight) content → Whole content =
      λ content begun. subst (λ (l : List Command). MeansAfter a.registry l content) all
      (more_behind a.registry p.accepted (q.accepted ++ q.in_flight) content (subst (λ (l : List Command). MeansAfter a.registry l content) none begun)) in
      let of_second : (content : List ℕ) → MeansAfter b.registry (q.accepted ++ q.in_flight) content → Whole content =
      λ content begun. subst (λ (l : List Command). MeansAfter a.registry l content) all (more_before a.registry b.registry p.accepted (q.accepted ++ q.in_flight) content p.registry begun) in
      record {
        accepted = p.accepted ++ q.accepted;
        in_flight = q.in_flight;
        part = subst (λ (l : List Command). IsPartOf l (xs ++ ys)) all (part_both p.accepted xs (q.accepted ++ q.in_flight) ys (subst (λ (l : List Command). IsPartOf l xs) none p.part) q.part);
        leaves = q.leaves;
        registry = q.registry ∙ ap (λ s. replayed after_command s q.accepted) p.registry ∙ sym (replayed_append after_command a.registry p.accepted q.accepted);
        works = q.works;
        any_moment = inr (λ h. then_runs disk.moment disk.left_since a.disk b.disk c.disk Whole (MeansAfter b.registry (q.accepted ++ q.in_flight))
            (weaker disk.moment disk.left_since a.disk b.disk (MeansAfter a.registry (p.accepted ++ p.in_flight)) Whole (first (honest h)) of_first)
            (second h)
            of_second);
      }

  commits_then : (xs ys : List Command) (a b c : Stored D) → (disk.honest c.disk → disk.honest b.disk) → b.failed ≡ false → Commits disk xs a b → Commits disk ys b c → Commits disk (xs ++ ys) a c
  commits_then xs ys a b c honest works p q =
      elim p.any_moment [
        | inl same ↦ asks_more ys (xs ++ ys) a c (λ some. part_both [] xs some ys tt) (subst (λ (s : Stored D). Commits disk ys s c) same q)
        | inr first ↦ elim q.any_moment [
          | inl same ↦ asks_more xs (xs ++ ys) a c (λ some. part_prefix some xs ys) (subst (λ (s : Stored D). Commits disk xs a s) (sym same) p)
          | inr second ↦ both_run xs ys a b c honest works p q first second
        ]
      ]

  commits_on : (xs ys : List Command) (a b c : Stored D) → LeadsTo disk xs a b → LeadsTo disk ys b c → a.failed ≡ false → (middle : Bool) → b.failed ≡ middle → Commits disk (xs ++ ys) a c
  commits_on xs ys a b c p q e true m = asks_more xs (xs ++ ys) a c (λ some. part_prefix some xs ys) (subst (λ (s : Stored D). Commits disk xs a s) (sym (q.still m)) (p.commits e))
  commits_on xs ys a b c p q e false m = commits_then xs ys a b c q.later.honest m (p.commits e) (q.commits m)

  pub leads_on : (xs ys : List Command) (a b c : Stored D) → LeadsTo disk xs a b → LeadsTo disk ys b c → LeadsTo disk (xs ++ ys) a c
  leads_on xs ys a b c p q = record {
    later = later_then a.disk b.disk c.disk p.later q.later;
    failed = λ e. q.failed (p.failed e);
    still = λ e. q.still (p.failed e) ∙ p.still e;
    cause = λ e f. rises xs ys a b c p q b.failed refl e f;
    commits = λ e. commits_on xs ys a b c p q e b.failed refl;
  }

-- ---- calls that change nothing

lasts_same : (s : FrontState) → Lasts s s
lasts_same s = record { failures = omega arith; number = omega arith }

pub stands_at : (a : FrontState) (part : Part) → IsMetWhenGiven part → (s : SessionState) × ((accepts : Bool) → MetAt part a Memory accepts s s a)
stands_at a part when = (a.state, λ accepts. (refl, refl, (lasts_same a, refl), (λ look. refl), when))

pub idles_at : (a : FrontState) → (s : SessionState) × MetAt Nowhere a Defined false s s a
idles_at a = (a.state, (refl, refl, lasts_same a, (λ look. refl), tt))

pub runs_out_at : (a b : FrontState) (part : Part) (s : SessionState) → is_look part ≡ true → MetAt part a Defined false s s b → (accepts : Bool) → MetAt part a Memory accepts s s b
runs_out_at a b part s look (found, left, lasts, same, when) accepts = (found, left, (lasts, ap (λ (x : FrontState). x.failures) (same look)), same, when)
