-- Telling what is due, one subscription after the other, each at a state of its own.
use Rattle.std.specs.Prelude.{◌≡◌, ℕ, zero, suc, List, ◌++◌, Bool, true, false, ◌&&◌, Some, length, slice_get, if◌then◌else◌}
use Rattle.wm_expr.specs.Terms.{Term}
use Rattle.wm_subs.specs.declared.subscribed.Subscribed.{Subscribed}
use Rattle.wm_session.specs.session.Dues.{due_in, due_line}
use Rattle.wm_session.specs.session.Faults.{Way, Defined, state_or}
use Rattle.wm_session.specs.session.Sessions.{SessionState, SubscriptionList}
use Rattle.wm_session.specs.session.Telling.{told_in}
use Rattle.wm_lines.specs.Lines.{request_of_line}
use Rattle.wm_session.specs.session.Fronts.{Answers, Part, Looks}

module _ {F : Type 0} (met : F → Part → Way → Bool → SessionState → SessionState → F → Type 0) where
  -- the one at the place was told what is due to it at some state; or memory ran out, and nothing was told
  abbrev pub TellsBy : Bool → F → ℕ → Subscribed Term → SubscriptionList → List ℕ → F → SubscriptionList → List ℕ → Type 0
  TellsBy true old place x xs bytes new ys out =
      (s : SessionState) × met old (Looks x.root) Defined false s s new × (out ≡ bytes ++ due_line x (due_in s x)) × (ys ≡ told_in place (due_in s x) xs)
  TellsBy false old place x xs bytes new ys out = (way : Way) × (s : SessionState) × met old (Looks x.root) way false s (state_or way s s) new × (out ≡ bytes) × (ys ≡ xs)

  abbrev pub TellsOne : Bool → F → ℕ → SubscriptionList → List ℕ → F → SubscriptionList → List ℕ → Type 0
  TellsOne told old place xs bytes new ys out = (x : Subscribed Term) → slice_get xs place ≡ Some x → TellsBy told old place x xs bytes new ys out

  -- those in front of the place were told, one after the other, where memory was found
  abbrev pub TellsUpTo : F → SubscriptionList → List ℕ → ℕ → Bool → F → SubscriptionList → List ℕ → Type 0
  TellsUpTo old xs bytes zero whole new ys out = (whole ≡ true) × (new ≡ old) × (ys ≡ xs) × (out ≡ bytes)
  TellsUpTo old xs bytes (suc n) whole new ys out =
      (w : Bool) × (told : Bool) × (mid : F) × (zs : SubscriptionList) × (b : List ℕ)
      × TellsUpTo old xs bytes n w mid zs b × TellsOne told mid n zs b new ys out × (whole ≡ (w && told))

  -- a line was answered, and then each subscription was told what is due to it, with so many faults
  pub record AnswersLine (old : F) (subscriptions : SubscriptionList) (moment : ℕ) (line : List ℕ) (n : ℕ) (before after : List ℕ) (new : F) (subscriptions' : SubscriptionList) : Type 0 where
    pub faults : ℕ
    pub between : List ℕ
    pub mid : F
    pub left : SubscriptionList
    pub answers : Answers met old subscriptions moment (request_of_line line) faults before between mid left
    pub whole : Bool
    pub tells : TellsUpTo mid left between (length left) whole new subscriptions' after
    pub faults_are : n ≡ if whole then faults else 1
