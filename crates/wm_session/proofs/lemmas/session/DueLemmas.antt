-- Telling what is due: one more, and all of it where the front is one's own.
use Rattle.std.proofs.Common.{◌≡◌, ◌∙◌, ℕ, zero, suc, ◌+◌, ◌<◌, ◌≤◌, List, [], ◌∷◌, ◌++◌, length, Bool, true, false, refl, sym, ap, subst, arith, add-one, get_or}
use Rattle.std.specs.Prelude.{◌&&◌, Some, None, Ok, slice_get, if◌then◌else◌}
use Rattle.std.proofs.lemmas.List.{append-nil}
use Rattle.wm_lines.specs.Lines.{request_of_line}
use Rattle.wm_clock.specs.declared.clock_id.ClockId.{ClockId}
use Rattle.wm_subs.specs.SessionLists.{told_at}
use Rattle.wm_expr.specs.Terms.{Term}
use Rattle.wm_subs.specs.declared.subscribed.Subscribed.{Subscribed}
use Rattle.wm_session.specs.session.Dues.{due_in, due_line}
use Rattle.wm_session.specs.session.Faults.{FrontState, Meeting, RepliesTo, Way, Defined, Device, Memory, Spent, faults_at, refusal_or, state_or}
use Rattle.wm_session.specs.session.Sessions.{SessionState, SubscriptionList}
use Rattle.wm_session.specs.session.Telling.{TellsAll, told_in}
use Rattle.wm_session.proofs.lemmas.session.TellingLemmas.{Telling, all_told, line_told, none_told, one_missed, one_told, there}
use Rattle.wm_session.specs.session.Fronts.{IsOwn, Part, Looks}
use Rattle.wm_session.specs.session.Tellings.{AnswersLine, TellsBy, TellsOne, TellsUpTo}
use Rattle.wm_session.proofs.lemmas.session.AnswerLemmas.{exactly, stand}

-- what stands at a place
pub got : {A : Type 0} (xs : List A) (n : ℕ) (x d : A) → slice_get xs n ≡ Some x → get_or xs n d ≡ x
got [] n x d e = absurd cc
got (y ∷ ys) zero x d e = cc (e)
got (y ∷ ys) (suc n) x d e = got ys n x d e

pub told_length : (place : ℕ) (clock : ClockId) (xs : SubscriptionList) → length (told_at place clock xs) ≡ length xs
told_length place clock [] = refl
told_length zero clock (x ∷ xs) = refl
told_length (suc place) clock (x ∷ xs) = ap (λ (n : ℕ). suc n) (told_length place clock xs)

and_true : (b : Bool) → b ≡ (b && true)
and_true true = refl
and_true false = refl

and_false : (b : Bool) → false ≡ (b && false)
and_false true = refl
and_false false = refl

module _ {F : Type 0} (met : F → Part → Way → Bool → SessionState → SessionState → F → Type 0) where
  -- whether all were told, with one more
  abbrev pub whole_with : Bool → Bool → Bool
  whole_with told w = if told then w else false

  whole_is : (told w : Bool) → whole_with told w ≡ (w && told)
  whole_is true w = and_true w
  whole_is false w = and_false w

  pub one_more : (f : F) (xs : SubscriptionList) (bytes : List ℕ) (n : ℕ) (w told : Bool) (mid new : F) (zs ys : SubscriptionList) (b out : List ℕ) → TellsUpTo met f xs bytes n w mid zs b → TellsOne met told mid n zs b new ys out
      → TellsUpTo met f xs bytes (n + 1) (whole_with told w) new ys out
  one_more f xs bytes n w told mid new zs ys b out t one = subst (λ k. TellsUpTo met f xs bytes k (whole_with told w) new ys out) (sym (add-one n)) (w, told, mid, zs, b, t, one, whole_is told w)

  -- nothing was due
  pub none_by : (way : Way) (f g : F) (s : SessionState) (x : Subscribed Term) (place : ℕ) (xs : SubscriptionList) (out : List ℕ) → met f (Looks x.root) way false s (state_or way s s) g → Ok None ≡ refusal_or way (Ok (due_in s x))
      → TellsBy met true f place x xs out g xs out
  none_by Defined f g s x place xs out m is =
      let none : None ≡ due_in s x = cc (is) in
      (s, m, sym (append-nil out) ∙ ap (λ d. out ++ due_line x d) none, ap (λ d. told_in place d xs) none)
  none_by Device f g s x place xs out m is = absurd cc
  none_by Memory f g s x place xs out m is = absurd cc
  none_by Spent f g s x place xs out m is = absurd cc

  -- ---- where the front is one's own, all is told at its one state
  same_state : (state : F → FrontState) → IsOwn met state → (told : Bool) (mid new : F) (n : ℕ) (x : Subscribed Term) (zs ys : SubscriptionList) (b out : List ℕ) → TellsBy met told mid n x zs b new ys out → state new ≡ state mid
  same_state state own true mid new n x zs ys b out (s, m, p, q) = let o = own mid new (Looks x.root) Defined false s s m in o.3 refl
  same_state state own false mid new n x zs ys b out (way, s, m, p, q) = let o = own mid new (Looks x.root) way false s (state_or way s s) m in o.3 refl

  exactly_one : (state : F → FrontState) → IsOwn met state → (s : SessionState) (xs : SubscriptionList) (bytes : List ℕ) (n : ℕ) (w told : Bool) (mid new : F) (zs ys : SubscriptionList) (b out : List ℕ) → n < length xs → (state mid).state ≡ s
      → Telling s xs bytes n w zs b → TellsOne met told mid n zs b new ys out → Telling s xs bytes (n + 1) (whole_with told w) ys out
  exactly_one state own s xs bytes n w true mid new zs ys b out within is t one =
      one_told s xs bytes n w zs ys b out t within (λ x at.
      let y = one x at in
      let o = own mid new (Looks x.root) Defined false y.0 y.0 y.1 in
      let same : y.0 ≡ s = sym o.0 ∙ is in (
        subst (λ z. out ≡ b ++ due_line x (due_in z x)) same y.2,
        subst (λ z. ys ≡ told_in n (due_in z x) zs) same y.3,
      ))
  exactly_one state own s xs bytes n w false mid new zs ys b out within is t one =
      let x = there zs n (omega (arith, within, t.many)) in
      let y = one x.0 x.1 in
      one_missed s xs bytes n w zs ys b out t (y.4, y.3)

  due_exactly : (state : F → FrontState) → IsOwn met state → (f : F) (xs : SubscriptionList) (bytes : List ℕ) (n : ℕ) (whole : Bool) (new : F) (ys : SubscriptionList) (out : List ℕ) → n ≤ length xs → TellsUpTo met f xs bytes n whole new ys out
      → Telling (state f).state xs bytes n whole ys out × (state new ≡ state f)
  due_exactly state own f xs bytes zero whole new ys out within (w, same, kept, none) = (
    subst (λ (v : Bool). Telling (state f).state xs bytes 0 v ys out) (sym w)
        (subst (λ (l : SubscriptionList). Telling (state f).state xs bytes 0 true l out) (sym kept) (subst (λ (l : List ℕ). Telling (state f).state xs bytes 0 true xs l) (sym none) (none_told (state f).state xs bytes))),
    ap state same,
  )
  due_exactly state own f xs bytes (suc n) whole new ys out within (w, told, mid, zs, b, before, one, is) =
      let so_far = due_exactly state own f xs bytes n w mid zs b (omega (arith, within)) before in
      let step = exactly_one state own (state f).state xs bytes n w told mid new zs ys b out (omega (arith, within)) (ap (λ (x : FrontState). x.state) so_far.1) so_far.0 one in
      let x = there zs n (omega (arith, within, so_far.0.many)) in (
        subst (λ (v : Bool). Telling (state f).state xs bytes (suc n) v ys out) (whole_is told w ∙ sym is) (subst (λ k. Telling (state f).state xs bytes k (whole_with told w) ys out) (add-one n) step),
        same_state state own told mid new n x.0 zs ys b out (one x.0 x.1) ∙ so_far.1,
      )

  pub all_exactly : (state : F → FrontState) → IsOwn met state → (f : F) (xs : SubscriptionList) (bytes : List ℕ) (whole : Bool) (new : F) (ys : SubscriptionList) (out : List ℕ) → TellsUpTo met f xs bytes (length xs) whole new ys out
      → TellsAll (state f).state xs bytes whole ys out × (state new ≡ state f)
  all_exactly state own f xs bytes whole new ys out t = let e = due_exactly state own f xs bytes (length xs) whole new ys out (omega arith) t in (all_told (state f).state xs bytes (length xs) whole ys out e.0 refl, e.1)

  -- a line, answered and told at just the front's own state
  pub line_exactly : (state : F → FrontState) → IsOwn met state → (old : F) (subscriptions : SubscriptionList) (moment : ℕ) (line : List ℕ) (n : ℕ) (before after : List ℕ) (new : F) (subscriptions' : SubscriptionList)
      → AnswersLine met old subscriptions moment line n before after new subscriptions'
      → (meeting : Meeting) × (bytes : List ℕ) × (n ≡ faults_at meeting) × (after ≡ before ++ bytes) × RepliesTo meeting (stand state old subscriptions) moment line bytes (stand state new subscriptions')
  line_exactly state own old subscriptions moment line n before after new subscriptions' l =
      let reply = exactly met state own old subscriptions moment (request_of_line line) l.faults before l.between l.mid l.left l.answers in
      let due = all_exactly state own l.mid l.left l.between l.whole new subscriptions' after l.tells in
      line_told (stand state old subscriptions) (stand state l.mid l.left) (stand state new subscriptions') moment line before l.between after n l.faults l.whole reply due.0 due.1 l.faults_are
