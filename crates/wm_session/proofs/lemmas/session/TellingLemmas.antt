-- Telling what is due, subscription by subscription.
use Rattle.std.proofs.Common.{◌≡◌, ℕ, zero, suc, ◌+◌, ◌<◌, ◌≤◌, List, [], ◌∷◌, ◌++◌, length, Bool, true, false, cond, Option, Some, None, Result, Ok, Err, refl, sym, ap, subst, ◌∙◌, arith, append_assoc}
use Rattle.std.proofs.lemmas.List.{append-nil, length-append}
use Rattle.std.specs.Prelude.{◌&&◌, OnErr, OnOk, is_err, slice_get}
use Rattle.wm_expr.specs.Terms.{Term}
use Rattle.wm_since.specs.declared.query.Answer.{Answer}
use Rattle.wm_subs.specs.declared.subscribed.Subscribed.{Subscribed}
use Rattle.wm_disk.specs.declared.refusal.Refusal.{Refusal}
use Rattle.wm_lines.specs.declared.request.Request.{Request}
use Rattle.wm_lines.specs.Lines.{request_of_line}
use Rattle.wm_lines.specs.Replies.{reply_bytes}
use Rattle.wm_session.specs.session.Faults.{FrontState, HasCause, Meeting, RepliesTo, Way, faults_at, faults_of, refusal_or, seen, state_or, subscriptions_told, told_by}
use Rattle.wm_session.specs.session.Sessions.{SessionState, WithSubscriptions, SubscriptionList, line_met, met_or_refused, subscriptions_after}
use Rattle.wm_session.specs.session.Dues.{after_telling, after_told, are_all_found, due_in, due_line, told_lines}
use Rattle.wm_session.specs.session.Telling.{TellsAll, TellsAt, told_in}

-- ---- one mark more

all_with : (finds : List Bool) (b : Bool) → are_all_found (finds ++ b ∷ []) ≡ (are_all_found finds && b)
all_with [] true = refl
all_with [] false = refl
all_with (true ∷ finds) b = all_with finds b
all_with (false ∷ finds) b = refl

lines_missed : (s : SessionState) (finds : List Bool) (xs : SubscriptionList) → told_lines s (finds ++ false ∷ []) xs ≡ told_lines s finds xs
lines_missed s [] [] = refl
lines_missed s [] (x ∷ xs) = refl
lines_missed s (true ∷ finds) [] = refl
lines_missed s (true ∷ finds) (x ∷ xs) = ap (λ (l : List ℕ). due_line x (due_in s x) ++ l) (lines_missed s finds xs)
lines_missed s (false ∷ finds) [] = refl
lines_missed s (false ∷ finds) (x ∷ xs) = lines_missed s finds xs

after_missed : (s : SessionState) (finds : List Bool) (xs : SubscriptionList) → after_told s (finds ++ false ∷ []) xs ≡ after_told s finds xs
after_missed s [] [] = refl
after_missed s [] (x ∷ xs) = refl
after_missed s (true ∷ finds) [] = refl
after_missed s (true ∷ finds) (x ∷ xs) = ap (λ (l : SubscriptionList). after_telling x (due_in s x) ∷ l) (after_missed s finds xs)
after_missed s (false ∷ finds) [] = refl
after_missed s (false ∷ finds) (x ∷ xs) = ap (λ (l : SubscriptionList). x ∷ l) (after_missed s finds xs)

lines_found : (s : SessionState) (finds : List Bool) (xs : SubscriptionList) (x : Subscribed Term) → slice_get xs (length finds) ≡ Some x → told_lines s (finds ++ true ∷ []) xs ≡ told_lines s finds xs ++ due_line x (due_in s x)
lines_found s [] [] x e = absurd cc
lines_found s [] (y ∷ ys) x e = let same : y ≡ x = cc in append-nil (due_line y (due_in s y)) ∙ ap (λ (z : Subscribed Term). due_line z (due_in s z)) same
lines_found s (true ∷ finds) [] x e = absurd cc
lines_found s (true ∷ finds) (y ∷ ys) x e = ap (λ (l : List ℕ). due_line y (due_in s y) ++ l) (lines_found s finds ys x e) ∙ sym (append_assoc (due_line y (due_in s y)) (told_lines s finds ys) (due_line x (due_in s x)))
lines_found s (false ∷ finds) [] x e = absurd cc
lines_found s (false ∷ finds) (y ∷ ys) x e = lines_found s finds ys x e

-- what is not told yet stands as it was
stands_at : (s : SessionState) (finds : List Bool) (xs : SubscriptionList) → slice_get (after_told s finds xs) (length finds) ≡ slice_get xs (length finds)
stands_at s [] xs = refl
stands_at s (true ∷ finds) [] = refl
stands_at s (true ∷ finds) (y ∷ ys) = stands_at s finds ys
stands_at s (false ∷ finds) [] = refl
stands_at s (false ∷ finds) (y ∷ ys) = stands_at s finds ys

told_first : (d : Option Answer) (y : Subscribed Term) (ys : SubscriptionList) → told_in 0 d (y ∷ ys) ≡ after_telling y d ∷ ys
told_first None y ys = refl
told_first (Some a) y ys = refl

told_later : (d : Option Answer) (n : ℕ) (z : Subscribed Term) (zs : SubscriptionList) → told_in (suc n) d (z ∷ zs) ≡ z ∷ told_in n d zs
told_later None n z zs = refl
told_later (Some a) n z zs = refl

after_found : (s : SessionState) (finds : List Bool) (xs : SubscriptionList) (x : Subscribed Term) → slice_get xs (length finds) ≡ Some x → told_in (length finds) (due_in s x) (after_told s finds xs) ≡ after_told s (finds ++ true ∷ []) xs
after_found s [] [] x e = absurd cc
after_found s [] (y ∷ ys) x e = let same : x ≡ y = cc in ap (λ (z : Subscribed Term). told_in 0 (due_in s z) (y ∷ ys)) same ∙ told_first (due_in s y) y ys
after_found s (true ∷ finds) [] x e = absurd cc
after_found s (true ∷ finds) (y ∷ ys) x e =
    told_later (due_in s x) (length finds) (after_telling y (due_in s y)) (after_told s finds ys) ∙ ap (λ (l : SubscriptionList). after_telling y (due_in s y) ∷ l) (after_found s finds ys x e)
after_found s (false ∷ finds) [] x e = absurd cc
after_found s (false ∷ finds) (y ∷ ys) x e = told_later (due_in s x) (length finds) y (after_told s finds ys) ∙ ap (λ (l : SubscriptionList). y ∷ l) (after_found s finds ys x e)

after_length : (s : SessionState) (finds : List Bool) (xs : SubscriptionList) → length finds ≤ length xs → length (after_told s finds xs) ≡ length xs
after_length s [] xs n = refl
after_length s (b ∷ finds) [] n = absurd (omega (arith, n))
after_length s (true ∷ finds) (y ∷ ys) n = ap (λ (k : ℕ). suc k) (after_length s finds ys (omega (arith, n)))
after_length s (false ∷ finds) (y ∷ ys) n = ap (λ (k : ℕ). suc k) (after_length s finds ys (omega (arith, n)))

pub there : (xs : SubscriptionList) (place : ℕ) → place < length xs → (x : Subscribed Term) × (slice_get xs place ≡ Some x)
there [] place n = absurd (omega (arith, n))
there (x ∷ xs) zero n = (x, refl)
there (x ∷ xs) (suc place) n = there xs place (omega (arith, n))

-- ---- the loop

-- those in front of the place were told what is due to them, where memory was found
pub record Telling (s : SessionState) (xs : SubscriptionList) (bytes : List ℕ) (place : ℕ) (is_whole : Bool) (now : SubscriptionList) (out : List ℕ) : Type 0 where
  pub finds : List Bool
  pub marks : length finds ≡ place
  pub whole : is_whole ≡ are_all_found finds
  pub bytes_are : out ≡ bytes ++ told_lines s finds xs
  pub now_is : now ≡ after_told s finds xs
  pub many : length now ≡ length xs

pub none_told : (s : SessionState) (xs : SubscriptionList) (bytes : List ℕ) → Telling s xs bytes 0 true xs bytes
none_told s xs bytes = record { finds = []; marks = refl; whole = refl; bytes_are = sym (append-nil bytes); now_is = refl; many = refl }

pub one_told : (s : SessionState) (xs : SubscriptionList) (bytes : List ℕ) (place : ℕ) (is_whole : Bool) (now now' : SubscriptionList) (out out' : List ℕ) → Telling s xs bytes place is_whole now out → place < length xs
    → TellsAt s place now out now' out' → Telling s xs bytes (place + 1) is_whole now' out'
one_told s xs bytes place is_whole now now' out out' t within tells =
    let x = there xs place within in
    let at_xs : slice_get xs (length t.finds) ≡ Some x.0 = ap (slice_get xs) t.marks ∙ x.1 in
    let at_now : slice_get now place ≡ Some x.0 = ap (λ (l : SubscriptionList). slice_get l place) t.now_is ∙ ap (λ (n : ℕ). slice_get (after_told s t.finds xs) n) (sym t.marks) ∙ stands_at s t.finds xs ∙ at_xs in
    let told = tells x.0 at_now in
    let now_is : now' ≡ after_told s (t.finds ++ true ∷ []) xs = told.1 ∙ ap (λ (n : ℕ). told_in n (due_in s x.0) now) (sym t.marks) ∙ ap (λ (l : SubscriptionList). told_in (length t.finds) (due_in s x.0) l) t.now_is ∙ after_found s t.finds xs x.0 at_xs in
    let marks : length (t.finds ++ true ∷ []) ≡ place + 1 = omega (arith, t.marks, length-append t.finds (true ∷ [])) in
    record {
      finds = t.finds ++ true ∷ [];
      marks = marks;
      whole = t.whole ∙ sym (all_with t.finds true ∙ and_true (are_all_found t.finds));
      bytes_are = told.0 ∙ ap (λ (l : List ℕ). l ++ due_line x.0 (due_in s x.0)) t.bytes_are ∙ append_assoc bytes (told_lines s t.finds xs) (due_line x.0 (due_in s x.0)) ∙ ap (λ (l : List ℕ). bytes ++ l) (sym (lines_found s t.finds xs x.0 at_xs));
      now_is = now_is;
      many = ap (λ (l : SubscriptionList). length l) now_is ∙ after_length s (t.finds ++ true ∷ []) xs (omega (arith, marks, within));
    }
  where
    and_true : (b : Bool) → (b && true) ≡ b
    and_true true = refl
    and_true false = refl

pub one_missed : (s : SessionState) (xs : SubscriptionList) (bytes : List ℕ) (place : ℕ) (is_whole : Bool) (now now' : SubscriptionList) (out out' : List ℕ) → Telling s xs bytes place is_whole now out
    → (now' ≡ now) × (out' ≡ out) → Telling s xs bytes (place + 1) false now' out'
one_missed s xs bytes place is_whole now now' out out' t same = record {
  finds = t.finds ++ false ∷ [];
  marks = omega (arith, t.marks, length-append t.finds (false ∷ []));
  whole = sym (all_with t.finds false ∙ and_false (are_all_found t.finds));
  bytes_are = same.1 ∙ t.bytes_are ∙ ap (λ (l : List ℕ). bytes ++ l) (sym (lines_missed s t.finds xs));
  now_is = same.0 ∙ t.now_is ∙ sym (after_missed s t.finds xs);
  many = ap (λ (l : SubscriptionList). length l) same.0 ∙ t.many;
}
  where
    and_false : (b : Bool) → (b && false) ≡ false
    and_false true = refl
    and_false false = refl

pub all_told : (s : SessionState) (xs : SubscriptionList) (bytes : List ℕ) (place : ℕ) (is_whole : Bool) (now : SubscriptionList) (out : List ℕ) → Telling s xs bytes place is_whole now out → place ≡ length xs → TellsAll s xs bytes is_whole now out
all_told s xs bytes place is_whole now out t end = record { finds = t.finds; marks = t.marks ∙ end; whole = t.whole; bytes_are = t.bytes_are; subscriptions_are = t.now_is }

pub went : {T E P : Type 0} (r : Result T E) → is_err r ≡ false → OnOk r P → P
went (Ok x) e p = p
went (Err x) e p = absurd cc

pub failed : {T E P : Type 0} (r : Result T E) → is_err r ≡ true → OnErr r P → P
failed (Ok x) e p = absurd cc
failed (Err x) e p = p

-- ---- a line

-- a request was answered at just this state, and what is due after it isn't told yet
pub record AnswersAt (old : WithSubscriptions FrontState) (moment : ℕ) (request : Result Request Refusal) (n : ℕ) (before after : List ℕ) (new : WithSubscriptions FrontState) : Type 0 where
  pub way : Way
  pub cause : HasCause way (met_or_refused old.front.state old.subscriptions moment request).accepts old.front new.front
  pub faults : n ≡ faults_of way
  pub bytes_are : after ≡ before ++ reply_bytes (refusal_or way (met_or_refused old.front.state old.subscriptions moment request).reply)
  pub state_is : new.front.state ≡ state_or way (met_or_refused old.front.state old.subscriptions moment request).state old.front.state
  pub subscriptions_are : new.subscriptions ≡ subscriptions_after (refusal_or way (met_or_refused old.front.state old.subscriptions moment request).reply) (seen old) request

-- a line was answered, and then what is due after it was told
pub line_told : (old mid new : WithSubscriptions FrontState) (moment : ℕ) (line before between after : List ℕ) (n faults : ℕ) (is_whole : Bool) → AnswersAt old moment (request_of_line line) faults before between mid
    → TellsAll mid.front.state mid.subscriptions between is_whole new.subscriptions after → new.front ≡ mid.front → n ≡ cond is_whole faults 1
    → (meeting : Meeting) × (bytes : List ℕ) × (n ≡ faults_at meeting) × (after ≡ before ++ bytes) × RepliesTo meeting old moment line bytes new
line_told old mid new moment line before between after n faults is_whole r t front counted =
    let way = r.way in
    let left : SubscriptionList = subscriptions_told way old moment line in
    let reply : List ℕ = reply_bytes (told_by way old moment line) in
    let told : List ℕ = told_lines new.front.state t.finds left in
    let told_is : told_lines mid.front.state t.finds mid.subscriptions ≡ told =
    ap (λ (l : SubscriptionList). told_lines mid.front.state t.finds l) r.subscriptions_are ∙ ap (λ (f : FrontState). told_lines f.state t.finds left) (sym front) in (
      record { way = way; finds = t.finds },
      reply ++ told,
      counted ∙ ap (λ b. cond b faults 1) t.whole ∙ ap (λ k. cond (are_all_found t.finds) k 1) r.faults,
      t.bytes_are ∙ ap (λ (l : List ℕ). between ++ l) told_is ∙ ap (λ (l : List ℕ). l ++ told) r.bytes_are ∙ append_assoc before reply told,
      record {
        cause = subst (λ (f : FrontState). HasCause way (line_met (seen old) moment line).accepts old.front f) (sym front) r.cause;
        state_is = ap (λ (f : FrontState). f.state) front ∙ r.state_is;
        marks = t.marks ∙ ap (λ (l : SubscriptionList). length l) r.subscriptions_are;
        bytes_are = refl;
        subscriptions_are = t.subscriptions_are ∙ ap (λ (l : SubscriptionList). after_told mid.front.state t.finds l) r.subscriptions_are ∙ ap (λ (f : FrontState). after_told f.state t.finds left) (sym front);
      },
    )
