-- The lines of an input, and one that is longer than a line may be.
use Rattle.std.proofs.Common.{◌≡◌, ◌≢◌, ℕ, suc, ◌<◌, List, [], ◌∷◌, ◌++◌, length, take, Bool, true, false, cond, Option, None, Result, Err, refl, sym, ap, ◌∙◌, arith, inl, inr, subst, codes}
use Rattle.std.proofs.lemmas.List.{append-nil, take_all, length-take-le}
use Rattle.std.proofs.lemmas.Bool.{cases_lt}
use Rattle.std.proofs.lemmas.Bool.Decides.{nat_tests}
use Rattle.std.specs.Prelude.{◌==◌, ◌&&◌, nat_le}
use Rattle.std.specs.Io.BufRead.{take_through, drop_through, ends_with_byte}
use Rattle.std.specs.Io.KnownBytes.{Appends}
use Rattle.serde_json.proofs.OnLiterals.{serde_json_on_literals}
use Rattle.wm_disk.specs.declared.refusal.Refusal.TheVariants as refusals
use Rattle.wm_session.specs.session.Inputs.{lines_of, in_front, max_kept}
use Rattle.wm_lines.specs.Lines.{value_of_line, max_line, request_of_line, request_of_text}
use Rattle.wm_lines.specs.Replies.{line_text, refusal_reply, reply_bytes}
use Rattle.wm_disk.specs.declared.refusal.Refusal.{Refusal}
use Rattle.wm_lines.specs.declared.request.Request.{Request}
use Rattle.wm_session.specs.session.Sessions.{SessionState, WithSubscriptions, SubscriptionList, met_or_refused, subscriptions_after}
use Rattle.wm_session.specs.session.Dues.{after_told, are_all_found, told_lines}
use Rattle.wm_session.specs.session.Faults.{FrontState, Meeting, faults_at, seen, Memory, HasCause, Lasts, RepliesTo, faults_of, refusal_or, state_or}
use Rattle.wm_session.specs.session.Runs.{Serves, Untold}

-- ---- the lines of an input

-- the first line of an input, and the lines of the rest
lines_of-first : (x : ℕ) (xs : List ℕ) → lines_of (x ∷ xs) ≡ take_through 10 (x ∷ xs) ∷ lines_of (drop_through 10 (x ∷ xs))
lines_of-first x [] = by_byte (x == 10)
  where
    by_byte : (b : Bool) → cond b ((x ∷ []) ∷ []) ((x ∷ []) ∷ []) ≡ cond b (x ∷ []) (x ∷ []) ∷ lines_of (cond b [] [])
    by_byte true = refl
    by_byte false = refl
lines_of-first x (y ∷ ys) = by_byte (x == 10) (lines_of-first y ys)
  where
    by_byte : (b : Bool) → lines_of (y ∷ ys) ≡ take_through 10 (y ∷ ys) ∷ lines_of (drop_through 10 (y ∷ ys))
        → cond b ((x ∷ []) ∷ lines_of (y ∷ ys)) (in_front x (lines_of (y ∷ ys))) ≡ cond b (x ∷ []) (x ∷ take_through 10 (y ∷ ys)) ∷ lines_of (cond b (y ∷ ys) (drop_through 10 (y ∷ ys)))
    by_byte true e = refl
    by_byte false e = ap (in_front x) e

pub lines_of-next : (xs : List ℕ) → xs ≢ [] → lines_of xs ≡ take_through 10 xs ∷ lines_of (drop_through 10 xs)
lines_of-next [] ne = absurd (ne refl)
lines_of-next (x ∷ xs) ne = lines_of-first x xs

-- ---- a line that is longer than a line may be

over : (n m : ℕ) (b : Bool) → m < n → (b && nat_le n m) ≡ false
over n m true h = grind (arith, nat_tests)
over n m false h = refl

no_text : (line : List ℕ) → max_line < length line → value_of_line line ≡ None
unfolding value_of_line
no_text line h = rw (over (length line) max_line (ends_with_byte 10 line) h) refl

-- what is kept of a line is met as the line
same_text : (kept whole : List ℕ) → kept ≡ take max_kept whole → value_of_line kept ≡ value_of_line whole
same_text kept whole e =
    elim (cases_lt max_line (length whole)) [
      | inl long ↦
          let enough : length (take max_kept whole) ≡ max_kept = length-take-le max_kept whole (omega arith) in
          let longer : max_line < length kept = omega (arith, ap length e, enough) in
          no_text kept longer ∙ sym (no_text whole long)
      | inr short ↦ ap value_of_line (e ∙ take_all max_kept whole (omega arith))
    ]

-- and asks for the same
pub same_request : (kept whole : List ℕ) → kept ≡ take max_kept whole → request_of_line kept ≡ request_of_line whole
same_request kept whole e = ap request_of_text (same_text kept whole e)

-- the subscriptions after a request
abbrev after_request : Meeting → WithSubscriptions FrontState → ℕ → Result Request Refusal → SubscriptionList
after_request meeting old moment q = subscriptions_after (refusal_or meeting.way (met_or_refused old.front.state old.subscriptions moment q).reply) (seen old) q

answers_kept : (meeting : Meeting) (old new : WithSubscriptions FrontState) (moment : ℕ) (kept whole bytes : List ℕ) → kept ≡ take max_kept whole → RepliesTo meeting old moment kept bytes new → RepliesTo meeting old moment whole bytes new
answers_kept meeting old new moment kept whole bytes e a =
    let same = same_request kept whole e in
    record {
      cause = subst (λ (q : Result Request Refusal). HasCause meeting.way (met_or_refused old.front.state old.subscriptions moment q).accepts old.front new.front) same a.cause;
      state_is = subst (λ (q : Result Request Refusal). new.front.state ≡ state_or meeting.way (met_or_refused old.front.state old.subscriptions moment q).state old.front.state) same a.state_is;
      marks = subst (λ (q : Result Request Refusal). length meeting.finds ≡ length (after_request meeting old moment q)) same a.marks;
      bytes_are = subst (λ (q : Result Request Refusal). bytes ≡ reply_bytes (refusal_or meeting.way (met_or_refused old.front.state old.subscriptions moment q).reply) ++ told_lines new.front.state meeting.finds (after_request meeting old moment q)) same a.bytes_are;
      subscriptions_are = subst (λ (q : Result Request Refusal). new.subscriptions ≡ after_told new.front.state meeting.finds (after_request meeting old moment q)) same a.subscriptions_are;
    }

pub stands_kept : (old new : WithSubscriptions FrontState) (moment n : ℕ) (kept whole : List ℕ) (held holds : Option (List ℕ)) → kept ≡ take max_kept whole → Serves old moment kept n held holds new → Serves old moment whole n held holds new
stands_kept old new moment n kept whole held holds e s =
    record { meeting = s.meeting; bytes = s.bytes; faults_are = s.faults_are; appends = s.appends; answers = answers_kept s.meeting old new moment kept whole s.bytes e s.answers }

pub untold_kept : (old new : WithSubscriptions FrontState) (moment : ℕ) (kept whole : List ℕ) → kept ≡ take max_kept whole → Untold old moment kept new → Untold old moment whole new
untold_kept old new moment kept whole e u = record { meeting = u.meeting; bytes = u.bytes; answers = answers_kept u.meeting old new moment kept whole u.bytes e u.answers }

pub no_memory_line : codes "{\"error\":\"16 NoMemory\",\"version\":\"w1\"}\n" ≡ line_text (refusal_reply refusals.NoMemory)
unfolding line_text serde_json_on_literals
no_memory_line = refl

stood : (old new : FrontState) → new ≡ old → Lasts old new
stood old new same = record { failures = omega (arith, ap (λ (s : FrontState). s.failures) same); number = omega (arith, ap (λ (s : FrontState). s.number) same) }

-- nothing was due for want of memory
none_found : SubscriptionList → List Bool
none_found [] = []
none_found (x ∷ xs) = false ∷ none_found xs

none_marks : (xs : SubscriptionList) → length (none_found xs) ≡ length xs
unfolding none_found
none_marks [] = refl
none_marks (x ∷ xs) = ap (λ (n : ℕ). suc n) (none_marks xs)

none_lines : (s : SessionState) (xs : SubscriptionList) → told_lines s (none_found xs) xs ≡ []
unfolding none_found
none_lines s [] = refl
none_lines s (x ∷ xs) = none_lines s xs

none_after : (s : SessionState) (xs : SubscriptionList) → after_told s (none_found xs) xs ≡ xs
unfolding none_found
none_after s [] = refl
none_after s (x ∷ xs) = ap (λ (l : SubscriptionList). x ∷ l) (none_after s xs)

unmet : WithSubscriptions FrontState → Meeting
unmet old = record { way = Memory; finds = none_found old.subscriptions }

unmet_fault : (old : WithSubscriptions FrontState) → faults_at (unmet old) ≡ 1
unfolding unmet
unmet_fault old =
    elim (are_all_found (none_found old.subscriptions)) as (λ b. cond b (faults_of Memory) 1 ≡ 1) [
      | true ↦ refl
      | false ↦ refl
    ]

answered_no_memory : (old new : WithSubscriptions FrontState) (moment : ℕ) (line : List ℕ) → new ≡ old → RepliesTo (unmet old) old moment line (reply_bytes (Err refusals.NoMemory)) new
unfolding unmet
answered_no_memory old new moment line same = record {
  cause = (stood old.front new.front (ap (λ (s : WithSubscriptions FrontState). s.front) same), ap (λ (s : WithSubscriptions FrontState). s.front.failures) same);
  state_is = ap (λ (s : WithSubscriptions FrontState). s.front.state) same;
  marks = none_marks old.subscriptions;
  bytes_are = sym (ap (λ (l : List ℕ). reply_bytes (Err refusals.NoMemory) ++ l) (none_lines new.front.state old.subscriptions) ∙ append-nil (reply_bytes (Err refusals.NoMemory)));
  subscriptions_are = ap (λ (s : WithSubscriptions FrontState). s.subscriptions) same ∙ sym (none_after new.front.state old.subscriptions);
}

-- a line that was answered with out of memory, with nothing changed
pub no_memory : (old new : WithSubscriptions FrontState) (moment n : ℕ) (line : List ℕ) (held holds : Option (List ℕ)) → new ≡ old → n ≡ 1 → Appends held holds (reply_bytes (Err refusals.NoMemory)) → Serves old moment line n held holds new
no_memory old new moment n line held holds same one appends =
    record { meeting = unmet old; bytes = reply_bytes (Err refusals.NoMemory); faults_are = one ∙ sym (unmet_fault old); appends = appends; answers = answered_no_memory old new moment line same }

-- not even that was told
pub untold_no_memory : (old new : WithSubscriptions FrontState) (moment : ℕ) (line : List ℕ) → new ≡ old → Untold old moment line new
untold_no_memory old new moment line same = record { meeting = unmet old; bytes = reply_bytes (Err refusals.NoMemory); answers = answered_no_memory old new moment line same }
