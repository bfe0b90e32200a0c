-- The lines that are due to subscriptions, and where a session stands after a line and those.
use Rattle.std.specs.Prelude.{ℕ, List, [], ◌∷◌, ◌++◌, map, Bool, true, false, ◌&&◌, nat_eq, Option, Some, None, if◌then◌else◌}
use Rattle.wm_expr.specs.Meanings.{holds}
use Rattle.wm_expr.specs.Terms.{Term}
use Rattle.wm_since.specs.declared.query.Answer.{Answer}
use Rattle.wm_subs.specs.Subscribers.{Subscriber, after_due, due_answer_by}
use Rattle.wm_subs.specs.declared.subscribed.Subscribed.{Subscribed}
use Rattle.wm_lines.specs.Lines.{request_of_line}
use Rattle.wm_lines.specs.Replies.{due_data, line_text, reply_bytes}
use Rattle.wm_session.specs.declared.local.root_views.RootView.{RootView}
use Rattle.wm_session.specs.session.Sessions.{SessionState, WithSubscriptions, SubscriptionList, line_met, subscriptions_after, view_of}

-- what a root's view has to tell
abbrev pub due_by : RootView → Subscriber Term → Option Answer
due_by root s = due_answer_by (holds s.query.test) root.view s

-- what the root of a path has to tell a subscription: nothing if it isn't watched, nor if it is another root than the one of the subscription
abbrev pub due_of : Option RootView → Subscribed Term → Option Answer
due_of None x = None
due_of (Some root) x = if nat_eq root.view.root x.number then due_by root x.subscription else None

abbrev pub due_in : SessionState → Subscribed Term → Option Answer
due_in s x = due_of (view_of s x.root) x

abbrev pub due_line : Subscribed Term → Option Answer → List ℕ
due_line x None = []
due_line x (Some a) = line_text (due_data x a)

-- it asks next since the answer's clock
abbrev pub after_telling : Subscribed Term → Option Answer → Subscribed Term
after_telling x answer = record x { subscription = after_due x.subscription answer }

-- what is due, in the order of subscribing
abbrev pub due_lines : SessionState → SubscriptionList → List ℕ
due_lines s [] = []
due_lines s (x ∷ xs) = due_line x (due_in s x) ++ due_lines s xs

abbrev pub after_due_lines : SessionState → SubscriptionList → SubscriptionList
after_due_lines s xs = map (λ x. after_telling x (due_in s x)) xs

-- ---- a line, with what is due after it

abbrev pub line_bytes : WithSubscriptions SessionState → ℕ → List ℕ → List ℕ
line_bytes s moment line =
    let here = line_met s moment line in
    reply_bytes here.reply ++ due_lines here.state (subscriptions_after here.reply s (request_of_line line))

abbrev pub after_line : WithSubscriptions SessionState → ℕ → List ℕ → WithSubscriptions SessionState
after_line s moment line =
    let here = line_met s moment line in
    record { front = here.state; subscriptions = after_due_lines here.state (subscriptions_after here.reply s (request_of_line line)) }

-- ---- where memory runs out

-- What is told where memory was found for the marked ones alone, a mark a subscription: of the others nothing is written, and they stay
-- as they are.
abbrev pub told_lines : SessionState → List Bool → SubscriptionList → List ℕ
told_lines s (true ∷ finds) (x ∷ xs) = due_line x (due_in s x) ++ told_lines s finds xs
told_lines s (false ∷ finds) (x ∷ xs) = told_lines s finds xs
told_lines s _ _ = []

abbrev pub after_told : SessionState → List Bool → SubscriptionList → SubscriptionList
after_told s (true ∷ finds) (x ∷ xs) = after_telling x (due_in s x) ∷ after_told s finds xs
after_told s (false ∷ finds) (x ∷ xs) = x ∷ after_told s finds xs
after_told s [] xs = xs
after_told s (b ∷ finds) [] = []

abbrev pub are_all_found : List Bool → Bool
are_all_found [] = true
are_all_found (b ∷ finds) = b && are_all_found finds
