-- What contracts see of a session.
use Rattle.std.specs.Prelude.{[]}
use Rattle.wm_session.specs.declared.session.Session.{Session}
use Rattle.wm_session.specs.session.Faults.{FrontState}
use Rattle.wm_session.specs.session.Sessions.{WithSubscriptions}

-- where a session stands, by what its front says of itself
abbrev pub standing : {F : Type 0} → (F → FrontState) → Session F → WithSubscriptions FrontState
standing front_state session = record { front = front_state session.front; subscriptions = session.subscriptions }

-- where one stands that has answered no line yet
abbrev pub without_subscriptions : {A : Type 0} → A → WithSubscriptions A
without_subscriptions front = record { front = front; subscriptions = [] }
