-- What a session drops of roots that aren't watched any longer, or were watched anew under their path.
use Rattle.std.specs.Prelude.{◌≡◌, ◌⊎◌, ℕ, nat_eq, Bool, true, false, [], ◌∷◌}
use Rattle.std.specs.List.{filter}
use Rattle.wm_expr.specs.Terms.{Term}
use Rattle.wm_names.specs.Paths.{Path}
use Rattle.wm_session.specs.session.Sessions.{SubscriptionList}
use Rattle.wm_subs.specs.declared.subscribed.Subscribed.{Subscribed}
use Rattle.wm_front.specs.RootsSeen.{ViewerList}

-- Each viewer in its order either stays, and the root of its number is watched, or went, and none is.
abbrev pub AreWatched : (watched ended : ℕ → Type 0) → ViewerList → ViewerList → Type 0
AreWatched watched ended [] now = now ≡ []
AreWatched watched ended (viewer ∷ old) now =
    ((rest : ViewerList) × (now ≡ viewer ∷ rest) × watched viewer.list.share.root × AreWatched watched ended old rest) ⊎ (ended viewer.list.share.root × AreWatched watched ended old now)

-- a watched root had the number
abbrev pub IsWatched : (Path → ℕ → Type 0) → ℕ → Type 0
IsWatched has number = (path : Path) × has path number

-- `has path number` says that the watched root of a path had the number, and `lacks path` that none was watched
module _ (has : Path → ℕ → Type 0) (lacks : Path → Type 0) where
  -- the root of the path that is watched is the one of the subscription
  abbrev pub IsOnWatched : Subscribed Term → Type 0
  IsOnWatched s = (number : ℕ) × has s.root number × (nat_eq s.number number ≡ true)

  -- no root of the path is watched, or another one than that of the subscription
  abbrev pub IsOnEnded : Subscribed Term → Type 0
  IsOnEnded s = lacks s.root ⊎ ((number : ℕ) × has s.root number × (nat_eq s.number number ≡ false))

  -- some are left, and those that went were on roots that have ended
  abbrev pub HaveEnded : SubscriptionList → SubscriptionList → Type 0
  HaveEnded old now = (stays : Subscribed Term → Bool) × (now ≡ filter stays old) × ((s : Subscribed Term) → stays s ≡ false → IsOnEnded s)

  -- the same of those on one path, as its root stands: those that are left there are on a watched root
  abbrev pub HaveEndedOn : Path → SubscriptionList → SubscriptionList → Type 0
  HaveEndedOn path old now =
      (stays : Subscribed Term → Bool) × (now ≡ filter stays old) × ((s : Subscribed Term) → stays s ≡ false → IsOnEnded s) × ((s : Subscribed Term) → stays s ≡ true → s.root ≡ path → IsOnWatched s)
