-- The words tell no request: a usage error.
use Rattle.std.proofs.Common.{◌≡◌, ℕ, Option, Some, None, refl, sym, ap, subst, true≢false, is_some}
use Rattle.std.specs.Prelude.{unwrap_or}
use Rattle.clap.specs.Words.{Text}
use Rattle.wm_client.specs.ClientWords.{SyncWanted, TellsOf, TellsTalk, Wanted, shown_status}

pub some≢none : {X : Type 0} (x : X) → Some x ≡ None → ⊥
some≢none x same = true≢false (ap is_some same)

pub some_same : {X : Type 0} (x y : X) → Some x ≡ Some y → x ≡ y
some_same x y same = ap (λ o. unwrap_or o x) same

pub tells_nothing : (socket_word json_word follow_word sync_word timeout_word : Option Text) (wanted : Wanted) → wanted ≡ shown_status 2
    → ((socket json : Text) (follow : ℕ) (sync : Option SyncWanted) → TellsTalk socket_word json_word follow_word sync_word timeout_word socket json follow sync → ⊥)
    → TellsOf socket_word json_word follow_word sync_word timeout_word wanted
tells_nothing socket_word json_word follow_word sync_word timeout_word wanted is none =
    subst (TellsOf socket_word json_word follow_word sync_word timeout_word) (sym is) (refl, none)
