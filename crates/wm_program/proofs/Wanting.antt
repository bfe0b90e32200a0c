-- What the words of `serve` tell.
use Rattle.std.proofs.Common.{◌≡◌, Option, Some, None, refl, sym, ap, subst, true≢false, is_some}
use Rattle.std.specs.Prelude.{unwrap_or}
use Rattle.std.specs.Option.{MatchOption}
use Rattle.clap.specs.Words.{Text}
use Rattle.wm_serve.specs.declared.server.Settings.{Settings}
use Rattle.wm_program.specs.ProgramWords.{ServesBy, ProgramWanted, plain, serve_on, shown_status}

pub some≢none : {X : Type 0} (x : X) → Some x ≡ None → ⊥
some≢none x same = true≢false (ap is_some same)

some_same : {X : Type 0} (x y : X) → Some x ≡ Some y → x ≡ y
some_same x y same = ap (λ o. unwrap_or o x) same

pub serves_nothing : (tells : Settings → Type 0) (file_word socket_word : Option Text) (wanted : ProgramWanted) → wanted ≡ shown_status 2
    → ((file socket : Text) (settings : Settings) → file_word ≡ Some file → socket_word ≡ Some socket → tells settings → ⊥) → ServesBy tells file_word socket_word wanted
serves_nothing tells file_word socket_word wanted is none = subst (ServesBy tells file_word socket_word) (sym is) (refl, none)

-- what was read of the options is what they tell
pub by_settings : (tells : Settings → Type 0) (read : Option Settings) (file_word socket_word : Option Text) (wanted : ProgramWanted)
    → MatchOption read ((s : Settings) → tells s → ⊥) (λ s. tells s) → ServesBy (λ s. read ≡ Some s) file_word socket_word wanted → ServesBy tells file_word socket_word wanted
by_settings tells None file_word socket_word (serve_on file socket settings) none serves = absurd (some≢none settings (sym serves.2))
by_settings tells (Some s) file_word socket_word (serve_on file socket settings) told serves = (serves.0, serves.1, subst tells (some_same s settings serves.2) told)
by_settings tells read file_word socket_word plain told serves = absurd serves
by_settings tells None file_word socket_word (shown_status status) none serves = (serves.0, λ f k s f_is k_is t. none s t)
by_settings tells (Some x) file_word socket_word (shown_status status) told serves = (serves.0, λ f k s f_is k_is t. serves.1 f k x f_is k_is refl)
