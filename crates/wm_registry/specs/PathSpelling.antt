-- The spelling of a root's path is that of its text, where the text keeps the rules.
use Rattle.std.proofs.Common.{◌≡◌, ℕ, ◌^◌, ◌<◌, List, ◌++◌, length, drop, true, false, sym, ap, ◌∙◌}
use Rattle.wm_wire.specs.Spelling.{text, IsText, BeginsWith, NoneBegins}
use Rattle.wm_wire.specs.Laws.{alone_text, short_text}
use Rattle.wm_names.specs.Paths.{is_root_path, max_root_path}

pub record IsPath (path : List ℕ) : Type 0 where
  pub is_text : IsText max_root_path path
  pub rules : is_root_path path ≡ true

pub alone_path : (x y : List ℕ) (a b : List ℕ) → IsPath x → IsPath y → text x ++ a ≡ text y ++ b → x ≡ y
alone_path x y a b hx hy e = alone_text max_root_path x y a b hx.is_text hy.is_text e

pub short_path : (x : List ℕ) → IsPath x → length (text x) < 2 ^ 32
short_path x h = short_text max_root_path x h.is_text

-- a text that breaks the rules is the spelling of no path
pub no_path : (found bytes : List ℕ) (size : ℕ) → BeginsWith (IsText max_root_path) text bytes found size → is_root_path found ≡ false → NoneBegins IsPath text bytes
no_path found bytes size b broken value rest fits e =
    let same = alone_text max_root_path found value (drop size bytes) rest b.known fits.is_text (sym b.parts ∙ e) in
    let bad : false ≡ true = sym broken ∙ ap is_root_path same ∙ fits.rules in absurd cc
