-- Words that a shell replaces by a user's folder, if no quotes keep it from that.
use Rattle.std.specs.Prelude.{ℕ, List, Option, None, Some, codes, if◌then◌else◌}
use Rattle.wm_commands.specs.Folders.{holds_folder}
use Rattle.wm_commands.specs.declared.home_words.HomeWord.{HomeWord}
use Rattle.wm_commands.specs.declared.home_words.HomeWord.TheVariants.{Tilde, Variable}

-- the first component of the word is ~ or $HOME
abbrev pub home_word : List ℕ → Option HomeWord
home_word word = if holds_folder (codes "~") word then Some Tilde else if holds_folder (codes "$HOME") word then Some Variable else None
