-- The rule of the log's book, and what its step tells.
use Rattle.std.specs.Prelude.{ℕ, ◌≡◌, ◌==◌, ◌<◌, true, List, [], ◌∷◌, ◌++◌, length, MatchBool}
use Rattle.logbook.specs.Pages.{Cell, cell, Step, View, Book, Named}
use Rattle.wm_share.specs.declared.entry.Entry.{Entry}
use Rattle.wm_share.specs.Logs.{max_shares, operations_of}

-- there is a word for each share, and it is the length of the share's list
pub record TellsLengths (cells : List Cell) (log : List Entry) : Type 0 where
  pub all : length cells ≡ max_shares
  pub words : (n : ℕ) → n < max_shares → cell cells n ≡ (length (operations_of n log), true)

-- the word of the share with this number
abbrev pub word_of : Book → ℕ → Named
word_of b n = record { tracked = true; key = n; book = b }

-- the operation was added to all of the share's list that had been seen; or the list was longer, and was seen
abbrev pub Adds : Step Entry → View Entry ℕ → ℕ → View Entry ℕ → Type 0
Adds s v found w = MatchBool (found == s.old) (operations_of s.key w.0 ≡ operations_of s.key v.0 ++ s.ask.op ∷ []) (length (operations_of s.key w.0) ≡ found)
