use Rattle.view_tests.proofs.shared.telling.told_is_read.Given as goal

-- the book that was just opened
abbrev pub ghosts-read_what_was_told : goal.ghosts-read_what_was_told
ghosts-read_what_was_told g a = record { book = a.opened.seen.book }
