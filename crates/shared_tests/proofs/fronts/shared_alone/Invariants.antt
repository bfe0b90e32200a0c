use Rattle.shared_tests.proofs.fronts.shared_alone.Given as goal

-- the book that was just opened
abbrev pub ghosts-shared : goal.ghosts-shared
ghosts-shared g a = record { book = a.opened.seen.book }
