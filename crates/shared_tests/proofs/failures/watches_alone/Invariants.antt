use Rattle.shared_tests.proofs.failures.watches_alone.Given as goal

-- the book that was just opened
abbrev pub ghosts-watches_twice : goal.ghosts-watches_twice
ghosts-watches_twice g a = record { book = a.opened.seen.book }
