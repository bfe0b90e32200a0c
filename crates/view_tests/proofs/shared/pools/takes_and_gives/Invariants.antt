use Rattle.view_tests.proofs.shared.pools.takes_and_gives.Given as goal

-- the book that was just opened
abbrev pub ghosts-taken_and_given : goal.ghosts-taken_and_given
ghosts-taken_and_given g a = record { book = a.opened.seen.book }
