use Rattle.view_tests.proofs.shared.following.follows.Given as goal

-- the book that was just opened
abbrev pub ghosts-followed : goal.ghosts-followed
ghosts-followed g a = record { book = a.opened.seen.book }
