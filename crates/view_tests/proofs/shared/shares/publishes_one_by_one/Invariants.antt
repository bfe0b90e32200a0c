use Rattle.view_tests.proofs.shared.shares.publishes_one_by_one.Given as goal

-- the book that was just opened
abbrev pub ghosts-published_one_by_one : goal.ghosts-published_one_by_one
ghosts-published_one_by_one g a = record { book = a.opened.seen.book }
