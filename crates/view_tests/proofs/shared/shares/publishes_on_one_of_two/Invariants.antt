use Rattle.view_tests.proofs.shared.shares.publishes_on_one_of_two.Given as goal

-- the book that was just opened
abbrev pub ghosts-published_on_one : goal.ghosts-published_on_one
ghosts-published_on_one g a = record { book = a.opened.seen.book }
