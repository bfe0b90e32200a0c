use Rattle.view_tests.proofs.shared.shares.publishes_at_once.Given as goal

-- the book that was just opened
abbrev pub ghosts-published_at_once : goal.ghosts-published_at_once
ghosts-published_at_once g a = record { book = a.opened.seen.book }
