use Rattle.serve_tests.proofs.roots.cursors_and_viewers_have_limits.Given as goal

-- the book that was just opened
abbrev pub ghosts-keeps_limits : goal.ghosts-keeps_limits
ghosts-keeps_limits g a = record { book = a.opened.seen.book }
