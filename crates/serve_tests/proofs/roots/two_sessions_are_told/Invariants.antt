use Rattle.serve_tests.proofs.roots.two_sessions_are_told.Given as goal

-- the book that was just opened
abbrev pub ghosts-tells_two_sessions : goal.ghosts-tells_two_sessions
ghosts-tells_two_sessions g a = record { book = a.opened.seen.book }
