use Rattle.serve_tests.proofs.forgetting.change_tells_what_was_forgotten.Given as goal

-- the book that was just opened
abbrev pub ghosts-tells_forgotten : goal.ghosts-tells_forgotten
ghosts-tells_forgotten g a = record { book = a.opened.seen.book }
