use Rattle.serve_tests.proofs.forgetting.deleted_files_are_forgotten.Given as goal

-- the book that was just opened
abbrev pub ghosts-forgets : goal.ghosts-forgets
ghosts-forgets g a = record { book = a.opened.seen.book }
