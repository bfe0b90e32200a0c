use Rattle.serve_tests.proofs.moments.moments_of_two_threads_rise.Given as goal

-- the book that was just opened
abbrev pub ghosts-two_threads : goal.ghosts-two_threads
ghosts-two_threads g a = record { book = a.opened.seen.book }
