use Rattle.serve_tests.proofs.readings.crawls_keep_what_is_reported_meanwhile.Given as goal

-- the book that was just opened
abbrev pub ghosts-goes_by : goal.ghosts-goes_by
ghosts-goes_by g a = record { book = a.opened.seen.book }
