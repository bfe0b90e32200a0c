use Rattle.shared_tests.proofs.ended.both_alone.Given as goal

-- the book that was just opened
abbrev pub ghosts-both : goal.ghosts-both
ghosts-both g a = record { book = a.opened.seen.book }
