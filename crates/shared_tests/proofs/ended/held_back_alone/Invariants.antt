use Rattle.shared_tests.proofs.ended.held_back_alone.Given as goal

-- the book that was just opened
abbrev pub ghosts-holds_the_first_line_back : goal.ghosts-holds_the_first_line_back
ghosts-holds_the_first_line_back g a = record { book = a.opened.seen.book }
