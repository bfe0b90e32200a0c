use Rattle.wm_serve.proofs.server.serve.Given as goal

-- the book that was just opened
abbrev pub ghosts-serve_over : goal.ghosts-serve_over
ghosts-serve_over g a = record { book = a.opened.seen.book }
