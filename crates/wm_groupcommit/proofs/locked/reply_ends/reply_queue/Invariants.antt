use Rattle.wm_groupcommit.proofs.locked.reply_ends.reply_queue.Given as goal

-- the number of the seat
abbrev pub ghosts-ends_of : goal.ghosts-ends_of
ghosts-ends_of a = record { number = a._number }
