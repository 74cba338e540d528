use Rattle.ak_turn.proofs.lock.TurnLock.split_head.Given as goal

-- the new thread
abbrev pub ghosts-split_off_head : goal.ghosts-split_off_head
ghosts-split_off_head g a = record { thread = a.thread }
