use Rattle.ak_turn.proofs.lock.TurnLock.split.Given as goal

-- the new thread
abbrev pub ghosts-split_off : goal.ghosts-split_off
ghosts-split_off g a = record { thread = a.thread }
