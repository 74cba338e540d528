-- Where memory ran out nothing was entered, and main's time is what it was.
use Rattle.ak_team.proofs.Entering.{none_took_time}
use Rattle.ak_team.proofs.launching.launch_at_turn.Goals as goal

pub returns-in-NoMemory-clause-in_time : goal.returns-in-NoMemory-clause-in_time
returns-in-NoMemory-clause-in_time g c = none_took_time c.args.hands.now.clock.time c.args.book.now c.try_launch.new.book c.in-NoMemory.ensures.launch
