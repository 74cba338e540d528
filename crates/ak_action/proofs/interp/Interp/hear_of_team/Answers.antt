-- The action waits for the answer, so its last word is still to be said.
use Rattle.ak_action.proofs.Rooms.{in_action_where_finding}
use Rattle.ak_action.proofs.interp.Interp.hear_of_team.Goals as goal

pub run_out_of_memory-requires : goal.run_out_of_memory-requires
run_out_of_memory-requires c = in_action_where_finding c.args.self.now c.requires.finding c.requires.place
