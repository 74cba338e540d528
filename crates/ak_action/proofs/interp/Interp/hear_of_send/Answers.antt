-- The action waits for the answer, so its last word is still to be said.
use Rattle.ak_action.proofs.Rooms.{in_action_where_sent}
use Rattle.ak_action.proofs.interp.Interp.hear_of_send.Goals as goal

pub run_out_of_memory-requires : goal.run_out_of_memory-requires
run_out_of_memory-requires c = in_action_where_sent c.args.self.now c.args.how c.requires.sent c.requires.place

pub hear_of_reply-requires : goal.hear_of_reply-requires
hear_of_reply-requires c = in_action_where_sent c.args.self.now c.args.how c.requires.sent c.requires.place

pub pass-requires : goal.pass-requires
pass-requires c = in_action_where_sent c.args.self.now c.args.how c.requires.sent c.requires.place
