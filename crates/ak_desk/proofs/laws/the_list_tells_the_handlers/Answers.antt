-- What holds of every list that the machine of a desk allows.
use Rattle.ak_desk.proofs.MachineLaws.{each_entry_follows, positions_count, refused_edits_change_nothing, state_is_one}
use Rattle.ak_desk.proofs.laws.the_list_tells_the_handlers.Goals as goal

pub returns-clause-follows : goal.returns-clause-follows
returns-clause-follows c = each_entry_follows

pub returns-clause-positions : goal.returns-clause-positions
returns-clause-positions c = positions_count

pub returns-clause-refused : goal.returns-clause-refused
returns-clause-refused c = refused_edits_change_nothing

pub returns-clause-one : goal.returns-clause-one
returns-clause-one c = state_is_one c.words_replay.ensures
