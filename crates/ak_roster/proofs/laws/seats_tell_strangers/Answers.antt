-- What stands at a seat's own places is what its thread made.
use Rattle.ak_roster.proofs.Strangers.{entries_tell_plain, seats_are_strangers}
use Rattle.ak_roster.proofs.laws.seats_tell_strangers.Goals as goal

pub returns-clause-entries : goal.returns-clause-entries
returns-clause-entries g c = entries_tell_plain

pub returns-clause-strangers : goal.returns-clause-strangers
returns-clause-strangers g c = seats_are_strangers
