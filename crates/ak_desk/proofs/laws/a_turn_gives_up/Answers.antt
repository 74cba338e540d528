-- The seat is at what the machine allows, by one entry more.
use Rattle.ak_desk.proofs.Sharing.{a_turn_gives_up}
use Rattle.ak_desk.proofs.laws.a_turn_gives_up.Goals as goal

pub returns : goal.returns
returns c = a_turn_gives_up
