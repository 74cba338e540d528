-- What the libraries prove of calls, one after another, by what a caller needs of it.
use Rattle.ak_turn.proofs.Surface.{makes_one, seen_then_seen}
use Rattle.ak_port.proofs.Surface.{sends_one}
use Rattle.ak_roster.proofs.Surface.{stranger_fresh}

-- a call is one entry more that the thread made
pub ruleset making = (makes_one)

-- one look after another
pub ruleset seeing = (seen_then_seen)

-- a write is one item more that the thread sent
pub ruleset sending = (sends_one)

-- a session is a stranger to loopers that gave no door yet
pub ruleset strangers = (stranger_fresh)
