-- Who has a part is told by the entries.
use Rattle.ak_roster.proofs.Holders.{holders_are_told, strangers_are_told}
use Rattle.ak_roster.proofs.laws.holders_are_told.Goals as goal

pub returns : goal.returns
returns c = record { holders = holders_are_told; strangers = strangers_are_told }
