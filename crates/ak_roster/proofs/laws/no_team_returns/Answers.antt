-- Each step gives the next number, and takes the gone team out for good.
use Rattle.ak_roster.proofs.Carried.{numbers_rise, no_team_returns}
use Rattle.ak_roster.proofs.laws.no_team_returns.Goals as goal

pub returns : goal.returns
returns c = record { rising = numbers_rise; gone = no_team_returns }
