-- The team is left, and then its ports are shut; or its own port is.
use Rattle.std.proofs.Common.{◌∙◌, sym, true}
use Rattle.ak_diary.specs.Turns.{LeavesRoster}
use Rattle.ak_looper.proofs.ClosingSteps.{closes_alone, closes_team}
use Rattle.ak_looper.proofs.Going.{keeps_on, still_standing}
use Rattle.ak_looper.proofs.Shutting.{closed_is_shut}
use Rattle.ak_looper.proofs.reach.Reach.close.Goals as goal

pub shut_team-requires-clause-stands : goal.shut_team-requires-clause-stands
shut_team-requires-clause-stands g c = still_standing (λ l so_far. LeavesRoster l true) c.args.self.now c.leave.new.self c.requires.stands c.leave.ensures.goes

pub returns-then-is_own-clause-goes : goal.returns-then-is_own-clause-goes
returns-then-is_own-clause-goes g c =
    closes_team c.args.self.now c.leave.new.self c.shut_team.new.self (sym c.is_own.ensures ∙ c.if-is_own.true) c.leave.ensures.goes c.shut_team.ensures.goes

pub returns-then-is_own-clause-keeps : goal.returns-then-is_own-clause-keeps
returns-then-is_own-clause-keeps g c = keeps_on c.args.self.now c.leave.new.self c.shut_team.new.self c.leave.ensures.keeps c.shut_team.ensures.keeps

pub returns-else-is_own-clause-goes : goal.returns-else-is_own-clause-goes
returns-else-is_own-clause-goes g c = closes_alone c.args.self.now c.shut.new.self (sym c.is_own.ensures ∙ c.if-is_own.false) c.shut.ensures.goes

-- what it did says so, whatever each call says of its own port
pub returns-else-is_own-clause-shut : goal.returns-else-is_own-clause-shut
returns-else-is_own-clause-shut g c =
    closed_is_shut c.args.self.now c.shut.new.self c.requires.stands (closes_alone c.args.self.now c.shut.new.self (sym c.is_own.ensures ∙ c.if-is_own.false) c.shut.ensures.goes)
