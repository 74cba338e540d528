use Rattle.std.proofs.Common.{◌≡◌, ℕ, List, [], length, vec_capacity}
use Rattle.ak_roster.specs.declared.head.AppHead.{AppHead}
use Rattle.ak_session.specs.Stands.{IsStanding, KeepsSession, Stands}
use Rattle.ak_lines.specs.Carried.{HasCarriedFirst}
use Rattle.ak_lines.proofs.carrying.carry_out_all.Given as goal

abbrev pub invariant-loop-line : goal.invariant-loop-line
invariant-loop-line g l = record {
  first : (heads : List AppHead) (start : ℕ) → Stands heads start [] l.fn.session → HasCarriedFirst heads start l.lines l.outcomes.items l.tolds.items l.session;
  outcomes_count : length l.outcomes.items ≡ l.line-index;
  tolds_count : length l.tolds.items ≡ l.line-index;
  outcomes_room : vec_capacity l.outcomes ≡ vec_capacity l.fn.outcomes;
  tolds_room : vec_capacity l.tolds ≡ vec_capacity l.fn.tolds;
  standing : IsStanding l.session;
  keeps : KeepsSession l.fn.session l.session;
}
