-- it is still the message that was begun, what it asked for so far is done, and the list stays
use Rattle.std.proofs.Common.{◌≡◌, ℕ, List}
use Rattle.ak_desk.specs.Desk.{DeskMayWant}
use Rattle.ak_diary.specs.Looper.{LooperFacts}
use Rattle.ak_diary.specs.Step.{Step}
use Rattle.ak_looper.specs.Carrying.{HasServed, IsOf}
use Rattle.ak_looper.specs.Stands.{IsStanding}
use Rattle.ak_looper.specs.Ways.{KeepsReach}
use Rattle.ak_looper.proofs.desk_turn.carry_out.Given as goal

abbrev pub invariant-loop : goal.invariant-loop
invariant-loop g l = record {
  may : DeskMayWant l.desk;
  of : IsOf l.fn.taken l.desk;
  stands : IsStanding l.reach;
  serves : (facts : LooperFacts) (start : ℕ) (so_far : List Step) → HasServed facts start so_far l.fn.desk l.fn.reach → HasServed facts start so_far l.desk l.reach;
  opening : l.desk.opening ≡ l.fn.desk.opening;
  entries : l.desk.entries ≡ l.fn.desk.entries;
  keeps : KeepsReach l.fn.reach l.reach;
}
