-- it is still the message that was begun, and the list stays
use Rattle.std.proofs.Common.{◌≡◌, ℕ}
use Rattle.ak_flatten.specs.Item.{ItemData}
use Rattle.ak_action.specs.declared.state.DeskState.{DeskState}
use Rattle.ak_desk.specs.Desk.{DeskMayWant}
use Rattle.uses_asks.specs.Serving.{Carries}
use Rattle.uses_asks.proofs.serving.carry_out.Given as goal

abbrev pub invariant-loop : goal.invariant-loop
invariant-loop g l = record {
  may : DeskMayWant l.desk;
  carries : (position : ℕ) (item : ItemData) (before : DeskState) → Carries position item before l.fn.desk → Carries position item before l.desk;
  opening : l.desk.opening ≡ l.fn.desk.opening;
  entries : l.desk.entries ≡ l.fn.desk.entries;
}
