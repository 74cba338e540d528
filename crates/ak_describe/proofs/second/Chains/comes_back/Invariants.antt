-- The steps that are left are to meet it from there.
use Rattle.std.proofs.Common.{◌≡◌, ◌-◌, length}
use Rattle.ak_describe.specs.Led.{meets}
use Rattle.ak_describe.proofs.second.Chains.comes_back.Given as goal

abbrev pub invariant-loop : goal.invariant-loop
invariant-loop l =
    meets l.self l.row (length l.self.next - l.counter) l.at ≡ meets l.self l.row (length l.self.next) l.row
