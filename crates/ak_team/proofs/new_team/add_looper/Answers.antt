-- One looper more stands behind the others.
use Rattle.std.proofs.Common.{◌≡◌, ◌+◌, [], ◌∷◌, ◌++◌, length, refl, arith}
use Rattle.std.proofs.lemmas.Grind.{common_steps}
use Rattle.ak_team.specs.declared.new_team.NewTeam.{NewTeam}
use Rattle.ak_team.proofs.Makings.{fronts_push, grows_team}
use Rattle.ak_team.proofs.new_team.add_looper.Goals as goal

pub returns-clause-grown : goal.returns-clause-grown
returns-clause-grown c plans team made at =
    let old = c.args.making.now in
    let other = c.in_ok-looper.field-0 in
    let k = length old.team.others.items + 1 in
    let others : c.push.new.self.items ≡ old.team.others.items ++ other.looper ∷ [] = grind (arith, common_steps) in
    let ways : c.push-2.new.self.items ≡ old.team.ways.items ++ (c.args.opened.number, other.way) ∷ [] = grind (arith, common_steps) in
    let kept : c.push-3.new.self.items ≡ old.kept.items ++ other.kept ∷ [] = grind (arith, common_steps) in
    grows_team plans team c.args.first c.args.shared.now c.args.opened.number other old.team _ old.kept.items _ made at.opened.number (c.in_ok-looper.ensures.other plans team k at) refl others ways kept

pub returns-clause-fronts : goal.returns-clause-fronts
returns-clause-fronts c =
    let old = c.args.making.now in
    let other = c.in_ok-looper.field-0 in
    let others : c.push.new.self.items ≡ old.team.others.items ++ other.looper ∷ [] = grind (arith, common_steps) in
    let grown : NewTeam = record { own = old.team.own; others = c.push.new.self; ways = c.push-2.new.self } in
    fronts_push old.team grown other.looper _ refl others c.in_ok-looper.ensures.front
