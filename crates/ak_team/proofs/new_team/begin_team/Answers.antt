-- The own looper alone is a team.
use Rattle.std.proofs.Common.{◌≡◌, [], ◌∷◌, refl, arith}
use Rattle.std.proofs.lemmas.Grind.{common_steps}
use Rattle.ak_team.specs.declared.new_team.NewTeam.{NewTeam}
use Rattle.ak_team.proofs.Makings.{begins_team, first_front}
use Rattle.ak_team.proofs.new_team.begin_team.Goals as goal

pub returns : goal.returns
returns c =
    let own = c.in_ok-looper.field-0 in
    let kept : c.push.new.self.items ≡ own.kept ∷ [] = grind (arith, common_steps) in
    let made : NewTeam = record { own = own.looper; others = c.new.result; ways = c.new-2.result } in
    record {
      begun = λ plans team first at. (begins_team plans team first c.args.shared.now own made _ (c.in_ok-looper.ensures.own plans team first at) refl c.new.ensures.items c.new-2.ensures.items kept, c.new.ensures.items);
      fronts = first_front own.looper made _ refl c.new.ensures.items c.in_ok-looper.ensures.front;
    }
