-- What is begun goes on by the answer.
use Rattle.std.proofs.Common.{◌+◌, ◌<◌, Option, vec_len, vec_capacity, subst}
use Rattle.ak_desk.specs.declared.desk.Begun.{Begun}
use Rattle.ak_desk.specs.DeskInside.{HasPlaces}
use Rattle.ak_desk.proofs.Going.{given, may_give}
use Rattle.ak_desk.proofs.desk.Desk.give.Goals as goal

pub give-requires : goal.give-requires
give-requires c =
    may_give c.self.inside.opening.value c.self.inside.entries.items c.self.inside.begun c.in-Some.begun c.self.inside.state c.args.self.now c.in-Some.is c.self.view_is c.self.invariant.stands c.args.answer c.requires

pub invariant_of-self : goal.invariant_of-self
invariant_of-self c =
    let after = given c.self.inside.opening.value c.self.inside.entries.items c.self.inside.begun c.in-Some.begun c.self.inside.state c.args.self.now c.in-Some.is c.self.view_is c.self.invariant.stands c.args.answer c.requires c.give.new.self c.give.new.state c.give.ensures.message c.give.ensures.heard c.calls_act.ensures c.runs_act.ensures in
    let places : vec_len c.self.inside.entries + 1 < vec_capacity c.self.inside.entries =
    subst (λ (o : Option Begun). HasPlaces c.self.inside.entries.items o (vec_len c.self.inside.entries) (vec_capacity c.self.inside.entries)) c.in-Some.is c.self.invariant.places in
    record { stands = after.begun; places = places }

pub returns-in-Some-clause-given : goal.returns-in-Some-clause-given
returns-in-Some-clause-given c =
    let after = given c.self.inside.opening.value c.self.inside.entries.items c.self.inside.begun c.in-Some.begun c.self.inside.state c.args.self.now c.in-Some.is c.self.view_is c.self.invariant.stands c.args.answer c.requires c.give.new.self c.give.new.state c.give.ensures.message c.give.ensures.heard c.calls_act.ensures c.runs_act.ensures in
    after.given
