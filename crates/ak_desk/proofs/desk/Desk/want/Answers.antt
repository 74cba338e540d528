-- What is begun goes on by what it wants.
use Rattle.std.proofs.Common.{◌+◌, ◌<◌, Option, vec_len, vec_capacity, subst}
use Rattle.ak_desk.specs.declared.desk.Begun.{Begun}
use Rattle.ak_desk.specs.DeskInside.{HasPlaces}
use Rattle.ak_desk.proofs.Going.{may_want, wanted}
use Rattle.ak_desk.proofs.desk.Desk.want.Goals as goal

pub want-requires : goal.want-requires
want-requires c =
    may_want c.self.inside.opening.value c.self.inside.entries.items c.self.inside.begun c.in-Some.begun c.self.inside.state c.args.self.now c.in-Some.is c.self.view_is c.self.invariant.stands c.requires

pub invariant_of-self : goal.invariant_of-self
invariant_of-self c =
    let after = wanted c.self.inside.opening.value c.self.inside.entries.items c.self.inside.begun c.in-Some.begun c.self.inside.state c.args.self.now c.in-Some.is c.self.view_is c.self.invariant.stands c.routes_pop_within.ensures c.calls_act.ensures c.runs_act.ensures c.requires c.want.result c.want.new.self c.want.new.state c.want.ensures.ok c.want.ensures.next c.want.ensures.err c.want.ensures.failed in
    let places : vec_len c.self.inside.entries + 1 < vec_capacity c.self.inside.entries =
    subst (λ (o : Option Begun). HasPlaces c.self.inside.entries.items o (vec_len c.self.inside.entries) (vec_capacity c.self.inside.entries)) c.in-Some.is c.self.invariant.places in
    record { stands = after.begun; places = places }

pub returns-in-Some-clause-ok : goal.returns-in-Some-clause-ok
returns-in-Some-clause-ok c =
    let after = wanted c.self.inside.opening.value c.self.inside.entries.items c.self.inside.begun c.in-Some.begun c.self.inside.state c.args.self.now c.in-Some.is c.self.view_is c.self.invariant.stands c.routes_pop_within.ensures c.calls_act.ensures c.runs_act.ensures c.requires c.want.result c.want.new.self c.want.new.state c.want.ensures.ok c.want.ensures.next c.want.ensures.err c.want.ensures.failed in
    after.ok

pub returns-in-Some-clause-err : goal.returns-in-Some-clause-err
returns-in-Some-clause-err c =
    let after = wanted c.self.inside.opening.value c.self.inside.entries.items c.self.inside.begun c.in-Some.begun c.self.inside.state c.args.self.now c.in-Some.is c.self.view_is c.self.invariant.stands c.routes_pop_within.ensures c.calls_act.ensures c.runs_act.ensures c.requires c.want.result c.want.new.self c.want.new.state c.want.ensures.ok c.want.ensures.next c.want.ensures.err c.want.ensures.failed in
    after.err

pub returns-in-Some-clause-awaits : goal.returns-in-Some-clause-awaits
returns-in-Some-clause-awaits c =
    let after = wanted c.self.inside.opening.value c.self.inside.entries.items c.self.inside.begun c.in-Some.begun c.self.inside.state c.args.self.now c.in-Some.is c.self.view_is c.self.invariant.stands c.routes_pop_within.ensures c.calls_act.ensures c.runs_act.ensures c.requires c.want.result c.want.new.self c.want.new.state c.want.ensures.ok c.want.ensures.next c.want.ensures.err c.want.ensures.failed in
    after.awaits

pub returns-in-Some-clause-forwards : goal.returns-in-Some-clause-forwards
returns-in-Some-clause-forwards c =
    let after = wanted c.self.inside.opening.value c.self.inside.entries.items c.self.inside.begun c.in-Some.begun c.self.inside.state c.args.self.now c.in-Some.is c.self.view_is c.self.invariant.stands c.routes_pop_within.ensures c.calls_act.ensures c.runs_act.ensures c.requires c.want.result c.want.new.self c.want.new.state c.want.ensures.ok c.want.ensures.next c.want.ensures.err c.want.ensures.failed in
    after.forwards
