-- What is told of the end, by what is kept of the lines.
use Rattle.std.proofs.Common.{◌≡◌, ap, arith}
use Rattle.std.proofs.lemmas.Grind.{common_steps}
use Rattle.ak_describe.specs.Seen.{apps_data, state_of}
use Rattle.ak_describe.proofs.answered.Prefixes.{end_of}
use Rattle.ak_describe.proofs.pass.FirstPass.end_fault.Goals as goal

pub returns-clause-fault : goal.returns-clause-fault
returns-clause-fault c =
    let same : c.deref.result.now ≡ c.self.inside.said.apps.items = grind (arith, common_steps) in
    (end_of c.args.self.now c.self.inside.lines (state_of c.self.inside.said) _ c.self.inside.last c.unfinished.result c.self.view_is c.self.invariant (ap apps_data same) c.unfinished.ensures).fault

pub returns-clause-refused : goal.returns-clause-refused
returns-clause-refused c =
    let same : c.deref.result.now ≡ c.self.inside.said.apps.items = grind (arith, common_steps) in
    (end_of c.args.self.now c.self.inside.lines (state_of c.self.inside.said) _ c.self.inside.last c.unfinished.result c.self.view_is c.self.invariant (ap apps_data same) c.unfinished.ensures).refused_first

pub returns-clause-ended : goal.returns-clause-ended
returns-clause-ended c =
    let same : c.deref.result.now ≡ c.self.inside.said.apps.items = grind (arith, common_steps) in
    (end_of c.args.self.now c.self.inside.lines (state_of c.self.inside.said) _ c.self.inside.last c.unfinished.result c.self.view_is c.self.invariant (ap apps_data same) c.unfinished.ensures).ended

pub returns-clause-passed : goal.returns-clause-passed
returns-clause-passed c =
    let same : c.deref.result.now ≡ c.self.inside.said.apps.items = grind (arith, common_steps) in
    (end_of c.args.self.now c.self.inside.lines (state_of c.self.inside.said) _ c.self.inside.last c.unfinished.result c.self.view_is c.self.invariant (ap apps_data same) c.unfinished.ensures).passed

pub returns-clause-read : goal.returns-clause-read
returns-clause-read c =
    let same : c.deref.result.now ≡ c.self.inside.said.apps.items = grind (arith, common_steps) in
    (end_of c.args.self.now c.self.inside.lines (state_of c.self.inside.said) _ c.self.inside.last c.unfinished.result c.self.view_is c.self.invariant (ap apps_data same) c.unfinished.ensures).read
