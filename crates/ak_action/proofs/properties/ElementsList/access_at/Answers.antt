-- The elements at the place are the ones that the command is carried out on.
use Rattle.std.proofs.Common.{◌<◌, length, sym, arith}
use Rattle.std.proofs.lemmas.Grind.{common_steps}
use Rattle.ak_message.specs.Specifier.{at_of}
use Rattle.ak_action.proofs.Placing.{refused, only, ok}
use Rattle.ak_action.proofs.properties.ElementsList.access_at.Goals as goal

pub returns-clause-refused : goal.returns-clause-refused
returns-clause-refused c =
    let within : c.args.place < length c.self.inside.list.items = grind (arith, common_steps) in
    refused _ c.self.inside.list.items (sym c.self.view_is) c.args.place c.args.what.0 (at_of c.args.at) c.args.message.now c.in-Some.elements.now within c.in-Some.ensures.value _ c.access.ensures.refused

pub returns-clause-only : goal.returns-clause-only
returns-clause-only c =
    let within : c.args.place < length c.self.inside.list.items = grind (arith, common_steps) in
    only _ c.self.inside.list.items (sym c.self.view_is) c.args.place c.args.what.0 (at_of c.args.at) c.args.message.now c.in-Some.elements.now within c.in-Some.ensures.value _ c.access.ensures.only

pub returns-clause-ok : goal.returns-clause-ok
returns-clause-ok c =
    let within : c.args.place < length c.self.inside.list.items = grind (arith, common_steps) in
    ok _ c.self.inside.list.items (sym c.self.view_is) c.args.place c.args.what.0 (at_of c.args.at) c.args.message.now c.in-Some.elements.now within c.in-Some.ensures.value c.access.new.self _ c.access.ensures.ok
