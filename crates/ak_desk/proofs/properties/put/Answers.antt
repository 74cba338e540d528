-- Where no handler has the token nothing changes.
use Rattle.std.proofs.Common.{◌≡◌, None, Some, arith}
use Rattle.std.proofs.lemmas.Grind.{common_steps}
use Rattle.ak_handler.specs.Changes.{content_of}
use Rattle.ak_desk.proofs.Accessing.{put_none, put_there}
use Rattle.ak_desk.proofs.properties.put.Goals as goal

pub returns-in-Some : goal.returns-in-Some
returns-in-Some c =
    let there : content_of c.args.handlers.now.list c.args.token ≡ Some c.in-Some.row.now = grind (arith, common_steps) in
    put_there c.args.handlers.now c.args.token c.in-Some.row.now c.args.elements there

pub returns-in_default : goal.returns-in_default
returns-in_default c =
    let none : content_of c.args.handlers.now.list c.args.token ≡ None = grind (arith, common_steps) in
    put_none c.args.handlers.now c.args.token _ none
