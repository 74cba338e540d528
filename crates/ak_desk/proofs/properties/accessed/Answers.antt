-- The handlers are as told.
use Rattle.std.proofs.Common.{◌≡◌, Some, None, arith}
use Rattle.std.proofs.lemmas.Grind.{common_steps}
use Rattle.ak_message.specs.Specifier.{at_of}
use Rattle.ak_action.specs.Properties.{access_at}
use Rattle.ak_desk.specs.Properties.{access_told, row_in}
use Rattle.ak_desk.proofs.Accessing.{accessed_none, accessed_so}
use Rattle.ak_desk.proofs.properties.accessed.Goals as goal

pub returns-in_default-clause-ok : goal.returns-in_default-clause-ok
returns-in_default-clause-ok c =
    let told : access_told (access_at (row_in c.args.handlers.now c.args.token).elements c.args.place c.args.m.now.what (at_of c.args.at) c.args.m.now) ≡ (c.in_ok-reply.reply, None) = grind (arith, common_steps) in
    accessed_none c.args.handlers.now c.args.token _ c.in_ok-reply.reply told

pub returns-clause-ok : goal.returns-clause-ok
returns-clause-ok c =
    let told : access_told (access_at (row_in c.args.handlers.now c.args.token).elements c.args.place c.args.m.now.what (at_of c.args.at) c.args.m.now) ≡ (c.in_ok-reply.reply, Some c.in-Some.elements) = grind (arith, common_steps) in
    accessed_so c.args.handlers.now c.args.token _ c.in_ok-reply.reply c.in-Some.elements c.put.new.handlers told c.put.ensures
