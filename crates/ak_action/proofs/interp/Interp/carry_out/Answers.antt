-- The handler of the reaction is the one whose property changes.
use Rattle.std.proofs.Common.{◌≡◌, ap, arith}
use Rattle.std.proofs.lemmas.Grind.{common_steps}
use Rattle.ak_base.specs.declared.error.KitError.TheVariants as error
use Rattle.ak_message.specs.Seen.{value_of}
use Rattle.ak_action.specs.DoingSeen.{doing_seen}
use Rattle.ak_action.specs.Interp.{past}
use Rattle.ak_action.proofs.GoingOn.{puts-is}
use Rattle.ak_action.proofs.interp.Interp.carry_out.Goals as goal

pub returns-in-Puts : goal.returns-in-Puts
returns-in-Puts c =
    let i = c.args.self.now in
    let token : c.self-in-Puts.inside.token ≡ i.token = grind (arith, common_steps) in
    let done : c.pass-in-Puts.new.self ≡ past error.Ok i = grind (arith, common_steps) in
    puts-is (doing_seen c.args.doing) i c.pass-in-Puts.new.self c.args.state.now c.put.new.state c.self-in-Puts.inside.token c.in-Puts.place (value_of c.in-Puts.value) (ap doing_seen c.in-Puts.is) token done c.put.ensures
