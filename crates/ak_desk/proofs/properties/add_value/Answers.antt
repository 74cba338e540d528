-- What is refused is left out.
use Rattle.std.proofs.Common.{◌≡◌, if◌then◌else◌, List, Option, Some, None, IfNone, IsOkUnless, OnErr, Result, Err, codes, sym, subst, arith}
use Rattle.std.specs.Prelude.{is_some}
use Rattle.std.proofs.lemmas.Grind.{common_steps}
use Rattle.ak_message.specs.declared.fault.AddFault.{AddFault}
use Rattle.ak_message.specs.declared.fault.AddFault.TheVariants as fault
use Rattle.ak_message.specs.Fields.{add_fault, added}
use Rattle.ak_message.specs.Message.{FieldData, MessageData}
use Rattle.ak_message.specs.Seen.{value_of}
use Rattle.ak_desk.specs.Replies.{ResultAlone}
use Rattle.ak_desk.proofs.properties.add_value.Goals as goal

left_out : (o : Option AddFault) (m new : MessageData) (r : Result (Unit {0}) AddFault) (e : AddFault) (more : List FieldData) → r ≡ Err e → (e ≡ fault.NoMemory → ⊥) → IfNone o (IsOkUnless r fault.NoMemory) → OnErr r (new ≡ m) → new ≡ record m { fields = if is_some o then m.fields else more }
left_out (Some f) m new r e more is other only err = subst (λ (x : Result (Unit {0}) AddFault). OnErr x (new ≡ m)) is err
left_out None m new r e more is other only err = absurd (other (subst (λ (x : Result (Unit {0}) AddFault). IsOkUnless x fault.NoMemory) is only))

pub returns-in_default-clause-value : goal.returns-in_default-clause-value
returns-in_default-clause-value c =
    let other : c.in_default.field-0 ≡ fault.NoMemory → ⊥ = λ same. grind (arith, common_steps) in
    left_out (add_fault c.args.reply.now.fields (codes "result") (value_of c.args.value)) c.args.reply.now c.add.new.self c.add.result c.in_default.field-0 (added c.args.reply.now.fields (codes "result") (value_of c.args.value)) c.in_default.is other c.add.ensures.only c.add.ensures.err

pub returns-in_default-clause-alone : goal.returns-in_default-clause-alone
returns-in_default-clause-alone c = subst (λ (m : MessageData). ResultAlone m.fields) (sym c.in_default.ensures.err) c.requires
