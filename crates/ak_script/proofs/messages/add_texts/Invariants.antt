-- The texts so far stand in the field behind the others.
use Rattle.std.proofs.Common.{◌≡◌, ◌++◌, take, codes}
use Rattle.ak_property.specs.Suites.{texts_field}
use Rattle.ak_script.proofs.messages.add_texts.Given as goal

abbrev pub invariant-loop-text : goal.invariant-loop-text
invariant-loop-text l =
    l.message ≡ record l.fn.message { fields = l.fn.message.fields ++ texts_field (codes "argv") (take l.text-index l.texts) }
