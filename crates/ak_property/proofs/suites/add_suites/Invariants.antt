-- The suites so far stand in the field behind the others.
use Rattle.std.proofs.Common.{◌≡◌, ◌++◌, take, codes}
use Rattle.ak_property.specs.Suites.{texts_field}
use Rattle.ak_property.proofs.suites.add_suites.Given as goal

abbrev pub invariant-loop-suite : goal.invariant-loop-suite
invariant-loop-suite l =
    l.reply ≡ record l.fn.reply { fields = l.fn.reply.fields ++ texts_field (codes "suites") (take l.suite-index l.suites) }
