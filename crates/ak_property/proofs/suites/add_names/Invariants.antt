-- The names so far stand in the field behind the others.
use Rattle.std.proofs.Common.{◌≡◌, ◌++◌, take, codes}
use Rattle.ak_property.specs.Suites.{texts_field, names_of}
use Rattle.ak_property.proofs.suites.add_names.Given as goal

abbrev pub invariant-loop-row : goal.invariant-loop-row
invariant-loop-row l =
    l.reply ≡ record l.fn.reply { fields = l.fn.reply.fields ++ texts_field (codes "properties") (names_of (take l.row-index l.rows)) }
