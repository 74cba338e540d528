-- The fields so far and those to come are all.
use Rattle.std.proofs.Common.{◌≡◌, drop}
use Rattle.ak_describe.specs.Actions.{fields_behind}
use Rattle.ak_describe.specs.Seen.{built_of}
use Rattle.ak_describe.specs.Words.{texts}
use Rattle.ak_describe.proofs.form.template.with_fields.Given as goal

abbrev pub invariant-loop-word : goal.invariant-loop-word
invariant-loop-word l =
    fields_behind l.properties (built_of l.building) (texts (drop l.word-index l.words))
    ≡ fields_behind l.properties (built_of l.fn.building) (texts l.words)
