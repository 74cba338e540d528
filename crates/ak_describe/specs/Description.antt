-- What lines describe, or their first fault: the second pass is made only where the first finds nothing.
use Rattle.std.specs.Prelude.{List, Result}
use Rattle.ak_input.specs.declared.line.Line.{Line}
use Rattle.ak_describe.specs.declared.described.AppText.{AppText}
use Rattle.ak_describe.specs.Described.{described}
use Rattle.ak_describe.specs.Pass.{State, Refusal, then_read, or_refused, first_pass}
use Rattle.ak_describe.specs.Second.{second_fault}

abbrev pub checked : State → Result (List AppText) Refusal
checked s = or_refused (second_fault s.apps s.names) (described s.apps)

unfoldable pub description : List Line → Result (List AppText) Refusal
description lines = then_read (first_pass lines) checked
