-- What is shown of a line that has no words.
use Rattle.std.specs.Prelude.{ℕ, List, codes, ◌++◌}
use Rattle.std.specs.Fmt.{decimal}
use Rattle.ak_base.specs.Refusal as refusal
use Rattle.ak_input.specs.declared.lines.LineFault.{LineFault}

abbrev pub text_of : LineFault → List ℕ
text_of fault = codes "line " ++ decimal fault.line ++ codes ": " ++ refusal.text_of fault.kind
