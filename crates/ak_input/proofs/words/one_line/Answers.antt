use Rattle.std.proofs.Common.{sym, ◌∙◌}
use Rattle.ak_base.proofs.Surface.{some_is}
use Rattle.ak_input.proofs.WordLaws.{line_again}
use Rattle.ak_input.proofs.words.one_line.Goals as goal

pub returns : goal.returns
returns c = λ line v w is also. some_is v w (sym (line_again v 1 line is) ∙ line_again w 1 line also)
