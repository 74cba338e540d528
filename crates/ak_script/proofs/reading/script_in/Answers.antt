-- What the first pass lets through has few lines.
use Rattle.ak_script.proofs.Whole.{few_passed}
use Rattle.ak_script.proofs.reading.script_in.Goals as goal

pub second_pass-requires-clause-few : goal.second_pass-requires-clause-few
second_pass-requires-clause-few c = few_passed c.args.read.now _ c.in_ok-said.ensures.answer
