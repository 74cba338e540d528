-- What is answered stands on the first pass.
use Rattle.ak_describe.specs.Seen.{state_of}
use Rattle.ak_describe.proofs.answered.Prefixes.{all_pass, said_of}
use Rattle.ak_describe.proofs.answered.Told.{all_described, all_first, answers_all}
use Rattle.ak_describe.proofs.pass.FirstPass.second_pass.Goals as goal

pub app_texts-requires : goal.app_texts-requires
app_texts-requires c = said_of c.args.self c.self.inside.lines (state_of c.self.inside.said) c.self.inside.last c.self.view_is c.self.invariant c.requires

pub returns-clause-answer : goal.returns-clause-answer
returns-clause-answer c =
    answers_all c.args.self (state_of c.self.inside.said) c.app_texts.result
    (all_pass c.args.self c.self.inside.lines (state_of c.self.inside.said) c.self.inside.last c.self.view_is c.self.invariant c.requires) c.app_texts.ensures

pub returns-clause-described : goal.returns-clause-described
returns-clause-described c = all_described c.args.self c.app_texts.result (returns-clause-answer c)

pub returns-clause-refused : goal.returns-clause-refused
returns-clause-refused c = all_first c.args.self c.app_texts.result (returns-clause-answer c)
