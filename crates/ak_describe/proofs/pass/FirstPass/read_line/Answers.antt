-- One line more is read, or it is refused and nothing changes.
use Rattle.std.proofs.Common.{List, [], ◌∷◌, ◌++◌, Some, sym, ap, subst, ◌∙◌}
use Rattle.ak_input.specs.declared.line.Line.{Line}
use Rattle.ak_describe.specs.Seen.{state_of}
use Rattle.ak_describe.proofs.answered.Prefixes.{LineTold, are_read_now, are_read_still, line_told, reads_so_far}
use Rattle.ak_describe.proofs.pass.FirstPass.read_line.Goals as goal

pub invariant_of-self : goal.invariant_of-self
invariant_of-self c =
    are_read_now c.self.inside.lines c.push.new.self c.args.line.now (state_of c.self.inside.said) (state_of c.read_line.new.self) c.self.inside.last c.self.invariant c.in-Ok.ensures.read c.push.ensures

pub returns-in-Ok-clause-read : goal.returns-in-Ok-clause-read
returns-in-Ok-clause-read c = c.push.ensures ∙ ap (λ (lines : List Line). lines ++ c.args.line.now ∷ []) c.self.view_is

pub returns-in-Ok-clause-passes : goal.returns-in-Ok-clause-passes
returns-in-Ok-clause-passes c =
    reads_so_far c.push.new.self (state_of c.read_line.new.self) (Some c.args.line.now.number)
    (are_read_now c.self.inside.lines c.push.new.self c.args.line.now (state_of c.self.inside.said) (state_of c.read_line.new.self) c.self.inside.last c.self.invariant c.in-Ok.ensures.read c.push.ensures)

pub invariant_of-self-in-Err : goal.invariant_of-self-in-Err
invariant_of-self-in-Err c =
    are_read_still c.self.inside.lines (state_of c.self.inside.said) (state_of c.read_line.new.self) c.self.inside.last c.self.invariant c.in-Err.ensures.err

pub returns-in-Err-clause-answer : goal.returns-in-Err-clause-answer
returns-in-Err-clause-answer c =
    (subst (LineTold c.args.self.now c.args.line.now) (sym c.at.ensures)
    (line_told c.args.self.now c.self.inside.lines c.args.line.now (state_of c.self.inside.said) c.self.inside.last c.in-Err.fault c.self.view_is c.self.invariant c.in-Err.ensures.read)).told

pub returns-in-Err-clause-refused : goal.returns-in-Err-clause-refused
returns-in-Err-clause-refused c =
    (subst (LineTold c.args.self.now c.args.line.now) (sym c.at.ensures)
    (line_told c.args.self.now c.self.inside.lines c.args.line.now (state_of c.self.inside.said) c.self.inside.last c.in-Err.fault c.self.view_is c.self.invariant c.in-Err.ensures.read)).first
