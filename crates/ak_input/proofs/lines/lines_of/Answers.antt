use Rattle.std.proofs.Common.{arith}
use Rattle.ak_input.specs.Lines.{lines_from, pieces_of}
use Rattle.ak_input.proofs.LineLoop.{lf_goes_on, lf_faults, line_goes_on, all_kept}
use Rattle.ak_input.proofs.lines.lines_of.Goals as goal
use Rattle.ak_input.proofs.lines.lines_of.Goals.{then-b-eq10+in_ok-fault+in_default, else-b-eq10}

pub returns-in-Some-clause-lines : goal.returns-in-Some-clause-lines
returns-in-Some-clause-lines c =
    rw c.from_vec.ensures (lf_faults c.loop-i.lines.items c.keep.new.lines.items c.loop-i.number c.args.input.now c.loop-i.from c.loop-i.i c.in_ok-fault.field-0 c.in-Some.fault (lines_from 1 (pieces_of c.args.input.now)) c.loop-i-test.true c.if-b-eq10.true c.in_ok-fault.ensures.kept c.in-Some.is c.loop-i.invariant.so_far)

pub loop-i-preserved : goal.loop-i-preserved
loop-i-preserved c =
    elim c.if-b-eq10.branch [
      | then-b-eq10+in_ok-fault+in_default w ↦
          rw (w.lines-is, w.number-is, w.from-is) (record {
            so_far = lf_goes_on c.loop-i.lines.items w.keep.new.lines.items c.loop-i.number c.args.input.now c.loop-i.from c.loop-i.i w.in_ok-fault.field-0 (lines_from 1 (pieces_of c.args.input.now)) c.loop-i-test.true w.if-b-eq10.true w.in_ok-fault.ensures.kept w.in_default.is c.loop-i.invariant.so_far;
            within = omega arith;
            number = omega arith;
          })
      | else-b-eq10 w ↦
          rw (w.lines-is, w.number-is, w.from-is) (record {
            so_far = line_goes_on c.loop-i.lines.items c.loop-i.number c.args.input.now c.loop-i.from c.loop-i.i (lines_from 1 (pieces_of c.args.input.now)) c.loop-i.invariant.within c.loop-i-test.true w.if-b-eq10.false c.loop-i.invariant.so_far;
            within = omega arith;
            number = omega arith;
          })
    ]

pub returns-clause-lines : goal.returns-clause-lines
returns-clause-lines c =
    rw c.from_vec-2.ensures (all_kept c.loop-i.lines.items c.keep-2.new.lines.items c.loop-i.number c.args.input.now c.loop-i.from c.loop-i.i c.in_ok-fault-2.fault (lines_from 1 (pieces_of c.args.input.now)) (omega arith) c.in_ok-fault-2.ensures.kept c.loop-i.invariant.so_far)
