use Rattle.std.proofs.Common.{get_or, sym, ◌∙◌, arith}
use Rattle.std.specs.Prelude.{map}
use Rattle.std.proofs.lemmas.Bool.{and_left, and_right, and_from}
use Rattle.ak_input.specs.Marks.{start, is_outside}
use Rattle.ak_input.specs.Pieces.{separates, pieces_from}
use Rattle.ak_input.specs.ReadSeen.{seen}
use Rattle.ak_input.proofs.PieceLoop.{pushed, piece_pushed, piece_goes_on, piece_fails, pieces_open, pieces_all}
use Rattle.ak_input.proofs.pieces.pieces_of.Goals as goal
use Rattle.ak_input.proofs.pieces.pieces_of.Goals.{then-is_outside+then-separates+in_ok-push, else-is_outside+in-Some, else-is_outside-via-then-is_outside+else-separates, else-is_outside-via-else-is_outside}

pub returns-in_default : goal.returns-in_default
returns-in_default c =
    elim c.else-is_outside.branch [
      | else-is_outside-via-then-is_outside+else-separates w ↦
          piece_fails (map seen c.loop-i.pieces.items) c.args.by c.loop-i.marks c.args.text.now c.loop-i.from c.loop-i.i (pieces_from c.args.by start c.args.text.now) c.loop-i-test.true (and_right (is_outside c.loop-i.marks) (separates c.args.by (get_or c.args.text.now c.loop-i.i 0)) (sym w.separates.ensures ∙ w.if-separates.false)) c.in_default.ensures.step c.loop-i.invariant.so_far
      | else-is_outside-via-else-is_outside w ↦
          piece_fails (map seen c.loop-i.pieces.items) c.args.by c.loop-i.marks c.args.text.now c.loop-i.from c.loop-i.i (pieces_from c.args.by start c.args.text.now) c.loop-i-test.true (and_left (is_outside c.loop-i.marks) (separates c.args.by (get_or c.args.text.now c.loop-i.i 0)) (sym c.is_outside.ensures ∙ w.if-is_outside.false)) c.in_default.ensures.step c.loop-i.invariant.so_far
    ]

pub loop-i-preserved : goal.loop-i-preserved
loop-i-preserved c =
    elim c.if-is_outside.branch [
      | then-is_outside+then-separates+in_ok-push w ↦
          rw (w.pieces-is, w.from-is, w.marks-is) (record {
            so_far = piece_pushed (map seen c.loop-i.pieces.items) (map seen w.push.new.self.items) c.args.by c.loop-i.marks w.start-marks-then-separates.result c.args.text.now c.loop-i.from c.loop-i.i (pieces_from c.args.by start c.args.text.now) c.loop-i-test.true (and_from (is_outside c.loop-i.marks) (separates c.args.by (get_or c.args.text.now c.loop-i.i 0)) (sym c.is_outside.ensures ∙ w.if-is_outside.true) (sym w.separates.ensures ∙ w.if-separates.true)) (pushed c.loop-i.pieces.items w.push.new.self.items _ w.in_ok-push.ensures.items) w.start-marks-then-separates.ensures c.loop-i.invariant.so_far;
            within = omega arith;
            braces = rw w.start-marks-then-separates.ensures (omega arith);
            brackets = rw w.start-marks-then-separates.ensures (omega arith);
          })
      | else-is_outside+in-Some w ↦
          rw (w.pieces-is, w.from-is, w.marks-is) (record {
            so_far =
                elim w.else-is_outside.branch [
                  | else-is_outside-via-then-is_outside+else-separates v ↦
                      piece_goes_on (map seen c.loop-i.pieces.items) c.args.by c.loop-i.marks w.in-Some.next c.args.text.now c.loop-i.from c.loop-i.i (pieces_from c.args.by start c.args.text.now) c.loop-i.invariant.within c.loop-i-test.true (and_right (is_outside c.loop-i.marks) (separates c.args.by (get_or c.args.text.now c.loop-i.i 0)) (sym v.separates.ensures ∙ v.if-separates.false)) w.in-Some.ensures.step c.loop-i.invariant.so_far
                  | else-is_outside-via-else-is_outside v ↦
                      piece_goes_on (map seen c.loop-i.pieces.items) c.args.by c.loop-i.marks w.in-Some.next c.args.text.now c.loop-i.from c.loop-i.i (pieces_from c.args.by start c.args.text.now) c.loop-i.invariant.within c.loop-i-test.true (and_left (is_outside c.loop-i.marks) (separates c.args.by (get_or c.args.text.now c.loop-i.i 0)) (sym c.is_outside.ensures ∙ v.if-is_outside.false)) w.in-Some.ensures.step c.loop-i.invariant.so_far
                ];
            within = omega arith;
            braces = omega (arith, w.in-Some.ensures.braces);
            brackets = omega (arith, w.in-Some.ensures.brackets);
          })
    ]

pub returns-then-not-is_outside : goal.returns-then-not-is_outside
returns-then-not-is_outside c =
    pieces_open (map seen c.loop-i.pieces.items) c.args.by c.loop-i.marks c.args.text.now c.loop-i.from c.loop-i.i (pieces_from c.args.by start c.args.text.now) (omega arith) (sym c.is_outside-2.ensures ∙ c.if-not-is_outside.true) c.loop-i.invariant.so_far

pub returns : goal.returns
returns c =
    pieces_all (map seen c.loop-i.pieces.items) (map seen c.push-2.new.self.items) c.args.by c.loop-i.marks c.args.text.now c.loop-i.from c.loop-i.i (pieces_from c.args.by start c.args.text.now) (omega arith) (sym c.is_outside-2.ensures ∙ c.if-not-is_outside.false) (pushed c.loop-i.pieces.items c.push-2.new.self.items _ c.in_ok-push-2.ensures.items) c.loop-i.invariant.so_far
