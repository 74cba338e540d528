use Rattle.std.proofs.Common.{List, None, Some, sym, ap, ◌∙◌, arith}
use Rattle.ak_input.specs.declared.line.Word.{Word}
use Rattle.ak_input.specs.Words.{words_from}
use Rattle.ak_input.proofs.WordLoop.{words_end, word_ends, word_open}
use Rattle.ak_input.proofs.words.words_of.Goals as goal

pub returns-in_default-clause-words : goal.returns-in_default-clause-words
returns-in_default-clause-words c =
    words_end c.loop-b.words.items c.loop-b.begun c.loop-b.column c.loop-b.b-index c.args.line.now (words_from None 1 c.args.line.now) (omega arith) c.in_default.is c.loop-b.invariant.so_far

pub returns-then-not-is_outside-clause-fault : goal.returns-then-not-is_outside-clause-fault
returns-then-not-is_outside-clause-fault c =
    word_open c.loop-b.words.items c.loop-b.begun c.in-Some.last c.loop-b.column c.loop-b.b-index c.args.line.now (words_from None 1 c.args.line.now) (omega arith) c.in-Some.is (sym c.is_outside.ensures ∙ c.if-not-is_outside.true) c.loop-b.invariant.so_far

pub returns-clause-words : goal.returns-clause-words
returns-clause-words c =
    word_ends c.loop-b.words.items c.loop-b.begun c.in-Some.last c.loop-b.column c.loop-b.b-index c.args.line.now (words_from None 1 c.args.line.now) (omega arith) c.in-Some.is (sym c.is_outside.ensures ∙ c.if-not-is_outside.false) c.loop-b.invariant.so_far
    ∙ ap (λ (words : List Word). Some words) (sym c.in_ok-push.ensures.items)
