use Rattle.std.proofs.Common.{◌+◌, ap, sym, ◌∙◌, arith}
use Rattle.std.proofs.lemmas.Result.{err_from_is_err_and}
use Rattle.ak_message.specs.Message.{depth_of}
use Rattle.ak_message.specs.Seen.{value_of}
use Rattle.ak_flatten.specs.Reading.{message_from}
use Rattle.ak_flatten.specs.Seen.{Gives, left_of}
use Rattle.ak_flatten.proofs.Growing.{grows, grows_takes, grows_fails, grows_all, reads_field, reads_fails, reads_all, depth-with_added, field_steps, message_steps, message_fails, message_trails, message_ends}
use Rattle.ak_flatten.proofs.reading.+messages.Goals as goal

pub values-returns-in_err-one-clause-reads : goal.values-returns-in_err-one-clause-reads
values-returns-in_err-one-clause-reads t c =
    let p = err_from_is_err_and c.from_residual.result c.from_residual.ensures.1 in
    rw (p.1, p.2) (grows_fails (message_from c.args.levels) c.args.message c.args.name.now c.args.kind c.args.count (left_of c.args.input) c.in_err-one.field-0.0 c.loop.counter c.loop.message (left_of c.loop.rest) c.loop.invariant.growing c.loop-test.true c.in_err-one.ensures.reads)

pub values-add_fitting-requires : goal.values-add_fitting-requires
values-add_fitting-requires t c =
    grows_takes (message_from c.args.levels) c.args.message c.args.name.now c.args.kind c.args.count (left_of c.args.input) c.loop.counter c.loop.message (left_of c.loop.rest) (value_of c.in_ok-one.one) c.loop.invariant.growing c.requires.word c.requires.new c.requires.room (omega arith) c.in_ok-one.ensures.kind (omega (arith, c.in_ok-one.ensures.depth))

pub values-loop-preserved : goal.values-loop-preserved
values-loop-preserved t c =
    record {
      growing = grows (message_from c.args.levels) c.args.message c.args.name.now c.args.kind c.args.count (left_of c.args.input) c.loop.counter c.loop.message c.add_fitting.new.self (left_of c.loop.rest) (left_of c.in_ok-one.after) (value_of c.in_ok-one.one) c.loop.invariant.growing c.loop-test.true c.in_ok-one.ensures.reads c.in_ok-add_fitting.ensures.ok c.requires.new c.in_ok-one.ensures.kind;
      shallow = omega (arith, ap depth_of c.in_ok-add_fitting.ensures.ok, depth-with_added c.loop.message c.args.name.now (value_of c.in_ok-one.one), c.in_ok-one.ensures.depth, c.loop.invariant.shallow);
    }

pub values-returns-clause-reads : goal.values-returns-clause-reads
values-returns-clause-reads t c =
    grows_all (message_from c.args.levels) c.args.message c.args.name.now c.args.kind c.args.count (left_of c.args.input) c.loop.counter c.loop.message (left_of c.loop.rest) c.loop.invariant.growing c.loop-test.false

pub fields-returns-in_err-message-clause-reads : goal.fields-returns-in_err-message-clause-reads
fields-returns-in_err-message-clause-reads t c =
    let p = err_from_is_err_and c.from_residual.result c.from_residual.ensures.1 in
    rw (p.1, p.2) (reads_fails (message_from c.args.levels) c.args.message c.args.count (left_of c.args.input) c.in_err-message.field-0.0 c.loop.counter c.loop.message (left_of c.loop.rest) c.loop.invariant.reading c.loop-test.true c.in_err-message.ensures.reads)

pub fields-loop-preserved : goal.fields-loop-preserved
fields-loop-preserved t c =
    record {
      reading = reads_field (message_from c.args.levels) c.args.message c.args.count (left_of c.args.input) c.loop.counter c.loop.message c.in_ok-message.field-0-0 (left_of c.loop.rest) (left_of c.in_ok-message.field-0-1) c.loop.invariant.reading c.loop-test.true c.in_ok-message.ensures.reads;
      shallow = c.in_ok-message.ensures.depth;
    }

pub fields-returns-clause-reads : goal.fields-returns-clause-reads
fields-returns-clause-reads t c =
    reads_all (message_from c.args.levels) c.args.message c.args.count (left_of c.args.input) c.loop.counter c.loop.message (left_of c.loop.rest) c.loop.invariant.reading c.loop-test.false

pub field-returns-clause-reads : goal.field-returns-clause-reads
field-returns-clause-reads t c =
    rw (field_steps (message_from c.args.levels) c.args.message c.in_ok-kind.kind c.in_ok-name.name.now c.in_ok-count.count (left_of c.args.input) (left_of c.in_ok-kind.input) (left_of c.in_ok-name.input) (left_of c.in_ok-count.input) c.in_ok-kind.ensures c.in_ok-name.ensures.reads c.in_ok-count.ensures.reads c.in_ok-count.ensures.some) c.values.ensures.reads

pub message-returns-in_err-message-clause-reads : goal.message-returns-in_err-message-clause-reads
message-returns-in_err-message-clause-reads t c =
    let p = err_from_is_err_and c.from_residual-in_err-message.result c.from_residual-in_err-message.ensures.1 in
    let steps = message_steps c.args.levels c.in_ok-what.what c.in_ok-what.count (left_of c.args.input) (left_of c.in_ok-what.start) (omega (arith, c.if-levels-eq0.false)) c.in_ok-what.ensures.reads in
    rw (p.1, p.2) (message_fails c.in_err-message.field-0.0 _ _ steps (rw c.in_ok-with_capacity.ensures at c.in_err-message.ensures.reads))

pub message-returns-then-not-is_empty-clause-reads : goal.message-returns-then-not-is_empty-clause-reads
message-returns-then-not-is_empty-clause-reads t c =
    let steps = message_steps c.args.levels c.in_ok-what.what c.in_ok-what.count (left_of c.args.input) (left_of c.in_ok-what.start) (omega (arith, c.if-levels-eq0.false)) c.in_ok-what.ensures.reads in
    rw c.fault-then-not-is_empty.ensures (message_trails c.in_ok-message.message (left_of c.in_ok-message.rest) _ _ steps (rw c.in_ok-with_capacity.ensures at c.in_ok-message.ensures.reads) (sym c.is_empty.ensures ∙ c.if-not-is_empty.true))

pub message-returns-clause-reads : goal.message-returns-clause-reads
message-returns-clause-reads t c =
    let steps = message_steps c.args.levels c.in_ok-what.what c.in_ok-what.count (left_of c.args.input) (left_of c.in_ok-what.start) (omega (arith, c.if-levels-eq0.false)) c.in_ok-what.ensures.reads in
    message_ends c.in_ok-message.message (left_of c.in_ok-message.rest) _ _ steps (rw c.in_ok-with_capacity.ensures at c.in_ok-message.ensures.reads) (sym c.is_empty.ensures ∙ c.if-not-is_empty.false)
