use Rattle.std.proofs.Common.{[], get_or, refl}
use Rattle.std.specs.Prelude.{map}
use Rattle.std.proofs.lemmas.Result.{err_from_is_err_and}
use Rattle.ak_input.specs.Reading.{message_from, values_behind}
use Rattle.ak_input.specs.ReadSeen.{seen, got_of, got_values_of}
use Rattle.ak_input.proofs.MessageLoop.{value_joined, value_read_fails, value_join_fails, values_joined}
use Rattle.ak_input.proofs.reading.further_values.Goals as goal

pub returns-in_err-one : goal.returns-in_err-one
returns-in_err-one c =
    let p = err_from_is_err_and c.from_residual.result c.from_residual.ensures.1 in
    rw (p.1, p.2) (value_read_fails c.in_err-one.field-0.0 (message_from c.args.levels) c.args.texts.now c.loop-text.text-index (get_or c.args.texts.now c.loop-text.text-index (record { ref_ptr = (0, 0); now = [] })) (record { ref_ptr = (0, 0); now = [] }) (got_values_of c.loop-text.read)
    (values_behind (message_from c.args.levels) (map seen c.args.texts.now) (got_values_of c.args.read)) c.loop-text-test.true refl c.in_err-one.ensures c.loop-text.invariant)

pub returns-in_err-read : goal.returns-in_err-read
returns-in_err-read c =
    let p = err_from_is_err_and c.from_residual-in_err-read.result c.from_residual-in_err-read.ensures.1 in
    rw (p.1, p.2) (value_join_fails c.in_err-read.field-0.0 (message_from c.args.levels) c.args.texts.now c.loop-text.text-index (get_or c.args.texts.now c.loop-text.text-index (record { ref_ptr = (0, 0); now = [] })) (record { ref_ptr = (0, 0); now = [] }) (got_values_of c.loop-text.read) (got_of c.in_ok-one.one)
    (values_behind (message_from c.args.levels) (map seen c.args.texts.now) (got_values_of c.args.read)) c.loop-text-test.true refl c.in_ok-one.ensures c.in_err-read.ensures c.loop-text.invariant)

pub loop-text-preserved : goal.loop-text-preserved
loop-text-preserved c =
    value_joined (message_from c.args.levels) c.args.texts.now c.loop-text.text-index (get_or c.args.texts.now c.loop-text.text-index (record { ref_ptr = (0, 0); now = [] })) (record { ref_ptr = (0, 0); now = [] }) (got_values_of c.loop-text.read) (got_values_of c.in_ok-read.read) (got_of c.in_ok-one.one)
    (values_behind (message_from c.args.levels) (map seen c.args.texts.now) (got_values_of c.args.read)) c.loop-text-test.true refl c.in_ok-one.ensures c.in_ok-read.ensures c.loop-text.invariant

pub returns : goal.returns
returns c =
    values_joined (message_from c.args.levels) c.args.texts.now c.loop-text.text-index (got_values_of c.loop-text.read)
    (values_behind (message_from c.args.levels) (map seen c.args.texts.now) (got_values_of c.args.read)) c.loop-text-test.false c.loop-text.invariant
