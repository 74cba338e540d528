use Rattle.std.proofs.Common.{ℕ, List, [], Bor, get_or, None, refl, sym, ap, ◌∙◌}
use Rattle.std.specs.Prelude.{map}
use Rattle.std.proofs.lemmas.Result.{err_from_is_err_and}
use Rattle.ak_base.specs.declared.limited.Limited.{Limited}
use Rattle.ak_base.specs.declared.limited.Limited.TheVariants.{Within}
use Rattle.ak_message.specs.Message.{MessageData}
use Rattle.ak_input.specs.Reading.{message_from, values_added, fields_behind}
use Rattle.ak_input.specs.ReadSeen.{seen, built_of, got_of}
use Rattle.ak_input.proofs.MessageLoop.{value_added, value_reads_fail, kind_differs, values_end, field_added, field_read_fails, fields_end}
use Rattle.ak_input.proofs.MessageSteps.{fields_fail, message_is, field_is}
use Rattle.ak_input.proofs.reading.+values.Goals as goal

-- ---- the words of a message

pub message_of-returns-in_err-building : goal.message_of-returns-in_err-building
message_of-returns-in_err-building t c =
    let p = err_from_is_err_and c.from_residual.result c.from_residual.ensures.1 in
    rw (p.1, p.2) (fields_fail c.in_err-building.field-0.0 (message_from c.args.levels) c.args.words.now c.in-Some.first.now c.in-Some.fields.now c.in-Some-read_code.what.0 (map seen c.new.result.keys) (Within c.new-2.result)
    c.in-Some.ensures.cases.0 (sym c.in-Some-read_code.ensures.number) (ap (λ (ns : List (Bor (List ℕ))). map seen ns) c.new.ensures.empty) (ap kept c.new-2.ensures)
    (field_read_fails c.in_err-building.field-0.0 (message_from c.args.levels) c.in-Some.fields.now c.loop-word.word-index (get_or c.in-Some.fields.now c.loop-word.word-index (record { ref_ptr = (0, 0); now = [] })) (record { ref_ptr = (0, 0); now = [] }) (built_of c.loop-word.building)
    (fields_behind (message_from c.args.levels) (map seen c.in-Some.fields.now) (record { names = map seen c.new.result.keys; message = Within c.new-2.result })) c.loop-word-test.true refl c.in_err-building.ensures c.loop-word.invariant)) where
      kept : MessageData → Limited MessageData
      kept m = Within m

pub message_of-loop-word-preserved : goal.message_of-loop-word-preserved
message_of-loop-word-preserved t c =
    field_added (message_from c.args.levels) c.in-Some.fields.now c.loop-word.word-index (get_or c.in-Some.fields.now c.loop-word.word-index (record { ref_ptr = (0, 0); now = [] })) (record { ref_ptr = (0, 0); now = [] }) (built_of c.loop-word.building) (built_of c.in_ok-building.building)
    (fields_behind (message_from c.args.levels) (map seen c.in-Some.fields.now) (record { names = map seen c.new.result.keys; message = Within c.new-2.result })) c.loop-word-test.true refl c.in_ok-building.ensures c.loop-word.invariant

pub message_of-returns : goal.message_of-returns
message_of-returns t c =
    message_is (message_from c.args.levels) c.args.words.now c.in-Some.first.now c.in-Some.fields.now c.in-Some-read_code.what.0 (map seen c.new.result.keys) (Within c.new-2.result) (built_of c.loop-word.building)
    c.in-Some.ensures.cases.0 (sym c.in-Some-read_code.ensures.number) (ap (λ (ns : List (Bor (List ℕ))). map seen ns) c.new.ensures.empty) (ap kept c.new-2.ensures)
    (fields_end (message_from c.args.levels) c.in-Some.fields.now c.loop-word.word-index (built_of c.loop-word.building)
    (fields_behind (message_from c.args.levels) (map seen c.in-Some.fields.now) (record { names = map seen c.new.result.keys; message = Within c.new-2.result })) c.loop-word-test.false c.loop-word.invariant) where
      kept : MessageData → Limited MessageData
      kept m = Within m

-- ---- one field

pub field-returns : goal.field-returns
field-returns t c =
    field_is (message_from c.args.levels) (built_of c.args.building) (built_of c.in_ok-begun.begun) (record { names = map seen c.in_ok-begun.begun.names.keys; message = c.in_ok-message.message }) c.args.word.now c.in-Some.name.now c.in-Some.text.now c.in_ok-texts.texts.items c.deref.result.now c.in_ok-message.message
    (sym c.in-Some.ensures) c.in_ok-begun.ensures c.in_ok-texts.ensures c.deref.ensures.value c.in_ok-message.ensures refl

-- ---- the values of a field

pub add_values-returns-in_err-read : goal.add_values-returns-in_err-read
add_values-returns-in_err-read t c =
    let p = err_from_is_err_and c.from_residual.result c.from_residual.ensures.1 in
    rw (p.1, p.2) (value_reads_fail c.in_err-read.field-0.0 (message_from c.args.levels) c.args.name.now c.args.texts.now c.loop-text.text-index (get_or c.args.texts.now c.loop-text.text-index (record { ref_ptr = (0, 0); now = [] })) (record { ref_ptr = (0, 0); now = [] }) c.loop-text.kind c.loop-text.message
    (values_added (message_from c.args.levels) c.args.name.now (map seen c.args.texts.now) None c.args.message) c.loop-text-test.true refl c.in_err-read.ensures c.loop-text.invariant)

pub add_values-returns-then-not-fits : goal.add_values-returns-then-not-fits
add_values-returns-then-not-fits t c =
    kind_differs (message_from c.args.levels) c.args.name.now c.args.texts.now c.loop-text.text-index (get_or c.args.texts.now c.loop-text.text-index (record { ref_ptr = (0, 0); now = [] })) (record { ref_ptr = (0, 0); now = [] }) c.loop-text.kind c.loop-text.message (got_of c.in_ok-read.read)
    (values_added (message_from c.args.levels) c.args.name.now (map seen c.args.texts.now) None c.args.message) c.loop-text-test.true refl c.in_ok-read.ensures (sym c.fits.ensures ∙ c.if-not-fits.true) c.loop-text.invariant

pub add_values-loop-text-preserved : goal.add_values-loop-text-preserved
add_values-loop-text-preserved t c =
    value_added (message_from c.args.levels) c.args.name.now c.args.texts.now c.loop-text.text-index (get_or c.args.texts.now c.loop-text.text-index (record { ref_ptr = (0, 0); now = [] })) (record { ref_ptr = (0, 0); now = [] }) c.loop-text.kind c.loop-text.message c.in_ok-message.message (got_of c.in_ok-read.read)
    (values_added (message_from c.args.levels) c.args.name.now (map seen c.args.texts.now) None c.args.message) c.loop-text-test.true refl c.in_ok-read.ensures (sym c.fits.ensures ∙ c.if-not-fits.false) c.in_ok-message.ensures.added c.loop-text.invariant

pub add_values-returns : goal.add_values-returns
add_values-returns t c =
    values_end (message_from c.args.levels) c.args.name.now c.args.texts.now c.loop-text.text-index c.loop-text.kind c.loop-text.message
    (values_added (message_from c.args.levels) c.args.name.now (map seen c.args.texts.now) None c.args.message) c.loop-text-test.false c.loop-text.invariant
