use Rattle.std.proofs.Common.{List, ℕ, Option, Some, refl, sym, ap, ◌∙◌}
use Rattle.ak_message.specs.Message.{text_value}
use Rattle.ak_input.specs.Reading.{Got, got}
use Rattle.ak_input.proofs.TextKept.{text_ok, text_bad}
use Rattle.ak_input.proofs.reading.text_of.Goals as goal

pub returns-in-Ok : goal.returns-in-Ok
returns-in-Ok c =
    text_ok c.args.bytes.now (sym c.is_utf8.ensures ∙ c.if-not-is_utf8.false) c.in-Ok.ensures.is_text ∙ ap (λ (b : List ℕ). some_text b) (sym c.in-Ok.ensures.ok) where
      some_text : List ℕ → Option Got
      some_text b = Some (got (text_value b))

pub returns-in-Err-NotUtf8 : goal.returns-in-Err-NotUtf8
returns-in-Err-NotUtf8 c =
    text_bad c.args.bytes.now (sym c.is_utf8.ensures ∙ c.if-not-is_utf8.false) (c.in-Err-NotUtf8.ensures.not_utf8.0 (rw c.in-Err-NotUtf8.field-0-is refl)).1
