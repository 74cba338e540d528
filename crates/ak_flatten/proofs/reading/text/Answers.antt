use Rattle.std.proofs.Common.{refl}
use Rattle.ak_flatten.proofs.Values.{text_is, not_utf8_text}
use Rattle.ak_flatten.proofs.reading.text.Goals as goal

pub returns-in-Ok : goal.returns-in-Ok
returns-in-Ok c = rw (text_is c.args.input.bytes.now c.in-Ok.ensures.is_text, c.in-Ok.ensures.ok) refl

pub returns-in-Err-NotUtf8 : goal.returns-in-Err-NotUtf8
returns-in-Err-NotUtf8 c = rw (not_utf8_text c.args.input.bytes.now (c.in-Err-NotUtf8.ensures.not_utf8.0 (rw c.in-Err-NotUtf8.field-0-is refl)).1, c.fault.ensures) refl
