-- What is read and the message with nothing popped have one flat text.
use Rattle.std.proofs.Common.{◌∙◌, subst}
use Rattle.ak_flatten.specs.Laws.{Spells}
use Rattle.ak_message.specs.Popped.{unpopped}
use Rattle.ak_flatten.specs.Spelling.{spelling}
use Rattle.example_message.proofs.received.Goals as goal

pub returns : goal.returns
returns c =
    let sent = c.args.letter.now in
    let read = c.in_ok-unflatten.field-0 in
    let spells : Spells (spelling sent) read = subst (λ bytes. Spells bytes read) (c.as_slice.ensures ∙ c.in_ok-flat.ensures.ok) c.in_ok-unflatten.ensures.spelled in
    c.one_spelling.ensures (spelling sent) read (unpopped sent) spells (c.written_is_read.ensures sent c.what-code.ensures.is_whole spells.limit)
