use Rattle.std.proofs.Common.{◌≡◌, [], sym, subst, refl, ap, ◌∙◌}
use Rattle.std.specs.Prelude.{codes}
use Rattle.ak_base.specs.Code.{code_of}
use Rattle.ak_flatten.specs.Reading.{read_message, message_from, opening_at, magic_at, bytes_at, number_at, field_count_at, fields_at}
use Rattle.ak_flatten.specs.Spelling.{spelling}
use Rattle.ak_port.specs.Reply.{IsFlatText}
use Rattle.uses_objects.proofs.reply_text.reply_text.Goals as goal

-- a reply without fields has a flat text
reply_is_flat : IsFlatText (spelling (record { what = code_of (codes "RPLY"); fields = []; popped = 0 }))
unfolding read_message message_from opening_at magic_at bytes_at number_at field_count_at fields_at
reply_is_flat = refl

pub returns-in-Ok : goal.returns-in-Ok
returns-in-Ok c =
    let spelled : c.in-Ok.text ≡ spelling (record { what = code_of (codes "RPLY"); fields = []; popped = 0 }) = c.in-Ok.ensures.ok ∙ ap spelling c.new.ensures in
    subst IsFlatText (sym spelled) reply_is_flat
