-- The field of the name is at hand, and its kind and its values are compared.
use Rattle.std.proofs.Common.{refl, true, false}
use Rattle.ak_message.proofs.Refusing.{kinds_told, place-bad_type, place-full, place-none}
use Rattle.ak_message.proofs.message.place_fault.Goals as goal

pub returns-then-ne : goal.returns-then-ne
returns-then-ne c =
    place-bad_type _ _ _ _ c.in-Some.ensures (kinds_told _ _ c.args.kind true refl c.if-ne.ensures)

pub returns-then-len-ge-VALUE_LIMIT : goal.returns-then-len-ge-VALUE_LIMIT
returns-then-len-ge-VALUE_LIMIT c =
    place-full _ _ c.in-Some.field.now c.len.result _ c.in-Some.ensures (kinds_told _ _ c.args.kind false refl c.if-ne.ensures) c.len.ensures c.if-len-ge-VALUE_LIMIT.true

pub returns-else-len-ge-VALUE_LIMIT : goal.returns-else-len-ge-VALUE_LIMIT
returns-else-len-ge-VALUE_LIMIT c =
    place-none _ _ c.in-Some.field.now c.len.result _ c.in-Some.ensures (kinds_told _ _ c.args.kind false refl c.if-ne.ensures) c.len.ensures c.if-len-ge-VALUE_LIMIT.false
