-- The field of the name is at hand, and its kind and its values are compared.
use Rattle.std.proofs.Common.{refl, true, false}
use Rattle.ak_message.proofs.Refusing.{kinds_told, named_in, find-bad_type, find-past, find-at}
use Rattle.ak_message.proofs.message.Message.find.Goals as goal

pub returns-then-ne : goal.returns-then-ne
returns-then-ne c =
    find-bad_type _ _ _ _ (named_in c.args.self.now c.self.inside _ _ _ c.self.view_is c.deref.ensures.value c.in-Some.ensures) (kinds_told _ _ c.args.kind true refl c.if-ne.ensures)

pub returns-in-Some-get : goal.returns-in-Some-get
returns-in-Some-get c =
    find-at _ c.in-Some.field.now c.deref-2.result.now _ c.args.index _ (named_in c.args.self.now c.self.inside _ _ _ c.self.view_is c.deref.ensures.value c.in-Some.ensures) (kinds_told _ _ c.args.kind false refl c.if-ne.ensures) c.deref-2.ensures.value c.in-Some-get.ensures.lookup.0 c.in-Some-get.ensures.lookup.1

pub returns-in-None : goal.returns-in-None
returns-in-None c =
    find-past _ c.in-Some.field.now c.deref-2.result.now _ c.args.index (named_in c.args.self.now c.self.inside _ _ _ c.self.view_is c.deref.ensures.value c.in-Some.ensures) (kinds_told _ _ c.args.kind false refl c.if-ne.ensures) c.deref-2.ensures.value c.in-None.ensures.lookup.0
