-- The field of the name is at hand, and its kind and its values are compared.
use Rattle.std.proofs.Common.{true, false}
use Rattle.ak_message.proofs.Refusing.{kinds_told, named_in, replace-bad_type, replace-bad_index, replace-depth, replace-none}
use Rattle.ak_message.proofs.message.Message.replace_fault.Goals as goal

pub returns-then-ne : goal.returns-then-ne
returns-then-ne c =
    replace-bad_type _ c.in-Some.field.now _ _ (named_in c.args.self.now c.self.inside _ _ _ c.self.view_is c.deref.ensures.value c.in-Some.ensures) (kinds_told _ _ c.kind.result true c.kind.ensures c.if-ne.ensures)

pub returns-then-index-len : goal.returns-then-index-len
returns-then-index-len c =
    replace-bad_index _ c.in-Some.field.now _ _ c.len.result (named_in c.args.self.now c.self.inside _ _ _ c.self.view_is c.deref.ensures.value c.in-Some.ensures) (kinds_told _ _ c.kind.result false c.kind.ensures c.if-ne.ensures) c.len.ensures c.if-index-len.true

pub returns-then-depth-ge-DEPTH_LIMIT : goal.returns-then-depth-ge-DEPTH_LIMIT
returns-then-depth-ge-DEPTH_LIMIT c =
    replace-depth _ c.in-Some.field.now _ _ c.len.result c.depth.result (named_in c.args.self.now c.self.inside _ _ _ c.self.view_is c.deref.ensures.value c.in-Some.ensures) (kinds_told _ _ c.kind.result false c.kind.ensures c.if-ne.ensures) c.len.ensures c.if-index-len.false c.depth.ensures c.if-depth-ge-DEPTH_LIMIT.true

pub returns : goal.returns
returns c =
    replace-none _ c.in-Some.field.now _ _ c.len.result c.depth.result (named_in c.args.self.now c.self.inside _ _ _ c.self.view_is c.deref.ensures.value c.in-Some.ensures) (kinds_told _ _ c.kind.result false c.kind.ensures c.if-ne.ensures) c.len.ensures c.if-index-len.false c.depth.ensures c.if-depth-ge-DEPTH_LIMIT.false
