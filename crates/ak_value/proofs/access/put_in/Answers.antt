-- The element there gets the copy, which is the next one.
use Rattle.std.proofs.Common.{◌≡◌, ◌∷◌, subst, arith}
use Rattle.std.specs.List.{All}
use Rattle.std.proofs.lemmas.Grind.{common_steps}
use Rattle.std.proofs.lemmas.List.{length-set}
use Rattle.std.proofs.lemmas.List.Elements.{All-head, All-tail}
use Rattle.ak_message.specs.declared.message.Value.{Value}
use Rattle.ak_message.specs.Seen.{value_of}
use Rattle.ak_value.specs.declared.elements.Element.{Element}
use Rattle.ak_value.proofs.Parts.{put_more}
use Rattle.ak_value.proofs.access.put_in.Goals as goal

pub loop-copy-preserved : goal.loop-copy-preserved
loop-copy-preserved c =
    let IsCopy = λ (v : Value). value_of v ≡ value_of c.args.value.now in
    let next : c.loop-copy.copy-iterator.rest.items ≡ c.in-Some.copy ∷ c.next.new.self.rest.items = grind (arith, common_steps) in
    let copies = subst (All IsCopy) next c.loop-copy.invariant.copies in
    let copy : value_of c.in-Some.copy ≡ value_of c.args.value.now = All-head IsCopy _ _ copies in
    let list = c.loop-copy.list.items in
    let after : Element = record { name = c.index_mut.result.now.name; id = c.index_mut.result.now.id; value = c.in-Some.copy } in
    record {
      put = put_more _ _ _ _ list c.index_mut.result.now after (omega arith) (grind (arith, common_steps)) c.loop-copy.invariant.put c.loop-copy.invariant.len (grind (arith, common_steps)) (grind (arith, common_steps));
      copies = All-tail IsCopy _ _ copies;
      left = grind (arith, common_steps);
      begun = omega arith;
      len = omega (arith, length-set list c.loop-copy.place after);
    }
