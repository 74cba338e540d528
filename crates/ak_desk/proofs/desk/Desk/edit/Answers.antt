-- The entry of an edit is one that may follow; without memory all is as it was.
use Rattle.std.proofs.Common.{◌≡◌, ◌<◌, true, false, [], ◌∷◌, ◌++◌, Option, None, vec_len, vec_capacity, ap, subst, sym, ◌∙◌, arith}
use Rattle.std.proofs.lemmas.Grind.{common_steps}
use Rattle.ak_desk.specs.declared.entry.DeskEvent.TheVariants as event
use Rattle.ak_desk.specs.declared.desk.Begun.{Begun}
use Rattle.ak_desk.specs.Desk.{DeskData, clock_after, entry_after}
use Rattle.ak_desk.specs.DeskInside.{HasPlaces, desk_inside}
use Rattle.ak_desk.specs.Machine.{is_no_memory}
use Rattle.ak_desk.proofs.Standing.{edits_add, edit_stands, edit_told_of, kept_stands, none_inside, none_told_of}
use Rattle.ak_desk.proofs.desk.Desk.edit.Goals as goal

pub invariant_of-self-then-is_no_memory : goal.invariant_of-self-then-is_no_memory
invariant_of-self-then-is_no_memory c =
    let none : c.self.inside.begun ≡ None = none_inside c.self.inside.begun (ap (λ (d : DeskData). d.begun) c.self.view_is ∙ c.requires.rest) in
    let without : is_no_memory c.changed-answer.result ≡ true = grind (arith, common_steps) in
    let room : vec_len c.reserve.new.self < vec_capacity c.reserve.new.self = grind (arith, common_steps) in
    record {
      stands = kept_stands c.self.inside.opening.value c.self.inside.entries.items c.reserve.new.self.items c.self.inside.begun c.self.inside.state none c.self.invariant.stands c.args.edit c.changed-answer.result c.changed-answer.new.handlers _ _ c.changed-answer.ensures without c.reserve.ensures.items;
      places = subst (λ (o : Option Begun). HasPlaces c.reserve.new.self.items o (vec_len c.reserve.new.self) (vec_capacity c.reserve.new.self)) (sym none) (λ _. room);
    }

pub returns-then-is_no_memory-clause-edits : goal.returns-then-is_no_memory-clause-edits
returns-then-is_no_memory-clause-edits c =
    let without : is_no_memory c.changed-answer.result ≡ true = grind (arith, common_steps) in
    none_told_of c.args.self.now (desk_inside c.self.inside) c.self.view_is c.args.clock.now c.args.edit c.changed-answer.result c.changed-answer.new.handlers _ _ c.reserve.new.self.items c.changed-answer.ensures without c.reserve.ensures.items

pub invariant_of-self-2 : goal.invariant_of-self-2
invariant_of-self-2 c =
    let none : c.self.inside.begun ≡ None = none_inside c.self.inside.begun (ap (λ (d : DeskData). d.begun) c.self.view_is ∙ c.requires.rest) in
    let other : is_no_memory c.changed-answer.result ≡ false = grind (arith, common_steps) in
    let grown : c.add.new.entries.items ≡ c.self.inside.entries.items ++ entry_after c.self.inside.entries.items c.args.clock.now (event.Edited c.args.edit c.changed-answer.result) None ∷ [] = grind (arith, common_steps) in
    let room : vec_len c.add.new.entries < vec_capacity c.add.new.entries = grind (arith, common_steps) in
    record {
      stands = edit_stands c.self.inside.opening.value c.self.inside.entries.items c.add.new.entries.items c.self.inside.begun c.self.inside.state none c.self.invariant.stands c.args.clock.now c.args.edit c.changed-answer.result c.changed-answer.new.handlers _ _ c.changed-answer.ensures other grown;
      places = subst (λ (o : Option Begun). HasPlaces c.add.new.entries.items o (vec_len c.add.new.entries) (vec_capacity c.add.new.entries)) (sym none) (λ _. room);
    }

pub returns-clause-edits : goal.returns-clause-edits
returns-clause-edits c =
    let other : is_no_memory c.changed-answer.result ≡ false = grind (arith, common_steps) in
    let grown : c.add.new.entries.items ≡ c.self.inside.entries.items ++ entry_after c.self.inside.entries.items c.args.clock.now (event.Edited c.args.edit c.changed-answer.result) None ∷ [] = grind (arith, common_steps) in
    let clock : c.add.new.clock ≡ clock_after (desk_inside c.self.inside) c.args.clock.now = grind (arith, common_steps) in
    edit_told_of c.args.self.now (desk_inside c.self.inside) c.self.view_is c.args.clock.now c.args.edit c.changed-answer.result c.changed-answer.new.handlers _ _ c.add.new.entries.items c.changed-answer.ensures c.add.new.clock other grown clock

pub returns-then-is_no_memory-clause-added : goal.returns-then-is_no_memory-clause-added
returns-then-is_no_memory-clause-added c = edits_add c.args.self.now c.args.clock.now c.args.edit c.changed-answer.result _ _ (returns-then-is_no_memory-clause-edits c)

pub returns-clause-added : goal.returns-clause-added
returns-clause-added c = edits_add c.args.self.now c.args.clock.now c.args.edit c.changed-answer.result _ _ (returns-clause-edits c)
