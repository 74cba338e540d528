-- The entry of what is begun is one that may follow.
use Rattle.std.proofs.Common.{◌≡◌, ◌+◌, ◌<◌, Option, None, Some, option_map, vec_len, vec_capacity, ap, subst, sym, ◌∙◌, arith}
use Rattle.std.proofs.lemmas.Grind.{common_steps}
use Rattle.ak_desk.specs.declared.desk.Begun.{Begun}
use Rattle.ak_desk.specs.Desk.{DeskData}
use Rattle.ak_desk.specs.DeskInside.{HasPlaces, Stands, begun_seen}
use Rattle.ak_desk.specs.Machine.{IsHistory}
use Rattle.ak_desk.proofs.Standing.{now_dispatched, now_ended, now_made, now_stands, task_done}
use Rattle.ak_desk.proofs.desk.Desk.end.Goals as goal

pub finish-answers-requires : goal.finish-answers-requires
finish-answers-requires c =
    let inside : c.self.inside.begun ≡ Some c.in-Some.begun = grind (arith, common_steps) in
    task_done c.self.inside.opening.value c.self.inside.entries.items c.self.inside.begun c.in-Some.begun c.self.inside.state c.args.self.now inside c.self.view_is c.self.invariant.stands c.requires.done

pub invariant_of-self : goal.invariant_of-self
invariant_of-self c =
    let inside : c.self.inside.begun ≡ Some c.in-Some.begun = grind (arith, common_steps) in
    let places : vec_len c.self.inside.entries + 1 < vec_capacity c.self.inside.entries =
    subst (λ (o : Option Begun). HasPlaces c.self.inside.entries.items o (vec_len c.self.inside.entries) (vec_capacity c.self.inside.entries)) inside c.self.invariant.places in
    let none : c.take.new.self ≡ None = grind (arith, common_steps) in
    let by : c.args.clock.now.thread.0 ≡ 10000 + c.self.inside.opening.value.looper = c.requires.looper ∙ ap (λ (d : DeskData). 10000 + d.opening.looper) (sym c.self.view_is) in
    let history : IsHistory c.self.inside.opening.value c.add.new.entries.items c.self.inside.state =
    now_stands c.self.inside.opening.value c.self.inside.entries.items c.self.inside.begun c.in-Some.begun c.self.inside.state c.args.self.now inside c.self.view_is c.self.invariant.stands c.requires.done c.args.clock.now by _ (grind (arith, common_steps)) c.add.new.entries.items c.add.ensures.items in
    let room : vec_len c.add.new.entries < vec_capacity c.add.new.entries = omega (arith, c.add.ensures.len, c.add.ensures.capacity, places) in
    record {
      stands = subst (λ (o : Option Begun). Stands c.self.inside.opening.value c.add.new.entries.items o c.self.inside.state) (sym none) history;
      places = subst (λ (o : Option Begun). HasPlaces c.add.new.entries.items o (vec_len c.add.new.entries) (vec_capacity c.add.new.entries)) (sym none) (λ _. room);
    }

pub returns-clause-desk : goal.returns-clause-desk
returns-clause-desk c =
    let inside : c.self.inside.begun ≡ Some c.in-Some.begun = grind (arith, common_steps) in
    let none : c.take.new.self ≡ None = grind (arith, common_steps) in
    let by : c.args.clock.now.thread.0 ≡ 10000 + c.self.inside.opening.value.looper = c.requires.looper ∙ ap (λ (d : DeskData). 10000 + d.opening.looper) (sym c.self.view_is) in
    ap (λ (o : Option Begun). record { opening = c.self.inside.opening.value; state = c.self.inside.state; entries = c.add.new.entries.items; begun = option_map begun_seen o }) none
    ∙ now_ended c.self.inside.opening.value c.self.inside.entries.items c.self.inside.begun c.in-Some.begun c.self.inside.state c.args.self.now inside c.self.view_is c.self.invariant.stands c.requires.done c.args.clock.now by _ (grind (arith, common_steps)) c.add.new.entries.items c.add.ensures.items

pub returns-clause-made : goal.returns-clause-made
returns-clause-made c =
    let inside : c.self.inside.begun ≡ Some c.in-Some.begun = grind (arith, common_steps) in
    let by : c.args.clock.now.thread.0 ≡ 10000 + c.self.inside.opening.value.looper = c.requires.looper ∙ ap (λ (d : DeskData). 10000 + d.opening.looper) (sym c.self.view_is) in
    now_made c.self.inside.opening.value c.self.inside.entries.items c.self.inside.begun c.in-Some.begun c.self.inside.state c.args.self.now inside c.self.view_is c.self.invariant.stands c.requires.done c.args.clock.now by _ (grind (arith, common_steps)) c.add.new.entries.items c.add.ensures.items _ (grind (arith, common_steps))

pub returns-clause-clock : goal.returns-clause-clock
returns-clause-clock c = grind (arith, common_steps)

pub returns-clause-dispatched : goal.returns-clause-dispatched
returns-clause-dispatched c =
    let inside : c.self.inside.begun ≡ Some c.in-Some.begun = grind (arith, common_steps) in
    let by : c.args.clock.now.thread.0 ≡ 10000 + c.self.inside.opening.value.looper = c.requires.looper ∙ ap (λ (d : DeskData). 10000 + d.opening.looper) (sym c.self.view_is) in
    now_dispatched c.self.inside.opening.value c.self.inside.entries.items c.self.inside.begun c.in-Some.begun c.self.inside.state c.args.self.now inside c.self.view_is c.self.invariant.stands c.requires.done c.args.clock.now by _ (grind (arith, common_steps)) c.add.new.entries.items c.add.ensures.items _ _ (grind (arith, common_steps)) c.add.ensures.clock
