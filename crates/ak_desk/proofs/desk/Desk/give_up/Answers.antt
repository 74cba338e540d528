-- The entry of what is given up is one that may follow.
use Rattle.std.proofs.Common.{◌≡◌, ◌+◌, true, Option, None, vec_len, vec_capacity, ap, subst, sym, ◌∙◌, arith}
use Rattle.std.proofs.lemmas.Bool.{false≢true}
use Rattle.std.proofs.lemmas.Grind.{common_steps}
use Rattle.ak_desk.specs.declared.desk.Begun.{Begun}
use Rattle.ak_desk.specs.Desk.{DeskData}
use Rattle.ak_desk.specs.DeskInside.{HasPlaces, Stands}
use Rattle.ak_desk.specs.Machine.{IsHistory, dispatches, gave_up}
use Rattle.ak_desk.proofs.Standing.{gave_up_now, given_up_stands, gives_up_so, none_inside}
use Rattle.ak_desk.proofs.desk.Desk.give_up.Goals as goal

pub invariant_of-self : goal.invariant_of-self
invariant_of-self c =
    let none : c.self.inside.begun ≡ None = none_inside c.self.inside.begun (ap (λ (d : DeskData). d.begun) c.self.view_is ∙ c.requires.rest) in
    let before : IsHistory c.self.inside.opening.value c.self.inside.entries.items c.self.inside.state =
    subst (λ (o : Option Begun). Stands c.self.inside.opening.value c.self.inside.entries.items o c.self.inside.state) none c.self.invariant.stands in
    let by : c.args.clock.now.thread.0 ≡ 10000 + c.self.inside.opening.value.looper = c.requires.looper ∙ ap (λ (d : DeskData). 10000 + d.opening.looper) (sym c.self.view_is) in
    let at : c.args.taken.now.position ≡ dispatches c.self.inside.entries.items = c.requires.position ∙ ap (λ (d : DeskData). dispatches d.entries) (sym c.self.view_is) in
    let history : IsHistory c.self.inside.opening.value c.add.new.entries.items c.self.inside.state =
    given_up_stands c.self.inside.opening.value c.self.inside.entries.items c.args.clock.now c.args.taken.now.position c.add.new.entries.items (grind (arith, common_steps)) c.self.inside.state before by at in
    let now : gave_up c.add.new.entries.items ≡ true =
    gave_up_now c.self.inside.opening.value c.self.inside.entries.items c.args.clock.now c.args.taken.now.position c.add.new.entries.items (grind (arith, common_steps)) in
    record {
      stands = subst (λ (o : Option Begun). Stands c.self.inside.opening.value c.add.new.entries.items o c.self.inside.state) (sym none) history;
      places = subst (λ (o : Option Begun). HasPlaces c.add.new.entries.items o (vec_len c.add.new.entries) (vec_capacity c.add.new.entries)) (sym none) (λ never. absurd (false≢true (sym never ∙ now)));
    }

pub returns-clause-given_up : goal.returns-clause-given_up
returns-clause-given_up c =
    let none : c.self.inside.begun ≡ None = none_inside c.self.inside.begun (ap (λ (d : DeskData). d.begun) c.self.view_is ∙ c.requires.rest) in
    gives_up_so c.self.inside.opening.value c.self.inside.entries.items c.args.clock.now c.args.taken.now.position c.add.new.entries.items (grind (arith, common_steps))
    c.self.inside.begun c.self.inside.state c.args.self.now none c.self.view_is c.self.invariant.stands _ _ c.requires.once c.requires.position c.requires.looper c.add.ensures.clock (grind (arith, common_steps))
