-- As of an own looper, with one part more: the way of the application's own looper.
use Rattle.std.proofs.Common.{ℕ, [], ◌∷◌, refl, sym, ap, ◌∙◌, subst, arith}
use Rattle.ak_base.specs.Thread.{keeper_thread, main_thread, looper_thread}
use Rattle.ak_port.specs.PortCalls as ports
use Rattle.ak_team.specs.Doors.{HasParted, IsNewAt, IsPartOf}
use Rattle.ak_team.specs.NewLooper.{other_threads}
use Rattle.ak_team.proofs.NewDoors.{leads_on, leads_parted, leads_without_names, names_more, no_names_left}
use Rattle.ak_team.proofs.NewLoopers.{first_below, keeper_new_to_other, kept_for, new_looper, new_to_main, new_to_two, number_below, number_is, way_for}
use Rattle.ak_team.proofs.new_looper.new_other.Goals as goal

pub looper-requires : goal.looper-requires
looper-requires c = let r = c.requires.opened in omega (arith, number_below r.0 r.1 c.args.first r.2 c.args.opened r.4)

pub looper-requires-2 : goal.looper-requires-2
looper-requires-2 c = let r = c.requires.opened in omega (arith, first_below r.0 r.1 c.args.first r.2 c.args.opened r.4)

pub part_door-requires : goal.part_door-requires
part_door-requires c =
    let o = c.args.opened in
    record { new = subst (λ (thread : ℕ). IsNewAt thread o.door) (sym c.looper.ensures) (new_to_main o.number o.door c.requires.opened.4.opened.names_are) }

pub part_door-requires-2 : goal.part_door-requires-2
part_door-requires-2 c =
    let r = c.requires.opened in
    let o = c.args.opened in
    let door = c.part_door.new.door in
    let parted = subst (λ (thread : ℕ). HasParted thread o.door door) c.looper.ensures c.in_ok-own.ensures.parted in
    let names = names_more (main_thread ∷ []) (looper_thread o.number) o.door door r.4.opened.names_are parted in
    record { new = subst (λ (thread : ℕ). IsNewAt thread door) (sym c.looper-2.ensures) (new_to_two o.number c.args.first door (λ same. omega (arith, same, number_is r.0 r.1 c.args.first r.2 o r.4, r.3)) names) }

pub keep_door-requires-clause-new : goal.keep_door-requires-clause-new
keep_door-requires-clause-new c =
    let r = c.requires.opened in
    let o = c.args.opened in
    let door = c.part_door.new.door in
    let second = c.part_door-2.new.door in
    let parted = subst (λ (thread : ℕ). HasParted thread o.door door) c.looper.ensures c.in_ok-own.ensures.parted in
    let again = subst (λ (thread : ℕ). HasParted thread door second) c.looper-2.ensures c.in_ok-way.ensures.parted in
    let names = names_more (main_thread ∷ []) (looper_thread o.number) o.door door r.4.opened.names_are parted in
    keeper_new_to_other o.number c.args.first second (number_below r.0 r.1 c.args.first r.2 o r.4) (first_below r.0 r.1 c.args.first r.2 o r.4)
    (names_more (main_thread ∷ looper_thread o.number ∷ []) (looper_thread c.args.first) door second names again)

pub keep_door-requires-clause-names : goal.keep_door-requires-clause-names
keep_door-requires-clause-names c =
    let r = c.requires.opened in
    let o = c.args.opened in
    let door = c.part_door.new.door in
    let second = c.part_door-2.new.door in
    let parted = subst (λ (thread : ℕ). HasParted thread o.door door) c.looper.ensures c.in_ok-own.ensures.parted in
    let again = subst (λ (thread : ℕ). HasParted thread door second) c.looper-2.ensures c.in_ok-way.ensures.parted in
    let names = names_more (main_thread ∷ []) (looper_thread o.number) o.door door r.4.opened.names_are parted in
    (main_thread ∷ looper_thread o.number ∷ looper_thread c.args.first ∷ [], names_more (main_thread ∷ looper_thread o.number ∷ []) (looper_thread c.args.first) door second names again)

pub keep_door-requires-clause-known : goal.keep_door-requires-clause-known
keep_door-requires-clause-known c = c.in_ok-way.ensures.known (c.in_ok-own.ensures.known c.requires.opened.4.opened.known)

pub returns : goal.returns
returns c = record {
  other = λ plans team k at.
      let first = c.args.first in
      let o = c.args.opened in
      let door = c.part_door.new.door in
      let second = c.part_door-2.new.door in
      let last = c.keep_door.new.door in
      let parted = subst (λ (thread : ℕ). HasParted thread o.door door) c.looper.ensures c.in_ok-own.ensures.parted in
      let again = subst (λ (thread : ℕ). HasParted thread door second) c.looper-2.ensures c.in_ok-way.ensures.parted in
      let part = subst (λ (thread : ℕ). IsPartOf thread o.door c.in_ok-own.own) c.looper.ensures c.in_ok-own.ensures.part in
      let way = subst (λ (thread : ℕ). IsPartOf thread door c.in_ok-way.way) c.looper-2.ensures c.in_ok-way.ensures.part in
      let names = names_more (main_thread ∷ []) (looper_thread o.number) o.door door at.opened.names_are parted in
      let r = c.requires.opened in
      let new_there = new_to_two o.number first door (λ same. omega (arith, same, number_is r.0 r.1 first r.2 o r.4, r.3)) names in
      let left = leads_without_names second last c.in_ok-kept.ensures.gave in
      let from_door = leads_on door second last (leads_parted (looper_thread first) door second again) left in
      let leads = leads_on o.door door last (leads_parted (looper_thread o.number) o.door door parted) from_door in
      record {
        looper = new_looper plans team first k o at c.args.shared.now _ refl refl c.in_ok-try_clone.ensures part leads (no_names_left second last c.in_ok-kept.ensures.gave);
        way = way_for first door _ c.in_ok-way.way (c.in_ok-own.ensures.known at.opened.known) new_there way from_door;
        kept = kept_for (other_threads first k) (main_thread ∷ looper_thread o.number ∷ looper_thread first ∷ []) second _ c.in_ok-kept.kept c.in_ok-kept.ensures.kept left
            (names_more (main_thread ∷ looper_thread o.number ∷ []) (looper_thread first) door second names again)
            (ap (λ (number : ℕ). main_thread ∷ looper_thread number ∷ looper_thread first ∷ keeper_thread ∷ []) (number_is plans team first k o at));
      };
  front =
      ap (λ (s : ports.PortSeat). s.front) c.in_ok-kept.ensures.gave.port_seat ∙ ap (λ (s : ports.PortSeat). s.front) c.in_ok-way.ensures.parted.port_seat
      ∙ ap (λ (s : ports.PortSeat). s.front) c.in_ok-own.ensures.parted.port_seat;
}
