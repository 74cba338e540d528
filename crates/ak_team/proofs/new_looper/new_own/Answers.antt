-- Main's seats are the heads until the keeper has its own, and know who made nothing.
use Rattle.std.proofs.Common.{◌≡◌, ℕ, [], ◌∷◌, refl, sym, ap, ◌∙◌, subst, arith}
use Rattle.ak_base.specs.Thread.{keeper_thread, main_thread, looper_thread}
use Rattle.ak_port.specs.PortCalls as ports
use Rattle.ak_team.specs.Doors.{HasParted, IsNewAt, IsPartOf}
use Rattle.ak_team.specs.NewLooper.{own_threads}
use Rattle.ak_team.proofs.NewDoors.{leads_on, leads_parted, leads_without_names, names_more, no_names_left}
use Rattle.ak_team.proofs.NewLoopers.{keeper_new_to_own, kept_for, new_looper, new_to_main, number_below, number_is}
use Rattle.ak_team.proofs.new_looper.new_own.Goals as goal

pub looper-requires : goal.looper-requires
looper-requires c = let r = c.requires.opened in omega (arith, number_below r.0 r.1 r.2 0 c.args.opened r.3)

pub part_door-requires : goal.part_door-requires
part_door-requires c =
    let o = c.args.opened in
    record { new = subst (λ (thread : ℕ). IsNewAt thread o.door) (sym c.looper.ensures) (new_to_main o.number o.door c.requires.opened.3.opened.names_are) }

pub keep_door-requires-clause-new : goal.keep_door-requires-clause-new
keep_door-requires-clause-new c =
    let r = c.requires.opened in
    let o = c.args.opened in
    let door = c.part_door.new.door in
    let parted = subst (λ (thread : ℕ). HasParted thread o.door door) c.looper.ensures c.in_ok-own.ensures.parted in
    keeper_new_to_own o.number door (number_below r.0 r.1 r.2 0 o r.3) (names_more (main_thread ∷ []) (looper_thread o.number) o.door door r.3.opened.names_are parted)

pub keep_door-requires-clause-names : goal.keep_door-requires-clause-names
keep_door-requires-clause-names c =
    let o = c.args.opened in
    let door = c.part_door.new.door in
    let parted = subst (λ (thread : ℕ). HasParted thread o.door door) c.looper.ensures c.in_ok-own.ensures.parted in
    (main_thread ∷ looper_thread o.number ∷ [], names_more (main_thread ∷ []) (looper_thread o.number) o.door door c.requires.opened.3.opened.names_are parted)

pub keep_door-requires-clause-known : goal.keep_door-requires-clause-known
keep_door-requires-clause-known c = c.in_ok-own.ensures.known c.requires.opened.3.opened.known

pub returns : goal.returns
returns c = record {
  own = λ plans team first at.
      let o = c.args.opened in
      let door = c.part_door.new.door in
      let parted = subst (λ (thread : ℕ). HasParted thread o.door door) c.looper.ensures c.in_ok-own.ensures.parted in
      let part = subst (λ (thread : ℕ). IsPartOf thread o.door c.in_ok-own.own) c.looper.ensures c.in_ok-own.ensures.part in
      let left = leads_without_names door c.keep_door.new.door c.in_ok-kept.ensures.gave in
      let leads = leads_on o.door door c.keep_door.new.door (leads_parted (looper_thread o.number) o.door door parted) left in
      let first_is : o.number ≡ first = omega (arith, number_is plans team first 0 o at) in
      record {
        looper = new_looper plans team first 0 o at c.args.shared.now _ refl refl c.in_ok-try_clone.ensures part leads (no_names_left door c.keep_door.new.door c.in_ok-kept.ensures.gave);
        kept = kept_for (own_threads first) (main_thread ∷ looper_thread o.number ∷ []) door _ c.in_ok-kept.kept c.in_ok-kept.ensures.kept left
            (names_more (main_thread ∷ []) (looper_thread o.number) o.door door at.opened.names_are parted)
            (ap (λ (number : ℕ). main_thread ∷ looper_thread number ∷ keeper_thread ∷ []) first_is);
      };
  front = ap (λ (s : ports.PortSeat). s.front) c.in_ok-kept.ensures.gave.port_seat ∙ ap (λ (s : ports.PortSeat). s.front) c.in_ok-own.ensures.parted.port_seat;
}
