-- One more is joined.
use Rattle.std.proofs.Common.{◌≡◌, ℕ, List, [], ◌∷◌, ◌++◌, length, map, All, ap, ◌∙◌, subst, sym, arith, append_assoc, append-nil}
use Rattle.std.proofs.lemmas.Grind.{common_steps}
use Rattle.std.proofs.lemmas.List.{length-append, length-map}
use Rattle.std.proofs.lemmas.List.Elements.{All-head, All-tail}
use Rattle.std.specs.Prelude.{Vec}
use Rattle.std.specs.declared.alloc.Global.{Global}
use Rattle.ak_looper.specs.declared.door.Door.{Door}
use Rattle.ak_run.specs.declared.slots.Slot.{Slot}
use Rattle.ak_run.specs.Sessions.{AreSessionsJoined, IsClosedAt, IsSessionJoined, told_in, told_of}
use Rattle.ak_gather.proofs.Surface.{knows_as_before, knows_further}
use Rattle.ak_run.proofs.SlotsStand.{session_joined_still}
use Rattle.ak_run.proofs.slots.join_slots.Goals as goal

pub loop-slot-init : goal.loop-slot-init
loop-slot-init c =
    let same = c.into_iter-slot-iterator.ensures.into_iter_gives.0 in
    let none = c.requires.no_ways in
    record {
      roster = knows_as_before c.args.roster_seat.now;
      book = knows_as_before c.args.book_seat.now;
      rest = subst (λ (l : List Slot). All (IsClosedAt c.args.roster.now c.args.book.now) (map told_of l)) (sym same) c.requires.closed;
      joined = λ roster book more on on_book all.
          subst (λ (ws : List (Vec (ℕ × Door) Global)). AreSessionsJoined roster book (told_in c.args.slots) (ws ++ more)) (sym none) (subst (λ (l : List Slot). AreSessionsJoined roster book (map told_of l) more) same all);
      room = omega (arith, ap (λ (l : List _). length l) none, ap (λ (l : List Slot). length l) same, length-map c.args.slots.sessions.items told_of, c.requires.room);
    }

pub join_slot-doors-requires-clause-closed : goal.join_slot-doors-requires-clause-closed
join_slot-doors-requires-clause-closed c =
    let was = c.loop-slot in
    let rest = c.next.new.self.rest.items in
    let x = c.in-Some.slot in
    let next : was.slot-iterator.rest.items ≡ x ∷ rest = grind (arith, common_steps) in
    let P = IsClosedAt c.args.roster.now c.args.book.now in
    All-head P (told_of x) (map told_of rest) (subst (λ (l : List Slot). All P (map told_of l)) next was.invariant.rest)

pub push_reserved-requires : goal.push_reserved-requires
push_reserved-requires c =
    let was = c.loop-slot in
    let rest = c.next.new.self.rest.items in
    let x = c.in-Some.slot in
    let next : was.slot-iterator.rest.items ≡ x ∷ rest = grind (arith, common_steps) in
    omega (arith, was.invariant.room, ap (λ (l : List Slot). length l) next, was.ways.ok.0)

pub loop-slot-preserved : goal.loop-slot-preserved
loop-slot-preserved c =
    let was = c.loop-slot in
    let rest = c.next.new.self.rest.items in
    let x = c.in-Some.slot in
    let next : was.slot-iterator.rest.items ≡ x ∷ rest = grind (arith, common_steps) in
    let P = IsClosedAt c.args.roster.now c.args.book.now in
    let one = c.join_slot-doors in
    let pushed = c.push_reserved in
    let doors = one.result in
    record {
      roster = knows_further c.args.roster_seat.now was.roster_seat one.new.roster_seat was.invariant.roster one.ensures.roster;
      book = knows_further c.args.book_seat.now was.book_seat one.new.book_seat was.invariant.book one.ensures.book;
      rest = All-tail P (told_of x) (map told_of rest) (subst (λ (l : List Slot). All P (map told_of l)) next was.invariant.rest);
      joined = λ roster book more on on_book all.
          let here : IsSessionJoined roster book (told_of x) doors = session_joined_still one.new.roster_seat roster one.new.book_seat book (told_of x) doors on on_book one.ensures.joined in
          let behind : AreSessionsJoined roster book (map told_of was.slot-iterator.rest.items) (doors ∷ more) = subst (λ (l : List Slot). AreSessionsJoined roster book (map told_of l) (doors ∷ more)) (sym next) (here, all) in
          let so_far = was.invariant.joined roster book (doors ∷ more) (knows_further was.roster_seat one.new.roster_seat roster one.ensures.roster on) (knows_further was.book_seat one.new.book_seat book one.ensures.book on_book) behind in
          subst (AreSessionsJoined roster book (told_in c.args.slots)) (sym (ap (λ (ws : List _). ws ++ more) pushed.ensures.items ∙ append_assoc was.ways.items (doors ∷ []) more)) so_far;
      room = omega (arith, was.invariant.room, ap (λ (l : List Slot). length l) next, ap (λ (l : List _). length l) pushed.ensures.items, length-append was.ways.items (doors ∷ []), pushed.ensures.capacity);
    }

pub returns : goal.returns
returns c =
    let was = c.loop-slot in
    let none : was.slot-iterator.rest.items ≡ [] = grind (arith, common_steps) in
    record {
      joined = subst (AreSessionsJoined was.roster_seat was.book_seat (told_in c.args.slots)) (append-nil was.ways.items)
          (was.invariant.joined was.roster_seat was.book_seat [] (knows_as_before was.roster_seat) (knows_as_before was.book_seat) (subst (λ (l : List Slot). AreSessionsJoined was.roster_seat was.book_seat (map told_of l) []) (sym none) tt));
      roster = was.invariant.roster;
      book = was.invariant.book;
    }
