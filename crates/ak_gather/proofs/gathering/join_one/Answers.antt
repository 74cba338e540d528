-- The end is that of its job, and its seats are at the locks that main's are at.
use Rattle.std.proofs.Common.{◌∙◌, ap, refl, sym}
use Rattle.ak_desk.specs.Shared.{DeskSeat}
use Rattle.ak_port.specs.PortCalls.{PortSeat}
use Rattle.ak_looper.specs.declared.job.LooperEnd.{LooperEnd}
use Rattle.ak_gather.specs.declared.gathering.Joined.{Joined}
use Rattle.ak_gather.proofs.Joining.{goes_on_knowing, is_joined, still_no_head}
use Rattle.ak_gather.proofs.gathering.join_one.Goals as goal

pub join-requires-clause-of : goal.join-requires-clause-of
join-requires-clause-of g c =
    let m = c.requires.member in
    (c.requires.roster_of, (c.end-end.ensures c.args.member.job.value m.2.life).roster_kept.lock ∙ m.2.at_roster ∙ m.3)

pub join-requires-2-clause-of : goal.join-requires-2-clause-of
join-requires-2-clause-of g c =
    let m = c.requires.member in
    (c.requires.book_of, (c.end-end.ensures c.args.member.job.value m.2.life).book_kept.lock ∙ m.2.at_book ∙ m.4)

pub take_in-requires-clause-port : goal.take_in-requires-clause-port
take_in-requires-clause-port g c =
    let m = c.requires.member.2 in
    ((c.end-end.ensures c.args.member.job.value m.life).port_kept.lock ∙ m.at_port, c.end-end.result.own.port_idle)

pub take_in-requires-clause-desk : goal.take_in-requires-clause-desk
take_in-requires-clause-desk g c =
    let m = c.requires.member.2 in
    ((c.end-end.ensures c.args.member.job.value m.life).desk_kept.lock ∙ m.at_desk, c.end-end.result.own.desk_idle)

pub returns-clause-joined : goal.returns-clause-joined
returns-clause-joined g c = λ heads shared is.
    let m = c.args.member in
    let joined : Joined = record { number = m.number; door = c.take_in.new.door; kind = c.end-end.result.kind; job = m.job; end = c.of-snapshot.result } in
    is_joined heads shared c.args.roster_seat.now c.join.new.seat c.args.book_seat.now c.join-2.new.seat m c.end-end.result joined is (c.end-end.ensures m.job.value is.life) refl refl c.of-snapshot.ensures refl
    c.join.ensures c.join-2.ensures c.take_in.ensures.port c.take_in.ensures.desk

pub returns-clause-no_head : goal.returns-clause-no_head
returns-clause-no_head g c = λ heads shared is.
    still_no_head heads shared c.args.roster_seat.now c.args.member c.end-end.result c.take_in.new.door is (c.end-end.ensures c.args.member.job.value is.life) c.take_in.ensures.port c.take_in.ensures.desk

pub returns-clause-ways : goal.returns-clause-ways
returns-clause-ways g c = ap (λ (e : LooperEnd). e.doors) (sym c.of-snapshot.ensures)

pub returns-clause-roster : goal.returns-clause-roster
returns-clause-roster g c = goes_on_knowing c.args.roster_seat.now c.end-end.result.roster_seat c.join.new.seat c.join.ensures

pub returns-clause-book : goal.returns-clause-book
returns-clause-book g c = goes_on_knowing c.args.book_seat.now c.end-end.result.hands.book_seat c.join-2.new.seat c.join-2.ensures

pub returns-clause-front : goal.returns-clause-front
returns-clause-front g c = ap (λ (s : PortSeat). s.front) c.take_in.ensures.port

pub returns-clause-desk_front : goal.returns-clause-desk_front
returns-clause-desk_front g c = ap (λ (s : DeskSeat). s.front) c.take_in.ensures.desk
