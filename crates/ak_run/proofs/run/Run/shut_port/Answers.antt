-- Main shuts the port of that looper, or saw that it is shut.
use Rattle.std.proofs.Common.{refl, sym, ◌∙◌}
use Rattle.ak_diary.specs.Turns.{Shuts}
use Rattle.ak_run.proofs.Acting.{shuts_so}
use Rattle.ak_turn.proofs.Surface.{keeps_itself}
use Rattle.ak_run.proofs.Calls.{main_has, one_goes}
use Rattle.ak_run.proofs.Stopping.{shut_beside}
use Rattle.ak_run.proofs.Standing.{same_book}
use Rattle.ak_run.proofs.run.Run.shut_port.Goals as goal

pub close-requires-clause-thread : goal.close-requires-clause-thread
close-requires-clause-thread g c =
    let r = c.args.self.now in
    let standing = c.requires.stands in
    main_has standing.next standing.heads r c.args.looper c.index_mut.result.now c.requires.there (sym c.index_mut.ensures.value) standing.stands ∙ sym r.main

pub returns : goal.returns
returns g c =
    let r = c.args.self.now in
    let m = c.index_mut.result.now in
    let standing = c.requires.stands in
    let there = sym c.index_mut.ensures.value in
    let main = main_has standing.next standing.heads r c.args.looper m c.requires.there there standing.stands in
    let acts = shuts_so c.args.looper c.close.result r.hands.clock c.close.new.clock m.door.port_seat c.close.new.seat r.hands.book_seat.front main c.close.ensures.shut c.close.ensures.answered in
    record {
      goes = one_goes r _ c.args.looper m _ c.requires.there there refl refl (Shuts c.args.looper) (record { port = c.close.ensures.seat; desk = keeps_itself m.door.desk_seat; desk_front = refl }) refl
          (record { apps = refl; shared = refl; joined = refl; ports = refl; desks = refl; slots = refl }) (same_book r _ refl) acts;
      shut = shut_beside r _ c.args.looper m _ c.requires.there there refl refl acts;
    }
