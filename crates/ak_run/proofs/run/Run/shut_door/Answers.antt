-- The port is shut, by one entry of main's there, or as it saw.
use Rattle.std.proofs.Common.{length, refl}
use Rattle.ak_diary.specs.Turns.{Shuts}
use Rattle.ak_run.proofs.Acting.{shuts_so}
use Rattle.ak_run.proofs.Calls.{goes_at_new}
use Rattle.ak_run.proofs.Recorded.{at_new}
use Rattle.ak_run.proofs.run.Run.shut_door.Goals as goal

pub returns-clause-run : goal.returns-clause-run
returns-clause-run g c = goes_at_new c.args.self.now _ (record { apps = refl; shared = refl; joined = refl; ports = refl; desks = refl; slots = refl }) refl refl refl

pub returns-clause-shut : goal.returns-clause-shut
returns-clause-shut g c =
    let r = c.args.self.now in
    let place = length r.members.items in
    at_new (Shuts place) r _ _ _ refl refl refl
    (shuts_so place c.close.result r.hands.clock c.close.new.clock c.args.door.now.port_seat c.close.new.seat r.hands.book_seat.front c.requires.main c.close.ensures.shut c.close.ensures.answered)

pub returns-clause-door : goal.returns-clause-door
returns-clause-door g c = record { port = refl; port_kept = c.close.ensures.seat; desk = refl; desk_seat = refl }
