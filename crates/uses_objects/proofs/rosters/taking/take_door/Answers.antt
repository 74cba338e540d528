-- By a seat that knows its list and made no entry.
use Rattle.std.proofs.Common.{◌≢◌, ap, ◌∙◌}
use Rattle.ak_roster.specs.declared.entry.RosterEntry.{RosterEntry}
use Rattle.ak_roster.specs.declared.entry.RosterEvent.TheVariants as event
use Rattle.ak_roster.specs.Roster.{RosterData}
use Rattle.uses_objects.proofs.OwnDoors.{none_of_mine}
use Rattle.uses_objects.proofs.rosters.taking.take_door.Goals as goal

pub grant_by-given-requires-clause-own : goal.grant_by-given-requires-clause-own
grant_by-given-requires-clause-own g c =
    let turn = c.lock-turn.ensures in
    none_of_mine (λ (e : RosterEntry). e.event ≢ event.Door c.args.looper) c.args.thread.0 c.book.result.now.entries c.args.seat c.lock-turn.new.seat c.seats_tell_strangers.ensures.entries c.fronts_go_on.ensures.own turn.known turn.seen
    c.requires.none c.requires.thread (ap (λ (r : RosterData (Unit {0}) (Unit {0})). r.entries) c.book.ensures.value ∙ turn.list)
