-- A thread that is none of the four, with no entry of the door, has no part of it.
use Rattle.std.proofs.Common.{refl}
use Rattle.ak_roster.specs.Roster.{plain_entries}
use Rattle.uses_objects.proofs.rosters.taking.grant_by.Goals as goal

pub grant-requires-clause-thread : goal.grant-requires-clause-thread
grant-requires-clause-thread c =
    let roster = c.args.roster.now in
    c.holders_are_told.ensures.strangers roster.heads (plain_entries roster.entries) c.args.clock.now.thread.0 c.args.looper c.heads.ensures.is_roster.history (c.if-not-is_none_of_four.ensures refl) c.requires.own
