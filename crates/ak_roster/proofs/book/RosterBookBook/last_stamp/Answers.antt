-- The last entry has the stamp of the last one that is held.
use Rattle.std.proofs.Common.{map, ◌++◌, ap, ◌∙◌}
use Rattle.ak_turn.specs.Entries.{last_stamp_of}
use Rattle.ak_roster.specs.Roster.{last_stamp}
use Rattle.ak_roster.proofs.Entries.{last_stamp-with_objects}
use Rattle.ak_roster.proofs.book.RosterBookBook.last_stamp.Goals as goal

pub returns : goal.returns
returns g c =
    c.last_stamp_in.ensures
    ∙ ap (λ es. last_stamp_of (λ e. e.stamp) es) c.deref.ensures.value
    ∙ last_stamp-with_objects c.self.inside.heads.items (map g.D.Grant.object (c.self.inside.taken.value.items ++ c.self.inside.doors.items)) c.self.inside.entries.items
    ∙ ap (λ r. last_stamp r.entries) c.self.view_is
