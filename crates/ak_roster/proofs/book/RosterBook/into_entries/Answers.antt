-- What the journal shows is what is held.
use Rattle.std.proofs.Common.{map, ◌++◌, sym, ap, ◌∙◌}
use Rattle.ak_roster.specs.Roster.{plain_entries}
use Rattle.ak_roster.proofs.Entries.{plain_entries-with_objects}
use Rattle.ak_roster.proofs.book.RosterBook.into_entries.Goals as goal

pub returns : goal.returns
returns g c =
    sym (plain_entries-with_objects c.self.inside.heads.items (map g.D.Grant.object (c.self.inside.taken.value.items ++ c.self.inside.doors.items)) c.self.inside.entries.items)
    ∙ ap (λ r. plain_entries r.entries) c.self.view_is
