-- There is one entry for each that is held.
use Rattle.std.proofs.Common.{length, map, ◌++◌, ap, rules}
use Rattle.ak_roster.proofs.Entries.{length-with_objects}
use Rattle.ak_roster.proofs.book.RosterBookBook.len.Goals as goal

pub returns : goal.returns
returns g c =
    let there = length-with_objects c.self.inside.heads.items (map g.D.Grant.object (c.self.inside.taken.value.items ++ c.self.inside.doors.items)) c.self.inside.entries.items in
    let seen = ap (λ r. length r.entries) c.self.view_is in
    search rules
