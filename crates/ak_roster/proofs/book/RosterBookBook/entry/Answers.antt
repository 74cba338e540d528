-- What is held at a place is what the journal shows of the entry there.
use Rattle.std.proofs.Common.{map, ◌++◌, ap, ◌∙◌}
use Rattle.std.specs.Prelude.{option_map, slice_get}
use Rattle.ak_roster.proofs.Entries.{entry-with_objects}
use Rattle.ak_roster.proofs.book.RosterBookBook.entry.Goals as goal

pub returns : goal.returns
returns g c =
    c.in_ok-entry_in.ensures
    ∙ ap (λ es. slice_get es c.args.place) c.deref.ensures.value
    ∙ entry-with_objects c.self.inside.heads.items (map g.D.Grant.object (c.self.inside.taken.value.items ++ c.self.inside.doors.items)) c.self.inside.entries.items c.args.place
    ∙ ap (λ r. option_map (λ entry. entry.plain) (slice_get r.entries c.args.place)) c.self.view_is
