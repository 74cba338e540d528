-- A door gives a part to a thread that has none, and the entry says so.
use Rattle.std.proofs.Common.{◌≡◌, ◌≤◌, ◌+◌, ◌++◌, ◌∷◌, [], ap, ◌∙◌, refl, arith, length}
use Rattle.std.proofs.lemmas.List.{length-append}
use Rattle.std.specs.Vec.{vec_capacity}
use Rattle.ak_roster.specs.declared.entry.RosterEvent.TheVariants as event
use Rattle.ak_roster.specs.Kept.{Kept}
use Rattle.ak_roster.specs.RosterInside.{kept_inside}
use Rattle.ak_roster.proofs.Entering.{Entered}
use Rattle.ak_roster.proofs.Granting.{gives_door, given_rests, newcomer_held, part_is}
use Rattle.ak_roster.proofs.book.RosterBook.grant.Goals as goal
use Rattle.ak_roster.proofs.book.RosterBook.grant.Given as given

pub part_at-requires-clause-new : goal.part_at-requires-clause-new
part_at-requires-clause-new g c =
    newcomer_held g.D.Grant.object g.D.Grant.threads (kept_inside c.self.inside) c.args.self.now c.self.view_is c.self.invariant c.args.looper c.args.clock.now.thread.0 c.requires.rest c.requires.thread

abbrev new : (g : given.Over) → goal.After-push_reserved g → Kept g.row.D.Denot
new g c = record (kept_inside c.self.inside) { entries = c.push_reserved.new.items.items; room = vec_capacity c.push_reserved.new.items; doors = c.part_at.new.doors.items }

entries : (g : given.Over) (c : goal.After-push_reserved g) → c.push_reserved.new.items.items ≡ c.self.inside.entries.items ++ c.entry_by-entry.result ∷ []
entries g c = c.push_reserved.ensures.items ∙ ap (λ es. es ++ c.entry_by-entry.result ∷ []) c.in_ok-reserve_after.ensures.items

room : (g : given.Over) (c : goal.After-push_reserved g) → length c.push_reserved.new.items.items + length c.self.inside.running.items ≤ vec_capacity c.push_reserved.new.items
room g c =
    omega (
      arith,
      ap length (entries g c),
      length-append c.self.inside.entries.items (c.entry_by-entry.result ∷ []),
      c.in_ok-reserve_after.ensures.ok,
      ap length c.in_ok-reserve_after.ensures.items,
      ap length c.deref.ensures.value,
      c.push_reserved.ensures.room,
    )

made : (g : given.Over) (c : goal.After-push_reserved g)
    → Entered g.D.Grant.object g.D.Grant.threads (event.Door c.args.looper) [] c.part_at.new.doors.items c.args.self.now (new g c) c.args.clock.now c.entry_by-entry.new.clock
made g c =
    gives_door g.D.Grant.object g.D.Grant.threads g.D.Grant.part_object g.D.Grant.is_for (kept_inside c.self.inside) c.args.self.now c.self.view_is c.args.clock.now c.entry_by-entry.new.clock c.args.looper
    c.entry_by-entry.result c.last_stamp-last_stamp.result c.self.invariant c.last_stamp-last_stamp.ensures c.entry_by-entry.ensures.entry c.entry_by-entry.ensures.clock
    (new g c) c.in_ok-part.part c.requires.rest c.requires.thread c.in_ok-part.ensures.ok refl refl (entries g c) refl refl refl (room g c)

pub invariant_of-self-2 : goal.invariant_of-self-2
invariant_of-self-2 g c = (made g c).sound

pub returns-clause-object : goal.returns-clause-object
returns-clause-object g c =
    part_is g.D.Grant.object g.D.Grant.threads g.D.Grant.part_object g.D.Grant.is_for (kept_inside c.self.inside) c.args.self.now c.self.view_is c.args.clock.now c.entry_by-entry.new.clock c.args.looper
    c.entry_by-entry.result c.last_stamp-last_stamp.result c.self.invariant c.last_stamp-last_stamp.ensures c.entry_by-entry.ensures.entry c.entry_by-entry.ensures.clock
    (new g c) c.in_ok-part.part c.requires.rest c.requires.thread c.in_ok-part.ensures.ok refl refl (entries g c) refl refl refl (room g c)

pub returns-clause-entry : goal.returns-clause-entry
returns-clause-entry g c = (made g c).entry

pub returns-clause-rest : goal.returns-clause-rest
returns-clause-rest g c =
    given_rests g.D.Grant.object g.D.Grant.threads g.D.Grant.part_object g.D.Grant.is_for (kept_inside c.self.inside) c.args.self.now c.self.view_is c.args.clock.now c.entry_by-entry.new.clock c.args.looper
    c.entry_by-entry.result c.last_stamp-last_stamp.result c.self.invariant c.last_stamp-last_stamp.ensures c.entry_by-entry.ensures.entry c.entry_by-entry.ensures.clock
    (new g c) c.in_ok-part.part c.requires.rest c.requires.thread c.in_ok-part.ensures.ok refl refl (entries g c) refl refl refl (room g c)
