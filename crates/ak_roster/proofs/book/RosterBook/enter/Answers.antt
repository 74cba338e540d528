-- An event that changes no state is entered.
use Rattle.std.proofs.Common.{◌≡◌, ◌++◌, ◌∷◌, [], ap, ◌∙◌, refl, arith, sym, length}
use Rattle.std.proofs.lemmas.List.{length-append}
use Rattle.std.specs.Vec.{vec_capacity}
use Rattle.ak_roster.specs.Kept.{Kept}
use Rattle.ak_roster.specs.RosterInside.{kept_inside}
use Rattle.ak_roster.specs.Machine.{after}
use Rattle.ak_roster.specs.Roster.{state}
use Rattle.ak_roster.proofs.Entering.{Entered, entered_still, rests}
use Rattle.ak_roster.proofs.book.RosterBook.enter.Goals as goal
use Rattle.ak_roster.proofs.book.RosterBook.enter.Given as given

abbrev new : (g : given.Over) → goal.After-push_reserved g → Kept g.row.D.Denot
new g c = record (kept_inside c.self.inside) { entries = c.push_reserved.new.items.items; room = vec_capacity c.push_reserved.new.items }

c_running : (g : given.Over) (c : goal.After-push_reserved g) → c.self.inside.running.items ≡ (after c.args.self.now.heads (state c.args.self.now) c.args.clock.now.thread.0 c.args.event).running
c_running g c = c.self.invariant.running ∙ ap (λ r. (state r).running) c.self.view_is ∙ ap (λ s. s.running) (sym c.requires.quiet)

made : (g : given.Over) (c : goal.After-push_reserved g)
    → Entered g.D.Grant.object g.D.Grant.threads c.args.event [] c.args.self.now.doors c.args.self.now (new g c) c.args.clock.now c.entry_by-entry.new.clock
made g c =
    let entries : c.push_reserved.new.items.items ≡ c.self.inside.entries.items ++ c.entry_by-entry.result ∷ [] =
    c.push_reserved.ensures.items ∙ ap (λ es. es ++ c.entry_by-entry.result ∷ []) c.in_ok-reserve_after.ensures.items in
    entered_still g.D.Grant.object g.D.Grant.threads (kept_inside c.self.inside) c.args.self.now c.self.view_is c.args.clock.now c.entry_by-entry.new.clock c.args.event
    c.entry_by-entry.result c.last_stamp-last_stamp.result c.self.invariant c.last_stamp-last_stamp.ensures c.entry_by-entry.ensures.entry c.entry_by-entry.ensures.clock
    (new g c) refl refl refl refl refl entries
    (omega (arith, ap length entries, length-append c.self.inside.entries.items (c.entry_by-entry.result ∷ []), c.in_ok-reserve_after.ensures.ok, ap length c.in_ok-reserve_after.ensures.items, ap length c.deref.ensures.value, c.push_reserved.ensures.room)) c.requires.legal c.requires.no_looper
    (c_running g c) (ap (λ s. s.teams) c.requires.quiet) (ap (λ s. s.loopers) c.requires.quiet)

pub invariant_of-self-2 : goal.invariant_of-self-2
invariant_of-self-2 g c = (made g c).sound

pub returns-clause-ok : goal.returns-clause-ok
returns-clause-ok g c = (made g c).entry

pub returns-clause-rest : goal.returns-clause-rest
returns-clause-rest g c = λ rest.
    rests g.D.Grant.object g.D.Grant.threads c.args.event [] c.args.self.now.doors c.args.self.now (new g c) c.args.clock.now c.entry_by-entry.new.clock (made g c)
    (rest ∙ sym (ap (λ s. length s.loopers) c.requires.quiet))
