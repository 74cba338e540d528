-- A team that runs is gone: the state is without it.
use Rattle.std.proofs.Common.{◌≡◌, ◌∷◌, [], ap, ◌∙◌, refl, arith, sym, length}
use Rattle.std.specs.Prelude.{IsTrue, filter, not}
use Rattle.std.specs.List.{list_any}
use Rattle.std.proofs.lemmas.List.{length-append}
use Rattle.std.specs.Vec.{vec_capacity}
use Rattle.ak_roster.specs.declared.entry.RosterEvent.TheVariants as event
use Rattle.ak_roster.specs.Kept.{Kept}
use Rattle.ak_roster.specs.RosterInside.{kept_inside}
use Rattle.ak_roster.specs.Machine.{runs_team}
use Rattle.ak_roster.specs.Roster.{state}
use Rattle.ak_roster.proofs.Entering.{Entered, entered_still, rests}
use Rattle.ak_roster.proofs.Leaving.{fewer}
use Rattle.ak_roster.proofs.book.RosterBook.gone.Goals as goal
use Rattle.ak_roster.proofs.book.RosterBook.gone.Given as given

abbrev new : (g : given.Over) → goal.After-push_reserved g → Kept g.row.D.Denot
new g c = record (kept_inside c.self.inside) { running = c.drop_team.new.running.items; entries = c.push_reserved.new.items.items; room = vec_capacity c.push_reserved.new.items }

there : (g : given.Over) (c : goal.After-push_reserved g) → IsTrue (list_any (runs_team c.args.team) c.self.inside.running.items)
there g c = ap (list_any (runs_team c.args.team)) (sym c.deref.ensures.value) ∙ sym c.runs.ensures ∙ c.if-not-runs.false

held : (g : given.Over) (c : goal.After-push_reserved g) → c.self.inside.running.items ≡ (state c.args.self.now).running
held g c = c.self.invariant.running ∙ ap (λ r. (state r).running) c.self.view_is

made : (g : given.Over) (c : goal.After-push_reserved g)
    → Entered g.D.Grant.object g.D.Grant.threads (event.Gone c.args.team) [] c.args.self.now.doors c.args.self.now (new g c) c.args.clock.now c.entry_by-entry.new.clock
made g c =
    entered_still g.D.Grant.object g.D.Grant.threads (kept_inside c.self.inside) c.args.self.now c.self.view_is c.args.clock.now c.entry_by-entry.new.clock (event.Gone c.args.team)
    c.entry_by-entry.result c.last_stamp.result c.self.invariant c.last_stamp.ensures c.entry_by-entry.ensures.entry c.entry_by-entry.ensures.clock
    (new g c) refl refl refl refl refl c.push_reserved.ensures.items
    (omega (arith, ap length c.push_reserved.ensures.items, length-append c.self.inside.entries.items (c.entry_by-entry.result ∷ []), ap length c.drop_team.ensures.items, fewer (runs_team c.args.team) c.self.inside.running.items (there g c), c.self.invariant.room, c.push_reserved.ensures.room))
    (ap (list_any (runs_team c.args.team)) (sym (held g c)) ∙ there g c) refl
    (c.drop_team.ensures.items ∙ ap (filter (λ r. not (runs_team c.args.team r))) (held g c)) refl refl

pub invariant_of-self : goal.invariant_of-self
invariant_of-self g c = (made g c).sound

pub returns-clause-entry : goal.returns-clause-entry
returns-clause-entry g c = λ _. (made g c).entry

pub returns-clause-rest : goal.returns-clause-rest
returns-clause-rest g c = λ rest.
    rests g.D.Grant.object g.D.Grant.threads (event.Gone c.args.team) [] c.args.self.now.doors c.args.self.now (new g c) c.args.clock.now c.entry_by-entry.new.clock (made g c) rest
