-- A launch that starts is entered with its doors.
use Rattle.std.proofs.Common.{◌≡◌, ◌≤◌, ◌+◌, ◌++◌, ◌∷◌, [], ap, ◌∙◌, refl, arith, sym, length, map, rules}
use Rattle.std.proofs.lemmas.List.{length-append}
use Rattle.std.specs.Vec.{vec_capacity}
use Rattle.ak_roster.specs.declared.team.Running.{Running}
use Rattle.ak_roster.specs.declared.entry.RosterEvent.TheVariants as event
use Rattle.ak_roster.specs.declared.entry.LaunchOutcome.TheVariants as launch
use Rattle.ak_roster.specs.Kept.{Kept}
use Rattle.ak_roster.specs.RosterInside.{kept_inside}
use Rattle.ak_roster.specs.Machine.{launch_of, loopers_at}
use Rattle.ak_roster.specs.Roster.{state}
use Rattle.ak_roster.proofs.Entering.{Entered, entry_of}
use Rattle.ak_roster.proofs.Launching.{launches, launched_rests}
use Rattle.ak_roster.proofs.book.RosterBook.launch.Goals as goal
use Rattle.ak_roster.proofs.book.RosterBook.launch.Given as given

abbrev new : (g : given.Over) → goal.After-self-2-1 g → Kept g.row.D.Denot
new g c = record (kept_inside c.self.inside) {
  running = c.push_reserved.new.items.items;
  teams = c.in-Started.team;
  loopers = c.in-Started.first + c.loopers_at-loopers.result;
  entries = c.push_reserved-2.new.items.items;
  room = vec_capacity c.push_reserved-2.new.items;
  doors = c.append_reserved.new.items.items;
}

many : (g : given.Over) (c : goal.After-self-2-1 g) → c.loopers_at-loopers.result ≡ loopers_at c.self.inside.heads.items c.in-Started.description
many g c = c.loopers_at-loopers.ensures ∙ ap (λ hs. loopers_at hs c.in-Started.description) c.deref.ensures.value

entries : (g : given.Over) (c : goal.After-self-2-1 g) → c.push_reserved-2.new.items.items ≡ c.self.inside.entries.items ++ c.entry_by-entry.result ∷ []
entries g c = c.push_reserved-2.ensures.items ∙ ap (λ es. es ++ c.entry_by-entry.result ∷ []) c.reserve_launch.ensures.entries

running : (g : given.Over) (c : goal.After-self-2-1 g)
    → c.push_reserved.new.items.items ≡ c.self.inside.running.items
    ++ (let t : Running = record { team = c.in-Started.team; description = c.in-Started.description; first = c.in-Started.first; loopers = loopers_at c.self.inside.heads.items c.in-Started.description } in t) ∷ []
running g c =
    c.push_reserved.ensures.items
    ∙ ap (λ rs. rs ++ (let t : Running = record { team = c.in-Started.team; description = c.in-Started.description; first = c.in-Started.first; loopers = c.loopers_at-loopers.result } in t) ∷ []) c.reserve_launch.ensures.running
    ∙ ap (λ n. c.self.inside.running.items ++ (let t : Running = record { team = c.in-Started.team; description = c.in-Started.description; first = c.in-Started.first; loopers = n } in t) ∷ []) (many g c)

entry : (g : given.Over) (c : goal.After-self-2-1 g)
    → c.entry_by-entry.result ≡ entry_of c.args.clock.now c.last_stamp-last_stamp.result (event.Launch c.args.word.now (launch_of c.args.self.now.heads (state c.args.self.now) c.args.word.now))
entry g c =
    c.entry_by-entry.ensures.entry
    ∙ ap (λ w. entry_of c.args.clock.now c.last_stamp-last_stamp.result (event.Launch w (launch.Started c.in-Started.description c.in-Started.team c.in-Started.first))) c.in-Ok.ensures
    ∙ ap (λ o. entry_of c.args.clock.now c.last_stamp-last_stamp.result (event.Launch c.args.word.now o)) (sym c.in-Started.is ∙ c.outcome-outcome.ensures)

room : (g : given.Over) (c : goal.After-self-2-1 g) → length c.push_reserved-2.new.items.items + length c.push_reserved.new.items.items ≤ vec_capacity c.push_reserved-2.new.items
room g c =
    let ok : length c.reserve_launch.new.entries.items + (2 + length c.reserve_launch.new.running.items) ≤ vec_capacity c.reserve_launch.new.entries = search rules in
    let one = length-append c.reserve_launch.new.running.items ((let t : Running = record { team = c.in-Started.team; description = c.in-Started.description; first = c.in-Started.first; loopers = c.loopers_at-loopers.result } in t) ∷ []) in
    omega (
      arith,
      ap length (entries g c),
      length-append c.self.inside.entries.items (c.entry_by-entry.result ∷ []),
      ap length c.reserve_launch.ensures.entries,
      ap length c.push_reserved.ensures.items,
      c.push_reserved-2.ensures.room,
      one,
    )

made : (g : given.Over) (c : goal.After-self-2-1 g)
    → Entered g.D.Grant.object g.D.Grant.threads (event.Launch c.args.word.now (launch_of c.args.self.now.heads (state c.args.self.now) c.args.word.now)) (map g.D.Grant.object c.args.doors.items)
    (c.args.self.now.doors ++ c.args.doors.items) c.args.self.now (new g c) c.args.clock.now c.entry_by-entry.new.clock
made g c =
    launches g.D.Grant.object g.D.Grant.threads (kept_inside c.self.inside) c.args.self.now c.self.view_is c.args.clock.now c.entry_by-entry.new.clock c.args.word.now
    c.entry_by-entry.result c.last_stamp-last_stamp.result c.self.invariant c.last_stamp-last_stamp.ensures (entry g c) c.entry_by-entry.ensures.clock
    c.in-Started.description c.in-Started.team c.in-Started.first (sym c.outcome-outcome.ensures ∙ c.in-Started.is)
    (new g c) c.args.doors.items c.requires.rest c.requires.doors refl refl (entries g c) (running g c) refl (ap (λ n. c.in-Started.first + n) (many g c))
    (c.append_reserved.ensures ∙ ap (λ ds. ds ++ c.args.doors.items) c.reserve_launch.ensures.doors) (room g c)

pub invariant_of-self-2 : goal.invariant_of-self-2
invariant_of-self-2 g c = (made g c).sound

pub returns-clause-entry : goal.returns-clause-entry
returns-clause-entry g c = (made g c).entry

pub returns-clause-rest : goal.returns-clause-rest
returns-clause-rest g c =
    launched_rests g.D.Grant.object g.D.Grant.threads (kept_inside c.self.inside) c.args.self.now c.self.view_is c.args.clock.now c.entry_by-entry.new.clock c.args.word.now
    c.entry_by-entry.result c.last_stamp-last_stamp.result c.self.invariant c.last_stamp-last_stamp.ensures (entry g c) c.entry_by-entry.ensures.clock
    c.in-Started.description c.in-Started.team c.in-Started.first (sym c.outcome-outcome.ensures ∙ c.in-Started.is)
    (new g c) c.args.doors.items c.requires.rest c.requires.doors refl refl (entries g c) (running g c) refl (ap (λ n. c.in-Started.first + n) (many g c))
    (c.append_reserved.ensures ∙ ap (λ ds. ds ++ c.args.doors.items) c.reserve_launch.ensures.doors) (room g c)
