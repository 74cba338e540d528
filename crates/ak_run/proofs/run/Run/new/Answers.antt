-- Its seats are the first at their locks, and nothing was done.
use Rattle.std.proofs.Common.{◌≡◌, ◌≤◌, ℕ, ◌+◌, List, [], length, ap, ◌∙◌, refl, arith}
use Rattle.ak_base.specs.Limits.{looper_limit}
use Rattle.std.specs.Arc.{arc_value}
use Rattle.ak_base.specs.Thread.{main_thread}
use Rattle.ak_turn.specs.Entries.{places}
use Rattle.ak_turn.specs.Seats.{first_seat}
use Rattle.ak_port.specs.declared.reply_entry.ReplyEntry.{ReplyEntry}
use Rattle.ak_port.specs.ReplySeats as books
use Rattle.ak_port.specs.ReplySeats.{ReplySeat}
use Rattle.ak_describe.specs.Whole.{heads_of}
use Rattle.ak_looper.specs.Rosters as rosters
use Rattle.ak_looper.specs.Rosters.{RosterSeat}
use Rattle.ak_team.specs.Launching.{Book}
use Rattle.ak_run.proofs.NewRun.{begins, done_nothing}
use Rattle.ak_run.proofs.run.Run.new.Goals as goal

-- where there are none, so many fit
room : {X : Type 0} (xs : List X) (capacity : ℕ) → xs ≡ [] → looper_limit ≤ capacity → length xs + looper_limit ≤ capacity
room {X} xs capacity none fits = omega (arith, ap (λ (l : List X). length l) none, fits)

pub returns-clause-running : goal.returns-clause-running
returns-clause-running g =
    let at_roster = arc_value g.in_ok-roster-2.roster in
    let at_book = arc_value g.in_ok-book.book in
    let begun : 0 ≡ 0 = refl in
    begins g.in_ok-heads.heads.items at_roster at_book _ g.requires.whole (g.in_ok-heads.ensures ∙ ap heads_of g.deref.ensures.value)
    (g.in_ok-roster-2.ensures ∙ ap (λ (b : Book). first_seat at_roster b.heads b.entries (places rosters.by_number main_thread b.entries) main_thread) g.in_ok-roster.ensures)
    (g.in_ok-book.ensures ∙ ap (λ (b : List ReplyEntry). first_seat at_book tt b (places books.maker_of main_thread b) main_thread) g.in_ok-new.ensures)
    g.in_ok-with_capacity.ensures.items g.in_ok-with_capacity.ensures.capacity
    (record {
      joined = record { loopers = g.in_ok-with_capacity-2.ensures.items; ways = g.in_ok-with_capacity-3.ensures.items; short = g.in_ok-with_capacity-4.ensures.items };
      ports = g.in_ok-with_capacity-5.ensures.items;
      desks = g.in_ok-with_capacity-6.ensures.items;
      for_joined = record {
        loopers = room _ _ g.in_ok-with_capacity-2.ensures.items g.in_ok-with_capacity-2.ensures.capacity;
        ways = room _ _ g.in_ok-with_capacity-3.ensures.items g.in_ok-with_capacity-3.ensures.capacity;
        short = room _ _ g.in_ok-with_capacity-4.ensures.items g.in_ok-with_capacity-4.ensures.capacity;
      };
      for_ports = g.in_ok-with_capacity-5.ensures.capacity;
      for_desks = g.in_ok-with_capacity-6.ensures.capacity;
    })
    begun g.new-5.ensures.items g.new-6.ensures.items

pub returns-clause-nothing : goal.returns-clause-nothing
returns-clause-nothing g =
    let at_roster = arc_value g.in_ok-roster-2.roster in
    let at_book = arc_value g.in_ok-book.book in
    let begun : 0 ≡ 0 = refl in
    done_nothing _
    (ap (λ (s : RosterSeat). s.front) (g.in_ok-roster-2.ensures ∙ ap (λ (b : Book). first_seat at_roster b.heads b.entries (places rosters.by_number main_thread b.entries) main_thread) g.in_ok-roster.ensures))
    (ap (λ (s : ReplySeat). s.front) (g.in_ok-book.ensures ∙ ap (λ (b : List ReplyEntry). first_seat at_book tt b (places books.maker_of main_thread b) main_thread) g.in_ok-new.ensures)) g.in_ok-with_capacity.ensures.items begun
