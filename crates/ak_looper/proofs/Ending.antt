-- What a looper's thread gives back, once it took the rest and answered what was left.
use Rattle.std.proofs.Common.{◌≡◌, ℕ, Bool, true, false, cond, List, [], ◌∷◌, ◌++◌, map, vec_items, All, refl, sym, ap, ◌∙◌, subst, append_assoc, append-nil, inr, ⊎_elim}
use Rattle.std.specs.Prelude.{◌||◌}
use Rattle.std.proofs.lemmas.List.Elements.{All-append, All-cons, All-nil}
use Rattle.ak_flatten.specs.declared.item.Duty.{Duty}
use Rattle.ak_flatten.specs.declared.item.Duty.TheVariants as duty
use Rattle.ak_flatten.specs.declared.item.Taken.{Taken}
use Rattle.ak_messenger.specs.declared.hands.Hands.{Hands}
use Rattle.ak_turn.specs.Called.{KeepsSeat}
use Rattle.ak_turn.specs.Noted.{Noted, entry_of, noted}
use Rattle.ak_port.specs.PortCalls as ports
use Rattle.ak_port.specs.Reply.{none_text}
use Rattle.ak_port.specs.TakerLaws.{handed_at}
use Rattle.ak_port.specs.declared.port_entry.PortEntry.{PortEntry}
use Rattle.ak_desk.specs.Shared as desks
use Rattle.ak_looper.specs.declared.at_work.Life.{Life}
use Rattle.ak_looper.specs.declared.door.Door.{Door}
use Rattle.ak_looper.specs.declared.job.EndKind.{EndKind}
use Rattle.ak_looper.specs.declared.job.LooperEnd.{LooperEnd}
use Rattle.ak_looper.specs.declared.job.LooperJob.{LooperJob}
use Rattle.ak_looper.specs.Job.{BeginsSo, EndsSo, HasLived, IsReady, facts_of}
use Rattle.ak_looper.specs.Living.{HasRestedSo, Later, kind_of}
use Rattle.ak_looper.specs.Rosters.{RosterSeat}
use Rattle.ak_looper.specs.Stands.{BookStands, DeskStands, DoorStands, GoesOn, IsAtOneOf, PortStands, RosterStands, Stands}
use Rattle.ak_looper.specs.Ways.{KeepsPlaces}
use Rattle.ak_turn.proofs.Surface.{keeps_then_keeps}
use Rattle.ak_diary.proofs.Surface.{IsServing, are_quiet, quiet_at_no_desk, serving_not_short}
use Rattle.ak_looper.proofs.Tallies.{desk-append, none_in_hand, short-append}
use Rattle.ak_diary.specs.Diary.{by_quit, by_team, ending_of, without_memory}
use Rattle.ak_diary.specs.Looper.{LooperFacts, desk_list, doors_got, in_hand, last_quits}
use Rattle.ak_diary.specs.Step.{Step, at_book, at_port, desk_entries, ran_short, saw_book}
use Rattle.ak_diary.specs.Turns as turns
use Rattle.ak_diary.specs.Turns.{Fills, LeavesAll, LeavesOne}

-- ---- what is left takes memory for nothing, and is at no desk
alone : (step : Step) (steps : List Step) → IsServing step → steps ≡ step ∷ [] → All IsServing steps
alone step steps so is = subst (All IsServing) (sym is) (All-cons IsServing step [] so (All-nil IsServing))

fills_serving : (n : ℕ) (text : List ℕ) (steps : List Step) → Fills n text steps → All IsServing steps
fills_serving n text steps f = ⊎_elim (λ (t : turns.EntersFill n text steps). alone (at_book t.noted) steps tt t.is) (λ (t : turns.FindsSettled n steps). alone (saw_book t.seen) steps tt t.is) f

leaves_one_serving : (owed : Duty) (steps : List Step) → LeavesOne owed steps → All IsServing steps
leaves_one_serving duty.None steps is = subst (All IsServing) (sym is) (All-nil IsServing)
leaves_one_serving (duty.Slot n) steps f = fills_serving n none_text steps f
leaves_one_serving (duty.Back to) steps is = subst (All IsServing) (sym is) (All-nil IsServing)

leaves_all_serving : (left : List Taken) (steps : List Step) → LeavesAll left steps → All IsServing steps
leaves_all_serving [] steps is = subst (All IsServing) (sym is) (All-nil IsServing)
leaves_all_serving (taken ∷ left) steps s =
    subst (All IsServing) (sym s.4) (All-append IsServing s.0 s.1 (leaves_one_serving taken.item.duty s.0 s.2) (leaves_all_serving left s.1 s.3))

or_nothing : (b : Bool) → (b || false) ≡ b
or_nothing true = refl
or_nothing false = refl

-- ---- the whole diary
module _ (l : LooperFacts) (work answers : List Step) (n : Noted PortEntry) (serving : All IsServing answers) where
  abbrev whole : List Step
  whole = work ++ at_port l.number n ∷ answers

  no_desk : desk_entries l.number (at_port l.number n ∷ answers) ≡ []
  no_desk = quiet_at_no_desk l.number answers (are_quiet answers serving)

  desk_whole : desk_entries l.number whole ≡ desk_entries l.number work
  desk_whole = desk-append l.number work (at_port l.number n ∷ answers) ∙ ap (λ k. desk_entries l.number work ++ k) no_desk ∙ append-nil (desk_entries l.number work)

  short_whole : ran_short whole ≡ ran_short work
  short_whole = short-append work (at_port l.number n ∷ answers) ∙ ap (λ b. ran_short work || b) (serving_not_short answers serving) ∙ or_nothing (ran_short work)

  -- the end changes nothing of how it ended
  ending_whole : ending_of l whole ≡ ending_of l work
  ending_whole =
      ap (λ b. cond b without_memory (cond (last_quits (desk_list l whole)) by_quit by_team)) short_whole
      ∙ ap (λ k. cond (ran_short work) without_memory (cond (last_quits (map entry_of k)) by_quit by_team)) desk_whole

-- ---- a life
module _ (job : LooperJob) (first life : Life) (k : EndKind) (end : LooperEnd) (ready : IsReady job) (b : BeginsSo job first) (keeps : KeepsPlaces first.reach life.reach) (seat : KeepsSeat first.desk_seat life.desk_seat) (e : EndsSo life k end)
    (w : Later (λ so_far. HasRestedSo (facts_of job ready.heads ready.desk_opening) job.hands.clock.time so_far k life.queue.items life.reach life.desk_seat) []) where
  abbrev l : LooperFacts
  l = facts_of job ready.heads ready.desk_opening

  abbrev work : List Step
  work = w.turn

  abbrev rest : HasRestedSo l job.hands.clock.time work k life.queue.items life.reach life.desk_seat
  rest = w.then_is

  abbrev n : Noted PortEntry
  n = rest.so.noted

  goes : GoesOn l job.hands.clock.time (work ++ at_port l.number n ∷ []) (LeavesAll life.queue.items) e.reach
  goes = e.goes l job.hands.clock.time (work ++ at_port l.number n ∷ []) rest.so.stands

  abbrev steps : List Step
  steps = work ++ at_port l.number n ∷ goes.steps

  serving : All IsServing goes.steps
  serving = leaves_all_serving life.queue.items goes.steps goes.does

  whole_is : (work ++ at_port l.number n ∷ []) ++ goes.steps ≡ steps
  whole_is = append_assoc work (at_port l.number n ∷ []) goes.steps

  stands : Stands l job.hands.clock.time steps e.reach
  stands = subst (λ s. Stands l job.hands.clock.time s e.reach) whole_is goes.stands

  none_left : in_hand l work ≡ []
  none_left = none_in_hand l work rest.so.rested

  left_is : life.queue.items ≡ in_hand l work ++ handed_at n
  left_is = rest.so.left ∙ sym (ap (λ h. h ++ handed_at n) none_left)

  desk_now : noted desks.by_number life.desk_seat.thread life.desk_seat.front ≡ desk_entries l.number steps
  desk_now =
      rest.so.at_desk.noted_is ∙ desk-append l.number work (at_port l.number n ∷ []) ∙ append-nil (desk_entries l.number work)
      ∙ sym (desk_whole l work goes.steps n serving)

  pub has_lived : HasLived job end
  has_lived = record {
    heads = ready.heads;
    heads_are = ready.heads_are;
    desk_opening = ready.desk_opening;
    desk_is = ready.desk_is;
    steps = steps;
    legal = record {
      work = work;
      works = rest.so.works;
      end = at_port l.number n ∷ goes.steps;
      ends = record {
        may = inr none_left;
        noted = n;
        count = rest.so.count;
        event_is = rest.so.event_is;
        answers = goes.steps;
        leaves = subst (λ left. LeavesAll left goes.steps) left_is goes.does;
        is = refl;
      };
      is = refl;
    };
    stamped = stands.stamped;
    time = stands.time ∙ sym (ap (λ (h : Hands). h.clock.time) e.hands);
    number = e.number ∙ keeps.number ∙ b.number;
    kind = e.kind ∙ rest.kind_is ∙ sym (ap kind_of (ending_whole l work goes.steps n serving));
    thread = ap (λ (h : Hands). h.clock.thread) e.hands ∙ e.keeps.thread ∙ keeps.thread ∙ ap (λ (h : Hands). h.clock.thread) b.hands;
    book_lock = ap (λ (h : Hands). h.book) e.hands ∙ e.keeps.book ∙ keeps.book ∙ ap (λ (h : Hands). h.book) b.hands;
    book_kept =
        subst (λ (h : Hands). KeepsSeat h.book_seat end.hands.book_seat) b.hands
        (subst (λ (h : Hands). KeepsSeat first.reach.hands.book_seat h.book_seat) (sym e.hands)
        (keeps_then_keeps first.reach.hands.book_seat life.reach.hands.book_seat e.reach.hands.book_seat keeps.book_seat e.keeps.book_seat));
    roster_kept =
        subst (λ (s : RosterSeat). KeepsSeat s end.roster_seat) b.roster_seat
        (subst (λ (s : RosterSeat). KeepsSeat first.reach.roster_seat s) (sym e.roster_seat)
        (keeps_then_keeps first.reach.roster_seat life.reach.roster_seat e.reach.roster_seat keeps.roster_seat e.keeps.roster_seat));
    port_kept =
        subst (λ (s : ports.PortSeat). KeepsSeat s end.own.port_seat) b.port_seat
        (subst (λ (s : ports.PortSeat). KeepsSeat first.reach.port_seat s) (sym e.port_seat)
        (keeps_then_keeps first.reach.port_seat life.reach.port_seat e.reach.port_seat keeps.port_seat e.keeps.port_seat));
    desk_kept =
        subst (λ (s : desks.DeskSeat). KeepsSeat s end.own.desk_seat) b.desk_seat
        (subst (λ (s : desks.DeskSeat). KeepsSeat first.desk_seat s) (sym e.desk_seat) seat);
    book = subst (λ (h : Hands). BookStands steps h.book_seat) (sym e.hands) stands.book;
    roster = subst (λ (s : RosterSeat). RosterStands steps s) (sym e.roster_seat) stands.roster;
    port = subst (λ (s : ports.PortSeat). PortStands steps job.number s) (sym e.port_seat) stands.port;
    desk = subst (λ (s : desks.DeskSeat). DeskStands l steps s) (sym e.desk_seat) (record { opening = rest.so.at_desk.opening; noted_is = desk_now });
    doors =
        subst (λ (s : RosterSeat). All (DoorStands steps s) end.doors.items) (sym e.roster_seat)
        (subst (All (DoorStands steps e.reach.roster_seat)) (sym (ap vec_items e.doors)) stands.doors);
    doors_thread =
        subst (λ (h : Hands). All (λ (door : ℕ × Door). door.1.port_seat.thread ≡ h.clock.thread.0) end.doors.items) (sym e.hands)
        (subst (All (λ (door : ℕ × Door). door.1.port_seat.thread ≡ e.reach.hands.clock.thread.0)) (sym (ap vec_items e.doors)) e.reach.doors_thread);
    ways =
        ap (λ (doors : List (ℕ × Door)). map (λ (door : ℕ × Door). door.0) doors) (ap vec_items e.doors) ∙ stands.ways ∙ sym (ap (λ ns. ns ++ doors_got steps) ready.doors);
    at_ways =
        subst (λ (n : ℕ). All (IsAtOneOf (n ∷ map (λ (door : ℕ × Door). door.0) end.doors.items)) steps) (sym (e.number ∙ keeps.number ∙ b.number))
        (subst (λ (doors : List (ℕ × Door)). All (IsAtOneOf (job.number ∷ map (λ (door : ℕ × Door). door.0) doors)) steps) (sym (ap vec_items e.doors)) stands.at_ways);
  }
