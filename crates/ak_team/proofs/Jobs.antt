-- The job of a looper that may start is ready.
use Rattle.std.proofs.Common.{◌≡◌, ℕ, ◌+◌, ◌-◌, ◌<◌, List, [], map, All, Any, sym, ap, ◌∙◌, subst, le-leb, lt-ltb, arith}
use Rattle.std.specs.VecDeque.{deque_len, deque_capacity}
use Rattle.std.proofs.lemmas.Bool.{and_from}
use Rattle.std.proofs.lemmas.Option.{slice_get_within}
use Rattle.std.proofs.lemmas.List.Elements.{All-nil, All-weaker}
use Rattle.ak_base.specs.Thread.{looper_thread}
use Rattle.ak_base.specs.declared.thread.ThreadId.{ThreadId}
use Rattle.ak_turn.specs.Entries.{StartsWith}
use Rattle.ak_turn.specs.Noted.{noted}
use Rattle.ak_roster.specs.declared.head.AppHead.{AppHead}
use Rattle.ak_port.specs.PortCalls as ports
use Rattle.ak_port.specs.PortCalls.{CanTake}
use Rattle.ak_port.specs.ReplySeats as books
use Rattle.ak_desk.specs.Shared as desks
use Rattle.ak_action.specs.declared.plan.PlanParts.{PlanParts}
use Rattle.ak_diary.specs.Looper.{LooperFacts}
use Rattle.ak_looper.specs.declared.door.Door.{Door}
use Rattle.ak_looper.specs.declared.job.LooperJob.{LooperJob}
use Rattle.ak_looper.specs.Doors.{IsNewDoor}
use Rattle.ak_looper.specs.Job.{IsReady, facts_of}
use Rattle.ak_looper.specs.Rosters.{LeadsTo, RosterSeat, maker_of, plain_of}
use Rattle.ak_looper.specs.Stands.{DoorStands, StartsTeam, doors_kept}
use Rattle.ak_team.specs.declared.launching.Team.{Team}
use Rattle.ak_team.specs.declared.new_looper.NewLooper.{NewLooper}
use Rattle.ak_team.specs.Jobs.{CanStart, facts_in}
use Rattle.ak_looper.specs.Starts.{StartsAt}

-- threads with one number are one
same_thread : (a b : ThreadId) → a.0 ≡ b.0 → a ≡ b
same_thread a b same = ap (λ (n : ℕ). let t : ThreadId = record { 0 = n } in t) same

module _ (heads : List AppHead) (plans : List PlanParts) (k : ℕ) (t : Team) (n : NewLooper) (ways : List (ℕ × Door)) (book : books.ReplySeat) (roster : RosterSeat) (s : CanStart heads plans k t n ways book roster)
    (job : LooperJob) (number : job.number ≡ n.number) (team : job.team ≡ t.number) (first : job.first ≡ t.first) (loopers : job.loopers ≡ t.loopers) (own : job.own ≡ n.own) (doors : job.doors.items ≡ ways)
    (queue : job.queue ≡ n.queue) (book_seat : job.hands.book_seat ≡ book) (roster_seat : job.roster_seat ≡ roster) where
  abbrev l : LooperFacts
  l = facts_of job heads s.new.desk

  -- the numbers are the job's
  facts_are : facts_in heads t n.number s.new.desk ≡ l
  facts_are = cc (number, team, first, loopers)

  within_team : k < t.loopers
  within_team = omega (arith, slice_get_within plans k s.new.plan s.new.described, s.count)

  thread_is : job.hands.clock.thread.0 ≡ looper_thread n.number
  thread_is = job.looper ∙ ap looper_thread number

  own_port : job.own.port_seat ≡ n.own.port_seat
  own_port = ap (λ (d : Door). d.port_seat) own

  own_desk : job.own.desk_seat ≡ n.own.desk_seat
  own_desk = ap (λ (d : Door). d.desk_seat) own

  -- each door leads where the roster says, and nothing was made there
  stands : (way : ℕ × Door) → IsNewDoor (looper_thread n.number) way.1.port_seat way.1.desk_seat → LeadsTo roster way.0 way.1.port_seat.lock way.1.desk_seat.lock → DoorStands [] job.roster_seat way
  stands way new leads = record {
    port = record {
      noted_is = subst (λ (thread : ℕ). noted ports.by_number thread way.1.port_seat.front ≡ []) (sym new.at_port) new.nothing_there;
      seen = All-nil (StartsWith way.1.port_seat.front);
    };
    desk = subst (λ (thread : ℕ). noted desks.by_number thread way.1.desk_seat.front ≡ []) (sym new.at_desk) new.nothing_here;
    leads = subst (λ (seat : RosterSeat). LeadsTo seat way.0 way.1.port_seat.lock way.1.desk_seat.lock) (sym roster_seat) leads;
  }

  all_stand : (ds : List (ℕ × Door)) → All (λ (way : ℕ × Door). IsNewDoor (looper_thread n.number) way.1.port_seat way.1.desk_seat) ds
      → All (λ (way : ℕ × Door). LeadsTo roster way.0 way.1.port_seat.lock way.1.desk_seat.lock) ds → All (DoorStands [] job.roster_seat) ds
  all_stand ds new lead = λ i d within. stands _ (new i d within) (lead i d within)

  -- whatever its time
  any_launch : (time : ℕ) → Any (StartsAt (facts_in heads t t.first s.new.desk) time) roster.front → Any (StartsTeam (facts_in heads t t.first s.new.desk)) roster.front
  any_launch time any = (any.0, any.1, any.2, any.3, any.4.0)

  pub ready : IsReady job
  ready = record {
    heads = heads;
    heads_are = ap (λ (seat : RosterSeat). seat.opening) roster_seat ∙ s.heads_are;
    desk_opening = s.new.desk;
    desk_is = ap (λ (seat : desks.DeskSeat). seat.opening) own_desk ∙ s.new.opening_is;
    desk_looper = s.new.opens.looper_is ∙ sym (number ∙ s.new.number);
    launched = subst (λ (seat : RosterSeat). Any (StartsTeam l) seat.front) (sym roster_seat) (subst (λ (f : LooperFacts). Any (StartsTeam f) roster.front) facts_are (any_launch t.time (s.launched s.new.desk)));
    of_team = and_from _ _ (le-leb job.first job.number (omega (arith, first, number, s.new.number))) (lt-ltb job.number (job.first + job.loopers) (omega (arith, first, number, loopers, s.new.number, within_team)));
    within = omega (arith, first, loopers, s.within);
    book_nothing = subst (λ (seat : books.ReplySeat). noted books.maker_of seat.thread seat.front ≡ []) (sym book_seat) s.book_nothing;
    roster_nothing = subst (λ (seat : RosterSeat). noted maker_of seat.thread (plain_of seat) ≡ []) (sym roster_seat) s.roster_nothing;
    port_nothing = subst (λ (seat : ports.PortSeat). noted ports.by_number seat.thread seat.front ≡ []) (sym own_port) (subst (λ (thread : ℕ). noted ports.by_number thread n.own.port_seat.front ≡ []) (sym s.new.new.at_port) s.new.new.nothing_there);
    desk_nothing = subst (λ (seat : desks.DeskSeat). noted desks.by_number seat.thread seat.front ≡ []) (sym own_desk) (subst (λ (thread : ℕ). noted desks.by_number thread n.own.desk_seat.front ≡ []) (sym s.new.new.at_desk) s.new.new.nothing_here);
    takes = subst (λ (q : _). CanTake job.hands.clock.thread (deque_capacity q - deque_len q) job.own.port_seat) (sym queue)
        (subst (λ (seat : ports.PortSeat). CanTake job.hands.clock.thread (deque_capacity n.queue - deque_len n.queue) seat) (sym own_port)
        (subst (λ (thread : ThreadId). CanTake thread (deque_capacity n.queue - deque_len n.queue) n.own.port_seat) (same_thread s.new.taker job.hands.clock.thread (s.new.taker_is ∙ sym (ap looper_thread s.new.number) ∙ sym thread_is)) s.new.takes));
    queue = ap (λ (q : _). q.items) queue ∙ s.new.queue;
    doors = ap (map (λ (way : ℕ × Door). way.0)) doors ∙ subst (λ (f : LooperFacts). map (λ (way : ℕ × Door). way.0) ways ≡ doors_kept f) facts_are (s.ways_are s.new.desk).numbers;
    doors_thread = subst (All (λ (way : ℕ × Door). way.1.port_seat.thread ≡ job.hands.clock.thread.0)) (sym doors)
        (All-weaker (λ (way : ℕ × Door). IsNewDoor (looper_thread n.number) way.1.port_seat way.1.desk_seat) (λ (way : ℕ × Door). way.1.port_seat.thread ≡ job.hands.clock.thread.0) (λ way new. new.at_port ∙ sym thread_is) ways (s.ways_are s.new.desk).new);
    doors_stand = subst (All (DoorStands [] job.roster_seat)) (sym doors) (all_stand ways (s.ways_are s.new.desk).new (s.ways_are s.new.desk).lead);
  }
