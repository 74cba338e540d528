-- A looper starts: its thread's seats are split from main's.
use Rattle.std.proofs.Common.{◌≡◌, ◌≢◌, ℕ, zero, suc, ◌+◌, ◌≤◌, ◌<◌, List, [], ◌∷◌, ◌++◌, length, map, Option, None, Some, refl, sym, ap, ◌∙◌, subst, append-nil, arith, inl, inr, ⊎_elim, All, Any, vec_capacity}
use Rattle.std.specs.Prelude.{slice_get}
use Rattle.std.specs.Arc.{arc_value}
use Rattle.std.specs.List.{range_with_len}
use Rattle.std.proofs.lemmas.List.{length-append, map-append}
use Rattle.std.proofs.lemmas.List.Elements.{All-map, All-push, All-weaker}
use Rattle.ak_base.specs.Limits.{looper_limit}
use Rattle.ak_base.specs.Thread.{looper_thread}
use Rattle.ak_turn.specs.Entries.{AreByOthers, StartsWith}
use Rattle.ak_turn.specs.Noted.{noted}
use Rattle.ak_turn.specs.Seats.{KnowsWhole, new_seat}
use Rattle.ak_turn.specs.Steps.{IsNewName, names_with}
use Rattle.ak_turn.proofs.Surface.{noted-others, starts_then_starts}
use Rattle.ak_roster.specs.declared.head.AppHead.{AppHead}
use Rattle.ak_roster.specs.declared.entry.EntryWithObjects.{EntryWithObjects}
use Rattle.ak_roster.specs.declared.entry.RosterEntry.{RosterEntry}
use Rattle.ak_roster.specs.Roster.{plain_entries}
use Rattle.ak_port.specs.ReplySeats as books
use Rattle.ak_port.specs.ReplySeats.{ReplySeat}
use Rattle.ak_action.specs.declared.plan.PlanParts.{PlanParts}
use Rattle.ak_action.specs.Opening.{Opens, names_in}
use Rattle.ak_action.specs.declared.state.DeskState.{DeskState}
use Rattle.ak_desk.specs.Shared.{DeskSeat}
use Rattle.ak_describe.specs.Whole.{IsWholeApp, heads_of, looper_names}
use Rattle.ak_diary.specs.Looper.{LooperFacts}
use Rattle.ak_looper.specs.declared.door.Door.{Door}
use Rattle.ak_looper.specs.declared.job.LooperJob.{LooperJob}
use Rattle.ak_looper.specs.Job.{IsReady, facts_of}
use Rattle.ak_looper.specs.Rosters as rosters
use Rattle.ak_looper.specs.Rosters.{LeadsTo, Object, RosterSeat, maker_of, plain_of}
use Rattle.ak_team.specs.declared.launching.Team.{Team}
use Rattle.ak_gather.specs.declared.member.Member.{Member}
use Rattle.ak_team.specs.declared.new_looper.NewLooper.{NewLooper}
use Rattle.ak_looper.specs.declared.shared.Shared.{Shared}
use Rattle.ak_run.specs.declared.run.Run.{Run}
use Rattle.ak_run.specs.declared.slots.Slots.{Slots}
use Rattle.ak_looper.specs.Counting.{started_by_main}
use Rattle.ak_looper.specs.NoHead.{HasNoNames}
use Rattle.ak_gather.specs.Gathering.{HasRoomFor, HoldsNothing}
use Rattle.ak_team.specs.Jobs.{CanStart, IsJobOf, facts_in, IsLaunchOf}
use Rattle.ak_looper.specs.Starts.{StartsAt}
use Rattle.ak_gather.specs.Members.{IsLifeOf, member_desk_front, IsMember}
use Rattle.ak_run.specs.Members.{StillLeads}
use Rattle.ak_team.specs.NewLooper.{IsNewLooper}
use Rattle.ak_gather.specs.Below.{AreBelow, IsBelow}
use Rattle.ak_run.specs.Running.{IsOpenedAs, KeepsRest, Stands}
use Rattle.ak_run.specs.Sessions.{session_count, session_limit, told_in}
use Rattle.ak_run.specs.Starting.{GoesOnAtNew, GoesOnWith, HasSplit, MayStart}
use Rattle.ak_run.proofs.GoingOn.{desks_then, push_desks, same_desks}
use Rattle.ak_gather.proofs.Surface.{some_same}
use Rattle.ak_team.proofs.Surface.{by_others, nothing_by_new}
use Rattle.ak_run.proofs.Standing.{leads_still, member_sees, slots_still}

-- ---- names
pub new_name : (sessions number : ℕ) (names : Option (List ℕ)) → sessions ≤ session_limit → AreBelow sessions number names → IsNewName names (looper_thread number)
new_name sessions number None few below = absurd below
new_name sessions number (Some ns) few below = λ i d lt same.
    ⊎_elim (λ main. omega (arith, main, same)) (λ rest. ⊎_elim (λ session. omega (arith, session.1, few, same)) (λ looper. omega (arith, looper.1, looper.2, same)) rest) (below i d lt)

names_on : (sessions number : ℕ) (names : Option (List ℕ)) → AreBelow sessions number names → AreBelow sessions (number + 1) (names_with names (looper_thread number))
names_on sessions number None below = absurd below
names_on sessions number (Some ns) below =
    All-push (IsBelow sessions (number + 1)) ns (looper_thread number)
    (All-weaker (IsBelow sessions number) (IsBelow sessions (number + 1))
    (λ name is. ⊎_elim (λ main. inl main) (λ rest. inr (⊎_elim (λ session. inl session) (λ looper. inr (looper.0, omega (arith, looper.1), looper.2)) rest)) is) ns below)
    (inr (inr (number, omega arith, refl)))

-- and a session's
pub new_session : (sessions number : ℕ) (names : Option (List ℕ)) → sessions < session_limit → AreBelow sessions number names → IsNewName names (sessions + 1)
new_session sessions number None few below = absurd below
new_session sessions number (Some ns) few below = λ i d lt same.
    ⊎_elim (λ main. omega (arith, main, same)) (λ rest. ⊎_elim (λ session. omega (arith, session.1, same)) (λ looper. omega (arith, looper.2, few, same)) rest) (below i d lt)

pub session_on : (sessions number : ℕ) (names : Option (List ℕ)) → AreBelow sessions number names → AreBelow (sessions + 1) number (names_with names (sessions + 1))
session_on sessions number None below = absurd below
session_on sessions number (Some ns) below =
    All-push (IsBelow (sessions + 1) number) ns (sessions + 1)
    (All-weaker (IsBelow sessions number) (IsBelow (sessions + 1) number)
    (λ name is. ⊎_elim (λ main. inl main) (λ rest. inr (⊎_elim (λ session. inl (session.0, omega (arith, session.1))) (λ looper. inr looper) rest)) is) ns below)
    (inr (inl (omega arith, omega arith)))

-- ---- numbers in order
range_next : (a n : ℕ) → range_with_len a (suc n) ≡ range_with_len a n ++ (a + n) ∷ []
range_next a zero = ap (λ m. m ∷ []) (plus_nothing a)
  where
    plus_nothing : (m : ℕ) → m ≡ m + 0
    plus_nothing m = omega arith
range_next a (suc n) = ap (λ l. a ∷ l) (range_next (a + 1) n ∙ ap (λ m. range_with_len (a + 1) n ++ m ∷ []) (shift a n))
  where
    shift : (b m : ℕ) → (b + 1) + m ≡ b + suc m
    shift b m = omega arith

range_more : (n : ℕ) → range_with_len 0 (n + 1) ≡ range_with_len 0 n ++ n ∷ []
range_more n = ap (range_with_len 0) (one_more n) ∙ range_next 0 n ∙ ap (λ m. range_with_len 0 n ++ m ∷ []) (from_nothing n)
  where
    from_nothing : (m : ℕ) → 0 + m ≡ m
    from_nothing m = omega arith

    one_more : (m : ℕ) → m + 1 ≡ suc m
    one_more m = omega arith

-- ---- what the new seats know
pub roster_nothing : (seat : RosterSeat) (thread : ℕ) → KnowsWhole rosters.by_number seat → IsNewName seat.names thread → noted maker_of thread (plain_entries seat.front) ≡ []
roster_nothing seat thread known new =
    let others : AreByOthers rosters.by_number thread seat.front = by_others rosters.by_number seat.names thread seat.front known.names new in
    noted-others maker_of thread [] (plain_entries seat.front) (All-map (λ (entry : RosterEntry). entry.by.0 ≢ thread) (λ (entry : EntryWithObjects Object). entry.plain) seat.front others)

module _ (heads : List AppHead) (plans : List PlanParts) (k : ℕ) (t : Team) (n : NewLooper) (ways : List (ℕ × Door)) (r : Run) (m : MayStart heads plans k t n ways r) where
  abbrev count : ℕ
  count = length r.members.items

  number_is : n.number ≡ count
  number_is = m.new.number ∙ m.next

  abbrev thread : ℕ
  thread = looper_thread n.number

  pub roster_new : IsNewName r.roster_seat.names thread
  roster_new = subst (λ x. IsNewName r.roster_seat.names (looper_thread x)) (sym number_is) (new_name (session_count r) count r.roster_seat.names m.stands.sessions.few m.stands.roster_names)

  pub book_new : IsNewName r.hands.book_seat.names thread
  book_new = subst (λ x. IsNewName r.hands.book_seat.names (looper_thread x)) (sym number_is) (new_name (session_count r) count r.hands.book_seat.names m.stands.sessions.few m.stands.book_names)

  abbrev book_seat : ReplySeat
  book_seat = new_seat thread None r.hands.book_seat

  abbrev roster_seat : RosterSeat
  roster_seat = new_seat thread None r.roster_seat

  itself : IsNewLooper plans t.number t.first n.shared k n
  itself = record {
    number = m.new.number;
    within = m.new.within;
    plan = m.new.plan;
    described = m.new.described;
    shared_is = record { book = refl; roster = refl };
    by_main = m.new.by_main;
    port_is = m.new.port_is;
    desk_is = m.new.desk_is;
    new = m.new.new;
    taker = m.new.taker;
    taker_is = m.new.taker_is;
    takes = m.new.takes;
    queue = m.new.queue;
    desk = m.new.desk;
    opening_is = m.new.opening_is;
    opens = m.new.opens;
    port_opening = m.new.port_opening;
    desk_opening = m.new.desk_opening;
    desk_front = m.new.desk_front;
    no_head = m.new.no_head;
    own_no_head = m.new.own_no_head;
  }

  ready_seats : CanStart heads plans k t n ways book_seat roster_seat
  ready_seats = record {
    new = itself;
    count = m.loopers;
    within = m.within;
    at_book = record { idle = refl; thread_is = refl };
    book_of = r.hands.of ∙ r.book ∙ sym m.new.shared_is.book;
    book_nothing = nothing_by_new books.maker_of r.hands.book_seat thread m.stands.book_known book_new;
    at_roster = record { idle = refl; thread_is = refl };
    roster_of = r.roster_of ∙ sym m.new.shared_is.roster;
    roster_nothing = roster_nothing r.roster_seat thread m.stands.roster_known roster_new;
    heads_are = m.stands.opening;
    launched = m.launched;
    ways_are = λ desk. let w = m.ways_are desk in record { numbers = w.numbers; new = w.new; lead = w.lead };
  }

  pub can_start : (book : ReplySeat) (roster : RosterSeat) → book ≡ book_seat → roster ≡ roster_seat → CanStart heads plans k t n ways book roster
  can_start book roster book_is roster_is = subst (λ b. CanStart heads plans k t n ways b roster) (sym book_is) (subst (CanStart heads plans k t n ways book_seat) (sym roster_is) ready_seats)

  -- main's seats were split, and nothing else changed
  module _ (s : Run) (split : HasSplit thread r s) where
    front_same : s.roster_seat.front ≡ r.roster_seat.front
    front_same = ap (λ (x : RosterSeat). x.front) split.roster_seat

    on : StartsWith s.roster_seat.front r.roster_seat.front
    on = ([], front_same ∙ sym (append-nil r.roster_seat.front))

    pub stands_split : Stands (count + 1) heads s
    stands_split = record {
      whole = subst (λ v. All IsWholeApp v.items) (sym split.rest.apps) m.stands.whole;
      heads_are = m.stands.heads_are ∙ ap (λ v. heads_of v.items) (sym split.rest.apps);
      opening = ap (λ (x : RosterSeat). x.opening) split.roster_seat ∙ m.stands.opening;
      roster_known = split.roster_known m.stands.roster_known;
      roster_names = subst (λ (z : Slots). AreBelow (length (told_in z)) (count + 1) s.roster_seat.names) (sym split.rest.slots)
          (subst (AreBelow (session_count r) (count + 1)) (sym (ap (λ (x : RosterSeat). x.names) split.roster_seat)) (subst (λ x. AreBelow (session_count r) (count + 1) (names_with r.roster_seat.names (looper_thread x))) (sym number_is) (names_on (session_count r) count r.roster_seat.names m.stands.roster_names)));
      book_known = split.book_known m.stands.book_known;
      book_names = subst (λ (z : Slots). AreBelow (length (told_in z)) (count + 1) s.hands.book_seat.names) (sym split.rest.slots)
          (subst (AreBelow (session_count r) (count + 1)) (sym (ap (λ (x : ReplySeat). x.names) split.book_seat)) (subst (λ x. AreBelow (session_count r) (count + 1) (names_with r.hands.book_seat.names (looper_thread x))) (sym number_is) (names_on (session_count r) count r.hands.book_seat.names m.stands.book_names)));
      numbers = subst (λ v. map (λ (x : Member). x.number) v.items ≡ range_with_len 0 (length v.items)) (sym split.members) m.stands.numbers;
      each = subst (λ v. All (IsMember heads s.shared s.roster_seat) v.items) (sym split.members) (subst (λ h. All (IsMember heads h s.roster_seat) r.members.items) (sym split.rest.shared)
          (All-weaker (IsMember heads r.shared r.roster_seat) (IsMember heads r.shared s.roster_seat) (member_sees heads r.shared r.roster_seat s.roster_seat on) r.members.items m.stands.each));
      opened = subst (λ v. All (IsOpenedAs s.apps.items) v.items) (sym split.members) (subst (λ v. All (IsOpenedAs v.items) r.members.items) (sym split.rest.apps) m.stands.opened);
      few = subst (λ v. length v.items ≤ looper_limit) (sym split.members) m.stands.few;
      room = subst (λ v. looper_limit ≤ vec_capacity v) (sym split.members) m.stands.room;
      ready = record {
        joined = subst HoldsNothing (sym split.rest.joined) m.stands.ready.joined;
        ports = ap (λ v. v.items) split.rest.ports ∙ m.stands.ready.ports;
        desks = ap (λ v. v.items) split.rest.desks ∙ m.stands.ready.desks;
        for_joined = subst (HasRoomFor looper_limit) (sym split.rest.joined) m.stands.ready.for_joined;
        for_ports = subst (λ v. looper_limit ≤ vec_capacity v) (sym split.rest.ports) m.stands.ready.for_ports;
        for_desks = subst (λ v. looper_limit ≤ vec_capacity v) (sym split.rest.desks) m.stands.ready.for_desks;
      };
      sessions = slots_still heads r s split.rest m.stands.sessions;
    }

    -- there is room for it, however the run went on
    pub room_there : (u : Run) → GoesOnAtNew s u → length u.members.items < vec_capacity u.members
    room_there u goes =
        let stood = goes.stands (count + 1) heads stands_split in
        let same : length u.members.items ≡ count = goes.count ∙ ap (λ w. length w.items) split.members in
        omega (arith, same, stood.room, m.new.within, m.next)

    -- the loopers of its team that started before it are there
    pub first_there : t.first ≤ length s.members.items
    first_there = omega (arith, m.next, ap (λ w. length w.items) split.members)

    -- then the run went on, and the looper was put behind the others
    module _ (u : Run) (goes : GoesOnAtNew s u) (v : Run) (kept : KeepsRest u v) (v_hands : v.hands ≡ u.hands) (v_roster : v.roster_seat ≡ u.roster_seat)
        (x : Member) (v_items : v.members.items ≡ u.members.items ++ x ∷ []) (v_room : vec_capacity v.members ≡ vec_capacity u.members)
        (door : Door) (job : LooperJob) (book : ReplySeat) (roster : RosterSeat) (book_so : book ≡ book_seat) (roster_so : roster ≡ roster_seat)
        (job_is : IsJobOf t n book roster job) (ready : IsReady job) (leads : StillLeads n.door door) (x_number : x.number ≡ n.number) (x_door : x.door ≡ door) (x_job : x.job.value ≡ job) (life : IsLifeOf job x.life) where
      stood : Stands (count + 1) heads u
      stood = goes.stands (count + 1) heads stands_split

      own_is : x.job.value.own ≡ n.own
      own_is = ap (λ (j : LooperJob). j.own) x_job ∙ job_is.own

      -- main's door to it leads to what the roster pairs with it
      leads_there : LeadsTo u.roster_seat x.number x.door.port_seat.lock x.door.desk_seat.lock
      leads_there =
          let port : arc_value n.door.port ≡ x.door.port_seat.lock = sym n.door.port_of ∙ sym leads.port_kept.lock ∙ ap (λ (d : Door). d.port_seat.lock) (sym x_door) in
          let desk : arc_value n.door.desk ≡ x.door.desk_seat.lock = sym n.door.desk_of ∙ ap (λ s. s.lock) (sym leads.desk_seat) ∙ ap (λ (d : Door). d.desk_seat.lock) (sym x_door) in
          subst (λ number. LeadsTo u.roster_seat number x.door.port_seat.lock x.door.desk_seat.lock) (sym x_number)
          (subst (λ lock. LeadsTo u.roster_seat n.number x.door.port_seat.lock lock) desk
          (subst (λ lock. LeadsTo u.roster_seat n.number lock (arc_value n.door.desk)) port
          (leads_still n.number (arc_value n.door.port) (arc_value n.door.desk) r.roster_seat u.roster_seat (starts_then_starts r.roster_seat.front s.roster_seat.front u.roster_seat.front on goes.on) m.paired)))

      -- its time begins at the launch of its team, which the job has seen
      begins_there : (desk : DeskState) → Any (StartsAt (facts_of job heads desk) job.hands.clock.time) job.roster_seat.front
      begins_there desk =
          let facts : facts_in heads t n.number desk ≡ facts_of job heads desk = cc (job_is.number, job_is.team, job_is.first, job_is.loopers) in
          let front : r.roster_seat.front ≡ job.roster_seat.front = sym (ap (λ (y : RosterSeat). y.front) (job_is.roster_seat ∙ roster_so)) in
          subst (λ (time : ℕ). Any (StartsAt (facts_of job heads desk) time) job.roster_seat.front) (sym job_is.time)
          (subst (λ (l : List (EntryWithObjects Object)). Any (StartsAt (facts_of job heads desk) t.time) l) front (subst (λ (f : LooperFacts). Any (StartsAt f t.time) r.roster_seat.front) facts (m.launched desk)))

      new_member : IsMember heads u.shared u.roster_seat x
      new_member = record {
        number = ap (λ (j : LooperJob). j.number) x_job ∙ job_is.number ∙ sym x_number;
        ready = subst IsReady (sym x_job) ready;
        at_port = ap (λ (d : Door). d.port_seat.lock) own_is ∙ n.own.port_of ∙ m.new.port_is ∙ sym n.door.port_of ∙ sym leads.port_kept.lock ∙ ap (λ (d : Door). d.port_seat.lock) (sym x_door);
        at_desk = ap (λ (d : Door). d.desk_seat.lock) own_is ∙ n.own.desk_of ∙ m.new.desk_is ∙ sym n.door.desk_of ∙ ap (λ s. s.lock) (sym leads.desk_seat) ∙ ap (λ (d : Door). d.desk_seat.lock) (sym x_door);
        leads = leads_there;
        no_head = record {
          at_port = ap (λ (d : Door). d.port_seat.names) x_door ∙ leads.port_kept.names ∙ m.new.no_head.at_port;
          at_desk = ap (λ (d : Door). d.desk_seat.names) x_door ∙ ap (λ (s : DeskSeat). s.names) leads.desk_seat ∙ m.new.no_head.at_desk;
        };
        own_no_head = subst HasNoNames (sym own_is) m.new.own_no_head;
        at_book = ap (λ (j : LooperJob). j.hands.book_seat.lock) x_job ∙ ap (λ (b : ReplySeat). b.lock) (job_is.book_seat ∙ book_so) ∙ r.hands.of ∙ r.book ∙ ap (λ (h : Shared). arc_value h.book) (sym split.rest.shared ∙ sym goes.shared);
        at_roster = ap (λ (j : LooperJob). j.roster_seat.lock) x_job ∙ ap (λ (b : RosterSeat). b.lock) (job_is.roster_seat ∙ roster_so) ∙ r.roster_of ∙ ap (λ (h : Shared). arc_value h.roster) (sym split.rest.shared ∙ sym goes.shared);
        heads_are = ap (λ (j : LooperJob). j.roster_seat.opening) x_job ∙ ap (λ (b : RosterSeat). b.opening) (job_is.roster_seat ∙ roster_so) ∙ m.stands.opening;
        seen = subst (StartsWith u.roster_seat.front) (sym (ap (λ (j : LooperJob). j.roster_seat.front) x_job ∙ ap (λ (b : RosterSeat). b.front) (job_is.roster_seat ∙ roster_so)))
            (starts_then_starts r.roster_seat.front s.roster_seat.front u.roster_seat.front on goes.on);
        begins = subst (λ (j : LooperJob). (desk : DeskState) → Any (StartsAt (facts_of j heads desk) j.hands.clock.time) j.roster_seat.front) (sym x_job) (λ desk. begins_there desk);
        by_main = ap (λ (d : Door). d.port_seat.thread) x_door ∙ leads.port_kept.thread ∙ m.new.by_main;
        taker = m.new.taker;
        taker_is = m.new.taker_is ∙ ap looper_thread (sym m.new.number ∙ sym x_number);
        port_opening = ap (λ (d : Door). d.port_seat.opening) x_door ∙ leads.port_kept.opening ∙ m.new.port_opening;
        desk = m.new.desk;
        desk_opening = ap (λ (d : Door). d.desk_seat.opening) x_door ∙ ap (λ s. s.opening) leads.desk_seat ∙ m.new.desk_opening;
        job_desk = ap (λ (d : Door). d.desk_seat.opening) own_is ∙ m.new.opening_is;
        life = subst (λ (j : LooperJob). IsLifeOf j x.life) (sym x_job) life;
      }

      new_opened : IsOpenedAs u.apps.items x
      unfolding new_member
      new_opened =
          let d = m.described in
          let app = d.described.app in
          let apps_same = goes.apps ∙ split.rest.apps in
          record {
            desk = m.new.desk;
            desk_is = new_member.job_desk;
            opens = record {
              description = d.description;
              launched = subst (λ team. Any (IsLaunchOf d.description team x.job.value.first) (plain_of x.job.value.roster_seat)) (sym team_is)
                  (subst (λ f. Any (IsLaunchOf d.description t.number f) (plain_of x.job.value.roster_seat)) (sym first_is)
                  (subst (Any (IsLaunchOf d.description t.number t.first)) (sym entries_are) d.launched));
              app = app;
              there = subst (λ w. slice_get w.items d.description ≡ Some app) (sym apps_same) d.described.there;
              place = k;
              number_is = x_number ∙ m.new.number ∙ ap (λ f. f + k) (sym first_is);
              plan = m.new.plan;
              plan_is = subst (λ ps. slice_get ps k ≡ Some m.new.plan) d.described.plans_are m.new.described;
              opens = subst (λ number. Opens m.new.plan number x.job.value.team x.job.value.first (looper_names app) m.new.desk) (sym m.new.number ∙ sym x_number)
                  (subst (λ team. Opens m.new.plan (t.first + k) team x.job.value.first (looper_names app) m.new.desk) (sym team_is)
                  (subst (λ f. Opens m.new.plan (t.first + k) t.number f (looper_names app) m.new.desk) (sym first_is)
                  (subst (λ ps. Opens m.new.plan (t.first + k) t.number t.first (names_in ps) m.new.desk) d.described.plans_are m.new.opens)));
            };
          }
        where
          first_is : x.job.value.first ≡ t.first
          first_is = ap (λ (j : LooperJob). j.first) x_job ∙ job_is.first

          team_is : x.job.value.team ≡ t.number
          team_is = ap (λ (j : LooperJob). j.team) x_job ∙ job_is.team

          entries_are : plain_of x.job.value.roster_seat ≡ plain_of r.roster_seat
          entries_are = ap (λ (j : LooperJob). plain_of j.roster_seat) x_job ∙ ap (λ (s : RosterSeat). plain_of s) (job_is.roster_seat ∙ roster_so)

      count_u : length u.members.items ≡ count
      count_u = goes.count ∙ ap (λ w. length w.items) split.members

      count_v : length v.members.items ≡ count + 1
      count_v = ap length v_items ∙ length-append u.members.items (x ∷ []) ∙ ap (λ c. c + 1) count_u

      stands_now : Stands (length v.members.items) heads v
      stands_now = record {
        whole = subst (λ w. All IsWholeApp w.items) (sym kept.apps) stood.whole;
        heads_are = stood.heads_are ∙ ap (λ w. heads_of w.items) (sym kept.apps);
        opening = ap (λ (y : RosterSeat). y.opening) v_roster ∙ stood.opening;
        roster_known = subst (KnowsWhole rosters.by_number) (sym v_roster) stood.roster_known;
        roster_names = subst (λ c. AreBelow (session_count v) c v.roster_seat.names) (sym count_v)
            (subst (λ (z : Slots). AreBelow (length (told_in z)) (count + 1) v.roster_seat.names) (sym kept.slots) (subst (λ (y : RosterSeat). AreBelow (session_count u) (count + 1) y.names) (sym v_roster) stood.roster_names));
        book_known = subst (λ h. KnowsWhole books.maker_of h.book_seat) (sym v_hands) stood.book_known;
        book_names = subst (λ c. AreBelow (session_count v) c v.hands.book_seat.names) (sym count_v)
            (subst (λ (z : Slots). AreBelow (length (told_in z)) (count + 1) v.hands.book_seat.names) (sym kept.slots) (subst (λ h. AreBelow (session_count u) (count + 1) h.book_seat.names) (sym v_hands) stood.book_names));
        numbers = ap (map (λ (y : Member). y.number)) v_items ∙ map-append (λ (y : Member). y.number) u.members.items (x ∷ []) ∙ numbers_on u.members.items x (length v.members.items) stood.numbers (x_number ∙ number_is ∙ sym count_u) (count_v ∙ ap (λ c. c + 1) (sym count_u));
        each = subst (All (IsMember heads v.shared v.roster_seat)) (sym v_items) (subst (λ h. All (IsMember heads h v.roster_seat) (u.members.items ++ x ∷ [])) (sym kept.shared)
            (subst (λ y. All (IsMember heads u.shared y) (u.members.items ++ x ∷ [])) (sym v_roster) (All-push (IsMember heads u.shared u.roster_seat) u.members.items x stood.each new_member)));
        opened = subst (All (IsOpenedAs v.apps.items)) (sym v_items) (subst (λ w. All (IsOpenedAs w.items) (u.members.items ++ x ∷ [])) (sym kept.apps) (All-push (IsOpenedAs u.apps.items) u.members.items x stood.opened new_opened));
        few = omega (arith, count_v, m.new.within, m.next);
        room = subst (λ c. looper_limit ≤ c) (sym v_room) stood.room;
        ready = record {
          joined = subst HoldsNothing (sym kept.joined) stood.ready.joined;
          ports = ap (λ w. w.items) kept.ports ∙ stood.ready.ports;
          desks = ap (λ w. w.items) kept.desks ∙ stood.ready.desks;
          for_joined = subst (HasRoomFor looper_limit) (sym kept.joined) stood.ready.for_joined;
          for_ports = subst (λ w. looper_limit ≤ vec_capacity w) (sym kept.ports) stood.ready.for_ports;
          for_desks = subst (λ w. looper_limit ≤ vec_capacity w) (sym kept.desks) stood.ready.for_desks;
        };
        sessions = slots_still heads u v kept stood.sessions;
      }
        where
          numbers_on : (xs : List Member) (y : Member) (total : ℕ) → map (λ (z : Member). z.number) xs ≡ range_with_len 0 (length xs) → y.number ≡ length xs → total ≡ length xs + 1 → map (λ (z : Member). z.number) xs ++ y.number ∷ [] ≡ range_with_len 0 total
          numbers_on xs y total are number all = ap (λ l. l ++ y.number ∷ []) are ∙ ap (λ c. range_with_len 0 (length xs) ++ c ∷ []) number ∙ sym (range_more (length xs)) ∙ ap (range_with_len 0) (sym all)

      -- nothing was done at its desk
      untouched : member_desk_front x ≡ []
      untouched = ap (λ (d : Door). d.desk_seat.front) x_door ∙ ap (λ (s : DeskSeat). s.front) leads.desk_seat ∙ m.new.desk_front

      pub goes_with : GoesOnWith 1 r v
      goes_with = record {
        stands = λ other k. subst (λ h. Stands (length v.members.items) h v) (some_same heads other (sym m.stands.opening ∙ k.opening)) stands_now;
        started = λ other k. ap (started_by_main other) v_roster ∙ goes.started (count + 1) other (subst (λ h. Stands (count + 1) h s) (some_same heads other (sym m.stands.opening ∙ k.opening)) stands_split) ∙ ap (started_by_main other) split.roster_seat;
        count = count_v;
        on = subst (λ (y : RosterSeat). StartsWith y.front r.roster_seat.front) (sym v_roster) (starts_then_starts r.roster_seat.front s.roster_seat.front u.roster_seat.front on goes.on);
        apps = kept.apps ∙ goes.apps ∙ split.rest.apps;
        shared = kept.shared ∙ goes.shared ∙ split.rest.shared;
        slots = kept.slots ∙ goes.slots ∙ split.rest.slots;
        desks_on = desks_then r s v (same_desks r s split.members) (desks_then s u v goes.desks_on (push_desks u v x v_items untouched));
      }
