-- Main ends a team of which a looper got no thread.
use Rattle.std.proofs.Common.{◌≡◌, ◌<◌, ◌+◌, ℕ, Bool, true, false, List, [], ◌∷◌, ◌++◌, length, map, Option, None, Some, refl, sym, ap, ◌∙◌, subst, append_assoc, append-nil, inl, inr, arith}
use Rattle.std.specs.Prelude.{IsFalse, IsTrue, get_or, set}
use Rattle.std.specs.List.{find, list_any, range_with_len}
use Rattle.ak_base.specs.Thread.{main_thread}
use Rattle.ak_turn.specs.Entries.{StartsWith}
use Rattle.ak_turn.specs.Noted.{note}
use Rattle.ak_turn.specs.Seats.{IsGiven, KnowsWhole, at_leisure, entered_by}
use Rattle.ak_turn.proofs.Surface.{starts_then_starts}
use Rattle.ak_roster.specs.Machine.{runs_team, state_of}
use Rattle.ak_roster.specs.Roster.{plain_entries, state}
use Rattle.ak_roster.specs.declared.entry.EntryWithObjects.{EntryWithObjects}
use Rattle.ak_roster.specs.declared.entry.RosterEntry.{RosterEntry}
use Rattle.ak_roster.specs.declared.entry.RosterEvent.{RosterEvent}
use Rattle.ak_roster.specs.declared.entry.RosterEvent.TheVariants as event
use Rattle.ak_roster.specs.declared.head.AppHead.{AppHead}
use Rattle.ak_roster.specs.declared.team.Running.{Running}
use Rattle.ak_port.specs.declared.port_entry.PortEntry.{PortEntry}
use Rattle.ak_describe.specs.Whole.{heads_of}
use Rattle.ak_describe.specs.declared.described.AppText.{AppText}
use Rattle.ak_diary.specs.Step.{Step, at_roster, saw_roster}
use Rattle.ak_diary.specs.Turns.{Shuts, ShutsAll}
use Rattle.ak_looper.specs.Rosters.{Object, RosterSeat, by_number, plain_of}
use Rattle.ak_looper.specs.declared.door.Door.{Door}
use Rattle.ak_team.specs.declared.launching.Team.{Team}
use Rattle.ak_gather.specs.declared.member.Member.{Member}
use Rattle.ak_team.specs.declared.new_looper.NewLooper.{NewLooper}
use Rattle.ak_team.specs.declared.new_team.NewTeam.{NewTeam}
use Rattle.ak_run.specs.declared.run.Run.{Run}
use Rattle.ak_team.specs.Launching.{Book, HasEntered, IsTurnInTime, turn_step}
use Rattle.ak_run.specs.Recording.{Fronts, GoesBy, RecordsAtNew, RecordsBesideSo, RecordsSo, RecordsStart, fronts, fronts_with}
use Rattle.ak_gather.specs.Members.{member_front}
use Rattle.ak_team.specs.InTime.{new_front, team_fronts}
use Rattle.ak_run.specs.Running.{IsStanding}
use Rattle.ak_run.specs.Starting.{GoesOnWith, IsStarting}
use Rattle.ak_run.specs.Stopping.{HasOf, LeavesOrSees, Stops, StopsAtNew, StopsSince, StopsStart, StopsTeam}
use Rattle.ak_run.proofs.Acting.{ActsAtBoth}
use Rattle.ak_run.proofs.Acts.{records_so_as, records_so_then, sees_roster}
use Rattle.ak_team.proofs.Surface.{gone_event}
use Rattle.ak_run.proofs.GoingOn.{plain_on}
use Rattle.ak_gather.proofs.Surface.{some_same}
use Rattle.ak_run.proofs.Recorded.{call_goes, no_event, one_event, start_acts, turn_goes}
use Rattle.ak_run.proofs.RosterTurn.{sees_all}
use Rattle.ak_run.proofs.TeamEnds.{any_found, range_push, shuts_push}

-- ---- steps
-- one port more
pub stops_push : (heads : List AppHead) (before : List RosterEntry) (team first loopers next : ℕ) (xs ys : List Step) → first + loopers ≡ next → StopsTeam heads before team first loopers xs → Shuts next ys → StopsTeam heads before team first (loopers + 1) (xs ++ ys)
stops_push heads before team first loopers next xs ys is stops one =
    let shut = stops.shut in
    record {
      gone = stops.gone;
      leaves = stops.leaves;
      shut = shut ++ ys;
      shuts = subst (λ (ports : List ℕ). ShutsAll ports (shut ++ ys)) (sym (range_push first loopers)) (shuts_push (range_with_len first loopers) (first + loopers) shut ys stops.shuts (subst (λ (n : ℕ). Shuts n ys) (sym is) one));
      is = ap (λ (l : List Step). l ++ ys) stops.is ∙ append_assoc stops.gone shut ys;
    }

-- gone, and those ports are shut
pub stops_so : (heads : List AppHead) (before : List RosterEntry) (team first loopers more : ℕ) (xs ys : List Step) → loopers ≡ more → LeavesOrSees heads before team xs → ShutsAll (range_with_len first loopers) ys → StopsTeam heads before team first more (xs ++ ys)
stops_so heads before team first loopers more xs ys is leaves shuts = record { gone = xs; leaves = leaves; shut = ys; shuts = subst (λ (n : ℕ). ShutsAll (range_with_len first n) ys) is shuts; is = refl }

-- what was seen behind more was seen behind less
sees_earlier : (heads : List AppHead) (before less : List RosterEntry) (team : ℕ) (steps : List Step) → StartsWith before less → LeavesOrSees heads before team steps → LeavesOrSees heads less team steps
sees_earlier heads before less team steps on (inl enters) = inl enters
sees_earlier heads before less team steps on (inr sees) = inr (record { seen = sees.seen; on = starts_then_starts less before sees.seen on sees.on; gone = sees.gone; is = sees.is })

pub stops_earlier : (t : Team) (r s : Run) (loopers : ℕ) (steps : List Step) → s.apps ≡ r.apps → StartsWith s.roster_seat.front r.roster_seat.front → Stops t s loopers steps → Stops t r loopers steps
stops_earlier t r s loopers steps apps on stops =
    let seen = plain_of s.roster_seat in
    let leaves : LeavesOrSees (heads_of r.apps.items) seen t.number stops.gone = subst (λ (apps : _). LeavesOrSees (heads_of apps.items) seen t.number stops.gone) apps stops.leaves in
    record {
      gone = stops.gone;
      leaves = sees_earlier (heads_of r.apps.items) seen (plain_of r.roster_seat) t.number stops.gone (plain_on r.roster_seat s.roster_seat on) leaves;
      shut = stops.shut;
      shuts = stops.shuts;
      is = stops.is;
    }

-- behind the launch of the team, as the applications and the loopers are described
pub stops_launched : (t : Team) (r : Run) (apps : List AppText) (before : List RosterEntry) (entry : RosterEntry) (loopers : ℕ) (steps : List Step) → heads_of r.apps.items ≡ heads_of apps → plain_of r.roster_seat ≡ before ++ entry ∷ [] → loopers ≡ t.loopers
    → Stops t r t.loopers steps → StopsTeam (heads_of apps) (before ++ entry ∷ []) t.number t.first loopers steps
stops_launched t r apps before entry loopers steps heads last count stops =
    subst (λ (hs : List AppHead). StopsTeam hs (before ++ entry ∷ []) t.number t.first loopers steps) heads
    (subst (λ (seen : List RosterEntry). StopsTeam (heads_of r.apps.items) seen t.number t.first loopers steps) last (subst (λ (n : ℕ). Stops t r n steps) (sym count) stops))

-- ---- a port is shut
module _ (r r' : Run) (place : ℕ) (m : Member) (door : Door) (within : place < length r.members.items) (here : get_or r.members.items place m ≡ m) (is : r'.members.items ≡ set r.members.items place (record m { door = door })) (roster : r'.roster_seat ≡ r.roster_seat) where
  pub shut_beside : ActsAtBoth place r.hands.clock.time r'.hands.clock.time (Shuts place) r.hands.book_seat.front r'.hands.book_seat.front m.door.port_seat.front door.port_seat.front → RecordsBesideSo (Shuts place) r r'
  shut_beside acts = record { beside = λ new. record { steps = acts.steps; so = acts.so; goes = call_goes r r' place m door within here is acts.steps roster acts.acts acts.goes new; no_edits = acts.goes.no_edits } }

-- ---- in main's turn at the roster
module _ (r r' : Run) (standing : IsStanding r) (members : r'.members ≡ r.members) (replies : r'.hands.book_seat.front ≡ r.hands.book_seat.front) (given : RosterSeat) (book book' : Book) (opening : r.roster_seat.opening ≡ Some book.heads)
    (seen : IsGiven by_number r.roster_seat given) (known : KnowsWhole by_number given) (list : book.entries ≡ given.front) (same : book'.entries ≡ given.front → r'.roster_seat ≡ at_leisure given)
    (one : (x : EntryWithObjects Object) → book'.entries ≡ given.front ++ x ∷ [] → r'.roster_seat ≡ at_leisure (entered_by given x)) (knows : KnowsWhole by_number given → KnowsWhole by_number r'.roster_seat)
    (in_time : IsTurnInTime r.hands.clock.time r'.hands.clock.time book book') (team : ℕ) where
  thread : r.roster_seat.thread ≡ main_thread
  thread = r.roster_thread ∙ r.main

  heads : book.heads ≡ heads_of r.apps.items
  heads = some_same book.heads standing.heads (sym opening ∙ standing.stands.opening) ∙ standing.stands.heads_are

  turn : (what : Option RosterEvent) (entered : HasEntered what 0 book book') (new : List (List PortEntry)) → GoesBy (map (turn_step book.entries) entered.added) (fronts_with r new) (fronts_with r' new)
  turn what entered new =
      let ports = map member_front r.members.items ++ new in
      let later = r'.hands.clock.time in
      subst (GoesBy (map (turn_step book.entries) entered.added) (fronts_with r new))
      (sym (ap (λ l. fronts later (plain_of r'.roster_seat) l (map member_front r'.members.items ++ new)) replies ∙ ap (λ v. fronts later (plain_of r'.roster_seat) r.hands.book_seat.front (map member_front v.items ++ new)) members))
      (turn_goes r.roster_seat given r'.roster_seat book book' 0 r.roster_idle thread seen known list what entered same one knows r.hands.clock.time later in_time r.hands.book_seat.front ports)

  abbrev Leaves : Type 0
  Leaves = RecordsBesideSo (LeavesOrSees (heads_of r.apps.items) (plain_of r.roster_seat) team) r r'

  enters_gone : (running : Running) → find (runs_team team) (state book).running ≡ Some running → HasEntered (Some (event.Gone team)) 0 book book' → Leaves
  enters_gone running ran entered =
      let x = one_event (event.Gone team) entered.added entered.events in
      let before = plain_entries book.entries in
      let n = note before x.0.plain in
      record {
        beside = λ new. record {
          steps = at_roster n ∷ [];
          so = inl (running, record { noted = n; event_is = x.2; runs = ap (λ (hs : List AppHead). find (runs_team team) (state_of hs before).running) (sym heads) ∙ ran; is = refl });
          goes = subst (λ (l : List (EntryWithObjects Object)). GoesBy (map (turn_step book.entries) l) (fronts_with r new) (fronts_with r' new)) x.1 (turn (Some (event.Gone team)) entered new);
          no_edits = λ looper. refl;
        };
      }

  sees_gone : find (runs_team team) (state book).running ≡ None → HasEntered None 0 book book' → Leaves
  sees_gone gone entered =
      let none = no_event entered.added entered.events in
      let whole = sees_all r.roster_seat given r'.roster_seat book book' 0 r.roster_idle thread seen known list None entered same one knows in
      let all = plain_of r'.roster_seat in
      let all_is : all ≡ plain_entries book.entries = ap (λ (l : List (EntryWithObjects Object)). plain_entries l) (whole ∙ entered.entries ∙ ap (λ l. book.entries ++ l) none ∙ append-nil book.entries) in
      record {
        beside = λ new.
            let quiet : GoesBy [] (fronts_with r new) (fronts_with r' new) = subst (λ (l : List (EntryWithObjects Object)). GoesBy (map (turn_step book.entries) l) (fronts_with r new) (fronts_with r' new)) none (turn None entered new) in
            record {
              steps = saw_roster all ∷ [];
              so = inr (record {
                seen = all;
                on = quiet.roster_on;
                gone = ap (λ (l : List RosterEntry). find (runs_team team) (state_of (heads_of r.apps.items) l).running) all_is ∙ ap (λ (hs : List AppHead). find (runs_team team) (state_of hs (plain_entries book.entries)).running) (sym heads) ∙ gone;
                is = refl;
              });
              goes = sees_roster team (fronts_with r new) (fronts_with r' new) quiet;
              no_edits = λ looper. refl;
            };
      }

  pub leaves_so : (left : Bool) → left ≡ list_any (runs_team team) (state book).running → HasEntered (gone_event team left) 0 book book' → Leaves
  leaves_so left told entered = by_found (find (runs_team team) (state book).running) refl
    where
      by_found : (o : Option Running) → find (runs_team team) (state book).running ≡ o → Leaves
      by_found (Some x) is =
          let ran : left ≡ true = told ∙ any_found (runs_team team) (state book).running (Some x) is in
          enters_gone x is (subst (λ (b : Bool). HasEntered (gone_event team b) 0 book book') ran entered)
      by_found None is =
          let gone : left ≡ false = told ∙ any_found (runs_team team) (state book).running None is in
          sees_gone is (subst (λ (b : Bool). HasEntered (gone_event team b) 0 book book') gone entered)

-- ---- a looper that starts
-- its thread's seats were split before, and it is put behind the others
pub stops_start : (t : Team) (r s u v : Run) (door : Door) (front : List PortEntry) (x : Member) → s.apps ≡ r.apps → s.hands.clock.time ≡ r.hands.clock.time → s.members ≡ r.members → s.roster_seat.front ≡ r.roster_seat.front → s.hands.book_seat.front ≡ r.hands.book_seat.front
    → StopsAtNew t front door.port_seat.front s u → x.door ≡ door → v.members.items ≡ u.members.items ++ x ∷ [] → v.roster_seat ≡ u.roster_seat → v.hands ≡ u.hands → StopsStart t front r v
stops_start t r s u v door front x apps time members roster book stops x_door v_items v_roster v_hands = λ loopers has.
    let had : HasOf t loopers s = has ∙ ap (λ (ms : _). length ms.items) (sym members) in
    let on : StartsWith s.roster_seat.front r.roster_seat.front = ([], roster ∙ sym (append-nil r.roster_seat.front)) in
    start_acts (Stops t r (loopers + 1)) r s u v door front x time members roster book
    (record { beside = λ new. records_so_as (Stops t s (loopers + 1)) (Stops t r (loopers + 1)) (fronts_with s (front ∷ new)) (fronts_with u (door.port_seat.front ∷ new)) (λ steps is. stops_earlier t r s (loopers + 1) steps apps on is) ((stops loopers had).beside new) }) x_door v_items v_roster v_hands

pub shut_start : (r s u v : Run) (door : Door) (front : List PortEntry) (x : Member) → s.hands.clock.time ≡ r.hands.clock.time → s.members ≡ r.members → s.roster_seat.front ≡ r.roster_seat.front → s.hands.book_seat.front ≡ r.hands.book_seat.front
    → RecordsAtNew (Shuts (length s.members.items)) front door.port_seat.front s u → x.door ≡ door → v.members.items ≡ u.members.items ++ x ∷ [] → v.roster_seat ≡ u.roster_seat → v.hands ≡ u.hands → RecordsStart (Shuts (length r.members.items)) front r v
shut_start r s u v door front x time members roster book shut x_door v_items v_roster v_hands =
    let there = subst (λ (n : ℕ). RecordsAtNew (Shuts n) front door.port_seat.front s u) (ap (λ (ms : _). length ms.items) members) shut in
    start_acts (Shuts (length r.members.items)) r s u v door front x time members roster book there x_door v_items v_roster v_hands

-- ---- the loopers of a team start, one after another
next_count : (first k loopers before after : ℕ) → first + loopers ≡ after → first + k ≡ before → after ≡ before + 1 → loopers ≡ k + 1
next_count first k loopers before after has had more = omega (arith, has, had, more)

-- the own one
pub own_stops : (t : Team) (r s : Run) (new : NewTeam) → t.first ≡ length r.members.items → GoesOnWith 1 r s → StopsStart t (new_front new.own) r s → StopsSince t r (team_fronts new) s (map new_front new.others.items)
own_stops t r s new next goes stops = λ loopers has.
    let none : HasOf t 0 r = plus_nothing t.first ∙ next in
    let others = map new_front new.others.items in
    subst (λ (n : ℕ). RecordsSo (Stops t r n) (fronts_with r (team_fronts new)) (fronts_with s others)) (sym (next_count t.first 0 loopers (length r.members.items) (length s.members.items) has none goes.count)) ((stops 0 none).beside others)
  where
    plus_nothing : (n : ℕ) → n + 0 ≡ n
    plus_nothing n = omega arith

-- one of the others
module _ (t : Team) (r s u : Run) (new : List (List PortEntry)) (x : NewLooper) (rest : List NewLooper) (is : IsStarting t r s (x ∷ rest)) (goes : GoesOnWith 1 s u) where
  abbrev left : List (List PortEntry)
  left = map new_front rest

  abbrev So : ℕ → Type 0
  So n = RecordsSo (Stops t r n) (fronts_with r new) (fronts_with u left)

  now : (loopers : ℕ) → HasOf t loopers u → So (is.so_far + 1) → So loopers
  now loopers has so = subst So (sym (next_count t.first is.so_far loopers (length s.members.items) (length u.members.items) has is.next goes.count)) so

  -- it is the first that got no thread
  first_stops : fronts_with s (new_front x ∷ left) ≡ fronts_with r new → StopsStart t (new_front x) s u → StopsSince t r new u left
  first_stops same stops = λ loopers has.
      let more = is.so_far + 1 in
      now loopers has
      (records_so_as (Stops t s more) (Stops t r more) (fronts_with r new) (fronts_with u left) (λ steps so. stops_earlier t r s more steps is.goes.apps is.goes.on so)
      (subst (λ (f : Fronts). RecordsSo (Stops t s more) f (fronts_with u left)) same ((stops is.so_far is.next).beside left)))

  -- another one before it got none
  later_stops : StopsSince t r new s (new_front x ∷ left) → RecordsStart (Shuts (length s.members.items)) (new_front x) s u → StopsSince t r new u left
  later_stops stops shut = λ loopers has.
      let count = length s.members.items in
      now loopers has
      (records_so_then (Stops t r is.so_far) (Shuts count) (Stops t r (is.so_far + 1)) (fronts_with r new) (fronts_with s (new_front x ∷ left)) (fronts_with u left)
      (λ xs ys so_far one. stops_push (heads_of r.apps.items) (plain_of r.roster_seat) t.number t.first is.so_far count xs ys is.next so_far one) (stops is.so_far is.next) (shut.beside left))

  pub stops_on : (all result : Bool) → (IsTrue all → fronts_with s (new_front x ∷ left) ≡ fronts_with r new) → (IsFalse all → StopsSince t r new s (new_front x ∷ left)) → (IsTrue all → IsFalse result → StopsStart t (new_front x) s u)
      → (IsFalse all → RecordsStart (Shuts (length s.members.items)) (new_front x) s u) → IsFalse result → StopsSince t r new u left
  stops_on true result quiet so_far first later none = first_stops (quiet refl) (first refl none)
  stops_on false result quiet so_far first later none = later_stops (so_far refl) (later refl)

-- so many it has, once all have started
pub has_all : (t : Team) (r s : Run) (is : IsStarting t r s []) → HasOf t t.loopers s
has_all t r s is = total t.first is.so_far t.loopers (length s.members.items) is.next is.all
  where
    total : (first k l m : ℕ) → first + k ≡ m → k + 0 ≡ l → first + l ≡ m
    total first k l m next all = omega (arith, next, all)
