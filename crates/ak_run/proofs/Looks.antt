-- Main sees more at one object, and makes no entry.
use Rattle.std.proofs.Common.{◌≡◌, ℕ, ◌<◌, List, [], ◌++◌, length, map, None, refl, sym, ap, ◌∙◌, subst, append-nil, vec_capacity}
use Rattle.std.specs.Prelude.{get_or, option_map, set, slice_get, unwrap_or}
use Rattle.std.proofs.lemmas.List.{get_or-set_same, length-set}
use Rattle.std.proofs.lemmas.List.Elements.{All-nil}
use Rattle.ak_base.specs.Thread.{main_thread}
use Rattle.ak_turn.specs.Called.{KeepsSeat}
use Rattle.ak_turn.specs.Entries.{StartsWith}
use Rattle.ak_turn.specs.Noted.{StandsIn, noted}
use Rattle.ak_turn.specs.Seats.{HasSeen, KnowsWhole}
use Rattle.ak_turn.proofs.Surface.{keeps_same, seen_keeps, seen_starts, starts_itself}
use Rattle.ak_port.specs.declared.port_entry.PortEntry.{PortEntry}
use Rattle.ak_port.specs.PortCalls as at_ports
use Rattle.ak_port.specs.ReplySeats as at_books
use Rattle.ak_port.specs.ReplySeats.{ReplySeat}
use Rattle.ak_desk.specs.Shared as at_desks
use Rattle.ak_diary.specs.Step.{Step, desk_entries}
use Rattle.ak_looper.specs.declared.door.Door.{Door}
use Rattle.ak_looper.specs.Rosters.{RosterSeat, by_number, maker_of, plain_of}
use Rattle.ak_gather.specs.declared.member.Member.{Member}
use Rattle.ak_gather.specs.Members.{member_desk_front, member_front}
use Rattle.ak_session.specs.declared.session.Session.{Session}
use Rattle.ak_run.specs.declared.run.Run.{Run}
use Rattle.ak_run.specs.declared.slots.Slots.{Slots}
use Rattle.ak_run.specs.Doing.{Does, DoesSo, IsQuietAtDesks, desk_front}
use Rattle.ak_run.specs.Recording.{GoesBy, fronts_of, fronts_with, list_at}
use Rattle.ak_run.specs.Running.{IsRunning, KeepsRest}
use Rattle.ak_run.specs.Seen.{HasLooked}
use Rattle.ak_run.specs.Sessions.{MayClose, told_in}
use Rattle.ak_run.proofs.Acts.{nothing_goes, same_goes}
use Rattle.ak_run.proofs.Calls.{main_has, one_does, one_runs, post_acts, there_after}
use Rattle.ak_run.proofs.Doing.{does_then}
use Rattle.ak_run.proofs.Edits.{looked_does}
use Rattle.ak_run.proofs.EditsMore.{edits_more}
use Rattle.ak_run.proofs.GoingOn.{desk_in, goes_by, plain_on, same_desks, same_list, still_running}
use Rattle.ak_run.proofs.Recorded.{there}
use Rattle.ak_run.proofs.RosterTurn.{RosterOn, sees_no_more, sees_on}
use Rattle.ak_run.proofs.Standing.{BookOn, nothing_entered, same_book, same_loopers}
use Rattle.ak_team.proofs.Surface.{seen_none}

-- ---- looks one after another
rest_then : (r s t : Run) → KeepsRest r s → KeepsRest s t → KeepsRest r t
rest_then r s t one two = record {
  apps = two.apps ∙ one.apps;
  shared = two.shared ∙ one.shared;
  joined = two.joined ∙ one.joined;
  ports = two.ports ∙ one.ports;
  desks = two.desks ∙ one.desks;
  slots = two.slots ∙ one.slots;
}

pub looked_then : (r s t : Run) → HasLooked r s → HasLooked s t → HasLooked r t
looked_then r s t one two = record { did = does_then [] [] r s t one.did two.did; rest = rest_then r s t one.rest two.rest; loopers = two.loopers ∙ one.loopers }

-- no act at all
abbrev pub IsNothing : List Step → Type 0
IsNothing steps = steps ≡ []

does_none : (r r' : Run) → GoesBy [] (fronts_of r) (fronts_of r') → StartsWith (plain_of r'.roster_seat) (plain_of r.roster_seat) → IsQuietAtDesks r r' → Does [] r r'
does_none r r' goes roster desks = record {
  goes = goes;
  roster_on = roster;
  desks = λ looper. desks.same looper ∙ sym (append-nil (noted at_desks.by_number main_thread (desk_front r looper)));
  desks_on = desks.on;
  edits = λ looper. All-nil (StandsIn (desk_front r' looper));
}

-- none
pub looked_itself : (r : Run) → HasLooked r r
looked_itself r = record {
  did = does_none r r (same_goes (fronts_of r) (fronts_of r) refl) (starts_itself (plain_of r.roster_seat)) (same_desks r r refl);
  rest = record { apps = refl; shared = refl; joined = refl; ports = refl; desks = refl; slots = refl };
  loopers = refl;
}

-- a session that may be closed still may
abbrev pub may_still : (r r' : Run) (s : Session) → HasLooked r r' → MayClose r s → MayClose r' s
may_still r r' s looked may = record {
  place = may.place;
  number = may.number;
  opened = may.opened;
  open_there = ap (λ (slots : Slots). slice_get (told_in slots) may.place) looked.rest.slots ∙ may.open_there;
  came = may.came;
}

-- ---- at what all share
module _ (r r' : Run) (rest : KeepsRest r r') (time : r'.hands.clock.time ≡ r.hands.clock.time) (members : r'.members ≡ r.members) where
  -- what main had seen went on there, by entries of others
  record SawMore : Type 0 where
    roster : noted maker_of main_thread (plain_of r'.roster_seat) ≡ noted maker_of main_thread (plain_of r.roster_seat)
    roster_on : StartsWith r'.roster_seat.front r.roster_seat.front
    book : noted at_books.maker_of main_thread r'.hands.book_seat.front ≡ noted at_books.maker_of main_thread r.hands.book_seat.front
    book_on : StartsWith r'.hands.book_seat.front r.hands.book_seat.front

  saw_goes : SawMore → (new : List (List PortEntry)) → GoesBy [] (fronts_with r new) (fronts_with r' new)
  saw_goes saw new =
      let same : map member_front r'.members.items ++ new ≡ map member_front r.members.items ++ new = ap (λ v. map member_front v.items ++ new) members in
      nothing_goes (fronts_with r new) (fronts_with r' new) time saw.roster (plain_on r.roster_seat r'.roster_seat saw.roster_on) saw.book saw.book_on
      (λ looper. ap (λ (l : List (List PortEntry)). noted at_ports.by_number main_thread (list_at l looper)) same)
      (λ looper. same_list (list_at (fronts_with r new).ports looper) (list_at (fronts_with r' new).ports looper) (ap (λ (l : List (List PortEntry)). list_at l looper) same))

  saw_looked : SawMore → HasLooked r r'
  saw_looked saw = record {
    did = does_none r r' (saw_goes saw []) (plain_on r.roster_seat r'.roster_seat saw.roster_on) (same_desks r r' members);
    rest = rest;
    loopers = ap (λ v. length v.items) members;
  }

  saw_runs : SawMore → (is : IsRunning r) → RosterOn is.heads 0 r.roster_seat r'.roster_seat → BookOn r r' → IsRunning r'
  saw_runs saw is roster book =
      still_running r r'
      (goes_by r r' is.heads rest is.stands.opening roster book (λ next heads k. same_loopers next heads r r' members k) (ap (λ v. length v.items) members)
      (λ new. record { steps = []; goes = saw_goes saw new; no_edits = λ looper. refl }) members)
      is

  -- at the roster
  module _ (book : r'.hands.book_seat ≡ r.hands.book_seat) (seen : HasSeen by_number r.roster_seat r'.roster_seat) where
    main_there : r.roster_seat.thread ≡ main_thread
    main_there = r.roster_thread ∙ r.main

    saw_roster_on : SawMore
    saw_roster_on = record {
      roster = sees_no_more r.roster_seat r'.roster_seat main_there seen;
      roster_on = seen_starts by_number r.roster_seat r'.roster_seat seen;
      book = ap (λ (s : ReplySeat). noted at_books.maker_of main_thread s.front) book;
      book_on = same_list r.hands.book_seat.front r'.hands.book_seat.front (ap (λ (s : ReplySeat). s.front) book);
    }

    pub roster_looked : HasLooked r r'
    roster_looked = saw_looked saw_roster_on

    pub roster_runs : (KnowsWhole by_number r.roster_seat → KnowsWhole by_number r'.roster_seat) → IsRunning r → IsRunning r'
    roster_runs knows is = saw_runs saw_roster_on is (sees_on r.roster_seat r'.roster_seat main_there seen is.heads knows is.stands.roster_known) (same_book r r' book)

  -- at the reply book
  module _ (roster : r'.roster_seat ≡ r.roster_seat) (seen : HasSeen at_books.maker_of r.hands.book_seat r'.hands.book_seat) where
    saw_book_on : SawMore
    saw_book_on = record {
      roster = ap (λ (s : RosterSeat). noted maker_of main_thread (plain_of s)) roster;
      roster_on = same_list r.roster_seat.front r'.roster_seat.front (ap (λ (s : RosterSeat). s.front) roster);
      book = seen_none at_books.maker_of r.hands.book_seat r'.hands.book_seat (r.hands.thread ∙ r.main) seen;
      book_on = seen_starts at_books.maker_of r.hands.book_seat r'.hands.book_seat seen;
    }

    pub book_looked : HasLooked r r'
    book_looked = saw_looked saw_book_on

    pub book_runs : (KnowsWhole at_books.maker_of r.hands.book_seat → KnowsWhole at_books.maker_of r'.hands.book_seat) → IsRunning r → IsRunning r'
    book_runs knows is =
        saw_runs saw_book_on is (nothing_entered is.heads r.roster_seat r'.roster_seat roster is.stands.roster_known) (record { keeps = seen_keeps at_books.maker_of r.hands.book_seat r'.hands.book_seat seen; known = knows })

-- ---- through the door to one looper
-- what main has seen of its port and of its desk then
pub port_there : (ms : List Member) (place : ℕ) (m : Member) → place < length ms → list_at (map member_front (set ms place m) ++ []) place ≡ member_front m
port_there ms place m within = there (set ms place m) [] place m (subst (λ (n : ℕ). place < n) (sym (length-set ms place m)) within) (get_or-set_same ms place m m within)

pub desk_there : (ms : List Member) (place : ℕ) (m : Member) → place < length ms → desk_in (set ms place m) place ≡ member_desk_front m
desk_there ms place m within = ap (λ o. unwrap_or (option_map member_desk_front o) []) (there_after ms place m within m)

module _ (r r' : Run) (place : ℕ) (m : Member) (door : Door) (within : place < length r.members.items) (there : get_or r.members.items place m ≡ m) (is : r'.members.items ≡ set r.members.items place (record m { door = door })) (roster : r'.roster_seat ≡ r.roster_seat)
    (hands : r'.hands ≡ r.hands) (rest : KeepsRest r r') where
  count : length r'.members.items ≡ length r.members.items
  count = ap length is ∙ length-set r.members.items place (record m { door = door })

  looked_by : DoesSo IsNothing r r' → HasLooked r r'
  looked_by did = record { did = subst (λ (steps : List Step). Does steps r r') did.so did.does; rest = rest; loopers = count }

  runs_by : KeepsSeat m.door.port_seat door.port_seat → KeepsSeat m.door.desk_seat door.desk_seat → vec_capacity r'.members ≡ vec_capacity r.members → DoesSo IsNothing r r' → IsRunning r → IsRunning r'
  runs_by port desk capacity did running =
      one_runs r r' place m door within there is roster IsNothing port desk capacity rest (same_book r r' (ap (λ h. h.book_seat) hands)) did running
      (λ steps recorded started. edits_more running.heads steps did.steps started (λ looper. ap (λ (l : List Step). desk_entries looper l) did.so))

  -- at the port
  module _ (running : IsRunning r) (desk : door.desk_seat ≡ m.door.desk_seat) (seen : HasSeen at_ports.by_number m.door.port_seat door.port_seat) where
    port_did : DoesSo IsNothing r r'
    port_did =
        one_does r r' place m door within there is roster IsNothing (ap (λ s. s.front) desk)
        (post_acts r r' place m door within there is roster None (main_has (length r.members.items) running.heads r place m within there running.stands) tt (record { seen = seen; clocked = ap (λ h. h.clock) hands }) (ap (λ h. h.book_seat) hands))

    pub port_looked : HasLooked r r'
    port_looked = looked_by port_did

    pub port_runs : vec_capacity r'.members ≡ vec_capacity r.members → IsRunning r'
    port_runs capacity = runs_by (seen_keeps at_ports.by_number m.door.port_seat door.port_seat seen) (keeps_same m.door.desk_seat door.desk_seat desk) capacity port_did running

  -- at the desk
  module _ (running : IsRunning r) (port : door.port_seat ≡ m.door.port_seat) (seen : HasSeen at_desks.by_number m.door.desk_seat door.desk_seat) where
    desk_did : DoesSo IsNothing r r'
    desk_did =
        looked_does r r' place m door within there is roster (ap (λ h. h.book_seat) hands) (ap (λ s. s.front) port) (m.door.thread ∙ main_has (length r.members.items) running.heads r place m within there running.stands) IsNothing refl
        (record { seen = seen; clocked = ap (λ h. h.clock) hands })

    pub desk_looked : HasLooked r r'
    desk_looked = looked_by desk_did

    pub desk_runs : vec_capacity r'.members ≡ vec_capacity r.members → IsRunning r'
    desk_runs capacity = runs_by (keeps_same m.door.port_seat door.port_seat port) (seen_keeps at_desks.by_number m.door.desk_seat door.desk_seat seen) capacity desk_did running
