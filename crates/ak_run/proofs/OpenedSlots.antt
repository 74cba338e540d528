-- A session is opened or closed: main did nothing, and the run goes on running.
use Rattle.std.proofs.Common.{◌≡◌, ◌≤◌, ◌<◌, ◌+◌, ℕ, List, [], ◌∷◌, ◌++◌, length, length-append, length-set, map, set, All, None, Some, Option, sym, ap, ◌∙◌, subst, append-nil, arith, vec_capacity}
use Rattle.std.specs.Prelude.{slice_get}
use Rattle.std.specs.List.{range_with_len}
use Rattle.std.proofs.lemmas.List.{length-map}
use Rattle.std.proofs.lemmas.List.Elements.{All-nil, All-weaker}
use Rattle.std.proofs.lemmas.Option.{slice_get_within}
use Rattle.ak_base.specs.Limits.{looper_limit}
use Rattle.ak_base.specs.Thread.{main_thread}
use Rattle.ak_desk.specs.Shared as at_desks
use Rattle.ak_turn.specs.Entries.{StartsWith}
use Rattle.ak_turn.specs.Noted.{StandsIn, noted}
use Rattle.ak_turn.specs.Seats.{KnowsWhole, new_seat}
use Rattle.ak_turn.specs.Steps.{IsNewName}
use Rattle.ak_roster.specs.declared.head.AppHead.{AppHead}
use Rattle.ak_port.specs.ReplySeats as books
use Rattle.ak_port.specs.ReplySeats.{ReplySeat}
use Rattle.ak_describe.specs.Whole.{IsWholeApp, heads_of}
use Rattle.ak_looper.specs.Rosters as rosters
use Rattle.ak_looper.specs.Rosters.{RosterSeat, plain_of}
use Rattle.ak_session.specs.declared.session.Session.{Session}
use Rattle.ak_session.specs.Ready.{IsReady}
use Rattle.ak_gather.specs.declared.member.Member.{Member}
use Rattle.ak_looper.specs.declared.shared.Shared.{Shared}
use Rattle.ak_run.specs.declared.run.Run.{Run}
use Rattle.ak_run.specs.declared.slots.Slot.{Slot}
use Rattle.ak_looper.specs.Counting.{started_by_main}
use Rattle.ak_run.specs.Doing.{Does, desk_front}
use Rattle.ak_gather.specs.Gathering.{HasRoomFor, HoldsNothing}
use Rattle.ak_run.specs.Recording.{HasRecord, IsRecorded, fronts_of}
use Rattle.ak_gather.specs.Below.{AreBelow}
use Rattle.ak_gather.specs.Members.{IsMember}
use Rattle.ak_run.specs.Running.{IsOpenedAs, IsRunning}
use Rattle.ak_run.specs.Sessions.{HasLocksOf, HasSlots, IsSessionAt, KeepsButSlots, MayClose, Told, session_count, session_limit, sessions_of, told_in, told_of}
use Rattle.ak_run.specs.Starting.{HasSplit}
use Rattle.ak_run.proofs.Acts.{same_goes}
use Rattle.ak_run.proofs.GoingOn.{plain_on, same_desks}
use Rattle.ak_team.proofs.Surface.{nothing_by_new}
use Rattle.ak_run.proofs.Recorded.{fronts_same}
use Rattle.ak_run.proofs.SlotsStand.{slots_as_before, slots_closed, slots_more, told_set}
use Rattle.ak_run.proofs.Splits.{new_session, roster_nothing, session_on}
use Rattle.ak_run.proofs.Standing.{member_sees}

-- ---- main did nothing
pub does_nothing : (r r' : Run) → r'.hands.clock.time ≡ r.hands.clock.time → r'.members ≡ r.members → r'.roster_seat.front ≡ r.roster_seat.front → r'.hands.book_seat.front ≡ r.hands.book_seat.front → Does [] r r'
does_nothing r r' time members roster book =
    let quiet = same_desks r r' members in
    record {
      goes = same_goes (fronts_of r) (fronts_of r') (fronts_same r r' time members roster book []);
      roster_on = plain_on r.roster_seat r'.roster_seat ([], roster ∙ sym (append-nil r.roster_seat.front));
      desks = λ looper. quiet.same looper ∙ sym (append-nil (noted at_desks.by_number main_thread (desk_front r looper)));
      desks_on = quiet.on;
      edits = λ looper. All-nil (StandsIn (desk_front r' looper));
    }

-- main's record is that of before
record_still : (heads : List AppHead) (r r' : Run) → r'.hands.clock.time ≡ r.hands.clock.time → r'.members ≡ r.members → r'.roster_seat.front ≡ r.roster_seat.front → r'.hands.book_seat.front ≡ r.hands.book_seat.front → HasRecord heads (fronts_of r) (desk_front r) → HasRecord heads (fronts_of r') (desk_front r')
record_still heads r r' time members roster book has = record {
  did = has.did;
  recorded = subst (IsRecorded has.did) (sym (fronts_same r r' time members roster book [])) has.recorded;
  started = has.started;
  edits = λ looper. (same_desks r r' members).same looper ∙ has.edits looper;
}

-- the same names, and as many sessions and loopers
below_same : (n n' m m' : ℕ) (names names' : Option (List ℕ)) → n' ≡ n → m' ≡ m → names' ≡ names → AreBelow n m names → AreBelow n' m' names'
below_same n n' m m' names names' sessions loopers same below =
    subst (λ (k : ℕ). AreBelow k m' names') (sym sessions) (subst (λ (k : ℕ). AreBelow n k names') (sym loopers) (subst (AreBelow n m) (sym same) below))

-- ---- the sessions alone changed
pub slots_changed : (r r' : Run) → KeepsButSlots r r' → session_count r' ≡ session_count r → (is : IsRunning r) → HasSlots is.heads r.shared r'.slots → IsRunning r'
slots_changed r r' keeps count is has =
    let stands = is.stands in
    let heads = is.heads in
    record {
      heads = heads;
      stands = record {
        whole = subst (λ v. All IsWholeApp v.items) (sym keeps.apps) stands.whole;
        heads_are = stands.heads_are ∙ ap (λ v. heads_of v.items) (sym keeps.apps);
        opening = ap (λ (s : RosterSeat). s.opening) keeps.roster_seat ∙ stands.opening;
        roster_known = subst (KnowsWhole rosters.by_number) (sym keeps.roster_seat) stands.roster_known;
        roster_names = below_same (session_count r) (session_count r') (length r.members.items) (length r'.members.items) r.roster_seat.names r'.roster_seat.names count (ap (λ v. length v.items) keeps.members) (ap (λ (s : RosterSeat). s.names) keeps.roster_seat) stands.roster_names;
        book_known = subst (λ h. KnowsWhole books.maker_of h.book_seat) (sym keeps.hands) stands.book_known;
        book_names = below_same (session_count r) (session_count r') (length r.members.items) (length r'.members.items) r.hands.book_seat.names r'.hands.book_seat.names count (ap (λ v. length v.items) keeps.members) (ap (λ h. h.book_seat.names) keeps.hands) stands.book_names;
        numbers = subst (λ v. map (λ (m : Member). m.number) v.items ≡ range_with_len 0 (length v.items)) (sym keeps.members) stands.numbers;
        each = subst (λ v. All (IsMember heads r'.shared r'.roster_seat) v.items) (sym keeps.members) (subst (λ (s : Shared). All (IsMember heads s r'.roster_seat) r.members.items) (sym keeps.shared)
            (subst (λ (s : RosterSeat). All (IsMember heads r.shared s) r.members.items) (sym keeps.roster_seat) stands.each));
        opened = subst (λ v. All (IsOpenedAs r'.apps.items) v.items) (sym keeps.members) (subst (λ v. All (IsOpenedAs v.items) r.members.items) (sym keeps.apps) stands.opened);
        few = subst (λ v. length v.items ≤ looper_limit) (sym keeps.members) stands.few;
        room = subst (λ v. looper_limit ≤ vec_capacity v) (sym keeps.members) stands.room;
        ready = record {
          joined = subst HoldsNothing (sym keeps.joined) stands.ready.joined;
          ports = ap (λ v. v.items) keeps.ports ∙ stands.ready.ports;
          desks = ap (λ v. v.items) keeps.desks ∙ stands.ready.desks;
          for_joined = subst (HasRoomFor looper_limit) (sym keeps.joined) stands.ready.for_joined;
          for_ports = subst (λ v. looper_limit ≤ vec_capacity v) (sym keeps.ports) stands.ready.for_ports;
          for_desks = subst (λ v. looper_limit ≤ vec_capacity v) (sym keeps.desks) stands.ready.for_desks;
        };
        sessions = subst (λ (s : Shared). HasSlots heads s r'.slots) (sym keeps.shared) has;
      };
      all = ap (started_by_main heads) keeps.roster_seat ∙ is.all ∙ ap (λ v. length v.items) (sym keeps.members);
      recorded = record_still heads r r' (ap (λ h. h.clock.time) keeps.hands) keeps.members (ap (λ (s : RosterSeat). s.front) keeps.roster_seat) (ap (λ h. h.book_seat.front) keeps.hands) is.recorded;
    }

-- there is more room for them
pub reserved_running : (r r' : Run) → KeepsButSlots r r' → told_in r'.slots ≡ told_in r.slots → r'.slots.ways.items ≡ r.slots.ways.items → vec_capacity r.slots.ways ≤ vec_capacity r'.slots.ways → IsRunning r → IsRunning r'
reserved_running r r' keeps same ways room is =
    slots_changed r r' keeps (ap (λ (l : List Told). length l) same) is (slots_as_before is.heads r.shared r.slots r'.slots same ways room is.stands.sessions)

-- ---- seats of the next session were split from main's
module _ (r : Run) (is : IsRunning r) (few : session_count r < session_limit) where
  abbrev next : ℕ
  next = session_count r + 1

  pub roster_new : IsNewName r.roster_seat.names next
  roster_new = new_session (session_count r) (length r.members.items) r.roster_seat.names few is.stands.roster_names

  pub book_new : IsNewName r.hands.book_seat.names next
  book_new = new_session (session_count r) (length r.members.items) r.hands.book_seat.names few is.stands.book_names

  -- they know nothing of its own
  pub is_ready : (s : Session) → s.hands.clock.thread.0 ≡ next → s.hands.book_seat ≡ new_seat next None r.hands.book_seat → s.roster_seat ≡ new_seat next None r.roster_seat → s.doors.items ≡ []
      → KnowsWhole books.maker_of (new_seat next None r.hands.book_seat) → KnowsWhole rosters.by_number (new_seat next None r.roster_seat) → IsReady s
  is_ready s thread book roster no_doors book_known roster_known = record {
    session = (omega (arith, thread), omega (arith, thread, few));
    heads = is.heads;
    heads_are = ap (λ (x : RosterSeat). x.opening) roster ∙ is.stands.opening;
    book_nothing = subst (λ (x : ReplySeat). noted books.maker_of x.thread x.front ≡ []) (sym book) (nothing_by_new books.maker_of r.hands.book_seat next is.stands.book_known book_new);
    roster_nothing = subst (λ (x : RosterSeat). noted rosters.maker_of x.thread (plain_of x) ≡ []) (sym roster) (roster_nothing r.roster_seat next is.stands.roster_known roster_new);
    book_known = subst (KnowsWhole books.maker_of) (sym book) book_known;
    roster_known = subst (KnowsWhole rosters.by_number) (sym roster) roster_known;
    book_no_head = ap (λ (x : ReplySeat). x.names) book;
    roster_no_head = ap (λ (x : RosterSeat). x.names) roster;
    no_doors = no_doors;
  }

  -- and the run goes on, with one session more
  module _ (s : Run) (split : HasSplit next r s) where
    now_below : AreBelow next (length r.members.items) s.roster_seat.names × AreBelow next (length r.members.items) s.hands.book_seat.names
    now_below = (
      subst (λ (x : RosterSeat). AreBelow next (length r.members.items) x.names) (sym split.roster_seat) (session_on (session_count r) (length r.members.items) r.roster_seat.names is.stands.roster_names),
      subst (λ (x : ReplySeat). AreBelow next (length r.members.items) x.names) (sym split.book_seat) (session_on (session_count r) (length r.members.items) r.hands.book_seat.names is.stands.book_names),
    )

    roster_front : s.roster_seat.front ≡ r.roster_seat.front
    roster_front = ap (λ (x : RosterSeat). x.front) split.roster_seat

    on : StartsWith s.roster_seat.front r.roster_seat.front
    on = ([], roster_front ∙ sym (append-nil r.roster_seat.front))

    pub one_more : (t : Run) → KeepsButSlots s t → session_count t ≡ next → HasSlots is.heads r.shared t.slots → IsRunning t
    one_more t keeps count has =
        let stands = is.stands in
        let heads = is.heads in
        let rest = split.rest in
        let members : t.members ≡ r.members = keeps.members ∙ split.members in
        let apps = keeps.apps ∙ rest.apps in
        let shared : t.shared ≡ r.shared = keeps.shared ∙ rest.shared in
        let joined = keeps.joined ∙ rest.joined in
        let ports = keeps.ports ∙ rest.ports in
        let desks = keeps.desks ∙ rest.desks in
        record {
          heads = heads;
          stands = record {
            whole = subst (λ v. All IsWholeApp v.items) (sym apps) stands.whole;
            heads_are = stands.heads_are ∙ ap (λ v. heads_of v.items) (sym apps);
            opening = ap (λ (x : RosterSeat). x.opening) (keeps.roster_seat ∙ split.roster_seat) ∙ stands.opening;
            roster_known = subst (KnowsWhole rosters.by_number) (sym keeps.roster_seat) (split.roster_known stands.roster_known);
            roster_names = below_same next (session_count t) (length r.members.items) (length t.members.items) s.roster_seat.names t.roster_seat.names count (ap (λ v. length v.items) members) (ap (λ (x : RosterSeat). x.names) keeps.roster_seat) now_below.0;
            book_known = subst (λ h. KnowsWhole books.maker_of h.book_seat) (sym keeps.hands) (split.book_known stands.book_known);
            book_names = below_same next (session_count t) (length r.members.items) (length t.members.items) s.hands.book_seat.names t.hands.book_seat.names count (ap (λ v. length v.items) members) (ap (λ h. h.book_seat.names) keeps.hands) now_below.1;
            numbers = subst (λ v. map (λ (m : Member). m.number) v.items ≡ range_with_len 0 (length v.items)) (sym members) stands.numbers;
            each = subst (λ v. All (IsMember heads t.shared t.roster_seat) v.items) (sym members) (subst (λ (x : Shared). All (IsMember heads x t.roster_seat) r.members.items) (sym shared)
                (subst (λ (x : RosterSeat). All (IsMember heads r.shared x) r.members.items) (sym keeps.roster_seat)
                (All-weaker (IsMember heads r.shared r.roster_seat) (IsMember heads r.shared s.roster_seat) (member_sees heads r.shared r.roster_seat s.roster_seat on) r.members.items stands.each)));
            opened = subst (λ v. All (IsOpenedAs t.apps.items) v.items) (sym members) (subst (λ v. All (IsOpenedAs v.items) r.members.items) (sym apps) stands.opened);
            few = subst (λ v. length v.items ≤ looper_limit) (sym members) stands.few;
            room = subst (λ v. looper_limit ≤ vec_capacity v) (sym members) stands.room;
            ready = record {
              joined = subst HoldsNothing (sym joined) stands.ready.joined;
              ports = ap (λ v. v.items) ports ∙ stands.ready.ports;
              desks = ap (λ v. v.items) desks ∙ stands.ready.desks;
              for_joined = subst (HasRoomFor looper_limit) (sym joined) stands.ready.for_joined;
              for_ports = subst (λ v. looper_limit ≤ vec_capacity v) (sym ports) stands.ready.for_ports;
              for_desks = subst (λ v. looper_limit ≤ vec_capacity v) (sym desks) stands.ready.for_desks;
            };
            sessions = subst (λ (x : Shared). HasSlots heads x t.slots) (sym shared) has;
          };
          all = ap (started_by_main heads) (keeps.roster_seat ∙ split.roster_seat) ∙ is.all ∙ ap (λ v. length v.items) (sym members);
          recorded = record_still heads r t (ap (λ h. h.clock.time) keeps.hands ∙ split.time) members (ap (λ (x : RosterSeat). x.front) (keeps.roster_seat ∙ split.roster_seat)) (ap (λ h. h.book_seat.front) keeps.hands ∙ ap (λ (x : ReplySeat). x.front) split.book_seat) is.recorded;
        }

    -- it is put behind the others
    pub adds : (t : Run) (new : Session) → KeepsButSlots s t → new.hands.clock.thread.0 ≡ next → new.roster_seat.opening ≡ r.roster_seat.opening → HasLocksOf r new → sessions_of t ≡ sessions_of r ++ (new, None) ∷ [] → t.slots.ways ≡ r.slots.ways
        → session_count r < vec_capacity r.slots.ways → IsRunning t
    adds t new keeps thread opening locks more ways room =
        let its : IsSessionAt is.heads r.shared (session_count r) (new, None) = record {
          thread = thread;
          heads_are = opening ∙ is.stands.opening;
          at_book = new.hands.of ∙ locks.book;
          at_roster = new.roster_of ∙ locks.roster;
          closed = tt;
        } in
        one_more t keeps (ap (λ (l : List Told). length l) more ∙ length-append (sessions_of r) ((new, None) ∷ []))
        (slots_more is.heads r.shared r.slots t.slots (new, None) more ways few room its is.stands.sessions)

-- ---- a session is closed
pub closes : (r : Run) (s : Session) (place : ℕ) (slot slot' : Slot) → slice_get r.slots.sessions.items place ≡ Some slot → s.hands.clock.thread.0 ≡ place + 1 → slot'.opened ≡ slot.opened → slot'.closed ≡ Some s
    → (may : MayClose r s) → map told_of (set r.slots.sessions.items place slot') ≡ set (sessions_of r) may.place (may.opened, Some s)
closes r s place slot slot' there number opened closed may =
    let same : place ≡ may.place = omega (arith, number, may.number) in
    subst (λ (n : ℕ). map told_of (set r.slots.sessions.items place slot') ≡ set (sessions_of r) n (may.opened, Some s)) same
    (told_set r.slots.sessions.items place slot slot' (may.opened, None) s there (subst (λ (n : ℕ). slice_get (sessions_of r) n ≡ Some (may.opened, None)) (sym same) may.open_there) opened closed)

pub closed_running : (r r' : Run) (s : Session) → KeepsButSlots r r' → r'.slots.ways ≡ r.slots.ways → IsRunning r → (may : MayClose r s) → sessions_of r' ≡ set (sessions_of r) may.place (may.opened, Some s) → IsRunning r'
closed_running r r' s keeps ways is may now =
    slots_changed r r' keeps (ap (λ (l : List Told). length l) now ∙ length-set (sessions_of r) may.place (may.opened, Some s)) is
    (slots_closed is.heads r.shared r.slots r'.slots may.place may.opened s may.open_there now ways may.came is.stands.sessions)

-- it is one of those that were opened
pub place_there : (r : Run) (s : Session) (may : MayClose r s) → may.place < length r.slots.sessions.items
place_there r s may = omega (arith, slice_get_within (sessions_of r) may.place (may.opened, None) may.open_there, length-map r.slots.sessions.items told_of)
