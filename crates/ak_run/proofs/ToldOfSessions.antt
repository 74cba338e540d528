-- What the kept lists tell of each session.
use Rattle.std.proofs.Common.{◌≡◌, ◌≢◌, ◌<◌, ◌≤◌, ◌+◌, ◌==◌, ℕ, zero, suc, Bool, cond, List, [], ◌∷◌, ◌++◌, length, All, Contains, Option, None, Some, ⊎_elim, refl, sym, ap, ◌∙◌, subst, ne_eqb, arith}
use Rattle.std.specs.Prelude.{IfSome, get_or, option_map, slice_get, unwrap_or, Vec, if◌then◌else◌}
use Rattle.std.specs.declared.alloc.Global.{Global}
use Rattle.std.proofs.lemmas.List.Elements.{All-contains, All-cons, All-head, All-map, All-nil, All-tail, All-weaker}
use Rattle.std.proofs.lemmas.Option.{slice_get_cases, slice_get_within}
use Rattle.ak_base.specs.declared.thread.ThreadId.{ThreadId}
use Rattle.ak_turn.specs.Entries.{AreByOthers, StartsWith, made_by}
use Rattle.ak_turn.specs.Noted.{StandsIn, noted}
use Rattle.ak_turn.specs.Seats.{part_of}
use Rattle.ak_turn.proofs.Surface.{known_is_made, noted_stands, noted-others, seen_still, starts_then_starts}
use Rattle.ak_roster.specs.declared.entry.EntryWithObjects.{EntryWithObjects}
use Rattle.ak_roster.specs.declared.entry.RosterEntry.{RosterEntry}
use Rattle.ak_roster.specs.declared.entry.RosterEvent.TheVariants as event
use Rattle.ak_roster.specs.declared.head.AppHead.{AppHead}
use Rattle.ak_roster.specs.Laws.{EntriesTellPlain, IsNoneOfFour, StrangersAreTold}
use Rattle.ak_roster.specs.Machine.{LooperData, holders, state_of}
use Rattle.ak_roster.specs.Roster.{IsStranger, RosterData, objects_of, plain_entries}
use Rattle.ak_port.specs.declared.port_entry.PortEntry.{PortEntry}
use Rattle.ak_port.specs.declared.reply_entry.ReplyEntry.{ReplyEntry}
use Rattle.ak_port.specs.PortCalls as ports
use Rattle.ak_port.specs.PortCalls.{PortData}
use Rattle.ak_port.specs.ReplySeats as books
use Rattle.ak_port.specs.ReplySeats.{ReplySeat}
use Rattle.ak_desk.specs.Desk.{DeskData}
use Rattle.ak_desk.specs.Entry.{EntryData}
use Rattle.ak_desk.specs.Shared as desks
use Rattle.ak_diary.specs.declared.histories.Histories.{Histories}
use Rattle.ak_diary.specs.Step.{Step, at_roster, at_book, at_port, at_desk, saw_roster, saw_book, saw_port, lacked, book_entries, book_sights, desk_entries, desk_entry, port_entries, port_entry, port_sight, port_sights, roster_entries, roster_sights}
use Rattle.ak_headline.specs.Run.{desk_list, port_list}
use Rattle.ak_looper.specs.declared.door.Door.{Door}
use Rattle.ak_looper.specs.declared.kept_door.KeptDoor.{KeptDoor}
use Rattle.ak_looper.specs.Rosters as rosters
use Rattle.ak_looper.specs.Rosters.{Object, RosterSeat}
use Rattle.ak_looper.specs.Doors.{door_object}
use Rattle.ak_looper.proofs.Surface.{leads_on, none_of_door, own_entries, plain_starts}
use Rattle.ak_session.specs.declared.session.Session.{Session}
use Rattle.ak_session.specs.Stands.{DoorStands, IsAtOneOf, IsStanding, Stands, numbers_of}
use Rattle.ak_gather.specs.declared.gathering.Joined.{Joined}
use Rattle.ak_looper.specs.declared.shared.Shared.{Shared}
use Rattle.ak_run.specs.declared.slots.Slots.{Slots}
use Rattle.ak_run.specs.AtEnd.{SessionDone}
use Rattle.ak_gather.specs.Gathering.{AreTakenIn, AreWaysIn, TookBothIn, IsTakenIn, IsWayIn, TookIn}
use Rattle.ak_run.specs.Sessions.{AreSessionsJoined, HasSlots, IsSessionJoined, Told, told_in}
use Rattle.ak_gather.proofs.Surface.{some_same, known_told, part_known, plain_told, IsGathered, as_many, edited_by_holders, history, made_by_holders, port_of, AllAreJoined, at_from, books_at, way_to, all_at, some_and}
use Rattle.ak_run.proofs.SlotsStand.{all_stood, came_of}

-- ---- at a port and a desk to which it has no way it did nothing
other_number : {A : Type 0} (ways : List ℕ) (number looper : ℕ) (x : A) → Contains ways number → (Contains ways looper → ⊥) → (if number == looper then x ∷ [] else []) ≡ []
other_number ways number looper x there none = ap (λ (b : Bool). cond b (x ∷ []) []) (ne_eqb number looper (λ same. none (subst (λ (n : ℕ). Contains ways n) same there)))

module _ (ways : List ℕ) (looper : ℕ) (none : Contains ways looper → ⊥) where
  no_entry : (step : Step) → IsAtOneOf ways step → (port_entry looper step ≡ []) × (desk_entry looper step ≡ []) × (port_sight looper step ≡ [])
  no_entry (at_port number n) there = (other_number ways number looper n there none, refl, refl)
  no_entry (at_desk number n) there = (refl, other_number ways number looper n there none, refl)
  no_entry (at_roster n) there = (refl, refl, refl)
  no_entry (at_book n) there = (refl, refl, refl)
  no_entry (saw_roster list) there = (refl, refl, refl)
  no_entry (saw_book list) there = (refl, refl, refl)
  no_entry (saw_port number list) there = (refl, refl, other_number ways number looper list there none)
  no_entry lacked there = (refl, refl, refl)

  no_entries : (steps : List Step) → All (IsAtOneOf ways) steps → (port_entries looper steps ≡ []) × (desk_entries looper steps ≡ []) × (port_sights looper steps ≡ [])
  no_entries [] there = (refl, refl, refl)
  no_entries (step ∷ steps) there =
      let one = no_entry step (All-head (IsAtOneOf ways) step steps there) in
      let rest = no_entries steps (All-tail (IsAtOneOf ways) step steps there) in
      (ap (λ l. l ++ port_entries looper steps) one.0 ∙ rest.0, ap (λ l. l ++ desk_entries looper steps) one.1 ∙ rest.1, ap (λ l. l ++ port_sights looper steps) one.2 ∙ rest.2)

-- ---- one that was joined
pub joined_there : (roster : RosterSeat) (book : ReplySeat) (all : List Told) (ways : List (Vec (ℕ × Door) Global)) (place : ℕ) (told : Told) → AreSessionsJoined roster book all ways → slice_get all place ≡ Some told
    → (doors : Vec (ℕ × Door) Global) × (slice_get ways place ≡ Some doors) × IsSessionJoined roster book told doors
joined_there roster book [] ways place told are there = absurd (omega (arith, slice_get_within [] place told there))
joined_there roster book (x ∷ all) [] place told are there = absurd are
joined_there roster book (x ∷ all) (doors ∷ ways) zero told are there = (doors, refl, subst (λ (t : Told). IsSessionJoined roster book t doors) (some_same x told there) are.0)
joined_there roster book (x ∷ all) (doors ∷ ways) (suc place) told are there = joined_there roster book all ways place told are.1 there

-- ---- their doors lead where main's doors lead
module _ (heads : List AppHead) (main : RosterSeat) (at_book : ReplySeat) (js : List Joined) (roster : RosterData KeptDoor Object) (all : AllAreJoined heads main at_book js roster) where
  ways_of_one : (told : Told) (doors : Vec (ℕ × Door) Global) → IsSessionJoined main at_book told doors → ((session : Session) → told.1 ≡ Some session → IsStanding session) → AreWaysIn js doors
  ways_of_one told doors joined stood =
      let s = joined.session in
      let is = stood s joined.closed in
      let begins = (part_known rosters.by_number s.roster_seat main roster.entries all.of.known joined.at_roster).begins in
      subst (AreWaysIn js) (sym joined.ways_are)
      (All-weaker (DoorStands is.steps s.roster_seat) (IsWayIn js)
      (λ way stands. at_from heads main at_book js roster all way.0 way.1.port_seat.lock way.1.desk_seat.lock
      (ap (λ (entries : List (EntryWithObjects Object)). slice_get (objects_of entries) way.0) begins.1 ∙ leads_on s.roster_seat.front begins.0 way.0 (door_object way.1.port_seat.lock way.1.desk_seat.lock) stands.leads))
      s.doors.items is.stands.doors)

  pub sessions_lead : (sessions : List Told) (ways : List (Vec (ℕ × Door) Global)) → AreSessionsJoined main at_book sessions ways → All (λ (told : Told). (session : Session) → told.1 ≡ Some session → IsStanding session) sessions → All (AreWaysIn js) ways
  sessions_lead [] [] joined stood = All-nil (AreWaysIn js)
  sessions_lead (told ∷ sessions) (doors ∷ ways) joined stood =
      let P : Told → Type 0 = λ (t : Told). (session : Session) → t.1 ≡ Some session → IsStanding session in
      All-cons (AreWaysIn js) doors ways (ways_of_one told doors joined.0 (All-head P told sessions stood)) (sessions_lead sessions ways joined.1 (All-tail P told sessions stood))
  sessions_lead [] (doors ∷ ways) joined stood = absurd joined
  sessions_lead (told ∷ sessions) [] joined stood = absurd joined

-- ---- one session
module _ (heads : List AppHead) (main : RosterSeat) (at_book : ReplySeat) (js later : List Joined) (roster : RosterData KeptDoor Object) (book : List ReplyEntry) (h : Histories) (all : AllAreJoined heads main at_book js roster)
    (g : IsGathered js later roster at_book book h) (s : Session) (its : List AppHead) (start : ℕ) (steps : List Step) (stands : Stands its start steps s) (at_roster : TookIn s.roster_seat main) (took_book : TookIn s.hands.book_seat at_book)
    (ways_lead : All (IsWayIn js) s.doors.items) (ways_in : All (IsTakenIn later) s.doors.items) (strangers : StrangersAreTold) (tell : EntriesTellPlain Object) where
  abbrev thread : ℕ
  thread = s.hands.clock.thread.0

  way_thread : (way : ℕ × Door) → Contains s.doors.items way → way.1.port_seat.thread ≡ thread
  way_thread way there = All-contains (λ (door : ℕ × Door). door.1.port_seat.thread ≡ thread) s.doors.items way s.doors_thread there

  -- ---- the list of a port and of a desk
  list_there : (n : ℕ) (port : PortData) → slice_get h.ports.items n ≡ Some port → port_list h n ≡ port.entries
  list_there n port at = ap (λ (o : Option PortData). unwrap_or (option_map (λ (p : PortData). p.entries) o) []) at

  list_past : (n : ℕ) → slice_get h.ports.items n ≡ None → port_list h n ≡ []
  list_past n at = ap (λ (o : Option PortData). unwrap_or (option_map (λ (p : PortData). p.entries) o) []) at

  -- ---- behind a door
  stands_at : (way : ℕ × Door) → Contains s.doors.items way → DoorStands steps s.roster_seat way
  stands_at way has = All-contains (DoorStands steps s.roster_seat) s.doors.items way stands.doors has

  taken_at : (way : ℕ × Door) → Contains s.doors.items way → (j : Joined) × (slice_get later way.0 ≡ Some j) × TookBothIn way.1.port_seat way.1.desk_seat j
  taken_at way has = some_and (TookBothIn way.1.port_seat way.1.desk_seat) (slice_get later way.0) (All-contains (IsTakenIn later) s.doors.items way ways_in has)

  port_at_way : (n : ℕ) (port : PortData) → slice_get h.ports.items n ≡ Some port → (way : ℕ × Door) → Contains s.doors.items way → way.0 ≡ n → noted ports.by_number thread port.entries ≡ port_entries n steps
  port_at_way n port at way has same =
      let of = port_of heads main at_book js later roster book h all g n port at in
      let taken = taken_at way has in
      let one : taken.0 ≡ of.looper = some_same taken.0 of.looper (sym taken.1 ∙ ap (slice_get later) same ∙ of.there) in
      let in' : TookBothIn way.1.port_seat way.1.desk_seat of.looper = subst (TookBothIn way.1.port_seat way.1.desk_seat) one taken.2 in
      known_told ports.by_number way.1.port_seat of.looper.door.port_seat port.entries of.is.known in'.at_port thread (way_thread way has) ∙ (stands_at way has).port.noted_is ∙ ap (λ (m : ℕ). port_entries m steps) same

  desk_at_way : (n : ℕ) (way : ℕ × Door) → Contains s.doors.items way → way.0 ≡ n → noted desks.by_number thread (desk_list h n) ≡ desk_entries n steps
  desk_at_way n way has same =
      let taken = taken_at way has in
      let own = books_at later h.ports.items h.desks.items way.0 taken.0 g.kept taken.1 in
      let list : desk_list h n ≡ own.desk.entries = ap (λ (o : Option DeskData). unwrap_or (option_map (λ (d : DeskData). d.entries) o) []) (ap (slice_get h.desks.items) (sym same) ∙ own.desk_there) in
      ap (noted desks.by_number thread) list
      ∙ known_told desks.by_number way.1.desk_seat taken.0.door.desk_seat own.desk.entries own.desk_is.known taken.2.at_desk thread (way.1.thread ∙ way_thread way has)
      ∙ (stands_at way has).desk ∙ ap (λ (m : ℕ). desk_entries m steps) same

  -- ---- elsewhere it made nothing
  nothing_elsewhere : (n : ℕ) → All (λ m. m ≢ n) (numbers_of s) → (port_entries n steps ≡ []) × (desk_entries n steps ≡ []) × (port_sights n steps ≡ [])
  nothing_elsewhere n none = no_entries (numbers_of s) n (λ has. All-contains (λ m. m ≢ n) (numbers_of s) n none has refl) steps stands.at_ways

  -- since it has no part of what leads there
  of_four : (n : ℕ) (o : Option LooperData) → IfSome o (IsNoneOfFour thread n)
  of_four n None = tt
  of_four n (Some one) = record {
    not_main = λ e. omega (arith, e, stands.session.0);
    not_looper = λ e. omega (arith, e, stands.session.1);
    not_own = λ e. omega (arith, e, stands.session.1);
    not_keeper = λ e. omega (arith, e, stands.session.1);
  }

  stranger : (n : ℕ) → All (λ m. m ≢ n) (numbers_of s) → IsStranger thread n (slice_get (state_of heads (plain_entries roster.entries)).loopers n)
  stranger n none =
      let seat = s.roster_seat in
      let known = part_known rosters.by_number seat main roster.entries all.of.known at_roster in
      let mine = own_entries tell n seat roster.entries (roster_entries steps) stands.roster.noted_is (known_is_made rosters.by_number roster.entries (part_of seat) known) (none_of_door n steps (subst (All (λ m. m ≢ n)) stands.ways none)) in
      strangers heads (plain_entries roster.entries) thread n (history heads main at_book js later roster book h all g) (of_four n (slice_get (state_of heads (plain_entries roster.entries)).loopers n))
      (subst (λ (t : ℕ). All (λ (e : RosterEntry). e.event ≢ event.Door n) (made_by rosters.maker_of t (plain_entries roster.entries))) s.roster_thread mine)

  port_at_stranger : (n : ℕ) (port : PortData) → slice_get h.ports.items n ≡ Some port → All (λ m. m ≢ n) (numbers_of s) → noted ports.by_number thread port.entries ≡ port_entries n steps
  port_at_stranger n port at none =
      let made = made_by_holders heads main at_book js later roster book h all g n port at in
      let holds_not : Contains (holders n made.its) thread → ⊥ = subst (IsStranger thread n) made.there (stranger n none) in
      let others : AreByOthers ports.by_number thread port.entries =
      All-weaker (λ (entry : PortEntry). Contains (holders n made.its) (ports.by_number entry)) (λ (entry : PortEntry). ports.by_number entry ≢ thread)
      (λ entry holds same. holds_not (subst (Contains (holders n made.its)) same holds)) port.entries made.makers in
      noted-others ports.by_number thread [] port.entries others ∙ sym (nothing_elsewhere n none).0

  desk_at_stranger : (n : ℕ) → All (λ m. m ≢ n) (numbers_of s) → noted desks.by_number thread (desk_list h n) ≡ desk_entries n steps
  desk_at_stranger n none = ⊎_elim within past (slice_get_cases h.desks.items n).1 ∙ sym (nothing_elsewhere n none).1
    where
      within : (desk : DeskData) × (n < length h.desks.items) × (slice_get h.desks.items n ≡ Some desk) × (get_or h.desks.items n desk ≡ desk) → noted desks.by_number thread (desk_list h n) ≡ []
      within at =
          let made = edited_by_holders heads main at_book js later roster book h all g n at.0 at.2 in
          let holds_not : Contains (holders n made.its) thread → ⊥ = subst (IsStranger thread n) made.there (stranger n none) in
          let others : AreByOthers desks.by_number thread at.0.entries =
          All-weaker (λ (entry : EntryData). Contains (holders n made.its) (desks.by_number entry)) (λ (entry : EntryData). desks.by_number entry ≢ thread)
          (λ entry holds same. holds_not (subst (Contains (holders n made.its)) same holds)) at.0.entries made.makers in
          ap (λ (o : Option DeskData). noted desks.by_number thread (unwrap_or (option_map (λ (d : DeskData). d.entries) o) [])) at.2 ∙ noted-others desks.by_number thread [] at.0.entries others

      past : (length h.desks.items ≤ n) × (slice_get h.desks.items n ≡ None) → noted desks.by_number thread (desk_list h n) ≡ []
      past at = ap (λ (o : Option DeskData). noted desks.by_number thread (unwrap_or (option_map (λ (d : DeskData). d.entries) o) [])) at.1

  -- all ways are to ports that there are
  ways_within : (n : ℕ) → length h.ports.items ≤ n → All (λ m. m ≢ n) (numbers_of s)
  ways_within n past =
      let many = as_many heads main at_book js later roster book h all g in
      All-map (λ m. m ≢ n) (λ (way : ℕ × Door). way.0) s.doors.items
      (All-weaker (IsWayIn js) (λ (way : ℕ × Door). way.0 ≢ n) (λ way at same. (let below : way.0 < length js = slice_get_within js way.0 at.looper at.there in omega (arith, past, many, below, same))) s.doors.items ways_lead)

  -- ---- each port and each desk
  at_ports : (n : ℕ) → noted ports.by_number thread (port_list h n) ≡ port_entries n steps
  at_ports n =
      ⊎_elim
      (λ at. ap (noted ports.by_number thread) (list_there n at.0 at.2)
      ∙ ⊎_elim (λ found. port_at_way n at.0 at.2 found.0 found.1 found.2) (λ none. port_at_stranger n at.0 at.2 none) (way_to s.doors.items n))
      (λ past. ap (noted ports.by_number thread) (list_past n past.1) ∙ sym (nothing_elsewhere n (ways_within n past.0)).0)
      (slice_get_cases h.ports.items n).1

  at_desks : (n : ℕ) → noted desks.by_number thread (desk_list h n) ≡ desk_entries n steps
  at_desks n = ⊎_elim (λ found. desk_at_way n found.0 found.1 found.2) (λ none. desk_at_stranger n none) (way_to s.doors.items n)

  edits : (n : ℕ) → All (StandsIn (desk_list h n)) (desk_entries n steps)
  edits n = subst (All (StandsIn (desk_list h n))) (at_desks n) (noted_stands desks.by_number thread (desk_list h n))

  -- ---- what it saw without an entry
  seen_at_way : (n : ℕ) (port : PortData) → slice_get h.ports.items n ≡ Some port → (way : ℕ × Door) → Contains s.doors.items way → way.0 ≡ n → All (StartsWith port.entries) (port_sights n steps)
  seen_at_way n port at way has same =
      let of = port_of heads main at_book js later roster book h all g n port at in
      let taken = taken_at way has in
      let one : taken.0 ≡ of.looper = some_same taken.0 of.looper (sym taken.1 ∙ ap (slice_get later) same ∙ of.there) in
      let in' : TookBothIn way.1.port_seat way.1.desk_seat of.looper = subst (TookBothIn way.1.port_seat way.1.desk_seat) one taken.2 in
      let begins = (part_known ports.by_number way.1.port_seat of.looper.door.port_seat port.entries of.is.known in'.at_port).begins in
      subst (λ (m : ℕ). All (StartsWith port.entries) (port_sights m steps)) same (seen_still way.1.port_seat.front port.entries (port_sights way.0 steps) begins (stands_at way has).port.seen)

  nothing_seen : (n : ℕ) (entries : List PortEntry) → All (λ m. m ≢ n) (numbers_of s) → All (StartsWith entries) (port_sights n steps)
  nothing_seen n entries none = subst (All (StartsWith entries)) (sym (nothing_elsewhere n none).2) (All-nil (StartsWith entries))

  ports_seen : (n : ℕ) → All (StartsWith (port_list h n)) (port_sights n steps)
  ports_seen n =
      ⊎_elim
      (λ at. subst (λ (es : List PortEntry). All (StartsWith es) (port_sights n steps)) (sym (list_there n at.0 at.2))
      (⊎_elim (λ found. seen_at_way n at.0 at.2 found.0 found.1 found.2) (λ none. nothing_seen n at.0.entries none) (way_to s.doors.items n)))
      (λ past. nothing_seen n (port_list h n) (ways_within n past.0))
      (slice_get_cases h.ports.items n).1

  roster_seen : All (StartsWith h.roster.items) (roster_sights steps)
  roster_seen =
      let begins = (part_known rosters.by_number s.roster_seat main roster.entries all.of.known at_roster).begins in
      subst (λ (es : List RosterEntry). All (StartsWith es) (roster_sights steps)) (sym g.h_roster)
      (seen_still (plain_entries s.roster_seat.front) (plain_entries roster.entries) (roster_sights steps) (plain_starts s.roster_seat.front roster.entries begins) stands.roster.seen)

  -- ---- what all share
  book_told : noted books.maker_of thread h.book ≡ book_entries steps
  book_told =
      ap (λ (b : List ReplyEntry). noted books.maker_of thread b) g.h_book
      ∙ known_told books.maker_of s.hands.book_seat at_book book g.of_book.known took_book thread s.hands.thread ∙ stands.book.noted_is

  book_seen : All (StartsWith h.book) (book_sights steps)
  book_seen =
      let begins = (part_known books.maker_of s.hands.book_seat at_book book g.of_book.known took_book).begins in
      subst (λ (b : List ReplyEntry). All (StartsWith b) (book_sights steps)) (sym g.h_book)
      (All-weaker (StartsWith s.hands.book_seat.front) (StartsWith book) (λ seen starts. starts_then_starts seen s.hands.book_seat.front book starts begins) (book_sights steps) stands.book.seen)

  roster_told : noted rosters.maker_of thread h.roster.items ≡ roster_entries steps
  roster_told =
      ap (λ (es : List RosterEntry). noted rosters.maker_of thread es) g.h_roster
      ∙ plain_told thread roster.entries (part_of s.roster_seat) s.roster_thread (part_known rosters.by_number s.roster_seat main roster.entries all.of.known at_roster)
      ∙ stands.roster.noted_is

  pub session_done : (number : ℕ) → thread ≡ number → SessionDone h number steps
  session_done number is =
      subst (λ (t : ℕ). SessionDone h t steps) is
      (record { done = record { at_roster = roster_told; at_book = book_told; at_ports = at_ports; at_desks = at_desks; roster_seen = roster_seen; book_seen = book_seen; ports_seen = ports_seen }; edits = edits })

-- ---- all sessions
module _ (heads : List AppHead) (main : RosterSeat) (at_book : ReplySeat) (js later : List Joined) (roster : RosterData KeptDoor Object) (book : List ReplyEntry) (h : Histories) (all : AllAreJoined heads main at_book js roster)
    (g : IsGathered js later roster at_book book h) (shared : Shared) (slots : Slots) (has : HasSlots heads shared slots) (doors : List (Vec (ℕ × Door) Global)) (joined : AreSessionsJoined main at_book (told_in slots) doors) (taken : All (AreTakenIn later) doors)
    (strangers : StrangersAreTold) (tell : EntriesTellPlain Object) where
  pub sessions_done : (place : ℕ) (opened closed : Session) → slice_get (told_in slots) place ≡ Some (opened, Some closed) → (its : List AppHead) (start : ℕ) (steps : List Step) → Stands its start steps closed → SessionDone h (place + 1) steps
  sessions_done place opened closed there its start steps stands =
      let told : Told = (opened, Some closed) in
      let is = has.each place told there in
      let came = came_of heads shared place told closed is refl in
      let one = joined_there main at_book (told_in slots) doors place told joined there in
      let same : one.2.session ≡ closed = some_same one.2.session closed (sym one.2.closed) in
      let ways : one.0 ≡ closed.doors = one.2.ways_are ∙ ap (λ (s : Session). s.doors) same in
      let lead = all_at (AreWaysIn js) doors place one.0 (sessions_lead heads main at_book js roster all (told_in slots) doors joined (all_stood heads shared slots has)) one.1 in
      let took = all_at (AreTakenIn later) doors place one.0 taken one.1 in
      session_done heads main at_book js later roster book h all g closed its start steps stands
      (subst (λ (s : Session). TookIn s.roster_seat main) same one.2.at_roster) (subst (λ (s : Session). TookIn s.hands.book_seat at_book) same one.2.at_book)
      (subst (AreWaysIn js) ways lead) (subst (AreTakenIn later) ways took) strangers tell (place + 1)
      (ap (λ (t : ThreadId). t.0) came.keeps.thread ∙ is.thread)
