-- What the kept lists tell of each looper, and of the run.
use Rattle.std.proofs.Common.{◌≡◌, ◌≢◌, ◌<◌, ◌≤◌, ◌==◌, ℕ, Bool, true, false, cond, List, [], ◌∷◌, ◌++◌, length, map, All, AllPairs, Any, Contains, Option, None, Some, ⊎_elim, refl, sym, ap, ◌∙◌, subst, eqb-true, eq-eqb, arith}
use Rattle.std.specs.Prelude.{get_or, option_map, slice_get, unwrap_or}
use Rattle.std.specs.List.{list_any}
use Rattle.std.proofs.lemmas.List.{get_or-map, length-map}
use Rattle.std.proofs.lemmas.List.Elements.{All-cons, All-contains, All-map, All-nil, All-weaker}
use Rattle.std.proofs.lemmas.Option.{slice_get_cases, slice_get_within}
use Rattle.ak_base.specs.Thread.{looper_thread}
use Rattle.ak_base.specs.declared.thread.ThreadId.{ThreadId}
use Rattle.ak_turn.specs.Entries.{AreByOthers, StartsWith}
use Rattle.ak_turn.specs.Noted.{noted}
use Rattle.ak_turn.specs.Seats.{part_of}
use Rattle.ak_turn.proofs.Surface.{known_is_made, noted-others, seen_still, starts_then_starts}
use Rattle.ak_roster.specs.declared.entry.EntryWithObjects.{EntryWithObjects}
use Rattle.ak_roster.specs.declared.entry.RosterEntry.{RosterEntry}
use Rattle.ak_roster.specs.declared.head.AppHead.{AppHead}
use Rattle.ak_roster.specs.Laws.{EntriesTellPlain, HoldersAreTold, LaunchesHaveLoopers, OwnsStayInTeams, StrangersAreTold}
use Rattle.ak_roster.specs.Machine.{IsHistory, holders, state_of}
use Rattle.ak_roster.specs.Roster.{IsStranger, RosterData, plain_entries}
use Rattle.ak_port.specs.declared.port_entry.PortEntry.{PortEntry}
use Rattle.ak_port.specs.declared.reply_entry.ReplyEntry.{ReplyEntry}
use Rattle.ak_port.specs.PortCalls as ports
use Rattle.ak_port.specs.PortCalls.{PortData}
use Rattle.ak_port.specs.PortMachine.{IsPort}
use Rattle.ak_port.specs.Reply.{HasFlatText, IsLegal}
use Rattle.ak_port.specs.ReplySeats as books
use Rattle.ak_port.specs.ReplySeats.{ReplySeat}
use Rattle.ak_action.specs.declared.state.DeskState.{DeskState}
use Rattle.ak_desk.specs.Desk.{DeskData}
use Rattle.ak_desk.specs.Entry.{EntryData}
use Rattle.ak_desk.specs.Shared as desks
use Rattle.ak_desk.specs.Shared.{LeadsOn}
use Rattle.ak_diary.specs.declared.histories.Histories.{Histories}
use Rattle.ak_diary.specs.Diary.{by_quit, by_team, without_memory}
use Rattle.ak_diary.specs.Laws.{HasDiary}
use Rattle.ak_diary.specs.Looper.{LooperFacts, desk_list, doors_got, is_of_team, last_quits}
use Rattle.ak_diary.specs.Step.{book_entries, book_sights, desk_entries, port_entries, port_sights, ran_short, roster_entries, roster_sights}
use Rattle.ak_headline.specs.Run as headline
use Rattle.ak_headline.specs.Run.{HasLooper, StartedAt, port_list}
use Rattle.ak_looper.specs.declared.door.Door.{Door}
use Rattle.ak_looper.specs.declared.job.LooperEnd.{LooperEnd}
use Rattle.ak_looper.specs.declared.job.LooperJob.{LooperJob}
use Rattle.ak_looper.specs.declared.kept_door.KeptDoor.{KeptDoor}
use Rattle.ak_looper.specs.Job.{facts_of}
use Rattle.ak_looper.specs.Living.{kind_of}
use Rattle.ak_looper.specs.Rosters as rosters
use Rattle.ak_looper.specs.Rosters.{Object, RosterSeat}
use Rattle.ak_looper.specs.Stands.{DoorStands, doors_kept}
use Rattle.ak_looper.proofs.Surface.{is_stranger, no_entries, no_sights, plain_starts}
use Rattle.ak_gather.specs.declared.gathering.Joined.{Joined}
use Rattle.ak_gather.specs.Ending.{IsRunOfLoopers}
use Rattle.ak_gather.specs.Gathering.{IsGaining, IsJoined, IsTakenIn, IsWayIn, TookBothIn, is_short, short_of}
use Rattle.ak_looper.specs.Starts.{StartsAt}
use Rattle.ak_gather.specs.Below.{AreBelow}
use Rattle.ak_gather.proofs.Books.{all_desks, all_ports, as_many_desks, as_many_ports}
use Rattle.ak_gather.proofs.Elsewhere.{elsewhere}
use Rattle.ak_gather.proofs.Knowing.{known_told, part_known, plain_told}
use Rattle.ak_gather.proofs.Launched.{launched_at, launched_whole}
use Rattle.ak_gather.proofs.Makers.{IsGathered, as_many, book_makers, desk_makers, desk_of, edited_by_holders, history, made_by_holders, port_makers, port_of, roster_made}
use Rattle.ak_gather.proofs.Paired.{AllAreJoined, all_started, ways_lead}
use Rattle.ak_gather.proofs.Placed.{BooksAt, books_at, number_at, short_at, short_below, short_rise, way_to}
use Rattle.ak_gather.proofs.Taking.{all_at, and_there, at_place, some_and}

-- ---- the launch that a looper's job has seen, as the journal shows it
any_plain : (l : LooperFacts) (time : ℕ) (entries : List (EntryWithObjects Object)) → Any (StartsAt l time) entries → Any (StartedAt l time) (plain_entries entries)
any_plain l time entries there =
    let plain : EntryWithObjects Object → RosterEntry = λ e. e.plain in
    let x = there.1 in
    let within : there.0 < length (plain_entries entries) = omega (arith, length-map entries plain, there.2) in
    (there.0, plain x, within, get_or-map plain entries there.0 x (plain x) there.2 ∙ ap plain there.3, there.4)

-- ---- how it ended tells whether it found no memory
short_ending : (b quits : Bool) → is_short (kind_of (cond b without_memory (cond quits by_quit by_team))) ≡ b
short_ending true quits = refl
short_ending false true = refl
short_ending false false = refl

-- ---- one looper
module _ (heads : List AppHead) (main : RosterSeat) (at_book : ReplySeat) (js later : List Joined) (roster : RosterData KeptDoor Object) (book : List ReplyEntry) (h : Histories) (all : AllAreJoined heads main at_book js roster)
    (g : IsGathered js later roster at_book book h) (k : ℕ) (j : Joined) (there : slice_get js k ≡ Some j) (is : IsJoined heads main at_book j) where
  abbrev job : LooperJob
  job = j.job.value

  abbrev end : LooperEnd
  end = j.end.value

  abbrev l : LooperFacts
  l = facts_of job is.lived.heads is.lived.desk_opening

  abbrev thread : ℕ
  thread = looper_thread job.number

  same_heads : is.lived.heads ≡ heads
  same_heads = let both : Some is.lived.heads ≡ Some heads = sym is.lived.heads_are ∙ is.heads_are in cc both

  number : job.number ≡ k
  number = is.number ∙ number_at js k j all.numbers there

  -- each seat that it gave back is its thread's
  clock_thread : end.hands.clock.thread.0 ≡ thread
  clock_thread = ap (λ (t : ThreadId). t.0) is.lived.thread ∙ job.looper

  port_thread : end.own.port_seat.thread ≡ thread
  port_thread = end.own_thread ∙ clock_thread

  desk_thread : end.own.desk_seat.thread ≡ thread
  desk_thread = end.own.thread ∙ port_thread

  book_thread : end.hands.book_seat.thread ≡ thread
  book_thread = end.hands.thread ∙ clock_thread

  roster_thread : end.roster_seat.thread ≡ thread
  roster_thread = end.roster_thread ∙ clock_thread

  -- ---- the list of a port
  list_there : (n : ℕ) (port : PortData) → slice_get h.ports.items n ≡ Some port → port_list h n ≡ port.entries
  list_there n port at = ap (λ (o : Option PortData). unwrap_or (option_map (λ (p : PortData). p.entries) o) []) at

  list_past : (n : ℕ) → slice_get h.ports.items n ≡ None → port_list h n ≡ []
  list_past n at = ap (λ (o : Option PortData). unwrap_or (option_map (λ (p : PortData). p.entries) o) []) at

  -- ---- its own port and desk
  module _ (mine : Joined) (gaining : IsGaining j mine) (own : BooksAt h.ports.items h.desks.items k mine) where
    port_legal : IsPort thread own.port.entries
    port_legal =
        let both : Some is.taker ≡ Some own.port.taker = sym is.port_opening ∙ sym gaining.port.opening ∙ own.port_is.opening in
        let same : own.port.taker ≡ is.taker = cc both in
        subst (λ (t : ℕ). IsPort t own.port.entries) (ap (λ (t : ThreadId). t.0) same ∙ is.taker_is ∙ ap looper_thread (sym is.number)) own.port_is.legal

    port_told : noted ports.by_number thread own.port.entries ≡ port_entries job.number is.lived.steps
    port_told =
        known_told ports.by_number end.own.port_seat mine.door.port_seat own.port.entries own.port_is.known (gaining.port.parts (part_of end.own.port_seat) is.at_port) thread port_thread ∙ is.lived.port.noted_is

    desk_opened : is.lived.desk_opening ≡ own.desk.opening
    desk_opened =
        let given : Some is.lived.desk_opening ≡ Some is.desk = sym is.lived.desk_is ∙ is.job_desk in
        let kept : Some is.desk ≡ Some own.desk.opening = sym is.desk_opening ∙ sym gaining.desk.opening ∙ own.desk_is.opening in
        cc (given, kept)

    desk_told : noted desks.by_number thread own.desk.entries ≡ desk_entries job.number is.lived.steps
    desk_told =
        known_told desks.by_number end.own.desk_seat mine.door.desk_seat own.desk.entries own.desk_is.known (gaining.desk.parts (part_of end.own.desk_seat) is.at_desk) thread desk_thread ∙ is.lived.desk.noted_is

    desk_looper : is.lived.desk_opening.looper ≡ job.number
    desk_looper =
        let both : Some is.lived.desk_opening ≡ Some is.ready.desk_opening = sym is.lived.desk_is ∙ is.ready.desk_is in
        let same : is.lived.desk_opening ≡ is.ready.desk_opening = cc both in
        ap (λ (d : DeskState). d.looper) same ∙ is.ready.desk_looper

    own_diary : HasDiary l is.lived.steps own.port.entries own.desk.entries
    own_diary = record {
      legal = is.lived.legal;
      port_legal = port_legal;
      desk_legal = subst (λ (d : DeskState). LeadsOn d own.desk.entries) (sym desk_opened) own.desk_is.legal;
      own_desk = desk_looper;
      port_told = port_told;
      desk_told = desk_told;
    }

    has_diary : HasDiary l is.lived.steps (port_list h k) (headline.desk_list h k)
    has_diary =
        let port : port_list h k ≡ own.port.entries = list_there k own.port own.port_there in
        let desk : headline.desk_list h k ≡ own.desk.entries = ap (λ (o : Option DeskData). unwrap_or (option_map (λ (d : DeskData). d.entries) o) []) own.desk_there in
        subst (λ (es : List EntryData). HasDiary l is.lived.steps (port_list h k) es) (sym desk) (subst (λ (es : List PortEntry). HasDiary l is.lived.steps es own.desk.entries) (sym port) own_diary)

    opened : option_map (λ (desk : DeskData). desk.opening) (slice_get h.desks.items k) ≡ Some l.desk
    opened = ap (option_map (λ (desk : DeskData). desk.opening)) own.desk_there ∙ ap (λ (d : DeskState). Some d) (sym desk_opened)

    -- ---- any port
    at_own : (n : ℕ) (port : PortData) → slice_get h.ports.items n ≡ Some port → n ≡ job.number → noted ports.by_number thread port.entries ≡ port_entries n is.lived.steps
    at_own n port at same =
        let both : Some own.port ≡ Some port = sym own.port_there ∙ ap (slice_get h.ports.items) (sym (same ∙ number)) ∙ at in
        let one : own.port ≡ port = cc both in
        ap (λ (p : PortData). noted ports.by_number thread p.entries) (sym one) ∙ port_told ∙ ap (λ (m : ℕ). port_entries m is.lived.steps) (sym same)

  -- the numbers of its own port and of those behind its doors
  abbrev ways : List ℕ
  ways = end.number ∷ map (λ (way : ℕ × Door). way.0) end.doors.items

  way_thread : (way : ℕ × Door) → Contains end.doors.items way → way.1.port_seat.thread ≡ thread
  way_thread way there = All-contains (λ (door : ℕ × Door). door.1.port_seat.thread ≡ end.hands.clock.thread.0) end.doors.items way is.lived.doors_thread there ∙ clock_thread

  -- behind a door
  at_way : (n : ℕ) (port : PortData) → slice_get h.ports.items n ≡ Some port → (way : ℕ × Door) → Contains end.doors.items way → way.0 ≡ n → noted ports.by_number thread port.entries ≡ port_entries n is.lived.steps
  at_way n port at way has same =
      let of = port_of heads main at_book js later roster book h all g n port at in
      let took : IsTakenIn later way = All-contains (IsTakenIn later) end.doors.items way (all_at (λ (x : Joined). All (IsTakenIn later) x.end.value.doors.items) js k j g.ways_in there) has in
      let seat = way.1.port_seat in
      let both = and_there (TookBothIn seat way.1.desk_seat) (slice_get later way.0) of.looper (ap (slice_get later) same ∙ of.there) took in
      let stands = All-contains (DoorStands is.lived.steps end.roster_seat) end.doors.items way is.lived.doors has in
      known_told ports.by_number seat of.looper.door.port_seat port.entries of.is.known both.at_port thread (way_thread way has) ∙ stands.port.noted_is ∙ ap (λ (m : ℕ). port_entries m is.lived.steps) same

  seen_at_way : (n : ℕ) (port : PortData) → slice_get h.ports.items n ≡ Some port → (way : ℕ × Door) → Contains end.doors.items way → way.0 ≡ n → All (StartsWith port.entries) (port_sights n is.lived.steps)
  seen_at_way n port at way has same =
      let of = port_of heads main at_book js later roster book h all g n port at in
      let took : IsTakenIn later way = All-contains (IsTakenIn later) end.doors.items way (all_at (λ (x : Joined). All (IsTakenIn later) x.end.value.doors.items) js k j g.ways_in there) has in
      let seat = way.1.port_seat in
      let both = and_there (TookBothIn seat way.1.desk_seat) (slice_get later way.0) of.looper (ap (slice_get later) same ∙ of.there) took in
      let stands = All-contains (DoorStands is.lived.steps end.roster_seat) end.doors.items way is.lived.doors has in
      let begins = (part_known ports.by_number seat of.looper.door.port_seat port.entries of.is.known both.at_port).begins in
      subst (λ (m : ℕ). All (StartsWith port.entries) (port_sights m is.lived.steps)) same (seen_still seat.front port.entries (port_sights way.0 is.lived.steps) begins stands.port.seen)

  -- at the desk behind a door it made nothing
  desk_at_way : (n : ℕ) (desk : DeskData) → slice_get h.desks.items n ≡ Some desk → (way : ℕ × Door) → Contains end.doors.items way → way.0 ≡ n → noted desks.by_number thread desk.entries ≡ []
  desk_at_way n desk at way has same =
      let of = desk_of heads main at_book js later roster book h all g n desk at in
      let took : IsTakenIn later way = All-contains (IsTakenIn later) end.doors.items way (all_at (λ (x : Joined). All (IsTakenIn later) x.end.value.doors.items) js k j g.ways_in there) has in
      let seat = way.1.desk_seat in
      let both = and_there (TookBothIn way.1.port_seat seat) (slice_get later way.0) of.looper (ap (slice_get later) same ∙ of.there) took in
      let stands = All-contains (DoorStands is.lived.steps end.roster_seat) end.doors.items way is.lived.doors has in
      known_told desks.by_number seat of.looper.door.desk_seat desk.entries of.is.known both.at_desk thread (way.1.thread ∙ way_thread way has) ∙ stands.desk

  -- elsewhere it made nothing
  nothing_elsewhere : (n : ℕ) → All (λ m. m ≢ n) ways → port_entries n is.lived.steps ≡ []
  nothing_elsewhere n none = no_entries ways n (λ has. All-contains (λ m. m ≢ n) ways n none has refl) is.lived.steps is.lived.at_ways

  ways_are : (n : ℕ) → All (λ m. m ≢ n) (map (λ (way : ℕ × Door). way.0) end.doors.items) → All (λ m. m ≢ n) (doors_kept l ++ doors_got is.lived.steps)
  ways_are n none =
      subst (All (λ m. m ≢ n)) (is.lived.ways ∙ ap (λ (ns : List ℕ). ns ++ doors_got is.lived.steps) is.ready.doors) none

  -- since it has no part of what leads there
  stranger : OwnsStayInTeams → StrangersAreTold → EntriesTellPlain Object → (n : ℕ) → n ≢ job.number → All (λ m. m ≢ n) (map (λ (way : ℕ × Door). way.0) end.doors.items)
      → IsStranger thread n (slice_get (state_of heads (plain_entries roster.entries)).loopers n)
  stranger owns strangers tell n other none =
      let seat = end.roster_seat in
      let known = part_known rosters.by_number seat main roster.entries all.of.known is.at_roster in
      let past : IsHistory l.heads (plain_entries roster.entries) = subst (λ (hs : List AppHead). IsHistory hs (plain_entries roster.entries)) (sym same_heads) (history heads main at_book js later roster book h all g) in
      subst (λ (hs : List AppHead). IsStranger thread n (slice_get (state_of hs (plain_entries roster.entries)).loopers n)) same_heads
      (subst (λ (t : ℕ). IsStranger t n (slice_get (state_of l.heads (plain_entries roster.entries)).loopers n)) roster_thread
      (is_stranger owns strangers tell l is.lived.steps seat n roster.entries past (launched_whole heads main at_book j is roster all.of) is.ready.of_team is.ready.within is.lived.roster.noted_is
      (known_is_made rosters.by_number roster.entries (part_of seat) known) roster_thread other (ways_are n none)))

  at_stranger : OwnsStayInTeams → StrangersAreTold → EntriesTellPlain Object → (n : ℕ) (port : PortData) → slice_get h.ports.items n ≡ Some port → n ≢ job.number → All (λ m. m ≢ n) (map (λ (way : ℕ × Door). way.0) end.doors.items)
      → noted ports.by_number thread port.entries ≡ port_entries n is.lived.steps
  at_stranger owns strangers tell n port at other none =
      let made = made_by_holders heads main at_book js later roster book h all g n port at in
      let holds_not : Contains (holders n made.its) thread → ⊥ = subst (IsStranger thread n) made.there (stranger owns strangers tell n other none) in
      let others : AreByOthers ports.by_number thread port.entries =
      All-weaker (λ (entry : PortEntry). Contains (holders n made.its) (ports.by_number entry)) (λ (entry : PortEntry). ports.by_number entry ≢ thread)
      (λ entry holds same. holds_not (subst (Contains (holders n made.its)) same holds)) port.entries made.makers in
      noted-others ports.by_number thread [] port.entries others
      ∙ sym (nothing_elsewhere n (All-cons (λ m. m ≢ n) end.number (map (λ (way : ℕ × Door). way.0) end.doors.items) (λ same. other (sym (sym is.lived.number ∙ same))) none))

  desk_at_stranger : OwnsStayInTeams → StrangersAreTold → EntriesTellPlain Object → (n : ℕ) (desk : DeskData) → slice_get h.desks.items n ≡ Some desk → n ≢ job.number → All (λ m. m ≢ n) (map (λ (way : ℕ × Door). way.0) end.doors.items)
      → noted desks.by_number thread desk.entries ≡ []
  desk_at_stranger owns strangers tell n desk at other none =
      let made = edited_by_holders heads main at_book js later roster book h all g n desk at in
      let holds_not : Contains (holders n made.its) thread → ⊥ = subst (IsStranger thread n) made.there (stranger owns strangers tell n other none) in
      let others : AreByOthers desks.by_number thread desk.entries =
      All-weaker (λ (entry : EntryData). Contains (holders n made.its) (desks.by_number entry)) (λ (entry : EntryData). desks.by_number entry ≢ thread)
      (λ entry holds same. holds_not (subst (Contains (holders n made.its)) same holds)) desk.entries made.makers in
      noted-others desks.by_number thread [] desk.entries others

  -- all ways are to ports that there are
  ways_within : (n : ℕ) → length h.ports.items ≤ n → All (λ m. m ≢ n) ways
  ways_within n past =
      let many = as_many heads main at_book js later roster book h all g in
      let low : k < length js = slice_get_within js k j there in
      let lead = all_at (λ (x : Joined). All (IsWayIn js) x.end.value.doors.items) js k j (ways_lead heads main at_book js roster all) there in
      All-cons (λ m. m ≢ n) end.number (map (λ (way : ℕ × Door). way.0) end.doors.items) (λ same. omega (arith, past, many, low, sym is.lived.number ∙ same, number))
      (All-map (λ m. m ≢ n) (λ (way : ℕ × Door). way.0) end.doors.items
      (All-weaker (IsWayIn js) (λ (way : ℕ × Door). way.0 ≢ n) (λ way at same. (let below : way.0 < length js = slice_get_within js way.0 at.looper at.there in omega (arith, past, many, below, same))) end.doors.items lead))

  module _ (mine : Joined) (gaining : IsGaining j mine) (own : BooksAt h.ports.items h.desks.items k mine) (owns : OwnsStayInTeams) (strangers : StrangersAreTold) (tell : EntriesTellPlain Object) where
    at_there : (n : ℕ) (port : PortData) → slice_get h.ports.items n ≡ Some port → (b : Bool) → (n == job.number) ≡ b → noted ports.by_number thread port.entries ≡ port_entries n is.lived.steps
    at_there n port at true same = at_own mine gaining own n port at (eqb-true n job.number same)
    at_there n port at false other =
        ⊎_elim (λ found. at_way n port at found.0 found.1 found.2)
        (λ none. at_stranger owns strangers tell n port at (λ same. (let bad : true ≡ false = sym (eq-eqb n job.number same) ∙ other in absurd cc)) none) (way_to end.doors.items n)

    at_ports : (n : ℕ) → noted ports.by_number thread (port_list h n) ≡ port_entries n is.lived.steps
    at_ports n =
        ⊎_elim
        (λ at. ap (noted ports.by_number thread) (list_there n at.0 at.2) ∙ at_there n at.0 at.2 (n == job.number) refl)
        (λ past. ap (noted ports.by_number thread) (list_past n past.1) ∙ sym (nothing_elsewhere n (ways_within n past.0)))
        (slice_get_cases h.ports.items n).1

    -- ---- any desk
    at_desk_there : (n : ℕ) (desk : DeskData) → slice_get h.desks.items n ≡ Some desk → (b : Bool) → (n == job.number) ≡ b → noted desks.by_number thread desk.entries ≡ desk_entries n is.lived.steps
    at_desk_there n desk at true is_own =
        let same = eqb-true n job.number is_own in
        let both : Some own.desk ≡ Some desk = sym own.desk_there ∙ ap (slice_get h.desks.items) (sym (same ∙ number)) ∙ at in
        let one : own.desk ≡ desk = cc both in
        ap (λ (d : DeskData). noted desks.by_number thread d.entries) (sym one) ∙ desk_told mine gaining own ∙ ap (λ (m : ℕ). desk_entries m is.lived.steps) (sym same)
    at_desk_there n desk at false is_other =
        let other : n ≢ job.number = λ same. (let bad : true ≡ false = sym (eq-eqb n job.number same) ∙ is_other in absurd cc) in
        ⊎_elim (λ found. desk_at_way n desk at found.0 found.1 found.2) (λ none. desk_at_stranger owns strangers tell n desk at other none) (way_to end.doors.items n)
        ∙ sym (elsewhere l n other is.lived.steps is.lived.legal)

    at_desks : (n : ℕ) → noted desks.by_number thread (headline.desk_list h n) ≡ desk_entries n is.lived.steps
    at_desks n = ⊎_elim within past (slice_get_cases h.desks.items n).1
      where
        within : (desk : DeskData) × (n < length h.desks.items) × (slice_get h.desks.items n ≡ Some desk) × (get_or h.desks.items n desk ≡ desk) → noted desks.by_number thread (headline.desk_list h n) ≡ desk_entries n is.lived.steps
        within at = ap (λ (o : Option DeskData). noted desks.by_number thread (unwrap_or (option_map (λ (d : DeskData). d.entries) o) [])) at.2 ∙ at_desk_there n at.0 at.2 (n == job.number) refl

        past : (length h.desks.items ≤ n) × (slice_get h.desks.items n ≡ None) → noted desks.by_number thread (headline.desk_list h n) ≡ desk_entries n is.lived.steps
        past at =
            let other : n ≢ job.number = λ same. (let bad : Some own.desk ≡ None = sym own.desk_there ∙ ap (slice_get h.desks.items) (sym (same ∙ number)) ∙ at.1 in absurd cc) in
            ap (λ (o : Option DeskData). noted desks.by_number thread (unwrap_or (option_map (λ (d : DeskData). d.entries) o) [])) at.1 ∙ sym (elsewhere l n other is.lived.steps is.lived.legal)

    -- ---- what all share
    book_told : noted books.maker_of thread h.book ≡ book_entries is.lived.steps
    book_told =
        ap (λ (b : List ReplyEntry). noted books.maker_of thread b) g.h_book
        ∙ known_told books.maker_of end.hands.book_seat at_book book g.of_book.known is.at_book thread book_thread ∙ is.lived.book.noted_is

    book_seen : All (StartsWith h.book) (book_sights is.lived.steps)
    book_seen =
        let begins = (part_known books.maker_of end.hands.book_seat at_book book g.of_book.known is.at_book).begins in
        subst (λ (b : List ReplyEntry). All (StartsWith b) (book_sights is.lived.steps)) (sym g.h_book)
        (All-weaker (StartsWith end.hands.book_seat.front) (StartsWith book) (λ seen starts. starts_then_starts seen end.hands.book_seat.front book starts begins) (book_sights is.lived.steps) is.lived.book.seen)

    roster_told : noted rosters.maker_of thread h.roster.items ≡ roster_entries is.lived.steps
    roster_told =
        ap (λ (es : List RosterEntry). noted rosters.maker_of thread es) g.h_roster
        ∙ plain_told thread roster.entries (part_of end.roster_seat) roster_thread (part_known rosters.by_number end.roster_seat main roster.entries all.of.known is.at_roster)
        ∙ is.lived.roster.noted_is

    started : Any (StartedAt l job.hands.clock.time) h.roster.items
    started = subst (λ (es : List RosterEntry). Any (StartedAt l job.hands.clock.time) es) (sym g.h_roster) (any_plain l job.hands.clock.time roster.entries (launched_at heads main at_book j is roster all.of))

    -- ---- what it saw without an entry
    roster_seen : All (StartsWith h.roster.items) (roster_sights is.lived.steps)
    roster_seen =
        let begins = (part_known rosters.by_number end.roster_seat main roster.entries all.of.known is.at_roster).begins in
        subst (λ (es : List RosterEntry). All (StartsWith es) (roster_sights is.lived.steps)) (sym g.h_roster)
        (seen_still (plain_entries end.roster_seat.front) (plain_entries roster.entries) (roster_sights is.lived.steps) (plain_starts end.roster_seat.front roster.entries begins) is.lived.roster.seen)

    seen_at_own : (n : ℕ) (port : PortData) → slice_get h.ports.items n ≡ Some port → n ≡ job.number → All (StartsWith port.entries) (port_sights n is.lived.steps)
    seen_at_own n port at same =
        let both : Some own.port ≡ Some port = sym own.port_there ∙ ap (slice_get h.ports.items) (sym (same ∙ number)) ∙ at in
        let one : own.port ≡ port = cc both in
        let begins = (part_known ports.by_number end.own.port_seat mine.door.port_seat own.port.entries own.port_is.known (gaining.port.parts (part_of end.own.port_seat) is.at_port)).begins in
        subst (λ (p : PortData). All (StartsWith p.entries) (port_sights n is.lived.steps)) one
        (subst (λ (m : ℕ). All (StartsWith own.port.entries) (port_sights m is.lived.steps)) (sym same) (seen_still end.own.port_seat.front own.port.entries (port_sights job.number is.lived.steps) begins is.lived.port.seen))

    nothing_seen : (n : ℕ) (entries : List PortEntry) → All (λ m. m ≢ n) ways → All (StartsWith entries) (port_sights n is.lived.steps)
    nothing_seen n entries none =
        subst (All (StartsWith entries)) (sym (no_sights ways n (λ has. All-contains (λ m. m ≢ n) ways n none has refl) is.lived.steps is.lived.at_ways)) (All-nil (StartsWith entries))

    seen_there : (n : ℕ) (port : PortData) → slice_get h.ports.items n ≡ Some port → (b : Bool) → (n == job.number) ≡ b → All (StartsWith port.entries) (port_sights n is.lived.steps)
    seen_there n port at true same = seen_at_own n port at (eqb-true n job.number same)
    seen_there n port at false other =
        ⊎_elim (λ found. seen_at_way n port at found.0 found.1 found.2)
        (λ none. nothing_seen n port.entries (All-cons (λ m. m ≢ n) end.number (map (λ (way : ℕ × Door). way.0) end.doors.items)
        (λ same. (let bad : true ≡ false = sym (eq-eqb n job.number (sym (sym is.lived.number ∙ same))) ∙ other in absurd cc)) none)) (way_to end.doors.items n)

    ports_seen : (n : ℕ) → All (StartsWith (port_list h n)) (port_sights n is.lived.steps)
    ports_seen n =
        ⊎_elim
        (λ at. subst (λ (es : List PortEntry). All (StartsWith es) (port_sights n is.lived.steps)) (sym (list_there n at.0 at.2)) (seen_there n at.0 at.2 (n == job.number) refl))
        (λ past. nothing_seen n (port_list h n) (ways_within n past.0))
        (slice_get_cases h.ports.items n).1

    short_is : (short : List ℕ) → short ≡ short_of js → ran_short is.lived.steps ≡ list_any (λ n. n == k) short
    short_is short are =
        sym (short_ending (ran_short is.lived.steps) (last_quits (desk_list l is.lived.steps))) ∙ ap is_short (sym (is.kind ∙ is.lived.kind))
        ∙ sym (short_at js k j all.numbers there) ∙ ap (list_any (λ n. n == k)) (sym are)

    pub has_looper : (short : List ℕ) → short ≡ short_of js → HasLooper heads short h k
    has_looper short are = record {
      facts = l;
      number_is = number;
      of_team = subst (λ (n : ℕ). is_of_team l n ≡ true) number is.ready.of_team;
      heads_are = same_heads;
      opened = opened mine gaining own;
      time = job.hands.clock.time;
      started = started;
      stamped = is.lived.stamped;
      steps = is.lived.steps;
      diary = has_diary mine gaining own;
      done = record { at_roster = roster_told; at_book = book_told; at_ports = at_ports; at_desks = at_desks; roster_seen = roster_seen; book_seen = book_seen; ports_seen = ports_seen };
      short_is = short_is short are;
    }

-- ---- the run
module _ (heads : List AppHead) (main : RosterSeat) (at_book : ReplySeat) (js later : List Joined) (roster : RosterData KeptDoor Object) (book : List ReplyEntry) (h : Histories) (all : AllAreJoined heads main at_book js roster)
    (g : IsGathered js later roster at_book book h) (sessions : ℕ) (roster_names : AreBelow sessions (length js) main.names) (book_names : AreBelow sessions (length js) at_book.names) (told : HoldersAreTold) (strangers : StrangersAreTold) (tell : EntriesTellPlain Object)
    (owns : OwnsStayInTeams) (launches : LaunchesHaveLoopers) (short : List ℕ) (are : short ≡ short_of js) where
  one : (k : ℕ) → k < length h.ports.items → HasLooper heads short h k
  one k low =
      let within : k < length js = subst (λ (n : ℕ). k < n) (as_many heads main at_book js later roster book h all g) low in
      let j = at_place js k within in
      let is = all_at (IsJoined heads main at_book) js k j.0 all.joined j.1 in
      let now = some_and (IsGaining j.0) (slice_get later k) (g.gains.each k j.0 j.1) in
      let own = books_at later h.ports.items h.desks.items k now.0 g.kept now.1 in
      has_looper heads main at_book js later roster book h all g k j.0 j.1 is now.0 now.2 own owns strangers tell short are

  pub is_run : IsRunOfLoopers heads short sessions h
  is_run = record {
    histories = record {
      roster = subst (IsHistory heads) (sym g.h_roster) (history heads main at_book js later roster book h all g);
      book = subst IsLegal (sym g.h_book) g.of_book.legal;
      texts = subst (λ (entries : List ReplyEntry). All (λ (entry : ReplyEntry). HasFlatText entry.event) entries) (sym g.h_book) g.of_book.texts;
      ports = all_ports later h.ports.items h.desks.items g.kept;
      desks = all_desks later h.ports.items h.desks.items g.kept;
      each = as_many_desks later h.ports.items h.desks.items g.kept ∙ sym (as_many_ports later h.ports.items h.desks.items g.kept);
    };
    all =
        as_many heads main at_book js later roster book h all g
        ∙ sym (ap (λ (es : List RosterEntry). length (state_of heads es).loopers) g.h_roster ∙ all_started heads main at_book js roster all);
    loopers = one;
    short_are =
        subst (All (λ (n : ℕ). n < length h.ports.items)) (sym are)
        (subst (λ (m : ℕ). All (λ (n : ℕ). n < m) (short_of js)) (sym (as_many heads main at_book js later roster book h all g)) (short_below js all.numbers));
    short_once = subst (AllPairs (λ (a b : ℕ). a < b)) (sym are) (short_rise js all.numbers);
    roster_makers = roster_made heads main at_book js later roster book h all g sessions roster_names told launches;
    book_makers = book_makers heads main at_book js later roster book h all g sessions roster_names told launches book_names;
    port_makers = port_makers heads main at_book js later roster book h all g sessions roster_names told launches;
    desk_makers = desk_makers heads main at_book js later roster book h all g sessions roster_names told launches;
  }
