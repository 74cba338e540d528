-- A run's calls as acts of main's.
use Rattle.std.proofs.Common.{◌≡◌, ◌≢◌, ℕ, zero, suc, ◌<◌, false, List, [], ◌∷◌, ◌++◌, length, map, refl, sym, ap, ◌∙◌, subst, append_assoc, append-nil, arith, Option}
use Rattle.std.specs.Prelude.{get_or, set}
use Rattle.std.proofs.lemmas.List.{get_or-set_other, get_or-set_same, length-append, length-map, map-append, map-set}
use Rattle.std.proofs.lemmas.List.Elements.{All-nil}
use Rattle.std.proofs.Math.Seq.{get_or-append_seam}
use Rattle.ak_base.specs.Thread.{main_thread}
use Rattle.ak_turn.specs.Entries.{AreByOthers, StartsWith}
use Rattle.ak_turn.specs.Noted.{Noted, noted}
use Rattle.ak_turn.specs.Seats.{IsGiven, KnowsWhole, at_leisure, entered_by}
use Rattle.ak_roster.specs.declared.head.AppHead.{AppHead}
use Rattle.ak_roster.specs.declared.entry.EntryWithObjects.{EntryWithObjects}
use Rattle.ak_roster.specs.declared.entry.RosterEntry.{RosterEntry}
use Rattle.ak_roster.specs.declared.entry.RosterEvent.{RosterEvent}
use Rattle.ak_roster.specs.Roster.{plain_entries}
use Rattle.ak_port.specs.declared.port_entry.PortEntry.{PortEntry}
use Rattle.ak_port.specs.declared.reply_entry.ReplyEntry.{ReplyEntry}
use Rattle.ak_port.specs.PortCalls as at_ports
use Rattle.ak_desk.specs.Entry.{EntryData}
use Rattle.ak_desk.specs.Shared as at_desks
use Rattle.ak_diary.specs.Step.{Step, desk_entries, desk_entry}
use Rattle.ak_headline.specs.Main.{IsMainDiary, begun}
use Rattle.ak_headline.specs.Run.{EditsStarted}
use Rattle.ak_looper.specs.declared.door.Door.{Door}
use Rattle.ak_looper.specs.Rosters.{Object, RosterSeat, by_number, plain_of}
use Rattle.ak_gather.specs.declared.member.Member.{Member}
use Rattle.ak_run.specs.declared.run.Run.{Run}
use Rattle.ak_team.specs.Launching.{Book, HasEntered, IsTurnInTime, turn_step}
use Rattle.ak_run.specs.Recording.{Fronts, GoesBy, HasRecord, IsRecorded, Records, RecordsAtNew, RecordsBeside, RecordsSo, RecordsStart, StartsQuietly, fronts, fronts_of, fronts_with, list_at}
use Rattle.ak_gather.specs.Members.{member_front}
use Rattle.ak_run.proofs.Acting.{ActsAtBoth, roster_goes, turn_no_edits}
use Rattle.ak_run.proofs.Acts.{GoesAtBoth, both_goes, recorded_on, records_then, same_fronts, seam_other, set_before, then_those}
use Rattle.ak_run.proofs.EditsMore.{edits_more}
use Rattle.ak_team.proofs.Surface.{no_time}
use Rattle.ak_run.proofs.RosterTurn.{sees_all}

-- ---- main's diary
module _ (heads : List AppHead) (a b : Fronts) (xs ys : ℕ → List EntryData) where
  abbrev edits_in : List EntryData → List (Noted EntryData)
  edits_in entries = noted at_desks.by_number main_thread entries

  pub record_by : (steps : List Step) → GoesBy steps a b → ((looper : ℕ) → edits_in (ys looper) ≡ edits_in (xs looper) ++ desk_entries looper steps) → (has : HasRecord heads a xs) → EditsStarted heads (has.did ++ steps) → HasRecord heads b ys
  record_by steps goes edits has starts = record {
    did = has.did ++ steps;
    recorded = recorded_on has.did steps a b goes has.recorded;
    started = starts;
    edits = λ looper. then_those (desk_entry looper) has.did steps [] (edits_in (xs looper)) (edits_in (ys looper)) (has.edits looper) (edits looper);
  }

  -- by acts without an edit
  pub record_on : Records a b → ((looper : ℕ) → edits_in (ys looper) ≡ edits_in (xs looper)) → HasRecord heads a xs → HasRecord heads b ys
  record_on more same has =
      record_by more.steps more.goes (λ looper. same looper ∙ sym (ap (λ l. edits_in (xs looper) ++ l) (more.no_edits looper) ∙ append-nil (edits_in (xs looper)))) has
      (edits_more heads has.did more.steps has.started more.no_edits)

-- nothing was done
pub nothing_yet : (r : Run) → r.hands.clock.time ≡ 0 → r.roster_seat.front ≡ [] → r.hands.book_seat.front ≡ [] → r.members.items ≡ [] → IsRecorded [] (fronts_of r)
nothing_yet r time roster book none =
    let is : fronts_of r ≡ fronts 0 [] [] [] =
    ap (λ (t : ℕ). fronts t (plain_of r.roster_seat) r.hands.book_seat.front (map member_front r.members.items ++ [])) time
    ∙ ap (λ l. fronts 0 (plain_entries l) r.hands.book_seat.front (map member_front r.members.items ++ [])) roster ∙ ap (λ l. fronts 0 [] l (map member_front r.members.items ++ [])) book
    ∙ ap (λ (ms : List Member). fronts 0 [] [] (map member_front ms ++ [])) none in
    subst (IsRecorded []) (sym is) (record {
      diary = begun;
      in_time = no_time 0;
      roster = refl;
      roster_seen = All-nil (StartsWith []);
      book = refl;
      book_seen = All-nil (StartsWith []);
      ports = λ looper. none_there looper;
      ports_seen = λ looper. All-nil (StartsWith (list_at [] looper));
    })
  where
    none_there : (looper : ℕ) → noted at_ports.by_number main_thread (list_at [] looper) ≡ []
    none_there zero = refl
    none_there (suc n) = refl

-- where neither the time nor a front changed
pub fronts_same : (r r' : Run) → r'.hands.clock.time ≡ r.hands.clock.time → r'.members ≡ r.members → r'.roster_seat.front ≡ r.roster_seat.front → r'.hands.book_seat.front ≡ r.hands.book_seat.front → (new : List (List PortEntry)) → fronts_with r' new ≡ fronts_with r new
fronts_same r r' time members roster book new =
    ap (λ (t : ℕ). fronts t (plain_of r'.roster_seat) r'.hands.book_seat.front (map member_front r'.members.items ++ new)) time
    ∙ ap (λ l. fronts r.hands.clock.time (plain_entries l) r'.hands.book_seat.front (map member_front r'.members.items ++ new)) roster
    ∙ ap (λ l. fronts r.hands.clock.time (plain_of r.roster_seat) l (map member_front r'.members.items ++ new)) book
    ∙ ap (λ v. fronts r.hands.clock.time (plain_of r.roster_seat) r.hands.book_seat.front (map member_front v.items ++ new)) members

pub beside_same : (r r' : Run) → r'.hands.clock.time ≡ r.hands.clock.time → r'.members ≡ r.members → r'.roster_seat.front ≡ r.roster_seat.front → r'.hands.book_seat.front ≡ r.hands.book_seat.front → RecordsBeside r r'
beside_same r r' time members roster book = λ new. same_fronts (fronts_with r new) (fronts_with r' new) (fronts_same r r' time members roster book new)

pub beside_then : (r s t : Run) → RecordsBeside r s → RecordsBeside s t → RecordsBeside r t
beside_then r s t one two = λ new. records_then (fronts_with r new) (fronts_with s new) (fronts_with t new) (one new) (two new)

-- ---- a call at one looper's port
pub there : (ms : List Member) (new : List (List PortEntry)) (place : ℕ) (m : Member) → place < length ms → get_or ms place m ≡ m → list_at (map member_front ms ++ new) place ≡ member_front m
there [] new place m within is = absurd (omega (arith, within))
there (x ∷ ms) new zero m within is = ap member_front is
there (x ∷ ms) new (suc place) m within is = there ms new place m (omega (arith, within)) is

module _ (r r' : Run) (place : ℕ) (m : Member) (door : Door) (within : place < length r.members.items) (here : get_or r.members.items place m ≡ m) (is : r'.members.items ≡ set r.members.items place (record m { door = door })) where
  abbrev front : List PortEntry
  front = door.port_seat.front

  module _ (new : List (List PortEntry)) where
    abbrev before : List (List PortEntry)
    before = map member_front r.members.items ++ new

    within_all : place < length before
    within_all = omega (arith, within, length-append (map member_front r.members.items) new, length-map r.members.items member_front)

    ports_are : map member_front r'.members.items ++ new ≡ set before place front
    ports_are =
        ap (λ (ms : List Member). map member_front ms ++ new) is ∙ ap (λ l. l ++ new) (map-set member_front r.members.items place (record m { door = door }))
        ∙ set_before (map member_front r.members.items) new place front (omega (arith, within, length-map r.members.items member_front))

  module _ (steps : List Step) (roster : r'.roster_seat ≡ r.roster_seat) where
    abbrev from_here : List (List PortEntry) → Fronts → Type 0
    from_here new f = GoesBy steps (fronts_with r new) f

    fronts_are : (new : List (List PortEntry)) → fronts_with r' new ≡ fronts r'.hands.clock.time (plain_of r.roster_seat) r'.hands.book_seat.front (set (before new) place front)
    fronts_are new =
        ap (λ (s : RosterSeat). fronts r'.hands.clock.time (plain_of s) r'.hands.book_seat.front (map member_front r'.members.items ++ new)) roster
        ∙ ap (λ l. fronts r'.hands.clock.time (plain_of r.roster_seat) r'.hands.book_seat.front l) (ports_are new)

    -- by what main did there and at the book
    pub call_goes : IsMainDiary steps → GoesAtBoth place r.hands.clock.time r'.hands.clock.time steps r.hands.book_seat.front r'.hands.book_seat.front m.door.port_seat.front door.port_seat.front → (new : List (List PortEntry)) → GoesBy steps (fronts_with r new) (fronts_with r' new)
    call_goes acts goes new =
        let ports = before new in
        let at_place : list_at (set ports place front) place ≡ front = get_or-set_same ports place front [] (within_all new) in
        subst (from_here new) (sym (fronts_are new))
        (both_goes place steps r.hands.clock.time r'.hands.clock.time (plain_of r.roster_seat) r.hands.book_seat.front r'.hands.book_seat.front ports (set ports place front) acts
        (subst (λ (p : List PortEntry). GoesAtBoth place r.hands.clock.time r'.hands.clock.time steps r.hands.book_seat.front r'.hands.book_seat.front p (list_at (set ports place front) place)) (sym (there r.members.items new place m within here))
        (subst (λ (p : List PortEntry). GoesAtBoth place r.hands.clock.time r'.hands.clock.time steps r.hands.book_seat.front r'.hands.book_seat.front m.door.port_seat.front p) (sym at_place) goes))
        (λ other differ. get_or-set_other ports place other front [] differ))

  -- main has seen its list so far
  pub sees_front : list_at (fronts_of r').ports place ≡ front
  sees_front = ap (λ (l : List (List PortEntry)). list_at l place) (ports_are []) ∙ get_or-set_same (before []) place front [] (within_all [])

  -- and before it its list was that; each other one is as it was
  pub saw_front : list_at (fronts_of r).ports place ≡ m.door.port_seat.front
  saw_front = there r.members.items [] place m within here

  pub others_still : (other : ℕ) → other ≢ place → list_at (fronts_of r').ports other ≡ list_at (fronts_of r).ports other
  others_still other differ = ap (λ (l : List (List PortEntry)). list_at l other) (ports_are []) ∙ get_or-set_other (before []) place other front [] differ

-- ---- a new port
-- main made entries there, while it is the first one of the new ones
pub new_port_acts : (P : List Step → Type 0) (time later : ℕ) (roster : List RosterEntry) (book : List ReplyEntry) (xs ys : List (List PortEntry)) (x y : List PortEntry) → ActsAtBoth (length xs) time later P book book x y
    → RecordsSo P (fronts time roster book (xs ++ x ∷ ys)) (fronts later roster book (xs ++ y ∷ ys))
new_port_acts P time later roster book xs ys x y acts = record {
  steps = acts.steps;
  so = acts.so;
  goes = both_goes (length xs) acts.steps time later roster book book (xs ++ x ∷ ys) (xs ++ y ∷ ys) acts.acts
      (subst (λ (p : List PortEntry). GoesAtBoth (length xs) time later acts.steps book book p (list_at (xs ++ y ∷ ys) (length xs))) (sym (get_or-append_seam xs x ys []))
      (subst (λ (p : List PortEntry). GoesAtBoth (length xs) time later acts.steps book book x p) (sym (get_or-append_seam xs y ys [])) acts.goes))
      (λ other differ. seam_other xs ys x y other differ);
  no_edits = acts.goes.no_edits;
}

-- no other list changed
pub at_new : (P : List Step → Type 0) (r r' : Run) (x y : List PortEntry) → r'.members ≡ r.members → r'.roster_seat.front ≡ r.roster_seat.front → r'.hands.book_seat.front ≡ r.hands.book_seat.front
    → ActsAtBoth (length r.members.items) r.hands.clock.time r'.hands.clock.time P r.hands.book_seat.front r.hands.book_seat.front x y → RecordsAtNew P x y r r'
at_new P r r' x y members roster book acts =
    let ms = map member_front r.members.items in
    let time = r.hands.clock.time in
    let later = r'.hands.clock.time in
    let replies = r.hands.book_seat.front in
    let there = subst (λ (n : ℕ). ActsAtBoth n time later P replies replies x y) (sym (length-map r.members.items member_front)) acts in
    record {
      beside = λ new.
          let same : fronts_with r' (y ∷ new) ≡ fronts later (plain_of r.roster_seat) replies (ms ++ y ∷ new) =
          ap (λ l. fronts later (plain_entries l) r'.hands.book_seat.front (map member_front r'.members.items ++ y ∷ new)) roster
          ∙ ap (λ l. fronts later (plain_of r.roster_seat) l (map member_front r'.members.items ++ y ∷ new)) book
          ∙ ap (λ v. fronts later (plain_of r.roster_seat) replies (map member_front v.items ++ y ∷ new)) members in
          subst (RecordsSo P (fronts_with r (x ∷ new))) (sym same) (new_port_acts P time later (plain_of r.roster_seat) replies ms new x y there);
    }

-- ---- a looper that starts
-- the run goes on, by acts at its port and elsewhere, and the looper is put behind the others
pub start_acts : (P : List Step → Type 0) (r s u v : Run) (door : Door) (front : List PortEntry) (x : Member) → s.hands.clock.time ≡ r.hands.clock.time → s.members ≡ r.members → s.roster_seat.front ≡ r.roster_seat.front → s.hands.book_seat.front ≡ r.hands.book_seat.front
    → RecordsAtNew P front door.port_seat.front s u → x.door ≡ door → v.members.items ≡ u.members.items ++ x ∷ [] → v.roster_seat ≡ u.roster_seat → v.hands ≡ u.hands → RecordsStart P front r v
start_acts P r s u v door front x time members roster book goes x_door v_items v_roster v_hands = record {
  beside = λ new.
      let last = door.port_seat.front in
      let us = map member_front u.members.items in
      let pushed : map member_front v.members.items ++ new ≡ us ++ last ∷ new =
      ap (λ (ms : List Member). map member_front ms ++ new) v_items ∙ ap (λ l. l ++ new) (map-append member_front u.members.items (x ∷ [])) ∙ append_assoc us (member_front x ∷ []) new ∙ ap (λ (d : Door). us ++ d.port_seat.front ∷ new) x_door in
      let same : fronts_with v new ≡ fronts_with u (last ∷ new) =
      ap (λ (y : RosterSeat). fronts v.hands.clock.time (plain_of y) v.hands.book_seat.front (map member_front v.members.items ++ new)) v_roster
      ∙ ap (λ h. fronts h.clock.time (plain_of u.roster_seat) h.book_seat.front (map member_front v.members.items ++ new)) v_hands
      ∙ ap (fronts u.hands.clock.time (plain_of u.roster_seat) u.hands.book_seat.front) pushed in
      subst (λ (f : Fronts). RecordsSo P f (fronts_with v new)) (fronts_same r s time members roster book (front ∷ new)) (subst (RecordsSo P (fronts_with s (front ∷ new))) (sym same) (goes.beside new));
}

-- nothing was done at its port, and nothing else changed
pub start_quiet : (r s v : Run) (front : List PortEntry) (x : Member) → s.hands.clock.time ≡ r.hands.clock.time → s.members ≡ r.members → s.roster_seat.front ≡ r.roster_seat.front → s.hands.book_seat.front ≡ r.hands.book_seat.front → x.door.port_seat.front ≡ front
    → v.members.items ≡ s.members.items ++ x ∷ [] → v.roster_seat ≡ s.roster_seat → v.hands ≡ s.hands → StartsQuietly front r v
start_quiet r s v front x time members roster book x_front v_items v_roster v_hands = record {
  same = λ new.
      let ms = map member_front r.members.items in
      let now = r.hands.clock.time in
      let pushed : map member_front v.members.items ++ new ≡ ms ++ front ∷ new =
      ap (λ (xs : List Member). map member_front xs ++ new) v_items ∙ ap (λ l. l ++ new) (map-append member_front s.members.items (x ∷ [])) ∙ append_assoc (map member_front s.members.items) (member_front x ∷ []) new
      ∙ ap (λ v. map member_front v.items ++ member_front x ∷ new) members ∙ ap (λ l. ms ++ l ∷ new) x_front in
      ap (λ h. fronts h.clock.time (plain_of v.roster_seat) h.book_seat.front (map member_front v.members.items ++ new)) v_hands
      ∙ ap (λ (t : ℕ). fronts t (plain_of v.roster_seat) s.hands.book_seat.front (map member_front v.members.items ++ new)) time
      ∙ ap (λ (y : RosterSeat). fronts now (plain_of y) s.hands.book_seat.front (map member_front v.members.items ++ new)) v_roster
      ∙ ap (λ l. fronts now (plain_entries l) s.hands.book_seat.front (map member_front v.members.items ++ new)) roster
      ∙ ap (λ l. fronts now (plain_of r.roster_seat) l (map member_front v.members.items ++ new)) book
      ∙ ap (fronts now (plain_of r.roster_seat) r.hands.book_seat.front) pushed;
}

-- ---- main's turn at the roster
module _ (seat given seat' : RosterSeat) (book book' : Book) (more : ℕ) (idle : seat.turn ≡ false) (thread : seat.thread ≡ main_thread) (seen : IsGiven by_number seat given) (known : KnowsWhole by_number given)
    (list : book.entries ≡ given.front) (what : Option RosterEvent) (entered : HasEntered what more book book') (same : book'.entries ≡ given.front → seat' ≡ at_leisure given)
    (one : (x : EntryWithObjects Object) → book'.entries ≡ given.front ++ x ∷ [] → seat' ≡ at_leisure (entered_by given x)) (knows : KnowsWhole by_number given → KnowsWhole by_number seat') where
  abbrev pub turn_steps : List Step
  turn_steps = map (turn_step book.entries) entered.added

  pub turn_goes : (time later : ℕ) → IsTurnInTime time later book book' → (replies : List ReplyEntry) (ports : List (List PortEntry)) → GoesBy turn_steps (fronts time (plain_of seat) replies ports) (fronts later (plain_of seat') replies ports)
  turn_goes time later in_time replies ports =
      let all : seat'.front ≡ book.entries ++ entered.added = sees_all seat given seat' book book' more idle thread seen known list what entered same one knows ∙ entered.entries in
      subst (λ (l : List (EntryWithObjects Object)). GoesBy turn_steps (fronts time (plain_of seat) replies ports) (fronts later (plain_entries l) replies ports)) (sym all)
      (roster_goes time later seat.front seen.between book.entries entered.added replies ports (list ∙ ap (λ (s : RosterSeat). s.front) seen.after) (subst (λ (t : ℕ). AreByOthers by_number t seen.between) thread seen.others) entered.one entered.by_main entered.may (in_time entered.added entered.entries))

  pub turn_acts : (time later : ℕ) → IsTurnInTime time later book book' → (replies : List ReplyEntry) (ports : List (List PortEntry)) → Records (fronts time (plain_of seat) replies ports) (fronts later (plain_of seat') replies ports)
  turn_acts time later in_time replies ports = record { steps = turn_steps; goes = turn_goes time later in_time replies ports; no_edits = turn_no_edits book.entries entered.added }

-- of one entry the event
pub one_event : (what : RosterEvent) (added : List (EntryWithObjects Object)) → map (λ (entry : EntryWithObjects Object). entry.plain.event) added ≡ what ∷ [] → (x : EntryWithObjects Object) × (added ≡ x ∷ []) × (x.plain.event ≡ what)
one_event what [] is = absurd cc
one_event what (x ∷ []) is = (x, refl, cc)
one_event what (x ∷ y ∷ zs) is = absurd cc

pub no_event : (added : List (EntryWithObjects Object)) → map (λ (entry : EntryWithObjects Object). entry.plain.event) added ≡ [] → added ≡ []
no_event [] is = refl
no_event (x ∷ xs) is = absurd cc
