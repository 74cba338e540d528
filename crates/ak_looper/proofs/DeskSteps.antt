-- A step at the desk, and all that the thread did before it.
use Rattle.std.proofs.Common.{◌≡◌, ◌≢◌, ℕ, List, [], ◌∷◌, ◌++◌, map, All, AllPairs, Any, flat_map, vec_items, Option, None, Some, IfSome, refl, sym, ap, ◌∙◌, subst, append_assoc, append-nil, inl, inr}
use Rattle.std.proofs.lemmas.List.Concat.{flat_map-append}
use Rattle.std.proofs.lemmas.List.Elements.{All-push, All-weaker}
use Rattle.ak_base.specs.Thread.{looper_thread}
use Rattle.ak_base.specs.declared.thread.ThreadId.{ThreadId}
use Rattle.ak_flatten.specs.declared.item.Taken.{Taken}
use Rattle.ak_flatten.specs.Item.{ItemData}
use Rattle.ak_turn.specs.declared.clock.Clock.{Clock}
use Rattle.ak_turn.specs.Entries.{StartsWith}
use Rattle.ak_turn.specs.Noted.{Noted, note}
use Rattle.ak_action.specs.declared.answer.Answer.{Answer}
use Rattle.ak_action.specs.declared.answer.Want.{Want}
use Rattle.ak_action.specs.declared.state.DeskState.{DeskState}
use Rattle.ak_desk.specs.declared.made.Made.{Made}
use Rattle.ak_desk.specs.Desk.{BegunData, DeskData, EndsDispatch, GivesUp, HasDispatched, HasGivenUp, OfBegun, dispatched_entry, ended, ended_by, given_up, given_up_entry, stamp_number}
use Rattle.ak_desk.specs.Entry.{EntryData}
use Rattle.ak_desk.specs.Machine.{IsHistory}
use Rattle.ak_diary.specs.Looper.{LooperFacts, door_got}
use Rattle.ak_diary.specs.Step.{AreStamped, Step, at_desk, book_entry, book_sight, due, port_entry, port_sight, roster_entry, roster_sight, time_after, time_of}
use Rattle.ak_diary.specs.Turns.{Carried, ComesTo, GivenUp}
use Rattle.ak_diary.specs.Wants.{ServesAll}
use Rattle.ak_looper.specs.declared.door.Door.{Door}
use Rattle.ak_looper.specs.declared.reach.Reach.{Reach}
use Rattle.ak_looper.specs.Carrying.{CarriesOut, HasServed, IsOf}
use Rattle.ak_looper.specs.Rosters.{LeadsTo, RosterSeat, plain_of}
use Rattle.ak_looper.specs.Stands.{BookStands, DoorStands, GoesOn, IsAtOneOf, PortStands, RosterStands, Stands, StartsTeam, doors_kept, numbers_of}
use Rattle.ak_looper.proofs.Going.{IsWithClock, stays}

-- ---- stamps
pub time_of-append : (time : ℕ) (steps more : List Step) → time_of time (steps ++ more) ≡ time_of (time_of time steps) more
time_of-append time [] more = refl
time_of-append time (step ∷ steps) more = time_of-append (time_after time step) steps more

pub stamped-append : (time : ℕ) (steps more : List Step) → AreStamped time steps → AreStamped (time_of time steps) more → AreStamped time (steps ++ more)
stamped-append time [] more stamped then_stamped = then_stamped
stamped-append time (step ∷ steps) more stamped then_stamped = (stamped.0, stamped-append (time_after time step) steps more stamped.1 then_stamped)

-- ---- it is nothing at the other objects
adds_nothing : {A : Type 0} (of : Step → List A) (steps : List Step) (step : Step) → of step ≡ [] → flat_map of (steps ++ step ∷ []) ≡ flat_map of steps
adds_nothing of steps step nothing = flat_map-append of steps (step ∷ []) ∙ ap (λ l. flat_map of steps ++ (l ++ [])) nothing ∙ append-nil (flat_map of steps)

module _ (l : LooperFacts) (start : ℕ) (so_far : List Step) (r r' : Reach) (n : Noted EntryData) (clock : Clock) (same : IsWithClock clock r r') where
  door_stands : (door : ℕ × Door) → DoorStands so_far r.roster_seat door → DoorStands (so_far ++ at_desk l.number n ∷ []) r'.roster_seat door
  door_stands door stands =
      let seat = door.1.port_seat in
      let step = at_desk l.number n in
      record {
        port = record {
          noted_is = stands.port.noted_is ∙ sym (adds_nothing (port_entry door.0) so_far step refl);
          seen = subst (All (StartsWith seat.front)) (sym (adds_nothing (port_sight door.0) so_far step refl)) stands.port.seen;
        };
        desk = stands.desk;
        leads = subst (λ (s : RosterSeat). LeadsTo s door.0 seat.lock door.1.desk_seat.lock) (sym same.roster_seat) stands.leads;
      }

  book_stands : BookStands so_far r.hands.book_seat → BookStands (so_far ++ at_desk l.number n ∷ []) r.hands.book_seat
  book_stands book = record {
    noted_is = book.noted_is ∙ sym (adds_nothing book_entry so_far (at_desk l.number n) refl);
    seen = subst (All (StartsWith r.hands.book_seat.front)) (sym (adds_nothing book_sight so_far (at_desk l.number n) refl)) book.seen;
  }

  roster_stands : RosterStands so_far r.roster_seat → RosterStands (so_far ++ at_desk l.number n ∷ []) r.roster_seat
  roster_stands roster = record {
    noted_is = roster.noted_is ∙ sym (adds_nothing roster_entry so_far (at_desk l.number n) refl);
    seen = subst (All (StartsWith (plain_of r.roster_seat))) (sym (adds_nothing roster_sight so_far (at_desk l.number n) refl)) roster.seen;
  }

  port_stands : PortStands so_far l.number r.port_seat → PortStands (so_far ++ at_desk l.number n ∷ []) l.number r.port_seat
  port_stands port = record {
    noted_is = port.noted_is ∙ sym (adds_nothing (port_entry l.number) so_far (at_desk l.number n) refl);
    seen = subst (All (StartsWith r.port_seat.front)) (sym (adds_nothing (port_sight l.number) so_far (at_desk l.number n) refl)) port.seen;
  }

  -- with the stamp that was due
  pub stands_on : Stands l start so_far r → n.entry.plain.stamp ≡ due stamp_number r.hands.clock.time n.before → clock.time ≡ n.entry.plain.stamp → Stands l start (so_far ++ at_desk l.number n ∷ []) r'
  stands_on s stamp time =
      let step = at_desk l.number n in
      let steps = so_far ++ step ∷ [] in
      let numbers : numbers_of r ≡ numbers_of r' = ap (λ (doors : List (ℕ × Door)). map (λ (door : ℕ × Door). door.0) doors) (sym (ap vec_items same.doors)) in
      let doors : All (DoorStands steps r'.roster_seat) r.doors.items = All-weaker (DoorStands so_far r.roster_seat) (DoorStands steps r'.roster_seat) door_stands r.doors.items s.doors in
      record {
        number = same.number ∙ s.number;
        team = same.team ∙ s.team;
        first = same.first ∙ s.first;
        loopers = same.loopers ∙ s.loopers;
        heads = ap (λ (seat : RosterSeat). seat.opening) same.roster_seat ∙ s.heads;
        launched = subst (λ (seat : RosterSeat). Any (StartsTeam l) seat.front) (sym same.roster_seat) s.launched;
        of_team = s.of_team;
        within = s.within;
        stamped = stamped-append start so_far (step ∷ []) s.stamped (stamp ∙ ap (λ (t : ℕ). due stamp_number t n.before) (sym s.time), tt);
        time = time_of-append start so_far (step ∷ []) ∙ sym time ∙ sym (ap (λ (c : Clock). c.time) same.clock_is);
        book = subst (BookStands steps) (sym same.book_seat) (book_stands s.book);
        roster = subst (RosterStands steps) (sym same.roster_seat) (roster_stands s.roster);
        port = subst (PortStands steps l.number) (sym same.port_seat) (port_stands s.port);
        doors = subst (All (DoorStands steps r'.roster_seat)) (sym (ap vec_items same.doors)) doors;
        ways = sym numbers ∙ s.ways ∙ ap (λ got. doors_kept l ++ got) (sym (adds_nothing door_got so_far step refl));
        apart = subst (λ (ways : List ℕ). AllPairs (λ a b. a ≢ b) (l.number ∷ ways)) numbers s.apart;
        at_ways = subst (λ (ways : List ℕ). All (IsAtOneOf (l.number ∷ ways)) steps) numbers (All-push (IsAtOneOf (l.number ∷ numbers_of r)) so_far step s.at_ways tt);
      }

-- ---- what it asked for, and then its entry
module _ (l : LooperFacts) (start : ℕ) (so_far : List Step) (r r' : Reach) (clock : Clock) (same_reach : IsWithClock clock r r') (taken : Taken) (made : Made) where
  -- behind what was served
  entered : (opening : DeskState) (asked : List Want) (heard : List Answer) (n : Noted EntryData) (entries' : List EntryData)
      → r.hands.clock.thread.0 ≡ looper_thread r.number
      → ComesTo opening taken asked heard made n
      → entries' ≡ n.before ++ n.entry ∷ []
      → n.entry.plain.by ≡ r.hands.clock.thread
      → n.entry.plain.stamp ≡ due stamp_number r.hands.clock.time n.before
      → clock.time ≡ n.entry.plain.stamp
      → GoesOn l start so_far (ServesAll l so_far taken.item asked heard) r
      → GoesOn l start so_far (CarriesOut l so_far opening taken made n.before entries') r'
  entered opening asked heard n entries' thread comes grown by stamp time served =
      let steps = served.steps ++ at_desk l.number n ∷ [] in
      record {
        steps = steps;
        does = record {
          asked = asked;
          heard = heard;
          served = served.steps;
          serves = served.does;
          noted = n;
          comes = comes;
          before = refl;
          grown = grown;
          mine = ap (λ (t : ThreadId). t.0) by ∙ thread ∙ ap looper_thread served.stands.number;
          is = refl;
        };
        stands =
            subst (λ s. Stands l start s r') (append_assoc so_far served.steps (at_desk l.number n ∷ []))
            (stands_on l start (so_far ++ served.steps) r r' n clock same_reach served.stands stamp time);
      }

  -- of an opening and a list that are the same
  from_same : (opening opening' : DeskState) (entries entries' before : List EntryData) → opening' ≡ opening → before ≡ entries → GoesOn l start so_far (CarriesOut l so_far opening' taken made before entries') r'
      → GoesOn l start so_far (CarriesOut l so_far opening taken made entries entries') r'
  from_same opening opening' entries entries' before opens is on =
      subst (λ o. GoesOn l start so_far (CarriesOut l so_far o taken made entries entries') r') opens (subst (λ b. GoesOn l start so_far (CarriesOut l so_far opening' taken made b entries') r') is on)

  -- it was ended
  ended_as : (b : BegunData) (d d' : DeskData) → r.hands.clock.thread.0 ≡ looper_thread r.number → b.position ≡ taken.position → b.item ≡ taken.item → EndsDispatch r.hands.clock clock d d' made b
      → GoesOn l start so_far (ServesAll l so_far b.item b.asked b.heard) r → GoesOn l start so_far (CarriesOut l so_far d.opening taken made d.entries d'.entries) r'
  ended_as b d d' thread position_is item_is h served =
      let now = r.hands.clock in
      let n : Noted EntryData = note d.entries (dispatched_entry d.entries now b.position b.item b.before h.words h.quit) in
      let list : HasDispatched now clock b.position b.item b.asked b.heard d.opening b.before d'.state n.before (n.before ++ n.entry ∷ []) made =
      subst (λ (x : List EntryData). HasDispatched now clock b.position b.item b.asked b.heard d.opening b.before d'.state d.entries x made) h.grown h in
      let position : HasDispatched now clock taken.position b.item b.asked b.heard d.opening b.before d'.state n.before (n.before ++ n.entry ∷ []) made =
      subst (λ (x : ℕ). HasDispatched now clock x b.item b.asked b.heard d.opening b.before d'.state n.before (n.before ++ n.entry ∷ []) made) position_is list in
      let item : HasDispatched now clock taken.position taken.item b.asked b.heard d.opening b.before d'.state n.before (n.before ++ n.entry ∷ []) made =
      subst (λ (x : ItemData). HasDispatched now clock taken.position x b.asked b.heard d.opening b.before d'.state n.before (n.before ++ n.entry ∷ []) made) item_is position in
      let comes : Carried d.opening taken b.asked b.heard made n = record { clock = now; later = clock; before = b.before; after = d'.state; dispatched = item } in
      entered d.opening b.asked b.heard n d'.entries thread (inl comes) h.grown refl refl (ap (λ (c : Clock). c.time) h.clocked)
      (subst (λ (x : ItemData). GoesOn l start so_far (ServesAll l so_far x b.asked b.heard) r) item_is served)

  ended_begun : (opening : DeskState) (entries : List EntryData) (d d' : DeskData) (o : Option BegunData) → d.opening ≡ opening → d.entries ≡ entries → r.hands.clock.thread.0 ≡ looper_thread r.number
      → OfBegun (λ (b : BegunData). (b.position ≡ taken.position) × (b.item ≡ taken.item)) o
      → IfSome o (EndsDispatch r.hands.clock clock d d' made)
      → OfBegun (λ (b : BegunData). GoesOn l start so_far (ServesAll l so_far b.item b.asked b.heard) r) o
      → GoesOn l start so_far (CarriesOut l so_far opening taken made entries d'.entries) r'
  ended_begun opening entries d d' None opens same thread is ends served = absurd is
  ended_begun opening entries d d' (Some b) opens same thread is ends served = from_same opening d.opening entries d'.entries d.entries opens same (ended_as b d d' thread is.0 is.1 ends served)

  pub ended_so : (opening : DeskState) (entries : List EntryData) (d d' : DeskData) → d.opening ≡ opening → d.entries ≡ entries → r.hands.clock.thread.0 ≡ looper_thread r.number → IsOf taken d → IfSome d.begun (EndsDispatch r.hands.clock clock d d' made)
      → HasServed l start so_far d r → GoesOn l start so_far (CarriesOut l so_far opening taken made entries d'.entries) r'
  ended_so opening entries d d' opens same thread is ends served = ended_begun opening entries d d' d.begun opens same thread is ends served

  -- it was given up
  pub given_up_so : (opening : DeskState) (entries : List EntryData) (d d' : DeskData) → d.opening ≡ opening → d.entries ≡ entries → r.hands.clock.thread.0 ≡ looper_thread r.number → GivesUp r.hands.clock clock d d' taken made
      → Stands l start so_far r → GoesOn l start so_far (CarriesOut l so_far opening taken made entries d'.entries) r'
  given_up_so opening entries d d' opens same thread h stands =
      let now = r.hands.clock in
      let n : Noted EntryData = note d.entries (given_up_entry d.entries now taken.position) in
      let list : HasGivenUp now clock taken.position d.opening d.state n.before (n.before ++ n.entry ∷ []) made =
      subst (λ (x : List EntryData). HasGivenUp now clock taken.position d.opening d.state d.entries x made) h.grown h in
      let comes : GivenUp d.opening taken [] [] made n = record { clock = now; later = clock; state = d.state; given_up = list; asked_none = refl; heard_none = refl } in
      from_same opening d.opening entries d'.entries d.entries opens same
      (entered d.opening [] [] n d'.entries thread (inr comes) h.grown refl refl (ap (λ (c : Clock). c.time) h.clocked) (stays l start so_far (ServesAll l so_far taken.item [] []) r stands refl))

-- ---- the list that either leaves
ended_history_by : (d d' : DeskData) (clock clock' : Clock) (made : Made) (taken : Taken) (o : Option BegunData) → OfBegun (λ (b : BegunData). (b.position ≡ taken.position) × (b.item ≡ taken.item)) o → IfSome o (EndsDispatch clock clock' d d' made) → IsHistory d.opening d'.entries d'.state
ended_history_by d d' clock clock' made taken None is ends = absurd is
ended_history_by d d' clock clock' made taken (Some b) is ends = ends.goes_on

opens_by : (d : DeskData) (clock : Clock) (o : Option BegunData) → (ended_by d clock o).opening ≡ d.opening
opens_by d clock None = refl
opens_by d clock (Some b) = refl

pub ended_history : (d d' : DeskData) (clock clock' : Clock) (made : Made) (taken : Taken) → d' ≡ ended d clock → IsOf taken d → IfSome d.begun (EndsDispatch clock clock' d d' made) → (after : DeskState) × IsHistory d'.opening d'.entries after
ended_history d d' clock clock' made taken same is ends =
    let opening : d'.opening ≡ d.opening = ap (λ (x : DeskData). x.opening) same ∙ opens_by d clock d.begun in
    (d'.state, subst (λ (o : DeskState). IsHistory o d'.entries d'.state) (sym opening) (ended_history_by d d' clock clock' made taken d.begun is ends))

pub given_up_history : (d d' : DeskData) (clock clock' : Clock) (made : Made) (taken : Taken) → d' ≡ given_up d clock taken → GivesUp clock clock' d d' taken made → (after : DeskState) × IsHistory d'.opening d'.entries after
given_up_history d d' clock clock' made taken same gives =
    (d.state, subst (λ (o : DeskState). IsHistory o d'.entries d.state) (sym (ap (λ (x : DeskData). x.opening) same)) gives.goes_on)
