-- What main makes past the time of a block comes after all that the threads of its sessions made.
use Rattle.std.proofs.Common.{◌≡◌, ◌≢◌, ◌≤◌, ◌<◌, ◌+◌, ◌==◌, ◌⊎◌, inl, inr, ⊎_elim, ℕ, zero, suc, Bool, true, false, cond, true≢false, eqb-true, eq-eqb, ne_eqb, List, [], ◌∷◌, ◌++◌, length, length-append, map, find, All, Contains, Option, None, Some, option_map, unwrap_or, refl, sym, ap, ◌∙◌, subst, arith}
use Rattle.std.specs.Prelude.{if◌then◌else◌}
use Rattle.std.proofs.lemmas.List.{length-map}
use Rattle.std.proofs.lemmas.List.Elements.{All-contains, All-cons, All-head, All-nil, All-tail, All-weaker}
use mathlib.Core.Logic.{dite}
use native.Mathlib.Decide.{ℕ_discrete}
use Rattle.ak_turn.specs.Entries.{AreByOthers, StartsWith}
use Rattle.ak_turn.specs.Noted.{Noted, StandsIn, note, noted, noted_from}
use Rattle.ak_turn.proofs.Surface.{noted_stands}
use Rattle.ak_roster.specs.declared.entry.RosterEntry.{RosterEntry}
use Rattle.ak_roster.specs.declared.head.AppHead.{AppHead}
use Rattle.ak_port.specs.PortCalls as ports
use Rattle.ak_port.specs.ReplySeats as books
use Rattle.ak_desk.specs.Desk as the_desks
use Rattle.ak_desk.specs.Shared as desks
use Rattle.ak_diary.specs.declared.histories.Histories.{Histories}
use Rattle.ak_diary.specs.Step.{Step, at_roster, at_book, at_port, at_desk, saw_roster, saw_book, saw_port, lacked, desk_entries, desk_entry, port_entries, port_entry}
use Rattle.ak_headline.specs.Run.{HasDone, MainIsBehind, StandsBehind, desk_list, port_list}
use Rattle.ak_looper.specs.declared.door.Door.{Door}
use Rattle.ak_looper.specs.Rosters.{maker_of, plain_of}
use Rattle.ak_session.specs.declared.session.Session.{Session}
use Rattle.ak_session.specs.Stands.{DoorStands, IsAtOneOf, Stands, desk_front_at, front_at, numbers_of}
use Rattle.ak_run.specs.declared.run.Run.{Run}
use Rattle.ak_run.specs.Doing.{desk_front}
use Rattle.ak_run.specs.Ending.{EndsAs}
use Rattle.ak_run.specs.Recording.{fronts_of, list_at}
use Rattle.ak_run.specs.Seen.{HasSeen, IsSeenTo}
use Rattle.ak_run.proofs.Surface.{seen_on}

-- ---- in one list
module _ {L : Type 0} (by : L → ℕ) (thread count : ℕ) where
  -- it is noted before the entries of that number
  abbrev IsEarly : Noted L → Type 0
  IsEarly n = length n.before < count

  own : (before : List L) (x : L) (xs : List L) → by x ≡ thread → noted_from by thread before (x ∷ xs) ≡ note before x ∷ noted_from by thread (before ++ x ∷ []) xs
  own before x xs e = ap (λ (b : Bool). cond b (note before x ∷ noted_from by thread (before ++ x ∷ []) xs) (noted_from by thread (before ++ x ∷ []) xs)) (eq-eqb (by x) thread e)

  other : (before : List L) (x : L) (xs : List L) → by x ≢ thread → noted_from by thread before (x ∷ xs) ≡ noted_from by thread (before ++ x ∷ []) xs
  other before x xs e = ap (λ (b : Bool). cond b (note before x ∷ noted_from by thread (before ++ x ∷ []) xs) (noted_from by thread (before ++ x ∷ []) xs)) (ne_eqb (by x) thread e)

  -- where all that the thread made is early, none of what comes after that number of entries is its own
  none_late : (before xs : List L) → count ≤ length before → All IsEarly (noted_from by thread before xs) → AreByOthers by thread xs
  none_late before [] late early = All-nil (λ (entry : L). by entry ≢ thread)
  none_late before (x ∷ xs) late early =
      dite (ℕ_discrete (by x) thread)
      (λ e. absurd (omega (arith, late, All-head IsEarly (note before x) (noted_from by thread (before ++ x ∷ []) xs) (subst (All IsEarly) (own before x xs e) early))))
      (λ e. All-cons (λ (entry : L). by entry ≢ thread) x xs e (none_late (before ++ x ∷ []) xs (omega (arith, late, length-append before (x ∷ []))) (subst (All IsEarly) (other before x xs e) early)))

  none_behind : (before front xs : List L) → count ≤ length before + length front → All IsEarly (noted_from by thread before (front ++ xs)) → AreByOthers by thread xs
  none_behind before [] xs late early = none_late before xs (omega (arith, late)) early
  none_behind before (y ∷ front) xs late early =
      let further : count ≤ length (before ++ y ∷ []) + length front = omega (arith, late, length-append before (y ∷ [])) in
      dite (ℕ_discrete (by y) thread)
      (λ e. none_behind (before ++ y ∷ []) front xs further (All-tail IsEarly (note before y) (noted_from by thread (before ++ y ∷ []) (front ++ xs)) (subst (All IsEarly) (own before y (front ++ xs) e) early)))
      (λ e. none_behind (before ++ y ∷ []) front xs further (subst (All IsEarly) (other before y (front ++ xs) e) early))

  -- what is noted of the first entries, up to that number, is early
  all_early : (seen : List L) → length seen ≡ count → All IsEarly (noted by thread seen)
  all_early seen long =
      All-weaker (StandsIn seen) IsEarly
      (λ n stands. omega (arith, long, ap (λ (l : List L). length l) stands.1, length-append (n.before ++ n.entry ∷ []) stands.0, length-append n.before (n.entry ∷ [])))
      (noted by thread seen) (noted_stands by thread seen)

module _ {L : Type 0} (by stamp : L → ℕ) where
  -- main had seen all that the session had seen, and the list has no more of its thread
  behind_all : (time thread : ℕ) (front entries seen : List L) → IsSeenTo by stamp time (length seen) front → StartsWith entries front → noted by thread entries ≡ noted by thread seen → StandsBehind by stamp time thread entries
  behind_all time thread front entries seen is on same = λ before entry behind at mine past.
      let count : ℕ = length seen in
      let late : count ≤ length before = (seen_on by stamp time count front entries on is).behind before entry behind at mine past in
      let early : All (IsEarly by thread count) (noted by thread entries) = subst (All (IsEarly by thread count)) (sym same) (all_early by thread count seen refl) in
      let parted : All (IsEarly by thread count) (noted_from by thread [] (before ++ entry ∷ behind)) = subst (λ (l : List L). All (IsEarly by thread count) (noted by thread l)) at early in
      All-tail (λ (e : L). by e ≢ thread) entry behind (none_behind by thread count [] before (entry ∷ behind) (omega (arith, late)) parted)

-- ---- through the doors of a session
-- a search among these finds a door to that looper; or none of them is one
abbrev Sought : ℕ → List (ℕ × Door) → Type 0
Sought looper doors =
    ((door : ℕ × Door) × Contains doors door × (door.0 ≡ looper) × (find (λ (d : ℕ × Door). d.0 == looper) doors ≡ Some door))
    ⊎ (All (λ (n : ℕ). n ≢ looper) (map (λ (d : ℕ × Door). d.0) doors) × (find (λ (d : ℕ × Door). d.0 == looper) doors ≡ None))

door_to : (looper : ℕ) (doors : List (ℕ × Door)) → Sought looper doors
door_to looper [] = inr (All-nil (λ (n : ℕ). n ≢ looper), refl)
door_to looper (x ∷ doors) = by_number (x.0 == looper) refl (door_to looper doors)
  where
    first : (b : Bool) → (x.0 == looper) ≡ b → find (λ (d : ℕ × Door). d.0 == looper) (x ∷ doors) ≡ cond b (Some x) (find (λ (d : ℕ × Door). d.0 == looper) doors)
    first b is = ap (λ (c : Bool). cond c (Some x) (find (λ (d : ℕ × Door). d.0 == looper) doors)) is

    by_number : (b : Bool) → (x.0 == looper) ≡ b → Sought looper doors → Sought looper (x ∷ doors)
    by_number true is rest = inl (x, (zero, omega arith, refl), eqb-true x.0 looper is, first true is)
    by_number false is (inl found) = inl (found.0, (suc found.1.0, omega (arith, found.1.1), found.1.2), found.2, first false is ∙ found.3)
    by_number false is (inr none) =
        inr (All-cons (λ (n : ℕ). n ≢ looper) x.0 (map (λ (d : ℕ × Door). d.0) doors) (λ same. true≢false (sym (eq-eqb x.0 looper same) ∙ is)) none.0, first false is ∙ none.1)

-- at the port and the desk of another looper a step is none
not_at : {A : Type 0} (numbers : List ℕ) (number looper : ℕ) (x : A) → Contains numbers number → (Contains numbers looper → ⊥) → (if number == looper then x ∷ [] else []) ≡ []
not_at numbers number looper x there none = ap (λ (b : Bool). cond b (x ∷ []) []) (ne_eqb number looper (λ same. none (subst (λ (n : ℕ). Contains numbers n) same there)))

module _ (numbers : List ℕ) (looper : ℕ) (none : Contains numbers looper → ⊥) where
  no_entry : (step : Step) → IsAtOneOf numbers step → (port_entry looper step ≡ []) × (desk_entry looper step ≡ [])
  no_entry (at_port number n) there = (not_at numbers number looper n there none, refl)
  no_entry (at_desk number n) there = (refl, not_at numbers number looper n there none)
  no_entry (at_roster n) there = (refl, refl)
  no_entry (at_book n) there = (refl, refl)
  no_entry (saw_roster seen) there = (refl, refl)
  no_entry (saw_book seen) there = (refl, refl)
  no_entry (saw_port number seen) there = (refl, refl)
  no_entry lacked there = (refl, refl)

  no_entries : (steps : List Step) → All (IsAtOneOf numbers) steps → (port_entries looper steps ≡ []) × (desk_entries looper steps ≡ [])
  no_entries [] there = (refl, refl)
  no_entries (step ∷ steps) there =
      let one = no_entry step (All-head (IsAtOneOf numbers) step steps there) in
      let rest = no_entries steps (All-tail (IsAtOneOf numbers) step steps there) in
      (ap (λ l. l ++ port_entries looper steps) one.0 ∙ rest.0, ap (λ l. l ++ desk_entries looper steps) one.1 ∙ rest.1)

module _ (heads : List AppHead) (start : ℕ) (steps : List Step) (s : Session) (stands : Stands heads start steps s) where
  abbrev thread : ℕ
  thread = s.hands.clock.thread.0

  stands_at : (door : ℕ × Door) → Contains s.doors.items door → DoorStands steps s.roster_seat door
  stands_at door has = All-contains (DoorStands steps s.roster_seat) s.doors.items door stands.doors has

  thread_at : (door : ℕ × Door) → Contains s.doors.items door → door.1.port_seat.thread ≡ thread
  thread_at door has = All-contains (λ (d : ℕ × Door). d.1.port_seat.thread ≡ thread) s.doors.items door s.doors_thread has

  nothing_at : (looper : ℕ) → All (λ (n : ℕ). n ≢ looper) (numbers_of s) → (port_entries looper steps ≡ []) × (desk_entries looper steps ≡ [])
  nothing_at looper none = no_entries (numbers_of s) looper (λ has. All-contains (λ (n : ℕ). n ≢ looper) (numbers_of s) looper none has refl) steps stands.at_ways

  -- what its seats there have seen has all that it made there
  seen_at_port : (looper : ℕ) → noted ports.by_number thread (front_at s looper) ≡ port_entries looper steps
  seen_at_port looper =
      ⊎_elim
      (λ found.
      let door = found.0 in
      ap (λ (o : Option (ℕ × Door)). noted ports.by_number thread (unwrap_or (option_map (λ (d : ℕ × Door). d.1.port_seat.front) o) [])) found.3
      ∙ ap (λ (t : ℕ). noted ports.by_number t door.1.port_seat.front) (sym (thread_at door found.1))
      ∙ (stands_at door found.1).port.noted_is ∙ ap (λ (n : ℕ). port_entries n steps) found.2)
      (λ none. ap (λ (o : Option (ℕ × Door)). noted ports.by_number thread (unwrap_or (option_map (λ (d : ℕ × Door). d.1.port_seat.front) o) [])) none.1 ∙ sym (nothing_at looper none.0).0)
      (door_to looper s.doors.items)

  seen_at_desk : (looper : ℕ) → noted desks.by_number thread (desk_front_at s looper) ≡ desk_entries looper steps
  seen_at_desk looper =
      ⊎_elim
      (λ found.
      let door = found.0 in
      ap (λ (o : Option (ℕ × Door)). noted desks.by_number thread (unwrap_or (option_map (λ (d : ℕ × Door). d.1.desk_seat.front) o) [])) found.3
      ∙ ap (λ (t : ℕ). noted desks.by_number t door.1.desk_seat.front) (sym (door.1.thread ∙ thread_at door found.1))
      ∙ (stands_at door found.1).desk ∙ ap (λ (n : ℕ). desk_entries n steps) found.2)
      (λ none. ap (λ (o : Option (ℕ × Door)). noted desks.by_number thread (unwrap_or (option_map (λ (d : ℕ × Door). d.1.desk_seat.front) o) [])) none.1 ∙ sym (nothing_at looper none.0).1)
      (door_to looper s.doors.items)

  -- ---- in each list
  module _ (r : Run) (h : Histories) (ends : EndsAs r h) (seen : HasSeen r start s) (done : HasDone h thread steps) where
    behind_all_lists : MainIsBehind h start thread
    behind_all_lists = record {
      at_roster = behind_all maker_of (λ (entry : RosterEntry). entry.stamp) start thread (plain_of r.roster_seat) h.roster.items (plain_of s.roster_seat)
          (subst (λ (count : ℕ). IsSeenTo maker_of (λ (entry : RosterEntry). entry.stamp) start count (plain_of r.roster_seat)) (sym (length-map s.roster_seat.front (λ entry. entry.plain))) seen.at_roster)
          ends.roster (done.at_roster ∙ sym stands.roster.noted_is ∙ ap (λ (t : ℕ). noted maker_of t (plain_of s.roster_seat)) s.roster_thread);
      at_book = behind_all books.maker_of books.stamp_of start thread r.hands.book_seat.front h.book s.hands.book_seat.front seen.at_book ends.book
          (done.at_book ∙ sym stands.book.noted_is ∙ ap (λ (t : ℕ). noted books.maker_of t s.hands.book_seat.front) s.hands.thread);
      at_ports = λ looper. behind_all ports.by_number ports.stamp_number start thread (list_at (fronts_of r).ports looper) (port_list h looper) (front_at s looper) (seen.at_ports looper) (ends.port_lists looper)
          (done.at_ports looper ∙ sym (seen_at_port looper));
      at_desks = λ looper. behind_all desks.by_number the_desks.stamp_number start thread (desk_front r looper) (desk_list h looper) (desk_front_at s looper) (seen.at_desks looper) (ends.desks looper)
          (done.at_desks looper ∙ sym (seen_at_desk looper));
    }

-- what main made past that time, by the end of the run, comes after all that the session's thread made
pub main_behind : (heads : List AppHead) (start number : ℕ) (steps : List Step) (s : Session) (r : Run) (h : Histories) → Stands heads start steps s → s.hands.clock.thread.0 ≡ number → HasSeen r start s → EndsAs r h → HasDone h number steps → MainIsBehind h start number
main_behind heads start number steps s r h stands is seen ends done =
    subst (λ (t : ℕ). MainIsBehind h start t) is (behind_all_lists heads start steps s stands r h ends seen (subst (λ (t : ℕ). HasDone h t steps) (sym is) done))
