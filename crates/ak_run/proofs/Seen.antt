-- What main has seen of a session that it closed: it is so when main has seen as much, and stays so as main goes on.
use Rattle.std.proofs.Common.{◌≡◌, ◌≢◌, ◌<◌, ◌≤◌, ◌+◌, ◌==◌, ℕ, Bool, true, false, cond, List, [], ◌∷◌, ◌++◌, length, All, Some, sym, ap, ◌∙◌, subst, length-append, eq-eqb, ne_eqb, max, arith}
use Rattle.std.specs.Prelude.{option_map, unwrap_or}
use Rattle.std.specs.List.{find, flat_map}
use Rattle.std.proofs.lemmas.List.{length-map}
use Rattle.std.proofs.lemmas.List.Elements.{All-append, All-cons, All-head, All-nil, All-tail, All-weaker}
use mathlib.Core.Logic.{dite}
use native.Mathlib.Decide.{ℕ_discrete}
use Rattle.ak_base.specs.Thread.{main_thread}
use Rattle.ak_turn.specs.Entries.{StartsWith, last_stamp_of}
use Rattle.ak_turn.specs.Noted.{Noted, note, noted, noted_from}
use Rattle.ak_roster.specs.declared.entry.EntryWithObjects.{EntryWithObjects}
use Rattle.ak_roster.specs.declared.entry.RosterEntry.{RosterEntry}
use Rattle.ak_port.specs.PortCalls as at_ports
use Rattle.ak_port.specs.ReplySeats as at_books
use Rattle.ak_desk.specs.Desk as the_desks
use Rattle.ak_desk.specs.Shared as at_desks
use Rattle.ak_diary.specs.Step.{AreStamped, IsStamped, Step, at_book, at_desk, at_port, at_roster, book_entry, desk_entry, lacked, port_entry, roster_entry, roster_stamp, saw_book, saw_port, saw_roster, time_after, time_of}
use Rattle.ak_looper.specs.declared.door.Door.{Door}
use Rattle.ak_looper.specs.Rosters.{Object, maker_of, plain_of}
use Rattle.ak_session.specs.declared.session.Session.{Session}
use Rattle.ak_session.specs.Stands.{desk_front_at, front_at}
use Rattle.ak_run.specs.declared.run.Run.{Run}
use Rattle.ak_run.specs.Doing.{Does, desk_front}
use Rattle.ak_run.specs.Recording.{IsRecorded, fronts_of, list_at}
use Rattle.ak_run.specs.Running.{IsRunning}
use Rattle.ak_run.specs.Seen.{HasSeen, HasSeenThrough, IsSeenTo, KnowsMore}
use Rattle.ak_run.proofs.EditsMore.{split_case}

-- ---- what comes after that number of entries
module _ {L : Type 0} (by stamp : L → ℕ) where
  -- a list that goes on is no shorter
  pub no_shorter : (a b : List L) → StartsWith b a → length a ≤ length b
  no_shorter a b on = omega (arith, ap (λ (l : List L). length l) on.1, length-append a on.0)

  -- an entry that is in a list that goes on was in it before, or comes after all of that
  pub seen_on : (time count : ℕ) (a b : List L) → StartsWith b a → IsSeenTo by stamp time count a → IsSeenTo by stamp time count b
  seen_on time count a b on seen = record {
    many = omega (arith, seen.many, no_shorter a b on);
    behind = λ before x behind is mine past.
        split_case (count ≤ length before) a on.0 before x behind (sym on.1 ∙ is)
        (λ rest inside. seen.behind before x rest inside mine past)
        (λ more so there. omega (arith, seen.many, ap (λ (l : List L). length l) so, length-append a more));
  }

  module _ (time : ℕ) where
    abbrev pub IsInTime : Noted L → Type 0
    IsInTime n = stamp n.entry ≤ time

    noted_own : (before : List L) (x : L) (xs : List L) → by x ≡ main_thread → noted_from by main_thread before (x ∷ xs) ≡ note before x ∷ noted_from by main_thread (before ++ x ∷ []) xs
    noted_own before x xs own = ap (λ b. cond b (note before x ∷ noted_from by main_thread (before ++ x ∷ []) xs) (noted_from by main_thread (before ++ x ∷ []) xs)) (eq-eqb (by x) main_thread own)

    noted_other : (before : List L) (x : L) (xs : List L) → by x ≢ main_thread → noted_from by main_thread before (x ∷ xs) ≡ noted_from by main_thread (before ++ x ∷ []) xs
    noted_other before x xs other = ap (λ b. cond b (note before x ∷ noted_from by main_thread (before ++ x ∷ []) xs) (noted_from by main_thread (before ++ x ∷ []) xs)) (ne_eqb (by x) main_thread other)

    -- of what main made each is noted
    one_in_time : (so_far before : List L) (x : L) (behind : List L) → by x ≡ main_thread → All IsInTime (noted_from by main_thread so_far (before ++ x ∷ behind)) → stamp x ≤ time
    one_in_time so_far [] x behind own all =
        All-head IsInTime (note so_far x) (noted_from by main_thread (so_far ++ x ∷ []) behind) (subst (λ (notes : List (Noted L)). All IsInTime notes) (noted_own so_far x behind own) all)
    one_in_time so_far (y ∷ before) x behind own all =
        let rest : List (Noted L) = noted_from by main_thread (so_far ++ y ∷ []) (before ++ x ∷ behind) in
        dite (ℕ_discrete (by y) main_thread)
        (λ mine. one_in_time (so_far ++ y ∷ []) before x behind own (All-tail IsInTime (note so_far y) rest (subst (λ (notes : List (Noted L)). All IsInTime notes) (noted_own so_far y (before ++ x ∷ behind) mine) all)))
        (λ other. one_in_time (so_far ++ y ∷ []) before x behind own (subst (λ (notes : List (Noted L)). All IsInTime notes) (noted_other so_far y (before ++ x ∷ behind) other) all))

    -- so where all that main made is of that time or before, it made nothing past it
    pub none_past : (entries before : List L) (x : L) (behind : List L) → All IsInTime (noted by main_thread entries) → entries ≡ before ++ x ∷ behind → by x ≡ main_thread → time < stamp x → ⊥
    none_past entries before x behind all is mine past =
        omega (arith, past, one_in_time [] before x behind mine (subst (λ (l : List L). All IsInTime (noted by main_thread l)) is all))

    pub seen_by_now : (count : ℕ) (entries : List L) → count ≤ length entries → All IsInTime (noted by main_thread entries) → IsSeenTo by stamp time count entries
    seen_by_now count entries many all = record { many = many; behind = λ before x behind is mine past. absurd (none_past entries before x behind all is mine past) }

-- ---- stamps in time
-- no step goes back in time
after_step : (time : ℕ) (step : Step) → IsStamped time step → time ≤ time_after time step
after_step time (at_roster n) is = let due : n.entry.stamp ≡ 1 + max time (last_stamp_of roster_stamp n.before) = is in omega (arith, due)
after_step time (at_book n) is = let due : n.entry.stamp ≡ 1 + max time (last_stamp_of at_books.stamp_of n.before) = is in omega (arith, due)
after_step time (at_port looper n) is = let due : n.entry.stamp ≡ 1 + max time (last_stamp_of at_ports.stamp_number n.before) = is in omega (arith, due)
after_step time (at_desk looper n) is = let due : n.entry.plain.stamp ≡ 1 + max time (last_stamp_of the_desks.stamp_number n.before) = is in omega (arith, due)
after_step time (saw_roster seen) is = omega arith
after_step time (saw_book seen) is = omega arith
after_step time (saw_port looper seen) is = omega arith
after_step time lacked is = omega arith

after_steps : (time : ℕ) (steps : List Step) → AreStamped time steps → time ≤ time_of time steps
after_steps time [] are = omega arith
after_steps time (step ∷ steps) are = omega (arith, after_step time step are.0, after_steps (time_after time step) steps are.1)

-- so each step's entry is of the time at which the steps end, or before
module _ {L : Type 0} (stamp : L → ℕ) (entry : Step → List (Noted L)) (last : ℕ) (each : (time : ℕ) (step : Step) → time_after time step ≤ last → All (λ (n : Noted L). stamp n.entry ≤ last) (entry step)) where
  in_time_all : (time : ℕ) (steps : List Step) → AreStamped time steps → time_of time steps ≤ last → All (λ (n : Noted L). stamp n.entry ≤ last) (flat_map entry steps)
  in_time_all time [] are within = All-nil (λ (n : Noted L). stamp n.entry ≤ last)
  in_time_all time (step ∷ steps) are within =
      All-append (λ (n : Noted L). stamp n.entry ≤ last) (entry step) (flat_map entry steps) (each time step (omega (arith, after_steps (time_after time step) steps are.1, within)))
      (in_time_all (time_after time step) steps are.1 within)

one_of : {X : Type 0} (P : X → Type 0) (x : X) → P x → All P (x ∷ [])
one_of P x has = All-cons P x [] has (All-nil P)

one_if : {X : Type 0} (P : X → Type 0) (x : X) (b : Bool) → P x → All P (cond b (x ∷ []) [])
one_if P x true has = one_of P x has
one_if P x false has = All-nil P

module _ (last time : ℕ) where
  roster_step : (step : Step) → time_after time step ≤ last → All (λ n. n.entry.stamp ≤ last) (roster_entry step)
  roster_step (at_roster n) within = one_of (λ m. m.entry.stamp ≤ last) n within
  roster_step (at_book n) within = All-nil (λ m. m.entry.stamp ≤ last)
  roster_step (at_port looper n) within = All-nil (λ m. m.entry.stamp ≤ last)
  roster_step (at_desk looper n) within = All-nil (λ m. m.entry.stamp ≤ last)
  roster_step (saw_roster seen) within = All-nil (λ m. m.entry.stamp ≤ last)
  roster_step (saw_book seen) within = All-nil (λ m. m.entry.stamp ≤ last)
  roster_step (saw_port looper seen) within = All-nil (λ m. m.entry.stamp ≤ last)
  roster_step lacked within = All-nil (λ m. m.entry.stamp ≤ last)

  book_step : (step : Step) → time_after time step ≤ last → All (λ n. at_books.stamp_of n.entry ≤ last) (book_entry step)
  book_step (at_book n) within = one_of (λ m. at_books.stamp_of m.entry ≤ last) n within
  book_step (at_roster n) within = All-nil (λ m. at_books.stamp_of m.entry ≤ last)
  book_step (at_port looper n) within = All-nil (λ m. at_books.stamp_of m.entry ≤ last)
  book_step (at_desk looper n) within = All-nil (λ m. at_books.stamp_of m.entry ≤ last)
  book_step (saw_roster seen) within = All-nil (λ m. at_books.stamp_of m.entry ≤ last)
  book_step (saw_book seen) within = All-nil (λ m. at_books.stamp_of m.entry ≤ last)
  book_step (saw_port looper seen) within = All-nil (λ m. at_books.stamp_of m.entry ≤ last)
  book_step lacked within = All-nil (λ m. at_books.stamp_of m.entry ≤ last)

  port_step : (looper : ℕ) (step : Step) → time_after time step ≤ last → All (λ n. at_ports.stamp_number n.entry ≤ last) (port_entry looper step)
  port_step looper (at_port number n) within = one_if (λ m. at_ports.stamp_number m.entry ≤ last) n (number == looper) within
  port_step looper (at_roster n) within = All-nil (λ m. at_ports.stamp_number m.entry ≤ last)
  port_step looper (at_book n) within = All-nil (λ m. at_ports.stamp_number m.entry ≤ last)
  port_step looper (at_desk number n) within = All-nil (λ m. at_ports.stamp_number m.entry ≤ last)
  port_step looper (saw_roster seen) within = All-nil (λ m. at_ports.stamp_number m.entry ≤ last)
  port_step looper (saw_book seen) within = All-nil (λ m. at_ports.stamp_number m.entry ≤ last)
  port_step looper (saw_port number seen) within = All-nil (λ m. at_ports.stamp_number m.entry ≤ last)
  port_step looper lacked within = All-nil (λ m. at_ports.stamp_number m.entry ≤ last)

  desk_step : (looper : ℕ) (step : Step) → time_after time step ≤ last → All (λ n. the_desks.stamp_number n.entry ≤ last) (desk_entry looper step)
  desk_step looper (at_desk number n) within = one_if (λ m. the_desks.stamp_number m.entry ≤ last) n (number == looper) within
  desk_step looper (at_roster n) within = All-nil (λ m. the_desks.stamp_number m.entry ≤ last)
  desk_step looper (at_book n) within = All-nil (λ m. the_desks.stamp_number m.entry ≤ last)
  desk_step looper (at_port number n) within = All-nil (λ m. the_desks.stamp_number m.entry ≤ last)
  desk_step looper (saw_roster seen) within = All-nil (λ m. the_desks.stamp_number m.entry ≤ last)
  desk_step looper (saw_book seen) within = All-nil (λ m. the_desks.stamp_number m.entry ≤ last)
  desk_step looper (saw_port number seen) within = All-nil (λ m. the_desks.stamp_number m.entry ≤ last)
  desk_step looper lacked within = All-nil (λ m. the_desks.stamp_number m.entry ≤ last)

-- ---- what main knows goes on
pub knows_by : (steps : List Step) (r r' : Run) → Does steps r r' → KnowsMore r r'
knows_by steps r r' does = record { roster = does.roster_on; book = does.goes.book_on; ports = does.goes.ports_on; desks = does.desks_on }

-- so what it has seen of a session it has seen further on
pub seen_further : (r r' : Run) (time : ℕ) (s : Session) → KnowsMore r r' → HasSeen r time s → HasSeen r' time s
seen_further r r' time s more seen = record {
  at_roster = seen_on maker_of (λ (entry : RosterEntry). entry.stamp) time (length s.roster_seat.front) (plain_of r.roster_seat) (plain_of r'.roster_seat) more.roster seen.at_roster;
  at_book = seen_on at_books.maker_of at_books.stamp_of time (length s.hands.book_seat.front) r.hands.book_seat.front r'.hands.book_seat.front more.book seen.at_book;
  at_ports = λ looper.
      seen_on at_ports.by_number at_ports.stamp_number time (length (front_at s looper)) (list_at (fronts_of r).ports looper) (list_at (fronts_of r').ports looper) (more.ports looper) (seen.at_ports looper);
  at_desks = λ looper. seen_on at_desks.by_number the_desks.stamp_number time (length (desk_front_at s looper)) (desk_front r looper) (desk_front r' looper) (more.desks looper) (seen.at_desks looper);
}

pub through_further : (r r' : Run) (door : ℕ × Door) → KnowsMore r r' → HasSeenThrough door r → HasSeenThrough door r'
through_further r r' door more seen = record {
  port = omega (arith, seen.port, no_shorter at_ports.by_number at_ports.stamp_number (list_at (fronts_of r).ports door.0) (list_at (fronts_of r').ports door.0) (more.ports door.0));
  desk = omega (arith, seen.desk, no_shorter at_desks.by_number the_desks.stamp_number (desk_front r door.0) (desk_front r' door.0) (more.desks door.0));
}

-- ---- when it closes one
-- what holds of nothing, and of what was seen through each door to that looper, holds of what was seen through the first one
pub first_door
    : {X : Type 0} (front : ℕ × Door → List X) (P : List X → Type 0) (looper : ℕ) (doors : List (ℕ × Door)) → P [] → All (λ (door : ℕ × Door). door.0 ≡ looper → P (front door)) doors
    → P (unwrap_or (option_map front (find (λ (door : ℕ × Door). door.0 == looper) doors)) [])
first_door front P looper [] none all = none
first_door front P looper (door ∷ doors) none all =
    let test : ℕ × Door → Bool = λ (d : ℕ × Door). d.0 == looper in
    let at : ℕ × Door → Type 0 = λ (d : ℕ × Door). d.0 ≡ looper → P (front d) in
    let told : Bool → Type 0 = λ (b : Bool). P (unwrap_or (option_map front (cond b (Some door) (find test doors))) []) in
    dite (ℕ_discrete door.0 looper)
    (λ same. subst told (sym (eq-eqb door.0 looper same)) (All-head at door doors all same))
    (λ differ. subst told (sym (ne_eqb door.0 looper differ)) (first_door front P looper doors none (All-tail at door doors all)))

-- main has seen as much as it, and has made no entry past its own time
pub seen_now : (r : Run) (s : Session) → IsRunning r → length s.roster_seat.front ≤ length r.roster_seat.front → length s.hands.book_seat.front ≤ length r.hands.book_seat.front → All (λ (door : ℕ × Door). HasSeenThrough door r) s.doors.items
    → HasSeen r r.hands.clock.time s
seen_now r s is roster book ways =
    let now = r.hands.clock.time in
    let did = is.recorded.did in
    let has : IsRecorded did (fronts_of r) = is.recorded.recorded in
    let plain = λ (entry : EntryWithObjects Object). entry.plain in
    let ends : time_of 0 did ≤ now = omega (arith, has.in_time.time_is) in
    record {
      at_roster = seen_by_now maker_of (λ (entry : RosterEntry). entry.stamp) now (length s.roster_seat.front) (plain_of r.roster_seat) (omega (arith, roster, length-map r.roster_seat.front plain))
          (subst (All (λ n. n.entry.stamp ≤ now)) (sym has.roster) (in_time_all (λ (entry : RosterEntry). entry.stamp) roster_entry now (roster_step now) 0 did has.in_time.stamped ends));
      at_book = seen_by_now at_books.maker_of at_books.stamp_of now (length s.hands.book_seat.front) r.hands.book_seat.front book
          (subst (All (λ n. at_books.stamp_of n.entry ≤ now)) (sym has.book) (in_time_all at_books.stamp_of book_entry now (book_step now) 0 did has.in_time.stamped ends));
      at_ports = λ looper.
          let list = list_at (fronts_of r).ports looper in
          seen_by_now at_ports.by_number at_ports.stamp_number now (length (front_at s looper)) list
          (first_door (λ (door : ℕ × Door). door.1.port_seat.front) (λ front. length front ≤ length list) looper s.doors.items (omega arith)
          (All-weaker (λ (door : ℕ × Door). HasSeenThrough door r) (λ (door : ℕ × Door). door.0 ≡ looper → length door.1.port_seat.front ≤ length list)
          (λ door seen same. subst (λ (n : ℕ). length door.1.port_seat.front ≤ length (list_at (fronts_of r).ports n)) same seen.port) s.doors.items ways))
          (subst (All (λ n. at_ports.stamp_number n.entry ≤ now)) (sym (has.ports looper)) (in_time_all at_ports.stamp_number (port_entry looper) now (λ time. port_step now time looper) 0 did has.in_time.stamped ends));
      at_desks = λ looper.
          let list = desk_front r looper in
          seen_by_now at_desks.by_number the_desks.stamp_number now (length (desk_front_at s looper)) list
          (first_door (λ (door : ℕ × Door). door.1.desk_seat.front) (λ front. length front ≤ length list) looper s.doors.items (omega arith)
          (All-weaker (λ (door : ℕ × Door). HasSeenThrough door r) (λ (door : ℕ × Door). door.0 ≡ looper → length door.1.desk_seat.front ≤ length list)
          (λ door seen same. subst (λ (n : ℕ). length door.1.desk_seat.front ≤ length (desk_front r n)) same seen.desk) s.doors.items ways))
          (subst (All (λ n. the_desks.stamp_number n.entry ≤ now)) (sym (is.recorded.edits looper)) (in_time_all the_desks.stamp_number (desk_entry looper) now (λ time. desk_step now time looper) 0 did has.in_time.stamped ends));
    }

-- it saw as much of the roster as the session had, then of the reply book, then through its doors, and did nothing after that
pub seen_all
    : (r a b w x : Run) (s : Session) → Does [] r w → Does [] a w → Does [] b w → Does [] w x → IsRunning w → length s.roster_seat.front ≤ length a.roster_seat.front → length s.hands.book_seat.front ≤ length b.hands.book_seat.front
    → All (λ (door : ℕ × Door). HasSeenThrough door w) s.doors.items → HasSeen x r.hands.clock.time s
seen_all r a b w x s one two three last is roster book ways =
    let plain = λ (entry : EntryWithObjects Object). entry.plain in
    let at_roster : length s.roster_seat.front ≤ length w.roster_seat.front =
    omega (arith, roster, no_shorter maker_of (λ (entry : RosterEntry). entry.stamp) (plain_of a.roster_seat) (plain_of w.roster_seat) two.roster_on, length-map a.roster_seat.front plain, length-map w.roster_seat.front plain) in
    let at_book : length s.hands.book_seat.front ≤ length w.hands.book_seat.front = omega (arith, book, no_shorter at_books.maker_of at_books.stamp_of b.hands.book_seat.front w.hands.book_seat.front three.goes.book_on) in
    seen_further w x r.hands.clock.time s (knows_by [] w x last) (subst (λ (t : ℕ). HasSeen w t s) (sym one.goes.in_time.time_is) (seen_now w s is at_roster at_book ways))
