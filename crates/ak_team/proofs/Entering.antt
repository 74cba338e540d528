-- What main enters at the roster, and how many loopers it starts.
use Rattle.std.proofs.Common.{◌≡◌, ◌≢◌, ◌⊎◌, inl, inr, eq-eqb, ne_eqb, ℕ, zero, suc, ◌+◌, ◌<◌, ◌≤◌, Bool, true, false, cond, not, List, [], ◌∷◌, ◌++◌, length, map, max, Option, None, Some, refl, sym, ap, ◌∙◌, subst, append-nil, arith, All}
use Rattle.std.specs.Prelude.{IfSome, IsTrue, IsFalse, slice_get, unwrap_or, option_map, if◌then◌else◌}
use Rattle.std.specs.List.{Any, find}
use Rattle.std.proofs.lemmas.Option.{get_or_from_slice_get, slice_get_within}
use Rattle.std.proofs.lemmas.List.Elements.{All-append, All-get_or, All-cons, All-filter, All-nil, All-weaker}
use mathlib.Core.Logic.{dite}
use native.Mathlib.Decide.{ℕ_discrete}
use Rattle.ak_base.proofs.Surface.{find-All}
use Rattle.ak_base.specs.Thread.{main_thread}
use Rattle.ak_base.specs.declared.app_word.AppWord.{AppWord}
use Rattle.ak_turn.specs.declared.clock.Clock.{Clock}
use Rattle.ak_roster.specs.declared.answer.Decision.{Decision}
use Rattle.ak_roster.specs.declared.answer.Decision.TheVariants as decision
use Rattle.ak_roster.specs.declared.entry.EntryWithObjects.{EntryWithObjects}
use Rattle.ak_roster.specs.declared.entry.LaunchOutcome.{LaunchOutcome}
use Rattle.ak_roster.specs.declared.entry.LaunchOutcome.TheVariants as launch
use Rattle.ak_roster.specs.declared.entry.RosterEntry.{RosterEntry}
use Rattle.ak_roster.specs.declared.entry.RosterEvent.{RosterEvent}
use Rattle.ak_roster.specs.declared.entry.RosterEvent.TheVariants as event
use Rattle.ak_roster.specs.declared.head.AppHead.{AppHead}
use Rattle.ak_roster.specs.declared.team.Running.{Running}
use Rattle.ak_roster.specs.Answers.{decision_of}
use Rattle.ak_roster.specs.Heads.{IsHeads, excluder, first_fit, passes, excludes}
use Rattle.ak_roster.specs.Kept.{count_launched, count_of}
use Rattle.ak_roster.specs.Machine.{IsHistory, IsLegal, RosterState, after, has_room, launch_at, launch_first, launch_of, loopers_at, runs_team, state_of, team_of, unless_excluded}
use Rattle.ak_roster.specs.Roster.{Enters, Stays, new_entry, plain_entries, state}
use Rattle.ak_roster.proofs.Surface.{carried, loopers-after, started_facts, state_of-append}
use Rattle.ak_headline.specs.Main.{MayEnterRoster}
use Rattle.ak_looper.specs.declared.kept_door.KeptDoor.{KeptDoor}
use Rattle.ak_looper.specs.Rosters.{Object}
use Rattle.ak_looper.proofs.Surface.{last_shown}
use Rattle.ak_looper.specs.Counting.{started_in}
use Rattle.ak_team.specs.Launching.{Book, HasEntered, IsTurnInTime, turn_step}
use Rattle.ak_team.specs.InTime.{AreInTime}
use Rattle.std.proofs.lemmas.List.{map-append}

-- ---- entries, and time
-- what the journal shows of two lists
pub plain-append : (xs ys : List (EntryWithObjects Object)) → plain_entries (xs ++ ys) ≡ plain_entries xs ++ plain_entries ys
plain-append xs ys = map-append (λ (entry : EntryWithObjects Object). entry.plain) xs ys

-- nothing takes no time
pub no_time : (a : ℕ) → AreInTime a [] a
no_time a = record { stamped = tt; time_is = refl }

-- what holds of each holds at a place
all_at : {X : Type 0} (P : X → Type 0) (xs : List X) (i : ℕ) (x : X) → All P xs → slice_get xs i ≡ Some x → P x
all_at P xs i x all is = subst P (get_or_from_slice_get xs i x x is) (All-get_or P xs i x (slice_get_within xs i x is) all)

-- that a team is gone, where it ran
abbrev pub gone_event : ℕ → Bool → Option RosterEvent
gone_event team true = Some (event.Gone team)
gone_event team false = None

-- ---- one entry, or none
-- what stands behind the same is the same
same_behind : {X : Type 0} (xs ys zs : List X) → xs ++ ys ≡ xs ++ zs → ys ≡ zs
same_behind [] ys zs same = same
same_behind (x ∷ xs) ys zs same = same_behind xs ys zs (cc same)

-- a turn without an entry takes no time
pub no_turn : (time : ℕ) (book book' : Book) → book'.entries ≡ book.entries → IsTurnInTime time time book book'
no_turn time book book' same added is =
    let none : [] ≡ added = same_behind book.entries [] added (append-nil book.entries ∙ sym same ∙ is) in
    subst (λ (l : List (EntryWithObjects Object)). AreInTime time (map (turn_step book.entries) l) time) none (no_time time)

pub none_took_time : (time : ℕ) (book book' : Book) → HasEntered None 0 book book' → IsTurnInTime time time book book'
none_took_time time book book' entered = no_turn time book book' (by_events entered.added entered.events entered.entries)
  where
    by_events : (added : List (EntryWithObjects Object)) → map (λ (entry : EntryWithObjects Object). entry.plain.event) added ≡ [] → book'.entries ≡ book.entries ++ added → book'.entries ≡ book.entries
    by_events [] events is = is ∙ append-nil book.entries
    by_events (x ∷ xs) events is = absurd cc

module _ (book book' : Book) (clock clock' : Clock) where
  pub one_in_time : (what : RosterEvent) (objects : List (Option Object)) (doors : List KeptDoor) → Enters what objects doors book book' clock clock' → IsTurnInTime clock.time clock'.time book book'
  one_in_time what objects doors enters added is =
      let entry = new_entry clock book.entries what objects in
      let same : entry ∷ [] ≡ added = same_behind book.entries (entry ∷ []) added (sym (ap (λ (r : Book). r.entries) enters.0) ∙ is) in
      subst (λ (l : List (EntryWithObjects Object)). AreInTime clock.time (map (turn_step book.entries) l) clock'.time) same
      (record { stamped = (ap (λ (n : ℕ). 1 + max clock.time n) (last_shown book.entries), tt); time_is = sym (ap (λ (c : Clock). c.time) enters.1) })

  pub none_in_time : Stays book book' clock clock' → IsTurnInTime clock.time clock'.time book book'
  none_in_time stays = subst (λ (later : ℕ). IsTurnInTime clock.time later book book') (sym (ap (λ (c : Clock). c.time) stays.1)) (no_turn clock.time book book' (ap (λ (r : Book). r.entries) stays.0))

  pub gone_in_time : (team : ℕ) (left : Bool) → (IsTrue left → Enters (event.Gone team) [] book.doors book book' clock clock') → (IsFalse left → Stays book book' clock clock') → IsTurnInTime clock.time clock'.time book book'
  gone_in_time team true enters stays = one_in_time (event.Gone team) [] book.doors (enters refl)
  gone_in_time team false enters stays = none_in_time (stays refl)

  pub one_entered : (n : ℕ) (what : RosterEvent) (objects : List (Option Object)) (doors : List KeptDoor) → MayEnterRoster what → clock.thread.0 ≡ main_thread → Enters what objects doors book book' clock clock' → count_of book.heads what ≡ n → HasEntered (Some what) n book book'
  one_entered n what objects doors may main enters count =
      let entry = new_entry clock book.entries what objects in
      record {
        heads = ap (λ (r : Book). r.heads) enters.0;
        added = entry ∷ [];
        entries = ap (λ (r : Book). r.entries) enters.0;
        one = omega arith;
        events = refl;
        by_main = All-cons (λ (e : EntryWithObjects Object). e.plain.by.0 ≡ main_thread) entry [] main (All-nil (λ (e : EntryWithObjects Object). e.plain.by.0 ≡ main_thread));
        may = All-cons (λ (e : EntryWithObjects Object). MayEnterRoster e.plain.event) entry [] may (All-nil (λ (e : EntryWithObjects Object). MayEnterRoster e.plain.event));
        starts = plus_none (count_of book.heads what) n count;
      }
    where
      plus_none : (m n : ℕ) → m ≡ n → m + 0 ≡ n
      plus_none m n same = omega (arith, same)

  pub none_entered : Stays book book' clock clock' → HasEntered None 0 book book'
  none_entered stays = record {
    heads = ap (λ (r : Book). r.heads) stays.0;
    added = [];
    entries = ap (λ (r : Book). r.entries) stays.0 ∙ sym (append-nil book.entries);
    one = omega arith;
    events = refl;
    by_main = All-nil (λ (e : EntryWithObjects Object). e.plain.by.0 ≡ main_thread);
    may = All-nil (λ (e : EntryWithObjects Object). MayEnterRoster e.plain.event);
    starts = refl;
  }

  pub gone_entered : (team : ℕ) (left : Bool) → clock.thread.0 ≡ main_thread → (IsTrue left → Enters (event.Gone team) [] book.doors book book' clock clock') → (IsFalse left → Stays book book' clock clock') → HasEntered (gone_event team left) 0 book book'
  gone_entered team true main enters stays = one_entered 0 (event.Gone team) [] book.doors tt main (enters refl) refl
  gone_entered team false main enters stays = none_entered (stays refl)

-- ---- a launch that is refused starts none
abbrev pub IsEntered : Decision → Type 0
IsEntered decision.NotFound = Unit {0}
IsEntered (decision.AlreadyRunning team) = Unit {0}
IsEntered decision.Limit = Unit {0}
IsEntered (decision.Starts place team first) = ⊥
IsEntered decision.NoMemory = ⊥

none_started : (heads : List AppHead) (o : LaunchOutcome) (d : Decision) → d ≡ decision_of o → IsEntered d → count_launched heads o ≡ 0
none_started heads (launch.Started place team first) d is refused = absurd (subst IsEntered is refused)
none_started heads (launch.AlreadyRunning team) d is refused = refl
none_started heads launch.NotFound d is refused = refl
none_started heads launch.Limit d is refused = refl

-- what was refused is what it came to
abbrev pub refused_as : Decision → LaunchOutcome
refused_as (decision.AlreadyRunning team) = launch.AlreadyRunning team
refused_as decision.NotFound = launch.NotFound
refused_as decision.Limit = launch.Limit
refused_as (decision.Starts place team first) = launch.Started place team first
refused_as decision.NoMemory = launch.NotFound

came_to : (o : LaunchOutcome) (d : Decision) → d ≡ decision_of o → o ≡ refused_as d
came_to (launch.Started place team first) d is = sym (ap refused_as is)
came_to (launch.AlreadyRunning team) d is = sym (ap refused_as is)
came_to launch.NotFound d is = sym (ap refused_as is)
came_to launch.Limit d is = sym (ap refused_as is)

pub refusal_entered : (book book' : Book) (clock clock' : Clock) (word : AppWord) (d : Decision) → clock.thread.0 ≡ main_thread → IsEntered d → d ≡ decision_of (launch_of book.heads (state book) word)
    → Enters (event.Launch word (launch_of book.heads (state book) word)) [] book.doors book book' clock clock' → HasEntered (Some (event.Launch word (refused_as d))) 0 book book'
refusal_entered book book' clock clock' word d main refused is enters =
    let came = launch_of book.heads (state book) word in
    subst (λ (o : LaunchOutcome). HasEntered (Some (event.Launch word o)) 0 book book') (came_to came d is)
    (one_entered book book' clock clock' 0 (event.Launch word came) [] book.doors tt main enters (none_started book.heads came d is refused))

-- ---- a team that runs
-- one that a search found is there
abbrev Runs : ℕ → List Running → Type 0
Runs team running = Any (λ (r : Running). r.team ≡ team) running

later : (team : ℕ) (x : Running) (xs : List Running) → Runs team xs → Runs team (x ∷ xs)
later team x xs any = (suc any.0, any.1, omega (arith, any.2), any.3, any.4)

found_there : (test : Running → Bool) (xs : List Running) (r : Running) → find test xs ≡ Some r → Runs r.team xs
found_there test [] r is = absurd cc
found_there test (x ∷ xs) r is = by_case (λ e. found_there test xs r e) (test x) is
  where
    by_case : (find test xs ≡ Some r → Runs r.team xs) → (b : Bool) → cond b (Some x) (find test xs) ≡ Some r → Runs r.team (x ∷ xs)
    by_case behind true e = (0, x, omega arith, refl, cc)
    by_case behind false e = later r.team x xs (behind e)

module _ (heads : List AppHead) (s : RosterState) (team : ℕ) where
  abbrev unless : Bool → ℕ → LaunchOutcome
  unless room place = if room then launch.Started place (s.teams + 1) (length s.loopers) else launch.Limit

  no_room : (room : Bool) (place : ℕ) → unless room place ≡ launch.AlreadyRunning team → ⊥
  no_room true place e = absurd cc
  no_room false place e = absurd cc

  kept_by : (head : AppHead) (place : ℕ) (other : Option Running) → other ≡ excluder heads s.running head → unless_excluded other (unless (has_room s.teams (length s.loopers) head) place) ≡ launch.AlreadyRunning team → Runs team s.running
  kept_by head place None is e = absurd (no_room (has_room s.teams (length s.loopers) head) place e)
  kept_by head place (Some t) is e =
      let same : t.team ≡ team = cc in
      subst (λ n. Runs n s.running) same (found_there (λ (r : Running). passes (excludes head) (slice_get heads r.description)) s.running t (sym is))

  kept_at : (place : ℕ) (head : Option AppHead) → launch_at heads s.running s.teams (length s.loopers) place head ≡ launch.AlreadyRunning team → Runs team s.running
  kept_at place None e = absurd cc
  kept_at place (Some head) e = kept_by head place (excluder heads s.running head) refl e

  kept_first : (place : Option ℕ) → launch_first heads s.running s.teams (length s.loopers) place ≡ launch.AlreadyRunning team → Runs team s.running
  kept_first None e = absurd cc
  kept_first (Some place) e = kept_at place (slice_get heads place) e

  already : (word : AppWord) (o : LaunchOutcome) → launch_of heads s word ≡ o → decision.AlreadyRunning team ≡ decision_of o → Runs team s.running
  already word (launch.AlreadyRunning t) is told = let same : t ≡ team = cc in kept_first (first_fit heads word) (is ∙ ap launch.AlreadyRunning same)
  already word (launch.Started p t f) is told = absurd cc
  already word launch.NotFound is told = absurd cc
  already word launch.Limit is told = absurd cc

-- behind the entry of that answer the same teams run
pub same_running : (book book' : Book) (clock clock' : Clock) (word : AppWord) (team : ℕ) → decision.AlreadyRunning team ≡ decision_of (launch_of book.heads (state book) word)
    → Enters (event.Launch word (launch_of book.heads (state book) word)) [] book.doors book book' clock clock' → (state book').running ≡ (state book).running
same_running book book' clock clock' word team told enters =
    let outcome = launch_of book.heads (state book) word in
    let entry : RosterEntry = record { stamp = (new_entry clock book.entries (event.Launch word outcome) []).plain.stamp; by = clock.thread; event = event.Launch word outcome } in
    ap (λ (r : Book). (state r).running) enters.0 ∙ ap (λ l. (state_of book.heads l).running) (plain-append book.entries (new_entry clock book.entries (event.Launch word outcome) [] ∷ []))
    ∙ ap (λ (t : RosterState). t.running) (state_of-append book.heads (plain_entries book.entries) entry) ∙ nothing_more outcome told
  where
    nothing_more : (o : LaunchOutcome) → decision.AlreadyRunning team ≡ decision_of o → (state book).running ++ team_of book.heads o ≡ (state book).running
    nothing_more (launch.AlreadyRunning t) told = append-nil (state book).running
    nothing_more (launch.Started p t f) told = absurd cc
    nothing_more launch.NotFound told = absurd cc
    nothing_more launch.Limit told = absurd cc

-- so it runs on
pub runs_on : (book book' : Book) (clock clock' : Clock) (word : AppWord) (team : ℕ) → decision.AlreadyRunning team ≡ decision_of (launch_of book.heads (state book) word)
    → Enters (event.Launch word (launch_of book.heads (state book) word)) [] book.doors book book' clock clock' → Runs team (state book').running
runs_on book book' clock clock' word team told enters =
    subst (Runs team) (sym (same_running book book' clock clock' word team told enters)) (already book.heads (state book) team word (launch_of book.heads (state book) word) refl told)

-- ---- the loopers of each team that runs were started, and it has one
pub record IsFound (many : ℕ) (r : Running) : Type 0 where
  pub first : r.first < many
  pub all : r.first + r.loopers ≤ many
  pub some : 1 ≤ r.loopers

module _ (heads : List AppHead) (some : All (λ (head : AppHead). 1 ≤ head.loopers) heads) where
  abbrev AreFound : RosterState → Type 0
  AreFound s = All (IsFound (length s.loopers)) s.running

  wider : (m n : ℕ) → m ≤ n → (rs : List Running) → All (IsFound m) rs → All (IsFound n) rs
  wider m n le rs all = All-weaker (IsFound m) (IsFound n) (λ r is. record { first = omega (arith, le, is.first); all = omega (arith, le, is.all); some = is.some }) rs all

  count_at : (place : ℕ) (head : AppHead) → slice_get heads place ≡ Some head → 1 ≤ loopers_at heads place
  count_at place head is =
      let many : loopers_at heads place ≡ head.loopers = ap (λ (o : Option AppHead). unwrap_or (option_map (λ (h : AppHead). h.loopers) o) 0) is in
      omega (arith, many, all_at (λ (h : AppHead). 1 ≤ h.loopers) heads place head some is)

  more_found : (before : List RosterEntry) (s : RosterState) (e : RosterEntry) → AreFound s → IsLegal heads s e.by.0 e.event → AreFound (after heads s e.by.0 e.event)
  more_found before s e found legal = by_event e.event legal
    where
      grows : (what : RosterEvent) → length s.loopers ≤ length (after heads s e.by.0 what).loopers
      grows what = omega (arith, loopers-after heads s e.by.0 what)

      none_more : (what : RosterEvent) → (after heads s e.by.0 what).running ≡ s.running ++ [] → AreFound (after heads s e.by.0 what)
      none_more what is =
          let many = length (after heads s e.by.0 what).loopers in
          subst (All (IsFound many)) (sym is) (All-append (IsFound many) s.running [] (wider (length s.loopers) many (grows what) s.running found) (All-nil (IsFound many)))

      by_event : (what : RosterEvent) → IsLegal heads s e.by.0 what → AreFound (after heads s e.by.0 what)
      by_event (event.Launch word (launch.Started place team first)) is =
          let facts = started_facts heads s word place team first (sym is) in
          let what = event.Launch word (launch.Started place team first) in
          let many = loopers-after heads s e.by.0 what in
          All-append (IsFound (length (after heads s e.by.0 what).loopers)) s.running (team_of heads (launch.Started place team first)) (wider (length s.loopers) (length (after heads s e.by.0 what).loopers) (grows what) s.running found)
          (All-cons (IsFound (length (after heads s e.by.0 what).loopers)) (record { team = team; description = place; first = first; loopers = loopers_at heads place }) [] (record { first = omega (arith, many, facts.first_is, count_at place facts.head facts.stands); all = omega (arith, many, facts.first_is); some = count_at place facts.head facts.stands }) (All-nil (IsFound (length (after heads s e.by.0 what).loopers))))
      by_event (event.Launch word (launch.AlreadyRunning team)) is = none_more (event.Launch word (launch.AlreadyRunning team)) refl
      by_event (event.Launch word launch.NotFound) is = none_more (event.Launch word launch.NotFound) refl
      by_event (event.Launch word launch.Limit) is = none_more (event.Launch word launch.Limit) refl
      by_event (event.Find word outcome) is = found
      by_event (event.Gone team) is = All-filter (λ (r : Running). not (runs_team team r)) (IsFound (length s.loopers)) s.running found
      by_event (event.Door looper) is = wider (length s.loopers) (length (after heads s e.by.0 (event.Door looper)).loopers) (grows (event.Door looper)) s.running found

  pub firsts_are_started : (entries : List RosterEntry) → IsHistory heads entries → All (IsFound (length (state_of heads entries).loopers)) (state_of heads entries).running
  firsts_are_started entries history = carried heads (λ before s. AreFound s) more_found [] entries history (All-nil (IsFound 0))

-- ---- as many loopers more as the entry starts
module _ (heads : List AppHead) (entries : List (EntryWithObjects Object)) where
  more_loopers : (added : List (EntryWithObjects Object)) → length added ≤ 1 → length (state_of heads (plain_entries (entries ++ added))).loopers ≡ length (state_of heads (plain_entries entries)).loopers + started_in heads (plain_entries added)
  more_loopers [] few = ap (λ l. length (state_of heads (plain_entries l)).loopers) (append-nil entries) ∙ plus_nothing (length (state_of heads (plain_entries entries)).loopers)
    where
      plus_nothing : (n : ℕ) → n ≡ n + 0
      plus_nothing n = omega arith
  more_loopers (x ∷ []) few =
      ap (λ l. length (state_of heads l).loopers) (plain-append entries (x ∷ []))
      ∙ ap (λ (s : RosterState). length s.loopers) (state_of-append heads (plain_entries entries) x.plain)
      ∙ loopers-after heads (state_of heads (plain_entries entries)) x.plain.by.0 x.plain.event
      ∙ ap (λ n. length (state_of heads (plain_entries entries)).loopers + n) (plus_nothing (count_of heads x.plain.event))
    where
      plus_nothing : (n : ℕ) → n ≡ n + 0
      plus_nothing n = omega arith
  more_loopers (x ∷ y ∷ zs) few = absurd (omega (arith, few))

pub loopers_on : (what : Option RosterEvent) (n : ℕ) (book book' : Book) → HasEntered what n book book' → length (state book').loopers ≡ length (state book).loopers + n
loopers_on what n book book' entered =
    ap (λ h. length (state_of h (plain_entries book'.entries)).loopers) entered.heads ∙ ap (λ l. length (state_of book.heads (plain_entries l)).loopers) entered.entries
    ∙ more_loopers book.heads book.entries entered.added entered.one ∙ ap (λ m. length (state book).loopers + m) entered.starts

-- the one that a search finds was started; and a team that runs is found
found_so : (heads : List AppHead) (entries : List RosterEntry) (test : Running → Bool) (r : Running) → IsHeads heads → IsHistory heads entries → Some r ≡ find test (state_of heads entries).running → IsFound (length (state_of heads entries).loopers) r
found_so heads entries test r is history found =
    let some : All (λ (head : AppHead). 1 ≤ head.loopers) heads = λ i d lt. (is.loopers i d lt).0 in
    let P = IsFound (length (state_of heads entries).loopers) in
    subst (λ o. IfSome o P) (sym found) (find-All test P (state_of heads entries).running (firsts_are_started heads some entries history))

pub found_started : (heads : List AppHead) (entries : List RosterEntry) (test : Running → Bool) (r : Running) → IsHeads heads → IsHistory heads entries → Some r ≡ find test (state_of heads entries).running → r.first < length (state_of heads entries).loopers
found_started heads entries test r is history found = (found_so heads entries test r is history found).first

pub all_started : (heads : List AppHead) (entries : List RosterEntry) (test : Running → Bool) (r : Running) → IsHeads heads → IsHistory heads entries → Some r ≡ find test (state_of heads entries).running → r.first + r.loopers ≤ length (state_of heads entries).loopers
all_started heads entries test r is history found = (found_so heads entries test r is history found).all

pub some_started : (heads : List AppHead) (entries : List RosterEntry) (test : Running → Bool) (r : Running) → IsHeads heads → IsHistory heads entries → Some r ≡ find test (state_of heads entries).running → 1 ≤ r.loopers
some_started heads entries test r is history found = (found_so heads entries test r is history found).some

none_not_some : (y : Running) → None ≡ Some y → ⊥
none_not_some y e = absurd (cc)

pub runs_found : (team : ℕ) (xs : List Running) → Runs team xs → None ≡ find (runs_team team) xs → ⊥
runs_found team [] any none = absurd (omega (arith, any.2))
runs_found team (x ∷ xs) any none = by_case (λ there e. runs_found team xs there e) (dite (ℕ_discrete x.team team) (λ e. inl e) (λ e. inr e)) any none
  where
    by_case : (Runs team xs → None ≡ find (runs_team team) xs → ⊥) → (x.team ≡ team) ⊎ (x.team ≢ team) → Runs team (x ∷ xs) → None ≡ find (runs_team team) (x ∷ xs) → ⊥
    by_case behind (inl is) there e =
        let found : find (runs_team team) (x ∷ xs) ≡ Some x = ap (λ b. cond b (Some x) (find (runs_team team) xs)) (eq-eqb x.team team is) in
        none_not_some x (e ∙ found)
    by_case behind (inr is) (zero, d, lt, at, same) e = is (ap (λ (r : Running). r.team) at ∙ same)
    by_case behind (inr is) (suc i, d, lt, at, same) e = behind (i, d, omega (arith, lt), at, same) (e ∙ ap (λ b. cond b (Some x) (find (runs_team team) xs)) (ne_eqb x.team team is))
