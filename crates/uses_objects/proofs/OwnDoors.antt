-- What a thread knows of doors by its own entries, and who made the entries of a roster.
use Rattle.std.proofs.Common.{◌≡◌, ◌≢◌, ◌+◌, ◌<◌, ◌≤◌, ℕ, List, [], Option, Some, None, sym, ap, ◌∙◌, subst, arith, All}
use Rattle.std.specs.Prelude.{Any, IfSome, IsSomeAnd, filter_map, slice_get}
use Rattle.std.proofs.lemmas.List.Elements.{All-contains, All-nil, All-push}
use Rattle.ak_turn.specs.declared.clock.Clock.{Clock}
use Rattle.ak_turn.specs.Laws.{OwnIsMade}
use Rattle.ak_turn.specs.Entries.{made_by}
use Rattle.ak_turn.specs.Seats.{IsGiven, KnowsWhole, SeatData}
use Rattle.ak_roster.specs.declared.answer.Decision.{Decision}
use Rattle.ak_roster.specs.declared.answer.Decision.TheVariants as decision
use Rattle.ak_roster.specs.declared.answer.Launched.{Launched}
use Rattle.ak_roster.specs.declared.answer.Launched.TheVariants as launched
use Rattle.ak_roster.specs.declared.entry.RosterEntry.{RosterEntry}
use Rattle.ak_roster.specs.declared.entry.EntryWithObjects.{EntryWithObjects}
use Rattle.ak_roster.specs.declared.entry.RosterEvent.{RosterEvent}
use Rattle.ak_roster.specs.Answers.{OnRefusal, OnStarted, UnlessRefusal, UnlessStarted}
use Rattle.ak_roster.specs.declared.head.AppHead.{AppHead}
use Rattle.ak_roster.specs.declared.team.Running.{Running}
use Rattle.ak_roster.specs.Laws.{AreThere, IsNoneOfFour, EntriesTellPlain, TeamsHaveLoopers}
use Rattle.ak_roster.specs.Machine.{IsHistory, LooperData, state_of}
use Rattle.ak_roster.specs.Roster.{Enters, RosterData, Stays, new_entry, plain_entries}

-- a session is not main, no looper and not the keeper
pub none_of_four : (thread number : ℕ) (o : Option LooperData) → 1 ≤ thread → thread < 10000 → IfSome o (IsNoneOfFour thread number)
none_of_four thread number None some few = tt
none_of_four thread number (Some looper) some few =
    record { not_main = λ e. omega (arith, some, e); not_looper = λ e. omega (arith, few, e); not_own = λ e. omega (arith, few, e); not_keeper = λ e. omega (arith, few, e) }

pub ruleset sessions = (none_of_four)

-- the thread of a looper is none of the four of another looper, whose team has another first one
by_own : (thread by looper first : ℕ) (o : Option LooperData) → thread ≡ 10000 + by → thread < 20000 → by ≢ looper → first ≢ by → IsSomeAnd o (λ (l : LooperData). l.own ≡ first) → IfSome o (IsNoneOfFour thread looper)
by_own thread by looper first None is below other apart own = tt
by_own thread by looper first (Some l) is below other apart own =
    record {
      not_main = λ e. omega (arith, is, e);
      not_looper = λ e. (let same : by ≡ looper = omega (arith, is, e) in other same);
      not_own = λ e. (let same : first ≡ by = omega (arith, is, e, own) in apart same);
      not_keeper = λ e. omega (arith, below, e);
    }

pub none_by_team : TeamsHaveLoopers → (heads : List AppHead) (entries : List RosterEntry) (thread by looper : ℕ) → IsHistory heads entries → thread ≡ 10000 + by → thread < 20000 → by ≢ looper
    → Any (λ (team : Running). (team.first ≤ looper) × (looper < team.first + team.loopers) × (team.first ≢ by)) (state_of heads entries).running
    → IfSome (slice_get (state_of heads entries).loopers looper) (IsNoneOfFour thread looper)
none_by_team teams heads entries thread by looper history is below other some =
    let s = state_of heads entries in
    let team : Running = some.1 in
    let there = All-contains (λ (x : Running). AreThere (λ (l : LooperData). l.own ≡ x.first) s.loopers x.first x.loopers) s.running team (teams heads entries history) (some.0, some.2, some.3) in
    by_own thread by looper team.first (slice_get s.loopers looper) is below other some.4.2 (there looper some.4.0 some.4.1)

-- a seat that knows its list and has no place of its own there tells that its thread made no entry
pub none_of_mine : {O : Type 0} (P : RosterEntry → Type 0) (thread : ℕ) (entries : List (EntryWithObjects O)) (seat given : SeatData (List AppHead) (EntryWithObjects O))
    → EntriesTellPlain O → OwnIsMade (List AppHead) (EntryWithObjects O) (λ (e : EntryWithObjects O). e.plain.by.0) → KnowsWhole (λ (e : EntryWithObjects O). e.plain.by.0) given → IsGiven (λ (e : EntryWithObjects O). e.plain.by.0) seat given → seat.own ≡ [] → seat.thread ≡ thread → entries ≡ given.front
    → All P (made_by (λ (e : RosterEntry). e.by.0) thread (plain_entries entries))
none_of_mine {O} P thread entries seat given tell own knows seen empty is list =
    let by : EntryWithObjects O → ℕ = λ e. e.plain.by.0 in
    let none : made_by by given.thread given.front ≡ [] = sym (own given knows) ∙ ap (λ (places : List ℕ). filter_map (slice_get given.front) places) (ap (λ (s : SeatData (List AppHead) (EntryWithObjects O)). s.own) seen.after ∙ empty) in
    let same : given.thread ≡ thread = ap (λ (s : SeatData (List AppHead) (EntryWithObjects O)). s.thread) seen.after ∙ is in
    let whole : made_by (λ (e : RosterEntry). e.by.0) thread (plain_entries entries) ≡ [] =
    tell thread entries ∙ ap (λ (l : List (EntryWithObjects O)). plain_entries (made_by by thread l)) list ∙ ap (λ (t : ℕ). plain_entries (made_by by t given.front)) (sym same) ∙ ap plain_entries none in
    subst (λ (es : List RosterEntry). All P es) (sym whole) (All-nil P)

-- ---- who made the entries
abbrev AreBy : {O : Type 0} → ℕ → List (EntryWithObjects O) → Type 0
AreBy {O} t entries = All (λ (e : EntryWithObjects O). e.plain.by.0 ≡ t) entries

module _ {D O : Type 0} (t : ℕ) where
  pub by_entering : (what : RosterEvent) (objects : List (Option O)) (doors : List D) (old new : RosterData D O) (clock later : Clock) → clock.thread.0 ≡ t → Enters what objects doors old new clock later
      → All (λ (e : EntryWithObjects O). e.plain.by.0 ≡ t) old.entries → All (λ (e : EntryWithObjects O). e.plain.by.0 ≡ t) new.entries
  by_entering what objects doors old new clock later is e all =
      subst (AreBy t) (sym (ap (λ (r : RosterData D O). r.entries) e.0)) (All-push (λ (e : EntryWithObjects O). e.plain.by.0 ≡ t) old.entries (new_entry clock old.entries what objects) all is)

  pub by_staying : (old new : RosterData D O) (clock later : Clock) → Stays old new clock later → All (λ (e : EntryWithObjects O). e.plain.by.0 ≡ t) old.entries → All (λ (e : EntryWithObjects O). e.plain.by.0 ≡ t) new.entries
  by_staying old new clock later s all = subst (AreBy t) (sym (ap (λ (r : RosterData D O). r.entries) s.0)) all

  pub by_deciding : (d : Decision) (what : RosterEvent) (doors : List D) (old new : RosterData D O) (clock later : Clock) → clock.thread.0 ≡ t → OnRefusal d (Enters what [] doors old new clock later) → UnlessRefusal d (Stays old new clock later)
      → All (λ (e : EntryWithObjects O). e.plain.by.0 ≡ t) old.entries → All (λ (e : EntryWithObjects O). e.plain.by.0 ≡ t) new.entries
  by_deciding decision.NotFound what doors old new clock later is e s all = by_entering what [] doors old new clock later is e all
  by_deciding (decision.AlreadyRunning team) what doors old new clock later is e s all = by_entering what [] doors old new clock later is e all
  by_deciding decision.Limit what doors old new clock later is e s all = by_entering what [] doors old new clock later is e all
  by_deciding (decision.Starts place team first) what doors old new clock later is e s all = by_staying old new clock later s all
  by_deciding decision.NoMemory what doors old new clock later is e s all = by_staying old new clock later s all

  pub by_launching : (r : Launched D) (what : RosterEvent) (objects : List (Option O)) (doors : List D) (old new : RosterData D O) (clock later : Clock) → clock.thread.0 ≡ t → OnStarted r (Enters what objects doors old new clock later) → UnlessStarted r (λ _. Stays old new clock later)
      → All (λ (e : EntryWithObjects O). e.plain.by.0 ≡ t) old.entries → All (λ (e : EntryWithObjects O). e.plain.by.0 ≡ t) new.entries
  by_launching (launched.Started team first) what objects doors old new clock later is e s all = by_entering what objects doors old new clock later is e all
  by_launching (launched.NoMemory back) what objects doors old new clock later is e s all = by_staying old new clock later s all
