-- Who has no door to a looper has no part of what the door leads to, since none of the four that have one by themselves is such a thread.
use Rattle.std.proofs.Common.{◌≡◌, ◌≢◌, ℕ, ◌+◌, ◌<◌, ◌≤◌, true, List, [], ◌∷◌, ◌++◌, map, All, Any, Contains, Option, None, Some, refl, sym, ap, ◌∙◌, subst, eq-eqb, arith}
use Rattle.std.proofs.lemmas.List.{get_or-map, length-map}
use Rattle.std.specs.Prelude.{IfSome, slice_get}
use Rattle.std.proofs.lemmas.List.Elements.{All-append, All-contains, All-cons, All-head, All-map, All-nil}
use Rattle.std.proofs.lemmas.Option.{same_Some}
use Rattle.ak_base.specs.Limits.{looper_limit}
use Rattle.ak_base.specs.Thread.{looper_thread}
use Rattle.ak_turn.specs.Entries.{made_by}
use Rattle.ak_turn.specs.Noted.{Noted, entry_of, noted}
use Rattle.ak_turn.proofs.Surface.{noted_is_made}
use Rattle.ak_roster.specs.declared.entry.EntryWithObjects.{EntryWithObjects}
use Rattle.ak_roster.specs.declared.entry.RosterEntry.{RosterEntry}
use Rattle.ak_roster.specs.declared.entry.RosterEvent.{RosterEvent}
use Rattle.ak_roster.specs.declared.entry.RosterEvent.TheVariants as event
use Rattle.ak_roster.specs.declared.entry.LaunchOutcome.TheVariants as launch
use Rattle.ak_roster.specs.declared.head.AppHead.{AppHead}
use Rattle.ak_roster.specs.Laws.{EntriesTellPlain, IsNoneOfFour, KeepsOwnsIn, OwnsStayInTeams, StrangersAreTold}
use Rattle.ak_roster.specs.Machine.{IsHistory, LooperData, state_of}
use Rattle.ak_roster.specs.Roster.{IsStranger, plain_entries}
use Rattle.ak_diary.specs.Looper.{LooperFacts, door_got, door_in, doors_got, is_of_team}
use Rattle.ak_diary.specs.Step.{Step, at_roster, at_book, at_port, at_desk, saw_roster, saw_book, saw_port, lacked, roster_entries, roster_entry}
use Rattle.ak_looper.specs.declared.reach.Reach.{Reach}
use Rattle.ak_looper.specs.Rosters.{MayGetDoor, Object, RosterSeat, by_number, maker_of, plain_of}
use Rattle.ak_looper.specs.Stands.{Stands, StartsTeam, doors_kept, numbers_of}
use Rattle.ak_looper.proofs.Kept.{All-left, All-right, of_team_has, of_team_is, team_has_doors}
use Rattle.ak_looper.proofs.RosterSteps.{any_still}

-- ---- the thread's own entries are of no such door
not_of_door : (looper : ℕ) (e : RosterEvent) → All (λ number. number ≢ looper) (door_in e) → e ≢ event.Door looper
not_of_door looper e none is = All-head (λ number. number ≢ looper) looper [] (subst (λ (x : RosterEvent). All (λ number. number ≢ looper) (door_in x)) is none) refl

one_not_of_door : (looper : ℕ) (step : Step) → All (λ number. number ≢ looper) (door_got step) → All (λ (n : Noted RosterEntry). n.entry.event ≢ event.Door looper) (roster_entry step)
one_not_of_door looper (at_roster n) none = All-cons (λ (m : Noted RosterEntry). m.entry.event ≢ event.Door looper) n [] (not_of_door looper n.entry.event none) (All-nil (λ (m : Noted RosterEntry). m.entry.event ≢ event.Door looper))
one_not_of_door looper (at_book n) none = All-nil (λ (m : Noted RosterEntry). m.entry.event ≢ event.Door looper)
one_not_of_door looper (at_port number n) none = All-nil (λ (m : Noted RosterEntry). m.entry.event ≢ event.Door looper)
one_not_of_door looper (at_desk number n) none = All-nil (λ (m : Noted RosterEntry). m.entry.event ≢ event.Door looper)
one_not_of_door looper (saw_roster list) none = All-nil (λ (m : Noted RosterEntry). m.entry.event ≢ event.Door looper)
one_not_of_door looper (saw_book list) none = All-nil (λ (m : Noted RosterEntry). m.entry.event ≢ event.Door looper)
one_not_of_door looper (saw_port number list) none = All-nil (λ (m : Noted RosterEntry). m.entry.event ≢ event.Door looper)
one_not_of_door looper lacked none = All-nil (λ (m : Noted RosterEntry). m.entry.event ≢ event.Door looper)

pub none_of_door : (looper : ℕ) (steps : List Step) → All (λ number. number ≢ looper) (doors_got steps) → All (λ (n : Noted RosterEntry). n.entry.event ≢ event.Door looper) (roster_entries steps)
none_of_door looper [] none = All-nil (λ (n : Noted RosterEntry). n.entry.event ≢ event.Door looper)
none_of_door looper (step ∷ steps) none =
    All-append (λ (n : Noted RosterEntry). n.entry.event ≢ event.Door looper) (roster_entry step) (roster_entries steps)
    (one_not_of_door looper step (All-left (λ number. number ≢ looper) (door_got step) (doors_got steps) none))
    (none_of_door looper steps (All-right (λ number. number ≢ looper) (door_got step) (doors_got steps) none))

-- as the journal shows them, however the list went on by others
pub own_entries : EntriesTellPlain Object → (looper : ℕ) (seat : RosterSeat) (front : List (EntryWithObjects Object)) (notes : List (Noted RosterEntry)) → noted maker_of seat.thread (plain_of seat) ≡ notes
    → made_by by_number seat.thread front ≡ made_by by_number seat.thread seat.front → All (λ (n : Noted RosterEntry). n.entry.event ≢ event.Door looper) notes
    → All (λ (e : RosterEntry). e.event ≢ event.Door looper) (made_by maker_of seat.thread (plain_entries front))
own_entries tell looper seat front notes are made none =
    let same : made_by maker_of seat.thread (plain_entries front) ≡ map entry_of notes =
    tell seat.thread front ∙ ap plain_entries made ∙ sym (tell seat.thread seat.front) ∙ sym (noted_is_made maker_of seat.thread (plain_of seat)) ∙ ap (map entry_of) are in
    subst (λ (es : List RosterEntry). All (λ (e : RosterEntry). e.event ≢ event.Door looper) es) (sym same) (All-map (λ (e : RosterEntry). e.event ≢ event.Door looper) entry_of notes none)

-- ---- the thread is none of the four
all_mapped : {X Y : Type 0} (P : Y → Type 0) (f : X → Y) (xs : List X) → All P (map f xs) → All (λ x. P (f x)) xs
all_mapped P f xs all = λ k d lt. subst P (get_or-map f xs k d (f d) lt) (all k (f d) (omega (arith, length-map xs f, lt)))

-- what a launch that started the looper's team tells of the loopers
owns_of : OwnsStayInTeams → (l : LooperFacts) (entries : List (EntryWithObjects Object)) → IsHistory l.heads (plain_entries entries) → Any (StartsTeam l) entries
    → (number : ℕ) (its : LooperData) → slice_get (state_of l.heads (plain_entries entries)).loopers number ≡ Some its → l.first ≤ its.own → its.own < l.first + l.loopers
    → (its.own ≡ l.first) × (l.first ≤ number) × (number < l.first + l.loopers)
owns_of owns l entries history launched number its there low high =
    let loopers = (state_of l.heads (plain_entries entries)).loopers in
    let plain : EntryWithObjects Object → RosterEntry = λ e. e.plain in
    let entry : EntryWithObjects Object = launched.1 in
    let starts : StartsTeam l entry = launched.4 in
    let keeps : KeepsOwnsIn l.heads loopers entry.plain.event =
    All-contains (λ (e : EntryWithObjects Object). KeepsOwnsIn l.heads loopers e.plain.event) entries entry
    (all_mapped (λ (e : RosterEntry). KeepsOwnsIn l.heads loopers e.event) plain entries (owns l.heads (plain_entries entries) history)) (launched.0, launched.2, launched.3) in
    let so : KeepsOwnsIn l.heads loopers (event.Launch starts.0 (launch.Started starts.1 l.team l.first)) = subst (λ (e : RosterEvent). KeepsOwnsIn l.heads loopers e) starts.2 keeps in
    let told = so number its there low (omega (arith, high, starts.3)) in
    (told.0, told.1, omega (arith, told.2, starts.3))

none_of_four : OwnsStayInTeams → (l : LooperFacts) (thread looper : ℕ) (entries : List (EntryWithObjects Object)) → IsHistory l.heads (plain_entries entries) → Any (StartsTeam l) entries → is_of_team l l.number ≡ true
    → l.first + l.loopers ≤ looper_limit → thread ≡ looper_thread l.number → looper ≢ l.number → (Contains (doors_kept l) looper → ⊥) → (o : Option LooperData) → slice_get (state_of l.heads (plain_entries entries)).loopers looper ≡ o
    → IfSome o (IsNoneOfFour thread looper)
none_of_four owns l thread looper entries history launched of within is other none None there = tt
none_of_four owns l thread looper entries history launched of within is other none (Some its) there =
    let team = of_team_has l l.number of in
    record {
      not_main = λ e. omega (arith, is, e);
      not_looper = λ e. (let same : looper ≡ l.number = omega (arith, is, e) in other same);
      not_own = λ e.
          (let same : its.own ≡ l.number = omega (arith, is, e) in
          let told = owns_of owns l entries history launched looper its there (omega (arith, same, team.0)) (omega (arith, same, team.1)) in
          let first : l.number ≡ l.first = sym same ∙ told.0 in
          none (team_has_doors l looper (eq-eqb l.number l.first first) (of_team_is l looper told.1 told.2) other));
      not_keeper = λ e. omega (arith, is, e, team.1, within);
    }

-- ---- so it has no part of what that door leads to
pub is_stranger : OwnsStayInTeams → StrangersAreTold → EntriesTellPlain Object → (l : LooperFacts) (steps : List Step) (seat : RosterSeat) (looper : ℕ) (entries : List (EntryWithObjects Object)) → IsHistory l.heads (plain_entries entries)
    → Any (StartsTeam l) entries → is_of_team l l.number ≡ true → l.first + l.loopers ≤ looper_limit → noted maker_of seat.thread (plain_of seat) ≡ roster_entries steps
    → made_by by_number seat.thread entries ≡ made_by by_number seat.thread seat.front → seat.thread ≡ looper_thread l.number → looper ≢ l.number → All (λ number. number ≢ looper) (doors_kept l ++ doors_got steps)
    → IsStranger seat.thread looper (slice_get (state_of l.heads (plain_entries entries)).loopers looper)
is_stranger owns strangers tell l steps seat looper entries history launched of within is made thread here ways =
    let mine = own_entries tell looper seat entries (roster_entries steps) is made (none_of_door looper steps (All-right (λ number. number ≢ looper) (doors_kept l) (doors_got steps) ways)) in
    let kept : Contains (doors_kept l) looper → ⊥ = λ there. All-contains (λ number. number ≢ looper) (doors_kept l) looper (All-left (λ number. number ≢ looper) (doors_kept l) (doors_got steps) ways) there refl in
    let four = none_of_four owns l seat.thread looper entries history launched of within thread here kept (slice_get (state_of l.heads (plain_entries entries)).loopers looper) refl in
    strangers l.heads (plain_entries entries) seat.thread looper history four mine

-- and may get the door
pub may_get_door : OwnsStayInTeams → StrangersAreTold → EntriesTellPlain Object → (l : LooperFacts) (start : ℕ) (steps : List Step) (r : Reach) (looper : ℕ) → Stands l start steps r → r.roster_seat.thread ≡ looper_thread r.number
    → looper ≢ r.number → All (λ number. number ≢ looper) (numbers_of r) → MayGetDoor looper r.roster_seat
may_get_door owns strangers tell l start steps r looper stands thread other none = λ heads front opening starts made history.
    let seat = r.roster_seat in
    let same : l.heads ≡ heads = same_Some l.heads heads (sym stands.heads ∙ opening) in
    let here : looper ≢ l.number = λ e. other (e ∙ sym stands.number) in
    let ways : All (λ number. number ≢ looper) (doors_kept l ++ doors_got steps) = subst (λ (ns : List ℕ). All (λ number. number ≢ looper) ns) stands.ways none in
    let launched : Any (StartsTeam l) front = subst (λ (es : List (EntryWithObjects Object)). Any (StartsTeam l) es) (sym starts.1) (any_still (StartsTeam l) seat.front starts.0 stands.launched) in
    let history' : IsHistory l.heads (plain_entries front) = subst (λ (hs : List AppHead). IsHistory hs (plain_entries front)) (sym same) history in
    subst (λ (hs : List AppHead). IsStranger seat.thread looper (slice_get (state_of hs (plain_entries front)).loopers looper)) same
    (is_stranger owns strangers tell l steps seat looper front history' launched stands.of_team stands.within stands.roster.noted_is made (thread ∙ ap looper_thread stands.number) here ways)
