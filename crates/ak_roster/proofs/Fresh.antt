-- Loopers that were started, and gave no door yet.
use Rattle.std.proofs.Common.{◌≡◌, ◌≢◌, ◌<◌, ◌≤◌, ℕ, ◌+◌, List, [], ◌∷◌, refl, sym, ap, ◌∙◌, subst, arith, Option, None, Some, All, Contains}
use Rattle.std.specs.Prelude.{slice_get}
use Rattle.std.proofs.lemmas.List.Elements.{All-append, All-cons, All-contains, All-nil, All-replicate}
use Rattle.std.proofs.lemmas.Option.{get_or_from_slice_get, slice_get_within}
use Rattle.ak_turn.specs.declared.clock.Clock.{Clock}
use Rattle.ak_base.specs.declared.app_word.AppWord.{AppWord}
use Rattle.ak_roster.specs.declared.head.AppHead.{AppHead}
use Rattle.ak_roster.specs.declared.entry.RosterEvent.{RosterEvent}
use Rattle.ak_roster.specs.declared.entry.RosterEvent.TheVariants as event
use Rattle.ak_roster.specs.declared.entry.LaunchOutcome.{LaunchOutcome}
use Rattle.ak_roster.specs.declared.entry.LaunchOutcome.TheVariants as launch
use Rattle.ak_roster.specs.declared.answer.Decision.{Decision}
use Rattle.ak_roster.specs.declared.answer.Decision.TheVariants as decision
use Rattle.ak_roster.specs.declared.answer.Launched.{Launched}
use Rattle.ak_roster.specs.declared.answer.Launched.TheVariants as answer
use Rattle.ak_roster.specs.Answers.{OnRefusal, UnlessRefusal, OnStarted, UnlessStarted}
use Rattle.ak_roster.specs.Machine.{LooperData, after, holders, loopers_at, loopers_of}
use Rattle.ak_roster.specs.Roster.{RosterData, Enters, Stays, IsStranger, new_entry, state}
use Rattle.ak_roster.proofs.Sound.{state-entry}

abbrev pub AreFresh : List LooperData → Type 0
AreFresh loopers = All (λ l. l.given ≡ []) loopers

fresh_of : (heads : List AppHead) (by : ℕ) (o : LaunchOutcome) → AreFresh (loopers_of heads by o)
fresh_of heads by (launch.Started place team first) =
    All-replicate (λ l. l.given ≡ []) (loopers_at heads place) (let l : LooperData = record { own = first; starter = by; given = [] } in l) refl
fresh_of heads by (launch.AlreadyRunning team) = All-nil (λ l. l.given ≡ [])
fresh_of heads by launch.NotFound = All-nil (λ l. l.given ≡ [])
fresh_of heads by launch.Limit = All-nil (λ l. l.given ≡ [])

-- the state after an entry
pub state-enters : {D O : Type 0} (what : RosterEvent) (added : List (Option O)) (doors : List D) (old new : RosterData D O) (clock later : Clock)
    → Enters what added doors old new clock later → state new ≡ after old.heads (state old) clock.thread.0 what
state-enters what added doors old new clock later e = ap (λ r. state r) e.0 ∙ state-entry old.heads old.entries (new_entry clock old.entries what added)

-- a launch leaves them so
pub fresh_launched : {D O : Type 0} (word : AppWord) (o : LaunchOutcome) (added : List (Option O)) (doors : List D) (old new : RosterData D O) (clock later : Clock)
    → Enters (event.Launch word o) added doors old new clock later → AreFresh (state old).loopers → AreFresh (state new).loopers
fresh_launched word o added doors old new clock later e fresh =
    subst (λ s. AreFresh s.loopers) (sym (state-enters (event.Launch word o) added doors old new clock later e))
    (All-append (λ l. l.given ≡ []) (state old).loopers (loopers_of old.heads clock.thread.0 o) fresh (fresh_of old.heads clock.thread.0 o))

-- so does a decision
pub fresh_decided : {D O : Type 0} (d : Decision) (word : AppWord) (o : LaunchOutcome) (added : List (Option O)) (doors : List D) (old new : RosterData D O) (clock later : Clock)
    → OnRefusal d (Enters (event.Launch word o) added doors old new clock later) → UnlessRefusal d (Stays old new clock later) → AreFresh (state old).loopers
    → AreFresh (state new).loopers
fresh_decided decision.NotFound word o added doors old new clock later entered stays fresh = fresh_launched word o added doors old new clock later entered fresh
fresh_decided (decision.AlreadyRunning t) word o added doors old new clock later entered stays fresh = fresh_launched word o added doors old new clock later entered fresh
fresh_decided decision.Limit word o added doors old new clock later entered stays fresh = fresh_launched word o added doors old new clock later entered fresh
fresh_decided (decision.Starts p t f) word o added doors old new clock later entered stays fresh = subst (λ r. AreFresh (state r).loopers) (sym stays.0) fresh
fresh_decided decision.NoMemory word o added doors old new clock later entered stays fresh = subst (λ r. AreFresh (state r).loopers) (sym stays.0) fresh

-- and so does a launch, whatever it is answered
pub fresh_launch : {D O : Type 0} (r : Launched D) (word : AppWord) (o : LaunchOutcome) (added : List (Option O)) (doors : List D) (first old new : RosterData D O) (clock later : Clock)
    → old ≡ first → OnStarted r (Enters (event.Launch word o) added doors old new clock later) → UnlessStarted r (λ _. Stays old new clock later) → AreFresh (state first).loopers
    → AreFresh (state new).loopers
fresh_launch (answer.Started t f) word o added doors first old new clock later same entered stays fresh =
    fresh_launched word o added doors old new clock later entered (subst (λ r. AreFresh (state r).loopers) (sym same) fresh)
fresh_launch (answer.NoMemory back) word o added doors first old new clock later same entered stays fresh =
    subst (λ r. AreFresh (state r).loopers) (sym (stays.0 ∙ same)) fresh

others : (thread number own : ℕ) → 1 ≤ thread → thread < 10000 → All (λ t. t ≢ thread) (0 ∷ (10000 + number) ∷ (10000 + own) ∷ 20000 ∷ [])
others thread number own low high =
    All-cons (λ t. t ≢ thread) 0 ((10000 + number) ∷ (10000 + own) ∷ 20000 ∷ []) (omega arith)
    (All-cons (λ t. t ≢ thread) (10000 + number) ((10000 + own) ∷ 20000 ∷ []) (omega arith)
    (All-cons (λ t. t ≢ thread) (10000 + own) (20000 ∷ []) (omega arith) (All-cons (λ t. t ≢ thread) 20000 [] (omega arith) (All-nil (λ t. t ≢ thread)))))

stranger_at : (thread number : ℕ) (looper : LooperData) → 1 ≤ thread → thread < 10000 → looper.given ≡ [] → ¬ (Contains (holders number looper) thread)
stranger_at thread number looper low high none = λ there.
    All-contains (λ t. t ≢ thread) (0 ∷ (10000 + number) ∷ (10000 + looper.own) ∷ 20000 ∷ []) thread (others thread number looper.own low high)
    (subst (λ (ts : List ℕ). Contains (0 ∷ (10000 + number) ∷ (10000 + looper.own) ∷ 20000 ∷ ts) thread) none there) refl

at_place : (thread number place : ℕ) (loopers : List LooperData) (looper : Option LooperData) → looper ≡ slice_get loopers place → 1 ≤ thread → thread < 10000 → AreFresh loopers
    → IsStranger thread number looper
at_place thread number place loopers None is low high fresh = tt
at_place thread number place loopers (Some l) is low high fresh =
    stranger_at thread number l low high
    (subst (λ (x : LooperData). x.given ≡ []) (get_or_from_slice_get loopers place l l (sym is)) (fresh place l (slice_get_within loopers place l (sym is))))

-- a session is a stranger to them
pub stranger_fresh : (thread number : ℕ) (loopers : List LooperData) → 1 ≤ thread → thread < 10000 → AreFresh loopers → IsStranger thread number (slice_get loopers number)
stranger_fresh thread number loopers low high fresh = at_place thread number number loopers (slice_get loopers number) refl low high fresh
