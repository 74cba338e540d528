-- A port that the thread shut, or found to be shut, is shut in all that its seat knows later.
use Rattle.std.proofs.Common.{◌≡◌, ℕ, ◌+◌, ◌-◌, ◌<◌, ◌==◌, suc, Bool, true, false, cond, ◌&&◌, List, [], ◌∷◌, ◌++◌, Contains, refl, sym, ap, ◌∙◌, subst, append_assoc, append-nil, eq-eqb, eqb-true, ltb-true, nat_le, nat_lt, inl, inr, true≢false, arith}
use Rattle.std.specs.List.{flat_map, range_with_len}
use Rattle.std.proofs.lemmas.List.Concat.{flat_map-append}
use Rattle.std.proofs.lemmas.List.Elements.{All-contains, Contains-append_left, Contains-append_right}
use Rattle.ak_turn.specs.Entries.{StartsWith}
use Rattle.ak_turn.specs.Noted.{Noted, StandsIn, noted}
use Rattle.ak_turn.proofs.Surface.{noted_stands}
use Rattle.ak_port.specs.declared.port_entry.PortEntry.{PortEntry}
use Rattle.ak_port.specs.declared.port_entry.PortEvent.{PortEvent}
use Rattle.ak_port.specs.declared.port_entry.PortEvent.TheVariants as event
use Rattle.ak_port.specs.PortCalls.{PortSeat, by_number}
use Rattle.ak_port.specs.PortMachine.{PortState, state_after, state_of}
use Rattle.ak_port.proofs.Surface.{state_of-push}
use Rattle.ak_looper.specs.declared.reach.Reach.{Reach}
use Rattle.ak_looper.specs.Stands.{GoesOn, IsStanding, PortStands, Stands}
use Rattle.ak_diary.specs.Looper.{LooperFacts, closed_by, is_of_team, is_own}
use Rattle.ak_diary.specs.Step.{Step, at_roster, at_book, at_port, at_desk, saw_roster, saw_book, saw_port, lacked, port_entries, port_entry, port_sight, port_sights}
use Rattle.ak_diary.specs.Turns.{Closes, Shuts, ShutsAll}
use Rattle.ak_looper.proofs.Takes.{shut_stays}

-- ---- what is shut stays so
shut_behind : (front seen : List PortEntry) → StartsWith front seen → (state_of seen).shut ≡ true → (state_of front).shut ≡ true
shut_behind front seen starts is =
    ap (λ (entries : List PortEntry). (state_of entries).shut) starts.1 ∙ shut_stays seen starts.0 is

-- the entry that shuts it
shut_there : (before : List PortEntry) (entry : PortEntry) → entry.event ≡ event.Shut → (state_of (before ++ entry ∷ [])).shut ≡ true
shut_there before entry is =
    ap (λ (s : PortState). s.shut) (state_of-push before entry) ∙ ap (λ (e : PortEvent). (state_after (state_of before) e).shut) is

-- ---- among the steps
-- the step shuts the port of that looper, or finds it shut
abbrev IsShutting : ℕ → Step → Type 0
IsShutting looper (at_port number n) = (number ≡ looper) × (n.entry.event ≡ event.Shut)
IsShutting looper (saw_port number seen) = (number ≡ looper) × ((state_of seen).shut ≡ true)
IsShutting looper (at_roster n) = ⊥
IsShutting looper (at_book n) = ⊥
IsShutting looper (at_desk number n) = ⊥
IsShutting looper (saw_roster seen) = ⊥
IsShutting looper (saw_book seen) = ⊥
IsShutting looper lacked = ⊥

-- what one step gives is among what all give
given_there : {X : Type 0} (f : Step → List X) (before after : List Step) (step : Step) (x : X) → Contains (f step) x → Contains (flat_map f (before ++ step ∷ after)) x
given_there {X} f before after step x here =
    subst (λ (xs : List X). Contains xs x) (sym (flat_map-append f before (step ∷ after)))
    (Contains-append_right (flat_map f before) (f step ++ flat_map f after) x (Contains-append_left (f step) (flat_map f after) x here))

its_own : {X : Type 0} (number looper : ℕ) (x : X) → number ≡ looper → Contains (cond (number == looper) (x ∷ []) []) x
its_own {X} number looper x same = subst (λ (b : Bool). Contains (cond b (x ∷ []) []) x) (sym (eq-eqb number looper same)) (0, omega arith, refl)

-- the seat knows of it
known_shut : (looper : ℕ) (before after : List Step) (step : Step) (seat : PortSeat) → PortStands (before ++ step ∷ after) looper seat → IsShutting looper step → (state_of seat.front).shut ≡ true
known_shut looper before after (at_port number n) seat stands is =
    let among : Contains (port_entries looper (before ++ at_port number n ∷ after)) n = given_there (port_entry looper) before after (at_port number n) n (its_own number looper n is.0) in
    let there : Contains (noted by_number seat.thread seat.front) n = subst (λ (xs : List (Noted PortEntry)). Contains xs n) (sym stands.noted_is) among in
    let stood = All-contains (StandsIn seat.front) (noted by_number seat.thread seat.front) n (noted_stands by_number seat.thread seat.front) there in
    shut_behind seat.front (n.before ++ n.entry ∷ []) stood (shut_there n.before n.entry is.1)
known_shut looper before after (saw_port number seen) seat stands is =
    let among : Contains (port_sights looper (before ++ saw_port number seen ∷ after)) seen = given_there (port_sight looper) before after (saw_port number seen) seen (its_own number looper seen is.0) in
    shut_behind seat.front seen (All-contains (StartsWith seat.front) (port_sights looper (before ++ saw_port number seen ∷ after)) seen stands.seen among) is.1
known_shut looper before after (at_roster n) seat stands is = absurd is
known_shut looper before after (at_book n) seat stands is = absurd is
known_shut looper before after (at_desk number n) seat stands is = absurd is
known_shut looper before after (saw_roster seen) seat stands is = absurd is
known_shut looper before after (saw_book seen) seat stands is = absurd is
known_shut looper before after lacked seat stands is = absurd is

-- ---- in a closing
abbrev pub IsShut : Reach → Type 0
IsShut r = (state_of r.port_seat.front).shut ≡ true

-- its own port is the first that it shuts
both_true : (a b : Bool) → (a && b) ≡ true → b ≡ true
both_true true b e = e
both_true false b e = absurd (true≢false (sym e))

record ClosesFirst (l : LooperFacts) : Type 0 where
  others : List ℕ
  are : closed_by l ≡ l.number ∷ others

own_first : (l : LooperFacts) (own : Bool) → is_own l ≡ own → is_of_team l l.number ≡ true → ClosesFirst l
own_first l true own of_team =
    let same : l.number ≡ l.first = eqb-true l.number l.first own in
    let below : l.number < l.first + l.loopers = ltb-true l.number (l.first + l.loopers) (both_true (nat_le l.first l.number) (nat_lt l.number (l.first + l.loopers)) of_team) in
    let some : l.loopers ≡ suc (l.loopers - 1) = omega arith in
    record {
      others = range_with_len (l.first + 1) (l.loopers - 1);
      are =
          ap (λ (b : Bool). cond b (range_with_len l.first l.loopers) (l.number ∷ [])) own
          ∙ ap (range_with_len l.first) some
          ∙ ap (λ (n : ℕ). n ∷ range_with_len (l.first + 1) (l.loopers - 1)) (sym same);
    }
own_first l false own of_team = record { others = []; are = ap (λ (b : Bool). cond b (range_with_len l.first l.loopers) (l.number ∷ [])) own }

record ShutsFirst (looper : ℕ) (steps : List Step) : Type 0 where
  step : Step
  shutting : IsShutting looper step
  others : List Step
  are : steps ≡ step ∷ others

shut_first : (looper : ℕ) (others : List ℕ) (steps : List Step) → ShutsAll (looper ∷ others) steps → ShutsFirst looper steps
shut_first looper others steps all = by_first all.2
  where
    by_first : Shuts looper all.0 → ShutsFirst looper steps
    by_first (inl enters) = record { step = at_port looper enters.noted; shutting = (refl, enters.event_is); others = all.1; are = all.4 ∙ ap (λ (s : List Step). s ++ all.1) enters.is }
    by_first (inr finds) = record { step = saw_port looper finds.seen; shutting = (refl, finds.shut); others = all.1; are = all.4 ∙ ap (λ (s : List Step). s ++ all.1) finds.is }

-- so its port is shut behind that, whatever it did since
ports_stay_shut : (l : LooperFacts) (start : ℕ) (before shut later : List Step) (r : Reach) → Stands l start (before ++ shut ++ later) r → ShutsAll (closed_by l) shut → IsShut r
ports_stay_shut l start before shut later r stands all =
    let order = own_first l (is_own l) refl stands.of_team in
    let first = shut_first l.number order.others shut (subst (λ (loopers : List ℕ). ShutsAll loopers shut) order.are all) in
    let here : before ++ shut ++ later ≡ before ++ first.step ∷ (first.others ++ later) =
    ap (λ (s : List Step). before ++ s ++ later) first.are ∙ append_assoc before (first.step ∷ first.others) later in
    known_shut l.number before (first.others ++ later) first.step r.port_seat (subst (λ (s : List Step). PortStands s l.number r.port_seat) here stands.port) first.shutting

pub closed_stays_shut : (l : LooperFacts) (start : ℕ) (so_far closing later : List Step) (r : Reach) → Stands l start (so_far ++ closing ++ later) r → Closes l closing → IsShut r
closed_stays_shut l start so_far closing later r stands closes =
    let here : so_far ++ closing ++ later ≡ so_far ++ closes.gone ++ closes.shut ++ later =
    ap (λ (s : List Step). so_far ++ s ++ later) closes.is ∙ ap (λ (s : List Step). s ++ later) (sym (append_assoc so_far closes.gone closes.shut)) in
    ports_stay_shut l start (so_far ++ closes.gone) closes.shut later r (subst (λ (s : List Step). Stands l start s r) here stands) closes.shuts

-- a thread that has closed
pub closed_is_shut : (r r' : Reach) → IsStanding r → ((l : LooperFacts) (start : ℕ) (so_far : List Step) → Stands l start so_far r → GoesOn l start so_far (Closes l) r') → IsShut r'
closed_is_shut r r' is closes =
    let on = closes is.facts is.start is.steps is.stands in
    closed_stays_shut is.facts is.start is.steps on.steps [] r' (subst (λ (s : List Step). Stands is.facts is.start s r') (sym (append-nil (is.steps ++ on.steps))) on.stands) on.does

-- one that has shut the ports of its team
pub team_is_shut : (r r' : Reach) → IsStanding r → r.number ≡ r.first
    → ((l : LooperFacts) (start : ℕ) (so_far : List Step) → Stands l start so_far r → GoesOn l start so_far (ShutsAll (range_with_len l.first l.loopers)) r') → IsShut r'
team_is_shut r r' is own shuts =
    let l = is.facts in
    let on = shuts l is.start is.steps is.stands in
    let same : l.number ≡ l.first = sym is.stands.number ∙ own ∙ is.stands.first in
    let loopers : range_with_len l.first l.loopers ≡ closed_by l = ap (λ (b : Bool). cond b (range_with_len l.first l.loopers) (l.number ∷ [])) (sym (eq-eqb l.number l.first same)) in
    ports_stay_shut l is.start is.steps on.steps [] r' (subst (λ (s : List Step). Stands l is.start s r') (sym (append-nil (is.steps ++ on.steps))) on.stands)
    (subst (λ (xs : List ℕ). ShutsAll xs on.steps) loopers on.does)
