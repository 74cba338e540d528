-- What stands in the ports of a team that is about to start, and what its first looper is told.
use Rattle.std.proofs.Common.{◌≡◌, ◌≢◌, ℕ, zero, suc, ◌+◌, ◌<◌, ◌≤◌, Bool, true, false, List, [], ◌∷◌, ◌++◌, length, map, All, Contains, Option, None, Some, Result, Ok, Err, refl, sym, ap, ◌∙◌, subst, append_assoc, append-nil, lt-ltb, ltb-true, arith}
use Rattle.std.specs.Prelude.{◌↔◌, IfSome, IsErrOf, IsSomeAnd, OnErr, OnOk, nat_lt, slice_get, take, if◌then◌else◌}
use Rattle.std.proofs.lemmas.List.{map-append}
use Rattle.std.proofs.lemmas.List.Elements.{All-append, All-cons, All-head, All-nil, All-tail}
use Rattle.ak_base.specs.Thread.{main_thread}
use Rattle.ak_base.specs.declared.thread.ThreadId.{ThreadId}
use Rattle.ak_message.specs.Message.{MessageData}
use Rattle.ak_flatten.specs.Item.{ItemData}
use Rattle.ak_flatten.specs.Limits.{flat_limit}
use Rattle.ak_flatten.specs.Spelling.{spelling}
use Rattle.ak_turn.specs.Called.{KeepsSeat}
use Rattle.ak_turn.specs.Entries.{AreByOthers}
use Rattle.ak_turn.specs.Noted.{Noted, note, noted}
use Rattle.ak_turn.specs.Seats.{HasCalled, HasSeen, KnowsWhole}
use Rattle.ak_turn.specs.declared.clock.Clock.{Clock}
use Rattle.ak_turn.proofs.Surface.{noted-own}
use Rattle.ak_port.specs.Limits.{life_limit}
use Rattle.ak_port.specs.PortCalls as at_ports
use Rattle.ak_port.specs.PortCalls.{IsAtPort, PortSeat}
use Rattle.ak_port.specs.PortMachine.{AreSteps, IsAllowed, IsPort, PortState, PortStep, replayed, state_after, unmade}
use Rattle.ak_port.specs.declared.port_entry.PortEntry.{PortEntry}
use Rattle.ak_port.specs.declared.port_entry.PortEvent.{PortEvent}
use Rattle.ak_port.specs.declared.port_entry.PortEvent.TheVariants as event
use Rattle.ak_messenger.specs.Sends.{IfReached, post_event}
use Rattle.ak_messenger.specs.declared.envelope.Envelope.{Envelope}
use Rattle.ak_messenger.specs.declared.fault.SendFault.{SendFault}
use Rattle.ak_messenger.specs.declared.fault.SendFault.TheVariants as fault
use Rattle.ak_headline.specs.Main.{MayEnterPort}
use Rattle.ak_action.specs.declared.plan.PlanParts.{PlanParts}
use Rattle.ak_team.specs.declared.opening.Opened.{Opened}
use Rattle.ak_team.specs.Greeting.{AreMains, EachMains, HasSent, IsAlone, arguments_told, events_of, from_main, greeting_item, items_told, made_event, capacities_in, made_events, written_from}
use Rattle.ak_team.specs.Opening.{opened_front}
use Rattle.ak_team.specs.InTime.{AddsAtPort, AreEntriesInTime, AreMadeInTime, AreNotesInTime}

-- ---- main's own entries, each with what stands before it
abbrev pub notes_on : List PortEntry → List PortEntry → List (Noted PortEntry)
notes_on before [] = []
notes_on before (entry ∷ entries) = note before entry ∷ notes_on (before ++ entry ∷ []) entries

abbrev pub Mine : PortEntry → Type 0
Mine entry = entry.by.0 ≡ main_thread

abbrev pub MayMake : PortEntry → Type 0
MayMake entry = MayEnterPort entry.event

pub noted_on : (xs ys : List PortEntry) → All Mine ys → noted at_ports.by_number main_thread (xs ++ ys) ≡ noted at_ports.by_number main_thread xs ++ notes_on xs ys
noted_on xs [] mine = ap (noted at_ports.by_number main_thread) (append-nil xs) ∙ sym (append-nil (noted at_ports.by_number main_thread xs))
noted_on xs (y ∷ ys) mine =
    ap (noted at_ports.by_number main_thread) (sym (append_assoc xs (y ∷ []) ys)) ∙ noted_on (xs ++ y ∷ []) ys (All-tail Mine y ys mine)
    ∙ ap (λ (l : List (Noted PortEntry)). l ++ notes_on (xs ++ y ∷ []) ys) (noted-own at_ports.by_number main_thread xs y (All-head Mine y ys mine))
    ∙ append_assoc (noted at_ports.by_number main_thread xs) (note xs y ∷ []) (notes_on (xs ++ y ∷ []) ys)

entries_in_time : (time later : ℕ) (xs ys : List PortEntry) → AreNotesInTime time (notes_on xs ys) later → AreEntriesInTime time xs ys later
entries_in_time time later xs [] same = same
entries_in_time time later xs (y ∷ ys) is = (is.0, entries_in_time y.stamp later (xs ++ y ∷ []) ys is.1)

pub one_at_least : {X : Type 0} (x : X) (xs : List X) → 1 ≤ length (x ∷ xs)
one_at_least x xs = omega arith

-- ---- one more of each
pub each_push : (es : List (List PortEvent)) (fs : List (List PortEntry)) (e : List PortEvent) (f : List PortEntry) → EachMains es fs → AreMains e f → EachMains (es ++ e ∷ []) (fs ++ f ∷ [])
each_push [] [] e f each mains = (mains, tt)
each_push (x ∷ es) (y ∷ fs) e f each mains = (each.0, each_push es fs e f each.1 mains)
each_push [] (y ∷ fs) e f each mains = absurd each
each_push (x ∷ es) [] e f each mains = absurd each

-- one port more, behind the others
pub made_push : (time between later : ℕ) (ports : List (List PortEntry)) (x : List PortEntry) → AreMadeInTime time ports between → AreEntriesInTime between [] x later → AreMadeInTime time (ports ++ x ∷ []) later
made_push time between later [] x same in_time = (later, subst (λ (t : ℕ). AreEntriesInTime t [] x later) (sym same) in_time, refl)
made_push time between later (p ∷ ports) x made in_time = (made.0, made.1, made_push made.0 between later ports x made.2 in_time)

-- what was written to the first one
pub written_in_time : (time later : ℕ) (e : PortEntry) (more : List PortEntry) → All Mine (e ∷ more) → AddsAtPort time later (e ∷ []) (e ∷ more) → AreEntriesInTime time (e ∷ []) more later
written_in_time time later e more mine adds =
    let first : noted at_ports.by_number main_thread (e ∷ []) ≡ note [] e ∷ [] = noted_on [] (e ∷ []) (All-cons Mine e [] (All-head Mine e more mine) (All-nil Mine)) in
    let all : noted at_ports.by_number main_thread (e ∷ more) ≡ note [] e ∷ notes_on (e ∷ []) more = noted_on [] (e ∷ more) mine in
    let both : note [] e ∷ notes_on (e ∷ []) more ≡ note [] e ∷ adds.added = sym all ∙ adds.noted_is ∙ ap (λ l. l ++ adds.added) first in
    let same : adds.added ≡ notes_on (e ∷ []) more = cc both in
    entries_in_time time later (e ∷ []) more (subst (λ (notes : List (Noted PortEntry)). AreNotesInTime time notes later) same adds.in_time)

-- the ports of so many plans, with the next one's
pub ports_push : (plans : List PlanParts) (index : ℕ) (plan : PlanParts) (os : List Opened) (o : Opened) (os' : List Opened) → slice_get plans index ≡ Some plan → os' ≡ os ++ o ∷ [] → EachMains (made_events (capacities_in (take index plans))) (map opened_front os) → AreMains (made_event plan.capacity ∷ []) (opened_front o)
    → EachMains (made_events (capacities_in (take (index + 1) plans))) (map opened_front os')
ports_push plans index plan os o os' there pushed each mains =
    let made = λ (ps : List PlanParts). made_events (capacities_in ps) in
    let events : made (take (index + 1) plans) ≡ made (take index plans) ++ (made_event plan.capacity ∷ []) ∷ [] = ap made (take_more plans index plan there) ∙ made_append (take index plans) plan in
    let fronts : map opened_front os' ≡ map opened_front os ++ opened_front o ∷ [] = ap (map opened_front) pushed ∙ map-append opened_front os (o ∷ []) in
    subst (λ (es : List (List PortEvent)). EachMains es (map opened_front os')) (sym events)
    (subst (EachMains (made (take index plans) ++ (made_event plan.capacity ∷ []) ∷ [])) (sym fronts) (each_push (made (take index plans)) (map opened_front os) (made_event plan.capacity ∷ []) (opened_front o) each mains))
  where
    made_append : (ps : List PlanParts) (p : PlanParts) → made_events (capacities_in (ps ++ p ∷ [])) ≡ made_events (capacities_in ps) ++ (made_event p.capacity ∷ []) ∷ []
    made_append [] p = refl
    made_append (x ∷ ps) p = ap (λ (l : List (List PortEvent)). (made_event x.capacity ∷ []) ∷ l) (made_append ps p)

    take_more : (ps : List PlanParts) (i : ℕ) (p : PlanParts) → slice_get ps i ≡ Some p → take (i + 1) ps ≡ take i ps ++ p ∷ []
    take_more [] i p at = absurd (cc at)
    take_more (x ∷ ps) zero p at = let same : x ≡ p = cc at in ap (λ (y : PlanParts). y ∷ []) same
    take_more (x ∷ ps) (suc i) p at =
        let more : suc i + 1 ≡ suc (i + 1) = omega arith in
        ap (λ (n : ℕ). take n (x ∷ ps)) more ∙ ap (λ (l : List PlanParts). x ∷ l) (take_more ps i p at)

-- one entry more
mains_push : (events : List PortEvent) (xs : List PortEntry) (x : PortEntry) (e : PortEvent) → AreMains events xs → x.event ≡ e → x.by.0 ≡ main_thread → MayEnterPort x.event → AreMains (events ++ e ∷ []) (xs ++ x ∷ [])
mains_push events xs x e mains is mine may = record {
  events_are = map-append (λ (entry : PortEntry). entry.event) xs (x ∷ []) ∙ ap (λ (l : List PortEvent). l ++ x.event ∷ []) mains.events_are ∙ ap (λ (y : PortEvent). events ++ y ∷ []) is;
  mine = All-append Mine xs (x ∷ []) mains.mine (All-cons Mine x [] mine (All-nil Mine));
  may = All-append MayMake xs (x ∷ []) mains.may (All-cons MayMake x [] may (All-nil MayMake));
}

-- the making of a port
pub making_mains : (k : Clock) (capacity : ℕ) → k.thread.0 ≡ main_thread → AreMains (made_event capacity ∷ []) (at_ports.making k capacity life_limit ∷ [])
making_mains k capacity main =
    let entry = at_ports.making k capacity life_limit in
    record { events_are = refl; mine = All-cons Mine entry [] main (All-nil Mine); may = All-cons MayMake entry [] tt (All-nil MayMake) }

-- ---- the machine of a port
abbrev after_events : PortState → List PortEvent → PortState
after_events s [] = s
after_events s (e ∷ events) = after_events (state_after s e) events

replays : (s : PortState) (xs : List PortEntry) → replayed s xs ≡ after_events s (events_of xs)
replays s [] = refl
replays s (x ∷ xs) = replays (state_after s x.event) xs

last_step : (taker : ℕ) (s : PortState) (xs : List PortEntry) (x : PortEntry) → AreSteps taker s (xs ++ x ∷ []) → PortStep taker (replayed s xs) x
last_step taker s [] x steps = steps.0
last_step taker s (y ∷ xs) x steps = last_step taker (state_after s y.event) xs x steps.1

port_steps : (o : Option ThreadId) (front : List PortEntry) → IsSomeAnd o (λ (taker : ThreadId). IsPort taker.0 front) → (taker : ℕ) × AreSteps taker unmade front
port_steps None front port = absurd port
port_steps (Some taker) front port = (taker.0, port.steps)

-- ---- a port where no other thread has had a seat
abbrev Named : PortEntry → Type 0
Named entry = Contains (main_thread ∷ []) entry.by.0

in_one : (x y : ℕ) → Contains (x ∷ []) y → y ≡ x
in_one x y (zero, lt, at) = sym at
in_one x y (suc i, lt, at) = absurd (omega (arith, lt))

none_between : (front between rest : List PortEntry) → All Named ((front ++ between) ++ rest) → AreByOthers at_ports.by_number main_thread between → between ≡ []
none_between [] [] rest named others = refl
none_between [] (x ∷ xs) rest named others =
    let by_main : x.by.0 ≡ main_thread = in_one main_thread x.by.0 (All-head Named x (xs ++ rest) named) in
    absurd (All-head (λ (entry : PortEntry). at_ports.by_number entry ≢ main_thread) x xs others by_main)
none_between (f ∷ front) between rest named others = none_between front between rest (All-tail Named f ((front ++ between) ++ rest) named) others

-- what is told of a message, by whether it fits an item
told_by : (m : MessageData) (b : Bool) → nat_lt flat_limit (length (spelling m)) ≡ b → items_told m ≡ (if b then [] else greeting_item m ∷ [])
told_by m b is = ap (λ (c : Bool). if c then [] else greeting_item m ∷ []) is

pub told_long : (m : MessageData) → flat_limit < length (spelling m) → items_told m ≡ []
told_long m long = told_by m true (lt-ltb flat_limit (length (spelling m)) long)

pub told_fits : (m : MessageData) → (flat_limit < length (spelling m) → ⊥) → items_told m ≡ greeting_item m ∷ []
told_fits m fits = by_bool (nat_lt flat_limit (length (spelling m))) refl
  where
    by_bool : (b : Bool) → nat_lt flat_limit (length (spelling m)) ≡ b → items_told m ≡ greeting_item m ∷ []
    by_bool true is = absurd (fits (ltb-true flat_limit (length (spelling m)) is))
    by_bool false is = told_by m false is

pub told_few : (arguments : Option MessageData) → length (arguments_told arguments) ≤ 1
told_few None = omega arith
told_few (Some m) = by_bool (nat_lt flat_limit (length (spelling m))) refl
  where
    by_bool : (b : Bool) → nat_lt flat_limit (length (spelling m)) ≡ b → length (items_told m) ≤ 1
    by_bool true is = omega (arith, ap length (told_by m true is))
    by_bool false is = omega (arith, ap length (told_by m false is))

abbrev state_with : ℕ → List ItemData → PortState
state_with capacity items = record { made = true; capacity = capacity; life = life_limit; written = items; taken = 0; shut = false; rested = false }

-- what such a port has, with these items written
abbrev has : ℕ → List ItemData → List PortEvent
has capacity items = made_event capacity ∷ written_from 0 items

module _ (m : MessageData) (capacity : ℕ) (k l : Clock) (a b : PortSeat) (keeps : KeepsSeat a b) (knows : KnowsWhole at_ports.by_number b) (items : List ItemData) (alone : IsAlone (has capacity items) a) where
  names_still : b.names ≡ Some (main_thread ∷ [])
  names_still = keeps.names ∙ alone.names_are

  named : All Named b.front
  named = subst (λ (o : Option (List ℕ)). IfSome o (λ (names : List ℕ). All (λ (entry : PortEntry). Contains names (at_ports.by_number entry)) b.front)) names_still knows.names

  -- nobody else made an entry
  front_seen : HasSeen at_ports.by_number a b → b.front ≡ a.front
  front_seen seen =
      let whole : b.front ≡ a.front ++ seen.between = ap (λ s. s.front) seen.after in
      let none = none_between a.front seen.between [] (subst (All Named) (whole ∙ sym (append-nil (a.front ++ seen.between))) named) (subst (λ (t : ℕ). AreByOthers at_ports.by_number t seen.between) alone.by_main seen.others) in
      whole ∙ ap (λ (between : List PortEntry). a.front ++ between) none ∙ append-nil a.front

  front_called : (entry : PortEntry) → HasCalled at_ports.by_number entry a b → b.front ≡ a.front ++ entry ∷ []
  front_called entry call =
      let whole : b.front ≡ (a.front ++ call.between) ++ entry ∷ [] = ap (λ s. s.front) call.after in
      let none = none_between a.front call.between (entry ∷ []) (subst (All Named) whole named) (subst (λ (t : ℕ). AreByOthers at_ports.by_number t call.between) alone.by_main call.others) in
      whole ∙ ap (λ (between : List PortEntry). (a.front ++ between) ++ entry ∷ []) none ∙ ap (λ (l : List PortEntry). l ++ entry ∷ []) (append-nil a.front)

  module _ (state_is : after_events unmade (has capacity items) ≡ state_with capacity items) (pushes : written_from 0 (items ++ greeting_item m ∷ []) ≡ written_from 0 items ++ event.Written (length items) (greeting_item m) ∷ []) (few : length items ≤ 1) where
    -- the machine allows the new entry
    abbrev taker : IsAtPort b → ℕ
    taker port = (port_steps b.opening b.front port).0

    allowed : (entry : PortEntry) → b.front ≡ a.front ++ entry ∷ [] → (port : IsAtPort b) → IsAllowed (taker port) entry.by.0 (state_with capacity items) entry.event
    allowed entry front port =
        let steps = port_steps b.opening b.front port in
        let step = last_step (taker port) unmade a.front entry (subst (AreSteps (taker port) unmade) front steps.1) in
        let state : replayed unmade a.front ≡ state_with capacity items = replays unmade a.front ∙ ap (after_events unmade) alone.mains.events_are ∙ state_is in
        subst (λ (s : PortState). IsAllowed (taker port) entry.by.0 s entry.event) state step.allowed

    by_answer : (sent : Result ℕ SendFault) → at_ports.HasAnswered (post_event from_main m sent) k l a b → (IsErrOf sent fault.TooLong ↔ (flat_limit < length (spelling m))) → (IsErrOf sent fault.WouldBlock → ⊥) → (IsErrOf sent fault.NoMemory → ⊥) → IfReached sent (IsAtPort b)
        → AreMains (has capacity (items ++ items_told m)) b.front
    by_answer (Ok position) entered long block want port =
        let e = event.Written position (greeting_item m) in
        let entry = at_ports.entry_now k entered.before e in
        let front = front_called entry entered.called in
        let place : position ≡ length items = (allowed entry front port).3 in
        let told = told_fits m (λ over. absurd (cc (long.1 over))) in
        let mains = mains_push (has capacity items) a.front entry e alone.mains refl (entered.called.mine ∙ alone.by_main) refl in
        subst (λ (xs : List PortEntry). AreMains (has capacity (items ++ items_told m)) xs) (sym front)
        (subst (λ (more : List ItemData). AreMains (has capacity (items ++ more)) (a.front ++ entry ∷ [])) (sym told)
        (subst (λ (written : List PortEvent). AreMains (made_event capacity ∷ written) (a.front ++ entry ∷ [])) (ap (λ (n : ℕ). written_from 0 items ++ event.Written n (greeting_item m) ∷ []) place ∙ sym pushes) mains))
    by_answer (Err fault.TooLong) looked long block want port =
        subst (λ (xs : List PortEntry). AreMains (has capacity (items ++ items_told m)) xs) (sym (front_seen looked.seen))
        (subst (λ (more : List ItemData). AreMains (has capacity more) a.front) (sym (ap (λ (told : List ItemData). items ++ told) (told_long m (long.0 refl)) ∙ append-nil items)) alone.mains)
    by_answer (Err fault.BadPort) entered long block want port =
        let entry = at_ports.entry_now k entered.before event.Refused in
        absurd (cc (allowed entry (front_called entry entered.called) port))
    by_answer (Err fault.Spent) entered long block want port =
        let entry = at_ports.entry_now k entered.before event.Spent in
        absurd (omega (arith, (allowed entry (front_called entry entered.called) port).1, few))
    by_answer (Err fault.WouldBlock) entered long block want port = absurd (block refl)
    by_answer (Err fault.NoMemory) entered long block want port = absurd (want refl)

    still_alone : HasSent m k l a b → IsAlone (has capacity (items ++ items_told m)) b
    still_alone sent = record { by_main = keeps.thread ∙ alone.by_main; names_are = names_still; known = knows; mains = by_answer sent.sent sent.answered sent.too_long sent.not_blocked sent.not_wanting sent.at_port }

-- main writes to it what it sends
pub sends_alone : (m : MessageData) (capacity : ℕ) (k l : Clock) (a b : PortSeat) → KeepsSeat a b → (KnowsWhole at_ports.by_number a → KnowsWhole at_ports.by_number b) → (items : List ItemData) → length items ≤ 1 → HasSent m k l a b → IsAlone (has capacity items) a → IsAlone (has capacity (items ++ items_told m)) b
sends_alone m capacity k l a b keeps knows [] few sent alone = still_alone m capacity k l a b keeps (knows alone.known) [] alone refl refl few sent
sends_alone m capacity k l a b keeps knows (x ∷ []) few sent alone = still_alone m capacity k l a b keeps (knows alone.known) (x ∷ []) alone refl refl few sent
sends_alone m capacity k l a b keeps knows (x ∷ y ∷ items) few sent alone = absurd (omega (arith, few))

-- where it went well
pub on_ok : {T E : Type 0} (A B : Type 0) (r : Result T E) → (A → B) → OnOk r A → OnOk r B
on_ok A B (Ok x) f a = f a
on_ok A B (Err e) f a = tt

-- and where it did not
pub on_err : {T E : Type 0} (A B : Type 0) (r : Result T E) → (A → B) → OnErr r A → OnErr r B
on_err A B (Ok x) f a = tt
on_err A B (Err e) f a = f a

-- a post without memory is of a message that fits an item
pub short_of_memory : (m : MessageData) (sent : Result ℕ SendFault) → IsErrOf sent fault.NoMemory → (IsErrOf sent fault.TooLong ↔ (flat_limit < length (spelling m))) → ¬ (flat_limit < length (spelling m))
short_of_memory m sent wanting long over = let bad = sym wanting ∙ long.1 over in absurd (cc bad)

-- a post without memory has no entry
pub no_entry : (e : Envelope) (m : MessageData) (sent : Result ℕ SendFault) → IsErrOf sent fault.NoMemory → post_event e m sent ≡ None
no_entry e m sent wanting = ap (λ (r : Result ℕ SendFault). post_event e m r) wanting
