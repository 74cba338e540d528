-- Calls of a shared port: what a turn comes to.
use Rattle.std.proofs.Common.{◌≡◌, ℕ, Bool, false, ◌++◌, ◌∷◌, [], List, Option, Some, None, All, length, refl, sym, ap, ◌∙◌, subst, arith}
use Rattle.std.specs.Prelude.{IfSome, IsSomeAnd}
use Rattle.ak_base.specs.declared.thread.ThreadId.{ThreadId}
use Rattle.ak_flatten.specs.Item.{ItemData}
use Rattle.ak_turn.specs.declared.clock.Clock.{Clock}
use Rattle.std.proofs.lemmas.List.Elements.{All-cons, All-nil}
use Rattle.ak_turn.specs.Entries.{places}
use Rattle.ak_turn.specs.Seats.{LockId, HasCalled, IsGiven, KnowsWhole, at_leisure, entered_by, first_seat, with_own}
use Rattle.ak_turn.proofs.Surface.{seen_then_seen, seen_then_called, first_knows}
use Rattle.ak_port.specs.declared.port_entry.PortEvent.{PortEvent}
use Rattle.ak_port.specs.declared.port_entry.PortEntry.{PortEntry}
use Rattle.ak_port.specs.declared.port_entry.PortEvent.TheVariants as event
use Rattle.ak_port.specs.declared.port_entry.Refusal.{Refusal}
use Rattle.ak_port.specs.declared.port_entry.Refusal.TheVariants as refusal
use Rattle.ak_port.specs.declared.port_entry.WriteAnswer.{WriteAnswer}
use Rattle.ak_port.specs.declared.port_entry.WriteAnswer.TheVariants as written
use Rattle.ak_port.specs.PortCalls.{PortData, PortSeat, by_number, entry_now, clock_after, making, write_entry, HasAdded, HasAnswered, HasAnsweredAtTurn, HasEntered, HasLooked, IfNoMemory, IfRefused, IsAtPort, IsPortBook}
use Rattle.ak_port.specs.PortLaws.{IsOfWrite}
use Rattle.ak_port.specs.PortMachine.{PortState, AreSteps, IsPort, IsAllowed, LacksRoom, refusal_of, refused_event, state_of, unmade, write_event}
use Rattle.ak_turn.specs.Called.{KeepsSeat}
use Rattle.ak_port.proofs.PortReplays.{AreSteps-behind, state_of-push}
use Rattle.ak_port.proofs.PortSound.{refused_stays}

-- ---- a turn
-- what the book's entry and the end of the turn come to
pub ends_turn : (e : Option PortEvent) (k l : Clock) (p p' : PortData) (b c : PortSeat) → HasAdded e k l p p' → p.entries ≡ b.front → (p'.entries ≡ b.front → c ≡ at_leisure b)
    → ((entry : PortEntry) → p'.entries ≡ b.front ++ entry ∷ [] → c ≡ at_leisure (entered_by b entry)) → HasAnsweredAtTurn e k l b c
ends_turn None k l p p' b c added list same entered = (same (ap (λ (q : PortData). q.entries) added.0 ∙ list), added.1)
ends_turn (Some event) k l p p' b c added list same entered = (
  entered (entry_now k b.front event) (ap (λ (q : PortData). q.entries) added.0 ∙ ap (λ xs. xs ++ entry_now k xs event ∷ []) list),
  added.1 ∙ ap (clock_after k) list,
)

-- the port's history then
pub port_after_turn : (e : Option PortEvent) (k l : Clock) (p p' : PortData) (b c : PortSeat) → HasAdded e k l p p' → p.entries ≡ b.front → b.opening ≡ Some p.taker → HasAnsweredAtTurn e k l b c → IsPortBook p' → IsAtPort c
port_after_turn None k l p p' b c added list opening answered port =
    subst (λ (s : PortSeat). IsAtPort s) (sym answered.0)
    (subst (λ o. IsSomeAnd o (λ (t : ThreadId). IsPort t.0 b.front)) (sym opening) (subst (IsPort p.taker.0) list (subst (λ (q : PortData). IsPortBook q) added.0 port)))
port_after_turn (Some event) k l p p' b c added list opening answered port =
    subst (λ (s : PortSeat). IsAtPort s) (sym answered.0)
    (subst (λ o. IsSomeAnd o (λ (t : ThreadId). IsPort t.0 (b.front ++ entry_now k b.front event ∷ []))) (sym opening)
    (subst (λ (xs : List PortEntry). IsPort p.taker.0 (xs ++ entry_now k xs event ∷ [])) list (subst (λ (q : PortData). IsPortBook q) added.0 port)))

-- where memory ran out it has room if it had
pub wanting_room : (answer : WriteAnswer) (item : ItemData) (k l : Clock) (b c : PortSeat) → HasAnsweredAtTurn (write_entry answer item) k l b c → ¬ (LacksRoom b.front) → IfNoMemory answer (¬ (LacksRoom c.front))
wanting_room (written.Wrote p) item k l b c answered room = tt
wanting_room (written.Closed back) item k l b c answered room = tt
wanting_room (written.Spent back) item k l b c answered room = tt
wanting_room (written.Full back) item k l b c answered room = tt
wanting_room (written.NoMemory back) item k l b c answered room = λ lacks. room (subst (λ (s : PortSeat). LacksRoom s.front) answered.0 lacks)

-- what was answered in the turn, as it was before the turn was given
pub answered_at_turn : (e : Option PortEvent) (k l : Clock) (a b c : PortSeat) → a.turn ≡ false → a.thread ≡ k.thread.0 → IsGiven by_number a b → HasAnsweredAtTurn e k l b c → HasAnswered e k l a c
answered_at_turn None k l a b c idle is given answered =
    let left : PortSeat → PortSeat = λ s. record s { turn = false } in
    let as_was : Bool → PortSeat = λ t. record a { front = a.front ++ given.between; turn = t } in
    record {
      seen = record { between = given.between; others = given.others; after = answered.0 ∙ ap left given.after ∙ ap as_was (sym idle) };
      clocked = answered.1;
    }
answered_at_turn (Some event) k l a b c idle is given answered =
    let before = a.front ++ given.between in
    let x = entry_now k before event in
    let left : PortSeat → PortSeat = λ s. record s { front = s.front ++ entry_now k s.front event ∷ []; own = s.own ++ length s.front ∷ []; turn = false } in
    let as_was : Bool → PortSeat = λ t. record a { front = before ++ x ∷ []; own = a.own ++ length before ∷ []; turn = t } in
    let after : c ≡ with_own a given.between x = answered.0 ∙ ap left given.after ∙ ap as_was (sym idle) in
    record {
      before = before;
      front = ap (λ s. s.front) after;
      called = record { between = given.between; others = given.others; mine = sym is; after = after };
      clocked = answered.1 ∙ ap (λ (s : PortSeat). clock_after k s.front) given.after;
    }

-- one event of a write is allowed, which the tests find
one_event : (taker by : ℕ) (s : PortState) (item : ItemData) (e : PortEvent) → IsOfWrite item e → IsAllowed taker by s e → e ≡ write_event s item
one_event taker by s item (event.Made capacity life) of allowed = absurd of
one_event taker by s item (event.Written p i) of allowed = grind arith
one_event taker by s item event.Full of allowed = grind arith
one_event taker by s item event.Spent of allowed = grind arith
one_event taker by s item event.Refused of allowed = grind arith
one_event taker by s item (event.Took k) of allowed = absurd of
one_event taker by s item (event.Rest k) of allowed = absurd of
one_event taker by s item event.Shut of allowed = absurd of

port_there : (opening : Option ThreadId) (xs : List PortEntry) → IsSomeAnd opening (λ (t : ThreadId). IsPort t.0 xs) → (taker : ℕ) × IsPort taker xs
port_there None xs at = absurd at
port_there (Some t) xs at = (t.0, at)

-- a port's last entry is allowed where it stands
last_allowed : (taker : ℕ) (all before : List PortEntry) (x : PortEntry) → IsPort taker all → all ≡ before ++ x ∷ [] → IsAllowed taker x.by.0 (state_of before) x.event
last_allowed taker all before x port is = (AreSteps-behind taker unmade before (x ∷ []) (subst (AreSteps taker unmade) is port.steps)).0.allowed

of_write : (answer : WriteAnswer) (item : ItemData) → IfSome (write_entry answer item) (IsOfWrite item)
of_write (written.Wrote p) item = refl
of_write (written.Closed back) item = tt
of_write (written.Spent back) item = tt
of_write (written.Full back) item = tt
of_write (written.NoMemory back) item = tt

machine_of : (e : Option PortEvent) (item : ItemData) (k l : Clock) (p p' : PortData) → IfSome e (IsOfWrite item) → HasAdded e k l p p' → IsPortBook p' → IfSome e (λ event. event ≡ write_event (state_of p.entries) item)
machine_of None item k l p p' of added port = tt
machine_of (Some event) item k l p p' of added port =
    one_event p'.taker.0 k.thread.0 (state_of p.entries) item event of (last_allowed p'.taker.0 p'.entries p.entries (entry_now k p.entries event) port (ap (λ (q : PortData). q.entries) added.0))

-- the entry of a write is the one of the machine
pub writes_by_machine : (answer : WriteAnswer) (item : ItemData) (k l : Clock) (p p' : PortData) → HasAdded (write_entry answer item) k l p p' → IsPortBook p' → IfSome (write_entry answer item) (λ event. event ≡ write_event (state_of p.entries) item)
writes_by_machine answer item k l p p' added port = machine_of (write_entry answer item) item k l p p' (of_write answer item) added port

-- ---- why a write was refused
refusal_told : (taker by : ℕ) (s : PortState) (why : Refusal) → IsAllowed taker by s (refused_event why) → refusal_of s ≡ Some why
refusal_told taker by s refusal.Closed allowed = grind arith
refusal_told taker by s refusal.Spent allowed = grind arith
refusal_told taker by s refusal.Full allowed = grind arith

refusal_shown : (why : Refusal) (k l : Clock) (a c : PortSeat) → HasEntered k l (refused_event why) a c → IsAtPort c → refusal_of (state_of c.front) ≡ Some why
refusal_shown why k l a c entered at =
    let x = entry_now k entered.before (refused_event why) in
    let port : (taker : ℕ) × IsPort taker c.front = port_there c.opening c.front at in
    let allowed = last_allowed port.0 c.front entered.before x port.1 entered.front in
    ap (λ l. refusal_of (state_of l)) entered.front ∙ ap refusal_of (state_of-push entered.before x ∙ refused_stays (state_of entered.before) why)
    ∙ refusal_told port.0 k.thread.0 (state_of entered.before) why allowed

-- what a refusal says is so of the front
pub refused_shown : (answer : WriteAnswer) (item : ItemData) (k l : Clock) (a c : PortSeat) → HasAnswered (write_entry answer item) k l a c → IsAtPort c → IfRefused answer (λ why. refusal_of (state_of c.front) ≡ Some why)
refused_shown (written.Wrote p) item k l a c answered at = tt
refused_shown (written.Closed back) item k l a c answered at = refusal_shown refusal.Closed k l a c answered at
refused_shown (written.Spent back) item k l a c answered at = refusal_shown refusal.Spent k l a c answered at
refused_shown (written.Full back) item k l a c answered at = refusal_shown refusal.Full k l a c answered at
refused_shown (written.NoMemory back) item k l a c answered at = tt

-- ---- a new port
-- its first seat knows its list
pub knows_made : (seat : PortSeat) (lock : LockId) (taker : ThreadId) (book : PortData) (clock : Clock) (capacity life : ℕ) → book ≡ record { taker = taker; entries = making clock capacity life ∷ [] }
    → seat ≡ first_seat lock book.taker book.entries (places by_number clock.thread.0 book.entries) clock.thread.0 → KnowsWhole by_number seat
knows_made seat lock taker book clock capacity life is after =
    subst (λ (s : PortSeat). KnowsWhole by_number s) (sym after)
    (first_knows by_number lock book.taker book.entries clock.thread.0
    (subst (λ (p : PortData). All (λ (entry : PortEntry). by_number entry ≡ clock.thread.0) p.entries) (sym is)
    (All-cons (λ (entry : PortEntry). by_number entry ≡ clock.thread.0) (making clock capacity life) [] refl (All-nil (λ (entry : PortEntry). by_number entry ≡ clock.thread.0)))))
