-- A taker that has not taken the rest: what it can rely on at its turn, and that it stays so.
use Rattle.std.proofs.Common.{◌≡◌, ◌≢◌, ℕ, zero, suc, ◌<◌, ◌≤◌, true, false, cond, List, [], ◌∷◌, ◌++◌, length, All, Option, Some, None, refl, sym, ap, ◌∙◌, subst, append_assoc, arith, length-append, eq-eqb, ne_eqb}
use Rattle.std.specs.Prelude.{slice_get, IfSome, IsSomeAnd}
use Rattle.std.proofs.lemmas.List.Elements.{All-head, All-tail, All-append, All-cons, All-nil}
use mathlib.Core.Logic.{dite}
use native.Mathlib.Decide.{ℕ_discrete}
use Rattle.ak_base.specs.declared.thread.ThreadId.{ThreadId}
use Rattle.ak_turn.specs.declared.clock.Clock.{Clock}
use Rattle.ak_turn.specs.Entries.{places, places_from}
use Rattle.ak_turn.specs.Seats.{HasSeen, HasCalled, IsGiven, KnowsWhole, at_leisure, at_turn, later, new_seat, titled_seat}
use Rattle.ak_port.specs.declared.port_entry.PortEntry.{PortEntry}
use Rattle.ak_port.specs.declared.port_entry.PortEvent.{PortEvent}
use Rattle.ak_port.specs.declared.port_entry.PortEvent.TheVariants as event
use Rattle.ak_flatten.specs.Item.{ItemData}
use Rattle.ak_port.specs.declared.port_entry.WriteAnswer.{WriteAnswer}
use Rattle.ak_port.specs.declared.port_entry.WriteAnswer.TheVariants as written
use Rattle.ak_port.specs.declared.port_entry.TakeAnswer.{TakeAnswer}
use Rattle.ak_port.specs.declared.port_entry.TakeAnswer.TheVariants as taken
use Rattle.ak_port.specs.declared.port_entry.CloseAnswer.{CloseAnswer}
use Rattle.ak_port.specs.declared.port_entry.CloseAnswer.TheVariants as closed
use Rattle.ak_port.specs.PortCalls.{PortData, PortSeat, IsPortBook, by_number, entry_now, CanTake, HasAnswered, HasAnsweredAtTurn, HasEntered, IsAtPort, IsNoRest, IsRest, IfTook, write_entry, take_event, close_entry}
use Rattle.ak_port.specs.PortMachine.{PortState, AreSteps, IsPort, IsAllowed, replayed, state_after, state_of, unmade, follows_making}
use Rattle.ak_port.proofs.PortReplays.{replayed-append, AreSteps-behind, made_stays, state_of-push}

-- ---- what stays from step to step
-- a made port keeps its capacity
capacity_step : (s : PortState) (e : PortEvent) → s.made ≡ true → s.made ≡ follows_making e → (state_after s e).capacity ≡ s.capacity
capacity_step s (event.Made capacity life) made follows = absurd (cc)
capacity_step s (event.Written p item) made follows = refl
capacity_step s event.Full made follows = refl
capacity_step s event.Refused made follows = refl
capacity_step s event.Spent made follows = refl
capacity_step s (event.Took k) made follows = refl
capacity_step s (event.Rest k) made follows = refl
capacity_step s event.Shut made follows = refl

capacity_stays : (taker : ℕ) (s : PortState) (xs : List PortEntry) → s.made ≡ true → AreSteps taker s xs → (replayed s xs).capacity ≡ s.capacity
capacity_stays taker s [] made steps = refl
capacity_stays taker s (x ∷ xs) made steps =
    capacity_stays taker (state_after s x.event) xs (made_stays s x.event made) steps.1 ∙ capacity_step s x.event made steps.0.after_making

-- an entry that is no Rest leaves the rest to be taken
rested_step : (s : PortState) (e : PortEvent) → IsRest e ≡ false → (state_after s e).rested ≡ s.rested
rested_step s (event.Made capacity life) plain = refl
rested_step s (event.Written p item) plain = refl
rested_step s event.Full plain = refl
rested_step s event.Refused plain = refl
rested_step s event.Spent plain = refl
rested_step s (event.Took k) plain = refl
rested_step s (event.Rest k) plain = absurd (cc)
rested_step s event.Shut plain = refl

-- the taker alone takes the rest
others_rest : (taker by : ℕ) (s : PortState) (e : PortEvent) → by ≢ taker → IsAllowed taker by s e → IsRest e ≡ false
others_rest taker by s (event.Made capacity life) other allowed = refl
others_rest taker by s (event.Written p item) other allowed = refl
others_rest taker by s event.Full other allowed = refl
others_rest taker by s event.Refused other allowed = refl
others_rest taker by s event.Spent other allowed = refl
others_rest taker by s (event.Took k) other allowed = refl
others_rest taker by s (event.Rest k) other allowed = absurd (other allowed.0)
others_rest taker by s event.Shut other allowed = refl

-- ---- places
at_seam : (ys xs : List PortEntry) (x : PortEntry) → slice_get (ys ++ x ∷ xs) (length ys) ≡ Some x
at_seam [] xs x = refl
at_seam (y ∷ ys) xs x = at_seam ys xs x

at_front : (xs ys : List PortEntry) (k : ℕ) → k < length xs → slice_get (xs ++ ys) k ≡ slice_get xs k
at_front [] ys k lt = absurd (omega arith)
at_front (x ∷ xs) ys zero lt = refl
at_front (x ∷ xs) ys (suc k) lt = at_front xs ys k (omega arith)

no_rest_here : (ys xs : List PortEntry) (x : PortEntry) → IsNoRest (ys ++ x ∷ xs) (length ys) → IsRest x.event ≡ false
no_rest_here ys xs x here = subst (λ (o : Option PortEntry). IfSome o (λ (e : PortEntry). IsRest e.event ≡ false)) (at_seam ys xs x) here.1

no_rest_still : (xs ys : List PortEntry) (k : ℕ) → IsNoRest xs k → IsNoRest (xs ++ ys) k
no_rest_still xs ys k here =
    (omega (arith, length-append xs ys, here.0), subst (λ (o : Option PortEntry). IfSome o (λ (e : PortEntry). IsRest e.event ≡ false)) (sym (at_front xs ys k here.0)) here.1)

no_rest_last : (xs : List PortEntry) (x : PortEntry) → IsRest x.event ≡ false → IsNoRest (xs ++ x ∷ []) (length xs)
no_rest_last xs x plain =
    (omega (arith, length-append xs (x ∷ [])), subst (λ (o : Option PortEntry). IfSome o (λ (e : PortEntry). IsRest e.event ≡ false)) (sym (at_seam xs [] x)) plain)

-- ---- where none of the taker's own entries is a Rest, the rest was not taken
unrested_from : (taker : ℕ) (s : PortState) (ys xs : List PortEntry) → AreSteps taker s xs → s.rested ≡ false → All (IsNoRest (ys ++ xs)) (places_from by_number taker (length ys) xs) → (replayed s xs).rested ≡ false
unrested_from taker s ys [] steps still own = still
unrested_from taker s ys (x ∷ xs) steps still own =
    let next : length (ys ++ x ∷ []) ≡ suc (length ys) = omega (arith, length-append ys (x ∷ [])) in
    let again : All (IsNoRest (ys ++ x ∷ xs)) (places_from by_number taker (suc (length ys)) xs) → IsRest x.event ≡ false → (replayed s (x ∷ xs)).rested ≡ false =
    λ others plain. unrested_from taker (state_after s x.event) (ys ++ x ∷ []) xs steps.1 (rested_step s x.event plain ∙ still)
    (subst (λ l. All (IsNoRest l) (places_from by_number taker (length (ys ++ x ∷ [])) xs)) (sym (append_assoc ys (x ∷ []) xs))
    (subst (λ (k : ℕ). All (IsNoRest (ys ++ x ∷ xs)) (places_from by_number taker k xs)) (sym next) others)) in
    dite (ℕ_discrete (by_number x) taker)
    (λ e. let own' = subst (All (IsNoRest (ys ++ x ∷ xs))) (ap (λ b. cond b (length ys ∷ places_from by_number taker (suc (length ys)) xs) (places_from by_number taker (suc (length ys)) xs)) (eq-eqb (by_number x) taker e)) own in
    again (All-tail (IsNoRest (ys ++ x ∷ xs)) (length ys) _ own') (no_rest_here ys xs x (All-head (IsNoRest (ys ++ x ∷ xs)) (length ys) _ own')))
    (λ e. again (subst (All (IsNoRest (ys ++ x ∷ xs))) (ap (λ b. cond b (length ys ∷ places_from by_number taker (suc (length ys)) xs) (places_from by_number taker (suc (length ys)) xs)) (ne_eqb (by_number x) taker e)) own)
    (others_rest taker x.by.0 s x.event e steps.0.allowed))

All-still : (xs ys : List PortEntry) (own : List ℕ) → All (IsNoRest xs) own → All (IsNoRest (xs ++ ys)) own
All-still xs ys own all i d lt = no_rest_still xs ys _ (all i d lt)

-- ---- at a turn
pub unrested : (thread : ThreadId) (room : ℕ) (a b : PortSeat) → CanTake thread room a → IsGiven by_number a b → KnowsWhole by_number b → a.thread ≡ thread.0 → IsPort thread.0 b.front → (state_of b.front).rested ≡ false
unrested thread room a b can given whole is port =
    let own : All (IsNoRest b.front) b.own =
    subst (λ (s : PortSeat). All (IsNoRest s.front) s.own) (sym given.after) (All-still a.front given.between a.own can.unrested) in
    unrested_from thread.0 unmade [] b.front port.steps refl
    (subst (λ (t : ℕ). All (IsNoRest b.front) (places by_number t b.front)) (ap (λ s. s.thread) given.after ∙ is) (subst (All (IsNoRest b.front)) whole.own own))

-- ---- after a call
capacity_on : (taker : ℕ) (xs ys : List PortEntry) → (state_of xs).made ≡ true → IsPort taker (xs ++ ys) → (state_of (xs ++ ys)).capacity ≡ (state_of xs).capacity
capacity_on taker xs ys made port = ap (λ s. s.capacity) (replayed-append unmade xs ys) ∙ capacity_stays taker (state_of xs) ys made (AreSteps-behind taker unmade xs ys port.steps)

port_of : (thread : ThreadId) (seat : PortSeat) → seat.opening ≡ Some thread → IsAtPort seat → IsPort thread.0 seat.front
port_of thread seat opening at = subst (λ o. IsSomeAnd o (λ (t : ThreadId). IsPort t.0 seat.front)) opening at

can_still : (thread : ThreadId) (room : ℕ) (a c : PortSeat) (more : List PortEntry) → CanTake thread room a → c.opening ≡ a.opening → c.front ≡ a.front ++ more → All (IsNoRest c.front) c.own → IsAtPort c → CanTake thread room c
can_still thread room a c more can opening front own at =
    let port = port_of thread c (opening ∙ can.taker) at in
    record {
      taker = opening ∙ can.taker;
      unrested = own;
      made = port.made;
      capacity = subst (λ n. n ≤ room) (sym (ap (λ l. (state_of l).capacity) front ∙ capacity_on thread.0 a.front more can.made (subst (IsPort thread.0) front port))) can.capacity;
    }

pub can_after_seen : (thread : ThreadId) (room : ℕ) (a c : PortSeat) → CanTake thread room a → HasSeen by_number a c → IsAtPort c → CanTake thread room c
can_after_seen thread room a c can seen at =
    can_still thread room a c seen.between can (ap (λ s. s.opening) seen.after) (ap (λ s. s.front) seen.after)
    (subst (λ (s : PortSeat). All (IsNoRest s.front) s.own) (sym seen.after) (All-still a.front seen.between a.own can.unrested)) at

pub can_after_called : (thread : ThreadId) (room : ℕ) (x : PortEntry) (a c : PortSeat) → CanTake thread room a → IsRest x.event ≡ false → HasCalled by_number x a c → IsAtPort c → CanTake thread room c
can_after_called thread room x a c can plain called at =
    let front = a.front ++ called.between in
    can_still thread room a c (called.between ++ x ∷ []) can (ap (λ s. s.opening) called.after) (ap (λ s. s.front) called.after ∙ append_assoc a.front called.between (x ∷ []))
    (subst (λ (s : PortSeat). All (IsNoRest s.front) s.own) (sym called.after)
    (All-append (IsNoRest (front ++ x ∷ [])) a.own (length front ∷ []) (All-still front (x ∷ []) a.own (All-still a.front called.between a.own can.unrested))
    (All-cons (IsNoRest (front ++ x ∷ [])) (length front) [] (no_rest_last front x plain) (All-nil (IsNoRest (front ++ x ∷ []))))))
    at

-- where the rest was not taken, and how many fit
pub room_there : (thread : ThreadId) (room : ℕ) (a b : PortSeat) → CanTake thread room a → IsGiven by_number a b → IsPort thread.0 b.front → (state_of b.front).capacity ≤ room
room_there thread room a b can given port =
    let front = ap (λ s. s.front) given.after in
    subst (λ n. n ≤ room) (sym (ap (λ l. (state_of l).capacity) front ∙ capacity_on thread.0 a.front given.between can.made (subst (IsPort thread.0) front port))) can.capacity

-- the book at a turn is that of the taker's port
at_book : (thread : ThreadId) (room : ℕ) (a b : PortSeat) (book now : PortData) → now ≡ book → book.entries ≡ b.front → a.opening ≡ Some book.taker → CanTake thread room a → IsPortBook now → IsPort thread.0 b.front
at_book thread room a b book now is list opening can port =
    let same : Some book.taker ≡ Some thread = sym opening ∙ can.taker in
    let taker : book.taker ≡ thread = cc in
    subst (IsPort thread.0) list (subst (λ (t : ThreadId). IsPort t.0 book.entries) taker (subst IsPortBook is port))

pub book_unrested : (thread : ThreadId) (room : ℕ) (a b : PortSeat) (book now : PortData) → now ≡ book → book.entries ≡ b.front → a.opening ≡ Some book.taker → CanTake thread room a → IsGiven by_number a b → KnowsWhole by_number b → a.thread ≡ thread.0 → IsPortBook now → (state_of now.entries).rested ≡ false
book_unrested thread room a b book now is list opening can given whole thread_is port =
    ap (λ p. (state_of p.entries).rested) is ∙ ap (λ l. (state_of l).rested) list ∙ unrested thread room a b can given whole thread_is (at_book thread room a b book now is list opening can port)

pub book_room : (thread : ThreadId) (room : ℕ) (a b : PortSeat) (book now : PortData) → now ≡ book → book.entries ≡ b.front → a.opening ≡ Some book.taker → CanTake thread room a → IsGiven by_number a b → IsPortBook now → (state_of now.entries).capacity ≤ room
book_room thread room a b book now is list opening can given port =
    subst (λ n. n ≤ room) (sym (ap (λ p. (state_of p.entries).capacity) is ∙ ap (λ l. (state_of l).capacity) list)) (room_there thread room a b can given (at_book thread room a b book now is list opening can port))

abbrev pub IsPlain : Option PortEvent → Type 0
IsPlain None = Unit {0}
IsPlain (Some e) = IsRest e ≡ false

pub can_after : (e : Option PortEvent) (clock clock' : Clock) (a c : PortSeat) → IsPlain e → HasAnswered e clock clock' a c → IsAtPort c → (thread : ThreadId) (room : ℕ) → CanTake thread room a → CanTake thread room c
can_after None clock clock' a c plain answered at thread room can = can_after_seen thread room a c can answered.seen at
can_after (Some e) clock clock' a c plain answered at thread room can = can_after_called thread room (entry_now clock answered.before e) a c can plain answered.called at

-- the same of a call in a turn that was given
pub can_after_turn : (e : Option PortEvent) (clock clock' : Clock) (b c : PortSeat) → IsPlain e → HasAnsweredAtTurn e clock clock' b c → IsAtPort c → (thread : ThreadId) (room : ℕ) (a : PortSeat) → CanTake thread room a → IsGiven by_number a b → CanTake thread room c
can_after_turn None clock clock' b c plain answered at thread room a can given =
    let after : c ≡ at_leisure (at_turn (later a given.between)) = answered.0 ∙ ap (λ (s : PortSeat). at_leisure s) given.after in
    can_still thread room a c given.between can (ap (λ s. s.opening) after) (ap (λ s. s.front) after)
    (subst (λ (s : PortSeat). All (IsNoRest s.front) s.own) (sym after) (All-still a.front given.between a.own can.unrested)) at
can_after_turn (Some e) clock clock' b c plain answered at thread room a can given =
    let mid = a.front ++ given.between in
    let x = entry_now clock mid e in
    let left : PortSeat → PortSeat = λ s. record s { front = s.front ++ entry_now clock s.front e ∷ []; own = s.own ++ length s.front ∷ []; turn = false } in
    let after : c ≡ left (at_turn (later a given.between)) = answered.0 ∙ ap left given.after in
    can_still thread room a c (given.between ++ x ∷ []) can (ap (λ s. s.opening) after) (ap (λ s. s.front) after ∙ append_assoc a.front given.between (x ∷ []))
    (subst (λ (s : PortSeat). All (IsNoRest s.front) s.own) (sym after)
    (All-append (IsNoRest (mid ++ x ∷ [])) a.own (length mid ∷ []) (All-still mid (x ∷ []) a.own (All-still a.front given.between a.own can.unrested))
    (All-cons (IsNoRest (mid ++ x ∷ [])) (length mid) [] (no_rest_last mid x plain) (All-nil (IsNoRest (mid ++ x ∷ []))))))
    at

-- a write and a closing are no Rest
pub write_plain : (answer : WriteAnswer) (item : ItemData) → IsPlain (write_entry answer item)
write_plain (written.Wrote p) item = refl
write_plain (written.Closed back) item = refl
write_plain (written.Spent back) item = refl
write_plain (written.Full back) item = refl
write_plain (written.NoMemory back) item = tt

pub close_plain : (answer : CloseAnswer) → IsPlain (close_entry answer)
close_plain closed.Shut = refl
close_plain closed.AlreadyShut = tt

-- a take that is no Rest can be followed by another
pub can_after_take : (answer : TakeAnswer) (clock clock' : Clock) (a c : PortSeat) → HasEntered clock clock' (take_event answer) a c → IsAtPort c → (thread : ThreadId) (room : ℕ) → CanTake thread room a → IfTook answer (λ k. CanTake thread room c)
can_after_take (taken.Took k) clock clock' a c entered at thread room can = can_after (Some (event.Took k)) clock clock' a c refl entered at thread room can
can_after_take (taken.Rest k) clock clock' a c entered at thread room can = tt

-- after a closing the port is shut
pub shut_after : (answer : CloseAnswer) (clock clock' : Clock) (a c : PortSeat) → HasAnswered (close_entry answer) clock clock' a c → (answer ≡ closed.AlreadyShut → (state_of c.front).shut ≡ true) → (state_of c.front).shut ≡ true
shut_after closed.Shut clock clock' a c answered already = ap (λ l. (state_of l).shut) answered.front ∙ ap (λ s. s.shut) (state_of-push answered.before (entry_now clock answered.before event.Shut))
shut_after closed.AlreadyShut clock clock' a c answered already = already refl

-- ---- seats that are split
pub can_titled : (thread : ThreadId) (room : ℕ) (names : Option (List ℕ)) (a c : PortSeat) → CanTake thread room a → c ≡ titled_seat names a → CanTake thread room c
can_titled thread room names a c can after = subst (CanTake thread room) (sym after) (record { taker = can.taker; unrested = can.unrested; made = can.made; capacity = can.capacity })

-- a new seat for the taker
pub can_new : (thread : ThreadId) (room : ℕ) (names : Option (List ℕ)) (a c : PortSeat) → a.opening ≡ Some thread → (state_of a.front).made ≡ true → (state_of a.front).capacity ≤ room → c ≡ new_seat thread.0 names a → CanTake thread room c
can_new thread room names a c opening made capacity after =
    subst (CanTake thread room) (sym after) (record { taker = opening; unrested = All-nil (IsNoRest a.front); made = made; capacity = capacity })
