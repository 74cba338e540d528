-- What a taker has taken: its own takes alone add to it.
use Rattle.std.proofs.Common.{◌≡◌, ◌≢◌, ℕ, ◌+◌, ◌≤◌, false, List, [], ◌∷◌, ◌++◌, length, take, drop, Option, Some, None, refl, sym, ap, ◌∙◌, subst, arith, append-nil}
use Rattle.std.specs.Prelude.{IsSomeAnd}
use Rattle.std.proofs.lemmas.List.{drop_all, take-append-le}
use Rattle.std.proofs.lemmas.List.Elements.{All-head, All-tail}
use Rattle.ak_base.specs.declared.thread.ThreadId.{ThreadId}
use Rattle.ak_turn.specs.declared.clock.Clock.{Clock}
use Rattle.ak_turn.specs.Entries.{AreByOthers}
use Rattle.ak_turn.specs.Seats.{IsGiven, at_leisure, at_turn, later}
use Rattle.ak_port.specs.declared.port_entry.PortEntry.{PortEntry}
use Rattle.ak_port.specs.declared.port_entry.PortEvent.{PortEvent}
use Rattle.ak_port.specs.declared.port_entry.PortEvent.TheVariants as event
use Rattle.ak_port.specs.declared.port_entry.TakeAnswer.{TakeAnswer}
use Rattle.ak_port.specs.declared.port_entry.TakeAnswer.TheVariants as taken
use Rattle.ak_port.specs.declared.port_entry.WriteAnswer.{WriteAnswer}
use Rattle.ak_port.specs.declared.port_entry.WriteAnswer.TheVariants as written
use Rattle.ak_port.specs.declared.port_entry.CloseAnswer.{CloseAnswer}
use Rattle.ak_port.specs.declared.port_entry.CloseAnswer.TheVariants as closed
use Rattle.ak_flatten.specs.Item.{ItemData}
use Rattle.ak_port.specs.PortCalls.{PortData, IsPortBook, PortSeat, by_number, close_entry, entry_now, write_entry, HasAnswered, HasAnsweredAtTurn, HasEntered, IfRest, IfTook, IsAtPort, KeepsTaken, take_event, take_count}
use Rattle.ak_port.specs.TakerLaws.{IsNoTake, takes_items}
use Rattle.ak_port.specs.PortMachine.{PortState, PortStep, AreSteps, IsPort, IsAllowed, IsRested, replayed, state_after, state_of, unmade, numbered, taken_items, pending_items, last_taken, written_in}
use Rattle.ak_port.proofs.PortItems.{each_once, oldest_first, taken_more, take-numbered}
use Rattle.ak_port.proofs.PortLimits.{IsReached, reached_step, unmade_reached, reached_by}
use Rattle.ak_port.proofs.PortReplays.{replayed-append, AreSteps-behind, AreSteps-before, state_of-push}
use Rattle.ak_port.proofs.PortSound.{took_items, rest_items}

-- another thread takes nothing
others_step : (taker by : ℕ) (s : PortState) (e : PortEvent) → by ≢ taker → IsReached s → IsAllowed taker by s e → taken_items (state_after s e) ≡ taken_items s
others_step taker by s (event.Made capacity life) other reached allowed = refl
others_step taker by s (event.Written p item) other reached allowed = ap (numbered 0) (take-append-le s.taken s.written (item ∷ []) reached.within.taken)
others_step taker by s event.Full other reached allowed = refl
others_step taker by s event.Refused other reached allowed = refl
others_step taker by s event.Spent other reached allowed = refl
others_step taker by s (event.Took k) other reached allowed = absurd (other allowed.0)
others_step taker by s (event.Rest k) other reached allowed = absurd (other allowed.0)
others_step taker by s event.Shut other reached allowed = refl

count_step : (taker by : ℕ) (s : PortState) (e : PortEvent) → by ≢ taker → IsAllowed taker by s e → (state_after s e).taken ≡ s.taken
count_step taker by s (event.Made capacity life) other allowed = refl
count_step taker by s (event.Written p item) other allowed = refl
count_step taker by s event.Full other allowed = refl
count_step taker by s event.Refused other allowed = refl
count_step taker by s event.Spent other allowed = refl
count_step taker by s (event.Took k) other allowed = absurd (other allowed.0)
count_step taker by s (event.Rest k) other allowed = absurd (other allowed.0)
count_step taker by s event.Shut other allowed = refl

others_by : (taker : ℕ) (s : PortState) (xs : List PortEntry) → AreByOthers by_number taker xs → IsReached s → AreSteps taker s xs → taken_items (replayed s xs) ≡ taken_items s
others_by taker s [] others reached steps = refl
others_by taker s (x ∷ xs) others reached steps =
    others_by taker (state_after s x.event) xs (All-tail (λ entry. by_number entry ≢ taker) x xs others) (reached_step taker s x reached steps.0) steps.1
    ∙ others_step taker x.by.0 s x.event (All-head (λ entry. by_number entry ≢ taker) x xs others) reached steps.0.allowed

pub taken_stays : (taker : ℕ) (xs ys : List PortEntry) → AreByOthers by_number taker ys → IsPort taker (xs ++ ys) → taken_items (state_of (xs ++ ys)) ≡ taken_items (state_of xs)
taken_stays taker xs ys others port =
    ap taken_items (replayed-append unmade xs ys)
    ∙ others_by taker (state_of xs) ys others (reached_by taker unmade xs unmade_reached (AreSteps-before taker unmade xs ys port.steps)) (AreSteps-behind taker unmade xs ys port.steps)

others_count : (taker : ℕ) (s : PortState) (xs : List PortEntry) → AreByOthers by_number taker xs → AreSteps taker s xs → (replayed s xs).taken ≡ s.taken
others_count taker s [] others steps = refl
others_count taker s (x ∷ xs) others steps =
    others_count taker (state_after s x.event) xs (All-tail (λ entry. by_number entry ≢ taker) x xs others) steps.1
    ∙ count_step taker x.by.0 s x.event (All-head (λ entry. by_number entry ≢ taker) x xs others) steps.0.allowed

-- a take adds what it hands out
took_step : (taker by : ℕ) (s : PortState) (answer : TakeAnswer) → IsReached s → IsAllowed taker by s (take_event answer) → taken_items (state_after s (take_event answer)) ≡ taken_items s ++ last_taken (take_count answer) (state_after s (take_event answer))
took_step taker by s (taken.Took k) reached allowed =
    sym (taken_more s k reached) ∙ ap (λ l. taken_items s ++ l) (take-numbered k s.taken (drop s.taken s.written) ∙ took_items s k)
took_step taker by s (taken.Rest k) reached allowed =
    let within = reached.within.taken in
    let all = allowed.3 in
    let to_end : s.taken + k ≡ length s.written = omega arith in
    ap (λ n. numbered 0 (take n s.written)) (sym to_end) ∙ sym (taken_more s k reached)
    ∙ ap (λ l. taken_items s ++ l) (take-numbered k s.taken (drop s.taken s.written) ∙ rest_items s k all within)

took_count : (taker by : ℕ) (s : PortState) (answer : TakeAnswer) → IsReached s → IsAllowed taker by s (take_event answer) → (state_after s (take_event answer)).taken ≡ s.taken + take_count answer
took_count taker by s (taken.Took k) reached allowed = refl
took_count taker by s (taken.Rest k) reached allowed =
    let within = reached.within.taken in
    let all = allowed.3 in
    omega arith

-- a take of the taker's seat: the state that it found, of which as much was taken as the seat had seen, and the one that it left
record TakesAt (thread : ThreadId) (answer : TakeAnswer) (a c : PortSeat) : Type 0 where
  pub found : PortState
  pub by : ℕ
  pub reached : IsReached found
  pub allowed : IsAllowed thread.0 by found (take_event answer)
  pub left : state_of c.front ≡ state_after found (take_event answer)
  pub count : found.taken ≡ (state_of a.front).taken
  pub items : taken_items found ≡ taken_items (state_of a.front)
  pub port : IsPort thread.0 c.front

takes_at : (thread : ThreadId) (clock clock' : Clock) (answer : TakeAnswer) (a c : PortSeat) → HasEntered clock clock' (take_event answer) a c → a.opening ≡ Some thread → a.thread ≡ thread.0 → IsAtPort c → TakesAt thread answer a c
takes_at thread clock clock' answer a c entered opening is at =
    let called = entered.called in
    let x = entry_now clock entered.before (take_event answer) in
    let mid = a.front ++ called.between in
    let whole : c.front ≡ mid ++ x ∷ [] = ap (λ s. s.front) called.after in
    let port : IsPort thread.0 c.front = subst (λ o. IsSomeAnd o (λ (t : ThreadId). IsPort t.0 c.front)) (ap (λ s. s.opening) called.after ∙ opening) at in
    let port' : IsPort thread.0 (mid ++ x ∷ []) = subst (IsPort thread.0) whole port in
    let steps = AreSteps-before thread.0 unmade mid (x ∷ []) port'.steps in
    let step : PortStep thread.0 (state_of mid) x = (AreSteps-behind thread.0 unmade mid (x ∷ []) port'.steps).0 in
    let others : AreByOthers by_number thread.0 called.between = subst (λ (t : ℕ). AreByOthers by_number t called.between) is called.others in
    let seen = reached_by thread.0 unmade a.front unmade_reached (AreSteps-before thread.0 unmade a.front called.between steps) in
    let between = AreSteps-behind thread.0 unmade a.front called.between steps in
    record {
      found = state_of mid;
      by = x.by.0;
      reached = reached_by thread.0 unmade mid unmade_reached steps;
      allowed = step.allowed;
      left = ap state_of whole ∙ state_of-push mid x;
      count = ap (λ s. s.taken) (replayed-append unmade a.front called.between) ∙ others_count thread.0 (state_of a.front) called.between others between;
      items = ap taken_items (replayed-append unmade a.front called.between) ∙ others_by thread.0 (state_of a.front) called.between others seen between;
      port = port;
    }

-- what was taken goes on by what it hands out
pub takes_more : (thread : ThreadId) (clock clock' : Clock) (answer : TakeAnswer) (a c : PortSeat) → HasEntered clock clock' (take_event answer) a c → a.opening ≡ Some thread → a.thread ≡ thread.0 → IsAtPort c
    → taken_items (state_of c.front) ≡ taken_items (state_of a.front) ++ last_taken (take_count answer) (state_of c.front)
takes_more thread clock clock' answer a c entered opening is at =
    let t = takes_at thread clock clock' answer a c entered opening is at in
    ap taken_items t.left ∙ took_step thread.0 t.by t.found answer t.reached t.allowed ∙ (λ i. t.items i ++ last_taken (take_count answer) (sym t.left i))

-- and rises by as many
pub takes_count : (thread : ThreadId) (clock clock' : Clock) (answer : TakeAnswer) (a c : PortSeat) → HasEntered clock clock' (take_event answer) a c → a.opening ≡ Some thread → a.thread ≡ thread.0 → IsAtPort c
    → (state_of c.front).taken ≡ (state_of a.front).taken + take_count answer
takes_count thread clock clock' answer a c entered opening is at =
    let t = takes_at thread clock clock' answer a c entered opening is at in
    ap (λ s. s.taken) t.left ∙ took_count thread.0 t.by t.found answer t.reached t.allowed ∙ ap (λ n. n + take_count answer) t.count

-- which is at least one where the port is not shut
pub takes_some : (thread : ThreadId) (clock clock' : Clock) (answer : TakeAnswer) (a c : PortSeat) → HasEntered clock clock' (take_event answer) a c → a.opening ≡ Some thread → a.thread ≡ thread.0 → IsAtPort c → IfTook answer (λ k. 1 ≤ k)
takes_some thread clock clock' (taken.Took k) a c entered opening is at = (takes_at thread clock clock' (taken.Took k) a c entered opening is at).allowed.2
takes_some thread clock clock' (taken.Rest k) a c entered opening is at = tt

-- and all there is once it is shut
pub takes_all : (thread : ThreadId) (clock clock' : Clock) (answer : TakeAnswer) (a c : PortSeat) → HasEntered clock clock' (take_event answer) a c → a.opening ≡ Some thread → a.thread ≡ thread.0 → IsAtPort c → IfRest answer (IsRested c.front)
takes_all thread clock clock' (taken.Took k) a c entered opening is at = tt
takes_all thread clock clock' (taken.Rest k) a c entered opening is at =
    let t = takes_at thread clock clock' (taken.Rest k) a c entered opening is at in
    let items = t.found.written in
    let nothing : pending_items (state_of c.front) ≡ [] = ap pending_items t.left ∙ ap (numbered (length items)) (drop_all (length items) items (omega arith)) in
    record {
      shut = ap (λ s. s.shut) t.left ∙ t.allowed.1;
      rested = ap (λ s. s.rested) t.left;
      all = sym (each_once thread.0 c.front t.port ∙ ap (λ l. l ++ pending_items (state_of c.front)) (oldest_first thread.0 c.front t.port) ∙ ap (λ l. taken_items (state_of c.front) ++ l) nothing ∙ append-nil (taken_items (state_of c.front)));
      nothing = nothing;
    }

-- in the end: what was written is what the taker took, then what is pending
pub taken_then_pending : (taker : ℕ) (xs ys : List PortEntry) → AreByOthers by_number taker ys → IsPort taker (xs ++ ys) → written_in (xs ++ ys) ≡ taken_items (state_of xs) ++ pending_items (state_of (xs ++ ys))
taken_then_pending taker xs ys others port =
    each_once taker (xs ++ ys) port ∙ ap (λ l. l ++ pending_items (state_of (xs ++ ys))) (oldest_first taker (xs ++ ys) port ∙ taken_stays taker xs ys others port)

pub told_at_end : (thread : ThreadId) (a b : PortSeat) (book now : PortData) → now ≡ book → book.entries ≡ b.front → a.opening ≡ Some book.taker → a.opening ≡ Some thread → a.thread ≡ thread.0 → IsGiven by_number a b → IsPortBook now
    → written_in now.entries ≡ taken_items (state_of a.front) ++ pending_items (state_of now.entries)
told_at_end thread a b book now is list opened opening own given port =
    let same : Some book.taker ≡ Some thread = sym opened ∙ opening in
    let taker : book.taker ≡ thread = cc in
    let whole : now.entries ≡ a.front ++ given.between = ap (λ p. p.entries) is ∙ list ∙ ap (λ s. s.front) given.after in
    let port' : IsPort thread.0 (a.front ++ given.between) = subst (IsPort thread.0) whole (subst (λ (t : ThreadId). IsPort t.0 now.entries) (ap (λ p. p.taker) is ∙ taker) port) in
    let others : AreByOthers by_number thread.0 given.between = subst (λ (t : ℕ). AreByOthers by_number t given.between) own given.others in
    ap written_in whole ∙ taken_then_pending thread.0 a.front given.between others port' ∙ ap (λ l. taken_items (state_of a.front) ++ pending_items (state_of l)) (sym whole)

-- ---- other calls of the taker's own
-- what is no take takes nothing
plain_step : (s : PortState) (e : PortEvent) → IsReached s → takes_items e ≡ false → taken_items (state_after s e) ≡ taken_items s
plain_step s (event.Made capacity life) reached plain = refl
plain_step s (event.Written p item) reached plain = ap (numbered 0) (take-append-le s.taken s.written (item ∷ []) reached.within.taken)
plain_step s event.Full reached plain = refl
plain_step s event.Refused reached plain = refl
plain_step s event.Spent reached plain = refl
plain_step s (event.Took k) reached plain = absurd (cc)
plain_step s (event.Rest k) reached plain = absurd (cc)
plain_step s event.Shut reached plain = refl

-- entries of others, and then one that is no take
taken_plain : (taker : ℕ) (xs ys : List PortEntry) (x : PortEntry) → AreByOthers by_number taker ys → takes_items x.event ≡ false → IsPort taker ((xs ++ ys) ++ x ∷ []) → taken_items (state_of ((xs ++ ys) ++ x ∷ [])) ≡ taken_items (state_of xs)
taken_plain taker xs ys x others plain port =
    let mid = xs ++ ys in
    let steps = AreSteps-before taker unmade mid (x ∷ []) port.steps in
    let seen = reached_by taker unmade xs unmade_reached (AreSteps-before taker unmade xs ys steps) in
    ap taken_items (state_of-push mid x) ∙ plain_step (state_of mid) x.event (reached_by taker unmade mid unmade_reached steps) plain
    ∙ ap taken_items (replayed-append unmade xs ys) ∙ others_by taker (state_of xs) ys others seen (AreSteps-behind taker unmade xs ys steps)

port_at : (thread : ThreadId) (a c : PortSeat) → c.opening ≡ a.opening → a.opening ≡ Some thread → IsAtPort c → IsPort thread.0 c.front
port_at thread a c same opening at = subst (λ o. IsSomeAnd o (λ (t : ThreadId). IsPort t.0 c.front)) (same ∙ opening) at

-- the seat's front went on by entries of others
kept_seen : (a c : PortSeat) (between : List PortEntry) → c.opening ≡ a.opening → c.front ≡ a.front ++ between → AreByOthers by_number a.thread between → IsAtPort c → KeepsTaken a c
kept_seen a c between same front others at = λ thread opening is.
    ap (λ (l : List PortEntry). taken_items (state_of l)) front
    ∙ taken_stays thread.0 a.front between (subst (λ (t : ℕ). AreByOthers by_number t between) is others) (subst (IsPort thread.0) front (port_at thread a c same opening at))

-- and then by its own
kept_more : (a c : PortSeat) (between : List PortEntry) (x : PortEntry) → c.opening ≡ a.opening → c.front ≡ (a.front ++ between) ++ x ∷ [] → AreByOthers by_number a.thread between → takes_items x.event ≡ false → IsAtPort c → KeepsTaken a c
kept_more a c between x same front others plain at = λ thread opening is.
    ap (λ (l : List PortEntry). taken_items (state_of l)) front
    ∙ taken_plain thread.0 a.front between x (subst (λ (t : ℕ). AreByOthers by_number t between) is others) plain (subst (IsPort thread.0) front (port_at thread a c same opening at))

pub kept_taken : (e : Option PortEvent) (clock clock' : Clock) (a c : PortSeat) → HasAnswered e clock clock' a c → IsNoTake e → IsAtPort c → KeepsTaken a c
kept_taken None clock clock' a c answered plain at =
    let after = answered.seen.after in
    kept_seen a c answered.seen.between (ap (λ s. s.opening) after) (ap (λ s. s.front) after) answered.seen.others at
kept_taken (Some e) clock clock' a c answered plain at =
    let after = answered.called.after in
    kept_more a c answered.called.between (entry_now clock answered.before e) (ap (λ s. s.opening) after) (ap (λ s. s.front) after) answered.called.others plain at

-- the same of a call in a turn that was given
pub kept_at_turn : (e : Option PortEvent) (clock clock' : Clock) (b c : PortSeat) → HasAnsweredAtTurn e clock clock' b c → IsNoTake e → IsAtPort c → (a : PortSeat) → IsGiven by_number a b → KeepsTaken a c
kept_at_turn None clock clock' b c answered plain at a given =
    let after : c ≡ at_leisure (at_turn (later a given.between)) = answered.0 ∙ ap (λ (s : PortSeat). at_leisure s) given.after in
    kept_seen a c given.between (ap (λ s. s.opening) after) (ap (λ s. s.front) after) given.others at
kept_at_turn (Some e) clock clock' b c answered plain at a given =
    let left : PortSeat → PortSeat = λ s. record s { front = s.front ++ entry_now clock s.front e ∷ []; own = s.own ++ length s.front ∷ []; turn = false } in
    let after : c ≡ left (at_turn (later a given.between)) = answered.0 ∙ ap left given.after in
    kept_more a c given.between (entry_now clock (a.front ++ given.between) e) (ap (λ s. s.opening) after) (ap (λ s. s.front) after) given.others plain at

-- a write and a closing take nothing
pub write_takes_nothing : (answer : WriteAnswer) (item : ItemData) → IsNoTake (write_entry answer item)
write_takes_nothing (written.Wrote p) item = refl
write_takes_nothing (written.Closed back) item = refl
write_takes_nothing (written.Spent back) item = refl
write_takes_nothing (written.Full back) item = refl
write_takes_nothing (written.NoMemory back) item = tt

pub close_takes_nothing : (answer : CloseAnswer) → IsNoTake (close_entry answer)
close_takes_nothing closed.Shut = refl
close_takes_nothing closed.AlreadyShut = tt
