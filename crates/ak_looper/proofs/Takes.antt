-- What a take hands out, and that nothing but the rest is taken of a port that is shut.
use Rattle.std.proofs.Common.{◌≡◌, ℕ, ◌+◌, ◌≤◌, min, true, List, [], ◌∷◌, ◌++◌, length, drop, Option, Some, None, refl, sym, ap, ◌∙◌, subst, arith}
use Rattle.std.specs.Prelude.{IsSomeAnd}
use Rattle.std.proofs.lemmas.Bool.{false≢true}
use Rattle.std.proofs.lemmas.List.{length-drop, length-take-le}
use Rattle.ak_base.specs.declared.thread.ThreadId.{ThreadId}
use Rattle.ak_turn.specs.declared.clock.Clock.{Clock}
use Rattle.ak_turn.proofs.Surface.{same_before}
use Rattle.ak_flatten.specs.declared.item.Taken.{Taken}
use Rattle.ak_port.specs.declared.port_entry.PortEntry.{PortEntry}
use Rattle.ak_port.specs.declared.port_entry.PortEvent.{PortEvent}
use Rattle.ak_port.specs.declared.port_entry.PortEvent.TheVariants as event
use Rattle.ak_port.specs.declared.port_entry.TakeAnswer.{TakeAnswer}
use Rattle.ak_port.specs.declared.port_entry.TakeAnswer.TheVariants as taken
use Rattle.ak_port.specs.PortCalls.{HasEntered, IfTook, IsAtPort, PortSeat, entry_now, take_count, take_event}
use Rattle.ak_port.specs.PortMachine.{IsAllowed, IsPort, PortState, PortStep, handed_out, last_taken, pending_count, pending_items, replayed, state_after, state_of, unmade}
use Rattle.ak_port.proofs.Surface.{AreSteps-before, AreSteps-behind, length-numbered, reached_by, replayed-append, rest_items, state_of-push, take-numbered, took_items, unmade_reached}
use Rattle.ak_port.specs.TakerLaws.{handed_at, handed_by}
use Rattle.ak_turn.specs.Noted.{Noted}
use Rattle.ak_diary.specs.Looper.{LooperFacts}
use Rattle.ak_diary.specs.Step.{Step, at_port}
use Rattle.ak_looper.specs.declared.reach.Reach.{Reach}
use Rattle.ak_looper.specs.Stands.{GoesOn}
use Rattle.ak_looper.specs.Taking.{IsTaking, IsTheRest, TakenSoFar, TakesSo}

-- the port of a seat that is at one
some_and : {A : Type 0} (o : Option A) (P : A → Type 0) → IsSomeAnd o P → (a : A) × P a
some_and None P h = absurd h
some_and (Some a) P h = (a, h)

-- the last step of a port's list
last_step : (taker : ℕ) (before : List PortEntry) (entry : PortEntry) → IsPort taker (before ++ entry ∷ []) → PortStep taker (state_of before) entry
last_step taker before entry port = (AreSteps-behind taker unmade before (entry ∷ []) port.steps).0

handed_so : (taker by : ℕ) (s : PortState) (answer : TakeAnswer) → s.taken ≤ length s.written → IsAllowed taker by s (take_event answer) → last_taken (take_count answer) (state_after s (take_event answer)) ≡ handed_out s (take_event answer)
handed_so taker by s (taken.Took k) within allowed = sym (take-numbered k s.taken (drop s.taken s.written) ∙ took_items s k)
handed_so taker by s (taken.Rest k) within allowed = sym (take-numbered k s.taken (drop s.taken s.written) ∙ rest_items s k allowed.3 within)

pub takes_so : (answer : TakeAnswer) (queue : List Taken) (clock clock' : Clock) (seat seat' : PortSeat) → HasEntered clock clock' (take_event answer) seat seat' → IsAtPort seat' → queue ≡ last_taken (take_count answer) (state_of seat'.front) → TakesSo answer queue clock clock' seat seat'
takes_so answer queue clock clock' seat seat' entered at items =
    let port = some_and seat'.opening (λ (t : ThreadId). IsPort t.0 seat'.front) at in
    let entry : PortEntry = entry_now clock entered.before (take_event answer) in
    let list : IsPort port.0.0 (entered.before ++ entry ∷ []) = subst (IsPort port.0.0) entered.front port.1 in
    let step = last_step port.0.0 entered.before entry list in
    let reached = reached_by port.0.0 unmade entered.before unmade_reached (AreSteps-before port.0.0 unmade entered.before (entry ∷ []) list.steps) in
    record {
      entered = entered;
      items = items ∙ ap (λ l. last_taken (take_count answer) (state_of l)) entered.front ∙ ap (last_taken (take_count answer)) (state_of-push entered.before entry)
          ∙ handed_so port.0.0 clock.thread.0 (state_of entered.before) answer reached.within.taken step.allowed;
    }

-- ---- one item
-- as many are handed out as were taken, of those that are pending
handed_length : (s : PortState) (k : ℕ) → k ≤ pending_count s → length (handed_out s (event.Took k)) ≡ k
handed_length s k within =
    length-take-le k (pending_items s) (subst (λ (n : ℕ). k ≤ n) (sym (length-numbered s.taken (drop s.taken s.written) ∙ length-drop s.taken s.written)) within)

if_one : (taker by : ℕ) (s : PortState) (answer : TakeAnswer) (queue : List Taken) → IsAllowed taker by s (take_event answer) → queue ≡ handed_out s (take_event answer) → IfTook answer (λ k. k ≤ 1) → IfTook answer (λ k. length queue ≡ 1)
if_one taker by s (taken.Took k) queue allowed is most = ap (λ (l : List Taken). length l) is ∙ handed_length s k allowed.3 ∙ omega (arith, allowed.2, most)
if_one taker by s (taken.Rest k) queue allowed is most = tt

if_count : (taker by : ℕ) (s : PortState) (answer : TakeAnswer) → IsAllowed taker by s (take_event answer) → IfTook answer (λ k. k ≤ 1) → IfTook answer (λ k. k ≡ 1)
if_count taker by s (taken.Took k) allowed most = omega (arith, allowed.2, most)
if_count taker by s (taken.Rest k) allowed most = tt

least : (answer : TakeAnswer) (m : ℕ) → IfTook answer (λ k. k ≡ min 1 (k + m)) → IfTook answer (λ k. k ≤ 1)
least (taken.Took k) m is = omega arith
least (taken.Rest k) m is = tt

pub takes_one : (answer : TakeAnswer) (queue : List Taken) (clock clock' : Clock) (seat seat' : PortSeat) → TakesSo answer queue clock clock' seat seat' → IsAtPort seat' → (m : ℕ) → IfTook answer (λ k. k ≡ min 1 (k + m)) → IfTook answer (λ k. length queue ≡ 1)
takes_one answer queue clock clock' seat seat' takes at m most =
    let entered = takes.entered in
    let port = some_and seat'.opening (λ (t : ThreadId). IsPort t.0 seat'.front) at in
    let entry : PortEntry = entry_now clock entered.before (take_event answer) in
    let list : IsPort port.0.0 (entered.before ++ entry ∷ []) = subst (IsPort port.0.0) entered.front port.1 in
    if_one port.0.0 clock.thread.0 (state_of entered.before) answer queue (last_step port.0.0 entered.before entry list).allowed takes.items (least answer m most)

pub counts_one : (answer : TakeAnswer) (queue : List Taken) (clock clock' : Clock) (seat seat' : PortSeat) → TakesSo answer queue clock clock' seat seat' → IsAtPort seat' → (m : ℕ) → IfTook answer (λ k. k ≡ min 1 (k + m)) → IfTook answer (λ k. k ≡ 1)
counts_one answer queue clock clock' seat seat' takes at m most =
    let entered = takes.entered in
    let port = some_and seat'.opening (λ (t : ThreadId). IsPort t.0 seat'.front) at in
    let entry : PortEntry = entry_now clock entered.before (take_event answer) in
    let list : IsPort port.0.0 (entered.before ++ entry ∷ []) = subst (IsPort port.0.0) entered.front port.1 in
    if_count port.0.0 clock.thread.0 (state_of entered.before) answer (last_step port.0.0 entered.before entry list).allowed (least answer m most)

-- ---- a port that is shut stays so
shut_after : (s : PortState) (e : PortEvent) → s.shut ≡ true → (state_after s e).shut ≡ true
shut_after s (event.Made capacity life) shut = shut
shut_after s (event.Written p item) shut = shut
shut_after s event.Full shut = shut
shut_after s event.Spent shut = shut
shut_after s event.Refused shut = shut
shut_after s (event.Took k) shut = shut
shut_after s (event.Rest k) shut = shut
shut_after s event.Shut shut = refl

shut_later : (s : PortState) (xs : List PortEntry) → s.shut ≡ true → (replayed s xs).shut ≡ true
shut_later s [] shut = shut
shut_later s (x ∷ xs) shut = shut_later (state_after s x.event) xs (shut_after s x.event shut)

pub shut_stays : (xs ys : List PortEntry) → (state_of xs).shut ≡ true → (state_of (xs ++ ys)).shut ≡ true
shut_stays xs ys shut = ap (λ s. s.shut) (replayed-append unmade xs ys) ∙ shut_later (state_of xs) ys shut

-- of one that is shut nothing but the rest is taken
rest_if_shut : (taker by : ℕ) (s : PortState) (answer : TakeAnswer) → s.shut ≡ true → IsAllowed taker by s (take_event answer) → IsTheRest answer
rest_if_shut taker by s (taken.Took k) shut allowed = false≢true (sym allowed.1 ∙ shut)
rest_if_shut taker by s (taken.Rest k) shut allowed = tt

pub the_rest : (answer : TakeAnswer) (clock clock' : Clock) (seat seat' : PortSeat) → HasEntered clock clock' (take_event answer) seat seat' → IsAtPort seat' → (state_of seat.front).shut ≡ true → IsTheRest answer
the_rest answer clock clock' seat seat' entered at shut =
    let port = some_and seat'.opening (λ (t : ThreadId). IsPort t.0 seat'.front) at in
    let entry : PortEntry = entry_now clock entered.before (take_event answer) in
    let list : IsPort port.0.0 (entered.before ++ entry ∷ []) = subst (IsPort port.0.0) entered.front port.1 in
    let before : seat.front ++ entered.called.between ≡ entered.before = same_before (seat.front ++ entered.called.between) entered.before entry entry (sym (ap (λ s. s.front) entered.called.after) ∙ entered.front) in
    let found : (state_of entered.before).shut ≡ true = subst (λ l. (state_of l).shut ≡ true) before (shut_stays seat.front entered.called.between shut) in
    rest_if_shut port.0.0 clock.thread.0 (state_of entered.before) answer found (last_step port.0.0 entered.before entry list).allowed

-- ---- as the one step of the looper
pub taking : (l : LooperFacts) (start : ℕ) (so_far : List Step) (answer : TakeAnswer) (queue : List Taken) (n : Noted PortEntry) (r : Reach) → n.entry.event ≡ take_event answer → queue ≡ handed_at n → TakenSoFar r.port_seat
    → GoesOn l start so_far (λ steps. steps ≡ at_port l.number n ∷ []) r → GoesOn l start so_far (IsTaking l so_far answer queue) r
taking l start so_far answer queue n r event_is queue_is sofar goes = record {
  steps = goes.steps;
  does = record {
    noted_one = n;
    event_is = event_is;
    queue_is = queue_is;
    is = goes.does;
    items = sofar.items;
    all = ap handed_by (sym goes.stands.port.noted_is) ∙ sofar.taken;
  };
  stands = goes.stands;
}
