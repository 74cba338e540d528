-- What is written, pending and taken, item by item.
use Rattle.std.proofs.Common.{◌≡◌, ℕ, zero, suc, ◌+◌, ◌<◌, ◌≤◌, true, List, [], ◌∷◌, ◌++◌, length, take, drop, refl, sym, ap, ◌∙◌, arith, append_assoc, append-nil}
use Rattle.std.proofs.Math.Seq.{take-add}
use Rattle.std.proofs.lemmas.List.{take_all, drop_all, drop-drop, length-take-le, length-drop, take-append-le, drop-append-le}
use Rattle.ak_flatten.specs.Item.{ItemData}
use Rattle.ak_flatten.specs.declared.item.Taken.{Taken}
use Rattle.ak_port.specs.declared.port_entry.PortEntry.{PortEntry}
use Rattle.ak_port.specs.declared.port_entry.PortEvent.{PortEvent}
use Rattle.ak_port.specs.declared.port_entry.PortEvent.TheVariants as event
use Rattle.ak_port.specs.PortMachine.{PortState, AreSteps, IsPort, IsAllowed, replayed, state_after, state_of, unmade, numbered, taken_items, pending_items, written_item, written_in, handed_out, handed_from, handed_in}
use Rattle.ak_port.proofs.PortLimits.{IsReached, reached_step, unmade_reached}
use Rattle.ak_port.proofs.PortReplays.{AreSteps-behind}

-- ---- numbered items
pub numbered-append : (n : ℕ) (xs ys : List ItemData) → numbered n (xs ++ ys) ≡ numbered n xs ++ numbered (n + length xs) ys
numbered-append n [] ys = ap (λ k. numbered k ys) (omega arith)
numbered-append n (x ∷ xs) ys =
    ap (λ l. record { position = n; item = x } ∷ l)
    (numbered-append (n + 1) xs ys ∙ ap (λ k. numbered (n + 1) xs ++ numbered k ys) (omega arith))

pub length-numbered : (n : ℕ) (xs : List ItemData) → length (numbered n xs) ≡ length xs
length-numbered n [] = refl
length-numbered n (x ∷ xs) = ap suc (length-numbered (n + 1) xs)

pub take-numbered : (k n : ℕ) (xs : List ItemData) → take k (numbered n xs) ≡ numbered n (take k xs)
take-numbered zero n xs = refl
take-numbered (suc k) n [] = refl
take-numbered (suc k) n (x ∷ xs) = ap (λ l. record { position = n; item = x } ∷ l) (take-numbered k (n + 1) xs)

pub drop-numbered : (k n : ℕ) (xs : List ItemData) → drop k (numbered n xs) ≡ numbered (n + k) (drop k xs)
drop-numbered zero n xs = ap (λ j. numbered j xs) (omega arith)
drop-numbered (suc k) n [] = refl
drop-numbered (suc k) n (x ∷ xs) = drop-numbered k (n + 1) xs ∙ ap (λ j. numbered j (drop k xs)) (omega arith)

pub take-drop_join : {A : Type 0} (k : ℕ) (xs : List A) → take k xs ++ drop k xs ≡ xs
take-drop_join zero xs = refl
take-drop_join (suc k) [] = refl
take-drop_join (suc k) (x ∷ xs) = ap (λ l. x ∷ l) (take-drop_join k xs)

-- so many items, and one more
pub handed_more : (first k : ℕ) (xs : List ItemData) → k < length xs → numbered first (take k xs) ++ numbered (first + k) (take 1 (drop k xs)) ≡ numbered first (take (k + 1) xs)
handed_more first k xs lt =
    let front : length (take k xs) ≡ k = length-take-le k xs (omega arith) in
    ap (λ n. numbered first (take k xs) ++ numbered (first + n) (take 1 (drop k xs))) (sym front)
    ∙ sym (numbered-append first (take k xs) (take 1 (drop k xs))) ∙ ap (numbered first) (sym (take-add k 1 xs))

-- what was handed out so far, and one item more
pub handed_on : (out out' out'' : List Taken) (first k position : ℕ) (all left : List ItemData) → out' ≡ out ++ numbered first (take k all) → left ≡ drop k all → position ≡ first + k → k < length all → out'' ≡ out' ++ numbered position (take 1 left)
    → out'' ≡ out ++ numbered first (take (k + 1) all)
handed_on out out' out'' first k position all left so_far behind at there one =
    one ∙ (λ i. so_far i ++ numbered (at i) (take 1 (behind i))) ∙ append_assoc out (numbered first (take k all)) (numbered (first + k) (take 1 (drop k all)))
    ∙ ap (λ l. out ++ l) (handed_more first k all there)

-- ---- one step
pending_step : (taker by : ℕ) (s : PortState) (e : PortEvent) → IsReached s → IsAllowed taker by s e → pending_items s ++ written_item e ≡ handed_out s e ++ pending_items (state_after s e)
pending_step taker by s (event.Made capacity life) reached allowed = append-nil (pending_items s)
pending_step taker by s (event.Written p item) reached allowed =
    let taken = reached.within.taken in
    let on : s.taken + length (drop s.taken s.written) ≡ p = omega (arith, length-drop s.taken s.written, allowed.3) in
    ap (λ k. pending_items s ++ record { position = k; item = item } ∷ []) (sym on)
    ∙ sym (numbered-append s.taken (drop s.taken s.written) (item ∷ []))
    ∙ ap (numbered s.taken) (sym (drop-append-le s.taken s.written (item ∷ []) taken))
pending_step taker by s event.Full reached allowed = append-nil (pending_items s)
pending_step taker by s event.Refused reached allowed = append-nil (pending_items s)
pending_step taker by s event.Spent reached allowed = append-nil (pending_items s)
pending_step taker by s (event.Took k) reached allowed =
    append-nil (pending_items s) ∙ sym (take-drop_join k (pending_items s))
    ∙ ap (λ l. take k (pending_items s) ++ l) (drop-numbered k s.taken (drop s.taken s.written) ∙ ap (numbered (s.taken + k)) (drop-drop k s.taken s.written))
pending_step taker by s (event.Rest k) reached allowed =
    let all : length (pending_items s) ≤ k = omega (arith, length-numbered s.taken (drop s.taken s.written), length-drop s.taken s.written, allowed.3) in
    append-nil (pending_items s) ∙ sym (take_all k (pending_items s) all) ∙ sym (append-nil (take k (pending_items s)))
    ∙ ap (λ l. take k (pending_items s) ++ numbered (length s.written) l) (sym (drop_all (length s.written) s.written (omega arith)))
pending_step taker by s event.Shut reached allowed = append-nil (pending_items s)

-- k items more were taken
pub taken_more : (s : PortState) (k : ℕ) → IsReached s → taken_items s ++ take k (pending_items s) ≡ numbered 0 (take (s.taken + k) s.written)
taken_more s k reached =
    let front : length (take s.taken s.written) ≡ s.taken = length-take-le s.taken s.written reached.within.taken in
    ap (λ l. taken_items s ++ l) (take-numbered k s.taken (drop s.taken s.written) ∙ ap (λ n. numbered n (take k (drop s.taken s.written))) (sym front ∙ omega arith))
    ∙ sym (numbered-append 0 (take s.taken s.written) (take k (drop s.taken s.written)))
    ∙ ap (numbered 0) (sym (take-add s.taken k s.written))

taken_step : (taker by : ℕ) (s : PortState) (e : PortEvent) → IsReached s → IsAllowed taker by s e → taken_items s ++ handed_out s e ≡ taken_items (state_after s e)
taken_step taker by s (event.Made capacity life) reached allowed = append-nil (taken_items s)
taken_step taker by s (event.Written p item) reached allowed =
    append-nil (taken_items s) ∙ ap (numbered 0) (sym (take-append-le s.taken s.written (item ∷ []) reached.within.taken))
taken_step taker by s event.Full reached allowed = append-nil (taken_items s)
taken_step taker by s event.Refused reached allowed = append-nil (taken_items s)
taken_step taker by s event.Spent reached allowed = append-nil (taken_items s)
taken_step taker by s (event.Took k) reached allowed = taken_more s k reached
taken_step taker by s (event.Rest k) reached allowed = taken_more s k reached ∙ ap (λ n. numbered 0 (take n s.written)) (let within = reached.within.taken in let all = allowed.3 in omega arith)
taken_step taker by s event.Shut reached allowed = append-nil (taken_items s)

-- ---- lists
pending_by : (taker : ℕ) (s : PortState) (xs : List PortEntry) → IsReached s → AreSteps taker s xs → pending_items s ++ written_in xs ≡ handed_from s xs ++ pending_items (replayed s xs)
pending_by taker s [] reached steps = append-nil (pending_items s)
pending_by taker s (x ∷ xs) reached steps =
    let after = state_after s x.event in
    sym (append_assoc (pending_items s) (written_item x.event) (written_in xs))
    ∙ ap (λ l. l ++ written_in xs) (pending_step taker x.by.0 s x.event reached steps.0.allowed)
    ∙ append_assoc (handed_out s x.event) (pending_items after) (written_in xs)
    ∙ ap (λ l. handed_out s x.event ++ l) (pending_by taker after xs (reached_step taker s x reached steps.0) steps.1)
    ∙ sym (append_assoc (handed_out s x.event) (handed_from after xs) (pending_items (replayed after xs)))

taken_by : (taker : ℕ) (s : PortState) (xs : List PortEntry) → IsReached s → AreSteps taker s xs → taken_items s ++ handed_from s xs ≡ taken_items (replayed s xs)
taken_by taker s [] reached steps = append-nil (taken_items s)
taken_by taker s (x ∷ xs) reached steps =
    let after = state_after s x.event in
    sym (append_assoc (taken_items s) (handed_out s x.event) (handed_from after xs))
    ∙ ap (λ l. l ++ handed_from after xs) (taken_step taker x.by.0 s x.event reached steps.0.allowed)
    ∙ taken_by taker after xs (reached_step taker s x reached steps.0) steps.1

-- ---- the laws
pub each_once : (taker : ℕ) (xs : List PortEntry) → IsPort taker xs → written_in xs ≡ handed_in xs ++ pending_items (state_of xs)
each_once taker xs port = pending_by taker unmade xs unmade_reached port.steps

pub oldest_first : (taker : ℕ) (xs : List PortEntry) → IsPort taker xs → handed_in xs ≡ taken_items (state_of xs)
oldest_first taker xs port = taken_by taker unmade xs unmade_reached port.steps

-- a shut port is written to no more
shut_step : (taker by : ℕ) (s : PortState) (e : PortEvent) → s.shut ≡ true → IsAllowed taker by s e → ((state_after s e).shut ≡ true) × (written_item e ≡ [])
shut_step taker by s (event.Made capacity life) shut allowed = (shut, refl)
shut_step taker by s (event.Written p item) shut allowed = let open_still = allowed.0 in absurd (cc)
shut_step taker by s event.Full shut allowed = (shut, refl)
shut_step taker by s event.Refused shut allowed = (shut, refl)
shut_step taker by s event.Spent shut allowed = (shut, refl)
shut_step taker by s (event.Took k) shut allowed = (shut, refl)
shut_step taker by s (event.Rest k) shut allowed = (shut, refl)
shut_step taker by s event.Shut shut allowed = (refl, refl)

shut_by : (taker : ℕ) (s : PortState) (xs : List PortEntry) → s.shut ≡ true → AreSteps taker s xs → written_in xs ≡ []
shut_by taker s [] shut steps = refl
shut_by taker s (x ∷ xs) shut steps =
    let step = shut_step taker x.by.0 s x.event shut steps.0.allowed in
    ap (λ l. l ++ written_in xs) step.1 ∙ shut_by taker (state_after s x.event) xs step.0 steps.1

pub nothing_after_shut : (taker : ℕ) (before : List PortEntry) (x : PortEntry) (later : List PortEntry) → x.event ≡ event.Shut → IsPort taker (before ++ x ∷ later) → written_in later ≡ []
nothing_after_shut taker before x later is port =
    let steps = AreSteps-behind taker unmade before (x ∷ later) port.steps in
    shut_by taker (state_after (state_of before) x.event) later (ap (λ e. (state_after (state_of before) e).shut) is) steps.1
