-- Lists of entries that are replayed: in two parts, and with one entry more.
use Rattle.std.proofs.Common.{◌≡◌, ℕ, ◌<◌, true, List, [], ◌∷◌, ◌++◌, refl, ap, ◌∙◌}
use Rattle.ak_port.specs.declared.port_entry.PortEntry.{PortEntry}
use Rattle.ak_port.specs.declared.port_entry.PortEvent.{PortEvent}
use Rattle.ak_port.specs.declared.port_entry.PortEvent.TheVariants as event
use Rattle.ak_turn.specs.Entries.{last_stamp_of}
use Rattle.ak_port.specs.PortCalls.{stamp_number}
use Rattle.ak_port.specs.PortMachine.{PortState, PortStep, AreSteps, IsPort, replayed, state_after, state_of, unmade}
use Rattle.ak_turn.proofs.Surface.{rise_push}

pub replayed-append : (s : PortState) (xs ys : List PortEntry) → replayed s (xs ++ ys) ≡ replayed (replayed s xs) ys
replayed-append s [] ys = refl
replayed-append s (x ∷ xs) ys = replayed-append (state_after s x.event) xs ys

-- one entry more
pub state_of-push : (xs : List PortEntry) (x : PortEntry) → state_of (xs ++ x ∷ []) ≡ state_after (state_of xs) x.event
state_of-push xs x = replayed-append unmade xs (x ∷ [])

pub AreSteps-append : (taker : ℕ) (s : PortState) (xs ys : List PortEntry) → AreSteps taker s xs → AreSteps taker (replayed s xs) ys → AreSteps taker s (xs ++ ys)
AreSteps-append taker s [] ys first second = second
AreSteps-append taker s (x ∷ xs) ys first second = (first.0, AreSteps-append taker (state_after s x.event) xs ys first.1 second)

-- what follows a beginning are steps from its state
pub AreSteps-behind : (taker : ℕ) (s : PortState) (xs ys : List PortEntry) → AreSteps taker s (xs ++ ys) → AreSteps taker (replayed s xs) ys
AreSteps-behind taker s [] ys steps = steps
AreSteps-behind taker s (x ∷ xs) ys steps = AreSteps-behind taker (state_after s x.event) xs ys steps.1

pub AreSteps-before : (taker : ℕ) (s : PortState) (xs ys : List PortEntry) → AreSteps taker s (xs ++ ys) → AreSteps taker s xs
AreSteps-before taker s [] ys steps = tt
AreSteps-before taker s (x ∷ xs) ys steps = (steps.0, AreSteps-before taker (state_after s x.event) xs ys steps.1)

-- a port that was made stays made
pub made_stays : (s : PortState) (e : PortEvent) → s.made ≡ true → (state_after s e).made ≡ true
made_stays s (event.Made capacity life) made = refl
made_stays s (event.Written p item) made = made
made_stays s event.Full made = made
made_stays s event.Refused made = made
made_stays s event.Spent made = made
made_stays s (event.Took k) made = made
made_stays s (event.Rest k) made = made
made_stays s event.Shut made = made

-- a legal entry more, with a stamp past the last one
pub IsPort-push : (taker : ℕ) (xs : List PortEntry) (x : PortEntry) → IsPort taker xs → PortStep taker (state_of xs) x → last_stamp_of stamp_number xs < x.stamp → IsPort taker (xs ++ x ∷ [])
IsPort-push taker xs x port step past = record {
  steps = AreSteps-append taker unmade xs (x ∷ []) port.steps (step, tt);
  stamps = rise_push stamp_number xs x port.stamps past;
  made = ap (λ s. s.made) (state_of-push xs x) ∙ made_stays (state_of xs) x.event port.made;
}
