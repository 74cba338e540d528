-- A port stays within its limits.
use Rattle.std.proofs.Common.{◌≡◌, ℕ, ◌+◌, false, List, [], ◌∷◌, ◌++◌, length, refl, arith, length-append}
use Rattle.ak_port.specs.declared.port_entry.PortEntry.{PortEntry}
use Rattle.ak_port.specs.declared.port_entry.PortEvent.{PortEvent}
use Rattle.ak_port.specs.declared.port_entry.PortEvent.TheVariants as event
use Rattle.ak_port.specs.PortLaws.{IsWithin}
use Rattle.ak_port.specs.PortMachine.{PortState, PortStep, AreSteps, IsPort, replayed, state_after, state_of, unmade, IsAllowed, follows_making}

-- a state that steps lead to: it is within its limits, and before it was made nothing was written
pub record IsReached (s : PortState) : Type 0 where
  pub within : IsWithin s
  pub fresh : s.made ≡ false → length s.written ≡ 0

reached_unmade : IsReached unmade
reached_unmade = record { within = record { taken = omega arith; life = omega arith; capacity = omega arith }; fresh = λ _. refl }

reached_after : (taker by : ℕ) (s : PortState) (e : PortEvent) → IsReached s → s.made ≡ follows_making e → IsAllowed taker by s e → IsReached (state_after s e)
reached_after taker by s (event.Made capacity life) reached made allowed =
    let none : length s.written ≡ 0 = reached.fresh made in
    let taken = reached.within.taken in
    record { within = record { taken = taken; life = omega arith; capacity = omega arith }; fresh = λ no. absurd (cc) }
reached_after taker by s (event.Written p item) reached made allowed =
    let longer : length (s.written ++ item ∷ []) ≡ length s.written + 1 = length-append s.written (item ∷ []) in
    let taken = reached.within.taken in
    let below = allowed.1 in
    let room = allowed.2 in
    record { within = record { taken = omega arith; life = omega arith; capacity = omega arith }; fresh = λ no. absurd (cc) }
reached_after taker by s event.Full reached made allowed = reached
reached_after taker by s event.Refused reached made allowed = reached
reached_after taker by s event.Spent reached made allowed = reached
reached_after taker by s (event.Took k) reached made allowed =
    let within = reached.within in
    let some = allowed.3 in
    record { within = record { taken = omega arith; life = within.life; capacity = omega arith }; fresh = reached.fresh }
reached_after taker by s (event.Rest k) reached made allowed =
    record { within = record { taken = omega arith; life = reached.within.life; capacity = omega arith }; fresh = reached.fresh }
reached_after taker by s event.Shut reached made allowed = record { within = record { taken = reached.within.taken; life = reached.within.life; capacity = reached.within.capacity }; fresh = reached.fresh }

pub reached_step : (taker : ℕ) (s : PortState) (x : PortEntry) → IsReached s → PortStep taker s x → IsReached (state_after s x.event)
reached_step taker s x reached step = reached_after taker x.by.0 s x.event reached step.after_making step.allowed

pub reached_by : (taker : ℕ) (s : PortState) (xs : List PortEntry) → IsReached s → AreSteps taker s xs → IsReached (replayed s xs)
reached_by taker s [] reached steps = reached
reached_by taker s (x ∷ xs) reached steps = reached_by taker (state_after s x.event) xs (reached_step taker s x reached steps.0) steps.1

pub reached : (taker : ℕ) (xs : List PortEntry) → IsPort taker xs → IsReached (state_of xs)
reached taker xs port = reached_by taker unmade xs reached_unmade port.steps

pub unmade_reached : IsReached unmade
unmade_reached = reached_unmade

-- the law
pub within_limits : (taker : ℕ) (xs : List PortEntry) → IsPort taker xs → IsWithin (state_of xs)
within_limits taker xs port = (reached taker xs port).within
