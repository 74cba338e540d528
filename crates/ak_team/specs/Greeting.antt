-- What main tells the first looper of a team that it launches, and what it enters at the ports of the team.
use Rattle.std.specs.Prelude.{◌≡◌, ◌<◌, ◌↔◌, ◌≤◌, ℕ, suc, false, nat_lt, if◌then◌else◌, List, [], ◌∷◌, ◌++◌, length, map, All, Option, None, Some, Result, IfSome, IsErrOf, codes, slice_get}
use Rattle.ak_base.specs.Code.{code_of}
use Rattle.ak_base.specs.Thread.{main_thread}
use Rattle.ak_message.specs.Message.{MessageData}
use Rattle.ak_message.specs.declared.address.Target.TheVariants as target
use Rattle.ak_flatten.specs.Item.{ItemData}
use Rattle.ak_flatten.specs.Limits.{flat_limit}
use Rattle.ak_flatten.specs.Spelling.{spelling}
use Rattle.ak_flatten.specs.declared.item.Duty.TheVariants as duty
use Rattle.ak_turn.specs.Noted.{Noted}
use Rattle.ak_turn.specs.Seats.{KnowsWhole}
use Rattle.ak_turn.specs.declared.clock.Clock.{Clock}
use Rattle.ak_port.specs.Limits.{life_limit}
use Rattle.ak_port.specs.PortCalls.{HasAnswered, IsAtPort, PortSeat, by_number}
use Rattle.ak_port.specs.declared.port_entry.PortEntry.{PortEntry}
use Rattle.ak_port.specs.declared.port_entry.PortEvent.{PortEvent}
use Rattle.ak_port.specs.declared.port_entry.PortEvent.TheVariants as event
use Rattle.ak_messenger.specs.Sends.{IfReached, item_in, post_event}
use Rattle.ak_messenger.specs.declared.envelope.Envelope.{Envelope}
use Rattle.ak_messenger.specs.declared.fault.SendFault.{SendFault}
use Rattle.ak_messenger.specs.declared.fault.SendFault.TheVariants as fault
use Rattle.ak_action.specs.declared.plan.PlanParts.{PlanParts}
use Rattle.ak_diary.specs.Step.{Step, at_port}
use Rattle.ak_headline.specs.Main.{MayEnterPort}

-- ---- what the first looper is told
-- to its preferred handler, from nobody's team, with nothing owed for it
abbrev pub from_main : Envelope
from_main = record { target = target.Preferred; team = 0; dropped = false; popped = 0; back = None }

abbrev pub greeting_item : MessageData → ItemData
greeting_item m = item_in from_main duty.None m

-- its message, where that fits an item
abbrev pub items_told : MessageData → List ItemData
items_told m = if nat_lt flat_limit (length (spelling m)) then [] else greeting_item m ∷ []

-- its arguments, if there are any
abbrev pub arguments_told : Option MessageData → List ItemData
arguments_told None = []
arguments_told (Some m) = items_told m

-- that it is ready to run
abbrev pub ready_message : MessageData
ready_message = record { what = code_of (codes "_RTR"); fields = []; popped = 0 }

-- the one and then the other, where its team starts
abbrev pub told_first : Option MessageData → List ItemData
told_first arguments = arguments_told arguments ++ greeting_item ready_message ∷ []

-- ---- entries at ports
abbrev pub made_event : ℕ → PortEvent
made_event capacity = event.Made capacity life_limit

-- items that are written one after another, from that position on
abbrev pub written_from : ℕ → List ItemData → List PortEvent
written_from position [] = []
written_from position (item ∷ items) = event.Written position item ∷ written_from (suc position) items

-- such entries at the port of that looper
abbrev pub at_looper : ℕ → List PortEvent → List (ℕ × PortEvent)
at_looper looper events = map (λ (e : PortEvent). (looper, e)) events

-- the ports of a team, each with the capacity of its looper, from that number on
abbrev pub made_from : ℕ → List ℕ → List (ℕ × PortEvent)
made_from looper [] = []
made_from looper (capacity ∷ capacities) = (looper, made_event capacity) ∷ made_from (suc looper) capacities

-- a team starts: its ports are made, in order, and then its first looper is told the arguments and that it is ready to run
abbrev pub start_entries : ℕ → List ℕ → Option MessageData → List (ℕ × PortEvent)
start_entries first capacities arguments = made_from first capacities ++ at_looper first (written_from 0 (told_first arguments))

-- main makes just these entries, in order
abbrev pub EntersEach : List (ℕ × PortEvent) → List Step → Type 0
EntersEach [] steps = steps ≡ []
EntersEach (e ∷ entries) steps = (noted : Noted PortEntry) × (rest : List Step) × (noted.entry.event ≡ e.1) × (EntersEach entries rest) × (steps ≡ at_port e.0 noted ∷ rest)

-- a send that waits for room is answered so: the item is written, or it is refused
abbrev pub AnswersSend : ItemData → PortEvent → Type 0
AnswersSend item (event.Written position written) = written ≡ item
AnswersSend item event.Refused = Unit {0}
AnswersSend item event.Spent = Unit {0}
AnswersSend item _ = ⊥

-- each of these is sent to that looper, by one entry
abbrev pub SendsEach : ℕ → List ItemData → List Step → Type 0
SendsEach looper [] steps = steps ≡ []
SendsEach looper (item ∷ items) steps = (noted : Noted PortEntry) × (rest : List Step) × (AnswersSend item noted.entry.event) × (SendsEach looper items rest) × (steps ≡ at_port looper noted ∷ rest)

-- the capacities of these loopers
abbrev pub capacities_in : List PlanParts → List ℕ
capacities_in plans = map (λ (p : PlanParts). p.capacity) plans

-- the port of the first one holds two items at a time
abbrev pub FirstHoldsTwo : List PlanParts → Type 0
FirstHoldsTwo plans = IfSome (slice_get plans 0) (λ (p : PlanParts). 2 ≤ p.capacity)

-- ---- the ports of a team that is about to start
-- what stands in each: that it is made
abbrev pub made_events : List ℕ → List (List PortEvent)
made_events capacities = map (λ (capacity : ℕ). made_event capacity ∷ []) capacities

-- and in the first one these too
abbrev pub port_events : List ℕ → List PortEvent → List (List PortEvent)
port_events [] written = []
port_events (capacity ∷ capacities) written = (made_event capacity ∷ written) ∷ made_events capacities

abbrev pub events_of : List PortEntry → List PortEvent
events_of entries = map (λ (entry : PortEntry). entry.event) entries

-- entries of main's with these events, each of which it may make by itself
pub record AreMains (events : List PortEvent) (entries : List PortEntry) : Type 0 where
  pub events_are : events_of entries ≡ events
  pub mine : All (λ (entry : PortEntry). entry.by.0 ≡ main_thread) entries
  pub may : All (λ (entry : PortEntry). MayEnterPort entry.event) entries

-- so in port after port
abbrev pub EachMains : List (List PortEvent) → List (List PortEntry) → Type 0
EachMains [] [] = Unit {0}
EachMains (events ∷ more) (entries ∷ ports) = AreMains events entries × EachMains more ports
EachMains _ _ = ⊥

-- main's seat at a port where no other thread has had one: it knows the list, which is that
pub record IsAlone (events : List PortEvent) (seat : PortSeat) : Type 0 where
  pub by_main : seat.thread ≡ main_thread
  pub names_are : seat.names ≡ Some (main_thread ∷ [])
  pub known : KnowsWhole by_number seat
  pub mains : AreMains events seat.front

-- ---- one send
-- it is answered as a post is that waits for room, but for want of memory
pub record HasSent (m : MessageData) (clock clock' : Clock) (seat seat' : PortSeat) : Type 0 where
  pub sent : Result ℕ SendFault
  pub answered : HasAnswered (post_event from_main m sent) clock clock' seat seat'
  pub too_long : IsErrOf sent fault.TooLong ↔ (flat_limit < length (spelling m))
  pub not_blocked : IsErrOf sent fault.WouldBlock → ⊥
  pub not_wanting : IsErrOf sent fault.NoMemory → ⊥
  pub at_port : IfReached sent (IsAtPort seat')
