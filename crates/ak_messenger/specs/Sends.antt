-- What a send puts into a port, and what comes of it.
use Rattle.std.specs.Prelude.{ℕ, Option, None, Some, Result, Ok, Err}
use Rattle.ak_message.specs.declared.address.Address.{Address}
use Rattle.ak_message.specs.Message.{MessageData}
use Rattle.ak_flatten.specs.declared.fault.FlattenFault.{FlattenFault}
use Rattle.ak_flatten.specs.declared.fault.FlattenFault.TheVariants as flatten
use Rattle.ak_flatten.specs.declared.item.Duty.{Duty}
use Rattle.ak_flatten.specs.declared.item.Duty.TheVariants as duty
use Rattle.ak_flatten.specs.Item.{ItemData}
use Rattle.ak_flatten.specs.Spelling.{spelling}
use Rattle.ak_port.specs.declared.port_entry.PortEvent.{PortEvent}
use Rattle.ak_port.specs.declared.port_entry.PortEvent.TheVariants as event
use Rattle.ak_port.specs.declared.port_entry.WriteAnswer.{WriteAnswer}
use Rattle.ak_port.specs.declared.port_entry.WriteAnswer.TheVariants as answer
use Rattle.ak_messenger.specs.declared.envelope.Envelope.{Envelope}
use Rattle.ak_messenger.specs.declared.fault.SendFault.{SendFault}
use Rattle.ak_messenger.specs.declared.fault.SendFault.TheVariants as fault

-- why a message has no flat text, as why it is not sent
abbrev pub flatten_fault : FlattenFault → SendFault
flatten_fault flatten.TooLong = fault.TooLong
flatten_fault flatten.NoMemory = fault.NoMemory

-- what is owed to the sender of a post
abbrev pub back_duty : Option Address → Duty
back_duty None = duty.None
back_duty (Some address) = duty.Back address

-- the item of a message with its envelope
abbrev pub item_in : Envelope → Duty → MessageData → ItemData
item_in e owed m = record { target = e.target; team = e.team; dropped = e.dropped; duty = owed; popped = e.popped; flat = spelling m }

-- the one entry of a post at the port, by its answer
abbrev pub post_event : Envelope → MessageData → Result ℕ SendFault → Option PortEvent
post_event e m (Ok position) = Some (event.Written position (item_in e (back_duty e.back) m))
post_event e m (Err fault.TooLong) = None
post_event e m (Err fault.NoMemory) = None
post_event e m (Err fault.BadPort) = Some event.Refused
post_event e m (Err fault.Spent) = Some event.Spent
post_event e m (Err fault.WouldBlock) = Some event.Full

-- what a write answers, as a post answers it
abbrev pub post_answer : WriteAnswer → Result ℕ SendFault
post_answer (answer.Wrote position) = Ok position
post_answer (answer.Closed back) = Err fault.BadPort
post_answer (answer.Spent back) = Err fault.Spent
post_answer (answer.Full back) = Err fault.WouldBlock
post_answer (answer.NoMemory back) = Err fault.NoMemory

-- why a write was refused, if it was
abbrev pub write_fault : WriteAnswer → Option SendFault
write_fault (answer.Wrote position) = None
write_fault (answer.Closed back) = Some fault.BadPort
write_fault (answer.Spent back) = Some fault.Spent
write_fault (answer.Full back) = Some fault.WouldBlock
write_fault (answer.NoMemory back) = Some fault.NoMemory

-- where the port gave the answer
abbrev pub IfReached : {T : Type 0} → Result T SendFault → Type 0 → Type 0
IfReached (Ok x) P = P
IfReached (Err fault.TooLong) P = Unit {0}
IfReached (Err fault.NoMemory) P = Unit {0}
IfReached (Err fault.BadPort) P = P
IfReached (Err fault.Spent) P = P
IfReached (Err fault.WouldBlock) P = P
