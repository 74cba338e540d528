-- Items of messages with their envelopes.
use Rattle.std.proofs.Common.{◌≡◌, ℕ, ◌≤◌, true, refl, sym, ap, ◌∙◌, subst}
use Rattle.std.specs.Prelude.{Result, Ok, Err}
use Rattle.ak_message.specs.Message.{MessageData}
use Rattle.ak_message.specs.Fields.{specifier_count}
use Rattle.ak_flatten.specs.Item.{ItemData, message_of}
use Rattle.ak_message.specs.Popped.{unpopped}
use Rattle.ak_flatten.proofs.Surface.{specifiers-unpopped}
use Rattle.ak_turn.specs.declared.clock.Clock.{Clock}
use Rattle.ak_port.specs.declared.port_entry.WriteAnswer.{WriteAnswer}
use Rattle.ak_port.specs.declared.port_entry.WriteAnswer.TheVariants as answer
use Rattle.ak_port.specs.PortCalls.{PortSeat, HasAnswered, IfNoMemory, IsFull, write_entry}
use Rattle.ak_port.specs.PortMachine.{LacksRoom}
use Rattle.ak_messenger.specs.declared.fault.SendFault.{SendFault}
use Rattle.ak_messenger.specs.declared.fault.SendFault.TheVariants as fault
use Rattle.ak_messenger.specs.Asks.{IsWritten}
use Rattle.ak_messenger.specs.declared.envelope.Envelope.{Envelope}
use Rattle.ak_messenger.specs.Sends.{IfReached, back_duty, item_in, post_answer, post_event, write_fault}

-- an item has as many specifiers as its message
pub popped_fits : (n : ℕ) (item : ItemData) (m : MessageData) → message_of item ≡ record (unpopped m) { popped = m.popped } → n ≤ specifier_count m.fields → n ≤ specifier_count (message_of item).fields
popped_fits n item m is fits = subst (λ (x : MessageData). n ≤ specifier_count x.fields) (sym is) (subst (λ (k : ℕ). n ≤ k) (sym (specifiers-unpopped m)) fits)

-- what holds in any case holds where the port gave the answer
pub in_any_case : {T : Type 0} (r : Result T SendFault) (P : Type 0) → P → IfReached r P
in_any_case (Ok x) P holds = holds
in_any_case (Err fault.TooLong) P holds = tt
in_any_case (Err fault.NoMemory) P holds = tt
in_any_case (Err fault.BadPort) P holds = holds
in_any_case (Err fault.Spent) P holds = holds
in_any_case (Err fault.WouldBlock) P holds = holds

-- what holds where a write wants memory holds where its post does
pub wanted_so : (a : WriteAnswer) (P : Type 0) → IfNoMemory a P → post_answer a ≡ Err fault.NoMemory → P
wanted_so (answer.Wrote p) P holds is = absurd (cc)
wanted_so (answer.Closed back) P holds is = absurd (cc)
wanted_so (answer.Spent back) P holds is = absurd (cc)
wanted_so (answer.Full back) P holds is = absurd (cc)
wanted_so (answer.NoMemory back) P holds is = holds

-- what became of the item of an ask
pub written_so : (a : WriteAnswer) (item : ItemData) (c c' : Clock) (s s' : PortSeat) → HasAnswered (write_entry a item) c c' s s' → (IsFull a ≡ true → ⊥) → IfNoMemory a (¬ (LacksRoom s'.front)) → IsWritten item c c' s s' (write_fault a)
written_so (answer.Wrote p) item c c' s s' answered not_full room = (p, answered)
written_so (answer.Closed back) item c c' s s' answered not_full room = answered
written_so (answer.Spent back) item c c' s s' answered not_full room = answered
written_so (answer.Full back) item c c' s s' answered not_full room = absurd (not_full refl)
written_so (answer.NoMemory back) item c c' s s' answered not_full room = record { looked = answered; room = room }

-- the one entry of a post is that of its write
post_entry : (a : WriteAnswer) (e : Envelope) (m : MessageData) → post_event e m (post_answer a) ≡ write_entry a (item_in e (back_duty e.back) m)
post_entry (answer.Wrote p) e m = refl
post_entry (answer.Closed back) e m = refl
post_entry (answer.Spent back) e m = refl
post_entry (answer.Full back) e m = refl
post_entry (answer.NoMemory back) e m = refl

pub posted_entry : (a : WriteAnswer) (item : ItemData) (e : Envelope) (m : MessageData) (r : Result ℕ SendFault) → r ≡ post_answer a → item ≡ item_in e (back_duty e.back) m → post_event e m r ≡ write_entry a item
posted_entry a item e m r is same = ap (post_event e m) is ∙ post_entry a e m ∙ ap (write_entry a) (sym same)
