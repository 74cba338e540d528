-- What main adds at one port, by what its calls say of its seat.
use Rattle.ak_turn.specs.Noted.{Noted, note, noted}
use Rattle.ak_port.specs.declared.port_entry.PortEntry.{PortEntry}
use Rattle.ak_headline.specs.Main.{MayEnterPort, owes_no_slot}
use Rattle.std.proofs.Common.{◌≡◌, ℕ, List, [], ◌∷◌, ◌++◌, Option, None, Some, Result, Ok, Err, true, refl, sym, ap, ◌∙◌, subst, append_assoc, append-nil}
use Rattle.std.specs.Prelude.{IfSome}
use Rattle.std.proofs.lemmas.List.Elements.{All-append, All-cons, All-nil}
use Rattle.ak_base.specs.Thread.{main_thread}
use Rattle.ak_message.specs.declared.address.Address.{Address}
use Rattle.ak_message.specs.Message.{MessageData}
use Rattle.ak_turn.specs.declared.clock.Clock.{Clock}
use Rattle.ak_turn.specs.Entries.{StartsWith}
use Rattle.ak_turn.specs.Seats.{SeatData, HasCalled, HasSeen}
use Rattle.ak_turn.proofs.Surface.{called_notes_one, seen_notes_nothing, starts_itself, starts_then_starts}
use Rattle.ak_port.specs.declared.port_entry.CloseAnswer.{CloseAnswer}
use Rattle.ak_port.specs.declared.port_entry.CloseAnswer.TheVariants as closed
use Rattle.ak_port.specs.declared.port_entry.PortEvent.{PortEvent}
use Rattle.ak_port.specs.PortCalls as at_ports
use Rattle.ak_port.specs.PortCalls.{PortSeat, close_entry}
use Rattle.ak_messenger.specs.Sends.{back_duty, post_event}
use Rattle.ak_messenger.specs.declared.envelope.Envelope.{Envelope}
use Rattle.ak_messenger.specs.declared.fault.SendFault.{SendFault}
use Rattle.ak_messenger.specs.declared.fault.SendFault.TheVariants as fault
use Rattle.ak_team.specs.InTime.{AddsAtPort, AreNotesInTime}

-- an entry that main may make there by itself
abbrev pub May : Noted PortEntry → Type 0
May n = MayEnterPort n.entry.event

-- ---- main's seat goes on
module _ {O L : Type 0} (by : L → ℕ) (a b : SeatData O L) (main : a.thread ≡ main_thread) where
  pub seen_none : HasSeen by a b → noted by main_thread b.front ≡ noted by main_thread a.front
  seen_none seen = ap (λ t. noted by t b.front) (sym (ap (λ s. s.thread) seen.after ∙ main)) ∙ seen_notes_nothing by a b seen ∙ ap (λ t. noted by t a.front) main

  pub called_one : (entry : L) (before : List L) → HasCalled by entry a b → b.front ≡ before ++ entry ∷ [] → noted by main_thread b.front ≡ noted by main_thread a.front ++ note before entry ∷ []
  called_one entry before call front =
      ap (λ t. noted by t b.front) (sym (ap (λ s. s.thread) call.after ∙ main)) ∙ called_notes_one by entry before a b call front ∙ ap (λ t. noted by t a.front ++ note before entry ∷ []) main

  pub seen_on : HasSeen by a b → StartsWith b.front a.front
  seen_on seen = (seen.between, ap (λ s. s.front) seen.after)

  pub called_on : (entry : L) → HasCalled by entry a b → StartsWith b.front a.front
  called_on entry call = (call.between ++ entry ∷ [], ap (λ s. s.front) call.after ∙ append_assoc a.front call.between (entry ∷ []))

-- ---- time
pub time_stays : (k l : Clock) → l ≡ k → l.time ≡ k.time
time_stays k l same = ap (λ (c : Clock). c.time) same

-- ---- at one port
notes_then : (time between later : ℕ) (xs ys : List (Noted PortEntry)) → AreNotesInTime time xs between → AreNotesInTime between ys later → AreNotesInTime time (xs ++ ys) later
notes_then time between later [] ys same more = subst (λ (t : ℕ). AreNotesInTime t ys later) (sym same) more
notes_then time between later (n ∷ ns) ys is more = (is.0, notes_then n.entry.stamp between later ns ys is.1 more)

pub adds_nothing : (time : ℕ) (a : List PortEntry) → AddsAtPort time time a a
adds_nothing time a = record { added = []; in_time = refl; on = starts_itself a; may = All-nil May; noted_is = sym (append-nil (noted at_ports.by_number main_thread a)) }

pub adds_then : (time between later : ℕ) (a b c : List PortEntry) → AddsAtPort time between a b → AddsAtPort between later b c → AddsAtPort time later a c
adds_then time between later a b c one two = record {
  added = one.added ++ two.added;
  in_time = notes_then time between later one.added two.added one.in_time two.in_time;
  on = starts_then_starts a b c one.on two.on;
  may = All-append May one.added two.added one.may two.may;
  noted_is = two.noted_is ∙ ap (λ l. l ++ two.added) one.noted_is ∙ append_assoc (noted at_ports.by_number main_thread a) one.added two.added;
}

pub adds_by : (e : Option PortEvent) (k l : Clock) (a b : PortSeat) → a.thread ≡ main_thread → IfSome e MayEnterPort → at_ports.HasAnswered e k l a b → AddsAtPort k.time l.time a.front b.front
adds_by None k l a b main may looked = record {
  added = [];
  in_time = sym (time_stays k l looked.clocked);
  on = seen_on at_ports.by_number a b main looked.seen;
  may = All-nil May;
  noted_is = seen_none at_ports.by_number a b main looked.seen ∙ sym (append-nil (noted at_ports.by_number main_thread a.front));
}
adds_by (Some e) k l a b main may entered =
    let n : Noted PortEntry = note entered.before (at_ports.entry_now k entered.before e) in
    record {
      added = n ∷ [];
      in_time = (refl, sym (ap (λ (c : Clock). c.time) entered.clocked));
      on = called_on at_ports.by_number a b main (at_ports.entry_now k entered.before e) entered.called;
      may = All-cons May n [] may (All-nil May);
      noted_is = called_one at_ports.by_number a b main (at_ports.entry_now k entered.before e) entered.before entered.called entered.front;
    }

-- a post, whose item waits for no slot
owes_none : (back : Option Address) → owes_no_slot (back_duty back) ≡ true
owes_none None = refl
owes_none (Some address) = refl

pub may_post : (e : Envelope) (m : MessageData) (sent : Result ℕ SendFault) → IfSome (post_event e m sent) MayEnterPort
may_post e m (Ok position) = owes_none e.back
may_post e m (Err fault.TooLong) = tt
may_post e m (Err fault.NoMemory) = tt
may_post e m (Err fault.BadPort) = tt
may_post e m (Err fault.Spent) = tt
may_post e m (Err fault.WouldBlock) = tt

pub may_close : (answer : CloseAnswer) → IfSome (close_entry answer) MayEnterPort
may_close closed.Shut = tt
may_close closed.AlreadyShut = tt
