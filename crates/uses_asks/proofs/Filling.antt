-- What a looper's thread has served: the slot is filled with the reply.
use Rattle.std.proofs.Common.{◌≡◌, ℕ, List, refl, sym, subst}
use Rattle.std.specs.Prelude.{Any, Some}
use Rattle.std.proofs.lemmas.List.Quantifiers.{Any-push}
use Rattle.ak_message.specs.Message.{MessageData}
use Rattle.ak_flatten.specs.declared.item.Duty.TheVariants as duty
use Rattle.ak_flatten.specs.declared.item.Taken.{Taken}
use Rattle.ak_flatten.specs.Spelling.{spelling}
use Rattle.ak_turn.specs.declared.clock.Clock.{Clock}
use Rattle.ak_port.specs.declared.reply_entry.ReplyEntry.{ReplyEntry}
use Rattle.ak_port.specs.declared.reply_entry.ReplyEvent.{ReplyEvent}
use Rattle.ak_port.specs.declared.reply_entry.ReplyEvent.TheVariants as entry
use Rattle.ak_port.specs.PortCalls.{IsAtPort, PortSeat}
use Rattle.ak_port.specs.Reply.{FillsWith}
use Rattle.ak_port.specs.ReplySeats.{HasEnteredBook, ReplySeat, entry_now}
use Rattle.ak_desk.specs.declared.made.Made.{Made}
use Rattle.ak_desk.specs.Shared.{DeskSeat}
use Rattle.uses_asks.specs.Serving.{DispatchesThere, HasServed, TakesNext}

-- what a call entered is in its seat's front
pub entered_there : (clock clock' : Clock) (e : ReplyEvent) (seat seat' : ReplySeat) → HasEnteredBook clock clock' e seat seat' → Any (λ (x : ReplyEntry). x.event ≡ e) seat'.front
entered_there clock clock' e seat seat' entered =
    let before = entered.entered.before in
    subst (λ (l : List ReplyEntry). Any (λ (x : ReplyEntry). x.event ≡ e) l) (sym entered.entered.front)
    (Any-push (λ (x : ReplyEntry). x.event ≡ e) before (entry_now clock before e) refl)

pub served_so : (taken : Taken) (slot : ℕ) (reply : MessageData) (flat : List ℕ) (made : Made) (taker taker' : PortSeat) (seat seat' : DeskSeat) (clock clock' : Clock) (filler filler' : ReplySeat)
    → IsAtPort taker'
    → TakesNext taken taker taker'
    → taken.item.duty ≡ duty.Slot slot
    → DispatchesThere taken made seat seat'
    → made.reply ≡ Some reply
    → flat ≡ spelling reply
    → HasEnteredBook clock clock' (entry.Filled slot flat) filler filler'
    → HasServed taken.position slot reply taker' seat seat' filler'
served_so taken slot reply flat made taker taker' seat seat' clock clock' filler filler' at took owes there replies text fills = record {
  item = taken.item;
  made = made;
  at_port = at;
  among = took.among;
  owed = owes;
  dispatched = there;
  replied = replies;
  filled = subst (λ (l : List ℕ). FillsWith slot l filler'.front) text (entered_there clock clock' (entry.Filled slot flat) filler filler' fills);
}
