-- A send behind one of its doors, and how the session stands then.
use Rattle.std.proofs.Common.{◌≡◌, ℕ, List, Option, Some, Result, option_map, slice_get, get_or, set, sym, subst}
use Rattle.ak_flatten.specs.Item.{ItemData}
use Rattle.ak_roster.specs.declared.head.AppHead.{AppHead}
use Rattle.ak_port.specs.declared.port_entry.PortEntry.{PortEntry}
use Rattle.ak_port.specs.declared.port_entry.PortEvent.{PortEvent}
use Rattle.ak_port.specs.PortCalls as ports
use Rattle.ak_port.specs.ReplySeats.{ReplySeat}
use Rattle.ak_messenger.specs.Asks.{AskTells}
use Rattle.ak_messenger.specs.declared.asking.Reply.{Reply}
use Rattle.ak_messenger.specs.declared.fault.SendFault.{SendFault}
use Rattle.ak_diary.specs.Step.{Step}
use Rattle.ak_looper.specs.declared.door.Door.{Door}
use Rattle.ak_looper.specs.Side.{SideDoes, side}
use Rattle.ak_session.specs.declared.session.Session.{Session}
use Rattle.ak_session.specs.Doing.{AskedSo, EnteredSo}
use Rattle.ak_session.specs.Stands.{GoesOn, Stands, front_at}
use Rattle.ak_session.proofs.DoorStands.{front_there, side_goes_on}
use Rattle.ak_session.proofs.Sent.{asked, posts}

module _ (heads : List AppHead) (start : ℕ) (so_far : List Step) (s s' : Session) (looper place : ℕ) (door door' : ℕ × Door) (was : Stands heads start so_far s) (roster : s'.roster_seat ≡ s.roster_seat)
    (way : option_map (λ (d : ℕ × Door). d.0) (slice_get s.doors.items place) ≡ Some looper) (read : door ≡ get_or s.doors.items place door) (items : s'.doors.items ≡ set s.doors.items place door') (number : door'.0 ≡ door.0)
    (desk : door'.1.desk_seat ≡ door.1.desk_seat) where
  seen : front_at s' looper ≡ door'.1.port_seat.front
  seen = front_there heads start so_far s s' looper place door door' was roster way read items number

  pub asks_on : (item : ItemData) (sent : Result Reply SendFault) → AskTells item s.hands.clock s'.hands.clock s.hands.book_seat s'.hands.book_seat door.1.port_seat door'.1.port_seat sent → GoesOn heads start so_far (AskedSo looper item sent (front_at s' looper)) s'
  asks_on item sent tells =
      subst (λ (front : List PortEntry). GoesOn heads start so_far (AskedSo looper item sent front) s') (sym seen)
      (side_goes_on heads start so_far s s' looper place door door' was roster way read items number (AskedSo looper item sent door'.1.port_seat.front) desk
      (asked looper item s.hands.clock s'.hands.clock s.hands.book_seat s'.hands.book_seat door.1.port_seat door'.1.port_seat sent tells))

  pub posts_on : (e : Option PortEvent) → s'.hands.book_seat ≡ s.hands.book_seat → ports.HasAnswered e s.hands.clock s'.hands.clock door.1.port_seat door'.1.port_seat → GoesOn heads start so_far (λ steps. EnteredSo looper (front_at s' looper) steps e) s'
  posts_on e book answered =
      let P : List PortEntry → List Step → Type 0 = λ front steps. EnteredSo looper front steps e in
      let done : SideDoes looper (P door'.1.port_seat.front) (side s.hands.clock s.hands.book_seat door.1.port_seat) (side s'.hands.clock s'.hands.book_seat door'.1.port_seat) =
      subst (λ (b : ReplySeat). SideDoes looper (P door'.1.port_seat.front) (side s.hands.clock s.hands.book_seat door.1.port_seat) (side s'.hands.clock b door'.1.port_seat)) (sym book)
      (posts looper e s.hands.clock s'.hands.clock s.hands.book_seat door.1.port_seat door'.1.port_seat answered) in
      subst (λ (front : List PortEntry). GoesOn heads start so_far (P front) s') (sym seen)
      (side_goes_on heads start so_far s s' looper place door door' was roster way read items number (P door'.1.port_seat.front) desk done)
