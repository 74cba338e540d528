-- What a thread wrote, as its seat and as others know it.
use Rattle.std.proofs.Common.{◌≡◌, ℕ, List, [], ◌∷◌, ◌++◌, map, refl, sym, ap, ◌∙◌, append_assoc}
use Rattle.std.proofs.lemmas.List.{map-append}
use Rattle.ak_flatten.specs.Item.{ItemData}
use Rattle.ak_flatten.specs.declared.item.Taken.{Taken}
use Rattle.ak_turn.specs.declared.clock.Clock.{Clock}
use Rattle.ak_turn.specs.Entries.{made_by}
use Rattle.ak_turn.specs.Seats.{LockId, IsGiven, KnowsWhole, joined_seat}
use Rattle.ak_turn.proofs.Surface.{makes_one, knows_still, knows_other, knows_whole}
use Rattle.ak_port.specs.declared.port_entry.PortEntry.{PortEntry}
use Rattle.ak_port.specs.declared.port_entry.PortEvent.TheVariants as event
use Rattle.ak_base.specs.declared.thread.ThreadId.{ThreadId}
use Rattle.ak_port.specs.declared.port_entry.TakeAnswer.{TakeAnswer}
use Rattle.ak_port.specs.PortCalls.{PortSeat, by_number, entry_now, HasEntered, IsAtPort, take_count, take_event}
use Rattle.ak_turn.specs.Called.{KeepsSeat}
use Rattle.ak_port.specs.PortMachine.{last_taken, state_of, written_in, written_item}
use Rattle.ak_port.specs.PortWriters.{teams_in, HasSent, HasTaken, KnowsSent}
use Rattle.ak_port.proofs.PortTaken.{takes_more}

written_in-append : (xs ys : List PortEntry) → written_in (xs ++ ys) ≡ written_in xs ++ written_in ys
written_in-append [] ys = refl
written_in-append (x ∷ xs) ys = ap (λ l. written_item x.event ++ l) (written_in-append xs ys) ∙ sym (append_assoc (written_item x.event) (written_in xs) (written_in ys))

teams_in-append : (xs ys : List PortEntry) → teams_in (xs ++ ys) ≡ teams_in xs ++ teams_in ys
teams_in-append xs ys = ap (map (λ (taken : Taken). taken.item.team)) (written_in-append xs ys) ∙ map-append (λ (taken : Taken). taken.item.team) (written_in xs) (written_in ys)

-- one item more
pub sends_one : (lock : LockId) (thread : ℕ) (sent : List ℕ) (p : ℕ) (item : ItemData) (k l : Clock) (old new : PortSeat) → HasSent lock thread sent old → HasEntered k l (event.Written p item) old new → HasSent lock thread (sent ++ item.team ∷ []) new
sends_one lock thread sent p item k l old new has entered =
    let x = entry_now k entered.before (event.Written p item) in
    record {
      made = has.made ++ x ∷ [];
      has = makes_one by_number lock thread has.made x old new has.has entered.called;
      sent_so = teams_in-append has.made (x ∷ []) ∙ ap (λ l. l ++ item.team ∷ []) has.sent_so;
    }

-- ---- what was sent is known to the seat that another was joined to
pub sent_known_still : (thread : ℕ) (sent : List ℕ) (old other new : PortSeat) → KnowsSent thread sent old → new ≡ joined_seat old other → KnowsSent thread sent new
sent_known_still thread sent old other new knows after = record { made = knows.made; knows = knows_still by_number thread knows.made old other new knows.knows after; sent_so = knows.sent_so }

pub sent_known_other : (lock : LockId) (thread : ℕ) (sent : List ℕ) (old other new : PortSeat) → HasSent lock thread sent other → new ≡ joined_seat old other → KnowsSent thread sent new
sent_known_other lock thread sent old other new has after = record { made = has.made; knows = knows_other by_number lock thread has.made old other new has.has after; sent_so = has.sent_so }

-- and in the whole list that thread sent just that
pub sent_known_whole : (thread : ℕ) (sent : List ℕ) (old new : PortSeat) → KnowsSent thread sent old → IsGiven by_number old new → KnowsWhole by_number new → teams_in (made_by by_number thread new.front) ≡ sent
sent_known_whole thread sent old new knows given whole = ap teams_in (knows_whole by_number thread knows.made old new knows.knows given whole) ∙ knows.sent_so

-- ---- a taker that takes on
pub takes_on : (lock : LockId) (thread : ThreadId) (items items' : List Taken) (answer : TakeAnswer) (k l : Clock) (a c : PortSeat) → HasTaken lock thread items a → HasEntered k l (take_event answer) a c → KeepsSeat a c → IsAtPort c
    → items' ≡ items ++ last_taken (take_count answer) (state_of c.front) → HasTaken lock thread items' c
takes_on lock thread items items' answer k l a c has entered keeps at more = record {
  of = keeps.lock ∙ has.of;
  idle = keeps.turn ∙ has.idle;
  is = keeps.thread ∙ has.is;
  opening = keeps.opening ∙ has.opening;
  taken = more ∙ ap (λ t. t ++ last_taken (take_count answer) (state_of c.front)) has.taken ∙ sym (takes_more thread k l answer a c entered has.opening has.is at);
}
