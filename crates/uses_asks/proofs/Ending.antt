-- A turn at the desk: where it begins, and what it leaves.
use Rattle.std.proofs.Common.{◌≡◌, ℕ, ◌+◌, List, [], ◌∷◌, ◌++◌, false, Option, Some, Result, Ok, Err, refl, sym, ap, ◌∙◌, subst, inl, inr}
use Rattle.std.specs.Prelude.{IfOk, IsSomeAnd, OnErr, OnOk}
use Rattle.ak_base.specs.Thread.{looper_thread}
use Rattle.ak_base.specs.declared.no_memory.NoMemory.{NoMemory}
use Rattle.ak_base.specs.declared.thread.ThreadId.{ThreadId}
use Rattle.ak_flatten.specs.declared.item.Taken.{Taken}
use Rattle.ak_turn.specs.declared.clock.Clock.{Clock}
use Rattle.ak_turn.specs.Entries.{made_by}
use Rattle.ak_turn.specs.Seats.{HasCalled, HasMade, IsGiven, IsNext, LockId, at_leisure, entered_by}
use Rattle.ak_turn.proofs.Surface.{called_keeps, makes_one, still_made}
use Rattle.ak_port.specs.PortCalls.{CanTake, PortSeat}
use Rattle.ak_port.specs.ReplySeats.{ReplySeat}
use Rattle.ak_turn.specs.Called.{KeepsSeat}
use Rattle.ak_action.specs.declared.state.DeskState.{DeskState}
use Rattle.ak_desk.specs.declared.made.Made.{Made}
use Rattle.ak_desk.specs.Desk.{DeskData, dispatched_entry}
use Rattle.ak_desk.specs.Laws.{ATurnDispatches, DispatchesAreOwn}
use Rattle.ak_desk.specs.Entry.{EntryData}
use Rattle.ak_desk.specs.Machine.{IsHistory, dispatches}
use Rattle.ak_desk.proofs.Surface.{counted_push}
use Rattle.ak_desk.specs.Shared.{DeskSeat, IsAtDesk, by_number}
use Rattle.uses_asks.specs.Serving.{CanServe, DispatchesThere, EndsSo, IsOfLooper, TakesNext}

-- ---- how many messages were dispatched
pub by_law : DispatchesAreOwn → (d : DeskData) (n : ℕ) → IsHistory d.opening d.entries d.state → n ≡ dispatches (made_by by_number (looper_thread d.opening.looper) d.entries) → n ≡ dispatches d.entries
by_law law d n history is = is ∙ sym (law d.opening.looper d.opening d.entries d.state history.replays).0

-- the looper's number by the opening that the book has
pub of_looper : (thread : ThreadId) (seat : DeskSeat) (opening : DeskState) → seat.opening ≡ Some opening → IsOfLooper thread seat → thread.0 ≡ looper_thread opening.looper
of_looper thread seat opening is looper = subst (λ (o : Option DeskState). IsSomeAnd o (λ (x : DeskState). thread.0 ≡ looper_thread x.looper)) is looper

-- how many it dispatched, by the entries that the book has
pub in_step : (n : ℕ) (seat given : DeskSeat) (d : DeskData) → IsGiven by_number seat given → d.entries ≡ given.front → seat.thread ≡ looper_thread d.opening.looper → n ≡ dispatches (made_by by_number seat.thread seat.front) → n ≡ dispatches (made_by by_number (looper_thread d.opening.looper) d.entries)
in_step n seat given d seen list thread is =
    is ∙ ap dispatches (sym (still_made by_number seat given seen)) ∙ ap (λ (l : List EntryData). dispatches (made_by by_number seat.thread l)) (sym list)
    ∙ ap (λ (t : ℕ). dispatches (made_by by_number t d.entries)) thread

-- ---- what it leaves
module _ (clock clock' : Clock) (taken : Taken) (d d' : DeskData) (seat given : DeskSeat) (seen : IsGiven by_number seat given) (list : d.entries ≡ given.front) (thread : seat.thread ≡ clock.thread.0) where
  -- one entry more, by the seat's thread, or none
  pub next_by : (r : Result Made NoMemory) → IfOk r (λ (made : Made). EndsSo clock clock' taken made d d') → OnErr r (d' ≡ d) → IsNext by_number given d'.entries
  next_by (Ok made) h same =
      let entry : EntryData = dispatched_entry d.entries clock taken.position taken.item d.state h.ends.words h.ends.quit in
      inr (entry, h.ends.grown ∙ ap (λ (l : List EntryData). l ++ entry ∷ []) list, sym thread ∙ sym (ap (λ (s : DeskSeat). s.thread) seen.after))
  next_by (Err e) h same = inl (ap (λ (x : DeskData). x.entries) same ∙ list)

  module _ (law : ATurnDispatches) (seat' : DeskSeat) (idle : seat.turn ≡ false) (opening : seat.opening ≡ Some d.opening) (entered : (entry : EntryData) → d'.entries ≡ given.front ++ entry ∷ [] → seat' ≡ at_leisure (entered_by given entry)) where
    both : (made : Made) (h : EndsSo clock clock' taken made d d') → DispatchesThere taken made seat seat' × IsAtDesk seat'
    both made h =
        let there = law clock clock' taken.position taken.item h.asked h.heard made d.opening d.state d'.state d.entries d'.entries seat given seat' h.ends idle thread opening seen list entered in
        (record { from = clock; until = clock'; asked = h.asked; heard = h.heard; there = there.0 }, there.1)

    pub dispatched_by : (r : Result Made NoMemory) → IfOk r (λ (made : Made). EndsSo clock clock' taken made d d') → IfOk r (λ (made : Made). DispatchesThere taken made seat seat')
    dispatched_by (Ok made) h = (both made h).0
    dispatched_by (Err e) h = tt

    pub at_desk_by : (r : Result Made NoMemory) → IfOk r (λ (made : Made). EndsSo clock clock' taken made d d') → OnOk r (IsAtDesk seat')
    at_desk_by (Ok made) h = (both made h).1
    at_desk_by (Err e) h = tt

-- ---- one dispatch more
-- what the thread made goes on by an entry of its own
made_by-called : (entry : EntryData) (seat seat' : DeskSeat) → seat.turn ≡ false → HasCalled by_number entry seat seat' → made_by by_number seat'.thread seat'.front ≡ made_by by_number seat.thread seat.front ++ entry ∷ []
made_by-called entry seat seat' idle called =
    let made = made_by by_number seat.thread seat.front in
    let has : HasMade by_number seat.lock seat.thread made seat = record { of = refl; idle = idle; is = refl; made_so = refl } in
    let more = makes_one by_number seat.lock seat.thread made entry seat seat' has called in
    ap (λ (t : ℕ). made_by by_number t seat'.front) more.is ∙ more.made_so

pub one_more : (taken : Taken) (made : Made) (seat seat' : DeskSeat) → seat.turn ≡ false → DispatchesThere taken made seat seat' → dispatches (made_by by_number seat'.thread seat'.front) ≡ dispatches (made_by by_number seat.thread seat.front) + 1
one_more taken made seat seat' idle h =
    let there = h.there in
    let entry : EntryData = dispatched_entry there.entries h.from taken.position taken.item there.before there.dispatched.words there.dispatched.quit in
    ap dispatches (made_by-called entry seat seat' idle there.called) ∙ counted_push 0 (made_by by_number seat.thread seat.front) entry

-- the seats serve again
pub serves_again : (port desk book : LockId) (thread : ThreadId) (taker taker' : PortSeat) (seat seat' : DeskSeat) (filler filler' : ReplySeat) (taken : Taken) (made : Made)
    → CanServe port desk book thread taker seat filler
    → TakesNext taken taker taker'
    → DispatchesThere taken made seat seat'
    → KeepsSeat taker taker'
    → KeepsSeat filler filler'
    → CanTake thread 1 taker'
    → CanServe port desk book thread taker' seat' filler'
serves_again port desk book thread taker taker' seat seat' filler filler' taken made can took there kept kept' takes =
    let served = called_keeps by_number _ seat seat' there.there.called in
    record {
      taker_of = kept.lock ∙ can.taker_of;
      taker_idle = kept.turn ∙ can.taker_idle;
      taker_thread = kept.thread ∙ can.taker_thread;
      taking = takes;
      seat_of = served.lock ∙ can.seat_of;
      seat_idle = served.turn ∙ can.seat_idle;
      seat_thread = served.thread ∙ can.seat_thread;
      looper = subst (λ (o : Option DeskState). IsSomeAnd o (λ (x : DeskState). thread.0 ≡ looper_thread x.looper)) (sym served.opening) can.looper;
      filler_of = kept'.lock ∙ can.filler_of;
      filler_idle = kept'.turn ∙ can.filler_idle;
      filler_thread = kept'.thread ∙ can.filler_thread;
      in_step = took.rises ∙ ap (λ (n : ℕ). n + 1) can.in_step ∙ sym (one_more taken made seat seat' can.seat_idle there);
    }
