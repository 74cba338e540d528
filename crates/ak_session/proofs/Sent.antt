-- What was sent at a port, and at the book for it, as steps of the session, by what the call answered.
use Rattle.std.proofs.Common.{◌≡◌, ◌⊎◌, ℕ, List, [], ◌∷◌, ◌++◌, Any, Result, Ok, Err, Option, None, Some, refl, sym, ◌∙◌, subst, inl, inr, ⊎_elim}
use Rattle.std.proofs.lemmas.List.Elements.{Contains-push_cases}
use Rattle.ak_message.specs.declared.address.Address.{Address}
use Rattle.ak_flatten.specs.declared.item.Duty.TheVariants as duty
use Rattle.ak_flatten.specs.Item.{ItemData}
use Rattle.ak_turn.specs.declared.clock.Clock.{Clock}
use Rattle.ak_port.specs.declared.port_entry.PortEvent.{PortEvent}
use Rattle.ak_port.specs.declared.port_entry.PortEvent.TheVariants as event
use Rattle.ak_port.specs.declared.reply_entry.ReplyEntry.{ReplyEntry}
use Rattle.ak_port.specs.declared.reply_entry.ReplyEvent.TheVariants as slot_event
use Rattle.ak_port.specs.PortCalls as ports
use Rattle.ak_port.specs.PortCalls.{PortSeat}
use Rattle.ak_port.specs.Reply.{FillsWith}
use Rattle.ak_port.specs.ReplySeats as books
use Rattle.ak_port.specs.ReplySeats.{HasEnteredBook, ReplySeat}
use Rattle.ak_messenger.specs.Asks.{AskTells, HasAsked, HasClosed, HasConversed, HasGivenUp, HasLackedMemory, IsUntouched}
use Rattle.ak_messenger.specs.Asks as asks
use Rattle.ak_messenger.specs.declared.asking.Reply.{Reply}
use Rattle.ak_messenger.specs.declared.fault.SendFault.{SendFault}
use Rattle.ak_messenger.specs.declared.fault.SendFault.TheVariants as fault
use Rattle.ak_diary.specs.Step.{Step, at_book, at_port, saw_book}
use Rattle.ak_diary.specs.Wants.{AsksInVain, Cancels, Converses, IsRefusedBy, Withdraws}
use Rattle.ak_diary.specs.Wants as wants
use Rattle.ak_looper.specs.Side.{SideDoes, SideGoes, side}
use Rattle.ak_looper.proofs.Surface.{goes_at_book, goes_at_port, goes_nothing, goes_seeing_book, goes_then, looks, noted_in_book, noted_there, stays}
use Rattle.ak_session.specs.Doing.{Answered, AskedSo, EnteredSo, EntersLast, RefusedBy, address_of}

module _ (looper : ℕ) where
  -- ---- at the port
  looked_there : (c c' : Clock) (b : ReplySeat) (p p' : PortSeat) → ports.HasLooked c c' p p' → SideGoes looper [] (side c b p) (side c' b p')
  looked_there c c' b p p' looked = goes_nothing looper c c' b b p p' looked.clocked (stays books.maker_of b b refl) (looks ports.by_number p p' looked.seen)

  enters_last : (c c' : Clock) (b : ReplySeat) (p p' : PortSeat) (e : PortEvent) → ports.HasEntered c c' e p p' → SideDoes looper (EntersLast looper e p'.front) (side c b p) (side c' b p')
  enters_last c c' b p p' e entered =
      let n = noted_there c c' e p p' entered in
      record {
        steps = at_port looper n ∷ [];
        does = record { enters = record { noted = n; event_is = refl; is = refl }; last = entered.front };
        goes = goes_at_port looper c c' e b p p' entered;
      }

  -- a post
  pub posts : (e : Option PortEvent) (c c' : Clock) (b : ReplySeat) (p p' : PortSeat) → ports.HasAnswered e c c' p p' → SideDoes looper (λ steps. EnteredSo looper p'.front steps e) (side c b p) (side c' b p')
  posts None c c' b p p' looked = record { steps = []; does = refl; goes = looked_there c c' b p p' looked }
  posts (Some e) c c' b p p' entered = enters_last c c' b p p' e entered

  -- ---- at the book: a slot is closed
  closes : (n : ℕ) (c c' : Clock) (b b' : ReplySeat) (p : PortSeat) → HasClosed n c c' b b' → SideDoes looper (Cancels n) (side c b p) (side c' b' p)
  closes n c c' b b' p (inl entered) =
      let x = noted_in_book c c' (slot_event.Cancelled n) b b' entered.entered in
      record { steps = at_book x ∷ []; does = inl (record { noted = x; event_is = refl; is = refl }); goes = goes_at_book looper c c' (slot_event.Cancelled n) b b' p entered.entered }
  closes n c c' b b' p (inr found) = record {
    steps = saw_book b'.front ∷ [];
    does = inr (record { seen = b'.front; filled = found.filled; is = refl });
    goes = goes_seeing_book looper (side c b p) (side c' b' p) (goes_nothing looper c c' b b' p p found.looked.clocked (looks books.maker_of b b' found.looked.seen) (stays ports.by_number p p refl));
  }

-- a list of which something holds that does not hold of its last
any_before : {X : Type 0} (P : X → Type 0) (xs : List X) (y : X) → ¬ (P y) → Any P (xs ++ y ∷ []) → Any P xs
any_before P xs y not any =
    ⊎_elim (λ there. (there.0, any.1, there.1, there.2, any.4)) (λ last. absurd (not (subst P (sym last) any.4))) (Contains-push_cases xs y any.1 (any.0, any.2, any.3))

-- taking a slot fills none
filled_before : (n : ℕ) (flat : List ℕ) (c c' : Clock) (b b' : ReplySeat) (entered : books.HasEntered c c' (slot_event.Taken n) b b') → FillsWith n flat b'.front → FillsWith n flat entered.before
filled_before n flat c c' b b' entered fills =
    any_before (λ (x : ReplyEntry). x.event ≡ slot_event.Filled n flat) entered.before (books.entry_now c entered.before (slot_event.Taken n)) (λ same. cc) (subst (FillsWith n flat) entered.front fills)

-- ---- an ask
module _ (looper : ℕ) (item : ItemData) (c c' : Clock) (b b' : ReplySeat) (p p' : PortSeat) where
  abbrev to : Address
  to = address_of looper item

  -- what is done is that
  told_as : (P Q : List Step → Type 0) → ((steps : List Step) → P steps → Q steps) → SideDoes looper P (side c b p) (side c' b' p') → SideDoes looper Q (side c b p) (side c' b' p')
  told_as P Q turned done = record { steps = done.steps; does = turned done.steps done.does; goes = done.goes }

  -- a slot was opened, the item written, and taken what the slot was filled with
  record Conversed (n : ℕ) (flat : List ℕ) (steps : List Step) : Type 0 where
    does : Converses to item flat steps
    slot_is : does.slot ≡ n

  converses : (n : ℕ) (k : Clock) (b1 : ReplySeat) (flat : List ℕ) → HasEnteredBook c k (slot_event.Opened n) b b1 → HasConversed item k c' b1 b' p p' n flat → SideDoes looper (Conversed n flat) (side c b p) (side c' b' p')
  converses n k b1 flat opened h =
      let asked : ItemData = record item { duty = duty.Slot n } in
      let position = h.written.0 in
      let x = noted_in_book c k (slot_event.Opened n) b b1 opened.entered in
      let y = noted_there k h.between (event.Written position asked) p p' h.written.1 in
      let z = noted_in_book h.between c' (slot_event.Taken n) b1 b' h.collected.taken.entered in
      let does : Converses to item flat (at_book x ∷ at_port looper y ∷ at_book z ∷ []) = record {
        slot = n;
        position = position;
        opened = x;
        written = y;
        taken = z;
        opened_is = refl;
        written_is = refl;
        taken_is = refl;
        filled = filled_before n flat h.between c' b1 b' h.collected.taken.entered h.collected.filled;
        is = refl;
      } in
      record {
        steps = at_book x ∷ at_port looper y ∷ at_book z ∷ [];
        does = record { does = does; slot_is = refl };
        goes =
            goes_then looper (at_book x ∷ []) (at_port looper y ∷ at_book z ∷ []) (side c b p) (side k b1 p) (side c' b' p') (goes_at_book looper c k (slot_event.Opened n) b b1 p opened.entered)
            (goes_then looper (at_port looper y ∷ []) (at_book z ∷ []) (side k b1 p) (side h.between b1 p') (side c' b' p') (goes_at_port looper k h.between (event.Written position asked) b1 p p' h.written.1)
            (goes_at_book looper h.between c' (slot_event.Taken n) b1 b' p' h.collected.taken.entered));
      }

  -- the item was not written, by steps of which P holds, and the slot closed
  record Withdrew (e : Option PortEvent) (P : List Step → Type 0) (steps : List Step) : Type 0 where
    does : Withdraws to e steps
    refused_so : P does.refused

  withdraws : (e : Option PortEvent) (P : List Step → Type 0) → ((steps : List Step) → P steps → IsRefusedBy looper e steps) → (n : ℕ) (k between : Clock) (b1 : ReplySeat) → HasEnteredBook c k (slot_event.Opened n) b b1
      → SideDoes looper P (side k b1 p) (side between b1 p') → HasClosed n between c' b1 b' → SideDoes looper (Withdrew e P) (side c b p) (side c' b' p')
  withdraws e P tells n k between b1 opened refused closing =
      let x = noted_in_book c k (slot_event.Opened n) b b1 opened.entered in
      let last = closes looper n between c' b1 b' p' closing in
      let does : Withdraws to e (at_book x ∷ refused.steps ++ last.steps) =
      record { slot = n; opened = x; refused = refused.steps; closing = last.steps; opened_is = refl; refused_is = tells refused.steps refused.does; closes = last.does; is = refl } in
      record {
        steps = at_book x ∷ refused.steps ++ last.steps;
        does = record { does = does; refused_so = refused.does };
        goes =
            goes_then looper (at_book x ∷ []) (refused.steps ++ last.steps) (side c b p) (side k b1 p) (side c' b' p') (goes_at_book looper c k (slot_event.Opened n) b b1 p opened.entered)
            (goes_then looper refused.steps last.steps (side k b1 p) (side between b1 p') (side c' b' p') refused.goes last.goes);
      }

  -- the port gave a reason, in the last entry that is seen there
  withdraws_so : (e : PortEvent) (n : ℕ) (k between : Clock) (b1 : ReplySeat) → HasEnteredBook c k (slot_event.Opened n) b b1 → ports.HasEntered k between e p p' → HasClosed n between c' b1 b' → SideDoes looper (RefusedBy looper item e p'.front) (side c b p) (side c' b' p')
  withdraws_so e n k between b1 opened entered closing =
      let P = EntersLast looper e p'.front in
      told_as (Withdrew (Some e) P) (RefusedBy looper item e p'.front) (λ steps w. record { withdraws = w.does; refused = w.refused_so })
      (withdraws (Some e) P (λ steps last. last.enters) n k between b1 opened (enters_last looper k between b1 p p' e entered) closing)

  untouched : IsUntouched item c c' b b' p p' → SideGoes looper [] (side c b p) (side c' b' p')
  untouched none = goes_nothing looper c c' b b' p p' none.clock (stays books.maker_of b b' none.book) (stays ports.by_number p p' none.port)

  -- memory was wanting
  in_vain_later : (h : HasAsked item c c' b b' p p' (Err fault.NoMemory)) → (HasGivenUp item h.clock c' h.seat b' p p' h.slot fault.NoMemory ⊎ ((flat : List ℕ) × HasConversed item h.clock c' h.seat b' p p' h.slot flat)) → SideDoes looper (AsksInVain to item) (side c b p) (side c' b' p')
  in_vain_later h (inl up) =
      let P : List Step → Type 0 = λ steps. steps ≡ [] in
      told_as (Withdrew None P) (AsksInVain to item) (λ steps w. wants.for_the_item w.does)
      (withdraws None P (λ steps none. none) h.slot h.clock up.between h.seat h.opened (record { steps = []; does = refl; goes = looked_there looper h.clock up.between h.seat p p' up.refused.looked }) up.closed)
  in_vain_later h (inr both) = told_as (Conversed h.slot both.0) (AsksInVain to item) (λ steps done. wants.for_the_reply both.0 done.does) (converses h.slot h.clock h.seat both.0 h.opened both.1)

  in_vain : HasLackedMemory item c c' b b' p p' → SideDoes looper (AsksInVain to item) (side c b p) (side c' b' p')
  in_vain (asks.before_all none) = record { steps = []; does = wants.before_all refl; goes = untouched none }
  in_vain (asks.for_the_slot none) = record {
    steps = [];
    does = wants.before_all refl;
    goes = goes_nothing looper c c' b b' p p' none.looked.looked.clocked (looks books.maker_of b b' none.looked.looked.seen) (stays ports.by_number p p' none.port);
  }
  in_vain (asks.later h) = in_vain_later h h.became

  pub asked : (sent : Result Reply SendFault) → AskTells item c c' b b' p p' sent → SideDoes looper (AskedSo looper item sent p'.front) (side c b p) (side c' b' p')
  asked (Ok reply) h =
      told_as (Conversed h.slot reply.flat) (Answered looper item reply) (λ steps done. record { converses = done.does; slot_is = done.slot_is ∙ sym h.became.0 }) (converses h.slot h.clock h.seat reply.flat h.opened h.became.1)
  asked (Err fault.TooLong) h = record { steps = []; does = refl; goes = untouched h }
  asked (Err fault.NoMemory) h = in_vain h
  asked (Err fault.BadPort) h = withdraws_so event.Refused h.slot h.clock h.became.between h.seat h.opened h.became.refused h.became.closed
  asked (Err fault.Spent) h = withdraws_so event.Spent h.slot h.clock h.became.between h.seat h.opened h.became.refused h.became.closed
  asked (Err fault.WouldBlock) h = absurd h
