-- What the lists hold that two threads have seen, once the one's seat was joined to the other's.
use Rattle.std.proofs.Common.{◌≡◌, ℕ, List, [], ◌∷◌, ◌++◌, Some, refl, sym, ap, ◌∙◌, subst, arith, append_assoc, Contains}
use Rattle.std.proofs.lemmas.List.Elements.{All-contains, Contains-append_right}
use Rattle.ak_turn.specs.declared.clock.Clock.{Clock}
use Rattle.ak_turn.specs.declared.view.Part.{Part}
use Rattle.ak_turn.specs.Entries.{StartsWith}
use Rattle.ak_turn.specs.Rule.{IsKnown}
use Rattle.ak_turn.specs.Seats.{SeatData, KnowsWhole, joined_seat, part_of}
use Rattle.ak_flatten.specs.declared.item.Taken.{Taken}
use Rattle.ak_flatten.specs.Item.{ItemData}
use Rattle.ak_message.specs.Message.{MessageData}
use Rattle.ak_port.specs.declared.port_entry.PortEntry.{PortEntry}
use Rattle.ak_port.specs.declared.port_entry.PortEvent.{PortEvent}
use Rattle.ak_port.specs.declared.reply_entry.ReplyEntry.{ReplyEntry}
use Rattle.ak_port.specs.PortCalls.{HasEntered, PortSeat, entry_now}
use Rattle.ak_port.specs.PortMachine.{IsPort}
use Rattle.ak_port.specs.Reply.{IsLegal}
use Rattle.ak_port.specs.ReplySeats.{ReplySeat}
use Rattle.ak_messenger.specs.declared.asking.Reply.{Reply}
use Rattle.ak_action.specs.declared.state.DeskState.{DeskState}
use Rattle.ak_desk.specs.declared.made.Made.{Made}
use Rattle.ak_desk.specs.Desk.{DeskData, dispatched_entry}
use Rattle.ak_desk.specs.Entry.{EntryData}
use Rattle.ak_desk.specs.Machine.{IsHistory}
use Rattle.ak_desk.specs.Shared.{DeskSeat}
use Rattle.uses_asks.specs.Laws.{AnAskHasOneReply, EndsInOneReply, HasAskedOf, HasDispatchOf, OneItemAlone, with_slot}
use Rattle.uses_asks.specs.Serving.{DispatchesThere, HasServed}

-- ---- two seats, of which the one was joined to the other, and what the list is then
module _ {O L : Type 0} (by : L → ℕ) (seat other both given : SeatData O L) (entries : List L) (joined : both ≡ joined_seat seat other) (list : entries ≡ given.front) where
  pub own_begins : (between : List L) → given.front ≡ both.front ++ between → StartsWith entries seat.front
  own_begins between after = (between, list ∙ after ∙ ap (λ (s : SeatData O L). s.front ++ between) joined)

  pub other_begins : given.joined ≡ both.joined → KnowsWhole by given → StartsWith entries other.front
  other_begins after knows =
      let part : Part L = part_of other in
      let parts : given.joined ≡ seat.joined ++ part ∷ other.joined = after ∙ ap (λ (s : SeatData O L). s.joined) joined in
      let there : Contains given.joined part = subst (λ (l : List (Part L)). Contains l part) (sym parts) (Contains-append_right seat.joined (part ∷ other.joined) part (0, omega arith, refl)) in
      let known : IsKnown by given.front part = All-contains (IsKnown by given.front) given.joined part knows.joined there in
      (known.begins.0, list ∙ known.begins.1)

-- a list that goes on from what a seat has seen goes on from what it had seen before a call of its own
called_begins : (clock clock' : Clock) (e : PortEvent) (seat seat' : PortSeat) (whole : List PortEntry) → HasEntered clock clock' e seat seat' → StartsWith whole seat'.front → StartsWith whole seat.front
called_begins clock clock' e seat seat' whole entered starts =
    let called = entered.called in
    let x : PortEntry = entry_now clock entered.before e in (
      called.between ++ (x ∷ starts.0),
      starts.1 ∙ ap (λ (s : PortSeat). s.front ++ starts.0) called.after ∙ append_assoc (seat.front ++ called.between) (x ∷ []) starts.0
          ∙ append_assoc seat.front called.between (x ∷ starts.0),
    )

-- the desk's list has what was dispatched there
dispatch_of : (d : DeskData) (taken : Taken) (made : Made) (seat seat' : DeskSeat) (h : DispatchesThere taken made seat seat') → StartsWith d.entries seat'.front → seat'.opening ≡ Some d.opening → HasDispatchOf d taken.position taken.item h.there.before h.there.dispatched.words
dispatch_of d taken made seat seat' h starts opening =
    let there = h.there in
    let entry : EntryData = dispatched_entry there.entries h.from taken.position taken.item there.before there.dispatched.words there.dispatched.quit in
    let openings : Some there.opening ≡ Some d.opening = sym there.opening_is ∙ opening in
    let same : there.opening ≡ d.opening = cc openings in
    record {
      earlier = there.entries;
      entry = entry;
      later = starts.0;
      entries_are = starts.1 ∙ ap (λ (l : List EntryData). l ++ starts.0) there.dispatched.grown ∙ append_assoc there.entries (entry ∷ []) starts.0;
      history = subst (λ (o : DeskState). IsHistory o there.entries there.before) same there.dispatched.history;
      quit = there.dispatched.quit;
      event_is = refl;
      item_is = refl;
    }

-- of two threads at one port, one book and one desk, by the lists as they are after both
pub ends_in_one : AnAskHasOneReply → OneItemAlone
    → (taker : ℕ) (port : List PortEntry) (book : List ReplyEntry) (desk : DeskData) (item : ItemData) (reply : Reply) (s t : PortSeat) (b f : ReplySeat) (d d' : DeskSeat) (position slot : ℕ) (sent : MessageData)
    → IsPort taker port
    → IsLegal book
    → HasAskedOf item reply s b
    → HasServed position slot sent t d d' f
    → slot ≡ reply.slot
    → StartsWith port s.front
    → StartsWith book b.front
    → StartsWith port t.front
    → StartsWith book f.front
    → StartsWith desk.entries d'.front
    → d'.opening ≡ Some desk.opening
    → EndsInOneReply port book desk item reply position sent
ends_in_one law alone taker port book desk item reply s t b f d d' position slot sent is_port legal asked served same s_port b_book t_port f_book d_desk opening =
    let h = subst (λ (n : ℕ). HasServed position n sent t d d' f) same served in
    let told = law taker port book item reply asked.from asked.until asked.book b asked.port s position sent t d d' f is_port legal asked.tells s_port b_book h t_port f_book in
    let taken : Taken = record { position = position; item = h.item } in
    let wanted : Taken = record { position = told.0.place; item = with_slot item reply.slot } in
    let begins = called_begins _ _ _ asked.port s port asked.tells.became.1.written.1 s_port in
    record {
      served = h.item;
      before = h.dispatched.there.before;
      words = h.dispatched.there.dispatched.words;
      one = told.0;
      own = ap (λ (x : Taken). x.item) (alone taker port asked.port.front taken wanted is_port begins asked.one told.0.answered told.0.asked);
      there = dispatch_of desk taken h.made d d' h.dispatched d_desk opening;
      desks = told.1;
    }
