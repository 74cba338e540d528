-- What was sent at a port, and at the book for it, as steps of the thread, by what the call answered.
use Rattle.std.proofs.Common.{◌≡◌, ◌⊎◌, ◌↔◌, ◌<◌, ℕ, Bool, true, false, List, [], ◌∷◌, ◌++◌, length, Any, IfOk, IsErrOf, Result, Ok, Err, Option, None, Some, refl, sym, subst, inl, inr, ⊎_elim}
use Rattle.std.proofs.lemmas.List.Elements.{Contains-push_cases}
use Rattle.ak_message.specs.declared.address.Address.{Address}
use Rattle.ak_message.specs.Message.{MessageData}
use Rattle.ak_flatten.specs.declared.item.Duty.{Duty}
use Rattle.ak_flatten.specs.declared.item.Duty.TheVariants as duty
use Rattle.ak_flatten.specs.Item.{ItemData, spelled}
use Rattle.ak_flatten.specs.Limits.{flat_limit}
use Rattle.ak_flatten.specs.Spelling.{spelling}
use Rattle.ak_turn.specs.declared.clock.Clock.{Clock}
use Rattle.ak_port.specs.declared.port_entry.CloseAnswer.{CloseAnswer}
use Rattle.ak_port.specs.declared.port_entry.CloseAnswer.TheVariants as closed
use Rattle.ak_port.specs.declared.port_entry.PortEvent.{PortEvent}
use Rattle.ak_port.specs.declared.port_entry.PortEvent.TheVariants as event
use Rattle.ak_port.specs.declared.port_entry.WriteAnswer.{WriteAnswer}
use Rattle.ak_port.specs.declared.port_entry.WriteAnswer.TheVariants as written
use Rattle.ak_port.specs.declared.reply_entry.FillAnswer.{FillAnswer}
use Rattle.ak_port.specs.declared.reply_entry.FillAnswer.TheVariants as filling
use Rattle.ak_port.specs.declared.reply_entry.ReplyEntry.{ReplyEntry}
use Rattle.ak_port.specs.declared.reply_entry.ReplyEvent.TheVariants as slot_event
use Rattle.ak_port.specs.PortCalls as ports
use Rattle.ak_port.specs.PortCalls.{IsFull, PortSeat, close_entry, write_entry}
use Rattle.ak_port.specs.PortMachine.{state_of}
use Rattle.ak_port.specs.Reply.{FillsWith}
use Rattle.ak_port.specs.ReplySeats as books
use Rattle.ak_port.specs.ReplySeats.{HasEnteredBook, HasFoundSettled, ReplySeat}
use Rattle.ak_messenger.specs.Asks.{AskTells, HasAsked, HasClosed, HasConversed, HasGivenUp, HasLackedMemory, IsUntouched}
use Rattle.ak_messenger.specs.Asks as asks
use Rattle.ak_messenger.specs.Sends.{back_duty, item_in, post_event}
use Rattle.ak_messenger.specs.declared.asking.Reply.{Reply}
use Rattle.ak_messenger.specs.declared.envelope.Envelope.{Envelope}
use Rattle.ak_messenger.specs.declared.fault.SendFault.{SendFault}
use Rattle.ak_messenger.specs.declared.fault.SendFault.TheVariants as fault
use Rattle.ak_action.specs.declared.answer.Answer.{Answer}
use Rattle.ak_diary.specs.Step.{Step, at_book, at_port, saw_book, saw_port, lacked}
use Rattle.ak_diary.specs.Turns.{Fills, IsPosted, PostsBack, Shuts}
use Rattle.ak_diary.specs.Turns as turns
use Rattle.ak_diary.specs.Wants.{AsksFor, AsksInVain, AsksSo, Cancels, Converses, EntersPort, ForwardsSo, IsRefusedBy, IsTooLong, PostsAs, PostsSo, Withdraws, owed_to, sent_item}
use Rattle.ak_diary.specs.Wants as wants
use Rattle.ak_looper.specs.Heard.{RepliedSo, heard_ask, heard_post, heard_write, is_posted}
use Rattle.ak_looper.specs.Side.{SideDoes, SideGoes, side}
use Rattle.ak_looper.proofs.Sides.{does_as, goes_at_book, goes_at_port, goes_lacking, goes_nothing, goes_seeing_book, goes_seeing_port, goes_then, looks, noted_in_book, noted_there, stays}

-- ---- at the port
module _ (looper : ℕ) (clock clock' : Clock) (book : ReplySeat) (port port' : PortSeat) where
  pub enters_port : (e : PortEvent) → ports.HasEntered clock clock' e port port' → SideDoes looper (EntersPort looper e) (side clock book port) (side clock' book port')
  enters_port e entered =
      let n = noted_there clock clock' e port port' entered in
      record { steps = at_port looper n ∷ []; does = record { noted = n; event_is = refl; is = refl }; goes = goes_at_port looper clock clock' e book port port' entered }

  -- it made none there
  pub looked_there : ports.HasLooked clock clock' port port' → SideGoes looper [] (side clock book port) (side clock' book port')
  looked_there looked = goes_nothing looper clock clock' book book port port' looked.clocked (stays books.maker_of book book refl) (looks ports.by_number port port' looked.seen)

  none_there : (P : List Step → Type 0) → P [] → ports.HasLooked clock clock' port port' → SideDoes looper P (side clock book port) (side clock' book port')
  none_there P holds looked = record { steps = []; does = holds; goes = looked_there looked }

  -- ---- what is sent on
  forwards : (item : ItemData) (answer : WriteAnswer) → (IsFull answer ≡ true → ⊥) → ports.HasAnswered (write_entry answer item) clock clock' port port' → SideDoes looper (ForwardsSo looper item (heard_write answer)) (side clock book port) (side clock' book port')
  forwards item (written.Wrote position) room answered = enters_port (event.Written position item) answered
  forwards item (written.Closed back) room answered = enters_port event.Refused answered
  forwards item (written.Spent back) room answered = enters_port event.Spent answered
  forwards item (written.Full back) room answered = absurd (room refl)
  forwards item (written.NoMemory back) room answered = none_there (λ steps. steps ≡ []) refl answered

  pub forwards_so : (item : ItemData) (answer : WriteAnswer) (a : Answer) → a ≡ heard_write answer → (IsFull answer ≡ true → ⊥) → ports.HasAnswered (write_entry answer item) clock clock' port port' → SideDoes looper (ForwardsSo looper item a) (side clock book port) (side clock' book port')
  forwards_so item answer a heard room answered =
      subst (λ (x : Answer). SideDoes looper (ForwardsSo looper item x) (side clock book port) (side clock' book port')) (sym heard) (forwards item answer room answered)

  -- ---- a reply that is posted back
  posts_back : (item : ItemData) (e : PortEvent) → IsPosted item e → ports.HasEntered clock clock' e port port' → SideDoes looper (PostsBack looper item) (side clock book port) (side clock' book port')
  posts_back item e may entered =
      does_as looper (EntersPort looper e) (PostsBack looper item) (side clock book port) (side clock' book port') (λ steps enters. record { what = e; may = may; enters = enters }) (enters_port e entered)

  replies : (item : ItemData) (answer : WriteAnswer) → ports.HasAnswered (write_entry answer item) clock clock' port port' → SideDoes looper (RepliedSo looper item (is_posted answer)) (side clock book port) (side clock' book port')
  replies item (written.Wrote position) answered = posts_back item (event.Written position item) (turns.written position) answered
  replies item (written.Closed back) answered = posts_back item event.Refused turns.refused answered
  replies item (written.Spent back) answered = posts_back item event.Spent turns.spent answered
  replies item (written.Full back) answered = posts_back item event.Full turns.full answered
  replies item (written.NoMemory back) answered = record { steps = lacked ∷ []; does = refl; goes = goes_lacking looper (side clock book port) (side clock' book port') (looked_there answered) }

  pub replies_so : (item : ItemData) (answer : WriteAnswer) (posted : Bool) → posted ≡ is_posted answer → ports.HasAnswered (write_entry answer item) clock clock' port port' → SideDoes looper (RepliedSo looper item posted) (side clock book port) (side clock' book port')
  replies_so item answer posted heard answered =
      subst (λ (x : Bool). SideDoes looper (RepliedSo looper item x) (side clock book port) (side clock' book port')) (sym heard) (replies item answer answered)

  -- ---- a port that is shut
  pub shuts : (answer : CloseAnswer) → (state_of port'.front).shut ≡ true → ports.HasAnswered (close_entry answer) clock clock' port port' → SideDoes looper (Shuts looper) (side clock book port) (side clock' book port')
  shuts closed.Shut shut answered =
      let n = noted_there clock clock' event.Shut port port' answered in
      record { steps = at_port looper n ∷ []; does = inl (record { noted = n; event_is = refl; is = refl }); goes = goes_at_port looper clock clock' event.Shut book port port' answered }
  shuts closed.AlreadyShut shut answered = record {
    steps = saw_port looper port'.front ∷ [];
    does = inr (record { seen = port'.front; shut = shut; is = refl });
    goes = goes_seeing_port looper (side clock book port) (side clock' book port') (looked_there answered);
  }

-- ---- a post
owed_same : (back : Option Address) → back_duty back ≡ owed_to back
owed_same None = refl
owed_same (Some address) = refl

-- what a message that is sent has on it
abbrev pub sent_with : ℕ → Address → Option Address → Envelope
sent_with team to back = record { target = to.target; team = team; dropped = false; popped = 0; back = back }

module _ (to : Address) (m : MessageData) (clock clock' : Clock) (book : ReplySeat) (port port' : PortSeat) where
  posts_as : (e : PortEvent) → ¬ (IsTooLong m) → ports.HasEntered clock clock' e port port' → SideDoes to.looper (PostsAs to m e) (side clock book port) (side clock' book port')
  posts_as e fits entered =
      does_as to.looper (EntersPort to.looper e) (PostsAs to m e) (side clock book port) (side clock' book port') (λ steps enters. record { fits = fits; enters = enters }) (enters_port to.looper clock clock' book port port' e entered)

  posts_by : (e : Envelope) (sent : Result ℕ SendFault) → (IsErrOf sent fault.TooLong ↔ (flat_limit < length (spelling m))) → ports.HasAnswered (post_event e m sent) clock clock' port port'
      → SideDoes to.looper (PostsSo to m (item_in e (back_duty e.back) m) (heard_post sent)) (side clock book port) (side clock' book port')
  posts_by e (Ok position) long answered = posts_as (event.Written position (item_in e (back_duty e.back) m)) (λ over. let no = long.1 over in cc) answered
  posts_by e (Err fault.TooLong) long answered = none_there to.looper clock clock' book port port' (λ steps. IsTooLong m × (steps ≡ [])) (long.0 refl, refl) answered
  posts_by e (Err fault.NoMemory) long answered = none_there to.looper clock clock' book port port' (λ steps. steps ≡ []) refl answered
  posts_by e (Err fault.BadPort) long answered = posts_as event.Refused (λ over. let no = long.1 over in cc) answered
  posts_by e (Err fault.Spent) long answered = posts_as event.Spent (λ over. let no = long.1 over in cc) answered
  posts_by e (Err fault.WouldBlock) long answered = posts_as event.Full (λ over. let no = long.1 over in cc) answered

  pub posts : (team : ℕ) (back : Option Address) (e : Envelope) (sent : Result ℕ SendFault) (a : Answer) → e ≡ sent_with team to back → a ≡ heard_post sent → (IsErrOf sent fault.TooLong ↔ (flat_limit < length (spelling m)))
      → ports.HasAnswered (post_event e m sent) clock clock' port port' → SideDoes to.looper (PostsSo to m (sent_item team to (owed_to back) m) a) (side clock book port) (side clock' book port')
  posts team back e sent a with_it heard long answered =
      subst (λ (x : Answer). SideDoes to.looper (PostsSo to m (sent_item team to (owed_to back) m) x) (side clock book port) (side clock' book port')) (sym heard)
      (subst (λ (owed : Duty). SideDoes to.looper (PostsSo to m (sent_item team to owed m) (heard_post sent)) (side clock book port) (side clock' book port')) (owed_same back)
      (posts_by (sent_with team to back) sent long (subst (λ (x : Envelope). ports.HasAnswered (post_event x m sent) clock clock' port port') with_it answered)))

-- ---- at the book
-- a list of which something holds that does not hold of its last
any_before : {X : Type 0} (P : X → Type 0) (xs : List X) (y : X) → ¬ (P y) → Any P (xs ++ y ∷ []) → Any P xs
any_before P xs y not any =
    ⊎_elim (λ there. (there.0, any.1, there.1, there.2, any.4)) (λ last. absurd (not (subst P (sym last) any.4))) (Contains-push_cases xs y any.1 (any.0, any.2, any.3))

-- taking a slot fills none
filled_before : (n : ℕ) (flat : List ℕ) (clock clock' : Clock) (book book' : ReplySeat) (entered : books.HasEntered clock clock' (slot_event.Taken n) book book') → FillsWith n flat book'.front → FillsWith n flat entered.before
filled_before n flat clock clock' book book' entered fills =
    any_before (λ (x : ReplyEntry). x.event ≡ slot_event.Filled n flat) entered.before (books.entry_now clock entered.before (slot_event.Taken n)) (λ same. cc)
    (subst (FillsWith n flat) entered.front fills)

module _ (looper : ℕ) (clock clock' : Clock) (book book' : ReplySeat) (port : PortSeat) where
  looked_in_book : books.HasLooked clock clock' book book' → SideGoes looper [] (side clock book port) (side clock' book' port)
  looked_in_book looked = goes_nothing looper clock clock' book book' port port looked.clocked (looks books.maker_of book book' looked.seen) (stays ports.by_number port port refl)

  -- a slot is closed
  cancels : (n : ℕ) → HasClosed n clock clock' book book' → SideDoes looper (Cancels n) (side clock book port) (side clock' book' port)
  cancels n (inl entered) =
      let x = noted_in_book clock clock' (slot_event.Cancelled n) book book' entered.entered in
      record { steps = at_book x ∷ []; does = inl (record { noted = x; event_is = refl; is = refl }); goes = goes_at_book looper clock clock' (slot_event.Cancelled n) book book' port entered.entered }
  cancels n (inr found) = record {
    steps = saw_book book'.front ∷ [];
    does = inr (record { seen = book'.front; filled = found.filled; is = refl });
    goes = goes_seeing_book looper (side clock book port) (side clock' book' port) (looked_in_book found.looked);
  }

  -- a slot is filled, or found to be settled
  pub fills_by : (n : ℕ) (flat : List ℕ) (answer : FillAnswer) → (answer ≡ filling.Filled → HasEnteredBook clock clock' (slot_event.Filled n flat) book book') → (answer ≡ filling.Duplicate → HasFoundSettled n clock clock' book book')
      → SideDoes looper (Fills n flat) (side clock book port) (side clock' book' port)
  fills_by n flat filling.Filled entered found =
      let there = (entered refl).entered in
      let x = noted_in_book clock clock' (slot_event.Filled n flat) book book' there in
      record { steps = at_book x ∷ []; does = inl (record { noted = x; event_is = refl; is = refl }); goes = goes_at_book looper clock clock' (slot_event.Filled n flat) book book' port there }
  fills_by n flat filling.Duplicate entered found =
      let there = found refl in
      record {
        steps = saw_book book'.front ∷ [];
        does = inr (record { seen = book'.front; settled = there.settled; is = refl });
        goes = goes_seeing_book looper (side clock book port) (side clock' book' port) (looked_in_book there.looked);
      }

-- ---- an ask
module _ (to : Address) (item : ItemData) (c c' : Clock) (b b' : ReplySeat) (s s' : PortSeat) where
  -- a slot was opened, the item written, and taken what the slot was filled with
  converses : (n : ℕ) (k : Clock) (b1 : ReplySeat) (flat : List ℕ) → HasEnteredBook c k (slot_event.Opened n) b b1 → HasConversed item k c' b1 b' s s' n flat → SideDoes to.looper (Converses to item flat) (side c b s) (side c' b' s')
  converses n k b1 flat opened h =
      let asked : ItemData = record item { duty = duty.Slot n } in
      let position = h.written.0 in
      let x = noted_in_book c k (slot_event.Opened n) b b1 opened.entered in
      let y = noted_there k h.between (event.Written position asked) s s' h.written.1 in
      let z = noted_in_book h.between c' (slot_event.Taken n) b1 b' h.collected.taken.entered in
      record {
        steps = at_book x ∷ at_port to.looper y ∷ at_book z ∷ [];
        does = record {
          slot = n;
          position = position;
          opened = x;
          written = y;
          taken = z;
          opened_is = refl;
          written_is = refl;
          taken_is = refl;
          filled = filled_before n flat h.between c' b1 b' h.collected.taken.entered h.collected.filled;
          is = refl;
        };
        goes =
            goes_then to.looper (at_book x ∷ []) (at_port to.looper y ∷ at_book z ∷ []) (side c b s) (side k b1 s) (side c' b' s') (goes_at_book to.looper c k (slot_event.Opened n) b b1 s opened.entered)
            (goes_then to.looper (at_port to.looper y ∷ []) (at_book z ∷ []) (side k b1 s) (side h.between b1 s') (side c' b' s') (goes_at_port to.looper k h.between (event.Written position asked) b1 s s' h.written.1)
            (goes_at_book to.looper h.between c' (slot_event.Taken n) b1 b' s' h.collected.taken.entered));
      }

  -- the item was refused, and the slot closed
  withdraws : (e : Option PortEvent) (n : ℕ) (k between : Clock) (b1 : ReplySeat) → HasEnteredBook c k (slot_event.Opened n) b b1 → SideDoes to.looper (IsRefusedBy to.looper e) (side k b1 s) (side between b1 s') → HasClosed n between c' b1 b'
      → SideDoes to.looper (Withdraws to e) (side c b s) (side c' b' s')
  withdraws e n k between b1 opened refused closing =
      let x = noted_in_book c k (slot_event.Opened n) b b1 opened.entered in
      let last = cancels to.looper between c' b1 b' s' n closing in
      record {
        steps = at_book x ∷ refused.steps ++ last.steps;
        does = record { slot = n; opened = x; refused = refused.steps; closing = last.steps; opened_is = refl; refused_is = refused.does; closes = last.does; is = refl };
        goes =
            goes_then to.looper (at_book x ∷ []) (refused.steps ++ last.steps) (side c b s) (side k b1 s) (side c' b' s') (goes_at_book to.looper c k (slot_event.Opened n) b b1 s opened.entered)
            (goes_then to.looper refused.steps last.steps (side k b1 s) (side between b1 s') (side c' b' s') refused.goes last.goes);
      }

  -- the port gave a reason
  withdraws_so : (m : MessageData) (e : PortEvent) (n : ℕ) (k between : Clock) (b1 : ReplySeat) → ¬ (IsTooLong m) → HasEnteredBook c k (slot_event.Opened n) b b1 → ports.HasEntered k between e s s' → HasClosed n between c' b1 b'
      → SideDoes to.looper (AsksFor m (Withdraws to (Some e))) (side c b s) (side c' b' s')
  withdraws_so m e n k between b1 fits opened entered closing =
      does_as to.looper (Withdraws to (Some e)) (AsksFor m (Withdraws to (Some e))) (side c b s) (side c' b' s') (λ steps does. record { fits = fits; does = does })
      (withdraws (Some e) n k between b1 opened (enters_port to.looper k between b1 s s' e entered) closing)

  untouched : IsUntouched item c c' b b' s s' → SideGoes to.looper [] (side c b s) (side c' b' s')
  untouched none = goes_nothing to.looper c c' b b' s s' none.clock (stays books.maker_of b b' none.book) (stays ports.by_number s s' none.port)

  -- memory was wanting
  in_vain_later : (h : HasAsked item c c' b b' s s' (Err fault.NoMemory)) → (HasGivenUp item h.clock c' h.seat b' s s' h.slot fault.NoMemory ⊎ ((flat : List ℕ) × HasConversed item h.clock c' h.seat b' s s' h.slot flat)) → SideDoes to.looper (AsksInVain to item) (side c b s) (side c' b' s')
  in_vain_later h (inl up) =
      does_as to.looper (Withdraws to None) (AsksInVain to item) (side c b s) (side c' b' s') (λ steps does. wants.for_the_item does)
      (withdraws None h.slot h.clock up.between h.seat h.opened (record { steps = []; does = refl; goes = looked_there to.looper h.clock up.between h.seat s s' up.refused.looked }) up.closed)
  in_vain_later h (inr both) =
      does_as to.looper (Converses to item both.0) (AsksInVain to item) (side c b s) (side c' b' s') (λ steps does. wants.for_the_reply both.0 does) (converses h.slot h.clock h.seat both.0 h.opened both.1)

  in_vain : HasLackedMemory item c c' b b' s s' → SideDoes to.looper (AsksInVain to item) (side c b s) (side c' b' s')
  in_vain (asks.before_all none) = record { steps = []; does = wants.before_all refl; goes = untouched none }
  in_vain (asks.for_the_slot none) = record {
    steps = [];
    does = wants.before_all refl;
    goes = goes_nothing to.looper c c' b b' s s' none.looked.looked.clocked (looks books.maker_of b b' none.looked.looked.seen) (stays ports.by_number s s' none.port);
  }
  in_vain (asks.later h) = in_vain_later h h.became

  asks_by : (m : MessageData) (sent : Result Reply SendFault) → (IsErrOf sent fault.TooLong ↔ (flat_limit < length (spelling m))) → IfOk sent (λ (reply : Reply). reply.message ≡ spelled reply.flat) → AskTells item c c' b b' s s' sent
      → SideDoes to.looper (AsksSo to m item (heard_ask sent)) (side c b s) (side c' b' s')
  asks_by m (Ok reply) long text h =
      does_as to.looper (Converses to item reply.flat) (λ steps. (reply.message ≡ spelled reply.flat) × AsksFor m (Converses to item reply.flat) steps) (side c b s) (side c' b' s')
      (λ steps does. (text, record { fits = λ over. let no = long.1 over in cc; does = does })) (converses h.slot h.clock h.seat reply.flat h.opened h.became.1)
  asks_by m (Err fault.TooLong) long text h = record { steps = []; does = (long.0 refl, refl); goes = untouched h }
  asks_by m (Err fault.NoMemory) long text h = in_vain h
  asks_by m (Err fault.BadPort) long text h = withdraws_so m event.Refused h.slot h.clock h.became.between h.seat (λ over. let no = long.1 over in cc) h.opened h.became.refused h.became.closed
  asks_by m (Err fault.Spent) long text h = withdraws_so m event.Spent h.slot h.clock h.became.between h.seat (λ over. let no = long.1 over in cc) h.opened h.became.refused h.became.closed
  asks_by m (Err fault.WouldBlock) long text h = absurd h

pub asks_so : (to : Address) (team : ℕ) (m : MessageData) (e : Envelope) (sent : Result Reply SendFault) (a : Answer) (c c' : Clock) (b b' : ReplySeat) (s s' : PortSeat) → e ≡ sent_with team to None → a ≡ heard_ask sent
    → (IsErrOf sent fault.TooLong ↔ (flat_limit < length (spelling m))) → IfOk sent (λ (reply : Reply). reply.message ≡ spelled reply.flat) → AskTells (item_in e duty.None m) c c' b b' s s' sent
    → SideDoes to.looper (AsksSo to m (sent_item team to duty.None m) a) (side c b s) (side c' b' s')
asks_so to team m e sent a c c' b b' s s' with_it heard long text tells =
    subst (λ (x : Answer). SideDoes to.looper (AsksSo to m (sent_item team to duty.None m) x) (side c b s) (side c' b' s')) (sym heard)
    (asks_by to (sent_item team to duty.None m) c c' b b' s s' m sent long text (subst (λ (x : Envelope). AskTells (item_in x duty.None m) c c' b b' s s' sent) with_it tells))
