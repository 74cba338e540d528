-- An ask and what a looper's thread did with its item come to one reply, by what the layers below promise of their lists.
use Rattle.std.proofs.Common.{◌≡◌, ℕ, zero, suc, ◌<◌, ◌≤◌, ◌==◌, Bool, true, false, cond, List, [], ◌∷◌, ◌++◌, length, Option, None, Some, Contains, refl, sym, ap, ◌∙◌, subst, arith, append_assoc, eq-eqb}
use Rattle.std.specs.Prelude.{Any, IsSomeAnd, count_by, filter, option_map, slice_index_or}
use Rattle.std.proofs.lemmas.List.Elements.{Contains-append_left, Contains-append_right}
use Rattle.std.proofs.lemmas.List.Sums.{length-filter}
use Rattle.ak_base.specs.declared.thread.ThreadId.{ThreadId}
use Rattle.ak_message.specs.Message.{MessageData}
use Rattle.ak_flatten.specs.declared.item.Taken.{Taken}
use Rattle.ak_flatten.specs.Item.{ItemData}
use Rattle.ak_flatten.specs.Spelling.{spelling}
use Rattle.ak_route.specs.declared.outcome.Route.{Route}
use Rattle.ak_route.specs.declared.outcome.Route.TheVariants as route
use Rattle.ak_turn.specs.declared.clock.Clock.{Clock}
use Rattle.ak_turn.specs.Entries.{StartsWith}
use Rattle.ak_port.specs.declared.port_entry.PortEntry.{PortEntry}
use Rattle.ak_port.specs.declared.port_entry.PortEvent.TheVariants as event
use Rattle.ak_port.specs.declared.reply_entry.ReplyEntry.{ReplyEntry}
use Rattle.ak_port.specs.declared.reply_entry.ReplyEvent.TheVariants as entry
use Rattle.ak_port.specs.PortCalls.{PortSeat, HasEntered, entry_now}
use Rattle.ak_port.specs.PortLaws.{EachOnce, OldestFirst}
use Rattle.ak_port.specs.PortMachine.{IsPort, pending_items, state_of, taken_items, written_in, written_item}
use Rattle.ak_port.specs.Reply.{FillsWith, settles, takes}
use Rattle.ak_port.specs.ReplyLaws.{SettledOnce, TakenOnce}
use Rattle.ak_messenger.specs.Asks.{HasConversed}
use Rattle.ak_action.specs.declared.answer.AnswerWord.{AnswerWord}
use Rattle.ak_action.specs.declared.state.DeskState.{DeskState}
use Rattle.ak_desk.specs.declared.made.Made.{Made}
use Rattle.ak_desk.specs.Dispatch.{entry_route, fitting}
use Rattle.ak_desk.specs.Laws.{EntryTellsReply}
use Rattle.ak_desk.specs.Machine.{DispatchStep, Dispatches, Replies, StepReplies}
use Rattle.ak_desk.specs.Place.{routed_of}
use Rattle.ak_desk.specs.Shared.{DeskSeat}
use Rattle.uses_asks.specs.Laws.{AnAskHasOneReply, IsDesksReply, with_slot}
use Rattle.uses_asks.specs.Serving.{DispatchesThere}
use Rattle.uses_asks.proofs.Filling.{entered_there}
use Rattle.uses_asks.proofs.Numbered.{same_written, taken_then_pending}

-- ---- lists
module _ {A : Type 0} (p : A → Bool) where
  grows : (b : Bool) (z : A) (kept : List A) → length kept ≤ length (cond b (z ∷ kept) kept)
  grows true z kept = omega arith
  grows false z kept = omega arith

  -- what passes is kept
  kept_one : (xs : List A) (k : ℕ) (x : A) → k < length xs → slice_index_or xs k x ≡ x → p x ≡ true → 1 ≤ length (filter p xs)
  kept_one [] k x lt at passes = absurd (omega arith)
  kept_one (z ∷ zs) zero x lt at passes = subst (λ (b : Bool). 1 ≤ length (cond b (z ∷ filter p zs) (filter p zs))) (sym (ap p at ∙ passes)) (omega arith)
  kept_one (z ∷ zs) (suc k) x lt at passes =
      let more = kept_one zs k x (omega arith) at passes in
      let on = grows (p z) z (filter p zs) in
      omega arith

  few_behind : (z : A) (zs : List A) → p z ≡ true → length (filter p (z ∷ zs)) ≤ 1 → suc (length (filter p zs)) ≤ 1
  few_behind z zs passes few = subst (λ (b : Bool). length (cond b (z ∷ filter p zs) (filter p zs)) ≤ 1) passes few

  -- where at most one passes, two that pass are one
  one_kept : (xs : List A) (i j : ℕ) (x y : A) → length (filter p xs) ≤ 1 → i < length xs → slice_index_or xs i x ≡ x → p x ≡ true → j < length xs → slice_index_or xs j y ≡ y → p y ≡ true → x ≡ y
  one_kept [] i j x y few lt at px lt' at' py = absurd (omega arith)
  one_kept (z ∷ zs) zero zero x y few lt at px lt' at' py = sym at ∙ at'
  one_kept (z ∷ zs) zero (suc j) x y few lt at px lt' at' py =
      let less = few_behind z zs (ap p at ∙ px) few in
      let more = kept_one zs j y (omega arith) at' py in
      absurd (omega arith)
  one_kept (z ∷ zs) (suc i) zero x y few lt at px lt' at' py =
      let less = few_behind z zs (ap p at' ∙ py) few in
      let more = kept_one zs i x (omega arith) at px in
      absurd (omega arith)
  one_kept (z ∷ zs) (suc i) (suc j) x y few lt at px lt' at' py =
      let on = grows (p z) z (filter p zs) in
      one_kept zs i j x y (omega arith) (omega arith) at px (omega arith) at' py

  counted : (xs : List A) (k : ℕ) (x : A) → k < length xs → slice_index_or xs k x ≡ x → p x ≡ true → 1 ≤ count_by p xs
  counted xs k x lt at passes = subst (λ (n : ℕ). 1 ≤ n) (length-filter p xs) (kept_one xs k x lt at passes)

  one_passes : (xs : List A) (i j : ℕ) (x y : A) → count_by p xs ≤ 1 → i < length xs → slice_index_or xs i x ≡ x → p x ≡ true → j < length xs → slice_index_or xs j y ≡ y → p y ≡ true → x ≡ y
  one_passes xs i j x y few lt at px lt' at' py = one_kept xs i j x y (subst (λ (n : ℕ). n ≤ 1) (sym (length-filter p xs)) few) lt at px lt' at' py

-- what is in a front is in the whole list
any_behind : {A : Type 0} (P : A → Type 0) (front whole : List A) → Any P front → StartsWith whole front → Any P whole
any_behind P front whole some starts =
    let here : Contains front some.1 = (some.0, some.2, some.3) in
    let there : Contains (front ++ starts.0) some.1 = Contains-append_left front starts.0 some.1 here in
    subst (λ l. Any P l) (sym starts.1) (there.0, some.1, there.1, there.2, some.4)

-- ---- items of a port
written-append : (xs ys : List PortEntry) → written_in (xs ++ ys) ≡ written_in xs ++ written_in ys
written-append [] ys = refl
written-append (x ∷ xs) ys = ap (λ l. written_item x.event ++ l) (written-append xs ys) ∙ sym (append_assoc (written_item x.event) (written_in xs) (written_in ys))

written_behind : (front whole : List PortEntry) (t : Taken) → Contains (written_in front) t → StartsWith whole front → Contains (written_in whole) t
written_behind front whole t there starts =
    subst (λ l. Contains l t) (sym (ap written_in starts.1 ∙ written-append front starts.0)) (Contains-append_left (written_in front) (written_in starts.0) t there)

-- what a write wrote is in its seat's front
written_there : (clock clock' : Clock) (position : ℕ) (item : ItemData) (seat seat' : PortSeat) → HasEntered clock clock' (event.Written position item) seat seat' → Contains (written_in seat'.front) (record { position = position; item = item })
written_there clock clock' position item seat seat' entered =
    let x : PortEntry = entry_now clock entered.before (event.Written position item) in
    let t : Taken = record { position = position; item = item } in
    subst (λ l. Contains l t) (sym (ap written_in entered.front ∙ written-append entered.before (x ∷ [])))
    (Contains-append_right (written_in entered.before) (t ∷ []) t (0, omega arith, refl))

-- what the taker has taken was written
taken_by : EachOnce → OldestFirst → (o : Option ThreadId) (front : List PortEntry) (t : Taken) → IsSomeAnd o (λ (taker : ThreadId). IsPort taker.0 front) → Contains (taken_items (state_of front)) t → Contains (written_in front) t
taken_by each oldest None front t h among = absurd h
taken_by each oldest (Some taker) front t h among =
    subst (λ (l : List Taken). Contains l t) (sym (taken_then_pending each oldest taker.0 front h)) (Contains-append_left (taken_items (state_of front)) (pending_items (state_of front)) t among)

-- ---- slots of a book
same_number : (n : ℕ) → (n == n) ≡ true
same_number n = eq-eqb n n refl

fill_settles : (n : ℕ) (flat : List ℕ) (x : ReplyEntry) → x.event ≡ entry.Filled n flat → settles n x.event ≡ true
fill_settles n flat x is = ap (settles n) is ∙ same_number n

take_takes : (n : ℕ) (x : ReplyEntry) → x.event ≡ entry.Taken n → takes n x.event ≡ true
take_takes n x is = ap (takes n) is ∙ same_number n

-- a slot that is settled once has one text
one_text : (n : ℕ) (book : List ReplyEntry) (flat text : List ℕ) → count_by (λ (x : ReplyEntry). settles n x.event) book ≤ 1 → FillsWith n flat book → FillsWith n text book → flat ≡ text
one_text n book flat text few a b =
    let same = one_passes (λ (x : ReplyEntry). settles n x.event) book a.0 b.0 a.1 b.1 few a.2 a.3 (fill_settles n flat a.1 a.4) b.2 b.3 (fill_settles n text b.1 b.4) in
    let events : entry.Filled n flat ≡ entry.Filled n text = sym a.4 ∙ ap (λ (x : ReplyEntry). x.event) same ∙ b.4 in
    cc events

settled_there : (n : ℕ) (book : List ReplyEntry) (flat : List ℕ) → FillsWith n flat book → 1 ≤ count_by (λ (x : ReplyEntry). settles n x.event) book
settled_there n book flat a = counted (λ (x : ReplyEntry). settles n x.event) book a.0 a.1 a.2 a.3 (fill_settles n flat a.1 a.4)

taken_there : (n : ℕ) (book : List ReplyEntry) → Any (λ (x : ReplyEntry). x.event ≡ entry.Taken n) book → 1 ≤ count_by (λ (x : ReplyEntry). takes n x.event) book
taken_there n book a = counted (λ (x : ReplyEntry). takes n x.event) book a.0 a.1 a.2 a.3 (take_takes n a.1 a.4)

just_one : (n : ℕ) → n ≤ 1 → 1 ≤ n → n ≡ 1
just_one n few some = omega arith

-- ---- the desk's reply
module _ (s : DeskState) (item : ItemData) (words : List AnswerWord) where
  stepped : (quit : Bool) (t : DeskState) (r : Route) → (routed_of s item).route ≡ r → Dispatches s item words quit t → DispatchStep s (entry_route s r) (Some item) words quit t
  stepped quit t (route.Deliver token taker) is d = (ap (entry_route s) (sym is), d)
  stepped quit t route.Skipped is d = (ap (entry_route s) (sym is), d)
  stepped quit t route.Dropped is d = (ap (entry_route s) (sym is), d)
  stepped quit t route.NotUnderstood is d = (ap (entry_route s) (sym is), d)
  stepped quit t (route.Forward looper) is d = (ap (entry_route s) (sym is), d)

  replied : (r : Route) (reply : Option MessageData) → Replies s item words reply → StepReplies s (entry_route s r) (Some item) words reply
  replied (route.Deliver token taker) reply h = h
  replied route.Skipped reply h = h
  replied route.Dropped reply h = h
  replied route.NotUnderstood reply h = h
  replied (route.Forward looper) reply h = h

record IsFitted (o : Option MessageData) (sent : MessageData) : Type 0 where
  reply : MessageData
  is : o ≡ Some reply
  fits : sent ≡ fitting reply

fitted : (o : Option MessageData) (sent : MessageData) → option_map fitting o ≡ Some sent → IsFitted o sent
fitted None sent e = absurd (cc e)
fitted (Some reply) sent e = record { reply = reply; is = refl; fits = cc e }

-- what was made of a dispatch is the one reply of its entry
desks_reply : EntryTellsReply → (taken : Taken) (made : Made) (sent : MessageData) (d d' : DeskSeat) (there : DispatchesThere taken made d d') → made.reply ≡ Some sent → IsDesksReply there.there.before taken.item there.there.dispatched.words sent
desks_reply tells taken made sent d d' there is =
    let s = there.there.before in
    let after = there.there.after in
    let h = there.there.dispatched in
    let r = (routed_of s taken.item).route in
    let f = fitted h.reply sent (sym (ap (λ (m : Made). m.reply) h.made_is) ∙ is) in
    let step = stepped s taken.item h.words h.quit after r refl h.dispatch in
    let one = (tells s (entry_route s r) (Some taken.item) h.words h.quit h.quit after after step step).2 in
    let ours = subst (Replies s taken.item h.words) f.is h.replies in
    record {
      reply = f.reply;
      replies = ours;
      alone = λ other h'. one.alone other (replied s taken.item h.words r other h') ∙ sym (one.alone (Some f.reply) (replied s taken.item h.words r (Some f.reply) ours));
      fits = f.fits;
    }

-- ---- the law
pub an_ask_has_one_reply : EachOnce → OldestFirst → SettledOnce → TakenOnce → EntryTellsReply → AnAskHasOneReply
an_ask_has_one_reply each oldest once taken_once tells taker port book item reply c c' b b' s s' position sent t d d' f is_port legal asked s_port b_book served t_port f_book =
    let n = reply.slot in
    let flat = reply.flat in
    let talk : HasConversed item asked.clock c' asked.seat b' s s' n flat = subst (λ (k : ℕ). HasConversed item asked.clock c' asked.seat b' s s' k flat) (sym asked.became.0) asked.became.1 in
    let place = talk.written.0 in
    let wanted : Taken = record { position = place; item = with_slot item n } in
    let got : Taken = record { position = position; item = served.item } in
    let written = written_behind s'.front port wanted (written_there asked.clock talk.between place (with_slot item n) s s' talk.written.1) s_port in
    let taken = written_behind t.front port got (taken_by each oldest t.opening t.front got served.at_port served.among) t_port in
    let theirs = any_behind (λ (x : ReplyEntry). x.event ≡ entry.Filled n flat) b'.front book talk.collected.filled b_book in
    let ours = any_behind (λ (x : ReplyEntry). x.event ≡ entry.Filled n (spelling sent)) f.front book served.filled f_book in
    let collected = any_behind (λ (x : ReplyEntry). x.event ≡ entry.Taken n) b'.front book (entered_there talk.between c' (entry.Taken n) asked.seat b' talk.collected.taken) b_book in (
      record {
        text = one_text n book flat (spelling sent) (once book n legal) theirs ours;
        settled = just_one _ (once book n legal) (settled_there n book flat theirs);
        taken = just_one _ (taken_once book n legal) (taken_there n book collected);
        place = place;
        asked = written;
        answered = taken;
        same = λ is. ap (λ (u : Taken). u.item) (same_written each oldest taker port got wanted is_port taken written is);
      },
      desks_reply tells got served.made sent d d' served.dispatched served.replied,
    )
