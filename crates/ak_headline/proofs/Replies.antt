-- What one looper did with an item that owes a slot: it sent it on, or filled the slot with the reply that the rules make.
use Rattle.std.proofs.Common.{◌≡◌, ◌⊎◌, ℕ, ◌+◌, ◌==◌, ◌&&◌, not, Bool, true, false, List, [], ◌∷◌, ◌++◌, length, Contains, Option, Some, None, slice_get, refl, sym, ap, ◌∙◌, subst, inl, inr, ⊎_elim, arith, eq-eqb, eqb-true}
use Rattle.std.specs.List.{list_any}
use Rattle.std.proofs.lemmas.List.Folds.{Any-from_list_any}
use Rattle.std.proofs.lemmas.Option.{slice_get-get_or}
use Rattle.ak_message.specs.Message.{MessageData}
use Rattle.ak_flatten.specs.declared.item.Duty.{Duty}
use Rattle.ak_flatten.specs.declared.item.Duty.TheVariants as duty
use Rattle.ak_flatten.specs.declared.item.Taken.{Taken}
use Rattle.ak_flatten.specs.Item.{ItemData}
use Rattle.ak_flatten.specs.Spelling.{spelling}
use Rattle.ak_turn.specs.Noted.{Noted}
use Rattle.ak_roster.specs.declared.head.AppHead.{AppHead}
use Rattle.ak_port.specs.declared.port_entry.PortEntry.{PortEntry}
use Rattle.ak_port.specs.declared.reply_entry.ReplyEntry.{ReplyEntry}
use Rattle.ak_port.specs.declared.reply_entry.ReplyEvent.TheVariants as slot
use Rattle.ak_port.specs.PortMachine.{written_in}
use Rattle.ak_port.specs.Reply.{none_text}
use Rattle.ak_base.specs.declared.error.KitError.TheVariants as error
use Rattle.ak_action.specs.declared.answer.AnswerWord.{AnswerWord}
use Rattle.ak_action.specs.declared.answer.AnswerWord.TheVariants as word
use Rattle.ak_action.specs.declared.state.DeskState.{DeskState}
use Rattle.ak_desk.specs.declared.entry.DeskEvent.{DeskEvent}
use Rattle.ak_desk.specs.declared.entry.DeskEvent.TheVariants as desk_event
use Rattle.ak_desk.specs.declared.entry.EntryRoute.{EntryRoute}
use Rattle.ak_desk.specs.declared.entry.EntryRoute.TheVariants as went
use Rattle.ak_desk.specs.Dispatch.{fitting}
use Rattle.ak_desk.specs.Entry.{EntryData}
use Rattle.ak_desk.specs.Laws.{ForwardTellsReply, StateIsOne, reply_of_error}
use Rattle.ak_desk.specs.Machine.{Replies, StepReplies, dispatches, paired}
use Rattle.ak_diary.specs.declared.histories.Histories.{Histories}
use Rattle.ak_diary.specs.Laws.{AcceptedIsDispatchedThenLeft, EachIsDispatchedByRule, IsAccountedFor, IsDispatchedSo, WasGivenUp, WentByRule, dispatched_items, left_in}
use Rattle.ak_diary.specs.Looper.{LooperFacts, thread_of}
use Rattle.ak_diary.specs.Step.{book_entries, ran_short}
use Rattle.ak_diary.proofs.Surface.{IsNumbered, get_parts, written_numbered}
use Rattle.ak_headline.specs.Answers.{IsAccepted, IsAnswerTo, IsDispatchOf, WasSentOn, owes, to_dispatched, to_left, without_memory}
use Rattle.ak_headline.specs.Run.{HasLooper, desk_list, port_list}
use Rattle.ak_headline.specs.Diaries.{LoopersPay}
use Rattle.ak_headline.specs.Sends.{sent_to}
use Rattle.ak_headline.specs.Tally.{PaidForDispatch, PaidForLeft, how_many, kept_in, owes_at, owes_entry, owes_event, owes_listed, owing_in, sent_on_event, sent_on_in, was_sent_on, writes_owing}
use Rattle.ak_headline.proofs.Counts.{same_many}
use Rattle.ak_headline.proofs.LastTurn.{last_dispatch}
use Rattle.ak_headline.proofs.Resting.{RestsAt}
use Rattle.ak_headline.proofs.Senders.{parted_at, parted_in}
use Rattle.ak_headline.proofs.Written.{DispatchedAt, accepted_owing, dispatched_at, get_second}

-- a slot was filled with that text, which is the reply to an item that came to rest there
pub record IsPaid (h : Histories) (short : List ℕ) (n k : ℕ) (left : List Taken) (text : List ℕ) : Type 0 where
  pub position : ℕ
  pub item : ItemData
  pub accepted : IsAccepted h n k position item
  pub by_rule : IsAnswerTo h short k position item text
  pub rests : RestsAt n (written_in (port_list h k)) (desk_list h k) left position

-- the entry dispatched an item that its port had accepted, and sent it on
pub record IsOff (h : Histories) (n k : ℕ) (entry : EntryData) : Type 0 where
  pub position : ℕ
  pub item : ItemData
  pub item_is : entry.item ≡ Some item
  pub accepted : IsAccepted h n k position item
  pub was : WasSentOn h k position item
  pub to_it : (looper : ℕ) → sent_to entry.plain.event ≡ Some looper → was.route ≡ went.Forward looper

-- an entry sent the item at that position on
pub record HasGone (h : Histories) (n k at : ℕ) (other : ItemData) : Type 0 where
  pub entry : EntryData
  pub there : Contains (desk_list h k) entry
  pub owed : owes_entry n entry ≡ true
  pub sent_on : was_sent_on entry ≡ true
  pub item_is : entry.item ≡ Some other
  pub was : WasSentOn h k at other
  pub to_it : (looper : ℕ) → sent_to entry.plain.event ≡ Some looper → was.route ≡ went.Forward looper

-- ---- words
is_slot : (n : ℕ) (d : Duty) → owes n d ≡ true → d ≡ duty.Slot n
is_slot n duty.None e = absurd (cc e)
is_slot n (duty.Slot m) e = ap duty.Slot (eqb-true m n e)
is_slot n (duty.Back to) e = absurd (cc e)

slot_owes : (n : ℕ) (d : Duty) → d ≡ duty.Slot n → owes n d ≡ true
slot_owes n d e = ap (owes n) e ∙ eq-eqb n n refl

-- that item, at a position
abbrev placed : ℕ → ItemData → Taken
placed position item = record { position = position; item = item }

-- two tests that are the same where a third one is met
and_false : (a : Bool) → a && false ≡ false
and_false true = refl
and_false false = refl

same_where : (c a b : Bool) → (c ≡ true → a ≡ b) → a && c ≡ b && c
same_where true a b same = ap (λ x. x && true) (same refl)
same_where false a b same = and_false a ∙ sym (and_false b)

either : (b : Bool) → b ≡ true ⊎ b ≡ false
either true = inl refl
either false = inr refl

forward_form : (position : ℕ) (route : EntryRoute) (words : List AnswerWord) (quit : Bool) → sent_on_event (desk_event.Dispatched position route words quit) ≡ true
    → (looper : ℕ) × (route ≡ went.Forward looper) × (words ≡ word.Error error.Ok ∷ [])
forward_form position (went.Forward looper) (word.Error error.Ok ∷ []) quit e = (looper, refl, refl)
forward_form position route words quit e = absurd (cc e)

record IsDispatchEvent (e : DeskEvent) : Type 0 where
  position : ℕ
  route : EntryRoute
  words : List AnswerWord
  quit : Bool
  is : e ≡ desk_event.Dispatched position route words quit

sent_form : (e : DeskEvent) → sent_on_event e ≡ true → IsDispatchEvent e
sent_form (desk_event.Dispatched position route words quit) e = record { position = position; route = route; words = words; quit = quit; is = refl }
sent_form (desk_event.Edited edit answer) e = absurd (cc e)

route_form : (position : ℕ) (route : EntryRoute) (words : List AnswerWord) (quit : Bool) (looper : ℕ) → sent_to (desk_event.Dispatched position route words quit) ≡ Some looper → route ≡ went.Forward looper
route_form position (went.Forward other) words quit looper e = ap went.Forward (cc e)
route_form position went.NoMemory words quit looper e = absurd (cc e)
route_form position (went.To token) words quit looper e = absurd (cc e)
route_form position went.Skipped words quit looper e = absurd (cc e)
route_form position went.Dropped words quit looper e = absurd (cc e)
route_form position went.NotUnderstood words quit looper e = absurd (cc e)

pub is_short : (short : List ℕ) (k : ℕ) → list_any (λ number. number == k) short ≡ true → Contains short k
is_short short k e =
    let any = Any-from_list_any (λ number. number == k) short e in
    let same : any.1 ≡ k = eqb-true any.1 k any.4 in
    subst (Contains short) same (any.0, any.2, any.3)

-- ---- one looper
module _ (all : AcceptedIsDispatchedThenLeft) (law : EachIsDispatchedByRule) (one : StateIsOne) (forward : ForwardTellsReply) (pay : LoopersPay) where
  module _ (heads : List AppHead) (short : List ℕ) (h : Histories) (k : ℕ) (has : HasLooper heads short h k) where
    abbrev l : LooperFacts
    l = has.facts

    abbrev port : List PortEntry
    port = port_list h k

    abbrev desk : List EntryData
    desk = desk_list h k

    abbrev left : List Taken
    left = left_in l has.steps has.diary.legal

    accounted : IsAccountedFor l has.steps has.diary.legal port desk
    accounted = all l has.steps port desk has.diary

    at_its_position : IsNumbered (written_in port)
    at_its_position = written_numbered (thread_of l) port has.diary.port_legal

    -- ---- a dispatch
    module _ (before : List EntryData) (entry : EntryData) (behind : List EntryData) (there : desk ≡ before ++ entry ∷ behind) (position : ℕ) (route : EntryRoute) (words : List AnswerWord) (quit : Bool)
        (event_is : entry.plain.event ≡ desk_event.Dispatched position route words quit) where
      so : IsDispatchedSo l port before entry position route words quit
      so = law l has.steps port desk has.diary before entry behind position route words quit there event_is

      is_dispatch : (item : ItemData) → so.item ≡ item → (reply : Option MessageData) → so.reply.reply ≡ reply → IsDispatchOf h k position item reply
      is_dispatch item same reply is = record {
        before = before;
        entry = entry;
        behind = behind;
        there = there;
        route = route;
        words = words;
        quit = quit;
        event_is = event_is;
        item_is = so.item_is ∙ ap (paired route) same;
        item_at = so.accepted ∙ ap (λ (it : ItemData). Some (placed position it)) same;
        opening = l.desk;
        opened = has.opened;
        meets = so.meets;
        leads_there = so.leads_there;
        replies =
            subst (λ (it : ItemData). StepReplies so.meets route (Some it) words reply) same
            (subst (λ (o : Option MessageData). StepReplies so.meets route (Some so.item) words o) is so.reply.replies);
        alone = λ other replies. so.reply.alone other (subst (λ (it : ItemData). StepReplies so.meets route (Some it) words other) (sym same) replies) ∙ is;
      }

      same_item : (item : ItemData) → slice_get (written_in port) position ≡ Some (placed position item) → so.item ≡ item
      same_item item is =
          let both : Some (placed position so.item) ≡ Some (placed position item) = sym so.accepted ∙ is in
          let same : placed position so.item ≡ placed position item = cc both in
          ap (λ (t : Taken). t.item) same

      -- what it owes, by its position
      place_owed : (n : ℕ) → owes_at n (written_in port) entry.plain.event ≡ owes n so.item.duty
      place_owed n = ap (owes_at n (written_in port)) event_is ∙ ap (owes_listed n) so.accepted

      -- sent on, its entry has it
      sent_item : was_sent_on entry ≡ true → entry.item ≡ Some so.item
      sent_item sent =
          let form = forward_form position route words quit (ap sent_on_event (sym event_is) ∙ sent) in
          so.item_is ∙ ap (λ (r : EntryRoute). paired r so.item) form.1

      sent_owed : (n : ℕ) → was_sent_on entry ≡ true → owes_entry n entry ≡ owes n so.item.duty
      sent_owed n sent = (λ i. owes_event n (event_is i) (sent_item sent i))

      -- sent on, there is no reply
      forwarded : (looper : ℕ) → route ≡ went.Forward looper → words ≡ word.Error error.Ok ∷ [] → so.reply.reply ≡ None
      forwarded looper route_is words_are =
          ⊎_elim
          (λ (goes : WentByRule so.meets so.item route words quit so.leaves).
          let replies : Replies so.meets so.item words so.reply.reply = subst (λ (r : EntryRoute). StepReplies so.meets r (Some so.item) words so.reply.reply) route_is so.reply.replies in
          let told = forward so.meets looper so.item words so.reply.reply (sym route_is ∙ goes.route) replies in
          let both : word.Error told.error ∷ [] ≡ word.Error error.Ok ∷ [] = sym told.words_are ∙ words_are in
          let ok : told.error ≡ error.Ok = cc both in
          told.reply_is ∙ ap reply_of_error ok)
          (λ (goes : WasGivenUp so.meets route words quit so.leaves). let both : went.Forward looper ≡ went.NoMemory = sym route_is ∙ goes.route in absurd (cc both))
          so.goes

      was_forwarded : (item : ItemData) → so.item ≡ item → was_sent_on entry ≡ true → IsDispatchOf h k position item None
      was_forwarded item same sent =
          let form = forward_form position route words quit (ap sent_on_event (sym event_is) ∙ sent) in
          is_dispatch item same None (forwarded form.0 form.1 form.2)

      went_there : (looper : ℕ) → sent_to entry.plain.event ≡ Some looper → route ≡ went.Forward looper
      went_there looper e = route_form position route words quit looper (ap sent_to (sym event_is) ∙ e)

    -- ---- what became of an accepted item
    dispatched_one : (n at : ℕ) (other : ItemData) → IsAccepted h n k at other → DispatchedAt desk (placed at other) → RestsAt n (written_in port) desk left at ⊎ HasGone h n k at other
    unfolding was_forwarded is_dispatch
    dispatched_one n at other is d =
        let its = so d.before d.entry d.behind d.there at d.route d.words d.quit d.event_is in
        let same : its.item ≡ other = same_item d.before d.entry d.behind d.there at d.route d.words d.quit d.event_is other is.accepted in
        let its_owed : owes n its.item.duty ≡ true = ap (λ (it : ItemData). owes n it.duty) same ∙ slot_owes n other.duty is.owed in
        ⊎_elim
        (λ (sent : was_sent_on d.entry ≡ true).
        inr (record {
          entry = d.entry;
          there = parted_in desk d.entry d.before d.behind d.there;
          owed = sent_owed d.before d.entry d.behind d.there at d.route d.words d.quit d.event_is n sent ∙ its_owed;
          sent_on = sent;
          item_is = sent_item d.before d.entry d.behind d.there at d.route d.words d.quit d.event_is sent ∙ ap Some same;
          was = was_forwarded d.before d.entry d.behind d.there at d.route d.words d.quit d.event_is other same sent;
          to_it = went_there d.before d.entry d.behind d.there at d.route d.words d.quit d.event_is;
        }))
        (λ (kept : was_sent_on d.entry ≡ false).
        let owed : owes_at n (written_in port) d.entry.plain.event ≡ true = place_owed d.before d.entry d.behind d.there at d.route d.words d.quit d.event_is n ∙ its_owed in
        inl (inl (record { before = d.before; entry = d.entry; behind = d.behind; there = d.there; keeps = λ i. owed i && not (kept i); position_is = its.position_is })))
        (either (was_sent_on d.entry))

    pub became : (n at : ℕ) (other : ItemData) → IsAccepted h n k at other → RestsAt n (written_in port) desk left at ⊎ HasGone h n k at other
    became n at other is =
        let t : Taken = placed at other in
        let items : List Taken = dispatched_items (written_in port) desk in
        let whole : slice_get (items ++ left) at ≡ Some t = ap (λ l. slice_get l at) (sym accounted.accepted) ∙ is.accepted in
        ⊎_elim (λ (first : slice_get items at ≡ Some t). dispatched_one n at other is (dispatched_at (written_in port) at_its_position desk at t first))
        (λ (later : (j : ℕ) × (at ≡ length items + j) × (slice_get left j ≡ Some t)).
        inl (inr (record { place = later.0; taken = t; there = later.2; owed = slot_owes n other.duty is.owed; position_is = refl })))
        (get_parts items left at t whole)

    -- ---- what was sent on
    pub off : (n : ℕ) (entry : EntryData) → Contains desk entry → owes_entry n entry ≡ true → was_sent_on entry ≡ true → IsOff h n k entry
    unfolding was_forwarded sent_form is_dispatch
    off n entry there owed sent =
        let p = parted_at desk entry there in
        let f = sent_form entry.plain.event sent in
        let its = so p.before entry p.behind p.is f.position f.route f.words f.quit f.is in
        record {
          position = f.position;
          item = its.item;
          item_is = sent_item p.before entry p.behind p.is f.position f.route f.words f.quit f.is sent;
          accepted = record { accepted = its.accepted; owed = is_slot n its.item.duty (sym (sent_owed p.before entry p.behind p.is f.position f.route f.words f.quit f.is n sent) ∙ owed) };
          was = was_forwarded p.before entry p.behind p.is f.position f.route f.words f.quit f.is its.item refl sent;
          to_it = went_there p.before entry p.behind p.is f.position f.route f.words f.quit f.is;
        }

    -- by their positions, as many that owe the slot were sent on as by their entries
    sent_places : (n : ℕ) → how_many (λ (entry : EntryData). owes_at n (written_in port) entry.plain.event && was_sent_on entry) desk ≡ sent_on_in n desk
    sent_places n =
        same_many (λ (entry : EntryData). owes_at n (written_in port) entry.plain.event && was_sent_on entry) (λ (entry : EntryData). owes_entry n entry && was_sent_on entry) desk
        (λ before entry behind is.
        same_where (was_sent_on entry) (owes_at n (written_in port) entry.plain.event) (owes_entry n entry)
        (λ sent.
        let f = sent_form entry.plain.event sent in
        place_owed before entry behind is f.position f.route f.words f.quit f.is n ∙ sym (sent_owed before entry behind is f.position f.route f.words f.quit f.is n sent)))

    -- the items that its port accepted: each was sent on, kept or left
    pub port_owing : (n : ℕ) → how_many (λ (entry : PortEntry). writes_owing n entry.event) port ≡ sent_on_in n desk + (kept_in n (written_in port) desk + owing_in n left)
    port_owing n = accepted_owing n port desk left accounted.accepted (sent_places n)

    -- ---- what it paid
    for_dispatch : (n : ℕ) (text : List ℕ) → PaidForDispatch l.desk n (written_in port) desk (ran_short has.steps) text → IsPaid h short n k left text
    for_dispatch n text p =
        let its = so p.before p.entry p.behind p.there p.position p.route p.words p.quit p.event_is in
        let same_meets : p.meets ≡ its.meets = one l.desk.looper 0 l.desk p.before p.meets its.meets p.leads_there.replays its.leads_there.replays in
        let same : p.item ≡ its.item = sym (same_item p.before p.entry p.behind p.there p.position p.route p.words p.quit p.event_is p.item p.item_at) in
        let replies : StepReplies its.meets p.route (Some its.item) p.words (Some p.reply) =
        subst (λ (item : ItemData). StepReplies its.meets p.route (Some item) p.words (Some p.reply)) same (subst (λ (s : DeskState). StepReplies s p.route (Some p.item) p.words (Some p.reply)) same_meets p.replies) in
        let dispatch = is_dispatch p.before p.entry p.behind p.there p.position p.route p.words p.quit p.event_is its.item refl (Some p.reply) (sym (its.reply.alone (Some p.reply) replies)) in
        let owed : owes n its.item.duty ≡ true = sym (place_owed p.before p.entry p.behind p.there p.position p.route p.words p.quit p.event_is n) ∙ p.owed in
        record {
          position = p.position;
          item = its.item;
          accepted = record { accepted = its.accepted; owed = is_slot n its.item.duty owed };
          by_rule =
              ⊎_elim (λ (is : text ≡ spelling (fitting p.reply)). to_dispatched p.reply dispatch is)
              (λ (is : (ran_short has.steps ≡ true) × (dispatches p.behind ≡ 0) × (text ≡ none_text)).
              without_memory p.reply dispatch (ap dispatches p.there ∙ last_dispatch p.before p.entry p.behind p.position p.route p.words p.quit p.event_is its.position_is is.1)
              (is_short short k (sym has.short_is ∙ is.0)) is.2) p.text_is;
          rests = inl (record {
            before = p.before;
            entry = p.entry;
            behind = p.behind;
            there = p.there;
            keeps = λ i. p.owed i && not (p.kept i);
            position_is = its.position_is;
          });
        }

    for_left : (n : ℕ) (text : List ℕ) → PaidForLeft n left text → IsPaid h short n k left text
    for_left n text p =
        let t = p.taken in
        let place = p.there.0 in
        let there : slice_get left place ≡ Some t = slice_get-get_or left place t p.there.1 ∙ ap Some p.there.2 in
        let first = length (dispatched_items (written_in port) desk) in
        let at : slice_get (written_in port) (first + place) ≡ Some t = ap (λ l. slice_get l (first + place)) accounted.accepted ∙ get_second (dispatched_items (written_in port) desk) left place ∙ there in
        let position = at_its_position (first + place) t at in
        record {
          position = t.position;
          item = t.item;
          accepted = record { accepted = ap (slice_get (written_in port)) position ∙ at; owed = is_slot n t.item.duty p.owed };
          by_rule = to_left (omega (arith, position, accounted.many)) p.text_is;
          rests = inr (record { place = place; taken = t; there = there; owed = p.owed; position_is = refl });
        }

    pub paid : (n : ℕ) (text : List ℕ) (x : Noted ReplyEntry) → Contains (book_entries has.steps) x → x.entry.event ≡ slot.Filled n text → IsPaid h short n k left text
    paid n text x there is =
        ⊎_elim (λ (p : PaidForDispatch l.desk n (written_in port) desk (ran_short has.steps) text). for_dispatch n text p) (λ (p : PaidForLeft n left text). for_left n text p)
        (pay l has.steps port desk has.diary n text x there is)
