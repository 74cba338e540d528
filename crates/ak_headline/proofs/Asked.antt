-- Of the items that owe a slot one was asked, by the thread that opened the slot; each other one came from a looper that sent it on, and is the same message.
use Rattle.std.proofs.Common.{◌≡◌, ◌⊎◌, ℕ, zero, suc, ◌<◌, ◌≤◌, ◌==◌, Bool, true, false, cond, List, [], ◌∷◌, ◌++◌, length, filter, All, Contains, Some, slice_get, refl, sym, ap, ◌∙◌, subst, inl, inr, ⊎_elim, arith, eq-eqb, eqb-true}
use Rattle.std.proofs.lemmas.List.Elements.{All-contains}
use Rattle.ak_base.specs.Thread.{looper_thread}
use Rattle.ak_flatten.specs.declared.item.Duty.{Duty}
use Rattle.ak_flatten.specs.declared.item.Duty.TheVariants as duty
use Rattle.ak_flatten.specs.declared.item.Taken.{Taken}
use Rattle.ak_flatten.specs.Item.{ItemData}
use Rattle.ak_turn.specs.Entries.{made_by}
use Rattle.ak_turn.specs.Noted.{Noted}
use Rattle.ak_port.specs.declared.port_entry.PortEntry.{PortEntry}
use Rattle.ak_port.specs.declared.port_entry.PortEvent.TheVariants as event
use Rattle.ak_port.specs.declared.reply_entry.ReplyEntry.{ReplyEntry}
use Rattle.ak_port.specs.PortCalls as ports
use Rattle.ak_port.specs.PortMachine.{written_in}
use Rattle.ak_port.specs.Reply.{takes}
use Rattle.ak_port.specs.ReplySeats as books
use Rattle.ak_desk.specs.Entry.{EntryData}
use Rattle.ak_diary.specs.declared.histories.Histories.{Histories}
use Rattle.ak_diary.specs.Step.{Step, port_entries}
use Rattle.ak_diary.specs.Wants.{forwarded_item}
use Rattle.ak_headline.specs.Answers.{CameFrom, IsAccepted, IsSameMessage, WasWrittenBy, WentOn, doing, opens, owes}
use Rattle.ak_headline.specs.Run.{desk_list, port_list}
use Rattle.ak_headline.specs.Sends.{HasAsk, SendsOn}
use Rattle.ak_headline.specs.Tally.{at_slot, how_many, writes_owing}
use Rattle.ak_headline.proofs.Accounts.{Account}
use Rattle.ak_headline.proofs.Asking.{ask_there, none_in}
use Rattle.ak_headline.proofs.Clients.{Client, IsToldBy}
use Rattle.ak_headline.proofs.Counts.{filter_both, one_among}
use Rattle.ak_headline.proofs.Replies.{HasGone}
use Rattle.ak_headline.proofs.Senders.{ask_opens, accepted_there, noted_behind, noted_by, noted_there, one_ask, parted_in, writes_item, written_at}
use Rattle.ak_headline.proofs.Shares.{IsClientOrLooper, made_is_noted, steps_at_book}

slot_owes : (n : ℕ) (d : Duty) → d ≡ duty.Slot n → owes n d ≡ true
slot_owes n d e = ap (owes n) e ∙ eq-eqb n n refl

length_if : {X : Type 0} (b : Bool) (x : X) → length (cond b (x ∷ []) []) ≤ 1
length_if true x = omega arith
length_if false x = omega arith

-- an item is written as another one: the events are the same
same_item : (p q : ℕ) (a b : ItemData) → event.Written p a ≡ event.Written q b → a ≡ b
same_item p q a b e = cc e

same_taken : (s t : Taken) → Some s ≡ Some t → s.item ≡ t.item
same_taken s t e = let same : s ≡ t = cc e in ap (λ (k : Taken). k.item) same

-- ---- what one thread wrote
module _ (h : Histories) (thread : ℕ) (steps : List Step) (told : IsToldBy h thread steps) where
  pub written_by : (looper : ℕ) (x : Noted PortEntry) → Contains (port_entries looper steps) x → (position : ℕ) (item : ItemData) → x.entry.event ≡ event.Written position item
      → WasWrittenBy h looper position item thread
  written_by looper x there position item is =
      let noted_so = subst (λ (l : List (Noted PortEntry)). Contains l x) (sym (told.at_ports looper)) there in
      let stands = noted_behind ports.by_number thread (port_list h looper) x noted_so in
      record { before = x.before; entry = x.entry; behind = stands.0; there = stands.1; event_is = is; by = noted_by ports.by_number thread (port_list h looper) x noted_so }

  -- an entry of its own is one of its steps
  pub step_of : (looper : ℕ) (before : List PortEntry) (e : PortEntry) (behind : List PortEntry) → port_list h looper ≡ before ++ e ∷ behind → e.by.0 ≡ thread
      → (m : Noted PortEntry) × Contains (port_entries looper steps) m × (m.entry ≡ e)
  step_of looper before e behind is own =
      let found = noted_there ports.by_number thread (port_list h looper) before e behind is own in
      (found.0, subst (λ (l : List (Noted PortEntry)). Contains l found.0) (told.at_ports looper) found.1, found.2)

-- ---- all of them
module _ (h : Histories) (short : List ℕ) (n : ℕ) (accounts : (k : ℕ) → Account h short n k) where
  pub accepted_of : (looper position : ℕ) (item : ItemData) (thread : ℕ) → WasWrittenBy h looper position item thread → item.duty ≡ duty.Slot n → IsAccepted h n looper position item
  accepted_of looper position item thread w owed = record {
    accepted = accepted_there (accounts looper).legal.0 (port_list h looper) (accounts looper).legal.1 w.before w.entry w.behind w.there position item w.event_is;
    owed = owed;
  }

  -- what was sent on went on to a looper
  pub went_on : (k at : ℕ) (other : ItemData) → IsAccepted h n k at other → HasGone h n k at other → WentOn h n k at other
  went_on k at other is gone =
      let account = accounts k in
      let w = account.sends.sent gone.entry gone.there gone.owed gone.sent_on in
      let so = w.3 in
      let both : Some so.item ≡ Some other = sym so.item_is ∙ gone.item_is in
      let same : so.item ≡ other = cc both in
      let item = forwarded_item so.item so.popped in
      let written = written_by h (looper_thread k) account.steps account.told w.0 w.1 w.2 so.position item so.written_is in
      let owed : item.duty ≡ duty.Slot n = ap (λ (i : ItemData). i.duty) same ∙ is.owed in
      record {
        looper = w.0;
        position = so.position;
        item = item;
        accepted = accepted_of w.0 so.position item (looper_thread k) written owed;
        sent = record {
          up = so.up;
          sent_on = gone.was;
          to_it = gone.to_it w.0 so.to_it;
          popped = so.popped;
          more = subst (λ (i : ItemData). i.popped ≤ so.popped) same so.more;
          item_is = ap (λ (i : ItemData). forwarded_item i so.popped) same;
          written = written;
        };
      }

  module _ (count : ℕ) (few_clients : count ≤ looper_thread 0) (clients : (k : ℕ) → Client h n count k) (port_makers : (looper : ℕ) → All (λ (entry : PortEntry). IsClientOrLooper h count entry.by.0) (port_list h looper))
      (opened : ReplyEntry) (opened_once : doing (opens n) h.book ≡ opened ∷ []) where
    -- the thread asked it
    pub record AskIn (steps : List Step) (number at : ℕ) (other : ItemData) : Type 0 where
      pub x : Noted PortEntry
      pub ask : HasAsk n number x steps
      pub event_is : x.entry.event ≡ event.Written at other

    abbrev pub IsAskedAt : ℕ → ℕ → ItemData → Type 0
    IsAskedAt number at other = ((k : ℕ) × (k < count) × AskIn (clients k).steps number at other) ⊎ ((k : ℕ) × AskIn (accounts k).steps number at other)

    -- ---- who opened the slot
    abbrev opens_it : ReplyEntry → Bool
    opens_it entry = opens n entry.event

    mine : ℕ → ReplyEntry → Bool
    mine thread entry = books.maker_of entry == thread

    in_steps : (thread : ℕ) (steps : List Step) → IsToldBy h thread steps → how_many opens_it (made_by books.maker_of thread h.book) ≡ how_many (at_slot (opens n)) steps
    in_steps thread steps told =
        made_is_noted books.maker_of opens_it thread h.book ∙ ap (how_many (λ (m : Noted ReplyEntry). opens n m.entry.event)) told.at_book ∙ steps_at_book (opens n) steps

    few : (thread : ℕ) (steps : List Step) → IsToldBy h thread steps → how_many (at_slot (opens n)) steps ≤ 1
    unfolding mine
    few thread steps told =
        let all : how_many opens_it (made_by books.maker_of thread h.book) ≡ length (cond (mine thread opened) (opened ∷ []) []) =
        ap (λ l. length l) (filter_both opens_it (mine thread) h.book ∙ ap (filter (mine thread)) opened_once) in
        omega (arith, all, in_steps thread steps told, length_if (mine thread opened) opened)

    by_opener : (thread : ℕ) (steps : List Step) → IsToldBy h thread steps → (number at : ℕ) (other : ItemData) → AskIn steps number at other → opened.by.0 ≡ thread
    unfolding mine
    by_opener thread steps told number at other a =
        eqb-true opened.by.0 thread (one_among opens_it (mine thread) h.book opened opened_once (omega (arith, in_steps thread steps told, ask_opens n steps number a.x a.ask)))

    -- ---- one ask
    in_one : (thread : ℕ) (steps : List Step) → IsToldBy h thread steps → (number at number' at' : ℕ) (other other' : ItemData) → AskIn steps number at other → AskIn steps number' at' other'
        → (number ≡ number') × (at ≡ at')
    in_one thread steps told number at number' at' other other' a b =
        let one = one_ask n steps number number' a.x b.x (few thread steps told) a.ask b.ask in
        let both : event.Written at other ≡ event.Written at' other' = sym a.event_is ∙ ap (λ (x : Noted PortEntry). x.entry.event) one.1 ∙ b.event_is in
        (one.0, cc both)

    by_client : (number at : ℕ) (other : ItemData) (a : (k : ℕ) × (k < count) × AskIn (clients k).steps number at other) → opened.by.0 ≡ a.0
    by_client number at other (k, within, ask) = by_opener k (clients k).steps ((clients k).told within) number at other ask

    by_looper : (number at : ℕ) (other : ItemData) (a : (k : ℕ) × AskIn (accounts k).steps number at other) → opened.by.0 ≡ looper_thread a.0
    by_looper number at other (k, ask) = by_opener (looper_thread k) (accounts k).steps (accounts k).told number at other ask

    one_place : (number at number' at' : ℕ) (other other' : ItemData) → IsAskedAt number at other → IsAskedAt number' at' other' → (number ≡ number') × (at ≡ at')
    one_place number at number' at' other other' (inl a) (inl b) =
        let same : b.0 ≡ a.0 = omega (arith, by_client number at other a, by_client number' at' other' b) in
        in_one a.0 (clients a.0).steps ((clients a.0).told a.1) number at number' at' other other' a.2 (subst (λ (k : ℕ). AskIn (clients k).steps number' at' other') same b.2)
    one_place number at number' at' other other' (inl a) (inr b) = absurd (omega (arith, a.1, few_clients, by_client number at other a, by_looper number' at' other' b))
    one_place number at number' at' other other' (inr a) (inl b) = absurd (omega (arith, b.1, few_clients, by_client number' at' other' b, by_looper number at other a))
    one_place number at number' at' other other' (inr a) (inr b) =
        let same : b.0 ≡ a.0 = omega (arith, by_looper number at other a, by_looper number' at' other' b) in
        in_one (looper_thread a.0) (accounts a.0).steps (accounts a.0).told number at number' at' other other' a.1 (subst (λ (k : ℕ). AskIn (accounts k).steps number' at' other') same b.1)

    -- ---- where each item is from
    owes_so : (number at : ℕ) (other : ItemData) → IsAccepted h n number at other → (e : PortEntry) (m : Noted PortEntry) → m.entry ≡ e → e.event ≡ event.Written at other → writes_owing n m.entry.event ≡ true
    owes_so number at other is e m same event_is = ap (λ (k : PortEntry). writes_owing n k.event) same ∙ ap (writes_owing n) event_is ∙ slot_owes n other.duty is.owed

    came_on : (number at : ℕ) (other : ItemData) (k : ℕ) (x : Noted PortEntry) → Contains (port_entries number (accounts k).steps) x → x.entry.event ≡ event.Written at other
        → (entry : EntryData) × Contains (desk_list h k) entry × SendsOn n k entry number x → CameFrom h n number at other
    came_on number at other k x there event_is (entry, at_desk, so) =
        let account = accounts k in
        let off = account.off entry at_desk so.owed so.sent_on in
        let both : Some so.item ≡ Some off.item = sym so.item_is ∙ off.item_is in
        let same : so.item ≡ off.item = cc both in
        let is : other ≡ forwarded_item so.item so.popped = same_item at so.position other (forwarded_item so.item so.popped) (sym event_is ∙ so.written_is) in
        record {
          sender = k;
          place = off.position;
          given = off.item;
          accepted = off.accepted;
          sent = record {
            up = so.up;
            sent_on = off.was;
            to_it = off.to_it number so.to_it;
            popped = so.popped;
            more = subst (λ (i : ItemData). i.popped ≤ so.popped) same so.more;
            item_is = is ∙ ap (λ (i : ItemData). forwarded_item i so.popped) same;
            written = written_by h (looper_thread k) account.steps account.told number x there at other event_is;
          };
        }

    is_from : (number at : ℕ) (other : ItemData) → IsAccepted h n number at other → IsAskedAt number at other ⊎ CameFrom h n number at other
    is_from number at other is =
        let w = written_at (port_list h number) at (record { position = at; item = other }) is.accepted in
        let of : IsClientOrLooper h count w.entry.by.0 =
        All-contains (λ (entry : PortEntry). IsClientOrLooper h count entry.by.0) (port_list h number) w.entry (port_makers number) (parted_in (port_list h number) w.entry w.before w.behind w.there) in
        ⊎_elim
        (λ (within : w.entry.by.0 < count).
        let client = clients w.entry.by.0 in
        let m = step_of h w.entry.by.0 client.steps (client.told within) number w.before w.entry w.behind w.there refl in
        let event_is : m.0.entry.event ≡ event.Written at other = ap (λ (k : PortEntry). k.event) m.2 ∙ w.event_is in
        ⊎_elim (λ (ask : HasAsk n number m.0 client.steps). inl (inl (w.entry.by.0, within, record { x = m.0; ask = ask; event_is = event_is })))
        (λ (none : (entry : EntryData) × Contains [] entry × SendsOn n 0 entry number m.0). absurd (none_in none.0 none.1))
        (client.sends.wrote number m.0 m.1 (owes_so number at other is w.entry m.0 m.2 w.event_is)))
        (λ (one : (k : ℕ) × (k < length h.ports.items) × (w.entry.by.0 ≡ looper_thread k)).
        let account = accounts one.0 in
        let m = step_of h (looper_thread one.0) account.steps account.told number w.before w.entry w.behind w.there one.2 in
        let event_is : m.0.entry.event ≡ event.Written at other = ap (λ (k : PortEntry). k.event) m.2 ∙ w.event_is in
        ⊎_elim (λ (ask : HasAsk n number m.0 account.steps). inl (inr (one.0, record { x = m.0; ask = ask; event_is = event_is })))
        (λ (on : (entry : EntryData) × Contains (desk_list h one.0) entry × SendsOn n one.0 entry number m.0). inr (came_on number at other one.0 m.0 m.1 event_is on))
        (account.sends.wrote number m.0 m.1 (owes_so number at other is w.entry m.0 m.2 w.event_is)))
        of

    -- ---- the ask
    pub record TheAsk : Type 0 where
      pub number : ℕ
      pub at : ℕ
      pub item : ItemData
      pub asked : IsAskedAt number at item
      pub accepted : IsAccepted h n number at item
      pub written : WasWrittenBy h number at item opened.by.0

    ask_of : (thread : ℕ) (steps : List Step) → IsToldBy h thread steps → ((number at : ℕ) (item : ItemData) → AskIn steps number at item → IsAskedAt number at item)
        → (looper : ℕ) × (x : Noted PortEntry) × HasAsk n looper x steps → TheAsk
    ask_of thread steps told is_asked (looper, x, ask) =
        let w = writes_item n x.entry.event ask.owed in
        let a : AskIn steps looper w.position w.item = record { x = x; ask = ask; event_is = w.is } in
        let by = by_opener thread steps told looper w.position w.item a in
        let written = written_by h thread steps told looper x (ask_there n looper x steps ask) w.position w.item w.is in
        record {
          number = looper;
          at = w.position;
          item = w.item;
          asked = is_asked looper w.position w.item a;
          accepted = accepted_of looper w.position w.item thread written w.owed;
          written = subst (WasWrittenBy h looper w.position w.item) (sym by) written;
        }

    pub the_ask : ((k : ℕ) × (k < count) × (1 ≤ how_many (at_slot (takes n)) (clients k).steps)) ⊎ ((k : ℕ) × (1 ≤ how_many (at_slot (takes n)) (accounts k).steps)) → TheAsk
    the_ask (inl (k, within, some)) = ask_of k (clients k).steps ((clients k).told within) (λ number at item a. inl (k, within, a)) ((clients k).sends.took some)
    the_ask (inr (k, some)) = ask_of (looper_thread k) (accounts k).steps (accounts k).told (λ number at item a. inr (k, a)) ((accounts k).sends.took some)

    module _ (ask : TheAsk) where
      pub came : (number at : ℕ) (other : ItemData) → IsAccepted h n number at other → ((number ≡ ask.number) × (at ≡ ask.at)) ⊎ CameFrom h n number at other
      came number at other is =
          ⊎_elim {C = ((number ≡ ask.number) × (at ≡ ask.at)) ⊎ CameFrom h n number at other}
          (λ (asked : IsAskedAt number at other). inl (one_place number at ask.number ask.at other ask.item asked ask.asked)) (λ (on : CameFrom h n number at other). inr on) (is_from number at other is)

      -- ---- the same message all the way
      record Descends (number : ℕ) (other : ItemData) : Type 0 where
        least : ask.number ≤ number
        same : IsSameMessage ask.item other

      asked_itself : (number at : ℕ) (other : ItemData) → IsAccepted h n number at other → number ≡ ask.number → at ≡ ask.at → Descends number other
      asked_itself number at other is same_number same_at =
          let there : slice_get (written_in (port_list h number)) at ≡ slice_get (written_in (port_list h ask.number)) ask.at = λ i. slice_get (written_in (port_list h (same_number i))) (same_at i) in
          let its : Taken = record { position = at; item = other } in
          let asked : Taken = record { position = ask.at; item = ask.item } in
          let same : other ≡ ask.item = same_taken its asked (sym is.accepted ∙ there ∙ ask.accepted.accepted) in
          let popped : other.popped ≡ ask.item.popped = ap (λ (i : ItemData). i.popped) same in
          record {
            least = omega (arith, same_number);
            same = record {
              flat = ap (λ (i : ItemData). i.flat) same;
              team = ap (λ (i : ItemData). i.team) same;
              dropped = ap (λ (i : ItemData). i.dropped) same;
              more = omega (arith, popped);
            };
          }

      sent_further : (number at : ℕ) (other : ItemData) → (c : CameFrom h n number at other) → Descends c.sender c.given → Descends number other
      sent_further number at other c d =
          let is = c.sent.item_is in
          let popped : other.popped ≡ c.sent.popped = ap (λ (i : ItemData). i.popped) is in
          record {
            least = omega (arith, d.least, c.sent.up);
            same = record {
              flat = ap (λ (i : ItemData). i.flat) is ∙ d.same.flat;
              team = ap (λ (i : ItemData). i.team) is ∙ d.same.team;
              dropped = ap (λ (i : ItemData). i.dropped) is ∙ d.same.dropped;
              more = omega (arith, popped, c.sent.more, d.same.more);
            };
          }

      descends_below : (bound number at : ℕ) (other : ItemData) → number < bound → IsAccepted h n number at other → Descends number other
      descends_below zero number at other lt is = absurd (omega (arith, lt))
      descends_below (suc bound) number at other lt is =
          ⊎_elim (λ (first : (number ≡ ask.number) × (at ≡ ask.at)). asked_itself number at other is first.0 first.1)
          (λ (c : CameFrom h n number at other). sent_further number at other c (descends_below bound c.sender c.place c.given (omega (arith, lt, c.sent.up)) c.accepted))
          (came number at other is)

      pub least : (number at : ℕ) (other : ItemData) → IsAccepted h n number at other → ask.number ≤ number
      least number at other is = (descends_below (suc number) number at other (omega arith) is).least

      pub same : (number at : ℕ) (other : ItemData) → IsAccepted h n number at other → IsSameMessage ask.item other
      same number at other is = (descends_below (suc number) number at other (omega arith) is).same
