-- What each thread's diary tells of a slot, and all of them together: the sums over all clients and all loopers.
use Rattle.std.proofs.Common.{◌≡◌, ◌≢◌, ◌⊎◌, ℕ, zero, suc, ◌+◌, ◌<◌, ◌≤◌, ◌==◌, ◌&&◌, Bool, true, false, List, [], length, All, Any, Contains, option_map, slice_get, unwrap_or, refl, sym, ap, ◌∙◌, subst, inl, inr, ⊎_elim, arith}
use Rattle.std.proofs.lemmas.Bool.{cases_lt}
use Rattle.std.proofs.lemmas.List.Elements.{All-nil, All-weaker}
use Rattle.std.proofs.lemmas.Option.{slice_get_past}
use Rattle.ak_base.specs.Thread.{looper_thread}
use Rattle.ak_flatten.specs.declared.item.Taken.{Taken}
use Rattle.ak_flatten.specs.Item.{ItemData}
use Rattle.ak_turn.specs.Entries.{StartsWith}
use Rattle.ak_turn.specs.Noted.{Noted, noted}
use Rattle.ak_turn.proofs.Surface.{noted-others}
use Rattle.ak_port.specs.declared.port_entry.PortEntry.{PortEntry}
use Rattle.ak_port.specs.declared.reply_entry.ReplyEntry.{ReplyEntry}
use Rattle.ak_port.specs.declared.reply_entry.ReplyEvent.{ReplyEvent}
use Rattle.ak_port.specs.declared.reply_entry.ReplyEvent.TheVariants as slot
use Rattle.ak_port.specs.PortCalls as ports
use Rattle.ak_port.specs.PortCalls.{PortData}
use Rattle.ak_port.specs.PortMachine.{AreSteps, unmade, written_in}
use Rattle.ak_port.specs.Reply.{IsLegal, IsSettled, fills, takes}
use Rattle.ak_port.specs.ReplySeats as books
use Rattle.ak_desk.specs.Desk.{DeskData}
use Rattle.ak_desk.specs.Entry.{EntryData}
use Rattle.ak_diary.specs.declared.histories.Histories.{Histories}
use Rattle.ak_diary.specs.Step.{Step, at_roster, at_book, at_port, at_desk, saw_roster, saw_book, saw_port, lacked, book_entries, book_sights}
use Rattle.ak_headline.specs.Answers.{IsAccepted, cancels, opens}
use Rattle.ak_headline.specs.Run.{desk_list, port_list}
use Rattle.ak_headline.specs.Sends.{SendsSo}
use Rattle.ak_headline.specs.Tally.{SendsUp, Tally, at_slot, how_many, kept_in, owes_entry, owing_in, sends, sends_to, sent_on_in, was_sent_on, writes_owing}
use Rattle.ak_headline.proofs.Asking.{none_in}
use Rattle.ak_headline.proofs.Clients.{Client, IsToldBy}
use Rattle.ak_headline.proofs.Counting.{add_none}
use Rattle.ak_headline.proofs.Counts.{how_many_most, one_if}
use Rattle.ak_headline.proofs.Once.{opened_once, settled_counts}
use Rattle.ak_headline.proofs.Replies.{HasGone, IsOff, IsPaid}
use Rattle.ak_headline.proofs.Resting.{RestsAt}
use Rattle.ak_headline.proofs.SendsTold.{sends_nothing}
use Rattle.ak_headline.proofs.Shares.{IsClientOrLooper, made_is_noted, made_so, parted, steps_at_book, steps_at_port, steps_at_ports}
use Rattle.ak_headline.proofs.Sums.{total, total_most, total_none, total_one, total_same, total_some, total_sum, total_swap, total_two}

-- ---- one looper
abbrev pub writes_at : Histories → ℕ → ℕ → ℕ
writes_at h n looper = how_many (λ (entry : PortEntry). writes_owing n entry.event) (port_list h looper)

-- what the looper's thread did, and what became of the items of its port
pub record Account (h : Histories) (short : List ℕ) (n k : ℕ) : Type 0 where
  pub steps : List Step
  pub left : List Taken
  pub told : IsToldBy h (looper_thread k) steps
  pub tally : Tally n (written_in (port_list h k)) (desk_list h k) left steps
  pub accepted : writes_at h n k ≡ sent_on_in n (desk_list h k) + (kept_in n (written_in (port_list h k)) (desk_list h k) + owing_in n left)
  pub up : SendsUp n k (desk_list h k) steps
  pub sends : SendsSo n k (desk_list h k) steps
  pub off : (entry : EntryData) → Contains (desk_list h k) entry → owes_entry n entry ≡ true → was_sent_on entry ≡ true → IsOff h n k entry
  pub legal : (taker : ℕ) × AreSteps taker unmade (port_list h k)
  pub became : (at : ℕ) (other : ItemData) → IsAccepted h n k at other → RestsAt n (written_in (port_list h k)) (desk_list h k) left at ⊎ HasGone h n k at other
  pub paid : (text : List ℕ) (x : Noted ReplyEntry) → Contains (book_entries steps) x → x.entry.event ≡ slot.Filled n text → IsPaid h short n k left text

-- ---- what all of them come to
abbrev pub in_book : Histories → (ReplyEvent → Bool) → ℕ
in_book h does = how_many (λ (entry : ReplyEntry). does entry.event) h.book

abbrev pub in_book_by : Histories → ℕ → (ReplyEvent → Bool) → ℕ
in_book_by h thread does = made_so books.maker_of (λ (entry : ReplyEntry). does entry.event) thread h.book

abbrev pub rested_in : (h : Histories) (short : List ℕ) (n : ℕ) → ((k : ℕ) → Account h short n k) → ℕ → ℕ
rested_in h short n accounts k = kept_in n (written_in (port_list h k)) (desk_list h k) + owing_in n (accounts k).left

-- one thread opened the slot and took from it
pub record HasAsked (h : Histories) (n : ℕ) : Type 0 where
  pub thread : ℕ
  pub opens_it : 1 ≤ in_book_by h thread (opens n)
  pub takes_it : 1 ≤ in_book_by h thread (takes n)

-- the slot was opened, filled and taken once, and not cancelled; and one item alone came to rest, at the looper that filled it
pub record IsEachOnce (h : Histories) (short : List ℕ) (n : ℕ) (accounts : (k : ℕ) → Account h short n k) : Type 0 where
  pub opened : in_book h (opens n) ≡ 1
  pub filled : in_book h (fills n) ≡ 1
  pub taken : in_book h (takes n) ≡ 1
  pub cancelled : in_book h (cancels n) ≡ 0
  pub asked : HasAsked h n
  pub looper : ℕ
  pub within : looper < length h.ports.items
  pub fills_it : 1 ≤ in_book_by h (looper_thread looper) (fills n)
  pub alone : (j : ℕ) → j < length h.ports.items → 1 ≤ rested_in h short n accounts j → j ≡ looper
  pub few : rested_in h short n accounts looper ≤ 1

-- ---- where there is no looper
module _ (h : Histories) (k : ℕ) (none : length h.ports.items ≤ k) where
  pub no_port : port_list h k ≡ []
  no_port = ap (λ o. unwrap_or (option_map (λ (port : PortData). port.entries) o) []) (slice_get_past h.ports.items k none)

  pub no_desk : length h.desks.items ≡ length h.ports.items → desk_list h k ≡ []
  no_desk each = ap (λ o. unwrap_or (option_map (λ (desk : DeskData). desk.entries) o) []) (slice_get_past h.desks.items k (omega (arith, each, none)))

  -- its thread made no entry
  not_of_it : (count thread : ℕ) → count ≤ looper_thread 0 → IsClientOrLooper h count thread → thread ≢ looper_thread k
  not_of_it count thread few of e =
      ⊎_elim (λ (client : thread < count). absurd (omega (arith, e, client, few)))
      (λ (one : (looper : ℕ) × (looper < length h.ports.items) × (thread ≡ looper_thread looper)). absurd (omega (arith, e, one.1, one.2, none))) of

  noted_none : {L : Type 0} (by : L → ℕ) (xs : List L) (count : ℕ) → count ≤ looper_thread 0 → All (λ x. IsClientOrLooper h count (by x)) xs → noted by (looper_thread k) xs ≡ []
  noted_none by xs count few all =
      noted-others by (looper_thread k) [] xs (All-weaker (λ x. IsClientOrLooper h count (by x)) (λ x. by x ≢ looper_thread k) (λ x of. not_of_it count (by x) few of) xs all)

  pub account_none : (short : List ℕ) (n : ℕ) → length h.desks.items ≡ length h.ports.items → (count : ℕ) → count ≤ looper_thread 0 → All (λ (entry : ReplyEntry). IsClientOrLooper h count entry.by.0) h.book
      → ((looper : ℕ) → All (λ (entry : PortEntry). IsClientOrLooper h count entry.by.0) (port_list h looper)) → Account h short n k
  account_none short n each count few book_makers port_makers = record {
    steps = [];
    left = [];
    told = record {
      at_book = noted_none books.maker_of h.book count few book_makers;
      at_ports = λ looper. noted_none ports.by_number (port_list h looper) count few (port_makers looper);
      book_seen = All-nil (StartsWith h.book);
    };
    tally = subst (λ (desk : List EntryData). Tally n (written_in (port_list h k)) desk [] []) (sym (no_desk each))
        (record { asks = 0; sent = refl; opened = omega arith; took = refl; filled = omega arith; settled = inl refl });
    accepted =
        ap (how_many (λ (entry : PortEntry). writes_owing n entry.event)) no_port
        ∙ ap (λ (desk : List EntryData). sent_on_in n desk + (kept_in n (written_in (port_list h k)) desk + owing_in n [])) (sym (no_desk each));
    up = λ looper least none_taken. refl;
    sends = subst (λ (desk : List EntryData). SendsSo n k desk []) (sym (no_desk each)) (sends_nothing n k (λ looper. ⊥) 0 [] (add_none (λ looper. ⊥) n));
    off = λ entry there owed sent_on. absurd (none_in entry (subst (λ (desk : List EntryData). Contains desk entry) (no_desk each) there));
    legal = (0, subst (AreSteps 0 unmade) (sym no_port) tt);
    became = λ at other is. let at_none = ap (λ (port : List PortEntry). slice_get (written_in port) at) (sym no_port) ∙ is.accepted in absurd (cc at_none);
    paid = λ text x there is. absurd (omega (arith, there.1));
  }

-- ---- steps at one port are steps
one_of_both : (a b : Bool) → one_if (a && b) ≤ one_if b
one_of_both true b = omega arith
one_of_both false true = omega arith
one_of_both false false = omega arith

at_one_port : (n looper : ℕ) (step : Step) → one_if (sends_to n looper step) ≤ one_if (sends n step)
at_one_port n looper (at_roster m) = omega arith
at_one_port n looper (at_book m) = omega arith
at_one_port n looper (at_port number m) = one_of_both (number == looper) (writes_owing n m.entry.event)
at_one_port n looper (at_desk number m) = omega arith
at_one_port n looper (saw_roster seen) = omega arith
at_one_port n looper (saw_book seen) = omega arith
at_one_port n looper (saw_port number seen) = omega arith
at_one_port n looper lacked = omega arith

sends_some : (n looper : ℕ) (steps : List Step) → how_many (sends_to n looper) steps ≤ how_many (sends n) steps
sends_some n looper steps = how_many_most (sends_to n looper) (sends n) (at_one_port n looper) steps

-- ---- all together
module _ (h : Histories) (short : List ℕ) (n : ℕ) (accounts : (k : ℕ) → Account h short n k) (count : ℕ) (few_clients : count ≤ looper_thread 0) (clients : (k : ℕ) → Client h n count k)
    (book_makers : All (λ (entry : ReplyEntry). IsClientOrLooper h count entry.by.0) h.book) (port_makers : (looper : ℕ) → All (λ (entry : PortEntry). IsClientOrLooper h count entry.by.0) (port_list h looper))
    (legal : IsLegal h.book) where
  abbrev all_clients : (ℕ → ℕ) → ℕ
  all_clients f = total f count

  abbrev all_of : (ℕ → ℕ) → ℕ
  all_of f = total f (length h.ports.items)

  abbrev client_asked : ℕ → ℕ
  client_asked k = (clients k).tally.asks

  abbrev asked : ℕ → ℕ
  asked k = (accounts k).tally.asks

  abbrev all_asked : ℕ
  all_asked = all_clients client_asked + all_of asked

  abbrev sent_on : ℕ → ℕ
  sent_on k = sent_on_in n (desk_list h k)

  abbrev rested : ℕ → ℕ
  rested k = rested_in h short n accounts k

  abbrev client_did : (ReplyEvent → Bool) → ℕ → ℕ
  client_did does k = how_many (at_slot does) (clients k).steps

  abbrev did : (ReplyEvent → Bool) → ℕ → ℕ
  did does k = how_many (at_slot does) (accounts k).steps

  -- ---- the book
  pub made_at_book : (does : ReplyEvent → Bool) (thread : ℕ) (steps : List Step) → IsToldBy h thread steps → in_book_by h thread does ≡ how_many (at_slot does) steps
  made_at_book does thread steps told =
      made_is_noted books.maker_of (λ (entry : ReplyEntry). does entry.event) thread h.book ∙ ap (how_many (λ (m : Noted ReplyEntry). does m.entry.event)) told.at_book ∙ steps_at_book does steps

  pub book_total : (does : ReplyEvent → Bool) → in_book h does ≡ all_clients (client_did does) + all_of (did does)
  book_total does =
      let test : ReplyEntry → Bool = λ entry. does entry.event in
      omega (
        arith,
        parted books.maker_of test h count few_clients h.book book_makers,
        total_same (λ k. made_so books.maker_of test k h.book) (client_did does) count (λ k lt. made_at_book does k (clients k).steps ((clients k).told lt)),
        total_same (λ k. made_so books.maker_of test (looper_thread k) h.book) (did does) (length h.ports.items)
            (λ k lt. made_at_book does (looper_thread k) (accounts k).steps (accounts k).told),
      )

  -- ---- the ports
  made_at_port : (looper thread : ℕ) (steps : List Step) → IsToldBy h thread steps
      → made_so ports.by_number (λ (entry : PortEntry). writes_owing n entry.event) thread (port_list h looper) ≡ how_many (sends_to n looper) steps
  made_at_port looper thread steps told =
      made_is_noted ports.by_number (λ (entry : PortEntry). writes_owing n entry.event) thread (port_list h looper)
      ∙ ap (how_many (λ (m : Noted PortEntry). writes_owing n m.entry.event)) (told.at_ports looper) ∙ steps_at_port n looper steps

  abbrev client_to : ℕ → ℕ → ℕ
  client_to looper k = how_many (sends_to n looper) (clients k).steps

  abbrev sent_to : ℕ → ℕ → ℕ
  sent_to looper k = how_many (sends_to n looper) (accounts k).steps

  port_total : (looper : ℕ) → writes_at h n looper ≡ all_clients (client_to looper) + all_of (sent_to looper)
  port_total looper =
      let test : PortEntry → Bool = λ entry. writes_owing n entry.event in
      omega (
        arith,
        parted ports.by_number test h count few_clients (port_list h looper) (port_makers looper),
        total_same (λ k. made_so ports.by_number test k (port_list h looper)) (client_to looper) count (λ k lt. made_at_port looper k (clients k).steps ((clients k).told lt)),
        total_same (λ k. made_so ports.by_number test (looper_thread k) (port_list h looper)) (sent_to looper) (length h.ports.items)
            (λ k lt. made_at_port looper (looper_thread k) (accounts k).steps (accounts k).told),
      )

  -- all that a thread sent is at some port
  all_sent : (thread : ℕ) (steps : List Step) → IsToldBy h thread steps → how_many (sends n) steps ≡ all_of (λ looper. how_many (sends_to n looper) steps)
  all_sent thread steps told =
      steps_at_ports n (length h.ports.items) steps (λ looper past. sym (told.at_ports looper) ∙ ap (noted ports.by_number thread) (no_port h looper past))

  abbrev client_sends : ℕ → ℕ
  client_sends k = how_many (sends n) (clients k).steps

  abbrev all_steps : ℕ → ℕ
  all_steps k = how_many (sends n) (accounts k).steps

  ports_total : all_of (writes_at h n) ≡ all_clients client_sends + all_of all_steps
  ports_total =
      let loopers = length h.ports.items in
      omega (
        arith,
        total_same (writes_at h n) (λ looper. all_clients (client_to looper) + all_of (sent_to looper)) loopers (λ looper lt. port_total looper),
        total_sum (λ looper. all_clients (client_to looper)) (λ looper. all_of (sent_to looper)) loopers,
        total_swap client_to loopers count,
        total_same client_sends (λ k. all_of (λ looper. client_to looper k)) count (λ k lt. all_sent k (clients k).steps ((clients k).told lt)),
        total_swap sent_to loopers loopers,
        total_same all_steps (λ k. all_of (λ looper. sent_to looper k)) loopers (λ k lt. all_sent (looper_thread k) (accounts k).steps (accounts k).told),
      )

  -- ---- as many asks as items that came to rest
  client_sent : (k : ℕ) → client_sends k ≡ client_asked k
  client_sent k = omega (arith, (clients k).tally.sent)

  pub balance : all_asked ≡ all_of rested
  balance =
      let loopers = length h.ports.items in
      omega (
        arith,
        ports_total,
        total_same client_sends client_asked count (λ k lt. client_sent k),
        total_same all_steps (λ k. asked k + sent_on k) loopers (λ k lt. (accounts k).tally.sent),
        total_sum asked sent_on loopers,
        total_same (writes_at h n) (λ k. sent_on k + rested k) loopers (λ k lt. (accounts k).accepted),
        total_sum sent_on rested loopers,
      )

  -- ---- at most one
  pub few : all_asked + (all_clients (client_did (cancels n)) + all_of (did (cancels n))) ≤ in_book h (opens n)
  few =
      let loopers = length h.ports.items in
      omega (
        arith,
        book_total (opens n),
        total_most (λ k. client_asked k + client_did (cancels n) k) (client_did (opens n)) count (λ k lt. (clients k).tally.opened),
        total_sum client_asked (client_did (cancels n)) count,
        total_most (λ k. asked k + did (cancels n) k) (did (opens n)) loopers (λ k lt. (accounts k).tally.opened),
        total_sum asked (did (cancels n)) loopers,
      )

  -- ---- without an ask there is no item
  module _ (none_asked : all_asked ≡ 0) where
    asks_none : (k : ℕ) → k < length h.ports.items → asked k ≡ 0
    asks_none k lt = omega (arith, total_one asked (length h.ports.items) k lt, none_asked)

    client_asks_none : (k : ℕ) → k < count → client_asked k ≡ 0
    client_asks_none k lt = omega (arith, total_one client_asked count k lt, none_asked)

    sends_none : (looper : ℕ) → ((k : ℕ) → k < looper → writes_at h n k ≡ 0) → (k : ℕ) → k < length h.ports.items → sent_to looper k ≡ 0
    sends_none looper below k lt =
        ⊎_elim
        (λ (less : k < looper). omega (arith, below k less, (accounts k).accepted, (accounts k).tally.sent, asks_none k lt, sends_some n looper (accounts k).steps))
        (λ (more : looper ≤ k). (accounts k).up looper more (omega (arith, (accounts k).tally.took, asks_none k lt))) (cases_lt k looper)

    client_sends_none : (looper k : ℕ) → k < count → client_to looper k ≡ 0
    client_sends_none looper k lt = omega (arith, client_sent k, client_asks_none k lt, sends_some n looper (clients k).steps)

    pub none_below : (bound looper : ℕ) → looper < bound → writes_at h n looper ≡ 0
    none_below zero looper lt = absurd (omega (arith, lt))
    none_below (suc bound) looper lt =
        omega (
          arith,
          port_total looper,
          total_none (client_to looper) count (client_sends_none looper),
          total_none (sent_to looper) (length h.ports.items) (sends_none looper (λ k less. none_below bound k (omega (arith, less, lt)))),
        )

  some_asked : (looper : ℕ) → 1 ≤ writes_at h n looper → 1 ≤ all_asked
  some_asked looper some =
      ⊎_elim (λ (lt : 0 < all_asked). omega (arith, lt))
      (λ (none : all_asked ≤ 0). absurd (omega (arith, some, none_below (omega (arith, none)) (suc looper) looper (omega arith)))) (cases_lt 0 all_asked)

  -- ---- where one was accepted, each number is 1 or 0
  module _ (looper : ℕ) (some : 1 ≤ writes_at h n looper) where
    opened_one : in_book h (opens n) ≡ 1
    opened_one = omega (arith, opened_once n h.book legal, few, some_asked looper some)

    asked_one : all_asked ≡ 1
    asked_one = omega (arith, opened_one, few, some_asked looper some)

    rested_one : all_of rested ≡ 1
    rested_one = omega (arith, balance, asked_one)

    cancelled_none : in_book h (cancels n) ≡ 0
    cancelled_none = omega (arith, book_total (cancels n), opened_one, few, asked_one)

    taken_one : in_book h (takes n) ≡ 1
    taken_one =
        omega (
          arith,
          book_total (takes n),
          total_same (client_did (takes n)) client_asked count (λ k lt. (clients k).tally.took),
          total_same (did (takes n)) asked (length h.ports.items) (λ k lt. (accounts k).tally.took),
          asked_one,
        )

    -- one thread took from it
    pub who_took : ((k : ℕ) × (k < count) × (1 ≤ client_did (takes n) k)) ⊎ ((k : ℕ) × (1 ≤ did (takes n) k))
    who_took =
        ⊎_elim {C = ((k : ℕ) × (k < count) × (1 ≤ client_did (takes n) k)) ⊎ ((k : ℕ) × (1 ≤ did (takes n) k))}
        (λ (by_clients : 0 < all_clients (client_did (takes n))). inl (total_some (client_did (takes n)) count (omega (arith, by_clients))))
        (λ (none : all_clients (client_did (takes n)) ≤ 0).
        let at = total_some (did (takes n)) (length h.ports.items) (omega (arith, taken_one, book_total (takes n), none)) in
        inr (at.0, at.2)) (cases_lt 0 (all_clients (client_did (takes n))))

    -- who asked opened the slot, and took from it
    by_asker : (thread : ℕ) (steps : List Step) → IsToldBy h thread steps → (asks : ℕ) → 1 ≤ asks → asks + how_many (at_slot (cancels n)) steps ≤ how_many (at_slot (opens n)) steps
        → how_many (at_slot (takes n)) steps ≡ asks → HasAsked h n
    by_asker thread steps told asks one opened took = record {
      thread = thread;
      opens_it = omega (arith, made_at_book (opens n) thread steps told, opened, one);
      takes_it = omega (arith, made_at_book (takes n) thread steps told, took, one);
    }

    asker : HasAsked h n
    asker =
        ⊎_elim
        (λ (by_clients : 0 < all_clients client_asked).
        let at = total_some client_asked count (omega (arith, by_clients)) in
        let client = clients at.0 in
        by_asker at.0 client.steps (client.told at.1) client.tally.asks at.2 client.tally.opened client.tally.took)
        (λ (none : all_clients client_asked ≤ 0).
        let at = total_some asked (length h.ports.items) (omega (arith, asked_one, none)) in
        let account = accounts at.0 in
        by_asker (looper_thread at.0) account.steps account.told account.tally.asks at.2 account.tally.opened account.tally.took)
        (cases_lt 0 (all_clients client_asked))

    -- ---- it was filled once
    -- by no client
    clients_fill_none : all_clients (client_did (fills n)) ≡ 0
    clients_fill_none = total_none (client_did (fills n)) count (λ k lt. omega (arith, (clients k).tally.filled))

    all_filled : all_of (did (fills n)) ≤ 1
    all_filled = omega (arith, rested_one, total_most (did (fills n)) rested (length h.ports.items) (λ k lt. (accounts k).tally.filled))

    -- a thread that found it settled shows an entry that fills it
    seen_filled : (steps : List Step) → All (StartsWith h.book) (book_sights steps) → Any (IsSettled n) (book_sights steps) → 1 ≤ in_book h (fills n)
    seen_filled steps seen any =
        let starts : StartsWith h.book any.1 = subst (StartsWith h.book) any.3 (seen any.0 any.1 any.2) in
        omega (arith, settled_counts n h.book any.1 starts any.4, cancelled_none)

    some_filled : 1 ≤ in_book h (fills n)
    some_filled =
        let at = total_some rested (length h.ports.items) (omega (arith, rested_one)) in
        let k = at.0 in
        ⊎_elim
        (λ (all : did (fills n) k ≡ rested k). omega (arith, all, at.2, book_total (fills n), total_one (did (fills n)) (length h.ports.items) k at.1))
        (λ (any : Any (IsSettled n) (book_sights (accounts k).steps)). seen_filled (accounts k).steps (accounts k).told.book_seen any) (accounts k).tally.settled

    filled_one : in_book h (fills n) ≡ 1
    filled_one = omega (arith, some_filled, all_filled, clients_fill_none, book_total (fills n))

    filler : (k : ℕ) × (k < length h.ports.items) × (1 ≤ did (fills n) k)
    filler = total_some (did (fills n)) (length h.ports.items) (omega (arith, filled_one, clients_fill_none, book_total (fills n)))

    filler_rests : 1 ≤ rested filler.0
    filler_rests = omega (arith, filler.2, (accounts filler.0).tally.filled)

    alone : (j : ℕ) → j < length h.ports.items → 1 ≤ rested j → j ≡ filler.0
    alone j lt rests =
        ⊎_elim (λ (same : j ≡ filler.0). same)
        (λ (both : rested j + rested filler.0 ≤ all_of rested). absurd (omega (arith, both, rests, filler_rests, rested_one)))
        (total_two rested (length h.ports.items) j filler.0 lt filler.1)

    pub each_once : IsEachOnce h short n accounts
    each_once = record {
      opened = opened_one;
      filled = filled_one;
      taken = taken_one;
      cancelled = cancelled_none;
      asked = asker;
      looper = filler.0;
      within = filler.1;
      fills_it = omega (arith, filler.2, made_at_book (fills n) (looper_thread filler.0) (accounts filler.0).steps (accounts filler.0).told);
      alone = alone;
      few = omega (arith, rested_one, total_one rested (length h.ports.items) filler.0 filler.1);
    }
