-- Each accepted waiting send got one reply.
use Rattle.std.proofs.Common.{◌≡◌, ◌⊎◌, ℕ, suc, ◌<◌, ◌≤◌, ◌==◌, Bool, true, cond, List, [], ◌∷◌, length, map, filter, All, Contains, slice_get, refl, sym, ap, ◌∙◌, subst, inl, inr, ⊎_elim, arith, eq-eqb, eqb-true}
use Rattle.std.proofs.lemmas.Bool.{cases_lt}
use Rattle.std.proofs.lemmas.List.Elements.{All-weaker}
use Rattle.ak_base.specs.Thread.{looper_thread}
use Rattle.ak_flatten.specs.declared.item.Taken.{Taken}
use Rattle.ak_flatten.specs.Item.{ItemData}
use Rattle.ak_turn.specs.Entries.{made_by}
use Rattle.ak_turn.specs.Noted.{Noted, entry_of}
use Rattle.ak_turn.proofs.Surface.{noted_is_made}
use Rattle.ak_roster.specs.declared.head.AppHead.{AppHead}
use Rattle.ak_port.specs.declared.port_entry.PortEntry.{PortEntry}
use Rattle.ak_port.specs.declared.reply_entry.ReplyEntry.{ReplyEntry}
use Rattle.ak_port.specs.declared.reply_entry.ReplyEvent.{ReplyEvent}
use Rattle.ak_port.specs.declared.reply_entry.ReplyEvent.TheVariants as slot
use Rattle.ak_port.specs.PortMachine.{written_in}
use Rattle.ak_port.specs.Reply.{fills, takes}
use Rattle.ak_port.specs.ReplySeats as books
use Rattle.ak_desk.specs.Laws.{ForwardTellsReply, StateIsOne}
use Rattle.ak_diary.specs.declared.histories.Histories.{Histories}
use Rattle.ak_diary.specs.Laws.{AcceptedIsDispatchedThenLeft, EachIsDispatchedByRule, left_in}
use Rattle.ak_diary.specs.Looper.{thread_of}
use Rattle.ak_diary.specs.Step.{book_entries}
use Rattle.ak_headline.specs.Answers.{GotOneReply, IsAccepted, WasSentOn, WentOn, cancels, doing, opens, owes}
use Rattle.ak_headline.specs.Headline.{RunsAnswer}
use Rattle.ak_headline.specs.Run.{ActsIn, HasDone, HasLooper, IsRunWith, desk_list, port_list}
use Rattle.ak_headline.specs.Diaries.{LoopersPay, LoopersSendSo, LoopersSendUp, LoopersTally, MainAsksSo, MainTallies, SessionsAskSo, SessionsTally}
use Rattle.ak_headline.specs.Sends.{SendsSo}
use Rattle.ak_headline.specs.Tally.{SendsUp, at_slot, how_many, writes_owing}
use Rattle.ak_headline.proofs.Accounts.{Account, IsEachOnce, account_none, each_once, no_port, who_took}
use Rattle.ak_headline.proofs.Asked.{TheAsk, came, least, same, the_ask, went_on}
use Rattle.ak_headline.proofs.Clients.{Client, client, told_by}
use Rattle.ak_headline.proofs.Counts.{filter_both, first_meets, found_of, none_of, one_among, one_of, there_counts}
use Rattle.ak_headline.proofs.Replies.{HasGone, IsPaid, became, off, paid, port_owing}
use Rattle.ak_headline.proofs.Resting.{RestsAt, rests_counts, rests_once}
use Rattle.ak_headline.proofs.Shares.{IsClientOrLooper, client_or_looper}
use Rattle.ak_headline.proofs.Written.{written_owing}

form_of_fill : (n : ℕ) (e : ReplyEvent) → fills n e ≡ true → (text : List ℕ) × (e ≡ slot.Filled n text)
form_of_fill n (slot.Opened m) is = absurd (cc is)
form_of_fill n (slot.Filled m text) is = (text, ap (λ (k : ℕ). slot.Filled k text) (eqb-true m n is))
form_of_fill n (slot.Cancelled m) is = absurd (cc is)
form_of_fill n (slot.Taken m) is = absurd (cc is)

-- by whom the one entry of the book is that does so
pub made_by_whom : (h : Histories) (does : ReplyEvent → Bool) (thread : ℕ) (x : ReplyEntry) → doing does h.book ≡ x ∷ []
    → 1 ≤ how_many (λ (entry : ReplyEntry). does entry.event) (made_by books.maker_of thread h.book) → x.by.0 ≡ thread
made_by_whom h does thread x one some =
    eqb-true x.by.0 thread (one_among (λ (entry : ReplyEntry). does entry.event) (λ (entry : ReplyEntry). books.maker_of entry == thread) h.book x one some)

-- ---- from the accounts of all threads
module _ (h : Histories) (short : List ℕ) (n : ℕ) (accounts : (k : ℕ) → Account h short n k) (once : IsEachOnce h short n accounts) (count : ℕ) (few_clients : count ≤ looper_thread 0)
    (clients : (k : ℕ) → Client h n count k) (port_makers : (looper : ℕ) → All (λ (entry : PortEntry). IsClientOrLooper h count entry.by.0) (port_list h looper))
    (took : ((k : ℕ) × (k < count) × (1 ≤ how_many (at_slot (takes n)) (clients k).steps)) ⊎ ((k : ℕ) × (1 ≤ how_many (at_slot (takes n)) (accounts k).steps))) where
  abbrev looper : ℕ
  looper = once.looper

  abbrev account : Account h short n looper
  account = accounts looper

  opened : (x : ReplyEntry) × (doing (opens n) h.book ≡ x ∷ [])
  opened = one_of (doing (opens n) h.book) once.opened

  filled : (x : ReplyEntry) × (doing (fills n) h.book ≡ x ∷ [])
  filled = one_of (doing (fills n) h.book) once.filled

  taken : (x : ReplyEntry) × (doing (takes n) h.book ≡ x ∷ [])
  taken = one_of (doing (takes n) h.book) once.taken

  filled_by : filled.0.by.0 ≡ looper_thread looper
  filled_by = made_by_whom h (fills n) (looper_thread looper) filled.0 filled.1 once.fills_it

  filled_with : (text : List ℕ) × (filled.0.event ≡ slot.Filled n text)
  filled_with = form_of_fill n filled.0.event (first_meets (λ (entry : ReplyEntry). fills n entry.event) h.book filled.0 [] filled.1)

  -- it is one of the looper's steps
  mine : ReplyEntry → Bool
  mine entry = books.maker_of entry == looper_thread looper

  among_steps : filter (λ (entry : ReplyEntry). fills n entry.event) (map entry_of (book_entries account.steps)) ≡ filled.0 ∷ []
  unfolding mine
  among_steps =
      let test : ReplyEntry → Bool = λ entry. fills n entry.event in
      ap (λ l. filter test (map entry_of l)) (sym account.told.at_book) ∙ ap (filter test) (noted_is_made books.maker_of (looper_thread looper) h.book)
      ∙ filter_both test mine h.book ∙ ap (filter mine) filled.1
      ∙ ap (λ b. cond b (filled.0 ∷ []) []) (one_among test mine h.book filled.0 filled.1 once.fills_it)

  its_step : (x : Noted ReplyEntry) × Contains (book_entries account.steps) x × (entry_of x ≡ filled.0)
  its_step = found_of entry_of (λ (entry : ReplyEntry). fills n entry.event) (book_entries account.steps) filled.0 [] among_steps

  was_paid : IsPaid h short n looper account.left filled_with.0
  was_paid = account.paid filled_with.0 its_step.0 its_step.1 (ap (λ (entry : ReplyEntry). entry.event) its_step.2 ∙ filled_with.1)

  -- an item at another place was sent on
  at_no_port : (number at : ℕ) (other : ItemData) → IsAccepted h n number at other → length h.ports.items ≤ number → ⊥
  at_no_port number at other is past = let none = ap (λ (port : List PortEntry). slice_get (written_in port) at) (sym (no_port h number past)) ∙ is.accepted in absurd (cc none)

  at_looper : (number at : ℕ) → number ≡ looper → RestsAt n (written_in (port_list h number)) (desk_list h number) (accounts number).left at → at ≡ was_paid.position
  at_looper number at same rests =
      rests_once n (written_in (port_list h looper)) (desk_list h looper) account.left at was_paid.position once.few (subst (λ (k : ℕ). RestsAt n (written_in (port_list h k)) (desk_list h k) (accounts k).left at) same rests) was_paid.rests

  where_it_rests : (number at : ℕ) (other : ItemData) → IsAccepted h n number at other → RestsAt n (written_in (port_list h number)) (desk_list h number) (accounts number).left at → (number ≡ looper) × (at ≡ was_paid.position)
  where_it_rests number at other is rests =
      let within : number < length h.ports.items =
      ⊎_elim (λ (lt : number < length h.ports.items). lt) (λ (past : length h.ports.items ≤ number). absurd (at_no_port number at other is past)) (cases_lt number (length h.ports.items)) in
      let same = once.alone number within (rests_counts n (written_in (port_list h number)) (desk_list h number) (accounts number).left at rests) in
      (same, at_looper number at same rests)

  others : (number at : ℕ) (other : ItemData) → IsAccepted h n number at other → ((number ≡ looper) × (at ≡ was_paid.position)) ⊎ WasSentOn h number at other
  others number at other is =
      ⊎_elim (λ (rests : RestsAt n (written_in (port_list h number)) (desk_list h number) (accounts number).left at). inl (where_it_rests number at other is rests)) (λ (gone : HasGone h n number at other). inr gone.was)
      ((accounts number).became at other is)

  goes_on : (number at : ℕ) (other : ItemData) → IsAccepted h n number at other → ((number ≡ looper) × (at ≡ was_paid.position)) ⊎ WentOn h n number at other
  goes_on number at other is =
      ⊎_elim (λ (rests : RestsAt n (written_in (port_list h number)) (desk_list h number) (accounts number).left at). inl (where_it_rests number at other is rests))
      (λ (gone : HasGone h n number at other). inr (went_on h short n accounts number at other is gone)) ((accounts number).became at other is)

  -- the ask
  abbrev Asked : Type 0
  Asked = TheAsk h short n accounts count few_clients clients port_makers opened.0 opened.1

  ask : Asked
  ask = the_ask h short n accounts count few_clients clients port_makers opened.0 opened.1 took

  pub got_one_reply : GotOneReply h short n
  got_one_reply = record {
    opened = opened.0;
    opened_once = opened.1;
    filled = filled.0;
    filled_once = filled.1;
    taken = taken.0;
    taken_once = taken.1;
    by_opener = made_by_whom h (takes n) once.asked.thread taken.0 taken.1 once.asked.takes_it ∙ sym (made_by_whom h (opens n) once.asked.thread opened.0 opened.1 once.asked.opens_it);
    not_cancelled = none_of (doing (cancels n) h.book) once.cancelled;
    looper = looper;
    position = was_paid.position;
    item = was_paid.item;
    last = was_paid.accepted;
    by_looper = filled_by;
    text = filled_with.0;
    text_is = filled_with.1;
    by_rule = was_paid.by_rule;
    others = others;
    went_on = goes_on;
    asked_looper = ask.number;
    asked_position = ask.at;
    asked = ask.item;
    first = ask.accepted;
    by_asker = ask.written;
    came = came h short n accounts count few_clients clients port_makers opened.0 opened.1 ask;
    least = least h short n accounts count few_clients clients port_makers opened.0 opened.1 ask;
    same = same h short n accounts count few_clients clients port_makers opened.0 opened.1 ask;
  }

-- ---- of a run
module _ (all : AcceptedIsDispatchedThenLeft) (law : EachIsDispatchedByRule) (one : StateIsOne) (forward : ForwardTellsReply) (tally : LoopersTally) (up : LoopersSendUp) (pay : LoopersPay) (of_main : MainTallies) (of_sessions : SessionsTally) (so : LoopersSendSo) (main_so : MainAsksSo)
    (sessions_so : SessionsAskSo) where
  module _ (sessions : ℕ) (heads : List AppHead) (short : List ℕ) (h : Histories) (run : IsRunWith sessions heads short h) (n : ℕ) where
    account_of : (k : ℕ) → HasLooper heads short h k → Account h short n k
    account_of k has =
        let l = has.facts in
        let left : List Taken = left_in l has.steps has.diary.legal in
        record {
          steps = has.steps;
          left = left;
          told = told_by h (looper_thread k) has.steps (subst (λ (number : ℕ). HasDone h (looper_thread number) has.steps) has.number_is has.done);
          tally = tally l has.steps (port_list h k) (desk_list h k) has.diary n;
          accepted = port_owing all law one forward pay heads short h k has n;
          up = subst (λ (number : ℕ). SendsUp n number (desk_list h k) has.steps) has.number_is (up l has.steps (port_list h k) (desk_list h k) has.diary n);
          sends = subst (λ (number : ℕ). SendsSo n number (desk_list h k) has.steps) has.number_is (so l has.steps (port_list h k) (desk_list h k) has.diary n);
          off = off all law one forward pay heads short h k has n;
          legal = (thread_of l, has.diary.port_legal.steps);
          became = became all law one forward pay heads short h k has n;
          paid = paid all law one forward pay heads short h k has n;
        }

    -- main and the sessions
    abbrev pub count : ℕ
    count = suc sessions

    pub few_clients : count ≤ looper_thread 0
    few_clients = omega (arith, run.few_sessions)

    pub clients : (k : ℕ) → Client h n count k
    clients = client of_main main_so of_sessions sessions_so sessions heads short h run n

    pub book_makers : All (λ (entry : ReplyEntry). IsClientOrLooper h count entry.by.0) h.book
    book_makers =
        All-weaker (λ (entry : ReplyEntry). ActsIn h sessions entry.by.0) (λ (entry : ReplyEntry). IsClientOrLooper h count entry.by.0)
        (λ entry of. client_or_looper h sessions entry.by.0 of) h.book run.book_makers

    pub port_makers : (looper : ℕ) → All (λ (entry : PortEntry). IsClientOrLooper h count entry.by.0) (port_list h looper)
    port_makers looper =
        All-weaker (λ (entry : PortEntry). ActsIn h sessions entry.by.0) (λ (entry : PortEntry). IsClientOrLooper h count entry.by.0)
        (λ entry of. client_or_looper h sessions entry.by.0 of) (port_list h looper) (run.port_makers looper)

    pub accounts : (k : ℕ) → Account h short n k
    accounts k =
        ⊎_elim (λ (lt : k < length h.ports.items). account_of k (run.loopers k lt))
        (λ (past : length h.ports.items ≤ k). account_none h k past short n run.histories.each count few_clients book_makers port_makers) (cases_lt k (length h.ports.items))

    pub some_written : (k at : ℕ) (item : ItemData) → IsAccepted h n k at item → 1 ≤ how_many (λ (entry : PortEntry). writes_owing n entry.event) (port_list h k)
    some_written k at item is =
        let t : Taken = record { position = at; item = item } in
        omega (
          arith,
          written_owing n (port_list h k),
          there_counts (λ (taken : Taken). owes n taken.item.duty) (written_in (port_list h k)) at t is.accepted (ap (owes n) is.owed ∙ eq-eqb n n refl),
        )

    pub one_reply : (k at : ℕ) (item : ItemData) → IsAccepted h n k at item → GotOneReply h short n
    one_reply k at item is =
        let some = some_written k at item is in
        got_one_reply h short n accounts (each_once h short n accounts count few_clients clients book_makers port_makers run.histories.book k some) count few_clients clients port_makers
        (who_took h short n accounts count few_clients clients book_makers port_makers run.histories.book k some)

  pub runs_answer : RunsAnswer
  runs_answer sessions heads short h run n looper position item is = one_reply sessions heads short h run n looper position item is
