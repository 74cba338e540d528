-- No thread found a slot settled that it had opened or owed: so it made each fill and each cancel itself, and each slot that was opened got one reply, or was withdrawn.
use Rattle.std.proofs.Common.{◌≡◌, ◌⊎◌, ℕ, suc, ◌+◌, ◌<◌, ◌≤◌, Bool, List, [], ◌∷◌, length, All, Any, Some, refl, sym, ap, ◌∙◌, subst, inl, inr, ⊎_elim, arith, eq-eqb}
use Rattle.std.proofs.lemmas.Bool.{cases_lt}
use Rattle.std.proofs.lemmas.Option.{slice_get-get_or}
use Rattle.ak_base.specs.Thread.{looper_thread}
use Rattle.ak_flatten.specs.Item.{ItemData}
use Rattle.ak_turn.specs.Entries.{StartsWith}
use Rattle.ak_roster.specs.declared.head.AppHead.{AppHead}
use Rattle.ak_port.specs.declared.port_entry.PortEntry.{PortEntry}
use Rattle.ak_port.specs.declared.reply_entry.ReplyEntry.{ReplyEntry}
use Rattle.ak_port.specs.declared.reply_entry.ReplyEvent.{ReplyEvent}
use Rattle.ak_port.specs.Reply.{IsLegal, IsSettled, fills, takes}
use Rattle.ak_desk.specs.Laws.{ForwardTellsReply, StateIsOne}
use Rattle.ak_diary.specs.declared.histories.Histories.{Histories}
use Rattle.ak_diary.specs.Laws.{AcceptedIsDispatchedThenLeft, EachIsDispatchedByRule}
use Rattle.ak_diary.specs.Step.{Step, book_sights}
use Rattle.ak_headline.specs.Answers.{GotOneReply, IsAccepted, WasWithdrawn, cancels, doing, opens}
use Rattle.ak_headline.specs.Diaries.{LoopersPay, LoopersSendSo, LoopersSendUp, LoopersTally, MainAsksSo, MainTallies, SessionsAskSo, SessionsTally}
use Rattle.ak_headline.specs.Headline.{RunsEndSlots, RunsMissNone}
use Rattle.ak_headline.specs.Run.{HasDone, HasLooper, HasSession, IsRunWith, IsSession, desk_list, port_list}
use Rattle.ak_headline.specs.Tally.{sent_on_in}
use Rattle.ak_headline.proofs.Accounts.{Account, balance, book_total, each_once, few, in_book, in_book_by, made_at_book, none_below, rested_in, who_took, writes_at}
use Rattle.ak_headline.proofs.Clients.{Client, IsToldBy, told_by}
use Rattle.ak_headline.proofs.Counts.{none_of, one_of, there_counts}
use Rattle.ak_headline.proofs.LoopersSeeing.{all_due, diary_looks}
use Rattle.ak_headline.proofs.Once.{opened_once, settled_counts}
use Rattle.ak_headline.proofs.OneReply as replies
use Rattle.ak_headline.proofs.OneReply.{got_one_reply, made_by_whom}
use Rattle.ak_headline.proofs.Replies.{port_owing}
use Rattle.ak_headline.proofs.Seeing.{Found, Idle, IsSightless, Looks, main_looks, many, nothing_due, session_looks}
use Rattle.ak_headline.proofs.Shares.{IsClientOrLooper}
use Rattle.ak_headline.proofs.Sums.{total, total_less, total_most, total_none, total_same, total_some, total_sum}

-- ---- from the accounts of all threads
module _ (h : Histories) (short : List ℕ) (n : ℕ) (accounts : (k : ℕ) → Account h short n k) (count : ℕ) (few_clients : count ≤ looper_thread 0) (clients : (k : ℕ) → Client h n count k)
    (book_makers : All (λ (entry : ReplyEntry). IsClientOrLooper h count entry.by.0) h.book) (port_makers : (looper : ℕ) → All (λ (entry : PortEntry). IsClientOrLooper h count entry.by.0) (port_list h looper))
    (legal : IsLegal h.book) where
  abbrev loopers : ℕ
  loopers = length h.ports.items

  abbrev client_asked : ℕ → ℕ
  client_asked k = (clients k).tally.asks

  abbrev asked : ℕ → ℕ
  asked k = (accounts k).tally.asks

  abbrev all_asked : ℕ
  all_asked = total client_asked count + total asked loopers

  abbrev rested : ℕ → ℕ
  rested k = rested_in h short n accounts k

  abbrev client_did : (ReplyEvent → Bool) → ℕ → ℕ
  client_did does k = many does (clients k).steps

  abbrev did : (ReplyEvent → Bool) → ℕ → ℕ
  did does k = many does (accounts k).steps

  in_all : (does : ReplyEvent → Bool) → in_book h does ≡ total (client_did does) count + total (did does) loopers
  in_all does = book_total h short n accounts count few_clients clients book_makers port_makers legal does

  pub by_thread : (does : ReplyEvent → Bool) (thread : ℕ) (steps : List Step) → IsToldBy h thread steps → in_book_by h thread does ≡ many does steps
  by_thread does thread steps told = made_at_book h short n accounts count few_clients clients book_makers port_makers legal does thread steps told

  all_rested : all_asked ≡ total rested loopers
  all_rested = balance h short n accounts count few_clients clients book_makers port_makers legal

  enough : all_asked + in_book h (cancels n) ≤ in_book h (opens n)
  enough = omega (arith, few h short n accounts count few_clients clients book_makers port_makers legal, in_all (cancels n))

  one_opened : in_book h (opens n) ≤ 1
  one_opened = opened_once n h.book legal

  clients_fill_none : total (client_did (fills n)) count ≡ 0
  clients_fill_none = total_none (client_did (fills n)) count (λ k lt. omega (arith, (clients k).tally.filled))

  few_filled : in_book h (fills n) ≤ all_asked
  few_filled = omega (arith, in_all (fills n), clients_fill_none, all_rested, total_most (did (fills n)) rested loopers (λ k lt. (accounts k).tally.filled))

  all_taken : in_book h (takes n) ≡ all_asked
  all_taken =
      omega (
        arith,
        in_all (takes n),
        total_same (client_did (takes n)) client_asked count (λ k lt. (clients k).tally.took),
        total_same (did (takes n)) asked loopers (λ k lt. (accounts k).tally.took),
      )

  -- ---- what a thread would have had to do that found the slot settled
  -- it opened the slot more often than it took from it and cancelled it
  abbrev pub OpensMore : ℕ → Type 0
  OpensMore thread = suc (in_book_by h thread (takes n) + in_book_by h thread (cancels n)) ≤ in_book_by h thread (opens n)

  client_more : (k : ℕ) → k < count → OpensMore k → suc (all_asked + in_book h (cancels n)) ≤ in_book h (opens n)
  client_more k lt more =
      let steps = (clients k).steps in
      let told = (clients k).told lt in
      let less : suc (client_asked k + client_did (cancels n) k) ≤ client_did (opens n) k =
      omega (arith, more, by_thread (takes n) k steps told, by_thread (cancels n) k steps told, by_thread (opens n) k steps told, (clients k).tally.took) in
      omega (
        arith,
        in_all (opens n),
        in_all (cancels n),
        total_less (λ j. client_asked j + client_did (cancels n) j) (client_did (opens n)) count k (λ j within. (clients j).tally.opened) lt less,
        total_sum client_asked (client_did (cancels n)) count,
        total_most (λ j. asked j + did (cancels n) j) (did (opens n)) loopers (λ j within. (accounts j).tally.opened),
        total_sum asked (did (cancels n)) loopers,
      )

  looper_more : (k : ℕ) → k < loopers → OpensMore (looper_thread k) → suc (all_asked + in_book h (cancels n)) ≤ in_book h (opens n)
  looper_more k lt more =
      let steps = (accounts k).steps in
      let told = (accounts k).told in
      let less : suc (asked k + did (cancels n) k) ≤ did (opens n) k =
      omega (arith, more, by_thread (takes n) (looper_thread k) steps told, by_thread (cancels n) (looper_thread k) steps told, by_thread (opens n) (looper_thread k) steps told, (accounts k).tally.took) in
      omega (
        arith,
        in_all (opens n),
        in_all (cancels n),
        total_most (λ j. client_asked j + client_did (cancels n) j) (client_did (opens n)) count (λ j within. (clients j).tally.opened),
        total_sum client_asked (client_did (cancels n)) count,
        total_less (λ j. asked j + did (cancels n) j) (did (opens n)) loopers k (λ j within. (accounts j).tally.opened) lt less,
        total_sum asked (did (cancels n)) loopers,
      )

  -- so nobody settled it
  abbrev IsSettledThere : Type 0
  IsSettledThere = 1 ≤ in_book h (fills n) + in_book h (cancels n)

  pub no_client_more : IsSettledThere → (k : ℕ) → k < count → OpensMore k → ⊥
  no_client_more settled k lt more = omega (arith, settled, client_more k lt more, one_opened, few_filled)

  pub no_looper_more : IsSettledThere → (k : ℕ) → k < loopers → OpensMore (looper_thread k) → ⊥
  no_looper_more settled k lt more = omega (arith, settled, looper_more k lt more, one_opened, few_filled)

  -- it filled the slot less often than items came to rest there
  pub no_looper_less : IsSettledThere → (k : ℕ) → k < loopers → suc (in_book_by h (looper_thread k) (fills n) + sent_on_in n (desk_list h k)) ≤ writes_at h n k → ⊥
  no_looper_less settled k lt less =
      let one : suc (did (fills n) k) ≤ rested k = omega (arith, less, by_thread (fills n) (looper_thread k) (accounts k).steps (accounts k).told, (accounts k).accepted) in
      let fewer : suc (total (did (fills n)) loopers) ≤ total rested loopers = total_less (did (fills n)) rested loopers k (λ j within. (accounts j).tally.filled) lt one in
      omega (arith, settled, fewer, in_all (fills n), clients_fill_none, all_rested, enough, one_opened)

  -- ---- each slot that was opened
  -- where each thread took from or cancelled what it opened
  module _ (clients_so : (k : ℕ) → k < count → client_did (opens n) k ≡ client_did (takes n) k + client_did (cancels n) k)
      (loopers_so : (k : ℕ) → k < loopers → did (opens n) k ≡ did (takes n) k + did (cancels n) k) (some : 1 ≤ in_book h (opens n)) where
    taken_or_cancelled : in_book h (takes n) + in_book h (cancels n) ≡ 1
    taken_or_cancelled =
        omega (
          arith,
          some,
          one_opened,
          in_all (opens n),
          in_all (takes n),
          in_all (cancels n),
          total_same (client_did (opens n)) (λ k. client_did (takes n) k + client_did (cancels n) k) count clients_so,
          total_sum (client_did (takes n)) (client_did (cancels n)) count,
          total_same (did (opens n)) (λ k. did (takes n) k + did (cancels n) k) loopers loopers_so,
          total_sum (did (takes n)) (did (cancels n)) loopers,
        )

    -- it was taken from
    pub replied : 1 ≤ in_book h (takes n) → GotOneReply h short n
    replied some_taken =
        let at = total_some rested loopers (omega (arith, some_taken, all_taken, all_rested)) in
        let accepted : 1 ≤ writes_at h n at.0 = omega (arith, at.2, (accounts at.0).accepted) in
        got_one_reply h short n accounts (each_once h short n accounts count few_clients clients book_makers port_makers legal at.0 accepted) count few_clients clients port_makers
        (who_took h short n accounts count few_clients clients book_makers port_makers legal at.0 accepted)

    -- it was cancelled
    module _ (none_taken : in_book h (takes n) ≡ 0) (no_item : (looper position : ℕ) (item : ItemData) → IsAccepted h n looper position item → 1 ≤ writes_at h n looper) where
      opened : (x : ReplyEntry) × (doing (opens n) h.book ≡ x ∷ [])
      opened = one_of (doing (opens n) h.book) (omega (arith, some, one_opened))

      cancelled : (x : ReplyEntry) × (doing (cancels n) h.book ≡ x ∷ [])
      cancelled = one_of (doing (cancels n) h.book) (omega (arith, taken_or_cancelled, none_taken))

      none_asked : all_asked ≡ 0
      none_asked = omega (arith, none_taken, all_taken)

      none_written : (looper : ℕ) → writes_at h n looper ≡ 0
      none_written looper = none_below h short n accounts count few_clients clients book_makers port_makers legal none_asked (suc looper) looper (omega arith)

      -- who cancelled it had opened it
      of_thread : (thread : ℕ) (steps : List Step) → IsToldBy h thread steps → (asks : ℕ) → 1 ≤ many (cancels n) steps → asks + many (cancels n) steps ≤ many (opens n) steps → cancelled.0.by.0 ≡ opened.0.by.0
      of_thread thread steps told asks one both =
          made_by_whom h (cancels n) thread cancelled.0 cancelled.1 (omega (arith, one, by_thread (cancels n) thread steps told))
          ∙ sym (made_by_whom h (opens n) thread opened.0 opened.1 (omega (arith, one, both, by_thread (opens n) thread steps told)))

      by_opener : cancelled.0.by.0 ≡ opened.0.by.0
      by_opener =
          ⊎_elim
          (λ (by_clients : 0 < total (client_did (cancels n)) count).
          let at = total_some (client_did (cancels n)) count (omega (arith, by_clients)) in
          of_thread at.0 (clients at.0).steps ((clients at.0).told at.1) (clients at.0).tally.asks at.2 (clients at.0).tally.opened)
          (λ (none : total (client_did (cancels n)) count ≤ 0).
          let at = total_some (did (cancels n)) loopers (omega (arith, none, taken_or_cancelled, none_taken, in_all (cancels n))) in
          of_thread (looper_thread at.0) (accounts at.0).steps (accounts at.0).told (accounts at.0).tally.asks at.2 (accounts at.0).tally.opened)
          (cases_lt 0 (total (client_did (cancels n)) count))

      pub withdrawn : WasWithdrawn h n
      withdrawn = record {
        opened = opened.0;
        opened_once = opened.1;
        cancelled = cancelled.0;
        cancelled_once = cancelled.1;
        by_opener = by_opener;
        not_filled = none_of (doing (fills n) h.book) (omega (arith, few_filled, none_asked));
        not_taken = none_of (doing (takes n) h.book) none_taken;
        no_item = λ looper position item is. absurd (omega (arith, no_item looper position item is, none_written looper));
      }

-- ---- of a run
module _ (all : AcceptedIsDispatchedThenLeft) (law : EachIsDispatchedByRule) (one : StateIsOne) (forward : ForwardTellsReply) (tally : LoopersTally) (up : LoopersSendUp) (pay : LoopersPay) (of_main : MainTallies) (of_sessions : SessionsTally) (so : LoopersSendSo) (main_so : MainAsksSo)
    (sessions_so : SessionsAskSo) where
  module _ (sessions : ℕ) (heads : List AppHead) (short : List ℕ) (h : Histories) (run : IsRunWith sessions heads short h) where
    abbrev count : ℕ
    count = suc sessions

    accounts : (n k : ℕ) → Account h short n k
    accounts n = replies.accounts all law one forward tally up pay of_main of_sessions so main_so sessions_so sessions heads short h run n

    few_clients : count ≤ looper_thread 0
    few_clients = omega (arith, run.few_sessions)

    clients : (n k : ℕ) → Client h n count k
    clients n = replies.clients all law one forward tally up pay of_main of_sessions so main_so sessions_so sessions heads short h run n

    book_makers : All (λ (entry : ReplyEntry). IsClientOrLooper h count entry.by.0) h.book
    book_makers = replies.book_makers all law one forward tally up pay of_main of_sessions so main_so sessions_so sessions heads short h run 0

    port_makers : (looper : ℕ) → All (λ (entry : PortEntry). IsClientOrLooper h count entry.by.0) (port_list h looper)
    port_makers = replies.port_makers all law one forward tally up pay of_main of_sessions so main_so sessions_so sessions heads short h run 0

    legal : IsLegal h.book
    legal = run.histories.book

    -- a sight shows that the slot is settled in the book
    seen_settled : (n : ℕ) (steps : List Step) → All (StartsWith h.book) (book_sights steps) → Any (IsSettled n) (book_sights steps) → 1 ≤ in_book h (fills n) + in_book h (cancels n)
    seen_settled n steps seen any =
        let starts : StartsWith h.book any.1 = subst (StartsWith h.book) any.3 (seen any.0 any.1 any.2) in
        settled_counts n h.book any.1 starts any.4

    its : (n : ℕ) (does : ReplyEvent → Bool) (thread : ℕ) (steps : List Step) → IsToldBy h thread steps → in_book_by h thread does ≡ many does steps
    its n does thread steps told = by_thread h short n (accounts n) count few_clients (clients n) book_makers port_makers legal does thread steps told

    opens_more : (n thread : ℕ) (steps : List Step) → IsToldBy h thread steps → suc (many (takes n) steps + many (cancels n) steps) ≤ many (opens n) steps
        → suc (in_book_by h thread (takes n) + in_book_by h thread (cancels n)) ≤ in_book_by h thread (opens n)
    opens_more n thread steps told more = omega (arith, more, its n (takes n) thread steps told, its n (cancels n) thread steps told, its n (opens n) thread steps told)

    -- ---- main and the sessions
    client_found : (k : ℕ) → k < count → (steps : List Step) → IsToldBy h k steps → Found nothing_due steps → ⊥
    client_found k lt steps told f =
        let n = f.slot in
        ⊎_elim
        (λ (more : suc (many (takes n) steps + many (cancels n) steps) ≤ many (opens n) steps).
        no_client_more h short n (accounts n) count few_clients (clients n) book_makers port_makers legal (seen_settled n steps told.book_seen f.settled) k lt (opens_more n k steps told more))
        (λ (less : suc (many (fills n) steps) ≤ 0). absurd (omega (arith, less))) f.missing

    client_sightless : (k : ℕ) → k < count → (steps : List Step) → IsToldBy h k steps → Idle steps → IsSightless steps
    client_sightless k lt steps told looks = ⊎_elim (λ (s : IsSightless steps). s) (λ (f : Found nothing_due steps). absurd (client_found k lt steps told f)) looks.finds

    -- ---- a looper
    module _ (k : ℕ) (lt : k < length h.ports.items) (has : HasLooper heads short h k) where
      abbrev its_due : ℕ → ℕ
      its_due = all_due all has.facts has.steps (port_list h k) (desk_list h k) has.diary

      looper_told : IsToldBy h (looper_thread k) has.steps
      looper_told = told_by h (looper_thread k) has.steps (subst (λ (number : ℕ). HasDone h (looper_thread number) has.steps) has.number_is has.done)

      looper_looks : Looks its_due has.steps
      looper_looks = diary_looks all has.facts has.steps (port_list h k) (desk_list h k) has.diary

      accepted : (n : ℕ) → writes_at h n k ≡ sent_on_in n (desk_list h k) + its_due n
      accepted n = port_owing all law one forward pay heads short h k has n

      fills_less : (n : ℕ) → suc (many (fills n) has.steps) ≤ its_due n → suc (in_book_by h (looper_thread k) (fills n) + sent_on_in n (desk_list h k)) ≤ writes_at h n k
      fills_less n less = omega (arith, less, its n (fills n) (looper_thread k) has.steps looper_told, accepted n)

      looper_found : Found its_due has.steps → ⊥
      looper_found f =
          let n = f.slot in
          let settled = seen_settled n has.steps looper_told.book_seen f.settled in
          ⊎_elim
          (λ (more : suc (many (takes n) has.steps + many (cancels n) has.steps) ≤ many (opens n) has.steps).
          no_looper_more h short n (accounts n) count few_clients (clients n) book_makers port_makers legal settled k lt (opens_more n (looper_thread k) has.steps looper_told more))
          (λ (less : suc (many (fills n) has.steps) ≤ its_due n).
          no_looper_less h short n (accounts n) count few_clients (clients n) book_makers port_makers legal settled k lt (fills_less n less)) f.missing

      looper_sightless : IsSightless has.steps
      looper_sightless = ⊎_elim (λ (s : IsSightless has.steps). s) (λ (f : Found its_due has.steps). absurd (looper_found f)) looper_looks.finds

    main_sightless : IsSightless run.main
    main_sightless = client_sightless 0 (omega arith) run.main (told_by h 0 run.main run.main_done) (main_looks run.main run.main_diary)

    session_sightless : (number : ℕ) → IsSession sessions number → (has : HasSession h number) → IsSightless has.steps
    session_sightless number is has = client_sightless number (omega (arith, is.1)) has.steps (told_by h number has.steps has.done) (session_looks has.steps has.diary)

    -- ---- each slot
    module _ (n : ℕ) where
      clients_so : (k : ℕ) → k < count → many (opens n) (clients n k).steps ≡ many (takes n) (clients n k).steps + many (cancels n) (clients n k).steps
      clients_so k lt = (client_sightless k lt (clients n k).steps ((clients n k).told lt) (clients n k).looks).opened n

      loopers_so : (k : ℕ) → k < length h.ports.items → many (opens n) (accounts n k).steps ≡ many (takes n) (accounts n k).steps + many (cancels n) (accounts n k).steps
      loopers_so k lt =
          let has = run.loopers k lt in
          let told = looper_told k lt has in
          let mine = (accounts n k).told in
          omega (
            arith,
            (looper_sightless k lt has).opened n,
            its n (opens n) (looper_thread k) has.steps told,
            its n (takes n) (looper_thread k) has.steps told,
            its n (cancels n) (looper_thread k) has.steps told,
            its n (opens n) (looper_thread k) (accounts n k).steps mine,
            its n (takes n) (looper_thread k) (accounts n k).steps mine,
            its n (cancels n) (looper_thread k) (accounts n k).steps mine,
          )

      slot_ends : 1 ≤ in_book h (opens n) → GotOneReply h short n ⊎ WasWithdrawn h n
      slot_ends some =
          ⊎_elim {C = GotOneReply h short n ⊎ WasWithdrawn h n}
          (λ (taken : 0 < in_book h (takes n)).
          inl (replied h short n (accounts n) count few_clients (clients n) book_makers port_makers legal clients_so loopers_so some (omega (arith, taken))))
          (λ (none : in_book h (takes n) ≤ 0).
          inr (withdrawn h short n (accounts n) count few_clients (clients n) book_makers port_makers legal clients_so loopers_so some (omega (arith, none))
          (λ looper position item is. replies.some_written all law one forward tally up pay of_main of_sessions so main_so sessions_so sessions heads short h run n looper position item is)))
          (cases_lt 0 (in_book h (takes n)))

  pub runs_miss_none : RunsMissNone
  runs_miss_none sessions heads short h run = record {
    by_main = (main_sightless sessions heads short h run).none;
    by_loopers = λ looper there. (looper_sightless sessions heads short h run looper there (run.loopers looper there)).none;
    by_sessions = λ number is. (session_sightless sessions heads short h run number is (run.each_session number is)).none;
  }

  pub runs_end_slots : RunsEndSlots
  runs_end_slots sessions heads short h run n entry there is =
      slot_ends sessions heads short h run n
      (there_counts (λ (x : ReplyEntry). opens n x.event) h.book there.0 entry (slice_get-get_or h.book there.0 entry there.1 ∙ ap Some there.2) (ap (opens n) is ∙ eq-eqb n n refl))
