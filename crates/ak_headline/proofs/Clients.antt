-- Main and the sessions are the clients of a run, by the numbers of their threads. What the diary of each tells of a slot.
use Rattle.std.proofs.Common.{◌≡◌, ℕ, zero, suc, ◌<◌, ◌≤◌, List, [], refl, All, inl, ⊎_elim, arith}
use Rattle.std.proofs.lemmas.Bool.{cases_lt}
use Rattle.ak_turn.specs.Entries.{StartsWith}
use Rattle.ak_turn.specs.Noted.{noted}
use Rattle.ak_roster.specs.declared.head.AppHead.{AppHead}
use Rattle.ak_port.specs.PortCalls as ports
use Rattle.ak_port.specs.ReplySeats as books
use Rattle.ak_diary.specs.declared.histories.Histories.{Histories}
use Rattle.ak_diary.specs.Step.{Step, book_entries, book_sights, port_entries}
use Rattle.ak_headline.specs.Diaries.{MainAsksSo, MainTallies, SessionsAskSo, SessionsTally}
use Rattle.ak_headline.specs.Run.{HasDone, HasSession, IsRunWith, port_list}
use Rattle.ak_headline.specs.Sends.{SendsSo}
use Rattle.ak_headline.specs.Tally.{Tally}
use Rattle.ak_headline.proofs.ActsTold.{NoLooper}
use Rattle.ak_headline.proofs.Counting.{add_none}
use Rattle.ak_headline.proofs.Seeing.{Idle, idle_none, main_looks, session_looks}
use Rattle.ak_headline.proofs.SendsTold.{sends_nothing}

-- ---- one thread
-- what it made at the book and at the ports are its steps there; what it saw of the book without an entry is a beginning of the book
pub record IsToldBy (h : Histories) (thread : ℕ) (steps : List Step) : Type 0 where
  pub at_book : noted books.maker_of thread h.book ≡ book_entries steps
  pub at_ports : (looper : ℕ) → noted ports.by_number thread (port_list h looper) ≡ port_entries looper steps
  pub book_seen : All (StartsWith h.book) (book_sights steps)

pub told_by : (h : Histories) (thread : ℕ) (steps : List Step) → HasDone h thread steps → IsToldBy h thread steps
told_by h thread steps done = record { at_book = done.at_book; at_ports = done.at_ports; book_seen = done.book_seen }

-- ---- one client
-- it asked and took, and neither sent on nor filled; where it saw the book without an entry it had opened a slot; no steps are told of a number past them
pub record Client (h : Histories) (n count k : ℕ) : Type 0 where
  pub steps : List Step
  pub tally : Tally n [] [] [] steps
  pub sends : SendsSo n 0 [] steps
  pub looks : Idle steps
  pub told : k < count → IsToldBy h k steps

module _ (of_main : MainTallies) (main_so : MainAsksSo) (of_sessions : SessionsTally) (sessions_so : SessionsAskSo) where
  module _ (sessions : ℕ) (heads : List AppHead) (short : List ℕ) (h : Histories) (run : IsRunWith sessions heads short h) (n : ℕ) where
    main_client : Client h n (suc sessions) zero
    main_client = record {
      steps = run.main;
      tally = of_main run.main run.main_diary n;
      sends = main_so run.main run.main_diary n;
      looks = main_looks run.main run.main_diary;
      told = λ within. told_by h zero run.main run.main_done;
    }

    session_client : (number : ℕ) → HasSession h number → Client h n (suc sessions) number
    session_client number has = record {
      steps = has.steps;
      tally = of_sessions has.steps has.diary n;
      sends = sessions_so has.steps has.diary n;
      looks = session_looks has.steps has.diary;
      told = λ within. told_by h number has.steps has.done;
    }

    no_client : (number : ℕ) → suc sessions ≤ number → Client h n (suc sessions) number
    no_client number past = record {
      steps = [];
      tally = record { asks = 0; sent = refl; opened = omega arith; took = refl; filled = omega arith; settled = inl refl };
      sends = sends_nothing n 0 NoLooper 0 [] (add_none NoLooper n);
      looks = idle_none [] refl;
      told = λ within. absurd (omega (arith, within, past));
    }

    pub client : (k : ℕ) → Client h n (suc sessions) k
    client zero = main_client
    client (suc k) =
        ⊎_elim (λ (within : k < sessions). session_client (suc k) (run.each_session (suc k) (omega arith, omega (arith, within))))
        (λ (past : sessions ≤ k). no_client (suc k) (omega (arith, past))) (cases_lt k sessions)
