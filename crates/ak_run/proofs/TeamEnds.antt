-- Main ends team after team.
use Rattle.std.proofs.Common.{◌≡◌, ℕ, zero, suc, ◌+◌, ◌≤◌, Bool, true, false, cond, ◌||◌, List, [], ◌∷◌, ◌++◌, length, Option, None, Some, refl, sym, ap, ◌∙◌, subst, append_assoc, append-nil, arith}
use Rattle.std.specs.Prelude.{IfSome, IsFalse, IsTrue, is_some}
use Rattle.std.specs.List.{find, list_any, range_with_len}
use Rattle.ak_base.specs.Thread.{main_thread}
use Rattle.ak_turn.specs.Noted.{noted}
use Rattle.ak_turn.specs.declared.clock.Clock.{Clock}
use Rattle.ak_roster.specs.Heads.{IsHeads}
use Rattle.ak_roster.specs.Machine.{IsHistory, runs_team}
use Rattle.ak_roster.specs.Roster.{Enters, Stays, plain_entries, state}
use Rattle.ak_roster.specs.declared.entry.RosterEvent.{RosterEvent}
use Rattle.ak_roster.specs.declared.entry.RosterEvent.TheVariants as event
use Rattle.ak_roster.specs.declared.head.AppHead.{AppHead}
use Rattle.ak_roster.specs.declared.team.Running.{Running}
use Rattle.ak_diary.specs.Step.{Step, desk_entry, roster_entry}
use Rattle.ak_diary.specs.Turns.{Shuts, ShutsAll}
use Rattle.ak_headline.specs.Run.{roster_maker}
use Rattle.ak_looper.specs.Rosters.{plain_of}
use Rattle.ak_run.specs.declared.run.Run.{Run}
use Rattle.ak_run.specs.Closing.{ClosesSo, EndsTeam, EndsTeams, IsRecordedAtRoster, LeavesBook, LeavesSo, ports_of}
use Rattle.ak_team.specs.Launching.{Book, HasEntered}
use Rattle.ak_run.specs.Recording.{GoesBy, RecordsSo, fronts_of}
use Rattle.ak_run.proofs.Acts.{goes_then, same_goes, then_those}
use Rattle.ak_gather.proofs.Surface.{nothing_after}
use Rattle.ak_team.proofs.Surface.{all_started, none_entered, one_entered}
use Rattle.ak_run.proofs.Recorded.{fronts_same}

-- ---- steps
-- one port more
pub shuts_push : (loopers : List ℕ) (looper : ℕ) (xs ys : List Step) → ShutsAll loopers xs → Shuts looper ys → ShutsAll (loopers ++ looper ∷ []) (xs ++ ys)
shuts_push [] looper xs ys none one = (ys, [], one, refl, ap (λ (l : List Step). l ++ ys) none ∙ sym (append-nil ys))
shuts_push (x ∷ loopers) looper xs ys all one = (all.0, all.1 ++ ys, all.2, shuts_push loopers looper all.1 ys all.3 one, ap (λ (l : List Step). l ++ ys) all.4 ∙ append_assoc all.0 all.1 ys)

-- one team more
pub ends_push : (heads : List AppHead) (so_far : List Step) (teams : List ℕ) (team : ℕ) (xs ys : List Step) → EndsTeams heads so_far teams xs → EndsTeam heads (so_far ++ xs) team ys → EndsTeams heads so_far (teams ++ team ∷ []) (xs ++ ys)
ends_push heads so_far [] team xs ys none one =
    (ys, [], subst (λ (l : List Step). EndsTeam heads l team ys) (ap (λ (l : List Step). so_far ++ l) none ∙ append-nil so_far) one, refl, ap (λ (l : List Step). l ++ ys) none ∙ sym (append-nil ys))
ends_push heads so_far (x ∷ teams) team xs ys all one =
    let behind = subst (λ (l : List Step). EndsTeam heads l team ys) (ap (λ (l : List Step). so_far ++ l) all.4 ∙ sym (append_assoc so_far all.0 all.1)) one in
    (all.0, all.1 ++ ys, all.2, ends_push heads (so_far ++ all.0) teams team all.1 ys all.3 behind, ap (λ (l : List Step). l ++ ys) all.4 ∙ append_assoc all.0 all.1 ys)

pub range_push : (a n : ℕ) → range_with_len a (n + 1) ≡ range_with_len a n ++ (a + n) ∷ []
range_push a zero = let same : a ≡ a + 0 = omega arith in ap (λ (m : ℕ). m ∷ []) same
range_push a (suc n) =
    let more : suc n + 1 ≡ suc (n + 1) = omega arith in
    let same : (a + 1) + n ≡ a + suc n = omega arith in
    ap (range_with_len a) more ∙ ap (λ (l : List ℕ). a ∷ l) (range_push (a + 1) n ∙ ap (λ (m : ℕ). range_with_len (a + 1) n ++ m ∷ []) same)

-- ---- calls
-- what main had entered at the roster, and then by such steps
recorded_further : (so_far steps : List Step) (r s : Run) → GoesBy steps (fronts_of r) (fronts_of s) → IsRecordedAtRoster so_far r → IsRecordedAtRoster (so_far ++ steps) s
recorded_further so_far steps r s goes is = then_those roster_entry so_far steps [] (noted roster_maker main_thread (plain_of r.roster_seat)) (noted roster_maker main_thread (plain_of s.roster_seat)) is goes.roster

pub closes_then : (P Q S : List Step → List Step → Type 0) (r s t : Run) → ((so_far xs ys : List Step) → P so_far xs → Q (so_far ++ xs) ys → S so_far (xs ++ ys)) → ClosesSo P r s → ClosesSo Q s t → ClosesSo S r t
closes_then P Q S r s t tells one two = record {
  steps = one.steps ++ two.steps;
  so = λ so_far is. tells so_far one.steps two.steps (one.so so_far is) (two.so (so_far ++ one.steps) (recorded_further so_far one.steps r s one.goes is));
  goes = goes_then one.steps two.steps (fronts_of r) (fronts_of s) (fronts_of t) one.goes two.goes;
  no_edits = λ looper. nothing_after (desk_entry looper) one.steps two.steps (one.no_edits looper) (two.no_edits looper);
}

pub closes_as : (P Q : List Step → List Step → Type 0) (r r' : Run) → ((so_far steps : List Step) → P so_far steps → Q so_far steps) → ClosesSo P r r' → ClosesSo Q r r'
closes_as P Q r r' tells one = record { steps = one.steps; so = λ so_far is. tells so_far one.steps (one.so so_far is); goes = one.goes; no_edits = one.no_edits }

-- nothing was done
pub closes_same : (P : List Step → List Step → Type 0) (r r' : Run) → ((so_far : List Step) → P so_far []) → r'.hands.clock.time ≡ r.hands.clock.time → r'.members ≡ r.members → r'.roster_seat ≡ r.roster_seat → r'.hands.book_seat.front ≡ r.hands.book_seat.front → ClosesSo P r r'
closes_same P r r' so time members roster book =
    let same = fronts_same r r' time members (ap (λ s. s.front) roster) book [] in
    record { steps = []; so = λ so_far is. so so_far; goes = same_goes (fronts_of r) (fronts_of r') same; no_edits = λ looper. refl }

-- where it does not matter what was done before
pub closes_by : (P : List Step → Type 0) (r r' : Run) → RecordsSo P (fronts_of r) (fronts_of r') → ClosesSo (λ so_far. P) r r'
closes_by P r r' one = record { steps = one.steps; so = λ so_far is. one.so; goes = one.goes; no_edits = one.no_edits }

-- the team is gone, and its ports are shut
pub ends_so : (heads : List AppHead) (so_far : List Step) (team : ℕ) (running : Option Running) (xs ys : List Step) → LeavesSo heads so_far team running xs → ShutsAll (ports_of running) ys → EndsTeam heads so_far team (xs ++ ys)
ends_so heads so_far team running xs ys leaves shuts = record { running = running; gone = xs; leaves = leaves; shut = ys; shuts = shuts; is = refl }

pub ends_gone : (heads : List AppHead) (so_far : List Step) (team : ℕ) (steps : List Step) → LeavesSo heads so_far team None steps → EndsTeam heads so_far team steps
ends_gone heads so_far team steps leaves = record { running = None; gone = steps; leaves = leaves; shut = []; shuts = refl; is = sym (append-nil steps) }

-- ---- in main's turn at the roster
-- a team is found exactly where the search tells so
pub any_found : (test : Running → Bool) (xs : List Running) (o : Option Running) → find test xs ≡ o → list_any test xs ≡ is_some o
any_found test [] o is = ap is_some is
any_found test (x ∷ xs) o is = by_case (any_found test xs o) (test x) is
  where
    by_case : (find test xs ≡ o → list_any test xs ≡ is_some o) → (b : Bool) → cond b (Some x) (find test xs) ≡ o → (b || list_any test xs) ≡ is_some o
    by_case behind true found = ap is_some found
    by_case behind false found = behind found

module _ (book book' : Book) (clock clock' : Clock) (main : clock.thread.0 ≡ main_thread) (team : ℕ) (heads : IsHeads book.heads) (history : IsHistory book.heads (plain_entries book.entries)) where
  pub leaves_book : (o : Option Running) (left : Bool) → find (runs_team team) (state book).running ≡ o → left ≡ list_any (runs_team team) (state book).running → (IsTrue left → Enters (event.Gone team) [] book.doors book book' clock clock') → (IsFalse left → Stays book book' clock clock')
      → LeavesBook team o book book'
  leaves_book (Some x) left is told enters stays =
      let ran : left ≡ true = told ∙ any_found (runs_team team) (state book).running (Some x) is in
      (is, one_entered book book' clock clock' 0 (event.Gone team) [] book.doors tt main (enters ran) refl, all_started book.heads (plain_entries book.entries) (runs_team team) x heads history (sym is))
  leaves_book None left is told enters stays =
      let gone : left ≡ false = told ∙ any_found (runs_team team) (state book).running None is in
      (is, none_entered book book' clock clock' (stays gone))

-- main entered one entry or none
pub leaves_entered : (team : ℕ) (o : Option Running) (book book' : Book) → LeavesBook team o book book' → (what : Option RosterEvent) × HasEntered what 0 book book'
leaves_entered team (Some x) book book' leaves = (Some (event.Gone team), leaves.1)
leaves_entered team None book book' leaves = (None, leaves.1)

-- the loopers of a team that ran were started
pub leaves_started : (team : ℕ) (o : Option Running) (book book' : Book) (many : ℕ) → length (state book).loopers ≡ many → LeavesBook team o book book' → IfSome o (λ (running : Running). running.first + running.loopers ≤ many)
leaves_started team (Some x) book book' many count leaves = subst (λ (n : ℕ). x.first + x.loopers ≤ n) count leaves.2
leaves_started team None book book' many count leaves = tt
