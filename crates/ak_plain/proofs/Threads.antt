-- Main, each session and each looper: what a thread chose at the roster and at desks is plain.
use Rattle.std.proofs.Common.{◌≡◌, ◌<◌, ◌≤◌, ℕ, ◌+◌, true, false, List, [], ◌∷◌, ◌++◌, length, Option, None, Some, option_map, slice_get, refl, sym, ap, subst, ◌∙◌, inl, inr, ⊎_elim, arith, ltb-true, ltb-false}
use Rattle.std.specs.Prelude.{IfSome, IsSomeAnd, IsTrue, nat_lt}
use Rattle.std.specs.List.{AllByRecursion, list_all, range_with_len}
use Rattle.std.proofs.lemmas.Bool.{cases_Bool}
use Rattle.std.proofs.lemmas.List.Elements.{recursion_from_All}
use Rattle.ak_base.specs.Thread.{looper_thread, main_thread}
use Rattle.ak_roster.specs.Limits.{team_limit}
use Rattle.ak_roster.specs.declared.head.AppHead.{AppHead}
use Rattle.ak_action.specs.declared.plan.PlanParts.{PlanParts}
use Rattle.ak_action.specs.Laws.{TwoWordsAnAction}
use Rattle.ak_describe.specs.Whole.{heads_of, looper_names, row_names}
use Rattle.ak_describe.specs.declared.described.AppText.{AppText}
use Rattle.ak_desk.specs.Desk.{DeskData}
use Rattle.ak_diary.specs.declared.histories.Histories.{Histories}
use Rattle.ak_diary.specs.Step.{Step, time_of}
use Rattle.ak_headline.specs.Run.{ActsIn, HasDone, HasLooper, IsRunWith}
use Rattle.ak_script.specs.declared.statement.SessionLines.{SessionLines}
use Rattle.ak_script.specs.declared.statement.Statement.{Statement}
use Rattle.ak_script.specs.declared.statement.Statement.TheVariants as statement
use Rattle.ak_lines.specs.declared.outcome.Outcome.{Outcome}
use Rattle.ak_print.specs.declared.told.Told.{Told}
use Rattle.ak_block.specs.Carried.{AreCarried, SessionPart}
use Rattle.ak_run.specs.Opened.{WasOpened, WereOpened}
use Rattle.ak_play.specs.Parts.{AreParts, IsCut, IsOfSessions, IsPart, Part, all_sessions, all_steps}
use Rattle.ak_play.specs.Play.{HasPlayed, cut_sessions}
use Rattle.ak_play.specs.Sessions.{HasCarried}
use Rattle.ak_plain.proofs.Said.{AreNamedApps, AreSaid, AreSaidLines, IsNamedApp, IsSaid, IsSaidLine}
use Rattle.ak_plain.proofs.Lines.{did_plain, got, got_there}
use Rattle.ak_plain.proofs.Loopers.{diary_plain}
use Rattle.ak_plain.proofs.Mains.{block_plain, ends_teams_plain}
use Rattle.ak_plain.proofs.Rows.{IsNamedDesk, opened_named}
use Rattle.ak_plain.proofs.Sides.{ArePlain, both, none}

-- steps that have all that the thread did, and are plain
pub record ActsPlain (h : Histories) (thread : ℕ) : Type 0 where
  pub steps : List Step
  pub done : HasDone h thread steps
  pub plain : ArePlain steps

front_all : {X : Type 0} (P : X → Type 0) (xs ys : List X) → AllByRecursion P (xs ++ ys) → AllByRecursion P xs
front_all P [] ys all = tt
front_all P (x ∷ xs) ys all = (all.0, front_all P xs ys all.1)

-- ---- sessions, by their numbers
module _ (heads : List AppHead) (h : Histories) where
  carried_acts : (time from : ℕ) (all : List SessionLines) (parts : List SessionPart) → AllByRecursion AreSaidLines all → AreCarried (HasCarried heads h time) from all parts → (number : ℕ) → from ≤ number → number < from + length parts → ActsPlain h number
  carried_acts time from [] [] said are number low high = absurd (omega arith)
  carried_acts time from [] (part ∷ parts) said are number low high = absurd are
  carried_acts time from (lines ∷ all) [] said are number low high = absurd are
  carried_acts time from (lines ∷ all) (part ∷ parts) said are number low high =
      ⊎_elim
      (λ (past : nat_lt from number ≡ true).
      let later : from < number = ltb-true from number past in
      carried_acts time (from + 1) all parts said.1 are.1 number (omega arith) (omega arith))
      (λ (here : nat_lt from number ≡ false).
      let upto : number ≤ from = ltb-false from number here in
      let same : from ≡ number = omega arith in
      let did = are.0.did in
      subst (ActsPlain h) same (record { steps = _; done = are.0.done; plain = did_plain heads lines part (recursion_from_All IsSaidLine lines.lines.items said.0) did }))
      (cases_Bool (nat_lt from number))

  of_sessions_act : (time from : ℕ) (all : List SessionLines) (part : Part) → AllByRecursion AreSaidLines all → IsOfSessions (HasCarried heads h) time from all part → (number : ℕ) → from ≤ number → number < from + part.sessions → ActsPlain h number
  of_sessions_act time from all part said is number low high =
      let count = is.count in
      carried_acts time from all is.parts said is.carried number low (omega (arith, count))

  none_act : (from count number : ℕ) → count ≡ 0 → from ≤ number → number < from + count → ActsPlain h number
  none_act from count number zeros low high = absurd (omega (arith, zeros))

  part_acts : (apps : List AppText) (time from : ℕ) (s : Statement) (part : Part) → IsSaid s → IsPart (HasCarried heads h) apps time from s part → (number : ℕ) → from ≤ number → number < from + part.sessions → ActsPlain h number
  part_acts apps time from (statement.Launch l) part said is number low high = none_act from part.sessions number is.no_session low high
  part_acts apps time from (statement.Hey q) part said is number low high = none_act from part.sessions number is.no_session low high
  part_acts apps time from (statement.Post p) part said is number low high = none_act from part.sessions number is.no_session low high
  part_acts apps time from (statement.Lock l) part said is number low high = none_act from part.sessions number is.no_session low high
  part_acts apps time from (statement.Together t) part said is number low high = of_sessions_act time from t.sessions.items part (recursion_from_All AreSaidLines t.sessions.items said) is number low high

  parts_act : (apps : List AppText) (time from : ℕ) (ss : List Statement) (ps : List Part) → AllByRecursion IsSaid ss → AreParts (HasCarried heads h) apps time from ss ps → (number : ℕ) → from ≤ number → number < from + all_sessions ps → ActsPlain h number
  parts_act apps time from ss [] said are number low high = absurd (omega arith)
  parts_act apps time from [] (p ∷ ps) said are number low high = absurd are
  parts_act apps time from (s ∷ ss) (p ∷ ps) said are number low high =
      ⊎_elim
      (λ (before : nat_lt number (from + p.sessions) ≡ true). part_acts apps time from s p said.0 are.0 number low (ltb-true number (from + p.sessions) before))
      (λ (behind : nat_lt number (from + p.sessions) ≡ false).
      let past : from + p.sessions ≤ number = ltb-false number (from + p.sessions) behind in
      parts_act apps (time_of time p.steps) (from + p.sessions) ss ps said.1 are.1 number past (omega arith))
      (cases_Bool (nat_lt number (from + p.sessions)))

  cut_acts : (time from : ℕ) (s : Statement) (part : Part) → IsSaid s → IsCut (HasCarried heads h) time from s part → (number : ℕ) → from ≤ number → number < from + part.sessions → ActsPlain h number
  cut_acts time from (statement.Launch l) part said is number low high = absurd is
  cut_acts time from (statement.Hey q) part said is number low high = absurd is
  cut_acts time from (statement.Post p) part said is number low high = absurd is
  cut_acts time from (statement.Lock l) part said is number low high = absurd is
  cut_acts time from (statement.Together t) part said is number low high =
      let all = subst (AllByRecursion AreSaidLines) is.all (recursion_from_All AreSaidLines t.sessions.items said) in
      of_sessions_act time from is.first part (front_all AreSaidLines is.first is.rest all) is.are number low high

  some_cut_acts : (time from : ℕ) (o : Option Statement) (part : Part) → IfSome o IsSaid → IsSomeAnd o (λ (s : Statement). IsCut (HasCarried heads h) time from s part) → (number : ℕ) → from ≤ number → number < from + part.sessions → ActsPlain h number
  some_cut_acts time from None part said is number low high = absurd is
  some_cut_acts time from (Some s) part said is number low high = cut_acts time from s part said is number low high

  maybe_cut_acts : (time from : ℕ) (o : Option Statement) (cut : Option Part) → IfSome o IsSaid → IfSome cut (λ (part : Part). IsSomeAnd o (λ (s : Statement). IsCut (HasCarried heads h) time from s part)) → (number : ℕ) → from ≤ number → number < from + cut_sessions cut → ActsPlain h number
  maybe_cut_acts time from o None said is number low high = absurd (omega arith)
  maybe_cut_acts time from o (Some part) said is number low high = some_cut_acts time from o part said is number low high

-- ---- main
part_plain : (C : ℕ → ℕ → SessionLines → SessionPart → Type 0) (apps : List AppText) (time from : ℕ) (s : Statement) (part : Part) → IsSaid s → IsPart C apps time from s part → ArePlain part.steps
part_plain C apps time from (statement.Launch l) part said is = block_plain apps (statement.Launch l) is.outcome is.told part.steps said is.is
part_plain C apps time from (statement.Hey q) part said is = block_plain apps (statement.Hey q) is.outcome is.told part.steps said is.is
part_plain C apps time from (statement.Post p) part said is = block_plain apps (statement.Post p) is.outcome is.told part.steps said is.is
part_plain C apps time from (statement.Lock l) part said is = block_plain apps (statement.Lock l) is.outcome is.told part.steps said is.is
part_plain C apps time from (statement.Together t) part said is = none part.steps is.nothing

parts_plain : (C : ℕ → ℕ → SessionLines → SessionPart → Type 0) (apps : List AppText) (time from : ℕ) (ss : List Statement) (ps : List Part) → AllByRecursion IsSaid ss → AreParts C apps time from ss ps → ArePlain (all_steps ps)
parts_plain C apps time from ss [] said are = none [] refl
parts_plain C apps time from [] (p ∷ ps) said are = absurd are
parts_plain C apps time from (s ∷ ss) (p ∷ ps) said are =
    both p.steps (all_steps ps) (p.steps ++ all_steps ps) (part_plain C apps time from s p said.0 are.0) (parts_plain C apps (time_of time p.steps) (from + p.sessions) ss ps said.1 are.1) refl

-- ---- the run
module _ (apps : List AppText) (statements : List Statement) (outcomes : List Outcome) (tolds : List Told) (short : List ℕ) (h : Histories) (played : HasPlayed apps statements outcomes tolds short h) (said : AreSaid statements) (stops : ArePlain played.stopped) where
  all_said : AllByRecursion IsSaid statements
  all_said = recursion_from_All IsSaid statements said

  main_acts : ActsPlain h main_thread
  main_acts =
      let parts = played.parts in
      record {
        steps = all_steps parts ++ (played.stopped ++ played.closing);
        done = played.done;
        plain = both (all_steps parts) (played.stopped ++ played.closing) (all_steps parts ++ (played.stopped ++ played.closing))
            (parts_plain (HasCarried (heads_of apps) h) apps 0 1 statements parts all_said played.are)
            (both played.stopped played.closing (played.stopped ++ played.closing) stops
            (ends_teams_plain (heads_of apps) (all_steps parts ++ played.stopped) (range_with_len 1 team_limit) played.closing played.closes.ends) refl)
            refl;
      }

  session_acts : (number : ℕ) → 0 < number → number ≤ all_sessions played.parts + cut_sessions played.cut → ActsPlain h number
  session_acts number low high =
      let parts = played.parts in
      ⊎_elim
      (λ (before : nat_lt number (1 + all_sessions parts) ≡ true).
      parts_act (heads_of apps) h apps 0 1 statements parts all_said played.are number (omega arith) (ltb-true number (1 + all_sessions parts) before))
      (λ (behind : nat_lt number (1 + all_sessions parts) ≡ false).
      let past : 1 + all_sessions parts ≤ number = ltb-false number (1 + all_sessions parts) behind in
      maybe_cut_acts (heads_of apps) h (time_of 0 (all_steps parts)) (all_sessions parts + 1) (slice_get statements (length parts)) played.cut
      (got_there IsSaid statements (length parts) all_said) played.cut_is number (omega arith) (omega arith))
      (cases_Bool (nat_lt number (1 + all_sessions parts)))

-- ---- loopers
module _ (apps : List AppText) (h : Histories) (named : AreNamedApps apps) where
  pub plan_named : (looper : ℕ) (w : WasOpened apps h looper) → IsTrue (list_all row_names w.plan.rows)
  plan_named looper w =
      let app : IsNamedApp w.app = got IsNamedApp apps w.description w.app (recursion_from_All IsNamedApp apps named) w.app_is in
      got (λ (p : PlanParts). IsTrue (list_all row_names p.rows)) w.app.loopers w.place w.plan (recursion_from_All (λ (p : PlanParts). IsTrue (list_all row_names p.rows)) w.app.loopers app) w.plan_is

  looper_acts : TwoWordsAnAction → (heads : List AppHead) (short : List ℕ) (looper : ℕ) → WasOpened apps h looper → HasLooper heads short h looper → ActsPlain h (looper_thread looper)
  looper_acts two heads short looper w has =
      let both_are : Some w.desk.opening ≡ Some has.facts.desk = sym (ap (option_map (λ (desk : DeskData). desk.opening)) w.desk_is) ∙ has.opened in
      let same : w.desk.opening ≡ has.facts.desk = cc both_are in
      let desk : IsNamedDesk has.facts.desk = subst IsNamedDesk same (opened_named w.plan looper w.team w.first (looper_names w.app) w.desk.opening w.opens (plan_named looper w)) in
      subst (λ (n : ℕ). ActsPlain h (looper_thread n)) has.number_is (record { steps = has.steps; done = has.done; plain = diary_plain two has.facts desk has.steps has.diary.legal })

-- ---- any thread that acts
module _ (apps : List AppText) (statements : List Statement) (outcomes : List Outcome) (tolds : List Told) (sessions_short short : List ℕ) (h : Histories) (two : TwoWordsAnAction) (named : AreNamedApps apps) (said : AreSaid statements) (opened : WereOpened apps h) (played : HasPlayed apps statements outcomes tolds sessions_short h) (stops : ArePlain played.stopped) (run : IsRunWith (all_sessions played.parts + cut_sessions played.cut) (heads_of apps) short h) where
  pub thread_acts : (thread : ℕ) → ActsIn h (all_sessions played.parts + cut_sessions played.cut) thread → ActsPlain h thread
  thread_acts thread (inl (inl is)) = subst (ActsPlain h) (sym is) (main_acts apps statements outcomes tolds sessions_short h played said stops)
  thread_acts thread (inl (inr of)) = subst (ActsPlain h) (sym of.2) (looper_acts apps h named two (heads_of apps) short of.0 (opened of.0 of.1) (run.loopers of.0 of.1))
  thread_acts thread (inr is) = session_acts apps statements outcomes tolds sessions_short h played said stops thread is.0 is.1
