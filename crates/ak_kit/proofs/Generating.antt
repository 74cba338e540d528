-- The script of a number, carried out, and told of by one line.
use Rattle.std.proofs.Common.{◌≡◌, ◌≢◌, inl, ℕ, List, Option, Some, None, refl, sym, ◌∙◌, subst, arith}
use Rattle.std.specs.Prelude.{Bool, IfSome, IsSomeAnd}
use Rattle.ak_base.specs.declared.ending.Ending.{Ending}
use Rattle.ak_base.specs.declared.ending.Ending.TheVariants as ending
use Rattle.ak_outside.specs.Calls.{Calls}
use Rattle.ak_outside.specs.Faults.{Rose}
use Rattle.ak_outside.proofs.Surface.{Stayed-not_Rose}
use Rattle.ak_describe.specs.declared.described.AppText.{AppText}
use Rattle.ak_headline.specs.Headline.{EachGotOneReply}
use Rattle.ak_print.specs.declared.told.Told.{Told}
use Rattle.ak_script.specs.declared.script.Script.{Script}
use Rattle.ak_script.specs.declared.statement.Statement.{Statement}
use Rattle.ak_play.specs.declared.run_end.RunEnd.{RunEnd}
use Rattle.ak_play.specs.declared.run_end.Lines.{Lines}
use Rattle.ak_play.specs.declared.run_end.Lines.TheVariants as lines
use Rattle.ak_play.specs.Play.{AreWritten, IsPlay, IsShort}
use Rattle.ak_kit.specs.Kit.{GeneratesAndCloses, IsPlayNowhere, TellsRun, with_main}
use Rattle.ak_kit.proofs.Playing.{OfScript}

-- ---- nothing is written, and no write fails
module _ (Failed : Type 0) (never : Failed → ⊥) where
  written_so : (Kept : Type 0) (told : Lines) (before last : List Told) (old new : Option (List ℕ)) → AreWritten told Failed Kept before last old new → AreWritten told ⊥ (Unit {0}) before last old new
  written_so Kept lines.Whole before last old new is = (is.0, tt)
  written_so Kept lines.Cut before last old new is = (is.0, never is.1)
  written_so Kept lines.Lacking before last old new is = (is.0, tt)

  plays_so : {Kept : Type 0} (apps : List AppText) (statements : List Statement) (end : Ending) (run : RunEnd) (old new : Option (List ℕ)) (calls calls' : Option Calls) → IsPlay apps statements end run old new Failed Kept calls calls' → IsPlay apps statements end run old new ⊥ (Unit {0}) calls calls'
  plays_so apps statements end run old new calls calls' play = record {
    ends = play.ends;
    played = play.played;
    run_of = play.run_of;
    written = written_so _ run.lines _ _ old new play.written;
    whole_when_done = play.whole_when_done;
    cut_at_a_write = play.cut_at_a_write;
    cut_at = play.cut_at;
    lacking_by_main = play.lacking_by_main;
    lacks_at = play.lacks_at;
    replies = play.replies;
    whole = play.whole;
    whole_by_main = play.whole_by_main;
    stopped_so = play.stopped_so;
    starts = play.starts;
    before_last = play.before_last;
    stopped_nowhere = play.stopped_nowhere;
    short = play.short;
    ran_short = play.ran_short;
    main_short = play.main_short;
  }

  pub plays_nowhere : {Kept : Type 0} (script : Script) (end : Ending) (run : RunEnd) (calls calls' : Option Calls) → OfScript script run → IsPlay script.apps.items script.statements.items end run None None Failed Kept calls calls' → IsPlayNowhere end run calls calls'
  plays_nowhere script end run calls calls' of_script play =
      let so = plays_so script.apps.items script.statements.items end run None None calls calls' play in
      let of_apps = subst (λ (apps : List AppText). IsPlay apps script.statements.items end run None None ⊥ (Unit {0}) calls calls') (sym of_script.0) so in
      subst (λ (statements : List Statement). IsPlay run.script.apps.items statements end run None None ⊥ (Unit {0}) calls calls') (sym of_script.1) of_apps

pub some_plays_nowhere : (script : Script) (end : Ending) (found : Option RunEnd) (calls calls' : Option Calls) → IfSome found (OfScript script)
    → IfSome found (λ (run : RunEnd). IsPlay script.apps.items script.statements.items end run None None (Rose 0 0) (◌≡◌ {A = ℕ} 0 0) calls calls') → IfSome found (λ (run : RunEnd). IsPlayNowhere end run calls calls')
some_plays_nowhere script end None calls calls' of_script play = tt
some_plays_nowhere script end (Some run) calls calls' of_script play = plays_nowhere (Rose 0 0) (λ rose. Stayed-not_Rose 0 0 (omega arith, refl) rose) script end run calls calls' of_script play

-- ---- the run, behind its line
-- what was written tells of the run as it is handed on
pub tells_on : (n : ℕ) (run : RunEnd) (ended end : Ending) (found : Option RunEnd) (old new : Option (List ℕ)) (faults faults' : ℕ) (calls calls' : Option Calls)
    → IsPlayNowhere ended run calls calls' → ended ≢ ending.WriteFault → IsSomeAnd found (λ (e : RunEnd). run ≡ with_main run.short.main e) → IfSome found (λ (e : RunEnd). TellsRun ended n e run.short.main end old new faults faults')
    → IfSome found (λ (e : RunEnd). GeneratesAndCloses n e end old new faults faults' calls calls')
tells_on n run ended end None old new faults faults' calls calls' play no_write is tells = tt
tells_on n run ended end (Some e) old new faults faults' calls calls' play no_write is tells = record {
  ended = ended;
  main = run.short.main;
  play = subst (λ (r : RunEnd). IsPlayNowhere ended r calls calls') is play;
  no_write = no_write;
  tells = tells;
}

-- a run without memory is short, and so is one without memory for its line
pub short_so : (ended : Ending) (n : ℕ) (run : RunEnd) (main : Bool) (end : Ending) (old new : Option (List ℕ)) (faults faults' : ℕ) → (ended ≡ ending.NoMemory → IsShort (with_main main run).short) → TellsRun ended n run main end old new faults faults'
    → end ≡ ending.NoMemory → IsShort run.short
short_so ending.Done n run main end old new faults faults' short tells lacks = inl (tells.2 lacks)
short_so ending.NoMemory n run main end old new faults faults' short tells lacks = subst (λ (b : Bool). IsShort (with_main b run).short) (sym tells.1) (short refl)
short_so ending.WriteFault n run main end old new faults faults' short tells lacks = let bad : ending.WriteFault ≡ ending.NoMemory = sym tells.0 ∙ lacks in absurd (cc bad)
short_so ending.ThreadFault n run main end old new faults faults' short tells lacks = let bad : ending.ThreadFault ≡ ending.NoMemory = sym tells.0 ∙ lacks in absurd (cc bad)
short_so ending.Usage n run main end old new faults faults' short tells lacks = let bad : ending.Usage ≡ ending.NoMemory = sym tells.0 ∙ lacks in absurd (cc bad)
short_so (ending.Refused line why) n run main end old new faults faults' short tells lacks = let bad : ending.Refused line why ≡ ending.NoMemory = sym tells.0 ∙ lacks in absurd (cc bad)
short_so ending.ReadFault n run main end old new faults faults' short tells lacks = let bad : ending.ReadFault ≡ ending.NoMemory = sym tells.0 ∙ lacks in absurd (cc bad)

module _ (run : RunEnd) where
  pub answered_on : (found : Option RunEnd) → EachGotOneReply run.short.loopers run.histories → IsSomeAnd found (λ (end : RunEnd). run ≡ with_main run.short.main end)
      → IfSome found (λ (end : RunEnd). EachGotOneReply end.short.loopers end.histories)
  answered_on None answered same = tt
  answered_on (Some end) answered same = subst (λ (r : RunEnd). EachGotOneReply r.short.loopers r.histories) same answered

  pub short_on : (ended finally : Ending) (found : Option RunEnd) (n : ℕ) (old new : Option (List ℕ)) (faults faults' : ℕ) (calls calls' : Option Calls) → IsPlayNowhere ended run calls calls' → IsSomeAnd found (λ (end : RunEnd). run ≡ with_main run.short.main end)
      → IfSome found (λ (end : RunEnd). TellsRun ended n end run.short.main finally old new faults faults') → IfSome found (λ (end : RunEnd). finally ≡ ending.NoMemory → IsShort end.short)
  short_on ended finally None n old new faults faults' calls calls' play same tells = tt
  short_on ended finally (Some end) n old new faults faults' calls calls' play same tells = short_so ended n end run.short.main finally old new faults faults' (λ lacks. subst (λ (r : RunEnd). IsShort r.short) same (play.ran_short lacks)) tells
