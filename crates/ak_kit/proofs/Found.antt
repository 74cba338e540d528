-- What holds of every run holds of the one that was found, and of it as it is passed on: but for whether main ran out of memory.
use Rattle.std.proofs.Common.{◌≡◌, ℕ, List, Option, None, Some, All, sym, subst}
use Rattle.std.specs.Prelude.{Bool, IfSome, IsSomeAnd}
use Rattle.ak_base.specs.declared.ending.Ending.{Ending}
use Rattle.ak_outside.specs.Calls.{Calls}
use Rattle.ak_outside.specs.Faults.{Rose}
use Rattle.ak_describe.specs.declared.described.AppText.{AppText}
use Rattle.ak_describe.specs.Whole.{AreWholeApps, heads_of}
use Rattle.ak_script.specs.declared.script.Script.{Script}
use Rattle.ak_journal.specs.Plain.{IsPlain}
use Rattle.ak_world.specs.Merged.{entries_of}
use Rattle.ak_run.specs.Opened.{WereOpened}
use Rattle.ak_play.specs.declared.run_end.RunEnd.{RunEnd}
use Rattle.ak_play.specs.Play.{IsPlay, IsRunOf}
use Rattle.ak_plain.specs.Laws.{EntriesArePlain}
use Rattle.ak_sequence.specs.Worlds.{RunsAreSequences}
use Rattle.ak_kit.specs.Kit.{with_main}
use Rattle.ak_kit.specs.Sequence.{RunsAsOne}
use Rattle.ak_kit.proofs.Playing.{OfScript}

-- ---- each run is one sequence
as_one : RunsAreSequences → (run : RunEnd) → IsRunOf (heads_of run.script.apps.items) run → RunsAsOne run
as_one law run is =
    let one = law is.sessions (heads_of run.script.apps.items) run.short.loopers run.histories is.is in
    record { sessions = is.sessions; is = is.is; entries = one.0; sequence = one.1 }

pub one_found : RunsAreSequences → (script : Script) (found : Option RunEnd) → IfSome found (OfScript script) → IfSome found (λ (run : RunEnd). IsRunOf (heads_of script.apps.items) run) → IfSome found RunsAsOne
one_found law script None of_script is = tt
one_found law script (Some run) of_script is = as_one law run (subst (λ (apps : List AppText). IsRunOf (heads_of apps) run) (sym of_script.0) is)

-- ---- its entries are plain
pub plain_found
    : EntriesArePlain → (script : Script) (end : Ending) (found : Option RunEnd) (old new : Option (List ℕ)) (a b : ℕ) (calls calls' : Option Calls) → AreWholeApps script.apps.items
    → IfSome found (λ (run : RunEnd). WereOpened script.apps.items run.histories)
    → IfSome found (λ (run : RunEnd). IsPlay script.apps.items script.statements.items end run old new (Rose a b) (b ≡ a) calls calls')
    → IfSome found (λ (run : RunEnd). All IsPlain (entries_of run.histories))
plain_found law script end None old new a b calls calls' whole opened play = tt
plain_found law script end (Some run) old new a b calls calls' whole opened play = law script.apps.items script.statements.items end run old new a b calls calls' whole opened play

-- ---- the run as it is handed on
one_with_main : (main : Bool) (run : RunEnd) → RunsAsOne (with_main main run) → RunsAsOne run
one_with_main main run one = record { sessions = one.sessions; is = one.is; entries = one.entries; sequence = one.sequence }

module _ (run : RunEnd) where
  pub one_on : (found : Option RunEnd) → RunsAsOne run → IsSomeAnd found (λ (end : RunEnd). run ≡ with_main run.short.main end) → IfSome found RunsAsOne
  one_on None one same = tt
  one_on (Some end) one same = one_with_main run.short.main end (subst RunsAsOne same one)

  pub plain_on : (found : Option RunEnd) → All IsPlain (entries_of run.histories) → IsSomeAnd found (λ (end : RunEnd). run ≡ with_main run.short.main end)
      → IfSome found (λ (end : RunEnd). All IsPlain (entries_of end.histories))
  plain_on None plain same = tt
  plain_on (Some end) plain same = subst (λ (r : RunEnd). All IsPlain (entries_of r.histories)) same plain
