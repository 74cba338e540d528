-- What the line of `read`, and what the run, says of the script that was read.
use Rattle.std.proofs.Common.{◌≡◌, ℕ, List, Option, None, Some, sym, subst}
use Rattle.std.specs.Prelude.{IfSome}
use Rattle.ak_base.specs.declared.ending.Ending.{Ending}
use Rattle.ak_base.specs.declared.ending.Ending.TheVariants as ending
use Rattle.ak_script.specs.declared.script.Script.{Script}
use Rattle.ak_script.specs.Script.{ScriptData}
use Rattle.ak_script.specs.Seen.{script_seen}
use Rattle.ak_play.specs.declared.run_end.RunEnd.{RunEnd}
use Rattle.ak_kit.specs.Kit.{IsTextOf, SaysScript, SomeInput, Tells, TellsLine}
use Rattle.ak_kit.specs.Summary.{summary}

pub tells_script
    : (script : Script) (end : Ending) (left left' old new : Option (List ℕ)) (faults faults' : ℕ) → SomeInput (IsTextOf script) left left' → TellsLine (summary (script_seen script)) end old new faults faults'
    → Tells end left left' old new faults faults'
tells_script script ending.Done left left' old new faults faults' read told = (read.0, read.1, (script_seen script, read.2, told))
tells_script script ending.WriteFault left left' old new faults faults' read told = (read.0, read.1, (script_seen script, read.2, told))
tells_script script ending.NoMemory left left' old new faults faults' read told = told
tells_script script ending.Usage left left' old new faults faults' read told = absurd told
tells_script script (ending.Refused line why) left left' old new faults faults' read told = absurd told
tells_script script ending.ReadFault left left' old new faults faults' read told = absurd told
tells_script script ending.ThreadFault left left' old new faults faults' read told = absurd told

-- the run's script says the same as the one that was read
pub run_of_text
    : (script : Script) (found : Option RunEnd) (left left' : Option (List ℕ)) → SomeInput (IsTextOf script) left left' → IfSome found (λ (run : RunEnd). script_seen run.script ≡ script_seen script)
    → IfSome found (λ (run : RunEnd). SomeInput (IsTextOf run.script) left left')
run_of_text script None left left' read same = tt
run_of_text script (Some run) left left' read same = (read.0, read.1, subst (λ (s : ScriptData). SaysScript s read.0) (sym same) read.2)
