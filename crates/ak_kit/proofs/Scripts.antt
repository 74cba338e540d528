-- A script that is read from an input, or the input's first refusal.
use Rattle.std.proofs.Common.{◌≡◌, ◌⊎◌, inl, inr, ℕ, List, Result, Ok, Err, IfOk, IfErr, IsOk, refl, sym, ap, ◌∙◌}
use Rattle.ak_base.specs.declared.ending.Ending.{Ending}
use Rattle.ak_base.specs.declared.ending.Ending.TheVariants as ending
use Rattle.ak_base.specs.declared.ending.RefusalKind.{RefusalKind}
use Rattle.ak_describe.specs.Pass.{Refusal}
use Rattle.ak_script.specs.declared.script.Script.{Script}
use Rattle.ak_script.specs.Refusals.{FirstRefusalIsTold, ScriptsAreRead}
use Rattle.ak_script.specs.Script.{ScriptData, script_of}
use Rattle.ak_script.specs.Seen.{script_seen}
use Rattle.ak_kit.specs.Kit.{IsFaultOf, IsRefusedAt, IsTextOf, SaysScript}

-- the ending that a refusal is
abbrev refused : Result ScriptData Refusal → Ending
refused (Err r) = ending.Refused r.line r.kind
refused (Ok _) = ending.Done

-- what was read of an input (`given`), of which the same is read as of the whole
pub refuses : ScriptsAreRead → FirstRefusalIsTold → (r : Result Script Ending) (given input : List ℕ) (line : ℕ) (why : RefusalKind) → script_of given ≡ script_of input → IfOk r (λ s. IsTextOf s given) → IfErr r (λ e. IsFaultOf e given) → IsRefusedAt line why input
    → (r ≡ Err (ending.Refused line why)) ⊎ (r ≡ Err ending.NoMemory)
unfolding SaysScript IsRefusedAt
refuses said told (Ok s) given input line why same text fault refusal = absurd (let one = (said given (script_seen s)).1 text in let other = (told input (record { line = line; kind = why })).1 refusal in cc)
refuses said told (Err (ending.Refused l w)) given input line why same text fault refusal =
    inl (ap (λ (e : Ending). Err e) (ap refused (sym ((told given (record { line = l; kind = w })).1 fault) ∙ (same ∙ (told input (record { line = line; kind = why })).1 refusal))))
refuses said told (Err ending.NoMemory) given input line why same text fault refusal = inr refl
refuses said told (Err ending.Done) given input line why same text fault refusal = absurd fault
refuses said told (Err ending.Usage) given input line why same text fault refusal = absurd fault
refuses said told (Err ending.ReadFault) given input line why same text fault refusal = absurd fault
refuses said told (Err ending.WriteFault) given input line why same text fault refusal = absurd fault
refuses said told (Err ending.ThreadFault) given input line why same text fault refusal = absurd fault

pub reads : ScriptsAreRead → FirstRefusalIsTold → (r : Result Script Ending) (given input : List ℕ) (script : ScriptData) → script_of given ≡ script_of input → IfErr r (λ e. IsFaultOf e given) → SaysScript script input → IsOk r ⊎ (r ≡ Err ending.NoMemory)
unfolding SaysScript IsRefusedAt
reads said told (Ok s) given input script same fault says = inl refl
reads said told (Err (ending.Refused l w)) given input script same fault says = absurd (let one = (told given (record { line = l; kind = w })).1 fault in let other = (said input script).1 says in cc)
reads said told (Err ending.NoMemory) given input script same fault says = inr refl
reads said told (Err ending.Done) given input script same fault says = absurd fault
reads said told (Err ending.Usage) given input script same fault says = absurd fault
reads said told (Err ending.ReadFault) given input script same fault says = absurd fault
reads said told (Err ending.WriteFault) given input script same fault says = absurd fault
reads said told (Err ending.ThreadFault) given input script same fault says = absurd fault
