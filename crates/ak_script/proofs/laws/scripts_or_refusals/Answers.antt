-- What is read is a script or a refusal, and not both.
use Rattle.std.proofs.Common.{◌≡◌, ◌⊎◌, Result, Ok, Err, refl, inl, inr}
use Rattle.ak_describe.specs.Pass.{Refusal}
use Rattle.ak_script.specs.Script.{ScriptData, script_of}
use Rattle.ak_script.proofs.laws.scripts_or_refusals.Goals as goal

either : (r : Result ScriptData Refusal) → ((s : ScriptData) × (r ≡ Ok s)) ⊎ ((x : Refusal) × (r ≡ Err x))
either (Ok s) = inl (s, refl)
either (Err x) = inr (x, refl)

pub returns-clause-either : goal.returns-clause-either
returns-clause-either c = λ input. either (script_of input)
