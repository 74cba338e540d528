-- A script that was carried out, and the closing line behind it. The sink may have failed before the closing line, at any ending but Done.
use Rattle.std.proofs.Common.{◌≡◌, ℕ, ◌≤◌, List, [], take, Option, Some, None, sym, ◌∙◌, subst}
use Rattle.std.specs.Prelude.{IfSome, IfNone, IsSomeAnd}
use Rattle.std.specs.Io.KnownBytes.{Appends}
use Rattle.ak_base.specs.declared.ending.Ending.{Ending}
use Rattle.ak_base.specs.declared.ending.Ending.TheVariants as ending
use Rattle.ak_outside.specs.Calls.{Calls}
use Rattle.ak_outside.specs.Faults.{Rose}
use Rattle.ak_outside.proofs.Surface.{Appends-joined, Rose-after}
use Rattle.ak_describe.specs.declared.described.AppText.{AppText}
use Rattle.ak_script.specs.declared.script.Script.{Script}
use Rattle.ak_script.specs.declared.statement.Statement.{Statement}
use Rattle.ak_play.specs.declared.run_end.RunEnd.{RunEnd}
use Rattle.ak_play.specs.Play.{IsPlay}
use Rattle.ak_kit.specs.Journal.{JournalsAndCloses, TellsJournal}
use Rattle.ak_kit.specs.Kit.{Closes, ClosesBehind, PlaysAndCloses, closing_line, with_main}

-- where nothing was written before it, it is all
pub closes_alone : (end : Ending) (old between new : Option (List ℕ)) (a b c : ℕ) → a ≤ b → b ≤ c → Appends old between [] → b ≡ a → Closes end between new b c → Closes end old new a c
closes_alone end old between new a b c first second nothing still closes =
    (closes.0, Appends-joined old between new [] (take closes.0 (closing_line end)) nothing closes.1, λ missing. Rose-after a b c first second (closes.2 missing), λ whole. closes.3 whole ∙ still)

-- what was carried out is a run of this script
abbrev pub OfScript : Script → RunEnd → Type 0
OfScript script run = (run.script.apps.items ≡ script.apps.items) × (run.script.statements.items ≡ script.statements.items)

module _ (script : Script) (r : RunEnd) (played : Ending) (old between new : Option (List ℕ)) (a b c : ℕ) (calls calls' : Option Calls) (first : a ≤ b) (second : b ≤ c) (of_script : OfScript script r)
    (play : IsPlay script.apps.items script.statements.items played r old between (Rose a b) (b ≡ a) calls calls') where
  of_all : IsPlay r.script.apps.items r.script.statements.items played r old between (Rose a b) (b ≡ a) calls calls'
  of_all =
      let of_apps = subst (λ (apps : List AppText). IsPlay apps script.statements.items played r old between (Rose a b) (b ≡ a) calls calls') (sym of_script.0) play in
      subst (λ (statements : List Statement). IsPlay r.script.apps.items statements played r old between (Rose a b) (b ≡ a) calls calls') (sym of_script.1) of_apps

  pub plays_and_closes : (found : Option RunEnd) (end : Ending) → found ≡ Some r → end ≡ played → ClosesBehind r.lines played between new b c → IfSome found (λ (x : RunEnd). PlaysAndCloses x end old new a c calls calls')
  plays_and_closes found end same ended closes =
      subst (λ (o : Option RunEnd). IfSome o (λ (x : RunEnd). PlaysAndCloses x end old new a c calls calls')) (sym same)
      (subst (λ (e : Ending). PlaysAndCloses r e old new a c calls calls') (sym ended) (record { between = between; faults_between = b; first = first; second = second; play = of_all; closes = closes }))

  -- with its journal behind it; the run is handed on, but for whether main found no memory
  pub journals_and_closes : (found : Option RunEnd) (end : Ending) → IsSomeAnd found (λ (x : RunEnd). r ≡ with_main r.short.main x)
      → IfSome found (λ (x : RunEnd). TellsJournal r.lines played x r.short.main end between new b c) → IfSome found (λ (x : RunEnd). JournalsAndCloses x end old new a c calls calls')
  journals_and_closes None end same tells = tt
  journals_and_closes (Some x) end same tells = record {
    ended = played;
    main = r.short.main;
    between = between;
    faults_between = b;
    first = first;
    second = second;
    play = subst (λ (y : RunEnd). IsPlay y.script.apps.items y.script.statements.items played y old between (Rose a b) (b ≡ a) calls calls') same of_all;
    tells = subst (λ (y : RunEnd). TellsJournal y.lines played x r.short.main end between new b c) same tells;
  }

pub closes_without_run
    : (found run : Option RunEnd) (played end : Ending) (old between new : Option (List ℕ)) (a b c : ℕ) → run ≡ found → end ≡ played → a ≤ b → b ≤ c
    → IfNone found ((played ≡ ending.NoMemory) × Appends old between [] × (b ≡ a)) → Closes played between new b c
    → IfNone run (Closes end old new a c)
closes_without_run found (Some r) played end old between new a b c same ended first second nothing closes = tt
closes_without_run found None played end old between new a b c same ended first second nothing closes =
    let is_none = subst (λ (o : Option RunEnd). IfNone o ((played ≡ ending.NoMemory) × Appends old between [] × (b ≡ a))) (sym same) nothing in
    subst (λ (e : Ending). Closes e old new a c) (sym ended) (closes_alone played old between new a b c first second is_none.1 is_none.2 closes)
