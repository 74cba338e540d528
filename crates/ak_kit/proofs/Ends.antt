-- How a script that is carried out ends.
use Rattle.std.proofs.Common.{◌≡◌, ◌⊎◌, inl, inr, ℕ, Bool, true, false, List, Option, Some, None, Result, Ok, Err, IfSome, refl, sym, ◌∙◌, subst}
use Rattle.ak_base.specs.declared.ending.Ending.{Ending}
use Rattle.ak_base.specs.declared.ending.Ending.TheVariants as ending
use Rattle.ak_outside.specs.Calls.{Calls}
use Rattle.ak_outside.specs.Faults.{Rose, Stayed}
use Rattle.ak_outside.proofs.Surface.{Stayed-not_Rose}
use Rattle.ak_play.specs.declared.run_end.RunEnd.{RunEnd}
use Rattle.ak_play.specs.Play.{IsPlayEnding, IsShort}
use Rattle.ak_play.specs.declared.run_end.Lines.{Lines}
use Rattle.ak_play.specs.declared.run_end.Lines.TheVariants as lines
use Rattle.ak_kit.specs.Journal.{JournalsAndCloses, TellsJournal, at_a_write, ends_behind, main_behind}
use Rattle.ak_kit.specs.Kit.{PlaysAndCloses, with_main}

-- where no count rose, it is done, unless memory ran out
pub ends_well
    : (end : Ending) (k k' w w' : ℕ) → IsPlayEnding end → (end ≡ ending.WriteFault → Rose k k') → (end ≡ ending.ThreadFault → Rose w w') → Stayed k k' → Stayed w w'
    → (end ≡ ending.Done) ⊎ (end ≡ ending.NoMemory)
ends_well ending.Done k k' w w' is write thread sink spawner = inl refl
ends_well ending.NoMemory k k' w w' is write thread sink spawner = inr refl
ends_well ending.WriteFault k k' w w' is write thread sink spawner = absurd (Stayed-not_Rose k k' sink (write refl))
ends_well ending.ThreadFault k k' w w' is write thread sink spawner = absurd (Stayed-not_Rose w w' spawner (thread refl))
ends_well ending.Usage k k' w w' is write thread sink spawner = absurd is
ends_well (ending.Refused line why) k k' w w' is write thread sink spawner = absurd is
ends_well ending.ReadFault k k' w w' is write thread sink spawner = absurd is

-- a run that ends without memory is short
ends_short
    : (run : Option RunEnd) (end : Ending) (old new : Option (List ℕ)) (a b : ℕ) (calls calls' : Option Calls) → IfSome run (λ (r : RunEnd). PlaysAndCloses r end old new a b calls calls')
    → IfSome run (λ (r : RunEnd). end ≡ ending.NoMemory → IsShort r.short)
ends_short (Some r) end old new a b calls calls' plays = plays.play.ran_short
ends_short None end old new a b calls calls' plays = tt

-- where a write failed behind it
short_cut : (ended : Ending) (main : Bool) (run : RunEnd) (end : Ending) → end ≡ at_a_write main ended → run.short.main ≡ main → end ≡ ending.NoMemory → IsShort run.short
short_cut ending.ThreadFault main run end end_is main_is lacks = let bad : ending.ThreadFault ≡ ending.NoMemory = sym end_is ∙ lacks in absurd (cc bad)
short_cut ending.NoMemory true run end end_is main_is lacks = inl main_is
short_cut ending.NoMemory false run end end_is main_is lacks = let bad : ending.WriteFault ≡ ending.NoMemory = sym end_is ∙ lacks in absurd (cc bad)
short_cut ending.Done main run end end_is main_is lacks = let bad : ending.WriteFault ≡ ending.NoMemory = sym end_is ∙ lacks in absurd (cc bad)
short_cut ending.WriteFault main run end end_is main_is lacks = let bad : ending.WriteFault ≡ ending.NoMemory = sym end_is ∙ lacks in absurd (cc bad)
short_cut ending.Usage main run end end_is main_is lacks = let bad : ending.WriteFault ≡ ending.NoMemory = sym end_is ∙ lacks in absurd (cc bad)
short_cut ending.ReadFault main run end end_is main_is lacks = let bad : ending.WriteFault ≡ ending.NoMemory = sym end_is ∙ lacks in absurd (cc bad)
short_cut (ending.Refused line why) main run end end_is main_is lacks = let bad : ending.WriteFault ≡ ending.NoMemory = sym end_is ∙ lacks in absurd (cc bad)

-- behind a journal
short_behind : (ended : Ending) (told : Lines) (run : RunEnd) (main : Bool) (end : Ending) → (ended ≡ ending.NoMemory → IsShort (with_main main run).short) → end ≡ ends_behind main ended told → run.short.main ≡ main_behind main told → end ≡ ending.NoMemory → IsShort run.short
short_behind ended lines.Whole run main end short end_is main_is lacks = subst (λ (b : Bool). IsShort (with_main b run).short) (sym main_is) (short (sym end_is ∙ lacks))
short_behind ended lines.Lacking run main end short end_is main_is lacks = inl main_is
short_behind ended lines.Cut run main end short end_is main_is lacks = short_cut ended main run end end_is main_is lacks

pub short_told : (told : Lines) (ended : Ending) (run : RunEnd) (main : Bool) (end : Ending) (old new : Option (List ℕ)) (a b : ℕ) → (ended ≡ ending.NoMemory → IsShort (with_main main run).short) → TellsJournal told ended run main end old new a b
    → end ≡ ending.NoMemory → IsShort run.short
short_told lines.Whole ended run main end old new a b short tells = short_behind ended tells.told run main end short tells.end_is tells.main_is
short_told lines.Cut ended run main end old new a b short tells = short_behind ended lines.Whole run main end short tells.end_is tells.main_is
short_told lines.Lacking ended run main end old new a b short tells = short_behind ended lines.Whole run main end short tells.end_is tells.main_is

short_journaled
    : (run : Option RunEnd) (end : Ending) (old new : Option (List ℕ)) (a b : ℕ) (calls calls' : Option Calls) → IfSome run (λ (r : RunEnd). JournalsAndCloses r end old new a b calls calls')
    → IfSome run (λ (r : RunEnd). end ≡ ending.NoMemory → IsShort r.short)
short_journaled (Some r) end old new a b calls calls' plays = short_told r.lines plays.ended r plays.main end plays.between new plays.faults_between b plays.play.ran_short plays.tells
short_journaled None end old new a b calls calls' plays = tt

-- with a journal and without one
pub ends_short_so
    : (journal : Bool) (run : Option RunEnd) (end : Ending) (old new : Option (List ℕ)) (a b : ℕ) (calls calls' : Option Calls) → (journal ≡ false → IfSome run (λ (r : RunEnd). PlaysAndCloses r end old new a b calls calls'))
    → (journal ≡ true → IfSome run (λ (r : RunEnd). JournalsAndCloses r end old new a b calls calls'))
    → IfSome run (λ (r : RunEnd). end ≡ ending.NoMemory → IsShort r.short)
ends_short_so false run end old new a b calls calls' plays journals = ends_short run end old new a b calls calls' (plays refl)
ends_short_so true run end old new a b calls calls' plays journals = short_journaled run end old new a b calls calls' (journals refl)

-- what was read is no fault
pub no_fault : {A E : Type 0} (r : Result A E) (x : A) (e f : E) → r ≡ Ok x → (r ≡ Err e) ⊎ (r ≡ Err f) → ⊥
no_fault r x e f is (inl fault) = cc
no_fault r x e f is (inr fault) = cc
