-- What is answered, by what the first pass and the second one give.
use Rattle.std.proofs.Common.{◌≡◌, ◌∙◌, List, Vec, Option, None, Some, option_map, Result, Ok, Err, IfOk, IfErr, refl, sym, ap, subst}
use Rattle.std.specs.declared.alloc.Global.{Global}
use Rattle.ak_input.specs.declared.line.Line.{Line}
use Rattle.ak_describe.specs.declared.described.AppText.{AppText}
use Rattle.ak_describe.specs.declared.fault.DescribeFault.{DescribeFault}
use Rattle.ak_describe.specs.declared.fault.DescribeFault.TheVariants as answer
use Rattle.ak_describe.specs.declared.named.Named.{Named}
use Rattle.ak_describe.specs.Answers.{Answers, IsTold, refused}
use Rattle.ak_describe.specs.Described.{AreWhole, described}
use Rattle.ak_describe.specs.Describes.{Describes}
use Rattle.ak_describe.specs.Description.{checked, description}
use Rattle.ak_describe.specs.Laws.{IsFirstFault}
use Rattle.ak_describe.specs.Led.{chains_of, led_fault}
use Rattle.ak_describe.specs.Parts.{AppData}
use Rattle.ak_describe.specs.Pass.{Refusal, State, first_pass, or_refused, then_read}
use Rattle.ak_describe.specs.Read.{IsSaid}
use Rattle.ak_describe.specs.Second.{second_fault}
use Rattle.ak_describe.specs.Seen.{apps_seen}
use Rattle.ak_describe.proofs.answered.BothPasses.{are_whole, led_is_second}
use Rattle.ak_describe.proofs.answered.LawsHold.{described_is_read, first_fault_is_told}

-- ---- the laws of all lines
pub are_described : (lines : List Line) (apps : List AppText) → description lines ≡ Ok apps → Describes lines apps
are_described lines apps e = (described_is_read lines apps).0 e

pub is_first : (lines : List Line) (e : DescribeFault) → IsTold e (description lines) → IsFirstFault lines e
is_first lines (answer.Refused number kind) told = (first_fault_is_told lines (record { line = number; kind = kind })).0 told
is_first lines answer.NoMemory told = tt

-- ---- the first pass is refused
pub first_told : (lines : List Line) (e : DescribeFault) → IsTold e (first_pass lines) → IsTold e (description lines)
unfolding description
first_told lines (answer.Refused number kind) told = ap (λ (r : Result State Refusal). then_read r checked) told
first_told lines answer.NoMemory told = tt

-- ---- the second pass is made of what the first one read of some lines
pub checked_is : (lines : List Line) (s : State) → first_pass lines ≡ Ok s → description lines ≡ checked s
unfolding description
checked_is lines s read = ap (λ (r : Result State Refusal). then_read r checked) read

-- by the parts as they are seen
led_of : (s : State) (apps : List AppData) (names : List Named) → apps ≡ s.apps → names ≡ s.names → led_fault apps (chains_of 0 0) names ≡ led_fault s.apps (chains_of 0 0) s.names
led_of s apps names same alike =
    ap (λ (a : List AppData). led_fault a (chains_of 0 0) names) same ∙ ap (λ (n : List Named). led_fault s.apps (chains_of 0 0) n) alike

-- it finds a fault
found_is : (o : Option Refusal) (e : DescribeFault) → option_map refused o ≡ Some e → (r : Refusal) × (o ≡ Some r) × (refused r ≡ e)
found_is None e h = absurd cc
found_is (Some r) e h = (r, refl, cc)

pub told_of : (s : State) (apps : List AppData) (names : List Named) (e : DescribeFault) → IsSaid s → apps ≡ s.apps → names ≡ s.names
    → Some e ≡ option_map refused (led_fault apps (chains_of 0 0) names) → IsTold e (checked s)
told_of s apps names e said same alike found =
    let t = found_is (led_fault s.apps (chains_of 0 0) s.names) e (sym (found ∙ ap (option_map refused) (led_of s apps names same alike))) in
    let fault : second_fault s.apps s.names ≡ Some t.0 = sym (led_is_second said.lines s said.passes) ∙ t.1 in
    subst (λ (f : DescribeFault). IsTold f (checked s)) t.2 (ap (λ (o : Option Refusal). or_refused o (described s.apps)) fault)

-- or none
pub no_refusal : (o : Option Refusal) → option_map refused o ≡ None → o ≡ None
no_refusal None h = refl
no_refusal (Some r) h = absurd cc

pub none_of : (s : State) (apps : List AppData) (names : List Named) → IsSaid s → apps ≡ s.apps → names ≡ s.names
    → None ≡ option_map refused (led_fault apps (chains_of 0 0) names) → second_fault s.apps s.names ≡ None
none_of s apps names said same alike none =
    sym (led_is_second said.lines s said.passes) ∙ no_refusal (led_fault s.apps (chains_of 0 0) s.names) (sym (none ∙ ap (option_map refused) (led_of s apps names same alike)))

pub whole_then : (s : State) → IsSaid s → second_fault s.apps s.names ≡ None → AreWhole s.apps
whole_then s said none = are_whole said.lines s said.passes none

pub described_then : (s : State) → second_fault s.apps s.names ≡ None → checked s ≡ Ok (described s.apps)
described_then s none = ap (λ (o : Option Refusal). or_refused o (described s.apps)) none

-- ---- what it answers is what the lines describe, or their first fault
pub answers_all : (lines : List Line) (s : State) (r : Result (Vec AppText Global) DescribeFault) → first_pass lines ≡ Ok s → Answers apps_seen r (checked s) → Answers apps_seen r (description lines)
answers_all lines s r read a = subst (Answers apps_seen r) (sym (checked_is lines s read)) a

pub all_described : (lines : List Line) (r : Result (Vec AppText Global) DescribeFault) → Answers apps_seen r (description lines) → IfOk r (λ (apps : Vec AppText Global). Describes lines apps.items)
all_described lines (Ok apps) a = are_described lines apps.items a
all_described lines (Err e) a = tt

pub all_first : (lines : List Line) (r : Result (Vec AppText Global) DescribeFault) → Answers apps_seen r (description lines) → IfErr r (IsFirstFault lines)
all_first lines (Ok apps) a = tt
all_first lines (Err e) a = is_first lines e a
