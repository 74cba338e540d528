-- Lines as they come: the first pass goes on by one line, and the first fault of the lines so far is that of all.
use Rattle.std.proofs.Common.{◌≡◌, ℕ, ◌+◌, ◌<◌, ◌≤◌, if◌then◌else◌, List, [], ◌∷◌, ◌++◌, length, get_or, drop, Option, Some, None, option_map, IfSome, IfNone, Result, Ok, Err, IsOk, is_ok, append_assoc, refl, sym, ap, subst, ◌∙◌}
use Rattle.std.proofs.lemmas.List.{append-nil, drop_all, drop_more}
use Rattle.ak_base.specs.declared.ending.RefusalKind.{RefusalKind}
use Rattle.ak_input.specs.declared.line.Line.{Line}
use Rattle.ak_describe.specs.declared.fault.DescribeFault.{DescribeFault}
use Rattle.ak_describe.specs.declared.fault.DescribeFault.TheVariants as answer
use Rattle.ak_describe.specs.declared.fault.LineFault.{LineFault}
use Rattle.ak_describe.specs.declared.fault.LineFault.TheVariants as faults
use Rattle.ak_describe.specs.Answers.{IsRefused, IsTold, refused}
use Rattle.ak_describe.specs.Description.{checked, description}
use Rattle.ak_describe.specs.Faults.{fault_at}
use Rattle.ak_describe.specs.Laws.{BothMakeIt, FaultsStay, GoesLineByLine, IsFirstFault, IsPassed}
use Rattle.ak_describe.specs.Parts.{AppData}
use Rattle.ak_describe.specs.Pass.{State, Refusal, nothing_read, then_read, or_refused, at_line, read_line, after_lines, last_item, may_open_app, unfinished, unfinished_at, first_pass}
use Rattle.ak_describe.specs.Read.{AreRead, IsSaid, end_fault, fault_of, last_number, left_open, lines_read, number_of, unfinished_behind}
use Rattle.ak_describe.proofs.ground.Ends.{last_push}
use Rattle.ak_describe.proofs.answered.LawsHold.{failed, refused_first, passed_is}
use Rattle.ak_describe.proofs.answered.Told.{first_told, is_first, no_refusal}

-- ---- more lines behind those so far
abbrev behind : List Line → State → Result State Refusal
behind more s = after_lines s more

by_first : (r : Result State Refusal) (lines more : List Line) → ((next : State) → after_lines next (lines ++ more) ≡ then_read (after_lines next lines) (behind more))
    → then_read r (behind (lines ++ more)) ≡ then_read (then_read r (behind lines)) (behind more)
by_first (Ok next) lines more step = step next
by_first (Err e) lines more step = refl

after_more : (s : State) (lines more : List Line) → after_lines s (lines ++ more) ≡ then_read (after_lines s lines) (behind more)
after_more s [] more = refl
after_more s (line ∷ lines) more = by_first (at_line line.number (read_line s line)) lines more (λ next. after_more next lines more)

then_ok : (r : Result State Refusal) → then_read r (λ (s : State). Ok s) ≡ r
then_ok (Ok s) = refl
then_ok (Err e) = refl

by_last : (r : Result State Refusal) (line : Line) → then_read r (behind (line ∷ [])) ≡ then_read r (λ (s : State). at_line line.number (read_line s line))
by_last (Ok s) line = then_ok (at_line line.number (read_line s line))
by_last (Err e) line = refl

pub goes_line_by_line : GoesLineByLine
goes_line_by_line lines line = after_more nothing_read lines (line ∷ []) ∙ by_last (lines_read lines) line

-- ---- a line more
-- where nothing is wrong with it
pub read_more : (lines : List Line) (line : Line) (s left : State) (last : Option ℕ) → AreRead lines s last → read_line s line ≡ Ok left → AreRead (lines ++ line ∷ []) left (Some line.number)
read_more lines line s left last h e =
    record {
      read = goes_line_by_line lines line ∙ ap (λ (r : Result State Refusal). then_read r (λ (x : State). at_line line.number (read_line x line))) h.read ∙ ap (at_line line.number) e;
      last_is = sym (ap (option_map number_of) (last_push lines line));
    }

-- where there is none yet
pub none_are_read : (lines : List Line) (s : State) → lines ≡ [] → s ≡ nothing_read → AreRead lines s None
none_are_read lines s none nothing =
    record { read = ap lines_read none ∙ ap (λ (x : State). Ok x) (sym nothing); last_is = sym (ap last_number none) }

-- behind them, as lists are kept
pub are_read_now : (lines next : List Line) (line : Line) (s left : State) (last : Option ℕ) → AreRead lines s last → read_line s line ≡ Ok left → next ≡ lines ++ line ∷ [] → AreRead next left (Some line.number)
are_read_now lines next line s left last h e pushed = subst (λ (ls : List Line). AreRead ls left (Some line.number)) (sym pushed) (read_more lines line s left last h e)

-- a line that is refused changes nothing
pub are_read_still : (lines : List Line) (s left : State) (last : Option ℕ) → AreRead lines s last → left ≡ s → AreRead lines left last
are_read_still lines s left last h same = subst (λ (x : State). AreRead lines x last) (sym same) h

told_at : (e : LineFault) (number : ℕ) (r : Result State RefusalKind) → IsRefused e r → IsTold (fault_at e number) (at_line number r)
told_at faults.UnknownLine number r h = ap (at_line number) h
told_at faults.BadValue number r h = ap (at_line number) h
told_at faults.NameInUse number r h = ap (at_line number) h
told_at faults.Limit number r h = ap (at_line number) h
told_at faults.NoMemory number r h = tt

-- where something is
pub told_more : (lines : List Line) (line : Line) (s : State) (last : Option ℕ) (e : LineFault) → AreRead lines s last → IsRefused e (read_line s line) → IsTold (fault_at e line.number) (lines_read (lines ++ line ∷ []))
told_more lines line s last e h fault =
    let here : lines_read (lines ++ line ∷ []) ≡ at_line line.number (read_line s line) =
    goes_line_by_line lines line ∙ ap (λ (r : Result State Refusal). then_read r (λ (x : State). at_line line.number (read_line x line))) h.read in
    subst (IsTold (fault_at e line.number)) (sym here) (told_at e line.number (read_line s line) fault)

-- ---- the first fault stays
err_more : (lines more : List Line) (r : Refusal) → lines_read lines ≡ Err r → lines_read (lines ++ more) ≡ Err r
err_more lines more r e = after_more nothing_read lines more ∙ ap (λ (x : Result State Refusal). then_read x (behind more)) e

pub faults_stay : FaultsStay
faults_stay lines more r e = refused_first (lines ++ more) r (failed (lines ++ more) r (err_more lines more r e))

pub told_stays : (lines more : List Line) (e : DescribeFault) → IsTold e (lines_read lines) → IsTold e (lines_read (lines ++ more))
told_stays lines more (answer.Refused number kind) told = err_more lines more (record { line = number; kind = kind }) told
told_stays lines more answer.NoMemory told = tt

-- it is that of all
told_first : (lines : List Line) (e : DescribeFault) → IsTold e (lines_read lines) → IsTold e (first_pass lines)
told_first lines (answer.Refused number kind) told = failed lines (record { line = number; kind = kind }) told
told_first lines answer.NoMemory told = tt

pub told_all : (lines : List Line) (e : DescribeFault) → IsTold e (lines_read lines) → IsTold e (description lines)
told_all lines e told = first_told lines e (told_first lines e told)

pub read_is_first : (lines : List Line) (e : DescribeFault) → IsTold e (lines_read lines) → IsFirstFault lines e
read_is_first lines e told = is_first lines e (told_all lines e told)

-- ---- where the lines end
behind_is : (o : Option Line) → unfinished_behind (option_map number_of o) ≡ unfinished_at o
behind_is None = refl
behind_is (Some line) = refl

left_open_is : (apps : List AppData) (lines : List Line) → left_open apps (last_number lines) ≡ unfinished apps lines
left_open_is apps lines = ap (λ (o : Option Refusal). if may_open_app apps then None else o) (behind_is (last_item lines))

passes_or : (o : Option Refusal) (s : State) → fault_of (or_refused o s) ≡ o
passes_or None s = refl
passes_or (Some r) s = refl

first_is : (lines : List Line) (s : State) → lines_read lines ≡ Ok s → first_pass lines ≡ or_refused (unfinished s.apps lines) s
unfolding first_pass
first_is lines s e = ap (λ (r : Result State Refusal). then_read r (λ (x : State). or_refused (unfinished x.apps lines) x)) e

end_is : (lines : List Line) (s : State) → lines_read lines ≡ Ok s → end_fault lines ≡ unfinished s.apps lines
end_is lines s e = ap fault_of (first_is lines s e) ∙ passes_or (unfinished s.apps lines) s

pub end_found : (lines : List Line) (s : State) (last : Option ℕ) → AreRead lines s last → left_open s.apps last ≡ end_fault lines
end_found lines s last h = ap (left_open s.apps) h.last_is ∙ left_open_is s.apps lines ∙ sym (end_is lines s h.read)

pub reads_so_far : (lines : List Line) (s : State) (last : Option ℕ) → AreRead lines s last → IsOk (lines_read lines)
reads_so_far lines s last h = ap is_ok h.read

-- nothing is wrong there
pub first_passes : (lines : List Line) (s : State) (last : Option ℕ) → AreRead lines s last → end_fault lines ≡ None → first_pass lines ≡ Ok s
first_passes lines s last h none = first_is lines s h.read ∙ ap (λ (o : Option Refusal). or_refused o s) (sym (end_is lines s h.read) ∙ none)

pub end_none : (lines : List Line) → None ≡ option_map refused (end_fault lines) → end_fault lines ≡ None
end_none lines e = no_refusal (end_fault lines) (sym e)

-- so it is by the grammar
pub first_is_passed : (lines : List Line) (s : State) (last : Option ℕ) → AreRead lines s last → end_fault lines ≡ None → IsPassed lines
first_is_passed lines s last h none = passed_is lines s h.read (sym (end_is lines s h.read) ∙ none)

-- something is
fault_is : (r : Result State Refusal) (e : DescribeFault) → Some e ≡ option_map refused (fault_of r) → IsTold e r
fault_is (Ok s) e h = absurd cc
fault_is (Err r) e h = subst (λ (x : DescribeFault). IsTold {Y = State} x (Err r)) (same_some e (refused r) h) refl
  where
    same_some : (x y : DescribeFault) → Some x ≡ Some y → y ≡ x
    same_some x y same = cc

pub end_told : (lines : List Line) (e : DescribeFault) → Some e ≡ option_map refused (end_fault lines) → IsTold e (description lines)
end_told lines e h = first_told lines e (fault_is (first_pass lines) e h)

pub end_first : (lines : List Line) (e : DescribeFault) → Some e ≡ option_map refused (end_fault lines) → IsFirstFault lines e
end_first lines e h = is_first lines e (end_told lines e h)

-- ---- what calls answer
-- of one line more that is refused
pub record LineTold (lines : List Line) (line : Line) (e : DescribeFault) : Type 0 where
  pub told : IsTold e (lines_read (lines ++ line ∷ []))
  pub first : IsFirstFault (lines ++ line ∷ []) e

pub line_told : (all lines : List Line) (line : Line) (s : State) (last : Option ℕ) (e : LineFault) → lines ≡ all → AreRead lines s last → IsRefused e (read_line s line) → LineTold all line (fault_at e line.number)
line_told all lines line s last e view h fault =
    let told = told_more lines line s last e h fault in
    subst (λ (ls : List Line). LineTold ls line (fault_at e line.number)) view
    (record { told = told; first = read_is_first (lines ++ line ∷ []) (fault_at e line.number) told })

-- of the end
pub record EndTold (lines : List Line) (o : Option DescribeFault) : Type 0 where
  pub fault : o ≡ option_map refused (end_fault lines)
  pub refused_first : IfSome o (IsFirstFault lines)
  pub ended : IfNone o (end_fault lines ≡ None)
  pub passed : IfNone o (IsPassed lines)
  pub read : IsOk (lines_read lines)

some_first : (lines : List Line) (o : Option DescribeFault) → o ≡ option_map refused (end_fault lines) → IfSome o (IsFirstFault lines)
some_first lines None e = tt
some_first lines (Some x) e = end_first lines x e

none_ended : (lines : List Line) (o : Option DescribeFault) → o ≡ option_map refused (end_fault lines) → IfNone o (end_fault lines ≡ None)
none_ended lines None e = end_none lines e
none_ended lines (Some x) e = tt

none_passed : (lines : List Line) (s : State) (last : Option ℕ) (o : Option DescribeFault) → AreRead lines s last → o ≡ option_map refused (end_fault lines) → IfNone o (IsPassed lines)
none_passed lines s last None h e = first_is_passed lines s last h (end_none lines e)
none_passed lines s last (Some x) h e = tt

pub end_of : (all lines : List Line) (s : State) (apps : List AppData) (last : Option ℕ) (o : Option DescribeFault) → lines ≡ all → AreRead lines s last → apps ≡ s.apps → o ≡ option_map refused (left_open apps last) → EndTold all o
end_of all lines s apps last o view h same e =
    let fault : o ≡ option_map refused (end_fault lines) =
    e ∙ ap (λ (a : List AppData). option_map refused (left_open a last)) same ∙ ap (option_map refused) (end_found lines s last h) in
    subst (λ (ls : List Line). EndTold ls o) view
    (record {
      fault = fault;
      refused_first = some_first lines o fault;
      ended = none_ended lines o fault;
      passed = none_passed lines s last o h fault;
      read = reads_so_far lines s last h;
    })

-- what the second pass is made of
pub said_of : (all lines : List Line) (s : State) (last : Option ℕ) → lines ≡ all → AreRead lines s last → end_fault all ≡ None → IsSaid s
said_of all lines s last view h none = record { lines = lines; passes = first_passes lines s last h (ap end_fault view ∙ none) }

pub all_pass : (all lines : List Line) (s : State) (last : Option ℕ) → lines ≡ all → AreRead lines s last → end_fault all ≡ None → first_pass all ≡ Ok s
all_pass all lines s last view h none = ap first_pass (sym view) ∙ first_passes lines s last h (ap end_fault view ∙ none)

-- ---- both passes
both_by : (lines : List Line) (r : Result State Refusal) → lines_read lines ≡ r → description lines ≡ then_read r (λ (s : State). then_read (or_refused (end_fault lines) s) checked)
unfolding description
both_by lines (Ok s) e =
    ap (λ (r : Result State Refusal). then_read r checked) (first_is lines s e ∙ ap (λ (o : Option Refusal). or_refused o s) (sym (end_is lines s e)))
both_by lines (Err r) e = refused_first lines r (failed lines r e)

pub both_make_it : BothMakeIt
both_make_it lines = both_by lines (lines_read lines) refl

-- ---- all lines, one after another
-- one more of them
onward : (front : List Line) (line : Line) (rest all : List Line) → front ++ line ∷ rest ≡ all → (front ++ line ∷ []) ++ rest ≡ all
onward front line rest all e = append_assoc front (line ∷ []) rest ∙ e

pub come_on : (all : List Line) (i : ℕ) (line : Line) (front next : List Line) → i < length all → line ≡ get_or all i line → front ++ drop i all ≡ all → next ≡ front ++ line ∷ []
    → next ++ drop (i + 1) all ≡ all
come_on all i line front next lt is whole pushed =
    let here : drop i all ≡ line ∷ drop (i + 1) all = drop_more all i line lt ∙ ap (λ (l : Line). l ∷ drop (i + 1) all) (sym is) in
    ap (λ (ls : List Line). ls ++ drop (i + 1) all) pushed ∙ onward front line (drop (i + 1) all) all (ap (λ (ls : List Line). front ++ ls) (sym here) ∙ whole)

-- the first fault among those so far is that of all
pub told_on : (all : List Line) (i : ℕ) (line : Line) (front : List Line) (e : DescribeFault) → i < length all → line ≡ get_or all i line → front ++ drop i all ≡ all → IsTold e (lines_read (front ++ line ∷ []))
    → IsTold e (lines_read all)
told_on all i line front e lt is whole told =
    subst (λ (lines : List Line). IsTold e (lines_read lines)) (come_on all i line front (front ++ line ∷ []) lt is whole refl) (told_stays (front ++ line ∷ []) (drop (i + 1) all) e told)

-- behind the last one
pub come_through : (all : List Line) (i : ℕ) (front : List Line) → length all ≤ i → front ++ drop i all ≡ all → front ≡ all
come_through all i front le whole = sym (append-nil front) ∙ ap (λ (ls : List Line). front ++ ls) (sym (drop_all i all le)) ∙ whole

-- what is told of them, by other lines that are the same
pub end_told_of : (lines all : List Line) (e : DescribeFault) → lines ≡ all → Some e ≡ option_map refused (end_fault lines) → IsTold e (description all)
end_told_of lines all e same h = subst (λ (ls : List Line). IsTold e (description ls)) same (end_told lines e h)
