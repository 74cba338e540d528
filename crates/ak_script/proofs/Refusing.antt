-- An input is the text of a script, or has a first refusal; the one is read of it, and the other told.
use Rattle.std.proofs.Common.{◌≡◌, ◌⊎◌, inl, inr, ◌≤◌, ◌<◌, ℕ, Bool, true, false, if◌then◌else◌, List, [], ◌∷◌, ◌++◌, length, Option, Some, None, Result, Ok, Err, refl, ap, sym, subst, ◌∙◌, append_assoc, arith}
use Rattle.std.specs.Prelude.{IfErr, IfOk, nat_le, ◌-◌, suc, slice_get, option_map}
use Rattle.std.proofs.lemmas.Grind.{common_steps}
use Rattle.std.proofs.lemmas.List.{append-nil}
use Rattle.ak_base.specs.declared.ending.RefusalKind.{RefusalKind}
use Rattle.ak_base.specs.declared.ending.RefusalKind.TheVariants as refusal
use Rattle.ak_input.specs.declared.line.Line.{Line}
use Rattle.ak_input.specs.declared.lines.InputLines.{InputLines}
use Rattle.ak_input.specs.declared.lines.LineFault.{LineFault}
use Rattle.ak_input.specs.Limits.{input_limit}
use Rattle.ak_input.specs.Lines.{line_at, lines_of, too_long}
use Rattle.ak_describe.specs.declared.described.AppText.{AppText}
use Rattle.ak_describe.specs.Describes as descriptions
use Rattle.ak_describe.specs.Description.{description}
use Rattle.ak_describe.specs.Laws.{DescribedIsRead, FirstFaultIsTold, GoesLineByLine, IsPassed}
use Rattle.ak_describe.specs.Pass.{State, Refusal, nothing_read, then_read, or_refused, last_item, may_open_app, number_behind}
use Rattle.ak_describe.specs.Read.{lines_read, end_fault, number_of, unfinished_behind}
use Rattle.ak_describe.specs.Says.{IsComplete}
use Rattle.ak_describe.proofs.Surface.{complete_is, fault_read, last_none, nothing_fits, told_of}
use Rattle.ak_script.specs.declared.fault.ScriptFault.{ScriptFault}
use Rattle.ak_script.specs.declared.fault.ScriptFault.TheVariants as answers
use Rattle.ak_script.specs.declared.part.Part.{Part}
use Rattle.ak_script.specs.declared.part.Part.TheVariants as part
use Rattle.ak_script.specs.declared.script.Script.{Script}
use Rattle.ak_script.specs.Answers.{Answers, IsTold}
use Rattle.ak_script.specs.Faulty.{StatementFaultsAreTold, SessionFaultsAreTold}
use Rattle.ak_script.specs.InputLines.{AreLinesOf}
use Rattle.ak_script.specs.Pass.{SoFar, nothing_said, refused_at, line_said, lines_said, no_words, block_fault, ended, first_pass}
use Rattle.ak_script.specs.Refusals.{Place, first_place, described_place, statement_place, block_place, Lead, IsLineFault, MayEnd, described_lines_of, statements_of, ArePassed, ScriptOf, IsTooLong, IsFirstLineFault, IsWithoutWords, EndTooEarly, FirstFault, FirstRefusal, IsRefusalOf, ScriptsAreRead, FirstRefusalIsTold, OneOfBoth, NeverBoth, OneScript, OneFirstRefusal}
use Rattle.ak_script.specs.Says.{StatementsAreRead, SessionLinesAreRead}
use Rattle.ak_script.specs.Script.{ScriptData, with_apps, second_pass, script_in, unless_long, script_of}
use Rattle.ak_script.specs.Seen.{script_seen}
use Rattle.ak_script.specs.Statement.{StatementData}
use Rattle.ak_script.proofs.Leading.{complete_ends, lead_said, open_ends, read_there, state_at}
use Rattle.ak_script.proofs.Splitting.{lines_are_split}
use Rattle.ak_script.proofs.Stages.{lines_said-append}
use Rattle.ak_script.proofs.Stepping.{Step, goes_on, not_both, stops}
use Rattle.ak_script.proofs.InBlocks.{step}
use Rattle.ak_script.proofs.Telling.{fault_said}

-- ---- what is always so
pub record Laws : Type 0 where
  pub described : DescribedIsRead
  pub first_fault : FirstFaultIsTold
  pub by_line : GoesLineByLine
  pub statements : StatementsAreRead
  pub session_lines : SessionLinesAreRead
  pub faults : StatementFaultsAreTold
  pub session_faults : SessionFaultsAreTold

-- ---- all lines lead somewhere, or one has a fault
data Walk (lines : List Line) : Type 0 where
  walked : (p : Place) → Lead lines p → Walk lines
  stopped : (front : List Line) (line : Line) (rest : List Line) (p : Place) (kind : RefusalKind) → lines ≡ front ++ line ∷ rest → Lead front p → IsLineFault p line kind → Walk lines

walk : Laws → (rest front : List Line) (p : Place) → Lead front p → Walk (front ++ rest)
walk laws [] front p lead = walked p (subst (λ (ls : List Line). Lead ls p) (sym (append-nil front)) lead)
walk laws (line ∷ rest) front p lead = by_step (λ (q : Place) (next : Lead (front ++ line ∷ []) q). walk laws rest (front ++ line ∷ []) q next) (step laws.statements laws.session_lines laws.faults laws.session_faults front p line lead) where
  by_step : ((q : Place) → Lead (front ++ line ∷ []) q → Walk ((front ++ line ∷ []) ++ rest)) → Step front p line → Walk (front ++ line ∷ rest)
  by_step further (goes_on q next) = subst Walk (append_assoc front (line ∷ []) rest) (further q next)
  by_step further (stops kind f) = stopped front line rest p kind refl lead f

-- ---- where lines end
data Ending (p : Place) : Type 0 where
  may_end : MayEnd p → Ending p
  may_not_end : ¬ (MayEnd p) → Ending p

ending : (p : Place) → Ending p
ending first_place = may_end tt
ending (described_place ds s) = by_test (may_open_app s.apps) refl where
  by_test : (b : Bool) → may_open_app s.apps ≡ b → Ending (described_place ds s)
  by_test true is = may_end ((complete_is s.apps).0 is)
  by_test false is = may_not_end (λ complete. not_both (may_open_app s.apps) ((complete_is s.apps).1 complete) is)
ending (statement_place ds xs) = may_end tt
ending (block_place ds xs b) = may_not_end (λ never. never)

-- the descriptions are passed
passed_there : (lines : List Line) (p : Place) → Lead lines p → MayEnd p → IsPassed (described_lines_of p)
passed_there lines first_place lead ends = record { state = nothing_read; lines_are = refl; complete = inl refl }
passed_there lines (described_place ds s) lead ends = record { state = s; lines_are = lead.3; complete = ends }
passed_there lines (statement_place ds xs) lead ends = lead.head_is.passed
passed_there lines (block_place ds xs b) lead ends = absurd ends

passes : (ds : List Line) (p : IsPassed ds) → end_fault ds ≡ None
passes ds p = complete_ends ds p.state p.lines_are p.complete

-- nothing is wrong with the end
ended_with : (lines : List Line) (s : SoFar) (o : Option Refusal) → end_fault s.descriptions ≡ o → ended lines s ≡ then_read (or_refused o s) (λ (t : SoFar). or_refused (block_fault t.part lines) t)
ended_with lines s o is = ap (λ (r : Option Refusal). then_read (or_refused r s) (λ (t : SoFar). or_refused (block_fault t.part lines) t)) is

ends_well : (lines : List Line) (p : Place) → Lead lines p → MayEnd p → ended lines (state_at p) ≡ Ok (state_at p)
ends_well lines first_place lead ends = ended_with lines (state_at first_place) None (passes [] (passed_there lines first_place lead ends))
ends_well lines (described_place ds s) lead ends = ended_with lines (state_at (described_place ds s)) None (passes ds (passed_there lines (described_place ds s) lead ends))
ends_well lines (statement_place ds xs) lead ends = ended_with lines (state_at (statement_place ds xs)) None (passes ds (passed_there lines (statement_place ds xs) lead ends))
ends_well lines (block_place ds xs b) lead ends = absurd ends

-- or something is
record EndsOpen (lines : List Line) (s : SoFar) : Type 0 where
  last : Line
  last_is : last_item lines ≡ Some last
  told : ended lines s ≡ Err (refused_at (number_behind last) refusal.Unfinished)

last_more : (first : Line) (lines : List Line) (last : Line) → last_item lines ≡ Some last → last_item (first ∷ lines) ≡ Some last
last_more first [] last is = absurd cc
last_more first (line ∷ lines) last is =
    let longer : length (first ∷ line ∷ lines) - 1 ≡ suc (length (line ∷ lines) - 1) = omega arith in
    ap (λ (n : ℕ). slice_get (first ∷ line ∷ lines) n) longer ∙ is

block_ends : (lines ds : List Line) (xs : List StatementData) (s : SoFar) → s.part ≡ part.Block → s.descriptions ≡ ds → IsPassed ds → (lines ≡ [] → ⊥) → EndsOpen lines s
block_ends lines ds xs s in_block is passed some = by_last (last_item lines) refl where
  by_last : (o : Option Line) → last_item lines ≡ o → EndsOpen lines s
  by_last None none = absurd (some (last_none lines none))
  by_last (Some last) there = record {
    last = last;
    last_is = there;
    told = ended_with lines s None (ap end_fault is ∙ passes ds passed)
        ∙ ap (λ (q : Part). or_refused (block_fault q lines) s) in_block
        ∙ ap (λ (o : Option Line). or_refused (unfinished_at o) s) there;
  } where
    unfinished_at : Option Line → Option Refusal
    unfinished_at o = unfinished_behind (option_map number_of o)

no_lines : (front : List Line) (line : Line) (rest : List Line) → front ++ line ∷ rest ≡ [] → ⊥
no_lines [] line rest e = cc
no_lines (first ∷ front) line rest e = cc

ends_open : (lines : List Line) (p : Place) → Lead lines p → ¬ (MayEnd p) → EndsOpen lines (state_at p)
ends_open lines first_place lead open_place = absurd (open_place tt)
ends_open lines (described_place ds s) lead open_place =
    let left = open_ends ds s lead.3 open_place in
    record {
      last = left.last;
      last_is = ap last_item lead.1 ∙ last_more lead.0 ds left.last left.last_is;
      told = ended_with lines (state_at (described_place ds s)) (Some (refused_at (number_behind left.last) refusal.Unfinished)) left.told;
    }
ends_open lines (statement_place ds xs) lead open_place = absurd (open_place tt)
ends_open lines (block_place ds xs b) lead open_place =
    block_ends lines ds xs (state_at (block_place ds xs b)) refl refl lead.front_is.head_is.passed (λ none. no_lines lead.front lead.opens lead.inner (sym lead.parts ∙ none))

-- ---- the first pass
pass_on : (read : InputLines) (s : SoFar) → lines_said nothing_said read.lines ≡ Ok s → first_pass read ≡ then_read (or_refused (no_words read.fault) s) (ended read.lines)
unfolding first_pass
pass_on read s e = ap (λ (r : Result SoFar Refusal). then_read r (λ (t : SoFar). then_read (or_refused (no_words read.fault) t) (ended read.lines))) e

pass_stops : (read : InputLines) (r : Refusal) → lines_said nothing_said read.lines ≡ Err r → first_pass read ≡ Err r
unfolding first_pass
pass_stops read r e = ap (λ (x : Result SoFar Refusal). then_read x (λ (t : SoFar). then_read (or_refused (no_words read.fault) t) (ended read.lines))) e

stop_there : (s : SoFar) (line : Line) (rest : List Line) (r : Refusal) → line_said s line ≡ Err r → lines_said s (line ∷ rest) ≡ Err r
unfolding lines_said
stop_there s line rest r e = ap (λ (x : Result SoFar Refusal). then_read x (λ (t : SoFar). lines_said t rest)) e

lead_of : Laws → (lines : List Line) (p : Place) → Lead lines p → lines_said nothing_said lines ≡ Ok (state_at p)
lead_of laws lines p lead = lead_said laws.by_line laws.statements laws.session_lines lines p lead

refusal_of : (number other : ℕ) (kind another : RefusalKind) → number ≡ other → kind ≡ another → refused_at other another ≡ refused_at number kind
refusal_of number other kind another same alike = ap (λ (n : ℕ). refused_at n another) (sym same) ∙ ap (refused_at number) (sym alike)

abbrev refused_pass : Refusal → Result SoFar Refusal
refused_pass r = Err r

err_of : (q r : Refusal) → q ≡ r → refused_pass q ≡ refused_pass r
err_of q r same = ap refused_pass same

line_refused : Laws → (read : InputLines) (number : ℕ) (kind : RefusalKind) → IsFirstLineFault read number kind → first_pass read ≡ Err (refused_at number kind)
line_refused laws read number kind f =
    let told = fault_said laws.by_line laws.statements laws.session_lines laws.faults laws.session_faults f.front f.place f.line kind f.lead f.fault in
    pass_stops read (refused_at number kind)
    (ap (lines_said nothing_said) f.all
    ∙ lines_said-append f.front (f.line ∷ f.rest) nothing_said
    ∙ ap (λ (r : Result SoFar Refusal). then_read r (λ (t : SoFar). lines_said t (f.line ∷ f.rest))) (lead_of laws f.front f.place f.lead)
    ∙ stop_there (state_at f.place) f.line f.rest (refused_at f.line.number kind) told
    ∙ err_of (refused_at f.line.number kind) (refused_at number kind) (refusal_of number f.line.number kind kind f.number_is refl))

words_refused : Laws → (read : InputLines) (number : ℕ) (kind : RefusalKind) → IsWithoutWords read number kind → first_pass read ≡ Err (refused_at number kind)
words_refused laws read number kind f =
    pass_on read (state_at f.place) (lead_of laws read.lines f.place f.lead)
    ∙ ap (λ (o : Option LineFault). then_read (or_refused (no_words o) (state_at f.place)) (ended read.lines)) f.fault

pass_to_end : Laws → (read : InputLines) (p : Place) → read.fault ≡ None → Lead read.lines p → first_pass read ≡ ended read.lines (state_at p)
pass_to_end laws read p none lead =
    pass_on read (state_at p) (lead_of laws read.lines p lead) ∙ ap (λ (o : Option LineFault). then_read (or_refused (no_words o) (state_at p)) (ended read.lines)) none

same_last : (o : Option Line) (a b : Line) → o ≡ Some a → o ≡ Some b → a ≡ b
same_last o a b e f = cc

end_refused : Laws → (read : InputLines) (number : ℕ) (kind : RefusalKind) → EndTooEarly read number kind → first_pass read ≡ Err (refused_at number kind)
end_refused laws read number kind f =
    let e = ends_open read.lines f.place f.lead f.open_place in
    let same : number ≡ number_behind e.last = f.number_is ∙ ap number_behind (same_last (last_item read.lines) f.last e.last f.last_is e.last_is) in
    pass_to_end laws read f.place f.have_words f.lead ∙ e.told
    ∙ err_of (refused_at (number_behind e.last) refusal.Unfinished) (refused_at number kind) (refusal_of number (number_behind e.last) kind refusal.Unfinished same f.kind_is)

passed_read : Laws → (read : InputLines) (p : Place) → ArePassed read p → first_pass read ≡ Ok (state_at p)
passed_read laws read p a = pass_to_end laws read p a.have_words a.lead ∙ ends_well read.lines p a.lead a.may_end

-- ---- the second pass
second_is : (p : Place) → second_pass (state_at p) ≡ then_read (description (described_lines_of p)) (with_apps (statements_of p))
second_is first_place = refl
second_is (described_place ds s) = refl
second_is (statement_place ds xs) = refl
second_is (block_place ds xs b) = refl

in_passed : Laws → (read : InputLines) (p : Place) → ArePassed read p → script_in read ≡ then_read (description (described_lines_of p)) (with_apps (statements_of p))
unfolding script_in
in_passed laws read p a = ap (λ (r : Result SoFar Refusal). then_read r second_pass) (passed_read laws read p a) ∙ second_is p

in_refused : (read : InputLines) (r : Refusal) → first_pass read ≡ Err r → script_in read ≡ Err r
unfolding script_in
in_refused read r e = ap (λ (x : Result SoFar Refusal). then_read x second_pass) e

first_refused : Laws → (read : InputLines) (number : ℕ) (kind : RefusalKind) → FirstFault read number kind → script_in read ≡ Err (refused_at number kind)
first_refused laws read number kind (inl f) = in_refused read (refused_at number kind) (line_refused laws read number kind f)
first_refused laws read number kind (inr (inl f)) = in_refused read (refused_at number kind) (words_refused laws read number kind f)
first_refused laws read number kind (inr (inr (inl f))) = in_refused read (refused_at number kind) (end_refused laws read number kind f)
first_refused laws read number kind (inr (inr (inr f))) =
    in_passed laws read f.place f.passed
    ∙ ap (λ (r : Result (List AppText) Refusal). then_read r (with_apps (statements_of f.place)))
    ((laws.first_fault (described_lines_of f.place) (refused_at number kind)).1 (inr (inr f.fault)))

-- what is told of descriptions that are passed is found by the second pass
same_read : (o : Result State Refusal) (s t : State) → o ≡ Ok s → o ≡ Ok t → s ≡ t
same_read o s t e f = cc

read_or_not : (o : Result State Refusal) (s : State) (r : Refusal) → o ≡ Ok s → o ≡ Err r → ⊥
read_or_not o s r e f = cc

second_alone : (ds : List Line) (number : ℕ) (kind : RefusalKind) → IsPassed ds → descriptions.FirstFault ds number kind → descriptions.IsSecondPassFault ds number kind
second_alone ds number kind p (inl f) =
    absurd (read_or_not (lines_read ds) p.state (refused_at number kind) (read_there ds p.state p.lines_are) (fault_read nothing_read ds number kind nothing_fits (told_of ds number kind f)))
second_alone ds number kind p (inr (inl u)) =
    let same = same_read (lines_read ds) p.state u.state (read_there ds p.state p.lines_are) (read_there ds u.state u.lines_are) in
    absurd (u.open_app (subst (λ (s : State). IsComplete s.apps) same p.complete))
second_alone ds number kind p (inr (inr f)) = f

-- ---- what an input is
-- its lines have a first fault
faulty : (input : List ℕ) (number : ℕ) (kind : RefusalKind) → length input ≤ input_limit → FirstFault (lines_of input) number kind → FirstRefusal input number kind
faulty input number kind fits f = inr (record { fits = fits; read = lines_of input; lines_are = (lines_are_split input (lines_of input)).0 refl; fault = f })

data Answer (input : List ℕ) : Type 0 where
  is_script : (s : ScriptData) → ScriptOf input s → Answer input
  is_refused : (r : Refusal) → FirstRefusal input r.line r.kind → Answer input

passed_answer : Laws → (input : List ℕ) → length input ≤ input_limit → (p : Place) → ArePassed (lines_of input) p → (o : Result (List AppText) Refusal) → description (described_lines_of p) ≡ o → Answer input
passed_answer laws input fits p passed (Ok apps) e =
    is_script (record { apps = apps; statements = statements_of p })
    (record { fits = fits; read = lines_of input; lines_are = (lines_are_split input (lines_of input)).0 refl; place = p; passed = passed; apps_are = (laws.described (described_lines_of p) apps).0 e; statements_are = refl })
passed_answer laws input fits p passed (Err r) e =
    let fault = second_alone (described_lines_of p) r.line r.kind (passed_there (lines_of input).lines p passed.lead passed.may_end) ((laws.first_fault (described_lines_of p) r).0 e) in
    is_refused r (faulty input r.line r.kind fits (inr (inr (inr (record { place = p; passed = passed; fault = fault })))))

end_answer : Laws → (input : List ℕ) → length input ≤ input_limit → (p : Place) → Lead (lines_of input).lines p → (lines_of input).fault ≡ None → Ending p → Answer input
end_answer laws input fits p lead none (may_end ends) =
    passed_answer laws input fits p (record { have_words = none; lead = lead; may_end = ends }) (description (described_lines_of p)) refl
end_answer laws input fits p lead none (may_not_end open_place) =
    let e = ends_open (lines_of input).lines p lead open_place in
    is_refused (refused_at (number_behind e.last) refusal.Unfinished)
    (faulty input (number_behind e.last) refusal.Unfinished fits
    (inr (inr (inl (record {
      have_words = none;
      place = p;
      lead = lead;
      open_place = open_place;
      last = e.last;
      last_is = e.last_is;
      number_is = refl;
      kind_is = refl;
    })))))

words_answer : Laws → (input : List ℕ) → length input ≤ input_limit → (p : Place) → Lead (lines_of input).lines p → (o : Option LineFault) → (lines_of input).fault ≡ o → Answer input
words_answer laws input fits p lead None is = end_answer laws input fits p lead is (ending p)
words_answer laws input fits p lead (Some f) is = is_refused (refused_at f.line f.kind) (faulty input f.line f.kind fits (inr (inl (record { place = p; lead = lead; fault = is }))))

walk_answer : Laws → (input : List ℕ) → length input ≤ input_limit → Walk (lines_of input).lines → Answer input
walk_answer laws input fits (walked p lead) = words_answer laws input fits p lead (lines_of input).fault refl
walk_answer laws input fits (stopped front line rest p kind all lead fault) =
    is_refused (refused_at line.number kind)
    (faulty input line.number kind fits (inl (record { front = front; line = line; rest = rest; all = all; place = p; lead = lead; fault = fault; number_is = refl })))

within : (input : List ℕ) → nat_le (length input) input_limit ≡ true → length input ≤ input_limit
within input is = grind (arith, common_steps)

beyond : (input : List ℕ) → nat_le (length input) input_limit ≡ false → input_limit < length input
beyond input is = grind (arith, common_steps)

answer : Laws → (input : List ℕ) → Answer input
answer laws input = by_length (nat_le (length input) input_limit) refl where
  by_length : (b : Bool) → nat_le (length input) input_limit ≡ b → Answer input
  by_length true is = walk_answer laws input (within input is) (walk laws (lines_of input).lines [] first_place refl)
  by_length false is = is_refused (refused_at (line_at input_limit input) refusal.InputTooLong) (inl (record { long = beyond input is; number_is = refl; kind_is = refl }))

-- ---- and what is read of it
is_within : (input : List ℕ) → length input ≤ input_limit → too_long input ≡ None
is_within input fits =
    let is : nat_le (length input) input_limit ≡ true = grind (arith, common_steps) in
    ap (λ (b : Bool). if b then None else Some (line_at input_limit input)) is

is_beyond : (input : List ℕ) → input_limit < length input → too_long input ≡ Some (line_at input_limit input)
is_beyond input long =
    let is : nat_le (length input) input_limit ≡ false = grind (arith, common_steps) in
    ap (λ (b : Bool). if b then None else Some (line_at input_limit input)) is

whole_of : (input : List ℕ) (read : InputLines) → length input ≤ input_limit → AreLinesOf input read → script_of input ≡ script_in read
unfolding script_of
whole_of input read fits are = ap (λ (o : Option ℕ). unless_long o (lines_of input)) (is_within input fits) ∙ ap script_in ((lines_are_split input read).1 are)

long_refused : (input : List ℕ) (number : ℕ) (kind : RefusalKind) → IsTooLong input number kind → script_of input ≡ Err (refused_at number kind)
unfolding script_of
long_refused input number kind l =
    ap (λ (o : Option ℕ). unless_long o (lines_of input)) (is_beyond input l.long)
    ∙ ap refused_script (refusal_of number (line_at input_limit input) kind refusal.InputTooLong l.number_is l.kind_is)
  where
    refused_script : Refusal → Result ScriptData Refusal
    refused_script r = Err r

script_read : Laws → (input : List ℕ) (s : ScriptData) → ScriptOf input s → script_of input ≡ Ok s
script_read laws input s is =
    whole_of input is.read is.fits is.lines_are ∙ in_passed laws is.read is.place is.passed
    ∙ ap (λ (r : Result (List AppText) Refusal). then_read r (with_apps (statements_of is.place))) ((laws.described (described_lines_of is.place) s.apps).1 is.apps_are)
    ∙ ap (λ (xs : List StatementData). script_with xs) (sym is.statements_are)
  where
    script_with : List StatementData → Result ScriptData Refusal
    script_with xs = Ok (record { apps = s.apps; statements = xs })

refusal_told : Laws → (input : List ℕ) (number : ℕ) (kind : RefusalKind) → FirstRefusal input number kind → script_of input ≡ Err (refused_at number kind)
refusal_told laws input number kind (inl l) = long_refused input number kind l
refusal_told laws input number kind (inr f) = whole_of input f.read f.fits f.lines_are ∙ first_refused laws f.read number kind f.fault

same_script : (o : Result ScriptData Refusal) (s t : ScriptData) → o ≡ Ok s → o ≡ Ok t → s ≡ t
same_script o s t e f = cc

same_refusal : (o : Result ScriptData Refusal) (q r : Refusal) → o ≡ Err q → o ≡ Err r → q ≡ r
same_refusal o q r e f = cc

script_or_not : (o : Result ScriptData Refusal) (s : ScriptData) (r : Refusal) → o ≡ Ok s → o ≡ Err r → ⊥
script_or_not o s r e f = cc

script_by : Laws → (input : List ℕ) (s : ScriptData) → script_of input ≡ Ok s → Answer input → ScriptOf input s
script_by laws input s e (is_script t is) = subst (ScriptOf input) (same_script (script_of input) t s (script_read laws input t is) e) is
script_by laws input s e (is_refused r f) = absurd (script_or_not (script_of input) s r e (refusal_told laws input r.line r.kind f))

refusal_by : Laws → (input : List ℕ) (r : Refusal) → script_of input ≡ Err r → Answer input → FirstRefusal input r.line r.kind
refusal_by laws input r e (is_script s is) = absurd (script_or_not (script_of input) s r (script_read laws input s is) e)
refusal_by laws input r e (is_refused q f) = subst (λ (x : Refusal). FirstRefusal input x.line x.kind) (same_refusal (script_of input) q r (refusal_told laws input q.line q.kind f) e) f

pub scripts_are_read : Laws → ScriptsAreRead
scripts_are_read laws input s = (λ e. script_by laws input s e (answer laws input), script_read laws input s)

pub first_refusal_is_told : Laws → FirstRefusalIsTold
first_refusal_is_told laws input r = (λ e. refusal_by laws input r e (answer laws input), refusal_told laws input r.line r.kind)

one_by : (input : List ℕ) → Answer input → ((s : ScriptData) × ScriptOf input s) ⊎ ((r : Refusal) × FirstRefusal input r.line r.kind)
one_by input (is_script s is) = inl (s, is)
one_by input (is_refused r f) = inr (r, f)

pub one_of_both : Laws → OneOfBoth
one_of_both laws input = one_by input (answer laws input)

pub never_both : Laws → NeverBoth
never_both laws input s r is f = script_or_not (script_of input) s r (script_read laws input s is) (refusal_told laws input r.line r.kind f)

pub one_script : Laws → OneScript
one_script laws input s other is was = same_script (script_of input) s other (script_read laws input s is) (script_read laws input other was)

pub one_first_refusal : Laws → OneFirstRefusal
one_first_refusal laws input number other kind another f g =
    let same = same_refusal (script_of input) (refused_at number kind) (refused_at other another) (refusal_told laws input number kind f) (refusal_told laws input other another g) in
    (ap (λ (r : Refusal). r.line) same, ap (λ (r : Refusal). r.kind) same)

-- ---- what is answered
refusal_answered : FirstRefusalIsTold → (input : List ℕ) (e : ScriptFault) → IsTold e (script_of input) → IsRefusalOf input e
refusal_answered law input (answers.Refused number kind) told = (law input (refused_at number kind)).0 told
refusal_answered law input answers.NoMemory told = tt

pub answered : FirstRefusalIsTold → (input : List ℕ) (result : Result Script ScriptFault) → Answers script_seen result (script_of input) → IfErr result (IsRefusalOf input)
answered law input (Ok script) told = tt
answered law input (Err e) told = refusal_answered law input e told

pub said_of : ScriptsAreRead → (input : List ℕ) (result : Result Script ScriptFault) → Answers script_seen result (script_of input) → IfOk result (λ script. ScriptOf input (script_seen script))
said_of law input (Ok script) told = (law input (script_seen script)).0 told
said_of law input (Err e) told = tt
