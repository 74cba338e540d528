-- The first pass over all lines: exactly where they lead, or the first fault among them.
use Rattle.std.proofs.Common.{◌≡◌, ℕ, List, [], ◌∷◌, ◌++◌, Result, Ok, Err, refl, sym, ap, subst, ◌∙◌}
use Rattle.ak_base.specs.declared.ending.RefusalKind.{RefusalKind}
use Rattle.ak_input.specs.declared.line.Line.{Line}
use Rattle.ak_describe.specs.Describes.{Adds, IsLineFault, Follow, IsFirstPassFault}
use Rattle.ak_describe.specs.Pass.{State, Refusal, nothing_read, then_read, at_line, read_line, after_lines}
use Rattle.ak_describe.proofs.lines.Reading.{Outcome, is_faulty, is_added, outcome, line_adds, line_faults, adds_fits}
use Rattle.ak_describe.proofs.lines.Standing.{StateFits}

-- the other lines, behind one
abbrev others : List Line → State → Result State Refusal
others lines next = after_lines next lines

-- ---- where lines lead
pub follow_read : (lines : List Line) (s left : State) → StateFits s → Follow s lines left → after_lines s lines ≡ Ok left
follow_read [] s left h f = ap (λ (x : State). Ok x) f
follow_read (line ∷ lines) s left h f =
    ap (λ (r : Result State RefusalKind). then_read (at_line line.number r) (others lines)) (line_adds s line f.0 h f.1)
    ∙ follow_read lines f.0 left (adds_fits s line f.0 h f.1) f.2

-- what one line leads to, among others
behind_added : (s next : State) (line : Line) (lines : List Line) (r : Result State Refusal) → read_line s line ≡ Ok next → after_lines s (line ∷ lines) ≡ r → after_lines next lines ≡ r
behind_added s next line lines r e h = sym (ap (λ (x : Result State RefusalKind). then_read (at_line line.number x) (others lines)) e) ∙ h

at_fault : (s : State) (line : Line) (lines : List Line) (kind : RefusalKind) → read_line s line ≡ Err kind → after_lines s (line ∷ lines) ≡ Err (record { line = line.number; kind = kind })
at_fault s line lines kind e = ap (λ (x : Result State RefusalKind). then_read (at_line line.number x) (others lines)) e

mutual_follow : (line : Line) (lines : List Line) (s left : State) → StateFits s → ((next : State) → StateFits next → after_lines next lines ≡ Ok left → Follow next lines left) → after_lines s (line ∷ lines) ≡ Ok left → Outcome s line (read_line s line)
    → Follow s (line ∷ lines) left
mutual_follow line lines s left h rest e (is_faulty kind f r) = let wrong = at_fault s line lines kind r in absurd (cc (wrong, e))
mutual_follow line lines s left h rest e (is_added next a r) = (next, a, rest next (adds_fits s line next h a) (behind_added s next line lines (Ok left) r e))

pub read_follow : (lines : List Line) (s left : State) → StateFits s → after_lines s lines ≡ Ok left → Follow s lines left
read_follow [] s left h e = cc
read_follow (line ∷ lines) s left h e = mutual_follow line lines s left h (λ next fits rest. read_follow lines next left fits rest) e (outcome s line h)

-- ---- the first fault among lines
pub record FaultFrom (s : State) (lines : List Line) (number : ℕ) (kind : RefusalKind) : Type 0 where
  pub front : List Line
  pub line : Line
  pub rest : List Line
  pub all : lines ≡ front ++ line ∷ rest
  pub before : State
  pub front_is : Follow s front before
  pub fault : IsLineFault before line kind
  pub number_is : number ≡ line.number

fault_after : (front : List Line) (s before : State) (line : Line) (rest : List Line) (kind : RefusalKind) → StateFits s → Follow s front before → IsLineFault before line kind
    → after_lines s (front ++ line ∷ rest) ≡ Err (record { line = line.number; kind = kind })
fault_after [] s before line rest kind h f fault = at_fault s line rest kind (line_faults s line kind h (subst (λ (x : State). IsLineFault x line kind) (sym f) fault))
fault_after (first ∷ front) s before line rest kind h f fault =
    ap (λ (r : Result State RefusalKind). then_read (at_line first.number r) (others (front ++ line ∷ rest))) (line_adds s first f.0 h f.1)
    ∙ fault_after front f.0 before line rest kind (adds_fits s first f.0 h f.1) f.2 fault

pub fault_read : (s : State) (lines : List Line) (number : ℕ) (kind : RefusalKind) → StateFits s → FaultFrom s lines number kind → after_lines s lines ≡ Err (record { line = number; kind = kind })
fault_read s lines number kind h f =
    ap (after_lines s) f.all
    ∙ fault_after f.front s f.before f.line f.rest kind h f.front_is f.fault
    ∙ ap (λ (n : ℕ). Err (record { line = n; kind = kind })) (sym f.number_is)

first_fault : (s : State) (line : Line) (lines : List Line) (kind : RefusalKind) (r : Refusal) → IsLineFault s line kind → record { line = line.number; kind = kind } ≡ r → FaultFrom s (line ∷ lines) r.line r.kind
first_fault s line lines kind r f e =
    record {
      front = [];
      line = line;
      rest = lines;
      all = refl;
      before = s;
      front_is = refl;
      fault = subst (IsLineFault s line) (ap (λ (x : Refusal). x.kind) e) f;
      number_is = sym (ap (λ (x : Refusal). x.line) e);
    }

later_fault : (s next : State) (line : Line) (lines : List Line) (number : ℕ) (kind : RefusalKind) → Adds s line next → FaultFrom next lines number kind → FaultFrom s (line ∷ lines) number kind
later_fault s next line lines number kind a f =
    record {
      front = line ∷ f.front;
      line = f.line;
      rest = f.rest;
      all = ap (λ (ls : List Line). line ∷ ls) f.all;
      before = f.before;
      front_is = (next, a, f.front_is);
      fault = f.fault;
      number_is = f.number_is;
    }

same_refusal : (q r : Refusal) (o : Result State Refusal) → o ≡ Err q → o ≡ Err r → q ≡ r
same_refusal q r o e f = cc

fault_by : (line : Line) (lines : List Line) (s : State) (r : Refusal) → StateFits s → ((next : State) → StateFits next → after_lines next lines ≡ Err r → FaultFrom next lines r.line r.kind) → after_lines s (line ∷ lines) ≡ Err r → Outcome s line (read_line s line)
    → FaultFrom s (line ∷ lines) r.line r.kind
fault_by line lines s r h rest e (is_faulty kind f told) = first_fault s line lines kind r f (same_refusal _ r (after_lines s (line ∷ lines)) (at_fault s line lines kind told) e)
fault_by line lines s r h rest e (is_added next a told) =
    later_fault s next line lines r.line r.kind a (rest next (adds_fits s line next h a) (behind_added s next line lines (Err r) told e))

pub read_fault : (lines : List Line) (s : State) (r : Refusal) → StateFits s → after_lines s lines ≡ Err r → FaultFrom s lines r.line r.kind
read_fault [] s r h e = absurd cc
read_fault (line ∷ lines) s r h e = fault_by line lines s r h (λ next fits rest. read_fault lines next r fits rest) e (outcome s line h)

-- ---- from the first line on
pub told_of : (lines : List Line) (number : ℕ) (kind : RefusalKind) → IsFirstPassFault lines number kind → FaultFrom nothing_read lines number kind
told_of lines number kind f =
    record { front = f.front; line = f.line; rest = f.rest; all = f.all; before = f.before; front_is = f.front_is; fault = f.fault; number_is = f.number_is }

pub is_first_fault : (lines : List Line) (number : ℕ) (kind : RefusalKind) → FaultFrom nothing_read lines number kind → IsFirstPassFault lines number kind
is_first_fault lines number kind f =
    record { front = f.front; line = f.line; rest = f.rest; all = f.all; before = f.before; front_is = f.front_is; fault = f.fault; number_is = f.number_is }
