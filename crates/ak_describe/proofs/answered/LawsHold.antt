-- The laws of descriptions.
use Rattle.std.proofs.Common.{◌≡◌, ◌⊎◌, ℕ, Bool, true, false, if◌then◌else◌, List, [], ◌∷◌, Option, Some, None, Result, Ok, Err, refl, sym, ap, ap₂, subst, ◌∙◌, inl, inr, arith}
use Rattle.std.proofs.lemmas.Bool.{cond-true, cond-false, false_from_ne_true}
use Rattle.ak_base.specs.declared.ending.RefusalKind.{RefusalKind}
use Rattle.ak_base.specs.declared.ending.RefusalKind.TheVariants as refusal
use Rattle.ak_input.specs.declared.line.Line.{Line}
use Rattle.ak_describe.specs.declared.described.AppText.{AppText}
use Rattle.ak_describe.specs.Described.{described}
use Rattle.ak_describe.specs.Describes.{Adds, Follow, Describes, IsUnfinished, IsSecondPassFault, FirstFault}
use Rattle.ak_describe.specs.Description.{checked, description}
use Rattle.ak_describe.specs.Laws.{DescribedIsRead, FirstFaultIsTold, IsPassed, OneOfBoth, NotBoth, OneDescription, OneFirstFault}
use Rattle.ak_describe.specs.Parts.{AppData}
use Rattle.ak_describe.specs.Pass.{State, Refusal, nothing_read, then_read, or_refused, last_item, may_open_app, after_lines, number_behind, unfinished_at, unfinished, first_pass}
use Rattle.ak_describe.specs.Says.{IsComplete}
use Rattle.ak_describe.specs.Second.{second_fault}
use Rattle.ak_describe.proofs.ground.Ends.{last_none}
use Rattle.ak_describe.proofs.lines.Keeping.{nothing_fits}
use Rattle.ak_describe.proofs.names.Ordering.{NamesFit, nothing_named, names_kept}
use Rattle.ak_describe.proofs.lines.Passing.{follow_read, read_follow, fault_read, read_fault, told_of, is_first_fault}
use Rattle.ak_describe.proofs.lines.Reading.{adds_fits}
use Rattle.ak_describe.proofs.names.Seconding.{good_read, read_good, vain_read, read_vain}
use Rattle.ak_describe.proofs.lines.Standing.{StateFits, complete_is}

-- ---- what always holds of what is read so far
record Kept (s : State) : Type 0 where
  fits : StateFits s
  names : NamesFit s.apps s.names

nothing_kept : Kept nothing_read
nothing_kept = record { fits = nothing_fits; names = nothing_named }

adds_kept : (s : State) (line : Line) (left : State) → Kept s → Adds s line left → Kept left
adds_kept s line left h a =
    record {
      fits = adds_fits s line left h.fits a;
      names = subst (λ (x : State). NamesFit x.apps x.names) (sym a.left_is) (names_kept s line.number a.keyword a.words a.form h.fits a.opens.stands a.says h.names);
    }

follow_kept : (lines : List Line) (s left : State) → Kept s → Follow s lines left → Kept left
follow_kept [] s left h f = subst Kept f h
follow_kept (line ∷ lines) s left h f = follow_kept lines f.0 left (adds_kept s line f.0 h f.1) f.2

-- ---- whether the lines end with an application that has no looper
complete_none : (apps : List AppData) (lines : List Line) → IsComplete apps → unfinished apps lines ≡ None
complete_none apps lines h = cond-true (may_open_app apps) None (unfinished_at (last_item lines)) ((complete_is apps).1 h)

open_some : (apps : List AppData) (lines : List Line) (last : Line) → ¬ (IsComplete apps) → last_item lines ≡ Some last → unfinished apps lines ≡ Some (record { line = number_behind last; kind = refusal.Unfinished })
open_some apps lines last h is =
    cond-false (may_open_app apps) None (unfinished_at (last_item lines)) (false_from_ne_true (may_open_app apps) (λ t. h ((complete_is apps).0 t))) ∙ ap unfinished_at is

closed_by : (closed : Bool) (o : Option Line) → (if closed then None else unfinished_at o) ≡ None → (closed ≡ true) ⊎ (o ≡ None)
closed_by true o e = inl refl
closed_by false None e = inr refl
closed_by false (Some line) e = absurd cc

-- where nothing is wrong with the lines and their end, it is so by the grammar
pub passed_is : (lines : List Line) (s : State) → after_lines nothing_read lines ≡ Ok s → unfinished s.apps lines ≡ None → IsPassed lines
passed_is lines s e none =
    let f : Follow nothing_read lines s = read_follow lines nothing_read s nothing_fits e in
    record { state = s; lines_are = f; complete = by_end f (closed_by (may_open_app s.apps) (last_item lines) none) }
  where
    by_end : Follow nothing_read lines s → (may_open_app s.apps ≡ true) ⊎ (last_item lines ≡ None) → IsComplete s.apps
    by_end f (inl closed) = (complete_is s.apps).0 closed
    by_end f (inr bare) =
        let same : nothing_read ≡ s = subst (λ (ls : List Line). Follow nothing_read ls s) (last_none lines bare) f in
        inl (sym (ap (λ (x : State). x.apps) same))

-- ---- the first pass
passed : (lines : List Line) (s : State) → after_lines nothing_read lines ≡ Ok s → unfinished s.apps lines ≡ None → first_pass lines ≡ Ok s
unfolding first_pass
passed lines s e none =
    ap (λ (r : Result State Refusal). then_read r (λ (x : State). or_refused (unfinished x.apps lines) x)) e ∙ ap (λ (o : Option Refusal). or_refused o s) none

left_open : (lines : List Line) (s : State) (r : Refusal) → after_lines nothing_read lines ≡ Ok s → unfinished s.apps lines ≡ Some r → first_pass lines ≡ Err r
unfolding first_pass
left_open lines s r e some =
    ap (λ (x : Result State Refusal). then_read x (λ (y : State). or_refused (unfinished y.apps lines) y)) e ∙ ap (λ (o : Option Refusal). or_refused o s) some

pub failed : (lines : List Line) (r : Refusal) → after_lines nothing_read lines ≡ Err r → first_pass lines ≡ Err r
unfolding first_pass
failed lines r e = ap (λ (x : Result State Refusal). then_read x (λ (y : State). or_refused (unfinished y.apps lines) y)) e

-- ---- and the second
described_by : (lines : List Line) (s : State) → first_pass lines ≡ Ok s → second_fault s.apps s.names ≡ None → description lines ≡ Ok (described s.apps)
unfolding description
described_by lines s e none = ap (λ (r : Result State Refusal). then_read r checked) e ∙ ap (λ (o : Option Refusal). or_refused o (described s.apps)) none

refused_second : (lines : List Line) (s : State) (r : Refusal) → first_pass lines ≡ Ok s → second_fault s.apps s.names ≡ Some r → description lines ≡ Err r
unfolding description
refused_second lines s r e some = ap (λ (x : Result State Refusal). then_read x checked) e ∙ ap (λ (o : Option Refusal). or_refused o (described s.apps)) some

pub refused_first : (lines : List Line) (r : Refusal) → first_pass lines ≡ Err r → description lines ≡ Err r
unfolding description
refused_first lines r e = ap (λ (x : Result State Refusal). then_read x checked) e

-- ---- what lines describe is read
-- the first pass reads what they say
pub describes_passed : (lines : List Line) (apps : List AppText) (d : Describes lines apps) → first_pass lines ≡ Ok d.state
describes_passed lines apps d =
    passed lines d.state (follow_read lines nothing_read d.state nothing_fits d.lines_are) (complete_none d.state.apps lines d.complete)

-- and the second one finds nothing
pub describes_good : (lines : List Line) (apps : List AppText) (d : Describes lines apps) → second_fault d.state.apps d.state.names ≡ None
describes_good lines apps d =
    let kept = follow_kept lines nothing_read d.state nothing_kept d.lines_are in
    good_read d.state.apps d.state.names kept.names [] d.state.names refl (λ k n lt is. absurd (omega arith)) d.names_are

describes_read : (lines : List Line) (apps : List AppText) → Describes lines apps → description lines ≡ Ok apps
describes_read lines apps d =
    described_by lines d.state (describes_passed lines apps d) (describes_good lines apps d) ∙ ap (λ (xs : List AppText). Ok xs) (sym d.apps_are)

-- ---- their first fault is told
unfinished_told : (lines : List Line) (number : ℕ) (kind : RefusalKind) → IsUnfinished lines number kind → description lines ≡ Err (record { line = number; kind = kind })
unfinished_told lines number kind u =
    let some = open_some u.state.apps lines u.last u.open_app u.last_is in
    refused_first lines (record { line = number_behind u.last; kind = refusal.Unfinished })
    (left_open lines u.state (record { line = number_behind u.last; kind = refusal.Unfinished }) (follow_read lines nothing_read u.state nothing_fits u.lines_are) some)
    ∙ ap₂ (λ (n : ℕ) (x : RefusalKind). Err (record { line = n; kind = x })) (sym u.number_is) (sym u.kind_is)

second_told : (lines : List Line) (number : ℕ) (kind : RefusalKind) → IsSecondPassFault lines number kind → description lines ≡ Err (record { line = number; kind = kind })
second_told lines number kind f =
    let kept = follow_kept lines nothing_read f.state nothing_kept f.lines_are in
    let first = passed lines f.state (follow_read lines nothing_read f.state nothing_fits f.lines_are) (complete_none f.state.apps lines f.complete) in
    refused_second lines f.state (record { line = number; kind = kind }) first
    (vain_read f.state.apps f.state.names kept.names number kind
    (record { front = f.front; named = f.named; behind = f.rest; all = f.all; front_is = f.front_is; fault = f.fault; number_is = f.number_is }))

fault_told : (lines : List Line) (number : ℕ) (kind : RefusalKind) → FirstFault lines number kind → description lines ≡ Err (record { line = number; kind = kind })
fault_told lines number kind (inl f) =
    refused_first lines (record { line = number; kind = kind }) (failed lines (record { line = number; kind = kind }) (fault_read nothing_read lines number kind nothing_fits (told_of lines number kind f)))
fault_told lines number kind (inr (inl u)) = unfinished_told lines number kind u
fault_told lines number kind (inr (inr f)) = second_told lines number kind f

-- ---- what is read: what they describe, or their first fault
data Answer (lines : List Line) : Type 0 where
  is_described : (apps : List AppText) → Describes lines apps → description lines ≡ Ok apps → Answer lines
  is_refused : (r : Refusal) → FirstFault lines r.line r.kind → description lines ≡ Err r → Answer lines

second_answer : (lines : List Line) (s : State) (o : Option Refusal) → Follow nothing_read lines s → IsComplete s.apps → first_pass lines ≡ Ok s → second_fault s.apps s.names ≡ o → Answer lines
second_answer lines s None f complete first e =
    let kept = follow_kept lines nothing_read s nothing_kept f in
    is_described (described s.apps)
    (record {
      state = s;
      lines_are = f;
      complete = complete;
      names_are = read_good s.apps s.names kept.names [] s.names refl (λ k n lt is. absurd (omega arith)) e;
      apps_are = refl;
    })
    (described_by lines s first e)
second_answer lines s (Some r) f complete first e =
    let kept = follow_kept lines nothing_read s nothing_kept f in
    let v = read_vain s.apps s.names kept.names [] s.names r refl (λ k n lt is. absurd (omega arith)) e in
    is_refused r
    (inr
    (inr
    (record {
      state = s;
      lines_are = f;
      complete = complete;
      front = v.front;
      named = v.named;
      rest = v.behind;
      all = v.all;
      front_is = v.front_is;
      fault = v.fault;
      number_is = v.number_is;
    })))
    (refused_second lines s r first e)

-- where an application is left open, there is a last line
open_answer : (lines : List Line) (s : State) (o : Option Line) → Follow nothing_read lines s → after_lines nothing_read lines ≡ Ok s → may_open_app s.apps ≡ false → last_item lines ≡ o → Answer lines
open_answer lines s None f e open_app is =
    let none : lines ≡ [] = last_none lines is in
    let same : nothing_read ≡ s = subst (λ (ls : List Line). Follow nothing_read ls s) none f in
    let closed : may_open_app s.apps ≡ true = sym (ap (λ (x : State). may_open_app x.apps) same) in
    absurd cc
open_answer lines s (Some last) f e open_app is =
    let left : ¬ (IsComplete s.apps) = λ complete. let closed = (complete_is s.apps).1 complete in cc (open_app, closed) in
    let r : Refusal = record { line = number_behind last; kind = refusal.Unfinished } in
    is_refused r
    (inr (inl (record { state = s; lines_are = f; open_app = left; last = last; last_is = is; number_is = refl; kind_is = refl })))
    (refused_first lines r (left_open lines s r e (open_some s.apps lines last left is)))

complete_answer : (lines : List Line) (s : State) (b : Bool) → Follow nothing_read lines s → after_lines nothing_read lines ≡ Ok s → may_open_app s.apps ≡ b → Answer lines
complete_answer lines s true f e closed =
    let complete = (complete_is s.apps).0 closed in
    second_answer lines s (second_fault s.apps s.names) f complete (passed lines s e (complete_none s.apps lines complete)) refl
complete_answer lines s false f e open_app = open_answer lines s (last_item lines) f e open_app refl

first_answer : (lines : List Line) (r : Result State Refusal) → after_lines nothing_read lines ≡ r → Answer lines
first_answer lines (Ok s) e = complete_answer lines s (may_open_app s.apps) (read_follow lines nothing_read s nothing_fits e) e refl
first_answer lines (Err r) e = is_refused r (inl (is_first_fault lines r.line r.kind (read_fault lines nothing_read r nothing_fits e))) (refused_first lines r (failed lines r e))

answer : (lines : List Line) → Answer lines
answer lines = first_answer lines (after_lines nothing_read lines) refl

-- ---- the laws
described_of : (lines : List Line) (apps : List AppText) → description lines ≡ Ok apps → Answer lines → Describes lines apps
described_of lines apps e (is_described others d f) = subst (Describes lines) (same_ok (description lines) others apps f e) d
  where
    same_ok : (r : Result (List AppText) Refusal) (x y : List AppText) → r ≡ Ok x → r ≡ Ok y → x ≡ y
    same_ok r x y e f = cc
described_of lines apps e (is_refused r d f) = absurd (cc (e, f))

refused_of : (lines : List Line) (r : Refusal) → description lines ≡ Err r → Answer lines → FirstFault lines r.line r.kind
refused_of lines r e (is_described others d f) = absurd (cc (e, f))
refused_of lines r e (is_refused q d f) = subst (λ (x : Refusal). FirstFault lines x.line x.kind) (same_err (description lines) q r f e) d
  where
    same_err : (o : Result (List AppText) Refusal) (x y : Refusal) → o ≡ Err x → o ≡ Err y → x ≡ y
    same_err o x y e f = cc

pub described_is_read : DescribedIsRead
described_is_read lines apps = (λ e. described_of lines apps e (answer lines), λ d. describes_read lines apps d)

pub first_fault_is_told : FirstFaultIsTold
first_fault_is_told lines r = (λ e. refused_of lines r e (answer lines), λ f. fault_told lines r.line r.kind f)

one_by : (lines : List Line) → Answer lines → ((apps : List AppText) × Describes lines apps) ⊎ ((r : Refusal) × FirstFault lines r.line r.kind)
one_by lines (is_described apps d e) = inl (apps, d)
one_by lines (is_refused r f e) = inr (r, f)

pub one_of_both : OneOfBoth
one_of_both lines = one_by lines (answer lines)

pub not_both : NotBoth
not_both lines apps r d f =
    let read = describes_read lines apps d in
    let told = fault_told lines r.line r.kind f in
    cc (read, told)

pub one_description : OneDescription
one_description lines apps others d e =
    let one = describes_read lines apps d in
    let other = describes_read lines others e in
    cc (one, other)

same_told : (o : Result (List AppText) Refusal) (q r : Refusal) → o ≡ Err q → o ≡ Err r → q ≡ r
same_told o q r e f = cc

pub one_first_fault : OneFirstFault
one_first_fault lines number other kind another f g =
    let same =
    same_told (description lines) (record { line = number; kind = kind }) (record { line = other; kind = another }) (fault_told lines number kind f) (fault_told lines other another g) in
    (ap (λ (x : Refusal). x.line) same, ap (λ (x : Refusal). x.kind) same)
