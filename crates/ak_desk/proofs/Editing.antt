-- What the calls on handlers answer is what an edit makes of them.
use Rattle.std.proofs.Common.{◌≡◌, ◌≢◌, ℕ, true, false, List, Option, None, Some, Result, Ok, Err, IfSome, IfNone, IsOk, IsOkUnless, refl, sym, ap, subst, ◌∙◌}
use Rattle.ak_handler.specs.declared.fault.HandlerFault.{HandlerFault}
use Rattle.ak_handler.specs.declared.fault.HandlerFault.TheVariants as fault
use Rattle.ak_handler.specs.Changes.{add_fault, with_handler}
use Rattle.ak_handler.specs.Handlers.{HandlersData}
use Rattle.ak_action.specs.declared.row.DeskRow.{DeskRow}
use Rattle.ak_action.specs.Row.{empty_row}
use Rattle.ak_desk.specs.declared.entry.Edit.{Edit}
use Rattle.ak_desk.specs.declared.entry.Edit.TheVariants as edit
use Rattle.ak_desk.specs.declared.entry.EditAnswer.{EditAnswer}
use Rattle.ak_desk.specs.declared.entry.EditAnswer.TheVariants as answered
use Rattle.ak_desk.specs.Machine.{EditsHandlers, edited, edit_of, refusal}

abbrev pub ok_of : {A : Type 0} → A → Result A HandlerFault
ok_of x = Ok x

abbrev pub err_of : (A : Type 0) → HandlerFault → Result A HandlerFault
err_of A f = Err f

-- done: the fault that would have refused it is none
pub done : {A : Type 0} (o : Option HandlerFault) (x : A) (h t new : HandlersData DeskRow) (answer told : EditAnswer) → IfSome o (λ f. ok_of x ≡ Err f) → new ≡ t → told ≡ answer → edited h o answer t ≡ record { answer = told; handlers = new }
done (Some f) x h t new answer told refused e a = absurd cc
done None x h t new answer told refused e a =
    ap (λ (k : HandlersData DeskRow). record { answer = answer; handlers = k }) (sym e) ∙ ap (λ (b : EditAnswer). record { answer = b; handlers = new }) (sym a)

module _ (A : Type 0) where
  only_fails : {X : Type 0} (f : HandlerFault) → IfNone {T = HandlerFault} None (IsOk (err_of A f)) → X
  only_fails f only =
      let no : false ≡ true = only in
      absurd cc

  -- refused: by the fault that is told
  pub not_done : (o : Option HandlerFault) (f : HandlerFault) (h t new : HandlersData DeskRow) (answer : EditAnswer) → IfSome o (λ g. err_of A f ≡ Err g) → IfNone o (IsOk (err_of A f)) → new ≡ h → edited h o answer t ≡ record { answer = answered.Refused f; handlers = new }
  not_done (Some g) f h t new answer refused only e =
      let same : f ≡ g = cc in
      ap (λ (x : HandlerFault). record { answer = answered.Refused x; handlers = h }) (sym same) ∙ ap (λ (k : HandlersData DeskRow). record { answer = answered.Refused f; handlers = k }) (sym e)
  not_done None f h t new answer refused only e = only_fails f only

  -- or there was no memory
  by_fault : (o : Option HandlerFault) (f : HandlerFault) (h t new : HandlersData DeskRow) (answer : EditAnswer) → IfSome o (λ g. err_of A f ≡ Err g) → IfNone o (IsOkUnless (err_of A f) fault.NoMemory) → f ≢ fault.NoMemory → new ≡ h → edited h o answer t ≡ record { answer = answered.Refused f; handlers = new }
  by_fault (Some g) f h t new answer refused only other e =
      let same : f ≡ g = cc in
      ap (λ (x : HandlerFault). record { answer = answered.Refused x; handlers = h }) (sym same) ∙ ap (λ (k : HandlersData DeskRow). record { answer = answered.Refused f; handlers = k }) (sym e)
  by_fault None f h t new answer refused only other e = absurd (other only)

  pub not_added : (f : HandlerFault) (h new : HandlersData DeskRow) (e : Edit) (o : Option HandlerFault) (answer : EditAnswer) (t : HandlersData DeskRow) → edit_of h e ≡ edited h o answer t → IfSome o (λ g. err_of A f ≡ Err g) → IfNone o (IsOkUnless (err_of A f) fault.NoMemory) → new ≡ h → EditsHandlers h e (refusal f) new
  not_added fault.NoMemory h new e o answer t is refused only same = same
  not_added fault.NameInUse h new e o answer t is refused only same = is ∙ by_fault o fault.NameInUse h t new answer refused only (λ x. absurd cc) same
  not_added fault.HandlerLimit h new e o answer t is refused only same = is ∙ by_fault o fault.HandlerLimit h t new answer refused only (λ x. absurd cc) same
  not_added fault.BadHandler h new e o answer t is refused only same = is ∙ by_fault o fault.BadHandler h t new answer refused only (λ x. absurd cc) same
  not_added fault.IsLooper h new e o answer t is refused only same = is ∙ by_fault o fault.IsLooper h t new answer refused only (λ x. absurd cc) same
  not_added fault.ChainLoop h new e o answer t is refused only same = is ∙ by_fault o fault.ChainLoop h t new answer refused only (λ x. absurd cc) same

-- ---- a new handler
pub added_done : (h : HandlersData DeskRow) (name given : List ℕ) (row : DeskRow) (token : ℕ) (new : HandlersData DeskRow) → given ≡ name → row ≡ empty_row → IfSome (add_fault h given) (λ f. ok_of token ≡ Err f) → token ≡ h.next_token → new ≡ with_handler h given row → edited h (add_fault h name) (answered.Token h.next_token) (with_handler h name empty_row) ≡ record { answer = answered.Token token; handlers = new }
added_done h name given row token new same empty refused is e =
    done (add_fault h name) token h (with_handler h name empty_row) new (answered.Token h.next_token) (answered.Token token)
    (subst (λ (n : List ℕ). IfSome (add_fault h n) (λ f. ok_of token ≡ Err f)) same refused)
    (e ∙ ap (λ (n : List ℕ). with_handler h n row) same ∙ ap (with_handler h name) empty)
    (ap answered.Token is)

pub added_not : (h : HandlersData DeskRow) (name given : List ℕ) (f : HandlerFault) (new : HandlersData DeskRow) → given ≡ name → IfSome (add_fault h given) (λ g. err_of ℕ f ≡ Err g) → IfNone (add_fault h given) (IsOkUnless (err_of ℕ f) fault.NoMemory) → new ≡ h → EditsHandlers h (edit.Add name) (refusal f) new
added_not h name given f new same refused only e =
    not_added ℕ f h new (edit.Add name) (add_fault h name) (answered.Token h.next_token) (with_handler h name empty_row) refl
    (subst (λ (n : List ℕ). IfSome (add_fault h n) (λ g. err_of ℕ f ≡ Err g)) same refused)
    (subst (λ (n : List ℕ). IfNone (add_fault h n) (IsOkUnless (err_of ℕ f) fault.NoMemory)) same only)
    e
