-- A command on the elements of a handler, and what the handlers are then.
use Rattle.std.proofs.Common.{◌≡◌, ◌≢◌, ℕ, ◌+◌, ◌≤◌, List, length, Option, None, Some, unwrap_or, Result, Ok, Err, IfOk, IfErr, IsOkUnless, sym, ap, subst, ◌∙◌}
use Rattle.std.proofs.Math.Bridge.{le_prop}
use Rattle.ak_handler.proofs.Surface.{map-held_by_none}
use Rattle.ak_base.specs.declared.no_memory.NoMemory.{NoMemory}
use Rattle.ak_handler.specs.Changes.{content_of, with_content}
use Rattle.ak_handler.specs.Handlers.{HandlerData, HandlersData}
use Rattle.ak_message.specs.Message.{MessageData}
use Rattle.ak_value.specs.declared.fault.ElementFault.{ElementFault}
use Rattle.ak_value.specs.declared.fault.ElementFault.TheVariants as fault
use Rattle.ak_value.specs.Elements.{ElementsData}
use Rattle.ak_action.specs.declared.row.DeskRow.{DeskRow}
use Rattle.ak_action.specs.declared.state.DeskState.{DeskState}
use Rattle.ak_action.specs.Properties.{AccessedAt}
use Rattle.ak_action.specs.Row.{empty_row}
use Rattle.ak_desk.specs.Properties.{Accessed, access_told, accessed, property_accessed, property_replied, row_in}
use Rattle.ak_desk.specs.Replies.{error_reply, error_of_fault, values_reply}

-- ---- what is told
module _ (A : Type 0) where
  pub told_refused : (r : Result AccessedAt ElementFault) (x : Result A ElementFault) (f : ElementFault) (reply : MessageData) → x ≡ Err f → IfErr r (λ g. x ≡ Err g) → IfOk r (λ _. IsOkUnless x fault.NoMemory) → f ≢ fault.NoMemory → reply ≡ error_reply (error_of_fault f) → access_told r ≡ (reply, None)
  told_refused (Ok a) x f reply is refused only other e = absurd (other (subst (λ (y : Result A ElementFault). IsOkUnless y fault.NoMemory) is only))
  told_refused (Err g) x f reply is refused only other e =
      let same : f ≡ g = cc in
      ap (λ (k : ElementFault). (error_reply (error_of_fault k), None)) (sym same) ∙ ap (λ (m : MessageData). (m, None)) (sym e)

module _ (h : HandlersData DeskRow) (token : ℕ) where
  pub accessed_put : (r : Result AccessedAt ElementFault) (reply : MessageData) (list : List ElementsData) → access_told r ≡ (reply, Some list) → accessed h token r ≡ record { handlers = with_content h token (record (row_in h token) { elements = list }); reply = reply }
  accessed_put (Err f) reply list e =
      let lists : None ≡ Some list = ap (λ p. p.1) e in
      absurd cc
  accessed_put (Ok a) reply list e =
      let lists : Some a.list ≡ Some list = ap (λ p. p.1) e in
      let same : a.list ≡ list = cc in
      ap (λ (l : List ElementsData). record { handlers = with_content h token (record (row_in h token) { elements = l }); reply = values_reply a.values }) same
      ∙ ap (λ (m : MessageData). record { handlers = with_content h token (record (row_in h token) { elements = list }); reply = m }) (ap (λ p. p.0) e)

  pub accessed_so : (r : Result AccessedAt ElementFault) (reply : MessageData) (list : List ElementsData) (new : HandlersData DeskRow) → access_told r ≡ (reply, Some list) → new ≡ with_content h token (record (row_in h token) { elements = list }) → accessed h token r ≡ record { handlers = new; reply = reply }
  accessed_so r reply list new told is =
      accessed_put r reply list told ∙ ap (λ (k : HandlersData DeskRow). record { handlers = k; reply = reply }) (sym is)

  pub accessed_none : (r : Result AccessedAt ElementFault) (reply : MessageData) → access_told r ≡ (reply, None) → accessed h token r ≡ record { handlers = h; reply = reply }
  accessed_none (Ok a) reply e =
      let lists : Some a.list ≡ None = ap (λ p. p.1) e in
      absurd cc
  accessed_none (Err f) reply e = ap (λ (m : MessageData). record { handlers = h; reply = m }) (ap (λ p. p.0) e)

-- ---- the handlers
pub put_none : (h : HandlersData DeskRow) (token : ℕ) (row : DeskRow) → content_of h.list token ≡ None → h ≡ with_content h token row
put_none h token row e = ap (λ (list : List (HandlerData DeskRow)). record h { list = list }) (sym (map-held_by_none token row h.list e))

pub put_there : (h : HandlersData DeskRow) (token : ℕ) (row : DeskRow) (elements : List ElementsData) → content_of h.list token ≡ Some row → with_content h token (record row { elements = elements }) ≡ with_content h token (record (row_in h token) { elements = elements })
put_there h token row elements e =
    let is : row_in h token ≡ row = ap (λ (o : Option DeskRow). unwrap_or o empty_row) e in
    ap (λ (r : DeskRow). with_content h token (record r { elements = elements })) (sym is)

-- ---- the state has its facts shown anew
pub facts_same : (s : DeskState) (h : HandlersData DeskRow) (numbers : s.first + length s.names ≤ 32) (loopers : length s.names ≤ 8) → record s { handlers = h; numbers = numbers; some_loopers = loopers } ≡ record s { handlers = h }
facts_same s h numbers loopers =
    ap (λ (p : s.first + length s.names ≤ 32). record s { handlers = h; numbers = p; some_loopers = loopers }) (le_prop numbers s.numbers)
    ∙ ap (λ (p : length s.names ≤ 8). record s { handlers = h; some_loopers = p }) (le_prop loopers s.some_loopers)

pub replied_so : (s : DeskState) (token place : ℕ) (m : MessageData) (r : Result MessageData NoMemory) (h : HandlersData DeskRow) (numbers : s.first + length s.names ≤ 32) (loopers : length s.names ≤ 8) → IfOk r (λ reply. property_accessed s.handlers token place m ≡ record { handlers = h; reply = reply }) → IfOk r (λ reply. property_replied s token place m ≡ record { state = record s { handlers = h; numbers = numbers; some_loopers = loopers }; reply = reply })
replied_so s token place m (Err n) h numbers loopers e = tt
replied_so s token place m (Ok reply) h numbers loopers e =
    ap (λ (a : Accessed). record { state = record s { handlers = a.handlers }; reply = a.reply }) e
    ∙ ap (λ (t : DeskState). record { state = t; reply = reply }) (sym (facts_same s h numbers loopers))
