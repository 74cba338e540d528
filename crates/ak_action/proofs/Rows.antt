-- What actions change of a handler leaves its reactions as they are.
use Rattle.std.proofs.Common.{◌≡◌, ℕ, Bool, true, false, cond, List, [], ◌∷◌, map, Option, None, Some, unwrap_or, option_map, slice_get, refl, ap, ◌∙◌}
use Rattle.ak_handler.specs.Changes.{content_of, holding}
use Rattle.ak_handler.specs.Handlers.{HandlerData, handler_of, has_token}
use Rattle.ak_message.specs.Message.{ValueData, MessageData}
use Rattle.ak_value.specs.Elements.{ElementsData}
use Rattle.ak_action.specs.declared.row.DeskRow.{DeskRow}
use Rattle.ak_action.specs.declared.state.DeskState.{DeskState}
use Rattle.ak_action.specs.Acts.{put, taken_in}
use Rattle.ak_action.specs.Doing.{row_of, with_row}
use Rattle.ak_action.specs.Interp.{actions_of, reaction_actions}
use Rattle.ak_action.specs.Properties.{with_first_at, with_result_at}
use Rattle.ak_action.specs.Row.{empty_row}

-- ---- what the handler with a token holds, once it holds this
module _ {R : Type 0} (token : ℕ) (content : R) where
  same_token_by : (b : Bool) (h : HandlerData R) → (cond b (record h { content = content }) h).token ≡ h.token
  same_token_by true h = refl
  same_token_by false h = refl

  same_test : (h : HandlerData R) → has_token token (holding token content h) ≡ has_token token h
  same_test h = ap (λ t. has_token token (record h { token = t })) (same_token_by (has_token token h) h)

  held_by : (b : Bool) (h : HandlerData R) (o p : Option (HandlerData R)) → option_map (λ h. h.content) p ≡ option_map (λ h. content) o → option_map (λ h. h.content) (cond b (Some (cond b (record h { content = content }) h)) p) ≡ option_map (λ h. content) (cond b (Some h) o)
  held_by true h o p e = refl
  held_by false h o p e = e

  -- where no handler has the token, none has it then
  pub content_held : (list : List (HandlerData R)) → content_of (map (holding token content) list) token ≡ option_map (λ h. content) (handler_of list token)
  content_held [] = refl
  content_held (h ∷ list) =
      ap (λ b. option_map (λ h. h.content) (cond b (Some (holding token content h)) (handler_of (map (holding token content) list) token))) (same_test h)
      ∙ held_by (has_token token h) h (handler_of list token) (handler_of (map (holding token content) list) token) (content_held list)

module _ (s : DeskState) (token : ℕ) where
  row_by : {B : Type 0} (part : DeskRow → B) (row : DeskRow) (o : Option (HandlerData DeskRow)) → part row ≡ part (unwrap_or (option_map (λ h. h.content) o) empty_row) → part (unwrap_or (option_map (λ h. row) o) empty_row) ≡ part (unwrap_or (option_map (λ h. h.content) o) empty_row)
  row_by part row None e = refl
  row_by part row (Some h) e = e

  -- a part that the new row has from the old one stays, also where no handler has the token
  pub part_stays : {B : Type 0} (part : DeskRow → B) (row : DeskRow) → part row ≡ part (row_of s token) → part (row_of (with_row s token row) token) ≡ part (row_of s token)
  part_stays part row e =
      ap (λ o. part (unwrap_or o empty_row)) (content_held token row s.handlers.list) ∙ row_by part row (handler_of s.handlers.list token) e

  pub reactions_stay : (elements : List ElementsData) → (row_of (with_row s token (record (row_of s token) { elements = elements })) token).reactions ≡ (row_of s token).reactions
  reactions_stay elements = part_stays (λ row. row.reactions) (record (row_of s token) { elements = elements }) refl

  pub actions-put : (reaction place : ℕ) (value : ValueData) → actions_of (put s token place value) token reaction ≡ actions_of s token reaction
  actions-put reaction place value =
      ap (λ list. reaction_actions (slice_get list reaction)) (reactions_stay (with_first_at (row_of s token).elements place value))

  pub actions-taken_in : (reaction : ℕ) (place : Option ℕ) (reply : MessageData) → actions_of (taken_in s token place reply) token reaction ≡ actions_of s token reaction
  actions-taken_in reaction None reply = refl
  actions-taken_in reaction (Some place) reply =
      ap (λ list. reaction_actions (slice_get list reaction)) (reactions_stay (with_result_at (row_of s token).elements place reply))
