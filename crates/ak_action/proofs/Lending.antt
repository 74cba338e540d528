-- What a handler holds is changed in the state, where it is there.
use Rattle.std.proofs.Common.{◌≡◌, ℕ, Bool, true, false, cond, List, [], ◌∷◌, map, find, Option, None, Some, option_map, unwrap_or, slice_get, length, ◌+◌, ◌≤◌, refl, ap, sym, ◌∙◌}
use Rattle.std.proofs.Math.Bridge.{le_prop}
use Rattle.ak_handler.proofs.Surface.{map-held_by_none}
use Rattle.ak_handler.specs.Changes.{content_of, holding, with_content}
use Rattle.ak_handler.specs.Handlers.{HandlerData, has_token}
use Rattle.ak_value.specs.Elements.{ElementsData}
use Rattle.ak_action.specs.declared.action.Reaction.{Reaction}
use Rattle.ak_action.specs.declared.row.DeskRow.{DeskRow}
use Rattle.ak_action.specs.declared.state.DeskState.{DeskState}
use Rattle.ak_action.specs.Doing.{row_of, with_row}
use Rattle.ak_action.specs.Interp.{actions_of, reaction_actions}
use Rattle.ak_action.specs.Row.{empty_row}

module _ {R : Type 0} (token : ℕ) (content : R) where
  held_by : (b : Bool) (h : HandlerData R) (after list : List (HandlerData R)) → has_token token h ≡ b → content_of after token ≡ option_map (λ _. content) (content_of list token) → content_of (cond b (record h { content = content }) h ∷ after) token ≡ option_map (λ _. content) (content_of (h ∷ list) token)
  held_by true h after list e rest = rw e refl
  held_by false h after list e rest = rw e rest

  -- the handler with the token holds it then, if there is one
  content-held : (list : List (HandlerData R)) → content_of (map (holding token content) list) token ≡ option_map (λ _. content) (content_of list token)
  content-held [] = refl
  content-held (h ∷ list) =
      held_by (has_token token h) h (map (holding token content) list) list refl (content-held list)

-- ---- the state
module _ (s : DeskState) (token : ℕ) where
  pub kept_where_none : (row : DeskRow) → content_of s.handlers.list token ≡ None → with_row s token row ≡ s
  kept_where_none row e =
      ap (λ (list : List (HandlerData DeskRow)). record s { handlers = record s.handlers { list = list } }) (map-held_by_none token row s.handlers.list e)

  -- the code's state has its facts shown anew
  pub kept_state : (row : DeskRow) (numbers : s.first + length s.names ≤ 32) (loopers : length s.names ≤ 8) → content_of s.handlers.list token ≡ None → record s { numbers = numbers; some_loopers = loopers } ≡ with_row s token row
  kept_state row numbers loopers e =
      ap (λ (p : s.first + length s.names ≤ 32). record s { numbers = p; some_loopers = loopers }) (le_prop numbers s.numbers)
      ∙ ap (λ (p : length s.names ≤ 8). record s { some_loopers = p }) (le_prop loopers s.some_loopers)
      ∙ sym (kept_where_none row e)

  pub row_there : (row : DeskRow) → content_of s.handlers.list token ≡ Some row → row_of s token ≡ row
  row_there row e = ap (λ (o : Option DeskRow). unwrap_or o empty_row) e

  -- the same of a handler that is there
  pub lent_state : (row : DeskRow) (change : List ElementsData → List ElementsData) (elements : List ElementsData) (numbers : s.first + length s.names ≤ 32) (loopers : length s.names ≤ 8) → content_of s.handlers.list token ≡ Some row → elements ≡ change row.elements → record s { handlers = with_content s.handlers token (record row { elements = elements }); numbers = numbers; some_loopers = loopers } ≡ with_row s token (record (row_of s token) { elements = change (row_of s token).elements })
  lent_state row change elements numbers loopers e is =
      let held : DeskRow → DeskState = λ (r : DeskRow). with_row s token (record r { elements = change r.elements }) in
      ap (λ (p : s.first + length s.names ≤ 32). record s { handlers = with_content s.handlers token (record row { elements = elements }); numbers = p; some_loopers = loopers }) (le_prop numbers s.numbers)
      ∙ ap (λ (p : length s.names ≤ 8). record s { handlers = with_content s.handlers token (record row { elements = elements }); some_loopers = p }) (le_prop loopers s.some_loopers)
      ∙ ap (λ (l : List ElementsData). with_row s token (record row { elements = l })) is
      ∙ ap held (sym (row_there row e))

  -- another handler's row, or one whose elements differ: the reactions are the same
  reactions_by : (o : Option DeskRow) (elements : List ElementsData) → (unwrap_or (option_map (λ _. record (unwrap_or o empty_row) { elements = elements }) o) empty_row).reactions ≡ (unwrap_or o empty_row).reactions
  reactions_by None elements = refl
  reactions_by (Some row) elements = refl

  pub actions-kept : (elements : List ElementsData) (reaction : ℕ) → actions_of (with_row s token (record (row_of s token) { elements = elements })) token reaction ≡ actions_of s token reaction
  actions-kept elements reaction =
      let row : DeskRow = record (row_of s token) { elements = elements } in
      let held = content-held token row s.handlers.list in
      let same : (row_of (with_row s token row) token).reactions ≡ (row_of s token).reactions = ap (λ (o : Option DeskRow). (unwrap_or o empty_row).reactions) held ∙ reactions_by (content_of s.handlers.list token) elements in
      ap (λ (rs : List Reaction). reaction_actions (slice_get rs reaction)) same

pub ruleset lent = (kept_where_none, row_there)
