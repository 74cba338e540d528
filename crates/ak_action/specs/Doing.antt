-- What one action does, given what it meets: the state, the handler that handles, and the message.
use Rattle.std.specs.Prelude.{ℕ, Bool, true, false, List, [], Option, None, Some, unwrap_or, slice_get}
use Rattle.ak_base.specs.declared.app_word.AppWord.{AppWord}
use Rattle.ak_base.specs.declared.error.KitError.{KitError}
use Rattle.ak_base.specs.declared.error.KitError.TheVariants as error
use Rattle.ak_handler.specs.Changes.{content_of, with_content}
use Rattle.ak_handler.specs.Handlers.{token_named}
use Rattle.ak_message.specs.declared.address.Address.{Address}
use Rattle.ak_message.specs.declared.address.Target.TheVariants as target
use Rattle.ak_message.specs.Message.{ValueData, MessageData, kind_of}
use Rattle.ak_value.specs.declared.fault.ElementFault.{ElementFault}
use Rattle.ak_value.specs.declared.fault.ElementFault.TheVariants as fault
use Rattle.ak_value.specs.Elements.{ElementsData, set_first_fault}
use Rattle.ak_action.specs.declared.action.Action.{Action}
use Rattle.ak_action.specs.declared.action.Action.TheVariants as action
use Rattle.ak_action.specs.declared.action.Dest.{Dest}
use Rattle.ak_action.specs.declared.action.Dest.TheVariants as dest
use Rattle.ak_action.specs.declared.doing.Sending.{Sending}
use Rattle.ak_action.specs.declared.doing.Sending.TheVariants as sending
use Rattle.ak_action.specs.declared.number.Number.{Number}
use Rattle.ak_action.specs.declared.row.DeskRow.{DeskRow}
use Rattle.ak_action.specs.declared.state.DeskState.{DeskState}
use Rattle.ak_action.specs.declared.template.Template.{Template}
use Rattle.ak_action.specs.Building.{built, first_given}
use Rattle.ak_action.specs.Number.{number_of, number_value, sum_of}
use Rattle.ak_action.specs.Row.{empty_row, place_of_property, first_of}
use Rattle.ak_action.specs.State.{looper_named}

pub data Doing : Type 0 where
  -- its answer is known at once
  says : KitError → Doing
  -- the message is the reply
  replies : MessageData → Doing
  -- the first element of the property at that place gets the value
  puts : ℕ → ValueData → Doing
  -- the message is sent
  sends : Address → Sending → MessageData → Doing
  -- a running application is looked for, and the message sent to it
  finds : AppWord → Sending → MessageData → Doing
  -- no further action is carried out
  stops : Doing
  -- the looper is to end
  quits : Doing

-- what the handler with that token holds
abbrev pub row_of : DeskState → ℕ → DeskRow
row_of s token = unwrap_or (content_of s.handlers.list token) empty_row

abbrev pub with_row : DeskState → ℕ → DeskRow → DeskState
with_row s token row = record s { handlers = with_content s.handlers token row }

-- ---- where a message is sent
abbrev pub preferred_of : ℕ → Address
preferred_of looper = record { looper = looper; target = target.Preferred }

abbrev pub to_looper : Option ℕ → Sending → MessageData → Doing
to_looper None how m = says error.NoTeam
to_looper (Some looper) how m = sends (preferred_of looper) how m

abbrev pub to_handler : ℕ → Option ℕ → Sending → MessageData → Doing
to_handler looper None how m = says error.BadHandler
to_handler looper (Some token) how m = sends (record { looper = looper; target = target.Token token }) how m

abbrev pub sent_to : DeskState → Dest → Sending → MessageData → Doing
sent_to s dest.Own how m = sends (preferred_of s.looper) how m
sent_to s (dest.Looper name) how m = to_looper (looper_named s name) how m
sent_to s (dest.Handler name) how m = to_handler s.looper (token_named s.handlers.list name) how m
sent_to s (dest.App word) how m = finds word how m

-- where an answer to a post goes, where one is asked for
abbrev pub back_to : DeskState → ℕ → Bool → Option Address
back_to s token true = Some (record { looper = s.looper; target = target.Token token })
back_to s token false = None

-- the property that gets the result of an ask
abbrev pub into_place : DeskRow → Option (List ℕ) → Option ℕ
into_place row None = None
into_place row (Some name) = place_of_property row name

-- ---- a property's first element
abbrev pub refused_or_put : ℕ → ValueData → Option ElementFault → Doing
refused_or_put place value None = puts place value
refused_or_put place value (Some fault.BadType) = says error.BadType
refused_or_put place value (Some _) = says error.BadIndex

abbrev pub put_in : ℕ → Option ElementsData → ValueData → Doing
put_in place None value = says error.BadIndex
put_in place (Some e) value = refused_or_put place value (set_first_fault e (kind_of value))

abbrev pub put_at : DeskRow → Option ℕ → ValueData → Doing
put_at row None value = says error.BadIndex
put_at row (Some place) value = put_in place (slice_get row.elements place) value

-- the value, where it is there
abbrev pub set_to : DeskRow → List ℕ → Option ValueData → Doing
set_to row property None = says error.NameNotFound
set_to row property (Some value) = put_at row (place_of_property row property) value

-- the sum, where the kind has it
abbrev pub put_sum : DeskRow → List ℕ → Option Number → Doing
put_sum row property None = says error.BadValue
put_sum row property (Some sum) = put_at row (place_of_property row property) (number_value sum)

abbrev pub sum_with : Option Number → Number → Option Number
sum_with None amount = None
sum_with (Some number) amount = sum_of number amount

abbrev pub add_to : DeskRow → List ℕ → Option ValueData → Number → Doing
add_to row property None amount = says error.BadIndex
add_to row property (Some value) amount = put_sum row property (sum_with (number_of value) amount)

-- ---- the first reply is the one that is kept
abbrev pub reply_of : DeskRow → MessageData → Template → Bool → Doing
reply_of row m t true = says error.DuplicateReply
reply_of row m t false = replies (built row m t)

-- ---- each action
abbrev pub doing_of : DeskState → ℕ → MessageData → Bool → Action → Doing
doing_of s token m replied (action.Reply t) = reply_of (row_of s token) m t replied
doing_of s token m replied (action.Post to t back) = sent_to s to (sending.Post (back_to s token back)) (built (row_of s token) m t)
doing_of s token m replied (action.Ask to t into) = sent_to s to (sending.Ask (into_place (row_of s token) into)) (built (row_of s token) m t)
doing_of s token m replied (action.Set property value) = set_to (row_of s token) property (first_given (row_of s token) m value)
doing_of s token m replied (action.Add property amount) = add_to (row_of s token) property (first_of (row_of s token) property) amount
doing_of s token m replied action.Stop = stops
doing_of s token m replied action.Quit = quits
