-- What a command on a property does, and its reply.
use Rattle.std.specs.Prelude.{ℕ, ◌==◌, if◌then◌else◌, List, Option, None, Some, unwrap_or, Result, Ok, Err}
use Rattle.ak_base.specs.declared.error.KitError.TheVariants as error
use Rattle.ak_handler.specs.Changes.{content_of, with_content}
use Rattle.ak_handler.specs.Handlers.{HandlersData}
use Rattle.ak_message.specs.declared.specifier.Specifier.{Specifier}
use Rattle.ak_message.specs.Message.{MessageData}
use Rattle.ak_specifier.specs.Current.{left_of, current_of}
use Rattle.ak_value.specs.declared.fault.ElementFault.{ElementFault}
use Rattle.ak_value.specs.Elements.{ElementsData}
use Rattle.ak_action.specs.declared.row.DeskRow.{DeskRow}
use Rattle.ak_action.specs.declared.state.DeskState.{DeskState}
use Rattle.ak_action.specs.Properties.{AccessedAt, access_at}
use Rattle.ak_action.specs.Row.{empty_row}
use Rattle.ak_desk.specs.Replies.{error_reply, error_of_fault, values_reply}

-- the handlers that are left, and the reply
pub record Accessed : Type 0 where
  pub handlers : HandlersData DeskRow
  pub reply : MessageData

abbrev pub refused_with : HandlersData DeskRow → MessageData → Accessed
refused_with h reply = record { handlers = h; reply = reply }

-- what the handler with that token holds
abbrev pub row_in : HandlersData DeskRow → ℕ → DeskRow
row_in h token = unwrap_or (content_of h.list token) empty_row

abbrev pub accessed : HandlersData DeskRow → ℕ → Result AccessedAt ElementFault → Accessed
accessed h token (Err f) = refused_with h (error_reply (error_of_fault f))
accessed h token (Ok a) =
    record { handlers = with_content h token (record (row_in h token) { elements = a.list }); reply = values_reply a.values }

-- the reply, and the elements then, unless it is refused
abbrev pub access_told : Result AccessedAt ElementFault → MessageData × Option (List ElementsData)
access_told (Err f) = (error_reply (error_of_fault f), None)
access_told (Ok a) = (values_reply a.values, Some a.list)

abbrev pub on_property : HandlersData DeskRow → ℕ → ℕ → MessageData → Option Specifier → Accessed
on_property h token place m None = refused_with h (error_reply error.BadScriptSyntax)
on_property h token place m (Some sp) =
    if left_of m == 1 then accessed h token (access_at (row_in h token).elements place m.what sp.at m)
    else refused_with h (error_reply error.BadScriptSyntax)

-- the command of the message on the property at that place of the handler with that token; with more than one specifier left it
-- is refused
abbrev pub property_accessed : HandlersData DeskRow → ℕ → ℕ → MessageData → Accessed
property_accessed h token place m = on_property h token place m (current_of m)

-- ---- in the looper's state
pub record Replied : Type 0 where
  pub state : DeskState
  pub reply : MessageData

abbrev pub property_replied : DeskState → ℕ → ℕ → MessageData → Replied
property_replied s token place m =
    record {
      state = record s { handlers = (property_accessed s.handlers token place m).handlers };
      reply = (property_accessed s.handlers token place m).reply;
    }
