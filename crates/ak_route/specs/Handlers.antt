-- What routing sees of a looper's handlers, and the first target of a message.
use Rattle.std.specs.Prelude.{ℕ, [], map, if◌then◌else◌, Option, None, Some, unwrap_or}
use Rattle.ak_handler.specs.Handlers.{HandlerData, HandlersData}
use Rattle.ak_handler.specs.Changes.{content_of, is_there}
use Rattle.ak_message.specs.declared.address.Target.{Target}
use Rattle.ak_message.specs.declared.address.Target.TheVariants as target
use Rattle.ak_property.specs.HandlerRow.{RowData}

abbrev pub no_row : RowData
no_row = record { table = []; filters = []; reactions = [] }

module _ {R : Type 0} where
  -- a handler by what routing sees of what it holds
  abbrev pub row_seen : (R → RowData) → HandlerData R → HandlerData RowData
  row_seen seen h = record { token = h.token; name = h.name; next = h.next; content = seen h.content }

  abbrev pub handlers_seen : (R → RowData) → HandlersData R → HandlersData RowData
  handlers_seen seen s = record { list = map (row_seen seen) s.list; preferred = s.preferred; next_token = s.next_token }

-- of the handler with that token
abbrev pub row_of : HandlersData RowData → ℕ → RowData
row_of s token = unwrap_or (content_of s.list token) no_row

-- a token names its handler, if that is there; else it is the preferred handler, or the looper where none is preferred
abbrev pub first_target : HandlersData RowData → Target → Option ℕ
first_target s (target.Token token) = if is_there s.list token then Some token else None
first_target s target.Preferred = Some (unwrap_or s.preferred 0)
