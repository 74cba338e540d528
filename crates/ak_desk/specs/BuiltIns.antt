-- What every handler, every looper and every application's own looper answers by itself.
use Rattle.std.specs.Prelude.{ℕ, pos, ◌==◌, Bool, false, not, if◌then◌else◌, List, [], ◌∷◌, ◌++◌, length, take, codes, Option, None, Some, option_map, unwrap_or}
use Rattle.std.specs.Str.{bytes_eq}
use Rattle.ak_handler.specs.Handlers.{handler_of}
use Rattle.ak_message.specs.declared.address.Target.TheVariants as target
use Rattle.ak_message.specs.declared.specifier.Specifier.{Specifier}
use Rattle.ak_message.specs.Message.{MessageData, bool_value, text_value, int32_value, messenger_value}
use Rattle.ak_property.specs.Suites.{suites_reply}
use Rattle.ak_route.specs.declared.matching.BuiltInName.{BuiltInName}
use Rattle.ak_route.specs.declared.matching.BuiltInName.TheVariants as built_in
use Rattle.ak_route.specs.Matching.{built_in_of, is_code}
use Rattle.ak_specifier.specs.Current.{current_of}
use Rattle.ak_action.specs.declared.state.DeskState.{DeskState}
use Rattle.ak_action.specs.Doing.{row_of}
use Rattle.ak_action.specs.Limits.{suite_limit}
use Rattle.ak_desk.specs.Place.{is_own}
use Rattle.ak_desk.specs.Replies.{none_reply, value_reply}

abbrev pub application_suites : DeskState → List (List ℕ)
application_suites s = if is_own s then codes "suite/vnd.Be-application" ∷ [] else []

abbrev pub looper_suites : DeskState → ℕ → List (List ℕ)
looper_suites s token = if token == 0 then codes "suite/vnd.Be-looper" ∷ application_suites s else []

-- its own, of more than 16 the first 16, and those of what it is; no plan has more
abbrev pub suites_of : DeskState → ℕ → List (List ℕ)
suites_of s token = take suite_limit (row_of s token).suites ++ codes "suite/vnd.Be-handler" ∷ looper_suites s token

abbrev pub suites_told : DeskState → ℕ → MessageData
suites_told s token = suites_reply (suites_of s token) (row_of s token).table

abbrev pub messenger_told : DeskState → ℕ → MessageData
messenger_told s token = value_reply (messenger_value (record { looper = s.looper; target = target.Token token }))

abbrev pub name_of : DeskState → ℕ → List ℕ
name_of s token = unwrap_or (option_map (λ h. h.name) (handler_of s.handlers.list token)) []

abbrev pub name_told : DeskState → ℕ → MessageData
name_told s token = value_reply (text_value (name_of s token))

abbrev pub count_told : ℕ → MessageData
count_told n = value_reply (int32_value (pos n))

-- what the specifier names: the suites, the messenger, or else the name
abbrev pub asked_told : DeskState → ℕ → Option BuiltInName → MessageData
asked_told s token (Some built_in.Suites) = suites_told s token
asked_told s token (Some built_in.Messenger) = messenger_told s token
asked_told s token (Some built_in.InternalName) = name_told s token
asked_told s token None = name_told s token

-- the handlers, or else the loopers
abbrev pub counted_told : DeskState → List ℕ → MessageData
counted_told s property =
    if bytes_eq property (codes "Handler") then count_told (length s.handlers.list) else count_told (length s.names)

abbrev pub property_asked : Option Specifier → List ℕ
property_asked None = []
property_asked (Some sp) = sp.property

-- the reply to a message that is taken as something built in
abbrev pub built_in_reply : DeskState → ℕ → MessageData → MessageData
built_in_reply s token m =
    if is_code m.what (codes "PGET") then asked_told s token (built_in_of (property_asked (current_of m)))
    else if is_code m.what (codes "SUIT") then suites_told s token
    else if is_code m.what (codes "PCNT") then counted_told s (property_asked (current_of m))
    else if is_code m.what (codes "_QRQ") then value_reply (bool_value (not s.quit_refused))
    else none_reply

-- whether the looper is to end
abbrev pub built_in_quits : DeskState → MessageData → Bool
built_in_quits s m = if is_code m.what (codes "_QRQ") then not s.quit_refused else false
