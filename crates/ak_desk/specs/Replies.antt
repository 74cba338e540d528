-- The replies that a looper makes.
use Rattle.std.specs.Prelude.{◌≡◌, ℕ, List, [], ◌∷◌, ◌++◌, if◌then◌else◌, is_some, codes, Option, None, Some}
use Rattle.ak_base.specs.Code.{code_of}
use Rattle.ak_base.specs.declared.error.KitError.{KitError}
use Rattle.ak_base.specs.declared.error.KitError.TheVariants as error
use Rattle.ak_base.specs.Error.{number_of}
use Rattle.ak_message.specs.Fields.{add_fault, added, new_field}
use Rattle.ak_message.specs.Message.{ValueData, FieldData, MessageData, int32_value}
use Rattle.ak_value.specs.declared.fault.ElementFault.{ElementFault}
use Rattle.ak_value.specs.declared.fault.ElementFault.TheVariants as fault

-- a message of this code without fields
abbrev pub bare : List ℕ → MessageData
bare letters = record { what = code_of letters; fields = []; popped = 0 }

-- nothing was replied
abbrev pub none_reply : MessageData
none_reply = bare (codes "NONE")

abbrev pub not_understood : MessageData
not_understood = bare (codes "MNOT")

abbrev pub reply_with : List FieldData → MessageData
reply_with fields = record { what = code_of (codes "RPLY"); fields = fields; popped = 0 }

abbrev pub error_field : KitError → FieldData
error_field e = new_field (codes "error") (int32_value (number_of e))

-- the error alone
abbrev pub error_reply : KitError → MessageData
error_reply e = reply_with (error_field e ∷ [])

-- ---- the field `result`
-- a value more, where a message can hold it
abbrev pub with_value : List FieldData → ValueData → List FieldData
with_value fields v = if is_some (add_fault fields (codes "result") v) then fields else added fields (codes "result") v

abbrev pub with_values : List FieldData → List ValueData → List FieldData
with_values fields [] = fields
with_values fields (v ∷ vs) = with_values (with_value fields v) vs

-- at most the field `result`
abbrev pub ResultAlone : List FieldData → Type 0
ResultAlone [] = Unit {0}
ResultAlone (f ∷ []) = f.name ≡ codes "result"
ResultAlone (f ∷ (g ∷ fs)) = ⊥

abbrev pub listed : Option (List ValueData) → List ValueData
listed None = []
listed (Some vs) = vs

-- the values, and that all is well
abbrev pub values_reply : Option (List ValueData) → MessageData
values_reply values = reply_with (with_values [] (listed values) ++ error_field error.Ok ∷ [])

abbrev pub value_reply : ValueData → MessageData
value_reply v = reply_with (new_field (codes "result") v ∷ error_field error.Ok ∷ [])

-- the error that tells a refused command on elements
abbrev pub error_of_fault : ElementFault → KitError
error_of_fault fault.BadScript = error.BadScriptSyntax
error_of_fault fault.BadValue = error.BadValue
error_of_fault fault.BadType = error.BadType
error_of_fault fault.NameNotFound = error.NameNotFound
error_of_fault fault.BadIndex = error.BadIndex
error_of_fault fault.ElementLimit = error.Limit
error_of_fault fault.NoMemory = error.NoMemory
