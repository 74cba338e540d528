-- Values that are sound at every depth stay so where they are put together.
use Rattle.std.proofs.Common.{ℕ, Bool, true, false, cond, List, [], ◌∷◌, ◌++◌, sym, subst}
use Rattle.ak_message.specs.Message.{ValueData, FieldData, MessageData, nested_values, nested_fields, value_of_message}
use Rattle.ak_message.specs.MessageCode.{message_at-value}
use Rattle.ak_message.specs.Fields.{IsMessage, is_named, added, with_value}
use Rattle.ak_message.specs.Whole.{FitsValue, FitsValues, FitsFields, IsWhole}

-- a whole message is a value that fits
pub fits_message : (m : MessageData) → IsWhole m → FitsValue (value_of_message m)
fits_message m h = (subst IsMessage (sym (message_at-value m)) h.0, h.1)

pub fits-push : (vs : List ValueData) (v : ValueData) → FitsValues (nested_values vs) → FitsValue v → FitsValues (nested_values (vs ++ v ∷ []))
fits-push [] v h fit = (fit, tt)
fits-push (x ∷ vs) v h fit = (h.0, fits-push vs v h.1 fit)

fits-behind : (f : FieldData) (fs more : List FieldData) (v : ValueData) (b : Bool) → FitsFields (nested_fields (f ∷ fs)) → FitsFields (nested_fields more) → FitsValue v → FitsFields (nested_fields (cond b (with_value f v ∷ fs) (f ∷ more)))
fits-behind f fs more v true h rest fit = (fits-push f.values v h.0 fit, h.1)
fits-behind f fs more v false h rest fit = (h.0, rest)

pub fits-added : (fs : List FieldData) (name : List ℕ) (v : ValueData) → FitsFields (nested_fields fs) → FitsValue v → FitsFields (nested_fields (added fs name v))
fits-added [] name v h fit = ((fit, tt), tt)
fits-added (f ∷ fs) name v h fit = fits-behind f fs _ v (is_named name f) h (fits-added fs name v h.1 fit) fit
