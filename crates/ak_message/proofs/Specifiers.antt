-- How many specifiers a message has.
use Rattle.std.proofs.Common.{ℕ, ◌≤◌, Bool, true, false, cond, List, [], ◌∷◌, length, codes, All, Some, arith}
use Rattle.std.proofs.lemmas.List.Elements.{All-head, All-tail}
use Rattle.ak_message.specs.declared.kind.Kind.TheVariants as k
use Rattle.ak_message.specs.Kind.{is_same_kind}
use Rattle.ak_message.specs.Message.{FieldData}
use Rattle.ak_message.specs.Fields.{is_named, field_named, IsField, specifier_count, specifier_count_in}

-- ---- at most 255
counted_if : (f : FieldData) (b : Bool) → IsField f → cond b (length f.values) 0 ≤ 255
counted_if f true h = h.limit
counted_if f false h = omega arith

counted-behind : (f : FieldData) (fs : List FieldData) (name : List ℕ) (b : Bool) → IsField f → specifier_count_in (field_named fs name) ≤ 255 → specifier_count_in (cond b (Some f) (field_named fs name)) ≤ 255
counted-behind f fs name true h below = counted_if f (is_same_kind f.kind k.Message) h
counted-behind f fs name false h below = below

counted_small : (fs : List FieldData) (name : List ℕ) → All IsField fs → specifier_count_in (field_named fs name) ≤ 255
counted_small [] name h = omega arith
counted_small (f ∷ fs) name h =
    counted-behind f fs name (is_named name f) (All-head IsField f fs h) (counted_small fs name (All-tail IsField f fs h))

pub specifier_count-small : (fs : List FieldData) → All IsField fs → specifier_count fs ≤ 255
specifier_count-small fs h = counted_small fs (codes "specifiers") h
