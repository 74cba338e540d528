-- The message of a hey line, as far as its words are read: its fields in the order of their words.
use Rattle.std.specs.Prelude.{ℕ, nat_le, if◌then◌else◌, List, [], ◌∷◌, length, codes, Option, Some, None}
use Rattle.std.specs.Str.{bytes_eq}
use Rattle.ak_base.specs.Option.{where_true, ◌>>=◌}
use Rattle.ak_base.specs.declared.code.Code.{Code}
use Rattle.ak_base.specs.declared.limited.Limited.{Limited}
use Rattle.ak_base.specs.declared.limited.Limited.TheVariants.{Within, Over}
use Rattle.ak_flatten.specs.Limits.{flat_limit}
use Rattle.ak_flatten.specs.Spelling.{spelling}
use Rattle.ak_message.specs.declared.fault.AddFault.{AddFault}
use Rattle.ak_message.specs.declared.kind.Kind.{Kind}
use Rattle.ak_message.specs.declared.kind.Kind.TheVariants as k
use Rattle.ak_message.specs.declared.specifier.At.{At}
use Rattle.ak_message.specs.declared.specifier.Specifier.{Specifier}
use Rattle.ak_message.specs.Message.{MessageData}
pub use Rattle.ak_input.specs.Reading.{fits}
use Rattle.ak_input.specs.Reading.{Got, with_value}
use Rattle.ak_specifier.specs.Current as specifier

-- ---- the kinds of the fields, by their names
abbrev pub kind_named : List (List ℕ × Kind) → List ℕ → Option Kind
kind_named [] name = None
kind_named (first ∷ kinds) name = if bytes_eq name first.0 then Some first.1 else kind_named kinds name

-- a name that is there keeps its place
abbrev pub with_kind : List (List ℕ × Kind) → List ℕ → Kind → List (List ℕ × Kind)
with_kind [] name kind = (name, kind) ∷ []
with_kind (first ∷ kinds) name kind = if bytes_eq name first.0 then (first.0, kind) ∷ kinds else first ∷ with_kind kinds name kind

-- values of one name have one kind
abbrev pub noted : List (List ℕ × Kind) → List ℕ → Kind → Option (List (List ℕ × Kind))
noted kinds name kind = where_true (fits (kind_named kinds name) kind) (with_kind kinds name kind)

-- ---- the message, where it passes no limit
pub record DraftData : Type 0 where
  pub kinds : List (List ℕ × Kind)
  pub message : Limited MessageData

abbrev pub new_draft : Code → DraftData
new_draft what = record { kinds = []; message = Within (record { what = what.0; fields = []; popped = 0 }) }

abbrev pub specifier_or_not : Option AddFault → MessageData → Specifier → Limited MessageData
specifier_or_not None m s = Within (specifier.with_specifier m s)
specifier_or_not (Some fault) m s = Over

-- with one specifier more
abbrev pub specified : Limited MessageData → List ℕ → Limited At → Limited MessageData
specified Over property at = Over
specified (Within m) property Over = Over
specified (Within m) property (Within at) = specifier_or_not (specifier.specifier_fault m) m (record { property = property; at = at })

abbrev pub with_specifier : DraftData → List ℕ → Limited At → DraftData
with_specifier d property at =
    record { kinds = with_kind d.kinds (codes "specifiers") k.Message; message = specified d.message property at }

-- with one value more
abbrev pub with_got : DraftData → List ℕ → Got → Option DraftData
with_got d name g =
    noted d.kinds name g.kind >>= λ kinds. Some (record { kinds = kinds; message = with_value d.message name g.value })

-- ---- the length
abbrev pub short : MessageData → Limited MessageData
short m = if nat_le (length (spelling m)) flat_limit then Within m else Over

abbrev pub short_message : Limited MessageData → Limited MessageData
short_message Over = Over
short_message (Within m) = short m
