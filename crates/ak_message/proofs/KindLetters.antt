-- The letters of a kind are the bytes of its code.
use Rattle.std.proofs.Common.{◌≡◌, refl}
use Rattle.std.specs.Int.{w32, to_be_bytes}
use Rattle.ak_message.specs.declared.kind.Kind.{Kind}
use Rattle.ak_message.specs.declared.kind.Kind.TheVariants as k
use Rattle.ak_message.specs.Kind.{kind_letters, code_of_kind}

pub code-letters : (kind : Kind) → to_be_bytes w32 (code_of_kind kind) ≡ kind_letters kind
code-letters k.Bool = refl
code-letters k.Int8 = refl
code-letters k.Int16 = refl
code-letters k.Int32 = refl
code-letters k.Int64 = refl
code-letters k.UInt8 = refl
code-letters k.UInt16 = refl
code-letters k.UInt32 = refl
code-letters k.UInt64 = refl
code-letters k.Text = refl
code-letters k.Message = refl
code-letters k.Messenger = refl
code-letters k.Raw = refl
