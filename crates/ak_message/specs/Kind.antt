-- What each kind is called: four ASCII bytes, and the number that they make, the first one highest.
use Rattle.std.specs.Prelude.{◌≡◌, ℕ, Bool, ◌==◌, if◌then◌else◌, List, codes, Option, None, Some, unwrap_or, true, refl}
use Rattle.std.specs.Int.{w32, from_be_bytes}
use Rattle.std.specs.Coded.{Coded, coded_ℕ, code_by}
use Rattle.std.proofs.Common.{sym, ap, ◌∙◌}
use Rattle.std.proofs.lemmas.Bool.{eqb-true}
use Rattle.ak_message.specs.declared.kind.Kind.{Kind}
use Rattle.ak_message.specs.declared.kind.Kind.TheVariants as k

abbrev pub kind_letters : Kind → List ℕ
kind_letters k.Bool = codes "BOOL"
kind_letters k.Int8 = codes "BYTE"
kind_letters k.Int16 = codes "SHRT"
kind_letters k.Int32 = codes "LONG"
kind_letters k.Int64 = codes "LLNG"
kind_letters k.UInt8 = codes "UBYT"
kind_letters k.UInt16 = codes "USHT"
kind_letters k.UInt32 = codes "ULNG"
kind_letters k.UInt64 = codes "ULLG"
kind_letters k.Text = codes "CSTR"
kind_letters k.Message = codes "MSGG"
kind_letters k.Messenger = codes "MSNG"
kind_letters k.Raw = codes "RAWT"

abbrev pub code_of_kind : Kind → ℕ
code_of_kind kind = from_be_bytes w32 (kind_letters kind)

abbrev pub is_same_kind : Kind → Kind → Bool
is_same_kind a b = code_of_kind a == code_of_kind b

-- the kind that a code names
abbrev pub kind_of_code : ℕ → Option Kind
kind_of_code code =
    if code == 0x424f4f4c then Some k.Bool
    else if code == 0x42595445 then Some k.Int8
    else if code == 0x53485254 then Some k.Int16
    else if code == 0x4c4f4e47 then Some k.Int32
    else if code == 0x4c4c4e47 then Some k.Int64
    else if code == 0x55425954 then Some k.UInt8
    else if code == 0x55534854 then Some k.UInt16
    else if code == 0x554c4e47 then Some k.UInt32
    else if code == 0x554c4c47 then Some k.UInt64
    else if code == 0x43535452 then Some k.Text
    else if code == 0x4d534747 then Some k.Message
    else if code == 0x4d534e47 then Some k.Messenger
    else if code == 0x52415754 then Some k.Raw
    else None

-- ---- a kind is stored as its code
pub kind_of_code-code : (kind : Kind) → kind_of_code (code_of_kind kind) ≡ Some kind
kind_of_code-code k.Bool = refl
kind_of_code-code k.Int8 = refl
kind_of_code-code k.Int16 = refl
kind_of_code-code k.Int32 = refl
kind_of_code-code k.Int64 = refl
kind_of_code-code k.UInt8 = refl
kind_of_code-code k.UInt16 = refl
kind_of_code-code k.UInt32 = refl
kind_of_code-code k.UInt64 = refl
kind_of_code-code k.Text = refl
kind_of_code-code k.Message = refl
kind_of_code-code k.Messenger = refl
kind_of_code-code k.Raw = refl

abbrev pub kind_at : ℕ → Kind
kind_at code = unwrap_or (kind_of_code code) k.Raw

pub kind_at-code : (kind : Kind) → kind_at (code_of_kind kind) ≡ kind
kind_at-code kind = ap (λ o. unwrap_or o k.Raw) (kind_of_code-code kind)

abbrev pub coded_kind : Coded Kind
coded_kind = code_by ℕ coded_ℕ code_of_kind kind_at kind_at-code

-- kinds of one code are one kind
pub same_kind-is : (a b : Kind) → is_same_kind a b ≡ true → a ≡ b
same_kind-is a b e = sym (kind_at-code a) ∙ ap kind_at (eqb-true _ _ e) ∙ kind_at-code b
