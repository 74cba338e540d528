-- Which bytes in quotes are a text.
use Rattle.std.proofs.Common.{◌≡◌, ℕ, ◌<◌, ◌≤◌, true, eqb, List, length, Some, None, Result, refl, subst}
use Rattle.std.specs.Prelude.{Contains, IsUtf8}
use Rattle.std.specs.List.{list_any}
use Rattle.std.specs.Str.{is_utf8}
use Rattle.std.proofs.lemmas.Bool.{le-leb, true_from_ne_false, lt-leb}
use Rattle.std.proofs.lemmas.Str.{IsUtf8-from_is_utf8}
use Rattle.ak_base.proofs.Surface.{no_zero, zero_in}
use Rattle.ak_base.specs.Text.{IsText}
use Rattle.ak_base.specs.declared.limited.Limited.{Limited}
use Rattle.ak_message.specs.declared.kind.Kind.TheVariants as k
use Rattle.ak_message.specs.Message.{text_value}
use Rattle.ak_input.specs.Payload.{unquoted}
use Rattle.ak_input.specs.Reading.{got, over, text_of, text_got, text_from}
use Rattle.ak_input.specs.declared.parse_fault.ParseFault.{ParseFault}
use Rattle.ak_input.specs.ReadSeen.{Gives}

pub text_ok : (bytes : List ℕ) → is_utf8 bytes ≡ true → IsText bytes → text_of bytes ≡ Some (got (text_value bytes))
text_ok bytes utf8 h = rw (utf8, le-leb _ _ h.0.0, zero_in bytes h.0.1) refl

pub text_long : (bytes : List ℕ) → is_utf8 bytes ≡ true → 1024 < length bytes → text_of bytes ≡ Some (over k.Text)
text_long bytes utf8 long = rw (utf8, lt-leb _ _ long) refl

pub text_zero : (bytes : List ℕ) → is_utf8 bytes ≡ true → length bytes ≤ 1024 → Contains bytes 0 → text_of bytes ≡ None
text_zero bytes utf8 short found =
    let some : list_any (λ b. eqb b 0) bytes ≡ true = true_from_ne_false (list_any (λ b. eqb b 0) bytes) (λ e. no_zero bytes e found) in
    rw (utf8, le-leb _ _ short, some) refl

pub text_bad : (bytes : List ℕ) → is_utf8 bytes ≡ true → (IsUtf8 bytes → ⊥) → text_of bytes ≡ None
text_bad bytes utf8 bad = absurd (bad (IsUtf8-from_is_utf8 bytes utf8))

pub ruleset texts = (text_ok, text_long, text_zero, text_bad)

-- what stands in the quotes decides
pub text_reads : (text bytes seen_bytes : List ℕ) (r : Result (Limited (List ℕ)) ParseFault) → unquoted text ≡ Some bytes → seen_bytes ≡ bytes → Gives text_got r (text_of seen_bytes) → Gives text_got r (text_from text)
unfolding text_from
text_reads text bytes seen_bytes r is same given =
    rw is (subst (λ (b : List ℕ). Gives text_got r (text_of b)) same given)
