-- Raw bytes are read from the digits that are printed of them, and from nothing else.
use Rattle.std.proofs.Common.{◌≡◌, ℕ, zero, suc, ◌+◌, ◌*◌, ◌/◌, ◌%◌, ◌<◌, List, [], ◌∷◌, ◌++◌, Option, Some, None, refl, sym, ap, subst, ◌∙◌, arith}
use Rattle.std.specs.Prelude.{All}
use Rattle.std.specs.Char.{digit_char}
use Rattle.std.specs.List.{flat_map}
use Rattle.std.proofs.lemmas.Bool.Decides.{nat_tests}
use Rattle.std.proofs.lemmas.List.Elements.{All-nil, All-cons, All-head, All-tail}
use Rattle.ak_base.specs.Code.{hex_of}
use Rattle.ak_input.specs.InputText.{RawsAreRead}
use Rattle.ak_input.specs.Payload.{hex_value, raw_from}
use Rattle.ak_base.specs.Option.{◌>>=◌}
use Rattle.ak_base.proofs.Surface.{bind_some, some_is}

-- ---- digits

pub digit_again : (d : ℕ) → d < 16 → hex_value (digit_char d) ≡ Some d
digit_again zero lt = refl
digit_again (suc zero) lt = refl
digit_again (suc (suc zero)) lt = refl
digit_again (suc (suc (suc zero))) lt = refl
digit_again (suc (suc (suc (suc zero)))) lt = refl
digit_again (suc (suc (suc (suc (suc zero))))) lt = refl
digit_again (suc (suc (suc (suc (suc (suc zero)))))) lt = refl
digit_again (suc (suc (suc (suc (suc (suc (suc zero))))))) lt = refl
digit_again (suc (suc (suc (suc (suc (suc (suc (suc zero)))))))) lt = refl
digit_again (suc (suc (suc (suc (suc (suc (suc (suc (suc zero))))))))) lt = refl
digit_again (suc (suc (suc (suc (suc (suc (suc (suc (suc (suc zero)))))))))) lt = refl
digit_again (suc (suc (suc (suc (suc (suc (suc (suc (suc (suc (suc zero))))))))))) lt = refl
digit_again (suc (suc (suc (suc (suc (suc (suc (suc (suc (suc (suc (suc zero)))))))))))) lt = refl
digit_again (suc (suc (suc (suc (suc (suc (suc (suc (suc (suc (suc (suc (suc zero))))))))))))) lt = refl
digit_again (suc (suc (suc (suc (suc (suc (suc (suc (suc (suc (suc (suc (suc (suc zero)))))))))))))) lt = refl
digit_again (suc (suc (suc (suc (suc (suc (suc (suc (suc (suc (suc (suc (suc (suc (suc zero))))))))))))))) lt = refl
digit_again (suc (suc (suc (suc (suc (suc (suc (suc (suc (suc (suc (suc (suc (suc (suc (suc d)))))))))))))))) lt = absurd (omega arith)

pub digit_takes : (b d : ℕ) → hex_value b ≡ Some d → (d < 16) × (b ≡ digit_char d)
digit_takes b d e = (grind (arith, nat_tests), grind (arith, nat_tests))

-- ---- bytes

high_digit : (h l : ℕ) → l < 16 → (16 * h + l) / 16 ≡ h
high_digit h l lt = omega arith

low_digit : (h l : ℕ) → l < 16 → (16 * h + l) % 16 ≡ l
low_digit h l lt = omega arith

two_digits : (h l : ℕ) → l < 16 → hex_of (16 * h + l) ≡ digit_char h ∷ digit_char l ∷ []
two_digits h l lt = rw (high_digit h l lt, low_digit h l lt) refl

abbrev AreSmall : List ℕ → Type 0
AreSmall bytes = All (λ b. b < 256) bytes

-- the digit in front
abbrev front_of : Option ℕ → List ℕ
front_of None = []
front_of (Some high) = digit_char high ∷ []

abbrev IsDigit : Option ℕ → Type 0
IsDigit None = Unit {0}
IsDigit (Some high) = high < 16

abbrev Digits : Option ℕ → List ℕ → List ℕ → Type 0
Digits high text bytes = (front_of high ++ text ≡ flat_map hex_of bytes) × AreSmall bytes

pub raws_take : (text : List ℕ) (high : Option ℕ) (bytes : List ℕ) → IsDigit high → raw_from high text ≡ Some bytes → Digits high text bytes
unfolding raw_from
raws_take [] None bytes lt e = subst (λ (bs : List ℕ). Digits None [] bs) (some_is [] bytes e) (refl, All-nil (λ b. b < 256))
raws_take [] (Some high) bytes lt e = absurd cc
raws_take (b ∷ text) None bytes lt e =
    let s = bind_some (hex_value b) (λ high. raw_from (Some high) text) bytes e in
    let d = digit_takes b s.0 s.1 in
    let h = raws_take text (Some s.0) bytes d.0 s.2 in
    (ap (λ (x : ℕ). x ∷ text) d.1 ∙ h.0, h.1)
raws_take (b ∷ text) (Some high) bytes lt e =
    let s = bind_some (hex_value b) (λ low. raw_from None text >>= λ bytes. Some ((16 * high + low) ∷ bytes)) bytes e in
    let d = digit_takes b s.0 s.1 in
    let r = bind_some (raw_from None text) (λ bytes. Some ((16 * high + s.0) ∷ bytes)) bytes s.2 in
    let h = raws_take text None r.0 tt r.1 in
    let whole : digit_char high ∷ b ∷ text ≡ flat_map hex_of ((16 * high + s.0) ∷ r.0) =
    ap (λ (x : ℕ). digit_char high ∷ x ∷ text) d.1 ∙ ap (λ (t : List ℕ). digit_char high ∷ digit_char s.0 ∷ t) h.0 ∙ ap (λ (t : List ℕ). t ++ flat_map hex_of r.0) (sym (two_digits high s.0 d.0)) in
    let small : 16 * high + s.0 < 256 = omega (arith, d.0) in
    subst (λ (bs : List ℕ). Digits (Some high) (b ∷ text) bs) (some_is ((16 * high + s.0) ∷ r.0) bytes r.2) (whole, All-cons (λ b. b < 256) (16 * high + s.0) r.0 small h.1)

byte_is : (b : ℕ) → 16 * (b / 16) + b % 16 ≡ b
byte_is b = omega arith

pub raws_again : (bytes : List ℕ) → All (λ b. b < 256) bytes → raw_from None (flat_map hex_of bytes) ≡ Some bytes
unfolding raw_from
raws_again [] fits = refl
raws_again (b ∷ bytes) fits =
    rw (digit_again (b / 16) (omega (arith, All-head (λ b. b < 256) b bytes fits)), digit_again (b % 16) (omega arith), raws_again bytes (All-tail (λ b. b < 256) b bytes fits), byte_is b) refl

pub raws_read : RawsAreRead
raws_read text bytes = record {
  found = λ e. raws_take text None bytes tt e;
  all = λ is fits. subst (λ (t : List ℕ). raw_from None t ≡ Some bytes) (sym is) (raws_again bytes fits);
}
