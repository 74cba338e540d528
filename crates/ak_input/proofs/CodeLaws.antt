-- A code is read from its two forms, and from nothing else.
use Rattle.std.proofs.Common.{◌≡◌, ℕ, zero, suc, ◌*◌, ◌<◌, Bool, true, false, ◌&&◌, cond, eqb, List, [], ◌∷◌, ◌++◌, length, get_or, take, drop, Option, Some, None, refl, sym, ap, subst, ◌∙◌, arith, inl, ⊎_elim}
use Rattle.std.specs.Prelude.{◌==◌, All, codes, option_map}
use Rattle.std.specs.Int.{w32, from_be_bytes}
use Rattle.std.specs.List.{flat_map, starts_with}
use Rattle.std.proofs.lemmas.Bool.{eqb-true, and_parts}
use Rattle.std.proofs.lemmas.Bool.Decides.{Decides-eqb}
use Rattle.std.proofs.lemmas.List.Elements.{All-nil, All-cons, All-get_or}
use Rattle.std.proofs.lemmas.Nat.{be_bytes_4, from_be_bytes-to_be_bytes_4}
use Rattle.std.proofs.lemmas.Slice.Eq.{starts_is}
use Rattle.ak_base.specs.Code.{bytes_of, may_all_be_quoted, hex_of, IsCodeText}
use Rattle.ak_base.proofs.Surface.{quoted_found, cond_some, some_is}
use Rattle.ak_base.specs.Option.{where_true}
use Rattle.ak_input.specs.Payload.{raw_from}
use Rattle.ak_input.specs.Reading.{code_from}
use Rattle.ak_input.proofs.HexLaws.{raws_take, raws_again}

four_small : (bytes : List ℕ) → length bytes ≡ 4 → get_or bytes 0 0 < 256 → get_or bytes 1 0 < 256 → get_or bytes 2 0 < 256 → get_or bytes 3 0 < 256 → All (λ b. b < 256) bytes
four_small (a ∷ b ∷ c ∷ d ∷ []) size p q r s =
    All-cons (λ b. b < 256) a (b ∷ c ∷ d ∷ []) p (All-cons (λ b. b < 256) b (c ∷ d ∷ []) q (All-cons (λ b. b < 256) c (d ∷ []) r (All-cons (λ b. b < 256) d [] s (All-nil (λ b. b < 256)))))
four_small bytes size p q r s = absurd (omega arith)

pub small_bytes : (n : ℕ) → All (λ b. b < 256) (bytes_of n)
small_bytes n = four_small (bytes_of n) refl (omega arith) (omega arith) (omega arith) (omega arith)

-- a code's text is read
pub code_again : (text : List ℕ) (n : ℕ) → IsCodeText text n → code_from text ≡ Some n
unfolding code_from
code_again text n is =
    ⊎_elim
    (λ e. subst (λ (t : List ℕ). code_from t ≡ Some n) (sym e) (rw (raws_again (bytes_of n) (small_bytes n), from_be_bytes-to_be_bytes_4 n is.is_code) refl))
    (λ p. subst (λ (t : List ℕ). code_from t ≡ Some n) (sym p.1) (rw (p.0, from_be_bytes-to_be_bytes_4 n is.is_code) refl))
    is.form

-- ---- what is read is a code's text

quoted_takes : (text : List ℕ) (n : ℕ) → ((i : ℕ) → get_or text i 0 < 256) → length text ≡ 6
    → where_true (eqb (get_or text 0 0) 39 && eqb (get_or text 5 0) 39 && may_all_be_quoted (take 4 (drop 1 text))) (from_be_bytes w32 (take 4 (drop 1 text))) ≡ Some n → IsCodeText text n
quoted_takes (v ∷ a ∷ b ∷ c ∷ d ∷ w ∷ []) n bytes size e =
    let t = cond_some (eqb v 39 && eqb w 39 && may_all_be_quoted (a ∷ b ∷ c ∷ d ∷ [])) (from_be_bytes w32 (a ∷ b ∷ c ∷ d ∷ [])) n e in
    let p = and_parts (eqb v 39 && eqb w 39) (may_all_be_quoted (a ∷ b ∷ c ∷ d ∷ [])) t.0 in
    let ends = and_parts (eqb v 39) (eqb w 39) p.0 in
    quoted_found (v ∷ a ∷ b ∷ c ∷ d ∷ w ∷ []) n refl (eqb-true v 39 ends.0) (eqb-true w 39 ends.1) p.1 bytes (sym t.1)
quoted_takes text n bytes size e = absurd (omega arith)

length-digits : (bytes : List ℕ) → length (flat_map hex_of bytes) ≡ 2 * length bytes
length-digits [] = refl
length-digits (b ∷ bytes) = omega (arith, length-digits bytes)

hex_is : (bytes : List ℕ) (n : ℕ) → length bytes ≡ 4 → All (λ b. b < 256) bytes → from_be_bytes w32 bytes ≡ n → IsCodeText (codes "0x" ++ flat_map hex_of bytes) n
hex_is (a ∷ b ∷ c ∷ d ∷ []) n size small is =
    let bound : (i : ℕ) → get_or (a ∷ b ∷ c ∷ d ∷ []) i 0 < 256 = below in
    let same = be_bytes_4 (a ∷ b ∷ c ∷ d ∷ []) n refl bound (sym is) in
    record {
      is_code = omega (arith, is, bound 0, bound 1, bound 2, bound 3);
      form = inl (ap (λ (bs : List ℕ). codes "0x" ++ flat_map hex_of bs) (sym same));
    } where
      below : (i : ℕ) → get_or (a ∷ b ∷ c ∷ d ∷ []) i 0 < 256
      below zero = All-get_or (λ b. b < 256) (a ∷ b ∷ c ∷ d ∷ []) 0 0 (omega arith) small
      below (suc zero) = All-get_or (λ b. b < 256) (a ∷ b ∷ c ∷ d ∷ []) 1 0 (omega arith) small
      below (suc (suc zero)) = All-get_or (λ b. b < 256) (a ∷ b ∷ c ∷ d ∷ []) 2 0 (omega arith) small
      below (suc (suc (suc zero))) = All-get_or (λ b. b < 256) (a ∷ b ∷ c ∷ d ∷ []) 3 0 (omega arith) small
      below (suc (suc (suc (suc i)))) = omega arith
hex_is bytes n size small is = absurd (omega arith)

mapped : (o : Option (List ℕ)) (n : ℕ) → option_map (from_be_bytes w32) o ≡ Some n → (bytes : List ℕ) × (o ≡ Some bytes) × (from_be_bytes w32 bytes ≡ n)
mapped (Some bytes) n e = (bytes, refl, some_is (from_be_bytes w32 bytes) n e)
mapped None n e = absurd cc

hex_takes : (text : List ℕ) (n : ℕ) → length text ≡ 10 → starts_with ◌==◌ text (codes "0x") ≡ true → option_map (from_be_bytes w32) (raw_from None (drop 2 text)) ≡ Some n → IsCodeText text n
hex_takes text n size begins e =
    let front = (starts_is Decides-eqb text (codes "0x") (starts_with ◌==◌ text (codes "0x")) refl).0 begins in
    let m = mapped (raw_from None (drop 2 text)) n e in
    let d = raws_take (drop 2 text) None m.0 tt m.1 in
    let whole : text ≡ codes "0x" ++ flat_map hex_of m.0 = front ∙ ap (λ (t : List ℕ). codes "0x" ++ t) d.0 in
    let four : length m.0 ≡ 4 = omega (arith, length-digits m.0, ap length whole) in
    subst (λ (t : List ℕ). IsCodeText t n) (sym whole) (hex_is m.0 n four d.1 m.2)

pub code_takes : (text : List ℕ) (n : ℕ) → ((i : ℕ) → get_or text i 0 < 256) → code_from text ≡ Some n → IsCodeText text n
unfolding code_from
code_takes text n bytes e = by_length (eqb (length text) 6) (eqb (length text) 10) (starts_with ◌==◌ text (codes "0x")) refl refl refl e where
  by_length : (six ten begins : Bool) → eqb (length text) 6 ≡ six → eqb (length text) 10 ≡ ten → starts_with ◌==◌ text (codes "0x") ≡ begins
      → cond six (where_true (eqb (get_or text 0 0) 39 && eqb (get_or text 5 0) 39 && may_all_be_quoted (take 4 (drop 1 text))) (from_be_bytes w32 (take 4 (drop 1 text)))) (cond (ten && begins) (option_map (from_be_bytes w32) (raw_from None (drop 2 text))) None) ≡ Some n
      → IsCodeText text n
  by_length true ten begins is six h e = quoted_takes text n bytes (eqb-true (length text) 6 is) e
  by_length false true true is ten h e = hex_takes text n (eqb-true (length text) 10 ten) h e
  by_length false true false is ten h e = absurd cc
  by_length false false begins is ten h e = absurd cc

pub no_code : (text : List ℕ) → ((i : ℕ) → get_or text i 0 < 256) → ((n : ℕ) → IsCodeText text n → ⊥) → code_from text ≡ None
no_code text bytes none = by_read (code_from text) refl where
  by_read : (o : Option ℕ) → code_from text ≡ o → code_from text ≡ None
  by_read None e = e
  by_read (Some n) e = absurd (none n (code_takes text n bytes e))
