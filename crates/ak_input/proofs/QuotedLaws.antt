-- A text is read from the quotes that are printed of it, and from nothing else.
use Rattle.std.proofs.Common.{◌≡◌, ℕ, ◌+◌, ◌-◌, ◌/◌, ◌%◌, ◌<◌, ◌≤◌, Bool, true, false, not, ◌||◌, cond, leb, ltb, eqb, List, [], ◌∷◌, ◌++◌, Option, Some, None, refl, sym, ap, subst, ◌∙◌, append_assoc, zero, suc, arith, inl, inr}
use Rattle.std.specs.Prelude.{All}
use Rattle.std.specs.Char.{digit_char}
use Rattle.std.specs.List.{flat_map}
use Rattle.std.proofs.lemmas.Bool.{eqb-true, eqb-false, ne_eqb, le-leb, lt-ltb, le-ltb, ltb-false, and_right, or_parts, not-true, cases_lt}
use Rattle.std.proofs.lemmas.List.Elements.{All-nil, All-cons, All-head, All-tail}
use Rattle.ak_input.specs.declared.marks.Quotes.{Quotes}
use Rattle.ak_input.specs.declared.marks.Quotes.TheVariants as q
use Rattle.ak_input.specs.InputText.{TextsAreRead}
use Rattle.ak_input.specs.Marks.{double_step}
use Rattle.ak_input.specs.MessageText.{quoted_byte, quoted}
use Rattle.ak_base.specs.Option.{where_true, ◌>>=◌}
use Rattle.ak_input.specs.Payload.{hex_value, is_control, after_zero, text_step, onto, quoted_from, unquoted}
use Rattle.ak_input.proofs.HexLaws.{digit_again, digit_takes}
use Rattle.ak_base.proofs.Surface.{bind_some, some_is, cond_some}

-- what follows the quotes that open a text
abbrev body : List ℕ → List ℕ
body bytes = flat_map quoted_byte bytes ++ 34 ∷ []

abbrev pub Positive : List ℕ → Type 0
Positive bytes = All (λ b. 0 < b) bytes

-- ---- what is printed of a byte

pub plain_byte : (b : ℕ) → eqb b 34 ≡ false → eqb b 92 ≡ false → ltb b 32 ≡ false → eqb b 127 ≡ false → quoted_byte b ≡ b ∷ []
plain_byte b e34 e92 e32 e127 = rw (e34, e92, and_right (leb 1 b) (ltb b 32) e32, e127) refl

pub low_byte : (l : ℕ) → 0 < l → l < 16 → quoted_byte l ≡ 92 ∷ 120 ∷ 48 ∷ digit_char l ∷ []
low_byte l positive lt =
    let high : l / 16 ≡ 0 = omega arith in
    let low : l % 16 ≡ l = omega arith in
    rw (ne_eqb l 34 (λ e. omega arith), ne_eqb l 92 (λ e. omega arith), le-leb 1 l (omega arith), lt-ltb l 32 (omega arith), high, low) refl

pub one_byte : (l : ℕ) → l < 16 → quoted_byte (16 + l) ≡ 92 ∷ 120 ∷ 49 ∷ digit_char l ∷ []
one_byte l lt =
    let high : (16 + l) / 16 ≡ 1 = omega arith in
    let low : (16 + l) % 16 ≡ l = omega arith in
    rw (ne_eqb (16 + l) 34 (λ e. omega arith), ne_eqb (16 + l) 92 (λ e. omega arith), le-leb 1 (16 + l) (omega arith), lt-ltb (16 + l) 32 (omega arith), high, low) refl

-- ---- what is read was printed

abbrev Body : List ℕ → List ℕ → List ℕ → Type 0
Body front text bytes = (front ++ text ≡ body bytes) × Positive bytes

abbrev Rest : Quotes → List ℕ → List ℕ → Type 0
Rest q.None text bytes = (text ≡ []) × (bytes ≡ [])
Rest q.Single text bytes = ⊥
Rest q.Double text bytes = Body [] text bytes
Rest q.Escape text bytes = Body (92 ∷ []) text bytes
Rest q.Hex text bytes = Body (92 ∷ 120 ∷ []) text bytes
Rest q.HexZero text bytes = Body (92 ∷ 120 ∷ 48 ∷ []) text bytes
Rest q.HexOne text bytes = Body (92 ∷ 120 ∷ 49 ∷ []) text bytes
Rest q.HexSeven text bytes = Body (92 ∷ 120 ∷ 55 ∷ []) text bytes

-- a step, by what it is
by_step : (now : Quotes) (b : ℕ) (s t : Quotes × Option ℕ) (text bytes : List ℕ) → t ≡ s → (Rest t.0 text bytes → Rest now (b ∷ text) (onto t.1 bytes)) → Rest s.0 text bytes → Rest now (b ∷ text) (onto s.1 bytes)
by_step now b s t text bytes same f h = subst (λ (x : Quotes × Option ℕ). Rest x.0 text bytes → Rest now (b ∷ text) (onto x.1 bytes)) same f h

abbrev said : Quotes → Option ℕ → Quotes × Option ℕ
said quotes byte = (quotes, byte)

-- a byte more behind those in front of it
more : (front : List ℕ) (b : ℕ) (text bytes : List ℕ) → 0 < b → front ++ text ≡ quoted_byte b ++ body bytes → Positive bytes → Body front text (b ∷ bytes)
more front b text bytes positive is all = (is ∙ sym (append_assoc (quoted_byte b) (flat_map quoted_byte bytes) (34 ∷ [])), All-cons (λ b. 0 < b) b bytes positive all)

double_takes : (b : ℕ) (s : Quotes × Option ℕ) (text bytes : List ℕ) → is_control b ≡ false → (t34 t92 : Bool) → eqb b 34 ≡ t34 → eqb b 92 ≡ t92
    → said (double_step b) (where_true (not (eqb b 34 || eqb b 92)) b) ≡ s → Rest s.0 text bytes → Rest q.Double (b ∷ text) (onto s.1 bytes)
double_takes b s text bytes plain true t92 e34 e92 same =
    let is = eqb-true b 34 e34 in
    let pair : said q.None None ≡ said (double_step b) (where_true (not (eqb b 34 || eqb b 92)) b) = rw e34 refl in
    by_step q.Double b s (said q.None None) text bytes (pair ∙ same) (λ h. rw (h.1) (ap (λ (x : ℕ). x ∷ text) is ∙ ap (λ (t : List ℕ). 34 ∷ t) h.0, All-nil (λ b. 0 < b)))
double_takes b s text bytes plain false true e34 e92 same =
    let is = eqb-true b 92 e92 in
    let pair : said q.Escape None ≡ said (double_step b) (where_true (not (eqb b 34 || eqb b 92)) b) = rw (e34, e92) refl in
    by_step q.Double b s (said q.Escape None) text bytes (pair ∙ same) (λ h. (ap (λ (x : ℕ). x ∷ text) is ∙ h.0, h.1))
double_takes b s text bytes plain false false e34 e92 same =
    let tests = or_parts (ltb b 32) (eqb b 127) plain in
    let pair : said q.Double (Some b) ≡ said (double_step b) (where_true (not (eqb b 34 || eqb b 92)) b) = rw (e34, e92) refl in
    let large = ltb-false b 32 tests.0 in
    by_step q.Double b s (said q.Double (Some b)) text bytes (pair ∙ same)
    (λ h. more [] b (b ∷ text) bytes (omega arith) (rw (plain_byte b e34 e92 tests.0 tests.1) (ap (λ (t : List ℕ). b ∷ t) h.0)) h.1)

escape_takes : (b : ℕ) (s : Quotes × Option ℕ) (text bytes : List ℕ) (t34 t92 t120 : Bool) → eqb b 34 ≡ t34 → eqb b 92 ≡ t92 → eqb b 120 ≡ t120
    → text_step q.Escape b ≡ Some s → Rest s.0 text bytes → Rest q.Escape (b ∷ text) (onto s.1 bytes)
escape_takes b s text bytes true t92 t120 e34 e92 e120 step =
    let is = eqb-true b 34 e34 in
    let other = ne_eqb b 120 (λ e. omega arith) in
    let same = some_is (said q.Double (Some b)) s (rw (e34, other) at step) in
    by_step q.Escape b s (said q.Double (Some b)) text bytes same
    (λ h. more (92 ∷ []) b (b ∷ text) bytes (omega arith) (rw e34 (ap (λ (t : List ℕ). 92 ∷ b ∷ t) h.0)) h.1)
escape_takes b s text bytes false true t120 e34 e92 e120 step =
    let is = eqb-true b 92 e92 in
    let other = ne_eqb b 120 (λ e. omega arith) in
    let same = some_is (said q.Double (Some b)) s (rw (e34, e92, other) at step) in
    by_step q.Escape b s (said q.Double (Some b)) text bytes same
    (λ h. more (92 ∷ []) b (b ∷ text) bytes (omega arith) (rw (e34, e92) (ap (λ (t : List ℕ). 92 ∷ b ∷ t) h.0)) h.1)
escape_takes b s text bytes false false true e34 e92 e120 step =
    let is = eqb-true b 120 e120 in
    let same = some_is (said q.Hex None) s (rw (e34, e92, e120) at step) in
    by_step q.Escape b s (said q.Hex None) text bytes same (λ h. (ap (λ (x : ℕ). 92 ∷ x ∷ text) is ∙ h.0, h.1))
escape_takes b s text bytes false false false e34 e92 e120 step =
    let none : ◌≡◌ {A = Option (Quotes × Option ℕ)} None (Some s) = rw (e34, e92, e120) at step in absurd cc

hex_takes : (b : ℕ) (s : Quotes × Option ℕ) (text bytes : List ℕ) (t48 t49 t55 : Bool) → eqb b 48 ≡ t48 → eqb b 49 ≡ t49 → eqb b 55 ≡ t55
    → text_step q.Hex b ≡ Some s → Rest s.0 text bytes → Rest q.Hex (b ∷ text) (onto s.1 bytes)
hex_takes b s text bytes true t49 t55 e48 e49 e55 step =
    let is = eqb-true b 48 e48 in
    by_step q.Hex b s (said q.HexZero None) text bytes (some_is (said q.HexZero None) s (rw e48 at step)) (λ h. (ap (λ (x : ℕ). 92 ∷ 120 ∷ x ∷ text) is ∙ h.0, h.1))
hex_takes b s text bytes false true t55 e48 e49 e55 step =
    let is = eqb-true b 49 e49 in
    by_step q.Hex b s (said q.HexOne None) text bytes (some_is (said q.HexOne None) s (rw (e48, e49) at step)) (λ h. (ap (λ (x : ℕ). 92 ∷ 120 ∷ x ∷ text) is ∙ h.0, h.1))
hex_takes b s text bytes false false true e48 e49 e55 step =
    let is = eqb-true b 55 e55 in
    by_step q.Hex b s (said q.HexSeven None) text bytes (some_is (said q.HexSeven None) s (rw (e48, e49, e55) at step)) (λ h. (ap (λ (x : ℕ). 92 ∷ 120 ∷ x ∷ text) is ∙ h.0, h.1))
hex_takes b s text bytes false false false e48 e49 e55 step =
    let none : ◌≡◌ {A = Option (Quotes × Option ℕ)} None (Some s) = rw (e48, e49, e55) at step in absurd cc

zero_takes : (b : ℕ) (s : Quotes × Option ℕ) (text bytes : List ℕ) → text_step q.HexZero b ≡ Some s → Rest s.0 text bytes → Rest q.HexZero (b ∷ text) (onto s.1 bytes)
zero_takes b s text bytes step =
    let v = bind_some (hex_value b) after_zero s step in
    let d = digit_takes b v.0 v.1 in
    let t = cond_some (not (eqb v.0 0)) (said q.Double (Some v.0)) s v.2 in
    let some : v.0 ≡ 0 → ⊥ = eqb-false v.0 0 (not-true (eqb v.0 0) t.0) in
    let positive : 0 < v.0 = positive_from v.0 some in
    by_step q.HexZero b s (said q.Double (Some v.0)) text bytes t.1
    (λ h. more (92 ∷ 120 ∷ 48 ∷ []) v.0 (b ∷ text) bytes positive (rw (low_byte v.0 positive d.0) (ap (λ (x : ℕ). 92 ∷ 120 ∷ 48 ∷ x ∷ text) d.1 ∙ ap (λ (t : List ℕ). 92 ∷ 120 ∷ 48 ∷ digit_char v.0 ∷ t) h.0)) h.1) where
      positive_from : (n : ℕ) → (n ≡ 0 → ⊥) → 0 < n
      positive_from zero some = absurd (some refl)
      positive_from (suc n) some = omega arith

one_takes : (b : ℕ) (s : Quotes × Option ℕ) (text bytes : List ℕ) → text_step q.HexOne b ≡ Some s → Rest s.0 text bytes → Rest q.HexOne (b ∷ text) (onto s.1 bytes)
one_takes b s text bytes step =
    let v = bind_some (hex_value b) (λ low. Some (said q.Double (Some (16 + low)))) s step in
    let d = digit_takes b v.0 v.1 in
    by_step q.HexOne b s (said q.Double (Some (16 + v.0))) text bytes (some_is (said q.Double (Some (16 + v.0))) s v.2)
    (λ h. more (92 ∷ 120 ∷ 49 ∷ []) (16 + v.0) (b ∷ text) bytes (omega arith) (rw (one_byte v.0 d.0) (ap (λ (x : ℕ). 92 ∷ 120 ∷ 49 ∷ x ∷ text) d.1 ∙ ap (λ (t : List ℕ). 92 ∷ 120 ∷ 49 ∷ digit_char v.0 ∷ t) h.0)) h.1)

seven_takes : (b : ℕ) (s : Quotes × Option ℕ) (text bytes : List ℕ) → text_step q.HexSeven b ≡ Some s → Rest s.0 text bytes → Rest q.HexSeven (b ∷ text) (onto s.1 bytes)
seven_takes b s text bytes step =
    let t = cond_some (eqb b 102) (said q.Double (Some 127)) s step in
    let is = eqb-true b 102 t.0 in
    by_step q.HexSeven b s (said q.Double (Some 127)) text bytes t.1
    (λ h. more (92 ∷ 120 ∷ 55 ∷ []) 127 (b ∷ text) bytes (omega arith) (ap (λ (x : ℕ). 92 ∷ 120 ∷ 55 ∷ x ∷ text) is ∙ ap (λ (t : List ℕ). 92 ∷ 120 ∷ 55 ∷ 102 ∷ t) h.0) h.1)

byte_takes : (now : Quotes) (b : ℕ) (s : Quotes × Option ℕ) (text bytes : List ℕ) → text_step now b ≡ Some s → Rest s.0 text bytes → Rest now (b ∷ text) (onto s.1 bytes)
byte_takes q.None b s text bytes step h = absurd cc
byte_takes q.Single b s text bytes step h = absurd cc
byte_takes q.Double b s text bytes step h =
    let t = cond_some (not (is_control b)) (said (double_step b) (where_true (not (eqb b 34 || eqb b 92)) b)) s step in
    double_takes b s text bytes (not-true (is_control b) t.0) (eqb b 34) (eqb b 92) refl refl t.1 h
byte_takes q.Escape b s text bytes step h = escape_takes b s text bytes (eqb b 34) (eqb b 92) (eqb b 120) refl refl refl step h
byte_takes q.Hex b s text bytes step h = hex_takes b s text bytes (eqb b 48) (eqb b 49) (eqb b 55) refl refl refl step h
byte_takes q.HexZero b s text bytes step h = zero_takes b s text bytes step h
byte_takes q.HexOne b s text bytes step h = one_takes b s text bytes step h
byte_takes q.HexSeven b s text bytes step h = seven_takes b s text bytes step h

texts_take : (text : List ℕ) (now : Quotes) (bytes : List ℕ) → quoted_from now text ≡ Some bytes → Rest now text bytes
unfolding quoted_from
texts_take [] q.None bytes e = (refl, sym (some_is [] bytes e))
texts_take [] q.Single bytes e = absurd cc
texts_take [] q.Double bytes e = absurd cc
texts_take [] q.Escape bytes e = absurd cc
texts_take [] q.Hex bytes e = absurd cc
texts_take [] q.HexZero bytes e = absurd cc
texts_take [] q.HexOne bytes e = absurd cc
texts_take [] q.HexSeven bytes e = absurd cc
texts_take (b ∷ text) now bytes e =
    let s = bind_some (text_step now b) (λ s. quoted_from s.0 text >>= λ bytes. Some (onto s.1 bytes)) bytes e in
    let r = bind_some (quoted_from s.0.0 text) (λ bytes. Some (onto s.0.1 bytes)) bytes s.2 in
    subst (λ (bs : List ℕ). Rest now (b ∷ text) bs) (some_is (onto s.0.1 r.0) bytes r.2) (byte_takes now b s.0 text r.0 s.1 (texts_take text s.0.0 r.0 r.1))

-- ---- what is printed is read

quote_again : (bytes : List ℕ) → quoted_from q.Double (body bytes) ≡ Some bytes → quoted_from q.Double (body (34 ∷ bytes)) ≡ Some (34 ∷ bytes)
unfolding quoted_from
quote_again bytes next = rw next refl

slash_again : (bytes : List ℕ) → quoted_from q.Double (body bytes) ≡ Some bytes → quoted_from q.Double (body (92 ∷ bytes)) ≡ Some (92 ∷ bytes)
unfolding quoted_from
slash_again bytes next = rw next refl

delete_again : (bytes : List ℕ) → quoted_from q.Double (body bytes) ≡ Some bytes → quoted_from q.Double (body (127 ∷ bytes)) ≡ Some (127 ∷ bytes)
unfolding quoted_from
delete_again bytes next = rw next refl

low_again : (l : ℕ) (bytes : List ℕ) → 0 < l → l < 16 → quoted_from q.Double (body bytes) ≡ Some bytes → quoted_from q.Double (body (l ∷ bytes)) ≡ Some (l ∷ bytes)
unfolding quoted_from
low_again l bytes positive lt next = rw (low_byte l positive lt, digit_again l lt, ne_eqb l 0 (λ e. omega arith), next) refl

one_again : (l : ℕ) (bytes : List ℕ) → l < 16 → quoted_from q.Double (body bytes) ≡ Some bytes → quoted_from q.Double (body ((16 + l) ∷ bytes)) ≡ Some ((16 + l) ∷ bytes)
unfolding quoted_from
one_again l bytes lt next = rw (one_byte l lt, digit_again l lt, next) refl

plain_again : (b : ℕ) (bytes : List ℕ) → eqb b 34 ≡ false → eqb b 92 ≡ false → 32 ≤ b → eqb b 127 ≡ false → quoted_from q.Double (body bytes) ≡ Some bytes → quoted_from q.Double (body (b ∷ bytes)) ≡ Some (b ∷ bytes)
unfolding quoted_from
plain_again b bytes e34 e92 large e127 next =
    let e32 = le-ltb b 32 large in
    rw (plain_byte b e34 e92 e32 e127, e32, e127, e34, e92, next) refl

byte_again : (b : ℕ) (bytes : List ℕ) → 0 < b → quoted_from q.Double (body bytes) ≡ Some bytes → quoted_from q.Double (body (b ∷ bytes)) ≡ Some (b ∷ bytes)
byte_again b bytes positive next =
    elim (cases_lt b 16) [
      | inl lt ↦ low_again b bytes positive lt next
      | inr le ↦
          elim (cases_lt b 32) [
            | inl lt ↦
                let is : 16 + (b - 16) ≡ b = omega arith in
                subst (λ (x : ℕ). quoted_from q.Double (body (x ∷ bytes)) ≡ Some (x ∷ bytes)) is (one_again (b - 16) bytes (omega arith) next)
            | inr large ↦ by_tests large (eqb b 34) (eqb b 92) (eqb b 127) refl refl refl
          ]
    ] where
      at : (n : ℕ) → n ≡ b → quoted_from q.Double (body (n ∷ bytes)) ≡ Some (n ∷ bytes) → quoted_from q.Double (body (b ∷ bytes)) ≡ Some (b ∷ bytes)
      at n is e = subst (λ (x : ℕ). quoted_from q.Double (body (x ∷ bytes)) ≡ Some (x ∷ bytes)) is e

      by_tests : 32 ≤ b → (t34 t92 t127 : Bool) → eqb b 34 ≡ t34 → eqb b 92 ≡ t92 → eqb b 127 ≡ t127 → quoted_from q.Double (body (b ∷ bytes)) ≡ Some (b ∷ bytes)
      by_tests large true t92 t127 e34 e92 e127 = at 34 (sym (eqb-true b 34 e34)) (quote_again bytes next)
      by_tests large false true t127 e34 e92 e127 = at 92 (sym (eqb-true b 92 e92)) (slash_again bytes next)
      by_tests large false false true e34 e92 e127 = at 127 (sym (eqb-true b 127 e127)) (delete_again bytes next)
      by_tests large false false false e34 e92 e127 = plain_again b bytes e34 e92 large e127 next

texts_again : (bytes : List ℕ) → Positive bytes → quoted_from q.Double (body bytes) ≡ Some bytes
unfolding quoted_from
texts_again [] all = refl
texts_again (b ∷ bytes) all = byte_again b bytes (All-head (λ b. 0 < b) b bytes all) (texts_again bytes (All-tail (λ b. 0 < b) b bytes all))

-- ---- the law

unquoted_takes : (text bytes : List ℕ) → unquoted text ≡ Some bytes → (text ≡ quoted bytes) × Positive bytes
unquoted_takes [] bytes e = absurd cc
unquoted_takes (b ∷ text) bytes e = by_test (eqb b 34) refl e where
  by_test : (t : Bool) → eqb b 34 ≡ t → cond t (quoted_from q.Double text) None ≡ Some bytes → (b ∷ text ≡ quoted bytes) × Positive bytes
  by_test true is e = let h = texts_take text q.Double bytes e in (ap (λ (x : ℕ). x ∷ text) (eqb-true b 34 is) ∙ ap (λ (t : List ℕ). 34 ∷ t) h.0, h.1)
  by_test false is e = absurd cc

pub texts_read : TextsAreRead
texts_read text bytes =
    record {
      found = λ e. unquoted_takes text bytes e;
      all = λ is positive. subst (λ (t : List ℕ). unquoted t ≡ Some bytes) (sym is) (texts_again bytes positive);
    }
