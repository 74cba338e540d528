-- The parts before a value: the opening of a message, a field's kind, name and count, and the length of a value.
use Rattle.std.proofs.Common.{◌≡◌, ℕ, suc, ◌+◌, ◌^◌, ◌<◌, ◌≤◌, Bool, true, false, cond, not, ◌&&◌, leb, ltb, eqb, List, [], ◌∷◌, ◌++◌, length, Option, Some, None, Result, Ok, Err, refl, sym, ap, subst, ◌∙◌, append_assoc, arith}
use Rattle.std.specs.Prelude.{is_some}
use Rattle.std.specs.Int.{w8, w16, w32, to_be_bytes, from_be_bytes}
use Rattle.std.specs.Str.{bytes_eq}
use Rattle.std.proofs.lemmas.Bool.{leb-true, le-leb, ltb-true, eqb-true, and_parts, and_from, not-true, not_from_false}
use Rattle.std.proofs.lemmas.Slice.Eq.{bytes_eq-Decides}
use Rattle.ak_base.specs.Word.{is_word, is_word_byte}
use Rattle.std.specs.List.{list_all}
use Rattle.ak_message.specs.declared.kind.Kind.{Kind}
use Rattle.ak_message.specs.declared.kind.Kind.TheVariants as k
use Rattle.ak_message.specs.Kind.{kind_letters, code_of_kind, kind_of_code, kind_of_code-code}
use Rattle.ak_message.specs.Message.{FieldData}
use Rattle.ak_message.specs.Fields.{field_named}
use Rattle.ak_message.proofs.Surface.{code-letters}
use Rattle.ak_flatten.specs.declared.fault.FlatKind.TheVariants as fault
use Rattle.ak_flatten.specs.Format.{magic, is_length}
use Rattle.ak_flatten.specs.Laws.{AreBytes}
use Rattle.ak_flatten.specs.Reading.{Left, ◌>>=◌, where_true, bytes_at, number_at, magic_at, field_count_at, kind_or_fault, kind_at, name_len_at, name_at, value_count_at, value_len_at, opening_at}
use Rattle.ak_flatten.specs.Spelling.{opening_bytes}
use Rattle.ak_flatten.proofs.Parts.{bind_ok, test_ok, ok_is, at, Takes, Takes-then, bytes_take, bytes_again, wide16, wide32, number_takes, number_again, byte_takes, byte_again}

-- ---- the magic, and the number of fields
magic_takes : (left rest : Left) → AreBytes left.bytes → magic_at left ≡ Ok rest → Takes left magic rest
unfolding magic_at
magic_takes left rest fits e =
    let b = bind_ok (bytes_at 4 left) (λ bytes. where_true (bytes_eq bytes.0 magic) fault.Magic left bytes.1) rest e in
    let t = bytes_take 4 left b.0 fits b.1 in
    let m = test_ok (bytes_eq b.0.0 magic) fault.Magic left b.0.1 rest b.2 in
    subst (λ (r : Left). Takes left magic r) m.1 (subst (λ (front : List ℕ). Takes left front b.0.1) ((bytes_eq-Decides b.0.0 magic).0 m.0) t.0)

magic_again : (p : ℕ) (rest : List ℕ) → (q : ℕ) × (magic_at (at p (magic ++ rest)) ≡ Ok (at q rest))
unfolding magic_at
magic_again p rest = let b = bytes_again p 4 magic rest refl in (b.0, rw b.1 refl)

field_count_takes : (left : Left) (x : ℕ × Left) → AreBytes left.bytes → field_count_at left ≡ Ok x → Takes left (to_be_bytes w32 x.0) x.1 × (x.0 ≤ 64)
unfolding field_count_at
field_count_takes left x fits e =
    let b = bind_ok (number_at w32 left) (λ count. where_true (leb count.0 64) fault.FieldCount left count) x e in
    let t = number_takes w32 (2 ^ 32) wide32 left b.0 fits b.1 in
    let m = test_ok (leb b.0.0 64) fault.FieldCount left b.0 x b.2 in
    subst (λ (y : ℕ × Left). Takes left (to_be_bytes w32 y.0) y.1 × (y.0 ≤ 64)) m.1 (t.0, leb-true _ _ m.0)

field_count_again : (p n : ℕ) (rest : List ℕ) → n ≤ 64 → (q : ℕ) × (field_count_at (at p (to_be_bytes w32 n ++ rest)) ≡ Ok (n, at q rest))
unfolding field_count_at
field_count_again p n rest le =
    let b = number_again w32 (2 ^ 32) wide32 p n rest (omega arith) in
    let small : leb n 64 ≡ true = le-leb _ _ le in
    (b.0, rw (b.1, small) refl)

pub opening_takes : (left : Left) (x : (ℕ × ℕ) × Left) → AreBytes left.bytes → opening_at left ≡ Ok x → Takes left (opening_bytes x.0.0 x.0.1) x.1 × (x.0.0 < 2 ^ 32) × (x.0.1 ≤ 64)
unfolding opening_at
opening_takes left x fits e =
    let a = bind_ok (magic_at left) (λ rest. number_at w32 rest >>= λ what. field_count_at what.1 >>= λ count. Ok ((what.0, count.0), count.1)) x e in
    let b = bind_ok (number_at w32 a.0) (λ what. field_count_at what.1 >>= λ count. Ok ((what.0, count.0), count.1)) x a.2 in
    let c = bind_ok (field_count_at b.0.1) (λ count. Ok ((b.0.0, count.0), count.1)) x b.2 in
    let ta = magic_takes left a.0 fits a.1 in
    let tb = number_takes w32 (2 ^ 32) wide32 a.0 b.0 ta.fits b.1 in
    let tc = field_count_takes b.0.1 c.0 tb.0.fits c.1 in
    let ab = Takes-then left magic a.0 (to_be_bytes w32 b.0.0) b.0.1 ta tb.0 in
    let ac = Takes-then left (magic ++ to_be_bytes w32 b.0.0) b.0.1 (to_be_bytes w32 c.0.0) c.0.1 ab tc.0 in
    let made : (ℕ × ℕ) × Left = ((b.0.0, c.0.0), c.0.1) in
    subst (λ (y : (ℕ × ℕ) × Left). Takes left (opening_bytes y.0.0 y.0.1) y.1 × (y.0.0 < 2 ^ 32) × (y.0.1 ≤ 64)) {x = made} (ok_is made x c.2) (ac, tb.1, tc.1)

pub opening_again : (p what count : ℕ) (rest : List ℕ) → what < 2 ^ 32 → count ≤ 64 → (q : ℕ) × (opening_at (at p (opening_bytes what count ++ rest)) ≡ Ok ((what, count), at q rest))
unfolding opening_at
opening_again p what count rest lt le =
    let apart : opening_bytes what count ++ rest ≡ magic ++ (to_be_bytes w32 what ++ (to_be_bytes w32 count ++ rest)) = simp append_assoc in
    let a = magic_again p (to_be_bytes w32 what ++ (to_be_bytes w32 count ++ rest)) in
    let b = number_again w32 (2 ^ 32) wide32 a.0 what (to_be_bytes w32 count ++ rest) lt in
    let c = field_count_again b.0 count rest le in
    (c.0, ap (λ (t : List ℕ). opening_at (at p t)) apart ∙ rw (a.1, b.1, c.1) refl)

-- ---- a kind
next : (code n : ℕ) (one kind : Kind) (others : Option Kind) → code_of_kind one ≡ n → cond (eqb code n) (Some one) others ≡ Some kind → (others ≡ Some kind → code ≡ code_of_kind kind) → code ≡ code_of_kind kind
next code n one kind others is e else' = by (eqb code n) refl e where
  by : (b : Bool) → eqb code n ≡ b → cond b (Some one) others ≡ Some kind → code ≡ code_of_kind kind
  by true same e = let one-is : one ≡ kind = cc in eqb-true _ _ same ∙ sym is ∙ ap code_of_kind one-is
  by false same e = else' e

kind_of_code-Some : (code : ℕ) (kind : Kind) → kind_of_code code ≡ Some kind → code ≡ code_of_kind kind
kind_of_code-Some code kind e =
    next code 0x424f4f4c k.Bool kind _ refl e (λ e. next code 0x42595445 k.Int8 kind _ refl e (λ e. next code 0x53485254 k.Int16 kind _ refl e (λ e. next code 0x4c4f4e47 k.Int32 kind _ refl e (λ e. next code 0x4c4c4e47 k.Int64 kind _ refl e (λ e. next code 0x55425954 k.UInt8 kind _ refl e (λ e. next code 0x55534854 k.UInt16 kind _ refl e (λ e. next code 0x554c4e47 k.UInt32 kind _ refl e (λ e. next code 0x554c4c47 k.UInt64 kind _ refl e (λ e. next code 0x43535452 k.Text kind _ refl e (λ e. next code 0x4d534747 k.Message kind _ refl e (λ e. next code 0x4d534e47 k.Messenger kind _ refl e (λ e. next code 0x52415754 k.Raw kind _ refl e (λ e. absurd cc)))))))))))))

pub ruleset letters = (code-letters)

code_below : (kind : Kind) → code_of_kind kind < 2 ^ 32
code_below k.Bool = omega arith
code_below k.Int8 = omega arith
code_below k.Int16 = omega arith
code_below k.Int32 = omega arith
code_below k.Int64 = omega arith
code_below k.UInt8 = omega arith
code_below k.UInt16 = omega arith
code_below k.UInt32 = omega arith
code_below k.UInt64 = omega arith
code_below k.Text = omega arith
code_below k.Message = omega arith
code_below k.Messenger = omega arith
code_below k.Raw = omega arith

kind_found : (o : Option Kind) (left rest : Left) (x : Kind × Left) → kind_or_fault o left rest ≡ Ok x → (o ≡ Some x.0) × (rest ≡ x.1)
kind_found None left rest x e = absurd cc
kind_found (Some kind) left rest x e =
    let made : Kind × Left = (kind, rest) in
    let is = ok_is made x e in
    (ap (λ (y : Kind × Left). Some y.0) is, ap (λ (y : Kind × Left). y.1) is)

pub kind_takes : (left : Left) (x : Kind × Left) → AreBytes left.bytes → kind_at left ≡ Ok x → Takes left (kind_letters x.0) x.1
unfolding kind_at
kind_takes left x fits e =
    let b = bind_ok (number_at w32 left) (λ code. kind_or_fault (kind_of_code code.0) left code.1) x e in
    let t = number_takes w32 (2 ^ 32) wide32 left b.0 fits b.1 in
    let f = kind_found (kind_of_code b.0.0) left b.0.1 x b.2 in
    let letters : to_be_bytes w32 b.0.0 ≡ kind_letters x.0 = ap (to_be_bytes w32) (kind_of_code-Some b.0.0 x.0 f.0) ∙ code-letters x.0 in
    subst (λ (text : List ℕ). Takes left text x.1) letters (subst (λ (r : Left). Takes left (to_be_bytes w32 b.0.0) r) f.1 t.0)

pub kind_again : (p : ℕ) (kind : Kind) (rest : List ℕ) → (q : ℕ) × (kind_at (at p (kind_letters kind ++ rest)) ≡ Ok (kind, at q rest))
unfolding kind_at
kind_again p kind rest =
    let b = number_again w32 (2 ^ 32) wide32 p (code_of_kind kind) rest (code_below kind) in
    (b.0, ap (λ (t : List ℕ). kind_at (at p (t ++ rest))) (sym (code-letters kind)) ∙ rw (b.1, kind_of_code-code kind) refl)

-- ---- a name
name_len_takes : (left : Left) (x : ℕ × Left) → AreBytes left.bytes → name_len_at left ≡ Ok x → Takes left (x.0 ∷ []) x.1
unfolding name_len_at
name_len_takes left x fits e =
    let b = bind_ok (number_at w8 left) (λ len. where_true (leb 1 len.0 && leb len.0 64) fault.BadName left len) x e in
    let t = byte_takes left b.0 fits b.1 in
    let m = test_ok (leb 1 b.0.0 && leb b.0.0 64) fault.BadName left b.0 x b.2 in
    subst (λ (y : ℕ × Left). Takes left (y.0 ∷ []) y.1) m.1 t.0

name_len_again : (p n : ℕ) (rest : List ℕ) → 1 ≤ n → n ≤ 64 → (q : ℕ) × (name_len_at (at p (n ∷ rest)) ≡ Ok (n, at q rest))
unfolding name_len_at
name_len_again p n rest low high =
    let b = byte_again p n rest in
    let within : (leb 1 n && leb n 64) ≡ true = and_from _ _ (le-leb _ _ low) (le-leb _ _ high) in
    (b.0, rw (b.1, within) refl)

pub name_takes : (earlier : List FieldData) (left : Left) (x : List ℕ × Left) → AreBytes left.bytes → name_at earlier left ≡ Ok x → Takes left (length x.0 ∷ x.0) x.1 × (is_word x.0 ≡ true) × (is_some (field_named earlier x.0) ≡ false)
unfolding name_at
name_takes earlier left x fits e =
    let a = bind_ok (name_len_at left) (λ len. bytes_at len.0 len.1 >>= λ name. where_true (is_word name.0) fault.BadName len.1 name >>= λ word. where_true (not (is_some (field_named earlier word.0))) fault.RepeatedName len.1 word) x e in
    let b = bind_ok (bytes_at a.0.0 a.0.1) (λ name. where_true (is_word name.0) fault.BadName a.0.1 name >>= λ word. where_true (not (is_some (field_named earlier word.0))) fault.RepeatedName a.0.1 word) x a.2 in
    let c = bind_ok (where_true (is_word b.0.0) fault.BadName a.0.1 b.0) (λ word. where_true (not (is_some (field_named earlier word.0))) fault.RepeatedName a.0.1 word) x b.2 in
    let w = test_ok (is_word b.0.0) fault.BadName a.0.1 b.0 c.0 c.1 in
    let m = test_ok (not (is_some (field_named earlier c.0.0))) fault.RepeatedName a.0.1 c.0 x c.2 in
    let ta = name_len_takes left a.0 fits a.1 in
    let tb = bytes_take a.0.0 a.0.1 b.0 ta.fits b.1 in
    let ab = Takes-then left (a.0.0 ∷ []) a.0.1 b.0.0 b.0.1 ta tb.0 in
    let whole : Takes left (length b.0.0 ∷ b.0.0) b.0.1 = subst (λ (n : ℕ). Takes left (n ∷ b.0.0) b.0.1) (sym tb.1) ab in
    let read : b.0 ≡ x = ◌∙◌ {b = c.0} w.1 m.1 in
    let new : is_some (field_named earlier b.0.0) ≡ false = not-true _ (subst (λ (y : List ℕ × Left). not (is_some (field_named earlier y.0)) ≡ true) {x = c.0} {y = b.0} (sym {b = c.0} w.1) m.0) in
    subst (λ (y : List ℕ × Left). Takes left (length y.0 ∷ y.0) y.1 × (is_word y.0 ≡ true) × (is_some (field_named earlier y.0) ≡ false)) read (whole, w.0, new)

pub word_len : (name : List ℕ) → is_word name ≡ true → (1 ≤ length name) × (length name ≤ 64)
word_len name e =
    let a = and_parts (ltb 0 (length name) && leb (length name) 64) (list_all is_word_byte name) e in
    let b = and_parts (ltb 0 (length name)) (leb (length name) 64) a.0 in
    let low = ltb-true _ _ b.0 in
    (omega arith, leb-true _ _ b.1)

pub name_again : (earlier : List FieldData) (p : ℕ) (name rest : List ℕ) → is_word name ≡ true → is_some (field_named earlier name) ≡ false → (q : ℕ) × (name_at earlier (at p (length name ∷ name ++ rest)) ≡ Ok (name, at q rest))
unfolding name_at
name_again earlier p name rest word new =
    let len = word_len name word in
    let a = name_len_again p (length name) (name ++ rest) len.0 len.1 in
    let b = bytes_again a.0 (length name) name rest refl in
    let free = not_from_false _ new in
    (b.0, rw (a.1, b.1, word, free) refl)

-- ---- the number of values, and the length of one
pub value_count_takes : (left : Left) (x : ℕ × Left) → AreBytes left.bytes → value_count_at left ≡ Ok x → Takes left (x.0 ∷ []) x.1 × (1 ≤ x.0) × (x.0 ≤ 255)
unfolding value_count_at
value_count_takes left x fits e =
    let b = bind_ok (number_at w8 left) (λ count. where_true (leb 1 count.0) fault.NoValues left count) x e in
    let t = byte_takes left b.0 fits b.1 in
    let m = test_ok (leb 1 b.0.0) fault.NoValues left b.0 x b.2 in
    let low = leb-true _ _ m.0 in
    subst (λ (y : ℕ × Left). Takes left (y.0 ∷ []) y.1 × (1 ≤ y.0) × (y.0 ≤ 255)) m.1 (t.0, low, omega (arith, t.1))

pub value_count_again : (p n : ℕ) (rest : List ℕ) → 1 ≤ n → (q : ℕ) × (value_count_at (at p (n ∷ rest)) ≡ Ok (n, at q rest))
unfolding value_count_at
value_count_again p n rest low =
    let b = byte_again p n rest in
    let some : leb 1 n ≡ true = le-leb _ _ low in
    (b.0, rw (b.1, some) refl)

pub value_len_takes : (kind : Kind) (left : Left) (x : ℕ × Left) → AreBytes left.bytes → value_len_at kind left ≡ Ok x → Takes left (to_be_bytes w16 x.0) x.1 × (is_length kind x.0 ≡ true)
unfolding value_len_at
value_len_takes kind left x fits e =
    let b = bind_ok (number_at w16 left) (λ len. where_true (is_length kind len.0) fault.BadLength left len) x e in
    let t = number_takes w16 (2 ^ 16) wide16 left b.0 fits b.1 in
    let m = test_ok (is_length kind b.0.0) fault.BadLength left b.0 x b.2 in
    subst (λ (y : ℕ × Left). Takes left (to_be_bytes w16 y.0) y.1 × (is_length kind y.0 ≡ true)) m.1 (t.0, m.0)

pub value_len_again : (kind : Kind) (p n : ℕ) (rest : List ℕ) → n < 2 ^ 16 → is_length kind n ≡ true → (q : ℕ) × (value_len_at kind (at p (to_be_bytes w16 n ++ rest)) ≡ Ok (n, at q rest))
unfolding value_len_at
value_len_again kind p n rest lt fits =
    let b = number_again w16 (2 ^ 16) wide16 p n rest lt in
    (b.0, rw (b.1, fits) refl)
