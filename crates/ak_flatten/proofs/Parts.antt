-- The parts of a flat text: what is read from a front was written there, and what was written is read again.
use Rattle.std.proofs.Common.{◌≡◌, ℕ, suc, ◌+◌, ◌^◌, ◌<◌, ◌≤◌, Bool, true, false, cond, ◌&&◌, leb, List, [], ◌∷◌, ◌++◌, length, get_or, take, drop, Option, Some, None, Result, Ok, Err, refl, sym, ap, subst, ◌∙◌, append_assoc, arith, inl, inr, Fits}
use Rattle.std.specs.Int.{Width, w8, w16, w32, w64, byte_len, from_be_bytes, to_be_bytes}
use Rattle.std.proofs.lemmas.Bool.{cases_lt, leb-true, le-leb}
use Rattle.std.proofs.lemmas.List.{take_at, drop_at, take-append-drop, length-append, length-take, get_or-drop, get_or-take, get_or_past}
use Rattle.std.proofs.lemmas.Nat.{be_bytes_2, be_bytes_4, be_bytes_8, from_be_bytes-to_be_bytes_2, from_be_bytes-to_be_bytes_4, from_be_bytes-to_be_bytes_8}
use Rattle.ak_flatten.specs.declared.fault.FlatFault.{FlatFault}
use Rattle.ak_flatten.specs.declared.fault.FlatKind.{FlatKind}
use Rattle.ak_flatten.specs.declared.fault.FlatKind.TheVariants as fault
use Rattle.ak_flatten.specs.Laws.{AreBytes}
use Rattle.ak_flatten.specs.Reading.{Left, Read, ◌>>=◌, where_true, bytes_at, number_at}

-- ---- bytes
pub AreBytes-drop : (n : ℕ) (bytes : List ℕ) → AreBytes bytes → AreBytes (drop n bytes)
AreBytes-drop n bytes h i = rw get_or-drop (h (n + i))

pub AreBytes-take : (n : ℕ) (bytes : List ℕ) → AreBytes bytes → AreBytes (take n bytes)
AreBytes-take n bytes h i =
    elim (cases_lt i n) [
      | inl lt ↦ rw (get_or-take n bytes i 0 lt) (h i)
      | inr le ↦ rw (get_or_past (take n bytes) i 0 (omega (arith, length-take n bytes))) (omega arith)
    ]

-- ---- steps
-- the value of a step without a fault
pub bind_ok : {A B : Type 0} (r : Result A FlatFault) (f : A → Result B FlatFault) (y : B) → (r >>= f) ≡ Ok y → (x : A) × (r ≡ Ok x) × (f x ≡ Ok y)
bind_ok (Ok x) f y e = (x, refl, e)
bind_ok (Err d) f y e = absurd cc

-- a test that passed
pub test_ok : {A : Type 0} (test : Bool) (kind : FlatKind) (left : Left) (x y : A) → where_true test kind left x ≡ Ok y → (test ≡ true) × (x ≡ y)
test_ok true kind left x y e = (refl, cc)
test_ok false kind left x y e = absurd cc

abbrev done : {A : Type 0} → A → Result A FlatFault
done x = Ok x

pub ok_is : {A : Type 0} (x y : A) → done x ≡ done y → x ≡ y
ok_is x y e = cc

abbrev pub at : ℕ → List ℕ → Left
at place bytes = record { place = place; bytes = bytes }

-- what a reader took from the front
pub record Takes (left : Left) (text : List ℕ) (rest : Left) : Type 0 where
  pub parts : left.bytes ≡ text ++ rest.bytes
  pub fits : AreBytes rest.bytes

pub Takes-then : (a : Left) (x : List ℕ) (b : Left) (y : List ℕ) (c : Left) → Takes a x b → Takes b y c → Takes a (x ++ y) c
Takes-then a x b y c p q =
    record { parts = p.parts ∙ ap (λ (t : List ℕ). x ++ t) q.parts ∙ sym (append_assoc x y c.bytes); fits = q.fits }

-- ---- so many bytes
pub bytes_take : (n : ℕ) (left : Left) (x : List ℕ × Left) → AreBytes left.bytes → bytes_at n left ≡ Ok x → Takes left x.0 x.1 × (length x.0 ≡ n)
unfolding bytes_at
bytes_take n left x fits e =
    let made : List ℕ × Left = (take n left.bytes, at (left.place + n) (drop n left.bytes)) in
    let t = test_ok (leb n (length left.bytes)) fault.Truncated left made x e in
    let long = leb-true _ _ t.0 in
    subst (λ (y : List ℕ × Left). Takes left y.0 y.1 × (length y.0 ≡ n)) t.1 (record { parts = sym (take-append-drop n left.bytes); fits = AreBytes-drop n left.bytes fits }, omega (arith, length-take n left.bytes))

pub bytes_again : (p n : ℕ) (text rest : List ℕ) → length text ≡ n → (q : ℕ) × (bytes_at n (at p (text ++ rest)) ≡ Ok (text, at q rest))
unfolding bytes_at
bytes_again p n text rest len =
    let long : leb n (length (text ++ rest)) ≡ true = le-leb _ _ (omega (arith, length-append text rest)) in
    (p + n, rw (long, take_at text rest n len, drop_at text rest n len) refl)

-- the bytes of a front are bytes
pub front_of : (left : Left) (front : List ℕ) (rest : Left) → AreBytes left.bytes → left.bytes ≡ front ++ rest.bytes → AreBytes front
front_of left front rest fits parts =
    let is : take (length front) left.bytes ≡ front = rw parts (take_at front rest.bytes (length front) refl) in
    subst AreBytes is (AreBytes-take (length front) left.bytes fits)

-- ---- numbers
pub record IsWide (w : Width) (limit : ℕ) : Type 0 where
  pub len : (n : ℕ) → length (to_be_bytes w n) ≡ byte_len w
  pub back : (bytes : List ℕ) → length bytes ≡ byte_len w → AreBytes bytes → to_be_bytes w (from_be_bytes w bytes) ≡ bytes
  pub again : (n : ℕ) → n < limit → from_be_bytes w (to_be_bytes w n) ≡ n
  pub below : (bytes : List ℕ) → AreBytes bytes → from_be_bytes w bytes < limit
  pub fit : (n : ℕ) → n < limit → Fits w n
  pub small : (n : ℕ) → Fits w n → n < limit

pub wide16 : IsWide w16 (2 ^ 16)
wide16 = record {
  len = λ n. refl;
  back = λ bytes len fits. be_bytes_2 bytes _ len fits refl;
  again = λ n lt. from_be_bytes-to_be_bytes_2 n lt;
  below = λ bytes fits. omega (arith, fits 0, fits 1);
  fit = λ n lt. record { fits = lt };
  small = λ n f. f.fits;
}

pub wide32 : IsWide w32 (2 ^ 32)
wide32 = record {
  len = λ n. refl;
  back = λ bytes len fits. be_bytes_4 bytes _ len fits refl;
  again = λ n lt. from_be_bytes-to_be_bytes_4 n lt;
  below = λ bytes fits. omega (arith, fits 0, fits 1, fits 2, fits 3);
  fit = λ n lt. record { fits = lt };
  small = λ n f. f.fits;
}

pub wide64 : IsWide w64 (2 ^ 64)
wide64 = record {
  len = λ n. refl;
  back = λ bytes len fits. be_bytes_8 bytes _ len fits refl;
  again = λ n lt. from_be_bytes-to_be_bytes_8 n lt;
  below = λ bytes fits. omega (arith, fits 0, fits 1, fits 2, fits 3, fits 4, fits 5, fits 6, fits 7);
  fit = λ n lt. record { fits = lt };
  small = λ n f. f.fits;
}

pub number_takes : (w : Width) (limit : ℕ) → IsWide w limit → (left : Left) (x : ℕ × Left) → AreBytes left.bytes → number_at w left ≡ Ok x → Takes left (to_be_bytes w x.0) x.1 × (x.0 < limit)
unfolding number_at
number_takes w limit wide left x fits e =
    let b = bind_ok (bytes_at (byte_len w) left) (λ bytes. Ok (from_be_bytes w bytes.0, bytes.1)) x e in
    let t = bytes_take (byte_len w) left b.0 fits b.1 in
    let front_fits : AreBytes b.0.0 = front_of left b.0.0 b.0.1 fits t.0.parts in
    let made : ℕ × Left = (from_be_bytes w b.0.0, b.0.1) in
    subst (λ (y : ℕ × Left). Takes left (to_be_bytes w y.0) y.1 × (y.0 < limit)) (ok_is made x b.2) (rw (wide.back b.0.0 t.1 front_fits) t.0, wide.below b.0.0 front_fits)

pub number_again : (w : Width) (limit : ℕ) → IsWide w limit → (p n : ℕ) (rest : List ℕ) → n < limit → (q : ℕ) × (number_at w (at p (to_be_bytes w n ++ rest)) ≡ Ok (n, at q rest))
unfolding number_at
number_again w limit wide p n rest lt =
    let b = bytes_again p (byte_len w) (to_be_bytes w n) rest (wide.len n) in
    (b.0, rw (b.1, wide.again n lt) refl)

-- a byte
pub one_byte : (bytes : List ℕ) → length bytes ≡ 1 → bytes ≡ get_or bytes 0 0 ∷ []
one_byte [] e = absurd (omega arith)
one_byte (b ∷ []) e = refl
one_byte (b ∷ c ∷ bytes) e = absurd (omega arith)

pub byte_takes : (left : Left) (x : ℕ × Left) → AreBytes left.bytes → number_at w8 left ≡ Ok x → Takes left (x.0 ∷ []) x.1 × (x.0 < 256)
unfolding number_at
byte_takes left x fits e =
    let b = bind_ok (bytes_at 1 left) (λ bytes. Ok (from_be_bytes w8 bytes.0, bytes.1)) x e in
    let t = bytes_take 1 left b.0 fits b.1 in
    let is = one_byte b.0.0 t.1 in
    let below : get_or b.0.0 0 0 < 256 = first_below b.0.0 b.0.1.bytes left.bytes fits t.0.parts t.1 in
    let made : ℕ × Left = (get_or b.0.0 0 0, b.0.1) in
    subst (λ (y : ℕ × Left). Takes left (y.0 ∷ []) y.1 × (y.0 < 256)) (ok_is made x b.2) (subst (λ (front : List ℕ). Takes left front b.0.1) is t.0, below) where
      first_below : (front rest bytes : List ℕ) → AreBytes bytes → bytes ≡ front ++ rest → length front ≡ 1 → get_or front 0 0 < 256
      first_below [] rest bytes fits parts len = absurd (omega arith)
      first_below (b ∷ front) rest bytes fits parts len = subst (λ (bs : List ℕ). get_or bs 0 0 < 256) parts (fits 0)

pub byte_again : (p n : ℕ) (rest : List ℕ) → (q : ℕ) × (number_at w8 (at p (n ∷ rest)) ≡ Ok (n, at q rest))
unfolding number_at
byte_again p n rest = let b = bytes_again p 1 (n ∷ []) rest refl in (b.0, rw b.1 refl)
