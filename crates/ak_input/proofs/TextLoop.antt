-- Reading a text in quotes, or raw bytes in digits, byte by byte, as a loop does.
use Rattle.std.proofs.Common.{◌≡◌, ℕ, ◌+◌, ◌*◌, ◌<◌, ◌≤◌, true, false, List, [], ◌∷◌, ◌++◌, length, drop, get_or, Option, Some, None, refl, sym, ap, ◌∙◌, append_assoc}
use Rattle.std.proofs.lemmas.List.{append-nil, drop_all, drop_more}
use Rattle.ak_input.specs.declared.marks.Quotes.{Quotes}
use Rattle.ak_input.specs.Marks.{is_unquoted}
use Rattle.ak_input.specs.Payload.{text_step, onto, put, quoted_from, hex_value, raw_from}
use Rattle.ak_base.specs.Option.{◌>>=◌}

-- behind bytes that were read before
abbrev pub bytes_behind : List ℕ → Option (List ℕ) → Option (List ℕ)
bytes_behind front read = read >>= λ bytes. Some (front ++ bytes)

pub bytes_behind-nil : (read : Option (List ℕ)) → bytes_behind [] read ≡ read
bytes_behind-nil None = refl
bytes_behind-nil (Some bytes) = refl

none_behind : (front : List ℕ) (read total : Option (List ℕ)) → read ≡ None → bytes_behind front read ≡ total → total ≡ None
none_behind front None total e so_far = sym so_far
none_behind front (Some bytes) total e so_far = absurd cc

-- ---- in quotes

put_behind : (front : List ℕ) (said : Option ℕ) (read : Option (List ℕ)) → bytes_behind front (read >>= λ bytes. Some (onto said bytes)) ≡ bytes_behind (put front said) read
put_behind front said None = refl
put_behind front None (Some bytes) = refl
put_behind front (Some b) (Some bytes) = ap (λ (all : List ℕ). Some all) (simp append_assoc)

pub quoted_go_on : (front after_front : List ℕ) (quotes after : Quotes) (said : Option ℕ) (i : ℕ) (text : List ℕ) (total : Option (List ℕ)) → i < length text
    → Some (after, said) ≡ text_step quotes (get_or text i 0) → after_front ≡ put front said
    → bytes_behind front (quoted_from quotes (drop i text)) ≡ total → bytes_behind after_front (quoted_from after (drop (i + 1) text)) ≡ total
unfolding quoted_from
quoted_go_on front after_front quotes after said i text total lt step grown so_far =
    let one : bytes_behind front (quoted_from quotes (drop i text)) ≡ bytes_behind (put front said) (quoted_from after (drop (i + 1) text)) =
    rw (drop_more text i 0 lt, ← step) (put_behind front said (quoted_from after (drop (i + 1) text))) in
    rw grown (sym one ∙ so_far)

pub quoted_fails : (front : List ℕ) (quotes : Quotes) (i : ℕ) (text : List ℕ) (total : Option (List ℕ)) → i < length text
    → None ≡ text_step quotes (get_or text i 0)
    → bytes_behind front (quoted_from quotes (drop i text)) ≡ total → total ≡ None
unfolding quoted_from
quoted_fails front quotes i text total lt step so_far =
    let one : bytes_behind front (quoted_from quotes (drop i text)) ≡ None = rw (drop_more text i 0 lt, ← step) refl in
    sym so_far ∙ one

pub quoted_ends : (front : List ℕ) (quotes : Quotes) (i : ℕ) (text : List ℕ) (total : Option (List ℕ)) → length text ≤ i → is_unquoted quotes ≡ true
    → bytes_behind front (quoted_from quotes (drop i text)) ≡ total → total ≡ Some front
unfolding quoted_from
quoted_ends front quotes i text total le closed so_far =
    sym so_far ∙ rw (drop_all i text le, closed, append-nil front) refl

pub quoted_open : (front : List ℕ) (quotes : Quotes) (i : ℕ) (text : List ℕ) (total : Option (List ℕ)) → length text ≤ i → is_unquoted quotes ≡ false
    → bytes_behind front (quoted_from quotes (drop i text)) ≡ total → total ≡ None
unfolding quoted_from
quoted_open front quotes i text total le is so_far = sym so_far ∙ rw (drop_all i text le, is) refl

-- ---- in digits

byte_behind : (front : List ℕ) (b : ℕ) (read : Option (List ℕ)) → bytes_behind front (read >>= λ bytes. Some (b ∷ bytes)) ≡ bytes_behind (front ++ b ∷ []) read
byte_behind front b None = refl
byte_behind front b (Some bytes) = ap (λ (all : List ℕ). Some all) (simp append_assoc)

pub first_digit : (front : List ℕ) (digit i : ℕ) (text : List ℕ) (total : Option (List ℕ)) → i < length text
    → Some digit ≡ hex_value (get_or text i 0)
    → bytes_behind front (raw_from None (drop i text)) ≡ total → bytes_behind front (raw_from (Some digit) (drop (i + 1) text)) ≡ total
unfolding raw_from
first_digit front digit i text total lt step so_far =
    let one : bytes_behind front (raw_from None (drop i text)) ≡ bytes_behind front (raw_from (Some digit) (drop (i + 1) text)) =
    rw (drop_more text i 0 lt, ← step) refl in
    sym one ∙ so_far

pub second_digit : (front : List ℕ) (high digit i : ℕ) (text : List ℕ) (total : Option (List ℕ)) → i < length text
    → Some digit ≡ hex_value (get_or text i 0)
    → bytes_behind front (raw_from (Some high) (drop i text)) ≡ total → bytes_behind (front ++ (16 * high + digit) ∷ []) (raw_from None (drop (i + 1) text)) ≡ total
unfolding raw_from
second_digit front high digit i text total lt step so_far =
    let one : bytes_behind front (raw_from (Some high) (drop i text)) ≡ bytes_behind (front ++ (16 * high + digit) ∷ []) (raw_from None (drop (i + 1) text)) =
    rw (drop_more text i 0 lt, ← step) (byte_behind front (16 * high + digit) (raw_from None (drop (i + 1) text))) in
    sym one ∙ so_far

pub digit_fails : (front : List ℕ) (high : Option ℕ) (i : ℕ) (text : List ℕ) (total : Option (List ℕ)) → i < length text
    → None ≡ hex_value (get_or text i 0)
    → bytes_behind front (raw_from high (drop i text)) ≡ total → total ≡ None
unfolding raw_from
digit_fails front None i text total lt step so_far =
    let one : bytes_behind front (raw_from None (drop i text)) ≡ None = rw (drop_more text i 0 lt, ← step) refl in sym so_far ∙ one
digit_fails front (Some high) i text total lt step so_far =
    let one : bytes_behind front (raw_from (Some high) (drop i text)) ≡ None = rw (drop_more text i 0 lt, ← step) refl in sym so_far ∙ one

pub digits_end : (front : List ℕ) (i : ℕ) (text : List ℕ) (total : Option (List ℕ)) → length text ≤ i
    → bytes_behind front (raw_from None (drop i text)) ≡ total → total ≡ Some front
unfolding raw_from
digits_end front i text total le so_far = sym so_far ∙ rw (drop_all i text le, append-nil front) refl

pub digits_half : (front : List ℕ) (high i : ℕ) (text : List ℕ) (total : Option (List ℕ)) → length text ≤ i
    → bytes_behind front (raw_from (Some high) (drop i text)) ≡ total → total ≡ None
unfolding raw_from
digits_half front high i text total le so_far = sym so_far ∙ rw (drop_all i text le) refl

pub ruleset quoted_steps = (bytes_behind-nil, quoted_go_on, quoted_fails, quoted_ends, quoted_open)

pub ruleset digit_steps = (bytes_behind-nil, first_digit, second_digit, digit_fails, digits_end, digits_half)
