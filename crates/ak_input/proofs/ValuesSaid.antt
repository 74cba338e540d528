-- Values, and the values of a field, are read as what their texts say, and as nothing else, if messages are.
use Rattle.std.proofs.Common.{◌≡◌, ◌≢◌, ◌↔◌, ◌⊎◌, inl, inr, ℕ, ◌<◌, ◌≤◌, Bool, true, false, cond, eqb, leb, List, [], ◌∷◌, ◌++◌, get_or, drop, codes, ℤ, pos, negsuc, Option, Some, None, refl, sym, ap, subst, ◌∙◌, arith}
use Rattle.std.specs.Prelude.{◌==◌, All, FitsSigned, option_map}
use Rattle.std.specs.Fmt.{decimal, signed_decimal}
use Rattle.std.specs.Int.{w32}
use Rattle.std.specs.List.{AllZip, list_all, starts_with}
use Rattle.std.specs.Str.{bytes_eq}
use Rattle.std.proofs.lemmas.Bool.{and_left, and_parts, leb-true, lt-leb, ne_eqb}
use Rattle.std.proofs.lemmas.List.Elements.{All-nil, All-cons, All-head, All-tail}
use Rattle.ak_base.proofs.Surface.{bind_some, cond_some, done, some_is}
use Rattle.ak_base.specs.Limited.{limited_map}
use Rattle.ak_base.specs.Option.{where_true, ◌>>=◌}
use Rattle.ak_base.specs.declared.limited.Limited.{Limited}
use Rattle.ak_base.specs.declared.limited.Limited.TheVariants.{Within, Over}
use Rattle.ak_message.specs.declared.kind.Kind.{Kind}
use Rattle.ak_message.specs.declared.kind.Kind.TheVariants as k
use Rattle.ak_message.specs.Kind.{is_same_kind, kind_letters, same_kind-is}
use Rattle.ak_message.specs.Message.{ValueData, bool_value, int32_value, text_value, MessageData, kind_of, value_of_message}
use Rattle.ak_message.proofs.Surface.{same_kind-refl}
use Rattle.ak_input.specs.declared.pieces.Separator.TheVariants as by
use Rattle.ak_input.specs.Got.{Got, GotValues, got, over}
use Rattle.ak_input.specs.MessageText.{bool_text, quoted}
use Rattle.ak_input.specs.Payload.{bool_from, int_within, kind_before}
use Rattle.ak_input.specs.Pieces.{pieces_of}
use Rattle.ak_input.specs.Reading.{text_from, number_or, short_from, payload_from, value_of_kind, value_with, joined, first_values, more_values, values_behind, values_of, values_with, got_message}
use Rattle.ak_input.specs.Said.{AreJoined, IsPrinted, Writes, WritesAll, WritesFull, WritesPayload, WritesPlain, WritesShort, all_within, at_most, onto_all}
use Rattle.ak_input.proofs.Gathering.{all_of, gathered_is, pushed, pushed_all}
use Rattle.ak_input.proofs.Letters.{kind_takes, no_kind}
use Rattle.ak_input.proofs.NumberWords.{mapped_some}
use Rattle.ak_input.proofs.Passing.{is_digit, decimal_digits, small_32}
use Rattle.ak_input.proofs.PiecesSaid.{joined_again, joined_takes}
use Rattle.ak_input.proofs.PlainSaid.{apart, bool_takes, got_as, int32_takes, long_again, payload_said, payload_written, text_takes}
use Rattle.ak_input.proofs.ValuesAgain.{text_again, value_is, within_32}

-- ---- values without the letters of a kind

-- a text without the letters of a kind, which is read as this value
abbrev StandsAlone : List ℕ → Got → Type 0
StandsAlone text g = (kind_before text ≡ None) × (short_from text ≡ Some g)

bool_alone : (x : Bool) → StandsAlone (bool_text x) (got (bool_value x))
unfolding short_from
bool_alone true = (refl, refl)
bool_alone false = (refl, refl)

-- the first byte of a number is below all letters, and is no quote
abbrev BeginsLow : List ℕ → Type 0
BeginsLow text = (get_or text 0 0 < 58) × (get_or text 0 0 ≢ 34)

digits_low : (text : List ℕ) → list_all is_digit text ≡ true → BeginsLow text
digits_low [] all = (omega arith, λ e. omega arith)
digits_low (b ∷ text) all =
    let digit = and_parts (leb 48 b) (leb b 57) (and_parts (is_digit b) (list_all is_digit text) all).0 in
    let least = leb-true 48 b digit.0 in
    let most = leb-true b 57 digit.1 in
    (omega arith, λ e. omega arith)

number_low : (z : ℤ) → FitsSigned w32 z → BeginsLow (signed_decimal z)
number_low (pos x) fits = digits_low (decimal x) (decimal_digits x (small_32 (pos x) fits))
number_low (negsuc x) fits = (omega arith, λ e. omega arith)

no_quote : (text : List ℕ) → get_or text 0 0 ≢ 34 → starts_with ◌==◌ text (34 ∷ []) ≡ false
no_quote [] other = refl
no_quote (b ∷ text) other = and_left (eqb 34 b) true (ne_eqb 34 b (λ e. other (sym e)))

no_word : (text rest : List ℕ) (letter : ℕ) → get_or text 0 0 < 58 → 58 ≤ letter → bytes_eq text (letter ∷ rest) ≡ false
no_word [] rest letter low high = refl
no_word (b ∷ text) rest letter low high = and_left (eqb b letter) (bytes_eq text rest) (ne_eqb b letter (λ e. omega arith))

no_bool : (text : List ℕ) → get_or text 0 0 < 58 → bool_from text ≡ None
no_bool text low =
    ap (λ (t : Bool). cond t (Some true) (where_true (bytes_eq text (codes "false")) false)) (no_word text (codes "rue") 116 low (omega arith))
    ∙ ap (λ (t : Bool). where_true t false) (no_word text (codes "alse") 102 low (omega arith))

number_alone : (text : List ℕ) (z : ℤ) → text ≡ signed_decimal z → FitsSigned w32 z → StandsAlone text (got (int32_value z))
unfolding short_from
number_alone text z is fits =
    let low : BeginsLow text = subst BeginsLow (sym is) (number_low z fits) in
    let small : leb 65 (get_or text 0 0) ≡ false = lt-leb 65 (get_or text 0 0) (omega (arith, low.0)) in
    let read : int_within (negsuc 2147483647) (pos 2147483647) text ≡ Some z = ap (int_within (negsuc 2147483647) (pos 2147483647)) is ∙ within_32 z fits in (
      no_kind text (and_left (leb 65 (get_or text 0 0)) (leb (get_or text 0 0) 90) small),
      ap (λ (t : Bool). cond t (text_from text) (number_or (bool_from text) text)) (no_quote text low.1)
          ∙ ap (λ (o : Option Bool). number_or o text) (no_bool text low.0)
          ∙ ap (λ (o : Option ℤ). option_map (λ (x : ℤ). got (int32_value x)) o) read,
    )

text_alone : (text bytes : List ℕ) (g : Got) → text ≡ quoted bytes → text_from text ≡ Some g → StandsAlone text g
unfolding short_from
text_alone text bytes g is read =
    let alone : StandsAlone (quoted bytes) g = (no_kind (quoted bytes) refl, ap text_from (sym is) ∙ read) in
    subst (λ (t : List ℕ). StandsAlone t g) (sym is) alone

-- the values of a kind
is_bool : (v : ValueData) → kind_of v ≡ k.Bool → (x : Bool) × (v ≡ bool_value x)
is_bool (bool_value x) e = (x, refl)
is_bool v e = absurd (apart (kind_of v) k.Bool refl e)

is_int32 : (v : ValueData) → kind_of v ≡ k.Int32 → (z : ℤ) × (v ≡ int32_value z)
is_int32 (int32_value z) e = (z, refl)
is_int32 v e = absurd (apart (kind_of v) k.Int32 refl e)

is_text : (v : ValueData) → kind_of v ≡ k.Text → (bytes : List ℕ) × (v ≡ text_value bytes)
is_text (text_value bytes) e = (bytes, refl)
is_text v e = absurd (apart (kind_of v) k.Text refl e)

bool_short : (text : List ℕ) (value : Limited ValueData) → WritesPlain k.Bool text value → StandsAlone text (got_as k.Bool value)
bool_short text Over is = absurd is
bool_short text (Within v) is =
    let x = is_bool v is.1 in
    let printed : IsPrinted text (bool_value x.0) = subst (λ (w : ValueData). IsPrinted text w) x.1 is.0 in
    let alone : StandsAlone text (got (bool_value x.0)) = subst (λ (t : List ℕ). StandsAlone t (got (bool_value x.0))) (sym printed.text_is) (bool_alone x.0) in
    subst (λ (w : ValueData). StandsAlone text (got_as k.Bool (Within w))) (sym x.1) alone

int32_short : (text : List ℕ) (value : Limited ValueData) → WritesPlain k.Int32 text value → StandsAlone text (got_as k.Int32 value)
int32_short text Over is = absurd is
int32_short text (Within v) is =
    let z = is_int32 v is.1 in
    let printed : IsPrinted text (int32_value z.0) = subst (λ (w : ValueData). IsPrinted text w) z.1 is.0 in
    subst (λ (w : ValueData). StandsAlone text (got_as k.Int32 (Within w))) (sym z.1) (number_alone text z.0 printed.text_is printed.fits)

text_short : (text : List ℕ) (value : Limited ValueData) → WritesPlain k.Text text value → StandsAlone text (got_as k.Text value)
text_short text Over is = text_alone text is.bytes (over k.Text) is.text_is (long_again text is)
text_short text (Within v) is =
    let b = is_text v is.1 in
    let printed : IsPrinted text (text_value b.0) = subst (λ (w : ValueData). IsPrinted text w) b.1 is.0 in
    let read : text_from text ≡ Some (got (text_value b.0)) = ap text_from printed.text_is ∙ text_again b.0 printed.fits in
    subst (λ (w : ValueData). StandsAlone text (got_as k.Text (Within w))) (sym b.1) (text_alone text b.0 (got (text_value b.0)) printed.text_is read)

short_again : (text : List ℕ) (kind : Kind) (value : Limited ValueData) → (kind ≡ k.Bool) ⊎ ((kind ≡ k.Int32) ⊎ (kind ≡ k.Text)) → WritesPlain kind text value → StandsAlone text (got_as kind value)
short_again text kind value (inl e) is =
    subst (λ (x : Kind). StandsAlone text (got_as x value)) (sym e) (bool_short text value (subst (λ (x : Kind). WritesPlain x text value) e is))
short_again text kind value (inr (inl e)) is =
    subst (λ (x : Kind). StandsAlone text (got_as x value)) (sym e) (int32_short text value (subst (λ (x : Kind). WritesPlain x text value) e is))
short_again text kind value (inr (inr e)) is =
    subst (λ (x : Kind). StandsAlone text (got_as x value)) (sym e) (text_short text value (subst (λ (x : Kind). WritesPlain x text value) e is))

-- ---- this reader of messages reads what their texts say, and nothing else
abbrev pub Agree : (List ℕ → Option Got) → (List ℕ → Limited MessageData → Type 0) → Type 0
Agree message Message = (text : List ℕ) (g : Got) → (message text ≡ Some g) ↔ ((m : Limited MessageData) × Message text m × (g ≡ got_message m))

message_got : (m : Limited MessageData) → got_message m ≡ got_as k.Message (limited_map value_of_message m)
message_got Over = refl
message_got (Within m) = refl

pub same_as : (a b : Kind) → a ≡ b → is_same_kind a b ≡ true
same_as a b e = subst (λ (x : Kind). is_same_kind x b ≡ true) (sym e) (same_kind-refl b)

abbrev pub value_in : Got → Limited ValueData
value_in g = g.value

abbrev values_got : Kind → Limited (List ValueData) → GotValues
values_got kind values = record { kind = kind; values = values }

-- these values after others
abbrev pub gathered : Limited (List ValueData) → List Got → Limited (List ValueData)
gathered values gots = pushed_all value_in 255 values gots

joined_pushed : (values : Limited (List ValueData)) (value : Limited ValueData) → joined values value ≡ pushed 255 values value
joined_pushed Over value = refl
joined_pushed (Within vs) Over = refl
joined_pushed (Within vs) (Within v) = refl

all_same : (gots : List Got) → all_of value_in gots ≡ all_within gots
all_same [] = refl
all_same (g ∷ gots) = ap (λ (vs : Limited (List ValueData)). onto_all g.value vs) (all_same gots)

pub gathered_all : (gots : List Got) → gathered (Within []) gots ≡ at_most 255 (all_within gots)
gathered_all gots = gathered_is value_in 255 gots ∙ ap (λ (vs : Limited (List ValueData)). at_most 255 vs) (all_same gots)

module _ (message : List ℕ → Option Got) (Message : List ℕ → Limited MessageData → Type 0) (agree : Agree message Message) where
  -- ---- a payload
  plainly : (kind : Kind) (text : List ℕ) (g : Got) → is_same_kind kind k.Message ≡ false → payload_from message kind text ≡ Some g → (g.kind ≡ kind) × WritesPayload Message kind text g.value
  plainly kind text g plain e = let is = payload_said message kind text g plain e in (is.0, inl is.1)

  payload_takes : (kind : Kind) (text : List ℕ) (g : Got) → payload_from message kind text ≡ Some g → (g.kind ≡ kind) × WritesPayload Message kind text g.value
  payload_takes k.Message text g e =
      let m = (agree text g).0 e in
      let is : g ≡ got_as k.Message (limited_map value_of_message m.0) = m.2 ∙ message_got m.0 in
      (ap (λ (x : Got). x.kind) is, inr (refl, (m.0, m.1, ap (λ (x : Got). x.value) is)))
  payload_takes k.Bool text g e = plainly k.Bool text g refl e
  payload_takes k.Int8 text g e = plainly k.Int8 text g refl e
  payload_takes k.Int16 text g e = plainly k.Int16 text g refl e
  payload_takes k.Int32 text g e = plainly k.Int32 text g refl e
  payload_takes k.Int64 text g e = plainly k.Int64 text g refl e
  payload_takes k.UInt8 text g e = plainly k.UInt8 text g refl e
  payload_takes k.UInt16 text g e = plainly k.UInt16 text g refl e
  payload_takes k.UInt32 text g e = plainly k.UInt32 text g refl e
  payload_takes k.UInt64 text g e = plainly k.UInt64 text g refl e
  payload_takes k.Text text g e = plainly k.Text text g refl e
  payload_takes k.Messenger text g e = plainly k.Messenger text g refl e
  payload_takes k.Raw text g e = plainly k.Raw text g refl e

  payload_again : (kind : Kind) (text : List ℕ) (value : Limited ValueData) → WritesPayload Message kind text value → payload_from message kind text ≡ Some (got_as kind value)
  payload_again kind text value (inl plain) = payload_written message kind text value plain
  payload_again kind text value (inr nested) =
      let m : Limited MessageData = nested.1.0 in
      let read : message text ≡ Some (got_message m) = (agree text (got_message m)).1 (m, nested.1.1, refl) in
      let is : got_message m ≡ got_as k.Message value = message_got m ∙ ap (λ (v : Limited ValueData). got_as k.Message v) (sym nested.1.2) in
      subst (λ (x : Kind). payload_from message x text ≡ Some (got_as x value)) (sym nested.0) (read ∙ ap (λ (g : Got). done g) is)

  -- ---- a value
  number_takes : (text : List ℕ) (g : Got) (o : Option Bool) → bool_from text ≡ o → number_or o text ≡ Some g → WritesShort Message text g
  number_takes text g (Some x) is e =
      let printed : IsPrinted text (bool_value x) = record { no_message = apart k.Bool k.Message refl; text_is = bool_takes text x is; fits = tt } in
      subst (λ (y : Got). WritesShort Message text y) (some_is (got (bool_value x)) g e) (record { may_be = inl refl; payload_is = (printed, refl) })
  number_takes text g None is e =
      let m = mapped_some (λ (z : ℤ). got (int32_value z)) (int_within (negsuc 2147483647) (pos 2147483647) text) g e in
      let z = int32_takes text m.0 m.1 in
      let printed : IsPrinted text (int32_value m.0) = record { no_message = apart k.Int32 k.Message refl; text_is = z.0; fits = z.1 } in
      subst (λ (y : Got). WritesShort Message text y) m.2 (record { may_be = inr (inl refl); payload_is = (printed, refl) })

  short_takes : (text : List ℕ) (g : Got) → short_from text ≡ Some g → WritesShort Message text g
  unfolding short_from
  short_takes text g e = by_quote (starts_with ◌==◌ text (34 ∷ [])) e where
    by_quote : (t : Bool) → cond t (text_from text) (number_or (bool_from text) text) ≡ Some g → WritesShort Message text g
    by_quote true e =
        let is = text_takes text g e in
        record { may_be = inr (inr is.0); payload_is = subst (λ (x : Kind). WritesPlain x text g.value) (sym is.0) is.1 }
    by_quote false e = number_takes text g (bool_from text) refl e

  pub value_takes : (text : List ℕ) (g : Got) → value_with message text ≡ Some g → Writes Message text g
  value_takes text g e = by_kind (kind_before text) refl e where
    by_kind : (o : Option Kind) → kind_before text ≡ o → value_of_kind message o text ≡ Some g → Writes Message text g
    by_kind None is e = record { form = inr (short_takes text g e) }
    by_kind (Some kind) is e =
        let p = payload_takes kind (drop 5 text) g e in
        let full : WritesFull Message text g = record {
          payload = drop 5 text;
          text_is = kind_takes text kind is ∙ ap (λ (x : Kind). kind_letters x ++ 58 ∷ drop 5 text) (sym p.0);
          payload_is = subst (λ (x : Kind). WritesPayload Message x (drop 5 text) g.value) (sym p.0) p.1;
        } in
        record { form = inl full }

  form_again : (text : List ℕ) (g : Got) → WritesFull Message text g ⊎ WritesShort Message text g → value_with message text ≡ Some g
  form_again text g (inl full) =
      subst (λ (t : List ℕ). value_with message t ≡ Some g) (sym full.text_is) (value_is message g.kind full.payload ∙ payload_again g.kind full.payload g.value full.payload_is)
  form_again text g (inr short) =
      let alone = short_again text g.kind g.value short.may_be short.payload_is in
      ap (λ (o : Option Kind). value_of_kind message o text) alone.0 ∙ alone.1

  pub value_again : (text : List ℕ) (g : Got) → Writes Message text g → value_with message text ≡ Some g
  value_again text g is = form_again text g is.form

  -- ---- the values after the first
  pub record AreBehind (texts : List (List ℕ)) (read out : GotValues) : Type 0 where
    pub gots : List Got
    pub each : AllZip (Writes Message) texts gots
    pub one_kind : All (λ (g : Got). g.kind ≡ read.kind) gots
    pub out_is : out ≡ values_got read.kind (gathered read.values gots)

  behind_takes : (texts : List (List ℕ)) (read out : GotValues) → values_behind message texts read ≡ Some out → AreBehind texts read out
  unfolding values_behind
  behind_takes [] read out e = record { gots = []; each = tt; one_kind = All-nil (λ (g : Got). g.kind ≡ read.kind); out_is = sym (some_is read out e) }
  behind_takes (text ∷ texts) read out e =
      let s = bind_some (value_with message text) (λ v. more_values read v >>= λ more. values_behind message texts more) out e in
      let t = bind_some (more_values read s.0) (λ more. values_behind message texts more) out s.2 in
      let u = cond_some (is_same_kind s.0.kind read.kind) (values_got read.kind (joined read.values s.0.value)) t.0 t.1 in
      let rest : values_behind message texts (values_got read.kind (joined read.values s.0.value)) ≡ Some out = subst (λ (x : GotValues). values_behind message texts x ≡ Some out) (sym u.1) t.2 in
      let later = behind_takes texts (values_got read.kind (joined read.values s.0.value)) out rest in
      record {
        gots = s.0 ∷ later.gots;
        each = (value_takes text s.0 s.1, later.each);
        one_kind = All-cons (λ (g : Got). g.kind ≡ read.kind) s.0 later.gots (same_kind-is s.0.kind read.kind u.0) later.one_kind;
        out_is = later.out_is ∙ ap (λ (vs : Limited (List ValueData)). values_got read.kind (gathered vs later.gots)) (joined_pushed read.values s.0.value);
      }

  behind_again : (texts : List (List ℕ)) (gots : List Got) (read : GotValues) → AllZip (Writes Message) texts gots → All (λ (g : Got). g.kind ≡ read.kind) gots
      → values_behind message texts read ≡ Some (values_got read.kind (gathered read.values gots))
  unfolding values_behind
  behind_again [] [] read each kinds = refl
  behind_again [] (g ∷ gots) read each kinds = absurd each
  behind_again (text ∷ texts) [] read each kinds = absurd each
  behind_again (text ∷ texts) (g ∷ gots) read each kinds =
      let same : is_same_kind g.kind read.kind ≡ true = same_as g.kind read.kind (All-head (λ (g : Got). g.kind ≡ read.kind) g gots kinds) in
      let later = behind_again texts gots (values_got read.kind (joined read.values g.value)) each.1 (All-tail (λ (g : Got). g.kind ≡ read.kind) g gots kinds) in
      ap (λ (o : Option Got). o >>= λ v. more_values read v >>= λ more. values_behind message texts more) (value_again text g each.0)
      ∙ ap (λ (t : Bool). where_true t (values_got read.kind (joined read.values g.value)) >>= λ more. values_behind message texts more) same
      ∙ later
      ∙ ap (λ (vs : Limited (List ValueData)). done (values_got read.kind (gathered vs gots))) (joined_pushed read.values g.value)

  -- ---- the values of a field
  list_takes : (text : List ℕ) (texts : List (List ℕ)) (read : GotValues) → AreJoined text texts → values_of message texts ≡ Some read → WritesAll Message text read
  unfolding values_of
  list_takes text [] read are e = absurd are
  list_takes text (one ∷ texts) read are e =
      let s = bind_some (value_with message one) (λ v. values_behind message texts (first_values v)) read e in
      let b = behind_takes texts (first_values s.0) read s.2 in
      let kind : read.kind ≡ s.0.kind = ap (λ (x : GotValues). x.kind) b.out_is in
      let kinds : All (λ (g : Got). g.kind ≡ read.kind) b.gots = subst (λ (x : Kind). All (λ (g : Got). g.kind ≡ x) b.gots) (sym kind) b.one_kind in
      record {
        texts = one ∷ texts;
        joined = are;
        gots = s.0 ∷ b.gots;
        each = (value_takes one s.0 s.1, b.each);
        one_kind = All-cons (λ (g : Got). g.kind ≡ read.kind) s.0 b.gots (sym kind) kinds;
        kept = ap (λ (x : GotValues). x.values) b.out_is ∙ ap (λ (vs : Limited (List ValueData)). gathered vs b.gots) (joined_pushed (Within []) s.0.value) ∙ gathered_all (s.0 ∷ b.gots);
      }

  pub values_take : (text : List ℕ) (read : GotValues) → values_with message text ≡ Some read → WritesAll Message text read
  values_take text read e =
      let s = bind_some (pieces_of by.Comma text) (λ texts. values_of message texts) read e in
      list_takes text s.0 read (joined_takes text s.0 s.1) s.2

  list_again : (text : List ℕ) (texts : List (List ℕ)) (gots : List Got) (read : GotValues) → AreJoined text texts → AllZip (Writes Message) texts gots → All (λ (g : Got). g.kind ≡ read.kind) gots
      → read.values ≡ at_most 255 (all_within gots) → values_of message texts ≡ Some read
  unfolding values_of
  list_again text [] gots read are each kinds kept = absurd are
  list_again text (one ∷ texts) [] read are each kinds kept = absurd each
  list_again text (one ∷ texts) (g ∷ gots) read are each kinds kept =
      let kind : g.kind ≡ read.kind = All-head (λ (x : Got). x.kind ≡ read.kind) g gots kinds in
      let others : All (λ (x : Got). x.kind ≡ g.kind) gots = subst (λ (y : Kind). All (λ (x : Got). x.kind ≡ y) gots) (sym kind) (All-tail (λ (x : Got). x.kind ≡ read.kind) g gots kinds) in
      let values : gathered (joined (Within []) g.value) gots ≡ read.values =
      ap (λ (vs : Limited (List ValueData)). gathered vs gots) (joined_pushed (Within []) g.value) ∙ gathered_all (g ∷ gots) ∙ sym kept in
      ap (λ (o : Option Got). o >>= λ v. values_behind message texts (first_values v)) (value_again one g each.0)
      ∙ behind_again texts gots (first_values g) each.1 others
      ∙ ap (λ (vs : Limited (List ValueData)). done (values_got g.kind vs)) values
      ∙ ap (λ (x : Kind). done (values_got x read.values)) kind

  pub values_again : (text : List ℕ) (read : GotValues) → WritesAll Message text read → values_with message text ≡ Some read
  values_again text read is =
      ap (λ (o : Option (List (List ℕ))). o >>= λ texts. values_of message texts) (joined_again text is.texts is.joined)
      ∙ list_again text is.texts is.gots read is.joined is.each is.one_kind is.kept
