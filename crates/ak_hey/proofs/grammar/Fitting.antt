-- What is read passes no limit, and nothing of it is popped.
use Rattle.std.proofs.Common.{◌≡◌, ◌≤◌, ℕ, Bool, true, false, cond, leb, List, [], ◌∷◌, length, Option, Some, None, refl, sym, ap, subst}
use Rattle.std.specs.Prelude.{codes}
use Rattle.std.proofs.lemmas.Bool.{leb-true}
use Rattle.ak_base.specs.declared.app_word.AppWord.{AppWord}
use Rattle.ak_base.specs.declared.limited.Limited.{Limited}
use Rattle.ak_base.specs.declared.limited.Limited.TheVariants.{Within, Over}
use Rattle.ak_base.proofs.Surface.{bind_some, some_is}
use Rattle.ak_flatten.specs.Limits.{flat_limit}
use Rattle.ak_flatten.specs.Spelling.{spelling}
use Rattle.ak_message.specs.declared.fault.AddFault.{AddFault}
use Rattle.ak_message.specs.declared.kind.Kind.{Kind}
use Rattle.ak_message.specs.declared.specifier.At.{At}
use Rattle.ak_message.specs.declared.specifier.Specifier.{Specifier}
use Rattle.ak_message.specs.Fields.{add_fault}
use Rattle.ak_message.specs.Message.{ValueData, MessageData}
use Rattle.ak_input.specs.Reading.{Got, add_or_not, with_value}
use Rattle.ak_specifier.specs.Current as specifier
use Rattle.ak_hey.specs.Draft.{DraftData, new_draft, noted, specifier_or_not, specified, with_specifier, with_got, short_message}
use Rattle.ak_hey.specs.Grammar.{SpecText, FieldText, with_specs, with_fields, with_data_field, IsHey}

abbrev kept : MessageData → Limited MessageData
kept m = Within m

same_kept : (m n : MessageData) → kept m ≡ kept n → m ≡ n
same_kept m n e = cc

abbrev nothing_kept : Limited MessageData
nothing_kept = Over

-- ---- its length
short_is : (m n : MessageData) (test : Bool) → leb (length (spelling m)) flat_limit ≡ test → cond test (kept m) nothing_kept ≡ kept n → (m ≡ n) × (length (spelling n) ≤ flat_limit)
short_is m n true is e =
    let same = same_kept m n e in
    (same, subst (λ (x : MessageData). length (spelling x) ≤ flat_limit) same (leb-true (length (spelling m)) flat_limit is))
short_is m n false is e = absurd cc

short_within : (x : Limited MessageData) (n : MessageData) → short_message x ≡ kept n → (x ≡ kept n) × (length (spelling n) ≤ flat_limit)
short_within Over n e = absurd cc
short_within (Within m) n e =
    let s = short_is m n (leb (length (spelling m)) flat_limit) refl e in
    (ap kept s.0, s.1)

pub hey_fits : (words : List (List ℕ)) (app : AppWord) (m : MessageData) → IsHey words app (Within m) → length (spelling m) ≤ flat_limit
hey_fits words app m is = (short_within is.draft.message m (sym is.message_is)).1

-- ---- nothing of it is popped
abbrev IsUnpopped : Limited MessageData → Type 0
IsUnpopped Over = Unit {0}
IsUnpopped (Within m) = m.popped ≡ 0

added_unpopped : (fault : Option AddFault) (m : MessageData) (name : List ℕ) (v : ValueData) → m.popped ≡ 0 → IsUnpopped (add_or_not fault m name v)
added_unpopped None m name v e = e
added_unpopped (Some fault) m name v e = tt

value_unpopped : (x : Limited MessageData) (name : List ℕ) (v : Limited ValueData) → IsUnpopped x → IsUnpopped (with_value x name v)
value_unpopped Over name v e = tt
value_unpopped (Within m) name Over e = tt
value_unpopped (Within m) name (Within v) e = added_unpopped (add_fault m.fields name v) m name v e

specifier_unpopped : (fault : Option AddFault) (m : MessageData) (s : Specifier) → IsUnpopped (specifier_or_not fault m s)
specifier_unpopped None m s = refl
specifier_unpopped (Some fault) m s = tt

specified_unpopped : (x : Limited MessageData) (property : List ℕ) (a : Limited At) → IsUnpopped x → IsUnpopped (specified x property a)
specified_unpopped Over property a e = tt
specified_unpopped (Within m) property Over e = tt
specified_unpopped (Within m) property (Within a) e = specifier_unpopped (specifier.specifier_fault m) m (record { property = property; at = a })

specs_unpopped : (d : DraftData) (specs : List SpecText) → IsUnpopped d.message → IsUnpopped (with_specs d specs).message
specs_unpopped d [] e = e
specs_unpopped d (s ∷ specs) e = specs_unpopped (with_specifier d s.property s.at) specs (specified_unpopped d.message s.property s.at e)

got_unpopped : (d e : DraftData) (name : List ℕ) (g : Got) → with_got d name g ≡ Some e → IsUnpopped d.message → IsUnpopped e.message
got_unpopped d e name g is un =
    let b = bind_some (noted d.kinds name g.kind) (λ (kinds : List (List ℕ × Kind)). drafted kinds (with_value d.message name g.value)) e is in
    subst (λ (f : DraftData). IsUnpopped f.message) (some_is (record { kinds = b.0; message = with_value d.message name g.value }) e b.2) (value_unpopped d.message name g.value un) where
      drafted : List (List ℕ × Kind) → Limited MessageData → Option DraftData
      drafted kinds message = Some (record { kinds = kinds; message = message })

fields_unpopped : (d e : DraftData) (fields : List FieldText) → with_fields d fields ≡ Some e → IsUnpopped d.message → IsUnpopped e.message
fields_unpopped d e [] is un = subst (λ (f : DraftData). IsUnpopped f.message) (some_is d e is) un
fields_unpopped d e (f ∷ fields) is un =
    let b = bind_some (with_got d f.name f.value) (λ (x : DraftData). with_fields x fields) e is in
    fields_unpopped b.0 e fields b.2 (got_unpopped d b.0 f.name f.value b.1 un)

data_unpopped : (d e : DraftData) (x : Option Got) → with_data_field d x ≡ Some e → IsUnpopped d.message → IsUnpopped e.message
data_unpopped d e None is un = subst (λ (f : DraftData). IsUnpopped f.message) (some_is d e is) un
data_unpopped d e (Some g) is un = got_unpopped d e (codes "data") g is un

pub hey_unpopped : (words : List (List ℕ)) (app : AppWord) (m : MessageData) → IsHey words app (Within m) → m.popped ≡ 0
hey_unpopped words app m is =
    let b = bind_some (with_data_field (with_specs (new_draft is.what) is.specs) is.data_value) (λ (x : DraftData). with_fields x is.fields) is.draft is.draft_is in
    let all = fields_unpopped b.0 is.draft is.fields b.2 (data_unpopped (with_specs (new_draft is.what) is.specs) b.0 is.data_value b.1 (specs_unpopped (new_draft is.what) is.specs refl)) in
    subst IsUnpopped (short_within is.draft.message m (sym is.message_is)).0 all
