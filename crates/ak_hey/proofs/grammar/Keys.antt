-- The words that lead on, and those that do not.
use Rattle.std.proofs.Common.{◌≡◌, ℕ, Bool, true, false, cond, List, Option, Some, None, refl, sym, subst}
use Rattle.std.specs.Prelude.{codes}
use Rattle.std.specs.Str.{bytes_eq}
use Rattle.std.proofs.lemmas.Slice.Eq.{bytes_eq-Decides}
use Rattle.ak_base.specs.declared.limited.Limited.{Limited}
use Rattle.ak_message.specs.declared.specifier.At.{At}
use Rattle.ak_base.proofs.Surface.{some_is}
use Rattle.ak_input.specs.Reading.{text_from}
use Rattle.ak_hey.specs.declared.reading.Place.{Place}
use Rattle.ak_hey.specs.declared.reading.Place.TheVariants as place
use Rattle.ak_hey.specs.Hey.{key_of, elements}
use Rattle.ak_hey.specs.Words.{is_property}

pub eq_of : (word other : List ℕ) → bytes_eq word other ≡ true → word ≡ other
eq_of word other e = (bytes_eq-Decides word other).0 e

pub same_bytes : (word : List ℕ) → bytes_eq word word ≡ true
same_bytes word = (bytes_eq-Decides word word).1 refl

-- the word and the place that it leads to
pub data IsKey : List ℕ → Place → Type 0 where
  of_key : IsKey (codes "of") place.Of
  to_key : IsKey (codes "to") place.To
  with_key : IsKey (codes "with") place.With

pub key_is : (word : List ℕ) (p : Place) → key_of word ≡ Some p → IsKey word p
key_is word p e = by_tests (bytes_eq word (codes "of")) (bytes_eq word (codes "to")) (bytes_eq word (codes "with")) refl refl refl e where
  as_key : (w v : List ℕ) (p q : Place) → v ≡ w → q ≡ p → IsKey w p → IsKey v q
  as_key w v p q is same key = subst (λ (u : List ℕ). IsKey u q) (sym is) (subst (λ (r : Place). IsKey w r) (sym same) key)

  by_tests : (of to with : Bool) → bytes_eq word (codes "of") ≡ of → bytes_eq word (codes "to") ≡ to → bytes_eq word (codes "with") ≡ with
      → cond of (Some place.Of) (cond to (Some place.To) (cond with (Some place.With) None)) ≡ Some p → IsKey word p
  by_tests true to with is _ _ e = as_key (codes "of") word place.Of p (eq_of word (codes "of") is) (sym (some_is place.Of p e)) of_key
  by_tests false true with _ is _ e = as_key (codes "to") word place.To p (eq_of word (codes "to") is) (sym (some_is place.To p e)) to_key
  by_tests false false true _ _ is e = as_key (codes "with") word place.With p (eq_of word (codes "with") is) (sym (some_is place.With p e)) with_key
  by_tests false false false _ _ _ e = absurd cc

-- a property is no word that leads on
pub property_no_key : (word : List ℕ) → is_property word ≡ true → key_of word ≡ None
property_no_key word e = by_key (key_of word) refl where
  by_key : (o : Option Place) → key_of word ≡ o → key_of word ≡ None
  by_key None is = is
  by_key (Some p) is = absurd (no_key word p (key_is word p is) e) where
    no_key : (w : List ℕ) (p : Place) → IsKey w p → is_property w ≡ true → ⊥
    no_key _ _ of_key e = cc
    no_key _ _ to_key e = cc
    no_key _ _ with_key e = cc

-- nor are brackets and names in quotes
pub elements_no_key : (word : List ℕ) (a : Limited At) → elements word ≡ Some a → key_of word ≡ None
unfolding text_from
elements_no_key word a e = by_key (key_of word) refl where
  no_elements : (w : List ℕ) (p : Place) → IsKey w p → elements w ≡ Some a → ⊥
  no_elements _ _ of_key e = cc
  no_elements _ _ to_key e = cc
  no_elements _ _ with_key e = cc

  by_key : (o : Option Place) → key_of word ≡ o → key_of word ≡ None
  by_key None is = is
  by_key (Some p) is = absurd (no_elements word p (key_is word p is) e)
