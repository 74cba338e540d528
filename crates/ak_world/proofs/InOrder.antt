-- Entries of a list, one more, and those of the objects behind one another.
use Rattle.std.proofs.Common.{◌≡◌, ◌∙◌, ℕ, zero, suc, ◌+◌, List, [], ◌∷◌, ◌++◌, map, take, slice_get, Option, Some, option_map, sym, ap, append_assoc, append-nil, arith}
use Rattle.ak_journal.specs.declared.entry.Entry.{Entry}
use Rattle.ak_world.specs.Merged.{each_from}

module _ {E P X : Type 0} (plain : E → P) (f : P → X) where
  -- the first ones and the next
  first_and_next : (entries : List E) (place : ℕ) (p : P) → option_map plain (slice_get entries place) ≡ Some p → map (λ (e : E). f (plain e)) (take (suc place) entries) ≡ map (λ (e : E). f (plain e)) (take place entries) ++ f p ∷ []
  first_and_next [] place p is = absurd (cc is)
  first_and_next (e ∷ entries) zero p is = let same : plain e ≡ p = cc is in ap (λ (q : P). f q ∷ []) same
  first_and_next (e ∷ entries) (suc place) p is = ap (λ (xs : List X). f (plain e) ∷ xs) (first_and_next entries place p is)

  -- so one more stands behind what there was first
  pub one_more : (entries : List E) (place next : ℕ) (o : Option P) (p : P) (x : X) (first so_far now : List X) → next ≡ suc place
      → o ≡ option_map plain (slice_get entries place)
      → o ≡ Some p
      → x ≡ f p
      → so_far ≡ first ++ map (λ (e : E). f (plain e)) (take place entries)
      → now ≡ so_far ++ x ∷ []
      → now ≡ first ++ map (λ (e : E). f (plain e)) (take next entries)
  one_more entries place next o p x first so_far now next_is got some is before pushed =
      pushed ∙ ap (λ (xs : List X). xs ++ x ∷ []) before ∙ ap (λ (y : X). (first ++ map (λ (e : E). f (plain e)) (take place entries)) ++ y ∷ []) is
      ∙ append_assoc first (map (λ (e : E). f (plain e)) (take place entries)) (f p ∷ [])
      ∙ ap (λ (xs : List X). first ++ xs) (sym (first_and_next entries place p (sym got ∙ some)))
      ∙ ap (λ (n : ℕ). first ++ map (λ (e : E). f (plain e)) (take n entries)) (sym next_is)

from_zero : (n : ℕ) → n ≡ 0 + n
from_zero n = omega (arith)

module _ {T : Type 0} (list : ℕ → T → List Entry) where
  -- those of the first things and of the next
  each_and_next : (number : ℕ) (things : List T) (place : ℕ) (thing : T) → slice_get things place ≡ Some thing → each_from list number (take (suc place) things) ≡ each_from list number (take place things) ++ list (place + number) thing
  each_and_next number [] place thing is = absurd (cc is)
  each_and_next number (t ∷ things) zero thing is = let same : t ≡ thing = cc is in append-nil (list number t) ∙ ap (list number) same ∙ ap (λ (n : ℕ). list n thing) (from_zero number)
  each_and_next number (t ∷ things) (suc place) thing is =
      ap (λ (xs : List Entry). list number t ++ xs) (each_and_next (suc number) things place thing is)
      ∙ sym (append_assoc (list number t) (each_from list (suc number) (take place things)) (list (place + suc number) thing))
      ∙ ap (λ (n : ℕ). (list number t ++ each_from list (suc number) (take place things)) ++ list n thing) (omega (arith))

  pub one_thing_more : (things : List T) (place next number : ℕ) (thing : T) (first so_far now : List Entry) → next ≡ suc place
      → slice_get things place ≡ Some thing
      → number ≡ place
      → so_far ≡ first ++ each_from list 0 (take place things)
      → now ≡ so_far ++ list number thing
      → now ≡ first ++ each_from list 0 (take next things)
  one_thing_more things place next number thing first so_far now next_is there is before added =
      added ∙ ap (λ (xs : List Entry). xs ++ list number thing) before ∙ append_assoc first (each_from list 0 (take place things)) (list number thing)
      ∙ ap (λ (n : ℕ). first ++ (each_from list 0 (take place things) ++ list n thing)) (the_number place number is)
      ∙ ap (λ (xs : List Entry). first ++ xs) (sym (each_and_next 0 things place thing there))
      ∙ ap (λ (n : ℕ). first ++ each_from list 0 (take n things)) (sym next_is)
    where
      the_number : (place number : ℕ) → number ≡ place → number ≡ place + 0
      the_number place number is = omega (arith, is)
