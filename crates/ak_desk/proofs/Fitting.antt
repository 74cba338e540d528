-- Of values, suites and fields that fit nothing is left out.
use Rattle.std.proofs.Common.{◌≡◌, ℕ, ◌+◌, ◌<◌, ◌≤◌, true, cond, List, [], ◌∷◌, ◌++◌, All, length, codes, Option, None, Some, is_some, refl, sym, ap, subst, ◌∙◌, append_assoc, arith}
use Rattle.std.proofs.lemmas.Bool.Decides.{nat_tests}
use Rattle.std.proofs.lemmas.List.{append-nil, length_push, take_all}
use Rattle.std.proofs.lemmas.List.Elements.{All-head, All-tail}
use Rattle.ak_message.specs.declared.fault.AddFault.{AddFault}
use Rattle.ak_message.specs.declared.kind.Kind.{Kind}
use Rattle.ak_message.specs.Fields.{add_fault, depth_fault, place_fault}
use Rattle.ak_message.specs.Kind.{is_same_kind}
use Rattle.ak_message.specs.Message.{FieldData, ValueData, depth_of_value, kind_of}
use Rattle.ak_base.specs.declared.error.KitError.TheVariants as error
use Rattle.ak_action.specs.Doing.{row_of}
use Rattle.ak_desk.specs.BuiltIns.{looper_suites}
use Rattle.ak_desk.specs.Laws.{AllSuitesAreTold, AllValuesAreTold, ShallowIsHeld, result_of}
use Rattle.ak_desk.specs.Replies.{error_field, reply_with, with_value, with_values}

-- ---- nothing speaks against a value that fits
shallow_fits : (v : ValueData) → depth_of_value v < 16 → depth_fault v ≡ None
shallow_fits v shallow = grind (arith, nat_tests)

same_kind-refl : (a b : Kind) → a ≡ b → is_same_kind a b ≡ true
same_kind-refl a b e = grind (arith, nat_tests)

place_fits : (f : FieldData) (kind : Kind) → kind ≡ f.kind → length f.values < 255 → place_fault 1 (Some f) kind ≡ None
place_fits f kind same few =
    let alike : is_same_kind f.kind kind ≡ true = same_kind-refl f.kind kind (sym same) in
    rw alike (grind (arith, nat_tests))

-- ---- one field, value by value
module _ (kind : Kind) where
  abbrev field : List ValueData → FieldData
  field us = record { name = codes "result"; kind = kind; values = us }

  one_more : (us : List ValueData) (v : ValueData) → kind_of v ≡ kind → depth_of_value v < 16 → length us < 255 → with_value (field us ∷ []) v ≡ field (us ++ v ∷ []) ∷ []
  one_more us v alike shallow few =
      let none : add_fault (field us ∷ []) (codes "result") v ≡ None = rw (place_fits (field us) (kind_of v) alike few) (shallow_fits v shallow) in
      ap (λ (o : Option AddFault). cond (is_some o) (field us ∷ []) (field (us ++ v ∷ []) ∷ [])) none

  all_more : (us vs : List ValueData) → length us + length vs ≤ 255 → All (λ v. kind_of v ≡ kind) vs → All (λ v. depth_of_value v < 16) vs → with_values (field us ∷ []) vs ≡ field (us ++ vs) ∷ []
  all_more us [] few alike shallow = ap (λ (l : List ValueData). field l ∷ []) (sym (append-nil us))
  all_more us (v ∷ vs) few alike shallow =
      let first = one_more us v (All-head (λ x. kind_of x ≡ kind) v vs alike) (All-head (λ x. depth_of_value x < 16) v vs shallow) (omega arith) in
      let more : length (us ++ v ∷ []) + length vs ≤ 255 = omega (arith, length_push us v) in
      ap (λ (fields : List FieldData). with_values fields vs) first
      ∙ all_more (us ++ v ∷ []) vs more (All-tail (λ x. kind_of x ≡ kind) v vs alike) (All-tail (λ x. depth_of_value x < 16) v vs shallow)
      ∙ ap (λ (l : List ValueData). field l ∷ []) (append_assoc us (v ∷ []) vs)

first_one : (v : ValueData) → depth_of_value v < 16 → with_value [] v ≡ field (kind_of v) (v ∷ []) ∷ []
first_one v shallow =
    ap (λ (o : Option AddFault). cond (is_some o) [] (field (kind_of v) (v ∷ []) ∷ [])) (shallow_fits v shallow)

all_told : (kind : Kind) (vs : List ValueData) → length vs ≤ 255 → All (λ v. kind_of v ≡ kind) vs → All (λ v. depth_of_value v < 16) vs → with_values [] vs ≡ result_of vs
all_told kind [] few alike shallow = refl
all_told kind (v ∷ vs) few alike shallow =
    let same : kind_of v ≡ kind = All-head (λ x. kind_of x ≡ kind) v vs alike in
    ap (λ (fields : List FieldData). with_values fields vs) (first_one v (All-head (λ x. depth_of_value x < 16) v vs shallow))
    ∙ all_more (kind_of v) (v ∷ []) vs (omega arith)
    (subst (λ (k : Kind). All (λ x. kind_of x ≡ k) vs) (sym same) (All-tail (λ x. kind_of x ≡ kind) v vs alike))
    (All-tail (λ x. depth_of_value x < 16) v vs shallow)

pub all_values_are_told : AllValuesAreTold
all_values_are_told kind vs few alike shallow =
    ap (λ (fields : List FieldData). reply_with (fields ++ error_field error.Ok ∷ [])) (all_told kind vs few alike shallow)

-- ---- suites, and a value that is held
pub all_suites_are_told : AllSuitesAreTold
all_suites_are_told s token few =
    ap (λ (l : List (List ℕ)). l ++ codes "suite/vnd.Be-handler" ∷ looper_suites s token) (take_all 16 (row_of s token).suites few)

pub shallow_is_held : ShallowIsHeld
shallow_is_held v shallow = grind (arith, nat_tests)
