-- Described elements have what is always true of elements.
use Rattle.std.proofs.Common.{◌≡◌, ℕ, zero, suc, ◌+◌, ◌<◌, ◌≤◌, List, [], ◌∷◌, length, get_or, refl, ap, arith}
use Rattle.std.specs.List.{All}
use Rattle.std.proofs.lemmas.List.{length-map}
use Rattle.std.proofs.lemmas.List.Elements.{All-map}
use Rattle.ak_message.specs.declared.kind.Kind.{Kind}
use Rattle.ak_message.specs.declared.message.Value.{Value}
use Rattle.ak_message.specs.Message.{ValueData, kind_of}
use Rattle.ak_message.specs.Seen.{value_of}
use Rattle.ak_value.specs.Elements.{ElementData, IsElements, numbered, described}
use Rattle.ak_value.specs.Seen.{pairs_of}

length-numbered : (id : ℕ) (xs : List (List ℕ × ValueData)) → length (numbered id xs) ≡ length xs
length-numbered id [] = refl
length-numbered id (x ∷ xs) = ap suc (length-numbered (id + 1) xs)

id-numbered : (id : ℕ) (xs : List (List ℕ × ValueData)) (i : ℕ) (d : ElementData) → i < length xs → (get_or (numbered id xs) i d).id ≡ id + i
id-numbered id [] i d h = absurd (omega arith)
id-numbered id (x ∷ xs) zero d h = omega arith
id-numbered id (x ∷ xs) (suc i) d h = omega (arith, id-numbered (id + 1) xs i d (omega arith))

pub numbered-same_kind : (kind : Kind) (id : ℕ) (xs : List (List ℕ × ValueData)) → All (λ x. kind_of x.1 ≡ kind) xs → All (λ e. kind_of e.value ≡ kind) (numbered id xs)
numbered-same_kind kind id [] all i d h = absurd (omega arith)
numbered-same_kind kind id (x ∷ xs) all zero d h = all zero x (omega arith)
numbered-same_kind kind id (x ∷ xs) all (suc i) d h =
    numbered-same_kind kind (id + 1) xs (λ k e lt. all (suc k) e (omega arith)) i d (omega arith)

pub described-is : (kind : Kind) (xs : List (List ℕ × ValueData)) → length xs ≤ 64 → All (λ x. kind_of x.1 ≡ kind) xs → IsElements (described kind xs)
described-is kind xs few all =
    let n = length-numbered 1 xs in
    record {
      limit = omega arith;
      same_kind = numbered-same_kind kind 1 xs all;
      ids = (
        (λ i j d lt within. omega (arith, id-numbered 1 xs i d (omega arith), id-numbered 1 xs j d (omega arith))),
        (λ i d within. (omega (arith, id-numbered 1 xs i d (omega arith)), omega (arith, id-numbered 1 xs i d (omega arith)))),
      );
      next_id = (omega arith, omega arith);
    }

-- of names and values as the code holds them
abbrev pair_of : List ℕ × Value → List ℕ × ValueData
pair_of x = (x.0, value_of x.1)

pub described_pairs : (kind : Kind) (xs : List (List ℕ × Value)) → length xs ≤ 64 → All (λ x. kind_of (value_of x.1) ≡ kind) xs → IsElements (described kind (pairs_of xs))
described_pairs kind xs few all =
    described-is kind (pairs_of xs) (omega (arith, length-map xs pair_of)) (All-map (λ x. kind_of x.1 ≡ kind) pair_of xs all)
