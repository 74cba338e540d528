-- Values of one kind stay so when one of that kind is added.
use Rattle.std.proofs.Common.{◌≡◌, ◌<◌, ◌≤◌, List, [], ◌∷◌, ◌++◌, length, drop, map, ap, sym, subst, ◌∙◌, arith}
use Rattle.std.specs.List.{All}
use Rattle.std.proofs.lemmas.List.{length-map, length_push, map-append}
use Rattle.std.proofs.lemmas.List.Elements.{All-push}
use Rattle.ak_message.specs.declared.kind.Kind.{Kind}
use Rattle.ak_message.specs.declared.message.Value.{Value}
use Rattle.ak_message.specs.Message.{ValueData, kind_of, depth_of_value}
use Rattle.ak_message.specs.Seen.{value_of}
use Rattle.ak_action.specs.Values.{ValuesData, AreValues, with_last}

-- behind the first one there is one more
behind_more : (P : ValueData → Type 0) (xs : List ValueData) (x : ValueData) → 1 ≤ length xs → All P (drop 1 xs) → P x → All P (drop 1 (xs ++ x ∷ []))
behind_more P [] x some all here = absurd (omega arith)
behind_more P (y ∷ ys) x some all here = All-push P ys x all here

kept_by_push : (v : ValuesData) (x : ValueData) → kind_of x ≡ v.kind → depth_of_value x < 16 → length v.list < 255 → AreValues v → AreValues (with_last v x)
kept_by_push v x same shallow room h =
    record {
      filled = omega (arith, length_push v.list x);
      limit = omega (arith, length_push v.list x);
      same_kind = All-push (λ y. kind_of y ≡ v.kind) v.list x h.same_kind same;
      shallow = behind_more (λ y. depth_of_value y < 16) v.list x h.filled h.shallow shallow;
    }

abbrev seen : Kind → List Value → ValuesData
seen kind list = record { kind = kind; list = map value_of list }

pub pushed : (kind : Kind) (old new : List Value) (x : Value) → new ≡ old ++ x ∷ [] → kind_of (value_of x) ≡ kind → depth_of_value (value_of x) < 16 → length old < 255 → AreValues (seen kind old) → AreValues (seen kind new)
pushed kind old new x grown same shallow room h =
    let list : map value_of new ≡ map value_of old ++ value_of x ∷ [] = ap (map value_of) grown ∙ map-append value_of old (x ∷ []) in
    subst (λ (xs : List ValueData). AreValues (record { kind = kind; list = xs })) (sym list) (kept_by_push (seen kind old) (value_of x) same shallow (omega (arith, length-map old value_of)) h)
