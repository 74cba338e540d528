-- Kinds by their names, as the map holds them and as they are seen.
use Rattle.std.proofs.Common.{◌≡◌, ℕ, Bool, true, false, cond, List, [], ◌∷◌, Bor, Option, Some, refl, ap}
use Rattle.std.specs.Prelude.{map}
use Rattle.std.specs.Map.{lookup}
use Rattle.std.specs.Str.{bytes_eq}
use Rattle.indexmap.specs.IndexMap.{insert_entry}
use Rattle.ak_message.specs.declared.kind.Kind.{Kind}
use Rattle.ak_hey.specs.Draft.{kind_named, with_kind}
use Rattle.ak_hey.specs.Seen.{named_kind}

abbrev pub same_name : Bor (List ℕ) → Bor (List ℕ) → Bool
same_name a b = bytes_eq a.now b.now

pub named_seen : (entries : List (Bor (List ℕ) × Kind)) (name : Bor (List ℕ)) → kind_named (map named_kind entries) name.now ≡ lookup (same_name name) entries
named_seen [] name = refl
named_seen (e ∷ entries) name = ap (λ (o : Option Kind). cond (bytes_eq name.now e.0.now) (Some e.1) o) (named_seen entries name)

pub with_seen : (entries : List (Bor (List ℕ) × Kind)) (name : Bor (List ℕ)) (kind : Kind) → map named_kind (insert_entry same_name entries name kind) ≡ with_kind (map named_kind entries) name.now kind
with_seen [] name kind = refl
with_seen (e ∷ entries) name kind = by_name (bytes_eq name.now e.0.now) (with_seen entries name kind) where
  by_name : (same : Bool) → map named_kind (insert_entry same_name entries name kind) ≡ with_kind (map named_kind entries) name.now kind
      → map named_kind (cond same ((e.0, kind) ∷ entries) (e ∷ insert_entry same_name entries name kind)) ≡ cond same ((e.0.now, kind) ∷ map named_kind entries) (named_kind e ∷ with_kind (map named_kind entries) name.now kind)
  by_name true later = refl
  by_name false later = ap (λ (es : List (List ℕ × Kind)). named_kind e ∷ es) later
