-- What a row allows, over its list of codes and over their numbers.
use Rattle.std.proofs.Common.{◌≡◌, ℕ, nat_eq, Bool, false, List, [], ◌∷◌, length, refl, ◌∙◌}
use Rattle.std.specs.List.{list_any}
use Rattle.ak_base.specs.declared.code.Code.{Code}
use Rattle.ak_property.specs.Table.{allows, codes_of}

any-codes : (cs : List Code) (n : ℕ) → list_any (λ c. nat_eq c.0 n) cs ≡ list_any (λ y. nat_eq y n) (codes_of cs)
any-codes [] n = refl
any-codes (c ∷ cs) n = rw (any-codes cs n) refl

pub allows-codes : (found : Bool) (cs : List Code) (n : ℕ) → found ≡ list_any (λ c. nat_eq c.0 n) cs → false ≡ nat_eq (length cs) 0 → found ≡ allows (codes_of cs) n
allows-codes found [] n e h = absurd cc
allows-codes found (c ∷ cs) n e h = e ∙ any-codes (c ∷ cs) n

pub ruleset rows = (allows-codes)
