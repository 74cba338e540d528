-- The first of the codes on which there are reactions is the code of the first of the reactions.
use Rattle.std.proofs.Common.{◌≡◌, ℕ, nat_eq, List, map, Option, sym, ap, ◌∙◌}
use Rattle.std.specs.List.{position}
use Rattle.ak_base.proofs.Surface.{position-map}
use Rattle.ak_action.specs.declared.action.Reaction.{Reaction}

pub first_on_code : (list seen : List Reaction) (code : ℕ) (outcome first : Option ℕ) → seen ≡ list → outcome ≡ first → first ≡ position (λ r. nat_eq r.what.0 code) seen → outcome ≡ position (λ c. nat_eq c code) (map (λ r. r.what.0) list)
first_on_code list seen code outcome first same e h =
    e ∙ h ∙ ap (position (λ r. nat_eq r.what.0 code)) same ∙ sym (position-map (λ r. r.what.0) (λ c. nat_eq c code) list)
