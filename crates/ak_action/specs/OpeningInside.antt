-- How the opening state is made: the tokens of the next handlers first, then each handler with its own.
use Rattle.std.specs.Prelude.{ℕ, zero, suc, ◌+◌, List, [], ◌∷◌, map, zip, Option}
use Rattle.ak_action.specs.declared.plan.PlanRow.{PlanRow}
use Rattle.ak_action.specs.declared.row.DeskRow.{DeskRow}
use Rattle.ak_action.specs.Opening.{row_of_plan}
use Rattle.ak_action.specs.Plan.{next_place}

-- the next handlers of so many handlers from a place on
abbrev pub nexts_from : List PlanRow → ℕ → ℕ → List (Option ℕ)
nexts_from all place zero = []
nexts_from all place (suc n) = next_place all place ∷ nexts_from all (place + 1) n

abbrev pub described_row : PlanRow → Option ℕ → List ℕ × Option ℕ × DeskRow
described_row row next = (row.name, next, row_of_plan row)

abbrev pub described_with : List PlanRow → List (Option ℕ) → List (List ℕ × Option ℕ × DeskRow)
described_with rows nexts = map (λ p. described_row p.0 p.1) (zip rows nexts)
