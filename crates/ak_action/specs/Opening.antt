-- The state in which a looper begins, as its plan describes it.
use Rattle.std.specs.Prelude.{◌≡◌, ◌≢◌, ℕ, ◌+◌, ◌-◌, ◌≤◌, Bool, true, List, [], ◌∷◌, length, map, AllPairs, Option, Some, IsTrue, option_and_then, slice_get}
use Rattle.std.specs.List.{list_all, list_any}
use Rattle.std.specs.Str.{bytes_eq}
use Rattle.ak_base.specs.Limits.{app_looper_limit, looper_limit}
use Rattle.ak_handler.specs.Changes.{from_rows}
use Rattle.ak_handler.specs.Handlers.{HandlersData}
use Rattle.ak_action.specs.declared.action.Action.{Action}
use Rattle.ak_action.specs.declared.action.Action.TheVariants as action
use Rattle.ak_action.specs.declared.action.Dest.{Dest}
use Rattle.ak_action.specs.declared.action.Dest.TheVariants as dest
use Rattle.ak_action.specs.declared.action.Reaction.{Reaction}
use Rattle.ak_action.specs.declared.plan.PlanParts.{PlanParts}
use Rattle.ak_action.specs.declared.plan.PlanRow.{PlanRow}
use Rattle.ak_action.specs.declared.row.DeskRow.{DeskRow}
use Rattle.ak_action.specs.declared.state.DeskState.{DeskState}
use Rattle.ak_action.specs.Plan.{next_place, place_named}

-- ---- the handlers: the first one has the token 0, the next one 1, and so on
abbrev pub row_of_plan : PlanRow → DeskRow
row_of_plan row =
    record { suites = row.suites; table = row.table; elements = row.elements; filters = row.filters; reactions = row.reactions }

-- those from a place on, each with its name, the token of its next handler, and what it holds
abbrev pub described_from : List PlanRow → ℕ → List PlanRow → List (List ℕ × Option ℕ × DeskRow)
described_from all place [] = []
described_from all place (row ∷ rows) = (row.name, next_place all place, row_of_plan row) ∷ described_from all (place + 1) rows

abbrev pub described_rows : List PlanRow → List (List ℕ × Option ℕ × DeskRow)
described_rows rows = described_from rows 0 rows

abbrev pub opening_handlers : PlanParts → HandlersData DeskRow
opening_handlers parts = from_rows (described_rows parts.rows) (option_and_then (place_named parts.rows) parts.preferred)

-- ---- the names of an application's loopers
abbrev pub names_in : List PlanParts → List (List ℕ)
names_in plans = map (λ (p : PlanParts). p.name) plans

-- ---- what the plan has to fit
abbrev pub contains : List (List ℕ) → List ℕ → Bool
contains names name = list_any (λ other. bytes_eq other name) names

-- a looper that an action names is one of the application's
abbrev pub fits_dest : List (List ℕ) → Dest → Bool
fits_dest names dest.Own = true
fits_dest names (dest.Looper name) = contains names name
fits_dest names (dest.Handler _) = true
fits_dest names (dest.App _) = true

abbrev pub names_loopers : List (List ℕ) → Action → Bool
names_loopers names (action.Reply _) = true
names_loopers names (action.Post to _ _) = fits_dest names to
names_loopers names (action.Ask to _ _) = fits_dest names to
names_loopers names (action.Set _ _) = true
names_loopers names (action.Add _ _) = true
names_loopers names action.Stop = true
names_loopers names action.Quit = true

abbrev pub reaction_knows_loopers : List (List ℕ) → Reaction → Bool
reaction_knows_loopers names r = list_all (names_loopers names) r.actions

abbrev pub row_knows_loopers : List (List ℕ) → PlanRow → Bool
row_knows_loopers names row = list_all (reaction_knows_loopers names) row.reactions

abbrev pub knows_loopers : List (List ℕ) → List PlanRow → Bool
knows_loopers names rows = list_all (row_knows_loopers names) rows

-- the looper is the one of its name in the application, whose loopers' names, at most 8, differ, and whose numbers are below 32; its
-- actions name these alone
pub record FitsPlace (parts : PlanParts) (looper first : ℕ) (names : List (List ℕ)) : Type 0 where
  pub some : length names ≤ app_looper_limit
  pub differ : AllPairs (λ a b. a ≢ b) names
  pub numbers : first + length names ≤ looper_limit
  pub at : first ≤ looper
  pub named : slice_get names (looper - first) ≡ Some parts.name
  pub known : IsTrue (knows_loopers names parts.rows)

-- ---- the state: the handlers as described, and the rest as given
pub record Opens (parts : PlanParts) (looper team first : ℕ) (names : List (List ℕ)) (s : DeskState) : Type 0 where
  pub looper_is : s.looper ≡ looper
  pub team_is : s.team ≡ team
  pub first_is : s.first ≡ first
  pub names_are : s.names ≡ names
  pub quit_is : s.quit_refused ≡ parts.quit_refused
  pub handlers_are : s.handlers ≡ opening_handlers parts
  pub common_is : s.common ≡ parts.common
