-- What a plan is, in words of its own: everything that is named in it is there, and the handlers that it opens are handlers.
use Rattle.std.specs.Prelude.{◌≡◌, ◌≢◌, ℕ, ◌≤◌, List, length, map, All, AllPairs, Contains, Option, None, IfSome, IsTrue, slice_get}
use Rattle.ak_base.specs.Word.{is_word}
use Rattle.ak_base.specs.Limits.{capacity_limit}
use Rattle.ak_handler.specs.Handlers.{IsHandlers}
use Rattle.ak_message.specs.declared.kind.Kind.TheVariants as k
use Rattle.ak_handler.specs.Limits.{handler_limit}
use Rattle.ak_action.specs.declared.plan.PlanParts.{PlanParts}
use Rattle.ak_action.specs.declared.plan.PlanRow.{PlanRow}
use Rattle.ak_action.specs.Opening.{opening_handlers}
use Rattle.ak_action.specs.Plan.{IsPlan}
use Rattle.ak_action.specs.Limits.{suite_limit}

abbrev pub names_of : List PlanRow → List (List ℕ)
names_of rows = map (λ row. row.name) rows

-- none, or the name of a handler
abbrev pub IsNamed : List PlanRow → Option (List ℕ) → Type 0
IsNamed rows name = IfSome name (λ n. Contains (names_of rows) n)

-- each property has its elements, in order, which are of its kind; none is of messages; and no two have one name
pub record IsWholeTable (row : PlanRow) : Type 0 where
  pub names_differ : AllPairs (λ p q. p.name ≢ q.name) row.table
  pub elements_fit : map (λ e. e.kind) row.elements ≡ map (λ p. p.kind) row.table
  pub no_messages : All (λ p. p.kind ≢ k.Message) row.table

pub record IsWholePlan (parts : PlanParts) : Type 0 where
  -- the looper is the first handler, and has no next one
  pub looper_first : IfSome (slice_get parts.rows 0) (λ row. (row.name ≡ parts.name) × (row.next ≡ None))
  pub some_handler : 1 ≤ length parts.rows
  pub few_handlers : length parts.rows ≤ handler_limit
  pub capacity_least : 1 ≤ parts.capacity
  pub capacity_most : parts.capacity ≤ capacity_limit
  pub names_are_words : All (λ row. IsTrue (is_word row.name)) parts.rows
  pub names_differ : AllPairs (λ a b. a.name ≢ b.name) parts.rows
  pub next_is_there : All (λ row. IsNamed parts.rows row.next) parts.rows
  pub preferred_is_there : IsNamed parts.rows parts.preferred
  -- so each chain of next handlers ends
  pub handlers_open : IsHandlers (opening_handlers parts)
  pub few_suites : All (λ row. length row.suites ≤ suite_limit) parts.rows
  pub tables_are_whole : All IsWholeTable parts.rows

abbrev pub PlansAreWhole : Type 0
PlansAreWhole = (parts : PlanParts) → IsPlan parts → IsWholePlan parts
