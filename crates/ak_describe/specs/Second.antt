-- The second pass: what lines name is there, next handlers close no loop, and what is asked comes later.
use Rattle.std.specs.Prelude.{ℕ, ◌+◌, nat_lt, Bool, if◌then◌else◌, is_some, List, [], ◌∷◌, ◌++◌, map, take, drop, position, slice_get, Option, None, Some}
use Rattle.ak_base.specs.declared.app_word.AppWord.{AppWord}
use Rattle.ak_base.specs.declared.ending.RefusalKind.{RefusalKind}
use Rattle.ak_base.specs.declared.ending.RefusalKind.TheVariants as refusal
use Rattle.ak_action.specs.declared.plan.PlanRow.{PlanRow}
use Rattle.ak_action.specs.Plan.{chains_end}
use Rattle.ak_roster.specs.Heads.{word_fits}
use Rattle.ak_describe.specs.declared.named.Named.{Named}
use Rattle.ak_describe.specs.declared.named.Need.{Need}
use Rattle.ak_describe.specs.declared.named.Need.TheVariants as needs
use Rattle.ak_describe.specs.Described.{plan_rows}
use Rattle.ak_describe.specs.Parts.{RowData, LooperData, AppData, looper_named, row_named}
use Rattle.ak_describe.specs.Pass.{Refusal}

abbrev pub unknown : Option ℕ → Option RefusalKind
unknown None = Some refusal.UnknownName
unknown (Some place) = None

-- what is asked has to be there, and stand behind the place that asks
abbrev pub order_fault : Option ℕ → ℕ → Option RefusalKind
order_fault None asks = Some refusal.UnknownName
order_fault (Some place) asks = if nat_lt asks place then None else Some refusal.AskOrder

-- ---- applications
-- as a roster finds them
abbrev pub fits : AppWord → AppData → Bool
fits word a = word_fits word a.path a.signature

-- where the first one that fits stands behind the one that asks, so do all that fit
abbrev pub first_fit : List AppData → AppWord → Option ℕ
first_fit apps word = position (fits word) apps

-- ---- chains
-- a handler of which no next one is given yet
abbrev pub without_next : PlanRow → PlanRow
without_next r = record r { next = None }

-- the handlers as far as the lines up to that of the one at this place say which is the next one of each
abbrev pub chained_to : ℕ → List RowData → List PlanRow
chained_to row rows = plan_rows (take (row + 1) rows) ++ map without_next (plan_rows (drop (row + 1) rows))

-- a next handler has to be there, and to close no loop with the lines before
abbrev pub next_fault : List RowData → ℕ → List ℕ → Option RefusalKind
next_fault rows row name =
    if is_some (row_named rows name) then (if chains_end (chained_to row rows) then None else Some refusal.ChainLoop)
    else Some refusal.UnknownName

-- ---- names
abbrev pub fault_of : List AppData → AppData → LooperData → Named → Need → Option RefusalKind
fault_of apps a l n (needs.Next name) = next_fault l.rows n.row name
fault_of apps a l n (needs.Handler name) = unknown (row_named l.rows name)
fault_of apps a l n (needs.Looper name) = unknown (looper_named a.loopers name)
fault_of apps a l n (needs.AskLooper name) = order_fault (looper_named a.loopers name) n.looper
fault_of apps a l n (needs.AskApp word) = order_fault (first_fit apps word) n.app

abbrev pub fault_in_looper : List AppData → AppData → Named → Option LooperData → Option RefusalKind
fault_in_looper apps a n None = None
fault_in_looper apps a n (Some l) = fault_of apps a l n n.need

abbrev pub fault_in_app : List AppData → Named → Option AppData → Option RefusalKind
fault_in_app apps n None = None
fault_in_app apps n (Some a) = fault_in_looper apps a n (slice_get a.loopers n.looper)

-- what is wrong with a name
abbrev pub named_fault : List AppData → Named → Option RefusalKind
named_fault apps n = fault_in_app apps n (slice_get apps n.app)

abbrev pub or_next : Option RefusalKind → ℕ → Option Refusal → Option Refusal
or_next (Some kind) line others = Some (record { line = line; kind = kind })
or_next None line others = others

-- the first fault, in the order of the lines
unfoldable pub second_fault : List AppData → List Named → Option Refusal
second_fault apps [] = None
second_fault apps (n ∷ names) = or_next (named_fault apps n) n.line (second_fault apps names)
