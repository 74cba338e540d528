-- The second pass with the places of next handlers kept: each line leads one handler on, and its chain is followed from there.
use Rattle.std.specs.Prelude.{ℕ, zero, suc, Bool, true, false, ◌&&◌, ◌==◌, if◌then◌else◌, List, [], ◌∷◌, length, replicate, slice_get, slice_set, Option, None, Some, unwrap_or}
use Rattle.ak_base.specs.declared.ending.RefusalKind.{RefusalKind}
use Rattle.ak_base.specs.declared.ending.RefusalKind.TheVariants as refusal
use Rattle.ak_handler.specs.Limits.{handler_limit}
use Rattle.ak_describe.specs.declared.named.Named.{Named}
use Rattle.ak_describe.specs.declared.named.Need.{Need}
use Rattle.ak_describe.specs.declared.named.Need.TheVariants as needs
use Rattle.ak_describe.specs.declared.second.Chains.{Chains}
use Rattle.ak_describe.specs.Parts.{LooperData, AppData, looper_named, row_named}
use Rattle.ak_describe.specs.Pass.{Refusal}
use Rattle.ak_describe.specs.Second.{unknown, order_fault, first_fit, or_next}

-- no handler is led on yet: each leads to the looper, whose place is 0
abbrev pub chains_of : ℕ → ℕ → Chains
chains_of app looper = record { app = app; looper = looper; next = replicate handler_limit 0 }

-- begun anew at another looper
abbrev pub entered : Chains → ℕ → ℕ → Chains
entered c app looper = if c.app == app && c.looper == looper then c else chains_of app looper

-- a handler leads on to another one
abbrev pub led : Chains → ℕ → ℕ → Chains
led c row next = record c { next = slice_set c.next row next }

abbrev pub next_of : Chains → ℕ → ℕ
next_of c place = unwrap_or (slice_get c.next place) 0

-- whether a place is met in so many steps from another one
abbrev pub meets : Chains → ℕ → ℕ → ℕ → Bool
meets c row zero at = false
meets c row (suc steps) at = if next_of c at == row then true else meets c row steps (next_of c at)

abbrev pub comes_back : Chains → ℕ → Bool
comes_back c row = meets c row (length c.next) row

-- with the next handler of this line
abbrev pub chains_with : Chains → Named → ℕ → Chains
chains_with c n next = led (entered c n.app n.looper) n.row next

-- where it is there
abbrev pub chained : Chains → Named → Option ℕ → Chains
chained c n None = c
chained c n (Some next) = chains_with c n next

abbrev pub closed : Chains → Named → Option ℕ → Option RefusalKind
closed c n None = Some refusal.UnknownName
closed c n (Some next) = if comes_back (chains_with c n next) n.row then Some refusal.ChainLoop else None

abbrev pub kind_of_need : List AppData → AppData → LooperData → Chains → Named → Need → Option RefusalKind
kind_of_need apps a l c n (needs.Next name) = closed c n (row_named l.rows name)
kind_of_need apps a l c n (needs.Handler name) = unknown (row_named l.rows name)
kind_of_need apps a l c n (needs.Looper name) = unknown (looper_named a.loopers name)
kind_of_need apps a l c n (needs.AskLooper name) = order_fault (looper_named a.loopers name) n.looper
kind_of_need apps a l c n (needs.AskApp word) = order_fault (first_fit apps word) n.app

abbrev pub chains_of_need : LooperData → Chains → Named → Need → Chains
chains_of_need l c n (needs.Next name) = chained c n (row_named l.rows name)
chains_of_need l c n (needs.Handler name) = c
chains_of_need l c n (needs.Looper name) = c
chains_of_need l c n (needs.AskLooper name) = c
chains_of_need l c n (needs.AskApp word) = c

-- ---- where it is named
abbrev pub kind_in_looper : List AppData → AppData → Chains → Named → Option LooperData → Option RefusalKind
kind_in_looper apps a c n None = None
kind_in_looper apps a c n (Some l) = kind_of_need apps a l c n n.need

abbrev pub kind_in_app : List AppData → Chains → Named → Option AppData → Option RefusalKind
kind_in_app apps c n None = None
kind_in_app apps c n (Some a) = kind_in_looper apps a c n (slice_get a.loopers n.looper)

abbrev pub kind_of : List AppData → Chains → Named → Option RefusalKind
kind_of apps c n = kind_in_app apps c n (slice_get apps n.app)

abbrev pub chains_in_looper : Chains → Named → Option LooperData → Chains
chains_in_looper c n None = c
chains_in_looper c n (Some l) = chains_of_need l c n n.need

abbrev pub chains_in_app : Chains → Named → Option AppData → Chains
chains_in_app c n None = c
chains_in_app c n (Some a) = chains_in_looper c n (slice_get a.loopers n.looper)

abbrev pub chains_after : List AppData → Chains → Named → Chains
chains_after apps c n = chains_in_app c n (slice_get apps n.app)

-- the first fault, in the order of the lines
unfoldable pub led_fault : List AppData → Chains → List Named → Option Refusal
led_fault apps c [] = None
led_fault apps c (n ∷ names) = or_next (kind_of apps c n) n.line (led_fault apps (chains_after apps c n) names)
