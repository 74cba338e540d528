-- What the filters make of a message: the common ones first, and then those of each handler that it is passed to, which run at
-- most once.
use Rattle.std.specs.Prelude.{ℕ, zero, suc, ◌==◌, Bool, if◌then◌else◌, List, [], ◌∷◌, length, Option, None, Some, unwrap_or, option_map, option_and_then}
use Rattle.std.specs.List.{list_any}
use Rattle.ak_base.specs.declared.code.Code.{Code}
use Rattle.ak_filter.specs.declared.filter.Filter.{Filter}
use Rattle.ak_filter.specs.declared.filter.Head.{Head}
use Rattle.ak_filter.specs.Filter.{admits}
use Rattle.ak_handler.specs.Handlers.{HandlersData, token_named}
use Rattle.ak_property.specs.HandlerRow.{RowData}
use Rattle.ak_route.specs.Handlers.{row_of}

-- where the message goes, and its code as it is then
pub record Passing : Type 0 where
  pub target : ℕ
  pub what : ℕ

-- how the message came
pub record Origin : Type 0 where
  pub local : Bool
  pub dropped : Bool

abbrev pub head_of : Origin → Passing → Head
head_of o p = record { what = (record { 0 = p.what }); local = o.local; dropped = o.dropped }

-- to the handler of that name, where one has it
abbrev pub target_after : HandlersData RowData → Option (List ℕ) → ℕ → ℕ
target_after s to target = unwrap_or (option_and_then (token_named s.list) to) target

abbrev pub what_after : Option Code → ℕ → ℕ
what_after code what = unwrap_or (option_map (λ c. c.0) code) what

abbrev pub passed_on : HandlersData RowData → Filter → Passing → Passing
passed_on s f p = record { target = target_after s f.to p.target; what = what_after f.set_what p.what }

-- nothing where the message is skipped
abbrev pub run_filter : HandlersData RowData → Origin → Filter → Passing → Option Passing
run_filter s o f p = if admits f (head_of o p) then (if f.skip then None else Some (passed_on s f p)) else Some p

-- the filters in order, each over the message as it is then; a skip ends all
abbrev pub run_list : HandlersData RowData → Origin → List Filter → Passing → Option Passing
run_list s o [] p = Some p
run_list s o (f ∷ fs) p = option_and_then (run_list s o fs) (run_filter s o f p)

abbrev pub asked_already : List ℕ → ℕ → Bool
asked_already asked token = list_any (λ t. t == token) asked

-- where the message goes then and its code, and the handlers whose filters ran, the last one first
pub record Settled : Type 0 where
  pub passing : Passing
  pub asked : List ℕ

abbrev pub settled : Passing → List ℕ → Settled
settled p asked = record { passing = p; asked = asked }

abbrev pub passing_after : Option Settled → Option Passing
passing_after r = option_map (λ d. d.passing) r

-- where the filters of its target ran the message stays there; else they run, and so on from where they pass it: so many handlers have
-- not been asked
abbrev pub settle_from : HandlersData RowData → Origin → ℕ → List ℕ → Passing → Option Settled
settle_from s o zero asked p = Some (settled p asked)
settle_from s o (suc n) asked p =
    if asked_already asked p.target then Some (settled p asked)
    else option_and_then (settle_from s o n (p.target ∷ asked)) (run_list s o (row_of s p.target).filters p)

abbrev pub settle : HandlersData RowData → Origin → List Filter → Passing → Option Settled
settle s o common p = option_and_then (settle_from s o (length s.list) []) (run_list s o common p)
