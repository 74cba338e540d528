-- What holds of all routes.
use Rattle.std.specs.Prelude.{◌≡◌, ◌≢◌, ◌<◌, ◌≤◌, ◌+◌, ℕ, zero, suc, if◌then◌else◌, List, [], ◌∷◌, ◌++◌, length, reverse, All, AllPairs, Contains, Option, None, Some, IfSome, option_and_then}
use Rattle.ak_filter.specs.declared.filter.Filter.{Filter}
use Rattle.ak_message.specs.declared.address.Target.{Target}
use Rattle.ak_message.specs.Fields.{specifier_count}
use Rattle.ak_message.specs.Message.{MessageData}
use Rattle.ak_specifier.specs.Current.{left_of}
use Rattle.ak_handler.specs.Handlers.{HandlersData, IsHandlers, tokens_of}
use Rattle.ak_property.specs.HandlerRow.{RowData}
use Rattle.ak_route.specs.declared.outcome.Taker.{Taker}
use Rattle.ak_route.specs.declared.outcome.Taker.TheVariants as taker
use Rattle.ak_route.specs.declared.outcome.Route.TheVariants as route
use Rattle.ak_route.specs.Handlers.{row_of, first_target}
use Rattle.ak_route.specs.Resolving.{at_handler, at_looper, resolve}
use Rattle.ak_route.specs.Filtering.{Passing, Origin, passing_after, run_list, settle_from, settle, asked_already}
use Rattle.ak_route.specs.Routing.{route_of}

-- ---- filters
-- the filters of these handlers run, one list after the other
abbrev pub run_lists : HandlersData RowData → Origin → List ℕ → Passing → Option Passing
run_lists s o [] p = Some p
run_lists s o (t ∷ ts) p = option_and_then (run_lists s o ts) (run_list s o (row_of s t).filters p)

abbrev pub after_run : Option Passing → (Passing → List ℕ) → List ℕ
after_run None on = []
after_run (Some p) on = on p

-- the handlers to which a message is passed, in order, up to the first that is asked already
abbrev pub passed_to : HandlersData RowData → Origin → ℕ → List ℕ → Passing → List ℕ
passed_to s o zero asked p = []
passed_to s o (suc n) asked p =
    if asked_already asked p.target then []
    else p.target ∷ after_run (run_list s o (row_of s p.target).filters p) (passed_to s o n (p.target ∷ asked))

-- settling is that the filters of the handlers to which it is passed run, one list after the other, and nothing else; these handlers
-- differ, none of them was asked before, and they are what it tells as asked then
pub record RunsEachOnce (s : HandlersData RowData) (o : Origin) (n : ℕ) (asked : List ℕ) (p : Passing) : Type 0 where
  pub runs : passing_after (settle_from s o n asked p) ≡ run_lists s o (passed_to s o n asked p) p
  pub differ : AllPairs (λ a b. a ≢ b) (passed_to s o n asked p)
  pub new : All (λ t. ¬ Contains asked t) (passed_to s o n asked p)
  pub told : IfSome (settle_from s o n asked p) (λ d. d.asked ≡ reverse (passed_to s o n asked p) ++ asked)

abbrev pub FiltersRunAtMostOnce : Type 0
FiltersRunAtMostOnce =
    (s : HandlersData RowData) (o : Origin) (n : ℕ) (asked : List ℕ) (p : Passing) → RunsEachOnce s o n asked p

-- the filters of each handler that it is passed to run: the one where it stays is among those asked
abbrev pub AllFiltersRun : Type 0
AllFiltersRun =
    (s : HandlersData RowData) (o : Origin) (common : List Filter) (p : Passing) → IsHandlers s → Contains (tokens_of s.list) p.target
    → IfSome (settle s o common p) (λ d. Contains d.asked d.passing.target)

-- as many steps as there are handlers are enough: with more nothing else comes out
abbrev pub StepsAreEnough : Type 0
StepsAreEnough =
    (s : HandlersData RowData) (o : Origin) (n : ℕ) (p : Passing) → IsHandlers s → Contains (tokens_of s.list) p.target
    → length s.list ≤ n → settle_from s o n [] p ≡ settle_from s o (length s.list) [] p

-- ---- targets
-- what the specifiers of a message lead to is a handler of the set
abbrev pub ResolvedIsThere : Type 0
ResolvedIsThere =
    (s : HandlersData RowData) (loopers : List (List ℕ)) (m : MessageData) (t : Target) (first token : ℕ)
    → IsHandlers s → first_target s t ≡ Some first → (resolve s loopers m t first).place ≡ at_handler token
    → Contains (tokens_of s.list) token

-- and so is the handler to which a message is delivered
abbrev pub TakerIsThere : Type 0
TakerIsThere =
    (s : HandlersData RowData) (loopers : List (List ℕ)) (o : Origin) (common : List Filter) (m : MessageData) (t : Target) (token : ℕ)
    (taker : Taker) → IsHandlers s → (route_of s loopers o common m t).route ≡ route.Deliver token taker → Contains (tokens_of s.list) token

-- a message without specifiers is for its first target, and stays as it was
abbrev pub NoSpecifiersNoSteps : Type 0
NoSpecifiersNoSteps =
    (s : HandlersData RowData) (loopers : List (List ℕ)) (m : MessageData) (t : Target) (first : ℕ)
    → left_of m ≡ 0 → resolve s loopers m t first ≡ record { place = at_handler first; message = m }

-- ---- what the answers name
-- a message is forwarded to a later looper of the application
abbrev pub ResolvedIsLater : Type 0
ResolvedIsLater =
    (s : HandlersData RowData) (loopers : List (List ℕ)) (m : MessageData) (t : Target) (first i : ℕ)
    → (resolve s loopers m t first).place ≡ at_looper i → (0 < i) × (i < length loopers)

abbrev pub ForwardIsLater : Type 0
ForwardIsLater =
    (s : HandlersData RowData) (loopers : List (List ℕ)) (o : Origin) (common : List Filter) (m : MessageData) (t : Target) (i : ℕ)
    → (route_of s loopers o common m t).route ≡ route.Forward i → (0 < i) × (i < length loopers)

-- the place of a property is one of the table, and that of a reaction one of the reactions
abbrev pub LiesWithin : RowData → Taker → Type 0
LiesWithin row (taker.Property i) = i < length row.table
LiesWithin row (taker.Reaction i) = i < length row.reactions
LiesWithin row taker.BuiltIn = Unit {0}

abbrev pub TakerLiesWithin : Type 0
TakerLiesWithin =
    (s : HandlersData RowData) (loopers : List (List ℕ)) (o : Origin) (common : List Filter) (m : MessageData) (t : Target) (token : ℕ)
    (as_what : Taker) → (route_of s loopers o common m t).route ≡ route.Deliver token as_what → LiesWithin (row_of s token) as_what

-- ---- what is popped
-- it is the same message but for how many of its specifiers are popped: as many as before or more, and at most those that were left
pub record OnlyPops (m after : MessageData) : Type 0 where
  pub same : after ≡ record m { popped = after.popped }
  pub at_least : m.popped ≤ after.popped
  pub at_most : after.popped ≤ m.popped + left_of m

-- following the specifiers of a message only pops some of them
abbrev pub ResolvingOnlyPops : Type 0
ResolvingOnlyPops =
    (s : HandlersData RowData) (loopers : List (List ℕ)) (m : MessageData) (t : Target) (first : ℕ) → OnlyPops m (resolve s loopers m t first).message

-- it is the same message as to its fields, with as many of its specifiers popped or more, and no more than it has
pub record PopsWithin (m after : MessageData) : Type 0 where
  pub fields : after.fields ≡ m.fields
  pub at_least : m.popped ≤ after.popped
  pub within : after.popped ≤ specifier_count m.fields

-- where no more of a message's specifiers are popped than it has, its route pops some further ones at most
abbrev pub RoutesPopWithin : Type 0
RoutesPopWithin =
    (s : HandlersData RowData) (loopers : List (List ℕ)) (o : Origin) (common : List Filter) (m : MessageData) (t : Target)
    → m.popped ≤ specifier_count m.fields → PopsWithin m (route_of s loopers o common m t).message
