-- Names that are below a number.
use Rattle.std.proofs.Common.{◌≡◌, ◌≢◌, ℕ, ◌+◌, ◌<◌, List, Option, Some, None, sym, subst, arith}
use Rattle.std.proofs.lemmas.List.Elements.{All-weaker, All-push}
use Rattle.ak_turn.specs.Steps.{IsNewName, names_with}
use Rattle.kit_bench.specs.Turns.{AreNamesBelow}

-- the number is a new name
pub next_is_new : (n : ℕ) (names : Option (List ℕ)) → AreNamesBelow n names → IsNewName names n
next_is_new n None below = below
next_is_new n (Some names) below = All-weaker (λ name. name < n) (λ name. name ≢ n) (λ name less same. omega arith) names below

-- with it, all are below the next number
pub names_go_on : (n : ℕ) (names : Option (List ℕ)) → AreNamesBelow n names → AreNamesBelow (n + 1) (names_with names n)
names_go_on n None below = below
names_go_on n (Some names) below =
    All-push (λ name. name < n + 1) names n (All-weaker (λ name. name < n) (λ name. name < n + 1) (λ name less. omega arith) names below) (omega arith)

pub named_on : (n : ℕ) (names after : Option (List ℕ)) → AreNamesBelow n names → after ≡ names_with names n → AreNamesBelow (n + 1) after
named_on n names after below same = subst (AreNamesBelow (n + 1)) (sym same) (names_go_on n names below)

pub ruleset naming = (next_is_new, names_go_on)
