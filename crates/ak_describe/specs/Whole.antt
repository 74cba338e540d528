-- What is described is whole: the layers above take it as it is.
use Rattle.std.specs.Prelude.{◌≡◌, ◌≢◌, ℕ, ◌+◌, ◌<◌, ◌≤◌, nat_le, Bool, true, ◌&&◌, List, length, map, All, AllPairs, Some, IfSome, IsTrue, slice_get}
use Rattle.std.specs.List.{list_all, list_any}
use Rattle.ak_base.specs.declared.app_word.AppWord.{AppWord}
use Rattle.ak_base.specs.Word.{is_word}
use Rattle.ak_base.specs.Limits.{app_looper_limit, looper_limit}
use Rattle.ak_input.specs.declared.line.Line.{Line}
use Rattle.ak_input.specs.Written.{is_looked_up}
use Rattle.ak_action.specs.Limits.{action_limit}
use Rattle.ak_action.specs.declared.action.Action.{Action}
use Rattle.ak_action.specs.declared.action.Action.TheVariants as action
use Rattle.ak_action.specs.declared.action.Dest.{Dest}
use Rattle.ak_action.specs.declared.action.Dest.TheVariants as dest
use Rattle.ak_action.specs.declared.action.Reaction.{Reaction}
use Rattle.ak_action.specs.declared.plan.PlanParts.{PlanParts}
use Rattle.ak_action.specs.declared.plan.PlanRow.{PlanRow}
use Rattle.ak_action.specs.Opening.{FitsPlace, contains, knows_loopers}
use Rattle.ak_action.specs.Plan.{IsPlan}
use Rattle.ak_roster.specs.declared.head.AppHead.{AppHead}
use Rattle.ak_roster.specs.Heads.{IsHeads, head_fits}
use Rattle.ak_roster.specs.Limits.{app_limit}
use Rattle.ak_describe.specs.declared.described.AppText.{AppText}
use Rattle.ak_describe.specs.Describes.{Describes}
use Rattle.ak_base.specs.AppName.{is_path, is_signature}

-- the names of an application's loopers, its own first
abbrev pub looper_names : AppText → List (List ℕ)
looper_names a = map (λ (p : PlanParts). p.name) a.loopers

-- what a roster knows of an application
abbrev pub head_of : AppText → AppHead
head_of a = record { path = a.path; signature = a.signature; mode = a.mode; loopers = length a.loopers }

abbrev pub heads_of : List AppText → List AppHead
heads_of apps = map head_of apps

-- ---- the order of asks: who is asked is described behind the one that asks
-- a looper of that name is there, and stands behind this place
pub record LooperIsBehind (names : List (List ℕ)) (place : ℕ) (name : List ℕ) : Type 0 where
  pub there : IsTrue (contains names name)
  pub behind : (other : ℕ) → slice_get names other ≡ Some name → place < other

-- an application that the word fits is there, and each one stands behind this place
pub record AppsAreBehind (heads : List AppHead) (place : ℕ) (word : AppWord) : Type 0 where
  pub there : IsTrue (list_any (head_fits word) heads)
  pub behind : (other : ℕ) (head : AppHead) → slice_get heads other ≡ Some head → IsTrue (head_fits word head) → place < other

-- whom a looper asks, by its own place and that of its application; a plan asks no other
abbrev pub GoesOn : List AppHead → ℕ → List (List ℕ) → ℕ → Dest → Type 0
GoesOn heads app_place names place dest.Own = Unit {0}
GoesOn heads app_place names place (dest.Looper name) = LooperIsBehind names place name
GoesOn heads app_place names place (dest.Handler _) = Unit {0}
GoesOn heads app_place names place (dest.App word) = AppsAreBehind heads app_place word

abbrev pub ActionGoesOn : List AppHead → ℕ → List (List ℕ) → ℕ → Action → Type 0
ActionGoesOn heads app_place names place (action.Reply _) = Unit {0}
ActionGoesOn heads app_place names place (action.Post _ _ _) = Unit {0}
ActionGoesOn heads app_place names place (action.Ask to _ _) = GoesOn heads app_place names place to
ActionGoesOn heads app_place names place (action.Set _ _) = Unit {0}
ActionGoesOn heads app_place names place (action.Add _ _) = Unit {0}
ActionGoesOn heads app_place names place action.Stop = Unit {0}
ActionGoesOn heads app_place names place action.Quit = Unit {0}

abbrev pub ReactionGoesOn : List AppHead → ℕ → List (List ℕ) → ℕ → Reaction → Type 0
ReactionGoesOn heads app_place names place r = All (λ (a : Action). ActionGoesOn heads app_place names place a) r.actions

abbrev pub RowGoesOn : List AppHead → ℕ → List (List ℕ) → ℕ → PlanRow → Type 0
RowGoesOn heads app_place names place row = All (λ (r : Reaction). ReactionGoesOn heads app_place names place r) row.reactions

-- the asks of each looper of each application
abbrev pub AsksGoOn : List AppText → Type 0
AsksGoOn apps =
    (app_place place : ℕ) (a : AppText) (p : PlanParts) → slice_get apps app_place ≡ Some a → slice_get a.loopers place ≡ Some p
    → All (λ (row : PlanRow). RowGoesOn (heads_of apps) app_place (looper_names a) place row) p.rows

-- ---- how actions name applications: an input can say no others
abbrev pub dest_names : Dest → Bool
dest_names dest.Own = true
dest_names (dest.Looper _) = true
dest_names (dest.Handler _) = true
dest_names (dest.App word) = is_looked_up word

abbrev pub action_names : Action → Bool
action_names (action.Reply _) = true
action_names (action.Post to _ _) = dest_names to
action_names (action.Ask to _ _) = dest_names to
action_names (action.Set _ _) = true
action_names (action.Add _ _) = true
action_names action.Stop = true
action_names action.Quit = true

-- a reaction has at most 16 actions
abbrev pub reaction_names : Reaction → Bool
reaction_names r = nat_le (length r.actions) action_limit && list_all action_names r.actions

abbrev pub row_names : PlanRow → Bool
row_names row = list_all reaction_names row.reactions

pub record IsWholeApp (a : AppText) : Type 0 where
  pub path_is : IsTrue (is_path a.path)
  pub signature_is : IsTrue (is_signature a.signature)
  pub some_looper : 1 ≤ length a.loopers
  pub few_loopers : length a.loopers ≤ app_looper_limit
  pub names_are_words : All (λ (name : List ℕ). IsTrue (is_word name)) (looper_names a)
  pub names_differ : AllPairs (λ (x y : List ℕ). x ≢ y) (looper_names a)
  -- each looper is a plan
  pub plans_are : All IsPlan a.loopers
  -- each action that looks for an application names it by a number, a signature or a name
  pub words_are : All (λ (p : PlanParts). IsTrue (list_all row_names p.rows)) a.loopers
  pub own_capacity : IfSome (slice_get a.loopers 0) (λ (p : PlanParts). 2 ≤ p.capacity)
  -- each looper that an action names is one of them
  pub loopers_are_there : All (λ (p : PlanParts). IsTrue (knows_loopers (looper_names a) p.rows)) a.loopers
  -- so each may open at its place, whichever number the first one has
  pub places_fit : (first place : ℕ) (p : PlanParts) → first + length a.loopers ≤ looper_limit → slice_get a.loopers place ≡ Some p → FitsPlace p (first + place) first (looper_names a)

pub record AreWholeApps (apps : List AppText) : Type 0 where
  pub limit : length apps ≤ app_limit
  pub paths_differ : AllPairs (λ (x y : AppText). x.path ≢ y.path) apps
  pub each : All IsWholeApp apps
  pub asks_go_on : AsksGoOn apps
  -- so a roster takes them
  pub heads : IsHeads (heads_of apps)

-- what lines describe is whole
abbrev pub DescriptionsAreWhole : Type 0
DescriptionsAreWhole = (lines : List Line) (apps : List AppText) → Describes lines apps → AreWholeApps apps
