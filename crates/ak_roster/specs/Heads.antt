-- Which applications a word names, and which of them keep another one from starting.
use Rattle.std.specs.Prelude.{ℕ, ◌≤◌, Bool, false, ◌==◌, ◌||◌, List, length, All, find, Option, None, Some, slice_get}
use Rattle.std.specs.List.{position}
use Rattle.std.specs.Str.{bytes_eq}
use Rattle.ak_base.specs.AppName.{last_part}
use Rattle.ak_base.specs.declared.app_word.AppWord.{AppWord}
use Rattle.ak_base.specs.declared.app_word.AppWord.TheVariants as word
use Rattle.ak_base.specs.Limits.{app_looper_limit}
use Rattle.ak_roster.specs.declared.head.AppHead.{AppHead}
use Rattle.ak_roster.specs.declared.head.Mode.{Mode}
use Rattle.ak_roster.specs.declared.head.Mode.TheVariants as mode
use Rattle.ak_roster.specs.declared.team.Running.{Running}
use Rattle.ak_roster.specs.Limits.{app_limit}

-- at most 16 applications are described, each with 1 to 8 loopers
pub record IsHeads (heads : List AppHead) : Type 0 where
  pub limit : length heads ≤ app_limit
  pub loopers : All (λ head. (1 ≤ head.loopers) × (head.loopers ≤ app_looper_limit)) heads

-- a word fits a path or a signature that is equal, and as a name the last part of the path; a team's number fits none
abbrev pub word_fits : AppWord → List ℕ → List ℕ → Bool
word_fits (word.Path asked) path signature = bytes_eq path asked
word_fits (word.Signature asked) path signature = bytes_eq signature asked
word_fits (word.Name asked) path signature = bytes_eq (last_part path) asked
word_fits (word.Team asked) path signature = false

abbrev pub head_fits : AppWord → AppHead → Bool
head_fits w head = word_fits w head.path head.signature

-- the number that a word has, if it is a team's
abbrev pub is_number : AppWord → ℕ → Bool
is_number (word.Team team) number = team == number
is_number (word.Path path) number = false
is_number (word.Signature signature) number = false
is_number (word.Name name) number = false

abbrev pub passes : (AppHead → Bool) → Option AppHead → Bool
passes test None = false
passes test (Some head) = test head

-- a team fits what its description fits, and its own number
abbrev pub team_fits : List AppHead → AppWord → Running → Bool
team_fits heads w team = is_number w team.team || passes (head_fits w) (slice_get heads team.description)

-- by its mode an application does not start while one with the same path runs, or one with the same signature
abbrev pub excludes_as : Mode → AppHead → AppHead → Bool
excludes_as mode.Single head other = bytes_eq other.path head.path
excludes_as mode.Multiple head other = false
excludes_as mode.Exclusive head other = bytes_eq other.signature head.signature

abbrev pub excludes : AppHead → AppHead → Bool
excludes head other = excludes_as head.mode head other

module _ (heads : List AppHead) where
  -- the place of the first description that fits
  abbrev pub first_fit : AppWord → Option ℕ
  first_fit w = position (head_fits w) heads

  -- the least running team that fits; they stand in the order of their numbers
  abbrev pub team_for : List Running → AppWord → Option Running
  team_for running w = find (team_fits heads w) running

  -- the least running team that keeps the application from starting
  abbrev pub excluder : List Running → AppHead → Option Running
  excluder running head = find (λ team. passes (excludes head) (slice_get heads team.description)) running
