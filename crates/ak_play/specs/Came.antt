-- What one call of a run gives for a statement: its outcome, and what is told of it.
use Rattle.std.specs.Prelude.{◌≡◌, ℕ, List, Result, Ok, Err}
use Rattle.ak_diary.specs.Step.{Step}
use Rattle.ak_diary.specs.Wants.{AsksInVain}
use Rattle.ak_script.specs.declared.statement.Hey.{Hey}
use Rattle.ak_script.specs.declared.statement.Lock.{Lock}
use Rattle.ak_script.specs.declared.statement.Post.{Post}
use Rattle.ak_print.specs.declared.told.Told.{Told}
use Rattle.ak_print.specs.declared.told.Told.TheVariants as told
use Rattle.ak_session.specs.Doing.{address_of}
use Rattle.ak_lines.specs.declared.came.Came.{Came}
use Rattle.ak_lines.specs.declared.outcome.Outcome.{Outcome}
use Rattle.ak_lines.specs.declared.outcome.Outcome.TheVariants as came
use Rattle.ak_lines.specs.Blocks.{IsAnswered, IsEdited, IsPostRefused, IsPosted, IsRefused, hey_item, post_item}

-- P of the outcome, of what is told, and of the steps; or the steps of a fault
abbrev pub MayCome : {E : Type 0} → (Outcome → Told → List Step → Type 0) → (List Step → Type 0) → Result Came E → List Step → Type 0
MayCome P Cut (Ok c) steps = P c.outcome c.told steps
MayCome P Cut (Err fault) steps = Cut steps

-- ---- at one looper
-- it is asked, and answers or refuses
abbrev pub IsAsked : Hey → ℕ → Outcome → Told → List Step → Type 0
IsAsked h looper (came.Replied slot) (told.Reply message) steps = IsAnswered (hey_item h) slot message looper steps
IsAsked h looper (came.SendRefused at place why) (told.Refused e) steps = (e ≡ why) × IsRefused (hey_item h) at place why looper steps
IsAsked h looper _ _ steps = ⊥

-- it is asked in vain
abbrev pub IsAskedInVain : Hey → ℕ → List Step → Type 0
IsAskedInVain h looper steps = AsksInVain (address_of looper (hey_item h)) (hey_item h) steps

-- a post to it is written or refused
abbrev pub IsSent : Post → ℕ → Outcome → Told → List Step → Type 0
IsSent p looper (came.Posted at position) told.Posted steps = IsPosted (post_item p) at position looper steps
IsSent p looper (came.SendRefused at place why) (told.Refused e) steps = (e ≡ why) × IsPostRefused p.waits at place why looper steps
IsSent p looper _ _ steps = ⊥

-- its handlers are edited
abbrev pub IsLocked : Lock → ℕ → Outcome → Told → List Step → Type 0
IsLocked l looper (came.Edited at place) (told.Edit answer) steps = IsEdited l at place answer looper steps
IsLocked l looper _ _ steps = ⊥
