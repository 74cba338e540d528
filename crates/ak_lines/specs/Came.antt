-- What one call of a session gives for a line: its outcome, and what is told of it.
use Rattle.std.specs.Prelude.{◌≡◌, ◌⊎◌, ◌<◌, ℕ, ◌-◌, Bool, List, length, None, Result, Ok, Err}
use Rattle.ak_base.specs.declared.error.KitError.{KitError}
use Rattle.ak_base.specs.declared.error.KitError.TheVariants as error
use Rattle.ak_base.specs.declared.no_memory.NoMemory.{NoMemory}
use Rattle.ak_message.specs.declared.address.Target.{Target}
use Rattle.ak_messenger.specs.declared.envelope.Envelope.{Envelope}
use Rattle.ak_messenger.specs.declared.fault.SendFault.{SendFault}
use Rattle.ak_messenger.specs.declared.fault.SendFault.TheVariants as fault
use Rattle.ak_port.specs.declared.port_entry.PortEntry.{PortEntry}
use Rattle.ak_diary.specs.Step.{Step}
use Rattle.ak_diary.specs.Wants.{AsksInVain}
use Rattle.ak_script.specs.declared.statement.Hey.{Hey}
use Rattle.ak_script.specs.declared.statement.Lock.{Lock}
use Rattle.ak_script.specs.declared.statement.Post.{Post}
use Rattle.ak_print.specs.declared.told.Told.{Told}
use Rattle.ak_print.specs.declared.told.Told.TheVariants as told
use Rattle.ak_session.specs.Doing.{LacksDoor, Through, address_of}
use Rattle.ak_lines.specs.declared.came.Came.{Came}
use Rattle.ak_lines.specs.declared.outcome.Outcome.{Outcome}
use Rattle.ak_lines.specs.declared.outcome.Outcome.TheVariants as came
use Rattle.ak_lines.specs.Blocks.{IsAnswered, IsEdited, IsNothing, IsPostRefused, IsPosted, IsRefused, hey_item, post_item}

-- P of the outcome, of what is told, and of the steps; or the steps of a line that found no memory
abbrev pub MayCome : (Outcome → Told → List Step → Type 0) → (List Step → Type 0) → Result Came NoMemory → List Step → Type 0
MayCome P Cut (Ok c) steps = P c.outcome c.told steps
MayCome P Cut (Err e) steps = Cut steps

-- ---- at one looper, behind what was done before
module _ (so_far : List Step) where
  -- no memory for the door, or this in vain behind it
  abbrev pub InVainAt : ℕ → (List Step → Type 0) → List Step → Type 0
  InVainAt looper InVain steps = LacksDoor so_far looper steps ⊎ Through so_far looper InVain steps

  -- it is asked, and answers or refuses
  abbrev pub IsAsked : Hey → ℕ → Outcome → Told → List Step → Type 0
  IsAsked h looper (came.Replied slot) (told.Reply message) steps = Through so_far looper (IsAnswered (hey_item h) slot message looper) steps
  IsAsked h looper (came.SendRefused at place why) (told.Refused e) steps = (e ≡ why) × Through so_far looper (IsRefused (hey_item h) at place why looper) steps
  IsAsked h looper _ _ steps = ⊥

  abbrev pub IsAskedInVain : Hey → ℕ → List Step → Type 0
  IsAskedInVain h looper steps = InVainAt looper (AsksInVain (address_of looper (hey_item h)) (hey_item h)) steps

  -- a post to it is written or refused
  abbrev pub IsSent : Post → ℕ → Outcome → Told → List Step → Type 0
  IsSent p looper (came.Posted at position) told.Posted steps = Through so_far looper (IsPosted (post_item p) at position looper) steps
  IsSent p looper (came.SendRefused at place why) (told.Refused e) steps = (e ≡ why) × Through so_far looper (IsPostRefused p.waits at place why looper) steps
  IsSent p looper _ _ steps = ⊥

  -- its handlers are edited
  abbrev pub IsLocked : Lock → ℕ → Outcome → Told → List Step → Type 0
  IsLocked l looper (came.Edited at place) (told.Edit answer) steps = Through so_far looper (IsEdited l at place answer looper) steps
  IsLocked l looper _ _ steps = ⊥

  -- a post or an edit made no entry
  abbrev pub EndsInVain : ℕ → List Step → Type 0
  EndsInVain looper steps = InVainAt looper IsNothing steps

-- ---- sends
abbrev pub IsEnveloped : Target → Bool → Envelope → Type 0
IsEnveloped target dropped e = e ≡ record { target = target; team = 0; dropped = dropped; popped = 0; back = None }

abbrev pub post_envelope : Post → Envelope
post_envelope p = record { target = p.target; team = 0; dropped = p.dropped; popped = 0; back = None }

-- a send was not written for that fault, as the last of these entries tells, if it was the port
abbrev pub MayRefuse : List PortEntry → SendFault → Type 0
MayRefuse seen fault.TooLong = ⊥
MayRefuse seen fault.NoMemory = Unit {0}
MayRefuse seen fault.BadPort = 0 < length seen
MayRefuse seen fault.Spent = 0 < length seen
MayRefuse seen fault.WouldBlock = 0 < length seen

-- what that comes to
abbrev pub IsRefusedAs : ℕ → List PortEntry → KitError → Result Came NoMemory → Type 0
IsRefusedAs looper seen why (Ok c) = (c.outcome ≡ came.SendRefused looper (length seen - 1) why) × (c.told ≡ told.Refused why)
IsRefusedAs looper seen why (Err e) = ⊥

abbrev pub IsLack : Result Came NoMemory → Type 0
IsLack (Ok c) = ⊥
IsLack (Err e) = Unit {0}

abbrev pub IsRefusal : ℕ → List PortEntry → SendFault → Result Came NoMemory → Type 0
IsRefusal looper seen fault.TooLong result = ⊥
IsRefusal looper seen fault.NoMemory result = IsLack result
IsRefusal looper seen fault.BadPort result = IsRefusedAs looper seen error.BadPortId result
IsRefusal looper seen fault.Spent result = IsRefusedAs looper seen error.Spent result
IsRefusal looper seen fault.WouldBlock result = IsRefusedAs looper seen error.WouldBlock result
