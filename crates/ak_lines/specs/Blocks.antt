-- What a session does for a line, step by step, behind what it did before; what the line came to; and what is told of it.
use Rattle.std.specs.Prelude.{◌≡◌, ◌≢◌, ◌≤◌, ◌<◌, ◌+◌, ◌⊎◌, ℕ, Bool, false, List, [], ◌∷◌, ◌++◌, length, Option, None, Some}
use Rattle.ak_base.specs.declared.app_word.AppWord.{AppWord}
use Rattle.ak_base.specs.declared.error.KitError.{KitError}
use Rattle.ak_base.specs.declared.error.KitError.TheVariants as error
use Rattle.ak_message.specs.declared.address.Target.TheVariants as target
use Rattle.ak_message.specs.Message.{MessageData}
use Rattle.ak_flatten.specs.declared.item.Duty.TheVariants as duty
use Rattle.ak_flatten.specs.Item.{ItemData}
use Rattle.ak_flatten.specs.Laws.{Spells}
use Rattle.ak_roster.specs.declared.head.AppHead.{AppHead}
use Rattle.ak_roster.specs.declared.team.Running.{Running}
use Rattle.ak_port.specs.declared.port_entry.PortEvent.{PortEvent}
use Rattle.ak_port.specs.declared.port_entry.PortEvent.TheVariants as event
use Rattle.ak_messenger.specs.declared.asking.Reply.{Reply}
use Rattle.ak_messenger.specs.Sends.{item_in}
use Rattle.ak_desk.specs.declared.entry.EditAnswer.{EditAnswer}
use Rattle.ak_diary.specs.Step.{Step}
use Rattle.ak_diary.specs.Wants.{AsksInVain, EntersPort, Withdraws}
use Rattle.ak_script.specs.declared.statement.Hey.{Hey}
use Rattle.ak_script.specs.declared.statement.Lock.{Lock}
use Rattle.ak_script.specs.declared.statement.Post.{Post}
use Rattle.ak_script.specs.declared.statement.SessionLine.{SessionLine}
use Rattle.ak_script.specs.declared.statement.SessionLine.TheVariants as line
use Rattle.ak_print.specs.declared.told.Told.{Told}
use Rattle.ak_print.specs.declared.told.Told.TheVariants as told
use Rattle.ak_session.specs.Doing.{Answered, EditsAt, FindsAt, LacksDoor, Through, address_of}
use Rattle.ak_lines.specs.declared.outcome.Outcome.{Outcome}
use Rattle.ak_lines.specs.declared.outcome.Outcome.TheVariants as came

-- ---- what is sent
-- a hey line's message goes to the preferred handler of the first looper, from nobody's team
abbrev pub hey_item : Hey → ItemData
hey_item h = item_in (record { target = target.Preferred; team = 0; dropped = false; popped = 0; back = None }) duty.None h.message

-- a post's to the target that it names, with its mark
abbrev pub post_item : Post → ItemData
post_item p = item_in (record { target = p.target; team = 0; dropped = p.dropped; popped = 0; back = None }) duty.None p.message

-- the error of a port's refusal
abbrev pub error_of : PortEvent → Option KitError
error_of event.Refused = Some error.BadPortId
error_of event.Spent = Some error.Spent
error_of event.Full = Some error.WouldBlock
error_of _ = None

-- ---- first a running team is looked for
-- the one that the roster tells, and then P of it
pub record Finding (heads : List AppHead) (word : AppWord) (P : Running → List Step → Type 0) (steps : List Step) : Type 0 where
  pub running : Running
  pub place : ℕ
  pub found : List Step
  pub finds : FindsAt heads word (Some running) place found
  pub rest : List Step
  pub then_does : P running rest
  pub is : steps ≡ found ++ rest

-- of a looper of that team, by its place there
abbrev pub FindingLooper : List AppHead → AppWord → ℕ → (ℕ → List Step → Type 0) → List Step → Type 0
FindingLooper heads word place P steps =
    Finding heads word (λ (running : Running) (rest : List Step). (place < running.loopers) × P (running.first + place) rest) steps

-- whose door it gets first, where it has not got it by what it did before
abbrev pub FindingThrough : List Step → List AppHead → AppWord → ℕ → (ℕ → List Step → Type 0) → List Step → Type 0
FindingThrough so_far heads word place P steps =
    FindingLooper heads word place (λ (looper : ℕ) (rest : List Step). Through so_far looper (P looper) rest) steps

-- the team has no looper of that place, and nothing more is done
abbrev pub FindingNone : List AppHead → AppWord → ℕ → ℕ → List Step → Type 0
FindingNone heads word looper place steps =
    (running : Running) × (running.loopers ≤ looper) × FindsAt heads word (Some running) place steps

-- ---- and then
-- the looper is asked, and answers by that slot with that message
pub record IsAnswered (item : ItemData) (slot : ℕ) (message : MessageData) (looper : ℕ) (steps : List Step) : Type 0 where
  pub reply : Reply
  pub answered : Answered looper item reply steps
  pub slot_is : slot ≡ reply.slot
  pub message_is : message ≡ reply.message
  pub spells : Spells reply.flat reply.message

-- its port refuses the item by its entry at that place, with that error; not for want of room, for which an ask waits
pub record IsRefused (item : ItemData) (at place : ℕ) (why : KitError) (looper : ℕ) (steps : List Step) : Type 0 where
  pub at_is : at ≡ looper
  pub e : PortEvent
  pub why_is : error_of e ≡ Some why
  pub waited : why ≢ error.WouldBlock
  pub withdraws : Withdraws (address_of looper item) (Some e) steps
  pub enters : EntersPort looper e withdraws.refused
  pub place_is : place ≡ length enters.noted.before

-- the item is posted, as the one of that position
pub record IsPosted (item : ItemData) (at position : ℕ) (looper : ℕ) (steps : List Step) : Type 0 where
  pub at_is : at ≡ looper
  pub enters : EntersPort looper (event.Written position item) steps

-- the port refuses it: for want of room only where the post does not wait for it
pub record IsPostRefused (waits : Bool) (at place : ℕ) (why : KitError) (looper : ℕ) (steps : List Step) : Type 0 where
  pub at_is : at ≡ looper
  pub e : PortEvent
  pub why_is : error_of e ≡ Some why
  pub at_once : why ≡ error.WouldBlock → waits ≡ false
  pub enters : EntersPort looper e steps
  pub place_is : place ≡ length enters.noted.before

-- its handlers are edited, and that is answered
pub record IsEdited (l : Lock) (at place : ℕ) (answer : EditAnswer) (looper : ℕ) (steps : List Step) : Type 0 where
  pub at_is : at ≡ looper
  pub edits : EditsAt looper l.edit answer place steps

-- ---- each line
-- a hey line: a slot, an item and its reply, or the refusal; no team fits
abbrev pub IsHeyLine : List AppHead → List Step → Hey → Outcome → Told → List Step → Type 0
IsHeyLine heads so_far h (came.Replied slot) (told.Reply message) steps = FindingThrough so_far heads h.app 0 (IsAnswered (hey_item h) slot message) steps
IsHeyLine heads so_far h (came.SendRefused looper place why) (told.Refused e) steps = (e ≡ why) × FindingThrough so_far heads h.app 0 (IsRefused (hey_item h) looper place why) steps
IsHeyLine heads so_far h (came.NoTeam place) told.NoTeam steps = FindsAt heads h.app None place steps
IsHeyLine heads so_far h _ _ steps = ⊥

abbrev pub IsPostLine : List AppHead → List Step → Post → Outcome → Told → List Step → Type 0
IsPostLine heads so_far p (came.Posted looper position) told.Posted steps = FindingThrough so_far heads p.app p.looper (IsPosted (post_item p) looper position) steps
IsPostLine heads so_far p (came.SendRefused looper place why) (told.Refused e) steps = (e ≡ why) × FindingThrough so_far heads p.app p.looper (IsPostRefused p.waits looper place why) steps
IsPostLine heads so_far p (came.NoTeam place) told.NoTeam steps = FindsAt heads p.app None place steps
IsPostLine heads so_far p (came.NoLooper place) told.NoLooper steps = FindingNone heads p.app p.looper place steps
IsPostLine heads so_far p _ _ steps = ⊥

abbrev pub IsLockLine : List AppHead → List Step → Lock → Outcome → Told → List Step → Type 0
IsLockLine heads so_far l (came.Edited looper place) (told.Edit answer) steps = FindingThrough so_far heads l.app l.looper (IsEdited l looper place answer) steps
IsLockLine heads so_far l (came.NoTeam place) told.NoTeam steps = FindsAt heads l.app None place steps
IsLockLine heads so_far l (came.NoLooper place) told.NoLooper steps = FindingNone heads l.app l.looper place steps
IsLockLine heads so_far l _ _ steps = ⊥

abbrev pub IsLine : List AppHead → List Step → SessionLine → Outcome → Told → List Step → Type 0
IsLine heads so_far (line.Hey h) o t steps = IsHeyLine heads so_far h o t steps
IsLine heads so_far (line.Post p) o t steps = IsPostLine heads so_far p o t steps
IsLine heads so_far (line.Lock l) o t steps = IsLockLine heads so_far l o t steps

-- of the first lines, one after the other, each has its outcome, what is told of it, and what was done for it
abbrev pub AreLines : List AppHead → List Step → List SessionLine → List Outcome → List Told → List (List Step) → Type 0
AreLines heads so_far lines [] [] [] = Unit {0}
AreLines heads so_far (l ∷ lines) (o ∷ outcomes) (t ∷ tolds) (block ∷ blocks) = IsLine heads so_far l o t block × AreLines heads (so_far ++ block) lines outcomes tolds blocks
AreLines heads so_far _ _ _ _ = ⊥

-- ---- want of memory
-- nothing was done; or a team with that looper was found, and then no memory for its door, or this in vain behind it
abbrev pub Cuts : List Step → List AppHead → AppWord → ℕ → (ℕ → List Step → Type 0) → List Step → Type 0
Cuts so_far heads word place InVain steps =
    (steps ≡ []) ⊎ FindingLooper heads word place (λ (looper : ℕ) (rest : List Step). LacksDoor so_far looper rest ⊎ Through so_far looper (InVain looper) rest) steps

abbrev pub IsNothing : List Step → Type 0
IsNothing steps = steps ≡ []

-- a hey line: its ask was in vain
abbrev pub CutsHey : List AppHead → List Step → Hey → List Step → Type 0
CutsHey heads so_far h steps = Cuts so_far heads h.app 0 (λ looper. AsksInVain (address_of looper (hey_item h)) (hey_item h)) steps

-- a post and an edit: they made no entry
abbrev pub CutsPost : List AppHead → List Step → Post → List Step → Type 0
CutsPost heads so_far p steps = Cuts so_far heads p.app p.looper (λ looper. IsNothing) steps

abbrev pub CutsLock : List AppHead → List Step → Lock → List Step → Type 0
CutsLock heads so_far l steps = Cuts so_far heads l.app l.looper (λ looper. IsNothing) steps

-- what a line may have done that found no memory
abbrev pub IsCutLine : List AppHead → List Step → SessionLine → List Step → Type 0
IsCutLine heads so_far (line.Hey h) steps = CutsHey heads so_far h steps
IsCutLine heads so_far (line.Post p) steps = CutsPost heads so_far p steps
IsCutLine heads so_far (line.Lock l) steps = CutsLock heads so_far l steps
