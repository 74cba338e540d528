-- What a looper's thread does for one want of a message that it carries out, by the answer that the message gets.
use Rattle.std.specs.Prelude.{◌≡◌, ◌<◌, ◌⊎◌, ℕ, Bool, true, false, List, [], ◌∷◌, ◌++◌, length, Option, None, Some}
use Rattle.ak_base.specs.declared.app_word.AppWord.{AppWord}
use Rattle.ak_message.specs.declared.address.Address.{Address}
use Rattle.ak_message.specs.declared.address.Target.TheVariants as target
use Rattle.ak_message.specs.Message.{MessageData}
use Rattle.ak_flatten.specs.declared.item.Duty.{Duty}
use Rattle.ak_flatten.specs.declared.item.Duty.TheVariants as duty
use Rattle.ak_flatten.specs.Item.{ItemData, spelled}
use Rattle.ak_flatten.specs.Limits.{flat_limit}
use Rattle.ak_flatten.specs.Spelling.{spelling}
use Rattle.ak_turn.specs.Noted.{Noted}
use Rattle.ak_roster.specs.declared.entry.RosterEntry.{RosterEntry}
use Rattle.ak_roster.specs.declared.entry.RosterEvent.TheVariants as roster_event
use Rattle.ak_roster.specs.declared.team.Running.{Running}
use Rattle.ak_roster.specs.Heads.{team_for}
use Rattle.ak_roster.specs.Machine.{find_of, state_of}
use Rattle.ak_port.specs.declared.port_entry.PortEntry.{PortEntry}
use Rattle.ak_port.specs.declared.port_entry.PortEvent.{PortEvent}
use Rattle.ak_port.specs.declared.port_entry.PortEvent.TheVariants as event
use Rattle.ak_port.specs.declared.reply_entry.ReplyEntry.{ReplyEntry}
use Rattle.ak_port.specs.declared.reply_entry.ReplyEvent.TheVariants as slot_event
use Rattle.ak_port.specs.Reply.{FillsWith, IsFilled}
use Rattle.ak_action.specs.declared.answer.Answer.{Answer}
use Rattle.ak_action.specs.declared.answer.Answer.TheVariants as answer
use Rattle.ak_action.specs.declared.answer.Want.{Want}
use Rattle.ak_action.specs.declared.answer.Want.TheVariants as want
use Rattle.ak_diary.specs.Looper.{LooperFacts, has_door}
use Rattle.ak_diary.specs.Step.{Step, at_roster, at_book, at_port, saw_book}

-- ---- single steps
-- one entry with that event, at the port of that looper
pub record EntersPort (looper : ℕ) (e : PortEvent) (steps : List Step) : Type 0 where
  pub noted : Noted PortEntry
  pub event_is : noted.entry.event ≡ e
  pub is : steps ≡ at_port looper noted ∷ []

-- the door of that looper, got at the roster
pub record GetsDoor (looper : ℕ) (steps : List Step) : Type 0 where
  pub noted : Noted RosterEntry
  pub event_is : noted.entry.event ≡ roster_event.Door looper
  pub is : steps ≡ at_roster noted ∷ []

-- the slot cancelled, or found to be filled
pub record EntersCancel (n : ℕ) (steps : List Step) : Type 0 where
  pub noted : Noted ReplyEntry
  pub event_is : noted.entry.event ≡ slot_event.Cancelled n
  pub is : steps ≡ at_book noted ∷ []

pub record FindsFilled (n : ℕ) (steps : List Step) : Type 0 where
  pub seen : List ReplyEntry
  pub filled : IsFilled n seen
  pub is : steps ≡ saw_book seen ∷ []

abbrev pub Cancels : ℕ → List Step → Type 0
Cancels n steps = EntersCancel n steps ⊎ FindsFilled n steps

-- ---- items
-- the item of a message that a looper of that team sends
abbrev pub sent_item : ℕ → Address → Duty → MessageData → ItemData
sent_item team to owed m = record { target = to.target; team = team; dropped = false; duty = owed; popped = 0; flat = spelling m }

-- what is owed for a post: a reply to that address, if there is one
abbrev pub owed_to : Option Address → Duty
owed_to None = duty.None
owed_to (Some address) = duty.Back address

-- the item sent on to another looper, with so many specifiers popped
abbrev pub forwarded_item : ItemData → ℕ → ItemData
forwarded_item item popped = record item { target = target.Token 0; popped = popped }

-- the message's flat text is longer than any item's
abbrev pub IsTooLong : MessageData → Type 0
IsTooLong m = flat_limit < length (spelling m)

-- ---- doors
module _ (l : LooperFacts) (so_far : List Step) where
  abbrev pub OpensFor : Bool → ℕ → List Step → Type 0
  OpensFor true looper steps = steps ≡ []
  OpensFor false looper steps = GetsDoor looper steps

  -- the thread has that looper's door, or gets it now
  abbrev pub Opens : ℕ → List Step → Type 0
  Opens looper steps = OpensFor (has_door l so_far looper) looper steps

  -- it does so, and then does P
  pub record Through (looper : ℕ) (P : List Step → Type 0) (steps : List Step) : Type 0 where
    pub door : List Step
    pub opens : Opens looper door
    pub rest : List Step
    pub then_does : P rest
    pub is : steps ≡ door ++ rest

  -- it found no memory for a door that it has not
  pub record LacksDoor (looper : ℕ) (steps : List Step) : Type 0 where
    pub without : has_door l so_far looper ≡ false
    pub is : steps ≡ []

-- ---- a running application is looked for
abbrev pub found_answer : Option Running → Answer
found_answer None = answer.NoTeam
found_answer (Some running) = answer.Team running.team running.first

module _ (l : LooperFacts) where
  -- one entry, and the answer is the machine's there
  pub record LooksUp (word : AppWord) (a : Answer) (steps : List Step) : Type 0 where
    pub noted : Noted RosterEntry
    pub event_is : noted.entry.event ≡ roster_event.Find word (find_of l.heads (state_of l.heads noted.before) word)
    pub answer_is : a ≡ found_answer (team_for l.heads (state_of l.heads noted.before).running word)
    pub is : steps ≡ at_roster noted ∷ []

  abbrev pub ServesFind : AppWord → Answer → List Step → Type 0
  ServesFind word answer.NoMemory steps = steps ≡ []
  ServesFind word a steps = LooksUp word a steps

-- ---- a post, which waits for no room
-- the entry that its answer tells; none where the message is too long, or memory is wanting
pub record PostsAs (to : Address) (m : MessageData) (e : PortEvent) (steps : List Step) : Type 0 where
  pub fits : ¬ (IsTooLong m)
  pub enters : EntersPort to.looper e steps

abbrev pub PostsSo : Address → MessageData → ItemData → Answer → List Step → Type 0
PostsSo to m item (answer.Written position) steps = PostsAs to m (event.Written position item) steps
PostsSo to m item answer.Full steps = PostsAs to m event.Full steps
PostsSo to m item answer.Closed steps = PostsAs to m event.Refused steps
PostsSo to m item answer.Spent steps = PostsAs to m event.Spent steps
PostsSo to m item answer.TooLong steps = IsTooLong m × (steps ≡ [])
PostsSo to m item answer.NoMemory steps = steps ≡ []
PostsSo to m item _ steps = ⊥

-- ---- an ask
-- a slot opened, the item written with the duty to fill it, and taken what it was filled with
pub record Converses (to : Address) (item : ItemData) (flat : List ℕ) (steps : List Step) : Type 0 where
  pub slot : ℕ
  pub position : ℕ
  pub opened : Noted ReplyEntry
  pub written : Noted PortEntry
  pub taken : Noted ReplyEntry
  pub opened_is : opened.entry.event ≡ slot_event.Opened slot
  pub written_is : written.entry.event ≡ event.Written position (record item { duty = duty.Slot slot })
  pub taken_is : taken.entry.event ≡ slot_event.Taken slot
  pub filled : FillsWith slot flat taken.before
  pub is : steps ≡ at_book opened ∷ at_port to.looper written ∷ at_book taken ∷ []

-- the item was not written: with that event, or without one for want of memory
abbrev pub IsRefusedBy : ℕ → Option PortEvent → List Step → Type 0
IsRefusedBy looper None steps = steps ≡ []
IsRefusedBy looper (Some e) steps = EntersPort looper e steps

-- a slot opened, and closed where the item was not written: with that event, or without one for want of memory
pub record Withdraws (to : Address) (e : Option PortEvent) (steps : List Step) : Type 0 where
  pub slot : ℕ
  pub opened : Noted ReplyEntry
  pub refused : List Step
  pub closing : List Step
  pub opened_is : opened.entry.event ≡ slot_event.Opened slot
  pub refused_is : IsRefusedBy to.looper e refused
  pub closes : Cancels slot closing
  pub is : steps ≡ at_book opened ∷ refused ++ closing

-- where memory was wanting: before all, for the item, or for the reply's message
pub data AsksInVain (to : Address) (item : ItemData) (steps : List Step) : Type 0 where
  before_all : steps ≡ [] → AsksInVain to item steps
  for_the_item : Withdraws to None steps → AsksInVain to item steps
  for_the_reply : (flat : List ℕ) → Converses to item flat steps → AsksInVain to item steps

pub record AsksFor (m : MessageData) (P : List Step → Type 0) (steps : List Step) : Type 0 where
  pub fits : ¬ (IsTooLong m)
  pub does : P steps

abbrev pub AsksSo : Address → MessageData → ItemData → Answer → List Step → Type 0
AsksSo to m item (answer.Reply flat message) steps = (message ≡ spelled flat) × AsksFor m (Converses to item flat) steps
AsksSo to m item answer.Closed steps = AsksFor m (Withdraws to (Some event.Refused)) steps
AsksSo to m item answer.Spent steps = AsksFor m (Withdraws to (Some event.Spent)) steps
AsksSo to m item answer.TooLong steps = IsTooLong m × (steps ≡ [])
AsksSo to m item answer.NoMemory steps = AsksInVain to item steps
AsksSo to m item _ steps = ⊥

-- ---- a message that is sent on
abbrev pub ForwardsSo : ℕ → ItemData → Answer → List Step → Type 0
ForwardsSo looper item (answer.Written position) steps = EntersPort looper (event.Written position item) steps
ForwardsSo looper item answer.Closed steps = EntersPort looper event.Refused steps
ForwardsSo looper item answer.Spent steps = EntersPort looper event.Spent steps
ForwardsSo looper item answer.NoMemory steps = steps ≡ []
ForwardsSo looper item _ steps = ⊥

-- ---- each want
module _ (l : LooperFacts) (so_far : List Step) where
  -- through the door; where memory is wanting, maybe for the door
  abbrev pub ThroughDoor : ℕ → Answer → (List Step → Type 0) → List Step → Type 0
  ThroughDoor looper answer.NoMemory P steps = LacksDoor l so_far looper steps ⊎ Through l so_far looper P steps
  ThroughDoor looper a P steps = Through l so_far looper P steps

  -- what is done for a want of that item's message, and what answer the message gets
  abbrev pub Serves : ItemData → Want → Answer → List Step → Type 0
  Serves item (want.Find word) a steps = ServesFind l word a steps
  Serves item (want.Post to m back) a steps = ThroughDoor to.looper a (PostsSo to m (sent_item l.team to (owed_to back) m) a) steps
  Serves item (want.Ask to m) a steps = ThroughDoor to.looper a (AsksSo to m (sent_item l.team to duty.None m) a) steps
  Serves item (want.Forward looper popped) a steps = ThroughDoor looper a (ForwardsSo looper (forwarded_item item popped) a) steps
  Serves item want.Done a steps = ⊥

module _ (l : LooperFacts) where
  -- what is done for all wants, one after the other
  abbrev pub ServesAll : List Step → ItemData → List Want → List Answer → List Step → Type 0
  ServesAll so_far item [] [] steps = steps ≡ []
  ServesAll so_far item (w ∷ asked) (a ∷ heard) steps =
      (first : List Step) × (rest : List Step) × (Serves l so_far item w a first) × (ServesAll (so_far ++ first) item asked heard rest) × (steps ≡ first ++ rest)
  ServesAll so_far item _ _ steps = ⊥
