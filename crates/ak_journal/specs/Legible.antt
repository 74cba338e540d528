-- Which entries are read back from their lines: those whose event is one of their object's, with words, names and flat texts of their forms.
use Rattle.std.specs.Prelude.{◌≡◌, ℕ, ◌^◌, ◌<◌, ◌≤◌, Bool, true, false, IsTrue, List, length, count_by, Option, Some, None}
use Rattle.std.specs.List.{AllByRecursion}
use Rattle.ak_base.specs.Word.{is_word}
use Rattle.ak_input.specs.Written.{is_launched, is_looked_up}
use Rattle.ak_message.specs.Whole.{FitsAddress, FitsTarget}
use Rattle.ak_flatten.specs.Item.{ItemData, IsItem}
use Rattle.ak_flatten.specs.Laws.{AreBytes, first_fault}
use Rattle.ak_flatten.specs.declared.item.Duty.{Duty}
use Rattle.ak_flatten.specs.declared.item.Duty.TheVariants as duty
use Rattle.ak_action.specs.Limits.{action_limit, answer_word_limit}
use Rattle.ak_action.specs.declared.answer.AnswerWord.{AnswerWord}
use Rattle.ak_action.specs.declared.answer.AnswerWord.TheVariants as word
use Rattle.ak_handler.specs.declared.fault.HandlerFault.{HandlerFault}
use Rattle.ak_handler.specs.declared.fault.HandlerFault.TheVariants as fault
use Rattle.ak_port.specs.declared.port_entry.PortEvent.{PortEvent}
use Rattle.ak_port.specs.declared.port_entry.PortEvent.TheVariants as port
use Rattle.ak_port.specs.declared.reply_entry.ReplyEvent.{ReplyEvent}
use Rattle.ak_port.specs.declared.reply_entry.ReplyEvent.TheVariants as book
use Rattle.ak_desk.specs.declared.entry.DeskEvent.{DeskEvent}
use Rattle.ak_desk.specs.declared.entry.DeskEvent.TheVariants as desk
use Rattle.ak_desk.specs.declared.entry.Edit.{Edit}
use Rattle.ak_desk.specs.declared.entry.Edit.TheVariants as edit
use Rattle.ak_desk.specs.declared.entry.EditAnswer.{EditAnswer}
use Rattle.ak_desk.specs.declared.entry.EditAnswer.TheVariants as answer
use Rattle.ak_desk.specs.declared.entry.EntryRoute.{EntryRoute}
use Rattle.ak_desk.specs.declared.entry.EntryRoute.TheVariants as route
use Rattle.ak_roster.specs.declared.entry.FindOutcome.{FindOutcome}
use Rattle.ak_roster.specs.declared.entry.FindOutcome.TheVariants as find
use Rattle.ak_roster.specs.declared.entry.LaunchOutcome.{LaunchOutcome}
use Rattle.ak_roster.specs.declared.entry.LaunchOutcome.TheVariants as launch
use Rattle.ak_roster.specs.declared.entry.RosterEvent.{RosterEvent}
use Rattle.ak_roster.specs.declared.entry.RosterEvent.TheVariants as roster
use Rattle.ak_journal.specs.declared.entry.Entry.{Entry}
use Rattle.ak_journal.specs.declared.entry.Event.{Event}
use Rattle.ak_journal.specs.declared.entry.Event.TheVariants as event
use Rattle.ak_journal.specs.declared.entry.ObjectName.{ObjectName}
use Rattle.ak_journal.specs.declared.entry.ObjectName.TheVariants as object

-- ---- parts
abbrev pub Fits32 : ℕ → Type 0
Fits32 n = n < 2 ^ 32

abbrev pub Fits64 : ℕ → Type 0
Fits64 n = n < 2 ^ 64

-- the flat text of a message
abbrev pub IsFlat : List ℕ → Type 0
IsFlat flat = AreBytes flat × (first_fault flat ≡ None)

abbrev pub FitsDuty : Duty → Type 0
FitsDuty duty.None = Unit {0}
FitsDuty (duty.Slot n) = Fits64 n
FitsDuty (duty.Back address) = FitsAddress address

abbrev pub FitsToken : Option ℕ → Type 0
FitsToken None = Unit {0}
FitsToken (Some token) = Fits64 token

-- ---- ports
-- every item that exists is so
pub record IsLegibleItem (item : ItemData) : Type 0 where
  pub target : FitsTarget item.target
  pub team : Fits32 item.team
  pub owed : FitsDuty item.duty
  pub popped : Fits32 item.popped
  pub bytes : AreBytes item.flat
  pub is_item : IsItem item

abbrev pub IsLegiblePort : PortEvent → Type 0
IsLegiblePort (port.Made capacity life) = Fits32 capacity × Fits32 life
IsLegiblePort (port.Written position item) = Fits64 position × IsLegibleItem item
IsLegiblePort port.Full = Unit {0}
IsLegiblePort port.Refused = Unit {0}
IsLegiblePort port.Spent = Unit {0}
IsLegiblePort (port.Took k) = Fits32 k
IsLegiblePort (port.Rest k) = Fits32 k
IsLegiblePort port.Shut = Unit {0}

-- ---- the reply book
abbrev pub IsLegibleBook : ReplyEvent → Type 0
IsLegibleBook (book.Opened n) = Fits64 n
IsLegibleBook (book.Filled n flat) = Fits64 n × IsFlat flat
IsLegibleBook (book.Cancelled n) = Fits64 n
IsLegibleBook (book.Taken n) = Fits64 n

-- ---- the roster
abbrev pub FitsLaunch : LaunchOutcome → Type 0
FitsLaunch (launch.Started description team first) = Fits32 description × Fits32 team × Fits32 first
FitsLaunch (launch.AlreadyRunning team) = Fits32 team
FitsLaunch launch.NotFound = Unit {0}
FitsLaunch launch.Limit = Unit {0}

abbrev pub FitsFind : FindOutcome → Type 0
FitsFind (find.Team team) = Fits32 team
FitsFind find.NoTeam = Unit {0}

abbrev pub IsLegibleRoster : RosterEvent → Type 0
IsLegibleRoster (roster.Launch word outcome) = IsTrue (is_launched word) × FitsLaunch outcome
IsLegibleRoster (roster.Find word outcome) = IsTrue (is_looked_up word) × FitsFind outcome
IsLegibleRoster (roster.Gone team) = Fits32 team
IsLegibleRoster (roster.Door looper) = Fits32 looper

-- ---- desks
abbrev pub FitsRoute : EntryRoute → Type 0
FitsRoute (route.To token) = Fits64 token
FitsRoute route.Skipped = Unit {0}
FitsRoute route.Dropped = Unit {0}
FitsRoute route.NotUnderstood = Unit {0}
FitsRoute (route.Forward looper) = Fits32 looper
FitsRoute route.NoMemory = Unit {0}

abbrev pub IsLegibleAnswer : AnswerWord → Type 0
IsLegibleAnswer (word.Error error) = Unit {0}
IsLegibleAnswer (word.Reply flat) = IsFlat flat
IsLegibleAnswer (word.Team team) = Fits32 team
IsLegibleAnswer word.NoTeam = Unit {0}

abbrev pub is_reply : AnswerWord → Bool
is_reply (word.Error error) = false
is_reply (word.Reply flat) = true
is_reply (word.Team team) = false
is_reply word.NoTeam = false

-- two words for each action at most, of which one may be a reply
pub record AreLegibleAnswers (answers : List AnswerWord) : Type 0 where
  pub each : AllByRecursion IsLegibleAnswer answers
  pub few : length answers ≤ answer_word_limit
  pub few_replies : count_by is_reply answers ≤ action_limit

abbrev pub IsLegibleEdit : Edit → Type 0
IsLegibleEdit (edit.Add name) = is_word name ≡ true
IsLegibleEdit (edit.Remove token) = Fits64 token
IsLegibleEdit (edit.Next token next) = Fits64 token × FitsToken next
IsLegibleEdit (edit.Prefer token) = FitsToken token

abbrev pub IsRefusal : HandlerFault → Type 0
IsRefusal fault.NameInUse = Unit {0}
IsRefusal fault.HandlerLimit = Unit {0}
IsRefusal fault.BadHandler = Unit {0}
IsRefusal fault.IsLooper = Unit {0}
IsRefusal fault.ChainLoop = Unit {0}
IsRefusal fault.NoMemory = ⊥

-- an edit that found no memory makes no entry
abbrev pub IsLegibleEditAnswer : EditAnswer → Type 0
IsLegibleEditAnswer answer.Done = Unit {0}
IsLegibleEditAnswer (answer.Token token) = Fits64 token
IsLegibleEditAnswer (answer.Refused refused) = IsRefusal refused
IsLegibleEditAnswer answer.NoMemory = ⊥

abbrev pub IsLegibleDesk : DeskEvent → Type 0
IsLegibleDesk (desk.Dispatched position where_to answers quit) = Fits64 position × FitsRoute where_to × AreLegibleAnswers answers
IsLegibleDesk (desk.Edited asked told) = IsLegibleEdit asked × IsLegibleEditAnswer told

-- ---- entries
-- the event is one of the object's
abbrev pub IsLegibleAt : ObjectName → Event → Type 0
IsLegibleAt (object.Port looper) (event.Port e) = Fits32 looper × IsLegiblePort e
IsLegibleAt (object.Desk looper) (event.Desk e) = Fits32 looper × IsLegibleDesk e
IsLegibleAt object.Book (event.Book e) = IsLegibleBook e
IsLegibleAt object.Roster (event.Roster e) = IsLegibleRoster e
IsLegibleAt _ _ = ⊥

pub record IsLegible (entry : Entry) : Type 0 where
  pub stamp : Fits64 entry.stamp
  pub by : Fits32 entry.by.0
  pub done : IsLegibleAt entry.object entry.event
