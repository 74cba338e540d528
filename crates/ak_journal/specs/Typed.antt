-- What is true of an entry by its type: its numbers are in their ranges, its bytes are bytes, and its item is one.
use Rattle.std.specs.Prelude.{◌↔◌}
use Rattle.std.specs.List.{AllByRecursion}
use Rattle.ak_flatten.specs.Laws.{AreBytes}
use Rattle.ak_action.specs.declared.answer.AnswerWord.{AnswerWord}
use Rattle.ak_action.specs.declared.answer.AnswerWord.TheVariants as word
use Rattle.ak_port.specs.declared.reply_entry.ReplyEvent.{ReplyEvent}
use Rattle.ak_port.specs.declared.reply_entry.ReplyEvent.TheVariants as book
use Rattle.ak_desk.specs.declared.entry.DeskEvent.{DeskEvent}
use Rattle.ak_desk.specs.declared.entry.DeskEvent.TheVariants as desk
use Rattle.ak_desk.specs.declared.entry.Edit.{Edit}
use Rattle.ak_desk.specs.declared.entry.Edit.TheVariants as edit
use Rattle.ak_desk.specs.declared.entry.EditAnswer.{EditAnswer}
use Rattle.ak_desk.specs.declared.entry.EditAnswer.TheVariants as answer
use Rattle.ak_roster.specs.declared.entry.RosterEvent.{RosterEvent}
use Rattle.ak_roster.specs.declared.entry.RosterEvent.TheVariants as roster
use Rattle.ak_journal.specs.declared.entry.Entry.{Entry}
use Rattle.ak_journal.specs.declared.entry.Event.{Event}
use Rattle.ak_journal.specs.declared.entry.Event.TheVariants as event
use Rattle.ak_journal.specs.declared.entry.ObjectName.{ObjectName}
use Rattle.ak_journal.specs.declared.entry.ObjectName.TheVariants as object
use Rattle.ak_journal.specs.Legible.{Fits32, Fits64, FitsFind, FitsLaunch, FitsRoute, FitsToken, IsLegible, IsLegiblePort}
use Rattle.ak_journal.specs.Plain.{IsPlain}

abbrev pub IsTypedBook : ReplyEvent → Type 0
IsTypedBook (book.Opened n) = Fits64 n
IsTypedBook (book.Filled n flat) = Fits64 n × AreBytes flat
IsTypedBook (book.Cancelled n) = Fits64 n
IsTypedBook (book.Taken n) = Fits64 n

abbrev pub IsTypedRoster : RosterEvent → Type 0
IsTypedRoster (roster.Launch word outcome) = FitsLaunch outcome
IsTypedRoster (roster.Find word outcome) = FitsFind outcome
IsTypedRoster (roster.Gone team) = Fits32 team
IsTypedRoster (roster.Door looper) = Fits32 looper

abbrev pub IsTypedAnswer : AnswerWord → Type 0
IsTypedAnswer (word.Error error) = Unit {0}
IsTypedAnswer (word.Reply flat) = AreBytes flat
IsTypedAnswer (word.Team team) = Fits32 team
IsTypedAnswer word.NoTeam = Unit {0}

abbrev pub IsTypedEdit : Edit → Type 0
IsTypedEdit (edit.Add name) = Unit {0}
IsTypedEdit (edit.Remove token) = Fits64 token
IsTypedEdit (edit.Next token next) = Fits64 token × FitsToken next
IsTypedEdit (edit.Prefer token) = FitsToken token

abbrev pub IsTypedEditAnswer : EditAnswer → Type 0
IsTypedEditAnswer answer.Done = Unit {0}
IsTypedEditAnswer (answer.Token token) = Fits64 token
IsTypedEditAnswer (answer.Refused refused) = Unit {0}
IsTypedEditAnswer answer.NoMemory = Unit {0}

abbrev pub IsTypedDesk : DeskEvent → Type 0
IsTypedDesk (desk.Dispatched position where_to answers quit) = Fits64 position × FitsRoute where_to × AllByRecursion IsTypedAnswer answers
IsTypedDesk (desk.Edited asked told) = IsTypedEdit asked × IsTypedEditAnswer told

abbrev pub IsTypedObject : ObjectName → Type 0
IsTypedObject (object.Port looper) = Fits32 looper
IsTypedObject (object.Desk looper) = Fits32 looper
IsTypedObject object.Book = Unit {0}
IsTypedObject object.Roster = Unit {0}

abbrev pub IsTypedEvent : Event → Type 0
IsTypedEvent (event.Port e) = IsLegiblePort e
IsTypedEvent (event.Desk e) = IsTypedDesk e
IsTypedEvent (event.Book e) = IsTypedBook e
IsTypedEvent (event.Roster e) = IsTypedRoster e

pub record IsTyped (entry : Entry) : Type 0 where
  pub stamp : Fits64 entry.stamp
  pub by : Fits32 entry.by.0
  pub object : IsTypedObject entry.object
  pub event : IsTypedEvent entry.event

-- a legible entry is a plain one that is of its type
abbrev pub PlainIsLegible : Type 0
PlainIsLegible = (entry : Entry) → IsLegible entry ↔ (IsPlain entry × IsTyped entry)
