-- Which entries a run makes: the event is one of the object's, and its words, names, flat texts and answers are of their forms. What else is
-- true of legible entries is true of all that are of the entry's type (Typed.antt).
use Rattle.std.specs.Prelude.{◌≡◌, ◌≤◌, IsTrue, List, length, count_by, None}
use Rattle.std.specs.List.{AllByRecursion}
use Rattle.ak_input.specs.Written.{is_launched, is_looked_up}
use Rattle.ak_flatten.specs.Laws.{first_fault}
use Rattle.ak_action.specs.Limits.{action_limit, answer_word_limit}
use Rattle.ak_action.specs.declared.answer.AnswerWord.{AnswerWord}
use Rattle.ak_action.specs.declared.answer.AnswerWord.TheVariants as word
use Rattle.ak_port.specs.declared.reply_entry.ReplyEvent.{ReplyEvent}
use Rattle.ak_port.specs.declared.reply_entry.ReplyEvent.TheVariants as book
use Rattle.ak_desk.specs.declared.entry.DeskEvent.{DeskEvent}
use Rattle.ak_desk.specs.declared.entry.DeskEvent.TheVariants as desk
use Rattle.ak_desk.specs.declared.entry.EditAnswer.{EditAnswer}
use Rattle.ak_desk.specs.declared.entry.EditAnswer.TheVariants as answer
use Rattle.ak_desk.specs.Plain.{is_plain_edit}
use Rattle.ak_roster.specs.declared.entry.RosterEvent.{RosterEvent}
use Rattle.ak_roster.specs.declared.entry.RosterEvent.TheVariants as roster
use Rattle.ak_journal.specs.declared.entry.Entry.{Entry}
use Rattle.ak_journal.specs.declared.entry.Event.{Event}
use Rattle.ak_journal.specs.declared.entry.Event.TheVariants as event
use Rattle.ak_journal.specs.declared.entry.ObjectName.{ObjectName}
use Rattle.ak_journal.specs.declared.entry.ObjectName.TheVariants as object
use Rattle.ak_journal.specs.Legible.{IsRefusal, is_reply}

-- a reply that fills a slot is the flat text of a message
abbrev pub IsPlainBook : ReplyEvent → Type 0
IsPlainBook (book.Opened n) = Unit {0}
IsPlainBook (book.Filled n flat) = first_fault flat ≡ None
IsPlainBook (book.Cancelled n) = Unit {0}
IsPlainBook (book.Taken n) = Unit {0}

-- a path or a signature is launched; a number of a team, a signature or a name is looked up
abbrev pub IsPlainRoster : RosterEvent → Type 0
IsPlainRoster (roster.Launch word outcome) = IsTrue (is_launched word)
IsPlainRoster (roster.Find word outcome) = IsTrue (is_looked_up word)
IsPlainRoster (roster.Gone team) = Unit {0}
IsPlainRoster (roster.Door looper) = Unit {0}

abbrev pub IsPlainAnswer : AnswerWord → Type 0
IsPlainAnswer (word.Error error) = Unit {0}
IsPlainAnswer (word.Reply flat) = first_fault flat ≡ None
IsPlainAnswer (word.Team team) = Unit {0}
IsPlainAnswer word.NoTeam = Unit {0}

-- two words for each action at most, of which one may be a reply
pub record ArePlainAnswers (answers : List AnswerWord) : Type 0 where
  pub each : AllByRecursion IsPlainAnswer answers
  pub few : length answers ≤ answer_word_limit
  pub few_replies : count_by is_reply answers ≤ action_limit

-- an edit that found no memory makes no entry
abbrev pub IsPlainEditAnswer : EditAnswer → Type 0
IsPlainEditAnswer answer.Done = Unit {0}
IsPlainEditAnswer (answer.Token token) = Unit {0}
IsPlainEditAnswer (answer.Refused refused) = IsRefusal refused
IsPlainEditAnswer answer.NoMemory = ⊥

abbrev pub IsPlainDesk : DeskEvent → Type 0
IsPlainDesk (desk.Dispatched position where_to answers quit) = ArePlainAnswers answers
IsPlainDesk (desk.Edited asked told) = IsTrue (is_plain_edit asked) × IsPlainEditAnswer told

-- the event is one of the object's; of a port's the types tell all
abbrev pub IsPlainAt : ObjectName → Event → Type 0
IsPlainAt (object.Port looper) (event.Port e) = Unit {0}
IsPlainAt (object.Desk looper) (event.Desk e) = IsPlainDesk e
IsPlainAt object.Book (event.Book e) = IsPlainBook e
IsPlainAt object.Roster (event.Roster e) = IsPlainRoster e
IsPlainAt _ _ = ⊥

pub record IsPlain (entry : Entry) : Type 0 where
  pub done : IsPlainAt entry.object entry.event
