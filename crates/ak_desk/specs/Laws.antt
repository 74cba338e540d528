-- What holds of all desks.
use Rattle.std.specs.Prelude.{◌≡◌, ℕ, ◌<◌, ◌≤◌, Bool, false, List, [], ◌∷◌, ◌++◌, length, codes, All, Option, None, Some}
use Rattle.ak_base.specs.declared.error.KitError.{KitError}
use Rattle.ak_base.specs.declared.error.KitError.TheVariants as error
use Rattle.ak_base.specs.Thread.{looper_thread}
use Rattle.ak_flatten.specs.Item.{ItemData}
use Rattle.ak_message.specs.declared.kind.Kind.{Kind}
use Rattle.ak_message.specs.Message.{FieldData, MessageData, ValueData, depth_of_value, kind_of}
use Rattle.ak_turn.specs.declared.clock.Clock.{Clock}
use Rattle.ak_turn.specs.Entries.{made_by}
use Rattle.ak_turn.specs.Seats.{IsGiven, at_leisure, entered_by}
use Rattle.ak_message.specs.Limits.{value_limit, depth_limit}
use Rattle.ak_action.specs.declared.answer.Answer.{Answer}
use Rattle.ak_action.specs.declared.answer.Want.{Want}
use Rattle.ak_action.specs.declared.state.DeskState.{DeskState}
use Rattle.ak_action.specs.Building.{held}
use Rattle.ak_action.specs.Doing.{row_of}
use Rattle.ak_handler.specs.declared.fault.HandlerFault.{HandlerFault}
use Rattle.ak_action.specs.declared.answer.AnswerWord.{AnswerWord}
use Rattle.ak_action.specs.declared.answer.AnswerWord.TheVariants as word
use Rattle.ak_action.specs.Limits.{suite_limit}
use Rattle.ak_desk.specs.declared.entry.DeskEvent.TheVariants as event
use Rattle.ak_desk.specs.declared.entry.Edit.{Edit}
use Rattle.ak_desk.specs.declared.entry.EditAnswer.TheVariants as answered
use Rattle.ak_desk.specs.declared.entry.EntryRoute.{EntryRoute}
use Rattle.ak_desk.specs.declared.entry.EntryRoute.TheVariants as went
use Rattle.ak_desk.specs.declared.made.Made.{Made}
use Rattle.ak_desk.specs.BuiltIns.{looper_suites, suites_of}
use Rattle.ak_desk.specs.Desk.{HasDispatched, HasGivenUp}
use Rattle.ak_desk.specs.Dispatch.{entry_route}
use Rattle.ak_desk.specs.Entry.{EntryData}
use Rattle.ak_desk.specs.Machine.{DeskStep, DispatchStep, Replays, Replies, StepReplies, counted, dispatches, gave_up}
use Rattle.ak_desk.specs.Place.{routed_of}
use Rattle.ak_desk.specs.Replies.{error_field, error_reply, none_reply, reply_with, values_reply}
use Rattle.ak_desk.specs.Shared.{DeskSeat, HasDispatchedThere, HasGivenUpThere, IsAtDesk, by_number}

-- ---- every list that the machine allows
-- an entry stands on the state that those before it leave, and those behind it on the state that it leaves
pub record StandsBetween (looper : ℕ) (s : DeskState) (before : List EntryData) (entry : EntryData) (behind : List EntryData) (t : DeskState) : Type 0 where
  pub meets : DeskState
  pub leaves : DeskState
  pub before_it : Replays looper 0 s before meets
  pub step : DeskStep looper (dispatches before) meets entry leaves
  pub behind_it : Replays looper (counted (dispatches before) entry.plain.event) leaves behind t

abbrev pub EachEntryFollows : Type 0
EachEntryFollows =
    (looper : ℕ) (s : DeskState) (before : List EntryData) (entry : EntryData) (behind : List EntryData) (t : DeskState)
    → Replays looper 0 s (before ++ entry ∷ behind) t
    → StandsBetween looper s before entry behind t

-- a dispatched message has as its position how many were dispatched before it: from 0 on, without a gap
abbrev pub PositionsCount : Type 0
PositionsCount =
    (looper : ℕ) (s : DeskState) (before : List EntryData) (entry : EntryData) (behind : List EntryData) (t : DeskState)
    (position : ℕ) (r : EntryRoute) (words : List AnswerWord) (quit : Bool)
    → Replays looper 0 s (before ++ entry ∷ behind) t
    → entry.plain.event ≡ event.Dispatched position r words quit
    → position ≡ dispatches before

abbrev pub RefusedEditsChangeNothing : Type 0
RefusedEditsChangeNothing =
    (looper n : ℕ) (s : DeskState) (entry : EntryData) (t : DeskState) (e : Edit) (f : HandlerFault)
    → DeskStep looper n s entry t
    → entry.plain.event ≡ event.Edited e (answered.Refused f)
    → t ≡ s

-- one list leads from one state to one alone
abbrev pub StateIsOne : Type 0
StateIsOne =
    (looper n : ℕ) (s : DeskState) (entries : List EntryData) (t u : DeskState) → Replays looper n s entries t → Replays looper n s entries u → t ≡ u

-- ---- an entry tells what it came to
-- exactly one reply goes with the entry
pub record HasOneReply (s : DeskState) (r : EntryRoute) (item : Option ItemData) (words : List AnswerWord) : Type 0 where
  pub reply : Option MessageData
  pub replies : StepReplies s r item words reply
  pub alone : (other : Option MessageData) → StepReplies s r item words other → other ≡ reply

-- the state before, where the message went, the item and the words tell the quit mark, the state after and the reply
abbrev pub EntryTellsReply : Type 0
EntryTellsReply =
    (s : DeskState) (r : EntryRoute) (item : Option ItemData) (words : List AnswerWord) (quit quit' : Bool) (t t' : DeskState)
    → DispatchStep s r item words quit t
    → DispatchStep s r item words quit' t'
    → (quit ≡ quit') × (t ≡ t') × HasOneReply s r item words

-- what the word of a message that was sent on may be: it waits for room, so that its port is full is none
abbrev pub TellsForward : KitError → Type 0
TellsForward error.Ok = Unit {0}
TellsForward error.BadPortId = Unit {0}
TellsForward error.Spent = Unit {0}
TellsForward error.NoMemory = Unit {0}
TellsForward _ = ⊥

-- and the reply with each: none, the refusal, or NONE without memory
abbrev pub reply_of_error : KitError → Option MessageData
reply_of_error error.Ok = None
reply_of_error error.BadPortId = Some (error_reply error.BadPortId)
reply_of_error error.Spent = Some (error_reply error.Spent)
reply_of_error _ = Some none_reply

pub record ToldByWord (words : List AnswerWord) (reply : Option MessageData) : Type 0 where
  pub error : KitError
  pub may : TellsForward error
  pub words_are : words ≡ word.Error error ∷ []
  pub reply_is : reply ≡ reply_of_error error

-- a message that is routed so has the one word, which tells its reply
abbrev pub ForwardTellsReply : Type 0
ForwardTellsReply =
    (s : DeskState) (looper : ℕ) (item : ItemData) (words : List AnswerWord) (reply : Option MessageData)
    → went.Forward looper ≡ entry_route s (routed_of s item).route
    → Replies s item words reply
    → ToldByWord words reply

-- ---- what a looper knows by its own entries
-- the dispatches are among the entries that its own thread made, and so is the one that was given up
abbrev pub DispatchesAreOwn : Type 0
DispatchesAreOwn =
    (looper : ℕ) (s : DeskState) (entries : List EntryData) (t : DeskState)
    → Replays looper 0 s entries t
    → (dispatches entries ≡ dispatches (made_by by_number (looper_thread looper) entries)) × (gave_up entries ≡ gave_up (made_by by_number (looper_thread looper) entries))

-- ---- a turn of the looper's own thread
-- what holds by what `lock` and `finish` say of the seats, where the desk has the first list at the one and the second at the other
abbrev pub InATurn : Clock → DeskState → List EntryData → List EntryData → DeskSeat → DeskSeat → DeskSeat → Type 0 → Type 0
InATurn clock opening entries entries' seat given seat' Follows =
    seat.turn ≡ false
    → seat.thread ≡ clock.thread.0
    → seat.opening ≡ Some opening
    → IsGiven by_number seat given
    → entries ≡ given.front
    → ((entry : EntryData) → entries' ≡ given.front ++ entry ∷ [] → seat' ≡ at_leisure (entered_by given entry))
    → Follows

-- a message that is begun and ended between `lock` and `finish` is dispatched there, by what those two say of the seats
abbrev pub ATurnDispatches : Type 0
ATurnDispatches =
    (clock clock' : Clock) (position : ℕ) (item : ItemData) (asked : List Want) (heard : List Answer) (made : Made) (opening before after : DeskState) (entries entries' : List EntryData) (seat given seat' : DeskSeat)
    → HasDispatched clock clock' position item asked heard opening before after entries entries' made
    → InATurn clock opening entries entries' seat given seat' (HasDispatchedThere clock clock' position item asked heard made seat seat' × IsAtDesk seat')

-- so it is with a message that is given up there
abbrev pub ATurnGivesUp : Type 0
ATurnGivesUp =
    (clock clock' : Clock) (position : ℕ) (made : Made) (opening state : DeskState) (entries entries' : List EntryData) (seat given seat' : DeskSeat)
    → HasGivenUp clock clock' position opening state entries entries' made
    → InATurn clock opening entries entries' seat given seat' (HasGivenUpThere clock clock' position made seat seat' × IsAtDesk seat')

-- ---- nothing that fits is left out
-- the field of these values, where there are any
abbrev pub result_of : List ValueData → List FieldData
result_of [] = []
result_of (v ∷ vs) = (record { name = codes "result"; kind = kind_of v; values = v ∷ vs }) ∷ []

-- of at most 255 values of one kind, none too deep for a message, a reply has all, in order
abbrev pub AllValuesAreTold : Type 0
AllValuesAreTold =
    (kind : Kind) (vs : List ValueData) → length vs ≤ value_limit → All (λ v. kind_of v ≡ kind) vs → All (λ v. depth_of_value v < depth_limit) vs
    → values_reply (Some vs) ≡ reply_with (result_of vs ++ error_field error.Ok ∷ [])

-- of at most 16 suites all are told, before those of what the handler is
abbrev pub AllSuitesAreTold : Type 0
AllSuitesAreTold =
    (s : DeskState) (token : ℕ) → length (row_of s token).suites ≤ suite_limit
    → suites_of s token ≡ (row_of s token).suites ++ codes "suite/vnd.Be-handler" ∷ looper_suites s token

-- a value that is not too deep for a message is held
abbrev pub ShallowIsHeld : Type 0
ShallowIsHeld = (v : ValueData) → depth_of_value v < depth_limit → held (Some v) ≡ v ∷ []
