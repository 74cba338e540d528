-- What a thread's steps have to be for its entries to be plain: what its words and its edits have to be, and what a desk's machine says of a dispatch
-- and of an edit's answer.
use Rattle.std.specs.Prelude.{IsTrue}
use Rattle.ak_desk.specs.declared.entry.DeskEvent.{DeskEvent}
use Rattle.ak_desk.specs.declared.entry.DeskEvent.TheVariants as desk
use Rattle.ak_diary.specs.Step.{Step, at_roster, at_desk}
use Rattle.ak_desk.specs.Plain.{is_plain_edit}
use Rattle.ak_journal.specs.Plain.{ArePlainAnswers, IsPlainEditAnswer, IsPlainRoster}

-- the edit is one that may be asked for
abbrev pub IsAsked : DeskEvent → Type 0
IsAsked (desk.Dispatched position where_to answers quit) = Unit {0}
IsAsked (desk.Edited asked told) = IsTrue (is_plain_edit asked)

-- the words of a dispatch, and the answer to an edit
abbrev pub IsTold : DeskEvent → Type 0
IsTold (desk.Dispatched position where_to answers quit) = ArePlainAnswers answers
IsTold (desk.Edited asked told) = IsPlainEditAnswer told

-- what the thread itself chose at the roster or at a desk
abbrev pub IsPlainStep : Step → Type 0
IsPlainStep (at_roster n) = IsPlainRoster n.entry.event
IsPlainStep (at_desk looper n) = IsAsked n.entry.plain.event
IsPlainStep _ = Unit {0}
