-- The words of what happened at a desk.
use Rattle.std.specs.Prelude.{ℕ, Bool, true, false, List, [], ◌∷◌, ◌++◌, map, codes}
use Rattle.std.specs.Fmt.{decimal}
use Rattle.ak_base.specs.Error.{name_of}
use Rattle.ak_base.specs.declared.error.KitError.TheVariants as e
use Rattle.ak_action.specs.declared.answer.AnswerWord.{AnswerWord}
use Rattle.ak_action.specs.declared.answer.AnswerWord.TheVariants as word
use Rattle.ak_desk.specs.declared.entry.DeskEvent.{DeskEvent}
use Rattle.ak_desk.specs.declared.entry.DeskEvent.TheVariants as event
use Rattle.ak_desk.specs.declared.entry.Edit.{Edit}
use Rattle.ak_desk.specs.declared.entry.Edit.TheVariants as edit
use Rattle.ak_desk.specs.declared.entry.EditAnswer.{EditAnswer}
use Rattle.ak_desk.specs.declared.entry.EditAnswer.TheVariants as answer
use Rattle.ak_desk.specs.declared.entry.EntryRoute.{EntryRoute}
use Rattle.ak_desk.specs.declared.entry.EntryRoute.TheVariants as route
use Rattle.ak_print.specs.Told.{error_of}
use Rattle.ak_journal.specs.Parts.{flat_text, token_text}

-- where the message went
abbrev pub route_words : EntryRoute → List (List ℕ)
route_words (route.To token) = codes "to" ∷ decimal token ∷ []
route_words route.Skipped = codes "skipped" ∷ []
route_words route.Dropped = codes "dropped" ∷ []
route_words route.NotUnderstood = codes "not-understood" ∷ []
route_words (route.Forward looper) = codes "forward" ∷ decimal looper ∷ []
route_words route.NoMemory = codes "no-memory" ∷ []

-- whether the looper is to end
abbrev pub quit_words : Bool → List (List ℕ)
quit_words true = codes "quit" ∷ []
quit_words false = []

-- what an action came to
abbrev pub answer_text : AnswerWord → List ℕ
answer_text (word.Error error) = name_of error
answer_text (word.Reply flat) = codes "reply:" ++ flat_text flat
answer_text (word.Team team) = codes "team:" ++ decimal team
answer_text word.NoTeam = codes "no-team"

-- an edit, as in a statement
abbrev pub edit_words : Edit → List (List ℕ)
edit_words (edit.Add name) = codes "add" ∷ name ∷ []
edit_words (edit.Remove token) = codes "remove" ∷ decimal token ∷ []
edit_words (edit.Next token next) = codes "next" ∷ decimal token ∷ token_text next ∷ []
edit_words (edit.Prefer token) = codes "prefer" ∷ token_text token ∷ []

-- what it came to
abbrev pub edit_answer_text : EditAnswer → List ℕ
edit_answer_text answer.Done = name_of e.Ok
edit_answer_text (answer.Token token) = codes "token:" ++ decimal token
edit_answer_text (answer.Refused fault) = name_of (error_of fault)
edit_answer_text answer.NoMemory = name_of e.NoMemory

abbrev pub desk_words : DeskEvent → List (List ℕ)
desk_words (event.Dispatched position where_to answers quit) =
    codes "dispatched" ∷ decimal position ∷ (route_words where_to ++ quit_words quit ++ map answer_text answers)
desk_words (event.Edited asked told) = codes "edited" ∷ (edit_words asked ++ edit_answer_text told ∷ [])
