-- What happened at a desk is read of its words.
use Rattle.std.proofs.Common.{◌≡◌, ℕ, Bool, true, false, leb, List, [], ◌∷◌, ◌++◌, length, Some, refl, append_assoc}
use Rattle.std.specs.Prelude.{codes, count_by, map}
use Rattle.std.specs.List.{AllByRecursion}
use Rattle.std.specs.Str.{bytes_eq}
use Rattle.std.proofs.lemmas.Bool.{and_from, le-leb}
use Rattle.ak_base.specs.Error.{name_of}
use Rattle.ak_base.specs.declared.error.KitError.{KitError}
use Rattle.ak_base.specs.declared.error.KitError.TheVariants as e
use Rattle.ak_action.specs.Limits.{action_limit, answer_word_limit}
use Rattle.ak_action.specs.declared.answer.AnswerWord.{AnswerWord}
use Rattle.ak_action.specs.declared.answer.AnswerWord.TheVariants as word
use Rattle.ak_handler.specs.declared.fault.HandlerFault.TheVariants as fault
use Rattle.ak_desk.specs.declared.entry.DeskEvent.{DeskEvent}
use Rattle.ak_desk.specs.declared.entry.DeskEvent.TheVariants as event
use Rattle.ak_desk.specs.declared.entry.Edit.{Edit}
use Rattle.ak_desk.specs.declared.entry.Edit.TheVariants as edit
use Rattle.ak_desk.specs.declared.entry.EditAnswer.{EditAnswer}
use Rattle.ak_desk.specs.declared.entry.EditAnswer.TheVariants as answer
use Rattle.ak_desk.specs.declared.entry.EntryRoute.{EntryRoute}
use Rattle.ak_desk.specs.declared.entry.EntryRoute.TheVariants as route
use Rattle.ak_journal.specs.DeskLine.{answer_text, desk_words, edit_answer_text, edit_words, quit_words, route_words}
use Rattle.ak_journal.specs.Legible.{AreLegibleAnswers, FitsRoute, IsLegibleAnswer, IsLegibleDesk, IsLegibleEdit, IsLegibleEditAnswer, is_reply}
use Rattle.ak_journal.specs.ReadDesk.{answer_of, answers_of, are_few, desk_event, edit_answer, edit_at, few_answers, quit_at, route_at}
use Rattle.ak_journal.proofs.Numbers.{token_again, u32_again, u64_again}
use Rattle.ak_journal.proofs.PortAgain.{flat_again}

-- ---- dispatches
route_again : (where_to : EntryRoute) (rest : List (List ℕ)) → FitsRoute where_to → route_at (route_words where_to ++ rest) ≡ Some (where_to, rest)
route_again (route.To token) rest fits = rw (u64_again token fits) refl
route_again route.Skipped rest fits = refl
route_again route.Dropped rest fits = refl
route_again route.NotUnderstood rest fits = refl
route_again (route.Forward looper) rest fits = rw (u32_again looper fits) refl
route_again route.NoMemory rest fits = refl

error_answer : (error : KitError) → (answer_of (name_of error) ≡ Some (word.Error error)) × (bytes_eq (name_of error) (codes "quit") ≡ false)
error_answer e.Ok = (refl, refl)
error_answer e.NoMemory = (refl, refl)
error_answer e.BadType = (refl, refl)
error_answer e.NameNotFound = (refl, refl)
error_answer e.BadIndex = (refl, refl)
error_answer e.BadPortId = (refl, refl)
error_answer e.WouldBlock = (refl, refl)
error_answer e.BadValue = (refl, refl)
error_answer e.BadHandler = (refl, refl)
error_answer e.NameInUse = (refl, refl)
error_answer e.DuplicateReply = (refl, refl)
error_answer e.BadScriptSyntax = (refl, refl)
error_answer e.AlreadyRunning = (refl, refl)
error_answer e.LaunchFailedAppNotFound = (refl, refl)
error_answer e.Spent = (refl, refl)
error_answer e.TooLong = (refl, refl)
error_answer e.Limit = (refl, refl)
error_answer e.ChainLoop = (refl, refl)
error_answer e.IsLooper = (refl, refl)
error_answer e.NoTeam = (refl, refl)

answer_again : (told : AnswerWord) → IsLegibleAnswer told → answer_of (answer_text told) ≡ Some told
answer_again (word.Error error) legible = (error_answer error).0
answer_again (word.Reply flat) legible = rw (flat_again flat legible.0, legible.1) refl
answer_again (word.Team team) legible = rw (u32_again team legible) refl
answer_again word.NoTeam legible = refl

answers_again : (answers : List AnswerWord) → AllByRecursion IsLegibleAnswer answers → answers_of (map answer_text answers) ≡ Some answers
answers_again [] legible = refl
answers_again (told ∷ answers) legible = rw (answer_again told legible.0, answers_again answers legible.1) refl

are_few_again : (answers : List AnswerWord) → AreLegibleAnswers answers → are_few answers ≡ true
are_few_again answers legible =
    and_from (leb (length answers) answer_word_limit) (leb (count_by is_reply answers) action_limit) (le-leb (length answers) answer_word_limit legible.few) (le-leb (count_by is_reply answers) action_limit legible.few_replies)

few_again : (answers : List AnswerWord) → AreLegibleAnswers answers → few_answers (map answer_text answers) ≡ Some answers
few_again answers legible = rw (answers_again answers legible.each, are_few_again answers legible) refl

-- no answer is the word `quit`
no_quit : (told : AnswerWord) → bytes_eq (answer_text told) (codes "quit") ≡ false
no_quit (word.Error error) = (error_answer error).1
no_quit (word.Reply flat) = refl
no_quit (word.Team team) = refl
no_quit word.NoTeam = refl

quit_again : (quit : Bool) (answers : List AnswerWord) → quit_at (quit_words quit ++ map answer_text answers) ≡ (quit, map answer_text answers)
quit_again true answers = refl
quit_again false [] = refl
quit_again false (told ∷ answers) = rw (no_quit told) refl

-- ---- edits
edit_again : (asked : Edit) (rest : List (List ℕ)) → IsLegibleEdit asked → edit_at (edit_words asked ++ rest) ≡ Some (asked, rest)
edit_again (edit.Add name) rest legible = rw legible refl
edit_again (edit.Remove token) rest legible = rw (u64_again token legible) refl
edit_again (edit.Next token next) rest legible = rw (u64_again token legible.0, token_again next legible.1) refl
edit_again (edit.Prefer token) rest legible = rw (token_again token legible) refl

edit_answer_again : (told : EditAnswer) → IsLegibleEditAnswer told → edit_answer (edit_answer_text told) ≡ Some told
edit_answer_again answer.Done legible = refl
edit_answer_again (answer.Token token) legible = rw (u64_again token legible) refl
edit_answer_again (answer.Refused fault.NameInUse) legible = refl
edit_answer_again (answer.Refused fault.HandlerLimit) legible = refl
edit_answer_again (answer.Refused fault.BadHandler) legible = refl
edit_answer_again (answer.Refused fault.IsLooper) legible = refl
edit_answer_again (answer.Refused fault.ChainLoop) legible = refl
edit_answer_again (answer.Refused fault.NoMemory) legible = absurd legible
edit_answer_again answer.NoMemory legible = absurd legible

-- ---- events
pub desk_again : (what : DeskEvent) → IsLegibleDesk what → desk_event (desk_words what) ≡ Some what
desk_again (event.Dispatched position where_to answers quit) legible =
    rw (append_assoc (route_words where_to) (quit_words quit) (map answer_text answers), u64_again position legible.0, route_again where_to (quit_words quit ++ map answer_text answers) legible.1, quit_again quit answers, few_again answers legible.2) refl
desk_again (event.Edited asked told) legible = rw (edit_again asked (edit_answer_text told ∷ []) legible.0, edit_answer_again told legible.1) refl
