-- Reading what happened at a desk.
use Rattle.std.specs.Prelude.{ℕ, ◌&&◌, nat_le, Bool, true, false, if◌then◌else◌, List, [], ◌∷◌, ◌++◌, length, count_by, codes, Option, Some, None}
use Rattle.std.specs.Str.{bytes_eq}
use Rattle.ak_base.specs.Option.{where_true, ◌>>=◌}
use Rattle.ak_base.specs.Word.{is_word}
use Rattle.ak_base.specs.declared.error.KitError.{KitError}
use Rattle.ak_base.specs.declared.error.KitError.TheVariants as e
use Rattle.ak_flatten.specs.Laws.{first_fault}
use Rattle.ak_action.specs.Limits.{action_limit, answer_word_limit}
use Rattle.ak_action.specs.declared.answer.AnswerWord.{AnswerWord}
use Rattle.ak_action.specs.declared.answer.AnswerWord.TheVariants as word
use Rattle.ak_handler.specs.declared.fault.HandlerFault.TheVariants as fault
use Rattle.ak_desk.specs.declared.entry.DeskEvent.{DeskEvent}
use Rattle.ak_desk.specs.declared.entry.DeskEvent.TheVariants as event
use Rattle.ak_desk.specs.declared.entry.Edit.{Edit}
use Rattle.ak_desk.specs.declared.entry.Edit.TheVariants as edit
use Rattle.ak_desk.specs.declared.entry.EditAnswer.{EditAnswer}
use Rattle.ak_desk.specs.declared.entry.EditAnswer.TheVariants as answer
use Rattle.ak_desk.specs.declared.entry.EntryRoute.{EntryRoute}
use Rattle.ak_desk.specs.declared.entry.EntryRoute.TheVariants as route
use Rattle.ak_journal.specs.Legible.{is_reply}
use Rattle.ak_journal.specs.ReadParts.{behind_key, first_of, flat_of, token_at, u32_at, u32_of, u64_at, u64_of, where_none}

-- ---- routes
abbrev pub to_of : List (List ℕ) → Option (EntryRoute × List (List ℕ))
to_of words = u64_at words >>= λ token. Some (route.To token.0, token.1)

abbrev pub forward_of : List (List ℕ) → Option (EntryRoute × List (List ℕ))
forward_of words = u32_at words >>= λ looper. Some (route.Forward looper.0, looper.1)

-- the routes that are one word
abbrev pub route_named : List ℕ → Option EntryRoute
route_named key =
    if bytes_eq key (codes "skipped") then Some route.Skipped
    else if bytes_eq key (codes "dropped") then Some route.Dropped
    else if bytes_eq key (codes "not-understood") then Some route.NotUnderstood
    else if bytes_eq key (codes "no-memory") then Some route.NoMemory
    else None

abbrev pub route_by : List ℕ → List (List ℕ) → Option (EntryRoute × List (List ℕ))
route_by key words =
    if bytes_eq key (codes "to") then to_of words
    else if bytes_eq key (codes "forward") then forward_of words
    else route_named key >>= λ where_to. Some (where_to, words)

abbrev pub route_at : List (List ℕ) → Option (EntryRoute × List (List ℕ))
route_at words = first_of words >>= λ key. route_by key.0 key.1

abbrev pub quit_at : List (List ℕ) → Bool × List (List ℕ)
quit_at [] = (false, [])
quit_at (key ∷ words) = if bytes_eq key (codes "quit") then (true, words) else (false, key ∷ words)

-- ---- what actions came to
-- the errors that are named after BeOS
abbrev pub b_error : List ℕ → Option KitError
b_error name =
    if bytes_eq name (codes "B_OK") then Some e.Ok
    else if bytes_eq name (codes "B_NO_MEMORY") then Some e.NoMemory
    else if bytes_eq name (codes "B_BAD_TYPE") then Some e.BadType
    else if bytes_eq name (codes "B_NAME_NOT_FOUND") then Some e.NameNotFound
    else if bytes_eq name (codes "B_BAD_INDEX") then Some e.BadIndex
    else if bytes_eq name (codes "B_BAD_PORT_ID") then Some e.BadPortId
    else if bytes_eq name (codes "B_WOULD_BLOCK") then Some e.WouldBlock
    else None

abbrev pub more_b_error : List ℕ → Option KitError
more_b_error name =
    if bytes_eq name (codes "B_BAD_VALUE") then Some e.BadValue
    else if bytes_eq name (codes "B_BAD_HANDLER") then Some e.BadHandler
    else if bytes_eq name (codes "B_NAME_IN_USE") then Some e.NameInUse
    else if bytes_eq name (codes "B_DUPLICATE_REPLY") then Some e.DuplicateReply
    else if bytes_eq name (codes "B_BAD_SCRIPT_SYNTAX") then Some e.BadScriptSyntax
    else if bytes_eq name (codes "B_ALREADY_RUNNING") then Some e.AlreadyRunning
    else if bytes_eq name (codes "B_LAUNCH_FAILED_APP_NOT_FOUND") then Some e.LaunchFailedAppNotFound
    else None

-- the others
abbrev pub k_error : List ℕ → Option KitError
k_error name =
    if bytes_eq name (codes "K_SPENT") then Some e.Spent
    else if bytes_eq name (codes "K_TOO_LONG") then Some e.TooLong
    else if bytes_eq name (codes "K_LIMIT") then Some e.Limit
    else if bytes_eq name (codes "K_CHAIN_LOOP") then Some e.ChainLoop
    else if bytes_eq name (codes "K_IS_LOOPER") then Some e.IsLooper
    else if bytes_eq name (codes "K_NO_TEAM") then Some e.NoTeam
    else None

abbrev pub or_else : {A : Type 0} → Option A → Option A → Option A
or_else (Some x) later = Some x
or_else None later = later

abbrev pub error_named : List ℕ → Option KitError
error_named name = or_else (b_error name) (or_else (more_b_error name) (k_error name))

abbrev pub reply_word : List ℕ → Option AnswerWord
reply_word digits = flat_of digits >>= λ flat. where_none (first_fault flat) (word.Reply flat)

abbrev pub team_word : List ℕ → Option AnswerWord
team_word digits = u32_of digits >>= λ team. Some (word.Team team)

abbrev pub error_word : List ℕ → Option AnswerWord
error_word text = error_named text >>= λ error. Some (word.Error error)

abbrev pub team_or_error : Option (List ℕ) → List ℕ → Option AnswerWord
team_or_error (Some digits) text = team_word digits
team_or_error None text = error_word text

-- a word without a reply
abbrev pub short_answer : List ℕ → Option AnswerWord
short_answer text =
    if bytes_eq text (codes "no-team") then Some word.NoTeam else team_or_error (behind_key (codes "team:") text) text

abbrev pub answer_by : Option (List ℕ) → List ℕ → Option AnswerWord
answer_by (Some digits) text = reply_word digits
answer_by None text = short_answer text

abbrev pub answer_of : List ℕ → Option AnswerWord
answer_of text = answer_by (behind_key (codes "reply:") text) text

abbrev pub answers_of : List (List ℕ) → Option (List AnswerWord)
answers_of [] = Some []
answers_of (text ∷ words) = answer_of text >>= λ first. answers_of words >>= λ others. Some (first ∷ others)

-- with others before them
abbrev pub answers_behind : List AnswerWord → List (List ℕ) → Option (List AnswerWord)
answers_behind before words = answers_of words >>= λ answers. Some (before ++ answers)

abbrev pub are_few : List AnswerWord → Bool
are_few answers = nat_le (length answers) answer_word_limit && nat_le (count_by is_reply answers) action_limit

abbrev pub few_answers : List (List ℕ) → Option (List AnswerWord)
few_answers words = answers_of words >>= λ answers. where_true (are_few answers) answers

-- ---- edits
abbrev pub add_of : List (List ℕ) → Option (Edit × List (List ℕ))
add_of words = first_of words >>= λ name. where_true (is_word name.0) (edit.Add name.0, name.1)

abbrev pub remove_of : List (List ℕ) → Option (Edit × List (List ℕ))
remove_of words = u64_at words >>= λ token. Some (edit.Remove token.0, token.1)

abbrev pub next_of : List (List ℕ) → Option (Edit × List (List ℕ))
next_of words = u64_at words >>= λ token. token_at token.1 >>= λ next. Some (edit.Next token.0 next.0, next.1)

abbrev pub prefer_of : List (List ℕ) → Option (Edit × List (List ℕ))
prefer_of words = token_at words >>= λ token. Some (edit.Prefer token.0, token.1)

abbrev pub token_edit : List ℕ → List (List ℕ) → Option (Edit × List (List ℕ))
token_edit key words =
    if bytes_eq key (codes "remove") then remove_of words
    else if bytes_eq key (codes "next") then next_of words
    else if bytes_eq key (codes "prefer") then prefer_of words
    else None

abbrev pub edit_by : List ℕ → List (List ℕ) → Option (Edit × List (List ℕ))
edit_by key words = if bytes_eq key (codes "add") then add_of words else token_edit key words

abbrev pub edit_at : List (List ℕ) → Option (Edit × List (List ℕ))
edit_at words = first_of words >>= λ key. edit_by key.0 key.1

-- ---- what an edit came to
abbrev pub answer_as : KitError → Option EditAnswer
answer_as e.Ok = Some answer.Done
answer_as e.NameInUse = Some (answer.Refused fault.NameInUse)
answer_as e.Limit = Some (answer.Refused fault.HandlerLimit)
answer_as e.BadHandler = Some (answer.Refused fault.BadHandler)
answer_as e.IsLooper = Some (answer.Refused fault.IsLooper)
answer_as e.ChainLoop = Some (answer.Refused fault.ChainLoop)
answer_as _ = None

abbrev pub token_answer : List ℕ → Option EditAnswer
token_answer digits = u64_of digits >>= λ token. Some (answer.Token token)

abbrev pub edit_answer_by : Option (List ℕ) → List ℕ → Option EditAnswer
edit_answer_by (Some digits) text = token_answer digits
edit_answer_by None text = error_named text >>= λ error. answer_as error

abbrev pub edit_answer : List ℕ → Option EditAnswer
edit_answer text = edit_answer_by (behind_key (codes "token:") text) text

abbrev pub edit_answer_at : List (List ℕ) → Option EditAnswer
edit_answer_at words = first_of words >>= λ text. edit_answer text.0

-- ---- events
abbrev pub dispatched_of : List (List ℕ) → Option DeskEvent
dispatched_of words =
    u64_at words >>= λ position. route_at position.1 >>= λ where_to. few_answers (quit_at where_to.1).1 >>= λ answers.
    Some (event.Dispatched position.0 where_to.0 answers (quit_at where_to.1).0)

abbrev pub edited_of : List (List ℕ) → Option DeskEvent
edited_of words = edit_at words >>= λ asked. edit_answer_at asked.1 >>= λ told. Some (event.Edited asked.0 told)

abbrev pub event_by : List ℕ → List (List ℕ) → Option DeskEvent
event_by key words =
    if bytes_eq key (codes "dispatched") then dispatched_of words
    else if bytes_eq key (codes "edited") then edited_of words
    else None

abbrev pub desk_event : List (List ℕ) → Option DeskEvent
desk_event words = first_of words >>= λ key. event_by key.0 key.1
