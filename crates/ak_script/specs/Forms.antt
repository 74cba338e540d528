-- The forms of statements: what the words of a line say, or its first fault.
use Rattle.std.specs.Prelude.{ℕ, Bool, true, false, ◌≤◌, nat_lt, nat_le, if◌then◌else◌, List, [], ◌∷◌, ◌++◌, length, codes, Option, Some, None, option_map, Result, Ok, Err}
use Rattle.std.specs.Str.{bytes_eq}
use Rattle.ak_base.specs.Option.{where_true, ◌>>=◌}
use Rattle.ak_base.specs.Word.{is_word}
use Rattle.ak_base.specs.declared.app_word.AppWord.{AppWord}
use Rattle.ak_base.specs.declared.ending.RefusalKind.{RefusalKind}
use Rattle.ak_base.specs.declared.ending.RefusalKind.TheVariants as refusal
use Rattle.ak_base.specs.declared.limited.Limited.{Limited}
use Rattle.ak_base.specs.declared.limited.Limited.TheVariants.{Within, Over}
use Rattle.ak_desk.specs.declared.entry.Edit.{Edit}
use Rattle.ak_desk.specs.declared.entry.Edit.TheVariants as edit
use Rattle.ak_input.specs.declared.line.Word.{Word}
use Rattle.ak_message.specs.declared.address.Target.{Target}
use Rattle.ak_message.specs.declared.address.Target.TheVariants as target
use Rattle.ak_message.specs.Limits.{value_limit}
use Rattle.ak_input.specs.Payload.{uint_within}
use Rattle.ak_input.specs.Reading.{read_message}
use Rattle.ak_message.specs.Message.{MessageData}
use Rattle.ak_input.specs.Written.{quoted_text, app_word_of, launch_word_of}
use Rattle.ak_flatten.specs.Limits.{flat_limit}
use Rattle.ak_flatten.specs.Spelling.{spelling}
use Rattle.ak_describe.specs.Pass.{or_bad, or_limit, then_read}
use Rattle.ak_describe.specs.Words.{behind, ends, first_of, texts}
use Rattle.ak_hey.specs.Hey as lines
use Rattle.ak_script.specs.declared.verb.Verb.{Verb}
use Rattle.ak_script.specs.declared.verb.Verb.TheVariants as verb
use Rattle.ak_script.specs.Messages.{arguments_of}
use Rattle.ak_script.specs.Statement.{LaunchData, HeyData, PostData, LockData, SessionLineData, hey_line, post_line, lock_line, StatementData, launch_statement, hey_statement, post_statement, lock_statement}

-- a message has at most 4,096 bytes of flat text
abbrev pub is_short : MessageData → Bool
is_short m = nat_le (length (spelling m)) flat_limit

-- ---- words
-- one word alone
abbrev pub only : List (List ℕ) → Option (List ℕ)
only words = first_of words >>= λ word. where_true (ends word.1) word.0

abbrev pub number_at : ℕ → List (List ℕ) → Option (Option ℕ × List (List ℕ))
number_at most words = first_of words >>= λ word. uint_within most word.0 >>= λ number. Some (Some number, word.1)

abbrev pub number_from : ℕ → List (List ℕ) → Option (List (List ℕ)) → Option (Option ℕ × List (List ℕ))
number_from most words None = Some (None, words)
number_from most words (Some rest) = number_at most rest

-- a number behind its key, up to this one, or none where the key does not stand there
unfoldable pub number_behind : List ℕ → ℕ → List (List ℕ) → Option (Option ℕ × List (List ℕ))
number_behind key most words = number_from most words (behind words key)

abbrev pub flag_from : List (List ℕ) → Option (List (List ℕ)) → Bool × List (List ℕ)
flag_from words None = (false, words)
flag_from words (Some rest) = (true, rest)

-- whether a key stands there
abbrev pub flag_behind : List ℕ → List (List ℕ) → Bool × List (List ℕ)
flag_behind key words = flag_from words (behind words key)

abbrev pub most_looper : ℕ
most_looper = 4294967295

abbrev pub most_token : ℕ
most_token = 18446744073709551615

abbrev pub or_zero : Option ℕ → ℕ
or_zero None = 0
or_zero (Some n) = n

-- the place of a looper in its application, which is its own where none is given
abbrev pub looper_at : List (List ℕ) → Option (ℕ × List (List ℕ))
looper_at words = option_map (λ (x : Option ℕ × List (List ℕ)). (or_zero x.0, x.1)) (number_behind (codes "looper") most_looper words)

-- ---- `launch`
-- a path or a signature
abbrev pub launch_word : List ℕ → Option AppWord
launch_word word = launch_word_of word

-- one more text, where it is not too long and there are not 255
abbrev pub with_text : Limited (List (List ℕ)) → Limited (List ℕ) → Limited (List (List ℕ))
with_text Over text = Over
with_text (Within texts) Over = Over
with_text (Within texts) (Within text) = if nat_lt (length texts) value_limit then Within (texts ++ text ∷ []) else Over

-- at most 255
abbrev pub FewTexts : Limited (List (List ℕ)) → Type 0
FewTexts Over = Unit {0}
FewTexts (Within texts) = length texts ≤ value_limit

unfoldable pub texts_behind : Limited (List (List ℕ)) → List (List ℕ) → Option (Limited (List (List ℕ)))
texts_behind read [] = Some read
texts_behind read (word ∷ words) = quoted_text word >>= λ text. texts_behind (with_text read text) words

-- one or more texts in quotes
abbrev pub some_texts : List (List ℕ) → Option (Limited (List (List ℕ)))
some_texts words = if ends words then None else texts_behind (Within []) words

-- `args TEXT ..`
unfoldable pub arguments_at : List (List ℕ) → Option (Limited (List (List ℕ)))
arguments_at words = behind words (codes "args") >>= some_texts

abbrev pub launch_kept : AppWord → List (List ℕ) → Result LaunchData RefusalKind
launch_kept word texts =
    if is_short (arguments_of texts) then Ok (record { word = word; arguments = Some (arguments_of texts) })
    else Err refusal.Limit

abbrev pub launched : AppWord → List (List ℕ) → Result LaunchData RefusalKind
launched word words =
    if ends words then Ok (record { word = word; arguments = None })
    else or_bad (arguments_at words) (λ texts. or_limit texts (launch_kept word))

-- `WORD`, or `WORD args TEXT ..`
abbrev pub launch_of : List (List ℕ) → Result LaunchData RefusalKind
launch_of words = or_bad (first_of words) (λ first. or_bad (launch_word first.0) (λ word. launched word first.1))

-- ---- `hey`
abbrev pub asked : AppWord → MessageData → Result HeyData RefusalKind
asked word m = Ok (record { app = word; message = m })

-- what is no hey line is told by its column, and a message that passes a limit by that
abbrev pub hey_from : Result (AppWord × Limited MessageData) ℕ → Result HeyData RefusalKind
hey_from (Ok line) = or_limit line.1 (asked line.0)
hey_from (Err column) = Err (refusal.BadHey column)

-- a hey line, with its first word
abbrev pub hey_of : List Word → Result HeyData RefusalKind
hey_of words = hey_from (lines.hey_of (lines.end_of words) words)

-- ---- `post`
-- for whom and how a message is posted
pub record Way : Type 0 where
  pub looper : ℕ
  pub target : Target
  pub dropped : Bool
  pub waits : Bool

-- the preferred handler where no token is given
abbrev pub target_of : Option ℕ → Target
target_of None = target.Preferred
target_of (Some token) = target.Token token

abbrev pub way_of : ℕ → Option ℕ → Bool → Bool × List (List ℕ) → Way × List (List ℕ)
way_of looper token dropped waits = (record { looper = looper; target = target_of token; dropped = dropped; waits = waits.0 }, waits.1)

abbrev pub flagged : ℕ → Option ℕ → Bool × List (List ℕ) → Way × List (List ℕ)
flagged looper token dropped = way_of looper token dropped.0 (flag_behind (codes "wait") dropped.1)

-- `[looper N] [token N] [dropped] [wait]`
unfoldable pub way_at : List (List ℕ) → Option (Way × List (List ℕ))
way_at words = do
  looper ← looper_at words
  token ← number_behind (codes "token") most_token looper.1
  Some (flagged looper.0 token.0 (flag_behind (codes "dropped") token.1))

abbrev pub post_kept : AppWord → Way → MessageData → Result PostData RefusalKind
post_kept word way m =
    if is_short m then Ok (record { app = word; looper = way.looper; target = way.target; dropped = way.dropped; waits = way.waits; message = m })
    else Err refusal.Limit

-- `APP [looper N] [token N] [dropped] [wait] MESSAGE`
abbrev pub post_of : List (List ℕ) → Result PostData RefusalKind
post_of words =
    or_bad (first_of words) (λ named. or_bad (app_word_of named.0) (λ word. or_bad (way_at named.1) (λ way. or_bad (read_message way.1) (λ m. or_limit m (post_kept word way.0)))))

-- ---- `lock`
abbrev pub token_of : List ℕ → Option ℕ
token_of word = uint_within most_token word

-- a token, or that there is none
abbrev pub token_or_none : List ℕ → Option (Option ℕ)
token_or_none word = if bytes_eq word (codes "none") then Some None else option_map Some (token_of word)

-- `N N` or `N none`
unfoldable pub next_form : List (List ℕ) → Option Edit
next_form words = do
  first ← first_of words
  token ← token_of first.0
  last ← only first.1
  next ← token_or_none last
  Some (edit.Next token next)

abbrev pub name_of : List ℕ → Option (List ℕ)
name_of word = where_true (is_word word) word

-- the name of a new handler
abbrev pub add_form : List (List ℕ) → Option Edit
add_form words = option_map edit.Add (only words >>= name_of)

abbrev pub remove_form : List (List ℕ) → Option Edit
remove_form words = option_map edit.Remove (only words >>= token_of)

abbrev pub prefer_form : List (List ℕ) → Option Edit
prefer_form words = option_map edit.Prefer (only words >>= token_or_none)

-- an edit of handlers that are there, which tokens tell
abbrev pub token_edit : List ℕ → List (List ℕ) → Option Edit
token_edit word words =
    if bytes_eq word (codes "remove") then remove_form words
    else if bytes_eq word (codes "next") then next_form words
    else if bytes_eq word (codes "prefer") then prefer_form words
    else None

abbrev pub edit_by : List ℕ → List (List ℕ) → Option Edit
edit_by word words = if bytes_eq word (codes "add") then add_form words else token_edit word words

-- an edit begins with what it does
abbrev pub edit_of : List (List ℕ) → Option Edit
edit_of words = first_of words >>= λ first. edit_by first.0 first.1

abbrev pub locked : AppWord → ℕ → Edit → LockData
locked word looper e = record { app = word; looper = looper; edit = e }

-- `APP [looper N] EDIT`
abbrev pub lock_of : List (List ℕ) → Result LockData RefusalKind
lock_of words =
    or_bad (first_of words) (λ named. or_bad (app_word_of named.0) (λ word. or_bad (looper_at named.1) (λ looper. or_bad (edit_of looper.1) (λ e. Ok (locked word looper.0 e)))))

-- ---- all of them
abbrev pub verb_of : List ℕ → Option Verb
verb_of word =
    if bytes_eq word (codes "launch") then Some verb.Launch
    else if bytes_eq word (codes "hey") then Some verb.Hey
    else if bytes_eq word (codes "post") then Some verb.Post
    else if bytes_eq word (codes "lock") then Some verb.Lock
    else None

-- by what the first word says, by all words, and by the bytes of those behind it
abbrev pub said_by : Option Verb → List Word → List (List ℕ) → Result StatementData RefusalKind
said_by None all words = Err refusal.UnknownLine
said_by (Some verb.Launch) all words = then_read (launch_of words) (λ s. Ok (launch_statement s))
said_by (Some verb.Hey) all words = then_read (hey_of all) (λ s. Ok (hey_statement s))
said_by (Some verb.Post) all words = then_read (post_of words) (λ s. Ok (post_statement s))
said_by (Some verb.Lock) all words = then_read (lock_of words) (λ s. Ok (lock_statement s))

-- by the words of its line, of which the first one says what it is
unfoldable pub statement_of : List Word → Result StatementData RefusalKind
statement_of [] = Err refusal.UnknownLine
statement_of (word ∷ words) = said_by (verb_of word.bytes) (word ∷ words) (texts words)

-- ---- lines of sessions: no launch stands in one
abbrev pub said_in_session : Option Verb → List Word → List (List ℕ) → Result SessionLineData RefusalKind
said_in_session None all words = Err refusal.UnknownLine
said_in_session (Some verb.Launch) all words = Err refusal.UnknownLine
said_in_session (Some verb.Hey) all words = then_read (hey_of all) (λ s. Ok (hey_line s))
said_in_session (Some verb.Post) all words = then_read (post_of words) (λ s. Ok (post_line s))
said_in_session (Some verb.Lock) all words = then_read (lock_of words) (λ s. Ok (lock_line s))

unfoldable pub session_line_of : List Word → Result SessionLineData RefusalKind
session_line_of [] = Err refusal.UnknownLine
session_line_of (word ∷ words) = said_in_session (verb_of word.bytes) (word ∷ words) (texts words)
