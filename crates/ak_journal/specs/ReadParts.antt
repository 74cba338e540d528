-- Reading words by themselves and in order. A reader of several answers what it read, and the words behind that. Where a line is the text of an
-- entry, this reads the entry; of other lines it may read anything, and they are told apart by printing again.
use Rattle.std.specs.Prelude.{ℕ, ◌==◌, if◌then◌else◌, List, [], ◌∷◌, length, take, drop, codes, Option, Some, None}
use Rattle.std.specs.Borrow.{Bor}
use Rattle.std.specs.Result.{result_ok}
use Rattle.std.specs.Str.{bytes_eq}
use Rattle.hex.specs.Hex.{decode_of}
use Rattle.ak_base.specs.Option.{where_true, ◌>>=◌}
use Rattle.ak_base.specs.Thread.{main_thread, looper_thread}
use Rattle.ak_base.specs.declared.app_word.AppWord.{AppWord}
use Rattle.ak_base.specs.declared.thread.ThreadId.{ThreadId}
use Rattle.ak_input.specs.Payload.{uint_within}
use Rattle.ak_input.specs.Written.{app_word_of, launch_word_of, number_within}
use Rattle.ak_journal.specs.Parting.{texts}

-- ---- as contracts see what is read
abbrev pub word_and_rest : Bor (List ℕ) × Bor (List (Bor (List ℕ))) → List ℕ × List (List ℕ)
word_and_rest x = (x.0.now, texts x.1.now)

abbrev pub read_and_rest : {A : Type 0} → A × Bor (List (Bor (List ℕ))) → A × List (List ℕ)
read_and_rest x = (x.0, texts x.1.now)

-- ---- words
abbrev pub first_of : List (List ℕ) → Option (List ℕ × List (List ℕ))
first_of [] = None
first_of (word ∷ words) = Some (word, words)

-- what stands behind a key in one word
abbrev pub behind_key : List ℕ → List ℕ → Option (List ℕ)
behind_key key word = where_true (bytes_eq (take (length key) word) key) (drop (length key) word)

-- what is where nothing is wrong
abbrev pub where_none : {A B : Type 0} → Option A → B → Option B
where_none None x = Some x
where_none (Some _) x = None

-- ---- numbers
abbrev pub u32_of : List ℕ → Option ℕ
u32_of word = number_within word 0 4294967295

abbrev pub u64_of : List ℕ → Option ℕ
u64_of word = uint_within 18446744073709551615 word

abbrev pub u32_at : List (List ℕ) → Option (ℕ × List (List ℕ))
u32_at words = first_of words >>= λ word. u32_of word.0 >>= λ n. Some (n, word.1)

abbrev pub u64_at : List (List ℕ) → Option (ℕ × List (List ℕ))
u64_at words = first_of words >>= λ word. u64_of word.0 >>= λ n. Some (n, word.1)

-- the first number
abbrev pub first_u32 : List (List ℕ) → Option ℕ
first_u32 words = u32_at words >>= λ n. Some n.0

abbrev pub first_u64 : List (List ℕ) → Option ℕ
first_u64 words = u64_at words >>= λ n. Some n.0

abbrev pub token_of : List ℕ → Option (Option ℕ)
token_of word = if bytes_eq word (codes "none") then Some None else u64_of word >>= λ token. Some (Some token)

abbrev pub token_at : List (List ℕ) → Option (Option ℕ × List (List ℕ))
token_at words = first_of words >>= λ word. token_of word.0 >>= λ token. Some (token, word.1)

-- ---- threads
abbrev pub thread_numbered : ℕ → ThreadId
thread_numbered n = record { 0 = n }

abbrev pub session_of : List ℕ → Option ThreadId
session_of digits = u32_of digits >>= λ n. Some (thread_numbered n)

-- the last one is thread 4,294,967,295
abbrev pub looper_of : List ℕ → Option ThreadId
looper_of digits = number_within digits 0 4294957295 >>= λ n. Some (thread_numbered (looper_thread n))

abbrev pub thread_of : List ℕ → Option ThreadId
thread_of [] = None
thread_of (kind ∷ number) =
    if kind == 109 then Some (thread_numbered main_thread)
    else if kind == 115 then session_of number
    else if kind == 108 then looper_of number
    else None

abbrev pub thread_at : List (List ℕ) → Option (ThreadId × List (List ℕ))
thread_at words = first_of words >>= λ word. thread_of word.0 >>= λ thread. Some (thread, word.1)

-- ---- applications, and flat texts
-- what is launched: a path or a signature
abbrev pub launch_word_at : List (List ℕ) → Option (AppWord × List (List ℕ))
launch_word_at words = first_of words >>= λ word. launch_word_of word.0 >>= λ app. Some (app, word.1)

-- what is looked up: a team by its number, a signature or a name
abbrev pub find_word_at : List (List ℕ) → Option (AppWord × List (List ℕ))
find_word_at words = first_of words >>= λ word. app_word_of word.0 >>= λ app. Some (app, word.1)

abbrev pub flat_of : List ℕ → Option (List ℕ)
flat_of word = result_ok (decode_of word)

abbrev pub flat_at : List (List ℕ) → Option (List ℕ)
flat_at words = first_of words >>= λ word. flat_of word.0
