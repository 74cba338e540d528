-- How many lines say statements, and what a step of a block changes of that.
use Rattle.std.proofs.Common.{◌≡◌, ◌≤◌, ◌<◌, ◌+◌, ℕ, Bool, true, false, if◌then◌else◌, List, [], ◌∷◌, ◌++◌, length, Option, Some, None, Ok, refl, subst, arith}
use Rattle.std.specs.Prelude.{nat_lt}
use Rattle.std.specs.List.{All}
use Rattle.std.proofs.lemmas.Grind.{common_steps}
use Rattle.std.proofs.lemmas.List.{length-append}
use Rattle.std.proofs.lemmas.List.Elements.{All-push}
use Rattle.ak_base.specs.declared.ending.RefusalKind.TheVariants as refusal
use Rattle.ak_input.specs.declared.line.Word.{Word}
use Rattle.ak_describe.specs.Words.{ends, texts}
use Rattle.ak_script.specs.Blocks.{Block, with_begun, closed, is_bare, has_line, more_lines, room_fault, session_fault, end_fault, line_of}
use Rattle.ak_script.specs.declared.verb.Verb.{Verb}
use Rattle.ak_script.specs.declared.verb.Verb.TheVariants as verb
use Rattle.ak_script.specs.Forms.{launch_of, hey_of, post_of, lock_of, verb_of, said_by, statement_of, session_line_of}
use Rattle.ak_script.specs.Laws.{IsWholeSession, IsWholeStatement}
use Rattle.ak_script.specs.Limits.{session_limit, statement_limit}
use Rattle.ak_script.specs.Pass.{count_fault}
use Rattle.ak_script.specs.Statement.{LaunchData, HeyData, PostData, LockData, SessionLineData, SessionData, StatementData, launch_statement, hey_statement, post_statement, lock_statement, together_statement, lines_of_sessions, lines_of, lines_in}
use Rattle.ak_script.proofs.Outcomes.{bound}

-- ---- lists of statements and of sessions
pub lines_in-append : (xs ys : List StatementData) → lines_in (xs ++ ys) ≡ lines_in xs + lines_in ys
lines_in-append [] ys = omega arith
lines_in-append (x ∷ xs) ys = omega (arith, lines_in-append xs ys)

pub lines_of_sessions-append : (xs ys : List SessionData) → lines_of_sessions (xs ++ ys) ≡ lines_of_sessions xs + lines_of_sessions ys
lines_of_sessions-append [] ys = omega arith
lines_of_sessions-append (x ∷ xs) ys = omega (arith, lines_of_sessions-append xs ys)

-- ---- there is room for one more line
pub one_more : (lines : ℕ) → count_fault lines ≡ None → lines + 1 ≤ statement_limit
one_more lines e = by_test (nat_lt lines statement_limit) refl e where
  by_test : (b : Bool) → nat_lt lines statement_limit ≡ b → (if b then None else Some refusal.Limit) ≡ None → lines + 1 ≤ statement_limit
  by_test true is f = grind (arith, common_steps)
  by_test false is f = absurd cc

-- ---- a statement of one line
abbrev pub IsSingle : StatementData → Type 0
IsSingle (launch_statement s) = Unit {0}
IsSingle (hey_statement s) = Unit {0}
IsSingle (post_statement s) = Unit {0}
IsSingle (lock_statement s) = Unit {0}
IsSingle (together_statement s) = ⊥

single_by : (o : Option Verb) (all : List Word) (words : List (List ℕ)) (x : StatementData) → said_by o all words ≡ Ok x → IsSingle x
single_by None all words x e = absurd cc
single_by (Some verb.Launch) all words x e =
    let b = bound (launch_of words) (λ (s : LaunchData). Ok (launch_statement s)) x e in
    let same : launch_statement b.value ≡ x = cc in
    subst IsSingle same tt
single_by (Some verb.Hey) all words x e =
    let b = bound (hey_of all) (λ (s : HeyData). Ok (hey_statement s)) x e in
    let same : hey_statement b.value ≡ x = cc in
    subst IsSingle same tt
single_by (Some verb.Post) all words x e =
    let b = bound (post_of words) (λ (s : PostData). Ok (post_statement s)) x e in
    let same : post_statement b.value ≡ x = cc in
    subst IsSingle same tt
single_by (Some verb.Lock) all words x e =
    let b = bound (lock_of words) (λ (s : LockData). Ok (lock_statement s)) x e in
    let same : lock_statement b.value ≡ x = cc in
    subst IsSingle same tt

pub is_single : (words : List Word) (x : StatementData) → statement_of words ≡ Ok x → IsSingle x
unfolding statement_of
is_single [] x e = absurd cc
is_single (word ∷ words) x e = single_by (verb_of word.bytes) (word ∷ words) (texts words) x e

pub single_line : (x : StatementData) → IsSingle x → lines_of x ≡ 1
single_line (launch_statement s) is = refl
single_line (hey_statement s) is = refl
single_line (post_statement s) is = refl
single_line (lock_statement s) is = refl
single_line (together_statement s) is = absurd is

pub single_whole : (x : StatementData) → IsSingle x → IsWholeStatement x
single_whole (launch_statement s) is = tt
single_whole (hey_statement s) is = tt
single_whole (post_statement s) is = tt
single_whole (lock_statement s) is = tt
single_whole (together_statement s) is = absurd is

-- ---- a line of a session
pub record SaidInside (b : Block) (words : List Word) (x : SessionLineData) : Type 0 where
  pub lines : List SessionLineData
  pub begun_is : b.begun ≡ Some lines
  pub said : session_line_of words ≡ Ok x

pub said_inside : (sessions : List SessionData) (begun : Option (List SessionLineData)) (words : List Word) (x : SessionLineData)
    → line_of (record { sessions = sessions; begun = begun }) words ≡ Ok x → SaidInside (record { sessions = sessions; begun = begun }) words x
said_inside sessions None words x e = absurd cc
said_inside sessions (Some lines) words x e = record { lines = lines; begun_is = refl; said = e }

pub line_counts : (sessions : List SessionData) (lines : List SessionLineData) (x : SessionLineData)
    → lines_of_sessions (with_begun sessions (Some (more_lines x lines))) ≡ lines_of_sessions (with_begun sessions (Some lines)) + 1
line_counts sessions lines x =
    omega (arith, lines_of_sessions-append sessions (record { lines = lines } ∷ []), lines_of_sessions-append sessions (record { lines = more_lines x lines } ∷ []), length-append lines (x ∷ []))

-- ---- the line `session`
pub record MayBegin (b : Block) (words : List (List ℕ)) : Type 0 where
  pub line : is_bare b.begun ≡ false
  pub alone : ends words ≡ true
  pub room : length (closed b) < session_limit

pub may_begin : (b : Block) (words : List (List ℕ)) → session_fault b words ≡ None → MayBegin b words
may_begin b words e = by_bare (is_bare b.begun) refl e where
  by_room : (test : Bool) → nat_lt (length (closed b)) session_limit ≡ test → (if test then None else Some refusal.Limit) ≡ None → length (closed b) < session_limit
  by_room true is f = grind (arith, common_steps)
  by_room false is f = absurd cc

  by_end : is_bare b.begun ≡ false → (test : Bool) → ends words ≡ test → (if test then room_fault (closed b) else Some refusal.BadValue) ≡ None → MayBegin b words
  by_end line true is f = record { line = line; alone = is; room = by_room (nat_lt (length (closed b)) session_limit) refl f }
  by_end line false is f = absurd cc

  by_bare : (test : Bool) → is_bare b.begun ≡ test → (if test then Some refusal.UnknownLine else if ends words then room_fault (closed b) else Some refusal.BadValue) ≡ None → MayBegin b words
  by_bare true is f = absurd cc
  by_bare false is f = by_end is (ends words) refl f

pub whole_so_far : (sessions : List SessionData) (begun : Option (List SessionLineData)) → is_bare begun ≡ false → All IsWholeSession sessions → All IsWholeSession (with_begun sessions begun)
whole_so_far sessions None line whole = whole
whole_so_far sessions (Some []) line whole = absurd cc
whole_so_far sessions (Some (x ∷ lines)) line whole =
    let some : 1 ≤ length (x ∷ lines) = grind (arith, common_steps) in
    All-push IsWholeSession sessions (record { lines = x ∷ lines }) whole some

-- ---- the line `end`
pub record MayEnd (b : Block) (words : List (List ℕ)) : Type 0 where
  pub line : has_line b.begun ≡ true
  pub alone : ends words ≡ true

pub may_end : (b : Block) (words : List (List ℕ)) → end_fault b words ≡ None → MayEnd b words
may_end b words e = by_line (has_line b.begun) refl e where
  by_end : has_line b.begun ≡ true → (test : Bool) → ends words ≡ test → (if test then None else Some refusal.BadValue) ≡ None → MayEnd b words
  by_end line true is f = record { line = line; alone = is }
  by_end line false is f = absurd cc

  by_line : (test : Bool) → has_line b.begun ≡ test → (if test then (if ends words then None else Some refusal.BadValue) else Some refusal.UnknownLine) ≡ None → MayEnd b words
  by_line true is f = by_end is (ends words) refl f
  by_line false is f = absurd cc

pub not_bare : (begun : Option (List SessionLineData)) → has_line begun ≡ true → is_bare begun ≡ false
not_bare None line = refl
not_bare (Some []) line = absurd cc
not_bare (Some (x ∷ lines)) line = refl

pub one_session : (sessions : List SessionData) (begun : Option (List SessionLineData)) → has_line begun ≡ true → 1 ≤ length (with_begun sessions begun)
one_session sessions None line = absurd cc
one_session sessions (Some lines) line = omega (arith, length-append sessions (record { lines = lines } ∷ []))
