-- Lines that say statements are read as those, where there is room for them.
use Rattle.std.proofs.Common.{◌≡◌, ◌≤◌, ◌<◌, ◌+◌, ℕ, Bool, true, false, if◌then◌else◌, List, [], ◌∷◌, ◌++◌, length, codes, Option, Some, None, Result, Ok, refl, ap, sym, subst, ◌∙◌, append_assoc, arith}
use Rattle.std.specs.Prelude.{nat_lt}
use Rattle.std.proofs.lemmas.Grind.{common_steps}
use Rattle.std.proofs.lemmas.List.{append-nil, length-append}
use Rattle.ak_base.specs.declared.ending.RefusalKind.{RefusalKind}
use Rattle.ak_base.specs.declared.ending.RefusalKind.TheVariants as refusal
use Rattle.ak_input.specs.declared.line.Line.{Line}
use Rattle.ak_describe.specs.Pass.{Refusal, at_line, then_read}
use Rattle.ak_describe.specs.Words.{behind, texts}
use Rattle.ak_script.specs.declared.part.Part.TheVariants as part
use Rattle.ak_script.specs.Blocks as blocks
use Rattle.ak_script.specs.Blocks.{Block, new_block, with_begun, closed, is_bare, has_line, more_lines, session_begun}
use Rattle.ak_script.specs.Limits.{session_limit, statement_limit}
use Rattle.ak_script.specs.Pass.{SoFar, unless, count_fault, statement_added, by_together, line_added, by_session, by_end, line_said, lines_said}
use Rattle.ak_script.specs.Says.{StatementsAreRead, SessionLinesAreRead, SaysStatement, SaysSessionLine}
use Rattle.ak_script.specs.SaysLines.{IsAlone, SayLines, SaySession, SaySessions, IsBlock, IsOne, SayOne, SayAll, behind_script}
use Rattle.ak_script.specs.Statement.{SessionLineData, SessionData, TogetherData, StatementData, launch_statement, hey_statement, post_statement, lock_statement, together_statement, hey_line, post_line, lock_line, lines_of_sessions, lines_of, lines_in}
use Rattle.ak_script.proofs.Counting.{lines_in-append, lines_of_sessions-append, IsSingle, single_line, line_counts}
use Rattle.ak_script.proofs.Stages.{both_said, one_said, inside, block_of, counted_as, counted_in}

-- ---- room
no_fault : (lines : ℕ) → lines < statement_limit → count_fault lines ≡ None
no_fault lines room =
    let is : nat_lt lines statement_limit ≡ true = grind (arith, common_steps) in
    ap (λ (b : Bool). if b then None else Some refusal.Limit) is

with_room : (lines number : ℕ) (t : SoFar) → lines < statement_limit → unless number (count_fault lines) t ≡ Ok t
with_room lines number t room = ap (λ (f : Option RefusalKind). unless number f t) (no_fault lines room)

-- ---- what begins a line of a statement is none of the words of a block
no_together : (words : List (List ℕ)) (x : StatementData) → IsSingle x → SaysStatement words x → behind words (codes "together") ≡ None
no_together words (launch_statement s) single p = ap (λ (ws : List (List ℕ)). behind ws (codes "together")) p.1
no_together words (hey_statement s) single p = ap (λ (ws : List (List ℕ)). behind ws (codes "together")) p.all
no_together words (post_statement s) single p = ap (λ (ws : List (List ℕ)). behind ws (codes "together")) p.1
no_together words (lock_statement s) single p = ap (λ (ws : List (List ℕ)). behind ws (codes "together")) p.1
no_together words (together_statement s) single p = absurd single

no_session : (words : List (List ℕ)) (x : SessionLineData) → SaysSessionLine words x → behind words (codes "session") ≡ None
no_session words (hey_line s) p = ap (λ (ws : List (List ℕ)). behind ws (codes "session")) p.all
no_session words (post_line s) p = ap (λ (ws : List (List ℕ)). behind ws (codes "session")) p.1
no_session words (lock_line s) p = ap (λ (ws : List (List ℕ)). behind ws (codes "session")) p.1

no_end : (words : List (List ℕ)) (x : SessionLineData) → SaysSessionLine words x → behind words (codes "end") ≡ None
no_end words (hey_line s) p = ap (λ (ws : List (List ℕ)). behind ws (codes "end")) p.all
no_end words (post_line s) p = ap (λ (ws : List (List ℕ)). behind ws (codes "end")) p.1
no_end words (lock_line s) p = ap (λ (ws : List (List ℕ)). behind ws (codes "end")) p.1

-- ---- lines of a session
line_again : SessionLinesAreRead → (d : List Line) (xs : List StatementData) (sessions : List SessionData) (ls : List SessionLineData) (x : SessionLineData) (line : Line) → SaysSessionLine (texts line.words) x
    → lines_in xs + lines_of_sessions (with_begun sessions (Some ls)) < statement_limit
    → line_said (inside d xs (record { sessions = sessions; begun = Some ls })) line ≡ Ok (inside d xs (record { sessions = sessions; begun = Some (more_lines x ls) }))
unfolding line_said
line_again law d xs sessions ls x line says room =
    let b : Block = record { sessions = sessions; begun = Some ls } in
    let c : Block = record { sessions = sessions; begun = Some (more_lines x ls) } in
    let count : (lines_in xs + lines_of_sessions (closed b)) + 1 ≡ lines_in xs + lines_of_sessions (closed c) = omega (arith, line_counts sessions ls x) in
    ap (λ (o : Option (List (List ℕ))). by_session (inside d xs b) line o) (no_session (texts line.words) x says)
    ∙ ap (λ (o : Option (List (List ℕ))). by_end (inside d xs b) line o) (no_end (texts line.words) x says)
    ∙ ap (λ (r : Result SessionLineData RefusalKind). then_read (at_line line.number r) (line_added (inside d xs b) line.number)) ((law line.words x).1 says)
    ∙ with_room (lines_in xs + lines_of_sessions (closed b)) line.number (record (inside d xs b) { block = c; lines = (lines_in xs + lines_of_sessions (closed b)) + 1 }) room
    ∙ ap (λ (s : SoFar). read_to s) (counted_in d xs c ((lines_in xs + lines_of_sessions (closed b)) + 1) (lines_in xs + lines_of_sessions (closed c)) count)
  where
    read_to : SoFar → Result SoFar Refusal
    read_to s = Ok s

pub lines_again : SessionLinesAreRead → (d : List Line) (xs : List StatementData) (sessions : List SessionData) (lines : List Line) (ls more : List SessionLineData) → SayLines lines more
    → lines_in xs + lines_of_sessions (with_begun sessions (Some (ls ++ more))) ≤ statement_limit
    → lines_said (inside d xs (record { sessions = sessions; begun = Some ls })) lines ≡ Ok (inside d xs (record { sessions = sessions; begun = Some (ls ++ more) }))
unfolding lines_said
lines_again law d xs sessions [] ls [] say room = ap (λ (ms : List SessionLineData). read_with ms) (sym (append-nil ls)) where
  read_with : List SessionLineData → Result SoFar Refusal
  read_with ms = Ok (inside d xs (record { sessions = sessions; begun = Some ms }))
lines_again law d xs sessions (line ∷ lines) ls (x ∷ more) say room =
    let joined = append_assoc ls (x ∷ []) more in
    let there : lines_in xs + lines_of_sessions (with_begun sessions (Some (more_lines x ls ++ more))) ≤ statement_limit =
    subst (λ (ms : List SessionLineData). lines_in xs + lines_of_sessions (with_begun sessions (Some ms)) ≤ statement_limit) (sym joined) room in
    let one_room : lines_in xs + lines_of_sessions (with_begun sessions (Some ls)) < statement_limit =
    omega (arith, room, lines_of_sessions-append sessions (record { lines = ls } ∷ []), lines_of_sessions-append sessions (record { lines = ls ++ x ∷ more } ∷ []), length-append ls (x ∷ more)) in
    ap (λ (r : Result SoFar Refusal). then_read r (λ (s : SoFar). lines_said s lines)) (line_again law d xs sessions ls x line say.0 one_room)
    ∙ lines_again law d xs sessions lines (more_lines x ls) more say.1 there
    ∙ ap (λ (ms : List SessionLineData). read_with ms) joined
  where
    read_with : List SessionLineData → Result SoFar Refusal
    read_with ms = Ok (inside d xs (record { sessions = sessions; begun = Some ms }))
lines_again law d xs sessions [] ls (x ∷ more) say room = absurd say
lines_again law d xs sessions (line ∷ lines) ls [] say room = absurd say

-- ---- one session behind another
-- the block behind these sessions more
abbrev pub after : Block → List SessionData → Block
after b [] = b
after b (s ∷ more) = after (record { sessions = closed b; begun = Some s.lines }) more

pub all_after : (b : Block) (more : List SessionData) → closed (after b more) ≡ closed b ++ more
all_after b [] = sym (append-nil (closed b))
all_after b (s ∷ more) = all_after (record { sessions = closed b; begun = Some s.lines }) more ∙ append_assoc (closed b) (s ∷ []) more

-- `session` alone
pub session_again : (d : List Line) (xs : List StatementData) (b : Block) (line : Line) → IsAlone line (codes "session") → is_bare b.begun ≡ false → length (closed b) < session_limit
    → line_said (inside d xs b) line ≡ Ok (inside d xs (session_begun b))
unfolding line_said
session_again d xs b line alone line_there room =
    let test : nat_lt (length (closed b)) session_limit ≡ true = grind (arith, common_steps) in
    let fault : blocks.session_fault b [] ≡ None =
    ap (λ (t : Bool). if t then Some refusal.UnknownLine else blocks.room_fault (closed b)) line_there ∙ ap (λ (t : Bool). if t then None else Some refusal.Limit) test in
    let count : lines_in xs + lines_of_sessions (closed b) ≡ lines_in xs + lines_of_sessions (closed (session_begun b)) = omega (arith, lines_of_sessions-append (closed b) (record { lines = [] } ∷ [])) in
    ap (λ (o : Option (List (List ℕ))). by_session (inside d xs b) line o) (ap (λ (ws : List (List ℕ)). behind ws (codes "session")) alone)
    ∙ ap (λ (f : Option RefusalKind). unless line.number f (record (inside d xs b) { block = session_begun b })) fault
    ∙ ap (λ (s : SoFar). read_to s) (counted_in d xs (session_begun b) (lines_in xs + lines_of_sessions (closed b)) (lines_in xs + lines_of_sessions (closed (session_begun b))) count)
  where
    read_to : SoFar → Result SoFar Refusal
    read_to s = Ok s

not_bare : (lines : List SessionLineData) → 1 ≤ length lines → is_bare (Some lines) ≡ false
not_bare [] some = absurd (omega (arith, some))
not_bare (x ∷ lines) some = refl

a_line : (lines : List SessionLineData) → 1 ≤ length lines → has_line (Some lines) ≡ true
a_line [] some = absurd (omega (arith, some))
a_line (x ∷ lines) some = refl

one_session_again : SessionLinesAreRead → (d : List Line) (xs : List StatementData) (b : Block) (lines : List Line) (s : SessionData) → SaySession lines s → is_bare b.begun ≡ false → length (closed b) < session_limit
    → lines_in xs + lines_of_sessions (closed b ++ s ∷ []) ≤ statement_limit
    → lines_said (inside d xs b) lines ≡ Ok (inside d xs (record { sessions = closed b; begun = Some s.lines }))
one_session_again law d xs b lines s say line_there few room =
    ap (λ (ls : List Line). lines_said (inside d xs b) ls) say.parts
    ∙ both_said (say.opens ∷ []) say.rest (inside d xs b) (inside d xs (session_begun b)) (inside d xs (record { sessions = closed b; begun = Some s.lines }))
    (one_said say.opens (inside d xs b) (inside d xs (session_begun b)) (session_again d xs b say.opens say.session_is line_there few))
    (lines_again law d xs (closed b) say.rest [] s.lines say.lines_are room)

pub none_said : (s : SoFar) → lines_said s [] ≡ Ok s
unfolding lines_said
none_said s = refl

pub sessions_again : SessionLinesAreRead → (d : List Line) (xs : List StatementData) (b : Block) (lines : List Line) (more : List SessionData) → SaySessions lines more → is_bare b.begun ≡ false → length (closed b ++ more) ≤ session_limit
    → lines_in xs + lines_of_sessions (closed b ++ more) ≤ statement_limit
    → lines_said (inside d xs b) lines ≡ Ok (inside d xs (after b more))
sessions_again law d xs b lines [] say line_there few room = ap (λ (ls : List Line). lines_said (inside d xs b) ls) say ∙ none_said (inside d xs b)
sessions_again law d xs b lines (s ∷ more) say line_there few room =
    let first = say.0 in
    let rest = say.1 in
    let c : Block = record { sessions = closed b; begun = Some s.lines } in
    let joined = append_assoc (closed b) (s ∷ []) more in
    let few_now : length (closed b) < session_limit = omega (arith, few, length-append (closed b) (s ∷ more)) in
    let room_now : lines_in xs + lines_of_sessions (closed b ++ s ∷ []) ≤ statement_limit =
    omega (arith, room, lines_of_sessions-append (closed b) (s ∷ []), lines_of_sessions-append (closed b) (s ∷ more)) in
    let few_then : length (closed c ++ more) ≤ session_limit = subst (λ (ss : List SessionData). length ss ≤ session_limit) (sym joined) few in
    let room_then : lines_in xs + lines_of_sessions (closed c ++ more) ≤ statement_limit = subst (λ (ss : List SessionData). lines_in xs + lines_of_sessions ss ≤ statement_limit) (sym joined) room in
    ap (λ (ls : List Line). lines_said (inside d xs b) ls) say.2
    ∙ both_said first rest (inside d xs b) (inside d xs c) (inside d xs (after c more))
    (one_session_again law d xs b first s say.3 line_there few_now room_now)
    (sessions_again law d xs c rest more say.4 (not_bare s.lines say.3.some) few_then room_then)

-- behind one session or more a line of the last one has come
line_after : (b : Block) (lines : List Line) (more : List SessionData) → SaySessions lines more → has_line b.begun ≡ true → has_line (after b more).begun ≡ true
line_after b lines [] say line_there = line_there
line_after b lines (s ∷ more) say line_there = line_after (record { sessions = closed b; begun = Some s.lines }) say.1 more say.4 (a_line s.lines say.3.some)

pub line_at_last : (lines : List Line) (all : List SessionData) → SaySessions lines all → 1 ≤ length all → has_line (after new_block all).begun ≡ true
line_at_last lines [] say some = absurd (omega (arith, some))
line_at_last lines (s ∷ more) say some = line_after (record { sessions = []; begun = Some s.lines }) say.1 more say.4 (a_line s.lines say.3.some)

-- ---- a block
end_again : (d : List Line) (xs : List StatementData) (b : Block) (line : Line) → IsAlone line (codes "end") → has_line b.begun ≡ true
    → line_said (inside d xs b) line ≡ Ok (behind_script d (xs ++ block_of (closed b) ∷ []))
unfolding line_said
end_again d xs b line alone line_there =
    let grown = xs ++ block_of (closed b) ∷ [] in
    let fault : blocks.end_fault b [] ≡ None = ap (λ (t : Bool). if t then None else Some refusal.UnknownLine) line_there in
    let count : lines_in xs + lines_of_sessions (closed b) ≡ lines_in grown = omega (arith, lines_in-append xs (block_of (closed b) ∷ [])) in
    ap (λ (o : Option (List (List ℕ))). by_session (inside d xs b) line o) (ap (λ (ws : List (List ℕ)). behind ws (codes "session")) alone)
    ∙ ap (λ (o : Option (List (List ℕ))). by_end (inside d xs b) line o) (ap (λ (ws : List (List ℕ)). behind ws (codes "end")) alone)
    ∙ ap (λ (f : Option RefusalKind). unless line.number f (record { part = part.Statements; descriptions = d; statements = grown; block = new_block; lines = lines_in xs + lines_of_sessions (closed b) })) fault
    ∙ ap (λ (s : SoFar). read_to s) (counted_as d grown (lines_in xs + lines_of_sessions (closed b)) (lines_in grown) count)
  where
    read_to : SoFar → Result SoFar Refusal
    read_to s = Ok s

pub together_again : (d : List Line) (xs : List StatementData) (line : Line) → IsAlone line (codes "together") → line_said (behind_script d xs) line ≡ Ok (inside d xs new_block)
unfolding line_said
together_again d xs line alone =
    let count : lines_in xs ≡ lines_in xs + lines_of_sessions (closed new_block) = omega arith in
    ap (λ (o : Option (List (List ℕ))). by_together (behind_script d xs) line o) (ap (λ (ws : List (List ℕ)). behind ws (codes "together")) alone)
    ∙ ap (λ (s : SoFar). read_to s) (counted_in d xs new_block (lines_in xs) (lines_in xs + lines_of_sessions (closed new_block)) count)
  where
    read_to : SoFar → Result SoFar Refusal
    read_to s = Ok s

block_again : SessionLinesAreRead → (d : List Line) (xs : List StatementData) (lines : List Line) (b : TogetherData) → IsBlock lines b → lines_in xs + lines_of (together_statement b) ≤ statement_limit
    → lines_said (behind_script d xs) lines ≡ Ok (behind_script d (xs ++ together_statement b ∷ []))
block_again law d xs lines b is room =
    let last = after new_block b.sessions in
    let all = all_after new_block b.sessions in
    ap (λ (ls : List Line). lines_said (behind_script d xs) ls) is.parts
    ∙ both_said (is.opens ∷ []) (is.inner ++ is.closes ∷ []) (behind_script d xs) (inside d xs new_block) (behind_script d (xs ++ block_of (closed last) ∷ []))
    (one_said is.opens (behind_script d xs) (inside d xs new_block) (together_again d xs is.opens is.together_is))
    (both_said is.inner (is.closes ∷ []) (inside d xs new_block) (inside d xs last) (behind_script d (xs ++ block_of (closed last) ∷ []))
    (sessions_again law d xs new_block is.inner b.sessions is.sessions_are refl is.few room)
    (one_said is.closes (inside d xs last) (behind_script d (xs ++ block_of (closed last) ∷ [])) (end_again d xs last is.closes is.end_is (line_at_last is.inner b.sessions is.sessions_are is.some))))
    ∙ ap (λ (ss : List SessionData). read_with ss) all
  where
    read_with : List SessionData → Result SoFar Refusal
    read_with ss = Ok (behind_script d (xs ++ block_of ss ∷ []))

-- ---- a statement of one line
single_again : StatementsAreRead → (d : List Line) (xs : List StatementData) (lines : List Line) (x : StatementData) → IsSingle x → IsOne lines x → lines_in xs + lines_of x ≤ statement_limit
    → lines_said (behind_script d xs) lines ≡ Ok (behind_script d (xs ++ x ∷ []))
unfolding line_said
single_again law d xs lines x single one room =
    let line = one.0 in
    let grown = xs ++ x ∷ [] in
    let one_room : lines_in xs < statement_limit = omega (arith, room, single_line x single) in
    let count : lines_in xs + 1 ≡ lines_in grown = omega (arith, lines_in-append xs (x ∷ []), single_line x single) in
    ap (λ (ls : List Line). lines_said (behind_script d xs) ls) one.1
    ∙ one_said line (behind_script d xs) (behind_script d grown)
    (ap (λ (o : Option (List (List ℕ))). by_together (behind_script d xs) line o) (no_together (texts line.words) x single one.2)
    ∙ ap (λ (r : Result StatementData RefusalKind). then_read (at_line line.number r) (statement_added (behind_script d xs) line.number)) ((law line.words x).1 one.2)
    ∙ with_room (lines_in xs) line.number (record (behind_script d xs) { statements = grown; lines = lines_in xs + 1 }) one_room
    ∙ ap (λ (s : SoFar). read_to s) (counted_as d grown (lines_in xs + 1) (lines_in grown) count))
  where
    read_to : SoFar → Result SoFar Refusal
    read_to s = Ok s

one_again : StatementsAreRead → SessionLinesAreRead → (d : List Line) (xs : List StatementData) (lines : List Line) (x : StatementData) → SayOne lines x → lines_in xs + lines_of x ≤ statement_limit
    → lines_said (behind_script d xs) lines ≡ Ok (behind_script d (xs ++ x ∷ []))
one_again law inner d xs lines (launch_statement s) say room = single_again law d xs lines (launch_statement s) tt say room
one_again law inner d xs lines (hey_statement s) say room = single_again law d xs lines (hey_statement s) tt say room
one_again law inner d xs lines (post_statement s) say room = single_again law d xs lines (post_statement s) tt say room
one_again law inner d xs lines (lock_statement s) say room = single_again law d xs lines (lock_statement s) tt say room
one_again law inner d xs lines (together_statement s) say room = block_again inner d xs lines s say room

-- ---- all statements
pub all_again : StatementsAreRead → SessionLinesAreRead → (d : List Line) (xs : List StatementData) (lines : List Line) (more : List StatementData) → SayAll lines more → lines_in (xs ++ more) ≤ statement_limit
    → lines_said (behind_script d xs) lines ≡ Ok (behind_script d (xs ++ more))
unfolding lines_said
all_again law inner d xs lines [] say room = ap (λ (ls : List Line). lines_said (behind_script d xs) ls) say ∙ ap (λ (ys : List StatementData). read_with ys) (sym (append-nil xs)) where
  read_with : List StatementData → Result SoFar Refusal
  read_with ys = Ok (behind_script d ys)
all_again law inner d xs lines (x ∷ more) say room =
    let joined = append_assoc xs (x ∷ []) more in
    let one_room : lines_in xs + lines_of x ≤ statement_limit = omega (arith, room, lines_in-append xs (x ∷ more)) in
    let room_then : lines_in ((xs ++ x ∷ []) ++ more) ≤ statement_limit = subst (λ (ys : List StatementData). lines_in ys ≤ statement_limit) (sym joined) room in
    ap (λ (ls : List Line). lines_said (behind_script d xs) ls) say.2
    ∙ both_said say.0 say.1 (behind_script d xs) (behind_script d (xs ++ x ∷ [])) (behind_script d ((xs ++ x ∷ []) ++ more))
    (one_again law inner d xs say.0 x say.3 one_room)
    (all_again law inner d (xs ++ x ∷ []) say.1 more say.4 room_then)
    ∙ ap (λ (ys : List StatementData). read_with ys) joined
  where
    read_with : List StatementData → Result SoFar Refusal
    read_with ys = Ok (behind_script d ys)
