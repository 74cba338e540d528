-- Lines that are read to the end of a statement say statements, line by line and block by block.
use Rattle.std.proofs.Common.{◌≡◌, ◌≤◌, ◌+◌, ℕ, true, false, List, [], ◌∷◌, ◌++◌, length, codes, Option, Some, None, Ok, refl, ap, sym, subst, ◌∙◌, append_assoc, arith}
use Rattle.std.proofs.lemmas.Grind.{common_steps}
use Rattle.std.proofs.lemmas.List.{append-nil, length-append}
use Rattle.ak_input.specs.declared.line.Line.{Line}
use Rattle.ak_describe.specs.Pass.{at_line}
use Rattle.ak_describe.specs.Words.{behind, ends, texts}
use Rattle.ak_script.specs.declared.part.Part.TheVariants as part
use Rattle.ak_script.specs.Blocks as blocks
use Rattle.ak_script.specs.Blocks.{Block, new_block, with_begun, closed, is_bare, has_line, more_lines, session_begun, line_of}
use Rattle.ak_script.specs.Forms.{statement_of}
use Rattle.ak_script.specs.Limits.{session_limit}
use Rattle.ak_script.specs.Pass.{SoFar, more_fault, count_fault, statement_added, by_together, line_added, session_line, block_ended, end_line, by_end, by_session, line_said, lines_said}
use Rattle.ak_script.specs.Says.{StatementsAreRead, SessionLinesAreRead}
use Rattle.ak_script.specs.SaysLines.{IsAlone, SayLines, SaySession, SaySessions, IsBlock, IsOne, SayOne, SayAll, behind_script}
use Rattle.ak_script.specs.Statement.{SessionLineData, SessionData, StatementData, launch_statement, hey_statement, post_statement, lock_statement, together_statement, lines_of_sessions, lines_in}
use Rattle.ak_script.proofs.Counting.{lines_in-append, lines_of_sessions-append, IsSingle, is_single, single_line, said_inside, line_counts, may_begin, may_end, one_session}
use Rattle.ak_script.proofs.Outcomes.{bound, unless_is, at_line_is}
use Rattle.ak_script.proofs.Stages.{inside, block_of, counted_as, counted_in, alone_is, no_more}

-- ---- how a block goes on
abbrev pub with_lines : List SessionLineData → SessionData
with_lines lines = record { lines = lines }

-- first with lines of the session that has begun, and then with sessions
pub record BegunGoesOn (sessions : List SessionData) (lines : List SessionLineData) (inner : List Line) (all : List SessionData) : Type 0 where
  pub first : List Line
  pub rest : List Line
  pub more_of_it : List SessionLineData
  pub more : List SessionData
  pub parts : inner ≡ first ++ rest
  pub lines_are : SayLines first more_of_it
  pub some : 1 ≤ length (lines ++ more_of_it)
  pub all_are : all ≡ sessions ++ with_lines (lines ++ more_of_it) ∷ more
  pub sessions_are : SaySessions rest more

pub record NoneGoesOn (sessions : List SessionData) (inner : List Line) (all : List SessionData) : Type 0 where
  pub more : List SessionData
  pub all_are : all ≡ sessions ++ more
  pub sessions_are : SaySessions inner more

abbrev pub GoesOn : List SessionData → Option (List SessionLineData) → List Line → List SessionData → Type 0
GoesOn sessions None inner all = NoneGoesOn sessions inner all
GoesOn sessions (Some lines) inner all = BegunGoesOn sessions lines inner all

-- with a line more of the session
line_goes_on : (sessions : List SessionData) (lines : List SessionLineData) (x : SessionLineData) (line : Line) (inner : List Line) (all : List SessionData)
    → SayLines (line ∷ []) (x ∷ []) → BegunGoesOn sessions (more_lines x lines) inner all → BegunGoesOn sessions lines (line ∷ inner) all
line_goes_on sessions lines x line inner all says o =
    let joined = append_assoc lines (x ∷ []) o.more_of_it in
    record {
      first = line ∷ o.first;
      rest = o.rest;
      more_of_it = x ∷ o.more_of_it;
      more = o.more;
      parts = ap (λ (ls : List Line). line ∷ ls) o.parts;
      lines_are = (says.0, o.lines_are);
      some = subst (λ (ls : List SessionLineData). 1 ≤ length ls) joined o.some;
      all_are = o.all_are ∙ ap (λ (ls : List SessionLineData). sessions ++ with_lines ls ∷ o.more) joined;
      sessions_are = o.sessions_are;
    }

-- with the line that begins a session
session_goes_on : (sessions : List SessionData) (begun : Option (List SessionLineData)) (line : Line) (inner : List Line) (all : List SessionData)
    → is_bare begun ≡ false → IsAlone line (codes "session") → BegunGoesOn (with_begun sessions begun) [] inner all → GoesOn sessions begun (line ∷ inner) all
session_goes_on sessions None line inner all not alone o =
    let one : SaySession (line ∷ o.first) (with_lines o.more_of_it) = record { opens = line; rest = o.first; parts = refl; session_is = alone; lines_are = o.lines_are; some = o.some } in
    record {
      more = with_lines o.more_of_it ∷ o.more;
      all_are = o.all_are;
      sessions_are = (line ∷ o.first, o.rest, ap (λ (ls : List Line). line ∷ ls) o.parts, one, o.sessions_are);
    }
session_goes_on sessions (Some []) line inner all not alone o = absurd cc
session_goes_on sessions (Some (x ∷ lines)) line inner all not alone o =
    let one : SaySession (line ∷ o.first) (with_lines o.more_of_it) = record { opens = line; rest = o.first; parts = refl; session_is = alone; lines_are = o.lines_are; some = o.some } in
    let whole : List SessionLineData = x ∷ lines in
    record {
      first = [];
      rest = line ∷ inner;
      more_of_it = [];
      more = with_lines o.more_of_it ∷ o.more;
      parts = refl;
      lines_are = tt;
      some = grind (arith, common_steps);
      all_are = o.all_are ∙ append_assoc sessions (with_lines whole ∷ []) (with_lines o.more_of_it ∷ o.more)
          ∙ ap (λ (ls : List SessionLineData). sessions ++ with_lines ls ∷ (with_lines o.more_of_it ∷ o.more)) (sym (append-nil whole));
      sessions_are = (line ∷ o.first, o.rest, ap (λ (ls : List Line). line ∷ ls) o.parts, one, o.sessions_are);
    }

-- with the line that ends the block
end_goes_on : (sessions : List SessionData) (begun : Option (List SessionLineData)) → has_line begun ≡ true → GoesOn sessions begun [] (with_begun sessions begun)
end_goes_on sessions None line = absurd cc
end_goes_on sessions (Some []) line = absurd cc
end_goes_on sessions (Some (x ∷ lines)) line =
    let whole : List SessionLineData = x ∷ lines in
    record {
      first = [];
      rest = [];
      more_of_it = [];
      more = [];
      parts = refl;
      lines_are = tt;
      some = grind (arith, common_steps);
      all_are = ap (λ (ls : List SessionLineData). sessions ++ with_lines ls ∷ []) (sym (append-nil whole));
      sessions_are = refl;
    }

-- ---- what is said from where the next line stands
pub data Stage : Type 0 where
  outside : Stage
  within : Block → Stage

abbrev pub state : List Line → List StatementData → Stage → SoFar
state d xs outside = behind_script d xs
state d xs (within b) = inside d xs b

abbrev pub Fits : Stage → Type 0
Fits outside = Unit {0}
Fits (within b) = length (closed b) ≤ session_limit

pub record Outside (d : List Line) (xs : List StatementData) (lines : List Line) (t : SoFar) : Type 0 where
  pub statements : List StatementData
  pub say : SayAll lines statements
  pub reaches : t ≡ behind_script d (xs ++ statements)

pub record Within (d : List Line) (xs : List StatementData) (b : Block) (lines : List Line) (t : SoFar) : Type 0 where
  pub inner : List Line
  pub closes : Line
  pub after : List Line
  pub all : List SessionData
  pub statements : List StatementData
  pub parts : lines ≡ inner ++ closes ∷ after
  pub goes_on : GoesOn b.sessions b.begun inner all
  pub end_is : IsAlone closes (codes "end")
  pub some : 1 ≤ length all
  pub few : length all ≤ session_limit
  pub say : SayAll after statements
  pub reaches : t ≡ behind_script d (xs ++ block_of all ∷ statements)

abbrev pub Taken : List Line → List StatementData → Stage → List Line → SoFar → Type 0
Taken d xs outside lines t = Outside d xs lines t
Taken d xs (within b) lines t = Within d xs b lines t

abbrev pub Further : List Line → List Line → SoFar → Type 0
Further d lines t = (g : Stage) (xs : List StatementData) → Fits g → lines_said (state d xs g) lines ≡ Ok t → Taken d xs g lines t

-- ---- a line outside of blocks
pub one_line : (x : StatementData) (lines : List Line) → IsSingle x → IsOne lines x → SayOne lines x
one_line (launch_statement s) lines single one = one
one_line (hey_statement s) lines single one = one
one_line (post_statement s) lines single one = one
one_line (lock_statement s) lines single one = one
one_line (together_statement s) lines single one = absurd single

statement_more : (d : List Line) (xs : List StatementData) (x : StatementData) (line : Line) (lines : List Line) (t : SoFar) → SayOne (line ∷ []) x → Outside d (xs ++ x ∷ []) lines t → Outside d xs (line ∷ lines) t
statement_more d xs x line lines t one o = record {
  statements = x ∷ o.statements;
  say = (line ∷ [], lines, refl, one, o.say);
  reaches = o.reaches ∙ ap (λ (ys : List StatementData). behind_script d ys) (append_assoc xs (x ∷ []) o.statements);
}

-- a block behind the line that begins it
block_more : (d : List Line) (xs : List StatementData) (line : Line) (lines : List Line) (t : SoFar) → IsAlone line (codes "together") → Within d xs new_block lines t → Outside d xs (line ∷ lines) t
block_more d xs line lines t alone w =
    let block : IsBlock (line ∷ (w.inner ++ w.closes ∷ [])) (record { sessions = w.all }) = record {
      opens = line;
      inner = w.inner;
      closes = w.closes;
      parts = refl;
      together_is = alone;
      sessions_are = subst (SaySessions w.inner) (sym w.goes_on.all_are) w.goes_on.sessions_are;
      some = w.some;
      few = w.few;
      end_is = w.end_is;
    } in
    record {
      statements = block_of w.all ∷ w.statements;
      say = (line ∷ (w.inner ++ w.closes ∷ []), w.after, ap (λ (ls : List Line). line ∷ ls) (w.parts ∙ sym (append_assoc w.inner (w.closes ∷ []) w.after)), block, w.say);
      reaches = w.reaches;
    }

statement_taken : StatementsAreRead → (d : List Line) (xs : List StatementData) (line : Line) (lines : List Line) (next t : SoFar) → Further d lines t
    → (o : Option (List (List ℕ))) → behind (texts line.words) (codes "together") ≡ o → by_together (behind_script d xs) line o ≡ Ok next → lines_said next lines ≡ Ok t
    → Outside d xs (line ∷ lines) t
statement_taken law d xs line lines next t further None is e f =
    let b = bound (at_line line.number (statement_of line.words)) (statement_added (behind_script d xs) line.number) next e in
    let x = b.value in
    let read = at_line_is line.number (statement_of line.words) x b.is in
    let single = is_single line.words x read in
    let u = unless_is line.number (count_fault (lines_in xs)) (record (behind_script d xs) { statements = xs ++ x ∷ []; lines = lines_in xs + 1 }) next b.then_is in
    let count : lines_in (xs ++ x ∷ []) ≡ lines_in xs + 1 = omega (arith, lines_in-append xs (x ∷ []), single_line x single) in
    let there = counted_as d (xs ++ x ∷ []) (lines_in (xs ++ x ∷ [])) (lines_in xs + 1) count ∙ u.1 in
    statement_more d xs x line lines t (one_line x (line ∷ []) single (line, refl, (law line.words x).0 read))
    (further outside (xs ++ x ∷ []) tt (ap (λ (s : SoFar). lines_said s lines) there ∙ f))
statement_taken law d xs line lines next t further (Some words) is e f =
    let u = unless_is line.number (more_fault words) (record (behind_script d xs) { part = part.Block }) next e in
    let none : lines_in xs + lines_of_sessions (closed new_block) ≡ lines_in xs = omega arith in
    let there = counted_in d xs new_block (lines_in xs + lines_of_sessions (closed new_block)) (lines_in xs) none ∙ u.1 in
    let fits : length (closed new_block) ≤ session_limit = omega arith in
    block_more d xs line lines t (alone_is line (codes "together") words is (no_more words u.0)) (further (within new_block) xs fits (ap (λ (s : SoFar). lines_said s lines) there ∙ f))

-- ---- a line of a block
line_more : (d : List Line) (xs : List StatementData) (b c : Block) (line : Line) (lines : List Line) (t : SoFar) (w : Within d xs c lines t) → GoesOn b.sessions b.begun (line ∷ w.inner) w.all → Within d xs b (line ∷ lines) t
line_more d xs b c line lines t w goes_on = record {
  inner = line ∷ w.inner;
  closes = w.closes;
  after = w.after;
  all = w.all;
  statements = w.statements;
  parts = ap (λ (ls : List Line). line ∷ ls) w.parts;
  goes_on = goes_on;
  end_is = w.end_is;
  some = w.some;
  few = w.few;
  say = w.say;
  reaches = w.reaches;
}

-- the last one, behind a line of a session
end_more : (d : List Line) (xs : List StatementData) (b : Block) (line : Line) (lines : List Line) (t : SoFar) → length (closed b) ≤ session_limit → has_line b.begun ≡ true → IsAlone line (codes "end")
    → Outside d (xs ++ block_of (closed b) ∷ []) lines t → Within d xs b (line ∷ lines) t
end_more d xs b line lines t few line_there alone o = record {
  inner = [];
  closes = line;
  after = lines;
  all = closed b;
  statements = o.statements;
  parts = refl;
  goes_on = end_goes_on b.sessions b.begun line_there;
  end_is = alone;
  some = one_session b.sessions b.begun line_there;
  few = few;
  say = o.say;
  reaches = o.reaches ∙ ap (λ (ys : List StatementData). behind_script d ys) (append_assoc xs (block_of (closed b) ∷ []) o.statements);
}

session_taken : (d : List Line) (xs : List StatementData) (b : Block) (line : Line) (lines : List Line) (next t : SoFar) → Further d lines t
    → (words : List (List ℕ)) → behind (texts line.words) (codes "session") ≡ Some words → session_line (inside d xs b) line.number words ≡ Ok next → lines_said next lines ≡ Ok t
    → Within d xs b (line ∷ lines) t
session_taken d xs b line lines next t further words is e f =
    let u = unless_is line.number (blocks.session_fault b words) (record (inside d xs b) { block = session_begun b }) next e in
    let may = may_begin b words u.0 in
    let count : lines_in xs + lines_of_sessions (closed (session_begun b)) ≡ lines_in xs + lines_of_sessions (closed b) = omega (arith, lines_of_sessions-append (closed b) (with_lines [] ∷ [])) in
    let there = counted_in d xs (session_begun b) (lines_in xs + lines_of_sessions (closed (session_begun b))) (lines_in xs + lines_of_sessions (closed b)) count ∙ u.1 in
    let fits : length (closed (session_begun b)) ≤ session_limit = omega (arith, may.room, length-append (closed b) (with_lines [] ∷ [])) in
    let w : Within d xs (session_begun b) lines t = further (within (session_begun b)) xs fits (ap (λ (s : SoFar). lines_said s lines) there ∙ f) in
    line_more d xs b (session_begun b) line lines t w (session_goes_on b.sessions b.begun line w.inner w.all may.line (alone_is line (codes "session") words is may.alone) w.goes_on)

end_taken : (d : List Line) (xs : List StatementData) (b : Block) (line : Line) (lines : List Line) (next t : SoFar) → length (closed b) ≤ session_limit → Further d lines t
    → (words : List (List ℕ)) → behind (texts line.words) (codes "end") ≡ Some words → end_line (inside d xs b) line.number words ≡ Ok next → lines_said next lines ≡ Ok t
    → Within d xs b (line ∷ lines) t
end_taken d xs b line lines next t few further words is e f =
    let u = unless_is line.number (blocks.end_fault b words) (block_ended (inside d xs b)) next e in
    let may = may_end b words u.0 in
    let grown = xs ++ block_of (closed b) ∷ [] in
    let count : lines_in grown ≡ lines_in xs + lines_of_sessions (closed b) = omega (arith, lines_in-append xs (block_of (closed b) ∷ [])) in
    let there = counted_as d grown (lines_in grown) (lines_in xs + lines_of_sessions (closed b)) count ∙ u.1 in
    end_more d xs b line lines t few may.line (alone_is line (codes "end") words is may.alone) (further outside grown tt (ap (λ (s : SoFar). lines_said s lines) there ∙ f))

line_taken : (d : List Line) (xs : List StatementData) (sessions : List SessionData) (ls : List SessionLineData) (x : SessionLineData) (line : Line) (lines : List Line) (next t : SoFar)
    → length (with_begun sessions (Some ls)) ≤ session_limit → Further d lines t → SayLines (line ∷ []) (x ∷ [])
    → line_added (inside d xs (record { sessions = sessions; begun = Some ls })) line.number x ≡ Ok next → lines_said next lines ≡ Ok t
    → Within d xs (record { sessions = sessions; begun = Some ls }) (line ∷ lines) t
line_taken d xs sessions ls x line lines next t few further says e f =
    let b : Block = record { sessions = sessions; begun = Some ls } in
    let c : Block = record { sessions = sessions; begun = Some (more_lines x ls) } in
    let u = unless_is line.number (count_fault (lines_in xs + lines_of_sessions (closed b))) (record (inside d xs b) { block = c; lines = (lines_in xs + lines_of_sessions (closed b)) + 1 }) next e in
    let count : lines_in xs + lines_of_sessions (closed c) ≡ (lines_in xs + lines_of_sessions (closed b)) + 1 = omega (arith, line_counts sessions ls x) in
    let there = counted_in d xs c (lines_in xs + lines_of_sessions (closed c)) ((lines_in xs + lines_of_sessions (closed b)) + 1) count ∙ u.1 in
    let fits : length (closed c) ≤ session_limit = omega (arith, few, length-append sessions (with_lines ls ∷ []), length-append sessions (with_lines (more_lines x ls) ∷ [])) in
    let w : Within d xs c lines t = further (within c) xs fits (ap (λ (s : SoFar). lines_said s lines) there ∙ f) in
    line_more d xs b c line lines t w (line_goes_on sessions ls x line w.inner w.all says w.goes_on)

inner_taken : SessionLinesAreRead → (d : List Line) (xs : List StatementData) (sessions : List SessionData) (begun : Option (List SessionLineData)) (line : Line) (lines : List Line) (next t : SoFar)
    → length (with_begun sessions begun) ≤ session_limit → Further d lines t
    → by_end (inside d xs (record { sessions = sessions; begun = begun })) line None ≡ Ok next → lines_said next lines ≡ Ok t
    → Within d xs (record { sessions = sessions; begun = begun }) (line ∷ lines) t
inner_taken law d xs sessions None line lines next t few further e f = absurd cc
inner_taken law d xs sessions (Some ls) line lines next t few further e f =
    let b : Block = record { sessions = sessions; begun = Some ls } in
    let r = bound (at_line line.number (line_of b line.words)) (line_added (inside d xs b) line.number) next e in
    let i = said_inside sessions (Some ls) line.words r.value (at_line_is line.number (line_of b line.words) r.value r.is) in
    line_taken d xs sessions ls r.value line lines next t few further ((law line.words r.value).0 i.said, tt) r.then_is f

block_taken : SessionLinesAreRead → (d : List Line) (xs : List StatementData) (b : Block) (line : Line) (lines : List Line) (next t : SoFar) → length (closed b) ≤ session_limit → Further d lines t
    → (o : Option (List (List ℕ))) → behind (texts line.words) (codes "session") ≡ o → by_session (inside d xs b) line o ≡ Ok next → lines_said next lines ≡ Ok t
    → Within d xs b (line ∷ lines) t
block_taken law d xs b line lines next t few further (Some words) is e f = session_taken d xs b line lines next t further words is e f
block_taken law d xs b line lines next t few further None is e f = by_last (behind (texts line.words) (codes "end")) refl e where
  by_last : (o : Option (List (List ℕ))) → behind (texts line.words) (codes "end") ≡ o → by_end (inside d xs b) line o ≡ Ok next → Within d xs b (line ∷ lines) t
  by_last (Some words) at g = end_taken d xs b line lines next t few further words at g f
  by_last None at g = inner_taken law d xs b.sessions b.begun line lines next t few further g f

-- ---- all lines
step_taken : StatementsAreRead → SessionLinesAreRead → (d : List Line) (g : Stage) (xs : List StatementData) (line : Line) (lines : List Line) (next t : SoFar) → Fits g → Further d lines t
    → line_said (state d xs g) line ≡ Ok next → lines_said next lines ≡ Ok t → Taken d xs g (line ∷ lines) t
unfolding line_said
step_taken law inner d outside xs line lines next t fits further e f = statement_taken law d xs line lines next t further (behind (texts line.words) (codes "together")) refl e f
step_taken law inner d (within b) xs line lines next t fits further e f = block_taken inner d xs b line lines next t fits further (behind (texts line.words) (codes "session")) refl e f

pub taken : StatementsAreRead → SessionLinesAreRead → (d : List Line) (lines : List Line) (t : SoFar) → t.part ≡ part.Statements → Further d lines t
unfolding lines_said
taken law inner d [] t ends outside xs fits e =
    let same : behind_script d xs ≡ t = cc in
    record { statements = []; say = refl; reaches = sym same ∙ ap (λ (ys : List StatementData). behind_script d ys) (sym (append-nil xs)) }
taken law inner d [] t ends (within b) xs fits e =
    let same : inside d xs b ≡ t = cc in
    let wrong : part.Block ≡ part.Statements = ap (λ (s : SoFar). s.part) same ∙ ends in
    absurd cc
taken law inner d (line ∷ lines) t ends g xs fits e =
    let b = bound (line_said (state d xs g) line) (λ (next : SoFar). lines_said next lines) t e in
    step_taken law inner d g xs line lines b.value t fits (taken law inner d lines t ends) b.is b.then_is
