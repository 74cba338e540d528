-- What is read is whole: the applications, by what is told of descriptions, and the statements, one line after another.
use Rattle.std.proofs.Common.{◌≡◌, ◌≤◌, ◌+◌, ℕ, List, [], ◌∷◌, ◌++◌, length, codes, Option, Some, None, Ok, refl, ap, sym, subst, ◌∙◌, arith}
use Rattle.std.specs.Prelude.{option_map}
use Rattle.std.specs.List.{All}
use Rattle.std.proofs.lemmas.List.{length-append}
use Rattle.std.proofs.lemmas.List.Elements.{All-nil, All-push}
use Rattle.ak_input.specs.declared.line.Line.{Line}
use Rattle.ak_input.specs.declared.lines.InputLines.{InputLines}
use Rattle.ak_input.specs.Lines.{too_long, lines_of}
use Rattle.ak_describe.specs.Description.{description}
use Rattle.ak_describe.specs.Laws.{DescribedIsRead}
use Rattle.ak_describe.specs.Pass.{or_refused, at_line, then_read}
use Rattle.ak_describe.specs.Read.{lines_read, end_fault}
use Rattle.ak_describe.specs.Whole.{DescriptionsAreWhole}
use Rattle.ak_describe.specs.Words.{texts, behind}
use Rattle.ak_script.specs.declared.part.Part.{Part}
use Rattle.ak_script.specs.declared.part.Part.TheVariants as part
use Rattle.ak_script.specs.Blocks as blocks
use Rattle.ak_script.specs.Blocks.{with_begun, closed, more_lines, session_begun, line_of}
use Rattle.ak_script.specs.Forms.{statement_of}
use Rattle.ak_script.specs.Laws.{IsWholeSession, IsWholeBlock, IsWholeStatement, IsWholeScript, ScriptsAreWhole}
use Rattle.ak_script.specs.Limits.{session_limit, statement_limit}
use Rattle.ak_script.specs.Pass.{SoFar, nothing_said, more_fault, by_script, script_fault, front_fault, count_fault, statement_added, by_together, line_added, session_line, block_ended, end_line, by_end, by_session, line_in, line_said, lines_said, no_words, block_fault, ended, first_pass}
use Rattle.ak_script.specs.Script.{ScriptData, with_apps, second_pass, script_in, unless_long, script_of}
use Rattle.ak_script.specs.Statement.{SessionLineData, SessionData, TogetherData, StatementData, together_statement, lines_of_sessions, lines_in}
use Rattle.ak_script.proofs.Counting.{lines_in-append, lines_of_sessions-append, one_more, IsSingle, is_single, single_line, single_whole, said_inside, line_counts, may_begin, whole_so_far, may_end, not_bare, one_session}
use Rattle.ak_script.proofs.Outcomes.{bound, then_is, unless_is, at_line_is, refused_is}

-- ---- what is always so of what the lines say
pub record Sound (s : SoFar) : Type 0 where
  pub few : s.lines ≤ statement_limit
  pub counted : s.lines ≡ lines_in s.statements + lines_of_sessions (closed s.block)
  pub whole : All IsWholeStatement s.statements
  pub sessions_whole : All IsWholeSession s.block.sessions
  pub room : length (closed s.block) ≤ session_limit

sound_said : Sound nothing_said
sound_said = record {
  few = omega arith;
  counted = refl;
  whole = All-nil IsWholeStatement;
  sessions_whole = All-nil IsWholeSession;
  room = omega arith;
}

-- ---- statements
sound_added : (s : SoFar) (line : ℕ) (x : StatementData) (t : SoFar) → Sound s → IsSingle x → statement_added s line x ≡ Ok t → Sound t
sound_added s line x t sound single e =
    let u = unless_is line (count_fault s.lines) (record s { statements = s.statements ++ x ∷ []; lines = s.lines + 1 }) t e in
    subst Sound u.1 (record {
      few = one_more s.lines u.0;
      counted = omega (arith, sound.counted, lines_in-append s.statements (x ∷ []), single_line x single);
      whole = All-push IsWholeStatement s.statements x sound.whole (single_whole x single);
      sessions_whole = sound.sessions_whole;
      room = sound.room;
    })

-- another part alone
sound_part : (s : SoFar) (p : Part) (t : SoFar) → Sound s → record s { part = p } ≡ t → Sound t
sound_part s p t sound same =
    subst Sound same (record { few = sound.few; counted = sound.counted; whole = sound.whole; sessions_whole = sound.sessions_whole; room = sound.room })

sound_statement : (s : SoFar) (line : Line) (words : Option (List (List ℕ))) (t : SoFar) → Sound s → by_together s line words ≡ Ok t → Sound t
sound_statement s line None t sound e =
    let b = bound (at_line line.number (statement_of line.words)) (statement_added s line.number) t e in
    sound_added s line.number b.value t sound (is_single line.words b.value (at_line_is line.number (statement_of line.words) b.value b.is)) b.then_is
sound_statement s line (Some words) t sound e = sound_part s part.Block t sound (unless_is line.number (more_fault words) (record s { part = part.Block }) t e).1

-- ---- blocks
sound_line : (s : SoFar) (line : ℕ) (lines : List SessionLineData) (x : SessionLineData) (t : SoFar) → Sound s → s.block.begun ≡ Some lines → line_added s line x ≡ Ok t → Sound t
sound_line s line lines x t sound begun e =
    let u = unless_is line (count_fault s.lines) (record s { block = blocks.line_added s.block x; lines = s.lines + 1 }) t e in
    let now : closed s.block ≡ with_begun s.block.sessions (Some lines) = ap (with_begun s.block.sessions) begun in
    let next : closed (blocks.line_added s.block x) ≡ with_begun s.block.sessions (Some (more_lines x lines)) =
    ap (λ (o : Option (List SessionLineData)). with_begun s.block.sessions (option_map (more_lines x) o)) begun in
    let counts = ap lines_of_sessions next ∙ line_counts s.block.sessions lines x ∙ ap (λ (ss : List SessionData). lines_of_sessions ss + 1) (sym now) in
    let as_long : length (closed (blocks.line_added s.block x)) ≡ length (closed s.block) =
    ap (λ (ss : List SessionData). length ss) next ∙ length-append s.block.sessions (record { lines = more_lines x lines } ∷ [])
    ∙ sym (length-append s.block.sessions (record { lines = lines } ∷ [])) ∙ ap (λ (ss : List SessionData). length ss) (sym now) in
    subst Sound u.1 (record {
      few = one_more s.lines u.0;
      counted = omega (arith, sound.counted, counts);
      whole = sound.whole;
      sessions_whole = sound.sessions_whole;
      room = subst (λ (n : ℕ). n ≤ session_limit) (sym as_long) sound.room;
    })

sound_session : (s : SoFar) (line : ℕ) (words : List (List ℕ)) (t : SoFar) → Sound s → session_line s line words ≡ Ok t → Sound t
sound_session s line words t sound e =
    let u = unless_is line (blocks.session_fault s.block words) (record s { block = session_begun s.block }) t e in
    let may = may_begin s.block words u.0 in
    let none : SessionData = record { lines = [] } in
    subst Sound u.1 (record {
      few = sound.few;
      counted = omega (arith, sound.counted, lines_of_sessions-append (closed s.block) (none ∷ []));
      whole = sound.whole;
      sessions_whole = whole_so_far s.block.sessions s.block.begun may.line sound.sessions_whole;
      room = omega (arith, may.room, length-append (closed s.block) (none ∷ []));
    })

sound_ended : (s : SoFar) (line : ℕ) (words : List (List ℕ)) (t : SoFar) → Sound s → end_line s line words ≡ Ok t → Sound t
sound_ended s line words t sound e =
    let u = unless_is line (blocks.end_fault s.block words) (block_ended s) t e in
    let may = may_end s.block words u.0 in
    let b : TogetherData = record { sessions = closed s.block } in
    let whole : IsWholeBlock b = record {
      some = one_session s.block.sessions s.block.begun may.line;
      few = sound.room;
      sessions_are = whole_so_far s.block.sessions s.block.begun (not_bare s.block.begun may.line) sound.sessions_whole;
    } in
    subst Sound u.1 (record {
      few = sound.few;
      counted = omega (arith, sound.counted, lines_in-append s.statements (together_statement b ∷ []));
      whole = All-push IsWholeStatement s.statements (together_statement b) sound.whole whole;
      sessions_whole = All-nil IsWholeSession;
      room = omega arith;
    })

sound_by_end : (s : SoFar) (line : Line) (words : Option (List (List ℕ))) (t : SoFar) → Sound s → by_end s line words ≡ Ok t → Sound t
sound_by_end s line None t sound e =
    let b = bound (at_line line.number (line_of s.block line.words)) (line_added s line.number) t e in
    let i = said_inside s.block.sessions s.block.begun line.words b.value (at_line_is line.number (line_of s.block line.words) b.value b.is) in
    sound_line s line.number i.lines b.value t sound i.begun_is b.then_is
sound_by_end s line (Some words) t sound e = sound_ended s line.number words t sound e

sound_in_block : (s : SoFar) (line : Line) (words : Option (List (List ℕ))) (t : SoFar) → Sound s → by_session s line words ≡ Ok t → Sound t
sound_in_block s line None t sound e = sound_by_end s line (behind (texts line.words) (codes "end")) t sound e
sound_in_block s line (Some words) t sound e = sound_session s line.number words t sound e

-- ---- all lines
sound_described : (s : SoFar) (line : Line) (words : Option (List (List ℕ))) (t : SoFar) → Sound s → by_script s line words ≡ Ok t → Sound t
sound_described s line None t sound e =
    subst Sound (then_is (lines_read (s.descriptions ++ line ∷ [])) (record s { descriptions = s.descriptions ++ line ∷ [] }) t e)
    (record { few = sound.few; counted = sound.counted; whole = sound.whole; sessions_whole = sound.sessions_whole; room = sound.room })
sound_described s line (Some words) t sound e = sound_part s part.Statements t sound (unless_is line.number (script_fault s.descriptions words) (record s { part = part.Statements }) t e).1

sound_in : (p : Part) (s : SoFar) (line : Line) (t : SoFar) → Sound s → line_in p s line ≡ Ok t → Sound t
sound_in part.Front s line t sound e = sound_part s part.Descriptions t sound (unless_is line.number (front_fault (texts line.words)) (record s { part = part.Descriptions }) t e).1
sound_in part.Descriptions s line t sound e = sound_described s line (behind (texts line.words) (codes "script")) t sound e
sound_in part.Statements s line t sound e = sound_statement s line (behind (texts line.words) (codes "together")) t sound e
sound_in part.Block s line t sound e = sound_in_block s line (behind (texts line.words) (codes "session")) t sound e

sound_after : (s : SoFar) (line : Line) (t : SoFar) → Sound s → line_said s line ≡ Ok t → Sound t
unfolding line_said
sound_after s line t sound e = sound_in s.part s line t sound e

pub sound_lines : (lines : List Line) (s t : SoFar) → Sound s → lines_said s lines ≡ Ok t → Sound t
unfolding lines_said
sound_lines [] s t sound e = let same : s ≡ t = cc in subst Sound same sound
sound_lines (line ∷ lines) s t sound e =
    let b = bound (line_said s line) (λ (next : SoFar). lines_said next lines) t e in
    sound_lines lines b.value t (sound_after s line b.value sound b.is) b.then_is

ended_is : (lines : List Line) (s t : SoFar) → ended lines s ≡ Ok t → s ≡ t
ended_is lines s t e =
    let b = bound (or_refused (end_fault s.descriptions) s) (λ (u : SoFar). or_refused (block_fault u.part lines) u) t e in
    refused_is (end_fault s.descriptions) s b.value b.is ∙ refused_is (block_fault b.value.part lines) b.value t b.then_is

sound_passed : (read : InputLines) (t : SoFar) → first_pass read ≡ Ok t → Sound t
unfolding first_pass
sound_passed read t e =
    let b = bound (lines_said nothing_said read.lines) (λ (s : SoFar). then_read (or_refused (no_words read.fault) s) (ended read.lines)) t e in
    let w = bound (or_refused (no_words read.fault) b.value) (ended read.lines) t b.then_is in
    let same = refused_is (no_words read.fault) b.value w.value w.is ∙ ended_is read.lines w.value t w.then_is in
    subst Sound same (sound_lines read.lines nothing_said b.value sound_said b.is)

pub few_lines : (s : SoFar) → Sound s → lines_in s.statements ≤ statement_limit
few_lines s sound = omega (arith, sound.few, sound.counted)

pub few_passed : (read : InputLines) (t : SoFar) → first_pass read ≡ Ok t → lines_in t.statements ≤ statement_limit
few_passed read t e = few_lines t (sound_passed read t e)

-- ---- and so of the whole
whole_in : DescribedIsRead → DescriptionsAreWhole → (read : InputLines) (s : ScriptData) → script_in read ≡ Ok s → IsWholeScript s
unfolding script_in
whole_in is_read are_whole read s e =
    let p = bound (first_pass read) second_pass s e in
    let d = bound (description p.value.descriptions) (with_apps p.value.statements) s p.then_is in
    let same : record { apps = d.value; statements = p.value.statements } ≡ s = cc in
    let apps = are_whole p.value.descriptions d.value ((is_read p.value.descriptions d.value).0 d.is) in
    subst IsWholeScript same (record { apps_are = apps; statements_are = (sound_passed read p.value p.is).whole; few = few_passed read p.value p.is })

whole_unless : DescribedIsRead → DescriptionsAreWhole → (long : Option ℕ) (read : InputLines) (s : ScriptData) → unless_long long read ≡ Ok s → IsWholeScript s
whole_unless is_read are_whole None read s e = whole_in is_read are_whole read s e
whole_unless is_read are_whole (Some line) read s e = absurd cc

pub scripts_are_whole : DescribedIsRead → DescriptionsAreWhole → ScriptsAreWhole
unfolding script_of
scripts_are_whole is_read are_whole input s e = whole_unless is_read are_whole (too_long input) (lines_of input) s e
