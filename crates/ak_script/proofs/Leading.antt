-- Lines with which nothing is wrong are read, and then the next one stands where they lead.
use Rattle.std.proofs.Common.{◌≡◌, inl, ◌≤◌, ◌<◌, ◌+◌, ℕ, Bool, true, false, if◌then◌else◌, List, [], ◌∷◌, ◌++◌, length, codes, Option, Some, None, Result, Ok, Err, refl, ap, sym, subst, ◌∙◌, append_assoc, arith}
use Rattle.std.specs.Prelude.{is_some}
use Rattle.std.proofs.lemmas.List.{append-nil, length-append}
use Rattle.ak_base.specs.declared.ending.RefusalKind.{RefusalKind}
use Rattle.ak_base.specs.declared.ending.RefusalKind.TheVariants as refusal
use Rattle.ak_input.specs.declared.line.Line.{Line}
use Rattle.ak_describe.specs.Describes.{Adds, Follow}
use Rattle.ak_describe.specs.Keyword.{keyword_of}
use Rattle.ak_describe.specs.Laws.{GoesLineByLine}
use Rattle.ak_describe.specs.Pass.{State, Refusal, nothing_read, then_read, or_refused, at_line, read_line, read_words, last_item, may_open_app, number_behind, unfinished, unfinished_at, first_pass}
use Rattle.ak_describe.specs.Read.{lines_read, end_fault, fault_of}
use Rattle.ak_describe.specs.Says.{IsComplete}
use Rattle.ak_describe.specs.Words.{behind, texts}
use Rattle.ak_describe.proofs.Surface.{StateFits, adds_fits, complete_is, follow_read, last_none, line_adds, nothing_fits}
use Rattle.ak_script.specs.declared.part.Part.TheVariants as part
use Rattle.ak_script.specs.Blocks.{Block, new_block, with_begun, closed, is_bare, session_begun}
use Rattle.ak_script.specs.Limits.{session_limit, statement_limit}
use Rattle.ak_script.specs.Pass.{SoFar, nothing_said, by_script, front_fault, line_said, lines_said, unless}
use Rattle.ak_script.specs.Refusals.{Place, first_place, described_place, statement_place, block_place, IsVersion, AreHead, AreSaid, AreOpen, AreInBlock, Lead}
use Rattle.ak_script.specs.Says.{StatementsAreRead, SessionLinesAreRead}
use Rattle.ak_script.specs.SaysLines.{IsAlone, SaySessions, behind_script}
use Rattle.ak_script.specs.Statement.{SessionLineData, SessionData, StatementData, lines_of_sessions, lines_in}
use Rattle.ak_script.proofs.Counting.{lines_of_sessions-append, not_bare}
use Rattle.ak_script.proofs.InOrder.{behind_is}
use Rattle.ak_script.proofs.ReadingAgain.{after, all_after, all_again, lines_again, line_at_last, none_said, session_again, sessions_again, together_again}
use Rattle.ak_script.proofs.Stages.{both_said, inside, one_said}

-- ---- what is read where a line stands there
abbrev pub describing : List Line → SoFar
describing ds = record { part = part.Descriptions; descriptions = ds; statements = []; block = new_block; lines = 0 }

abbrev pub state_at : Place → SoFar
state_at first_place = nothing_said
state_at (described_place ds s) = describing ds
state_at (statement_place ds statements) = behind_script ds statements
state_at (block_place ds statements b) = inside ds statements b

-- ---- where descriptions end
pub follow_fits : (lines : List Line) (s left : State) → StateFits s → Follow s lines left → StateFits left
follow_fits [] s left h f = subst StateFits f h
follow_fits (line ∷ lines) s left h f = follow_fits lines f.0 left (adds_fits s line f.0 h f.1) f.2

pub fits_there : (ds : List Line) (s : State) → Follow nothing_read ds s → StateFits s
fits_there ds s f = follow_fits ds nothing_read s nothing_fits f

pub read_there : (ds : List Line) (s : State) → Follow nothing_read ds s → lines_read ds ≡ Ok s
read_there ds s f = follow_read ds nothing_read s nothing_fits f

passes_to : (ds : List Line) (s : State) → lines_read ds ≡ Ok s → first_pass ds ≡ or_refused (unfinished s.apps ds) s
unfolding first_pass
passes_to ds s e = ap (λ (r : Result State Refusal). then_read r (λ (x : State). or_refused (unfinished x.apps ds) x)) e

told_of : (o : Option Refusal) (s : State) → fault_of (or_refused o s) ≡ o
told_of None s = refl
told_of (Some r) s = refl

end_is : (ds : List Line) (s : State) → lines_read ds ≡ Ok s → end_fault ds ≡ unfinished s.apps ds
end_is ds s e = ap fault_of (passes_to ds s e) ∙ told_of (unfinished s.apps ds) s

pub complete_ends : (ds : List Line) (s : State) → Follow nothing_read ds s → IsComplete s.apps → end_fault ds ≡ None
complete_ends ds s f complete =
    end_is ds s (read_there ds s f) ∙ ap (λ (b : Bool). if b then None else unfinished_at (last_item ds)) ((complete_is s.apps).1 complete)

pub record LeftOpen (ds : List Line) : Type 0 where
  pub last : Line
  pub last_is : last_item ds ≡ Some last
  pub told : end_fault ds ≡ Some (record { line = number_behind last; kind = refusal.Unfinished })

not_closed : (s : State) → ¬ (IsComplete s.apps) → may_open_app s.apps ≡ false
not_closed s open_app = by_test (may_open_app s.apps) refl where
  by_test : (b : Bool) → may_open_app s.apps ≡ b → may_open_app s.apps ≡ false
  by_test true is = absurd (open_app ((complete_is s.apps).0 is))
  by_test false is = is

pub open_ends : (ds : List Line) (s : State) → Follow nothing_read ds s → ¬ (IsComplete s.apps) → LeftOpen ds
open_ends ds s f open_app = by_last (last_item ds) refl where
  by_last : (o : Option Line) → last_item ds ≡ o → LeftOpen ds
  by_last None is =
      let none : ds ≡ [] = last_none ds is in
      let same : nothing_read ≡ s = subst (λ (ls : List Line). Follow nothing_read ls s) none f in
      absurd (open_app (subst (λ (x : State). IsComplete x.apps) same (inl refl)))
  by_last (Some last) is = record {
    last = last;
    last_is = is;
    told = end_is ds s (read_there ds s f) ∙ ap (λ (b : Bool). if b then None else unfinished_at (last_item ds)) (not_closed s open_app) ∙ ap unfinished_at is;
  }

-- ---- lines of descriptions
-- none of them begins with `script`
pub script_unread : (s : State) (line : Line) (rest : List (List ℕ)) → texts line.words ≡ codes "script" ∷ rest → read_line s line ≡ Err refusal.UnknownLine
unfolding read_line keyword_of
script_unread s line rest at = ap (read_words s line.number) at

pub read_or_not : (o : Result State RefusalKind) (left : State) (kind : RefusalKind) → o ≡ Ok left → o ≡ Err kind → ⊥
read_or_not o left kind e f = cc

no_script : (s : State) (line : Line) (left : State) → StateFits s → Adds s line left → behind (texts line.words) (codes "script") ≡ None
no_script s line left fits a = by_key (behind (texts line.words) (codes "script")) refl where
  by_key : (o : Option (List (List ℕ))) → behind (texts line.words) (codes "script") ≡ o → behind (texts line.words) (codes "script") ≡ None
  by_key None is = is
  by_key (Some words) is =
      absurd (read_or_not (read_line s line) left refusal.UnknownLine (line_adds s line left fits a) (script_unread s line words (behind_is (texts line.words) (codes "script") words is)))

-- what one more line makes of those before it
pub one_more : GoesLineByLine → (ds : List Line) (s : State) (line : Line) → lines_read ds ≡ Ok s → lines_read (ds ++ line ∷ []) ≡ at_line line.number (read_line s line)
one_more by_line ds s line e = by_line ds line ∙ ap (λ (r : Result State Refusal). then_read r (λ (x : State). at_line line.number (read_line x line))) e

line_there : (ds : List Line) (s : State) (line : Line) (left : State) → behind (texts line.words) (codes "script") ≡ None → lines_read (ds ++ line ∷ []) ≡ Ok left → line_said (describing ds) line ≡ Ok (describing (ds ++ line ∷ []))
unfolding line_said
line_there ds s line left none read =
    ap (λ (o : Option (List (List ℕ))). by_script (describing ds) line o) none ∙ ap (λ (r : Result State Refusal). then_read r (λ (x : State). read_to x)) read
  where
    read_to : State → Result SoFar Refusal
    read_to x = Ok (describing (ds ++ line ∷ []))

described_more : GoesLineByLine → (ds : List Line) (s : State) (line : Line) (left : State) → StateFits s → lines_read ds ≡ Ok s → Adds s line left
    → (lines_said (describing ds) (line ∷ []) ≡ Ok (describing (ds ++ line ∷ []))) × (lines_read (ds ++ line ∷ []) ≡ Ok left)
described_more by_line ds s line left fits e a =
    let read : lines_read (ds ++ line ∷ []) ≡ Ok left = one_more by_line ds s line e ∙ ap (at_line line.number) (line_adds s line left fits a) in
    (one_said line (describing ds) (describing (ds ++ line ∷ [])) (line_there ds s line left (no_script s line left fits a) read), read)

described_all : GoesLineByLine → (ds more : List Line) (s left : State) → StateFits s → lines_read ds ≡ Ok s → Follow s more left → lines_said (describing ds) more ≡ Ok (describing (ds ++ more))
described_all by_line ds [] s left fits e f = none_said (describing ds) ∙ ap (λ (ls : List Line). read_to ls) (sym (append-nil ds)) where
  read_to : List Line → Result SoFar Refusal
  read_to ls = Ok (describing ls)
described_all by_line ds (line ∷ more) s left fits e f =
    let one = described_more by_line ds s line f.0 fits e f.1 in
    both_said (line ∷ []) more (describing ds) (describing (ds ++ line ∷ [])) (describing (ds ++ line ∷ more)) one.0
    (described_all by_line (ds ++ line ∷ []) more f.0 left (adds_fits s line f.0 fits f.1) one.1 f.2 ∙ ap (λ (ls : List Line). read_to ls) (append_assoc ds (line ∷ []) more))
  where
    read_to : List Line → Result SoFar Refusal
    read_to ls = Ok (describing ls)

version_said : (line : Line) → IsVersion line → line_said nothing_said line ≡ Ok (describing [])
unfolding line_said
version_said line is = ap (λ (ws : List (List ℕ)). unless line.number (front_fault ws) (describing [])) is

pub front_said : (line : Line) → IsVersion line → lines_said nothing_said (line ∷ []) ≡ Ok (describing [])
front_said line is = one_said line nothing_said (describing []) (version_said line is)

described_said : GoesLineByLine → (lines ds : List Line) (s : State) → Lead lines (described_place ds s) → lines_said nothing_said lines ≡ Ok (describing ds)
described_said by_line lines ds s lead =
    ap (lines_said nothing_said) lead.1
    ∙ both_said (lead.0 ∷ []) ds nothing_said (describing []) (describing ds) (front_said lead.0 lead.2) (described_all by_line [] ds nothing_read s nothing_fits refl lead.3)

-- ---- the line `script`
script_line : (ds : List Line) (line : Line) → end_fault ds ≡ None → IsAlone line (codes "script") → line_said (describing ds) line ≡ Ok (behind_script ds [])
unfolding line_said
script_line ds line ends alone =
    ap (λ (o : Option (List (List ℕ))). by_script (describing ds) line o) (ap (λ (ws : List (List ℕ)). behind ws (codes "script")) alone)
    ∙ ap (λ (o : Option Refusal). unless line.number (if is_some o then Some refusal.UnknownLine else None) (behind_script ds [])) ends

pub script_said : (ds : List Line) (line : Line) → end_fault ds ≡ None → IsAlone line (codes "script") → lines_said (describing ds) (line ∷ []) ≡ Ok (behind_script ds [])
script_said ds line ends alone = one_said line (describing ds) (behind_script ds []) (script_line ds line ends alone)

head_said : GoesLineByLine → (lines ds : List Line) → AreHead lines ds → lines_said nothing_said lines ≡ Ok (behind_script ds [])
head_said by_line lines ds h =
    let before = described_said by_line (h.first ∷ ds) ds h.passed.state (h.first, refl, h.version_is, h.passed.lines_are) in
    ap (lines_said nothing_said) h.parts
    ∙ both_said (h.first ∷ ds) (h.last ∷ []) nothing_said (describing ds) (behind_script ds []) before
    (script_said ds h.last (complete_ends ds h.passed.state h.passed.lines_are h.passed.complete) h.script_is)

-- ---- statements
statements_said : GoesLineByLine → StatementsAreRead → SessionLinesAreRead → (lines ds : List Line) (xs : List StatementData) → AreSaid lines ds xs → lines_said nothing_said lines ≡ Ok (behind_script ds xs)
statements_said by_line law inner lines ds xs a =
    ap (lines_said nothing_said) a.parts
    ∙ both_said a.head a.said nothing_said (behind_script ds []) (behind_script ds xs) (head_said by_line a.head ds a.head_is)
    (all_again law inner ds [] a.said xs a.say a.few)

-- ---- a block that is open
bare_none : (lines : List Line) (sessions : List SessionData) → SaySessions lines sessions → is_bare (after new_block sessions).begun ≡ false
bare_none lines [] say = refl
bare_none lines (s ∷ more) say =
    let some : 1 ≤ length (s ∷ more) = omega arith in
    not_bare (after new_block (s ∷ more)).begun (line_at_last lines (s ∷ more) say some)

open_said : SessionLinesAreRead → (d : List Line) (xs : List StatementData) (lines : List Line) (sessions : List SessionData) (begun : Option (List SessionLineData)) → AreOpen lines sessions begun
    → length (with_begun sessions begun) ≤ session_limit → lines_in xs + lines_of_sessions (with_begun sessions begun) ≤ statement_limit
    → lines_said (inside d xs new_block) lines ≡ Ok (inside d xs (record { sessions = sessions; begun = begun }))
open_said law d xs lines sessions None o few room =
    ap (lines_said (inside d xs new_block)) o.0 ∙ none_said (inside d xs new_block) ∙ ap (λ (ss : List SessionData). read_to ss) (sym o.1)
  where
    read_to : List SessionData → Result SoFar Refusal
    read_to ss = Ok (inside d xs (record { sessions = ss; begun = None }))
open_said law d xs lines sessions (Some said) o few room =
    let whole = o.0 in
    let opens = o.1 in
    let rest = o.2 in
    let last = after new_block sessions in
    let all : closed last ≡ sessions = all_after new_block sessions in
    let begun_there : Block = record { sessions = sessions; begun = Some [] } in
    let few_whole : length sessions ≤ session_limit = omega (arith, few, length-append sessions (record { lines = said } ∷ [])) in
    let room_whole : lines_in xs + lines_of_sessions sessions ≤ statement_limit = omega (arith, room, lines_of_sessions-append sessions (record { lines = said } ∷ [])) in
    let one_few : length (closed last) < session_limit = omega (arith, few, ap length all, length-append sessions (record { lines = said } ∷ [])) in
    let first : lines_said (inside d xs new_block) whole ≡ Ok (inside d xs last) = sessions_again law d xs new_block whole sessions o.4 refl few_whole room_whole in
    let then_begun : lines_said (inside d xs last) (opens ∷ []) ≡ Ok (inside d xs begun_there) =
    one_said opens (inside d xs last) (inside d xs (session_begun last)) (session_again d xs last opens o.5 (bare_none whole sessions o.4) one_few) ∙ ap (λ (ss : List SessionData). read_to ss) all in
    let then_lines : lines_said (inside d xs begun_there) rest ≡ Ok (inside d xs (record { sessions = sessions; begun = Some said })) = lines_again law d xs sessions rest [] said o.6 room in
    ap (lines_said (inside d xs new_block)) o.3
    ∙ both_said whole (opens ∷ rest) (inside d xs new_block) (inside d xs last) (inside d xs (record { sessions = sessions; begun = Some said })) first
    (both_said (opens ∷ []) rest (inside d xs last) (inside d xs begun_there) (inside d xs (record { sessions = sessions; begun = Some said })) then_begun then_lines)
  where
    read_to : List SessionData → Result SoFar Refusal
    read_to ss = Ok (inside d xs (record { sessions = ss; begun = Some [] }))

block_said : GoesLineByLine → StatementsAreRead → SessionLinesAreRead → (lines ds : List Line) (xs : List StatementData) (b : Block) → AreInBlock lines ds xs b → lines_said nothing_said lines ≡ Ok (inside ds xs b)
block_said by_line law inner lines ds xs b a =
    ap (lines_said nothing_said) a.parts
    ∙ both_said a.front (a.opens ∷ a.inner) nothing_said (behind_script ds xs) (inside ds xs b) (statements_said by_line law inner a.front ds xs a.front_is)
    (both_said (a.opens ∷ []) a.inner (behind_script ds xs) (inside ds xs new_block) (inside ds xs b)
    (one_said a.opens (behind_script ds xs) (inside ds xs new_block) (together_again ds xs a.opens a.together_is))
    (open_said inner ds xs a.inner b.sessions b.begun a.open_is a.few a.room))

-- ---- all of them
pub lead_said : GoesLineByLine → StatementsAreRead → SessionLinesAreRead → (lines : List Line) (p : Place) → Lead lines p → lines_said nothing_said lines ≡ Ok (state_at p)
lead_said by_line law inner lines first_place lead = ap (lines_said nothing_said) lead ∙ none_said nothing_said
lead_said by_line law inner lines (described_place ds s) lead = described_said by_line lines ds s lead
lead_said by_line law inner lines (statement_place ds xs) lead = statements_said by_line law inner lines ds xs lead
lead_said by_line law inner lines (block_place ds xs b) lead = block_said by_line law inner lines ds xs b lead
