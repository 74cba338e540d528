-- One line more, behind lines with which nothing is wrong: either they lead on with it, or it has a fault there, which is told.
use Rattle.std.proofs.Common.{◌≡◌, ◌≢◌, inl, inr, ◌≤◌, ◌<◌, ◌+◌, ℕ, Bool, true, false, List, [], ◌∷◌, ◌++◌, length, codes, Option, Some, None, Result, Ok, Err, refl, ap, sym, subst, ◌∙◌, append_assoc, arith}
use Rattle.std.specs.Prelude.{nat_lt}
use Rattle.std.proofs.lemmas.Grind.{common_steps}
use Rattle.std.proofs.lemmas.List.{append-nil}
use Rattle.ak_base.specs.Option.{where_true}
use Rattle.ak_base.specs.declared.ending.RefusalKind.{RefusalKind}
use Rattle.ak_base.specs.declared.ending.RefusalKind.TheVariants as refusal
use Rattle.ak_base.specs.declared.limited.Limited.TheVariants.{Within}
use Rattle.ak_input.specs.declared.line.Line.{Line}
use Rattle.ak_describe.specs.Describes as descriptions
use Rattle.ak_describe.specs.Describes.{Adds, Follow}
use Rattle.ak_describe.specs.Pass.{State, nothing_read, read_line, may_open_app}
use Rattle.ak_describe.specs.Says.{IsComplete}
use Rattle.ak_describe.specs.Words.{behind, ends, texts}
use Rattle.ak_describe.proofs.Surface.{Outcome, StateFits, complete_is, is_added, is_faulty, outcome}
use Rattle.ak_hey.specs.Grammar.{IsHey}
use Rattle.ak_script.specs.Blocks.{new_block, with_begun, closed, is_bare}
use Rattle.ak_script.specs.Faulty.{Key, kit_key, script_key, launch_key, hey_key, post_key, lock_key, together_key, session_key, end_key, word_of, IsStatementKey, IsSessionKey, AreOfForm, Opens, IsUnknown, HasFault, StatementFaultsAreTold}
use Rattle.ak_script.specs.Forms.{statement_of}
use Rattle.ak_script.specs.Limits.{statement_limit}
use Rattle.ak_script.specs.Refusals.{Place, first_place, described_place, statement_place, block_place, IsVersion, AreHead, AreSaid, AreOpen, Lead, MayStand, said_lines, HasRoom, MayNotStand, IsLineFault}
use Rattle.ak_script.specs.Says.{SaysStatement, SaysSessionLine, StatementsAreRead}
use Rattle.ak_script.specs.SaysLines.{SayLines, SaySession, SaySessions, SayOne, SayAll}
use Rattle.ak_script.specs.Statement.{SessionLineData, hey_line, post_line, lock_line, SessionData, StatementData, launch_statement, hey_statement, post_statement, lock_statement, together_statement, lines_of_sessions, lines_in}
use Rattle.ak_script.proofs.Counting.{lines_in-append, is_single, single_line}
use Rattle.ak_script.proofs.InOrder.{behind_is, ends_is, equal_is}
use Rattle.ak_script.proofs.Leading.{fits_there, read_or_not, script_unread}
use Rattle.ak_script.proofs.Stages.{alone_is}
use Rattle.ak_script.proofs.Taking.{one_line}

-- ---- lists of lines
pub say_more : (lines more : List Line) (xs ys : List StatementData) → SayAll lines xs → SayAll more ys → SayAll (lines ++ more) (xs ++ ys)
say_more lines more [] ys say then_say = subst (λ (ls : List Line). SayAll (ls ++ more) ys) (sym say) then_say
say_more lines more (x ∷ xs) ys say then_say =
    (say.0, say.1 ++ more, ap (λ (ls : List Line). ls ++ more) say.2 ∙ append_assoc say.0 say.1 more, say.3, say_more say.1 more xs ys say.4 then_say)

say_one_more : (lines : List Line) (line : Line) (xs : List StatementData) (x : StatementData) → SayAll lines xs → SayOne (line ∷ []) x → SayAll (lines ++ line ∷ []) (xs ++ x ∷ [])
say_one_more lines line xs x say one = say_more lines (line ∷ []) xs (x ∷ []) say (line ∷ [], [], refl, one, refl)

pub lines_more : (lines : List Line) (line : Line) (xs : List SessionLineData) (x : SessionLineData) → SayLines lines xs → SaysSessionLine (texts line.words) x → SayLines (lines ++ line ∷ []) (xs ++ x ∷ [])
lines_more [] line [] x say one = (one, tt)
lines_more (first ∷ lines) line (y ∷ xs) x say one = (say.0, lines_more lines line xs x say.1 one)
lines_more [] line (y ∷ xs) x say one = absurd say
lines_more (first ∷ lines) line [] x say one = absurd say

sessions_more : (lines more : List Line) (xs ys : List SessionData) → SaySessions lines xs → SaySessions more ys → SaySessions (lines ++ more) (xs ++ ys)
sessions_more lines more [] ys say then_say = subst (λ (ls : List Line). SaySessions (ls ++ more) ys) (sym say) then_say
sessions_more lines more (x ∷ xs) ys say then_say =
    (say.0, say.1 ++ more, ap (λ (ls : List Line). ls ++ more) say.2 ∙ append_assoc say.0 say.1 more, say.3, sessions_more say.1 more xs ys say.4 then_say)

-- the sessions of a block so far are whole behind a line
pub close_open : (lines : List Line) (sessions : List SessionData) (begun : Option (List SessionLineData)) → AreOpen lines sessions begun → is_bare begun ≡ false → SaySessions lines (with_begun sessions begun)
close_open lines sessions None o line_there = subst (λ (ss : List SessionData). SaySessions lines ss) (sym o.1) o.0
close_open lines sessions (Some []) o line_there = absurd cc
close_open lines sessions (Some (x ∷ said)) o line_there =
    let some : 1 ≤ length (x ∷ said) = omega arith in
    let one : SaySession (o.1 ∷ o.2) (record { lines = x ∷ said }) = record { opens = o.1; rest = o.2; parts = refl; session_is = o.5; lines_are = o.6; some = some } in
    subst (λ (ls : List Line). SaySessions ls (sessions ++ (record { lines = x ∷ said }) ∷ [])) (sym o.3)
    (sessions_more o.0 (o.1 ∷ o.2) sessions ((record { lines = x ∷ said }) ∷ []) o.4 (o.1 ∷ o.2, [], sym (append-nil (o.1 ∷ o.2)), one, refl))

-- ---- first words
pub starts : (words : List (List ℕ)) (k : Key) (rest : List (List ℕ)) → words ≡ word_of k ∷ rest → behind words (word_of k) ≡ Some rest
starts words k rest e = ap (λ (ws : List (List ℕ)). behind ws (word_of k)) e ∙ ap (λ (b : Bool). where_true b rest) (equal_is (word_of k) (word_of k) refl)

pub no_start : (words : List (List ℕ)) (k : Key) (rest : List (List ℕ)) → behind words (word_of k) ≡ None → words ≡ word_of k ∷ rest → ⊥
no_start words k rest none e = let some = starts words k rest e in cc (none, some)

-- words that begin with a key
as_key : (may : Key → Type 0) (words : List (List ℕ)) (k key : Key) (rest : List (List ℕ)) → Opens may words key rest → key ≡ k → words ≡ word_of k ∷ rest
as_key may words k key rest opens same = opens.all ∙ ap (λ (x : Key). word_of x ∷ rest) same

-- a statement's key begins no line of these
pub no_together : (key : Key) (rest : List (List ℕ)) → IsStatementKey key → behind (word_of key ∷ rest) (codes "together") ≡ None
no_together launch_key rest is = refl
no_together hey_key rest is = refl
no_together post_key rest is = refl
no_together lock_key rest is = refl
no_together kit_key rest is = absurd is
no_together script_key rest is = absurd is
no_together together_key rest is = absurd is
no_together session_key rest is = absurd is
no_together end_key rest is = absurd is

pub no_session : (key : Key) (rest : List (List ℕ)) → IsSessionKey key → behind (word_of key ∷ rest) (codes "session") ≡ None
no_session hey_key rest is = refl
no_session post_key rest is = refl
no_session lock_key rest is = refl
no_session launch_key rest is = absurd is
no_session kit_key rest is = absurd is
no_session script_key rest is = absurd is
no_session together_key rest is = absurd is
no_session session_key rest is = absurd is
no_session end_key rest is = absurd is

pub no_end : (key : Key) (rest : List (List ℕ)) → IsSessionKey key → behind (word_of key ∷ rest) (codes "end") ≡ None
no_end hey_key rest is = refl
no_end post_key rest is = refl
no_end lock_key rest is = refl
no_end launch_key rest is = absurd is
no_end kit_key rest is = absurd is
no_end script_key rest is = absurd is
no_end together_key rest is = absurd is
no_end session_key rest is = absurd is
no_end end_key rest is = absurd is

-- two answers of one search
pub two_ways : (o : Option (List (List ℕ))) (words : List (List ℕ)) → o ≡ None → o ≡ Some words → ⊥
two_ways o words e f = cc

pub not_both : (b : Bool) → b ≡ true → b ≡ false → ⊥
not_both b e f = cc

pub some_words : (words : List (List ℕ)) → ends words ≡ false → words ≢ []
some_words words more none = let ended : ends words ≡ true = ap ends none in not_both (ends words) ended more

-- ---- forms
-- what says a statement has a key, and is of its form
pub record FormOf (is : Key → Type 0) (words : List (List ℕ)) : Type 0 where
  pub key : Key
  pub rest : List (List ℕ)
  pub key_is : is key
  pub all : words ≡ word_of key ∷ rest
  pub form : AreOfForm key rest

form_of : (words : List (List ℕ)) (x : StatementData) → SaysStatement words x → FormOf IsStatementKey words
form_of words (launch_statement s) p = record { key = launch_key; rest = p.0; key_is = tt; all = p.1; form = (s, p.2) }
form_of words (hey_statement s) p =
    record { key = hey_key; rest = p.app_word ∷ p.verb ∷ (p.spec_part ++ (p.data_part ++ p.field_part)); key_is = tt; all = p.all; form = (s, subst (λ (ws : List (List ℕ)). IsHey ws s.app (Within s.message)) p.all p) }
form_of words (post_statement s) p = record { key = post_key; rest = p.0; key_is = tt; all = p.1; form = (s, p.2) }
form_of words (lock_statement s) p = record { key = lock_key; rest = p.0; key_is = tt; all = p.1; form = (s, p.2) }
form_of words (together_statement s) p = absurd p

pub says_form : (words : List (List ℕ)) (key : Key) (rest : List (List ℕ)) → IsStatementKey key → words ≡ word_of key ∷ rest → AreOfForm key rest → (x : StatementData) × SaysStatement words x
says_form words launch_key rest is all form = (launch_statement form.0, (rest, all, form.1))
says_form words hey_key rest is all form = (hey_statement form.0, subst (λ (ws : List (List ℕ)). IsHey ws form.0.app (Within form.0.message)) (sym all) form.1)
says_form words post_key rest is all form = (post_statement form.0, (rest, all, form.1))
says_form words lock_key rest is all form = (lock_statement form.0, (rest, all, form.1))
says_form words kit_key rest is all form = absurd is
says_form words script_key rest is all form = absurd is
says_form words together_key rest is all form = absurd is
says_form words session_key rest is all form = absurd is
says_form words end_key rest is all form = absurd is

pub line_form : (words : List (List ℕ)) (x : SessionLineData) → SaysSessionLine words x → FormOf IsSessionKey words
line_form words (hey_line s) p =
    record { key = hey_key; rest = p.app_word ∷ p.verb ∷ (p.spec_part ++ (p.data_part ++ p.field_part)); key_is = tt; all = p.all; form = (s, subst (λ (ws : List (List ℕ)). IsHey ws s.app (Within s.message)) p.all p) }
line_form words (post_line s) p = record { key = post_key; rest = p.0; key_is = tt; all = p.1; form = (s, p.2) }
line_form words (lock_line s) p = record { key = lock_key; rest = p.0; key_is = tt; all = p.1; form = (s, p.2) }

pub says_line : (words : List (List ℕ)) (key : Key) (rest : List (List ℕ)) → IsSessionKey key → words ≡ word_of key ∷ rest → AreOfForm key rest → (x : SessionLineData) × SaysSessionLine words x
says_line words hey_key rest is all form = (hey_line form.0, subst (λ (ws : List (List ℕ)). IsHey ws form.0.app (Within form.0.message)) (sym all) form.1)
says_line words post_key rest is all form = (post_line form.0, (rest, all, form.1))
says_line words lock_key rest is all form = (lock_line form.0, (rest, all, form.1))
says_line words launch_key rest is all form = absurd is
says_line words kit_key rest is all form = absurd is
says_line words script_key rest is all form = absurd is
says_line words together_key rest is all form = absurd is
says_line words session_key rest is all form = absurd is
says_line words end_key rest is all form = absurd is

-- a line of these is counted
pub counted : (p : Place) (key : Key) → IsStatementKey key → HasRoom p key → said_lines p < statement_limit
counted p launch_key is room = room
counted p hey_key is room = room
counted p post_key is room = room
counted p lock_key is room = room
counted p kit_key is room = absurd is
counted p script_key is room = absurd is
counted p together_key is room = absurd is
counted p session_key is room = absurd is
counted p end_key is room = absurd is

pub room_there : (p : Place) (key : Key) → IsStatementKey key → said_lines p < statement_limit → HasRoom p key
room_there p launch_key is room = room
room_there p hey_key is room = room
room_there p post_key is room = room
room_there p lock_key is room = room
room_there p kit_key is room = absurd is
room_there p script_key is room = absurd is
room_there p together_key is room = absurd is
room_there p session_key is room = absurd is
room_there p end_key is room = absurd is

pub no_room : (n limit : ℕ) → nat_lt n limit ≡ false → ¬ (n < limit)
no_room n limit is lt = grind (arith, common_steps)

pub has_room : (n limit : ℕ) → nat_lt n limit ≡ true → n < limit
has_room n limit is = grind (arith, common_steps)

pub no_room_again : (n limit : ℕ) → ¬ (n < limit) → nat_lt n limit ≡ false
no_room_again n limit none = by_test (nat_lt n limit) refl where
  by_test : (b : Bool) → nat_lt n limit ≡ b → nat_lt n limit ≡ false
  by_test true is = absurd (none (has_room n limit is))
  by_test false is = is

-- ---- a fault of words is one of the line
pub lifted : (may : Key → Type 0) (p : Place) (line : Line) (kind : RefusalKind) → ((key : Key) → may key → MayStand p key) → (IsUnknown may (texts line.words) → MayNotStand p line) → HasFault may line.words kind → IsLineFault p line kind
lifted may p line refusal.UnknownLine stands unknown f = unknown f
lifted may p line (refusal.BadHey column) stands unknown f = record { rest = f.rest; opens = record { all = f.opens.all; stands = stands hey_key f.opens.stands }; at = f.at }
lifted may p line refusal.BadValue stands unknown f =
    inl (record { key = f.key; rest = f.rest; opens = record { all = f.opens.all; stands = stands f.key f.opens.stands }; no_hey = f.no_hey; no_form = f.no_form; no_limit = f.no_limit })
lifted may p line refusal.Limit stands unknown f = inl (record { key = f.key; rest = f.rest; opens = record { all = f.opens.all; stands = stands f.key f.opens.stands }; pass = f.pass })
lifted may p line refusal.InputTooLong stands unknown f = absurd f
lifted may p line refusal.NotUtf8 stands unknown f = absurd f
lifted may p line refusal.BadWord stands unknown f = absurd f
lifted may p line refusal.NameInUse stands unknown f = absurd f
lifted may p line refusal.Unfinished stands unknown f = absurd f
lifted may p line refusal.UnknownName stands unknown f = absurd f
lifted may p line refusal.ChainLoop stands unknown f = absurd f
lifted may p line refusal.AskOrder stands unknown f = absurd f

-- ---- one line more
pub data Step (front : List Line) (p : Place) (line : Line) : Type 0 where
  goes_on : (q : Place) → Lead (front ++ line ∷ []) q → Step front p line
  stops : (kind : RefusalKind) → IsLineFault p line kind → Step front p line

-- ---- first
pub first_step : (front : List Line) (line : Line) → front ≡ [] → Step front first_place line
first_step front line none = by_kit (behind (texts line.words) (codes "kit")) refl where
  bad : (words : List (List ℕ)) → texts line.words ≡ codes "kit" ∷ words → ¬ (words ≡ codes "1" ∷ []) → IsLineFault first_place line refusal.BadValue
  bad words at no_form =
      inl (record { key = kit_key; rest = words; opens = record { all = at; stands = refl }; no_hey = λ same. absurd (cc (same)); no_form = no_form; no_limit = λ pass. pass })

  by_end : (words more : List (List ℕ)) → behind (texts line.words) (codes "kit") ≡ Some words → behind words (codes "1") ≡ Some more → (b : Bool) → ends more ≡ b → Step front first_place line
  by_end words more is one true last =
      let version : IsVersion line = behind_is (texts line.words) (codes "kit") words is
      ∙ ap (λ (ws : List (List ℕ)). codes "kit" ∷ ws) (behind_is words (codes "1") more one ∙ ap (λ (ws : List (List ℕ)). codes "1" ∷ ws) (ends_is more last)) in
      goes_on (described_place [] nothing_read) (line, ap (λ (ls : List Line). ls ++ line ∷ []) none, version, refl)
  by_end words more is one false last =
      let no_form : ¬ (words ≡ codes "1" ∷ []) = λ f.
      (let alone : behind words (codes "1") ≡ Some [] = ap (λ (ws : List (List ℕ)). behind ws (codes "1")) f in
      let empty : more ≡ [] = cc (one, alone) in
      some_words more last empty) in
      stops refusal.BadValue (bad words (behind_is (texts line.words) (codes "kit") words is) no_form)

  by_one : (words : List (List ℕ)) → behind (texts line.words) (codes "kit") ≡ Some words → (o : Option (List (List ℕ))) → behind words (codes "1") ≡ o → Step front first_place line
  by_one words is None one =
      let no_form : ¬ (words ≡ codes "1" ∷ []) = λ f.
      (let alone : behind words (codes "1") ≡ Some [] = ap (λ (ws : List (List ℕ)). behind ws (codes "1")) f in
      two_ways (behind words (codes "1")) [] one alone) in
      stops refusal.BadValue (bad words (behind_is (texts line.words) (codes "kit") words is) no_form)
  by_one words is (Some more) one = by_end words more is one (ends more) refl

  by_kit : (o : Option (List (List ℕ))) → behind (texts line.words) (codes "kit") ≡ o → Step front first_place line
  by_kit None is =
      stops refusal.UnknownLine
      (record {
        no_line = λ key rest opens. no_start (texts line.words) kit_key rest is (as_key (MayStand first_place) (texts line.words) kit_key key rest opens opens.stands);
        no_description = λ s d. absurd (cc (d.1));
      })
  by_kit (Some words) is = by_one words is (behind words (codes "1")) refl

-- ---- behind descriptions
pub same_state : (ds es : List Line) (s t : State) → described_place ds s ≡ described_place es t → s ≡ t
same_state ds es s t e = cc

follow_more : (lines : List Line) (s left next : State) (line : Line) → Follow s lines left → Adds left line next → Follow s (lines ++ line ∷ []) next
follow_more [] s left next line f a = (next, subst (λ (x : State). Adds x line next) (sym f) a, refl)
follow_more (first ∷ lines) s left next line f a = (f.0, f.1, follow_more lines f.0 left next line f.2 a)

-- no line of descriptions begins with `script`
pub told_kind : (o : Result State RefusalKind) (kind another : RefusalKind) → o ≡ Err kind → o ≡ Err another → kind ≡ another
told_kind o kind another e f = cc

script_describes_nothing : (s : State) (line : Line) (words : List (List ℕ)) → behind (texts line.words) (codes "script") ≡ Some words → Outcome s line (read_line s line) → descriptions.IsLineFault s line refusal.UnknownLine
script_describes_nothing s line words is (is_faulty kind f e) =
    subst (descriptions.IsLineFault s line) (told_kind (read_line s line) kind refusal.UnknownLine e (script_unread s line words (behind_is (texts line.words) (codes "script") words is))) f
script_describes_nothing s line words is (is_added left a e) =
    absurd (read_or_not (read_line s line) left refusal.UnknownLine e (script_unread s line words (behind_is (texts line.words) (codes "script") words is)))

from_descriptions : (ds : List Line) (s : State) (line : Line) (kind : RefusalKind) → behind (texts line.words) (codes "script") ≡ None → descriptions.IsLineFault s line kind → IsLineFault (described_place ds s) line kind
from_descriptions ds s line refusal.UnknownLine none f = record {
  no_line = λ key rest opens. no_start (texts line.words) script_key rest none (as_key (MayStand (described_place ds s)) (texts line.words) script_key key rest opens opens.stands.0);
  no_description = λ t d. subst (λ (x : State). descriptions.IsLineFault x line refusal.UnknownLine) (same_state ds d.0 s t d.1) f;
}
from_descriptions ds s line refusal.BadValue none f = inr (s, (ds, refl), f)
from_descriptions ds s line refusal.NameInUse none f = (s, (ds, refl), f)
from_descriptions ds s line refusal.Limit none f = inr (inr (s, (ds, refl), f))
from_descriptions ds s line (refusal.BadHey column) none f = absurd f
from_descriptions ds s line refusal.InputTooLong none f = absurd f
from_descriptions ds s line refusal.NotUtf8 none f = absurd f
from_descriptions ds s line refusal.BadWord none f = absurd f
from_descriptions ds s line refusal.Unfinished none f = absurd f
from_descriptions ds s line refusal.UnknownName none f = absurd f
from_descriptions ds s line refusal.ChainLoop none f = absurd f
from_descriptions ds s line refusal.AskOrder none f = absurd f

pub described_step : (front ds : List Line) (s : State) (line : Line) → Lead front (described_place ds s) → Step front (described_place ds s) line
described_step front ds s line lead = by_key (behind (texts line.words) (codes "script")) refl where
  fits : StateFits s
  fits = fits_there ds s lead.3

  by_outcome : behind (texts line.words) (codes "script") ≡ None → Outcome s line (read_line s line) → Step front (described_place ds s) line
  by_outcome none (is_faulty kind f e) = stops kind (from_descriptions ds s line kind none f)
  by_outcome none (is_added left a e) =
      goes_on (described_place (ds ++ line ∷ []) left)
      (lead.0, ap (λ (ls : List Line). ls ++ line ∷ []) lead.1, lead.2, follow_more ds nothing_read s left line lead.3 a)

  by_end : (words : List (List ℕ)) → behind (texts line.words) (codes "script") ≡ Some words → IsComplete s.apps → (b : Bool) → ends words ≡ b → Step front (described_place ds s) line
  by_end words is complete true last =
      let alone = alone_is line (codes "script") words is last in
      let head : AreHead (front ++ line ∷ []) ds = record {
        first = lead.0;
        last = line;
        parts = ap (λ (ls : List Line). ls ++ line ∷ []) lead.1;
        version_is = lead.2;
        passed = record { state = s; lines_are = lead.3; complete = complete };
        script_is = alone;
      } in
      goes_on (statement_place ds []) (record { head = front ++ line ∷ []; said = []; parts = sym (append-nil (front ++ line ∷ [])); head_is = head; say = refl; few = omega arith })
  by_end words is complete false last =
      stops refusal.BadValue
      (inl (record {
        key = script_key;
        rest = words;
        opens = record { all = behind_is (texts line.words) (codes "script") words is; stands = (refl, complete) };
        no_hey = λ same. absurd (cc (same));
        no_form = some_words words last;
        no_limit = λ pass. pass;
      }))

  by_open : (words : List (List ℕ)) → behind (texts line.words) (codes "script") ≡ Some words → ¬ (IsComplete s.apps) → Step front (described_place ds s) line
  by_open words is open_app =
      stops refusal.UnknownLine
      (record { no_line = λ key rest opens. open_app opens.stands.1; no_description = λ t d. subst (λ (x : State). descriptions.IsLineFault x line refusal.UnknownLine) (same_state ds d.0 s t d.1) (script_describes_nothing s line words is (outcome s line fits)) })

  by_complete : (words : List (List ℕ)) → behind (texts line.words) (codes "script") ≡ Some words → (b : Bool) → may_open_app s.apps ≡ b → Step front (described_place ds s) line
  by_complete words is true closed_there = by_end words is ((complete_is s.apps).0 closed_there) (ends words) refl
  by_complete words is false open_there = by_open words is (λ complete. not_both (may_open_app s.apps) ((complete_is s.apps).1 complete) open_there)

  by_key : (o : Option (List (List ℕ))) → behind (texts line.words) (codes "script") ≡ o → Step front (described_place ds s) line
  by_key None is = by_outcome is (outcome s line fits)
  by_key (Some words) is = by_complete words is (may_open_app s.apps) refl

-- ---- behind statements
not_described : (ds es : List Line) (xs : List StatementData) (s : State) → statement_place ds xs ≡ described_place es s → ⊥
not_described ds es xs s e = absurd cc

statement_unknown : (ds : List Line) (xs : List StatementData) (line : Line) → behind (texts line.words) (codes "together") ≡ None → IsUnknown IsStatementKey (texts line.words) → MayNotStand (statement_place ds xs) line
statement_unknown ds xs line none unknown = record {
  no_line = λ key rest opens. by_stands key rest opens.all opens.stands;
  no_description = λ s d. absurd (not_described ds d.0 xs s d.1);
} where
  by_stands : (key : Key) (rest : List (List ℕ)) → texts line.words ≡ word_of key ∷ rest → MayStand (statement_place ds xs) key → ⊥
  by_stands key rest all (inl is) = unknown key rest (record { all = all; stands = is })
  by_stands key rest all (inr same) = no_start (texts line.words) together_key rest none (all ∙ ap (λ (x : Key). word_of x ∷ rest) same)

pub statement_step : StatementsAreRead → StatementFaultsAreTold → (front ds : List Line) (xs : List StatementData) (line : Line) → AreSaid front ds xs → Step front (statement_place ds xs) line
statement_step law faults front ds xs line a = by_key (behind (texts line.words) (codes "together")) refl where
  by_room : behind (texts line.words) (codes "together") ≡ None → (x : StatementData) → statement_of line.words ≡ Ok x → (b : Bool) → nat_lt (lines_in xs) statement_limit ≡ b → Step front (statement_place ds xs) line
  by_room none x e true room =
      let single = is_single line.words x e in
      let says = (law line.words x).0 e in
      let free = has_room (lines_in xs) statement_limit room in
      let one : SayOne (line ∷ []) x = one_line x (line ∷ []) single (line, refl, says) in
      let one_free : lines_in (xs ++ x ∷ []) ≤ statement_limit = omega (arith, free, lines_in-append xs (x ∷ []), single_line x single) in
      goes_on (statement_place ds (xs ++ x ∷ []))
      (record {
        head = a.head;
        said = a.said ++ line ∷ [];
        parts = ap (λ (ls : List Line). ls ++ line ∷ []) a.parts ∙ append_assoc a.head a.said (line ∷ []);
        head_is = a.head_is;
        say = say_one_more a.said line xs x a.say one;
        few = one_free;
      })
  by_room none x e false room =
      let f = form_of (texts line.words) x ((law line.words x).0 e) in
      stops refusal.Limit
      (inr (inl (record {
        key = f.key;
        rest = f.rest;
        opens = record { all = f.all; stands = inl f.key_is };
        form = f.form;
        full = λ h. no_room (lines_in xs) statement_limit room (counted (statement_place ds xs) f.key f.key_is h);
      })))

  by_read : behind (texts line.words) (codes "together") ≡ None → (r : Result StatementData RefusalKind) → statement_of line.words ≡ r → Step front (statement_place ds xs) line
  by_read none (Ok x) e = by_room none x e (nat_lt (lines_in xs) statement_limit) refl
  by_read none (Err kind) e =
      stops kind (lifted IsStatementKey (statement_place ds xs) line kind (λ key is. inl is) (statement_unknown ds xs line none) ((faults line.words kind).0 e))

  by_end : (words : List (List ℕ)) → behind (texts line.words) (codes "together") ≡ Some words → (b : Bool) → ends words ≡ b → Step front (statement_place ds xs) line
  by_end words is true last =
      let alone = alone_is line (codes "together") words is last in
      let free : lines_in xs + lines_of_sessions (closed new_block) ≤ statement_limit = omega (arith, a.few) in
      goes_on (block_place ds xs new_block)
      (record { front = front; opens = line; inner = []; parts = refl; front_is = a; together_is = alone; open_is = (refl, refl); few = omega arith; room = free })
  by_end words is false last =
      stops refusal.BadValue
      (inl (record {
        key = together_key;
        rest = words;
        opens = record { all = behind_is (texts line.words) (codes "together") words is; stands = inr refl };
        no_hey = λ same. absurd (cc (same));
        no_form = some_words words last;
        no_limit = λ pass. pass;
      }))

  by_key : (o : Option (List (List ℕ))) → behind (texts line.words) (codes "together") ≡ o → Step front (statement_place ds xs) line
  by_key None is = by_read is (statement_of line.words) refl
  by_key (Some words) is = by_end words is (ends words) refl
