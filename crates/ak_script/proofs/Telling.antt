-- What is wrong with a line, behind lines with which nothing is, is told of it.
use Rattle.std.proofs.Common.{◌≡◌, ◌≢◌, ◌⊎◌, inl, inr, ◌+◌, ℕ, Bool, true, false, if◌then◌else◌, List, [], ◌∷◌, ◌++◌, length, codes, Option, Some, None, Result, Ok, Err, refl, ap, sym, subst, ◌∙◌}
use Rattle.std.specs.Prelude.{is_some, nat_lt}
use Rattle.ak_base.specs.declared.ending.RefusalKind.{RefusalKind}
use Rattle.ak_base.specs.declared.ending.RefusalKind.TheVariants as refusal
use Rattle.ak_input.specs.declared.line.Line.{Line}
use Rattle.ak_input.specs.declared.line.Word.{Word}
use Rattle.ak_describe.specs.Describes as descriptions
use Rattle.ak_describe.specs.Describes.{Follow}
use Rattle.ak_describe.specs.Laws.{GoesLineByLine}
use Rattle.ak_describe.specs.Pass.{State, Refusal, nothing_read, then_read, at_line, read_line, may_open_app}
use Rattle.ak_describe.specs.Read.{lines_read}
use Rattle.ak_describe.specs.Says.{IsComplete}
use Rattle.ak_describe.specs.Words.{behind, ends, texts}
use Rattle.ak_describe.proofs.Surface.{StateFits, complete_is, line_faults}
use Rattle.ak_script.specs.declared.part.Part.TheVariants as part
use Rattle.ak_script.specs.Blocks as blocks
use Rattle.ak_script.specs.Blocks.{Block, with_begun, closed, is_bare, has_line, session_begun}
use Rattle.ak_script.specs.Faulty.{Key, kit_key, script_key, hey_key, together_key, session_key, end_key, word_of, IsStatementKey, IsSessionKey, AreOfForm, PassLimit, IsUnknown, HasFault, StatementFaultsAreTold, SessionFaultsAreTold}
use Rattle.ak_script.specs.Forms.{session_line_of, statement_of}
use Rattle.ak_script.specs.Limits.{session_limit, statement_limit}
use Rattle.ak_script.specs.Pass.{SoFar, nothing_said, refused_at, unless, version_from, kit_from, front_fault, script_fault, by_script, statement_added, by_together, line_added, by_end, by_session, block_ended, line_said}
use Rattle.ak_script.specs.Refusals.{Place, first_place, described_place, statement_place, block_place, Lead, HasLine, HasBegun, MayStand, HasRoom, IsFull, IsDescribedFault, IsLineFault}
use Rattle.ak_script.specs.Says.{StatementsAreRead, SessionLinesAreRead}
use Rattle.ak_script.specs.SaysLines.{behind_script}
use Rattle.ak_script.specs.Statement.{SessionLineData, SessionData, StatementData, lines_of_sessions, lines_in}
use Rattle.ak_script.proofs.Faulting.{in_statement}
use Rattle.ak_script.proofs.InOrder.{behind_is}
use Rattle.ak_script.proofs.Leading.{complete_ends, describing, fits_there, one_more, script_unread, open_ends, read_there, state_at}
use Rattle.ak_script.proofs.Stages.{inside}
use Rattle.ak_script.proofs.Stepping.{no_end, no_room_again, no_session, no_start, no_together, not_both, room_there, same_state, told_kind, says_form, says_line, two_ways}
use Rattle.ak_script.proofs.InBlocks.{line_there, not_bare_again}

-- ---- what is read of a line
said_first : (line : Line) → line_said nothing_said line ≡ unless line.number (front_fault (texts line.words)) (describing [])
unfolding line_said
said_first line = refl

said_described : (ds : List Line) (line : Line) (o : Option (List (List ℕ))) → behind (texts line.words) (codes "script") ≡ o → line_said (describing ds) line ≡ by_script (describing ds) line o
unfolding line_said
said_described ds line o is = ap (by_script (describing ds) line) is

said_outside : (ds : List Line) (xs : List StatementData) (line : Line) (o : Option (List (List ℕ))) → behind (texts line.words) (codes "together") ≡ o → line_said (behind_script ds xs) line ≡ by_together (behind_script ds xs) line o
unfolding line_said
said_outside ds xs line o is = ap (by_together (behind_script ds xs) line) is

said_inside : (ds : List Line) (xs : List StatementData) (b : Block) (line : Line) (o : Option (List (List ℕ))) → behind (texts line.words) (codes "session") ≡ o → line_said (inside ds xs b) line ≡ by_session (inside ds xs b) line o
unfolding line_said
said_inside ds xs b line o is = ap (by_session (inside ds xs b) line) is

said_in_session : (ds : List Line) (xs : List StatementData) (b : Block) (line : Line) (o : Option (List (List ℕ))) → behind (texts line.words) (codes "session") ≡ None → behind (texts line.words) (codes "end") ≡ o
    → line_said (inside ds xs b) line ≡ by_end (inside ds xs b) line o
said_in_session ds xs b line o none is = said_inside ds xs b line None none ∙ ap (by_end (inside ds xs b) line) is

described_told : GoesLineByLine → (ds : List Line) (s : State) (line : Line) (kind : RefusalKind) → lines_read ds ≡ Ok s → behind (texts line.words) (codes "script") ≡ None → read_line s line ≡ Err kind
    → line_said (describing ds) line ≡ Err (refused_at line.number kind)
described_told by_line ds s line kind read none e =
    said_described ds line None none
    ∙ ap (λ (r : Result State Refusal). then_read r (λ (x : State). read_to x)) (one_more by_line ds s line read ∙ ap (at_line line.number) e)
  where
    read_to : State → Result SoFar Refusal
    read_to x = Ok (describing (ds ++ line ∷ []))

outside_told : (ds : List Line) (xs : List StatementData) (line : Line) (kind : RefusalKind) → behind (texts line.words) (codes "together") ≡ None → statement_of line.words ≡ Err kind → line_said (behind_script ds xs) line ≡ Err (refused_at line.number kind)
outside_told ds xs line kind none e =
    said_outside ds xs line None none ∙ ap (λ (r : Result StatementData RefusalKind). then_read (at_line line.number r) (statement_added (behind_script ds xs) line.number)) e

outside_full : (ds : List Line) (xs : List StatementData) (line : Line) (x : StatementData) → behind (texts line.words) (codes "together") ≡ None → statement_of line.words ≡ Ok x → nat_lt (lines_in xs) statement_limit ≡ false
    → line_said (behind_script ds xs) line ≡ Err (refused_at line.number refusal.Limit)
outside_full ds xs line x none e full =
    said_outside ds xs line None none
    ∙ ap (λ (r : Result StatementData RefusalKind). then_read (at_line line.number r) (statement_added (behind_script ds xs) line.number)) e
    ∙ ap (λ (b : Bool). unless line.number (if b then None else Some refusal.Limit) (record (behind_script ds xs) { statements = xs ++ x ∷ []; lines = lines_in xs + 1 })) full

together_told : (ds : List Line) (xs : List StatementData) (line : Line) (words : List (List ℕ)) → behind (texts line.words) (codes "together") ≡ Some words → ends words ≡ false
    → line_said (behind_script ds xs) line ≡ Err (refused_at line.number refusal.BadValue)
together_told ds xs line words is more =
    said_outside ds xs line (Some words) is ∙ ap (λ (b : Bool). unless line.number (if b then None else Some refusal.BadValue) (record (behind_script ds xs) { part = part.Block })) more

-- ---- what is told of a line of a block
session_told : (ds : List Line) (xs : List StatementData) (b : Block) (line : Line) (words : List (List ℕ)) (kind : RefusalKind) → behind (texts line.words) (codes "session") ≡ Some words → blocks.session_fault b words ≡ Some kind
    → line_said (inside ds xs b) line ≡ Err (refused_at line.number kind)
session_told ds xs b line words kind is fault =
    said_inside ds xs b line (Some words) is ∙ ap (λ (o : Option RefusalKind). unless line.number o (record (inside ds xs b) { block = session_begun b })) fault

end_told : (ds : List Line) (xs : List StatementData) (b : Block) (line : Line) (words : List (List ℕ)) (kind : RefusalKind) → behind (texts line.words) (codes "session") ≡ None → behind (texts line.words) (codes "end") ≡ Some words
    → blocks.end_fault b words ≡ Some kind → line_said (inside ds xs b) line ≡ Err (refused_at line.number kind)
end_told ds xs b line words kind none is fault =
    said_in_session ds xs b line (Some words) none is ∙ ap (λ (o : Option RefusalKind). unless line.number o (block_ended (inside ds xs b))) fault

inner_told : (ds : List Line) (xs : List StatementData) (sessions : List SessionData) (ls : List SessionLineData) (line : Line) (kind : RefusalKind) → behind (texts line.words) (codes "session") ≡ None → behind (texts line.words) (codes "end") ≡ None
    → session_line_of line.words ≡ Err kind → line_said (inside ds xs (record { sessions = sessions; begun = Some ls })) line ≡ Err (refused_at line.number kind)
inner_told ds xs sessions ls line kind no_session_there no_end_there e =
    let b : Block = record { sessions = sessions; begun = Some ls } in
    said_in_session ds xs b line None no_session_there no_end_there
    ∙ ap (λ (r : Result SessionLineData RefusalKind). then_read (at_line line.number r) (line_added (inside ds xs b) line.number)) e

inner_full : (ds : List Line) (xs : List StatementData) (sessions : List SessionData) (ls : List SessionLineData) (line : Line) (x : SessionLineData) → behind (texts line.words) (codes "session") ≡ None → behind (texts line.words) (codes "end") ≡ None
    → session_line_of line.words ≡ Ok x → nat_lt (lines_in xs + lines_of_sessions (with_begun sessions (Some ls))) statement_limit ≡ false
    → line_said (inside ds xs (record { sessions = sessions; begun = Some ls })) line ≡ Err (refused_at line.number refusal.Limit)
inner_full ds xs sessions ls line x no_session_there no_end_there e full =
    let b : Block = record { sessions = sessions; begun = Some ls } in
    said_in_session ds xs b line None no_session_there no_end_there
    ∙ ap (λ (r : Result SessionLineData RefusalKind). then_read (at_line line.number r) (line_added (inside ds xs b) line.number)) e
    ∙ ap (λ (t : Bool). unless line.number (if t then None else Some refusal.Limit) (record (inside ds xs b) { block = blocks.line_added b x; lines = (lines_in xs + lines_of_sessions (closed b)) + 1 })) full

none_told : (ds : List Line) (xs : List StatementData) (sessions : List SessionData) (line : Line) → behind (texts line.words) (codes "session") ≡ None → behind (texts line.words) (codes "end") ≡ None
    → line_said (inside ds xs (record { sessions = sessions; begun = None })) line ≡ Err (refused_at line.number refusal.UnknownLine)
none_told ds xs sessions line no_session_there no_end_there = said_in_session ds xs (record { sessions = sessions; begun = None }) line None no_session_there no_end_there

-- ---- a fault of a line is one of its words, or there is no room for it
own_fault : (may : Key → Type 0) (p : Place) (line : Line) (kind : RefusalKind) → ((key : Key) (rest : List (List ℕ)) → texts line.words ≡ word_of key ∷ rest → MayStand p key → may key) → ((key : Key) → may key → MayStand p key)
    → ((k : RefusalKind) → k ≢ refusal.UnknownLine → IsDescribedFault p line k → ⊥) → IsLineFault p line kind → HasFault may line.words kind ⊎ ((kind ≡ refusal.Limit) × IsFull p (texts line.words))
own_fault may p line refusal.UnknownLine to from none f = inl (λ key rest opens. f.no_line key rest (record { all = opens.all; stands = from key opens.stands }))
own_fault may p line (refusal.BadHey column) to from none f = inl (record { rest = f.rest; opens = record { all = f.opens.all; stands = to hey_key f.rest f.opens.all f.opens.stands }; at = f.at })
own_fault may p line refusal.BadValue to from none (inl f) =
    inl (record { key = f.key; rest = f.rest; opens = record { all = f.opens.all; stands = to f.key f.rest f.opens.all f.opens.stands }; no_hey = f.no_hey; no_form = f.no_form; no_limit = f.no_limit })
own_fault may p line refusal.BadValue to from none (inr f) = absurd (none refusal.BadValue (λ e. absurd (cc (e))) f)
own_fault may p line refusal.NameInUse to from none f = absurd (none refusal.NameInUse (λ e. absurd (cc (e))) f)
own_fault may p line refusal.Limit to from none (inl f) = inl (record { key = f.key; rest = f.rest; opens = record { all = f.opens.all; stands = to f.key f.rest f.opens.all f.opens.stands }; pass = f.pass })
own_fault may p line refusal.Limit to from none (inr (inl f)) = inr (refl, f)
own_fault may p line refusal.Limit to from none (inr (inr f)) = absurd (none refusal.Limit (λ e. absurd (cc (e))) f)
own_fault may p line refusal.InputTooLong to from none f = absurd f
own_fault may p line refusal.NotUtf8 to from none f = absurd f
own_fault may p line refusal.BadWord to from none f = absurd f
own_fault may p line refusal.Unfinished to from none f = absurd f
own_fault may p line refusal.UnknownName to from none f = absurd f
own_fault may p line refusal.ChainLoop to from none f = absurd f
own_fault may p line refusal.AskOrder to from none f = absurd f

-- ---- where none begins so
only_unknown : (may : Key → Type 0) (words : List Word) (kind : RefusalKind) → IsUnknown may (texts words) → HasFault may words kind → kind ≡ refusal.UnknownLine
only_unknown may words refusal.UnknownLine unknown f = refl
only_unknown may words (refusal.BadHey column) unknown f = absurd (unknown hey_key f.rest f.opens)
only_unknown may words refusal.BadValue unknown f = absurd (unknown f.key f.rest f.opens)
only_unknown may words refusal.Limit unknown f = absurd (unknown f.key f.rest f.opens)
only_unknown may words refusal.InputTooLong unknown f = absurd f
only_unknown may words refusal.NotUtf8 unknown f = absurd f
only_unknown may words refusal.BadWord unknown f = absurd f
only_unknown may words refusal.NameInUse unknown f = absurd f
only_unknown may words refusal.Unfinished unknown f = absurd f
only_unknown may words refusal.UnknownName unknown f = absurd f
only_unknown may words refusal.ChainLoop unknown f = absurd f
only_unknown may words refusal.AskOrder unknown f = absurd f

-- ---- where one alone may, and the line does
same_rest : (words : List (List ℕ)) (first second : List ℕ) (rest more : List (List ℕ)) → words ≡ first ∷ rest → words ≡ second ∷ more → rest ≡ more
same_rest words first second rest more e f = cc

alone_fault : (may : Key → Type 0) (k : Key) (words : List Word) (rest : List (List ℕ)) (kind : RefusalKind) → ((key : Key) → may key → key ≡ k) → may k → k ≢ hey_key → ((ws : List (List ℕ)) → PassLimit k ws → ⊥) → texts words ≡ word_of k ∷ rest
    → HasFault may words kind → (kind ≡ refusal.BadValue) × ¬ (AreOfForm k rest)
alone_fault may k words rest refusal.UnknownLine only there no_hey no_limit all f = absurd (f k rest (record { all = all; stands = there }))
alone_fault may k words rest (refusal.BadHey column) only there no_hey no_limit all f = absurd (no_hey (sym (only hey_key f.opens.stands)))
alone_fault may k words rest refusal.BadValue only there no_hey no_limit all f =
    let same = only f.key f.opens.stands in
    let behind_it = same_rest (texts words) (word_of k) (word_of f.key) rest f.rest all f.opens.all in
    (refl, λ form. f.no_form (subst (λ (key : Key). AreOfForm key f.rest) (sym same) (subst (AreOfForm k) behind_it form)))
alone_fault may k words rest refusal.Limit only there no_hey no_limit all f = absurd (no_limit f.rest (subst (λ (key : Key). PassLimit key f.rest) (only f.key f.opens.stands) f.pass))
alone_fault may k words rest refusal.InputTooLong only there no_hey no_limit all f = absurd f
alone_fault may k words rest refusal.NotUtf8 only there no_hey no_limit all f = absurd f
alone_fault may k words rest refusal.BadWord only there no_hey no_limit all f = absurd f
alone_fault may k words rest refusal.NameInUse only there no_hey no_limit all f = absurd f
alone_fault may k words rest refusal.Unfinished only there no_hey no_limit all f = absurd f
alone_fault may k words rest refusal.UnknownName only there no_hey no_limit all f = absurd f
alone_fault may k words rest refusal.ChainLoop only there no_hey no_limit all f = absurd f
alone_fault may k words rest refusal.AskOrder only there no_hey no_limit all f = absurd f

some_more : (words : List (List ℕ)) → ¬ (words ≡ []) → ends words ≡ false
some_more [] more = absurd (more refl)
some_more (word ∷ words) more = refl

-- what is told of a line, by another kind that is the same
told_as : (s : SoFar) (line : Line) (kind told : RefusalKind) → kind ≡ told → line_said s line ≡ Err (refused_at line.number told) → line_said s line ≡ Err (refused_at line.number kind)
told_as s line kind told same e = subst (λ (k : RefusalKind). line_said s line ≡ Err (refused_at line.number k)) (sym same) e

-- ---- first
first_told : (line : Line) (kind : RefusalKind) → IsLineFault first_place line kind → line_said nothing_said line ≡ Err (refused_at line.number kind)
first_told line kind f =
    by_own (own_fault (MayStand first_place) first_place line kind (λ key rest all stands. stands) (λ key may. may) (λ k differs d. absurd (cc (d.1.1))) f)
  where
    told : (k : RefusalKind) → front_fault (texts line.words) ≡ Some k → kind ≡ k → line_said nothing_said line ≡ Err (refused_at line.number kind)
    told k is same = told_as nothing_said line kind k same (said_first line ∙ ap (λ (o : Option RefusalKind). unless line.number o (describing [])) is)

    by_one : (words : List (List ℕ)) → behind (texts line.words) (codes "kit") ≡ Some words → kind ≡ refusal.BadValue → ¬ (words ≡ codes "1" ∷ []) → (o : Option (List (List ℕ))) → behind words (codes "1") ≡ o
        → line_said nothing_said line ≡ Err (refused_at line.number kind)
    by_one words is same no_form None one = told refusal.BadValue (ap kit_from is ∙ ap version_from one) same
    by_one words is same no_form (Some more) one =
        let last : ends more ≡ false = some_more more (λ none. no_form (behind_is words (codes "1") more one ∙ ap (λ (ws : List (List ℕ)). codes "1" ∷ ws) none)) in
        told refusal.BadValue (ap kit_from is ∙ ap version_from one ∙ ap (λ (b : Bool). if b then None else Some refusal.BadValue) last) same

    by_kit : (o : Option (List (List ℕ))) → behind (texts line.words) (codes "kit") ≡ o → HasFault (MayStand first_place) line.words kind → line_said nothing_said line ≡ Err (refused_at line.number kind)
    by_kit None is h =
        told refusal.UnknownLine (ap kit_from is)
        (only_unknown (MayStand first_place) line.words kind (λ key rest opens. no_start (texts line.words) kit_key rest is (opens.all ∙ ap (λ (x : Key). word_of x ∷ rest) opens.stands)) h)
    by_kit (Some words) is h =
        let a = alone_fault (MayStand first_place) kit_key line.words words kind (λ key may. may) refl (λ e. absurd (cc (e))) (λ ws pass. pass) (behind_is (texts line.words) (codes "kit") words is) h in
        by_one words is a.0 a.1 (behind words (codes "1")) refl

    by_own : HasFault (MayStand first_place) line.words kind ⊎ ((kind ≡ refusal.Limit) × IsFull first_place (texts line.words)) → line_said nothing_said line ≡ Err (refused_at line.number kind)
    by_own (inl h) = by_kit (behind (texts line.words) (codes "kit")) refl h
    by_own (inr full) = absurd (full.1.full (subst (HasRoom first_place) (sym full.1.opens.stands) tt))

-- ---- behind descriptions
-- a fault of a line that describes is none of one that begins with `script`
no_description : (s : State) (line : Line) (words : List (List ℕ)) (kind : RefusalKind) → StateFits s → behind (texts line.words) (codes "script") ≡ Some words → kind ≢ refusal.UnknownLine → descriptions.IsLineFault s line kind → ⊥
no_description s line words kind fits is differs f =
    differs (told_kind (read_line s line) kind refusal.UnknownLine (line_faults s line kind fits f) (script_unread s line words (behind_is (texts line.words) (codes "script") words is)))

of_state : (ds : List Line) (s : State) (line : Line) (kind : RefusalKind) → IsDescribedFault (described_place ds s) line kind → descriptions.IsLineFault s line kind
of_state ds s line kind d = subst (λ (x : State). descriptions.IsLineFault x line kind) (sym (same_state ds d.1.0 s d.0 d.1.1)) d.2

as_description : (ds : List Line) (s : State) (line : Line) (kind : RefusalKind) → behind (texts line.words) (codes "script") ≡ None → IsLineFault (described_place ds s) line kind → descriptions.IsLineFault s line kind
as_description ds s line refusal.UnknownLine none f = f.no_description s (ds, refl)
as_description ds s line (refusal.BadHey column) none f = absurd (no_start (texts line.words) script_key f.rest none (f.opens.all ∙ ap (λ (x : Key). word_of x ∷ f.rest) f.opens.stands.0))
as_description ds s line refusal.BadValue none (inl f) = absurd (no_start (texts line.words) script_key f.rest none (f.opens.all ∙ ap (λ (x : Key). word_of x ∷ f.rest) f.opens.stands.0))
as_description ds s line refusal.BadValue none (inr f) = of_state ds s line refusal.BadValue f
as_description ds s line refusal.NameInUse none f = of_state ds s line refusal.NameInUse f
as_description ds s line refusal.Limit none (inl f) = absurd (no_start (texts line.words) script_key f.rest none (f.opens.all ∙ ap (λ (x : Key). word_of x ∷ f.rest) f.opens.stands.0))
as_description ds s line refusal.Limit none (inr (inl f)) = absurd (no_start (texts line.words) script_key f.rest none (f.opens.all ∙ ap (λ (x : Key). word_of x ∷ f.rest) f.opens.stands.0))
as_description ds s line refusal.Limit none (inr (inr f)) = of_state ds s line refusal.Limit f
as_description ds s line refusal.InputTooLong none f = absurd f
as_description ds s line refusal.NotUtf8 none f = absurd f
as_description ds s line refusal.BadWord none f = absurd f
as_description ds s line refusal.Unfinished none f = absurd f
as_description ds s line refusal.UnknownName none f = absurd f
as_description ds s line refusal.ChainLoop none f = absurd f
as_description ds s line refusal.AskOrder none f = absurd f

described_fault : GoesLineByLine → (ds : List Line) (s : State) (line : Line) (kind : RefusalKind) → Follow nothing_read ds s → IsLineFault (described_place ds s) line kind → line_said (describing ds) line ≡ Err (refused_at line.number kind)
described_fault by_line ds s line kind lead f = by_key (behind (texts line.words) (codes "script")) refl where
  told : (words : List (List ℕ)) (k : RefusalKind) → behind (texts line.words) (codes "script") ≡ Some words → script_fault ds words ≡ Some k → kind ≡ k → line_said (describing ds) line ≡ Err (refused_at line.number kind)
  told words k is fault same = told_as (describing ds) line kind k same (said_described ds line (Some words) is ∙ ap (λ (o : Option RefusalKind). unless line.number o (behind_script ds [])) fault)

  by_complete : (words : List (List ℕ)) → behind (texts line.words) (codes "script") ≡ Some words → HasFault (MayStand (described_place ds s)) line.words kind → (b : Bool) → may_open_app s.apps ≡ b → line_said (describing ds) line ≡ Err (refused_at line.number kind)
  by_complete words is h true closed_there =
      let complete = (complete_is s.apps).0 closed_there in
      let a = alone_fault (MayStand (described_place ds s)) script_key line.words words kind (λ key may. may.0) (refl, complete) (λ e. absurd (cc (e))) (λ ws pass. pass) (behind_is (texts line.words) (codes "script") words is) h in
      told words refusal.BadValue is
      (ap (λ (o : Option Refusal). if is_some o then Some refusal.UnknownLine else if ends words then None else Some refusal.BadValue) (complete_ends ds s lead complete)
      ∙ ap (λ (b : Bool). if b then None else Some refusal.BadValue) (some_more words a.1)) a.0
  by_complete words is h false open_there =
      let open_app : ¬ (IsComplete s.apps) = λ complete. not_both (may_open_app s.apps) ((complete_is s.apps).1 complete) open_there in
      let left = open_ends ds s lead open_app in
      told words refusal.UnknownLine is
      (ap (λ (o : Option Refusal). if is_some o then Some refusal.UnknownLine else if ends words then None else Some refusal.BadValue) left.told)
      (only_unknown (MayStand (described_place ds s)) line.words kind (λ key rest opens. open_app opens.stands.1) h)

  by_own : (words : List (List ℕ)) → behind (texts line.words) (codes "script") ≡ Some words
      → HasFault (MayStand (described_place ds s)) line.words kind ⊎ ((kind ≡ refusal.Limit) × IsFull (described_place ds s) (texts line.words)) → line_said (describing ds) line ≡ Err (refused_at line.number kind)
  by_own words is (inl h) = by_complete words is h (may_open_app s.apps) refl
  by_own words is (inr full) = absurd (full.1.full (subst (HasRoom (described_place ds s)) (sym full.1.opens.stands.0) tt))

  by_key : (o : Option (List (List ℕ))) → behind (texts line.words) (codes "script") ≡ o → line_said (describing ds) line ≡ Err (refused_at line.number kind)
  by_key None is = described_told by_line ds s line kind (read_there ds s lead) is (line_faults s line kind (fits_there ds s lead) (as_description ds s line kind is f))
  by_key (Some words) is =
      by_own words is
      (own_fault (MayStand (described_place ds s)) (described_place ds s) line kind (λ key rest all stands. stands) (λ key may. may) (λ k differs d. no_description s line words k (fits_there ds s lead) is differs (of_state ds s line k d)) f)

-- ---- behind statements
statement_fault : StatementsAreRead → StatementFaultsAreTold → (ds : List Line) (xs : List StatementData) (line : Line) (kind : RefusalKind) → IsLineFault (statement_place ds xs) line kind → line_said (behind_script ds xs) line ≡ Err (refused_at line.number kind)
statement_fault law faults ds xs line kind f = by_key (behind (texts line.words) (codes "together")) refl where
  p : Place
  p = statement_place ds xs

  stands_first : behind (texts line.words) (codes "together") ≡ None → (key : Key) (rest : List (List ℕ)) → texts line.words ≡ word_of key ∷ rest → MayStand (statement_place ds xs) key → IsStatementKey key
  stands_first none key rest all (inl is) = is
  stands_first none key rest all (inr same) = absurd (no_start (texts line.words) together_key rest none (all ∙ ap (λ (x : Key). word_of x ∷ rest) same))

  stands_together : (words : List (List ℕ)) → behind (texts line.words) (codes "together") ≡ Some words → (key : Key) (rest : List (List ℕ)) → texts line.words ≡ word_of key ∷ rest → MayStand (statement_place ds xs) key → key ≡ together_key
  stands_together words is key rest all (inl statement) =
      absurd (two_ways (behind (texts line.words) (codes "together")) words (ap (λ (ws : List (List ℕ)). behind ws (codes "together")) all ∙ no_together key rest statement) is)
  stands_together words is key rest all (inr same) = same

  by_alone : behind (texts line.words) (codes "together") ≡ None → HasFault IsStatementKey line.words kind ⊎ ((kind ≡ refusal.Limit) × IsFull (statement_place ds xs) (texts line.words)) → line_said (behind_script ds xs) line ≡ Err (refused_at line.number kind)
  by_alone none (inl h) = outside_told ds xs line kind none ((faults line.words kind).1 h)
  by_alone none (inr full) =
      let u = full.1 in
      let statement = stands_first none u.key u.rest u.opens.all u.opens.stands in
      let says = says_form (texts line.words) u.key u.rest statement u.opens.all u.form in
      let room = no_room_again (lines_in xs) statement_limit (λ lt. u.full (room_there (statement_place ds xs) u.key statement lt)) in
      told_as (behind_script ds xs) line kind refusal.Limit full.0 (outside_full ds xs line says.0 none ((law line.words says.0).1 says.1) room)

  by_together_word : (words : List (List ℕ)) → behind (texts line.words) (codes "together") ≡ Some words → HasFault (λ (key : Key). key ≡ together_key) line.words kind ⊎ ((kind ≡ refusal.Limit) × IsFull (statement_place ds xs) (texts line.words))
      → line_said (behind_script ds xs) line ≡ Err (refused_at line.number kind)
  by_together_word words is (inl h) =
      let a = alone_fault (λ (key : Key). key ≡ together_key) together_key line.words words kind (λ key may. may) refl (λ e. absurd (cc (e))) (λ ws pass. pass) (behind_is (texts line.words) (codes "together") words is) h in
      told_as (behind_script ds xs) line kind refusal.BadValue a.0 (together_told ds xs line words is (some_more words a.1))
  by_together_word words is (inr full) =
      let u = full.1 in
      absurd (u.full (subst (HasRoom (statement_place ds xs)) (sym (stands_together words is u.key u.rest u.opens.all u.opens.stands)) tt))

  by_key : (o : Option (List (List ℕ))) → behind (texts line.words) (codes "together") ≡ o → line_said (behind_script ds xs) line ≡ Err (refused_at line.number kind)
  by_key None is = by_alone is (own_fault IsStatementKey p line kind (stands_first is) (λ key may. inl may) (λ k differs d. absurd (cc (d.1.1))) f)
  by_key (Some words) is = by_together_word words is (own_fault (λ (key : Key). key ≡ together_key) p line kind (stands_together words is) (λ key may. inr may) (λ k differs d. absurd (cc (d.1.1))) f)

-- ---- in a block
-- a line of the session that has begun
inner_stands : (ds : List Line) (xs : List StatementData) (b : Block) (line : Line) → behind (texts line.words) (codes "session") ≡ None → behind (texts line.words) (codes "end") ≡ None
    → (key : Key) (rest : List (List ℕ)) → texts line.words ≡ word_of key ∷ rest → MayStand (block_place ds xs b) key → IsSessionKey key × HasBegun b
inner_stands ds xs b line none_session none_end key rest all (inl may) = may
inner_stands ds xs b line none_session none_end key rest all (inr (inl may)) = absurd (no_start (texts line.words) session_key rest none_session (all ∙ ap (λ (x : Key). word_of x ∷ rest) may.0))
inner_stands ds xs b line none_session none_end key rest all (inr (inr may)) = absurd (no_start (texts line.words) end_key rest none_end (all ∙ ap (λ (x : Key). word_of x ∷ rest) may.0))

inner_fault : SessionLinesAreRead → SessionFaultsAreTold → (ds : List Line) (xs : List StatementData) (sessions : List SessionData) (begun : Option (List SessionLineData)) (line : Line) (kind : RefusalKind)
    → behind (texts line.words) (codes "session") ≡ None → behind (texts line.words) (codes "end") ≡ None
    → IsLineFault (block_place ds xs (record { sessions = sessions; begun = begun })) line kind → line_said (inside ds xs (record { sessions = sessions; begun = begun })) line ≡ Err (refused_at line.number kind)
inner_fault law faults ds xs sessions None line kind none_session none_end f =
    let b : Block = record { sessions = sessions; begun = None } in
    by_own (own_fault (λ (key : Key). IsSessionKey key × HasBegun (record { sessions = sessions; begun = None })) (block_place ds xs b) line kind (inner_stands ds xs b line none_session none_end) (λ key may. inl may) (λ k differs d. absurd (cc (d.1.1))) f)
  where
    none_begun : HasBegun (record { sessions = sessions; begun = None }) → ⊥
    none_begun h = let wrong = h.1 in cc

    by_own : HasFault (λ (key : Key). IsSessionKey key × HasBegun (record { sessions = sessions; begun = None })) line.words kind ⊎ ((kind ≡ refusal.Limit) × IsFull (block_place ds xs (record { sessions = sessions; begun = None })) (texts line.words))
        → line_said (inside ds xs (record { sessions = sessions; begun = None })) line ≡ Err (refused_at line.number kind)
    by_own (inl h) =
        told_as (inside ds xs (record { sessions = sessions; begun = None })) line kind refusal.UnknownLine
        (only_unknown (λ (key : Key). IsSessionKey key × HasBegun (record { sessions = sessions; begun = None })) line.words kind (λ key rest opens. none_begun opens.stands.1) h)
        (none_told ds xs sessions line none_session none_end)
    by_own (inr full) =
        let u = full.1 in
        absurd (none_begun (inner_stands ds xs (record { sessions = sessions; begun = None }) line none_session none_end u.key u.rest u.opens.all u.opens.stands).1)
inner_fault law faults ds xs sessions (Some ls) line kind none_session none_end f =
    let b : Block = record { sessions = sessions; begun = Some ls } in
    by_own
    (own_fault IsSessionKey (block_place ds xs b) line kind (λ key rest all stands. (inner_stands ds xs b line none_session none_end key rest all stands).0) (λ key may. inl (may, (ls, refl))) (λ k differs d. absurd (cc (d.1.1))) f)
  where
    by_own : HasFault IsSessionKey line.words kind ⊎ ((kind ≡ refusal.Limit) × IsFull (block_place ds xs (record { sessions = sessions; begun = Some ls })) (texts line.words))
        → line_said (inside ds xs (record { sessions = sessions; begun = Some ls })) line ≡ Err (refused_at line.number kind)
    by_own (inl h) = inner_told ds xs sessions ls line kind none_session none_end ((faults line.words kind).1 h)
    by_own (inr full) =
        let b : Block = record { sessions = sessions; begun = Some ls } in
        let u = full.1 in
        let may = (inner_stands ds xs b line none_session none_end u.key u.rest u.opens.all u.opens.stands).0 in
        let says = says_line (texts line.words) u.key u.rest may u.opens.all u.form in
        let n = lines_in xs + lines_of_sessions (with_begun sessions (Some ls)) in
        let room = no_room_again n statement_limit (λ lt. u.full (room_there (block_place ds xs b) u.key (in_statement u.key may) lt)) in
        told_as (inside ds xs b) line kind refusal.Limit full.0 (inner_full ds xs sessions ls line says.0 none_session none_end ((law line.words says.0).1 says.1) room)

block_fault : SessionLinesAreRead → SessionFaultsAreTold → (ds : List Line) (xs : List StatementData) (sessions : List SessionData) (begun : Option (List SessionLineData)) (line : Line) (kind : RefusalKind)
    → IsLineFault (block_place ds xs (record { sessions = sessions; begun = begun })) line kind → line_said (inside ds xs (record { sessions = sessions; begun = begun })) line ≡ Err (refused_at line.number kind)
block_fault law faults ds xs sessions begun line kind f = by_session_word (behind (texts line.words) (codes "session")) refl where
  b : Block
  b = record { sessions = sessions; begun = begun }

  p : Place
  p = block_place ds xs (record { sessions = sessions; begun = begun })

  -- `session`
  stands_session : (words : List (List ℕ)) → behind (texts line.words) (codes "session") ≡ Some words → (key : Key) (rest : List (List ℕ)) → texts line.words ≡ word_of key ∷ rest
      → MayStand (block_place ds xs (record { sessions = sessions; begun = begun })) key → (key ≡ session_key) × (begun ≢ Some [])
  stands_session words is key rest all (inl may) =
      absurd (two_ways (behind (texts line.words) (codes "session")) words (ap (λ (ws : List (List ℕ)). behind ws (codes "session")) all ∙ no_session key rest may.0) is)
  stands_session words is key rest all (inr (inl may)) = may
  stands_session words is key rest all (inr (inr may)) =
      absurd (two_ways (behind (texts line.words) (codes "session")) words (ap (λ (ws : List (List ℕ)). behind ws (codes "session")) (all ∙ ap (λ (x : Key). word_of x ∷ rest) may.0)) is)

  session_bad : (words : List (List ℕ)) → behind (texts line.words) (codes "session") ≡ Some words → HasFault (λ (key : Key). (key ≡ session_key) × (begun ≢ Some [])) line.words kind → (t : Bool) → is_bare begun ≡ t → line_said (inside ds xs b) line ≡ Err (refused_at line.number kind)
  session_bad words is h true bare =
      let same = only_unknown (λ (key : Key). (key ≡ session_key) × (begun ≢ Some [])) line.words kind (λ key rest opens. not_both (is_bare begun) bare (not_bare_again begun opens.stands.1)) h in
      told_as (inside ds xs b) line kind refusal.UnknownLine same
      (session_told ds xs b line words refusal.UnknownLine is (ap (λ (t : Bool). if t then Some refusal.UnknownLine else if ends words then blocks.room_fault (with_begun sessions begun) else Some refusal.BadValue) bare))
  session_bad words is h false bare =
      let differs : begun ≢ Some [] = λ same. (let wrong : is_bare begun ≡ true = ap is_bare same in not_both (is_bare begun) wrong bare) in
      let a = alone_fault (λ (key : Key). (key ≡ session_key) × (begun ≢ Some [])) session_key line.words words kind (λ key may. may.0) (refl, differs) (λ e. absurd (cc (e))) (λ ws pass. pass) (behind_is (texts line.words) (codes "session") words is) h in
      told_as (inside ds xs b) line kind refusal.BadValue a.0
      (session_told ds xs b line words refusal.BadValue is
      (ap (λ (t : Bool). if t then Some refusal.UnknownLine else if ends words then blocks.room_fault (with_begun sessions begun) else Some refusal.BadValue) bare
      ∙ ap (λ (t : Bool). if t then blocks.room_fault (with_begun sessions begun) else Some refusal.BadValue) (some_more words a.1)))

  session_full : (words : List (List ℕ)) → behind (texts line.words) (codes "session") ≡ Some words → kind ≡ refusal.Limit → IsFull (block_place ds xs (record { sessions = sessions; begun = begun })) (texts line.words)
      → line_said (inside ds xs b) line ≡ Err (refused_at line.number kind)
  session_full words is same u =
      let may = stands_session words is u.key u.rest u.opens.all u.opens.stands in
      let here : texts line.words ≡ codes "session" ∷ u.rest = u.opens.all ∙ ap (λ (x : Key). word_of x ∷ u.rest) may.0 in
      let none : u.rest ≡ [] = subst (λ (key : Key). AreOfForm key u.rest) may.0 u.form in
      let last : ends words ≡ true = ap ends (same_rest (texts line.words) (codes "session") (codes "session") words u.rest (behind_is (texts line.words) (codes "session") words is) here ∙ none) in
      let full = no_room_again (length (with_begun sessions begun)) session_limit (λ lt. u.full (subst (HasRoom (block_place ds xs (record { sessions = sessions; begun = begun }))) (sym may.0) lt)) in
      told_as (inside ds xs b) line kind refusal.Limit same
      (session_told ds xs b line words refusal.Limit is
      (ap (λ (t : Bool). if t then Some refusal.UnknownLine else if ends words then blocks.room_fault (with_begun sessions begun) else Some refusal.BadValue) (not_bare_again begun may.1)
      ∙ ap (λ (t : Bool). if t then blocks.room_fault (with_begun sessions begun) else Some refusal.BadValue) last
      ∙ ap (λ (t : Bool). if t then None else Some refusal.Limit) full))

  by_session_own : (words : List (List ℕ)) → behind (texts line.words) (codes "session") ≡ Some words
      → HasFault (λ (key : Key). (key ≡ session_key) × (begun ≢ Some [])) line.words kind ⊎ ((kind ≡ refusal.Limit) × IsFull (block_place ds xs (record { sessions = sessions; begun = begun })) (texts line.words))
      → line_said (inside ds xs b) line ≡ Err (refused_at line.number kind)
  by_session_own words is (inl h) = session_bad words is h (is_bare begun) refl
  by_session_own words is (inr full) = session_full words is full.0 full.1

  -- `end`
  stands_end : (words : List (List ℕ)) → behind (texts line.words) (codes "session") ≡ None → behind (texts line.words) (codes "end") ≡ Some words → (key : Key) (rest : List (List ℕ)) → texts line.words ≡ word_of key ∷ rest
      → MayStand (block_place ds xs (record { sessions = sessions; begun = begun })) key → (key ≡ end_key) × HasLine (record { sessions = sessions; begun = begun })
  stands_end words none is key rest all (inl may) =
      absurd (two_ways (behind (texts line.words) (codes "end")) words (ap (λ (ws : List (List ℕ)). behind ws (codes "end")) all ∙ no_end key rest may.0) is)
  stands_end words none is key rest all (inr (inl may)) = absurd (no_start (texts line.words) session_key rest none (all ∙ ap (λ (x : Key). word_of x ∷ rest) may.0))
  stands_end words none is key rest all (inr (inr may)) = may

  end_bad : (words : List (List ℕ)) → behind (texts line.words) (codes "session") ≡ None → behind (texts line.words) (codes "end") ≡ Some words
      → HasFault (λ (key : Key). (key ≡ end_key) × HasLine (record { sessions = sessions; begun = begun })) line.words kind → (t : Bool) → has_line begun ≡ t → line_said (inside ds xs b) line ≡ Err (refused_at line.number kind)
  end_bad words none is h false open_line =
      let same = only_unknown (λ (key : Key). (key ≡ end_key) × HasLine (record { sessions = sessions; begun = begun })) line.words kind (λ key rest opens. not_both (has_line begun) (line_there b opens.stands.1) open_line) h in
      told_as (inside ds xs b) line kind refusal.UnknownLine same
      (end_told ds xs b line words refusal.UnknownLine none is (ap (λ (t : Bool). if t then (if ends words then None else Some refusal.BadValue) else Some refusal.UnknownLine) open_line))
  end_bad words none is h true open_line =
      let a = alone_fault (λ (key : Key). (key ≡ end_key) × HasLine (record { sessions = sessions; begun = begun })) end_key line.words words kind (λ key may. may.0) (refl, has_a_line begun open_line) (λ e. absurd (cc (e))) (λ ws pass. pass)
      (behind_is (texts line.words) (codes "end") words is) h in
      told_as (inside ds xs b) line kind refusal.BadValue a.0
      (end_told ds xs b line words refusal.BadValue none is
      (ap (λ (t : Bool). if t then (if ends words then None else Some refusal.BadValue) else Some refusal.UnknownLine) open_line ∙ ap (λ (t : Bool). if t then None else Some refusal.BadValue) (some_more words a.1)))
    where
      has_a_line : (o : Option (List SessionLineData)) → has_line o ≡ true → HasLine (record { sessions = sessions; begun = o })
      has_a_line None e = absurd cc
      has_a_line (Some []) e = absurd cc
      has_a_line (Some (x ∷ lines)) e = (x, lines, refl)

  by_end_own : (words : List (List ℕ)) → behind (texts line.words) (codes "session") ≡ None → behind (texts line.words) (codes "end") ≡ Some words
      → HasFault (λ (key : Key). (key ≡ end_key) × HasLine (record { sessions = sessions; begun = begun })) line.words kind ⊎ ((kind ≡ refusal.Limit) × IsFull (block_place ds xs (record { sessions = sessions; begun = begun })) (texts line.words))
      → line_said (inside ds xs b) line ≡ Err (refused_at line.number kind)
  by_end_own words none is (inl h) = end_bad words none is h (has_line begun) refl
  by_end_own words none is (inr full) =
      let u = full.1 in
      absurd (u.full (subst (HasRoom (block_place ds xs (record { sessions = sessions; begun = begun }))) (sym (stands_end words none is u.key u.rest u.opens.all u.opens.stands).0) tt))

  by_end_word : behind (texts line.words) (codes "session") ≡ None → (o : Option (List (List ℕ))) → behind (texts line.words) (codes "end") ≡ o → line_said (inside ds xs b) line ≡ Err (refused_at line.number kind)
  by_end_word none (Some words) is =
      by_end_own words none is
      (own_fault (λ (key : Key). (key ≡ end_key) × HasLine (record { sessions = sessions; begun = begun })) p line kind (stands_end words none is) (λ key may. inr (inr may)) (λ k differs d. absurd (cc (d.1.1))) f)
  by_end_word none None is = inner_fault law faults ds xs sessions begun line kind none is f

  by_session_word : (o : Option (List (List ℕ))) → behind (texts line.words) (codes "session") ≡ o → line_said (inside ds xs b) line ≡ Err (refused_at line.number kind)
  by_session_word (Some words) is =
      by_session_own words is
      (own_fault (λ (key : Key). (key ≡ session_key) × (begun ≢ Some [])) p line kind (stands_session words is) (λ key may. inr (inl may)) (λ k differs d. absurd (cc (d.1.1))) f)
  by_session_word None is = by_end_word is (behind (texts line.words) (codes "end")) refl

-- ---- all of them
pub fault_said : GoesLineByLine → StatementsAreRead → SessionLinesAreRead → StatementFaultsAreTold → SessionFaultsAreTold → (front : List Line) (p : Place) (line : Line) (kind : RefusalKind) → Lead front p → IsLineFault p line kind
    → line_said (state_at p) line ≡ Err (refused_at line.number kind)
fault_said by_line law inner faults inner_faults front first_place line kind lead f = first_told line kind f
fault_said by_line law inner faults inner_faults front (described_place ds s) line kind lead f = described_fault by_line ds s line kind lead.3 f
fault_said by_line law inner faults inner_faults front (statement_place ds xs) line kind lead f = statement_fault law faults ds xs line kind f
fault_said by_line law inner faults inner_faults front (block_place ds xs b) line kind lead f = block_fault inner inner_faults ds xs b.sessions b.begun line kind f
