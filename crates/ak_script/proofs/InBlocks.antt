-- One line more in a block that is open: either the lines lead on with it, or it has a fault there, which is told.
use Rattle.std.proofs.Common.{◌≡◌, ◌≢◌, inl, inr, ◌≤◌, ◌<◌, ◌+◌, ℕ, Bool, true, false, List, [], ◌∷◌, ◌++◌, length, codes, Option, Some, None, Result, Ok, Err, refl, ap, sym, ◌∙◌, append_assoc, arith}
use Rattle.std.specs.Prelude.{nat_lt}
use Rattle.std.proofs.lemmas.List.{append-nil, length-append}
use Rattle.ak_base.specs.declared.ending.RefusalKind.{RefusalKind}
use Rattle.ak_base.specs.declared.ending.RefusalKind.TheVariants as refusal
use Rattle.ak_input.specs.declared.line.Line.{Line}
use Rattle.ak_describe.specs.Pass.{State}
use Rattle.ak_describe.specs.Words.{behind, ends, texts}
use Rattle.ak_script.specs.Blocks.{Block, with_begun, closed, is_bare, has_line, more_lines, session_begun}
use Rattle.ak_script.specs.Faulty.{Key, session_key, end_key, word_of, IsSessionKey, IsUnknown, StatementFaultsAreTold, SessionFaultsAreTold}
use Rattle.ak_script.specs.Forms.{session_line_of}
use Rattle.ak_script.specs.Limits.{session_limit, statement_limit}
use Rattle.ak_script.specs.Refusals.{Place, first_place, described_place, statement_place, block_place, AreOpen, AreInBlock, Lead, HasLine, HasBegun, MayStand, MayNotStand}
use Rattle.ak_script.specs.Says.{SaysSessionLine, StatementsAreRead, SessionLinesAreRead}
use Rattle.ak_script.specs.SaysLines.{IsBlock}
use Rattle.ak_script.specs.Statement.{SessionLineData, SessionData, StatementData, lines_of_sessions, lines_in}
use Rattle.ak_script.proofs.Counting.{lines_in-append, lines_of_sessions-append, line_counts, one_session, not_bare}
use Rattle.ak_script.proofs.Faulting.{in_statement}
use Rattle.ak_script.proofs.InOrder.{behind_is, ends_is}
use Rattle.ak_script.proofs.Stages.{block_of, alone_is}
use Rattle.ak_script.proofs.Stepping.{Step, close_open, counted, described_step, first_step, goes_on, has_room, lifted, line_form, lines_more, no_end, no_room, no_session, no_start, not_both, say_more, some_words, statement_step, stops, two_ways}

-- ---- what has come of a block
bare_is : (begun : Option (List SessionLineData)) → is_bare begun ≡ true → begun ≡ Some []
bare_is None is = absurd cc
bare_is (Some []) is = refl
bare_is (Some (x ∷ lines)) is = absurd cc

pub not_bare_is : (begun : Option (List SessionLineData)) → is_bare begun ≡ false → begun ≢ Some []
not_bare_is begun is same = let bare : is_bare begun ≡ true = ap is_bare same in not_both (is_bare begun) bare is

pub not_bare_again : (begun : Option (List SessionLineData)) → begun ≢ Some [] → is_bare begun ≡ false
not_bare_again None differs = refl
not_bare_again (Some []) differs = absurd (differs refl)
not_bare_again (Some (x ∷ lines)) differs = refl

line_is : (sessions : List SessionData) (begun : Option (List SessionLineData)) → has_line begun ≡ true → HasLine (record { sessions = sessions; begun = begun })
line_is sessions None is = absurd cc
line_is sessions (Some []) is = absurd cc
line_is sessions (Some (x ∷ lines)) is = (x, lines, refl)

pub line_there : (b : Block) → HasLine b → has_line b.begun ≡ true
line_there b h = ap has_line h.2

begun_none : (b : Block) → b.begun ≡ None → HasBegun b → ⊥
begun_none b none h = cc (none, h.1)

-- ---- no line of a block begins so
not_described : (ds es : List Line) (xs : List StatementData) (b : Block) (s : State) → block_place ds xs b ≡ described_place es s → ⊥
not_described ds es xs b s e = absurd cc

unknown_in : (ds : List Line) (xs : List StatementData) (b : Block) (line : Line)
    → ((key : Key) (rest : List (List ℕ)) → texts line.words ≡ word_of key ∷ rest → IsSessionKey key → HasBegun b → ⊥)
    → ((rest : List (List ℕ)) → texts line.words ≡ codes "session" ∷ rest → b.begun ≢ Some [] → ⊥)
    → ((rest : List (List ℕ)) → texts line.words ≡ codes "end" ∷ rest → HasLine b → ⊥)
    → MayNotStand (block_place ds xs b) line
unknown_in ds xs b line no_line no_session_line no_end_line = record {
  no_line = λ key rest opens. by_stands key rest opens.all opens.stands;
  no_description = λ s d. absurd (not_described ds d.0 xs b s d.1);
} where
  by_stands : (key : Key) (rest : List (List ℕ)) → texts line.words ≡ word_of key ∷ rest → MayStand (block_place ds xs b) key → ⊥
  by_stands key rest all (inl is) = no_line key rest all is.0 is.1
  by_stands key rest all (inr (inl is)) = no_session_line rest (all ∙ ap (λ (x : Key). word_of x ∷ rest) is.0) is.1
  by_stands key rest all (inr (inr is)) = no_end_line rest (all ∙ ap (λ (x : Key). word_of x ∷ rest) is.0) is.1

-- ---- the step
block_more : (front ds : List Line) (xs : List StatementData) (b c : Block) (line : Line) (a : AreInBlock front ds xs b) → AreOpen (a.inner ++ line ∷ []) c.sessions c.begun → length (closed c) ≤ session_limit
    → lines_in xs + lines_of_sessions (closed c) ≤ statement_limit → AreInBlock (front ++ line ∷ []) ds xs c
block_more front ds xs b c line a now few room = record {
  front = a.front;
  opens = a.opens;
  inner = a.inner ++ line ∷ [];
  parts = ap (λ (ls : List Line). ls ++ line ∷ []) a.parts ∙ append_assoc a.front (a.opens ∷ a.inner) (line ∷ []);
  front_is = a.front_is;
  together_is = a.together_is;
  open_is = now;
  few = few;
  room = room;
}

-- a line of the session that has begun
open_more : (lines : List Line) (sessions : List SessionData) (ls : List SessionLineData) (x : SessionLineData) (line : Line) → AreOpen lines sessions (Some ls) → SaysSessionLine (texts line.words) x → AreOpen (lines ++ line ∷ []) sessions (Some (more_lines x ls))
open_more lines sessions ls x line o says = (
  o.0,
  o.1,
  o.2 ++ line ∷ [],
  ap (λ (xs : List Line). xs ++ line ∷ []) o.3 ∙ append_assoc o.0 (o.1 ∷ o.2) (line ∷ []),
  o.4,
  o.5,
  lines_more o.2 line ls x o.6 says,
)

inner_step : SessionLinesAreRead → SessionFaultsAreTold → (front ds : List Line) (xs : List StatementData) (sessions : List SessionData) (begun : Option (List SessionLineData)) (line : Line)
    → AreInBlock front ds xs (record { sessions = sessions; begun = begun }) → behind (texts line.words) (codes "session") ≡ None → behind (texts line.words) (codes "end") ≡ None
    → Step front (block_place ds xs (record { sessions = sessions; begun = begun })) line
inner_step law faults front ds xs sessions None line a none_session none_end =
    let b : Block = record { sessions = sessions; begun = None } in
    stops refusal.UnknownLine
    (unknown_in ds xs b line (λ key rest all is has. begun_none b refl has) (λ rest all differs. no_start (texts line.words) session_key rest none_session all) (λ rest all has. no_start (texts line.words) end_key rest none_end all))
inner_step law faults front ds xs sessions (Some ls) line a none_session none_end = by_read (session_line_of line.words) refl where
  b : Block
  b = record { sessions = sessions; begun = Some ls }

  stands : (key : Key) → IsSessionKey key → MayStand (block_place ds xs b) key
  stands key is = inl (is, (ls, refl))

  unknown : IsUnknown IsSessionKey (texts line.words) → MayNotStand (block_place ds xs b) line
  unknown u =
      unknown_in ds xs b line (λ key rest all is has. u key rest (record { all = all; stands = is })) (λ rest all differs. no_start (texts line.words) session_key rest none_session all)
      (λ rest all has. no_start (texts line.words) end_key rest none_end all)

  by_room : (x : SessionLineData) → session_line_of line.words ≡ Ok x → (t : Bool) → nat_lt (lines_in xs + lines_of_sessions (with_begun sessions (Some ls))) statement_limit ≡ t → Step front (block_place ds xs b) line
  by_room x e true room =
      let says = (law line.words x).0 e in
      let free = has_room (lines_in xs + lines_of_sessions (with_begun sessions (Some ls))) statement_limit room in
      let c : Block = record { sessions = sessions; begun = Some (more_lines x ls) } in
      let few_now : length (closed c) ≤ session_limit = omega (arith, a.few, length-append sessions (record { lines = ls } ∷ []), length-append sessions (record { lines = more_lines x ls } ∷ [])) in
      let room_now : lines_in xs + lines_of_sessions (closed c) ≤ statement_limit = omega (arith, free, line_counts sessions ls x) in
      goes_on (block_place ds xs c)
      (block_more front ds xs b c line a (open_more a.inner sessions ls x line a.open_is says) few_now room_now)
  by_room x e false room =
      let f = line_form (texts line.words) x ((law line.words x).0 e) in
      stops refusal.Limit
      (inr (inl (record {
        key = f.key;
        rest = f.rest;
        opens = record { all = f.all; stands = stands f.key f.key_is };
        form = f.form;
        full = λ h. no_room (lines_in xs + lines_of_sessions (with_begun sessions (Some ls))) statement_limit room (counted (block_place ds xs b) f.key (in_statement f.key f.key_is) h);
      })))

  by_read : (r : Result SessionLineData RefusalKind) → session_line_of line.words ≡ r → Step front (block_place ds xs b) line
  by_read (Ok x) e = by_room x e (nat_lt (lines_in xs + lines_of_sessions (with_begun sessions (Some ls))) statement_limit) refl
  by_read (Err kind) e = stops kind (lifted IsSessionKey (block_place ds xs b) line kind stands unknown ((faults line.words kind).0 e))

pub block_step : SessionLinesAreRead → SessionFaultsAreTold → (front ds : List Line) (xs : List StatementData) (sessions : List SessionData) (begun : Option (List SessionLineData)) (line : Line)
    → AreInBlock front ds xs (record { sessions = sessions; begun = begun }) → Step front (block_place ds xs (record { sessions = sessions; begun = begun })) line
block_step law faults front ds xs sessions begun line a = by_session_word (behind (texts line.words) (codes "session")) refl where
  b : Block
  b = record { sessions = sessions; begun = begun }

  -- `session`
  session_goes : (words : List (List ℕ)) → behind (texts line.words) (codes "session") ≡ Some words → is_bare begun ≡ false → ends words ≡ true → length (with_begun sessions begun) < session_limit → Step front (block_place ds xs b) line
  session_goes words is open_line last room =
      let alone = alone_is line (codes "session") words is last in
      let whole = close_open a.inner sessions begun a.open_is open_line in
      let few_now : length (closed (session_begun b)) ≤ session_limit = omega (arith, room, length-append (with_begun sessions begun) (record { lines = [] } ∷ [])) in
      let room_now : lines_in xs + lines_of_sessions (closed (session_begun b)) ≤ statement_limit = omega (arith, a.room, lines_of_sessions-append (with_begun sessions begun) (record { lines = [] } ∷ [])) in
      goes_on (block_place ds xs (session_begun b))
      (block_more front ds xs b (session_begun b) line a (a.inner, line, [], refl, whole, alone, tt) few_now room_now)

  session_full : (words : List (List ℕ)) → behind (texts line.words) (codes "session") ≡ Some words → is_bare begun ≡ false → ends words ≡ true → nat_lt (length (with_begun sessions begun)) session_limit ≡ false → Step front (block_place ds xs b) line
  session_full words is open_line last full =
      stops refusal.Limit
      (inr (inl (record {
        key = session_key;
        rest = words;
        opens = record { all = behind_is (texts line.words) (codes "session") words is; stands = inr (inl (refl, not_bare_is begun open_line)) };
        form = ends_is words last;
        full = no_room (length (with_begun sessions begun)) session_limit full;
      })))

  by_session_room : (words : List (List ℕ)) → behind (texts line.words) (codes "session") ≡ Some words → is_bare begun ≡ false → ends words ≡ true → (t : Bool) → nat_lt (length (with_begun sessions begun)) session_limit ≡ t → Step front (block_place ds xs b) line
  by_session_room words is open_line last true room = session_goes words is open_line last (has_room (length (with_begun sessions begun)) session_limit room)
  by_session_room words is open_line last false room = session_full words is open_line last room

  by_session_end : (words : List (List ℕ)) → behind (texts line.words) (codes "session") ≡ Some words → is_bare begun ≡ false → (t : Bool) → ends words ≡ t → Step front (block_place ds xs b) line
  by_session_end words is open_line true last = by_session_room words is open_line last (nat_lt (length (with_begun sessions begun)) session_limit) refl
  by_session_end words is open_line false last =
      stops refusal.BadValue
      (inl (record {
        key = session_key;
        rest = words;
        opens = record { all = behind_is (texts line.words) (codes "session") words is; stands = inr (inl (refl, not_bare_is begun open_line)) };
        no_hey = λ same. absurd (cc (same));
        no_form = some_words words last;
        no_limit = λ pass. pass;
      }))

  by_bare : (words : List (List ℕ)) → behind (texts line.words) (codes "session") ≡ Some words → (t : Bool) → is_bare begun ≡ t → Step front (block_place ds xs b) line
  by_bare words is true bare =
      stops refusal.UnknownLine
      (unknown_in ds xs b line
      (λ key rest all session_key_is has. two_ways (behind (texts line.words) (codes "session")) words (ap (λ (ws : List (List ℕ)). behind ws (codes "session")) all ∙ no_session key rest session_key_is) is)
      (λ rest all differs. differs (bare_is begun bare))
      (λ rest all has. two_ways (behind (texts line.words) (codes "session")) words (ap (λ (ws : List (List ℕ)). behind ws (codes "session")) all) is))
  by_bare words is false bare = by_session_end words is bare (ends words) refl

  -- `end`
  end_goes : (words : List (List ℕ)) → behind (texts line.words) (codes "end") ≡ Some words → has_line begun ≡ true → ends words ≡ true → Step front (block_place ds xs b) line
  end_goes words is open_line last =
      let alone = alone_is line (codes "end") words is last in
      let all = with_begun sessions begun in
      let whole = close_open a.inner sessions begun a.open_is (not_bare begun open_line) in
      let said = a.front_is in
      let grown = xs ++ block_of all ∷ [] in
      let block : IsBlock (a.opens ∷ (a.inner ++ line ∷ [])) (record { sessions = all }) = record {
        opens = a.opens;
        inner = a.inner;
        closes = line;
        parts = refl;
        together_is = a.together_is;
        sessions_are = whole;
        some = one_session sessions begun open_line;
        few = a.few;
        end_is = alone;
      } in
      let few_now : lines_in grown ≤ statement_limit = omega (arith, a.room, lines_in-append xs (block_of all ∷ [])) in
      goes_on (statement_place ds grown)
      (record {
        head = said.head;
        said = said.said ++ a.opens ∷ (a.inner ++ line ∷ []);
        parts = ap (λ (ls : List Line). ls ++ line ∷ []) (a.parts ∙ ap (λ (ls : List Line). ls ++ a.opens ∷ a.inner) said.parts)
            ∙ append_assoc (said.head ++ said.said) (a.opens ∷ a.inner) (line ∷ []) ∙ append_assoc said.head said.said (a.opens ∷ (a.inner ++ line ∷ []));
        head_is = said.head_is;
        say = say_more said.said (a.opens ∷ (a.inner ++ line ∷ [])) xs (block_of all ∷ []) said.say
            (a.opens ∷ (a.inner ++ line ∷ []), [], sym (append-nil (a.opens ∷ (a.inner ++ line ∷ []))), block, refl);
        few = few_now;
      })

  by_end_words : (words : List (List ℕ)) → behind (texts line.words) (codes "session") ≡ None → behind (texts line.words) (codes "end") ≡ Some words → has_line begun ≡ true → (t : Bool) → ends words ≡ t → Step front (block_place ds xs b) line
  by_end_words words none is open_line true last = end_goes words is open_line last
  by_end_words words none is open_line false last =
      stops refusal.BadValue
      (inl (record {
        key = end_key;
        rest = words;
        opens = record { all = behind_is (texts line.words) (codes "end") words is; stands = inr (inr (refl, line_is sessions begun open_line)) };
        no_hey = λ same. absurd (cc (same));
        no_form = some_words words last;
        no_limit = λ pass. pass;
      }))

  by_line : (words : List (List ℕ)) → behind (texts line.words) (codes "session") ≡ None → behind (texts line.words) (codes "end") ≡ Some words → (t : Bool) → has_line begun ≡ t → Step front (block_place ds xs b) line
  by_line words none is true open_line = by_end_words words none is open_line (ends words) refl
  by_line words none is false open_line =
      stops refusal.UnknownLine
      (unknown_in ds xs b line
      (λ key rest all session_key_is has. two_ways (behind (texts line.words) (codes "end")) words (ap (λ (ws : List (List ℕ)). behind ws (codes "end")) all ∙ no_end key rest session_key_is) is)
      (λ rest all differs. two_ways (behind (texts line.words) (codes "end")) words (ap (λ (ws : List (List ℕ)). behind ws (codes "end")) all) is)
      (λ rest all has. not_both (has_line begun) (line_there b has) open_line))

  by_end_word : behind (texts line.words) (codes "session") ≡ None → (o : Option (List (List ℕ))) → behind (texts line.words) (codes "end") ≡ o → Step front (block_place ds xs b) line
  by_end_word none (Some words) is = by_line words none is (has_line begun) refl
  by_end_word none None is = inner_step law faults front ds xs sessions begun line a none is

  by_session_word : (o : Option (List (List ℕ))) → behind (texts line.words) (codes "session") ≡ o → Step front (block_place ds xs b) line
  by_session_word (Some words) is = by_bare words is (is_bare begun) refl
  by_session_word None is = by_end_word is (behind (texts line.words) (codes "end")) refl

-- ---- everywhere
pub step : StatementsAreRead → SessionLinesAreRead → StatementFaultsAreTold → SessionFaultsAreTold → (front : List Line) (p : Place) (line : Line) → Lead front p → Step front p line
step law inner faults inner_faults front first_place line lead = first_step front line lead
step law inner faults inner_faults front (described_place ds s) line lead = described_step front ds s line lead
step law inner faults inner_faults front (statement_place ds xs) line lead = statement_step law faults front ds xs line lead
step law inner faults inner_faults front (block_place ds xs b) line lead = block_step inner inner_faults front ds xs b.sessions b.begun line lead
