-- One statement: what it came to is its part.
use Rattle.std.proofs.Common.{◌≡◌, ◌≤◌, ◌<◌, ◌+◌, inl, inr, ℕ, suc, List, [], ◌∷◌, ◌++◌, length, length-append, map, refl, sym, ap, ◌∙◌, subst, append-nil, arith}
use Rattle.std.specs.Prelude.{Option, Result, Ok, Err, IsErrOf}
use Rattle.ak_describe.specs.Whole.{heads_of}
use Rattle.ak_describe.specs.declared.described.AppText.{AppText}
use Rattle.ak_diary.specs.Step.{Step}
use Rattle.ak_print.specs.declared.told.Told.{Told}
use Rattle.ak_print.specs.Told.{told_line}
use Rattle.ak_run.specs.declared.run.Run.{Run}
use Rattle.ak_run.specs.Sessions.{session_count, sessions_of}
use Rattle.ak_run.specs.Doing.{Does, DoesSo}
use Rattle.ak_script.specs.declared.statement.SessionLines.{SessionLines}
use Rattle.ak_script.specs.declared.statement.Statement.{Statement}
use Rattle.ak_script.specs.declared.statement.Statement.TheVariants as statement
use Rattle.ak_script.specs.declared.statement.Together.{Together}
use Rattle.ak_script.specs.Statement.{lines_of}
use Rattle.ak_script.specs.StatementSeen.{statement_seen}
use Rattle.ak_lines.specs.declared.came.Came.{Came}
use Rattle.ak_block.specs.declared.blocks.Cut.TheVariants as cut
use Rattle.ak_block.specs.declared.blocks.Heard.{Heard}
use Rattle.ak_block.specs.Carried.{AreCarried, HasSessionsMore, IsCarriedIn, SessionPart}
use Rattle.ak_block.specs.Together.{HasCarriedAll, HasRunBlock, part_of}
use Rattle.ak_play.specs.declared.run_end.Lines.{Lines}
use Rattle.ak_play.specs.declared.run_end.Lines.TheVariants as lines
use Rattle.ak_play.specs.declared.stop.Stop.{Stop}
use Rattle.ak_play.specs.declared.stop.Stop.TheVariants as stop
use Rattle.ak_play.specs.declared.stop.Untold.{Untold}
use Rattle.ak_play.specs.declared.stop.Untold.TheVariants as untold
use Rattle.ak_play.specs.Blocks.{IsAlone, IsBlock, LacksAt, RefusedAt}
use Rattle.ak_play.specs.Gathered.{GatheredData, gathered_and, of_came, of_sessions}
use Rattle.ak_play.specs.Parts.{IsMains, IsOfSessions, IsPart, Part, session_outcomes, session_tolds, short_in}
use Rattle.ak_play.specs.Play.{AreWritten}
use Rattle.ak_play.specs.Steps.{HasStepped, HasWritten, HasWrittenAll, StepsOn, StopsAt, StopsBeforeLines, StopsInside, StopsShort, lines_told, stop_untold}
use Rattle.ak_play.proofs.Doing.{nothing_so}
use Rattle.ak_play.proofs.Playing.{Appends-nothing, no_sessions_more}
use Rattle.ak_play.proofs.Texts.{one_written, written_as}

-- ---- a statement of main's
mains_part : (apps : List AppText) (C : ℕ → ℕ → SessionLines → SessionPart → Type 0) (time from : ℕ) (s : Statement) (part : Part) → IsAlone s → IsMains apps s part → IsPart C apps time from s part
mains_part apps C time from (statement.Launch l) part alone is = is
mains_part apps C time from (statement.Hey h) part alone is = is
mains_part apps C time from (statement.Post p) part alone is = is
mains_part apps C time from (statement.Lock l) part alone is = is
mains_part apps C time from (statement.Together t) part alone is = absurd alone

-- it has its part, and by what its lines were told that is how it ends
abbrev pub stopped_by : Result (Unit {0}) Untold → Result (Unit {0}) Stop
stopped_by (Ok x) = Ok x
stopped_by (Err why) = Err (stop_untold why)

on_by : (apps : List AppText) (s : Statement) (k k' : GatheredData) (r r' : Run) (old new : Option (List ℕ)) (Failed Kept : Type 0) (told : Result (Unit {0}) Untold) → StepsOn apps s k k' r r' (λ tolds. AreWritten (lines_told told) Failed Kept [] tolds old new)
    → HasStepped apps s k k' r r' old new Failed Kept (stopped_by told)
on_by apps s k k' r r' old new Failed Kept (Ok x) on = on
on_by apps s k k' r r' old new Failed Kept (Err untold.WriteFault) on = on
on_by apps s k k' r r' old new Failed Kept (Err untold.NoMemory) on = inr (inl (refl, on))

module _ (apps : List AppText) (s : Statement) (alone : IsAlone s) (k : GatheredData) (r r' : Run) (old new : Option (List ℕ)) (Failed Kept : Type 0) (same : sessions_of r' ≡ sessions_of r) where
  -- it came to something
  main_on : (came : Came) (steps : List Step) → IsBlock apps s came.outcome came.told steps → Does steps r r' → {W : List Told → Type 0} → W (came.told ∷ []) → StepsOn apps s k (gathered_and k (of_came came)) r r' W
  main_on came steps is does written = record {
    part = part;
    is = mains_part apps (IsCarriedIn (heads_of apps) r') r.hands.clock.time (session_count r + 1) s part alone (record { outcome = came.outcome; told = came.told; is = is; outcomes_are = refl; tolds_are = refl; no_session = refl; none_short = refl });
    does = does;
    sessions = no_sessions_more r r' same;
    gathered = refl;
    written = written;
  }
    where
      part : Part
      part = record { steps = steps; sessions = 0; outcomes = came.outcome ∷ []; tolds = came.told ∷ []; short = [] }

  pub main_stepped : (came : Came) (told : Result (Unit {0}) Untold) → DoesSo (IsBlock apps s came.outcome came.told) r r' → HasWritten told (told_line came.told) old new → (IsErrOf told untold.WriteFault → Failed) → (¬ (IsErrOf told untold.WriteFault) → Kept)
      → HasStepped apps s k (gathered_and k (of_came came)) r r' old new Failed Kept (stopped_by told)
  main_stepped came told does written failed kept =
      on_by apps s k (gathered_and k (of_came came)) r r' old new Failed Kept told (main_on came does.steps does.so does.does (written_as told Failed Kept (came.told ∷ []) old new failed kept (one_written told came.told old new written)))

-- it came to nothing
module _ (apps : List AppText) (s : Statement) (k k' : GatheredData) (r r' : Run) (given : Option (List ℕ)) (Failed Kept : Type 0) (same : sessions_of r' ≡ sessions_of r) (kept : k' ≡ k) (sink : Kept) where
  stops : (At : List Step → Type 0) (steps : List Step) → At steps → Does steps r r' → StopsShort At k k' r r' given given Kept
  stops At steps at does = record { steps = steps; at = at; does = does; sessions = same; same = kept; written = Appends-nothing given; sink = sink }

  pub stopped_short : (steps : List Step) → LacksAt apps s steps → Does steps r r' → HasStepped apps s k k' r r' given given Failed Kept {A = Unit {0}} (Err (stop.NoMemory lines.Whole))
  stopped_short steps at does = inl (refl, stops (LacksAt apps s) steps at does)

  pub main_stopped : (why : Stop) (steps : List Step) → StopsAt apps s why steps → Does steps r r' → StopsBeforeLines {A = Came} (Err why) → HasStepped apps s k k' r r' given given Failed Kept {A = Unit {0}} (Err why)
  main_stopped stop.WriteFault steps at does before = absurd at
  main_stopped (stop.ThreadFault told) steps at does before = inl (before, stops (RefusedAt apps s) steps at does)
  main_stopped (stop.NoMemory told) steps at does before = inl (before, stops (LacksAt apps s) steps at does)

-- ---- a block
pub as_many : (C : ℕ → SessionLines → SessionPart → Type 0) (from : ℕ) (all : List SessionLines) (parts : List SessionPart) → AreCarried C from all parts → length all ≡ length parts
as_many C from [] [] are = refl
as_many C from (x ∷ all) (p ∷ parts) are = ap suc (as_many C (from + 1) all parts are.1)
as_many C from [] (p ∷ parts) are = absurd are
as_many C from (x ∷ all) [] are = absurd are

abbrev pub part_so_far : ℕ → List Heard → Part
part_so_far from heard = record {
  steps = [];
  sessions = length (map part_of heard);
  outcomes = session_outcomes (map part_of heard);
  tolds = session_tolds (map part_of heard);
  short = short_in from (map part_of heard);
}

module _ (apps : List AppText) (t : Together) (k : GatheredData) (r r' : Run) (heard : List Heard) (old new : Option (List ℕ)) (Failed Kept : Type 0) where
  abbrev From : ℕ
  From = session_count r + 1

  are_sessions : (sessions : List SessionLines) → HasCarriedAll (heads_of apps) sessions r r' heard → IsOfSessions (IsCarriedIn (heads_of apps) r') r.hands.clock.time From sessions (part_so_far From heard)
  are_sessions sessions kept = record { parts = map part_of heard; carried = kept.carried; nothing = refl; count = refl; outcomes_are = refl; tolds_are = refl; short_are = refl }

  so_many : (sessions : List SessionLines) → HasCarriedAll (heads_of apps) sessions r r' heard → length sessions ≡ length (map part_of heard)
  so_many sessions kept = as_many (IsCarriedIn (heads_of apps) r' r.hands.clock.time) From sessions (map part_of heard) kept.carried

  more : (sessions : List SessionLines) → HasCarriedAll (heads_of apps) sessions r r' heard → HasSessionsMore (length (map part_of heard)) r r'
  more sessions kept = subst (λ (n : ℕ). HasSessionsMore n r r') (so_many sessions kept) kept.more

  abbrev K' : GatheredData
  K' = gathered_and k (of_sessions From (map part_of heard))

  block_on : {W : List Told → Type 0} → (rest : List SessionLines) → rest ≡ [] → (first : List SessionLines) → t.sessions.items ≡ first ++ rest → HasCarriedAll (heads_of apps) first r r' heard → W (session_tolds (map part_of heard)) → StepsOn apps (statement.Together t) k K' r r' W
  block_on rest none first all kept written =
      let whole : first ≡ t.sessions.items = sym (all ∙ ap (λ (l : List SessionLines). first ++ l) none ∙ append-nil first) in
      record {
        part = part_so_far From heard;
        is = subst (λ (l : List SessionLines). IsOfSessions (IsCarriedIn (heads_of apps) r') r.hands.clock.time From l (part_so_far From heard)) whole (are_sessions first kept);
        does = kept.does;
        sessions = more first kept;
        gathered = refl;
        written = written;
      }

  block_inside : {Far : Part → Type 0} {W : List Told → Type 0} → (first rest : List SessionLines) → t.sessions.items ≡ first ++ rest → HasCarriedAll (heads_of apps) first r r' heard → Far (part_so_far From heard) → W (session_tolds (map part_of heard)) → StopsInside apps (statement.Together t) k K' r r' Far W
  block_inside first rest all kept far written = record {
    part = part_so_far From heard;
    is = record { first = first; rest = rest; all = all; are = are_sessions first kept };
    far = far;
    does = kept.does;
    sessions = more first kept;
    gathered = refl;
    written = written;
  }

  module _ (told : Result (Unit {0}) Untold) (written : HasWrittenAll told (session_tolds (map part_of heard)) old new) (failed : IsErrOf told untold.WriteFault → Failed) (kept : ¬ (IsErrOf told untold.WriteFault) → Kept) where
    so_written : AreWritten (lines_told told) Failed Kept [] (session_tolds (map part_of heard)) old new
    so_written = written_as told Failed Kept (session_tolds (map part_of heard)) old new failed kept written

    written_so : (became : Lines) → became ≡ lines_told told → AreWritten became Failed Kept [] (session_tolds (map part_of heard)) old new
    written_so became so = subst (λ (l : Lines). AreWritten l Failed Kept [] (session_tolds (map part_of heard)) old new) (sym so) so_written

    -- it was carried out whole
    pub block_stepped : HasRunBlock (heads_of apps) t.sessions.items (Ok tt) r r' heard → HasStepped apps (statement.Together t) k K' r r' old new Failed Kept (stopped_by told)
    block_stepped ran = on_by apps (statement.Together t) k K' r r' old new Failed Kept told (block_on ran.rest ran.ends_with ran.first ran.all ran.kept so_written)

    -- it was cut, for want of memory
    pub block_lacked : (became : Lines) → became ≡ lines_told told → HasRunBlock (heads_of apps) t.sessions.items (Err cut.NoMemory) r r' heard → HasStepped apps (statement.Together t) k K' r r' old new Failed Kept {A = Unit {0}} (Err (stop.NoMemory became))
    block_lacked became so ran =
        let not_all : length (map part_of heard) < length t.sessions.items = omega (arith, so_many ran.first ran.kept, ran.ends_with, ap length ran.all, length-append ran.first ran.rest) in
        inr (inr (block_inside ran.first ran.rest ran.all ran.kept not_all (written_so became so)))

    -- it was cut, as a thread could not be started
    pub block_refused : (became : Lines) → became ≡ lines_told told → HasRunBlock (heads_of apps) t.sessions.items (Err cut.ThreadFault) r r' heard → HasStepped apps (statement.Together t) k K' r r' old new Failed Kept {A = Unit {0}} (Err (stop.ThreadFault became))
    block_refused became so ran =
        let some : 1 ≤ length (map part_of heard) = omega (arith, so_many ran.first ran.kept, ran.ends_with) in
        inr (block_inside ran.first ran.rest ran.all ran.kept some (written_so became so))

-- nothing was done
pub nothing_done : (r r' : Run) → r' ≡ r → Does [] r r'
nothing_done r r' same =
    let none = nothing_so (λ (steps : List Step). steps ≡ []) r refl in
    subst (λ (x : Run). Does [] r x) (sym same) (subst (λ (steps : List Step). Does steps r r) none.so none.does)

-- ---- a block, as the calls tell it
pub block_kept : (apps : List AppText) (t : Together) (k k1 k' : GatheredData) (r r' : Run) (heard : List Heard) (sessions : ℕ) (old new : Option (List ℕ)) (Failed Kept : Type 0) (result : Result (Unit {0}) Stop)
    → sessions ≡ session_count r → k1 ≡ k → k' ≡ gathered_and k1 (of_sessions (sessions + 1) (map part_of heard))
    → HasStepped apps (statement.Together t) k (gathered_and k (of_sessions (session_count r + 1) (map part_of heard))) r r' old new Failed Kept result
    → HasStepped apps (statement.Together t) k k' r r' old new Failed Kept result
block_kept apps t k k1 k' r r' heard sessions old new Failed Kept result count first gathered stepped =
    let same : k' ≡ gathered_and k (of_sessions (session_count r + 1) (map part_of heard)) =
    gathered ∙ ap (λ (x : GatheredData). gathered_and x (of_sessions (sessions + 1) (map part_of heard))) first ∙ ap (λ (n : ℕ). gathered_and k (of_sessions (n + 1) (map part_of heard))) count in
    subst (λ (x : GatheredData). HasStepped apps (statement.Together t) k x r r' old new Failed Kept result) (sym same) stepped

-- a statement that is no block has one line
pub one_line : (s : Statement) → IsAlone s → lines_of (statement_seen s) ≡ 1
one_line (statement.Launch l) alone = refl
one_line (statement.Hey h) alone = refl
one_line (statement.Post p) alone = refl
one_line (statement.Lock l) alone = refl
one_line (statement.Together t) alone = absurd alone

-- a statement that is no block is main's
pub still_alone : (s : Statement) → ((t : Together) → s ≡ statement.Together t → ⊥) → IsAlone s
still_alone (statement.Launch l) none = tt
still_alone (statement.Hey h) none = tt
still_alone (statement.Post p) none = tt
still_alone (statement.Lock l) none = tt
still_alone (statement.Together t) none = absurd (none t refl)
