-- There is room for what statements may come to.
use Rattle.std.proofs.Common.{◌≡◌, ◌≤◌, ◌+◌, ℕ, zero, suc, List, [], ◌∷◌, ◌++◌, length, length-append, drop, map, Some, slice_get, refl, sym, ap, ◌∙◌, arith}
use Rattle.std.specs.Prelude.{Result}
use Rattle.ak_print.specs.declared.told.Told.{Told}
use Rattle.ak_lines.specs.declared.outcome.Outcome.{Outcome}
use Rattle.ak_lines.specs.Blocks.{AreLines}
use Rattle.ak_diary.specs.Step.{Step}
use Rattle.ak_roster.specs.declared.head.AppHead.{AppHead}
use Rattle.ak_run.specs.declared.run.Run.{Run}
use Rattle.ak_script.specs.declared.statement.SessionLine.{SessionLine}
use Rattle.ak_script.specs.declared.statement.SessionLines.{SessionLines}
use Rattle.ak_script.specs.declared.statement.Statement.{Statement}
use Rattle.ak_script.specs.declared.statement.Statement.TheVariants as statement
use Rattle.ak_script.specs.Statement.{lines_in, lines_of, lines_of_sessions}
use Rattle.ak_script.specs.StatementSeen.{line_seen, sessions_seen, statement_seen, statements_seen}
use Rattle.ak_script.specs.declared.statement.Together.{Together}
use Rattle.ak_block.specs.declared.blocks.Cut.{Cut}
use Rattle.ak_block.specs.declared.blocks.Heard.{Heard}
use Rattle.ak_block.specs.Carried.{AreCarried, IsCarriedIn, SessionPart}
use Rattle.ak_block.specs.Together.{HasRunBlock, part_of}
use Rattle.ak_run.specs.Sessions.{session_count}
use Rattle.ak_describe.specs.Whole.{heads_of}
use Rattle.ak_describe.specs.declared.described.AppText.{AppText}
use Rattle.ak_play.specs.Gathered.{GatheredData}
use Rattle.ak_play.specs.Parts.{IsPart, all_sessions_in, session_outcomes, session_tolds, sessions_in}
use Rattle.ak_play.specs.Steps.{StepsOn}
use Rattle.ak_play.proofs.Blocks.{as_many}
use Rattle.std.proofs.lemmas.List.{length-map}

-- the next statement, and those behind it
pub next_of : {X : Type 0} (xs : List X) (i : ℕ) (x : X) → slice_get xs i ≡ Some x → drop i xs ≡ x ∷ drop (i + 1) xs
next_of [] zero x at = absurd (cc at)
next_of [] (suc i) x at = absurd (cc at)
next_of (y ∷ xs) zero x at = let same : y ≡ x = cc at in ap (λ z. z ∷ xs) same
next_of (y ∷ xs) (suc i) x at =
    let next : suc i + 1 ≡ suc (i + 1) = omega arith in
    next_of xs i x at ∙ ap (λ n. x ∷ drop n (y ∷ xs)) (sym next)

-- no more outcomes than lines
as_many_at_most : (heads : List AppHead) (so_far : List Step) (lines : List SessionLine) (os : List Outcome) (ts : List Told) (bs : List (List Step)) → AreLines heads so_far lines os ts bs → length os ≤ length lines
as_many_at_most heads so_far lines [] [] [] are = omega arith
as_many_at_most heads so_far (l ∷ lines) (o ∷ os) (t ∷ ts) (b ∷ bs) are = omega (arith, as_many_at_most heads (so_far ++ b) lines os ts bs are.1)
as_many_at_most heads so_far _ _ _ _ are = absurd are

pub few_outcomes : (heads : List AppHead) (r : Run) (time from : ℕ) (all : List SessionLines) (parts : List SessionPart) → AreCarried (IsCarriedIn heads r time) from all parts → length (session_outcomes parts) ≤ lines_of_sessions (sessions_seen all)
few_outcomes heads r time from [] [] are = omega arith
few_outcomes heads r time from (ls ∷ all) (part ∷ parts) are =
    omega (arith, length-append part.outcomes (session_outcomes parts), few_outcomes heads r time (from + 1) all parts are.1, as_many_at_most heads [] ls.lines.items part.outcomes part.tolds are.0.did.blocks are.0.did.are, length-map ls.lines.items line_seen)
few_outcomes heads r time from [] (part ∷ parts) are = absurd are
few_outcomes heads r time from (ls ∷ all) [] are = absurd are

-- as many are told
as_many_told : (heads : List AppHead) (so_far : List Step) (lines : List SessionLine) (os : List Outcome) (ts : List Told) (bs : List (List Step)) → AreLines heads so_far lines os ts bs → length ts ≡ length os
as_many_told heads so_far lines [] [] [] are = refl
as_many_told heads so_far (l ∷ lines) (o ∷ os) (t ∷ ts) (b ∷ bs) are = ap suc (as_many_told heads (so_far ++ b) lines os ts bs are.1)
as_many_told heads so_far _ _ _ _ are = absurd are

pub tolds_as_outcomes : (heads : List AppHead) (r : Run) (time from : ℕ) (all : List SessionLines) (parts : List SessionPart) → AreCarried (IsCarriedIn heads r time) from all parts → length (session_tolds parts) ≡ length (session_outcomes parts)
tolds_as_outcomes heads r time from [] [] are = refl
tolds_as_outcomes heads r time from (ls ∷ all) (part ∷ parts) are =
    omega (arith, length-append part.outcomes (session_outcomes parts), length-append part.tolds (session_tolds parts), tolds_as_outcomes heads r time (from + 1) all parts are.1, as_many_told heads [] ls.lines.items part.outcomes part.tolds are.0.did.blocks are.0.did.are)
tolds_as_outcomes heads r time from [] (part ∷ parts) are = absurd are
tolds_as_outcomes heads r time from (ls ∷ all) [] are = absurd are

pub lines_before : (first rest : List SessionLines) → lines_of_sessions (sessions_seen first) ≤ lines_of_sessions (sessions_seen (first ++ rest))
lines_before [] rest = omega arith
lines_before (ls ∷ first) rest = omega (arith, lines_before first rest)

-- no more sessions than lines
sessions_of_lines : (all : List SessionLines) → length all ≤ lines_of_sessions (sessions_seen all)
sessions_of_lines [] = omega arith
sessions_of_lines (ls ∷ all) = omega (arith, sessions_of_lines all, ls.some, length-map ls.lines.items line_seen)

few_in_one : (s : Statement) → sessions_in s ≤ lines_of (statement_seen s)
few_in_one (statement.Launch l) = omega arith
few_in_one (statement.Hey h) = omega arith
few_in_one (statement.Post p) = omega arith
few_in_one (statement.Lock l) = omega arith
few_in_one (statement.Together t) = sessions_of_lines t.sessions.items

pub few_sessions : (ss : List Statement) → all_sessions_in ss ≤ lines_in (statements_seen ss)
few_sessions [] = omega arith
few_sessions (s ∷ ss) = omega (arith, few_sessions ss, few_in_one s)

-- ---- a statement that has its part
module _ {apps : List AppText} (s : Statement) {k k' : GatheredData} {r r' : Run} {W : List Told → Type 0} where
  -- no more outcomes than it has lines
  pub pushed_at_most : (on : StepsOn apps s k k' r r' W) → length on.part.outcomes ≤ lines_of (statement_seen s)
  pushed_at_most on = by_kind s on.is where
    by_kind : (x : Statement) → IsPart (IsCarriedIn (heads_of apps) r') apps r.hands.clock.time (session_count r + 1) x on.part → length on.part.outcomes ≤ lines_of (statement_seen x)
    by_kind (statement.Launch l) is = omega (arith, ap length is.outcomes_are)
    by_kind (statement.Hey h) is = omega (arith, ap length is.outcomes_are)
    by_kind (statement.Post p) is = omega (arith, ap length is.outcomes_are)
    by_kind (statement.Lock l) is = omega (arith, ap length is.outcomes_are)
    by_kind (statement.Together t) is = omega (arith, ap length is.outcomes_are, few_outcomes (heads_of apps) r' r.hands.clock.time (session_count r + 1) t.sessions.items is.parts is.carried)

  pub told_at_most : (on : StepsOn apps s k k' r r' W) → length on.part.tolds ≤ lines_of (statement_seen s)
  told_at_most on = by_kind s on.is where
    by_kind : (x : Statement) → IsPart (IsCarriedIn (heads_of apps) r') apps r.hands.clock.time (session_count r + 1) x on.part → length on.part.tolds ≤ lines_of (statement_seen x)
    by_kind (statement.Launch l) is = omega (arith, ap length is.tolds_are)
    by_kind (statement.Hey h) is = omega (arith, ap length is.tolds_are)
    by_kind (statement.Post p) is = omega (arith, ap length is.tolds_are)
    by_kind (statement.Lock l) is = omega (arith, ap length is.tolds_are)
    by_kind (statement.Together t) is =
        omega (arith, ap length is.tolds_are, tolds_as_outcomes (heads_of apps) r' r.hands.clock.time (session_count r + 1) t.sessions.items is.parts is.carried, few_outcomes (heads_of apps) r' r.hands.clock.time (session_count r + 1) t.sessions.items is.parts is.carried)

  -- as many sessions as it has
  pub as_many_sessions : (on : StepsOn apps s k k' r r' W) → on.part.sessions ≡ sessions_in s
  as_many_sessions on = by_kind s on.is where
    by_kind : (x : Statement) → IsPart (IsCarriedIn (heads_of apps) r') apps r.hands.clock.time (session_count r + 1) x on.part → on.part.sessions ≡ sessions_in x
    by_kind (statement.Launch l) is = is.no_session
    by_kind (statement.Hey h) is = is.no_session
    by_kind (statement.Post p) is = is.no_session
    by_kind (statement.Lock l) is = is.no_session
    by_kind (statement.Together t) is = is.count ∙ sym (as_many (IsCarriedIn (heads_of apps) r' r.hands.clock.time) (session_count r + 1) t.sessions.items is.parts is.carried)

-- ---- a block, so far as it was carried out
module _ (heads : List AppHead) (t : Together) {came : Result (Unit {0}) Cut} {r r' : Run} {heard : List Heard} (ran : HasRunBlock heads t.sessions.items came r r' heard) where
  pub few_heard : length heard ≤ length t.sessions.items
  few_heard =
      omega (arith, as_many (IsCarriedIn heads r' r.hands.clock.time) (session_count r + 1) ran.first (map part_of heard) ran.kept.carried, length-map heard part_of, ap length ran.all, length-append ran.first ran.rest)

  pub few_outcomes_heard : length (session_outcomes (map part_of heard)) ≤ lines_of (statement_seen (statement.Together t))
  few_outcomes_heard =
      omega (arith, few_outcomes heads r' r.hands.clock.time (session_count r + 1) ran.first (map part_of heard) ran.kept.carried, lines_before ran.first ran.rest, ap (λ (all : List SessionLines). lines_of_sessions (sessions_seen all)) ran.all)

  pub few_tolds_heard : length (session_tolds (map part_of heard)) ≤ lines_of (statement_seen (statement.Together t))
  few_tolds_heard = omega (arith, few_outcomes_heard, tolds_as_outcomes heads r' r.hands.clock.time (session_count r + 1) ran.first (map part_of heard) ran.kept.carried)
