-- Parts of statements: what they tell of sessions stays so, and one more stands behind the others.
use Rattle.std.proofs.Common.{◌≡◌, ℕ, ◌+◌, List, [], ◌∷◌, ◌++◌, length, Option, None, Some, slice_get, refl, sym, ap, ◌∙◌, subst, append_assoc, append-nil, arith}
use Rattle.std.specs.Prelude.{IsSomeAnd}
use Rattle.std.proofs.lemmas.List.Concat.{flat_map-append}
use Rattle.ak_describe.specs.declared.described.AppText.{AppText}
use Rattle.ak_diary.specs.Step.{Step, time_after, time_of}
use Rattle.ak_print.specs.declared.told.Told.{Told}
use Rattle.ak_print.specs.Told.{told_line}
use Rattle.ak_script.specs.declared.statement.SessionLines.{SessionLines}
use Rattle.ak_script.specs.declared.statement.Statement.{Statement}
use Rattle.ak_script.specs.declared.statement.Statement.TheVariants as statement
use Rattle.ak_block.specs.Carried.{AreCarried, SessionPart}
use Rattle.ak_play.specs.Parts.{AreParts, IsCut, IsOfSessions, IsPart, Part, all_sessions, all_steps, all_tolds}
use Rattle.ak_play.specs.Play.{first_tolds, last_tolds, text_of}
use Rattle.ak_play.proofs.Lists.{gathered_push}

-- ---- what is told of sessions is turned into something else
module _ (C D : ℕ → ℕ → SessionLines → SessionPart → Type 0) (turned : (time n : ℕ) (lines : SessionLines) (part : SessionPart) → C time n lines part → D time n lines part) where
  carried_so : (time from : ℕ) (all : List SessionLines) (parts : List SessionPart) → AreCarried (C time) from all parts → AreCarried (D time) from all parts
  carried_so time from [] [] are = tt
  carried_so time from (lines ∷ all) (part ∷ parts) are = (turned time from lines part are.0, carried_so time (from + 1) all parts are.1)
  carried_so time from [] (part ∷ parts) are = absurd are
  carried_so time from (lines ∷ all) [] are = absurd are

  of_sessions_so : (time from : ℕ) (all : List SessionLines) (part : Part) → IsOfSessions C time from all part → IsOfSessions D time from all part
  of_sessions_so time from all part is = record {
    parts = is.parts;
    carried = carried_so time from all is.parts is.carried;
    nothing = is.nothing;
    count = is.count;
    outcomes_are = is.outcomes_are;
    tolds_are = is.tolds_are;
    short_are = is.short_are;
  }

  pub part_so : (apps : List AppText) (time from : ℕ) (s : Statement) (part : Part) → IsPart C apps time from s part → IsPart D apps time from s part
  part_so apps time from (statement.Launch l) part is = is
  part_so apps time from (statement.Hey h) part is = is
  part_so apps time from (statement.Post p) part is = is
  part_so apps time from (statement.Lock l) part is = is
  part_so apps time from (statement.Together t) part is = of_sessions_so time from t.sessions.items part is

  pub parts_so : (apps : List AppText) (time from : ℕ) (ss : List Statement) (ps : List Part) → AreParts C apps time from ss ps → AreParts D apps time from ss ps
  parts_so apps time from ss [] are = tt
  parts_so apps time from (s ∷ ss) (p ∷ ps) are = (part_so apps time from s p are.0, parts_so apps (time_of time p.steps) (from + p.sessions) ss ps are.1)
  parts_so apps time from [] (p ∷ ps) are = absurd are

  pub cut_so : (time from : ℕ) (s : Statement) (part : Part) → IsCut C time from s part → IsCut D time from s part
  cut_so time from (statement.Launch l) part is = absurd is
  cut_so time from (statement.Hey h) part is = absurd is
  cut_so time from (statement.Post p) part is = absurd is
  cut_so time from (statement.Lock l) part is = absurd is
  cut_so time from (statement.Together t) part is = record { first = is.first; rest = is.rest; all = is.all; are = of_sessions_so time from is.first part is.are }

  pub some_cut_so : (time from : ℕ) (o : Option Statement) (part : Part) → IsSomeAnd o (λ (s : Statement). IsCut C time from s part) → IsSomeAnd o (λ (s : Statement). IsCut D time from s part)
  some_cut_so time from None part is = absurd is
  some_cut_so time from (Some s) part is = cut_so time from s part is

-- ---- one part more
-- the time goes on by some steps and then by others
time_then : (time : ℕ) (xs ys : List Step) → time_of time (xs ++ ys) ≡ time_of (time_of time xs) ys
time_then time [] ys = refl
time_then time (x ∷ xs) ys = time_then (time_after time x) xs ys

pub parts_push : (C : ℕ → ℕ → SessionLines → SessionPart → Type 0) (apps : List AppText) (time from : ℕ) (ss : List Statement) (ps : List Part) (s : Statement) (p : Part) → AreParts C apps time from ss ps → slice_get ss (length ps) ≡ Some s
    → IsPart C apps (time_of time (all_steps ps)) (from + all_sessions ps) s p → AreParts C apps time from ss (ps ++ p ∷ [])
parts_push C apps time from [] [] s p are at is = absurd (cc at)
parts_push C apps time from (x ∷ ss) [] s p are at is =
    let same : x ≡ s = cc at in
    let none : from + 0 ≡ from = omega arith in
    (subst (λ (y : Statement). IsPart C apps time from y p) (sym same) (subst (λ (n : ℕ). IsPart C apps time n s p) none is), tt)
parts_push C apps time from (x ∷ ss) (q ∷ ps) s p are at is =
    let same : from + (q.sessions + all_sessions ps) ≡ (from + q.sessions) + all_sessions ps = omega arith in
    let later : IsPart C apps (time_of (time_of time q.steps) (all_steps ps)) (from + (q.sessions + all_sessions ps)) s p =
    subst (λ (n : ℕ). IsPart C apps n (from + (q.sessions + all_sessions ps)) s p) (time_then time q.steps (all_steps ps)) is in
    (are.0, parts_push C apps (time_of time q.steps) (from + q.sessions) ss ps s p are.1 at (subst (λ (n : ℕ). IsPart C apps (time_of (time_of time q.steps) (all_steps ps)) n s p) same later))
parts_push C apps time from [] (q ∷ ps) s p are at is = absurd are

pub sessions_push : (ps : List Part) (p : Part) → all_sessions (ps ++ p ∷ []) ≡ all_sessions ps + p.sessions
sessions_push [] p = omega arith
sessions_push (q ∷ ps) p = omega (arith, sessions_push ps p)

-- ---- lines
pub text-append : (xs ys : List Told) → text_of (xs ++ ys) ≡ text_of xs ++ text_of ys
text-append xs ys = flat_map-append told_line xs ys

pub text_push : (ps : List Part) (p : Part) → text_of (all_tolds (ps ++ p ∷ [])) ≡ text_of (all_tolds ps) ++ text_of p.tolds
text_push ps p = ap text_of (gathered_push (λ (part : Part). part.tolds) ps p) ∙ text-append (all_tolds ps) p.tolds

-- the last ones, and those before them
pub last_push : (ps : List Part) (p : Part) → last_tolds (ps ++ p ∷ []) None ≡ p.tolds
last_push [] p = refl
last_push (q ∷ []) p = refl
last_push (q ∷ x ∷ ps) p = last_push (x ∷ ps) p

pub first_push : (ps : List Part) (p : Part) → first_tolds (ps ++ p ∷ []) None ≡ all_tolds ps
first_push [] p = refl
first_push (q ∷ []) p = refl
first_push (q ∷ x ∷ ps) p = ap (λ (l : List Told). q.tolds ++ l) (first_push (x ∷ ps) p)

pub all_told : (ps : List Part) → first_tolds ps None ++ last_tolds ps None ≡ all_tolds ps
all_told [] = refl
all_told (q ∷ []) = sym (append-nil q.tolds)
all_told (q ∷ x ∷ ps) = append_assoc q.tolds (first_tolds (x ∷ ps) None) (last_tolds (x ∷ ps) None) ∙ ap (λ (l : List Told). q.tolds ++ l) (all_told (x ∷ ps))
