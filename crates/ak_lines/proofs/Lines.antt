-- Line after line.
use Rattle.std.proofs.Common.{◌≡◌, ℕ, zero, suc, ◌<◌, List, [], ◌∷◌, ◌++◌, length, get_or, Some, Ok, Err, slice_get, refl, sym, ap, ◌∙◌, subst, append_assoc, append-nil, arith}
use Rattle.std.specs.Prelude.{Bool, Result, false, true, is_err}
use Rattle.std.proofs.lemmas.List.Concat.{flat_map-append}
use Rattle.ak_base.specs.declared.no_memory.NoMemory.{NoMemory}
use Rattle.ak_turn.proofs.Surface.{keeps_itself, keeps_then_keeps}
use Rattle.ak_roster.specs.declared.head.AppHead.{AppHead}
use Rattle.ak_diary.specs.Step.{Step}
use Rattle.ak_headline.specs.Main.{IsSessionDiary, begun}
use Rattle.ak_script.specs.declared.statement.SessionLine.{SessionLine}
use Rattle.ak_print.specs.declared.told.Told.{Told}
use Rattle.ak_session.specs.declared.session.Session.{Session}
use Rattle.ak_session.specs.Ready.{IsReady}
use Rattle.ak_session.specs.Stands.{GoesOn, KeepsSession, Stands}
use Rattle.ak_lines.specs.declared.outcome.Outcome.{Outcome}
use Rattle.ak_lines.specs.Blocks.{AreLines, IsCutLine, IsLine}
use Rattle.ak_lines.specs.declared.job.SessionEnd.{SessionEnd}
use Rattle.ak_lines.specs.declared.job.SessionJob.{SessionJob}
use Rattle.ak_lines.specs.Carried.{EndsAt, HasCarriedFirst, HasCarriedOut, HasCarriedTo, IsCutAt, all_steps}
use Rattle.ak_lines.proofs.Acts.{cut_acts, line_acts}

-- ---- what no call changes
pub keeps_self : (s : Session) → KeepsSession s s
keeps_self s = record { book = refl; roster = refl; thread = refl; book_seat = keeps_itself s.hands.book_seat; roster_seat = keeps_itself s.roster_seat }

pub keeps_both : (a b c : Session) → KeepsSession a b → KeepsSession b c → KeepsSession a c
keeps_both a b c one two = record {
  book = two.book ∙ one.book;
  roster = two.roster ∙ one.roster;
  thread = two.thread ∙ one.thread;
  book_seat = keeps_then_keeps a.hands.book_seat b.hands.book_seat c.hands.book_seat one.book_seat two.book_seat;
  roster_seat = keeps_then_keeps a.roster_seat b.roster_seat c.roster_seat one.roster_seat two.roster_seat;
}

-- ---- lines
-- what stands at a place
pub at_index : {X : Type 0} (xs : List X) (i : ℕ) (x : X) → i < length xs → x ≡ get_or xs i x → slice_get xs i ≡ Some x
at_index [] i x lt is = absurd (omega (arith, lt))
at_index (y ∷ xs) zero x lt is = ap (λ z. Some z) (sym is)
at_index (y ∷ xs) (suc i) x lt is = at_index xs i x (omega (arith, lt)) is

-- the steps of one block more
steps_push : (blocks : List (List Step)) (block : List Step) → all_steps (blocks ++ block ∷ []) ≡ all_steps blocks ++ block
steps_push blocks block = flat_map-append (λ (b : List Step). b) blocks (block ∷ []) ∙ ap (λ (l : List Step). all_steps blocks ++ l) (append-nil block)

-- one line more
lines_push : (heads : List AppHead) (so_far : List Step) (ls : List SessionLine) (os : List Outcome) (ts : List Told) (bs : List (List Step)) (l : SessionLine) (o : Outcome) (t : Told) (b : List Step) → AreLines heads so_far ls os ts bs → slice_get ls (length os) ≡ Some l
    → IsLine heads (so_far ++ all_steps bs) l o t b → AreLines heads so_far ls (os ++ o ∷ []) (ts ++ t ∷ []) (bs ++ b ∷ [])
lines_push heads so_far [] [] [] [] l o t b are at is = absurd (cc at)
lines_push heads so_far (x ∷ ls) [] [] [] l o t b are at is =
    let same : x ≡ l = cc at in
    (subst (λ (y : SessionLine). IsLine heads so_far y o t b) (sym same) (subst (λ (s : List Step). IsLine heads s l o t b) (append-nil so_far) is), tt)
lines_push heads so_far (x ∷ ls) (p ∷ os) (q ∷ ts) (c ∷ bs) l o t b are at is =
    (are.0, lines_push heads (so_far ++ c) ls os ts bs l o t b are.1 at (subst (λ (s : List Step). IsLine heads s l o t b) (sym (append_assoc so_far c (all_steps bs))) is))
lines_push heads so_far _ _ _ _ l o t b are at is = absurd are

module _ (heads : List AppHead) (start : ℕ) (lines : List SessionLine) where
  pub first_none : (s : Session) → Stands heads start [] s → HasCarriedFirst heads start lines [] [] s
  first_none s stands = record { blocks = []; are = tt; stands = stands; diary = begun }

  -- behind the last one
  pub first_all : (os : List Outcome) (ts : List Told) (s : Session) → HasCarriedFirst heads start lines os ts s → length os ≡ length lines → HasCarriedTo heads start lines (Ok tt) os ts s
  first_all os ts s first all = record {
    blocks = first.blocks;
    are = first.are;
    stopped = [];
    stands = subst (λ (steps : List Step). Stands heads start steps s) (sym (append-nil (all_steps first.blocks))) first.stands;
    diary = subst IsSessionDiary (sym (append-nil (all_steps first.blocks))) first.diary;
    ends = (all, refl);
  }

  -- one line more
  pub first_on : (os : List Outcome) (ts : List Told) (s s' : Session) (l : SessionLine) (o : Outcome) (t : Told) → HasCarriedFirst heads start lines os ts s → slice_get lines (length os) ≡ Some l
      → ((so_far : List Step) → Stands heads start so_far s → GoesOn heads start so_far (IsLine heads so_far l o t) s') → HasCarriedFirst heads start lines (os ++ o ∷ []) (ts ++ t ∷ []) s'
  first_on os ts s s' l o t first at goes =
      let steps = all_steps first.blocks in
      let on = goes steps first.stands in
      record {
        blocks = first.blocks ++ on.steps ∷ [];
        are = lines_push heads [] lines os ts first.blocks l o t on.steps first.are at on.does;
        stands = subst (λ (all : List Step). Stands heads start all s') (sym (steps_push first.blocks on.steps)) on.stands;
        diary = subst IsSessionDiary (sym (steps_push first.blocks on.steps)) (line_acts heads steps on.steps first.diary l o t on.does);
      }

  -- a line that found no memory
  pub first_cut : (os : List Outcome) (ts : List Told) (s s' : Session) (l : SessionLine) (e : NoMemory) → HasCarriedFirst heads start lines os ts s → slice_get lines (length os) ≡ Some l
      → ((so_far : List Step) → Stands heads start so_far s → GoesOn heads start so_far (IsCutLine heads so_far l) s') → HasCarriedTo heads start lines (Err e) os ts s'
  first_cut os ts s s' l e first at goes =
      let steps = all_steps first.blocks in
      let on = goes steps first.stands in
      record {
        blocks = first.blocks;
        are = first.are;
        stopped = on.steps;
        stands = on.stands;
        diary = cut_acts heads steps on.steps first.diary l on.does;
        ends = record { line = l; at = at; cut = on.does };
      }

-- whether it ended short
module _ (heads : List AppHead) (lines : List SessionLine) (carried : ℕ) (so_far stopped : List Step) where
  ends_whole : (result : Result (Unit {0}) NoMemory) (short : Bool) → short ≡ is_err result → EndsAt heads lines result carried so_far stopped → short ≡ false → (carried ≡ length lines) × (stopped ≡ [])
  ends_whole (Ok x) short is ends not_short = ends
  ends_whole (Err e) short is ends not_short = absurd (cc (sym is ∙ not_short))

  ends_cut : (result : Result (Unit {0}) NoMemory) (short : Bool) → short ≡ is_err result → EndsAt heads lines result carried so_far stopped → short ≡ true → IsCutAt heads lines carried so_far stopped
  ends_cut (Ok x) short is ends is_short = absurd (cc (sym is ∙ is_short))
  ends_cut (Err e) short is ends is_short = ends

pub carried_out : (job : SessionJob) (end : SessionEnd) (result : Result (Unit {0}) NoMemory) (ready : IsReady job.session) → KeepsSession job.session end.session → end.short ≡ is_err result
    → HasCarriedTo ready.heads job.session.hands.clock.time job.lines.lines.items result end.outcomes.items end.tolds.items end.session → HasCarriedOut job end
carried_out job end result ready keeps short to =
    let lines = job.lines.lines.items in
    let carried = length end.outcomes.items in
    let so_far = all_steps to.blocks in
    record {
      heads = ready.heads;
      heads_are = ready.heads_are;
      keeps = keeps;
      blocks = to.blocks;
      are = to.are;
      stopped = to.stopped;
      stands = to.stands;
      diary = to.diary;
      whole = ends_whole ready.heads lines carried so_far to.stopped result end.short short to.ends;
      cut = ends_cut ready.heads lines carried so_far to.stopped result end.short short to.ends;
    }
