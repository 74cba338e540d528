-- Session after session is closed.
use Rattle.std.proofs.Common.{◌≡◌, ◌+◌, ℕ, Bool, true, List, [], ◌∷◌, ◌++◌, length, map, refl, sym, ap, ◌∙◌, subst, append_assoc, append-nil, arith, Some}
use Rattle.std.specs.Prelude.{◌&&◌, Option, is_some, set, slice_get}
use Rattle.std.specs.List.{list_all}
use Rattle.std.proofs.lemmas.List.{length-append, map-append}
use Rattle.std.proofs.lemmas.List.Folds.{list_all-append}
use Rattle.std.proofs.Math.Seq.{set-append_seam}
use Rattle.ak_base.specs.declared.thread.ThreadId.{ThreadId}
use Rattle.ak_turn.specs.Entries.{StartsWith}
use Rattle.ak_roster.specs.declared.head.AppHead.{AppHead}
use Rattle.ak_script.specs.declared.statement.SessionLines.{SessionLines}
use Rattle.ak_script.specs.declared.statement.SessionLine.{SessionLine}
use Rattle.ak_lines.specs.Blocks.{AreLines}
use Rattle.ak_lines.specs.Carried.{HasCarriedOut, IsCutAt, all_steps}
use Rattle.ak_lines.specs.declared.job.SessionEnd.{SessionEnd}
use Rattle.ak_lines.specs.declared.job.SessionJob.{SessionJob}
use Rattle.ak_session.specs.Stands.{Stands}
use Rattle.ak_run.specs.declared.run.Run.{Run}
use Rattle.ak_run.specs.Doing.{Does}
use Rattle.ak_run.specs.Seen.{HasSeen}
use Rattle.ak_run.specs.Sessions.{MayClose, Told, sessions_of}
use Rattle.ak_block.specs.declared.blocks.Heard.{Heard}
use Rattle.ak_block.specs.Carried.{AreCarried, IsCarriedIn, SessionPart}
use Rattle.ak_block.specs.Threads.{CameOfAll}
use Rattle.ak_block.specs.Together.{AreJobsFor, AreOpen, HasClosedAll, IsJobFor, opened_for, part_of}
use Rattle.ak_run.proofs.Surface.{knows_by, seen_further}
use Rattle.ak_block.proofs.Started.{nothing_done, nothing_then, same_time}

-- what stands at the seam
at_seam : {X : Type 0} (xs : List X) (y : X) (ys : List X) → slice_get (xs ++ y ∷ ys) (length xs) ≡ Some y
at_seam [] y ys = refl
at_seam (x ∷ xs) y ys = at_seam xs y ys

-- ---- one session
-- what it came to
abbrev pub part_in : SessionEnd → SessionPart
part_in end = record { outcomes = end.outcomes.items; tolds = end.tolds.items; short = end.short }

-- so it is carried, where the run has it closed with that
carried_with : (lines : SessionLines) (job : SessionJob) (end : SessionEnd) (t : Run) (time number place : ℕ) → job.lines.lines.items ≡ lines.lines.items → job.session.hands.clock.time ≡ time → job.session.hands.clock.thread.0 ≡ number → (came : HasCarriedOut job end) → number ≡ place + 1
    → slice_get (sessions_of t) place ≡ Some (job.session, Some end.session) → HasSeen t time end.session → IsCarriedIn came.heads t time number lines (part_in end)
carried_with lines job end t time number place same begins thread came number_is there seen = record {
  did = record {
    blocks = came.blocks;
    are = subst (λ (ls : List SessionLine). AreLines came.heads [] ls end.outcomes.items end.tolds.items came.blocks) same came.are;
    stopped = came.stopped;
    diary = came.diary;
    whole = λ not_short. ((came.whole not_short).0 ∙ ap (λ (ls : List SessionLine). length ls) same, (came.whole not_short).1);
    cut = λ short. subst (λ (ls : List SessionLine). IsCutAt came.heads ls (length end.outcomes.items) (all_steps came.blocks) came.stopped) same (came.cut short);
  };
  place = place;
  number_is = number_is;
  opened = job.session;
  closed = end.session;
  there = there;
  keeps = came.keeps;
  thread = ap (λ (t : ThreadId). t.0) came.keeps.thread ∙ thread;
  begins = begins;
  stands = subst (λ (start : ℕ). Stands came.heads start (all_steps came.blocks ++ came.stopped) end.session) begins came.stands;
  seen = seen;
}

same_heads : (given : Option (List AppHead)) (heads kept : List AppHead) → given ≡ Some heads → given ≡ Some kept → kept ≡ heads
same_heads given heads kept a b =
    let both : Some kept ≡ Some heads = sym b ∙ a in
    let same : kept ≡ heads = cc both in
    same

carried_in : (heads : List AppHead) (lines : SessionLines) (job : SessionJob) (end : SessionEnd) (t : Run) (time number place : ℕ) → IsJobFor heads time number lines job → HasCarriedOut job end → number ≡ place + 1 → slice_get (sessions_of t) place ≡ Some (job.session, Some end.session) → HasSeen t time end.session
    → IsCarriedIn heads t time number lines (part_in end)
carried_in heads lines job end t time number place is came number_is there seen =
    subst (λ (hs : List AppHead). IsCarriedIn hs t time number lines (part_in end)) (same_heads job.session.roster_seat.opening heads came.heads is.heads_are came.heads_are)
    (carried_with lines job end t time number place is.lines_are is.begins is.number_is came number_is there seen)

carried_push : (P : ℕ → SessionLines → SessionPart → Type 0) (from : ℕ) (done : List SessionLines) (parts : List SessionPart) (lines : SessionLines) (part : SessionPart) → AreCarried P from done parts → P (from + length done) lines part → AreCarried P from (done ++ lines ∷ []) (parts ++ part ∷ [])
carried_push P from [] [] lines part are is = (subst (λ (n : ℕ). P n lines part) (omega arith) is, tt)
carried_push P from (x ∷ done) (y ∷ parts) lines part are is = (are.0, carried_push P (from + 1) done parts lines part are.1 (subst (λ (n : ℕ). P n lines part) (omega arith) is))
carried_push P from _ _ lines part are is = absurd are

-- ---- the next one
record Next (heads : List AppHead) (before : List Told) (time from : ℕ) (sessions : List SessionLines) (r : Run) (end : SessionEnd) (rest : List SessionEnd) : Type 0 where
  lines : SessionLines
  todo : List SessionLines
  all : sessions ≡ lines ∷ todo
  job : SessionJob
  jobs : List SessionJob
  is : IsJobFor heads time from lines job
  are : AreJobsFor heads time (from + 1) todo jobs
  one : HasCarriedOut job end
  came : CameOfAll jobs rest
  now : r.hands.clock.time ≡ time
  from_is : from ≡ length before + 1
  stand : sessions_of r ≡ before ++ opened_for job ∷ map opened_for jobs

next_of : (heads : List AppHead) (before : List Told) (time from : ℕ) (sessions : List SessionLines) (jobs : List SessionJob) (r : Run) (end : SessionEnd) (rest : List SessionEnd) → r.hands.clock.time ≡ time → from ≡ length before + 1 → AreJobsFor heads time from sessions jobs
    → CameOfAll jobs (end ∷ rest) → sessions_of r ≡ before ++ map opened_for jobs → Next heads before time from sessions r end rest
next_of heads before time from (x ∷ sessions) (j ∷ jobs) r end rest now from_is are came stand = record {
  lines = x;
  todo = sessions;
  all = refl;
  job = j;
  jobs = jobs;
  is = are.0;
  are = are.1;
  one = came.0;
  came = came.1;
  now = now;
  from_is = from_is;
  stand = stand;
}
next_of heads before time from [] [] r end rest now from_is are came stand = absurd came
next_of heads before time from [] (j ∷ jobs) r end rest now from_is are came stand = absurd are
next_of heads before time from (x ∷ sessions) [] r end rest now from_is are came stand = absurd are

module _ (heads : List AppHead) (before : List Told) (time from : ℕ) (sessions : List SessionLines) (r : Run) (end : SessionEnd) (rest : List SessionEnd) where
  next_open : AreOpen heads before time from sessions r (end ∷ rest) → Next heads before time from sessions r end rest
  next_open are = next_of heads before time from sessions are.jobs r end rest are.now are.from_is are.are are.came are.stand

  module _ (next : Next heads before time from sessions r end rest) where
    abbrev told : Told
    told = (next.job.session, Some end.session)

    there_open : slice_get (sessions_of r) (length before) ≡ Some (opened_for next.job)
    there_open = ap (λ (l : List Told). slice_get l (length before)) next.stand ∙ at_seam before (opened_for next.job) (map opened_for next.jobs)

    -- it may be closed with that
    abbrev may_close_next : MayClose r end.session
    may_close_next = record {
      place = length before;
      number = ap (λ t. t.0) next.one.keeps.thread ∙ next.is.number_is ∙ next.from_is;
      opened = next.job.session;
      open_there = there_open;
      came = record { keeps = next.one.keeps; heads = next.one.heads; steps = all_steps next.one.blocks ++ next.one.stopped; stands = next.one.stands; diary = next.one.diary };
    }

    module _ (s : Run) (closed : (may : MayClose r end.session) → sessions_of s ≡ set (sessions_of r) may.place (may.opened, Some end.session)) (does : Does [] r s) where
      stand_closed : sessions_of s ≡ (before ++ told ∷ []) ++ map opened_for next.jobs
      stand_closed =
          closed may_close_next ∙ ap (λ (l : List Told). set l (length before) told) next.stand ∙ set-append_seam before (opened_for next.job) (map opened_for next.jobs) told
          ∙ sym (append_assoc before (told ∷ []) (map opened_for next.jobs))

      open_then : AreOpen heads (before ++ told ∷ []) time (from + 1) next.todo s rest
      open_then = record {
        from_is = omega (arith, next.from_is, length-append before (told ∷ []));
        now = same_time r s does ∙ next.now;
        jobs = next.jobs;
        are = next.are;
        came = next.came;
        stand = stand_closed;
      }

  pub may_close : AreOpen heads before time from sessions r (end ∷ rest) → MayClose r end.session
  may_close are = may_close_next (next_open are)

-- ---- all of them
pub record ClosedSoFar (heads : List AppHead) (before : List Told) (time from : ℕ) (sessions : List SessionLines) (r s : Run) (rest : List SessionEnd) (heard : List Heard) : Type 0 where
  pub done : List SessionLines
  pub todo : List SessionLines
  pub all : sessions ≡ done ++ todo
  pub closed : List Told
  pub count : length closed ≡ length done
  pub each_closed : list_all (λ (told : Told). is_some told.1) closed ≡ true
  pub are_open : AreOpen heads (before ++ closed) time (from + length done) todo s rest
  pub carried : (t : Run) → Does [] s t → StartsWith (sessions_of t) (before ++ closed) → AreCarried (IsCarriedIn heads t time) from done (map part_of heard)
  pub does : Does [] r s

module _ (heads : List AppHead) (before : List Told) (time from : ℕ) (sessions : List SessionLines) (r : Run) where
  pub none_closed : (ends : List SessionEnd) → AreOpen heads before time from sessions r ends → ClosedSoFar heads before time from sessions r r ends []
  none_closed ends are = record {
    done = [];
    todo = sessions;
    all = refl;
    closed = [];
    count = refl;
    each_closed = refl;
    are_open = subst (λ (l : List Told). AreOpen heads l time (from + 0) sessions r ends) (sym (append-nil before)) (subst (λ (n : ℕ). AreOpen heads before time n sessions r ends) (omega arith) are);
    carried = λ t does on. tt;
    does = nothing_done r;
  }

  -- one more
  module _ (s : Run) (end : SessionEnd) (rest : List SessionEnd) (heard : List Heard) (so_far : ClosedSoFar heads before time from sessions r s (end ∷ rest) heard) (t : Run) (closed : (may : MayClose s end.session) → sessions_of t ≡ set (sessions_of s) may.place (may.opened, Some end.session))
      (seen : HasSeen t s.hands.clock.time end.session) (does : Does [] s t) where
    next : Next heads (before ++ so_far.closed) time (from + length so_far.done) so_far.todo s end rest
    next = next_open heads (before ++ so_far.closed) time (from + length so_far.done) so_far.todo s end rest so_far.are_open

    abbrev now_closed : Told
    now_closed = (next.job.session, Some end.session)

    one_behind : before ++ (so_far.closed ++ now_closed ∷ []) ≡ (before ++ so_far.closed) ++ now_closed ∷ []
    one_behind = sym (append_assoc before so_far.closed (now_closed ∷ []))

    open_now : AreOpen heads ((before ++ so_far.closed) ++ now_closed ∷ []) time (from + length so_far.done + 1) next.todo t rest
    open_now = open_then heads (before ++ so_far.closed) time (from + length so_far.done) so_far.todo s end rest next t closed does

    -- main has still seen all that it has seen
    seen_still : (u : Run) → Does [] t u → HasSeen u time end.session
    seen_still u later = seen_further t u time end.session (knows_by [] t u later) (subst (λ (now : ℕ). HasSeen t now end.session) next.now seen)

    module _ (u : Run) (later : Does [] t u) (on : StartsWith (sessions_of u) (before ++ (so_far.closed ++ now_closed ∷ []))) where
      whole_on : sessions_of u ≡ (before ++ so_far.closed) ++ now_closed ∷ on.0
      whole_on = on.1 ∙ ap (λ (l : List Told). l ++ on.0) one_behind ∙ append_assoc (before ++ so_far.closed) (now_closed ∷ []) on.0

      there_now : slice_get (sessions_of u) (length (before ++ so_far.closed)) ≡ Some now_closed
      there_now = ap (λ (l : List Told). slice_get l (length (before ++ so_far.closed))) whole_on ∙ at_seam (before ++ so_far.closed) now_closed on.0

      carried_now : AreCarried (IsCarriedIn heads u time) from (so_far.done ++ next.lines ∷ []) (map part_of heard ++ part_in end ∷ [])
      carried_now =
          carried_push (IsCarriedIn heads u time) from so_far.done (map part_of heard) next.lines (part_in end) (so_far.carried u (nothing_then s t u does later) (now_closed ∷ on.0, whole_on))
          (carried_in heads next.lines next.job end u time (from + length so_far.done) (length (before ++ so_far.closed)) next.is next.one next.from_is there_now (seen_still u later))

    pub closed_push : (h : Heard) (more : List Heard) → part_of h ≡ part_in end → more ≡ heard ++ h ∷ [] → ClosedSoFar heads before time from sessions r t rest more
    closed_push h more part is = record {
      done = so_far.done ++ next.lines ∷ [];
      todo = next.todo;
      all = so_far.all ∙ ap (λ (l : List SessionLines). so_far.done ++ l) next.all ∙ sym (append_assoc so_far.done (next.lines ∷ []) next.todo);
      closed = so_far.closed ++ now_closed ∷ [];
      count = omega (arith, so_far.count, length-append so_far.closed (now_closed ∷ []), length-append so_far.done (next.lines ∷ []));
      each_closed = list_all-append (λ (told : Told). is_some told.1) so_far.closed (now_closed ∷ []) ∙ ap (λ (b : Bool). b && true) so_far.each_closed;
      are_open =
          subst (λ (l : List Told). AreOpen heads l time (from + length (so_far.done ++ next.lines ∷ [])) next.todo t rest) (sym one_behind)
          (subst (λ (n : ℕ). AreOpen heads ((before ++ so_far.closed) ++ now_closed ∷ []) time n next.todo t rest) (omega (arith, length-append so_far.done (next.lines ∷ []))) open_now);
      carried = λ u later on.
          subst (AreCarried (IsCarriedIn heads u time) from (so_far.done ++ next.lines ∷ []))
          (sym (ap (map part_of) is ∙ map-append part_of heard (h ∷ []) ∙ ap (λ (p : SessionPart). map part_of heard ++ p ∷ []) part)) (carried_now u later on);
      does = nothing_then r s t so_far.does does;
    }

  -- the last one was closed
  none_left : (time n : ℕ) (todo : List SessionLines) (jobs : List SessionJob) → AreJobsFor heads time n todo jobs → CameOfAll jobs [] → (todo ≡ []) × (jobs ≡ [])
  none_left time n [] [] are came = (refl, refl)
  none_left time n (x ∷ todo) [] are came = absurd are
  none_left time n [] (j ∷ jobs) are came = absurd are
  none_left time n (x ∷ todo) (j ∷ jobs) are came = absurd came

  pub all_closed_now : (s : Run) (heard : List Heard) → ClosedSoFar heads before time from sessions r s [] heard → HasClosedAll heads before time from sessions r s heard
  all_closed_now s heard so_far =
      let left = none_left time (from + length so_far.done) so_far.todo so_far.are_open.jobs so_far.are_open.are so_far.are_open.came in
      let all : sessions ≡ so_far.done = so_far.all ∙ ap (λ (l : List SessionLines). so_far.done ++ l) left.0 ∙ append-nil so_far.done in
      let stand : sessions_of s ≡ before ++ so_far.closed = so_far.are_open.stand ∙ ap (λ (js : List SessionJob). (before ++ so_far.closed) ++ map opened_for js) left.1 ∙ append-nil (before ++ so_far.closed) in
      record {
        closed = so_far.closed;
        sessions_are = stand;
        count = so_far.count ∙ ap length (sym all);
        each_closed = so_far.each_closed;
        carried = subst (λ (l : List SessionLines). AreCarried (IsCarriedIn heads s time) from l (map part_of heard)) (sym all) (so_far.carried s (nothing_done s) ([], stand ∙ sym (append-nil (before ++ so_far.closed))));
        does = so_far.does;
      }
