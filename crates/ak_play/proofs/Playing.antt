-- Statement after statement.
use Rattle.std.proofs.Common.{◌≡◌, ◌≢◌, ◌≤◌, ◌<◌, ◌+◌, ◌-◌, inl, inr, ℕ, zero, suc, List, [], ◌∷◌, ◌++◌, length, length-append, take, Some, None, Err, slice_get, refl, sym, ap, ◌∙◌, subst, append-nil, arith}
use Rattle.std.specs.Prelude.{Option, Ok, true, false, IsSomeAnd}
use Rattle.std.specs.Io.KnownBytes.{Appends}
use Rattle.std.proofs.lemmas.Option.{slice_get_within}
use Rattle.ak_base.specs.declared.ending.Ending.TheVariants as ending
use Rattle.ak_outside.specs.Calls.{Calls}
use Rattle.ak_outside.proofs.Surface.{Appends-joined}
use Rattle.ak_describe.specs.Whole.{heads_of}
use Rattle.ak_describe.specs.declared.described.AppText.{AppText}
use Rattle.ak_diary.specs.Step.{Step, time_of}
use Rattle.ak_print.specs.declared.told.Told.{Told}
use Rattle.ak_print.specs.Told.{told_line}
use Rattle.ak_run.specs.declared.run.Run.{Run}
use Rattle.ak_run.specs.Sessions as sessions
use Rattle.ak_run.specs.Sessions.{session_count, sessions_of}
use Rattle.ak_script.specs.declared.statement.SessionLines.{SessionLines}
use Rattle.ak_script.specs.declared.statement.Statement.{Statement}
use Rattle.ak_run.specs.Doing.{HasDoneSoFar}
use Rattle.ak_run.specs.Seen.{KnowsMore}
use Rattle.ak_run.specs.Starts.{StartsMore, thread_count}
use Rattle.ak_block.specs.Carried.{HasSessionsMore, IsCarriedIn, SessionPart}
use Rattle.ak_play.specs.declared.run_end.Lines.{Lines}
use Rattle.ak_play.specs.declared.run_end.Lines.TheVariants as lines
use Rattle.ak_play.specs.declared.stop.Stop.{Stop}
use Rattle.ak_play.specs.declared.stop.Stop.TheVariants as stop
use Rattle.ak_play.specs.Blocks.{LacksAt, RefusedAt}
use Rattle.ak_play.specs.Gathered.{GatheredData, gathered_and, nothing_gathered, of_part, of_parts}
use Rattle.ak_play.specs.Parts.{AreParts, IsCut, IsPart, Part, all_sessions, all_steps, all_tolds, sessions_in}
use Rattle.ak_play.specs.Play.{AreWritten, IsCutText, IsFrontText, StartsThreads, StoppedSo, first_tolds, last_threads, last_tolds, text_of, threads_of}
use Rattle.ak_play.specs.Steps.{HasStepped, IsPlayedSoFar, IsPlayedTo, StepsOn, StopsInside, StopsShort, is_lack, lacks_a_line, lines_after, refusable, stopped_as}
use Rattle.ak_run.proofs.Surface.{done_then, knows_by, seen_further}
use Rattle.ak_play.proofs.Gathering.{no_cut, one_part_more}
use Rattle.ak_play.proofs.Lists.{gathered_push}
use Rattle.ak_play.proofs.Starts.{block_refuses, launch_refuses}
use Rattle.ak_play.proofs.Parts.{all_told, first_push, last_push, parts_push, parts_so, sessions_push, text-append, text_push}

-- ---- what was written
pub Appends-nothing : (given : Option (List ℕ)) → Appends given given []
Appends-nothing None = tt
Appends-nothing (Some bytes) = sym (append-nil bytes)

-- nothing more was written
Appends-no_more : (old mid new : Option (List ℕ)) (text : List ℕ) → Appends old mid text → Appends mid new [] → Appends old new text
Appends-no_more old mid new text one two = subst (Appends old new) (append-nil text) (Appends-joined old mid new text [] one two)

-- behind lines that are written whole
module _ (before last : List Told) (old mid new : Option (List ℕ)) (one : Appends old mid (text_of before)) where
  front_behind : IsFrontText [] last mid new → IsFrontText before last old new
  front_behind two = record { lines = two.lines; not_all = two.not_all; written = Appends-joined old mid new (text_of before) (text_of (take two.lines last)) one two.written }

  cut_behind : IsCutText [] last mid new → IsCutText before last old new
  cut_behind two = record {
    front = two.front;
    line = two.line;
    behind = two.behind;
    last_is = two.last_is;
    part = two.part;
    short = two.short;
    written = Appends-joined old mid new (text_of before) (text_of two.front ++ take two.part (told_line two.line)) one two.written;
  }

  written_behind : (told : Lines) (Failed1 Kept1 Failed Kept : Type 0) → (Failed1 → Failed) → (Kept1 → Kept) → AreWritten told Failed1 Kept1 [] last mid new → AreWritten told Failed Kept before last old new
  written_behind lines.Whole Failed1 Kept1 Failed Kept failed kept is = (Appends-joined old mid new (text_of before) (text_of last) one is.0, kept is.1)
  written_behind lines.Cut Failed1 Kept1 Failed Kept failed kept is = (cut_behind is.0, failed is.1)
  written_behind lines.Lacking Failed1 Kept1 Failed Kept failed kept is = (front_behind is.0, kept is.1)

-- lines of parts, as those before the last part's and those
pub in_two : (ps : List Part) (old new : Option (List ℕ)) → Appends old new (text_of (all_tolds ps)) → Appends old new (text_of (first_tolds ps None) ++ text_of (last_tolds ps None))
in_two ps old new written = subst (Appends old new) (ap text_of (sym (all_told ps)) ∙ text-append (first_tolds ps None) (last_tolds ps None)) written

plus_nothing : (n : ℕ) → n ≡ n + 0
plus_nothing n = omega arith

-- ---- sessions stay as they are
still_there : {X : Type 0} (xs ys : List X) (k : ℕ) (x : X) → slice_get xs k ≡ Some x → slice_get (xs ++ ys) k ≡ Some x
still_there [] ys k x at = absurd (omega (arith, slice_get_within [] k x at))
still_there (y ∷ xs) ys zero x at = at
still_there (y ∷ xs) ys (suc k) x at = still_there xs ys k x at

module _ (apps : List AppText) (r r' : Run) (more : ℕ) (still : HasSessionsMore more r r') (knows : KnowsMore r r') where
  abbrev Before : ℕ → ℕ → SessionLines → SessionPart → Type 0
  Before = IsCarriedIn (heads_of apps) r

  abbrev Now : ℕ → ℕ → SessionLines → SessionPart → Type 0
  Now = IsCarriedIn (heads_of apps) r'

  pub carried_still : (time n : ℕ) (ls : SessionLines) (part : SessionPart) → Before time n ls part → Now time n ls part
  carried_still time n ls part is = record {
    did = is.did;
    place = is.place;
    number_is = is.number_is;
    opened = is.opened;
    closed = is.closed;
    there = ap (λ (all : List sessions.Told). slice_get all is.place) still.on.1 ∙ still_there (sessions_of r) still.on.0 is.place (is.opened, Some is.closed) is.there;
    keeps = is.keeps;
    thread = is.thread;
    begins = is.begins;
    stands = is.stands;
    seen = seen_further r r' time is.closed knows is.seen;
  }

pub no_sessions_more : (r r' : Run) → sessions_of r' ≡ sessions_of r → HasSessionsMore 0 r r'
no_sessions_more r r' same = record {
  on = ([], same ∙ sym (append-nil (sessions_of r)));
  count = ap (λ (all : List sessions.Told). length all) same ∙ plus_nothing (session_count r);
}

module _ (apps : List AppText) (statements : List Statement) where
  pub play_begun : (r : Run) (given : Option (List ℕ)) (Kept : Type 0) → Kept → HasDoneSoFar [] r → sessions_of r ≡ [] → IsPlayedSoFar apps statements nothing_gathered 0 r given given Kept
  play_begun r given Kept kept nothing none = record {
    parts = [];
    count = refl;
    are = tt;
    sessions = ap (λ (all : List sessions.Told). length all) none;
    gathered = refl;
    done_so = nothing;
    written = Appends-nothing given;
    sink = kept;
  }

  module _ (s : Statement) (k k' : GatheredData) (count : ℕ) (r r' : Run) (old mid new : Option (List ℕ)) (Kept0 Kept : Type 0) (so_far : IsPlayedSoFar apps statements k count r old mid Kept0) (at : slice_get statements count ≡ Some s) where
    at_parts : slice_get statements (length so_far.parts) ≡ Some s
    at_parts = ap (slice_get statements) so_far.count ∙ at

    next : session_count r + 1 ≡ 1 + all_sessions so_far.parts
    next = omega (arith, so_far.sessions)

    -- main's time
    now : r.hands.clock.time ≡ time_of 0 (all_steps so_far.parts)
    now = sym so_far.done_so.recorded.in_time.time_is

    -- why it stopped, where main did nothing for the statement: behind lines that were not written whole, or in a block
    behind_so : (o : Option Statement) (why : Stop) → stopped_as {A = Unit {0}} (Err why) ≢ ending.ThreadFault → StoppedSo apps o None (stopped_as {A = Unit {0}} (Err why)) []
    behind_so o stop.WriteFault started = refl
    behind_so o (stop.ThreadFault told) started = absurd (started refl)
    behind_so o (stop.NoMemory told) started = inl refl

    inside_so : (o : Option Statement) (part : Part) (why : Stop) → (stopped_as {A = Unit {0}} (Err why) ≡ ending.ThreadFault → 1 ≤ part.sessions) → StoppedSo apps o (Some part) (stopped_as {A = Unit {0}} (Err why)) []
    inside_so o part stop.WriteFault some = refl
    inside_so o part (stop.ThreadFault told) some = (some refl, refl)
    inside_so o part (stop.NoMemory told) some = inl refl

    -- how the threads were started, by the statement that stopped it
    abbrev pub StartsBy : Stop → Option Calls → Option Calls → Type 0
    StartsBy why calls calls' = (cut : Option Part) (before : ℕ) → (stopped_as {A = Unit {0}} (Err why) ≡ ending.ThreadFault → last_threads cut before (thread_count r') ≡ refusable s (thread_count r' - thread_count r))
        → StartsThreads (stopped_as {A = Unit {0}} (Err why)) cut before (thread_count r') calls calls'

    -- ---- it has its part, which stands behind the others
    module _ {W : List Told → Type 0} (on : StepsOn apps s k k' r r' W) where
      are_pushed : AreParts (IsCarriedIn (heads_of apps) r') apps 0 1 statements (so_far.parts ++ on.part ∷ [])
      are_pushed =
          parts_push (IsCarriedIn (heads_of apps) r') apps 0 1 statements so_far.parts s on.part
          (parts_so (IsCarriedIn (heads_of apps) r) (IsCarriedIn (heads_of apps) r') (carried_still apps r r' on.part.sessions on.sessions (knows_by on.part.steps r r' on.does)) apps 0 1 statements so_far.parts so_far.are)
          at_parts
          (subst (λ (time : ℕ). IsPart (IsCarriedIn (heads_of apps) r') apps time (1 + all_sessions so_far.parts) s on.part) now
          (subst (λ (n : ℕ). IsPart (IsCarriedIn (heads_of apps) r') apps r.hands.clock.time n s on.part) next on.is))

      done_pushed : HasDoneSoFar (all_steps (so_far.parts ++ on.part ∷ [])) r'
      done_pushed = subst (λ (steps : List Step). HasDoneSoFar steps r') (sym (gathered_push (λ (part : Part). part.steps) so_far.parts on.part)) (done_then (all_steps so_far.parts) on.part.steps r r' so_far.done_so on.does)

      sessions_pushed : session_count r' ≡ all_sessions (so_far.parts ++ on.part ∷ [])
      sessions_pushed = on.sessions.count ∙ ap (λ (n : ℕ). n + on.part.sessions) so_far.sessions ∙ sym (sessions_push so_far.parts on.part)

      gathered_pushed : k' ≡ of_parts (so_far.parts ++ on.part ∷ [])
      gathered_pushed = on.gathered ∙ ap (λ (x : GatheredData). gathered_and x (of_part on.part)) so_far.gathered ∙ sym (one_part_more so_far.parts on.part)

      count_pushed : length (so_far.parts ++ on.part ∷ []) ≡ count + 1
      count_pushed = length-append so_far.parts (on.part ∷ []) ∙ ap (λ (n : ℕ). n + 1) so_far.count

      -- and it ended then
      stops_behind : (why : Stop) (calls calls' : Option Calls) → StartsBy why calls calls' → (Failed : Type 0) → stopped_as {A = Unit {0}} (Err why) ≢ ending.ThreadFault → stopped_as {A = Unit {0}} (Err why) ≢ ending.Done
          → (is_lack {A = Unit {0}} (Err why) ≡ true → lines_after {A = Unit {0}} (Err why) ≡ lines.Lacking)
          → AreWritten (lines_after {A = Unit {0}} (Err why)) Failed Kept (all_tolds so_far.parts) on.part.tolds old new → (lines_after {A = Unit {0}} (Err why) ≡ lines.Cut → stopped_as {A = Unit {0}} (Err why) ≡ ending.WriteFault)
          → IsPlayedTo {A = Unit {0}} apps statements k' (Err why) r' old new Failed Kept calls calls'
      stops_behind why calls calls' starts Failed started not_done lacking written at_a_write = record {
        parts = so_far.parts ++ on.part ∷ [];
        are = are_pushed;
        cut = None;
        sessions = sessions_pushed ∙ plus_nothing (all_sessions (so_far.parts ++ on.part ∷ []));
        cut_is = tt;
        gathered = gathered_pushed ∙ no_cut (so_far.parts ++ on.part ∷ []);
        more = [];
        none_more = λ all. refl;
        none_inside = tt;
        stopped_so = behind_so (slice_get statements (length (so_far.parts ++ on.part ∷ []))) why started;
        starts = starts None (threads_of apps (so_far.parts ++ on.part ∷ [])) (λ refused. absurd (started refused));
        none_at_a_write = λ so. (refl, refl);
        none_when_done = λ done. absurd (not_done done);
        before_last = λ lacks. tt;
        lacks_inside = λ refused lacks. absurd (started refused);
        lacks_at = λ lacks. inl (lacking lacks);
        done = subst (λ (steps : List Step). HasDoneSoFar steps r') (sym (append-nil (all_steps (so_far.parts ++ on.part ∷ [])))) done_pushed;
        written = subst (λ (l : List Told). AreWritten (lines_after {A = Unit {0}} (Err why)) Failed Kept (first_tolds (so_far.parts ++ on.part ∷ []) None) l old new) (sym (last_push so_far.parts on.part))
            (subst (λ (l : List Told). AreWritten (lines_after {A = Unit {0}} (Err why)) Failed Kept l on.part.tolds old new) (sym (first_push so_far.parts on.part)) written);
        cut_at = λ is. inl (at_a_write is);
      }

    pub play_goes_on : (Failed1 Kept1 : Type 0) → (Kept0 → Kept1 → Kept) → StepsOn apps s k k' r r' (λ tolds. AreWritten lines.Whole Failed1 Kept1 [] tolds mid new) → IsPlayedSoFar apps statements k' (count + 1) r' old new Kept
    play_goes_on Failed1 Kept1 joined on = record {
      parts = so_far.parts ++ on.part ∷ [];
      count = count_pushed on;
      are = are_pushed on;
      sessions = sessions_pushed on;
      gathered = gathered_pushed on;
      done_so = done_pushed on;
      written = subst (Appends old new) (sym (text_push so_far.parts on.part)) (Appends-joined old mid new (text_of (all_tolds so_far.parts)) (text_of on.part.tolds) so_far.written on.written.0);
      sink = joined so_far.sink on.written.1;
    }

    -- ---- it is a block that was cut
    stops_inside : {W : List Told → Type 0} {Far : Part → Type 0} (why : Stop) (calls calls' : Option Calls) → StartsBy why calls calls' → (Failed : Type 0) → stopped_as {A = Unit {0}} (Err why) ≢ ending.WriteFault → stopped_as {A = Unit {0}} (Err why) ≢ ending.Done
        → (in' : StopsInside apps s k k' r r' Far W) → (stopped_as {A = Unit {0}} (Err why) ≡ ending.ThreadFault → 1 ≤ in'.part.sessions) → (stopped_as {A = Unit {0}} (Err why) ≡ ending.NoMemory → in'.part.sessions < sessions_in s)
        → AreWritten (lines_after {A = Unit {0}} (Err why)) Failed Kept (all_tolds so_far.parts) in'.part.tolds old new → IsPlayedTo {A = Unit {0}} apps statements k' (Err why) r' old new Failed Kept calls calls'
    stops_inside why calls calls' starts Failed other not_done in' some not_all written = record {
      parts = so_far.parts;
      are = parts_so (IsCarriedIn (heads_of apps) r) (IsCarriedIn (heads_of apps) r') (carried_still apps r r' in'.part.sessions in'.sessions (knows_by [] r r' in'.does)) apps 0 1 statements so_far.parts so_far.are;
      cut = Some in'.part;
      sessions = in'.sessions.count ∙ ap (λ (n : ℕ). n + in'.part.sessions) so_far.sessions;
      cut_is = subst (λ (o : Option Statement). IsSomeAnd o (λ (x : Statement). IsCut (IsCarriedIn (heads_of apps) r') (time_of 0 (all_steps so_far.parts)) (all_sessions so_far.parts + 1) x in'.part)) (sym at_parts)
          (subst (λ (time : ℕ). IsCut (IsCarriedIn (heads_of apps) r') time (all_sessions so_far.parts + 1) s in'.part) now
          (subst (λ (n : ℕ). IsCut (IsCarriedIn (heads_of apps) r') r.hands.clock.time n s in'.part) (ap (λ (n : ℕ). n + 1) so_far.sessions) in'.is));
      gathered = in'.gathered ∙ ap (λ (x : GatheredData). gathered_and x (of_part in'.part)) so_far.gathered;
      more = [];
      none_more = λ all. refl;
      none_inside = refl;
      stopped_so = inside_so (slice_get statements (length so_far.parts)) in'.part why some;
      starts = starts (Some in'.part) (threads_of apps so_far.parts)
          (λ refused. block_refuses (IsCarriedIn (heads_of apps) r') r.hands.clock.time (session_count r + 1) s in'.part in'.is (thread_count r' - thread_count r));
      none_at_a_write = λ at_a_write. absurd (other at_a_write);
      none_when_done = λ done. absurd (not_done done);
      before_last = λ lacks. subst (λ (o : Option Statement). IsSomeAnd o (λ (x : Statement). in'.part.sessions < sessions_in x)) (sym at_parts) (not_all lacks);
      lacks_inside = λ refused lacks. tt;
      lacks_at = λ lacks. inr (slice_get_within statements (length so_far.parts) s at_parts);
      done = done_then (all_steps so_far.parts) [] r r' so_far.done_so in'.does;
      written = written;
      cut_at = λ is. inr tt;
    }

    -- ---- it has none, and no line was due
    stops_before : (why : Stop) (calls calls' : Option Calls) → StartsBy why calls calls' → threads_of apps so_far.parts ≡ thread_count r → (stopped_as {A = Unit {0}} (Err why) ≡ ending.ThreadFault → (more : ℕ) → more ≡ refusable s more)
        → (At : List Step → Type 0) (Failed Kept1 : Type 0) → (Kept0 → Kept1 → Kept) → stopped_as {A = Unit {0}} (Err why) ≢ ending.WriteFault → stopped_as {A = Unit {0}} (Err why) ≢ ending.Done
        → (stopped_as {A = Unit {0}} (Err why) ≡ ending.ThreadFault → is_lack {A = Unit {0}} (Err why) ≡ true → ⊥) → (short : StopsShort At k k' r r' mid new Kept1) → StoppedSo apps (Some s) None (stopped_as {A = Unit {0}} (Err why)) short.steps → lines_after {A = Unit {0}} (Err why) ≡ lines.Whole
        → IsPlayedTo {A = Unit {0}} apps statements k' (Err why) r' old new Failed Kept calls calls'
    stops_before why calls calls' starts counted refuses At Failed Kept1 joined other not_done not_lacking short so whole =
        let still = no_sessions_more r r' short.sessions in
        record {
          parts = so_far.parts;
          are = parts_so (IsCarriedIn (heads_of apps) r) (IsCarriedIn (heads_of apps) r') (carried_still apps r r' 0 still (knows_by short.steps r r' short.does)) apps 0 1 statements so_far.parts so_far.are;
          cut = None;
          sessions = still.count ∙ ap (λ (n : ℕ). n + 0) so_far.sessions;
          cut_is = tt;
          gathered = short.same ∙ so_far.gathered ∙ no_cut so_far.parts;
          more = short.steps;
          none_more = λ all. absurd (omega (arith, all, slice_get_within statements (length so_far.parts) s at_parts));
          none_inside = tt;
          stopped_so = subst (λ (o : Option Statement). StoppedSo apps o None (stopped_as {A = Unit {0}} (Err why)) short.steps) (sym at_parts) so;
          starts = starts None (threads_of apps so_far.parts) (λ refused. ap (λ (n : ℕ). thread_count r' - n) counted ∙ refuses refused (thread_count r' - thread_count r));
          none_at_a_write = λ at_a_write. absurd (other at_a_write);
          none_when_done = λ done. absurd (not_done done);
          before_last = λ lacks. tt;
          lacks_inside = λ refused lacks. absurd (not_lacking refused lacks);
          lacks_at = λ lacks. inr (slice_get_within statements (length so_far.parts) s at_parts);
          done = done_then (all_steps so_far.parts) short.steps r r' so_far.done_so short.does;
          written = subst (λ (told : Lines). AreWritten told Failed Kept (first_tolds so_far.parts None) (last_tolds so_far.parts None) old new) (sym whole)
              (in_two so_far.parts old new (Appends-no_more old mid new (text_of (all_tolds so_far.parts)) so_far.written short.written), joined so_far.sink short.sink);
          cut_at = λ is. let bad : lines.Whole ≡ lines.Cut = sym whole ∙ is in absurd (cc bad);
        }

    module _ (Failed1 Failed Kept1 : Type 0) (failed : Failed1 → Failed) (joined : Kept0 → Kept1 → Kept) where
      behind : (told : Lines) (last : List Told) → AreWritten told Failed1 Kept1 [] last mid new → AreWritten told Failed Kept (all_tolds so_far.parts) last old new
      behind told last is = written_behind (all_tolds so_far.parts) last old mid new so_far.written told Failed1 Kept1 Failed Kept failed (joined so_far.sink) is

      pub play_stops : (why : Stop) (calls calls' : Option Calls) → StartsBy why calls calls' → threads_of apps so_far.parts ≡ thread_count r → HasStepped apps s k k' r r' mid new Failed1 Kept1 {A = Unit {0}} (Err why) → IsPlayedTo {A = Unit {0}} apps statements k' (Err why) r' old new Failed Kept calls calls'
      play_stops stop.WriteFault calls calls' starts counted on = stops_behind on stop.WriteFault calls calls' starts Failed (λ refused. absurd (cc refused)) (λ done. absurd (cc done)) (λ lacks. absurd (cc lacks)) (behind lines.Cut on.part.tolds on.written) (λ is. refl)
      play_stops (stop.ThreadFault told) calls calls' starts counted (inl (whole, short)) =
          stops_before (stop.ThreadFault told) calls calls' starts counted (λ refused. launch_refuses apps s short.steps short.at) (RefusedAt apps s) Failed Kept1 joined (λ at_a_write. absurd (cc at_a_write)) (λ done. absurd (cc done))
          (λ refused so. let bad : false ≡ true = sym (ap lacks_a_line whole) ∙ so in absurd (cc bad)) short short.at whole
      play_stops (stop.ThreadFault told) calls calls' starts counted (inr in') =
          stops_inside (stop.ThreadFault told) calls calls' starts Failed (λ at_a_write. absurd (cc at_a_write)) (λ done. absurd (cc done)) in' (λ refused. in'.far) (λ no_memory. absurd (cc no_memory)) (behind told in'.part.tolds in'.written)
      play_stops (stop.NoMemory told) calls calls' starts counted (inl (whole, short)) =
          stops_before (stop.NoMemory told) calls calls' starts counted (λ refused. absurd (cc refused)) (LacksAt apps s) Failed Kept1 joined (λ at_a_write. absurd (cc at_a_write)) (λ done. absurd (cc done)) (λ refused so. absurd (cc refused)) short (inr short.at) whole
      play_stops (stop.NoMemory told) calls calls' starts counted (inr (inl (lacking, on))) =
          stops_behind on (stop.NoMemory told) calls calls' starts Failed (λ refused. absurd (cc refused)) (λ done. absurd (cc done)) (λ lacks. lacking)
          (subst (λ (l : Lines). AreWritten l Failed Kept (all_tolds so_far.parts) on.part.tolds old new) (sym lacking) (behind lines.Lacking on.part.tolds on.written)) (λ is. let bad : lines.Lacking ≡ lines.Cut = sym lacking ∙ is in absurd (cc bad))
      play_stops (stop.NoMemory told) calls calls' starts counted (inr (inr in')) =
          stops_inside (stop.NoMemory told) calls calls' starts Failed (λ at_a_write. absurd (cc at_a_write)) (λ done. absurd (cc done)) in' (λ refused. absurd (cc refused)) (λ no_memory. in'.far) (behind told in'.part.tolds in'.written)

  -- behind the last one
  pub play_ends : {A : Type 0} (x : A) (k : GatheredData) (r : Run) (old new : Option (List ℕ)) (Failed Kept : Type 0) (calls calls' : Option Calls) → StartsMore 0 (thread_count r) calls calls' → IsPlayedSoFar apps statements k (length statements) r old new Kept
      → IsPlayedTo {A = A} apps statements k (Ok x) r old new Failed Kept calls calls'
  play_ends x k r old new Failed Kept calls calls' starts so_far = record {
    parts = so_far.parts;
    are = so_far.are;
    cut = None;
    sessions = so_far.sessions ∙ plus_nothing (all_sessions so_far.parts);
    cut_is = tt;
    gathered = so_far.gathered ∙ no_cut so_far.parts;
    more = [];
    none_more = λ all. refl;
    none_inside = tt;
    stopped_so = refl;
    starts = starts;
    none_at_a_write = λ at_a_write. (refl, refl);
    none_when_done = λ done. (so_far.count, refl);
    before_last = λ lacks. tt;
    lacks_inside = λ refused lacks. absurd (cc refused);
    lacks_at = λ lacks. absurd (cc lacks);
    done = subst (λ (steps : List Step). HasDoneSoFar steps r) (sym (append-nil (all_steps so_far.parts))) so_far.done_so;
    written = (in_two so_far.parts old new so_far.written, so_far.sink);
    cut_at = λ is. absurd (cc is);
  }
