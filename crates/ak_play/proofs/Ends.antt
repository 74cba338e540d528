-- The run of a script, from what was carried out of it to its end.
use Rattle.std.proofs.Common.{◌≡◌, ◌≢◌, ◌⊎◌, ◌||◌, inl, inr, ⊎_elim, ℕ, ◌+◌, ◌<◌, List, [], ◌∷◌, ◌++◌, length, All, refl, sym, ap, ◌∙◌, subst, append_assoc, arith}
use Rattle.std.specs.Prelude.{Option, None, Some, Ok, Err, Result, IfSome, IsSomeAnd, Bool, true, false, slice_get}
use Rattle.std.proofs.lemmas.List.Concat.{flat_map-append}
use Rattle.ak_base.specs.declared.ending.Ending.{Ending}
use Rattle.ak_base.specs.declared.ending.Ending.TheVariants as ending
use Rattle.ak_base.specs.Thread.{main_thread}
use Rattle.ak_outside.specs.Calls.{Calls}
use Rattle.ak_turn.specs.Noted.{StandsIn}
use Rattle.ak_roster.specs.declared.head.AppHead.{AppHead}
use Rattle.ak_describe.specs.Whole.{heads_of}
use Rattle.ak_describe.specs.declared.described.AppText.{AppText}
use Rattle.ak_diary.specs.declared.histories.Histories.{Histories}
use Rattle.ak_diary.specs.Step.{AreStamped, Step, desk_entries, desk_entry, time_of}
use Rattle.ak_headline.specs.Headline.{EachGotOneReply}
use Rattle.ak_headline.specs.Main.{IsMainDiary}
use Rattle.ak_headline.specs.Run.{HasDone, IsRunWith, desk_list}
use Rattle.ak_run.specs.declared.run.Run.{Run}
use Rattle.ak_script.specs.declared.statement.SessionLines.{SessionLines}
use Rattle.ak_script.specs.declared.statement.Statement.{Statement}
use Rattle.ak_run.specs.AtEnd.{DoneAtEnd, SessionsDone}
use Rattle.ak_run.specs.Doing.{HasDoneSoFar}
use Rattle.ak_run.specs.Ending.{EndsAs}
use Rattle.ak_run.specs.Sessions.{session_count}
use Rattle.ak_run.specs.Starts.{thread_count}
use Rattle.ak_block.specs.Carried.{IsCarriedIn, SessionPart}
use Rattle.ak_lines.specs.Carried as carried
use Rattle.ak_lines.specs.declared.outcome.Outcome.{Outcome}
use Rattle.ak_print.specs.declared.told.Told.{Told}
use Rattle.ak_play.specs.declared.run_end.Lines.{Lines}
use Rattle.ak_play.specs.declared.run_end.Lines.TheVariants as lines
use Rattle.ak_play.specs.declared.run_end.RunEnd.{RunEnd}
use Rattle.ak_play.specs.declared.run_end.Short.{Short}
use Rattle.ak_play.specs.declared.stop.Stop.{Stop}
use Rattle.ak_play.specs.declared.stop.Stop.TheVariants as stop
use Rattle.ak_play.specs.declared.gathered.Gathered.{Gathered}
use Rattle.ak_play.specs.Gathered.{GatheredData, gathered_seen}
use Rattle.ak_play.specs.Parts.{IsCut, Part, all_outcomes, all_sessions, all_steps, all_tolds, sessions_in}
use Rattle.ak_play.specs.Play.{AreReplies, AreWritten, IsPlay, IsShort, StoppedSo, cut_outcomes, cut_sessions, cut_tolds, first_tolds, last_tolds, threads_of, IsPlayEnding}
use Rattle.ak_play.specs.Sessions.{HasCarried}
use Rattle.ak_play.specs.Steps.{IsPlayedTo, any_short, ended_as, is_any, is_lack, lacks_a_line, lines_after, stopped_as}
use Rattle.ak_play.proofs.Behind.{main_behind}
use Rattle.ak_play.proofs.Gathering.{gathered_is}
use Rattle.ak_play.proofs.Lists.{all_front}
use Rattle.ak_play.proofs.Parts.{parts_so, some_cut_so}
use Rattle.ak_play.proofs.Replies.{replies}
use Rattle.ak_play.proofs.Starts.{starts_at_end}

-- ---- who found no memory
not_any : (xs : List ℕ) → is_any xs ≡ false → xs ≡ []
not_any [] e = refl
not_any (x ∷ xs) e = absurd (cc e)

some_any : (xs : List ℕ) → is_any xs ≡ true → xs ≢ []
some_any [] any none = absurd (cc any)
some_any (x ∷ xs) any none = absurd (cc none)

-- neither a session nor a looper; or one of them
neither : (a b : Bool) → (a || b) ≡ false → (a ≡ false) × (b ≡ false)
neither true b e = absurd (cc e)
neither false true e = absurd (cc e)
neither false false e = (refl, refl)

one_of : (a b : Bool) → (a || b) ≡ true → (a ≡ true) ⊎ (b ≡ true)
one_of true b e = inl refl
one_of false true e = inr refl
one_of false false e = absurd (cc e)

no_threads : (s : Short) → any_short s ≡ false → (s.sessions ≢ []) ⊎ (s.loopers ≢ []) → ⊥
no_threads s any some =
    let none = neither (is_any s.sessions) (is_any s.loopers) any in
    ⊎_elim (λ (is : s.sessions ≢ []). is (not_any s.sessions none.0)) (λ (is : s.loopers ≢ []). is (not_any s.loopers none.1)) some

some_thread : (s : Short) → any_short s ≡ true → (s.sessions ≢ []) ⊎ (s.loopers ≢ [])
some_thread s any =
    ⊎_elim (λ (is : is_any s.sessions ≡ true). inl (some_any s.sessions is)) (λ (is : is_any s.loopers ≡ true). inr (some_any s.loopers is)) (one_of (is_any s.sessions) (is_any s.loopers) any)

module _ {A : Type 0} where
  done_not_short : (played : Result A Stop) (s : Short) (lacked : Bool) → s.main ≡ is_lack played → any_short s ≡ lacked → IsShort s → ended_as played lacked ≢ ending.Done
  done_not_short (Ok x) s true main any short done = absurd (cc done)
  done_not_short (Ok x) s false main any short done =
      ⊎_elim (λ (by_main : s.main ≡ true). let bad : true ≡ false = sym by_main ∙ main in absurd (cc bad)) (λ (some : (s.sessions ≢ []) ⊎ (s.loopers ≢ [])). no_threads s any some) short
  done_not_short (Err stop.WriteFault) s lacked main any short done = absurd (cc done)
  done_not_short (Err (stop.ThreadFault told)) s lacked main any short done = absurd (cc done)
  done_not_short (Err (stop.NoMemory told)) s lacked main any short done = absurd (cc done)

  lacking_is_short : (played : Result A Stop) (s : Short) (lacked : Bool) → s.main ≡ is_lack played → any_short s ≡ lacked → ended_as played lacked ≡ ending.NoMemory → IsShort s
  lacking_is_short (Ok x) s true main any end = inr (some_thread s any)
  lacking_is_short (Ok x) s false main any end = absurd (cc end)
  lacking_is_short (Err stop.WriteFault) s lacked main any end = absurd (cc end)
  lacking_is_short (Err (stop.ThreadFault told)) s lacked main any end = absurd (cc end)
  lacking_is_short (Err (stop.NoMemory told)) s lacked main any end = inl main

  -- what is so where it was done
  done_so : (P : Type 0) (played : Result A Stop) (lacked : Bool) → (stopped_as played ≡ ending.Done → P) → ended_as played lacked ≡ ending.Done → P
  done_so P (Ok x) lacked whole done = whole refl
  done_so P (Err stop.WriteFault) lacked whole done = absurd (cc done)
  done_so P (Err (stop.ThreadFault told)) lacked whole done = absurd (cc done)
  done_so P (Err (stop.NoMemory told)) lacked whole done = absurd (cc done)

  -- so it is where main found memory, no write failed and each thread was started
  by_main : (P : Type 0) (played : Result A Stop) (lacked main : Bool) → main ≡ is_lack played → (stopped_as played ≡ ending.Done → P) → main ≡ false → ended_as played lacked ≢ ending.WriteFault → ended_as played lacked ≢ ending.ThreadFault → P
  by_main P (Ok x) lacked main is whole found no_write no_start = whole refl
  by_main P (Err stop.WriteFault) lacked main is whole found no_write no_start = absurd (no_write refl)
  by_main P (Err (stop.ThreadFault told)) lacked main is whole found no_write no_start = absurd (no_start refl)
  by_main P (Err (stop.NoMemory told)) lacked main is whole found no_write no_start = let bad : true ≡ false = sym is ∙ found in absurd (cc bad)

  -- where main found none, that is how it ended, or a thread could not be started for a session of a block
  main_short : (P : Type 0) (played : Result A Stop) (lacked main : Bool) → main ≡ is_lack played → (stopped_as played ≡ ending.ThreadFault → is_lack played ≡ true → P) → main ≡ true → (ended_as played lacked ≡ ending.NoMemory) ⊎ ((ended_as played lacked ≡ ending.ThreadFault) × P)
  main_short P (Ok x) lacked main is inside lacks = let bad : false ≡ true = sym is ∙ lacks in absurd (cc bad)
  main_short P (Err stop.WriteFault) lacked main is inside lacks = let bad : false ≡ true = sym is ∙ lacks in absurd (cc bad)
  main_short P (Err (stop.ThreadFault told)) lacked main is inside lacks = inr (refl, inside refl (sym is ∙ lacks))
  main_short P (Err (stop.NoMemory told)) lacked main is inside lacks = inl refl

  -- a block that was cut where memory ran out
  lacking_before : (cut : Option Part) (Q : Part → Type 0) (played : Result A Stop) (lacked : Bool) → (stopped_as played ≡ ending.Done → cut ≡ None) → (stopped_as played ≡ ending.NoMemory → IfSome cut Q) → ended_as played lacked ≡ ending.NoMemory → IfSome cut Q
  lacking_before cut Q (Ok x) lacked none before end = subst (λ (c : Option Part). IfSome c Q) (sym (none refl)) tt
  lacking_before cut Q (Err stop.WriteFault) lacked none before end = absurd (cc end)
  lacking_before cut Q (Err (stop.ThreadFault told)) lacked none before end = absurd (cc end)
  lacking_before cut Q (Err (stop.NoMemory told)) lacked none before end = before refl

  -- what became of the lines: where it is done, at a write fault, and where a write failed or one is missing
  done_whole : (played : Result A Stop) (lacked : Bool) → ended_as played lacked ≡ ending.Done → lines_after played ≡ lines.Whole
  done_whole (Ok x) lacked done = refl
  done_whole (Err stop.WriteFault) lacked done = absurd (cc done)
  done_whole (Err (stop.ThreadFault told)) lacked done = absurd (cc done)
  done_whole (Err (stop.NoMemory told)) lacked done = absurd (cc done)

  write_cuts : (played : Result A Stop) (lacked : Bool) → ended_as played lacked ≡ ending.WriteFault → lines_after played ≡ lines.Cut
  write_cuts (Ok x) true at_a_write = absurd (cc at_a_write)
  write_cuts (Ok x) false at_a_write = absurd (cc at_a_write)
  write_cuts (Err stop.WriteFault) lacked at_a_write = refl
  write_cuts (Err (stop.ThreadFault told)) lacked at_a_write = absurd (cc at_a_write)
  write_cuts (Err (stop.NoMemory told)) lacked at_a_write = absurd (cc at_a_write)

  write_ends : (played : Result A Stop) (lacked : Bool) → stopped_as played ≡ ending.WriteFault → ended_as played lacked ≡ ending.WriteFault
  write_ends (Ok x) lacked at_a_write = absurd (cc at_a_write)
  write_ends (Err stop.WriteFault) lacked at_a_write = refl
  write_ends (Err (stop.ThreadFault told)) lacked at_a_write = absurd (cc at_a_write)
  write_ends (Err (stop.NoMemory told)) lacked at_a_write = absurd (cc at_a_write)

  lacking_main : (played : Result A Stop) → lines_after played ≡ lines.Lacking → is_lack played ≡ true
  lacking_main (Ok x) lacking = absurd (cc lacking)
  lacking_main (Err stop.WriteFault) lacking = absurd (cc lacking)
  lacking_main (Err (stop.ThreadFault told)) lacking = ap lacks_a_line lacking
  lacking_main (Err (stop.NoMemory told)) lacking = refl

  -- what main did for the statement at which it stopped
  stopped_at_end : (apps : List AppText) (o : Option Statement) (cut : Option Part) (steps : List Step) (played : Result A Stop) (lacked : Bool) → StoppedSo apps o cut (stopped_as played) steps → StoppedSo apps o cut (ended_as played lacked) steps
  stopped_at_end apps o cut steps (Ok x) true so = inl so
  stopped_at_end apps o cut steps (Ok x) false so = so
  stopped_at_end apps o cut steps (Err stop.WriteFault) lacked so = so
  stopped_at_end apps o cut steps (Err (stop.ThreadFault told)) lacked so = so
  stopped_at_end apps o cut steps (Err (stop.NoMemory told)) lacked so = so

  -- where main found memory, and each thread was started, it stopped at no statement
  nowhere : (P : Type 0) (played : Result A Stop) (lacked main : Bool) → main ≡ is_lack played → (stopped_as played ≡ ending.Done → P) → (stopped_as played ≡ ending.WriteFault → P) → main ≡ false → ended_as played lacked ≢ ending.ThreadFault → P
  nowhere P (Ok x) lacked main is whole at_a_write found other = whole refl
  nowhere P (Err stop.WriteFault) lacked main is whole at_a_write found other = at_a_write refl
  nowhere P (Err (stop.ThreadFault told)) lacked main is whole at_a_write found other = absurd (other refl)
  nowhere P (Err (stop.NoMemory told)) lacked main is whole at_a_write found other = let bad : true ≡ false = sym is ∙ found in absurd (cc bad)

-- ---- sessions, at the end
pub carried_at_end : (heads : List AppHead) (r : Run) (h : Histories) → EndsAs r h → SessionsDone r h → (time n : ℕ) (ls : SessionLines) (part : SessionPart) → IsCarriedIn heads r time n ls part → HasCarried heads h time n ls part
carried_at_end heads r h ends sessions time n ls part is =
    let steps = carried.all_steps is.did.blocks ++ is.did.stopped in
    let its = sessions is.place is.opened is.closed is.there heads time steps is.stands in
    let done : HasDone h n steps = subst (λ (m : ℕ). HasDone h m steps) (sym is.number_is) its.done in
    record {
      did = is.did;
      stamped = is.stands.stamped;
      done = done;
      behind = main_behind heads time n steps is.closed r h is.stands is.thread is.seen ends done;
      edits = its.edits;
    }

-- ---- the steps at the end
module _ (heads : List AppHead) (h : Histories) (steps more : List Step) (at_end : DoneAtEnd heads (steps ++ more) h) where
  regrouped : (steps ++ more) ++ at_end.closing ≡ steps ++ (more ++ at_end.closing)
  regrouped = append_assoc steps more at_end.closing

  pub diary_at_end : IsMainDiary (steps ++ (more ++ at_end.closing))
  diary_at_end = subst IsMainDiary regrouped at_end.diary

  pub stamped_at_end : AreStamped 0 (steps ++ (more ++ at_end.closing))
  stamped_at_end = subst (AreStamped 0) regrouped at_end.stamped

  pub done_at_end : HasDone h main_thread (steps ++ (more ++ at_end.closing))
  done_at_end = subst (HasDone h main_thread) regrouped at_end.done

  pub edits_at_end : (looper : ℕ) → All (StandsIn (desk_list h looper)) (desk_entries looper steps)
  edits_at_end looper =
      all_front (StandsIn (desk_list h looper)) (desk_entries looper steps) (desk_entries looper more)
      (subst (All (StandsIn (desk_list h looper))) (flat_map-append (desk_entry looper) steps more) (at_end.edits looper))

-- the endings that it may have
ends_so : {A : Type 0} (played : Result A Stop) (lacked : Bool) → IsPlayEnding (ended_as played lacked)
ends_so (Ok x) true = tt
ends_so (Ok x) false = tt
ends_so (Err stop.WriteFault) lacked = tt
ends_so (Err (stop.ThreadFault told)) lacked = tt
ends_so (Err (stop.NoMemory told)) lacked = tt

-- what it has gathered
abbrev told_of : RunEnd → GatheredData
told_of end = record { outcomes = end.outcomes; tolds = end.tolds; short = end.short.sessions }

module _ {A : Type 0} (apps : List AppText) (statements : List Statement) (played : Result A Stop) (run : Run) (end : RunEnd) (old new : Option (List ℕ)) (Failed Kept : Type 0) (calls calls' : Option Calls) where
  pub is_play : IsPlayedTo apps statements (told_of end) played run old new Failed Kept calls calls' → end.short.main ≡ is_lack played → end.lines ≡ lines_after played → IsRunWith (session_count run) (heads_of apps) end.short.loopers end.histories
      → EachGotOneReply end.short.loopers end.histories → SessionsDone run end.histories → EndsAs run end.histories → ((steps : List Step) → HasDoneSoFar steps run → DoneAtEnd (heads_of apps) steps end.histories)
      → IsPlay apps statements (ended_as played (any_short end.short)) end old new Failed Kept calls calls'
  is_play to main became of_run answered sessions same did =
      let h = end.histories in
      let heads = heads_of apps in
      let lacked = any_short end.short in
      let steps = all_steps to.parts in
      let at_end = did (steps ++ to.more) to.done in
      let done = done_at_end heads h steps to.more at_end in
      let turned = carried_at_end heads run h same sessions in
      let are = parts_so (IsCarriedIn heads run) (HasCarried heads h) turned apps 0 1 statements to.parts to.are in
      let outcomes_are : end.outcomes ≡ all_outcomes to.parts ++ cut_outcomes to.cut = ap (λ (x : GatheredData). x.outcomes) to.gathered in
      let tolds_are : end.tolds ≡ all_tolds to.parts ++ cut_tolds to.cut = ap (λ (x : GatheredData). x.tolds) to.gathered in
      let cut = cut_so to.cut (slice_get statements (length to.parts)) turned (time_of 0 steps) (all_sessions to.parts + 1) to.cut_is in
      record {
        ends = ends_so played lacked;
        played = record {
          parts = to.parts;
          are = are;
          cut = to.cut;
          cut_is = cut;
          outcomes_are = outcomes_are;
          tolds_are = tolds_are;
          short_are = ap (λ (x : GatheredData). x.short) to.gathered;
          stopped = to.more;
          none_stopped = to.none_more;
          none_inside = to.none_inside;
          closing = at_end.closing;
          closes = at_end.closes;
          diary = diary_at_end heads h steps to.more at_end;
          stamped = stamped_at_end heads h steps to.more at_end;
          done = done;
          edits = edits_at_end heads h steps to.more at_end;
        };
        run_of = subst (λ (n : ℕ). IsRunWith n heads end.short.loopers h) to.sessions of_run;
        written = subst (λ (l : Lines). AreWritten l Failed Kept (first_tolds to.parts to.cut) (last_tolds to.parts to.cut) old new) (sym became) to.written;
        whole_when_done = λ done_all. became ∙ done_whole played lacked done_all;
        cut_at_a_write = λ at_a_write. became ∙ write_cuts played lacked at_a_write;
        cut_at = λ is.
            ⊎_elim (λ (at_a_write : stopped_as played ≡ ending.WriteFault). inl (write_ends played lacked at_a_write)) (λ (inside : IsSomeAnd to.cut (λ (part : Part). Unit {0})). inr inside) (to.cut_at (sym became ∙ is));
        lacking_by_main = λ is. main ∙ lacking_main played (sym became ∙ is);
        lacks_at = λ is.
            ⊎_elim (λ (lacking : lines_after played ≡ lines.Lacking). inl (became ∙ lacking)) (λ (left : length to.parts < length statements). inr left) (to.lacks_at (sym main ∙ is));
        replies = subst (λ (os : List Outcome). AreReplies end.short.loopers h os end.tolds) (sym outcomes_are)
            (subst (λ (ts : List Told). AreReplies end.short.loopers h (all_outcomes to.parts ++ cut_outcomes to.cut) ts) (sym tolds_are)
            (replies end.short.loopers h (steps ++ (to.more ++ at_end.closing)) of_run.histories.ports done answered apps statements to.parts (to.more ++ at_end.closing) (time_of 0 steps) (all_sessions to.parts + 1) (slice_get statements (length to.parts)) to.cut refl are cut));
        whole = done_so (length to.parts ≡ length statements) played lacked (λ done_all. (to.none_when_done done_all).0);
        whole_by_main = by_main (length to.parts ≡ length statements) played lacked end.short.main main (λ done_all. (to.none_when_done done_all).0);
        stopped_so = stopped_at_end apps (slice_get statements (length to.parts)) to.cut to.more played lacked to.stopped_so;
        starts = starts_at_end played lacked to.cut (threads_of apps to.parts) (thread_count run) (length h.ports.items + (all_sessions to.parts + cut_sessions to.cut)) calls calls' (omega (arith, same.loopers, to.sessions)) to.starts;
        before_last = lacking_before to.cut (λ (part : Part). IsSomeAnd (slice_get statements (length to.parts)) (λ (s : Statement). part.sessions < sessions_in s)) played lacked (λ done_all. (to.none_when_done done_all).1) to.before_last;
        stopped_nowhere = nowhere ((to.more ≡ []) × (to.cut ≡ None)) played lacked end.short.main main (λ done_all. (to.none_more (to.none_when_done done_all).0, (to.none_when_done done_all).1)) to.none_at_a_write;
        short = λ short. done_not_short played end.short lacked main refl short;
        ran_short = lacking_is_short played end.short lacked main refl;
        main_short = main_short (IsSomeAnd to.cut (λ (part : Part). Unit {0})) played lacked end.short.main main to.lacks_inside;
      }
    where
      cut_so : (c : Option Part) (o : Option Statement) → ((time n : ℕ) (ls : SessionLines) (part : SessionPart) → IsCarriedIn (heads_of apps) run time n ls part → HasCarried (heads_of apps) end.histories time n ls part) → (time from : ℕ)
          → IfSome c (λ (part : Part). IsSomeAnd o (λ (s : Statement). IsCut (IsCarriedIn (heads_of apps) run) time from s part)) → IfSome c (λ (part : Part). IsSomeAnd o (λ (s : Statement). IsCut (HasCarried (heads_of apps) end.histories) time from s part))
      cut_so None o turned time from is = tt
      cut_so (Some part) o turned time from is = some_cut_so (IsCarriedIn (heads_of apps) run) (HasCarried (heads_of apps) end.histories) turned time from o part is

  -- the same, as the calls tell it
  pub is_play_as : (apps1 : List AppText) (heads1 heads2 : List AppHead) (statements1 : List Statement) (gathered : Gathered) (end_is : Ending) → apps1 ≡ apps → heads1 ≡ heads_of apps → heads2 ≡ heads_of apps → statements1 ≡ statements
      → end.outcomes ≡ gathered.outcomes.items → end.tolds ≡ gathered.tolds.items → end.short.sessions ≡ gathered.short.items → end_is ≡ ended_as played (any_short end.short)
      → IsPlayedTo apps1 statements1 (gathered_seen gathered) played run old new Failed Kept calls calls' → end.short.main ≡ is_lack played → end.lines ≡ lines_after played
      → IsRunWith (session_count run) heads1 end.short.loopers end.histories → EachGotOneReply end.short.loopers end.histories → SessionsDone run end.histories → EndsAs run end.histories → ((steps : List Step) → HasDoneSoFar steps run → DoneAtEnd heads2 steps end.histories)
      → IsPlay apps statements end_is end old new Failed Kept calls calls'
  is_play_as apps1 heads1 heads2 statements1 gathered end_is one two three of_script outcomes tolds short ended to main became of_run answered sessions ends did =
      let same = gathered_is end.outcomes gathered.outcomes.items end.tolds gathered.tolds.items end.short.sessions gathered.short.items outcomes tolds short in
      let to_end = subst (λ (g : GatheredData). IsPlayedTo apps1 statements1 g played run old new Failed Kept calls calls') (sym same) to in
      let to_apps = subst (λ (xs : List AppText). IsPlayedTo xs statements1 (told_of end) played run old new Failed Kept calls calls') one to_end in
      let to_all = subst (λ (ss : List Statement). IsPlayedTo apps ss (told_of end) played run old new Failed Kept calls calls') of_script to_apps in
      subst (λ (e : Ending). IsPlay apps statements e end old new Failed Kept calls calls') (sym ended)
      (is_play to_all main became (subst (λ (hs : List AppHead). IsRunWith (session_count run) hs end.short.loopers end.histories) two of_run) answered sessions ends
      (λ steps done. subst (λ (hs : List AppHead). DoneAtEnd hs steps end.histories) three (did steps done)))
