-- The merged list of a run that ended is a run of worlds, and leaves the objects as the run's lists say.
use Rattle.std.proofs.Common.{◌≡◌, ◌∙◌, ℕ, List, [], filter, refl, sym, ap, subst, inl, inr}
use Rattle.ak_base.specs.Thread.{looper_thread, main_thread}
use Rattle.ak_roster.specs.declared.head.AppHead.{AppHead}
use Rattle.ak_action.specs.declared.state.DeskState.{DeskState}
use Rattle.ak_desk.specs.Laws.{StateIsOne}
use Rattle.ak_diary.specs.declared.histories.Histories.{Histories}
use Rattle.ak_diary.specs.Step.{Step}
use Rattle.ak_headline.specs.Headline.{RunsMissNone}
use Rattle.ak_headline.specs.Run.{ActsIn, HasDone, IsRunWith}
use Rattle.ak_journal.specs.declared.entry.Entry.{Entry}
use Rattle.ak_sequence.specs.Laws.{AreOpened, entries_in, is_by}
use Rattle.ak_sequence.specs.Worlds.{FirstIsSound, MergedRunsWorlds, StepsKeepSound}
use Rattle.ak_world.specs.Merged.{IsMerged}
use Rattle.ak_world.specs.World.{first_objects, first_world}
use Rattle.ak_sequence.proofs.Beginning.{all_rests, of_run, opening_is, runs_pass}
use Rattle.ak_sequence.proofs.Doing.{Doing, DoesAll, idle}
use Rattle.ak_sequence.proofs.Joining.{all_walk}
use Rattle.ak_sequence.proofs.Parts.{LoopersDo, MainDoes, SessionsDo}
use Rattle.ak_sequence.proofs.Runs.{merged_has_diaries}
use Rattle.ak_sequence.proofs.Standing.{Stands}
use Rattle.ak_sequence.proofs.Tying.{Dones, Leads, Tie}

-- ---- where nothing was done yet
abbrev no_dones : Dones
no_dones = record { ports = λ (looper : ℕ). []; desks = λ (looper : ℕ). [] }

module _ (openings : ℕ → DeskState) where
  first_stands : (thread : ℕ) → Stands (first_world openings) thread idle
  first_stands thread = record { works = λ looper is. refl; past = λ looper is one owes. absurd (cc owes); asked = λ n asks. absurd (cc asks) }

  first_leads : Leads openings (first_objects openings) no_dones
  first_leads = record { ports = λ looper. refl; desks = λ looper. record { replays = refl; count = refl } }

module _ (loopers_do : LoopersDo) (main_does : MainDoes) (sessions_do : SessionsDo) (miss_none : RunsMissNone) where
  module _ (sessions : ℕ) (heads : List AppHead) (short : List ℕ) (h : Histories) (run : IsRunWith sessions heads short h) (xs : List Entry) (merged : IsMerged h xs) (openings : ℕ → DeskState) (opened : AreOpened h openings) where
    abbrev IsTied : ℕ → Type 0
    IsTied thread = Tie short openings (first_world openings) (all_rests sessions heads short h run xs merged openings opened) no_dones thread xs

    tied : (thread : ℕ) (steps : List Step) → HasDone h thread steps → filter (is_by thread) xs ≡ entries_in steps → (last : Doing) × DoesAll short openings thread idle steps last → IsTied thread
    tied thread steps done own does = record {
      steps = steps;
      doing = idle;
      last = does.0;
      own = own;
      ports = done.at_ports;
      desks = done.at_desks;
      does = does.1;
      stands = first_stands openings thread;
    }

    each_tied : (thread : ℕ) → ActsIn h sessions thread → IsTied thread
    each_tied thread (inl (inl is)) =
        let told = merged_has_diaries sessions heads short h run xs merged in
        let missing = miss_none sessions heads short h run in
        subst IsTied (sym is) (tied main_thread run.main run.main_done told.by_main (main_does run.main run.main_diary missing.by_main short openings main_thread))
    each_tied thread (inl (inr one)) =
        let told = merged_has_diaries sessions heads short h run xs merged in
        let missing = miss_none sessions heads short h run in
        let has = run.loopers one.0 one.1 in
        subst IsTied (sym one.2) (tied (looper_thread one.0) has.steps (subst (λ (k : ℕ). HasDone h (looper_thread k) has.steps) has.number_is has.done) (told.by_looper one.0 one.1)
        (loopers_do heads short h one.0 has (missing.by_loopers one.0 one.1) openings (opening_is sessions heads short h run xs merged openings opened one.0 one.1)))
    each_tied thread (inr is) =
        let told = merged_has_diaries sessions heads short h run xs merged in
        let missing = miss_none sessions heads short h run in
        let has = run.each_session thread is in
        tied thread has.steps has.done (told.by_session thread is) (sessions_do has.steps has.diary (missing.by_sessions thread is) short openings thread)

    own_desk : (looper : ℕ) → ActsIn h sessions (looper_thread looper) → (openings looper).looper ≡ looper
    own_desk looper acts =
        let lt = of_run sessions heads short h run xs merged openings opened (looper_thread looper) acts looper refl in
        let has = run.loopers looper lt in
        ap (λ (s : DeskState). s.looper) (opening_is sessions heads short h run xs merged openings opened looper lt) ∙ has.diary.own_desk ∙ has.number_is

pub runs_worlds : FirstIsSound → StepsKeepSound → LoopersDo → MainDoes → SessionsDo → RunsMissNone → StateIsOne → MergedRunsWorlds
runs_worlds first_sound keep loopers_do main_does sessions_do miss_none one sessions heads short h run xs merged openings opened =
    let told = merged_has_diaries sessions heads short h run xs merged in
    all_walk heads short openings h (ActsIn h sessions) (own_desk loopers_do main_does sessions_do miss_none sessions heads short h run xs merged openings opened) one keep xs
    (first_world openings) (all_rests sessions heads short h run xs merged openings opened) no_dones (first_sound openings)
    (runs_pass sessions heads short h run xs merged openings opened) told.by_no_other (each_tied loopers_do main_does sessions_do miss_none sessions heads short h run xs merged openings opened) (first_leads openings)
    (record { at_roster = refl; at_book = refl; at_ports = λ looper. refl; at_desks = λ looper. record { leads = λ last replays. replays; count = refl } })
