-- A run's lists, from where nothing is launched: each object can go on by all of its list, and each looper was started before it did anything and before anything
-- was done at its desk; so the merged list passes over the objects.
use Rattle.std.proofs.Common.{◌≡◌, ◌≢◌, ◌∙◌, ℕ, zero, suc, ◌+◌, ◌<◌, ◌≤◌, ◌&&◌, nat_le, nat_lt, Bool, true, false, cond, List, [], ◌∷◌, ◌++◌, map, filter, length, All, get_or, Option, None, Some, option_map, unwrap_or, slice_get, refl, sym, ap, subst, ⊎_elim, inl, inr, append_assoc, arith, eq-eqb, eqb-true, ltb-true}
use Rattle.std.proofs.lemmas.Bool.{cases_lt, leb-true}
use Rattle.std.proofs.lemmas.List.Elements.{All-cons, All-head, All-nil, All-tail, All-weaker}
use Rattle.std.proofs.lemmas.Option.{slice_get_past}
use mathlib.Core.Logic.{dite}
use native.Mathlib.Decide.{ℕ_discrete}
use Rattle.ak_base.specs.Thread.{looper_thread, main_thread}
use Rattle.ak_turn.specs.Stamps.{Rise}
use Rattle.ak_roster.specs.declared.head.AppHead.{AppHead}
use Rattle.ak_roster.specs.declared.entry.RosterEntry.{RosterEntry}
use Rattle.ak_roster.specs.declared.entry.RosterEvent.{RosterEvent}
use Rattle.ak_roster.specs.declared.entry.LaunchOutcome.TheVariants as launch
use Rattle.ak_roster.specs.Kept.{count_of}
use Rattle.ak_roster.specs.Machine as roster
use Rattle.ak_roster.specs.Machine.{IsLegal, RosterState, after, loopers_at, state_of}
use Rattle.ak_roster.proofs.Surface.{loopers-after, started_facts}
use Rattle.ak_port.specs.PortCalls.{PortData}
use Rattle.ak_port.specs.PortMachine.{AreSteps, unmade}
use Rattle.ak_action.specs.declared.state.DeskState.{DeskState}
use Rattle.ak_desk.specs.Desk.{DeskData}
use Rattle.ak_desk.specs.Machine as desks
use Rattle.ak_diary.specs.declared.histories.Histories.{Histories}
use Rattle.ak_diary.specs.Step.{AreStamped, roster_stamp}
use Rattle.ak_headline.specs.Run.{ActsIn, HasLooper, IsRunWith, IsSession, StartedTeam, desk_list, port_list}
use Rattle.ak_journal.specs.declared.entry.Entry.{Entry}
use Rattle.ak_journal.specs.declared.entry.ObjectName.{ObjectName}
use Rattle.ak_journal.specs.declared.entry.ObjectName.TheVariants as object
use Rattle.ak_sequence.specs.Laws.{AreOpened, HasEachDiary, entries_at, entries_in, is_at, is_by}
use Rattle.ak_world.specs.Merged.{IsMerged, stamp_of, thread_of}
use Rattle.ak_world.specs.World.{first_objects}
use Rattle.ak_sequence.proofs.AtDesks.{at_own_desk}
use Rattle.ak_sequence.proofs.Diaries.{Past, diary_rises, rise_past}
use Rattle.ak_sequence.proofs.Entries.{merged_at, merged_up}
use Rattle.ak_sequence.proofs.GoingOn.{ActsFor, CanGo, DeskGoes, IsAmong, RosterGoes, There, Waits, all_go}
use Rattle.ak_sequence.proofs.Kept.{first_kept}
use Rattle.ak_sequence.proofs.Passing.{Passes, Rests, desk_named, rest_at}
use Rattle.ak_sequence.proofs.Rising.{rise_at_roster, up_earlier}
use Rattle.ak_sequence.proofs.Runs.{merged_has_diaries, rest_if}
use Rattle.ak_sequence.proofs.Started.{AtDeskLater, desk_is_later, each_later, main_is_later, session_is_later}

-- ---- the roster
module _ (heads : List AppHead) (all : List RosterEntry) (is : roster.IsHistory heads all) where
  roster_from : (done rest : List RosterEntry) → all ≡ done ++ rest → RosterGoes heads (state_of heads done) rest
  roster_from done [] parted = tt
  roster_from done (x ∷ rest) parted =
      let step = is.steps done x rest parted in
      (step.legal, subst (λ (s : RosterState). RosterGoes heads s rest) step.effect (roster_from (done ++ x ∷ []) rest (parted ∙ sym (append_assoc done (x ∷ []) rest))))

-- ---- a looper's port and desk
none_past : {T L : Type 0} (list : T → List L) (things : List T) (number : ℕ) → length things ≤ number → unwrap_or (option_map list (slice_get things number)) [] ≡ []
none_past {T} list things number le = ap (λ (o : Option T). unwrap_or (option_map list o) []) (slice_get_past things number le)

opened_so : (s d : DeskState) (o : Option DeskData) → ((desk : DeskData) → o ≡ Some desk → s ≡ desk.opening) → option_map (λ (desk : DeskData). desk.opening) o ≡ Some d → s ≡ d
opened_so s d None opens is = absurd (cc is)
opened_so s d (Some desk) opens is = let same : desk.opening ≡ d = cc is in opens desk refl ∙ same

-- ---- who starts a looper
there_at : (xs : List RosterEntry) (place : ℕ) (x : RosterEntry) → place < length xs → get_or xs place x ≡ x → There x xs
there_at [] place x lt is = absurd (omega arith)
there_at (y ∷ xs) zero x lt is = inl is
there_at (y ∷ xs) (suc place) x lt is = inr (there_at xs place x (omega arith) is)

-- which stands between these
abbrev Parted : List RosterEntry → RosterEntry → Type 0
Parted xs x = (before : List RosterEntry) × (behind : List RosterEntry) × (xs ≡ before ++ x ∷ behind)

parted_at : (xs : List RosterEntry) (place : ℕ) (x : RosterEntry) → place < length xs → get_or xs place x ≡ x → Parted xs x
parted_at [] place x lt is = absurd (omega arith)
parted_at (y ∷ xs) zero x lt is = ([], xs, ap (λ (k : RosterEntry). k ∷ xs) is)
parted_at (y ∷ xs) (suc place) x lt is = let rest = parted_at xs place x (omega arith) is in (y ∷ rest.0, rest.1, ap (λ (l : List RosterEntry). y ∷ l) rest.2)

both_are : (a b : Bool) → a && b ≡ true → (a ≡ true) × (b ≡ true)
both_are true b e = (refl, e)
both_are false b e = absurd (cc e)

module _ (p : Entry → Bool) (time : ℕ) where
  abbrev IsLater : Entry → Type 0
  IsLater e = p e ≡ true → time < stamp_of e

  first_later : (b : Bool) (x : Entry) (xs : List Entry) → Past time (cond b (x ∷ xs) xs) → b ≡ true → time < stamp_of x
  first_later true x xs past e = past.0
  first_later false x xs past e = absurd (cc e)

  rest_later : (b : Bool) (x : Entry) (xs : List Entry) → Past time (cond b (x ∷ xs) xs) → Past time xs
  rest_later true x xs past = past.1
  rest_later false x xs past = past

  all_later : (xs : List Entry) → Past time (filter p xs) → All IsLater xs
  all_later [] past = All-nil IsLater
  all_later (x ∷ xs) past = All-cons IsLater x xs (first_later (p x) x (filter p xs) past) (all_later xs (rest_later (p x) x (filter p xs) past))

-- ---- what holds of each entry by who made it, and of those at one object
module _ (P : Entry → Type 0) where
  all_by_each : (Acts : ℕ → Type 0) (xs : List Entry) → All (λ (e : Entry). Acts (thread_of e)) xs → ((thread : ℕ) → Acts thread → All P (filter (is_by thread) xs)) → All P xs
  all_by_each Acts [] acting each = All-nil P
  all_by_each Acts (x ∷ xs) acting each =
      let thread = thread_of x in
      All-cons P x xs
      (All-head P x (filter (is_by thread) xs)
      (subst (All P) (first_kept (is_by thread) x xs (eq-eqb thread thread refl)) (each thread (All-head (λ (e : Entry). Acts (thread_of e)) x xs acting))))
      (all_by_each Acts xs (All-tail (λ (e : Entry). Acts (thread_of e)) x xs acting) (λ other acts. rest_if P (is_by other x) x (filter (is_by other) xs) (each other acts)))

all_of_two : (P Q R : Entry → Type 0) → ((e : Entry) → P e → Q e → R e) → (xs : List Entry) → All P xs → All Q xs → All R xs
all_of_two P Q R both [] p q = All-nil R
all_of_two P Q R both (x ∷ xs) p q = All-cons R x xs (both x (All-head P x xs p) (All-head Q x xs q)) (all_of_two P Q R both xs (All-tail P x xs p) (All-tail Q x xs q))

-- for each looper
all_for_each : (P : ℕ → Entry → Type 0) (xs : List Entry) → ((looper : ℕ) → All (P looper) xs) → All (λ (e : Entry). (looper : ℕ) → P looper e) xs
all_for_each P [] each = All-nil (λ (e : Entry). (looper : ℕ) → P looper e)
all_for_each P (x ∷ xs) each =
    All-cons (λ (e : Entry). (looper : ℕ) → P looper e) x xs (λ looper. All-head (P looper) x xs (each looper))
    (all_for_each P xs (λ looper. All-tail (P looper) x xs (each looper)))

all_so : (P : Entry → Type 0) → ((e : Entry) → P e) → (xs : List Entry) → All P xs
all_so P so [] = All-nil P
all_so P so (x ∷ xs) = All-cons P x xs (so x) (all_so P so xs)

-- of a list of which none meets the test
module _ (p : Entry → Bool) where
  abbrev Fails : Entry → Type 0
  Fails e = p e ≡ true → ⊥

  fails_first : (b : Bool) (x : Entry) (xs : List Entry) → cond b (x ∷ xs) xs ≡ [] → b ≡ true → ⊥
  fails_first true x xs none is = absurd (cc none)
  fails_first false x xs none is = absurd (cc is)

  fails_rest : (b : Bool) (x : Entry) (xs : List Entry) → cond b (x ∷ xs) xs ≡ [] → xs ≡ []
  fails_rest true x xs none = absurd (cc none)
  fails_rest false x xs none = none

  all_fail : (xs : List Entry) → filter p xs ≡ [] → All Fails xs
  all_fail [] none = All-nil Fails
  all_fail (x ∷ xs) none = All-cons Fails x xs (fails_first (p x) x (filter p xs) none) (all_fail xs (fails_rest (p x) x (filter p xs) none))

module _ (sessions : ℕ) (heads : List AppHead) (short : List ℕ) (h : Histories) (run : IsRunWith sessions heads short h) (xs : List Entry) (merged : IsMerged h xs) (openings : ℕ → DeskState) (opened : AreOpened h openings) where
  abbrev many : ℕ
  many = length h.ports.items

  port_steps : (looper : ℕ) → looper < many → AreSteps (looper_thread looper) unmade (port_list h looper)
  port_steps looper lt = let has = run.loopers looper lt in subst (λ (n : ℕ). AreSteps (looper_thread n) unmade (port_list h looper)) has.number_is has.diary.port_legal.steps

  port_goes : (looper : ℕ) → AreSteps (looper_thread looper) unmade (port_list h looper)
  port_goes looper =
      ⊎_elim
      (λ (lt : looper < many). port_steps looper lt)
      (λ (le : many ≤ looper). subst (AreSteps (looper_thread looper) unmade) (sym (none_past (λ (port : PortData). port.entries) h.ports.items looper le)) tt)
      (cases_lt looper many)

  pub opening_is : (looper : ℕ) (lt : looper < many) → openings looper ≡ (run.loopers looper lt).facts.desk
  opening_is looper lt = opened_so (openings looper) (run.loopers looper lt).facts.desk (slice_get h.desks.items looper) (opened looper) (run.loopers looper lt).opened

  desk_steps : (looper : ℕ) → looper < many → DeskGoes looper (record { state = openings looper; dispatched = 0 }) (desk_list h looper)
  desk_steps looper lt =
      let has = run.loopers looper lt in
      let leads = has.diary.desk_legal in
      let same : openings looper ≡ has.facts.desk = opening_is looper lt in
      let number : has.facts.desk.looper ≡ looper = has.diary.own_desk ∙ has.number_is in
      (leads.state, subst (λ (s : DeskState). desks.Replays looper 0 s (desk_list h looper) leads.state) (sym same) (subst (λ (n : ℕ). desks.Replays n 0 has.facts.desk (desk_list h looper) leads.state) number leads.history.replays))

  desk_goes : (looper : ℕ) → DeskGoes looper (record { state = openings looper; dispatched = 0 }) (desk_list h looper)
  desk_goes looper =
      ⊎_elim
      (λ (lt : looper < many). desk_steps looper lt)
      (λ (le : many ≤ looper).
      let each = run.histories.each in
      subst (DeskGoes looper (record { state = openings looper; dispatched = 0 })) (sym (none_past (λ (desk : DeskData). desk.entries) h.desks.items looper (omega arith))) (openings looper, refl))
      (cases_lt looper many)

  abbrev pub all_rests : Rests
  all_rests = record { roster = h.roster.items; book = h.book; ports = λ (looper : ℕ). port_list h looper; desks = λ (looper : ℕ). desk_list h looper }

  can_go : CanGo heads (first_objects openings) all_rests
  can_go = record {
    roster = roster_from heads h.roster.items run.histories.roster [] h.roster.items refl;
    book = run.histories.book.replays;
    ports = port_goes;
    desks = desk_goes;
  }

  rests_are : (name : ObjectName) → entries_at h name ≡ rest_at all_rests name
  rests_are object.Roster = refl
  rests_are object.Book = refl
  rests_are (object.Port looper) = refl
  rests_are (object.Desk looper) = refl

  -- ---- each looper was started before it did anything
  module _ (looper : ℕ) (has : HasLooper heads short h looper) (x : RosterEntry) (team : StartedTeam has.facts x) where
    starts_it : (s : RosterState) → IsLegal heads s x.by.0 x.event → looper < length (after heads s x.by.0 x.event).loopers
    starts_it s legal =
        let e = team.2 in
        let due : launch.Started team.1 has.facts.team has.facts.first ≡ roster.launch_of heads s team.0 = subst (λ (what : RosterEvent). IsLegal heads s x.by.0 what) e legal in
        let first_is : has.facts.first ≡ length s.loopers = (started_facts heads s team.0 team.1 has.facts.team has.facts.first (sym due)).first_is in
        let more : length (after heads s x.by.0 x.event).loopers ≡ length s.loopers + loopers_at heads team.1 = loopers-after heads s x.by.0 x.event ∙ ap (λ (what : RosterEvent). length s.loopers + count_of heads what) e in
        let size : loopers_at heads team.1 ≡ has.facts.loopers = ap (λ (hs : List AppHead). loopers_at hs team.1) (sym has.heads_are) ∙ team.3 in
        let within = both_are (nat_le has.facts.first looper) (nat_lt looper (has.facts.first + has.facts.loopers)) has.of_team in
        let lt : looper < has.facts.first + has.facts.loopers = ltb-true looper (has.facts.first + has.facts.loopers) within.1 in
        omega arith

    fewer_before : (s : RosterState) → IsLegal heads s x.by.0 x.event → length s.loopers ≤ looper
    fewer_before s legal =
        let e = team.2 in
        let due : launch.Started team.1 has.facts.team has.facts.first ≡ roster.launch_of heads s team.0 = subst (λ (what : RosterEvent). IsLegal heads s x.by.0 what) e legal in
        let first_is : has.facts.first ≡ length s.loopers = (started_facts heads s team.0 team.1 has.facts.team has.facts.first (sym due)).first_is in
        let within = both_are (nat_le has.facts.first looper) (nat_lt looper (has.facts.first + has.facts.loopers)) has.of_team in
        let le : has.facts.first ≤ looper = leb-true has.facts.first looper within.0 in
        omega arith

  -- ---- and before anything was done at its desk
  abbrev told : HasEachDiary sessions heads short h run xs
  told = merged_has_diaries sessions heads short h run xs merged

  module _ (looper : ℕ) (lt : looper < many) where
    abbrev its : HasLooper heads short h looper
    its = run.loopers looper lt

    abbrev start : RosterEntry
    start = its.started.1

    parted : Parted h.roster.items start
    parted = parted_at h.roster.items its.started.0 start its.started.2 its.started.3

    fewer : length (state_of heads parted.0).loopers ≤ looper
    fewer = fewer_before looper its start its.started.4.0 (state_of heads parted.0) (run.histories.roster.steps parted.0 start parted.1 parted.2).legal

    abbrev Later : Entry → Type 0
    Later = AtDeskLater looper start.stamp

    own_later : All Later (entries_in its.steps)
    own_later =
        each_later looper start.stamp its.steps
        (λ before n behind is. subst (λ (time : ℕ). time < n.entry.plain.stamp) (sym its.started.4.1) (desk_is_later its.time before looper n behind (subst (AreStamped its.time) is its.stamped)))

    other_later : (other : ℕ) (is : other < many) → other ≢ looper → All Later (entries_in (run.loopers other is).steps)
    other_later other is ne =
        let has = run.loopers other is in
        each_later looper start.stamp has.steps
        (λ before n behind there. absurd (ne (sym (at_own_desk has.facts has.steps has.diary.legal before looper n behind there ∙ has.number_is))))

    looper_later : (other : ℕ) → other < many → All Later (filter (is_by (looper_thread other)) xs)
    looper_later other is =
        dite (ℕ_discrete other looper)
        (λ (same : other ≡ looper). subst (λ (k : ℕ). All Later (filter (is_by (looper_thread k)) xs)) (sym same) (subst (All Later) (sym (told.by_looper looper lt)) own_later))
        (λ (ne : other ≢ looper). subst (All Later) (sym (told.by_looper other is)) (other_later other is ne))

    rising : Rise roster_stamp 0 h.roster.items
    rising = rise_at_roster heads h run.histories

    main_later : All Later (filter (is_by main_thread) xs)
    main_later =
        subst (All Later) (sym told.by_main)
        (each_later looper start.stamp run.main
        (main_is_later heads h run.histories.roster rising parted.0 start parted.1 parted.2 looper fewer main_thread 0 run.main run.main_stamped run.main_done run.main_edits))

    session_later : (number : ℕ) → IsSession sessions number → All Later (filter (is_by number) xs)
    session_later number is =
        let has = run.each_session number is in
        subst (All Later) (sym (told.by_session number is))
        (each_later looper start.stamp has.steps
        (session_is_later heads h run.histories.roster rising parted.0 start parted.1 parted.2 looper fewer number has.time has.steps has.stamped has.done has.diary))

    thread_later : (thread : ℕ) → ActsIn h sessions thread → All Later (filter (is_by thread) xs)
    thread_later thread (inl (inl is)) = subst (λ (k : ℕ). All Later (filter (is_by k) xs)) (sym is) main_later
    thread_later thread (inl (inr one)) = subst (λ (k : ℕ). All Later (filter (is_by k) xs)) (sym one.2) (looper_later one.0 one.1)
    thread_later thread (inr is) = session_later thread is

    desk_later : All Later xs
    desk_later = all_by_each Later (ActsIn h sessions) xs told.by_no_other thread_later

  waits : (looper : ℕ) → looper < many → Waits heads looper xs h.roster.items
  waits looper lt =
      let has = run.loopers looper lt in
      let started = has.started in
      let past : Past has.time (entries_in has.steps) = rise_past has.time has.time (entries_in has.steps) (omega arith) (diary_rises has.time has.steps has.stamped) in
      let later = all_later (is_by (looper_thread looper)) has.time xs (subst (Past has.time) (sym (told.by_looper looper lt)) past) in
      record {
        start = started.1;
        there = there_at h.roster.items started.0 started.1 started.2 started.3;
        starts = starts_it looper has started.1 started.4.0;
        later =
            all_of_two (IsLater (is_by (looper_thread looper)) started.1.stamp) (AtDeskLater looper started.1.stamp) (λ (e : Entry). ActsFor looper e → started.1.stamp < stamp_of e)
            (λ e own at_desk acts. ⊎_elim (λ (by : is_by (looper_thread looper) e ≡ true). own by) (λ (at : is_at (object.Desk looper) e ≡ true). at_desk at) acts) xs
            (subst (λ (n : ℕ). All (IsLater (is_by (looper_thread looper)) n) xs) (sym started.4.1) later) (desk_later looper lt);
      }

  -- an entry by a looper's thread is by that of one of the run
  pub of_run : (thread : ℕ) → ActsIn h sessions thread → (looper : ℕ) → thread ≡ looper_thread looper → looper < many
  of_run thread (inl (inl main)) looper is = absurd (omega (arith, main, is))
  of_run thread (inl (inr one)) looper is = let lt = one.1 in let e = one.2 in omega arith
  of_run thread (inr session) looper is = let le = session.1 in let few = run.few_sessions in absurd (omega arith)

  -- and one at a desk is at that of a looper of the run
  at_run_desk : (looper : ℕ) → All (λ (e : Entry). is_at (object.Desk looper) e ≡ true → looper < many) xs
  at_run_desk looper =
      ⊎_elim
      (λ (lt : looper < many). all_so (λ (e : Entry). is_at (object.Desk looper) e ≡ true → looper < many) (λ e at. lt) xs)
      (λ (le : many ≤ looper).
      let each = run.histories.each in
      let none : desk_list h looper ≡ [] = none_past (λ (desk : DeskData). desk.entries) h.desks.items looper (omega arith) in
      All-weaker (Fails (is_at (object.Desk looper))) (λ (e : Entry). is_at (object.Desk looper) e ≡ true → looper < many) (λ e fails at. absurd (fails at)) xs
      (all_fail (is_at (object.Desk looper)) xs (merged_at heads h run.histories xs merged (object.Desk looper) ∙ ap (map (desk_named looper)) none)))
      (cases_lt looper many)

  among_run : All (IsAmong heads many) xs
  among_run =
      all_of_two (λ (e : Entry). ActsIn h sessions (thread_of e)) (λ (e : Entry). (looper : ℕ) → is_at (object.Desk looper) e ≡ true → looper < many) (IsAmong heads many)
      (λ e acts at_desk looper.
      ⊎_elim
      (λ (by : is_by (looper_thread looper) e ≡ true). of_run (thread_of e) acts looper (eqb-true (thread_of e) (looper_thread looper) by))
      (λ (at : is_at (object.Desk looper) e ≡ true). at_desk looper at))
      xs told.by_no_other (all_for_each (λ (looper : ℕ) (e : Entry). is_at (object.Desk looper) e ≡ true → looper < many) xs at_run_desk)

  pub runs_pass : Passes heads (first_objects openings) all_rests xs
  runs_pass =
      all_go heads many xs (first_objects openings) all_rests can_go
      (λ name. merged_at heads h run.histories xs merged name ∙ rests_are name)
      (up_earlier xs (merged_up h xs merged))
      among_run
      (λ looper lt. inr (waits looper lt))
