-- Behind main's turn at the roster, in which it launched.
use Rattle.std.proofs.Common.{◌≡◌, ℕ, ◌+◌, ◌<◌, ◌≤◌, List, [], ◌∷◌, ◌++◌, length, length-append, map, Option, None, Some, refl, sym, ap, ◌∙◌, subst, append-nil, inl, inr, arith, All}
use Rattle.std.proofs.lemmas.List.Elements.{All-head}
use Rattle.std.proofs.lemmas.List.{length-map}
use Rattle.std.specs.Prelude.{slice_get}
use Rattle.std.specs.List.{Any, find}
use Rattle.ak_base.specs.declared.app_word.AppWord.{AppWord}
use Rattle.ak_message.specs.Message.{MessageData}
use Rattle.ak_turn.specs.Noted.{note, noted}
use Rattle.ak_base.specs.Thread.{main_thread}
use Rattle.ak_turn.specs.Seats.{IsGiven, IsNext, KnowsWhole, at_leisure, entered_by}
use Rattle.ak_roster.specs.declared.answer.FindAnswer.{FindAnswer}
use Rattle.ak_roster.specs.declared.answer.FindAnswer.TheVariants as found_by
use Rattle.ak_roster.specs.declared.entry.EntryWithObjects.{EntryWithObjects}
use Rattle.ak_roster.specs.declared.entry.LaunchOutcome.{LaunchOutcome}
use Rattle.ak_roster.specs.declared.entry.LaunchOutcome.TheVariants as outcome
use Rattle.ak_roster.specs.declared.entry.RosterEntry.{RosterEntry}
use Rattle.ak_roster.specs.declared.entry.RosterEvent.{RosterEvent}
use Rattle.ak_roster.specs.declared.entry.RosterEvent.TheVariants as event
use Rattle.ak_roster.specs.declared.team.Running.{Running}
use Rattle.ak_roster.specs.Heads.{team_for}
use Rattle.ak_roster.specs.Machine.{outcome_found, runs_team, state_of}
use Rattle.ak_roster.specs.Roster.{objects_of, plain_entries, state}
use Rattle.ak_describe.specs.Whole.{heads_of}
use Rattle.ak_diary.specs.Step.{Step, at_roster, desk_entries, desk_entry, saw_roster}
use Rattle.ak_headline.specs.Run.{roster_maker}
use Rattle.ak_describe.specs.declared.described.AppText.{AppText}
use Rattle.ak_port.specs.declared.port_entry.PortEntry.{PortEntry}
use Rattle.ak_looper.specs.Rosters.{Object, RosterSeat, by_number, plain_of}
use Rattle.ak_session.specs.declared.answers.Found.{Found}
use Rattle.ak_team.specs.declared.launching.Launch.{Launch}
use Rattle.ak_team.specs.declared.launching.Launch.TheVariants as launch
use Rattle.ak_team.specs.declared.launching.StartedTeam.{StartedTeam}
use Rattle.ak_looper.specs.declared.shared.Shared.{Shared}
use Rattle.ak_run.specs.declared.run.Run.{Run}
use Rattle.ak_run.specs.Closing.{ClosesSo, EntersGone, FindsGone, IsRecordedAtRoster, LeavesBook, LeavesSo}
use Rattle.ak_looper.specs.Counting.{started_by_main}
use Rattle.ak_team.specs.Launching.{Book, ByMain, ComesTo, HasEntered, HasStarted, IsTurnInTime, LaunchInTime, TellsTeam, turn_step}
use Rattle.ak_run.specs.Doing.{DoesSo, LaunchesAt, desk_front}
use Rattle.ak_session.specs.Doing.{FindsAt, FoundSo}
use Rattle.ak_run.specs.Entering.{DoesWith, EntersLaunch, EntersRunning, LaunchesLast}
use Rattle.ak_run.specs.Finding.{LooksUp}
use Rattle.ak_session.specs.Calls.{IsFoundAt}
use Rattle.ak_team.specs.Greeting.{at_looper, capacities_in, made_from, start_entries, told_first, written_from}
use Rattle.ak_looper.specs.Starts.{StartsAt}
use Rattle.ak_team.specs.Jobs.{facts_in}
use Rattle.ak_team.specs.NewTeam.{IsNewTeam, IsOneOf}
use Rattle.ak_run.specs.Recording.{GoesBy, fronts, fronts_of, fronts_with}
use Rattle.ak_gather.specs.Members.{member_front}
use Rattle.ak_team.specs.InTime.{new_front, team_fronts}
use Rattle.ak_run.specs.Running.{IsRunning, KeepsRest, Stands}
use Rattle.ak_run.specs.Starting.{HasEnteredLaunch, launched_fronts}
use Rattle.ak_run.proofs.Acting.{turn_no_edits}
use Rattle.ak_run.proofs.Acts.{goes_then, sees_roster}
use Rattle.ak_gather.proofs.Surface.{nothing_after, some_same}
use Rattle.ak_run.proofs.Doing.{does_with}
use Rattle.ak_run.proofs.GoingOn.{last_of, plain_on, same_desks}
use Rattle.ak_run.proofs.Opened.{launch_seen}
use Rattle.ak_run.proofs.PortsAtStart.{MakesPorts, team_begins}
use Rattle.ak_team.proofs.Surface.{one_at_least, plain-append, all_paired, own_ways}
use Rattle.ak_run.proofs.Recorded.{no_event, one_event, record_on, turn_goes}
use Rattle.ak_run.proofs.RosterTurn.{RosterOn, goes_on, sees_all, started_at_turn}
use Rattle.ak_run.proofs.Standing.{BookOn, same_loopers, stands_on}
use Rattle.ak_looper.proofs.Surface.{object}

-- whatever it comes to, main entered one entry or none
pub comes_entered : (apps : List AppText) (shared : Shared) (word : AppWord) (book book' : Book) (l : Launch) → ComesTo apps shared word book book' l → (what : Option RosterEvent) × (n : ℕ) × HasEntered what n book book'
comes_entered apps shared word book book' (launch.Started t) comes = (Some (event.Launch word (outcome.Started comes.description t.team.number t.team.first)), t.team.loopers, comes.entered)
comes_entered apps shared word book book' (launch.Running team first) comes = (Some (event.Launch word (outcome.AlreadyRunning team)), 0, comes.0)
comes_entered apps shared word book book' launch.NotFound comes = (Some (event.Launch word outcome.NotFound), 0, comes)
comes_entered apps shared word book book' launch.Limit comes = (Some (event.Launch word outcome.Limit), 0, comes)
comes_entered apps shared word book book' launch.NoMemory comes = (None, 0, comes)

-- so the turn may be passed on
pub is_next : (what : Option RosterEvent) (n : ℕ) (seat : RosterSeat) (book book' : Book) → HasEntered what n book book' → book.entries ≡ seat.front → seat.thread ≡ main_thread → IsNext by_number seat book'.entries
is_next what n seat book book' entered list thread = by_added entered.added entered.one entered.by_main (entered.entries ∙ ap (λ l. l ++ entered.added) list)
  where
    by_added : (added : List (EntryWithObjects Object)) → length added ≤ 1 → All (λ (entry : EntryWithObjects Object). entry.plain.by.0 ≡ main_thread) added → book'.entries ≡ seat.front ++ added → IsNext by_number seat book'.entries
    by_added [] few mine is = inl (is ∙ append-nil seat.front)
    by_added (x ∷ []) few mine is = inr (x, is, All-head (λ (entry : EntryWithObjects Object). entry.plain.by.0 ≡ main_thread) x [] mine ∙ sym thread)
    by_added (x ∷ y ∷ zs) few mine is = absurd (omega (arith, few))

-- that entry is the last that main has seen, at its place
abbrev pub launches_at : (word : AppWord) (came : LaunchOutcome) (r : Run) (place : ℕ) (steps : List Step) → length r.roster_seat.front ≡ place + 1 → LaunchesLast word came r steps → LaunchesAt word came place steps
launches_at word came r place steps seen is = record {
  noted = is.noted;
  event_is = is.event_is;
  place_is = last_of (plain_of r.roster_seat) is.noted.before is.noted.entry place is.last (length-map r.roster_seat.front (λ (entry : EntryWithObjects Object). entry.plain) ∙ seen);
  is = is.is;
}

pub has_last : (word : AppWord) (came : LaunchOutcome) (r : Run) (steps : List Step) → LaunchesLast word came r steps → 1 ≤ length r.roster_seat.front
has_last word came r steps is = omega (arith, ap length is.last, length-append is.noted.before (is.noted.entry ∷ []), length-map r.roster_seat.front (λ (entry : EntryWithObjects Object). entry.plain))

-- before a turn of main's at the roster as many loopers were started as there are members
pub loopers_counted : (r : Run) (is : IsRunning r) (given seat' : RosterSeat) (book book' : Book) (opening : r.roster_seat.opening ≡ Some book.heads) (seen : IsGiven by_number r.roster_seat given) (known : KnowsWhole by_number given) (list : book.entries ≡ given.front)
    (same : book'.entries ≡ given.front → seat' ≡ at_leisure given) (one : (x : EntryWithObjects Object) → book'.entries ≡ given.front ++ x ∷ [] → seat' ≡ at_leisure (entered_by given x)) (knows : KnowsWhole by_number given → KnowsWhole by_number seat') (by_main : ByMain book)
    (what : Option RosterEvent) (n : ℕ) (entered : HasEntered what n book book') → length (state book).loopers ≡ length r.members.items
loopers_counted r is given seat' book book' opening seen known list same one knows by_main what n entered =
    by_main ∙ started_at_turn r.roster_seat given seat' book book' n r.roster_idle (r.roster_thread ∙ r.main) seen known list what entered same one knows
    ∙ ap (λ h. started_by_main h r.roster_seat) (some_same book.heads is.heads (sym opening ∙ is.stands.opening)) ∙ is.all

-- a turn of main's at the roster
module _ (r r' : Run) (is : IsRunning r) (keeps : KeepsRest r r') (members : r'.members ≡ r.members) (book_on : BookOn r r') (replies : r'.hands.book_seat.front ≡ r.hands.book_seat.front) (given : RosterSeat) (book book' : Book) (opening : r.roster_seat.opening ≡ Some book.heads)
    (seen : IsGiven by_number r.roster_seat given) (known : KnowsWhole by_number given) (list : book.entries ≡ given.front) (same : book'.entries ≡ given.front → r'.roster_seat ≡ at_leisure given)
    (one : (x : EntryWithObjects Object) → book'.entries ≡ given.front ++ x ∷ [] → r'.roster_seat ≡ at_leisure (entered_by given x)) (knows : KnowsWhole by_number given → KnowsWhole by_number r'.roster_seat) (by_main : ByMain book) where
  heads_same : book.heads ≡ is.heads
  heads_same = some_same book.heads is.heads (sym opening ∙ is.stands.opening)

  thread : r.roster_seat.thread ≡ main_thread
  thread = r.roster_thread ∙ r.main

  -- main's time went on by that entry alone
  abbrev InTime : Type 0
  InTime = IsTurnInTime r.hands.clock.time r'.hands.clock.time book book'

  module _ (what : Option RosterEvent) (n : ℕ) (entered : HasEntered what n book book') where
    on : RosterOn is.heads n r.roster_seat r'.roster_seat
    on = subst (λ h. RosterOn h n r.roster_seat r'.roster_seat) heads_same (goes_on r.roster_seat given r'.roster_seat book book' n r.roster_idle thread seen known list what entered same one knows)

    whole : r'.roster_seat.front ≡ book'.entries
    whole = sees_all r.roster_seat given r'.roster_seat book book' n r.roster_idle thread seen known list what entered same one knows

    now : Stands (length r'.members.items) is.heads r'
    now = subst (λ k. Stands k is.heads r') (ap (λ v. length v.items) (sym members)) (stands_on (length r.members.items) is.heads n r r' keeps on book_on (same_loopers (length r.members.items) is.heads r r' members is.stands) is.stands)

    -- before it as many loopers were started as there are members
    count : length (state book).loopers ≡ length r.members.items
    count = loopers_counted r is given r'.roster_seat book book' opening seen known list same one knows by_main what n entered

    count' : length r'.members.items ≡ length r.members.items
    count' = ap (λ v. length v.items) members

    started : started_by_main is.heads r'.roster_seat ≡ length r'.members.items + n
    started = on.started ∙ ap (λ m. m + n) (is.all ∙ sym count')

    abbrev turn_steps : List Step
    turn_steps = map (turn_step book.entries) entered.added

    -- main's turn is one act of its own at most
    turn_beside : (time : ℕ) → IsTurnInTime time r'.hands.clock.time book book' → (new : List (List PortEntry)) → GoesBy turn_steps (fronts time (plain_of r.roster_seat) r.hands.book_seat.front (map member_front r.members.items ++ new)) (fronts_with r' new)
    turn_beside time in_time new =
        let ports = map member_front r.members.items ++ new in
        let later = r'.hands.clock.time in
        subst (GoesBy turn_steps (fronts time (plain_of r.roster_seat) r.hands.book_seat.front ports))
        (sym (ap (λ l. fronts later (plain_of r'.roster_seat) l (map member_front r'.members.items ++ new)) replies ∙ ap (λ v. fronts later (plain_of r'.roster_seat) r.hands.book_seat.front (map member_front v.items ++ new)) members))
        (turn_goes r.roster_seat given r'.roster_seat book book' n r.roster_idle thread seen known list what entered same one knows time later in_time r.hands.book_seat.front ports)

    does_turn : InTime → (P : List Step → Type 0) → P turn_steps → DoesWith P [] r r'
    does_turn in_time P so = record {
      steps = turn_steps;
      so = so;
      goes = turn_beside r.hands.clock.time in_time [];
      no_edits = turn_no_edits book.entries entered.added;
      roster_on = plain_on r.roster_seat r'.roster_seat on.on;
      desks_on = same_desks r r' members;
    }

  -- no looper was started
  pub runs_on : InTime → (what : Option RosterEvent) → HasEntered what 0 book book' → IsRunning r'
  runs_on in_time what entered = record {
    heads = is.heads;
    stands = now what 0 entered;
    all = started what 0 entered ∙ nothing_more (length r'.members.items);
    recorded = record_on is.heads (fronts_of r) (fronts_of r') (desk_front r) (desk_front r') (record { steps = map (turn_step book.entries) entered.added; goes = turn_beside what 0 entered r.hands.clock.time in_time []; no_edits = turn_no_edits book.entries entered.added })
        (same_desks r r' members).same is.recorded;
  }
    where
      nothing_more : (m : ℕ) → m + 0 ≡ m
      nothing_more m = omega arith

  -- as many loopers as there are members, before the turn
  pub count_before : (what : Option RosterEvent) → HasEntered what 0 book book' → length (state book).loopers ≡ length r'.members.items
  count_before what entered = count what 0 entered ∙ sym (count' what 0 entered)

  -- ---- a look-up
  pub finds : InTime → (word : AppWord) (found : Option Running) (place : ℕ) → HasEntered (Some (event.Find word (outcome_found found))) 0 book book' → team_for book.heads (state book).running word ≡ found → length r'.roster_seat.front ≡ place + 1
      → DoesSo (FindsAt (heads_of r.apps.items) word found place) r r'
  finds in_time word found place entered is_found at =
      let what = event.Find word (outcome_found found) in
      let x = one_event what entered.added entered.events in
      let before = plain_entries book.entries in
      let heads : book.heads ≡ heads_of r.apps.items = heads_same ∙ is.stands.heads_are in
      let so : FindsAt (heads_of r.apps.items) word found place (map (turn_step book.entries) entered.added) = record {
        noted = note before x.0.plain;
        event_is = x.2;
        running_is = sym is_found ∙ ap (λ hs. team_for hs (state_of hs before).running word) heads;
        place_is = last_of r'.roster_seat.front book.entries x.0 place (whole (Some what) 0 entered ∙ entered.entries ∙ ap (λ l. book.entries ++ l) x.1) at ∙ sym (length-map book.entries (λ (entry : EntryWithObjects Object). entry.plain));
        is = ap (map (turn_step book.entries)) x.1;
      } in
      does_with (FindsAt (heads_of r.apps.items) word found place) (FindsAt (heads_of r.apps.items) word found place) r r' (λ steps does. does) (does_turn (Some what) 0 entered in_time (FindsAt (heads_of r.apps.items) word found place) so)

  pub finds_nothing : InTime → HasEntered None 0 book book' → DoesSo (λ steps. steps ≡ []) r r'
  finds_nothing in_time entered =
      let none : map (turn_step book.entries) entered.added ≡ [] = ap (map (turn_step book.entries)) (no_event entered.added entered.events) in
      does_with (λ steps. steps ≡ []) (λ steps. steps ≡ []) r r' (λ steps does. does) (does_turn None 0 entered in_time (λ steps. steps ≡ []) none)

  -- whatever it comes to
  pub found_does : InTime → (word : AppWord) (a : FindAnswer) (result : Found) → LooksUp word a book book' → IsFoundAt a (length r'.roster_seat.front) result → DoesSo (FoundSo (heads_of r.apps.items) word result) r r'
  found_does in_time word (found_by.Team team first loopers) result looks at =
      let does = finds in_time word (Some (record { team = team; description = looks.0; first = first; loopers = loopers })) at.0 looks.2 looks.1 at.2 in
      subst (λ (f : Found). DoesSo (FoundSo (heads_of r.apps.items) word f) r r') (sym at.1) (record { steps = does.steps; so = (looks.0, does.so); does = does.does })
  found_does in_time word found_by.NoTeam result looks at = subst (λ (f : Found). DoesSo (FoundSo (heads_of r.apps.items) word f) r r') (sym at.1) (finds in_time word None at.0 looks.1 looks.0 at.2)
  found_does in_time word found_by.NoMemory result looks at = subst (λ (f : Found). DoesSo (FoundSo (heads_of r.apps.items) word f) r r') (sym at) (finds_nothing in_time looks)

  -- ---- a team is ended
  -- by such steps, at the roster alone
  closes : (P : List Step → List Step → Type 0) (steps : List Step) → ((so_far : List Step) → IsRecordedAtRoster so_far r → P so_far steps) → GoesBy steps (fronts_of r) (fronts_of r') → ((looper : ℕ) → desk_entries looper steps ≡ []) → ClosesSo P r r'
  closes P steps so goes no_edits = record { steps = steps; so = so; goes = goes; no_edits = no_edits }

  pub leaves : InTime → (team : ℕ) (o : Option Running) → LeavesBook team o book book' → ClosesSo (λ so_far. LeavesSo (heads_of r.apps.items) so_far team o) r r'
  leaves in_time team (Some running) left =
      let what = Some (event.Gone team) in
      let entered = left.1 in
      let x = one_event (event.Gone team) entered.added entered.events in
      let before = plain_entries book.entries in
      let heads : book.heads ≡ heads_of r.apps.items = heads_same ∙ is.stands.heads_are in
      let n = note before x.0.plain in
      let steps : List Step = at_roster n ∷ [] in
      let goes : GoesBy steps (fronts_of r) (fronts_of r') = subst (λ (l : List (EntryWithObjects Object)). GoesBy (map (turn_step book.entries) l) (fronts_of r) (fronts_of r')) x.1 (turn_beside what 0 entered r.hands.clock.time in_time []) in
      closes (λ so_far. EntersGone (heads_of r.apps.items) team running) steps (λ so_far is_told. record { noted = n; event_is = x.2; runs = ap (λ hs. find (runs_team team) (state_of hs before).running) (sym heads) ∙ left.0; is = refl }) goes (λ looper. refl)
  leaves in_time team None left =
      let entered = left.1 in
      let seen = plain_of r'.roster_seat in
      let steps : List Step = saw_roster seen ∷ [] in
      let none = no_event entered.added entered.events in
      let list : seen ≡ plain_entries book.entries = ap (λ (l : List (EntryWithObjects Object)). plain_entries l) (whole None 0 entered ∙ entered.entries ∙ ap (λ l. book.entries ++ l) none ∙ append-nil book.entries) in
      let heads : book.heads ≡ heads_of r.apps.items = heads_same ∙ is.stands.heads_are in
      let quiet : GoesBy [] (fronts_of r) (fronts_of r') = subst (λ (l : List (EntryWithObjects Object)). GoesBy (map (turn_step book.entries) l) (fronts_of r) (fronts_of r')) none (turn_beside None 0 entered r.hands.clock.time in_time []) in
      let goes : GoesBy steps (fronts_of r) (fronts_of r') = sees_roster team (fronts_of r) (fronts_of r') quiet in
      closes (λ so_far. FindsGone (heads_of r.apps.items) so_far team) steps
      (λ so_far is_told. record { seen = seen; mine = quiet.roster ∙ append-nil (noted roster_maker main_thread (plain_of r.roster_seat)) ∙ is_told; gone = ap (λ (l : List RosterEntry). find (runs_team team) (state_of (heads_of r.apps.items) l).running) list ∙ ap (λ hs. find (runs_team team) (state_of hs (plain_entries book.entries)).running) (sym heads) ∙ left.0; is = refl })
      goes (λ looper. refl)

  -- ---- a launch
  module _ (word : AppWord) where
    abbrev last_there : (came : LaunchOutcome) (n : ℕ) (entered : HasEntered (Some (event.Launch word came)) n book book') → LaunchesLast word came r' (map (turn_step book.entries) entered.added)
    last_there came n entered =
        let what = event.Launch word came in
        let x = one_event what entered.added entered.events in
        record {
          noted = note (plain_entries book.entries) x.0.plain;
          event_is = x.2;
          last = ap (λ (l : List (EntryWithObjects Object)). plain_entries l) (whole (Some what) n entered ∙ entered.entries ∙ ap (λ l. book.entries ++ l) x.1) ∙ plain-append book.entries (x.0 ∷ []);
          is = ap (map (turn_step book.entries)) x.1;
        }

    launches_last : InTime → (came : LaunchOutcome) → HasEntered (Some (event.Launch word came)) 0 book book' → DoesWith (LaunchesLast word came r') [] r r'
    launches_last in_time came entered = does_turn (Some (event.Launch word came)) 0 entered in_time (LaunchesLast word came r') (last_there came 0 entered)

    module _ (arguments : Option MessageData) where
      -- a team runs
      running_last : InTime → (team first : ℕ) → HasEntered (Some (event.Launch word (outcome.AlreadyRunning team))) 0 book book' → TellsTeam r.apps.items arguments word book (launch.Running team first) → DoesWith (EntersRunning r.apps.items word team first r') [] r r'
      running_last in_time team first entered told =
          let came = outcome.AlreadyRunning team in
          let heads : book.heads ≡ heads_of r.apps.items = heads_same ∙ is.stands.heads_are in
          let runs : find (runs_team team) (state_of (heads_of r.apps.items) (plain_entries book.entries)).running ≡ Some told.0 = ap (λ hs. find (runs_team team) (state_of hs (plain_entries book.entries)).running) (sym heads) ∙ told.1 in
          does_turn (Some (event.Launch word came)) 0 entered in_time (EntersRunning r.apps.items word team first r') (record { launches = last_there came 0 entered; running = told.0; runs = runs; first_is = told.2 })

      -- the ports of a team were made, its first looper was greeted, and its launch entered
      team_enters : (t : StartedTeam) → HasStarted r.apps.items r.shared word book book' t → TellsTeam r.apps.items arguments word book (launch.Started t) → LaunchInTime r.hands.clock.time r'.hands.clock.time book book' (launch.Started t)
          → DoesWith (EntersLaunch r.apps.items word arguments (launch.Started t) r') (team_fronts t.new) r r'
      team_enters t h told in_time =
          let came = outcome.Started h.description t.team.number t.team.first in
          let what = Some (event.Launch word came) in
          let ports = map member_front r.members.items in
          let new = team_fronts t.new in
          let greeted = told.2 in
          let same : outcome.Started told.0 t.team.number t.team.first ≡ came = sym told.1 ∙ h.starts in
          let place : told.0 ≡ h.description = cc same in
          let first : length ports ≡ t.team.first = length-map r.members.items member_front ∙ sym (h.first ∙ count what t.team.loopers h.entered) in
          let capacities = capacities_in greeted.app.loopers in
          let written = written_from 0 (told_first arguments) in
          let time = r.hands.clock.time in
          let between = in_time.0 in
          let made_to = fronts between (plain_of r.roster_seat) r.hands.book_seat.front (ports ++ new) in
          let made : MakesPorts (start_entries t.team.first capacities arguments) (fronts_of r) made_to =
          subst (λ (l : List (List PortEntry)). MakesPorts (start_entries t.team.first capacities arguments) (fronts time (plain_of r.roster_seat) r.hands.book_seat.front l) made_to) (sym (append-nil ports))
          (subst (λ (n : ℕ). MakesPorts (made_from n capacities ++ at_looper n written) (fronts time (plain_of r.roster_seat) r.hands.book_seat.front ports) made_to) first
          (team_begins (plain_of r.roster_seat) r.hands.book_seat.front time between ports capacities written new (one_at_least (new_front t.new.own) (map new_front t.new.others.items)) greeted.ports in_time.1)) in
          let turn = map (turn_step book.entries) h.entered.added in
          let app_there : slice_get r.apps.items h.description ≡ Some greeted.app = subst (λ (n : ℕ). slice_get r.apps.items n ≡ Some greeted.app) place greeted.described in
          let same_app : greeted.app ≡ h.described.app = some_same greeted.app h.described.app (sym app_there ∙ h.described.there) in
          record {
            steps = made.steps ++ turn;
            so = record {
              description = h.description;
              app = greeted.app;
              described = app_there;
              count = ap (λ (a : AppText). length a.loopers) same_app ∙ ap length (sym h.described.plans_are) ∙ sym h.count;
              ports = made.steps;
              enters = made.enters;
              entry = turn;
              launches = last_there came t.team.loopers h.entered;
              is = refl;
            };
            goes = goes_then made.steps turn (fronts_of r) made_to (fronts_with r' new) made.goes (turn_beside what t.team.loopers h.entered between in_time.2 new);
            no_edits = λ looper. nothing_after (desk_entry looper) made.steps turn (made.no_edits looper) (turn_no_edits book.entries h.entered.added looper);
            roster_on = plain_on r.roster_seat r'.roster_seat (on what t.team.loopers h.entered).on;
            desks_on = same_desks r r' members;
          }

      -- so what main did, whatever it comes to
      pub enters : (l : Launch) → ComesTo r.apps.items r.shared word book book' l → TellsTeam r.apps.items arguments word book l → LaunchInTime r.hands.clock.time r'.hands.clock.time book book' l → DoesWith (EntersLaunch r.apps.items word arguments l r') (launched_fronts l) r r'
      enters (launch.Started t) comes told in_time = team_enters t comes told in_time
      enters (launch.Running team first) comes told in_time = running_last in_time team first comes.0 told
      enters launch.NotFound comes told in_time = launches_last in_time outcome.NotFound comes
      enters launch.Limit comes told in_time = launches_last in_time outcome.Limit comes
      enters launch.NoMemory comes told in_time =
          does_turn None 0 comes in_time (λ steps. steps ≡ []) (ap (map (turn_step book.entries)) (no_event comes.added comes.events))

      -- a team was started
      team_starts : (t : StartedTeam) → HasStarted r.apps.items r.shared word book book' t → TellsTeam r.apps.items arguments word book (launch.Started t) → LaunchInTime r.hands.clock.time r'.hands.clock.time book book' (launch.Started t) → HasEnteredLaunch r r' (launch.Started t)
      team_starts t h told in_time =
          let n = t.team.loopers in
          let what = Some (event.Launch word (outcome.Started h.description t.team.number t.team.first)) in
          let entered = h.entered in
          let next : t.team.first ≡ length r'.members.items = h.first ∙ count what n entered ∙ sym (count' what n entered) in
          let all : n ≡ length t.new.others.items + 1 = h.count ∙ h.all in
          let objects : objects_of r'.roster_seat.front ≡ objects_of book.entries ++ map object h.kept = ap objects_of (whole what n entered) ∙ h.objects in
          let does = team_enters t h told in_time in (
            is.heads,
            h.plans,
            h.kept,
            record {
              stands = now what n entered;
              team = subst (λ s. IsNewTeam h.plans t.team.number t.team.first s t.new h.kept) (sym keeps.shared) h.new;
              next = next;
              described = record {
                description = h.description;
                described = subst (λ v. IsOneOf v.items h.description h.plans) (sym keeps.apps) h.described;
                launched = launch_seen word h.description t.team.number t.team.first n book book' r'.roster_seat entered (whole what n entered);
              };
              loopers = h.count;
              all = h.all;
              within = h.within;
              launched = λ desk. subst (Any (StartsAt (facts_in is.heads t.team t.team.first desk) t.team.time)) (sym (whole what n entered)) (subst (λ hs. Any (StartsAt (facts_in hs t.team t.team.first desk) t.team.time) book'.entries) heads_same (h.launched desk));
              ways_are = λ desk. own_ways h.plans t.team.number t.team.first r.shared t.new h.kept n (objects_of book.entries) r'.roster_seat is.heads desk h.new all h.before objects;
              paired = all_paired h.plans t.team.number t.team.first r.shared t.new h.kept (objects_of book.entries) r'.roster_seat h.new h.before objects;
            },
            omega (arith, h.count, h.few),
            started what n entered,
            record_on is.heads (fronts_of r) (fronts_with r' (team_fronts t.new)) (desk_front r) (desk_front r') (record { steps = does.steps; goes = does.goes; no_edits = does.no_edits }) does.desks_on.same is.recorded,
          )

      pub has_entered : (l : Launch) → ComesTo r.apps.items r.shared word book book' l → TellsTeam r.apps.items arguments word book l → LaunchInTime r.hands.clock.time r'.hands.clock.time book book' l → HasEnteredLaunch r r' l
      has_entered (launch.Started t) comes told in_time = team_starts t comes told in_time
      has_entered (launch.Running team first) comes told in_time =
          let what = Some (event.Launch word (outcome.AlreadyRunning team)) in
          (runs_on in_time what comes.0, subst (λ m. first < m) (count_before what comes.0) comes.1)
      has_entered launch.NotFound comes told in_time = runs_on in_time (Some (event.Launch word outcome.NotFound)) comes
      has_entered launch.Limit comes told in_time = runs_on in_time (Some (event.Launch word outcome.Limit)) comes
      has_entered launch.NoMemory comes told in_time = runs_on in_time None comes
