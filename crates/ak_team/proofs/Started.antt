-- A launch that starts a team.
use Rattle.std.proofs.Common.{◌≡◌, ℕ, ◌+◌, ◌≤◌, List, [], ◌∷◌, ◌++◌, length, map, Some, sym, ap, ◌∙◌, subst, arith, append-nil}
use Rattle.std.specs.Prelude.{replicate}
use Rattle.std.specs.List.{Any}
use Rattle.std.proofs.lemmas.List.{length-map}
use Rattle.std.proofs.lemmas.List.Concat.{flat_map-append}
use Rattle.std.proofs.lemmas.List.Quantifiers.{Any-push}
use Rattle.ak_base.specs.Limits.{looper_limit}
use Rattle.ak_base.specs.Thread.{main_thread}
use Rattle.ak_base.specs.declared.app_word.AppWord.{AppWord}
use Rattle.ak_turn.specs.declared.clock.Clock.{Clock}
use Rattle.ak_roster.specs.declared.entry.EntryWithObjects.{EntryWithObjects}
use Rattle.ak_roster.specs.declared.entry.LaunchOutcome.{LaunchOutcome}
use Rattle.ak_roster.specs.declared.entry.LaunchOutcome.TheVariants as launch
use Rattle.ak_roster.specs.declared.entry.RosterEvent.TheVariants as event
use Rattle.ak_roster.specs.Answers.{IsStarted}
use Rattle.ak_roster.specs.Kept.{count_of}
use Rattle.ak_roster.specs.Machine.{LooperData, launch_of, loopers_at, loopers_of}
use Rattle.ak_roster.specs.Roster.{AreKept, Enters, IsAtRest, IsRoster, new_entry, objects_of, state}
use Rattle.ak_roster.proofs.Surface.{started_facts}
use Rattle.ak_action.specs.declared.state.DeskState.{DeskState}
use Rattle.ak_describe.specs.declared.described.AppText.{AppText}
use Rattle.ak_looper.specs.declared.kept_door.KeptDoor.{KeptDoor}
use Rattle.ak_looper.specs.Rosters.{Object}
use Rattle.ak_looper.specs.Stands.{StartsTeam}
use Rattle.ak_team.specs.declared.launching.StartedTeam.{StartedTeam}
use Rattle.ak_looper.specs.declared.shared.Shared.{Shared}
use Rattle.ak_team.specs.declared.new_team.Making.{Making}
use Rattle.ak_team.specs.declared.new_team.NewTeam.{NewTeam}
use Rattle.ak_looper.specs.Starts.{StartsAt}
use Rattle.ak_team.specs.Jobs.{facts_in}
use Rattle.ak_team.specs.Launching.{Book, HasEntered, HasStarted, IsDecided, IsMade}
use Rattle.ak_team.specs.NewTeam.{IsNewTeam}
use Rattle.ak_looper.proofs.Surface.{threads, object}
use Rattle.ak_team.proofs.Entering.{one_entered}
use Rattle.ak_team.proofs.Ways.{doors_kept_so, kept_count}

module _ (book book' : Book) (clock clock' : Clock) (main : clock.thread.0 ≡ main_thread) (word : AppWord) (m : Making) (description team first : ℕ) (decided : IsDecided book word m description team first) where
  abbrev outcome_is : LaunchOutcome
  outcome_is = launch.Started description team first

  -- the book's answer is the one that was decided on
  pub starts : IsStarted (launch_of book.heads (state book) word)
  starts = subst IsStarted (sym decided.starts) tt

  -- the doors are those of the loopers that it starts
  pub doors : AreKept threads (length (state book).loopers) m.kept.items (loopers_of book.heads clock.thread.0 (launch_of book.heads (state book) word))
  doors =
      let facts = started_facts book.heads (state book) word description team first decided.starts in
      let made = decided.made in
      let kept = doors_kept_so made.plans team first decided.shared m.team m.kept.items made.new in
      let new : ℕ → LooperData = λ by. record { own = first; starter = by; given = [] } in
      let all : loopers_of book.heads clock.thread.0 (launch_of book.heads (state book) word) ≡ replicate (length m.kept.items) (new main_thread) =
      ap (loopers_of book.heads clock.thread.0) decided.starts ∙ ap (λ n. replicate n (new clock.thread.0)) decided.many ∙ ap (λ by. replicate (length m.kept.items) (new by)) main in
      subst (AreKept threads (length (state book).loopers) m.kept.items) (sym all) (subst (λ n. AreKept threads n m.kept.items (replicate (length m.kept.items) (new main_thread))) facts.first_is kept)

  module _ (roster : IsRoster object threads book) (rest : IsAtRest book) (enters : Enters (event.Launch word (launch_of book.heads (state book) word)) (map object m.kept.items) (book.doors ++ m.kept.items) book book' clock clock')
      (apps : List AppText) (shared : Shared) (made : IsMade apps shared m description team first) (t : StartedTeam) (number_is : t.team.number ≡ team) (first_is : t.team.first ≡ first) (loopers_is : t.team.loopers ≡ length m.kept.items) (time_is : t.team.time ≡ clock'.time) (new_is : t.new ≡ m.team) where
    first_next : first ≡ length (state book).loopers
    first_next = (started_facts book.heads (state book) word description team first decided.starts).first_is

    few_loopers : first + loopers_at book.heads description ≤ looper_limit
    few_loopers = (started_facts book.heads (state book) word description team first decided.starts).few_loopers

    abbrev entry : EntryWithObjects Object
    entry = new_entry clock book.entries (event.Launch word (launch_of book.heads (state book) word)) (map object m.kept.items)

    grown : book'.entries ≡ book.entries ++ entry ∷ []
    grown = ap (λ (r : Book). r.entries) enters.0

    count : t.team.loopers ≡ length made.plans
    count = loopers_is ∙ kept_count made.plans team first shared m.team m.kept.items made.new ∙ sym made.all

    loopers_there : loopers_at book.heads description ≡ t.team.loopers
    loopers_there = decided.many ∙ sym loopers_is

    launched_there : (desk : DeskState) → Any (StartsAt (facts_in book.heads t.team t.team.first desk) t.team.time) book'.entries
    launched_there desk =
        let starts_it : StartsTeam (facts_in book.heads t.team t.team.first desk) entry =
        (word, description, ap (event.Launch word) (decided.starts ∙ ap (λ n. launch.Started description n first) (sym number_is) ∙ ap (launch.Started description t.team.number) (sym first_is)), loopers_there) in
        let at_time : entry.plain.stamp ≡ t.team.time = sym (time_is ∙ ap (λ (c : Clock). c.time) enters.1) in
        subst (Any (StartsAt (facts_in book.heads t.team t.team.first desk) t.team.time)) (sym grown) (Any-push (StartsAt (facts_in book.heads t.team t.team.first desk) t.team.time) book.entries entry (starts_it, at_time))

    new_team : IsNewTeam made.plans t.team.number t.team.first shared t.new m.kept.items
    new_team =
        subst (λ (n : NewTeam). IsNewTeam made.plans t.team.number t.team.first shared n m.kept.items) (sym new_is)
        (subst (λ f. IsNewTeam made.plans t.team.number f shared m.team m.kept.items) (sym first_is) (subst (λ n. IsNewTeam made.plans n first shared m.team m.kept.items) (sym number_is) made.new))

    objects_there : objects_of book'.entries ≡ objects_of book.entries ++ map object m.kept.items
    objects_there = ap objects_of grown ∙ flat_map-append (λ (e : EntryWithObjects Object). e.objects) book.entries (entry ∷ []) ∙ ap (λ l. objects_of book.entries ++ l) (append-nil (map object m.kept.items))

    map_count : (ds : List KeptDoor) → length (map object ds) ≡ length ds
    map_count ds = length-map ds object

    before_count : length (objects_of book.entries) ≡ t.team.first
    before_count = ap length (sym (roster.objects rest)) ∙ map_count book.doors ∙ rest ∙ sym first_next ∙ sym first_is

    pub has_started : HasStarted apps shared word book book' t
    has_started = record {
      description = description;
      plans = made.plans;
      described = made.described;
      some = omega (arith, made.all);
      few = made.few;
      kept = m.kept.items;
      new = new_team;
      count = count;
      all = made.all ∙ ap (λ (n : NewTeam). length n.others.items + 1) (sym new_is);
      first = first_is ∙ first_next;
      within = omega (arith, first_is, loopers_there, few_loopers);
      launched = launched_there;
      starts = decided.starts ∙ ap (λ n. launch.Started description n first) (sym number_is) ∙ ap (launch.Started description t.team.number) (sym first_is);
      entered = subst (λ (o : LaunchOutcome). HasEntered (Some (event.Launch word o)) t.team.loopers book book')
          (decided.starts ∙ ap (λ n. launch.Started description n first) (sym number_is) ∙ ap (launch.Started description t.team.number) (sym first_is))
          (one_entered book book' clock clock' t.team.loopers (event.Launch word (launch_of book.heads (state book) word)) (map object m.kept.items) (book.doors ++ m.kept.items) tt main enters
          (ap (λ o. count_of book.heads (event.Launch word o)) decided.starts ∙ loopers_there));
      objects = objects_there;
      before = before_count;
    }
