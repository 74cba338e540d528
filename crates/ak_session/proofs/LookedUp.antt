-- What a look-up is: in one turn at the roster, and as a step of the session.
use Rattle.std.proofs.Common.{◌≡◌, ℕ, ◌+◌, ◌≤◌, false, List, [], ◌∷◌, ◌++◌, length, Option, None, Some, refl, sym, ap, ◌∙◌, subst, arith}
use Rattle.std.proofs.lemmas.List.{length-map}
use Rattle.std.proofs.lemmas.Option.{same_Some}
use Rattle.ak_base.specs.declared.app_word.AppWord.{AppWord}
use Rattle.ak_turn.specs.declared.clock.Clock.{Clock}
use Rattle.ak_turn.specs.Seats.{IsGiven, at_leisure, entered_by}
use Rattle.ak_roster.specs.declared.answer.FindAnswer.{FindAnswer}
use Rattle.ak_roster.specs.declared.answer.FindAnswer.TheVariants as answer
use Rattle.ak_roster.specs.declared.entry.EntryWithObjects.{EntryWithObjects}
use Rattle.ak_roster.specs.declared.entry.RosterEvent.{RosterEvent}
use Rattle.ak_roster.specs.declared.entry.RosterEvent.TheVariants as event
use Rattle.ak_roster.specs.declared.head.AppHead.{AppHead}
use Rattle.ak_roster.specs.declared.team.Running.{Running}
use Rattle.ak_roster.specs.Answers.{OnFound, UnlessFound, answer_of}
use Rattle.ak_roster.specs.Heads.{team_for}
use Rattle.ak_roster.specs.Machine.{find_of, outcome_found, state_of}
use Rattle.ak_roster.specs.Roster.{Enters, RosterData, Stays, new_entry, plain_entries, state}
use Rattle.ak_diary.specs.Step.{at_roster}
use Rattle.ak_looper.specs.Rosters.{Object, RosterSeat, by_number}
use Rattle.ak_looper.proofs.Surface.{entered_goes, entered_there, looked_by_turn, looked_goes, noted_call}
use Rattle.ak_session.specs.declared.answers.Found.{Found}
use Rattle.ak_session.specs.declared.session.Session.{Session}
use Rattle.ak_session.specs.Doing.{FindsAt, FoundSo, HasLoopers}
use Rattle.ak_session.specs.Calls.{HasFound, HasLookedUp, IsEntered, IsFoundAt, IsOfLoopers}
use Rattle.ak_session.proofs.Lists.{one_longer}
use Rattle.ak_session.proofs.RosterStands.{DoesAtRoster, none_at_all, one_there}

-- ---- in its turn
module _ {D : Type 0} (seat given seat' : RosterSeat) (book book' : RosterData D Object) (clock clock' : Clock) (idle : seat.turn ≡ false) (thread : seat.thread ≡ clock.thread.0) (seen : IsGiven by_number seat given)
    (list : book.entries ≡ given.front) (opening : seat.opening ≡ Some book.heads) (same : book'.entries ≡ given.front → seat' ≡ at_leisure given)
    (entered : (x : EntryWithObjects Object) → book'.entries ≡ given.front ++ x ∷ [] → seat' ≡ at_leisure (entered_by given x)) (word : AppWord) where
  abbrev sought : Option Running
  sought = team_for book.heads (state book).running word

  abbrev EntersIt : Type 0
  EntersIt = Enters (event.Find word (find_of book.heads (state book) word)) [] book.doors book book' clock clock'

  looked_up : (running : Option Running) → sought ≡ running → EntersIt → HasLookedUp word running clock clock' seat seat'
  looked_up running is enters =
      let e : RosterEvent = event.Find word (outcome_found running) in
      let at = list ∙ ap (λ (s : RosterSeat). s.front) seen.after in
      let made = entered_there seat given seat' book book' clock clock' idle thread seen list entered book.doors e
      (subst (λ (o : Option Running). Enters (event.Find word (outcome_found o)) [] book.doors book book' clock clock') is enters) in
      let told : List (EntryWithObjects Object) → Option Running = λ l. team_for book.heads (state_of book.heads (plain_entries l)).running word in
      record {
        heads = book.heads;
        opening = ap (λ (s : RosterSeat). s.opening) made.0.called.after ∙ opening;
        entered = made.0;
        running_is = sym is ∙ ap told (at ∙ sym made.1);
      }

  team_so : (team first loopers : ℕ) (running : Option Running) → sought ≡ running → answer.Team team first loopers ≡ answer_of running → EntersIt → HasFound word (answer.Team team first loopers) clock clock' seat seat'
  team_so team first loopers None is told enters = absurd cc
  team_so team first loopers (Some x) is told enters = subst (λ (a : FindAnswer). HasFound word a clock clock' seat seat') (sym told) (x.description, looked_up (Some x) is enters)

  none_so : (running : Option Running) → sought ≡ running → answer.NoTeam ≡ answer_of running → EntersIt → HasFound word answer.NoTeam clock clock' seat seat'
  none_so None is told enters = looked_up None is enters
  none_so (Some x) is told enters = absurd cc

  pub found_by_turn : (a : FindAnswer) → OnFound a (a ≡ answer_of sought) → OnFound a EntersIt → UnlessFound a (Stays book book' clock clock') → HasFound word a clock clock' seat seat'
  found_by_turn (answer.Team team first loopers) told enters stays = team_so team first loopers sought refl told enters
  found_by_turn answer.NoTeam told enters stays = none_so sought refl told enters
  found_by_turn answer.NoMemory told enters stays = looked_by_turn seat given seat' book book' clock clock' idle thread seen list same stays

-- ---- of its seat
module _ (word : AppWord) (clock clock' : Clock) (seat seat' : RosterSeat) where
  there_is_one : (running : Option Running) → HasLookedUp word running clock clock' seat seat' → 1 ≤ length seat'.front
  there_is_one running up =
      let made = up.entered in
      let x : EntryWithObjects Object = new_entry clock made.before (event.Find word (outcome_found running)) [] in
      omega (arith, one_longer seat'.front made.before x made.front)

  pub found_last : (a : FindAnswer) → HasFound word a clock clock' seat seat' → IsEntered a → 1 ≤ length seat'.front
  found_last (answer.Team team first loopers) h is = there_is_one (Some (record { team = team; description = h.0; first = first; loopers = loopers })) h.1
  found_last answer.NoTeam h is = there_is_one None h
  found_last answer.NoMemory h is = absurd is

-- ---- as it is answered
pub has_loopers : (a : FindAnswer) (seen : ℕ) (result : Found) → IsOfLoopers a → IsFoundAt a seen result → HasLoopers result
has_loopers (answer.Team team first loopers) seen result has at = subst HasLoopers (sym at.1) has
has_loopers answer.NoTeam seen result has at = subst HasLoopers (sym at.1) tt
has_loopers answer.NoMemory seen result has at = subst HasLoopers (sym at) tt

-- ---- as a step
module _ (heads : List AppHead) (s s' : Session) (is : s.roster_seat.opening ≡ Some heads) (word : AppWord) where
  finds_at : (running : Option Running) (place : ℕ) → HasLookedUp word running s.hands.clock s'.hands.clock s.roster_seat s'.roster_seat → length s'.roster_seat.front ≡ place + 1 → DoesAtRoster (FindsAt heads word running place) s s'
  finds_at running place up seen =
      let made = up.entered in
      let e : RosterEvent = event.Find word (outcome_found running) in
      let n = noted_call s.hands.clock made.before e in
      let x : EntryWithObjects Object = new_entry s.hands.clock made.before e [] in
      let known : up.heads ≡ heads = same_Some up.heads heads (sym up.opening ∙ ap (λ (r : RosterSeat). r.opening) made.called.after ∙ is) in
      let shown : length (plain_entries made.before) ≡ length made.before = length-map made.before (λ (entry : EntryWithObjects Object). entry.plain) in
      let told : List AppHead → Option Running = λ hs. team_for hs (state_of hs (plain_entries made.before)).running word in
      record {
        steps = at_roster n ∷ [];
        does = record {
          noted = n;
          event_is = refl;
          running_is = up.running_is ∙ ap told known;
          place_is = omega (arith, seen, shown, one_longer s'.roster_seat.front made.before x made.front);
          is = refl;
        };
        there = one_there n;
        no_door = refl;
        goes = entered_goes s.hands.clock s'.hands.clock e s.roster_seat s'.roster_seat made;
      }

  pub finds : (a : FindAnswer) (result : Found) → HasFound word a s.hands.clock s'.hands.clock s.roster_seat s'.roster_seat → IsFoundAt a (length s'.roster_seat.front) result → DoesAtRoster (FoundSo heads word result) s s'
  finds (answer.Team team first loopers) result h at =
      let running : Running = record { team = team; description = h.0; first = first; loopers = loopers } in
      let one = finds_at (Some running) at.0 h.1 at.2 in
      subst (λ (r : Found). DoesAtRoster (FoundSo heads word r) s s') (sym at.1) (record { steps = one.steps; does = (h.0, one.does); there = one.there; no_door = one.no_door; goes = one.goes })
  finds answer.NoTeam result h at = subst (λ (r : Found). DoesAtRoster (FoundSo heads word r) s s') (sym at.1) (finds_at None at.0 h at.2)
  finds answer.NoMemory result h at =
      subst (λ (r : Found). DoesAtRoster (FoundSo heads word r) s s') (sym at)
      (record { steps = []; does = refl; there = none_at_all; no_door = refl; goes = looked_goes s.hands.clock s'.hands.clock s.roster_seat s'.roster_seat h })
