-- What one turn at the roster comes to, from what the turn, the book and the end of the turn told.
use Rattle.std.proofs.Common.{◌≡◌, ℕ, zero, suc, Bool, true, false, List, [], ◌∷◌, ◌++◌, map, Option, None, Some, refl, sym, ap, ◌∙◌, subst, append_assoc}
use Rattle.std.specs.List.{list_any}
use Rattle.std.specs.Prelude.{IsFalse, IsTrue, slice_get}
use Rattle.std.proofs.lemmas.List.Concat.{flat_map-append}
use Rattle.ak_base.specs.declared.app_word.AppWord.{AppWord}
use Rattle.ak_turn.specs.declared.clock.Clock.{Clock}
use Rattle.ak_turn.specs.Called as at_lock
use Rattle.ak_turn.specs.Entries.{AreByOthers, made_by}
use Rattle.ak_turn.specs.Noted.{entry_of}
use Rattle.ak_turn.specs.Seats.{HasSeen, IsGiven, at_leisure, entered_by, later, with_own}
use Rattle.ak_turn.proofs.Surface as seats
use Rattle.ak_turn.proofs.Surface.{noted-others, noted_is_made}
use Rattle.ak_roster.specs.declared.answer.FindAnswer.{FindAnswer}
use Rattle.ak_roster.specs.declared.answer.FindAnswer.TheVariants as found
use Rattle.ak_roster.specs.declared.entry.EntryWithObjects.{EntryWithObjects}
use Rattle.ak_roster.specs.declared.entry.RosterEvent.{RosterEvent}
use Rattle.ak_roster.specs.declared.entry.RosterEvent.TheVariants as event
use Rattle.ak_roster.specs.declared.team.Running.{Running}
use Rattle.ak_roster.specs.Answers.{OnFound, UnlessFound, answer_of}
use Rattle.ak_roster.specs.Heads.{team_for}
use Rattle.ak_roster.specs.Machine.{IsHistory, find_of, runs_team, state_of}
use Rattle.ak_roster.specs.Roster.{Enters, IsStranger, RosterData, Stays, entry_with, new_entry, objects_of, plain_entries, stamp_number, state}
use Rattle.ak_action.specs.declared.answer.Answer.{Answer}
use Rattle.ak_diary.specs.Wants.{found_answer}
use Rattle.ak_looper.specs.Rosters.{HasEntered, HasLooked, MayGetDoor, Object, RosterSeat, by_number}
use Rattle.ak_looper.specs.RosterCalls as calls
use Rattle.ak_looper.specs.RosterCalls.{HasFound, HasLeft, HasLookedUp, heard_find}

-- ---- entries of others
module _ {L : Type 0} (by : L → ℕ) where
  pub made_on : (thread : ℕ) (front between : List L) → AreByOthers by thread between → made_by by thread (front ++ between) ≡ made_by by thread front
  made_on thread front between others = sym (noted_is_made by thread (front ++ between)) ∙ ap (map entry_of) (noted-others by thread front between others) ∙ noted_is_made by thread front

-- ---- what the roster pairs with a looper stays
there_still : {X : Type 0} (xs ys : List X) (i : ℕ) (x : X) → slice_get xs i ≡ Some x → slice_get (xs ++ ys) i ≡ Some x
there_still [] ys i x there = absurd (cc)
there_still (y ∷ xs) ys zero x there = there
there_still (y ∷ xs) ys (suc i) x there = there_still xs ys i x there

pub leads_on : (front rest : List (EntryWithObjects Object)) (looper : ℕ) (o : Option Object) → slice_get (objects_of front) looper ≡ Some o → slice_get (objects_of (front ++ rest)) looper ≡ Some o
leads_on front rest looper o leads =
    ap (λ (objects : List (Option Object)). slice_get objects looper) (flat_map-append (λ (e : EntryWithObjects Object). e.objects) front rest)
    ∙ there_still (objects_of front) (objects_of rest) looper o leads

-- ---- a turn
module _ {D : Type 0} (seat given seat' : RosterSeat) (book book' : RosterData D Object) (clock clock' : Clock) (idle : seat.turn ≡ false) (thread : seat.thread ≡ clock.thread.0) (seen : IsGiven by_number seat given)
    (list : book.entries ≡ given.front) where
  -- the list at the turn
  entries_are : book.entries ≡ seat.front ++ seen.between
  entries_are = list ∙ ap (λ (s : RosterSeat). s.front) seen.after

  -- the thread made no entry
  pub looked_by_turn : (book'.entries ≡ given.front → seat' ≡ at_leisure given) → Stays book book' clock clock' → HasLooked clock clock' seat seat'
  looked_by_turn same stays =
      let left : RosterSeat → RosterSeat = λ s. at_leisure s in
      let as_was : Bool → RosterSeat = λ b. record (later seat seen.between) { turn = b } in
      record {
        seen = record {
          between = seen.between;
          others = seen.others;
          after = same (ap (λ (r : RosterData D Object). r.entries) stays.0 ∙ list) ∙ ap left seen.after ∙ ap as_was (sym idle);
        };
        clocked = stays.1;
      }

  module _ (entered : (x : EntryWithObjects Object) → book'.entries ≡ given.front ++ x ∷ [] → seat' ≡ at_leisure (entered_by given x)) where
    pub after_turn : (doors : List D) (e : RosterEvent) → Enters e [] doors book book' clock clock' → seat' ≡ with_own seat seen.between (new_entry clock (seat.front ++ seen.between) e [])
    after_turn doors e enters =
        let before = seat.front ++ seen.between in
        let x : EntryWithObjects Object = new_entry clock before e [] in
        let grown : book'.entries ≡ given.front ++ x ∷ [] =
        ap (λ (r : RosterData D Object). r.entries) enters.0 ∙ ap (λ (l : List (EntryWithObjects Object)). l ++ new_entry clock l e [] ∷ []) entries_are
        ∙ ap (λ (l : List (EntryWithObjects Object)). l ++ x ∷ []) (sym (ap (λ (s : RosterSeat). s.front) seen.after)) in
        let left : RosterSeat → RosterSeat = λ s. at_leisure (entered_by s x) in
        let as_was : Bool → RosterSeat = λ b. record (with_own seat seen.between x) { turn = b } in
        entered x grown ∙ ap left seen.after ∙ ap as_was (sym idle)

    -- it made that entry, behind all that there was
    pub entered_there : (doors : List D) (e : RosterEvent) → Enters e [] doors book book' clock clock' → (h : HasEntered clock clock' e seat seat') × (h.before ≡ seat.front ++ seen.between)
    entered_there doors e enters =
        let before = seat.front ++ seen.between in
        let after = after_turn doors e enters in (
          record {
            before = before;
            front = ap (λ (s : RosterSeat). s.front) after;
            called = record { between = seen.between; others = seen.others; mine = sym thread; after = after };
            clocked = enters.1 ∙ ap (at_lock.clock_after stamp_number clock) entries_are;
          },
          refl,
        )

    pub entered_by_turn : (doors : List D) (e : RosterEvent) → Enters e [] doors book book' clock clock' → HasEntered clock clock' e seat seat'
    entered_by_turn doors e enters = (entered_there doors e enters).0

-- ---- a look-up
heard_answer : (team : Option Running) → heard_find (answer_of team) ≡ found_answer team
heard_answer None = refl
heard_answer (Some team) = refl

module _ {D : Type 0} (seat given seat' : RosterSeat) (book book' : RosterData D Object) (clock clock' : Clock) (idle : seat.turn ≡ false) (thread : seat.thread ≡ clock.thread.0) (seen : IsGiven by_number seat given)
    (list : book.entries ≡ given.front) (opening : seat.opening ≡ Some book.heads) (same : book'.entries ≡ given.front → seat' ≡ at_leisure given)
    (entered : (x : EntryWithObjects Object) → book'.entries ≡ given.front ++ x ∷ [] → seat' ≡ at_leisure (entered_by given x)) (word : AppWord) where
  looked_up : (f : FindAnswer) → f ≡ answer_of (team_for book.heads (state book).running word) → Enters (event.Find word (find_of book.heads (state book) word)) [] book.doors book book' clock clock'
      → HasLookedUp word (heard_find f) clock clock' seat seat'
  looked_up f is enters =
      let before = seat.front ++ seen.between in
      let at = list ∙ ap (λ (s : RosterSeat). s.front) seen.after in
      let asked : List (EntryWithObjects Object) → RosterEvent = λ l. event.Find word (find_of book.heads (state_of book.heads (plain_entries l)) word) in
      let told : List (EntryWithObjects Object) → Answer = λ l. found_answer (team_for book.heads (state_of book.heads (plain_entries l)).running word) in
      let made = entered_there seat given seat' book book' clock clock' idle thread seen list entered book.doors (asked before) (subst (λ (e : RosterEvent). Enters e [] book.doors book book' clock clock') (ap asked at) enters) in
      record {
        heads = book.heads;
        opening = ap (λ (s : RosterSeat). s.opening) made.0.called.after ∙ opening;
        before = before;
        entered = made.0;
        before_is = made.1;
        answer_is = ap heard_find is ∙ heard_answer (team_for book.heads (state book).running word) ∙ ap told at;
      }

  found_so : (f : FindAnswer) → OnFound f (f ≡ answer_of (team_for book.heads (state book).running word))
      → OnFound f (Enters (event.Find word (find_of book.heads (state book) word)) [] book.doors book book' clock clock') → UnlessFound f (Stays book book' clock clock') → HasFound word (heard_find f) clock clock' seat seat'
  found_so (found.Team team first loopers) is enters stays = looked_up (found.Team team first loopers) is enters
  found_so found.NoTeam is enters stays = looked_up found.NoTeam is enters
  found_so found.NoMemory is enters stays = looked_by_turn seat given seat' book book' clock clock' idle thread seen list same stays

  pub found_by_turn : (f : FindAnswer) (a : Answer) → a ≡ heard_find f → OnFound f (f ≡ answer_of (team_for book.heads (state book).running word))
      → OnFound f (Enters (event.Find word (find_of book.heads (state book) word)) [] book.doors book book' clock clock') → UnlessFound f (Stays book book' clock clock') → HasFound word a clock clock' seat seat'
  found_by_turn f a heard is enters stays = subst (λ (b : Answer). HasFound word b clock clock' seat seat') (sym heard) (found_so f is enters stays)

-- ---- the end of a team
module _ {D : Type 0} (seat given seat' : RosterSeat) (book book' : RosterData D Object) (clock clock' : Clock) (idle : seat.turn ≡ false) (thread : seat.thread ≡ clock.thread.0) (seen : IsGiven by_number seat given)
    (list : book.entries ≡ given.front) (opening : seat.opening ≡ Some book.heads) (same : book'.entries ≡ given.front → seat' ≡ at_leisure given)
    (entered : (x : EntryWithObjects Object) → book'.entries ≡ given.front ++ x ∷ [] → seat' ≡ at_leisure (entered_by given x)) (team : ℕ) where
  pub left_by_turn : (ran : Bool) → ran ≡ list_any (runs_team team) (state book).running → (IsTrue ran → Enters (event.Gone team) [] book.doors book book' clock clock') → (IsFalse ran → Stays book book' clock clock')
      → HasLeft team clock clock' seat seat'
  left_by_turn true is enters stays = calls.entered (entered_by_turn seat given seat' book book' clock clock' idle thread seen list entered book.doors (event.Gone team) (enters refl))
  left_by_turn false is enters stays =
      let left : seat' ≡ at_leisure given = same (ap (λ (r : RosterData D Object). r.entries) (stays refl).0 ∙ list) in
      let front : seat'.front ≡ book.entries = ap (λ (s : RosterSeat). s.front) left ∙ sym list in
      calls.seen (record {
        looked = looked_by_turn seat given seat' book book' clock clock' idle thread seen list same (stays refl);
        heads = book.heads;
        opening = ap (λ (s : RosterSeat). s.opening) left ∙ ap (λ (s : RosterSeat). s.opening) seen.after ∙ opening;
        gone = ap (λ (l : List (EntryWithObjects Object)). list_any (runs_team team) (state_of book.heads (plain_entries l)).running) front ∙ sym is;
      })

-- ---- one call after another
pub seen_then_entered : (e : RosterEvent) (clock a b : Clock) (x y z : RosterSeat) → HasSeen by_number x y → a ≡ clock → HasEntered a b e y z → HasEntered clock b e x z
seen_then_entered e clock a b x y z one same two = seats.seen_then_entered by_number stamp_number (entry_with []) e clock a b x y z one same two

-- ---- who may get a door
-- at the turn the thread has no part of what the looper's door leads to
pub stranger_at_turn : {D : Type 0} (looper : ℕ) (seat given : RosterSeat) (book : RosterData D Object) (clock : Clock) → IsGiven by_number seat given → book.entries ≡ given.front → seat.opening ≡ Some book.heads → seat.thread ≡ clock.thread.0
    → MayGetDoor looper seat → IsHistory book.heads (plain_entries book.entries) → IsStranger clock.thread.0 looper (slice_get (state book).loopers looper)
stranger_at_turn looper seat given book clock seen list opening thread may history =
    let at = list ∙ ap (λ (s : RosterSeat). s.front) seen.after in
    subst (λ (t : ℕ). IsStranger t looper (slice_get (state book).loopers looper)) thread
    (may book.heads book.entries opening (seen.between, at) (ap (made_by by_number seat.thread) at ∙ made_on by_number seat.thread seat.front seen.between seen.others) history)

-- it may still, where it has made no entry since
pub may_still : (looper : ℕ) (seat seat' : RosterSeat) → HasSeen by_number seat seat' → MayGetDoor looper seat → MayGetDoor looper seat'
may_still looper seat seat' seen may = λ heads front opening starts made history.
    let thread : seat'.thread ≡ seat.thread = ap (λ (s : RosterSeat). s.thread) seen.after in
    let begins : front ≡ seat.front ++ (seen.between ++ starts.0) =
    starts.1 ∙ ap (λ (s : RosterSeat). s.front ++ starts.0) seen.after ∙ append_assoc seat.front seen.between starts.0 in
    let same : made_by by_number seat.thread front ≡ made_by by_number seat.thread seat.front =
    ap (λ (t : ℕ). made_by by_number t front) (sym thread) ∙ made ∙ ap (λ (s : RosterSeat). made_by by_number s.thread s.front) seen.after ∙ made_on by_number seat.thread seat.front seen.between seen.others in
    subst (λ (t : ℕ). IsStranger t looper (slice_get (state_of heads (plain_entries front)).loopers looper)) (sym thread)
    (may heads front (sym (ap (λ (s : RosterSeat). s.opening) seen.after) ∙ opening) (seen.between ++ starts.0, begins) same history)
