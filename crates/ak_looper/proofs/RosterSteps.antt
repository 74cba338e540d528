-- What a call at the roster is as steps of the thread.
use Rattle.std.proofs.Common.{◌≡◌, ◌≢◌, ℕ, ◌+◌, ◌-◌, ◌<◌, max, Bool, true, List, [], ◌∷◌, ◌++◌, length, map, Any, Option, None, Some, inl, inr, refl, sym, ap, ◌∙◌, subst, append-nil, length-append, arith}
use Rattle.std.specs.Prelude.{option_map, slice_get, unwrap_or}
use Rattle.std.specs.List.{list_any}
use Rattle.std.proofs.lemmas.List.{get_or-map, get_or_append_left, length-map, map-append}
use Rattle.std.proofs.lemmas.List.Elements.{All-cons, All-map, All-nil}
use Rattle.std.proofs.lemmas.Option.{same_Some, slice_get-map}
use Rattle.ak_base.specs.declared.app_word.AppWord.{AppWord}
use Rattle.ak_turn.specs.declared.clock.Clock.{Clock}
use Rattle.ak_turn.specs.Entries.{AreByOthers, StartsWith, last_stamp_of}
use Rattle.ak_turn.specs.Noted.{Noted, note, noted}
use Rattle.ak_turn.proofs.Surface.{called_keeps, called_starts, noted-others, noted-own, same_before, seen_keeps, seen_starts, starts_itself}
use Rattle.ak_roster.specs.declared.entry.EntryWithObjects.{EntryWithObjects}
use Rattle.ak_roster.specs.declared.entry.RosterEntry.{RosterEntry}
use Rattle.ak_roster.specs.declared.entry.RosterEvent.{RosterEvent}
use Rattle.ak_roster.specs.declared.entry.RosterEvent.TheVariants as event
use Rattle.ak_roster.specs.declared.head.AppHead.{AppHead}
use Rattle.ak_roster.specs.declared.team.Running.{Running}
use Rattle.ak_roster.specs.Heads.{team_for}
use Rattle.ak_roster.specs.Machine.{find_of, runs_team, state_of}
use Rattle.ak_roster.specs.Roster.{new_entry, plain_entries, stamp_number}
use Rattle.ak_action.specs.declared.answer.Answer.{Answer}
use Rattle.ak_action.specs.declared.answer.Answer.TheVariants as answer
use Rattle.ak_action.specs.Interp.{AnswersFind}
use Rattle.ak_diary.specs.Looper.{LooperFacts, doors_got}
use Rattle.ak_diary.specs.Step.{Step, at_roster, saw_roster, roster_stamp}
use Rattle.ak_diary.specs.Turns.{LeavesRoster, StartsIt}
use Rattle.ak_diary.specs.Wants.{LooksUp, ServesFind, found_answer}
use Rattle.ak_looper.specs.Rosters.{HasEntered, HasLooked, IsAtRoster, Object, RosterGoes, RosterSeat, by_number, maker_of, plain_of}
use Rattle.ak_looper.specs.Stands.{StartsTeam}
use Rattle.ak_looper.specs.RosterCalls.{HasFound, HasLeft, HasLookedUp, HasSeenGone, entered, seen}

-- ---- the journal shows the same
plain_by_others : (thread : ℕ) (entries : List (EntryWithObjects Object)) → AreByOthers by_number thread entries → AreByOthers maker_of thread (plain_entries entries)
plain_by_others thread entries others = All-map (λ (e : RosterEntry). maker_of e ≢ thread) (λ (e : EntryWithObjects Object). e.plain) entries others

plain_append : (xs ys : List (EntryWithObjects Object)) → plain_entries (xs ++ ys) ≡ plain_entries xs ++ plain_entries ys
plain_append xs ys = map-append (λ (e : EntryWithObjects Object). e.plain) xs ys

-- a stamp by itself is the stamp in what the journal shows
stamp_shown : (o : Option (EntryWithObjects Object)) → option_map stamp_number o ≡ option_map roster_stamp (option_map (λ (e : EntryWithObjects Object). e.plain) o)
stamp_shown None = refl
stamp_shown (Some e) = refl

pub last_shown : (entries : List (EntryWithObjects Object)) → last_stamp_of stamp_number entries ≡ last_stamp_of roster_stamp (plain_entries entries)
last_shown entries =
    let plain : EntryWithObjects Object → RosterEntry = λ e. e.plain in
    ap (λ (o : Option ℕ). unwrap_or o 0)
    (stamp_shown (slice_get entries (length entries - 1)) ∙ ap (option_map roster_stamp) (sym (slice_get-map plain entries (length entries - 1)))
    ∙ ap (λ (n : ℕ). option_map roster_stamp (slice_get (map plain entries) (n - 1))) (sym (length-map entries plain)))

-- ---- without an entry
noted_seen : (seat seat' : RosterSeat) (clock clock' : Clock) → HasLooked clock clock' seat seat' → noted maker_of seat'.thread (plain_of seat') ≡ noted maker_of seat.thread (plain_of seat)
noted_seen seat seat' clock clock' looked =
    let between = looked.seen.between in
    ap (λ (s : RosterSeat). noted maker_of s.thread (plain_of s)) looked.seen.after ∙ ap (noted maker_of seat.thread) (plain_append seat.front between)
    ∙ noted-others maker_of seat.thread (plain_of seat) (plain_entries between) (plain_by_others seat.thread between looked.seen.others)

module _ (clock clock' : Clock) (seat seat' : RosterSeat) (looked : HasLooked clock clock' seat seat') where
  noted_nothing : noted maker_of seat'.thread (plain_of seat') ≡ noted maker_of seat.thread (plain_of seat) ++ []
  noted_nothing = noted_seen seat seat' clock clock' looked ∙ sym (append-nil (noted maker_of seat.thread (plain_of seat)))

  pub looked_goes : RosterGoes [] clock clock' seat seat'
  looked_goes = record {
    there = All-nil IsAtRoster;
    thread = ap (λ (k : Clock). k.thread) looked.clocked;
    stamped = tt;
    time = sym (ap (λ (k : Clock). k.time) looked.clocked);
    keeps = seen_keeps by_number seat seat' looked.seen;
    on = seen_starts by_number seat seat' looked.seen;
    noted_is = noted_nothing;
    seen = All-nil (StartsWith (plain_of seat'));
  }

  -- the list that was seen is all that the seat knows
  pub saw_goes : RosterGoes (saw_roster (plain_of seat') ∷ []) clock clock' seat seat'
  saw_goes = record {
    there = All-cons IsAtRoster (saw_roster (plain_of seat')) [] tt (All-nil IsAtRoster);
    thread = ap (λ (k : Clock). k.thread) looked.clocked;
    stamped = (tt, tt);
    time = sym (ap (λ (k : Clock). k.time) looked.clocked);
    keeps = seen_keeps by_number seat seat' looked.seen;
    on = seen_starts by_number seat seat' looked.seen;
    noted_is = noted_nothing;
    seen = All-cons (StartsWith (plain_of seat')) (plain_of seat') [] (starts_itself (plain_of seat')) (All-nil (StartsWith (plain_of seat')));
  }

-- ---- with one
-- the entry of a call, with all that stood before it, as the journal shows them
abbrev pub noted_call : Clock → List (EntryWithObjects Object) → RosterEvent → Noted RosterEntry
noted_call clock before e = note (plain_entries before) (new_entry clock before e []).plain

module _ (clock clock' : Clock) (e : RosterEvent) (seat seat' : RosterSeat) (made : HasEntered clock clock' e seat seat') where
  noted_one : noted maker_of seat'.thread (plain_of seat') ≡ noted maker_of seat.thread (plain_of seat) ++ noted_call clock made.before e ∷ []
  noted_one =
      let x : EntryWithObjects Object = new_entry clock made.before e [] in
      let between = made.called.between in
      let front = seat.front ++ between in
      let same : front ≡ made.before = same_before front made.before x x (sym (ap (λ (s : RosterSeat). s.front) made.called.after) ∙ made.front) in
      ap (λ (s : RosterSeat). noted maker_of s.thread (plain_of s)) made.called.after ∙ ap (noted maker_of seat.thread) (plain_append front (x ∷ []))
      ∙ noted-own maker_of seat.thread (plain_entries front) x.plain made.called.mine
      ∙ ap (λ (l : List (Noted RosterEntry)). l ++ note (plain_entries front) x.plain ∷ [])
      (ap (noted maker_of seat.thread) (plain_append seat.front between) ∙ noted-others maker_of seat.thread (plain_of seat) (plain_entries between) (plain_by_others seat.thread between made.called.others))
      ∙ ap (λ (l : List (EntryWithObjects Object)). noted maker_of seat.thread (plain_of seat) ++ note (plain_entries l) x.plain ∷ []) same

  pub entered_goes : RosterGoes (at_roster (noted_call clock made.before e) ∷ []) clock clock' seat seat'
  entered_goes =
      let x : EntryWithObjects Object = new_entry clock made.before e [] in
      record {
        there = All-cons IsAtRoster (at_roster (noted_call clock made.before e)) [] tt (All-nil IsAtRoster);
        thread = ap (λ (k : Clock). k.thread) made.clocked;
        stamped = (ap (λ (n : ℕ). 1 + max clock.time n) (last_shown made.before), tt);
        time = sym (ap (λ (k : Clock). k.time) made.clocked);
        keeps = called_keeps by_number x seat seat' made.called;
        on = called_starts by_number x seat seat' made.called;
        noted_is = noted_one;
        seen = All-nil (StartsWith (plain_of seat'));
      }

-- ---- steps of which P holds, none of which got a door
pub record DoesNoDoor (P : List Step → Type 0) (clock clock' : Clock) (seat seat' : RosterSeat) : Type 0 where
  pub steps : List Step
  pub does : P steps
  pub no_door : doors_got steps ≡ []
  pub goes : RosterGoes steps clock clock' seat seat'

-- the applications are the looper's
same_heads : (heads others : List AppHead) (seat seat' : RosterSeat) → seat'.opening ≡ seat.opening → seat.opening ≡ Some heads → seat'.opening ≡ Some others → others ≡ heads
same_heads heads others seat seat' keeps is other = same_Some others heads (sym other ∙ keeps ∙ is)

looked_up_does : (l : LooperFacts) (word : AppWord) (a : Answer) (clock clock' : Clock) (seat seat' : RosterSeat) → seat.opening ≡ Some l.heads → HasLookedUp word a clock clock' seat seat' → DoesNoDoor (LooksUp l word a) clock clock' seat seat'
looked_up_does l word a clock clock' seat seat' heads up =
    let made = up.entered in
    let e : RosterEvent = event.Find word (find_of up.heads (state_of up.heads (plain_entries up.before)) word) in
    let n = noted_call clock made.before e in
    let known : up.heads ≡ l.heads = same_heads l.heads up.heads seat seat' (ap (λ (s : RosterSeat). s.opening) made.called.after) heads up.opening in
    let asked : List AppHead → List (EntryWithObjects Object) → RosterEvent = λ hs before. event.Find word (find_of hs (state_of hs (plain_entries before)) word) in
    let told : List AppHead → List (EntryWithObjects Object) → Answer = λ hs before. found_answer (team_for hs (state_of hs (plain_entries before)).running word) in
    record {
      steps = at_roster n ∷ [];
      does = record {
        noted = n;
        event_is = ap (λ (hs : List AppHead). asked hs up.before) known ∙ ap (asked l.heads) (sym up.before_is);
        answer_is = up.answer_is ∙ ap (λ (hs : List AppHead). told hs up.before) known ∙ ap (told l.heads) (sym up.before_is);
        is = refl;
      };
      no_door = refl;
      goes = entered_goes clock clock' e seat seat' made;
    }

-- a look-up
pub found_does : (l : LooperFacts) (word : AppWord) (a : Answer) (clock clock' : Clock) (seat seat' : RosterSeat) → seat.opening ≡ Some l.heads → HasFound word a clock clock' seat seat' → DoesNoDoor (ServesFind l word a) clock clock' seat seat'
found_does l word answer.NoMemory clock clock' seat seat' heads h = record { steps = []; does = refl; no_door = refl; goes = looked_goes clock clock' seat seat' h }
found_does l word (answer.Team team first) clock clock' seat seat' heads h = looked_up_does l word (answer.Team team first) clock clock' seat seat' heads h
found_does l word answer.NoTeam clock clock' seat seat' heads h = looked_up_does l word answer.NoTeam clock clock' seat seat' heads h
found_does l word (answer.Written position) clock clock' seat seat' heads h = looked_up_does l word (answer.Written position) clock clock' seat seat' heads h
found_does l word answer.Full clock clock' seat seat' heads h = looked_up_does l word answer.Full clock clock' seat seat' heads h
found_does l word answer.Closed clock clock' seat seat' heads h = looked_up_does l word answer.Closed clock clock' seat seat' heads h
found_does l word answer.Spent clock clock' seat seat' heads h = looked_up_does l word answer.Spent clock clock' seat seat' heads h
found_does l word answer.TooLong clock clock' seat seat' heads h = looked_up_does l word answer.TooLong clock clock' seat seat' heads h
found_does l word (answer.Reply flat message) clock clock' seat seat' heads h = looked_up_does l word (answer.Reply flat message) clock clock' seat seat' heads h

-- what a look-up is answered
answers_find : (team : Option Running) → AnswersFind (found_answer team)
answers_find None = tt
answers_find (Some team) = tt

found_is : (a : Answer) (word : AppWord) (clock clock' : Clock) (seat seat' : RosterSeat) → HasLookedUp word a clock clock' seat seat' → AnswersFind a
found_is a word clock clock' seat seat' up = subst AnswersFind (sym up.answer_is) (answers_find (team_for up.heads (state_of up.heads (plain_entries up.before)).running word))

pub found_answers : (a : Answer) (word : AppWord) (clock clock' : Clock) (seat seat' : RosterSeat) → HasFound word a clock clock' seat seat' → AnswersFind a
found_answers answer.NoMemory word clock clock' seat seat' h = tt
found_answers (answer.Team team first) word clock clock' seat seat' h = tt
found_answers answer.NoTeam word clock clock' seat seat' h = tt
found_answers (answer.Written position) word clock clock' seat seat' h = found_is (answer.Written position) word clock clock' seat seat' h
found_answers answer.Full word clock clock' seat seat' h = found_is answer.Full word clock clock' seat seat' h
found_answers answer.Closed word clock clock' seat seat' h = found_is answer.Closed word clock clock' seat seat' h
found_answers answer.Spent word clock clock' seat seat' h = found_is answer.Spent word clock clock' seat seat' h
found_answers answer.TooLong word clock clock' seat seat' h = found_is answer.TooLong word clock clock' seat seat' h
found_answers (answer.Reply flat message) word clock clock' seat seat' h = found_is (answer.Reply flat message) word clock clock' seat seat' h

-- ---- the team no longer runs
left_entered : (l : LooperFacts) (team : ℕ) (clock clock' : Clock) (seat seat' : RosterSeat) → team ≡ l.team → HasEntered clock clock' (event.Gone team) seat seat' → DoesNoDoor (LeavesRoster l true) clock clock' seat seat'
left_entered l team clock clock' seat seat' is made =
    let n = noted_call clock made.before (event.Gone team) in
    record {
      steps = at_roster n ∷ [];
      does = inl (record { noted = n; event_is = ap (λ (t : ℕ). event.Gone t) is; is = refl });
      no_door = refl;
      goes = entered_goes clock clock' (event.Gone team) seat seat' made;
    }

-- what stands in a list stands in each longer one
pub any_still : {X : Type 0} (P : X → Type 0) (xs ys : List X) → Any P xs → Any P (xs ++ ys)
any_still P xs ys there =
    let within : there.0 < length (xs ++ ys) = omega (arith, length-append xs ys, there.2) in
    (there.0, there.1, within, get_or_append_left xs ys there.1 there.0 there.2 ∙ there.3, there.4)

any_plain : (l : LooperFacts) (front : List (EntryWithObjects Object)) → Any (StartsTeam l) front → Any (StartsIt l) (plain_entries front)
any_plain l front there =
    let plain : EntryWithObjects Object → RosterEntry = λ e. e.plain in
    let x = there.1 in
    let within : there.0 < length (plain_entries front) = omega (arith, length-map front plain, there.2) in
    (there.0, plain x, within, get_or-map plain front there.0 x (plain x) there.2 ∙ ap plain there.3, (there.4.0, there.4.1, there.4.2))

left_seen : (l : LooperFacts) (team : ℕ) (clock clock' : Clock) (seat seat' : RosterSeat) → team ≡ l.team → seat.opening ≡ Some l.heads → Any (StartsTeam l) seat.front → HasSeenGone team clock clock' seat seat' → DoesNoDoor (LeavesRoster l true) clock clock' seat seat'
left_seen l team clock clock' seat seat' is heads launched found =
    let known : found.heads ≡ l.heads = same_heads l.heads found.heads seat seat' (ap (λ (s : RosterSeat). s.opening) found.looked.seen.after) heads found.opening in
    let runs : List AppHead → ℕ → Bool = λ hs t. list_any (runs_team t) (state_of hs (plain_of seat')).running in
    record {
      steps = saw_roster (plain_of seat') ∷ [];
      does = inr (record {
        seen = plain_of seat';
        started = any_plain l seat'.front (subst (Any (StartsTeam l)) (sym (ap (λ (s : RosterSeat). s.front) found.looked.seen.after)) (any_still (StartsTeam l) seat.front found.looked.seen.between launched));
        gone = ap (λ (hs : List AppHead). runs hs l.team) (sym known) ∙ ap (runs found.heads) (sym is) ∙ found.gone;
        is = refl;
      });
      no_door = refl;
      goes = saw_goes clock clock' seat seat' found.looked;
    }

pub left_does : (l : LooperFacts) (team : ℕ) (clock clock' : Clock) (seat seat' : RosterSeat) → team ≡ l.team → seat.opening ≡ Some l.heads → Any (StartsTeam l) seat.front → HasLeft team clock clock' seat seat' → DoesNoDoor (LeavesRoster l true) clock clock' seat seat'
left_does l team clock clock' seat seat' is heads launched (entered made) = left_entered l team clock clock' seat seat' is made
left_does l team clock clock' seat seat' is heads launched (seen found) = left_seen l team clock clock' seat seat' is heads launched found
