-- A launch that starts.
use Rattle.std.proofs.Common.{◌≡◌, ◌<◌, ◌≤◌, ℕ, suc, ◌+◌, inl, Bool, true, false, List, [], ◌∷◌, ◌++◌, length, map, refl, sym, ap, ◌∙◌, subst, arith, append_assoc, Option, None, Some, max}
use Rattle.std.specs.Prelude.{slice_get, unwrap_or, option_map, if◌then◌else◌}
use Rattle.std.proofs.lemmas.Bool.Decides.{nat_tests}
use Rattle.std.proofs.lemmas.List.{length-append, length-map, map-append, nil_from_length}
use Rattle.ak_turn.specs.declared.clock.Clock.{Clock}
use Rattle.ak_base.specs.declared.app_word.AppWord.{AppWord}
use Rattle.ak_roster.specs.declared.head.AppHead.{AppHead}
use Rattle.ak_roster.specs.declared.team.Running.{Running}
use Rattle.ak_roster.specs.declared.entry.RosterEntry.{RosterEntry}
use Rattle.ak_roster.specs.declared.entry.RosterEvent.TheVariants as event
use Rattle.ak_roster.specs.declared.entry.LaunchOutcome.{LaunchOutcome}
use Rattle.ak_roster.specs.declared.entry.LaunchOutcome.TheVariants as launch
use Rattle.ak_roster.specs.declared.answer.Decision.TheVariants as decision
use Rattle.ak_roster.specs.Answers.{decision_of}
use Rattle.ak_roster.specs.Heads.{excluder, first_fit}
use Rattle.ak_roster.specs.Machine.{LooperData, RosterState, has_room, launch_at, launch_first, launch_of, loopers_at, loopers_of, team_of, unless_excluded}
use Rattle.ak_roster.specs.Kept.{Kept, IsSound, count_launched, roster_seen}
use Rattle.ak_roster.specs.Roster.{RosterData, IsAtRest, AreKept, last_stamp, state}
use Rattle.ak_roster.proofs.Histories.{count_started}
use Rattle.ak_roster.proofs.Entering.{Entered, Holds, entered_so, entry_of, roster_held, running_held, rests}

-- the numbers with which a launch starts
pub record StartsWith (heads : List AppHead) (running : List Running) (teams loopers place team first : ℕ) : Type 0 where
  pub head : AppHead
  pub stands : slice_get heads place ≡ Some head
  -- no team keeps it from starting
  pub free : excluder heads running head ≡ None
  pub team_is : team ≡ teams + 1
  pub first_is : first ≡ loopers
  pub few_teams : team ≤ 16
  pub few_loopers : first + loopers_at heads place ≤ 32

module _ (heads : List AppHead) (running : List Running) (teams loopers place team first : ℕ) where
  room_facts : (head : AppHead) (room : Bool) → room ≡ has_room teams loopers head → (p : ℕ)
      → (if room then launch.Started p (teams + 1) loopers else launch.Limit) ≡ launch.Started place team first
      → (place ≡ p) × (team ≡ teams + 1) × (first ≡ loopers) × (teams < 16) × (loopers + head.loopers ≤ 32)
  room_facts head true is p e = let h : has_room teams loopers head ≡ true = sym is in (cc, cc, cc, grind (arith, nat_tests), grind (arith, nat_tests))
  room_facts head false is p e = absurd cc

  excluded_facts : (head : AppHead) (other : Option Running) (p : ℕ)
      → unless_excluded other (if has_room teams loopers head then launch.Started p (teams + 1) loopers else launch.Limit) ≡ launch.Started place team first
      → (place ≡ p) × (team ≡ teams + 1) × (first ≡ loopers) × (teams < 16) × (loopers + head.loopers ≤ 32) × (other ≡ None)
  excluded_facts head None p e = let f = room_facts head (has_room teams loopers head) refl p e in (f.0, f.1, f.2, f.3, f.4, refl)
  excluded_facts head (Some t) p e = absurd cc

  at_facts : (p : ℕ) (head : Option AppHead) → head ≡ slice_get heads p → launch_at heads running teams loopers p head ≡ launch.Started place team first
      → StartsWith heads running teams loopers place team first
  at_facts p None is e = absurd cc
  at_facts p (Some head) is e =
      let f = excluded_facts head (excluder heads running head) p e in
      let many : loopers_at heads place ≡ head.loopers = ap (λ (q : ℕ). loopers_at heads q) f.0 ∙ ap (λ (o : Option AppHead). unwrap_or (option_map (λ h. h.loopers) o) 0) (sym is) in
      record { head = head; stands = ap (λ (q : ℕ). slice_get heads q) f.0 ∙ sym is; free = f.5; team_is = f.1; first_is = f.2; few_teams = omega (arith, f.1, f.3); few_loopers = omega (arith, f.2, f.4, many) }

  first_facts : (p : Option ℕ) → launch_first heads running teams loopers p ≡ launch.Started place team first → StartsWith heads running teams loopers place team first
  first_facts None e = absurd cc
  first_facts (Some p) e = at_facts p (slice_get heads p) refl e

pub started_facts : (heads : List AppHead) (s : RosterState) (word : AppWord) (place team first : ℕ) → launch_of heads s word ≡ launch.Started place team first
    → StartsWith heads s.running s.teams (length s.loopers) place team first
started_facts heads s word place team first e = first_facts heads s.running s.teams (length s.loopers) place team first (first_fit heads word) e

module _ {D : Type 0} (threads : D → Option (List ℕ)) where
  pub AreKept-append : (n : ℕ) (ds es : List D) (ls ms : List LooperData) (m : ℕ) → n + length ds ≡ m → AreKept threads n ds ls → AreKept threads m es ms
      → AreKept threads n (ds ++ es) (ls ++ ms)
  AreKept-append n [] es ls ms m at kept more =
      subst (λ (k : ℕ). AreKept threads k es (ls ++ ms)) (let e : m ≡ n = omega arith in e) (subst (λ (l : List LooperData). AreKept threads m es (l ++ ms)) (sym kept) more)
  AreKept-append n (d ∷ ds) es [] ms m at kept more = absurd kept
  AreKept-append n (d ∷ ds) es (l ∷ ls) ms m at kept more = (kept.0, AreKept-append (suc n) ds es ls ms m (omega arith) kept.1 more)

  pub length-AreKept : (n : ℕ) (ds : List D) (ls : List LooperData) → AreKept threads n ds ls → length ds ≡ length ls
  length-AreKept n [] ls kept = ap length (sym kept)
  length-AreKept n (d ∷ ds) [] kept = absurd kept
  length-AreKept n (d ∷ ds) (l ∷ ls) kept = ap suc (length-AreKept (suc n) ds ls kept.1)

module _ {D O : Type 0} (object : D → Option O) (threads : D → Option (List ℕ)) (old : Kept D) (roster : RosterData D O) (view : roster_seen object old ≡ roster)
    (clock later : Clock) (word : AppWord) (e : RosterEntry) (last : ℕ) (sound : IsSound object threads old) (stamp : last ≡ last_stamp roster.entries)
    (entry : e ≡ entry_of clock last (event.Launch word (launch_of roster.heads (state roster) word))) (time : later ≡ record clock { time = 1 + max clock.time last })
    (place team first : ℕ) (starts : launch_of roster.heads (state roster) word ≡ launch.Started place team first)
    (new : Kept D) (more : List D) (rest : IsAtRest roster)
    (kept : AreKept threads (length (state roster).loopers) more (loopers_of roster.heads clock.thread.0 (launch_of roster.heads (state roster) word)))
    (heads : new.heads ≡ old.heads) (taken : new.taken ≡ old.taken) (entries : new.entries ≡ old.entries ++ e ∷ [])
    (running : new.running ≡ old.running ++ (record { team = team; description = place; first = first; loopers = loopers_at old.heads place }) ∷ [])
    (teams : new.teams ≡ team) (loopers : new.loopers ≡ first + loopers_at old.heads place) (doors : new.doors ≡ old.doors ++ more)
    (room : length new.entries + length new.running ≤ new.room) where
  facts : StartsWith roster.heads (state roster).running (state roster).teams (length (state roster).loopers) place team first
  facts = started_facts roster.heads (state roster) word place team first starts

  many : loopers_at old.heads place ≡ loopers_at roster.heads place
  many = ap (λ (r : RosterData D O). loopers_at r.heads place) view

  length_more : length more ≡ loopers_at roster.heads place
  length_more =
      length-AreKept threads (length (state roster).loopers) more (loopers_of roster.heads clock.thread.0 (launch_of roster.heads (state roster) word)) kept
      ∙ count_started roster.heads clock.thread.0 (launch_of roster.heads (state roster) word) ∙ ap (count_launched roster.heads) starts

  none_taken : old.taken ≡ []
  none_taken =
      nil_from_length old.taken (omega (
        arith,
        sound.all_doors,
        length-append old.taken old.doors,
        ap (λ (r : RosterData D O). length r.doors) view,
        rest,
        sound.loopers,
        ap (λ (r : RosterData D O). length (state r).loopers) view,
      ))

  kept_so : AreKept threads 0 new.doors ((state roster).loopers ++ loopers_of roster.heads clock.thread.0 (launch_of roster.heads (state roster) word))
  kept_so =
      subst (λ (ds : List D). AreKept threads 0 ds ((state roster).loopers ++ loopers_of roster.heads clock.thread.0 (launch_of roster.heads (state roster) word)))
      (sym (doors ∙ ap (λ (ds : List D). ds ++ more) (ap (λ (r : RosterData D O). r.doors) view)))
      (AreKept-append threads 0 roster.doors more (state roster).loopers (loopers_of roster.heads clock.thread.0 (launch_of roster.heads (state roster) word))
      (length (state roster).loopers) (omega (arith, rest)) ((roster_held object threads old roster view clock later (event.Launch word (launch_of roster.heads (state roster) word)) e last sound stamp entry time).kept rest) kept)

  team_is : team_of roster.heads (launch_of roster.heads (state roster) word)
      ≡ (let t : Running = record { team = team; description = place; first = first; loopers = loopers_at roster.heads place } in t) ∷ []
  team_is = ap (team_of roster.heads) starts

  holds : Holds object threads old roster view clock later (event.Launch word (launch_of roster.heads (state roster) word)) e last sound stamp entry time new (map object more)
  holds = record {
    heads = heads;
    entries = entries;
    doors = ap (λ (ds : List D). map object (ds ++ new.doors)) taken ∙ ap (λ (ds : List D). map object (old.taken ++ ds)) doors
        ∙ ap (map object) (sym (append_assoc old.taken old.doors more)) ∙ map-append object (old.taken ++ old.doors) more;
    count = length-map more object ∙ length_more ∙ sym (ap (count_launched roster.heads) starts);
    legal = refl;
    running = running
        ∙ ap (λ (n : ℕ). old.running ++ (let t : Running = record { team = team; description = place; first = first; loopers = n } in t) ∷ []) many
        ∙ ap (λ (rs : List Running). rs ++ (let t : Running = record { team = team; description = place; first = first; loopers = loopers_at roster.heads place } in t) ∷ [])
        (running_held object threads old roster view clock later (event.Launch word (launch_of roster.heads (state roster) word)) e last sound stamp entry time)
        ∙ ap (λ (rs : List Running). (state roster).running ++ rs) (sym team_is);
    teams = omega (arith, teams, facts.team_is, ap length team_is);
    loopers = omega (arith, loopers, facts.first_is, sound.loopers, ap (λ (r : RosterData D O). length (state r).loopers) view, many, ap (count_launched roster.heads) starts);
    kept = λ _. kept_so;
    room = room;
    few_teams = omega (arith, teams, facts.few_teams);
    few_loopers = omega (arith, loopers, facts.few_loopers, many);
    once = inl (taken ∙ none_taken);
  }

  pub launches : Entered object threads (event.Launch word (launch_of roster.heads (state roster) word)) (map object more) (roster.doors ++ more) roster new clock later
  launches =
      entered_so object threads old roster view clock later (event.Launch word (launch_of roster.heads (state roster) word)) e last sound stamp entry time
      new (map object more) (roster.doors ++ more) (doors ∙ ap (λ (ds : List D). ds ++ more) (ap (λ (r : RosterData D O). r.doors) view)) holds

  pub launched_rests : IsAtRest (roster_seen object new)
  launched_rests =
      rests object threads (event.Launch word (launch_of roster.heads (state roster) word)) (map object more) (roster.doors ++ more) roster new clock later launches
      (length-append roster.doors more
      ∙ (let n = length-AreKept threads (length (state roster).loopers) more (loopers_of roster.heads clock.thread.0 (launch_of roster.heads (state roster) word)) kept in omega (arith, rest, n))
      ∙ sym (length-append (state roster).loopers (loopers_of roster.heads clock.thread.0 (launch_of roster.heads (state roster) word))))

-- ---- doors that tell nothing
pub AreKept-nothing : {D : Type 0} (n : ℕ) (ds : List D) (ls : List LooperData) → length ds ≡ length ls → AreKept (λ _. None) n ds ls
AreKept-nothing n [] [] same = refl
AreKept-nothing n [] (l ∷ ls) same = absurd (omega arith)
AreKept-nothing n (d ∷ ds) [] same = absurd (omega arith)
AreKept-nothing n (d ∷ ds) (l ∷ ls) same = (tt, AreKept-nothing (suc n) ds ls (omega arith))

pub started_by : (o : LaunchOutcome) (place team first : ℕ) → decision.Starts place team first ≡ decision_of o → o ≡ launch.Started place team first
started_by (launch.Started p t f) place team first e = cc
started_by (launch.AlreadyRunning t) place team first e = absurd cc
started_by launch.NotFound place team first e = absurd cc
started_by launch.Limit place team first e = absurd cc

pub doors_for_start : {D : Type 0} (heads : List AppHead) (by : ℕ) (o : LaunchOutcome) (place team first n : ℕ) (ds : List D) → decision.Starts place team first ≡ decision_of o
    → length ds ≡ loopers_at heads place → AreKept (λ _. None) n ds (loopers_of heads by o)
doors_for_start heads by o place team first n ds starts many =
    AreKept-nothing n ds (loopers_of heads by o) (many ∙ sym (count_started heads by o ∙ ap (count_launched heads) (started_by o place team first starts)))
