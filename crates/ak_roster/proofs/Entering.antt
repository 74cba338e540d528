-- What a call that makes an entry leaves, as contracts say it.
use Rattle.std.proofs.Common.{◌≡◌, ◌<◌, ◌≤◌, ℕ, ◌+◌, ◌⊎◌, List, [], ◌∷◌, ◌++◌, length, map, sym, ap, ◌∙◌, subst, arith, append-nil, Option, max}
use Rattle.ak_turn.specs.declared.clock.Clock.{Clock}
use Rattle.ak_roster.specs.declared.entry.RosterEntry.{RosterEntry}
use Rattle.ak_roster.specs.declared.entry.RosterEvent.{RosterEvent}
use Rattle.ak_roster.specs.Machine.{LooperData, RosterState, IsLegal, after}
use Rattle.ak_roster.specs.Kept.{Kept, IsSound, count_of, roster_seen}
use Rattle.ak_roster.specs.Roster.{RosterData, IsRoster, IsAtRest, AreKept, Enters, last_stamp, new_entry, state}
use Rattle.ak_roster.proofs.Sound.{Grows, full_entry, seen, sound_grows, state_is}

-- the entry of an event by that clock, past that stamp
abbrev pub entry_of : Clock → ℕ → RosterEvent → RosterEntry
entry_of clock last what = record { stamp = 1 + max clock.time last; by = clock.thread; event = what }

-- the book that the code holds after it
pub record Entered {D O : Type 0} (object : D → Option O) (threads : D → Option (List ℕ)) (what : RosterEvent) (added : List (Option O)) (doors : List D)
    (roster : RosterData D O) (new : Kept D) (clock later : Clock) : Type 0 where
  pub sound : IsSound object threads new
  pub entry : Enters what added doors roster (roster_seen object new) clock later
  pub state_is : state (roster_seen object new) ≡ after roster.heads (state roster) clock.thread.0 what

module _ {D O : Type 0} (object : D → Option O) (threads : D → Option (List ℕ)) (old : Kept D) (roster : RosterData D O) (view : roster_seen object old ≡ roster)
    (clock later : Clock) (what : RosterEvent) (e : RosterEntry) (last : ℕ) (sound : IsSound object threads old) (stamp : last ≡ last_stamp roster.entries)
    (entry : e ≡ entry_of clock last what) (time : later ≡ record clock { time = 1 + max clock.time last }) where
  pub legal_for : IsLegal roster.heads (state roster) clock.thread.0 what → IsLegal old.heads (state (roster_seen object old)) e.by.0 e.event
  legal_for legal =
      subst (λ (r : RosterData D O). IsLegal r.heads (state r) e.by.0 e.event) (sym view)
      (subst (λ (x : RosterEntry). IsLegal roster.heads (state roster) x.by.0 x.event) (sym entry) legal)

  pub past_for : last_stamp (roster_seen object old).entries < e.stamp
  past_for = subst (λ (r : RosterData D O). last_stamp r.entries < e.stamp) (sym view) (omega (arith, stamp, ap (λ (x : RosterEntry). x.stamp) entry))

  pub after_for : after old.heads (state (roster_seen object old)) e.by.0 e.event ≡ after roster.heads (state roster) clock.thread.0 what
  after_for =
      ap (λ (r : RosterData D O). after r.heads (state r) e.by.0 e.event) view ∙ ap (λ (x : RosterEntry). after roster.heads (state roster) x.by.0 x.event) entry

  pub count_for : count_of old.heads e.event ≡ count_of roster.heads what
  count_for = ap (λ (r : RosterData D O). count_of r.heads e.event) view ∙ ap (λ (x : RosterEntry). count_of roster.heads x.event) entry

  module _ (new : Kept D) (added : List (Option O)) (doors : List D) (doors_are : new.doors ≡ doors) (g : Grows object threads old new e added) where
    entry_is : roster_seen object new ≡ record { heads = roster.heads; entries = roster.entries ++ new_entry clock roster.entries what added ∷ []; doors = doors }
    entry_is =
        seen object threads old new e added sound g
        ∙ ap (λ (r : RosterData D O). (let s : RosterData D O = record { heads = r.heads; entries = r.entries ++ full_entry object threads e added ∷ []; doors = new.doors } in s)) view
        ∙ ap (λ (x : RosterEntry). (let s : RosterData D O = record { heads = roster.heads; entries = roster.entries ++ full_entry object threads x added ∷ []; doors = new.doors } in s))
        (entry ∙ ap (λ (n : ℕ). entry_of clock n what) stamp)
        ∙ ap (λ (ds : List D). (let s : RosterData D O = record { heads = roster.heads; entries = roster.entries ++ new_entry clock roster.entries what added ∷ []; doors = ds } in s)) doors_are

    pub entered : Entered object threads what added doors roster new clock later
    entered = record {
      sound = sound_grows object threads old new e added sound g;
      entry = (entry_is, time ∙ ap (λ (n : ℕ). (let c : Clock = record clock { time = 1 + max clock.time n } in c)) stamp);
      state_is = state_is object threads old new e added sound g ∙ after_for;
    }

  -- ---- what the code holds
  pub running_held : old.running ≡ (state roster).running
  running_held = sound.running ∙ ap (λ (r : RosterData D O). (state r).running) view

  pub teams_held : old.teams ≡ (state roster).teams
  teams_held = sound.teams ∙ ap (λ (r : RosterData D O). (state r).teams) view

  pub roster_held : IsRoster object threads roster
  roster_held = subst (λ (r : RosterData D O). IsRoster object threads r) view sound.roster

  pub doors_held : old.doors ≡ roster.doors
  doors_held = ap (λ (r : RosterData D O). r.doors) view

  -- the state that the entry leaves
  abbrev pub left : RosterState
  left = after roster.heads (state roster) clock.thread.0 what

  -- what is asked of the book that the code holds then
  pub record Holds (new : Kept D) (added : List (Option O)) : Type 0 where
    pub heads : new.heads ≡ old.heads
    pub entries : new.entries ≡ old.entries ++ e ∷ []
    pub doors : map object (new.taken ++ new.doors) ≡ map object (old.taken ++ old.doors) ++ added
    pub count : length added ≡ count_of roster.heads what
    pub legal : IsLegal roster.heads (state roster) clock.thread.0 what
    pub running : new.running ≡ (after roster.heads (state roster) clock.thread.0 what).running
    pub teams : new.teams ≡ (after roster.heads (state roster) clock.thread.0 what).teams
    pub loopers : new.loopers ≡ old.loopers + count_of roster.heads what
    pub kept : length new.doors ≡ length (after roster.heads (state roster) clock.thread.0 what).loopers
        → AreKept threads 0 new.doors (after roster.heads (state roster) clock.thread.0 what).loopers
    pub room : length new.entries + length new.running ≤ new.room
    pub few_teams : new.teams ≤ 16
    pub few_loopers : new.loopers ≤ 32
    pub once : (new.taken ≡ []) ⊎ (new.doors ≡ [])

  module _ (new : Kept D) (added : List (Option O)) (doors : List D) (doors_are : new.doors ≡ doors) (h : Holds new added) where
    grows : Grows object threads old new e added
    grows = record {
      heads = h.heads;
      entries = h.entries;
      doors = h.doors;
      count = h.count ∙ sym count_for;
      legal = legal_for h.legal;
      past = past_for;
      running = h.running ∙ ap (λ (s : RosterState). s.running) (sym after_for);
      teams = h.teams ∙ ap (λ (s : RosterState). s.teams) (sym after_for);
      loopers = h.loopers ∙ ap (λ (n : ℕ). old.loopers + n) (sym count_for);
      kept = subst (λ (s : RosterState). length new.doors ≡ length s.loopers → AreKept threads 0 new.doors s.loopers) (sym after_for) h.kept;
      room = h.room;
      few_teams = h.few_teams;
      few_loopers = h.few_loopers;
      once = h.once;
    }

    pub entered_so : Entered object threads what added doors roster new clock later
    entered_so = entered new added doors doors_are grows

  -- ---- an event that starts no looper and gives no door, with the same doors
  module _ (new : Kept D) (heads : new.heads ≡ old.heads) (teams : new.teams ≡ old.teams) (loopers : new.loopers ≡ old.loopers)
      (taken : new.taken ≡ old.taken) (doors : new.doors ≡ old.doors) (entries : new.entries ≡ old.entries ++ e ∷ []) (room : length new.entries + length new.running ≤ new.room)
      (legal : IsLegal roster.heads (state roster) clock.thread.0 what) (none : count_of roster.heads what ≡ 0)
      (running : new.running ≡ (after roster.heads (state roster) clock.thread.0 what).running)
      (same_teams : (after roster.heads (state roster) clock.thread.0 what).teams ≡ (state roster).teams)
      (same_loopers : (after roster.heads (state roster) clock.thread.0 what).loopers ≡ (state roster).loopers) where
    kept_so : length new.doors ≡ length (state roster).loopers → AreKept threads 0 new.doors (state roster).loopers
    kept_so rest =
        subst (λ (ds : List D). AreKept threads 0 ds (state roster).loopers) (sym (doors ∙ doors_held))
        (roster_held.kept (ap length (sym (doors ∙ doors_held)) ∙ rest))

    still : Holds new []
    still = record {
      heads = heads;
      entries = entries;
      doors = ap (λ (ds : List D). map object (ds ++ new.doors)) taken ∙ ap (λ (ds : List D). map object (old.taken ++ ds)) doors ∙ sym (append-nil (map object (old.taken ++ old.doors)));
      count = sym none;
      legal = legal;
      running = running;
      teams = teams ∙ teams_held ∙ sym same_teams;
      loopers = omega arith;
      kept = subst (λ (ls : List LooperData). length new.doors ≡ length ls → AreKept threads 0 new.doors ls) (sym same_loopers) kept_so;
      room = room;
      few_teams = omega (arith, sound.few_teams);
      few_loopers = omega (arith, sound.few_loopers);
      once = subst (λ (ds : List D). (new.taken ≡ []) ⊎ (ds ≡ [])) (sym doors) (subst (λ (ds : List D). (ds ≡ []) ⊎ (old.doors ≡ [])) (sym taken) sound.once);
    }

    pub entered_still : Entered object threads what [] roster.doors roster new clock later
    entered_still = entered_so new [] roster.doors (doors ∙ doors_held) still

module _ {D O : Type 0} (object : D → Option O) (threads : D → Option (List ℕ)) (what : RosterEvent) (added : List (Option O)) (doors : List D) (roster : RosterData D O)
    (new : Kept D) (clock later : Clock) (done : Entered object threads what added doors roster new clock later) where
  -- it is at rest where there are as many doors as loopers
  pub rests : length doors ≡ length (after roster.heads (state roster) clock.thread.0 what).loopers → IsAtRest (roster_seen object new)
  rests enough = ap (λ (r : RosterData D O). length r.doors) done.entry.0 ∙ enough ∙ sym (ap (λ (s : RosterState). length s.loopers) done.state_is)
