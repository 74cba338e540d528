-- What is true of the book stays true when an entry is added.
use Rattle.std.proofs.Common.{◌≡◌, ◌<◌, ◌≤◌, ℕ, ◌+◌, ◌⊎◌, List, [], ◌∷◌, ◌++◌, length, map, sym, ap, ◌∙◌, subst, arith, append-nil, Option}
use Rattle.std.proofs.lemmas.List.{length-append, length-map, take_all, map-append, nil_from_length}
use Rattle.std.proofs.lemmas.Grind.{flat_map-append}
use Rattle.ak_roster.specs.declared.head.AppHead.{AppHead}
use Rattle.ak_roster.specs.declared.entry.RosterEntry.{RosterEntry}
use Rattle.ak_roster.specs.declared.entry.EntryWithObjects.{EntryWithObjects}
use Rattle.ak_roster.specs.Machine.{RosterState, IsLegal, IsHistory, after, state_of}
use Rattle.ak_roster.specs.Kept.{Kept, IsSound, count_of, with_objects, roster_seen}
use Rattle.ak_roster.specs.Roster.{RosterData, IsRoster, AreKept, plain_entries, objects_of, last_stamp, state}
use Rattle.ak_roster.proofs.Entries.{count_all, plain_entries-with_objects, last_stamp-plain_entries, with_objects-append, objects_of-with_objects}
use Rattle.ak_roster.proofs.Histories.{history_goes_on, length-loopers, loopers-after, state_of-append}

-- the state after one entry more
pub state-entry : {O : Type 0} (heads : List AppHead) (entries : List (EntryWithObjects O)) (entry : EntryWithObjects O)
    → state_of heads (plain_entries (entries ++ entry ∷ [])) ≡ after heads (state_of heads (plain_entries entries)) entry.plain.by.0 entry.plain.event
state-entry heads entries entry =
    ap (λ (es : List RosterEntry). state_of heads es) (map-append (λ l. l.plain) entries (entry ∷ [])) ∙ state_of-append heads (plain_entries entries) entry.plain

module _ {D O : Type 0} (object : D → Option O) (threads : D → Option (List ℕ)) where
  -- what an entry makes of the book
  pub record Grows (old new : Kept D) (e : RosterEntry) (added : List (Option O)) : Type 0 where
    pub heads : new.heads ≡ old.heads
    pub entries : new.entries ≡ old.entries ++ e ∷ []
    pub doors : map object (new.taken ++ new.doors) ≡ map object (old.taken ++ old.doors) ++ added
    pub count : length added ≡ count_of old.heads e.event
    pub legal : IsLegal old.heads (state (roster_seen object old)) e.by.0 e.event
    pub past : last_stamp (roster_seen object old).entries < e.stamp
    pub running : new.running ≡ (after old.heads (state (roster_seen object old)) e.by.0 e.event).running
    pub teams : new.teams ≡ (after old.heads (state (roster_seen object old)) e.by.0 e.event).teams
    pub loopers : new.loopers ≡ old.loopers + count_of old.heads e.event
    pub kept : length new.doors ≡ length (after old.heads (state (roster_seen object old)) e.by.0 e.event).loopers
        → AreKept threads 0 new.doors (after old.heads (state (roster_seen object old)) e.by.0 e.event).loopers
    pub room : length new.entries + length new.running ≤ new.room
    pub few_teams : new.teams ≤ 16
    pub few_loopers : new.loopers ≤ 32
    pub once : (new.taken ≡ []) ⊎ (new.doors ≡ [])

  -- the objects are those of the loopers that the entries start
  counts : (old : Kept D) → IsSound object threads old → length (map object (old.taken ++ old.doors)) ≡ count_all old.heads old.entries
  counts old sound =
      length-map (old.taken ++ old.doors) object ∙ sound.all_doors ∙ sound.loopers
      ∙ length-loopers old.heads (plain_entries (roster_seen object old).entries)
      ∙ ap (λ (es : List RosterEntry). count_all old.heads es) (plain_entries-with_objects old.heads (map object (old.taken ++ old.doors)) old.entries)

  abbrev pub full_entry : RosterEntry → List (Option O) → EntryWithObjects O
  full_entry e added = record { plain = e; objects = added }

  -- the same book with other doors and one entry more
  abbrev pub grown : Kept D → EntryWithObjects O → List D → RosterData D O
  grown old entry doors = record { heads = old.heads; entries = (roster_seen object old).entries ++ entry ∷ []; doors = doors }

  module _ (old new : Kept D) (e : RosterEntry) (added : List (Option O)) (sound : IsSound object threads old) (g : Grows old new e added) where
    entries_grow : with_objects new.heads (map object (new.taken ++ new.doors)) new.entries ≡ (roster_seen object old).entries ++ full_entry e added ∷ []
    entries_grow =
        ap (λ (hs : List AppHead). with_objects hs (map object (new.taken ++ new.doors)) new.entries) g.heads
        ∙ ap (λ (os : List (Option O)). with_objects old.heads os new.entries) g.doors
        ∙ ap (λ (es : List RosterEntry). with_objects old.heads (map object (old.taken ++ old.doors) ++ added) es) g.entries
        ∙ with_objects-append old.heads (map object (old.taken ++ old.doors)) added old.entries e (counts old sound)
        ∙ ap (λ (os : List (Option O)). (roster_seen object old).entries ++ full_entry e os ∷ []) (take_all (count_of old.heads e.event) added (omega (arith, g.count)))

    pub seen : roster_seen object new ≡ grown old (full_entry e added) new.doors
    seen =
        ap (λ (hs : List AppHead). (let r : RosterData D O = record { heads = hs; entries = with_objects new.heads (map object (new.taken ++ new.doors)) new.entries; doors = new.doors } in r)) g.heads
        ∙ ap (λ (ls : List (EntryWithObjects O)). (let r : RosterData D O = record { heads = old.heads; entries = ls; doors = new.doors } in r)) entries_grow

    abbrev pub next : RosterState
    next = after old.heads (state (roster_seen object old)) e.by.0 e.event

    next_is : state (grown old (full_entry e added) new.doors) ≡ next
    next_is = state-entry old.heads (roster_seen object old).entries (full_entry e added)

    pub state_is : state (roster_seen object new) ≡ next
    state_is = ap (λ (r : RosterData D O). state r) seen ∙ next_is

    all_doors : length (new.taken ++ new.doors) ≡ new.loopers
    all_doors =
        sym (length-map (new.taken ++ new.doors) object) ∙ ap length g.doors ∙ length-append (map object (old.taken ++ old.doors)) added
        ∙ (let a : length (map object (old.taken ++ old.doors)) ≡ old.loopers = length-map (old.taken ++ old.doors) object ∙ sound.all_doors in
        omega (arith, g.count, g.loopers))

    loopers_is : new.loopers ≡ length next.loopers
    loopers_is = omega (arith, g.loopers, sound.loopers, loopers-after old.heads (state (roster_seen object old)) e.by.0 e.event)

    none_taken : length new.doors ≡ length next.loopers → new.taken ≡ []
    none_taken rest = nil_from_length new.taken (omega (arith, all_doors, loopers_is, length-append new.taken new.doors))

    objects_grow : length new.doors ≡ length next.loopers → map object new.doors ≡ objects_of ((roster_seen object old).entries ++ full_entry e added ∷ [])
    objects_grow rest =
        ap (λ (ds : List D). map object (ds ++ new.doors)) (sym (none_taken rest))
        ∙ g.doors
        ∙ ap (λ (os : List (Option O)). os ++ added) (sym (objects_of-with_objects old.heads (map object (old.taken ++ old.doors)) old.entries (counts old sound)))
        ∙ ap (λ (os : List (Option O)). objects_of (roster_seen object old).entries ++ os) (sym (append-nil added))
        ∙ sym (flat_map-append (λ entry. entry.objects) (roster_seen object old).entries (full_entry e added ∷ []))

    roster_grows : IsRoster object threads (grown old (full_entry e added) new.doors)
    roster_grows = record {
      heads = sound.roster.heads;
      history = subst (λ (es : List RosterEntry). IsHistory old.heads es) (sym (map-append (λ l. l.plain) (roster_seen object old).entries (full_entry e added ∷ [])))
          (history_goes_on old.heads (plain_entries (roster_seen object old).entries) e sound.roster.history g.legal
          (subst (λ (n : ℕ). n < e.stamp) (sym (last_stamp-plain_entries (roster_seen object old).entries)) g.past));
      objects = λ rest. objects_grow (rest ∙ ap (λ (s : RosterState). length s.loopers) next_is);
      kept = λ rest. subst (λ (s : RosterState). AreKept threads 0 new.doors s.loopers) (sym next_is)
          (g.kept (rest ∙ ap (λ (s : RosterState). length s.loopers) next_is));
    }

    pub sound_grows : IsSound object threads new
    sound_grows = record {
      roster = subst (λ (r : RosterData D O). IsRoster object threads r) (sym seen) roster_grows;
      running = g.running ∙ ap (λ (s : RosterState). s.running) (sym state_is);
      teams = g.teams ∙ ap (λ (s : RosterState). s.teams) (sym state_is);
      loopers = loopers_is ∙ ap (λ (s : RosterState). length s.loopers) (sym state_is);
      room = g.room;
      few_teams = g.few_teams;
      few_loopers = g.few_loopers;
      all_doors = all_doors;
      once = g.once;
    }
