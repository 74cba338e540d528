-- What the whole list has by a thread is what was known of it.
use Rattle.std.proofs.Common.{◌≡◌, ℕ, suc, ◌==◌, cond, List, [], ◌∷◌, ◌++◌, map, All, Contains, Option, Some, sym, refl, ap, ◌∙◌, subst, ◌≢◌}
use Rattle.std.specs.Prelude.{IfSome}
use Rattle.std.proofs.lemmas.List.{map-append}
use Rattle.std.proofs.lemmas.List.Elements.{All-contains, All-map}
use Rattle.ak_turn.specs.declared.view.Part.{Part}
use Rattle.ak_turn.specs.Entries.{AreByOthers, made_by, places_from}
use Rattle.ak_turn.specs.Noted.{entry_of, noted}
use Rattle.ak_turn.specs.Rule.{IsKnown}
use Rattle.ak_turn.specs.Seats.{IsGiven, KnowsWhole, SeatData, part_of}
use Rattle.ak_turn.proofs.Surface.{known_notes, noted_is_made, noted-others}
use Rattle.ak_roster.specs.declared.entry.EntryWithObjects.{EntryWithObjects}
use Rattle.ak_roster.specs.declared.entry.RosterEntry.{RosterEntry}
use Rattle.ak_roster.specs.Roster.{plain_entries}
use Rattle.ak_looper.specs.Rosters.{Object, by_number, maker_of}
use Rattle.ak_gather.specs.Gathering.{KnowsAll, TookIn}

-- ---- a thread whose seat was joined
module _ {O L : Type 0} (by : L → ℕ) (seat main : SeatData O L) (entries : List L) (knows : KnowsAll by main entries) (took : TookIn seat main) where
  pub part_known : IsKnown by entries (part_of seat)
  part_known = All-contains (IsKnown by entries) main.joined (part_of seat) knows took

  -- it did in the whole list what its seat tells
  pub known_told : (thread : ℕ) → seat.thread ≡ thread → noted by thread entries ≡ noted by seat.thread seat.front
  known_told thread is = ap (λ (t : ℕ). noted by t entries) (sym is) ∙ known_notes by entries (part_of seat) part_known

-- ---- the seat that has the turn
module _ {O L : Type 0} (by : L → ℕ) where
  pub knows_all : (seat given : SeatData O L) (entries : List L) → IsGiven by seat given → KnowsWhole by given → entries ≡ given.front → KnowsAll by seat entries
  knows_all seat given entries seen whole list =
      subst (λ (es : List L). All (IsKnown by es) seat.joined) (sym list) (subst (All (IsKnown by given.front)) (ap (λ (s : SeatData O L). s.joined) seen.after) whole.joined)

  -- of a head, each entry is by one of the names
  pub named_all : (seat given : SeatData O L) (entries : List L) → IsGiven by seat given → KnowsWhole by given → entries ≡ given.front → (names : List ℕ) → seat.names ≡ Some names → All (λ (entry : L). Contains names (by entry)) entries
  named_all seat given entries seen whole list names at =
      let P : Option (List ℕ) → Type 0 = λ (ns : Option (List ℕ)). IfSome ns (λ (all : List ℕ). All (λ (entry : L). Contains all (by entry)) given.front) in
      subst (All (λ (entry : L). Contains names (by entry))) (sym list) (subst P (ap (λ (s : SeatData O L). s.names) seen.after ∙ at) whole.names)

-- ---- the roster's entries as the journal shows them
plain_both : (xs ys : List (EntryWithObjects Object)) → plain_entries (xs ++ ys) ≡ plain_entries xs ++ plain_entries ys
plain_both xs ys = map-append (λ (entry : EntryWithObjects Object). entry.plain) xs ys

-- they stand where the entries stand
plain_places : (thread n : ℕ) (entries : List (EntryWithObjects Object)) → places_from maker_of thread n (plain_entries entries) ≡ places_from by_number thread n entries
plain_places thread n [] = refl
plain_places thread n (entry ∷ entries) = ap (λ (l : List ℕ). cond (by_number entry == thread) (n ∷ l) l) (plain_places thread (suc n) entries)

abbrev plain_part : Part (EntryWithObjects Object) → Part RosterEntry
plain_part part = record { thread = part.thread; front = plain_entries part.front; own = part.own }

plain_known : (entries : List (EntryWithObjects Object)) (part : Part (EntryWithObjects Object)) → IsKnown by_number entries part → IsKnown maker_of (plain_entries entries) (plain_part part)
plain_known entries part known = record {
  begins = (plain_entries known.begins.0, ap (λ (l : List (EntryWithObjects Object)). plain_entries l) known.begins.1 ∙ plain_both part.front known.begins.0);
  all_own = known.all_own ∙ sym (plain_places part.thread 0 entries);
  own_seen = known.own_seen ∙ sym (plain_places part.thread 0 part.front);
}

pub plain_told : (thread : ℕ) (entries : List (EntryWithObjects Object)) (part : Part (EntryWithObjects Object)) → part.thread ≡ thread → IsKnown by_number entries part
    → noted maker_of thread (plain_entries entries) ≡ noted maker_of part.thread (plain_entries part.front)
plain_told thread entries part is known =
    ap (λ (t : ℕ). noted maker_of t (plain_entries entries)) (sym is) ∙ known_notes maker_of (plain_entries entries) (plain_part part) (plain_known entries part known)

-- others add nothing to what a thread made
made_still : (thread : ℕ) (xs ys : List RosterEntry) → AreByOthers maker_of thread ys → made_by maker_of thread (xs ++ ys) ≡ made_by maker_of thread xs
made_still thread xs ys others = sym (noted_is_made maker_of thread (xs ++ ys)) ∙ ap (map entry_of) (noted-others maker_of thread xs ys others) ∙ noted_is_made maker_of thread xs

pub plain_still : (thread : ℕ) (front between : List (EntryWithObjects Object)) → AreByOthers by_number thread between
    → made_by maker_of thread (plain_entries (front ++ between)) ≡ made_by maker_of thread (plain_entries front)
plain_still thread front between others =
    ap (made_by maker_of thread) (plain_both front between)
    ∙ made_still thread (plain_entries front) (plain_entries between) (All-map (λ (entry : RosterEntry). maker_of entry ≢ thread) (λ (entry : EntryWithObjects Object). entry.plain) between others)
