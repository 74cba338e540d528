-- The entries with the objects of the loopers that they start.
use Rattle.std.proofs.Common.{◌≡◌, ◌≤◌, ℕ, ◌+◌, ◌-◌, List, [], ◌∷◌, ◌++◌, length, take, drop, refl, sym, ap, ◌∙◌, arith, Option, Some, None}
use Rattle.std.specs.Prelude.{option_map, slice_get, unwrap_or}
use Rattle.std.proofs.lemmas.List.{length-drop, length-map, take-append-le, drop-append-le, take-append-drop, nil_from_length}
use Rattle.std.proofs.lemmas.Option.{slice_get-map}
use Rattle.ak_turn.specs.Entries.{last_stamp_of}
use Rattle.ak_roster.specs.declared.head.AppHead.{AppHead}
use Rattle.ak_roster.specs.declared.entry.RosterEntry.{RosterEntry}
use Rattle.ak_roster.specs.declared.entry.EntryWithObjects.{EntryWithObjects}
use Rattle.ak_roster.specs.Kept.{count_of, with_objects}
use Rattle.ak_roster.specs.Roster.{plain_entries, objects_of, last_stamp}

module _ (heads : List AppHead) where
  -- how many loopers entries start
  abbrev pub count_all : List RosterEntry → ℕ
  count_all [] = 0
  count_all (e ∷ es) = count_of heads e.event + count_all es

module _ {O : Type 0} (heads : List AppHead) where
  pub with_objects-append : (objects more : List (Option O)) (es : List RosterEntry) (e : RosterEntry) → length objects ≡ count_all heads es
      → with_objects heads (objects ++ more) (es ++ e ∷ [])
      ≡ with_objects heads objects es ++ (record { plain = e; objects = take (count_of heads e.event) more }) ∷ []
  with_objects-append objects more [] e count =
      ap (λ (os : List (Option O)). (let l : EntryWithObjects O = record { plain = e; objects = take (count_of heads e.event) (os ++ more) } in l) ∷ []) (nil_from_length objects count)
  with_objects-append objects more (x ∷ xs) e count =
      let within : count_of heads x.event ≤ length objects = omega arith in
      let rest : length (drop (count_of heads x.event) objects) ≡ count_all heads xs = omega (arith, length-drop (count_of heads x.event) objects) in
      rw (take-append-le (count_of heads x.event) objects more within, drop-append-le (count_of heads x.event) objects more within)
      (ap (λ (ls : List (EntryWithObjects O)). (let l : EntryWithObjects O = record { plain = x; objects = take (count_of heads x.event) objects } in l) ∷ ls)
      (with_objects-append (drop (count_of heads x.event) objects) more xs e rest))

  pub objects_of-with_objects : (objects : List (Option O)) (es : List RosterEntry) → length objects ≡ count_all heads es → objects_of (with_objects heads objects es) ≡ objects
  objects_of-with_objects objects [] count = sym (nil_from_length objects count)
  objects_of-with_objects objects (x ∷ xs) count =
      let rest : length (drop (count_of heads x.event) objects) ≡ count_all heads xs = omega (arith, length-drop (count_of heads x.event) objects) in
      ap (λ (os : List (Option O)). take (count_of heads x.event) objects ++ os) (objects_of-with_objects (drop (count_of heads x.event) objects) xs rest)
      ∙ take-append-drop (count_of heads x.event) objects

  pub plain_entries-with_objects : (objects : List (Option O)) (es : List RosterEntry) → plain_entries (with_objects heads objects es) ≡ es
  plain_entries-with_objects objects [] = refl
  plain_entries-with_objects objects (x ∷ xs) = ap (λ (es : List RosterEntry). x ∷ es) (plain_entries-with_objects (drop (count_of heads x.event) objects) xs)

  pub length-with_objects : (objects : List (Option O)) (es : List RosterEntry) → length (with_objects heads objects es) ≡ length es
  length-with_objects objects es = sym (length-map (with_objects heads objects es) (λ entry. entry.plain)) ∙ ap length (plain_entries-with_objects objects es)

stamp_within : {O : Type 0} (entry : Option (EntryWithObjects O)) → option_map (λ e. e.stamp) (option_map (λ l. l.plain) entry) ≡ option_map (λ l. l.plain.stamp) entry
stamp_within None = refl
stamp_within (Some entry) = refl

pub last_stamp-plain_entries : {O : Type 0} (entries : List (EntryWithObjects O)) → last_stamp_of (λ e. e.stamp) (plain_entries entries) ≡ last_stamp entries
last_stamp-plain_entries entries =
    ap (λ (n : ℕ). unwrap_or (option_map (λ e. e.stamp) (slice_get (plain_entries entries) (n - 1))) 0) (length-map entries (λ entry. entry.plain))
    ∙ ap (λ (o : Option RosterEntry). unwrap_or (option_map (λ e. e.stamp) o) 0) (slice_get-map (λ entry. entry.plain) entries (length entries - 1))
    ∙ ap (λ (o : Option ℕ). unwrap_or o 0) (stamp_within (slice_get entries (length entries - 1)))

module _ {O : Type 0} (heads : List AppHead) (objects : List (Option O)) (es : List RosterEntry) where
  pub last_stamp-with_objects : last_stamp_of (λ e. e.stamp) es ≡ last_stamp (with_objects heads objects es)
  last_stamp-with_objects =
      ap (λ (xs : List RosterEntry). last_stamp_of (λ e. e.stamp) xs) (sym (plain_entries-with_objects heads objects es)) ∙ last_stamp-plain_entries (with_objects heads objects es)

  pub entry-with_objects : (place : ℕ) → slice_get es place ≡ option_map (λ entry. entry.plain) (slice_get (with_objects heads objects es) place)
  entry-with_objects place =
      ap (λ (xs : List RosterEntry). slice_get xs place) (sym (plain_entries-with_objects heads objects es))
      ∙ slice_get-map (λ entry. entry.plain) (with_objects heads objects es) place
