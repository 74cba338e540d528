-- Stamps that rise rise in each front, and go on rising by an entry past the last one.
use Rattle.std.proofs.Common.{◌≡◌, ℕ, zero, suc, ◌+◌, ◌-◌, ◌<◌, max, List, [], ◌∷◌, ◌++◌, length, sym, refl, ap, ◌∙◌, arith}
use Rattle.std.specs.Prelude.{slice_get, option_map, unwrap_or}
use Rattle.ak_turn.specs.Entries.{last_stamp_of}
use Rattle.ak_turn.specs.Stamps.{Rise}

-- a clock's next stamp is past the last one
pub next_is_past : (time last : ℕ) → last < 1 + max time last
next_is_past time last = omega arith

module _ {L : Type 0} (stamp : L → ℕ) where
  -- the stamp of the last entry, or that number where there is none
  abbrev last_from : ℕ → List L → ℕ
  last_from last [] = last
  last_from last (entry ∷ entries) = last_from (stamp entry) entries

  rise_from : (last : ℕ) (entries : List L) (entry : L) → Rise stamp last entries → last_from last entries < stamp entry → Rise stamp last (entries ++ entry ∷ [])
  rise_from last [] entry rise above = (above, tt)
  rise_from last (x ∷ xs) entry rise above = (rise.0, rise_from (stamp x) xs entry rise.1 above)

  abbrev last_read : ℕ → List L → ℕ → ℕ
  last_read last entries i = unwrap_or (option_map stamp (slice_get entries i)) last

  -- within the entries the number does not matter
  read_within : (last other : ℕ) (entries : List L) (i : ℕ) → i < length entries → last_read last entries i ≡ last_read other entries i
  read_within last other [] i lt = absurd (omega arith)
  read_within last other (x ∷ xs) zero lt = refl
  read_within last other (x ∷ xs) (suc i) lt = read_within last other xs i (omega arith)

  last_from-read : (last : ℕ) (entries : List L) → last_from last entries ≡ last_read last entries (length entries - 1)
  last_from-read last [] = refl
  last_from-read last (x ∷ []) = let e : length (x ∷ []) - 1 ≡ 0 = omega arith in ap (last_read last (x ∷ [])) (sym e)
  last_from-read last (x ∷ y ∷ ys) =
      let e : length (x ∷ y ∷ ys) - 1 ≡ suc (length (y ∷ ys) - 1) = omega arith in
      last_from-read (stamp x) (y ∷ ys) ∙ read_within (stamp x) last (y ∷ ys) (length (y ∷ ys) - 1) (omega arith) ∙ ap (last_read last (x ∷ y ∷ ys)) (sym e)

  pub rise_push : (entries : List L) (entry : L) → Rise stamp 0 entries → last_stamp_of stamp entries < stamp entry → Rise stamp 0 (entries ++ entry ∷ [])
  rise_push entries entry rise past = rise_from 0 entries entry rise (let l : last_from 0 entries ≡ last_stamp_of stamp entries = last_from-read 0 entries in omega arith)

  -- the front of a list whose stamps rise
  pub rise_before : (last : ℕ) (xs ys : List L) → Rise stamp last (xs ++ ys) → Rise stamp last xs
  rise_before last [] ys rise = tt
  rise_before last (x ∷ xs) ys rise = (rise.0, rise_before (stamp x) xs ys rise.1)
