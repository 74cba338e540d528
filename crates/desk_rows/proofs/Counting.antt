-- One entry more of a desk's list.
use Rattle.std.proofs.Common.{◌≡◌, ℕ, zero, suc, ◌+◌, ◌≤◌, Bool, true, false, ◌||◌, List, [], ◌∷◌, ◌++◌, take, Option, None, Some, option_map, slice_get, refl, ap, ◌∙◌, arith}
use Rattle.std.proofs.lemmas.List.Folds.{list_any-append}
use Rattle.ak_desk.specs.declared.entry.DeskEntry.{DeskEntry}
use Rattle.ak_desk.specs.declared.entry.DeskEvent.{DeskEvent}
use Rattle.ak_desk.specs.declared.entry.DeskEvent.TheVariants as event
use Rattle.ak_desk.specs.Entry.{EntryData}
use Rattle.ak_desk.specs.Machine.{counted, counted_all, gave_up, gives_up}
use Rattle.ak_desk.proofs.Surface.{counted_push}

-- ---- those before a place, and the one at it
more : (xs : List EntryData) (i : ℕ) (x : EntryData) → slice_get xs i ≡ Some x → take (suc i) xs ≡ take i xs ++ x ∷ []
more [] i x e = absurd cc
more (y ∷ ys) zero x e = ap (λ (z : EntryData). z ∷ []) cc
more (y ∷ ys) (suc i) x e = ap (λ (zs : List EntryData). y ∷ zs) (more ys i x e)

or_false : (b c : Bool) → (b || (c || false)) ≡ (b || c)
or_false b true = refl
or_false b false = refl

module _ (lines : List EntryData) (place : ℕ) (entry : DeskEntry) where
  taken : (line : EntryData) → slice_get lines place ≡ Some line → take (place + 1) lines ≡ take place lines ++ line ∷ []
  taken line e = let next : place + 1 ≡ suc place = omega arith in ap (λ (n : ℕ). take n lines) next ∙ more lines place line e

  counts_by : (o : Option EntryData) → slice_get lines place ≡ o → Some entry ≡ option_map (λ line. line.plain) o → counted_all 0 (take (place + 1) lines) ≡ counted (counted_all 0 (take place lines)) entry.event
  counts_by None at e = absurd cc
  counts_by (Some line) at e =
      let same : line.plain ≡ entry = cc in
      ap (counted_all 0) (taken line at) ∙ counted_push 0 (take place lines) line ∙ ap (λ (x : DeskEntry). counted (counted_all 0 (take place lines)) x.event) same

  gives_up_by : (o : Option EntryData) → slice_get lines place ≡ o → Some entry ≡ option_map (λ line. line.plain) o → gave_up (take (place + 1) lines) ≡ (gave_up (take place lines) || gives_up entry.event)
  gives_up_by None at e = absurd cc
  gives_up_by (Some line) at e =
      let same : line.plain ≡ entry = cc in
      ap gave_up (taken line at)
      ∙ list_any-append (λ (l : EntryData). gives_up l.plain.event) (take place lines) (line ∷ [])
      ∙ or_false (gave_up (take place lines)) (gives_up line.plain.event)
      ∙ ap (λ (x : DeskEntry). gave_up (take place lines) || gives_up x.event) same

pub counts_more : (lines : List EntryData) (place : ℕ) (entry : DeskEntry) → Some entry ≡ option_map (λ line. line.plain) (slice_get lines place) → counted_all 0 (take (place + 1) lines) ≡ counted (counted_all 0 (take place lines)) entry.event
counts_more lines place entry e = counts_by lines place entry (slice_get lines place) refl e

pub gives_up_more : (lines : List EntryData) (place : ℕ) (entry : DeskEntry) → Some entry ≡ option_map (λ line. line.plain) (slice_get lines place) → gave_up (take (place + 1) lines) ≡ (gave_up (take place lines) || gives_up entry.event)
gives_up_more lines place entry e = gives_up_by lines place entry (slice_get lines place) refl e

pub one_at_most : (n : ℕ) (e : DeskEvent) → counted n e ≤ n + 1
one_at_most n (event.Dispatched position route words quit) = omega arith
one_at_most n (event.Edited e answer) = omega arith

pub ruleset counting = (counts_more, gives_up_more, one_at_most)
