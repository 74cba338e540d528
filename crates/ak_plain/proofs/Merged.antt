-- What is true of all entries of a run's objects is true of all entries of their merged list.
use Rattle.std.proofs.Common.{◌≡◌, Bool, true, false, cond, not, ◌&&◌, List, [], ◌∷◌, filter, All, subst, ap, sym, ⊎_elim}
use Rattle.std.specs.Cmp.{IsStrictWeakOrder}
use Rattle.std.specs.List.Sorted.{IsStableBy, ties}
use Rattle.std.proofs.lemmas.Bool.{cases_Bool}
use Rattle.std.proofs.lemmas.Cmp.{nat_cmp_total, on_total, then_total}
use Rattle.std.proofs.lemmas.List.Elements.{All-cons, All-filter, All-head, All-nil, All-tail}
use Rattle.std.proofs.lemmas.List.MinMax.{ranks_by}
use Rattle.ak_diary.specs.declared.histories.Histories.{Histories}
use Rattle.ak_journal.specs.declared.entry.Entry.{Entry}
use Rattle.ak_world.specs.Merged.{IsMerged, entries_of, is_before, stamp_of, thread_of}

module _ {X : Type 0} (lt : X → X → Bool) (o : IsStrictWeakOrder lt) (P : X → Type 0) where
  ties_itself : (x : X) → ties lt x x ≡ true
  ties_itself x =
      let not_less : lt x x ≡ false = ⊎_elim (λ (less : lt x x ≡ true). o.one_way x x less) (λ (no : lt x x ≡ false). no) (cases_Bool (lt x x)) in
      ap (λ b. not b && not b) not_less

  rest_if : (b : Bool) (x : X) (xs : List X) → All P (cond b (x ∷ xs) xs) → All P xs
  rest_if true x xs all = All-tail P x xs all
  rest_if false x xs all = all

  -- each thing is among those of its rank
  all_of_ranks : (xs : List X) → ((z : X) → All P (filter (ties lt z) xs)) → All P xs
  all_of_ranks [] each = All-nil P
  all_of_ranks (x ∷ xs) each =
      All-cons P x xs
      (All-head P x (filter (ties lt x) xs) (subst (λ b. All P (cond b (x ∷ filter (ties lt x) xs) (filter (ties lt x) xs))) (ties_itself x) (each x)))
      (all_of_ranks xs (λ z. rest_if (ties lt z x) x (filter (ties lt z) xs) (each z)))

  all_stable : (xs ys : List X) → IsStableBy lt xs ys → All P xs → All P ys
  all_stable xs ys same all = all_of_ranks ys (λ z. subst (All P) (sym (same z)) (All-filter (ties lt z) P xs all))

by_stamps : IsStrictWeakOrder is_before
by_stamps = ranks_by (then_total (on_total stamp_of nat_cmp_total) (on_total thread_of nat_cmp_total)) (λ (e : Entry). e)

pub merged_all : (P : Entry → Type 0) (h : Histories) (entries : List Entry) → IsMerged h entries → All P (entries_of h) → All P entries
merged_all P h entries merged all = all_stable is_before by_stamps P (entries_of h) entries merged.each all
