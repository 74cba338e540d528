-- A looper's thread makes no entry at the desk of another looper.
use Rattle.std.proofs.Common.{◌≡◌, ◌≢◌, ℕ, Bool, true, false, cond, List, [], ◌∷◌, ◌++◌, refl, sym, ap, ◌∙◌, inl, inr, ne_eqb}
use Rattle.ak_flatten.specs.declared.item.Duty.{Duty}
use Rattle.ak_flatten.specs.declared.item.Duty.TheVariants as duty
use Rattle.ak_flatten.specs.declared.item.Taken.{Taken}
use Rattle.ak_turn.specs.Noted.{Noted}
use Rattle.ak_desk.specs.Entry.{EntryData}
use Rattle.ak_port.specs.Reply.{none_text}
use Rattle.ak_diary.specs.Diary.{IsDiary, IsTurn, Works, begun, went_on}
use Rattle.ak_diary.specs.Looper.{LooperFacts}
use Rattle.ak_diary.specs.Step.{Step, at_desk, desk_entries, desk_entry}
use Rattle.ak_diary.specs.Turns.{Fills, LeavesAll, LeavesOne, lacked_if, left_at}
use Rattle.ak_diary.proofs.Surface.{all_serving, are_quiet, quiet_at_no_desk, settles_quiet}
use Rattle.std.specs.List.{flat_map}
use Rattle.std.proofs.lemmas.List.Concat.{flat_map-append}

-- ---- by these steps nothing, and nothing by those
pub nothing_after : {X : Type 0} (f : Step → List X) (xs ys : List Step) → flat_map f xs ≡ [] → flat_map f ys ≡ [] → flat_map f (xs ++ ys) ≡ []
nothing_after f xs ys one two = flat_map-append f xs ys ∙ ap (λ l. l ++ flat_map f ys) one ∙ two

-- ---- what is left at the end is answered at the reply book
fills_there : (looper slot : ℕ) (text : List ℕ) (steps : List Step) → Fills slot text steps → desk_entries looper steps ≡ []
fills_there looper slot text steps (inl enters) = ap (desk_entries looper) enters.is
fills_there looper slot text steps (inr finds) = ap (desk_entries looper) finds.is

leaves_one : (looper : ℕ) (owed : Duty) (steps : List Step) → LeavesOne owed steps → desk_entries looper steps ≡ []
leaves_one looper duty.None steps is = ap (desk_entries looper) is
leaves_one looper (duty.Slot slot) steps fills = fills_there looper slot none_text steps fills
leaves_one looper (duty.Back to) steps is = ap (desk_entries looper) is

leaves_all : (looper : ℕ) (left : List Taken) (steps : List Step) → LeavesAll left steps → desk_entries looper steps ≡ []
leaves_all looper [] steps is = ap (desk_entries looper) is
leaves_all looper (taken ∷ left) steps all =
    ap (desk_entries looper) all.4 ∙ nothing_after (desk_entry looper) all.0 all.1 (leaves_one looper taken.item.duty all.0 all.2) (leaves_all looper left all.1 all.3)

-- ---- its diary
module _ (l : LooperFacts) (looper : ℕ) (other : looper ≢ l.number) where
  lacks : (b : Bool) → desk_entries looper (lacked_if b) ≡ []
  lacks true = refl
  lacks false = refl

  -- its own entry is at its own desk
  own_entry : (n : Noted EntryData) → desk_entry looper (at_desk l.number n) ≡ []
  own_entry n = ap (λ b. cond b (n ∷ []) []) (ne_eqb l.number looper (λ same. other (sym same)))

  turn_elsewhere : (so_far turn : List Step) → IsTurn l so_far turn → desk_entries looper turn ≡ []
  turn_elsewhere so_far turn (inl takes) = ap (desk_entries looper) takes.is
  turn_elsewhere so_far turn (inr d) =
      let middle : List Step = at_desk l.number d.noted ∷ lacked_if d.made.no_memory in
      let served = are_quiet d.served (all_serving l so_far d.taken.item d.asked d.heard d.served d.serves) in
      let settled = settles_quiet l (so_far ++ d.served ++ middle) d.taken.item.duty d.made.reply d.settled d.settles in
      let entered : desk_entries looper middle ≡ [] = ap (λ e. e ++ desk_entries looper (lacked_if d.made.no_memory)) (own_entry d.noted) ∙ lacks d.made.no_memory in
      ap (desk_entries looper) d.is
      ∙ nothing_after (desk_entry looper) (d.served ++ middle) d.settled (nothing_after (desk_entry looper) d.served middle (quiet_at_no_desk looper d.served served) entered) (quiet_at_no_desk looper d.settled settled)

  works_elsewhere : (work : List Step) → Works l work → desk_entries looper work ≡ []
  works_elsewhere _ begun = refl
  works_elsewhere _ (went_on so_far turn works is) = nothing_after (desk_entry looper) so_far turn (works_elsewhere so_far works) (turn_elsewhere so_far turn is)

  pub elsewhere : (steps : List Step) → IsDiary l steps → desk_entries looper steps ≡ []
  elsewhere steps diary =
      ap (desk_entries looper) diary.is
      ∙ nothing_after (desk_entry looper) diary.work diary.end (works_elsewhere diary.work diary.works) (ap (desk_entries looper) diary.ends.is ∙ leaves_all looper (left_at l diary.work diary.ends.noted) diary.ends.answers diary.ends.leaves)
