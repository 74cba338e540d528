-- What a turn makes of what a looper has in hand: a take adds what it takes, and a dispatch takes the oldest away.
use Rattle.std.proofs.Common.{◌≡◌, ◌∙◌, ℕ, ◌+◌, Bool, true, false, List, [], ◌∷◌, ◌++◌, map, drop, refl, sym, ap, append-nil}
use Rattle.std.proofs.lemmas.List.{drop-append-le, drop-drop}
use Rattle.ak_turn.specs.Noted.{entry_of}
use Rattle.ak_port.specs.TakerLaws.{handed_at, handed_by}
use Rattle.ak_desk.specs.Machine.{counted, dispatches}
use Rattle.ak_desk.proofs.Surface.{counted_push}
use Rattle.ak_diary.specs.Diary.{Works}
use Rattle.ak_diary.specs.Looper.{LooperFacts, desk_list, dispatched_in, in_hand, taken_in}
use Rattle.ak_diary.specs.Step.{Step, at_desk, at_port, desk_entries}
use Rattle.ak_diary.specs.Turns.{IsDispatch, IsTake, lacked_if}
use Rattle.ak_diary.proofs.Surface.{all_serving, are_quiet, entries_both, handed_both, handed_in, own_step, quiet_hand_nothing, settles_quiet, tallied}
use Rattle.ak_headline.proofs.Surface.{list_both, turn_enters}
use Rattle.ak_sequence.proofs.Dispatching.{has_come}

drop_one_more : {X : Type 0} (n : ℕ) (xs : List X) (y : X) (ys : List X) → drop n xs ≡ y ∷ ys → drop (n + 1) xs ≡ ys
drop_one_more n xs y ys e = sym (drop-drop 1 n xs) ∙ ap (drop 1) e

module _ (l : LooperFacts) (so_far turn : List Step) where
  -- what it took
  pub took_in_hand : Works l so_far → (t : IsTake l so_far turn) → in_hand l (so_far ++ turn) ≡ handed_at t.noted
  took_in_hand works t =
      let taken : taken_in l (so_far ++ turn) ≡ taken_in l so_far ++ handed_at t.noted =
      ap (λ s. taken_in l (so_far ++ s)) t.is ∙ handed_both l.number so_far (at_port l.number t.noted ∷ [])
      ∙ ap (λ k. taken_in l so_far ++ handed_by k) (own_step l.number t.noted []) ∙ ap (λ k. taken_in l so_far ++ k) (append-nil (handed_at t.noted)) in
      let entries : desk_list l (so_far ++ turn) ≡ desk_list l so_far =
      ap (λ s. desk_list l (so_far ++ s)) t.is ∙ ap (map entry_of) (entries_both l.number so_far (at_port l.number t.noted ∷ []) ∙ append-nil (desk_entries l.number so_far)) in
      (λ i. drop (dispatches (entries i)) (taken i))
      ∙ drop-append-le (dispatched_in l so_far) (taken_in l so_far) (handed_at t.noted) (tallied l so_far works).most
      ∙ ap (λ k. k ++ handed_at t.noted) t.rested

  -- all but the one that it dispatched
  module _ (d : IsDispatch l so_far turn) where
    abbrev middle : Bool → List Step
    middle b = at_desk l.number d.noted ∷ lacked_if b

    middle_hands : (b : Bool) → handed_in l.number (middle b) ≡ []
    middle_hands true = refl
    middle_hands false = refl

    turn_hands : handed_in l.number turn ≡ []
    turn_hands =
        let served = are_quiet d.served (all_serving l so_far d.taken.item d.asked d.heard d.served d.serves) in
        let settled = settles_quiet l (so_far ++ d.served ++ middle d.made.no_memory) d.taken.item.duty d.made.reply d.settled d.settles in
        ap (handed_in l.number) d.is ∙ handed_both l.number (d.served ++ middle d.made.no_memory) d.settled
        ∙ (λ i. handed_both l.number d.served (middle d.made.no_memory) i ++ quiet_hand_nothing l.number d.settled settled i)
        ∙ (λ i. (quiet_hand_nothing l.number d.served served i ++ middle_hands d.made.no_memory i) ++ [])

    pub dispatched_in_hand : in_hand l (so_far ++ turn) ≡ d.others
    dispatched_in_hand =
        let c = has_come l.desk d.taken d.asked d.heard d.made d.noted d.comes in
        let taken : taken_in l (so_far ++ turn) ≡ taken_in l so_far = handed_both l.number so_far turn ∙ ap (λ k. taken_in l so_far ++ k) turn_hands ∙ append-nil (taken_in l so_far) in
        let entries : desk_list l (so_far ++ turn) ≡ desk_list l so_far ++ d.noted.entry ∷ [] =
        list_both l so_far turn ∙ ap (λ k. desk_list l so_far ++ map entry_of k) (turn_enters l so_far turn d) in
        let more : dispatched_in l (so_far ++ turn) ≡ dispatched_in l so_far + 1 =
        ap dispatches entries ∙ counted_push 0 (desk_list l so_far) d.noted.entry ∙ ap (counted (dispatched_in l so_far)) c.event_is in
        (λ i. drop (more i) (taken i)) ∙ drop_one_more (dispatched_in l so_far) (taken_in l so_far) d.taken d.others d.oldest
