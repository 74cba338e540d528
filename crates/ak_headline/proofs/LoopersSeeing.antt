-- A looper's diary, turn after turn: where it saw the book and made no entry there.
use Rattle.std.proofs.Common.{◌≡◌, ℕ, ◌+◌, Bool, true, false, not, List, [], ◌∷◌, ◌++◌, map, Some, refl, ap, ◌∙◌, arith, ⊎_elim}
use Rattle.std.specs.Prelude.{◌&&◌, slice_get}
use Rattle.ak_flatten.specs.declared.item.Taken.{Taken}
use Rattle.ak_turn.specs.Noted.{entry_of}
use Rattle.ak_port.specs.declared.port_entry.PortEntry.{PortEntry}
use Rattle.ak_port.specs.PortMachine.{written_in}
use Rattle.ak_desk.specs.Entry.{EntryData}
use Rattle.ak_diary.specs.Diary.{Works, begun, went_on}
use Rattle.ak_diary.specs.Laws.{AcceptedIsDispatchedThenLeft, HasDiary, left_in}
use Rattle.ak_diary.specs.Looper.{LooperFacts, desk_list}
use Rattle.ak_diary.specs.Step.{Step, at_desk, at_port, lacked}
use Rattle.ak_diary.specs.Turns.{IsDispatch, IsEnd, IsTake, lacked_if, left_at}
use Rattle.ak_headline.specs.Answers.{owes}
use Rattle.ak_headline.specs.Tally.{kept_in, owes_at, owing_in, was_sent_on}
use Rattle.ak_headline.proofs.Counting.{bit, many_both, many_one}
use Rattle.ak_headline.proofs.Listed.{Lists, listed_at, lists_all, lists_before}
use Rattle.ak_headline.proofs.LoopersTold.{list_both, middle, no_place, own_list, own_many, turn_enters}
use Rattle.ak_headline.proofs.Seeing.{Idle, Looks, idle_both, idle_none, idle_serves_all, idle_step, left_due, look_as, look_before, look_both, look_leaves_all, look_more, nothing_due, owed_for, settles_idle, settles_owed}
use Rattle.ak_headline.proofs.SentOn.{Goes, comes_goes, on, place_is_of, stays}

-- so much is due as was kept, where the port accepted these
abbrev pub kept_due : List Taken → List EntryData → ℕ → ℕ
kept_due accepted entries n = kept_in n accepted entries

on_bit : (b : Bool) → bit (b && true) ≡ bit b
on_bit true = refl
on_bit false = refl

module _ (l : LooperFacts) where
  end_looks : (so_far turn : List Step) (e : IsEnd l so_far turn) → Looks (left_due (left_at l so_far e.noted)) turn
  end_looks so_far turn e =
      look_before (left_due (left_at l so_far e.noted)) (at_port l.number e.noted ∷ []) e.answers turn (idle_step (at_port l.number e.noted) (at_port l.number e.noted ∷ []) tt refl)
      (look_leaves_all (left_at l so_far e.noted) e.answers e.leaves) e.is

module _ (l : LooperFacts) (accepted : List Taken) where
  take_looks : (so_far turn : List Step) → IsTake l so_far turn → Looks (kept_due accepted (desk_list l turn)) turn
  take_looks so_far turn t = look_more nothing_due (kept_due accepted (desk_list l turn)) turn (λ n. omega arith) (idle_step (at_port l.number t.noted) turn tt t.is)

  module _ (so_far turn : List Step) (d : IsDispatch l so_far turn) (listed : slice_get accepted d.taken.position ≡ Some d.taken) where
    lack_idle : (b : Bool) → Idle (lacked_if b)
    lack_idle true = idle_step lacked (lacked ∷ []) tt refl
    lack_idle false = idle_none [] refl

    middle_idle : Idle (middle l so_far turn d)
    middle_idle =
        idle_both (at_desk l.number d.noted ∷ []) (lacked_if d.made.no_memory) (middle l so_far turn d) (idle_step (at_desk l.number d.noted) (at_desk l.number d.noted ∷ []) tt refl)
        (lack_idle d.made.no_memory) refl

    turn_looks : (due : ℕ → ℕ) → Looks due d.settled → Looks due turn
    turn_looks due settled =
        look_before due (d.served ++ middle l so_far turn d) d.settled turn
        (idle_both d.served (middle l so_far turn d) (d.served ++ middle l so_far turn d) (idle_serves_all l so_far d.taken.item d.asked d.heard d.served d.serves) middle_idle refl) settled d.is

    kept_so : (n : ℕ) → was_sent_on d.noted.entry ≡ false → kept_in n accepted (desk_list l turn) ≡ bit (owes n d.taken.item.duty)
    kept_so n is =
        ap (λ k. kept_in n accepted (map entry_of k)) (turn_enters l so_far turn d) ∙ many_one (λ (x : EntryData). owes_at n accepted x.plain.event && not (was_sent_on x)) d.noted.entry
        ∙ (λ i. bit (place_is_of l.desk d.taken d.asked d.heard d.made d.noted n accepted listed d.comes i && not (is i))) ∙ on_bit (owes n d.taken.item.duty)

    goes_looks : Goes (λ _. ⊥) 0 d.taken.item d.noted.entry.plain.event d.made.reply d.served → Looks (kept_due accepted (desk_list l turn)) turn
    goes_looks (on is none adds wrote) =
        look_more nothing_due (kept_due accepted (desk_list l turn)) turn (λ n. omega arith)
        (turn_looks nothing_due (settles_idle l (so_far ++ d.served ++ middle l so_far turn d) d.taken.item.duty d.made.reply d.settled d.settles none))
    goes_looks (stays is some adds) =
        look_more (owed_for d.taken.item.duty) (kept_due accepted (desk_list l turn)) turn (λ n. omega (arith, kept_so n is))
        (turn_looks (owed_for d.taken.item.duty) (settles_owed l (so_far ++ d.served ++ middle l so_far turn d) d.taken.item.duty d.made.reply d.settled d.settles))

    dispatch_looks : Looks (kept_due accepted (desk_list l turn)) turn
    dispatch_looks = goes_looks (comes_goes (λ _. ⊥) 0 l so_far d.taken d.asked d.heard d.made d.noted d.served (λ s i history e below. below) d.serves d.comes)

  work_looks : (work : List Step) → Works l work → Lists l accepted work → Looks (kept_due accepted (desk_list l work)) work
  work_looks _ begun lists = look_more nothing_due (kept_due accepted (desk_list l [])) [] (λ n. omega arith) (idle_none [] refl)
  work_looks _ (went_on so_far turn works does) lists =
      let before = lists_before l accepted so_far turn lists in
      let more : Looks (kept_due accepted (desk_list l turn)) turn =
      ⊎_elim (λ (t : IsTake l so_far turn). take_looks so_far turn t) (λ (t : IsDispatch l so_far turn). dispatch_looks so_far turn t (listed_at l accepted so_far turn before t)) does in
      look_more (λ n. kept_due accepted (desk_list l so_far) n + kept_due accepted (desk_list l turn) n) (kept_due accepted (desk_list l (so_far ++ turn))) (so_far ++ turn)
      (λ n. omega (arith, ap (kept_in n accepted) (list_both l so_far turn), many_both (λ (x : EntryData). owes_at n accepted x.plain.event && not (was_sent_on x)) (desk_list l so_far) (desk_list l turn)))
      (look_both (kept_due accepted (desk_list l so_far)) (kept_due accepted (desk_list l turn)) so_far turn (work_looks so_far works before) more)

module _ (every : AcceptedIsDispatchedThenLeft) (l : LooperFacts) (steps : List Step) (port : List PortEntry) (desk : List EntryData) (has : HasDiary l steps port desk) where
  -- what was kept, and what is left
  abbrev pub all_due : ℕ → ℕ
  all_due n = kept_in n (written_in port) desk + owing_in n (left_in l steps has.legal)

  kept_all : (n : ℕ) → kept_in n (written_in port) desk ≡ kept_in n (written_in port) (desk_list l has.legal.work)
  kept_all n =
      own_many (λ (x : EntryData). owes_at n (written_in port) x.plain.event && not (was_sent_on x)) (λ x own. ap (λ b. b && not (was_sent_on x)) (no_place n (written_in port) x.plain.event own)) l.desk.looper 0
      l.desk desk has.desk_legal.state has.desk_legal.history.replays
      ∙ ap (kept_in n (written_in port)) (own_list l steps port desk has)

  pub diary_looks : Looks all_due steps
  diary_looks =
      let work = has.legal.work in
      let left = left_in l steps has.legal in
      look_as all_due steps (work ++ has.legal.end) has.legal.is
      (look_more (λ n. kept_due (written_in port) (desk_list l work) n + left_due left n) all_due (work ++ has.legal.end) (λ n. omega (arith, kept_all n))
      (look_both (kept_due (written_in port) (desk_list l work)) (left_due left) work has.legal.end (work_looks l (written_in port) work has.legal.works (lists_all every l steps port desk has))
      (end_looks l work has.legal.end has.legal.ends)))
