-- The threads of a run, and what stands in a merged list by each.
use Rattle.std.proofs.Common.{◌≡◌, ◌∙◌, ℕ, ◌<◌, ◌≤◌, ◌==◌, ◌&&◌, Bool, true, false, cond, List, [], ◌∷◌, filter, length, All, refl, sym, ap, subst, ⊎_elim, inl, inr, arith, eqb-true, le-ltb, ne_eqb}
use Rattle.std.proofs.lemmas.Bool.{cases_Bool}
use Rattle.std.proofs.lemmas.List.Elements.{All-cons, All-filter, All-head, All-map, All-nil, All-tail, filter_passes}
use Rattle.ak_base.specs.Thread.{looper_thread, main_thread}
use Rattle.ak_turn.specs.Stamps.{Rise}
use Rattle.ak_roster.specs.declared.head.AppHead.{AppHead}
use Rattle.ak_port.specs.declared.port_entry.PortEntry.{PortEntry}
use Rattle.ak_port.specs.declared.reply_entry.ReplyEntry.{ReplyEntry}
use Rattle.ak_desk.specs.Entry.{EntryData}
use Rattle.ak_diary.specs.declared.histories.Histories.{Histories}
use Rattle.ak_diary.specs.Step.{AreStamped, Step}
use Rattle.ak_headline.specs.Run.{ActsIn, HasDone, HasLooper, HasSession, IsRunWith, desk_list, port_list}
use Rattle.ak_journal.specs.declared.entry.Entry.{Entry}
use Rattle.ak_journal.specs.declared.entry.ObjectName.{ObjectName}
use Rattle.ak_journal.specs.declared.entry.ObjectName.TheVariants as object
use Rattle.ak_sequence.specs.Laws.{HasEachDiary, StampsRise, entries_at, entries_in, is_at, is_by, is_by_at}
use Rattle.ak_world.specs.Merged.{IsMerged, book_entry, desk_entry, entries_of, port_entry, roster_entry, stamp_of, thread_of}
use Rattle.ak_sequence.proofs.Diaries.{diary_at, diary_rises, first_there, same_at, same_list}
use Rattle.ak_sequence.proofs.Entries.{merged_at, merged_up}
use Rattle.ak_sequence.proofs.Kept.{filter_both, filter_swap, first_kept, first_left}
use Rattle.ak_sequence.proofs.Objects.{at_object}
use Rattle.ak_sequence.proofs.OneOrder.{Above, Up, up_kept}
use Rattle.ak_sequence.proofs.Rising.{is_earlier, rise_at_desk, rise_at_port, rise_at_roster, up_earlier}

-- ---- entries with one stamp
abbrev is_with : ℕ → Entry → Bool
is_with stamp entry = stamp_of entry == stamp

module _ (stamp : ℕ) where
  abbrev HasStamp : Entry → Type 0
  HasStamp entry = is_with stamp entry ≡ true

  above_same : (x : Entry) (xs : List Entry) → stamp_of x ≡ stamp → All HasStamp xs → Above is_earlier x xs
  above_same x [] is all = tt
  above_same x (y ∷ xs) is all =
      let its : stamp_of y ≡ stamp = eqb-true (stamp_of y) stamp (All-head HasStamp y xs all) in
      (le-ltb (stamp_of y) (stamp_of x) (omega arith), above_same x xs is (All-tail HasStamp y xs all))

  up_same : (xs : List Entry) → All HasStamp xs → Up is_earlier xs
  up_same [] all = tt
  up_same (x ∷ xs) all = let rest = All-tail HasStamp x xs all in (above_same x xs (eqb-true (stamp_of x) stamp (All-head HasStamp x xs all)) rest, up_same xs rest)

  none_with : (from : ℕ) (xs : List Entry) → stamp ≤ from → Rise stamp_of from xs → filter (is_with stamp) xs ≡ []
  none_with from [] le rise = refl
  none_with from (x ∷ xs) le rise =
      let past : from < stamp_of x = rise.0 in
      first_left (is_with stamp) x xs (ne_eqb (stamp_of x) stamp (λ e. absurd (omega (arith, e)))) ∙ none_with (stamp_of x) xs (omega arith) rise.1

  rise_once : (last : ℕ) (xs : List Entry) → Rise stamp_of last xs → length (filter (is_with stamp) xs) ≤ 1
  rise_once last [] rise = omega arith
  rise_once last (x ∷ xs) rise =
      ⊎_elim
      (λ (is : is_with stamp x ≡ true).
      let its : stamp_of x ≡ stamp = eqb-true (stamp_of x) stamp is in
      let alone : filter (is_with stamp) (x ∷ xs) ≡ x ∷ [] = first_kept (is_with stamp) x xs is ∙ ap (λ (l : List Entry). x ∷ l) (none_with (stamp_of x) xs (omega arith) rise.1) in
      let one : length (x ∷ []) ≤ 1 = omega arith in
      subst (λ (l : List Entry). length l ≤ 1) (sym alone) one)
      (λ (not : is_with stamp x ≡ false). subst (λ (l : List Entry). length l ≤ 1) (sym (first_left (is_with stamp) x xs not)) (rise_once (stamp_of x) xs rise.1))
      (cases_Bool (is_with stamp x))

rise_lower : (last from : ℕ) (xs : List Entry) → last ≤ from → Rise stamp_of from xs → Rise stamp_of last xs
rise_lower last from [] le rise = tt
rise_lower last from (x ∷ xs) le rise = let past : from < stamp_of x = rise.0 in (omega arith, rise.1)

rise_if : (last : ℕ) (x : Entry) (xs : List Entry) (b : Bool) → last < stamp_of x → Rise stamp_of (stamp_of x) xs → Rise stamp_of last (cond b (x ∷ xs) xs)
rise_if last x xs true past rise = (past, rise)
rise_if last x xs false past rise = rise_lower last (stamp_of x) xs (omega arith) rise

rise_kept : (p : Entry → Bool) (last : ℕ) (xs : List Entry) → Rise stamp_of last xs → Rise stamp_of last (filter p xs)
rise_kept p last [] rise = tt
rise_kept p last (x ∷ xs) rise = rise_if last x (filter p xs) (p x) rise.0 (rise_kept p (stamp_of x) xs rise.1)

both_so : (a b : Bool) → a && b ≡ true → a ≡ true
both_so true b e = refl
both_so false b e = e

at_most_one : (xs : List Entry) → ((x : Entry) (rest : List Entry) → xs ≡ x ∷ rest → length xs ≤ 1) → length xs ≤ 1
at_most_one [] h = omega arith
at_most_one (x ∷ rest) h = h x rest refl

-- ---- what holds of the entries at each object holds of all
module _ (P : Entry → Type 0) where
  pub rest_if : (b : Bool) (x : Entry) (xs : List Entry) → All P (cond b (x ∷ xs) xs) → All P xs
  rest_if true x xs all = All-tail P x xs all
  rest_if false x xs all = all

  all_of_each : (xs : List Entry) → ((name : ObjectName) → All P (filter (is_at name) xs)) → All P xs
  all_of_each [] each = All-nil P
  all_of_each (x ∷ xs) each =
      All-cons P x xs
      (All-head P x (filter (is_at x.object) xs) (subst (All P) (first_there x xs) (each x.object)))
      (all_of_each xs (λ name. rest_if (is_at name x) x (filter (is_at name) xs) (each name)))

-- ---- a thread that acts
pub record Acted (h : Histories) (thread : ℕ) : Type 0 where
  pub time : ℕ
  pub steps : List Step
  pub stamped : AreStamped time steps
  pub done : HasDone h thread steps

module _ (h : Histories) (thread : ℕ) (stamp : ℕ) (acted : Acted h thread) where
  -- its entries of one stamp are those of its diary, which are one at most
  once_by : length (filter (is_by_at thread stamp) (entries_of h)) ≤ 1
  once_by =
      let own = filter (is_by thread) (entries_of h) in
      let told = entries_in acted.steps in
      let rises : Rise stamp_of acted.time told = diary_rises acted.time acted.steps acted.stamped in
      let same : filter (is_with stamp) own ≡ filter (is_with stamp) told =
      same_list (filter (is_with stamp) own) (filter (is_with stamp) told) acted.time
      (up_same stamp (filter (is_with stamp) own) (filter_passes (is_with stamp) own))
      (rise_kept (is_with stamp) acted.time told rises)
      (λ name. filter_swap (is_at name) (is_with stamp) own ∙ ap (filter (is_with stamp)) (same_at h thread acted.steps acted.done name) ∙ filter_swap (is_with stamp) (is_at name) told) in
      subst (λ (l : List Entry). length l ≤ 1) (sym (filter_both (is_by thread) (is_with stamp) (entries_of h) ∙ same)) (rise_once stamp acted.time told rises)

module _ (sessions : ℕ) (heads : List AppHead) (short : List ℕ) (h : Histories) (run : IsRunWith sessions heads short h) where
  of_looper : (looper : ℕ) → HasLooper heads short h looper → Acted h (looper_thread looper)
  of_looper looper has = record {
    time = has.time;
    steps = has.steps;
    stamped = has.stamped;
    done = subst (λ (k : ℕ). HasDone h (looper_thread k) has.steps) has.number_is has.done;
  }

  of_session : (number : ℕ) → HasSession h number → Acted h number
  of_session number has = record { time = has.time; steps = has.steps; stamped = has.stamped; done = has.done }

  of_main : Acted h main_thread
  of_main = record { time = 0; steps = run.main; stamped = run.main_stamped; done = run.main_done }

  acts : (thread : ℕ) → ActsIn h sessions thread → Acted h thread
  acts thread (inl (inl is)) = subst (Acted h) (sym is) of_main
  acts thread (inl (inr one)) = subst (Acted h) (sym one.2) (of_looper one.0 (run.loopers one.0 one.1))
  acts thread (inr is) = of_session thread (run.each_session thread is)

  abbrev IsByOne : Entry → Type 0
  IsByOne entry = ActsIn h sessions (thread_of entry)

  makers_at : (name : ObjectName) → All IsByOne (entries_at h name)
  makers_at object.Roster = All-map IsByOne roster_entry h.roster.items run.roster_makers
  makers_at object.Book = All-map IsByOne (λ (entry : ReplyEntry). book_entry object.Book entry) h.book run.book_makers
  makers_at (object.Port looper) = All-map IsByOne (λ (entry : PortEntry). port_entry (object.Port looper) entry) (port_list h looper) (run.port_makers looper)
  makers_at (object.Desk looper) = All-map IsByOne (λ (entry : EntryData). desk_entry (object.Desk looper) entry.plain) (desk_list h looper) (run.desk_makers looper)

  -- who made an entry of a stamp acts in the run
  acts_there : (thread stamp : ℕ) (x : Entry) (rest : List Entry) → filter (is_by_at thread stamp) (entries_of h) ≡ x ∷ rest → ActsIn h sessions thread
  acts_there thread stamp x rest is =
      let q = is_by_at thread stamp in
      let own : q x ≡ true = All-head (λ (y : Entry). q y ≡ true) x rest (subst (All (λ (y : Entry). q y ≡ true)) is (filter_passes q (entries_of h))) in
      let by : thread_of x ≡ thread = eqb-true (thread_of x) thread (both_so (thread_of x == thread) (stamp_of x == stamp) own) in
      let there : filter q (entries_at h x.object) ≡ x ∷ filter (is_at x.object) rest =
      ap (filter q) (sym (at_object h x.object)) ∙ filter_swap q (is_at x.object) (entries_of h) ∙ ap (filter (is_at x.object)) is ∙ first_there x rest in
      subst (ActsIn h sessions) by (All-head IsByOne x (filter (is_at x.object) rest) (subst (All IsByOne) there (All-filter q IsByOne (entries_at h x.object) (makers_at x.object))))

  pub stamps_rise : StampsRise h
  stamps_rise = record {
    at_roster = rise_at_roster heads h run.histories;
    at_book = run.histories.book.stamps;
    at_ports = rise_at_port heads h run.histories;
    at_desks = rise_at_desk heads h run.histories;
    once = λ thread stamp. at_most_one (filter (is_by_at thread stamp) (entries_of h)) (λ x rest is. once_by h thread stamp (acts thread (acts_there thread stamp x rest is)));
  }

  module _ (xs : List Entry) (merged : IsMerged h xs) where
    pub merged_by : (thread : ℕ) (acted : Acted h thread) → filter (is_by thread) xs ≡ entries_in acted.steps
    merged_by thread acted =
        same_list (filter (is_by thread) xs) (entries_in acted.steps) acted.time
        (up_kept is_earlier (is_by thread) xs (up_earlier xs (merged_up h xs merged)))
        (diary_rises acted.time acted.steps acted.stamped)
        (λ name.
        filter_swap (is_at name) (is_by thread) xs
        ∙ ap (filter (is_by thread)) (merged_at heads h run.histories xs merged name)
        ∙ diary_at h thread acted.steps acted.done name)

    pub merged_has_diaries : HasEachDiary sessions heads short h run xs
    unfolding of_main of_looper of_session
    merged_has_diaries = record {
      by_main = merged_by main_thread of_main;
      by_looper = λ looper is. merged_by (looper_thread looper) (of_looper looper (run.loopers looper is));
      by_session = λ number is. merged_by number (of_session number (run.each_session number is));
      by_no_other = all_of_each IsByOne xs (λ name. subst (All IsByOne) (sym (merged_at heads h run.histories xs merged name)) (makers_at name));
    }
