-- What one thread did, as the lists of the objects and its diary have it.
use Rattle.std.proofs.Common.{◌≡◌, ◌≢◌, ◌∙◌, ℕ, ◌+◌, ◌<◌, ◌≤◌, ◌==◌, max, Bool, true, false, cond, List, [], ◌∷◌, ◌++◌, map, filter, refl, sym, ap, subst, ⊎_elim, arith, eq-eqb, ne_eqb, ltb-false}
use Rattle.std.proofs.lemmas.Bool.{cases_Bool}
use mathlib.Core.Logic.{dite}
use native.Mathlib.Decide.{ℕ_discrete}
use Rattle.ak_turn.specs.Entries.{last_stamp_of}
use Rattle.ak_turn.specs.Noted.{Noted, noted}
use Rattle.ak_turn.specs.Noted as noting
use Rattle.ak_turn.specs.Stamps.{Rise}
use Rattle.ak_turn.proofs.Surface.{noted_is_made}
use Rattle.ak_port.specs.declared.port_entry.PortEntry.{PortEntry}
use Rattle.ak_port.specs.declared.reply_entry.ReplyEntry.{ReplyEntry}
use Rattle.ak_port.specs.PortCalls as ports
use Rattle.ak_port.specs.ReplySeats as books
use Rattle.ak_desk.specs.Desk as desks
use Rattle.ak_desk.specs.Entry.{EntryData}
use Rattle.ak_diary.specs.declared.histories.Histories.{Histories}
use Rattle.ak_diary.specs.Step as steps
use Rattle.ak_diary.specs.Step.{AreStamped, Step, at_roster, at_book, at_port, at_desk, saw_roster, saw_book, saw_port, lacked, roster_stamp}
use Rattle.ak_headline.specs.Run.{HasDone, desk_list, port_list}
use Rattle.ak_journal.specs.declared.entry.Entry.{Entry}
use Rattle.ak_journal.specs.declared.entry.ObjectName.{ObjectName}
use Rattle.ak_journal.specs.declared.entry.ObjectName.TheVariants as object
use Rattle.ak_sequence.specs.Laws.{entries_at, entries_in, is_at, is_by, is_same}
use Rattle.ak_world.specs.Merged.{book_entry, desk_entry, entries_of, port_entry, roster_entry, stamp_of, thread_of}
use Rattle.ak_sequence.proofs.Kept.{filter_map_swap, filter_swap, first_kept, first_left}
use Rattle.ak_sequence.proofs.Objects.{at_object}
use Rattle.ak_sequence.proofs.OneOrder.{Above, Up, above_kept, same_rest}
use Rattle.ak_sequence.proofs.Rising.{is_earlier}

-- ---- object by object
abbrev book_named : ReplyEntry → Entry
book_named entry = book_entry object.Book entry

abbrev port_named : ℕ → PortEntry → Entry
port_named number entry = port_entry (object.Port number) entry

abbrev desk_named : ℕ → EntryData → Entry
desk_named number entry = desk_entry (object.Desk number) entry.plain

-- those of an object's list by one thread are what it noted there
module _ {L : Type 0} (f : L → Entry) (thread : ℕ) where
  pub made_there : (xs : List L) (ns : List (Noted L)) → noted (λ (x : L). thread_of (f x)) thread xs ≡ ns → filter (is_by thread) (map f xs) ≡ map f (map noting.entry_of ns)
  made_there xs ns are =
      filter_map_swap (is_by thread) f xs
      ∙ ap (map f) (sym (noted_is_made (λ (x : L). thread_of (f x)) thread xs))
      ∙ ap (λ (l : List (Noted L)). map f (map noting.entry_of l)) are

-- those of a diary at one object
in_roster : (done : List Step) → filter (is_at object.Roster) (entries_in done) ≡ map roster_entry (map noting.entry_of (steps.roster_entries done))
in_roster [] = refl
in_roster (at_roster n ∷ done) = ap (λ (l : List Entry). roster_entry n.entry ∷ l) (in_roster done)
in_roster (at_book n ∷ done) = in_roster done
in_roster (at_port looper n ∷ done) = in_roster done
in_roster (at_desk looper n ∷ done) = in_roster done
in_roster (saw_roster seen ∷ done) = in_roster done
in_roster (saw_book seen ∷ done) = in_roster done
in_roster (saw_port looper seen ∷ done) = in_roster done
in_roster (lacked ∷ done) = in_roster done

in_book : (done : List Step) → filter (is_at object.Book) (entries_in done) ≡ map book_named (map noting.entry_of (steps.book_entries done))
in_book [] = refl
in_book (at_roster n ∷ done) = in_book done
in_book (at_book n ∷ done) = ap (λ (l : List Entry). book_named n.entry ∷ l) (in_book done)
in_book (at_port looper n ∷ done) = in_book done
in_book (at_desk looper n ∷ done) = in_book done
in_book (saw_roster seen ∷ done) = in_book done
in_book (saw_book seen ∷ done) = in_book done
in_book (saw_port looper seen ∷ done) = in_book done
in_book (lacked ∷ done) = in_book done

-- one of a numbered kind: the number's own, or another's
module _ {L : Type 0} (named : ℕ → L → Entry) (looper number : ℕ) (n : Noted L) where
  one_numbered : (xs : List Entry) (ns : List (Noted L)) → xs ≡ map (named looper) (map noting.entry_of ns)
      → cond (looper == number) (named number n.entry ∷ xs) xs ≡ map (named looper) (map noting.entry_of (cond (number == looper) (n ∷ []) [] ++ ns))
  one_numbered xs ns are =
      dite (ℕ_discrete number looper)
      (λ (e : number ≡ looper).
      ap (λ b. cond b (named number n.entry ∷ xs) xs) (eq-eqb looper number (sym e))
      ∙ ap (λ (k : ℕ). named k n.entry ∷ xs) e
      ∙ ap (λ (l : List Entry). named looper n.entry ∷ l) are
      ∙ sym (ap (λ b. map (named looper) (map noting.entry_of (cond b (n ∷ []) [] ++ ns))) (eq-eqb number looper e)))
      (λ (ne : number ≢ looper).
      ap (λ b. cond b (named number n.entry ∷ xs) xs) (ne_eqb looper number (λ e. ne (sym e)))
      ∙ are
      ∙ sym (ap (λ b. map (named looper) (map noting.entry_of (cond b (n ∷ []) [] ++ ns))) (ne_eqb number looper ne)))

module _ (looper : ℕ) where
  in_port : (done : List Step) → filter (is_at (object.Port looper)) (entries_in done) ≡ map (port_named looper) (map noting.entry_of (steps.port_entries looper done))
  in_port [] = refl
  in_port (at_roster n ∷ done) = in_port done
  in_port (at_book n ∷ done) = in_port done
  in_port (at_port number n ∷ done) = one_numbered port_named looper number n (filter (is_at (object.Port looper)) (entries_in done)) (steps.port_entries looper done) (in_port done)
  in_port (at_desk number n ∷ done) = in_port done
  in_port (saw_roster seen ∷ done) = in_port done
  in_port (saw_book seen ∷ done) = in_port done
  in_port (saw_port number seen ∷ done) = in_port done
  in_port (lacked ∷ done) = in_port done

  in_desk : (done : List Step) → filter (is_at (object.Desk looper)) (entries_in done) ≡ map (desk_named looper) (map noting.entry_of (steps.desk_entries looper done))
  in_desk [] = refl
  in_desk (at_roster n ∷ done) = in_desk done
  in_desk (at_book n ∷ done) = in_desk done
  in_desk (at_port number n ∷ done) = in_desk done
  in_desk (at_desk number n ∷ done) = one_numbered desk_named looper number n (filter (is_at (object.Desk looper)) (entries_in done)) (steps.desk_entries looper done) (in_desk done)
  in_desk (saw_roster seen ∷ done) = in_desk done
  in_desk (saw_book seen ∷ done) = in_desk done
  in_desk (saw_port number seen ∷ done) = in_desk done
  in_desk (lacked ∷ done) = in_desk done

module _ (h : Histories) (thread : ℕ) (done : List Step) (has : HasDone h thread done) where
  pub diary_at : (name : ObjectName) → filter (is_by thread) (entries_at h name) ≡ filter (is_at name) (entries_in done)
  diary_at object.Roster = made_there roster_entry thread h.roster.items (steps.roster_entries done) has.at_roster ∙ sym (in_roster done)
  diary_at object.Book = made_there book_named thread h.book (steps.book_entries done) has.at_book ∙ sym (in_book done)
  diary_at (object.Port looper) = made_there (port_named looper) thread (port_list h looper) (steps.port_entries looper done) (has.at_ports looper) ∙ sym (in_port looper done)
  diary_at (object.Desk looper) = made_there (desk_named looper) thread (desk_list h looper) (steps.desk_entries looper done) (has.at_desks looper) ∙ sym (in_desk looper done)

  -- of all entries those of the thread are at each object those of its diary
  pub same_at : (name : ObjectName) → filter (is_at name) (filter (is_by thread) (entries_of h)) ≡ filter (is_at name) (entries_in done)
  same_at name = filter_swap (is_at name) (is_by thread) (entries_of h) ∙ ap (filter (is_by thread)) (at_object h name) ∙ diary_at name

-- ---- stamps of a diary
pub past_due : (time last stamp : ℕ) → stamp ≡ 1 + max time last → time < stamp
past_due time last stamp is = omega arith

pub diary_rises : (time : ℕ) (done : List Step) → AreStamped time done → Rise stamp_of time (entries_in done)
diary_rises time [] are = tt
diary_rises time (at_roster n ∷ done) are = (past_due time (last_stamp_of roster_stamp n.before) n.entry.stamp are.0, diary_rises n.entry.stamp done are.1)
diary_rises time (at_book n ∷ done) are = (past_due time (last_stamp_of books.stamp_of n.before) n.entry.stamp are.0, diary_rises n.entry.stamp done are.1)
diary_rises time (at_port looper n ∷ done) are = (past_due time (last_stamp_of ports.stamp_number n.before) n.entry.stamp are.0, diary_rises n.entry.stamp done are.1)
diary_rises time (at_desk looper n ∷ done) are = (past_due time (last_stamp_of desks.stamp_number n.before) n.entry.plain.stamp are.0, diary_rises n.entry.plain.stamp done are.1)
diary_rises time (saw_roster seen ∷ done) are = diary_rises time done are.1
diary_rises time (saw_book seen ∷ done) are = diary_rises time done are.1
diary_rises time (saw_port looper seen ∷ done) are = diary_rises time done are.1
diary_rises time (lacked ∷ done) are = diary_rises time done are.1

-- ---- entries in one order that are the same at each object
-- all later than that stamp
abbrev pub Past : ℕ → List Entry → Type 0
Past last [] = Unit {0}
Past last (x ∷ xs) = (last < stamp_of x) × Past last xs

pub rise_past : (last from : ℕ) (xs : List Entry) → last ≤ from → Rise stamp_of from xs → Past last xs
rise_past last from [] le rise = tt
rise_past last from (x ∷ xs) le rise = let first : from < stamp_of x = rise.0 in (omega arith, rise_past last (stamp_of x) xs (omega arith) rise.1)

past_if : (last : ℕ) (x : Entry) (xs : List Entry) (b : Bool) → last < stamp_of x → Past last xs → Past last (cond b (x ∷ xs) xs)
past_if last x xs true p q = (p, q)
past_if last x xs false p q = q

past_kept : (t : Entry → Bool) (last : ℕ) (xs : List Entry) → Past last xs → Past last (filter t xs)
past_kept t last [] h = tt
past_kept t last (x ∷ xs) h = past_if last x (filter t xs) (t x) h.0 (past_kept t last xs h.1)

pub at_itself : (name : ObjectName) → is_same name name ≡ true
at_itself object.Roster = refl
at_itself object.Book = refl
at_itself (object.Port looper) = eq-eqb looper looper refl
at_itself (object.Desk looper) = eq-eqb looper looper refl

pub first_there : (x : Entry) (xs : List Entry) → filter (is_at x.object) (x ∷ xs) ≡ x ∷ filter (is_at x.object) xs
first_there x xs = first_kept (is_at x.object) x xs (at_itself x.object)

abbrev SameAtEach : List Entry → List Entry → Type 0
SameAtEach xs ys = (name : ObjectName) → filter (is_at name) xs ≡ filter (is_at name) ys

-- the first of one list, at an object where the other list's first is not
apart : (x y : Entry) (xs ys : List Entry) → Above is_earlier x xs → Rise stamp_of (stamp_of y) ys → SameAtEach (x ∷ xs) (y ∷ ys) → is_at x.object y ≡ false → is_at y.object x ≡ false → ⊥
apart x y xs ys above rise same not_there not_here =
    let behind_y : filter (is_at x.object) ys ≡ x ∷ filter (is_at x.object) xs = sym (first_left (is_at x.object) y ys not_there) ∙ sym (same x.object) ∙ first_there x xs in
    let behind_x : filter (is_at y.object) xs ≡ y ∷ filter (is_at y.object) ys = sym (first_left (is_at y.object) x xs not_here) ∙ same y.object ∙ first_there y ys in
    let past : Past (stamp_of y) (x ∷ filter (is_at x.object) xs) = subst (Past (stamp_of y)) behind_y (past_kept (is_at x.object) (stamp_of y) ys (rise_past (stamp_of y) (stamp_of y) ys (omega arith) rise)) in
    let below : Above is_earlier x (y ∷ filter (is_at y.object) ys) = subst (Above is_earlier x) behind_x (above_kept is_earlier (is_at y.object) x xs above) in
    let later : stamp_of y < stamp_of x = past.0 in
    let not_later : stamp_of x ≤ stamp_of y = ltb-false (stamp_of y) (stamp_of x) below.0 in
    omega arith

same_first : (x y : Entry) (xs ys : List Entry) → Above is_earlier x xs → Rise stamp_of (stamp_of y) ys → SameAtEach (x ∷ xs) (y ∷ ys) → x ≡ y
same_first x y xs ys above rise same =
    ⊎_elim
    (λ (there : is_at x.object y ≡ true).
    let both : x ∷ filter (is_at x.object) xs ≡ y ∷ filter (is_at x.object) ys = sym (first_there x xs) ∙ same x.object ∙ first_kept (is_at x.object) y ys there in
    cc both)
    (λ (not_there : is_at x.object y ≡ false).
    ⊎_elim
    (λ (here : is_at y.object x ≡ true).
    let both : x ∷ filter (is_at y.object) xs ≡ y ∷ filter (is_at y.object) ys = sym (first_kept (is_at y.object) x xs here) ∙ same y.object ∙ first_there y ys in
    cc both)
    (λ (not_here : is_at y.object x ≡ false). absurd (apart x y xs ys above rise same not_there not_here))
    (cases_Bool (is_at y.object x)))
    (cases_Bool (is_at x.object y))

pub same_list : (xs ys : List Entry) (last : ℕ) → Up is_earlier xs → Rise stamp_of last ys → SameAtEach xs ys → xs ≡ ys
same_list [] [] last up rise same = refl
same_list [] (y ∷ ys) last up rise same = let clash : [] ≡ y ∷ filter (is_at y.object) ys = same y.object ∙ first_there y ys in absurd (cc clash)
same_list (x ∷ xs) [] last up rise same = let clash : x ∷ filter (is_at x.object) xs ≡ [] = sym (first_there x xs) ∙ same x.object in absurd (cc clash)
same_list (x ∷ xs) (y ∷ ys) last up rise same =
    let e : x ≡ y = same_first x y xs ys up.0 rise.1 same in
    let rest : SameAtEach xs ys = λ name. same_rest (is_at name x) x (filter (is_at name) xs) (filter (is_at name) ys)
    (same name ∙ ap (λ (w : Entry). cond (is_at name w) (w ∷ filter (is_at name) ys) (filter (is_at name) ys)) (sym e)) in
    ap (λ (w : Entry). w ∷ xs) e ∙ ap (λ (l : List Entry). y ∷ l) (same_list xs ys (stamp_of y) up.1 rise.1 rest)
