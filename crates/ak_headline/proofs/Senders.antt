-- What a thread wrote at a port, as the port's list has it; and an ask of a slot that is opened once is one alone.
use Rattle.std.proofs.Common.{◌≡◌, ℕ, zero, suc, ◌+◌, ◌≤◌, ◌==◌, Bool, true, false, cond, List, [], ◌∷◌, ◌++◌, length, All, Contains, Some, slice_get, refl, sym, ap, ◌∙◌, subst, ⊎_elim, append_assoc, arith, eq-eqb, eqb-true}
use Rattle.std.proofs.lemmas.List.Elements.{All-cons, All-contains, All-nil, Contains-append_right}
use Rattle.ak_flatten.specs.declared.item.Duty.{Duty}
use Rattle.ak_flatten.specs.declared.item.Duty.TheVariants as duty
use Rattle.ak_flatten.specs.declared.item.Taken.{Taken}
use Rattle.ak_flatten.specs.Item.{ItemData}
use Rattle.ak_turn.specs.Noted.{Noted, StandsIn, note, noted, noted_from}
use Rattle.ak_turn.proofs.Surface.{noted_stands}
use Rattle.ak_port.specs.declared.port_entry.PortEntry.{PortEntry}
use Rattle.ak_port.specs.declared.port_entry.PortEvent.{PortEvent}
use Rattle.ak_port.specs.declared.port_entry.PortEvent.TheVariants as event
use Rattle.ak_port.specs.PortMachine.{AreSteps, unmade, written_in, written_item}
use Rattle.ak_diary.specs.Step.{Step, at_book, at_port}
use Rattle.ak_diary.proofs.Surface.{get_parts, position_is}
use Rattle.ak_headline.specs.Answers.{opens, owes}
use Rattle.ak_headline.specs.Sends.{HasAsk}
use Rattle.ak_headline.specs.Tally.{at_slot, how_many, writes_owing}
use Rattle.ak_headline.proofs.Asking.{at_place, first_if, first_in, later_if}
use Rattle.ak_headline.proofs.Counts.{same_place, there_counts}
use Rattle.ak_headline.proofs.Resting.{get_middle}
use Rattle.ak_headline.proofs.Written.{get_second}

-- ---- a list in two parts around one of its things
module _ {X : Type 0} where
  pub record Parted (xs : List X) (x : X) : Type 0 where
    pub before : List X
    pub behind : List X
    pub is : xs ≡ before ++ x ∷ behind

  parted_get : (xs : List X) (k : ℕ) (x : X) → slice_get xs k ≡ Some x → Parted xs x
  parted_get [] k x at = absurd (cc at)
  parted_get (y ∷ xs) zero x at = let same : y ≡ x = cc at in record { before = []; behind = xs; is = ap (λ z. z ∷ xs) same }
  parted_get (y ∷ xs) (suc k) x at = let p = parted_get xs k x at in record { before = y ∷ p.before; behind = p.behind; is = ap (λ l. y ∷ l) p.is }

  pub parted_at : (xs : List X) (x : X) → Contains xs x → Parted xs x
  parted_at xs x there = parted_get xs there.0 x (at_place xs x there)

  pub parted_in : (xs : List X) (x : X) (before behind : List X) → xs ≡ before ++ x ∷ behind → Contains xs x
  parted_in xs x before behind is = subst (λ l. Contains l x) (sym is) (Contains-append_right before (x ∷ behind) x (first_in x behind))

-- ---- what a thread noted
module _ {L : Type 0} (by : L → ℕ) (thread : ℕ) where
  -- each of its entries is noted
  noted_there_from : (front before : List L) (e : L) (behind : List L) → by e ≡ thread → (m : Noted L) × Contains (noted_from by thread front (before ++ e ∷ behind)) m × (m.entry ≡ e)
  noted_there_from front [] e behind own =
      (note front e, first_if (by e == thread) (note front e) (noted_from by thread (front ++ e ∷ []) behind) (eq-eqb (by e) thread own), refl)
  noted_there_from front (x ∷ before) e behind own =
      let later = noted_there_from (front ++ x ∷ []) before e behind own in
      (later.0, later_if (by x == thread) (note front x) (noted_from by thread (front ++ x ∷ []) (before ++ e ∷ behind)) later.0 later.1, later.2)

  pub noted_there : (xs before : List L) (e : L) (behind : List L) → xs ≡ before ++ e ∷ behind → by e ≡ thread → (m : Noted L) × Contains (noted by thread xs) m × (m.entry ≡ e)
  noted_there xs before e behind is own =
      let found = noted_there_from [] before e behind own in
      (found.0, subst (λ l. Contains (noted by thread l) found.0) (sym is) found.1, found.2)

  abbrev IsOwnNote : Noted L → Type 0
  IsOwnNote m = by m.entry ≡ thread

  own_if : (b : Bool) (x : L) (front : List L) (rest : List (Noted L)) → (by x == thread) ≡ b → All IsOwnNote rest → All IsOwnNote (cond b (note front x ∷ rest) rest)
  own_if true x front rest is all = All-cons IsOwnNote (note front x) rest (eqb-true (by x) thread is) all
  own_if false x front rest is all = all

  noted_own : (front xs : List L) → All IsOwnNote (noted_from by thread front xs)
  noted_own front [] = All-nil IsOwnNote
  noted_own front (x ∷ xs) = own_if (by x == thread) x front (noted_from by thread (front ++ x ∷ []) xs) refl (noted_own (front ++ x ∷ []) xs)

  -- what is noted is the thread's, and stands in the list
  pub noted_by : (xs : List L) (m : Noted L) → Contains (noted by thread xs) m → by m.entry ≡ thread
  noted_by xs m there = All-contains IsOwnNote (noted by thread xs) m (noted_own [] xs) there

  pub noted_behind : (xs : List L) (m : Noted L) → Contains (noted by thread xs) m → (behind : List L) × (xs ≡ m.before ++ m.entry ∷ behind)
  noted_behind xs m there =
      let stands = All-contains (StandsIn xs) (noted by thread xs) m (noted_stands by thread xs) there in
      (stands.0, stands.1 ∙ append_assoc m.before (m.entry ∷ []) stands.0)

-- ---- the entry that wrote an item
pub record WrittenAt (port : List PortEntry) (t : Taken) : Type 0 where
  pub before : List PortEntry
  pub entry : PortEntry
  pub behind : List PortEntry
  pub there : port ≡ before ++ entry ∷ behind
  pub event_is : entry.event ≡ event.Written t.position t.item

of_event : (x : PortEntry) (port : List PortEntry) (e : PortEvent) (i : ℕ) (t : Taken) → x.event ≡ e → slice_get (written_item e) i ≡ Some t → WrittenAt (x ∷ port) t
of_event x port (event.Written position item) zero t is at =
    let it : Taken = record { position = position; item = item } in
    let same : it ≡ t = cc at in
    record { before = []; entry = x; behind = port; there = refl; event_is = is ∙ ap (λ (k : Taken). event.Written k.position k.item) same }
of_event x port (event.Written position item) (suc i) t is at = absurd (cc at)
of_event x port (event.Made capacity life) i t is at = absurd (cc at)
of_event x port event.Full i t is at = absurd (cc at)
of_event x port event.Refused i t is at = absurd (cc at)
of_event x port event.Spent i t is at = absurd (cc at)
of_event x port (event.Took k) i t is at = absurd (cc at)
of_event x port (event.Rest k) i t is at = absurd (cc at)
of_event x port event.Shut i t is at = absurd (cc at)

behind_one : (x : PortEntry) (port : List PortEntry) (t : Taken) → WrittenAt port t → WrittenAt (x ∷ port) t
behind_one x port t w = record { before = x ∷ w.before; entry = w.entry; behind = w.behind; there = ap (λ l. x ∷ l) w.there; event_is = w.event_is }

pub written_at : (port : List PortEntry) (i : ℕ) (t : Taken) → slice_get (written_in port) i ≡ Some t → WrittenAt port t
written_at [] i t at = absurd (cc at)
written_at (x ∷ port) i t at =
    ⊎_elim (λ (first : slice_get (written_item x.event) i ≡ Some t). of_event x port x.event i t refl first)
    (λ (later : (j : ℕ) × (i ≡ length (written_item x.event) + j) × (slice_get (written_in port) j ≡ Some t)). behind_one x port t (written_at port later.0 t later.2))
    (get_parts (written_item x.event) (written_in port) i t at)

written_both : (xs ys : List PortEntry) → written_in (xs ++ ys) ≡ written_in xs ++ written_in ys
written_both [] ys = refl
written_both (x ∷ xs) ys = ap (λ l. written_item x.event ++ l) (written_both xs ys) ∙ sym (append_assoc (written_item x.event) (written_in xs) (written_in ys))

-- what an entry wrote stands at its position
pub accepted_there : (taker : ℕ) (port : List PortEntry) → AreSteps taker unmade port → (before : List PortEntry) (e : PortEntry) (behind : List PortEntry) → port ≡ before ++ e ∷ behind
    → (position : ℕ) (item : ItemData) → e.event ≡ event.Written position item → slice_get (written_in port) position ≡ Some (record { position = position; item = item })
accepted_there taker port steps before e behind there position item is =
    let t : Taken = record { position = position; item = item } in
    let whole : written_in port ≡ written_in before ++ t ∷ written_in behind =
    ap written_in there ∙ written_both before (e ∷ behind) ∙ ap (λ (k : PortEvent). written_in before ++ (written_item k ++ written_in behind)) is in
    let first = length (written_in before) in
    let at : slice_get (written_in port) first ≡ Some t = ap (λ l. slice_get l first) whole ∙ get_middle (written_in before) t (written_in behind) in
    let place = position_is taker unmade port steps first t at in
    let same : position ≡ first = omega (arith, place) in
    ap (slice_get (written_in port)) same ∙ at

-- an event that writes an item that owes the slot
pub record WritesItem (n : ℕ) (e : PortEvent) : Type 0 where
  pub position : ℕ
  pub item : ItemData
  pub is : e ≡ event.Written position item
  pub owed : item.duty ≡ duty.Slot n

duty_slot : (n : ℕ) (d : Duty) → owes n d ≡ true → d ≡ duty.Slot n
duty_slot n duty.None e = absurd (cc e)
duty_slot n (duty.Slot m) e = ap duty.Slot (eqb-true m n e)
duty_slot n (duty.Back to) e = absurd (cc e)

pub writes_item : (n : ℕ) (e : PortEvent) → writes_owing n e ≡ true → WritesItem n e
writes_item n (event.Written position item) is = record { position = position; item = item; is = refl; owed = duty_slot n item.duty is }
writes_item n (event.Made capacity life) is = absurd (cc is)
writes_item n event.Full is = absurd (cc is)
writes_item n event.Refused is = absurd (cc is)
writes_item n event.Spent is = absurd (cc is)
writes_item n (event.Took k) is = absurd (cc is)
writes_item n (event.Rest k) is = absurd (cc is)
writes_item n event.Shut is = absurd (cc is)

-- ---- one ask
module _ (n : ℕ) (steps : List Step) where
  module _ (looper : ℕ) (x : Noted PortEntry) (a : HasAsk n looper x steps) where
    opening_there : slice_get steps (length a.before) ≡ Some (at_book a.opened)
    opening_there = ap (λ l. slice_get l (length a.before)) a.there ∙ get_middle a.before (at_book a.opened) (at_port looper x ∷ at_book a.taken ∷ a.behind)

    write_there : slice_get steps (length a.before + 1) ≡ Some (at_port looper x)
    write_there =
        ap (λ l. slice_get l (length a.before + 1)) a.there
        ∙ get_second a.before (at_book a.opened ∷ at_port looper x ∷ at_book a.taken ∷ a.behind) 1

    is_opening : at_slot (opens n) (at_book a.opened) ≡ true
    is_opening = ap (opens n) a.opened_is ∙ eq-eqb n n refl

    pub ask_opens : 1 ≤ how_many (at_slot (opens n)) steps
    ask_opens = there_counts (at_slot (opens n)) steps (length a.before) (at_book a.opened) opening_there is_opening

  pub one_ask : (looper looper' : ℕ) (x x' : Noted PortEntry) → how_many (at_slot (opens n)) steps ≤ 1 → HasAsk n looper x steps → HasAsk n looper' x' steps → (looper ≡ looper') × (x ≡ x')
  one_ask looper looper' x x' few a b =
      let at : length a.before ≡ length b.before =
      same_place (at_slot (opens n)) steps (length a.before) (length b.before) (at_book a.opened) (at_book b.opened) few
      (opening_there looper x a) (is_opening looper x a) (opening_there looper' x' b) (is_opening looper' x' b) in
      let both : Some (at_port looper x) ≡ Some (at_port looper' x') = sym (write_there looper x a) ∙ ap (λ (k : ℕ). slice_get steps (k + 1)) at ∙ write_there looper' x' b in
      (cc both, cc both)
