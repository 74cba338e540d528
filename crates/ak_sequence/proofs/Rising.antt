-- Stamps that rise: of each object's list, and among the entries of a merged list.
use Rattle.std.proofs.Common.{◌≡◌, ◌∙◌, ℕ, zero, suc, ◌<◌, ◌≤◌, ◌==◌, Bool, true, false, cond, nat_lt, List, [], ◌∷◌, ◌++◌, map, All, option_map, unwrap_or, slice_get, refl, sym, ap, subst, ⊎_elim, append_assoc, append-nil, arith, le-ltb, lt-ltb, ne_eqb, is_lt, nat_cmp, Ordering, Less, Equal, Greater}
use Rattle.std.specs.Ordering.{ordering_then}
use Rattle.std.proofs.lemmas.Bool.{cases_lt}
use Rattle.std.proofs.lemmas.List.Elements.{All-head, All-tail}
use Rattle.ak_turn.specs.Entries.{last_stamp_of}
use Rattle.ak_turn.specs.Stamps.{Rise}
use Rattle.ak_turn.proofs.Surface.{rise_push}
use Rattle.ak_roster.specs.declared.head.AppHead.{AppHead}
use Rattle.ak_port.specs.PortCalls as ports
use Rattle.ak_port.specs.PortCalls.{IsPortBook, PortData}
use Rattle.ak_desk.specs.Desk as desks
use Rattle.ak_desk.specs.Desk.{DeskData}
use Rattle.ak_diary.specs.declared.histories.Histories.{Histories}
use Rattle.ak_diary.specs.Histories.{AreHistories, IsDeskBook}
use Rattle.ak_diary.specs.Step.{roster_stamp}
use Rattle.ak_headline.specs.Run.{desk_list, port_list}
use Rattle.ak_journal.specs.declared.entry.Entry.{Entry}
use Rattle.ak_world.specs.Merged.{is_before, stamp_of, thread_of}
use Rattle.ak_sequence.proofs.OneOrder.{Above, Up}

-- ---- the objects' lists
-- a list of which each stamp is past the last one before it
module _ {L : Type 0} (stamp : L → ℕ) (all : List L) (past : (before : List L) (entry : L) (rest : List L) → all ≡ before ++ entry ∷ rest → last_stamp_of stamp before < stamp entry) where
  rise_on : (done rest : List L) → all ≡ done ++ rest → Rise stamp 0 done → Rise stamp 0 all
  rise_on done [] is rise = subst (Rise stamp 0) (sym (is ∙ append-nil done)) rise
  rise_on done (entry ∷ rest) is rise = rise_on (done ++ entry ∷ []) rest (is ∙ sym (append_assoc done (entry ∷ []) rest)) (rise_push stamp done entry rise (past done entry rest is))

  pub rise_all : Rise stamp 0 all
  rise_all = rise_on [] all refl tt

-- of things in a list, each of which has a list that rises
module _ {T L : Type 0} (stamp : L → ℕ) (list : T → List L) (P : T → Type 0) (rises : (thing : T) → P thing → Rise stamp 0 (list thing)) where
  pub rise_of_each : (things : List T) (number : ℕ) → All P things → Rise stamp 0 (unwrap_or (option_map list (slice_get things number)) [])
  rise_of_each [] number all = tt
  rise_of_each (thing ∷ things) zero all = rises thing (All-head P thing things all)
  rise_of_each (thing ∷ things) (suc number) all = rise_of_each things number (All-tail P thing things all)

module _ (heads : List AppHead) (h : Histories) (are : AreHistories heads h) where
  pub rise_at_roster : Rise roster_stamp 0 h.roster.items
  rise_at_roster = rise_all roster_stamp h.roster.items are.roster.stamps

  pub rise_at_port : (looper : ℕ) → Rise ports.stamp_number 0 (port_list h looper)
  rise_at_port looper = rise_of_each ports.stamp_number (λ (port : PortData). port.entries) IsPortBook (λ (port : PortData) (is : IsPortBook port). is.stamps) h.ports.items looper are.ports

  pub rise_at_desk : (looper : ℕ) → Rise desks.stamp_number 0 (desk_list h looper)
  rise_at_desk looper = rise_of_each desks.stamp_number (λ (desk : DeskData). desk.entries) IsDeskBook (λ (desk : DeskData) (is : IsDeskBook desk). is.history.stamps) h.desks.items looper are.desks

-- ---- the order of entries
greater_first : (a b : Ordering) → a ≡ Greater → is_lt (ordering_then a b) ≡ false
greater_first a b e = ap (λ (o : Ordering). is_lt (ordering_then o b)) e

less_first : (a b : Ordering) → a ≡ Less → is_lt (ordering_then a b) ≡ true
less_first a b e = ap (λ (o : Ordering). is_lt (ordering_then o b)) e

is_less : (m n : ℕ) → m < n → nat_cmp m n ≡ Less
is_less m n lt = ap (λ b. cond b Less (cond (m == n) Equal Greater)) (lt-ltb m n lt)

is_greater : (m n : ℕ) → n < m → nat_cmp m n ≡ Greater
is_greater m n lt = ap (λ b. cond b Less (cond (m == n) Equal Greater)) (le-ltb m n (omega arith)) ∙ ap (λ b. cond b Equal Greater) (ne_eqb m n (λ e. absurd (omega (arith, e))))

-- by the stamps alone
abbrev pub is_earlier : Entry → Entry → Bool
is_earlier a b = nat_lt (stamp_of a) (stamp_of b)

pub later_not_before : (a b : Entry) → stamp_of a < stamp_of b → is_before b a ≡ false
later_not_before a b lt = greater_first (nat_cmp (stamp_of b) (stamp_of a)) (nat_cmp (thread_of b) (thread_of a)) (is_greater (stamp_of b) (stamp_of a) lt)

not_before_not_earlier : (a b : Entry) → is_before b a ≡ false → is_earlier b a ≡ false
not_before_not_earlier a b not_before =
    ⊎_elim
    (λ (lt : stamp_of b < stamp_of a).
    let is : is_before b a ≡ true = less_first (nat_cmp (stamp_of b) (stamp_of a)) (nat_cmp (thread_of b) (thread_of a)) (is_less (stamp_of b) (stamp_of a) lt) in
    absurd (cc (is, not_before)))
    (λ (le : stamp_of a ≤ stamp_of b). le-ltb (stamp_of b) (stamp_of a) le)
    (cases_lt (stamp_of b) (stamp_of a))

above_earlier : (x : Entry) (xs : List Entry) → Above is_before x xs → Above is_earlier x xs
above_earlier x [] above = tt
above_earlier x (y ∷ xs) above = (not_before_not_earlier x y above.0, above_earlier x xs above.1)

pub up_earlier : (xs : List Entry) → Up is_before xs → Up is_earlier xs
up_earlier [] up = tt
up_earlier (x ∷ xs) up = (above_earlier x xs up.0, up_earlier xs up.1)

-- ---- entries whose stamps rise are in order
rise_above : (x : Entry) (last : ℕ) (xs : List Entry) → stamp_of x ≤ last → Rise stamp_of last xs → Above is_before x xs
rise_above x last [] le rise = tt
rise_above x last (y ∷ xs) le rise = let first : last < stamp_of y = rise.0 in (later_not_before x y (omega arith), rise_above x (stamp_of y) xs (omega arith) rise.1)

pub rise_up : (last : ℕ) (xs : List Entry) → Rise stamp_of last xs → Up is_before xs
rise_up last [] rise = tt
rise_up last (x ∷ xs) rise = (rise_above x (stamp_of x) xs (omega arith) rise.1, rise_up (stamp_of x) xs rise.1)

module _ {L : Type 0} (f : L → Entry) where
  pub rise_mapped : (last : ℕ) (xs : List L) → Rise (λ (x : L). stamp_of (f x)) last xs → Rise stamp_of last (map f xs)
  rise_mapped last [] rise = tt
  rise_mapped last (x ∷ xs) rise = (rise.0, rise_mapped (stamp_of (f x)) xs rise.1)
