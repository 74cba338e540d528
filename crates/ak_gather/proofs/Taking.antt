-- Main's doors take in what other seats know, one after another.
use Rattle.std.proofs.Common.{◌≡◌, ◌≢◌, ◌⊎◌, ◌<◌, ◌==◌, ℕ, zero, suc, List, [], ◌∷◌, ◌++◌, map, Bool, length, length-set, set, All, Option, None, Some, is_some, true, false, true≢false, eq-eqb, eqb-true, inl, inr, ⊎_elim, refl, sym, ap, ◌∙◌, subst, arith}
use Rattle.std.specs.Prelude.{IsSomeAnd, filter, slice_get, Vec}
use Rattle.std.specs.declared.alloc.Global.{Global}
use Rattle.std.proofs.lemmas.List.Elements.{All-map, All-weaker, filter-append}
use Rattle.std.proofs.lemmas.List.{get_or-map, length-map, map-append}
use Rattle.std.proofs.lemmas.Option.{get_or_from_slice_get, slice_get_within}
use Rattle.ak_turn.specs.Seats.{LockId, SeatData, part_of}
use Rattle.ak_turn.specs.Steps.{either_names}
use Rattle.ak_port.specs.PortCalls.{PortSeat}
use Rattle.ak_desk.specs.Shared.{DeskSeat}
use Rattle.ak_looper.specs.declared.door.Door.{Door}
use Rattle.ak_looper.specs.declared.kept_door.KeptDoor.{KeptDoor}
use Rattle.ak_gather.specs.declared.gathering.Joined.{Joined}
use Rattle.ak_looper.specs.NoHead.{HasNoNames}
use Rattle.ak_gather.specs.Gathering.{AreGaining, AreHeadsIn, AreKeptIn, AreTakenIn, AreWaysIn, GoesOnKnowing, HasTakenAt, IsAt, IsGaining, IsHeadFor, IsTakenIn, IsWayIn, TookBothIn, is_short, short_of}
use Rattle.ak_gather.proofs.Joining.{goes_on_knowing, knows_as_before, knows_further, took}

-- what Some holds
pub some_same : {X : Type 0} (x y : X) → Some x ≡ Some y → x ≡ y
some_same x y is = cc

-- ---- what stands at a place
module _ {X : Type 0} where
  pub there_and : (P : X → Type 0) (o : Option X) (x : X) → o ≡ Some x → P x → IsSomeAnd o P
  there_and P o x is holds = subst (λ (p : Option X). IsSomeAnd p P) (sym is) holds

  pub and_there : (P : X → Type 0) (o : Option X) (x : X) → o ≡ Some x → IsSomeAnd o P → P x
  and_there P o x is holds = subst (λ (p : Option X). IsSomeAnd p P) is holds

  pub some_and : (P : X → Type 0) (o : Option X) → IsSomeAnd o P → (x : X) × (o ≡ Some x) × P x
  some_and P None holds = absurd holds
  some_and P (Some x) holds = (x, refl, holds)

  pub all_at : (P : X → Type 0) (xs : List X) (k : ℕ) (x : X) → All P xs → slice_get xs k ≡ Some x → P x
  all_at P xs k x all there = subst P (get_or_from_slice_get xs k x x there) (all k x (slice_get_within xs k x there))

  pub at_place : (xs : List X) (k : ℕ) → k < length xs → (x : X) × (slice_get xs k ≡ Some x)
  at_place [] k within = absurd (omega (arith, within))
  at_place (x ∷ xs) zero within = (x, refl)
  at_place (x ∷ xs) (suc k) within = at_place xs k (omega (arith, within))

  pub at_set : (xs : List X) (k : ℕ) (x y : X) → slice_get xs k ≡ Some x → slice_get (set xs k y) k ≡ Some y
  at_set [] k x y there = absurd cc
  at_set (z ∷ xs) zero x y there = refl
  at_set (z ∷ xs) (suc k) x y there = at_set xs k x y there

  pub beside_set : (xs : List X) (k m : ℕ) (y : X) → m ≢ k → slice_get (set xs k y) m ≡ slice_get xs m
  beside_set [] k m y other = refl
  beside_set (z ∷ xs) zero zero y other = absurd (other refl)
  beside_set (z ∷ xs) zero (suc m) y other = refl
  beside_set (z ∷ xs) (suc k) zero y other = refl
  beside_set (z ∷ xs) (suc k) (suc m) y other = beside_set xs k m y (λ same. other (ap suc same))

  -- what stands at any other place stays
  pub place_or_beside : (xs : List X) (k m : ℕ) (y : X) → (m ≡ k) ⊎ (slice_get (set xs k y) m ≡ slice_get xs m)
  place_or_beside xs k m y = by_test (m == k) refl
    where
      by_test : (b : Bool) → (m == k) ≡ b → (m ≡ k) ⊎ (slice_get (set xs k y) m ≡ slice_get xs m)
      by_test true is = inl (eqb-true m k is)
      by_test false is = inr (beside_set xs k m y (λ same. true≢false (sym (eq-eqb m k same) ∙ is)))

-- ---- those that found no memory
pub short_more : (js : List Joined) (j : Joined) → short_of (js ++ j ∷ []) ≡ short_of js ++ short_of (j ∷ [])
short_more js j =
    let test : Joined → Bool = λ (x : Joined). is_short x.kind in
    ap (map (λ (x : Joined). x.number)) (filter-append test js (j ∷ [])) ∙ map-append (λ (x : Joined). x.number) (filter test js) (filter test (j ∷ []))

-- ---- loopers whose doors know more
pub gains_nothing : (j : Joined) → IsGaining j j
gains_nothing j = record { number = refl; kind = refl; job = refl; end = refl; port = knows_as_before j.door.port_seat; desk = knows_as_before j.door.desk_seat }

gains_further : (a b c : Joined) → IsGaining a b → IsGaining b c → IsGaining a c
gains_further a b c one two = record {
  number = two.number ∙ one.number;
  kind = two.kind ∙ one.kind;
  job = two.job ∙ one.job;
  end = two.end ∙ one.end;
  port = knows_further a.door.port_seat b.door.port_seat c.door.port_seat one.port two.port;
  desk = knows_further a.door.desk_seat b.door.desk_seat c.door.desk_seat one.desk two.desk;
}

pub all_gain_nothing : (js : List Joined) → AreGaining js js
all_gain_nothing js = record { count = refl; each = λ place j there. there_and (IsGaining j) (slice_get js place) j there (gains_nothing j) }

pub all_gain_further : (a b c : List Joined) → AreGaining a b → AreGaining b c → AreGaining a c
all_gain_further a b c one two = record {
  count = two.count ∙ one.count;
  each = λ place j there.
      let first = some_and (IsGaining j) (slice_get b place) (one.each place j there) in
      let second = some_and (IsGaining first.0) (slice_get c place) (two.each place first.0 first.1) in
      there_and (IsGaining j) (slice_get c place) second.0 second.1 (gains_further j first.0 second.0 first.2 second.2);
}

-- ---- one door took in what those seats know
module _ (place : ℕ) (port : PortSeat) (desk : DeskSeat) (js js' : List Joined) (taken : HasTakenAt place port desk js js') where
  taken_gains : IsGaining taken.before taken.after
  taken_gains = record {
    number = taken.number;
    kind = taken.kind;
    job = taken.job;
    end = taken.end;
    port = goes_on_knowing taken.before.door.port_seat port taken.after.door.port_seat taken.at_port;
    desk = goes_on_knowing taken.before.door.desk_seat desk taken.after.door.desk_seat taken.at_desk;
  }

  there_after : slice_get js' place ≡ Some taken.after
  there_after = ap (λ (l : List Joined). slice_get l place) taken.is ∙ at_set js place taken.before taken.after taken.there

  pub taking_gains : AreGaining js js'
  taking_gains = record {
    count = ap (λ (l : List Joined). length l) taken.is ∙ length-set js place taken.after;
    each = λ k j there.
        ⊎_elim
        (λ same.
        let both : Some taken.before ≡ Some j = sym taken.there ∙ ap (slice_get js) (sym same) ∙ there in
        there_and (IsGaining j) (slice_get js' k) taken.after (ap (slice_get js') same ∙ there_after) (subst (λ (x : Joined). IsGaining x taken.after) (some_same taken.before j both) taken_gains))
        (λ beside. there_and (IsGaining j) (slice_get js' k) j (ap (λ (l : List Joined). slice_get l k) taken.is ∙ beside ∙ there) (gains_nothing j))
        (place_or_beside js place k taken.after);
  }

  took_both : TookBothIn port desk taken.after
  took_both = record {
    at_port = took taken.before.door.port_seat port taken.after.door.port_seat taken.at_port;
    at_desk = took taken.before.door.desk_seat desk taken.after.door.desk_seat taken.at_desk;
  }

  pub took_there : IsSomeAnd (slice_get js' place) (TookBothIn port desk)
  took_there = there_and (TookBothIn port desk) (slice_get js' place) taken.after there_after took_both

  pub beside_taken : (k : ℕ) → k ≢ place → slice_get js' k ≡ slice_get js k
  beside_taken k other = ap (λ (l : List Joined). slice_get l k) taken.is ∙ beside_set js place k taken.after other

  -- where main's seats were no heads, they are as the others were
  pub head_there : (kept : KeptDoor) → kept.port_seat ≡ port → kept.desk_seat ≡ desk → HasNoNames taken.before.door → IsSomeAnd (slice_get js' place) (IsHeadFor kept)
  head_there kept same same_desk none = there_and (IsHeadFor kept) (slice_get js' place) taken.after there_after (record {
    names = ap (λ (s : PortSeat). s.names) taken.at_port ∙ ap (λ (ns : Option (List ℕ)). either_names ns port.names) none.at_port ∙ ap (λ (s : PortSeat). s.names) (sym same);
    desk_names = ap (λ (s : DeskSeat). s.names) taken.at_desk ∙ ap (λ (ns : Option (List ℕ)). either_names ns desk.names) none.at_desk ∙ ap (λ (s : DeskSeat). s.names) (sym same_desk);
    took = subst (λ (s : PortSeat). TookBothIn s kept.desk_seat taken.after) (sym same) (subst (λ (s : DeskSeat). TookBothIn port s taken.after) (sym same_desk) took_both);
  })

-- ---- what is said of places, while doors take in more
at_still : (js js' : List Joined) (place : ℕ) (port desk : LockId) → AreGaining js js' → IsAt js place port desk → IsAt js' place port desk
at_still js js' place port desk gains at =
    let now = some_and (IsGaining at.looper) (slice_get js' place) (gains.each place at.looper at.there) in
    record { looper = now.0; there = now.1; at_port = at.at_port ∙ sym now.2.port.lock; at_desk = at.at_desk ∙ sym now.2.desk.lock }

pub way_still : (js js' : List Joined) (way : ℕ × Door) → AreGaining js js' → IsWayIn js way → IsWayIn js' way
way_still js js' way gains at = at_still js js' way.0 way.1.port_seat.lock way.1.desk_seat.lock gains at

both_still : (port : PortSeat) (desk : DeskSeat) (j j' : Joined) → IsGaining j j' → TookBothIn port desk j → TookBothIn port desk j'
both_still port desk j j' gains took = record { at_port = gains.port.parts (part_of port) took.at_port; at_desk = gains.desk.parts (part_of desk) took.at_desk }

pub taken_still : (js js' : List Joined) (way : ℕ × Door) → AreGaining js js' → IsTakenIn js way → IsTakenIn js' way
taken_still js js' way gains taken =
    let P : Joined → Type 0 = TookBothIn way.1.port_seat way.1.desk_seat in
    let was = some_and P (slice_get js way.0) taken in
    let now = some_and (IsGaining was.0) (slice_get js' way.0) (gains.each way.0 was.0 was.1) in
    there_and P (slice_get js' way.0) now.0 now.1 (both_still way.1.port_seat way.1.desk_seat was.0 now.0 now.2 was.2)

pub all_ways_still : (js js' : List Joined) (ways : List (ℕ × Door)) → AreGaining js js' → All (IsWayIn js) ways → All (IsWayIn js') ways
all_ways_still js js' ways gains all = All-weaker (IsWayIn js) (IsWayIn js') (λ way at. way_still js js' way gains at) ways all

pub all_taken_still : (js js' : List Joined) (ways : List (ℕ × Door)) → AreGaining js js' → All (IsTakenIn js) ways → All (IsTakenIn js') ways
all_taken_still js js' ways gains all = All-weaker (IsTakenIn js) (IsTakenIn js') (λ way taken. taken_still js js' way gains taken) ways all

pub kept_still : (js js' : List Joined) (place : ℕ) (keeps : List KeptDoor) → AreGaining js js' → AreKeptIn js place keeps → AreKeptIn js' place keeps
kept_still js js' place [] gains all = tt
kept_still js js' place (kept ∷ keeps) gains all = (at_still js js' place kept.port_seat.lock kept.desk_seat.lock gains all.0, kept_still js js' (suc place) keeps gains all.1)

-- a door that the roster kept tells some threads, so main's seats stay the heads in its place
pub head_still : (js js' : List Joined) (place : ℕ) (kept : KeptDoor) → AreGaining js js' → IsSomeAnd (slice_get js place) (IsHeadFor kept) → IsSomeAnd (slice_get js' place) (IsHeadFor kept)
head_still js js' place kept gains head =
    let was = some_and (IsHeadFor kept) (slice_get js place) head in
    let now = some_and (IsGaining was.0) (slice_get js' place) (gains.each place was.0 was.1) in
    there_and (IsHeadFor kept) (slice_get js' place) now.0 now.1 (record {
      names = by_names kept.port_seat.names kept.head was.0.door.port_seat now.0.door.port_seat now.2.port was.2.names;
      desk_names = by_names kept.desk_seat.names (ap is_some kept.names ∙ kept.head) was.0.door.desk_seat now.0.door.desk_seat now.2.desk was.2.desk_names;
      took = both_still kept.port_seat kept.desk_seat was.0 now.0 now.2 was.2.took;
    })
  where
    by_names : {O L : Type 0} (names : Option (List ℕ)) → is_some names ≡ true → (seat seat' : SeatData O L) → GoesOnKnowing seat seat' → seat.names ≡ names → seat'.names ≡ names
    by_names None head seat seat' on are = absurd cc
    by_names (Some ns) head seat seat' on are = on.head ns are

pub heads_still : (js js' : List Joined) (place : ℕ) (keeps : List KeptDoor) → AreGaining js js' → AreHeadsIn js place keeps → AreHeadsIn js' place keeps
heads_still js js' place [] gains all = tt
heads_still js js' place (kept ∷ keeps) gains all = (head_still js js' place kept gains all.0, heads_still js js' (suc place) keeps gains all.1)

-- the same of all that were given back
pub ways_later : (js js' : List Joined) (all : List (Vec (ℕ × Door) Global)) → AreGaining js js' → All (AreWaysIn js) all → All (AreWaysIn js') all
ways_later js js' all gains there = All-weaker (AreWaysIn js) (AreWaysIn js') (λ ways at. all_ways_still js js' ways.items gains at) all there

pub taken_later : (js js' : List Joined) (all : List (Vec (ℕ × Door) Global)) → AreGaining js js' → All (AreTakenIn js) all → All (AreTakenIn js') all
taken_later js js' all gains taken = All-weaker (AreTakenIn js) (AreTakenIn js') (λ ways at. all_taken_still js js' ways.items gains at) all taken

-- ---- the doors of all loopers, looper by looper
all_mapped : {X Y : Type 0} (P : Y → Type 0) (f : X → Y) (xs : List X) → All P (map f xs) → All (λ x. P (f x)) xs
all_mapped P f xs all = λ k d lt. subst P (get_or-map f xs k d (f d) lt) (all k (f d) (omega (arith, length-map xs f, lt)))

pub ways_of_all : (js later : List Joined) (all : List (Vec (ℕ × Door) Global)) → map (λ (j : Joined). j.end.value.doors) js ≡ all → AreGaining js later → All (λ (j : Joined). All (IsWayIn js) j.end.value.doors.items) js → All (AreWaysIn later) all
ways_of_all js later all are gains lead =
    subst (All (AreWaysIn later)) are
    (All-map (AreWaysIn later) (λ (j : Joined). j.end.value.doors) js
    (All-weaker (λ (j : Joined). All (IsWayIn js) j.end.value.doors.items) (λ (j : Joined). AreWaysIn later j.end.value.doors) (λ j ways. all_ways_still js later j.end.value.doors.items gains ways) js lead))

pub of_all : (js later : List Joined) (all : List (Vec (ℕ × Door) Global)) → map (λ (j : Joined). j.end.value.doors) js ≡ all → All (AreTakenIn later) all → All (λ (j : Joined). AreTakenIn later j.end.value.doors) js
of_all js later all are taken = all_mapped (AreTakenIn later) (λ (j : Joined). j.end.value.doors) js (subst (All (AreTakenIn later)) (sym are) taken)
