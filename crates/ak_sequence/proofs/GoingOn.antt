-- A list of entries that each object can go on by passes over the objects.
use Rattle.std.proofs.Common.{◌≡◌, ◌∙◌, ◌⊎◌, ℕ, ◌<◌, ◌≤◌, ◌==◌, Bool, true, false, cond, List, [], ◌∷◌, map, filter, length, All, refl, sym, ap, subst, ⊎_elim, inl, inr, arith, eq-eqb, eqb-true, le-ltb, ltb-false}
use Rattle.std.proofs.lemmas.List.Elements.{All-head, All-tail}
use Rattle.ak_base.specs.Thread.{looper_thread}
use Rattle.ak_roster.specs.declared.head.AppHead.{AppHead}
use Rattle.ak_roster.specs.declared.entry.RosterEntry.{RosterEntry}
use Rattle.ak_roster.specs.Machine.{IsLegal, RosterState, after}
use Rattle.ak_roster.proofs.Surface.{loopers-after}
use Rattle.ak_port.specs.declared.port_entry.PortEntry.{PortEntry}
use Rattle.ak_port.specs.PortMachine.{AreSteps, PortState, state_after}
use Rattle.ak_port.specs.Reply as books
use Rattle.ak_action.specs.declared.state.DeskState.{DeskState}
use Rattle.ak_desk.specs.Entry.{EntryData}
use Rattle.ak_desk.specs.Machine as desks
use Rattle.ak_desk.specs.Machine.{counted}
use Rattle.ak_journal.specs.declared.entry.Entry.{Entry}
use Rattle.ak_journal.specs.declared.entry.ObjectName.{ObjectName}
use Rattle.ak_journal.specs.declared.entry.ObjectName.TheVariants as object
use Rattle.ak_sequence.specs.Laws.{is_at, is_by, is_same}
use Rattle.ak_world.specs.Merged.{roster_entry, stamp_of, thread_of}
use Rattle.ak_world.specs.World.{DeskPlace, MayAct, Objects, put}
use Rattle.ak_sequence.proofs.Kept.{first_kept, first_left}
use Rattle.ak_sequence.proofs.OneOrder.{Above, Up, above_kept}
use Rattle.ak_sequence.proofs.Passing.{Passes, Rests, book_named, book_then, desk_named, desk_then, passes_book, passes_desk, passes_port, passes_roster, port_named, port_then, put_each, rest_at, roster_then}
use Rattle.ak_sequence.proofs.Rising.{is_earlier}

-- ---- each object can go on so
abbrev pub RosterGoes : List AppHead → RosterState → List RosterEntry → Type 0
RosterGoes heads s [] = Unit {0}
RosterGoes heads s (x ∷ xs) = IsLegal heads s x.by.0 x.event × RosterGoes heads (after heads s x.by.0 x.event) xs

abbrev pub DeskGoes : ℕ → DeskPlace → List EntryData → Type 0
DeskGoes looper place entries = (t : DeskState) × desks.Replays looper place.dispatched place.state entries t

pub record CanGo (heads : List AppHead) (o : Objects) (r : Rests) : Type 0 where
  pub roster : RosterGoes heads o.roster r.roster
  pub book : books.Replays o.slots r.book
  pub ports : (looper : ℕ) → AreSteps (looper_thread looper) (o.ports looper) (r.ports looper)
  pub desks : (looper : ℕ) → DeskGoes looper (o.desks looper) (r.desks looper)

-- ---- who acts was started
module _ {X : Type 0} where
  abbrev pub There : X → List X → Type 0
  There z [] = ⊥
  There z (x ∷ xs) = (x ≡ z) ⊎ There z xs

-- the entry is the looper's own, or one at its desk
abbrev pub ActsFor : ℕ → Entry → Type 0
ActsFor looper e = (is_by (looper_thread looper) e ≡ true) ⊎ (is_at (object.Desk looper) e ≡ true)

-- the looper is started by an entry that is to come, and each entry that is its own or at its desk has a later stamp
pub record Waits (heads : List AppHead) (looper : ℕ) (entries : List Entry) (rest : List RosterEntry) : Type 0 where
  pub start : RosterEntry
  pub there : There start rest
  pub starts : (s : RosterState) → IsLegal heads s start.by.0 start.event → looper < length (after heads s start.by.0 start.event).loopers
  pub later : All (λ (e : Entry). ActsFor looper e → start.stamp < stamp_of e) entries

abbrev pub IsKnown : List AppHead → ℕ → Objects → List Entry → List RosterEntry → Type 0
IsKnown heads looper o entries rest = (looper < length o.roster.loopers) ⊎ Waits heads looper entries rest

-- ---- one entry more
-- the first of a list of named things
record Split {L : Type 0} (f : L → Entry) (xs : List L) (e : Entry) (es : List Entry) : Type 0 where
  x : L
  more : List L
  is : xs ≡ x ∷ more
  first : e ≡ f x
  rest : es ≡ map f more

split : {L : Type 0} (f : L → Entry) (xs : List L) (e : Entry) (es : List Entry) → e ∷ es ≡ map f xs → Split f xs e es
split f [] e es is = absurd (cc is)
split f (x ∷ xs) e es is =
    let one : e ≡ f x = cc is in
    let others : es ≡ map f xs = cc is in
    record { x = x; more = xs; is = refl; first = one; rest = others }

above_there : (e : Entry) (xs : List RosterEntry) (z : RosterEntry) → Above is_earlier e (map roster_entry xs) → There z xs → is_earlier (roster_entry z) e ≡ false
above_there e [] z above there = absurd there
above_there e (x ∷ xs) z above there =
    ⊎_elim
    (λ (same : x ≡ z). ap (λ (y : RosterEntry). is_earlier (roster_entry y) e) (sym same) ∙ above.0)
    (λ (behind : There z xs). above_there e xs z above.1 behind)
    there

module _ (heads : List AppHead) (loopers : ℕ) where
  abbrev pub IsAmong : Entry → Type 0
  IsAmong e = (looper : ℕ) → ActsFor looper e → looper < loopers

  module _ (e : Entry) (es : List Entry) (o : Objects) (r : Rests) (same : (name : ObjectName) → filter (is_at name) (e ∷ es) ≡ rest_at r name) (up : Up is_earlier (e ∷ es)) (among : All IsAmong (e ∷ es))
      (known : (looper : ℕ) → looper < loopers → IsKnown heads looper o (e ∷ es) r.roster) where
    its_start_is_past : (looper : ℕ) → ActsFor looper e → Waits heads looper (e ∷ es) r.roster → ⊥
    its_start_is_past looper acts waits =
        let later : waits.start.stamp < stamp_of e = All-head (λ (x : Entry). ActsFor looper x → waits.start.stamp < stamp_of x) e es waits.later acts in
        let above : Above is_earlier e (filter (is_at object.Roster) (e ∷ es)) = above_kept is_earlier (is_at object.Roster) e (e ∷ es) (le-ltb (stamp_of e) (stamp_of e) (omega arith), up.0) in
        let not_earlier : is_earlier (roster_entry waits.start) e ≡ false = above_there e r.roster waits.start (subst (Above is_earlier e) (same object.Roster) above) waits.there in
        let le : stamp_of e ≤ waits.start.stamp = ltb-false waits.start.stamp (stamp_of e) not_earlier in
        absurd (omega arith)

    begun : (looper : ℕ) → ActsFor looper e → looper < length o.roster.loopers
    begun looper acts =
        ⊎_elim
        (λ (lt : looper < length o.roster.loopers). lt)
        (λ (waits : Waits heads looper (e ∷ es) r.roster). absurd (its_start_is_past looper acts waits))
        (known looper (All-head IsAmong e es among looper acts))

    may : MayAct o (thread_of e)
    may looper by = begun looper (inl (eq-eqb (thread_of e) (looper_thread looper) by))

    -- behind an entry elsewhere
    known_still : (looper : ℕ) → looper < loopers → IsKnown heads looper o es r.roster
    known_still looper lt =
        ⊎_elim
        (λ (is : looper < length o.roster.loopers). inl is)
        (λ (waits : Waits heads looper (e ∷ es) r.roster). inr (record {
          start = waits.start;
          there = waits.there;
          starts = waits.starts;
          later = All-tail (λ (x : Entry). ActsFor looper x → waits.start.stamp < stamp_of x) e es waits.later;
        }))
        (known looper lt)

    -- behind one at the roster
    known_then : (x : RosterEntry) (xs : List RosterEntry) → r.roster ≡ x ∷ xs → (legal : IsLegal heads o.roster x.by.0 x.event)
        → (looper : ℕ) → looper < loopers → IsKnown heads looper (record o { roster = after heads o.roster x.by.0 x.event }) es xs
    known_then x xs is legal looper lt =
        ⊎_elim
        (λ (was : looper < length o.roster.loopers). let more = loopers-after heads o.roster x.by.0 x.event in inl (omega arith))
        (λ (waits : Waits heads looper (e ∷ es) r.roster).
        ⊎_elim
        (λ (now : x ≡ waits.start). inl (subst (λ (z : RosterEntry). looper < length (after heads o.roster z.by.0 z.event).loopers) (sym now)
        (waits.starts o.roster (subst (λ (z : RosterEntry). IsLegal heads o.roster z.by.0 z.event) now legal))))
        (λ (behind : There waits.start xs). inr (record {
          start = waits.start;
          there = behind;
          starts = waits.starts;
          later = All-tail (λ (z : Entry). ActsFor looper z → waits.start.stamp < stamp_of z) e es waits.later;
        }))
        (subst (There waits.start) is waits.there))
        (known looper lt)

  -- ---- entry after entry
  abbrev Goes : List Entry → Type 0
  Goes es =
      (o : Objects) (r : Rests) → CanGo heads o r → ((name : ObjectName) → filter (is_at name) es ≡ rest_at r name) → Up is_earlier es → All IsAmong es
      → ((looper : ℕ) → looper < loopers → IsKnown heads looper o es r.roster) → Passes heads o r es

  module _ (e : Entry) (es : List Entry) (goes_on : Goes es) (o : Objects) (r : Rests) (can : CanGo heads o r) (same : (name : ObjectName) → filter (is_at name) (e ∷ es) ≡ rest_at r name)
      (up : Up is_earlier (e ∷ es)) (among : All IsAmong (e ∷ es)) (known : (looper : ℕ) → looper < loopers → IsKnown heads looper o (e ∷ es) r.roster) where
    abbrev Went : Type 0
    Went = Passes heads o r (e ∷ es)

    -- elsewhere the same is to come
    elsewhere : (name : ObjectName) → is_at name e ≡ false → filter (is_at name) es ≡ rest_at r name
    elsewhere name not_there = sym (first_left (is_at name) e es not_there) ∙ same name

    here : (name : ObjectName) → is_at name e ≡ true → e ∷ filter (is_at name) es ≡ rest_at r name
    here name there = sym (first_kept (is_at name) e es there) ∙ same name

    may_now : MayAct o (thread_of e)
    may_now = may e es o r same up among known

    tail_among : All IsAmong es
    tail_among = All-tail IsAmong e es among

    at_roster : e.object ≡ object.Roster → Went
    at_roster is =
        let p : Split roster_entry r.roster e (filter (is_at object.Roster) es) = split roster_entry r.roster e (filter (is_at object.Roster) es) (here object.Roster (ap (is_same object.Roster) is)) in
        let goes : RosterGoes heads o.roster (p.x ∷ p.more) = subst (RosterGoes heads o.roster) p.is can.roster in
        let o1 : Objects = roster_then heads o p.x in
        let r1 : Rests = record r { roster = p.more } in
        let now : (name : ObjectName) → filter (is_at name) es ≡ rest_at r1 name = λ name. elim name as (λ n. filter (is_at n) es ≡ rest_at r1 n) [
          | object.Port looper ↦ elsewhere (object.Port looper) (ap (is_same (object.Port looper)) is)
          | object.Desk looper ↦ elsewhere (object.Desk looper) (ap (is_same (object.Desk looper)) is)
          | object.Book ↦ elsewhere object.Book (ap (is_same object.Book) is)
          | object.Roster ↦ p.rest
        ] in
        passes_roster (record {
          x = p.x;
          more = p.more;
          there = p.is;
          is = p.first;
          may = subst (λ (z : Entry). MayAct o (thread_of z)) p.first may_now;
          step = goes.0;
          behind = goes_on o1 r1 (record { roster = goes.1; book = can.book; ports = can.ports; desks = can.desks }) now up.1 tail_among (known_then e es o r same up among known p.x p.more p.is goes.0);
        })

    at_book : e.object ≡ object.Book → Went
    at_book is =
        let p : Split book_named r.book e (filter (is_at object.Book) es) = split book_named r.book e (filter (is_at object.Book) es) (here object.Book (ap (is_same object.Book) is)) in
        let goes : books.Replays o.slots (p.x ∷ p.more) = subst (books.Replays o.slots) p.is can.book in
        let o1 : Objects = book_then o p.x in
        let r1 : Rests = record r { book = p.more } in
        let now : (name : ObjectName) → filter (is_at name) es ≡ rest_at r1 name = λ name. elim name as (λ n. filter (is_at n) es ≡ rest_at r1 n) [
          | object.Port looper ↦ elsewhere (object.Port looper) (ap (is_same (object.Port looper)) is)
          | object.Desk looper ↦ elsewhere (object.Desk looper) (ap (is_same (object.Desk looper)) is)
          | object.Book ↦ p.rest
          | object.Roster ↦ elsewhere object.Roster (ap (is_same object.Roster) is)
        ] in
        passes_book (record {
          x = p.x;
          more = p.more;
          there = p.is;
          is = p.first;
          may = subst (λ (z : Entry). MayAct o (thread_of z)) p.first may_now;
          step = goes.0;
          behind = goes_on o1 r1 (record { roster = can.roster; book = goes.1; ports = can.ports; desks = can.desks }) now up.1 tail_among (known_still e es o r same up among known);
        })

    module _ (number : ℕ) where
      at_port : e.object ≡ object.Port number → Went
      at_port is =
          let p : Split (port_named number) (r.ports number) e (filter (is_at (object.Port number)) es) =
          split (port_named number) (r.ports number) e (filter (is_at (object.Port number)) es) (here (object.Port number) (ap (is_same (object.Port number)) is ∙ eq-eqb number number refl)) in
          let goes : AreSteps (looper_thread number) (o.ports number) (p.x ∷ p.more) = subst (AreSteps (looper_thread number) (o.ports number)) p.is (can.ports number) in
          let o1 : Objects = port_then o number p.x in
          let r1 : Rests = record r { ports = put number p.more r.ports } in
          let own : (looper : ℕ) (c : Bool) → (looper == number) ≡ c → filter (is_at (object.Port looper)) es ≡ map (port_named looper) (cond c p.more (r.ports looper)) = λ looper c. elim c as (λ d. (looper == number) ≡ d → filter (is_at (object.Port looper)) es ≡ map (port_named looper) (cond d p.more (r.ports looper))) [
            | true ↦ λ k. subst (λ (n : ℕ). filter (is_at (object.Port n)) es ≡ map (port_named n) p.more) (sym (eqb-true looper number k)) p.rest
            | false ↦ λ k. elsewhere (object.Port looper) (ap (is_same (object.Port looper)) is ∙ k)
          ] in
          let now : (name : ObjectName) → filter (is_at name) es ≡ rest_at r1 name = λ name. elim name as (λ n. filter (is_at n) es ≡ rest_at r1 n) [
            | object.Port looper ↦ own looper (looper == number) refl
            | object.Desk looper ↦ elsewhere (object.Desk looper) (ap (is_same (object.Desk looper)) is)
            | object.Book ↦ elsewhere object.Book (ap (is_same object.Book) is)
            | object.Roster ↦ elsewhere object.Roster (ap (is_same object.Roster) is)
          ] in
          let each : (looper : ℕ) → AreSteps (looper_thread looper) (o1.ports looper) (r1.ports looper) =
          put_each (λ (n : ℕ) (s : PortState) (xs : List PortEntry). AreSteps (looper_thread n) s xs) number (state_after (o.ports number) p.x.event) p.more o.ports r.ports goes.1 (λ n apart. can.ports n) in
          passes_port (record {
            number = number;
            x = p.x;
            more = p.more;
            there = p.is;
            is = p.first;
            may = subst (λ (z : Entry). MayAct o (thread_of z)) p.first may_now;
            step = goes.0;
            behind = goes_on o1 r1 (record { roster = can.roster; book = can.book; ports = each; desks = can.desks }) now up.1 tail_among (known_still e es o r same up among known);
          })

      at_desk : e.object ≡ object.Desk number → Went
      at_desk is =
          let p : Split (desk_named number) (r.desks number) e (filter (is_at (object.Desk number)) es) =
          split (desk_named number) (r.desks number) e (filter (is_at (object.Desk number)) es) (here (object.Desk number) (ap (is_same (object.Desk number)) is ∙ eq-eqb number number refl)) in
          let goes : DeskGoes number (o.desks number) (p.x ∷ p.more) = subst (DeskGoes number (o.desks number)) p.is (can.desks number) in
          let place : DeskPlace = record { state = goes.1.0; dispatched = counted (o.desks number).dispatched p.x.plain.event } in
          let o1 : Objects = desk_then o number p.x goes.1.0 in
          let r1 : Rests = record r { desks = put number p.more r.desks } in
          let own : (looper : ℕ) (c : Bool) → (looper == number) ≡ c → filter (is_at (object.Desk looper)) es ≡ map (desk_named looper) (cond c p.more (r.desks looper)) = λ looper c. elim c as (λ d. (looper == number) ≡ d → filter (is_at (object.Desk looper)) es ≡ map (desk_named looper) (cond d p.more (r.desks looper))) [
            | true ↦ λ k. subst (λ (n : ℕ). filter (is_at (object.Desk n)) es ≡ map (desk_named n) p.more) (sym (eqb-true looper number k)) p.rest
            | false ↦ λ k. elsewhere (object.Desk looper) (ap (is_same (object.Desk looper)) is ∙ k)
          ] in
          let now : (name : ObjectName) → filter (is_at name) es ≡ rest_at r1 name = λ name. elim name as (λ n. filter (is_at n) es ≡ rest_at r1 n) [
            | object.Port looper ↦ elsewhere (object.Port looper) (ap (is_same (object.Port looper)) is)
            | object.Desk looper ↦ own looper (looper == number) refl
            | object.Book ↦ elsewhere object.Book (ap (is_same object.Book) is)
            | object.Roster ↦ elsewhere object.Roster (ap (is_same object.Roster) is)
          ] in
          let each : (looper : ℕ) → DeskGoes looper (o1.desks looper) (r1.desks looper) = put_each DeskGoes number place p.more o.desks r.desks (goes.0, goes.1.1.1) (λ n apart. can.desks n) in
          passes_desk (record {
            number = number;
            x = p.x;
            more = p.more;
            there = p.is;
            is = p.first;
            may = subst (λ (z : Entry). MayAct o (thread_of z)) p.first may_now;
            started = begun e es o r same up among known number (inr (ap (is_same (object.Desk number)) is ∙ eq-eqb number number refl));
            leaves = goes.1.0;
            step = goes.1.1.0;
            behind = goes_on o1 r1 (record { roster = can.roster; book = can.book; ports = can.ports; desks = each }) now up.1 tail_among (known_still e es o r same up among known);
          })

    at_each : (name : ObjectName) → e.object ≡ name → Went
    at_each object.Roster is = at_roster is
    at_each object.Book is = at_book is
    at_each (object.Port number) is = at_port number is
    at_each (object.Desk number) is = at_desk number is

  pub all_go : (es : List Entry) → Goes es
  all_go [] o r can same up among known = λ name. sym (same name)
  all_go (e ∷ es) o r can same up among known = at_each e es (all_go es) o r can same up among known e.object refl
