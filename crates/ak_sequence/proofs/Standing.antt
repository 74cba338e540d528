-- How a thread stands in a world: the world's works are what the threads of the loopers have to do, and the slot of an ask is open and unwritten.
use Rattle.std.proofs.Common.{◌≡◌, ◌≢◌, ◌∙◌, ℕ, zero, suc, cond, List, [], ◌∷◌, ◌++◌, length, All, Option, None, Some, slice_get, refl, sym, ap, subst, arith, eq-eqb, ne_eqb}
use Rattle.std.proofs.lemmas.List.Elements.{All-cons, All-head, All-nil, All-tail}
use Rattle.std.proofs.lemmas.Option.{slice_get_within}
use Rattle.ak_base.specs.Thread.{looper_thread}
use Rattle.ak_message.specs.Message.{MessageData}
use Rattle.ak_flatten.specs.declared.item.Duty.TheVariants as duty
use Rattle.ak_flatten.specs.Item.{ItemData}
use Rattle.ak_roster.specs.declared.head.AppHead.{AppHead}
use Rattle.ak_roster.specs.declared.entry.RosterEntry.{RosterEntry}
use Rattle.ak_port.specs.Reply.{SlotData, Stage, open_stage, slot_of, with_stage}
use Rattle.ak_port.proofs.Surface.{get_left, get_other}
use Rattle.ak_journal.specs.declared.entry.Event.{Event}
use Rattle.ak_journal.specs.declared.entry.Event.TheVariants as event
use Rattle.ak_journal.specs.declared.entry.ObjectName.{ObjectName}
use Rattle.ak_journal.specs.declared.entry.ObjectName.TheVariants as object
use Rattle.ak_world.specs.World.{Held, Objects, Owed, Work, Works, World, put}
use Rattle.ak_sequence.specs.Places.{IsSound, IsWritten, in_hand, left_over, owed}
use Rattle.ak_sequence.proofs.Doing.{Doing}
use Rattle.ak_sequence.proofs.Keeping.{placed_written}
use Rattle.ak_sequence.proofs.Passing.{roster_then}

-- ---- the elements of a list, by their places
module _ {X : Type 0} (P : X → Type 0) where
  pub all_at : (xs : List X) (place : ℕ) (x : X) → All P xs → slice_get xs place ≡ Some x → P x
  all_at [] place x all there = absurd (cc there)
  all_at (y ∷ xs) zero x all there = let e : y ≡ x = cc there in subst P e (All-head P y xs all)
  all_at (y ∷ xs) (suc place) x all there = all_at xs place x (All-tail P y xs all) there

  pub all_of : (xs : List X) → ((place : ℕ) (x : X) → slice_get xs place ≡ Some x → P x) → All P xs
  all_of [] each = All-nil P
  all_of (y ∷ xs) each = All-cons P y xs (each zero y refl) (all_of xs (λ place x there. each (suc place) x there))

-- ---- the slot of an ask
-- no port ever accepted an item that owes it
abbrev pub Unwritten : Objects → ℕ → Type 0
Unwritten o n = (looper : ℕ) → All (λ (item : ItemData). item.duty ≢ duty.Slot n) (o.ports looper).written

-- it is open, by that thread, and unwritten
pub record IsAsked (o : Objects) (thread n : ℕ) : Type 0 where
  pub opened : slice_get o.slots n ≡ Some (slot_of thread open_stage)
  pub unwritten : Unwritten o n

abbrev pub Asked : Objects → ℕ → Option ℕ → Type 0
Asked o thread asking = (n : ℕ) → asking ≡ Some n → IsAsked o thread n

-- so it stays where others change
module _ (o : Objects) (thread n : ℕ) (asked : IsAsked o thread n) where
  pub opened_more : (slot : SlotData) → IsAsked (record o { slots = o.slots ++ slot ∷ [] }) thread n
  opened_more slot = record {
    opened = get_left o.slots (slot ∷ []) n (slice_get_within o.slots n (slot_of thread open_stage) asked.opened) ∙ asked.opened;
    unwritten = asked.unwritten;
  }

  pub staged_other : (m : ℕ) (stage : Stage) → n ≢ m → IsAsked (record o { slots = with_stage o.slots m stage }) thread n
  staged_other m stage ne = record { opened = get_other o.slots m n stage ne ∙ asked.opened; unwritten = asked.unwritten }

-- a slot has one opener and one stage
pub one_slot : (slots : List SlotData) (n : ℕ) (a b : SlotData) → slice_get slots n ≡ Some a → slice_get slots n ≡ Some b → a ≡ b
one_slot slots n a b p q = let both : Some a ≡ Some b = sym p ∙ q in cc both

-- ---- what has to be done of a slot was written with it
module _ (w : World) (sound : IsSound w) where
  pub hand_written : (n looper : ℕ) (first : Held) (others : List Held) → (w.works looper).hand ≡ first ∷ others → first.owing ≡ duty.Slot n → IsWritten w n
  hand_written n looper first others there owes =
      placed_written w sound n (in_hand looper first.taken.position) (record { before = []; one = first; behind = others; there = there; position_is = refl; owes = owes })

  pub left_written : (n looper : ℕ) (before : List Held) (one : Held) (behind : List Held) → (w.works looper).left ≡ before ++ one ∷ behind → one.owing ≡ duty.Slot n → IsWritten w n
  left_written n looper before one behind there owes =
      placed_written w sound n (left_over looper one.taken.position) (record { before = before; one = one; behind = behind; there = there; position_is = refl; owes = owes })

  pub owed_written : (n looper position : ℕ) (reply : Option MessageData) → (w.works looper).owed ≡ Some (record { slot = n; reply = reply }) → (w.objects.desks looper).dispatched ≡ suc position → IsWritten w n
  owed_written n looper position reply owes last = placed_written w sound n (owed looper position) (record { reply = reply; owes = owes; last = last })

  pub written_not : (n m thread : ℕ) → IsWritten w n → IsAsked w.objects thread m → m ≢ n
  written_not n m thread written asked e =
      let it = written.accepts in
      all_at (λ (item : ItemData). item.duty ≢ duty.Slot m) (w.objects.ports written.looper).written written.position it.item (asked.unwritten written.looper) it.there
      (subst (λ (k : ℕ). it.item.duty ≡ duty.Slot k) (sym e) it.owes)

  -- the next slot is in no item
  pub new_unwritten : (n : ℕ) → n ≡ length w.objects.slots → Unwritten w.objects n
  new_unwritten n e looper =
      all_of (λ (item : ItemData). item.duty ≢ duty.Slot n) (w.objects.ports looper).written
      (λ place item there owes.
      let opened = sound.written_opened n (record { looper = looper; position = place; accepts = record { item = item; there = there; owes = owes } }) in
      let lt = slice_get_within w.objects.slots n (slot_of opened.1.0 opened.0) opened.1.1 in
      absurd (omega arith))

-- ---- a thread in a world
abbrev pub HasDispatched : Objects → ℕ → Type 0
HasDispatched o looper = (position : ℕ) × ((o.desks looper).dispatched ≡ suc position)

-- its work is that of the looper whose thread it is, which owes a slot only behind a dispatch
pub record Stands (w : World) (thread : ℕ) (d : Doing) : Type 0 where
  pub works : (looper : ℕ) → thread ≡ looper_thread looper → w.works looper ≡ d.work
  pub past : (looper : ℕ) → thread ≡ looper_thread looper → (one : Owed) → d.work.owed ≡ Some one → HasDispatched w.objects looper
  pub asked : Asked w.objects thread d.asking

-- behind an entry of that thread: what the loopers have to do then, and so does each thread stand
pub record Went (short : List ℕ) (w : World) (thread : ℕ) (d' : Doing) (o' : Objects) (item : Option ItemData) (name : ObjectName) (e : Event) : Type 0 where
  pub works : ℕ → Work
  pub does : Works short w thread item name e works
  pub own : Stands (record { objects = o'; works = works }) thread d'
  pub others : (other : ℕ) → other ≢ thread → (x : Doing) → Stands w other x → Stands (record { objects = o'; works = works }) other x

module _ (w : World) (thread : ℕ) (d d' : Doing) (o' : Objects) (stands : Stands w thread d) (still : (looper : ℕ) → HasDispatched w.objects looper → HasDispatched o' looper)
    (asks : Asked o' thread d'.asking) (keeps : (other : ℕ) → other ≢ thread → (n : ℕ) → IsAsked w.objects other n → IsAsked o' other n) where
  -- the works stay the same
  pub same_own : d'.work ≡ d.work → Stands (record { objects = o'; works = w.works }) thread d'
  same_own e = record {
    works = λ looper is. stands.works looper is ∙ sym e;
    past = λ looper is one owes. still looper (stands.past looper is one (ap (λ (x : Work). x.owed) (sym e) ∙ owes));
    asked = asks;
  }

  pub same_others : (other : ℕ) → other ≢ thread → (x : Doing) → Stands w other x → Stands (record { objects = o'; works = w.works }) other x
  same_others other ne x was = record {
    works = was.works;
    past = λ looper is one owes. still looper (was.past looper is one owes);
    asked = λ n e. keeps other ne n (was.asked n e);
  }

  -- the work of the thread's looper alone changes
  module _ (looper : ℕ) (is : thread ≡ looper_thread looper) (z : Work) (same : z ≡ d'.work) (past : (one : Owed) → d'.work.owed ≡ Some one → HasDispatched o' looper) where
    pub put_own : Stands (record { objects = o'; works = put looper z w.works }) thread d'
    put_own = record {
      works = λ other it. let e : other ≡ looper = omega arith in ap (λ b. cond b z (w.works other)) (eq-eqb other looper e) ∙ same;
      past = λ other it one owes. let e : looper ≡ other = omega arith in subst (HasDispatched o') e (past one owes);
      asked = asks;
    }

    pub put_others : (other : ℕ) → other ≢ thread → (x : Doing) → Stands w other x → Stands (record { objects = o'; works = put looper z w.works }) other x
    put_others other ne x was = record {
      works = λ number it. ap (λ b. cond b z (w.works number)) (ne_eqb number looper (λ e. ne (it ∙ ap looper_thread e ∙ sym is))) ∙ was.works number it;
      past = λ number it one owes. still number (was.past number it one owes);
      asked = λ n e. keeps other ne n (was.asked n e);
    }

-- ---- an entry at the roster leaves all that as it is
module _ (short : List ℕ) (heads : List AppHead) (w : World) (thread : ℕ) (d d' : Doing) (stands : Stands w thread d) (x : RosterEntry) where
  asked_still : (other n : ℕ) → IsAsked w.objects other n → IsAsked (roster_then heads w.objects x) other n
  asked_still other n was = record { opened = was.opened; unwritten = was.unwritten }

  pub roster_went : d' ≡ d → Went short w thread d' (roster_then heads w.objects x) None object.Roster (event.Roster x.event)
  roster_went same =
      let o' = roster_then heads w.objects x in
      let still : (looper : ℕ) → HasDispatched w.objects looper → HasDispatched o' looper = λ looper has. has in
      let asks : Asked o' thread d'.asking = λ n it. asked_still thread n (stands.asked n (sym (ap (λ (y : Doing). y.asking) same) ∙ it)) in
      let keeps : (other : ℕ) → other ≢ thread → (n : ℕ) → IsAsked w.objects other n → IsAsked o' other n = λ other ne n was. asked_still other n was in
      record {
        works = w.works;
        does = refl;
        own = same_own w thread d d' o' stands still asks keeps (ap (λ (y : Doing). y.work) same);
        others = same_others w thread d d' o' stands still asks keeps;
      }
