-- A world stays sound: what each step has to show.
use Rattle.std.proofs.Common.{◌≡◌, ◌⊎◌, ◌∙◌, ℕ, List, refl, sym, ap, subst, inl, inr, ⊎_elim}
use Rattle.ak_flatten.specs.declared.item.Duty.TheVariants as duty
use Rattle.ak_flatten.specs.Item.{ItemData}
use Rattle.ak_port.specs.declared.port_entry.PortEvent.TheVariants as port_event
use Rattle.ak_port.specs.Reply.{Stage, cancelled_stage, filled_stage, open_stage, taken_stage}
use Rattle.ak_journal.specs.declared.entry.Entry.{Entry}
use Rattle.ak_journal.specs.declared.entry.Event.TheVariants as event
use Rattle.ak_journal.specs.declared.entry.ObjectName.TheVariants as object
use Rattle.ak_world.specs.World.{World}
use Rattle.ak_sequence.specs.Places.{Accepts, HasStage, HoldsInOrder, IsAt, IsOpen, IsSound, IsWritten, Place, in_hand, looper_of, pending, position_of}
use Rattle.ak_sequence.specs.Worlds.{DispatchesAt, RestsAt, WritesAt, WritesSlot}
use Rattle.ak_sequence.proofs.Parts.{Comes, stays, was_dispatched, was_left, was_put_by, was_taken, was_written}
use Rattle.ak_sequence.proofs.Lots.{Sits, here_of, holds_of, lot, place_is, place_of, sits}
use Rattle.ak_sequence.proofs.Stages.{one_stage, open_not_cancelled}
use Rattle.ak_sequence.proofs.Moves.{sits_once}

-- ---- the items of a step: each looper holds them in order, and where the slots are comes of where they were
pub record KeepsItems (w : World) (entry : Entry) (w' : World) : Type 0 where
  pub holds : (looper : ℕ) → HoldsInOrder w' looper
  pub come : (n : ℕ) (place : Place) → IsAt w' n place → Comes w entry n place
  pub go : (n : ℕ) (place : Place) → IsAt w n place → IsOpen w' n → (other : Place) × IsAt w' n other
  pub accepted : (n looper position : ℕ) → Accepts w n looper position → Accepts w' n looper position
  pub unwritten : (n : ℕ) → IsWritten w' n → IsWritten w n ⊎ WritesSlot n entry

pub written_on : (w : World) (entry : Entry) (w' : World) → KeepsItems w entry w' → (n : ℕ) → IsWritten w n → IsWritten w' n
written_on w entry w' items n is = record { looper = is.looper; position = is.position; accepts = items.accepted n is.looper is.position is.accepts }

-- a slot that is in a place of a sound world, some item owes
pub placed_written : (w : World) → IsSound w → (n : ℕ) (place : Place) → IsAt w n place → IsWritten w n
placed_written w sound n place at = record { looper = looper_of place; position = position_of place; accepts = sound.placed n place at }

-- a slot that an item is written with
pub record IsNew (w' : World) (n : ℕ) : Type 0 where
  pub opened : IsOpen w' n
  pub place : Place
  pub there : IsAt w' n place

-- ---- the slots of a step
pub record KeepsSlots (w w' : World) : Type 0 where
  pub was_open : (n : ℕ) → IsWritten w n → IsOpen w' n → IsOpen w n
  pub still_open : (n : ℕ) (place : Place) → IsAt w' n place → IsOpen w n → IsOpen w' n
  pub stage : (n : ℕ) (before : Stage) → HasStage w n before → (behind : Stage) × HasStage w' n behind
  pub filled : (n : ℕ) (text : List ℕ) → HasStage w' n (filled_stage text) → IsWritten w n
  pub taken : (n : ℕ) → HasStage w' n taken_stage → IsWritten w n
  pub uncancelled : (n : ℕ) → IsWritten w n → ¬ (HasStage w' n cancelled_stage)

pub record Keeps (w : World) (entry : Entry) (w' : World) : Type 0 where
  pub items : KeepsItems w entry w'
  pub slots : KeepsSlots w w'
  pub new : (n : ℕ) → WritesSlot n entry → IsNew w' n

-- ---- of which item a place is, and where that was before
pub record WasThere (w : World) (entry : Entry) (n : ℕ) (place : Place) : Type 0 where
  pub other : Place
  pub there : IsAt w n other
  pub same_looper : looper_of other ≡ looper_of place
  pub same_position : position_of other ≡ position_of place
  pub unwritten : ¬ (WritesSlot n entry)

pub record NewThere (entry : Entry) (n : ℕ) (place : Place) : Type 0 where
  pub looper : ℕ
  pub position : ℕ
  pub item : ItemData
  pub writes : WritesAt looper position item entry
  pub owes : item.duty ≡ duty.Slot n
  pub is : place ≡ pending looper position

pub rest_writes_none : (looper : ℕ) (entry : Entry) (n : ℕ) → RestsAt looper entry → ¬ (WritesSlot n entry)
rest_writes_none looper entry n rests writes = let a = rests.is in let b = writes.writes.is in cc

pub dispatch_writes_none : (looper position : ℕ) (entry : Entry) (n : ℕ) → DispatchesAt looper position entry → ¬ (WritesSlot n entry)
dispatch_writes_none looper position entry n dispatches writes = let a = dispatches.is in let b = writes.writes.is in cc

pub origin : (w : World) (entry : Entry) (n : ℕ) (place : Place) → Comes w entry n place → WasThere w entry n place ⊎ NewThere entry n place
origin w entry n place (stays other at none) = inl (record { other = other; there = at; same_looper = refl; same_position = refl; unwritten = none })
origin w entry n place (was_taken looper position at none) = inl (record { other = pending looper position; there = at; same_looper = refl; same_position = refl; unwritten = none })
origin w entry n place (was_left looper position at rests) =
    inl (record { other = pending looper position; there = at; same_looper = refl; same_position = refl; unwritten = rest_writes_none looper entry n rests })
origin w entry n place (was_put_by looper position at rests) =
    inl (record { other = in_hand looper position; there = at; same_looper = refl; same_position = refl; unwritten = rest_writes_none looper entry n rests })
origin w entry n place (was_dispatched looper position at dispatches) =
    inl (record { other = in_hand looper position; there = at; same_looper = refl; same_position = refl; unwritten = dispatch_writes_none looper position entry n dispatches })
origin w entry n place (was_written looper position item writes owes) = inr (record { looper = looper; position = position; item = item; writes = writes; owes = owes; is = refl })

writes_of : (entry : Entry) (n : ℕ) (place : Place) → NewThere entry n place → WritesSlot n entry
writes_of entry n place new = record { looper = new.looper; position = new.position; item = new.item; writes = new.writes; owes = new.owes }

-- ---- places of one item
same_place : (place other : Place) → looper_of place ≡ looper_of other → here_of place ≡ here_of other → position_of place ≡ position_of other → place ≡ other
same_place place other a b c = sym (place_is place) ∙ (λ i. place_of (a i) (b i) (c i)) ∙ place_is other

one_place
    : (w : World) (n : ℕ) (place other : Place) → HoldsInOrder w (looper_of place) → looper_of place ≡ looper_of other → position_of place ≡ position_of other
    → IsAt w n place → IsAt w n other → place ≡ other
one_place w n place other holds looper position a b =
    let moved : Sits (lot w (looper_of place)) n (here_of other) (position_of place) =
    subst (λ (t : ℕ × ℕ). Sits (lot w t.0) n (here_of other) t.1) (λ i. (sym looper i, sym position i)) (sits w n other b) in
    same_place place other looper
    (sits_once (lot w (looper_of place)) (holds_of w (looper_of place) holds) n (here_of place) (here_of other) (position_of place) (sits w n place a) moved)
    position

both_new : (entry : Entry) (n : ℕ) (place other : Place) → NewThere entry n place → NewThere entry n other → place ≡ other
both_new entry n place other a b =
    let looper : object.Port a.looper ≡ object.Port b.looper = sym a.writes.at ∙ b.writes.at in
    let written : event.Port (port_event.Written a.position a.item) ≡ event.Port (port_event.Written b.position b.item) = sym a.writes.is ∙ b.writes.is in
    let same : a.looper ≡ b.looper = cc in
    let there : a.position ≡ b.position = cc in
    a.is ∙ (λ i. pending (same i) (there i)) ∙ sym b.is

both_were : (w w' : World) (entry : Entry) (n : ℕ) (place other : Place) → IsSound w → HoldsInOrder w' (looper_of place) → IsAt w' n place → IsAt w' n other → WasThere w entry n place → WasThere w entry n other → place ≡ other
both_were w w' entry n place other sound holds a b p q =
    let same : p.other ≡ q.other = sound.once n p.other q.other p.there q.there in
    one_place w' n place other holds
    (sym p.same_looper ∙ ap looper_of same ∙ q.same_looper)
    (sym p.same_position ∙ ap position_of same ∙ q.same_position)
    a b

-- ---- so the world is sound
module _ (w : World) (entry : Entry) (w' : World) (sound : IsSound w) (keeps : Keeps w entry w') where
  open keeps use {items, slots, new}

  once_still : (n : ℕ) (place other : Place) → IsAt w' n place → IsAt w' n other → place ≡ other
  once_still n place other a b =
      let holds = items.holds (looper_of place) in
      ⊎_elim
      (λ (p : WasThere w entry n place).
      ⊎_elim
      (λ (q : WasThere w entry n other). both_were w w' entry n place other sound holds a b p q)
      (λ (q : NewThere entry n other). absurd (p.unwritten (writes_of entry n other q)))
      (origin w entry n other (items.come n other b)))
      (λ (p : NewThere entry n place).
      ⊎_elim
      (λ (q : WasThere w entry n other). absurd (q.unwritten (writes_of entry n place p)))
      (λ (q : NewThere entry n other). both_new entry n place other p q)
      (origin w entry n other (items.come n other b)))
      (origin w entry n place (items.come n place a))

  somewhere_still : (n : ℕ) → IsWritten w' n → IsOpen w' n → (place : Place) × IsAt w' n place
  somewhere_still n written opened =
      ⊎_elim
      (λ (t : IsWritten w n). let was = sound.somewhere n t (slots.was_open n t opened) in items.go n was.0 was.1 opened)
      (λ (t : WritesSlot n entry). let one = new n t in (one.place, one.there))
      (items.unwritten n written)

  open_still : (n : ℕ) (place : Place) → IsAt w' n place → IsOpen w' n
  open_still n place at =
      ⊎_elim
      (λ (t : WasThere w entry n place). slots.still_open n place at (sound.placed_open n t.other t.there))
      (λ (t : NewThere entry n place). (new n (writes_of entry n place t)).opened)
      (origin w entry n place (items.come n place at))

  pending_accepted : (n looper position : ℕ) (place : Place) → place ≡ pending looper position → IsAt w' n place → Accepts w' n (looper_of place) (position_of place)
  pending_accepted n looper position place is at =
      let there : IsAt w' n (pending looper position) = subst (λ (p : Place). IsAt w' n p) is at in
      subst (λ (p : Place). Accepts w' n (looper_of p) (position_of p)) (sym is) there.accepts

  -- the item of a place is that of the place where the slot was before, or it is new
  placed_still : (n : ℕ) (place : Place) → IsAt w' n place → Accepts w' n (looper_of place) (position_of place)
  placed_still n place at =
      ⊎_elim
      (λ (t : WasThere w entry n place).
      subst (λ (k : ℕ × ℕ). Accepts w' n k.0 k.1) (λ i. (t.same_looper i, t.same_position i))
      (items.accepted n (looper_of t.other) (position_of t.other) (sound.placed n t.other t.there)))
      (λ (t : NewThere entry n place). pending_accepted n t.looper t.position place t.is at)
      (origin w entry n place (items.come n place at))

  uncancelled_still : (n : ℕ) → IsWritten w' n → ¬ (HasStage w' n cancelled_stage)
  uncancelled_still n written cancelled =
      ⊎_elim
      (λ (t : IsWritten w n). slots.uncancelled n t cancelled)
      (λ (t : WritesSlot n entry). open_not_cancelled (one_stage w' n open_stage cancelled_stage (new n t).opened cancelled))
      (items.unwritten n written)

  opened_still : (n : ℕ) → IsWritten w' n → (stage : Stage) × HasStage w' n stage
  opened_still n written =
      ⊎_elim
      (λ (t : IsWritten w n). let was = sound.written_opened n t in slots.stage n was.0 was.1)
      (λ (t : WritesSlot n entry). (open_stage, (new n t).opened))
      (items.unwritten n written)

  pub kept_sound : IsSound w'
  kept_sound = record {
    somewhere = somewhere_still;
    once = once_still;
    placed_open = open_still;
    placed = placed_still;
    uncancelled = uncancelled_still;
    written_opened = opened_still;
    filled_written = λ n text has. written_on w entry w' items n (slots.filled n text has);
    taken_written = λ n has. written_on w entry w' items n (slots.taken n has);
    holds = items.holds;
  }
