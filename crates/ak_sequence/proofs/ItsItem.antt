-- A dispatch is of the item that the looper's port accepted at its position.
use Rattle.std.proofs.Common.{◌≡◌, ◌∙◌, ℕ, ◌+◌, List, [], ◌∷◌, map, take, Option, Some, sym, ap, arith}
use Rattle.std.specs.Prelude.{slice_get}
use Rattle.ak_flatten.specs.declared.item.Taken.{Taken}
use Rattle.ak_flatten.specs.Item.{ItemData}
use Rattle.ak_roster.specs.declared.head.AppHead.{AppHead}
use Rattle.ak_port.specs.PortMachine.{numbered}
use Rattle.ak_desk.specs.declared.entry.DeskEvent.{DeskEvent}
use Rattle.ak_desk.specs.declared.entry.DeskEvent.TheVariants as desk_event
use Rattle.ak_desk.specs.Machine.{paired}
use Rattle.ak_journal.specs.declared.entry.Entry.{Entry}
use Rattle.ak_journal.specs.declared.entry.Event.TheVariants as event
use Rattle.ak_journal.specs.declared.entry.ObjectName.TheVariants as object
use Rattle.ak_world.specs.World.{Held, IsItem, Work, WorkAtDesk, World, WorldStep}
use Rattle.ak_sequence.specs.Places.{IsSound, taken_of}
use Rattle.ak_sequence.specs.Worlds.{DispatchesAt, EachIsOfItsItem}
use Rattle.ak_sequence.proofs.Lots.{Holds, Lot, holds_of, lot, undispatched}
use Rattle.ak_sequence.proofs.Amid.{get_drop, get_take}
use Rattle.ak_sequence.proofs.Moves.{first_position, hand_order}
use Rattle.ak_sequence.proofs.Sound.{worlds_sound}
use Rattle.ak_sequence.proofs.Before.{accepted}
use Rattle.ak_sequence.proofs.StepsAt.{works_as}

-- the first of a numbered list is of its first item
first_item : (first : Held) (others : List Held) (number : ℕ) (items : List ItemData) → map taken_of (first ∷ others) ≡ numbered number items → slice_get items 0 ≡ Some first.taken.item
first_item first others number [] order = absurd (cc)
first_item first others number (item ∷ items) order =
    let head : first.taken ≡ record { position = number; item = item } = cc in
    ap (λ (t : Taken). Some t.item) (sym head)

-- the first in a looper's hand is the item that was written at its position
first_written
    : (l : Lot) → Holds l → (first : Held) (others : List Held) → l.work.hand ≡ first ∷ others → slice_get l.port.written first.taken.position ≡ Some first.taken.item
first_written l h first others oldest =
    let at : slice_get (take l.port.taken l.port.written) (l.dispatched + 0) ≡ Some first.taken.item =
    sym (get_drop l.dispatched 0 (take l.port.taken l.port.written)) ∙ first_item first others l.dispatched (undispatched l) (hand_order l h 0 first others oldest) in
    let number : first.taken.position ≡ l.dispatched = first_position l h 0 first others oldest in
    let there : first.taken.position ≡ l.dispatched + 0 = omega arith in
    ap (slice_get l.port.written) there ∙ get_take l.port.taken (l.dispatched + 0) l.port.written first.taken.item at

-- so a dispatch in a sound world is
pub item_of
    : (short : List ℕ) (w : World) → IsSound w → (looper : ℕ) (e : DeskEvent) (item : Option ItemData) (works : ℕ → Work) → WorkAtDesk short w looper e item works
    → IsItem (w.objects.ports looper) e item
item_of short w sound looper (desk_event.Dispatched position route words quit) item works does = (
  does.first.taken.item,
  ap (slice_get (w.objects.ports looper).written) does.position_is ∙ first_written (lot w looper) (holds_of w looper (sound.holds looper)) does.first does.others does.oldest,
  does.item_is,
)
item_of short w sound looper (desk_event.Edited edit answer) item works does = tt

dispatched_item
    : (heads : List AppHead) (short : List ℕ) (w : World) (entry : Entry) (w' : World) (step : WorldStep heads short w entry w') → IsSound w → (looper position : ℕ)
    → (at : DispatchesAt looper position entry) → (item : ItemData) × (step.item ≡ paired at.route item) × (slice_get (w.objects.ports looper).written position ≡ Some item)
dispatched_item heads short w entry w' step sound looper position dispatches =
    let e = desk_event.Dispatched position dispatches.route dispatches.words dispatches.quit in
    let works = works_as heads short w entry w' step (object.Desk looper) (event.Desk e) dispatches.at dispatches.is in (
      works.first.taken.item,
      works.item_is,
      ap (slice_get (w.objects.ports looper).written) works.position_is ∙ first_written (lot w looper) (holds_of w looper (sound.holds looper)) works.first works.others works.oldest,
    )

pub each_of_its_item : EachIsOfItsItem
each_of_its_item heads short openings before w run entry w' step looper position dispatches =
    let sound : IsSound w = worlds_sound heads short openings before w run in
    let it = dispatched_item heads short w entry w' step sound looper position dispatches in
    (it.0, it.1, it.2, accepted heads short openings before w run looper position it.0 it.2)
