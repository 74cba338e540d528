-- What a step of a world makes of one port, of one desk and of the slots, told by its entry.
use Rattle.std.proofs.Common.{◌≡◌, ◌≢◌, ◌∙◌, ℕ, ◌+◌, Bool, List, refl, sym, ap, subst, ⊎_elim}
use Rattle.std.proofs.lemmas.Bool.{cases_eq}
use Rattle.ak_base.specs.Thread.{looper_thread}
use Rattle.ak_roster.specs.declared.head.AppHead.{AppHead}
use Rattle.ak_port.specs.declared.port_entry.PortEvent.{PortEvent}
use Rattle.ak_port.specs.declared.reply_entry.ReplyEvent.{ReplyEvent}
use Rattle.ak_port.specs.PortMachine.{IsAllowed, state_after}
use Rattle.ak_port.specs.Reply.{BookStep, changed}
use Rattle.ak_action.specs.declared.answer.AnswerWord.{AnswerWord}
use Rattle.ak_desk.specs.declared.entry.DeskEvent.{DeskEvent}
use Rattle.ak_desk.specs.declared.entry.DeskEvent.TheVariants as desk_event
use Rattle.ak_desk.specs.declared.entry.EntryRoute.{EntryRoute}
use Rattle.ak_desk.specs.Machine.{counted}
use Rattle.ak_journal.specs.declared.entry.Entry.{Entry}
use Rattle.ak_journal.specs.declared.entry.Event.{Event}
use Rattle.ak_journal.specs.declared.entry.Event.TheVariants as event
use Rattle.ak_journal.specs.declared.entry.ObjectName.{ObjectName}
use Rattle.ak_journal.specs.declared.entry.ObjectName.TheVariants as object
use Rattle.ak_world.specs.Merged.{thread_of}
use Rattle.ak_world.specs.World.{DeskPlace, Moves, Objects, Works, World, WorldStep}
use Rattle.ak_sequence.proofs.Lots.{put_elsewhere, put_there}

-- ---- a port: nothing changes there, or an event does what it is to do
pub data AtPort (w : World) (entry : Entry) (w' : World) (looper : ℕ) : Type 0 where
  port_stays : w'.objects.ports looper ≡ w.objects.ports looper → AtPort w entry w' looper
  port_moves
      : (e : PortEvent) → entry.object ≡ object.Port looper → entry.event ≡ event.Port e → IsAllowed (looper_thread looper) (thread_of entry) (w.objects.ports looper) e
      → w'.objects.ports looper ≡ state_after (w.objects.ports looper) e → AtPort w entry w' looper

-- ---- a desk: as many messages were dispatched there as before, or one more
pub data AtDesk (w : World) (entry : Entry) (w' : World) (looper : ℕ) : Type 0 where
  desk_stays : (w'.objects.desks looper).dispatched ≡ (w.objects.desks looper).dispatched → AtDesk w entry w' looper
  desk_moves
      : (position : ℕ) (route : EntryRoute) (words : List AnswerWord) (quit : Bool) → entry.object ≡ object.Desk looper
      → entry.event ≡ event.Desk (desk_event.Dispatched position route words quit)
      → (w'.objects.desks looper).dispatched ≡ (w.objects.desks looper).dispatched + 1 → AtDesk w entry w' looper

-- ---- the slots
pub data AtBook (w : World) (entry : Entry) (w' : World) : Type 0 where
  book_stays : w'.objects.slots ≡ w.objects.slots → AtBook w entry w'
  book_moves
      : (e : ReplyEvent) → entry.object ≡ object.Book → entry.event ≡ event.Book e → BookStep w.objects.slots (thread_of entry) e
      → w'.objects.slots ≡ changed w.objects.slots (thread_of entry) e → AtBook w entry w'

module _ (heads : List AppHead) (short : List ℕ) (w : World) (entry : Entry) (w' : World) (step : WorldStep heads short w entry w') where
  -- ---- the step, where the entry's object and its event are known
  pub moves_as : (name : ObjectName) (e : Event) → entry.object ≡ name → entry.event ≡ e → Moves heads w.objects entry step.item name e w'.objects
  moves_as name e at is = subst (λ (t : ObjectName × Event). Moves heads w.objects entry step.item t.0 t.1 w'.objects) (λ i. (at i, is i)) step.object.moves

  pub works_as : (name : ObjectName) (e : Event) → entry.object ≡ name → entry.event ≡ e → Works short w (thread_of entry) step.item name e w'.works
  works_as name e at is = subst (λ (t : ObjectName × Event). Works short w (thread_of entry) step.item t.0 t.1 w'.works) (λ i. (at i, is i)) step.works

  -- ---- a port
  pub port_as : (looper : ℕ) (e : PortEvent) → entry.object ≡ object.Port looper → entry.event ≡ event.Port e → w'.objects.ports looper ≡ state_after (w.objects.ports looper) e
  port_as looper e at is =
      let move = moves_as (object.Port looper) (event.Port e) at is in
      ap (λ (o : Objects). o.ports looper) move.after ∙ put_there looper (state_after (w.objects.ports looper) e) w.objects.ports

  port_by : (looper : ℕ) (e : PortEvent) → entry.object ≡ object.Port looper → entry.event ≡ event.Port e → AtPort w entry w' looper
  port_by looper e at is = port_moves e at is (moves_as (object.Port looper) (event.Port e) at is).step.allowed (port_as looper e at is)

  port_at : (looper : ℕ) (name : ObjectName) (e : Event) → entry.object ≡ name → entry.event ≡ e → Moves heads w.objects entry step.item name e w'.objects → AtPort w entry w' looper
  port_at looper object.Roster (event.Roster e) at is move = port_stays (ap (λ (o : Objects). o.ports looper) move.after)
  port_at looper object.Book (event.Book e) at is move = port_stays (ap (λ (o : Objects). o.ports looper) move.after)
  port_at looper (object.Port number) (event.Port e) at is move =
      ⊎_elim
      (λ (same : looper ≡ number). port_by looper e (at ∙ ap (λ (k : ℕ). object.Port k) (sym same)) is)
      (λ (ne : looper ≢ number).
      port_stays (ap (λ (o : Objects). o.ports looper) move.after ∙ put_elsewhere number (state_after (w.objects.ports number) e) w.objects.ports looper ne))
      (cases_eq looper number)
  port_at looper (object.Desk number) (event.Desk e) at is move = port_stays (ap (λ (o : Objects). o.ports looper) move.after)
  port_at looper _ _ at is move = absurd move

  pub at_port : (looper : ℕ) → AtPort w entry w' looper
  at_port looper = port_at looper entry.object entry.event refl refl step.object.moves

  -- ---- a desk
  pub desk_by : (looper : ℕ) (e : DeskEvent) → entry.object ≡ object.Desk looper → entry.event ≡ event.Desk e → (w'.objects.desks looper).dispatched ≡ counted (w.objects.desks looper).dispatched e
  desk_by looper e at is =
      let move = moves_as (object.Desk looper) (event.Desk e) at is in
      ap (λ (o : Objects). (o.desks looper).dispatched) move.after
      ∙ ap (λ (d : DeskPlace). d.dispatched)
      (put_there looper (record { state = move.leaves; dispatched = counted (w.objects.desks looper).dispatched e }) w.objects.desks)

  desk_there : (looper : ℕ) (e : DeskEvent) → entry.object ≡ object.Desk looper → entry.event ≡ event.Desk e → AtDesk w entry w' looper
  desk_there looper (desk_event.Dispatched position route words quit) at is =
      desk_moves position route words quit at is (desk_by looper (desk_event.Dispatched position route words quit) at is)
  desk_there looper (desk_event.Edited edit answer) at is = desk_stays (desk_by looper (desk_event.Edited edit answer) at is)

  same_desks : (looper : ℕ) → w'.objects.desks ≡ w.objects.desks → AtDesk w entry w' looper
  same_desks looper same = desk_stays (ap (λ (f : ℕ → DeskPlace). (f looper).dispatched) same)

  desk_at : (looper : ℕ) (name : ObjectName) (e : Event) → entry.object ≡ name → entry.event ≡ e → Moves heads w.objects entry step.item name e w'.objects → AtDesk w entry w' looper
  desk_at looper object.Roster (event.Roster e) at is move = same_desks looper (ap (λ (o : Objects). o.desks) move.after)
  desk_at looper object.Book (event.Book e) at is move = same_desks looper (ap (λ (o : Objects). o.desks) move.after)
  desk_at looper (object.Port number) (event.Port e) at is move = same_desks looper (ap (λ (o : Objects). o.desks) move.after)
  desk_at looper (object.Desk number) (event.Desk e) at is move =
      ⊎_elim
      (λ (same : looper ≡ number). desk_there looper e (at ∙ ap (λ (k : ℕ). object.Desk k) (sym same)) is)
      (λ (ne : looper ≢ number).
      desk_stays
      (ap (λ (o : Objects). (o.desks looper).dispatched) move.after
      ∙ ap (λ (d : DeskPlace). d.dispatched)
      (put_elsewhere number (record { state = move.leaves; dispatched = counted (w.objects.desks number).dispatched e }) w.objects.desks looper ne)))
      (cases_eq looper number)
  desk_at looper _ _ at is move = absurd move

  pub at_desk : (looper : ℕ) → AtDesk w entry w' looper
  at_desk looper = desk_at looper entry.object entry.event refl refl step.object.moves

  -- ---- the slots
  book_at : (name : ObjectName) (e : Event) → entry.object ≡ name → entry.event ≡ e → Moves heads w.objects entry step.item name e w'.objects → AtBook w entry w'
  book_at object.Roster (event.Roster e) at is move = book_stays (ap (λ (o : Objects). o.slots) move.after)
  book_at object.Book (event.Book e) at is move = book_moves e at is move.step (ap (λ (o : Objects). o.slots) move.after)
  book_at (object.Port number) (event.Port e) at is move = book_stays (ap (λ (o : Objects). o.slots) move.after)
  book_at (object.Desk number) (event.Desk e) at is move = book_stays (ap (λ (o : Objects). o.slots) move.after)
  book_at _ _ at is move = absurd move

  pub at_book : AtBook w entry w'
  at_book = book_at entry.object entry.event refl refl step.object.moves
