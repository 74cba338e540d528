-- Each world of a run is sound: the first is, and each step keeps it so.
use Rattle.std.proofs.Common.{◌≡◌, ◌≢◌, ◌∙◌, ℕ, true, false, List, [], ◌∷◌, Option, refl, sym, ap, subst, ⊎_elim, arith}
use Rattle.std.proofs.lemmas.Bool.{both_ways, cases_eq}
use Rattle.ak_flatten.specs.Item.{ItemData}
use Rattle.ak_roster.specs.declared.head.AppHead.{AppHead}
use Rattle.ak_port.specs.declared.port_entry.PortEvent.{PortEvent}
use Rattle.ak_port.specs.declared.port_entry.PortEvent.TheVariants as port_event
use Rattle.ak_port.specs.PortMachine.{PortState, state_after}
use Rattle.ak_action.specs.declared.state.DeskState.{DeskState}
use Rattle.ak_desk.specs.Machine.{counted}
use Rattle.ak_journal.specs.declared.entry.Entry.{Entry}
use Rattle.ak_journal.specs.declared.entry.Event.{Event}
use Rattle.ak_journal.specs.declared.entry.Event.TheVariants as event
use Rattle.ak_journal.specs.declared.entry.ObjectName.{ObjectName}
use Rattle.ak_journal.specs.declared.entry.ObjectName.TheVariants as object
use Rattle.ak_world.specs.Merged.{thread_of}
use Rattle.ak_world.specs.World.{Moves, Objects, Works, World, WorldRun, WorldStep, first_world, put}
use Rattle.ak_sequence.specs.Places.{IsAt, IsSound, IsWritten, Place, in_hand, left_over, owed, pending}
use Rattle.ak_sequence.specs.Worlds.{FirstIsSound, ShutStaysShut, StepsKeepSound, WorldsAreSound, WritesSlot}
use Rattle.ak_sequence.proofs.Parts.{PlacesCome}
use Rattle.ak_sequence.proofs.Lots.{amid_of, changes_none, put_elsewhere, put_there}
use Rattle.ak_sequence.proofs.Keeping.{Keeps, kept_sound}
use Rattle.ak_sequence.proofs.Changing.{items_same}
use Rattle.ak_sequence.proofs.Slots.{slots_same}
use Rattle.ak_sequence.proofs.SoundAtBook.{keeps_at_book}
use Rattle.ak_sequence.proofs.SoundAtPorts.{keeps_at_port}
use Rattle.ak_sequence.proofs.SoundAtDesks.{keeps_at_desk}

-- ---- where nothing is launched
module _ (openings : ℕ → DeskState) where
  none_written : (n : ℕ) → IsWritten (first_world openings) n → ⊥
  none_written n written = let there = written.accepts.there in cc

  pub nowhere : (n : ℕ) (place : Place) → IsAt (first_world openings) n place → ⊥
  nowhere n (pending looper position) at = let there = at.accepts.there in cc
  nowhere n (in_hand looper position) at = amid_of [] n position at
  nowhere n (left_over looper position) at = amid_of [] n position at
  nowhere n (owed looper position) at = let owes = at.owes in cc

  first_sound : IsSound (first_world openings)
  first_sound = record {
    somewhere = λ n written opened. absurd (none_written n written);
    once = λ n place other a b. absurd (nowhere n place a);
    placed_open = λ n place at. absurd (nowhere n place at);
    placed = λ n place at. absurd (nowhere n place at);
    uncancelled = λ n written. absurd (none_written n written);
    written_opened = λ n written. absurd (none_written n written);
    filled_written = λ n text has. let there = has.1 in absurd (cc);
    taken_written = λ n has. let there = has.1 in absurd (cc);
    holds = λ looper. record {
      dispatched = omega arith;
      taken = omega arith;
      in_hand = λ is. (refl, refl);
      left_over = λ is. absurd (both_ways false refl is);
      shut = λ is. absurd (both_ways false refl is);
      owing = λ one is. absurd (cc);
    };
  }

pub first_is_sound : FirstIsSound
first_is_sound openings = first_sound openings

-- ---- each step
module _ (heads : List AppHead) (short : List ℕ) (w : World) (entry : Entry) (w' : World) (sound : IsSound w) (item : Option ItemData) where
  keeps_at
      : (name : ObjectName) (e : Event) → entry.object ≡ name → entry.event ≡ e → Moves heads w.objects entry item name e w'.objects → Works short w (thread_of entry) item name e w'.works
      → Keeps w entry w'
  keeps_at object.Roster (event.Roster e) at is move works =
      let none : (n : ℕ) → ¬ (WritesSlot n entry) = λ n writes. let written = writes.writes.is in cc in
      let c = changes_none w w' (ap (λ (o : Objects). o.ports) move.after) (ap (λ (o : Objects). o.desks) move.after) works in
      record {
        items = items_same w entry w' none sound c;
        slots = slots_same w w' sound (ap (λ (o : Objects). o.slots) move.after);
        new = λ n writes. absurd (none n writes);
      }
  keeps_at object.Book (event.Book e) at is move works = keeps_at_book short w entry w' sound (thread_of entry) e is move works
  keeps_at (object.Port looper) (event.Port e) at is move works =
      keeps_at_port w entry w' sound (thread_of entry) looper e at is
      (ap (λ (o : Objects). o.ports) move.after) (ap (λ (o : Objects). o.desks) move.after) (ap (λ (o : Objects). o.slots) move.after)
      move.step.allowed works
  keeps_at (object.Desk looper) (event.Desk e) at is move works =
      keeps_at_desk short w entry w' sound looper e item at is
      (record { state = move.leaves; dispatched = counted (w.objects.desks looper).dispatched e }) refl
      (ap (λ (o : Objects). o.ports) move.after) (ap (λ (o : Objects). o.desks) move.after) (ap (λ (o : Objects). o.slots) move.after)
      works
  keeps_at _ _ at is move works = absurd move

pub keeps_by : (heads : List AppHead) (short : List ℕ) (w : World) (entry : Entry) (w' : World) → WorldStep heads short w entry w' → IsSound w → Keeps w entry w'
keeps_by heads short w entry w' step sound = keeps_at heads short w entry w' sound step.item entry.object entry.event refl refl step.object.moves step.works

pub places_come : PlacesCome
places_come heads short w entry w' step sound n place at = (keeps_by heads short w entry w' step sound).items.come n place at

pub steps_keep_sound : StepsKeepSound
steps_keep_sound heads short w entry w' step sound = kept_sound w entry w' sound (keeps_by heads short w entry w' step sound)

-- ---- entry after entry
pub run_sound : (heads : List AppHead) (short : List ℕ) (w : World) (entries : List Entry) (last : World) → IsSound w → WorldRun heads short w entries last → IsSound last
run_sound heads short w [] last sound run = subst IsSound (sym run) sound
run_sound heads short w (entry ∷ entries) last sound run = run_sound heads short run.0 entries last (steps_keep_sound heads short w entry run.0 run.1 sound) run.2

pub worlds_sound : WorldsAreSound
worlds_sound heads short openings entries last run = run_sound heads short (first_world openings) entries last (first_is_sound openings) run

-- ---- a port that is shut stays so
shut_after : (s : PortState) (e : PortEvent) → s.shut ≡ true → (state_after s e).shut ≡ true
shut_after s (port_event.Made capacity life) shut = shut
shut_after s (port_event.Written position item) shut = shut
shut_after s port_event.Full shut = shut
shut_after s port_event.Refused shut = shut
shut_after s port_event.Spent shut = shut
shut_after s (port_event.Took count) shut = shut
shut_after s (port_event.Rest count) shut = shut
shut_after s port_event.Shut shut = refl

module _ (heads : List AppHead) (o : Objects) (entry : Entry) (o' : Objects) (item : Option ItemData) (looper : ℕ) (shut : (o.ports looper).shut ≡ true) where
  same_ports : o'.ports ≡ o.ports → (o'.ports looper).shut ≡ true
  same_ports same = ap (λ (f : ℕ → PortState). (f looper).shut) same ∙ shut

  shut_at : (name : ObjectName) (e : Event) → Moves heads o entry item name e o' → (o'.ports looper).shut ≡ true
  shut_at object.Roster (event.Roster e) move = same_ports (ap (λ (o : Objects). o.ports) move.after)
  shut_at object.Book (event.Book e) move = same_ports (ap (λ (o : Objects). o.ports) move.after)
  shut_at (object.Port number) (event.Port e) move =
      ap (λ (o : Objects). (o.ports looper).shut) move.after
      ∙ ⊎_elim
      (λ (same : looper ≡ number).
      ap (λ (k : ℕ). (put number (state_after (o.ports number) e) o.ports k).shut) same
      ∙ ap (λ (s : PortState). s.shut) (put_there number (state_after (o.ports number) e) o.ports)
      ∙ shut_after (o.ports number) e (ap (λ (k : ℕ). (o.ports k).shut) (sym same) ∙ shut))
      (λ (ne : looper ≢ number). ap (λ (s : PortState). s.shut) (put_elsewhere number (state_after (o.ports number) e) o.ports looper ne) ∙ shut)
      (cases_eq looper number)
  shut_at (object.Desk number) (event.Desk e) move = same_ports (ap (λ (o : Objects). o.ports) move.after)
  shut_at _ _ move = absurd move

pub shut_stays : ShutStaysShut
shut_stays heads short w w' entry step looper shut = shut_at heads w.objects entry w'.objects step.item looper shut entry.object entry.event step.object.moves
