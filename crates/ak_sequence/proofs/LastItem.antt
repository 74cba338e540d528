-- A slot is filled behind the dispatch of its last item, or behind the entry by which that item was left.
use Rattle.std.proofs.Common.{◌≡◌, ◌⊎◌, ℕ, ◌<◌, ◌≤◌, true, List, [], ◌∷◌, ◌++◌, All, Any, Some, ap, inl, inr, ⊎_elim, arith}
use Rattle.std.proofs.lemmas.List.Elements.{All-append, All-cons, All-nil, All-weaker}
use Rattle.ak_base.specs.Thread.{looper_thread}
use Rattle.ak_roster.specs.declared.head.AppHead.{AppHead}
use Rattle.ak_port.specs.declared.reply_entry.ReplyEvent.TheVariants as slot
use Rattle.ak_action.specs.declared.state.DeskState.{DeskState}
use Rattle.ak_journal.specs.declared.entry.Entry.{Entry}
use Rattle.ak_journal.specs.declared.entry.Event.TheVariants as event
use Rattle.ak_journal.specs.declared.entry.ObjectName.TheVariants as object
use Rattle.ak_world.specs.Merged.{thread_of}
use Rattle.ak_world.specs.World.{BookMove, Objects, PaysLeft, PaysOwed, World, WorldRun, first_world}
use Rattle.ak_sequence.specs.Places.{IsAt, IsOpen, IsSound, IsWritten, Place, left_over, looper_of, owed, position_of}
use Rattle.ak_sequence.specs.Worlds.{DispatchesAt, FillsBehind, FillsSlot, IsFilledBehindTheLast, OfWorlds, RestsAt, WritesSlot}
use Rattle.ak_sequence.proofs.Lots.{Holds, Lot, due, holds_of, is_at, lot, put_by}
use Rattle.ak_sequence.proofs.Moves.{held_within, left_was, paid_was}
use Rattle.ak_sequence.proofs.Keeping.{placed_written, written_on}
use Rattle.ak_sequence.proofs.Sound.{first_is_sound, keeps_by, steps_keep_sound}
use Rattle.ak_sequence.proofs.SoundAtBook.{not_open}
use Rattle.ak_sequence.proofs.Before.{dispatch_next}
use Rattle.ak_sequence.proofs.Order.{stays_passed}
use Rattle.ak_sequence.proofs.Parted.{Begun, begun, each_by, kept}
use Rattle.ak_sequence.proofs.StepsAt.{at_port, moves_as, works_as}
use Rattle.ak_sequence.proofs.Tracked.{Tracks, tracked}
use Rattle.ak_sequence.proofs.Resting.{none_dispatched, rested_on}

module _ (heads : List AppHead) (short : List ℕ) where
  -- ---- behind the fill no item that owes the slot is accepted: it is written, and open no more
  abbrev IsOver : ℕ → World → Type 0
  IsOver n w = IsWritten w n × (IsOpen w n → ⊥)

  none_written
      : (n : ℕ) (w : World) (entries : List Entry) (last : World) → IsSound w → WorldRun heads short w entries last → IsOver n w → All (λ (e : Entry). ¬ (WritesSlot n e)) entries
  none_written n w entries last sound run over =
      each_by heads short (IsOver n) (λ (e : Entry). ¬ (WritesSlot n e))
      (λ v e v' step safe now.
      let keeps = keeps_by heads short v e v' step safe in
      let closed : IsOpen v' n → ⊥ = λ (opened : IsOpen v' n). now.1 (keeps.slots.was_open n now.0 opened) in
      ((written_on v e v' keeps.items n now.0, closed), λ (writes : WritesSlot n e). closed (keeps.new n writes).opened))
      w entries last sound run over

  -- ---- what was dispatched has a position below the number of dispatches
  dispatched_below
      : (looper : ℕ) (w : World) (entries : List Entry) (last : World) → IsSound w → WorldRun heads short w entries last
      → All (λ (e : Entry). (place : ℕ) → DispatchesAt looper place e → place < (last.objects.desks looper).dispatched) entries
  dispatched_below looper w [] last sound run = All-nil (λ (e : Entry). (place : ℕ) → DispatchesAt looper place e → place < (last.objects.desks looper).dispatched)
  dispatched_below looper w (entry ∷ entries) last sound run =
      let next = steps_keep_sound heads short w entry run.0 run.1 sound in
      All-cons (λ (e : Entry). (place : ℕ) → DispatchesAt looper place e → place < (last.objects.desks looper).dispatched) entry entries
      (λ place dispatches.
      let one = dispatch_next heads short w entry run.0 run.1 sound looper place dispatches in
      let number = one.position_is in
      let more = one.after in
      kept heads short (λ (v : World). place < (v.objects.desks looper).dispatched) (λ v e v' step safe now. stays_passed heads short looper v e v' step place now)
      run.0 entries last next run.2 (omega arith))
      (dispatched_below looper run.0 entries last next run.2)

  -- ---- the fill
  module _
      (openings : ℕ → DeskState) (before : List Entry) (entry : Entry) (behind : List Entry) (last : World) (b : Begun heads short openings before entry behind last) (n : ℕ)
      (fills : FillsSlot n entry) where
    abbrev here : World
    here = b.parted.here

    move : BookMove here.objects (thread_of entry) (slot.Filled n fills.text) b.parted.next.objects
    move = moves_as heads short here entry b.parted.next b.parted.step object.Book (event.Book (slot.Filled n fills.text)) fills.at fills.is

    no_write : ¬ (WritesSlot n entry)
    no_write writes = let a = fills.is in let c = writes.writes.is in cc

    no_dispatch : (looper position : ℕ) → ¬ (DispatchesAt looper position entry)
    no_dispatch looper position dispatches = let a = fills.is in let c = dispatches.is in cc

    closed : IsOpen b.parted.next n → ⊥
    closed opened =
        not_open short here entry b.parted.next b.sound (thread_of entry) (slot.Filled n fills.text) fills.is move n fills.text
        (ap (λ (o : Objects). o.slots) move.after) move.step opened

    -- the place from which it is filled tells the last item
    behind_place
        : (place : Place) → IsAt here n place → thread_of entry ≡ looper_thread (looper_of place)
        → ((t : Tracks n before place)
        → Any (DispatchesAt (looper_of place) (position_of place)) t.since.between
        ⊎ (Any (RestsAt (looper_of place)) t.since.between × All (λ (e : Entry). ¬ (DispatchesAt (looper_of place) (position_of place) e)) (before ++ entry ∷ behind)))
        → FillsBehind n before entry behind
    behind_place place at by told =
        let t = tracked heads short openings before here b.parted.there n place at in
        let written : IsWritten b.parted.next n =
        written_on here entry b.parted.next (keeps_by heads short here entry b.parted.next b.parted.step b.sound).items n (placed_written here b.sound n place at) in
        record {
          looper = looper_of place;
          position = position_of place;
          item = t.since.item;
          earlier = t.since.earlier;
          write = t.since.write;
          between = t.since.between;
          there = t.since.there;
          writes = t.since.writes;
          owes = t.since.owes;
          last =
              All-append (λ (e : Entry). ¬ (WritesSlot n e)) t.since.between (entry ∷ behind) t.since.last
              (All-cons (λ (e : Entry). ¬ (WritesSlot n e)) entry behind no_write
              (none_written n b.parted.next behind last b.next_sound b.parted.on (written, closed)));
          by = by;
          due = told t;
        }

    behind_dispatch : PaysOwed short here (thread_of entry) n fills.text b.parted.next.works → FillsBehind n before entry behind
    behind_dispatch pays =
        let l : Lot = lot here pays.looper in
        let h : Holds l = holds_of here pays.looper (b.sound.holds pays.looper) in
        let was = paid_was l h n (Some pays.reply) pays.owes in
        behind_place (owed pays.looper was.0) (is_at here n pays.looper due was.0 was.1) pays.is_by (λ (t : Tracks n before (owed pays.looper was.0)). inl t.due)

    behind_rest : PaysLeft here (thread_of entry) n fills.text b.parted.next.works → FillsBehind n before entry behind
    behind_rest pays =
        let looper : ℕ = pays.looper in
        let position : ℕ = pays.one.taken.position in
        let l : Lot = lot here looper in
        let h : Holds l = holds_of here looper (b.sound.holds looper) in
        let was = left_was l h n pays.before pays.one pays.behind pays.left pays.owes in
        let low : l.dispatched ≤ position = (held_within l h n l.work.left position (h.left_over pays.rested).1 was).0 in
        let rested : (b.parted.next.objects.ports looper).rested ≡ true =
        rested_on here entry b.parted.next looper (at_port heads short here entry b.parted.next b.parted.step looper) pays.rested in
        let never : All (λ (e : Entry). ¬ (DispatchesAt looper position e)) (before ++ entry ∷ behind) =
        All-append (λ (e : Entry). ¬ (DispatchesAt looper position e)) before (entry ∷ behind)
        (All-weaker (λ (e : Entry). (place : ℕ) → DispatchesAt looper place e → place < l.dispatched) (λ (e : Entry). ¬ (DispatchesAt looper position e))
        (λ e below dispatches. let lt = below position dispatches in omega arith)
        before (dispatched_below looper (first_world openings) before here (first_is_sound openings) b.parted.there))
        (All-cons (λ (e : Entry). ¬ (DispatchesAt looper position e)) entry behind (no_dispatch looper position)
        (All-weaker (λ (e : Entry). (place : ℕ) → ¬ (DispatchesAt looper place e)) (λ (e : Entry). ¬ (DispatchesAt looper position e)) (λ e none. none position) behind
        (none_dispatched heads short looper b.parted.next behind last b.next_sound b.parted.on rested))) in
        behind_place (left_over looper position) (is_at here n looper put_by position was) pays.is_by (λ (t : Tracks n before (left_over looper position)). inr (t.due, never))

pub filled_behind_last : OfWorlds IsFilledBehindTheLast
filled_behind_last heads short openings entries last run before entry behind is n fills =
    let b = begun heads short openings entries last run before entry behind is in
    ⊎_elim
    (λ (t : PaysOwed short b.parted.here (thread_of entry) n fills.text b.parted.next.works). behind_dispatch heads short openings before entry behind last b n fills t)
    (λ (t : PaysLeft b.parted.here (thread_of entry) n fills.text b.parted.next.works). behind_rest heads short openings before entry behind last b n fills t)
    (works_as heads short b.parted.here entry b.parted.next b.parted.step object.Book (event.Book (slot.Filled n fills.text)) fills.at fills.is)
