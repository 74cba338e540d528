-- How many messages were dispatched, behind one that ended and behind an edit.
use Rattle.std.proofs.Common.{◌≡◌, ℕ, ◌+◌, List, Option, None, Some, IsSome, sym, ap, ◌∙◌}
use Rattle.ak_turn.specs.declared.clock.Clock.{Clock}
use Rattle.ak_desk.specs.declared.entry.Edit.{Edit}
use Rattle.ak_desk.specs.declared.entry.EditAnswer.{EditAnswer}
use Rattle.ak_desk.specs.declared.entry.EditAnswer.TheVariants as answered
use Rattle.ak_desk.specs.declared.entry.DeskEvent.TheVariants as event
use Rattle.ak_desk.specs.Desk.{BegunData, DeskData, DeskIsDone, HasAdded, OfBegun, edit_entry, ended, ended_by, ended_event, entry_after}
use Rattle.ak_desk.specs.Entry.{EntryData}
use Rattle.ak_desk.specs.Machine.{dispatches}
use Rattle.ak_desk.proofs.Surface.{counted_push}

module _ (d : DeskData) (clock : Clock) where
  one_more : (o : Option BegunData) → OfBegun (λ (b : BegunData). IsSome b.came) o → dispatches (ended_by d clock o).entries ≡ dispatches d.entries + 1
  one_more None done = absurd done
  one_more (Some b) done = counted_push 0 d.entries (entry_after d.entries clock (ended_event b) (Some b.item))

pub ended_counts : (d : DeskData) (clock : Clock) (d' : DeskData) (n : ℕ) → d' ≡ ended d clock → DeskIsDone d → n ≡ dispatches d.entries → n + 1 ≡ dispatches d'.entries
ended_counts d clock d' n e done is =
    ap (λ (k : ℕ). k + 1) is ∙ sym (one_more d clock d.begun done) ∙ ap (λ (x : DeskData). dispatches x.entries) (sym e)

module _ (clock clock' : Clock) (d d' : DeskData) (edit : Edit) where
  edit_counts : (a : EditAnswer) → HasAdded (Some (event.Edited edit a)) clock clock' d d' → dispatches d.entries ≡ dispatches d'.entries
  edit_counts a (grown, clocked) =
      sym (ap (λ (l : List EntryData). dispatches l) grown.1 ∙ counted_push 0 d.entries (entry_after d.entries clock (event.Edited edit a) None))

  edit_counts_by : (a : EditAnswer) → HasAdded (edit_entry edit a) clock clock' d d' → dispatches d.entries ≡ dispatches d'.entries
  edit_counts_by answered.NoMemory (same, clocked) = ap (λ (x : DeskData). dispatches x.entries) (sym same)
  edit_counts_by answered.Done added = edit_counts answered.Done added
  edit_counts_by (answered.Token token) added = edit_counts (answered.Token token) added
  edit_counts_by (answered.Refused fault) added = edit_counts (answered.Refused fault) added

pub edited_counts : (clock clock' : Clock) (d d' : DeskData) (edit : Edit) (a : EditAnswer) (n : ℕ) → HasAdded (edit_entry edit a) clock clock' d d' → n ≡ dispatches d.entries → n ≡ dispatches d'.entries
edited_counts clock clock' d d' edit a n added is = is ∙ edit_counts_by clock clock' d d' edit a added

pub ruleset counting = (ended_counts, edited_counts)
