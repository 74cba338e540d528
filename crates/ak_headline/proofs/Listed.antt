-- What a looper took is the beginning of what its port accepted: so the message that a turn dispatches is the one at its position.
use Rattle.std.proofs.Common.{◌≡◌, List, ◌++◌, Some, slice_get, ap, ◌∙◌, append_assoc}
use Rattle.ak_flatten.specs.declared.item.Taken.{Taken}
use Rattle.ak_port.specs.declared.port_entry.PortEntry.{PortEntry}
use Rattle.ak_port.specs.PortMachine.{written_in}
use Rattle.ak_port.specs.TakerLaws.{handed_at}
use Rattle.ak_desk.specs.Entry.{EntryData}
use Rattle.ak_diary.specs.Laws.{AcceptedIsDispatchedThenLeft, HasDiary}
use Rattle.ak_diary.specs.Looper.{LooperFacts, taken_in, thread_of}
use Rattle.ak_diary.specs.Step.{Step}
use Rattle.ak_diary.specs.Turns.{IsDispatch}
use Rattle.ak_diary.proofs.Surface.{IsNumbered, dispatch_listed, handed_both, handed_in, written_numbered}

-- each of the accepted messages is at its position, and they begin with those that these steps took
pub record Lists (l : LooperFacts) (accepted : List Taken) (work : List Step) : Type 0 where
  pub numbered : IsNumbered accepted
  pub rest : List Taken
  pub begins : accepted ≡ taken_in l work ++ rest

module _ (l : LooperFacts) (accepted : List Taken) where
  -- so they do with those that were taken before a turn
  pub lists_before : (so_far turn : List Step) → Lists l accepted (so_far ++ turn) → Lists l accepted so_far
  lists_before so_far turn lists = record {
    numbered = lists.numbered;
    rest = handed_in l.number turn ++ lists.rest;
    begins = lists.begins ∙ ap (λ k. k ++ lists.rest) (handed_both l.number so_far turn) ∙ append_assoc (taken_in l so_far) (handed_in l.number turn) lists.rest;
  }

  -- the message of a turn's dispatch is at its position
  pub listed_at : (so_far turn : List Step) → Lists l accepted so_far → (d : IsDispatch l so_far turn) → slice_get accepted d.taken.position ≡ Some d.taken
  listed_at so_far turn lists d = dispatch_listed l so_far turn accepted lists.rest lists.begins lists.numbered d

-- what the port of a looper accepted begins so, with what the looper took before the rest
pub lists_all : AcceptedIsDispatchedThenLeft → (l : LooperFacts) (steps : List Step) (port : List PortEntry) (desk : List EntryData) (has : HasDiary l steps port desk)
    → Lists l (written_in port) has.legal.work
lists_all all l steps port desk has = record {
  numbered = written_numbered (thread_of l) port has.port_legal;
  rest = handed_at has.legal.ends.noted;
  begins = (all l steps port desk has).took;
}
