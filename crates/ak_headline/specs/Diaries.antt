-- What the diaries of a run's threads tell of each slot.
use Rattle.std.specs.Prelude.{ℕ, List, []}
use Rattle.ak_port.specs.declared.port_entry.PortEntry.{PortEntry}
use Rattle.ak_port.specs.PortMachine.{written_in}
use Rattle.ak_desk.specs.Entry.{EntryData}
use Rattle.ak_diary.specs.Laws.{HasDiary, left_in}
use Rattle.ak_diary.specs.Looper.{LooperFacts}
use Rattle.ak_diary.specs.Step.{Step}
use Rattle.ak_headline.specs.Main.{IsMainDiary, IsSessionDiary}
use Rattle.ak_headline.specs.Sends.{SendsSo}
use Rattle.ak_headline.specs.Tally.{PaysByRule, SendsUp, Tally}

-- a looper's thread asked, sent on, filled and took as its desk's list and the items that it left say
abbrev pub LoopersTally : Type 0
LoopersTally = (l : LooperFacts) (steps : List Step) (port : List PortEntry) (desk : List EntryData) (has : HasDiary l steps port desk) (n : ℕ) → Tally n (written_in port) desk (left_in l steps has.legal) steps

-- what it sent on went to loopers of greater numbers
abbrev pub LoopersSendUp : Type 0
LoopersSendUp = (l : LooperFacts) (steps : List Step) (port : List PortEntry) (desk : List EntryData) → HasDiary l steps port desk → (n : ℕ) → SendsUp n l.number desk steps

-- each item that it wrote for which someone waits it asked, or sent on
abbrev pub LoopersSendSo : Type 0
LoopersSendSo = (l : LooperFacts) (steps : List Step) (port : List PortEntry) (desk : List EntryData) → HasDiary l steps port desk → (n : ℕ) → SendsSo n l.number desk steps

-- each slot that it filled it filled as the rules say
abbrev pub LoopersPay : Type 0
LoopersPay = (l : LooperFacts) (steps : List Step) (port : List PortEntry) (desk : List EntryData) (has : HasDiary l steps port desk) → PaysByRule l.desk (written_in port) desk (left_in l steps has.legal) steps

-- main asked and took, and neither sent on nor filled
abbrev pub MainTallies : Type 0
MainTallies = (steps : List Step) → IsMainDiary steps → (n : ℕ) → Tally n [] [] [] steps

-- each item that it wrote for which someone waits it asked
abbrev pub MainAsksSo : Type 0
MainAsksSo = (steps : List Step) → IsMainDiary steps → (n : ℕ) → SendsSo n 0 [] steps

-- and so did each session
abbrev pub SessionsTally : Type 0
SessionsTally = (steps : List Step) → IsSessionDiary steps → (n : ℕ) → Tally n [] [] [] steps

abbrev pub SessionsAskSo : Type 0
SessionsAskSo = (steps : List Step) → IsSessionDiary steps → (n : ℕ) → SendsSo n 0 [] steps
