-- What contracts see of what is read: names as their bytes.
use Rattle.std.specs.Prelude.{ℕ, List, map}
use Rattle.std.specs.Borrow.{Bor}
use Rattle.ak_base.specs.declared.app_word.AppWord.{AppWord}
use Rattle.ak_base.specs.declared.limited.Limited.{Limited}
use Rattle.ak_base.specs.declared.limited.Limited.TheVariants.{Within}
use Rattle.ak_message.specs.declared.kind.Kind.{Kind}
use Rattle.ak_message.specs.Message.{MessageData}
use Rattle.indexmap.specs.IndexMap.{IndexMap}
use Rattle.ak_hey.specs.declared.HeyLine.{HeyLine}
use Rattle.ak_hey.specs.declared.draft.Draft.{Draft}
use Rattle.ak_hey.specs.declared.reading.Place.{Place}
use Rattle.ak_hey.specs.declared.reading.Reading.{Reading}
use Rattle.ak_hey.specs.declared.reading.Reading.TheVariants as reading
use Rattle.ak_hey.specs.Draft.{DraftData}
use Rattle.ak_hey.specs.Hey.{State, start, hey, at_app, body}

abbrev pub named_kind : Bor (List ℕ) × Kind → List ℕ × Kind
named_kind x = (x.0.now, x.1)

abbrev pub kinds_of : {S : Type 0} → IndexMap (Bor (List ℕ)) Kind S → List (List ℕ × Kind)
kinds_of kinds = map named_kind kinds.entries

abbrev pub draft_of : Draft → DraftData
draft_of d = record { kinds = kinds_of d.kinds; message = d.message }

abbrev pub place_and_draft : Place × Draft → Place × DraftData
place_and_draft x = (x.0, draft_of x.1)

abbrev pub state_of : Reading → State
state_of reading.Start = start
state_of reading.Hey = hey
state_of (reading.App app) = at_app app
state_of (reading.Body app place draft) = body app place (draft_of draft)

abbrev pub line_of : HeyLine → AppWord × Limited MessageData
line_of line = (line.app, Within line.message)
