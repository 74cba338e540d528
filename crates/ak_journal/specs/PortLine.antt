-- The words of what was done to a port.
use Rattle.std.specs.Prelude.{ℕ, List, [], ◌∷◌, codes}
use Rattle.std.specs.Fmt.{decimal}
use Rattle.ak_input.specs.MessageText.{target_text}
use Rattle.ak_flatten.specs.Item.{ItemData}
use Rattle.ak_port.specs.declared.port_entry.PortEvent.{PortEvent}
use Rattle.ak_port.specs.declared.port_entry.PortEvent.TheVariants as event
use Rattle.ak_journal.specs.Parts.{duty_text, flat_text, mark_text}

-- for whom it is, from which team, dropped or sent, what is owed, how much is popped, and the flat text
abbrev pub item_words : ItemData → List (List ℕ)
item_words item =
    target_text item.target ∷ decimal item.team ∷ mark_text item.dropped ∷ duty_text item.duty ∷ decimal item.popped ∷ flat_text item.flat ∷ []

abbrev pub port_words : PortEvent → List (List ℕ)
port_words (event.Made capacity life) = codes "made" ∷ decimal capacity ∷ decimal life ∷ []
port_words (event.Written position item) = codes "written" ∷ decimal position ∷ item_words item
port_words event.Full = codes "full" ∷ []
port_words event.Refused = codes "refused" ∷ []
port_words event.Spent = codes "spent" ∷ []
port_words (event.Took k) = codes "took" ∷ decimal k ∷ []
port_words (event.Rest k) = codes "rest" ∷ decimal k ∷ []
port_words event.Shut = codes "shut" ∷ []
