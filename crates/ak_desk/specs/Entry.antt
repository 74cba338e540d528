-- An entry of a desk's list.
use Rattle.std.specs.Prelude.{Option, option_map, refl}
use Rattle.std.specs.Coded.{Coded, code_by, coded×, coded_option}
use Rattle.ak_flatten.specs.Item.{ItemData, coded_item}
use Rattle.ak_desk.specs.contracts.entry.DeskEntry as desk_entry
use Rattle.ak_desk.specs.declared.entry.DeskEntry.{DeskEntry}
use Rattle.ak_desk.specs.declared.entry.EntryWithItem.TheInside.{Inside}

pub record EntryData : Type 0 where
  -- what the journal shows of it
  pub plain : DeskEntry
  -- of a dispatch the message that it was of; none of one that there was no memory to begin with, and none of an edit
  pub item : Option ItemData

abbrev pub entry_inside : Inside → EntryData
entry_inside entry = record { plain = entry.plain; item = option_map (λ x. x.value) entry.item }

abbrev pub coded_entry : Coded EntryData
coded_entry =
    code_by (DeskEntry × Option ItemData) (coded× desk_entry.the_row.coded (coded_option coded_item)) (λ l. (l.plain, l.item))
    (λ p. record { plain = p.0; item = p.1 })
    (λ _. refl)
