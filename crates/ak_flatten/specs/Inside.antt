-- What contracts see of an item, and what is true of its parts.
use Rattle.ak_flatten.specs.declared.item.Item.TheInside.{Inside}
use Rattle.ak_flatten.specs.Item.{ItemData, IsItem}

abbrev pub item_inside : Inside → ItemData
item_inside i =
    record { target = i.target; team = i.team; dropped = i.dropped; duty = i.duty; popped = i.popped; flat = i.flat }

abbrev pub IsSound : Inside → Type 0
IsSound i = IsItem (item_inside i)
