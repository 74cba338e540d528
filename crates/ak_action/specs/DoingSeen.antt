-- What contracts see of what an action does, as the code holds it.
use Rattle.ak_message.specs.Seen.{value_of}
use Rattle.ak_action.specs.declared.doing.Doing as code
use Rattle.ak_action.specs.declared.doing.Doing.TheVariants as d
use Rattle.ak_action.specs.Doing.{Doing, says, replies, puts, sends, finds, stops, quits}

abbrev pub doing_seen : code.Doing → Doing
doing_seen (d.Says e) = says e
doing_seen (d.Replies m) = replies m
doing_seen (d.Puts place value) = puts place (value_of value)
doing_seen (d.Sends to how m) = sends to how m
doing_seen (d.Finds w how m) = finds w how m
doing_seen d.Stops = stops
doing_seen d.Quits = quits
