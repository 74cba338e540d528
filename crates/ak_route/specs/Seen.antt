-- What contracts see of the data of the steps.
use Rattle.ak_route.specs.declared.filtering.Origin as origin
use Rattle.ak_route.specs.declared.filtering.Passing as passing
use Rattle.ak_route.specs.declared.resolving.Destination as coded
use Rattle.ak_route.specs.declared.resolving.Destination.TheVariants as lead
use Rattle.ak_route.specs.declared.resolving.Step as coded_step
use Rattle.ak_route.specs.declared.resolving.Step.TheVariants as next
use Rattle.ak_route.specs.Filtering.{Origin, Passing}
use Rattle.ak_route.specs.Resolving.{Destination, at_handler, at_looper, nowhere, Step, stay, to_handler, to_looper, lost}

abbrev pub destination_of : coded.Destination → Destination
destination_of (lead.Handler token) = at_handler token
destination_of (lead.Looper place) = at_looper place
destination_of lead.Nowhere = nowhere

abbrev pub step_of : coded_step.Step → Step
step_of next.Stay = stay
step_of (next.ToHandler token) = to_handler token
step_of (next.ToLooper place) = to_looper place
step_of next.Lost = lost

abbrev pub origin_of : origin.Origin → Origin
origin_of o = record { local = o.local; dropped = o.dropped }

abbrev pub passing_of : passing.Passing → Passing
passing_of p = record { target = p.target; what = p.what.0 }
