-- A list that contracts alone see.
use Rattle.std.specs.Prelude.{List, [], ◌∷◌, ◌++◌}
use Rattle.ak_base.specs.declared.trail.Steps.{Steps}
use Rattle.ak_base.specs.declared.trail.Steps.TheVariants.{Start, More'}

abbrev pub items_of : {T : Type 0} → Steps T → List T
items_of Start = []
items_of (More' marker before x) = items_of before ++ x.value ∷ []
