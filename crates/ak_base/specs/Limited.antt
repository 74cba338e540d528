-- What may pass a limit.
use Rattle.ak_base.specs.declared.limited.Limited.{Limited}
use Rattle.ak_base.specs.declared.limited.Limited.TheVariants.{Within, Over}

-- f of what is within the limits
abbrev pub limited_map : {A B : Type 0} → (A → B) → Limited A → Limited B
limited_map f (Within x) = Within (f x)
limited_map f Over = Over
