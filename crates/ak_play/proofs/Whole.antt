-- What a script keeps of its applications, which says no more than that it is so.
use Rattle.std.specs.Prelude.{List, All}
use Rattle.std.proofs.Math.Logic.{∥∥₁_elim}
use Rattle.std.proofs.Props.{props}
use Rattle.ak_roster.specs.Heads.{IsHeads}
use Rattle.ak_describe.specs.declared.described.AppText.{AppText}
use Rattle.ak_describe.specs.Whole.{AreWholeApps, IsWholeApp, heads_of}

pub each_whole : (apps : List AppText) → ∥ AreWholeApps apps ∥₁ → All IsWholeApp apps
each_whole apps kept = ∥∥₁_elim kept (hlevel props) (λ (whole : AreWholeApps apps). whole.each)

pub heads_whole : (apps : List AppText) → ∥ AreWholeApps apps ∥₁ → IsHeads (heads_of apps)
heads_whole apps kept = ∥∥₁_elim kept (hlevel props) (λ (whole : AreWholeApps apps). whole.heads)
