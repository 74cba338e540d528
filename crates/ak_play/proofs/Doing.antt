-- What main does by one call of a statement.
use Rattle.std.proofs.Common.{List, [], refl}
use Rattle.ak_diary.specs.Step.{Step}
use Rattle.ak_run.specs.declared.run.Run.{Run}
use Rattle.ak_run.specs.Doing.{DoesSo}
use Rattle.ak_run.proofs.Surface.{does_same}

pub nothing_so : (P : List Step → Type 0) (r : Run) → P [] → DoesSo P r r
nothing_so P r so = does_same P r r so refl refl refl refl

pub does_as : (P Q : List Step → Type 0) (a b : Run) → ((steps : List Step) → P steps → Q steps) → DoesSo P a b → DoesSo Q a b
does_as P Q a b becomes does = record { steps = does.steps; so = becomes does.steps does.so; does = does.does }
