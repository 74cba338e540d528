-- Values that are noted one after another agree.
use Rattle.ak_hey.proofs.grammar.Agreeing.{one_kind_each}
use Rattle.ak_hey.proofs.laws.values_agree.Goals as goal

pub returns : goal.returns
returns c = one_kind_each
