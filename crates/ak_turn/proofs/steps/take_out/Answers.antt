use Rattle.std.proofs.Common.{ap, sym, ◌∙◌, ◌∷◌, Some}
use Rattle.atomic_table.specs.Table.{rest}
use Rattle.ak_turn.proofs.steps.take_out.Goals as goal

pub exchange-requires : goal.exchange-requires
exchange-requires g c = let has = c.requires.holds in (c.requires.of, (Some has.0, has.1 ∙ sym (ap (λ l. (0, Some has.0) ∷ rest l) has.1)))
