use Rattle.ak_route.proofs.Mapped.{target_after-seen}
use Rattle.ak_route.proofs.filtering.target_after.Goals as goal

-- by the name that is there
pub returns-in-Some : goal.returns-in-Some
returns-in-Some g c =
    rw (c.in-Some.is, target_after-seen g.R.HandlerRow.told c.args.set.now c.in-Some.name c.args.target, ← c.by_name.ensures) c.unwrap_or.ensures
