-- The handlers are those of the looper.
use Rattle.ak_desk.proofs.Accessing.{replied_so}
use Rattle.ak_desk.proofs.properties.property_replied.Goals as goal

pub returns-clause-ok : goal.returns-clause-ok
returns-clause-ok c =
    replied_so c.args.state.now c.args.token c.args.place c.args.m.now c.property_accessed.result c.property_accessed.new.handlers _ _ c.property_accessed.ensures.ok
