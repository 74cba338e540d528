-- A message's values are of their field's kind.
use Rattle.std.proofs.Common.{ap}
use Rattle.ak_value.specs.Access.{data_found}
use Rattle.ak_value.proofs.Bringing.{brought_kind}
use Rattle.ak_value.proofs.access.data_of.Goals as goal

pub returns-in-Ok : goal.returns-in-Ok
returns-in-Ok c =
    let found = ap data_found c.in-Ok.ensures in
    record {
      ok = found;
      same_kind = brought_kind c.args.kind c.args.m.now c.what-code.ensures.is_message _ found;
      err = tt;
    }
