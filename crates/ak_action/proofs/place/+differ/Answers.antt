use Rattle.std.proofs.Common.{sym, ◌∙◌, ap, arith, not}
use Rattle.ak_action.proofs.Fitting.{first_apart, rest_apart}
use Rattle.ak_action.proofs.place.+differ.Goals as goal

pub returns-then-not-contains-clause-apart : goal.returns-then-not-contains-clause-apart
returns-then-not-contains-clause-apart t c told =
    first_apart c.args.names.now c.name-item.result c.as_bytes.result.now c.contains.result (omega (arith, c.in-len1-up.len_at_least)) c.name-item.is c.as_bytes.ensures.value c.contains.ensures c.if-not-contains.true (c.differ.ensures.apart told)

pub returns-then-not-contains-clause-only : goal.returns-then-not-contains-clause-only
returns-then-not-contains-clause-only t c apart =
    c.differ.ensures.only
    (rest_apart c.args.names.now c.name-item.result c.as_bytes.result.now c.contains.result (omega (arith, c.in-len1-up.len_at_least)) c.name-item.is c.as_bytes.ensures.value c.contains.ensures apart).1

pub returns-else-not-contains-clause-only : goal.returns-else-not-contains-clause-only
returns-else-not-contains-clause-only t c apart =
    ap not
    (rest_apart c.args.names.now c.name-item.result c.as_bytes.result.now c.contains.result (omega (arith, c.in-len1-up.len_at_least)) c.name-item.is c.as_bytes.ensures.value c.contains.ensures apart).0
