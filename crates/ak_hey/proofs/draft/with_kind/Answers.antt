-- What the map had of the name, and what it has after it, as they are seen.
use Rattle.std.proofs.Common.{List, ℕ, Bor, sym, ap, ◌∙◌}
use Rattle.std.specs.Prelude.{map}
use Rattle.ak_message.specs.declared.kind.Kind.{Kind}
use Rattle.ak_hey.specs.Seen.{named_kind}
use Rattle.ak_hey.proofs.NamedKinds.{named_seen, with_seen}
use Rattle.ak_hey.proofs.draft.with_kind.Goals as goal

pub returns-clause-earlier : goal.returns-clause-earlier
returns-clause-earlier c = c.in_ok-earlier.ensures.old ∙ sym (named_seen c.args.kinds.entries c.args.name)

pub returns-clause-kinds : goal.returns-clause-kinds
returns-clause-kinds c =
    ap (λ (entries : List (Bor (List ℕ) × Kind)). map named_kind entries) c.in_ok-earlier.ensures.entries
    ∙ with_seen c.args.kinds.entries c.args.name c.args.kind
