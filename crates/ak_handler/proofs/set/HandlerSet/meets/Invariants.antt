-- The rest of the chain meets the handler if the whole chain does.
use Rattle.std.proofs.Common.{◌≡◌, ◌==◌, ◌-◌, length}
use Rattle.std.specs.List.{list_any}
use Rattle.ak_handler.specs.Handlers.{chain_from, chain_of}
use Rattle.ak_handler.proofs.set.HandlerSet.meets.Given as goal

abbrev pub invariant-loop : goal.invariant-loop
invariant-loop g l =
    list_any (λ t. t == l.token) (chain_from l.self.list l.fn.from) ≡ list_any (λ t. t == l.token) (chain_of l.self.list (length l.self.list - l.counter) l.at)
