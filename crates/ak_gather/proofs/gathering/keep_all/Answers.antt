-- At the end they are the ports and desks of all.
use Rattle.std.proofs.Common.{◌≡◌, List, [], subst, arith}
use Rattle.std.proofs.lemmas.Grind.{common_steps}
use Rattle.ak_gather.specs.declared.gathering.Joined.{Joined}
use Rattle.ak_gather.proofs.Books.{BooksFront, books_all}
use Rattle.ak_gather.proofs.gathering.keep_all.Goals as goal

pub returns : goal.returns
returns g c =
    let so_far = c.loop-looper in
    let none : so_far.looper-iterator.rest.items ≡ [] = grind (arith, common_steps) in
    books_all c.args.joined.items so_far.ports.items so_far.desks.items (subst (λ (rest : List Joined). BooksFront c.args.joined.items rest so_far.ports.items so_far.desks.items) none so_far.invariant.books)
