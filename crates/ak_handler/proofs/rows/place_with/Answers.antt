-- The row at the token's place has that token.
use Rattle.ak_handler.proofs.Halving.{place_here}
use Rattle.ak_handler.proofs.rows.place_with.Goals as goal

pub returns-then-stands_at : goal.returns-then-stands_at
returns-then-stands_at g c =
    let stands = c.stands_at.ensures c.if-stands_at.true in
    place_here c.args.rows.now c.args.token c.args.token c.requires stands.0 stands.1
