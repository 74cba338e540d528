-- It served one, and can serve again.
use Rattle.std.specs.Prelude.{⊤}
use Rattle.std.proofs.lemmas.Option.{MatchOption-at_some}
use Rattle.uses_asks.specs.Serving.{CanServe, HasServed}
use Rattle.uses_asks.specs.declared.scene.TheConstants.{LOOPER}
use Rattle.uses_asks.specs.declared.serving.Served.{Served}
use Rattle.uses_asks.proofs.talking.serve_there.Goals as goal

pub returns : goal.returns
returns g c =
    let seats = c.serve_one.new in
    let told = c.in_ok-told.ensures in
    record {
      before = c.args.server.seat;
      served = MatchOption-at_some ⊤ (λ (s : Served). HasServed s.position s.slot s.reply seats.taker c.args.server.seat seats.seat seats.filler) c.in-Some.served c.in-Some.is told.served;
      again = MatchOption-at_some ⊤ (λ (s : Served). CanServe c.args.port.now c.args.desk.now c.args.book.now LOOPER seats.taker seats.seat seats.filler) c.in-Some.served c.in-Some.is told.again;
    }
