-- What the two threads told is put together.
use Rattle.std.specs.Prelude.{⊤}
use Rattle.std.proofs.lemmas.Option.{MatchOption-at_some}
use Rattle.uses_asks.specs.Serving.{HasServedThere}
use Rattle.uses_asks.specs.declared.scene.TheConstants.{LOOPER}
use Rattle.uses_asks.specs.declared.talking.Answered.{Answered}
use Rattle.uses_asks.proofs.talking.ask_and_serve.Goals as goal

pub gather-requires-clause-served : goal.gather-requires-clause-served
gather-requires-clause-served g c =
    MatchOption-at_some ⊤
    (λ (a : Answered). HasServedThere c.args.port.now c.args.desk.now c.args.book.now LOOPER a.served.position a.served.slot a.served.reply a.server.taker a.server.seat a.server.filler)
    c.in-Some.answered c.in-Some.is c.in_ok-asked.ensures.served

pub returns : goal.returns
returns g c = c.in_ok-talk.ensures _ c.in_ok-asked.ensures.asked
