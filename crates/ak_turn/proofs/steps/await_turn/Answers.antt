use Rattle.std.proofs.Common.{arith, ap, sym, subst, ◌∙◌}
use Rattle.ak_turn.specs.Entries.{maker}
use Rattle.ak_turn.specs.Steps.{TakesTurn}
use Rattle.ak_turn.proofs.Looking.{looks}
use Rattle.ak_turn.proofs.steps.await_turn.Goals as goal

pub load-serving-requires : goal.load-serving-requires
load-serving-requires g c = let waits = c.requires.waits in (
  c.loop.invariant.of ∙ c.requires.of,
  omega (arith, c.requires.wide.0),
  looks _ _ _ _ _ _ _ waits.0 (ap (λ m. m.0.stage) c.loop.invariant.me ∙ waits.2) (ap (λ m. m.1) c.loop.invariant.me ∙ c.requires.empty),
)

pub returns-then-serving-mine-clause-takes : goal.returns-then-serving-mine-clause-takes
returns-then-serving-mine-clause-takes g c =
    let waits = c.requires.waits in
    let told = c.load-serving.ensures.2 waits.0 (ap (λ m. m.0.stage) c.loop.invariant.me ∙ waits.2) in (
      waits.0,
      subst (λ m. TakesTurn g.B.Book.opening g.B.Book.entries g.B.Book.at_rest (maker g.B.Book.plain g.B.Book.by) waits.0 m c.load-serving.new.seat.me) c.loop.invariant.me (told.0 (c.if-serving-mine.true ∙ waits.1)),
    )

pub loop-preserved : goal.loop-preserved
loop-preserved g c =
    let waits = c.requires.waits in
    let told = c.load-serving.ensures.2 waits.0 (ap (λ m. m.0.stage) c.loop.invariant.me ∙ waits.2) in record {
      of = c.load-serving.ensures.0 ∙ c.loop.invariant.of;
      me = told.1 (λ own. c.if-serving-mine.false (own ∙ sym waits.1)) ∙ c.loop.invariant.me;
    }
