-- The next seat has a new name, and with it all names are below the next number.
use Rattle.std.proofs.Common.{◌+◌, All, refl, ap, sym, subst, ◌∙◌}
use Rattle.std.proofs.lemmas.List.Elements.{All-push}
use Rattle.kit_bench.specs.Turns.{AreNamesBelow, IsReady}
use Rattle.kit_bench.specs.declared.turns.Worker.{Worker}
use Rattle.kit_bench.proofs.Naming.{names_go_on}
use Rattle.kit_bench.proofs.turns.workers.Goals as goal

pub loop-place-preserved : goal.loop-place-preserved
loop-place-preserved c =
    let before = c.loop-place.invariant in
    let split = c.split.ensures in record {
      at = record { of = ap (λ s. s.lock) split.old ∙ before.at.of; idle = ap (λ s. s.turn) split.old ∙ before.at.idle };
      names = subst (AreNamesBelow (c.loop-place.place + 1 + 1)) (sym (ap (λ s. s.names) split.old)) (names_go_on (c.loop-place.place + 1) c.loop-place.seat.names before.names);
      ready = let P : Worker → Type 0 = λ worker. IsReady c.args.lock.now worker.thread.0 worker.seat in
          subst (All P) (sym c.in_ok-push.ensures.items)
          (All-push P c.loop-place.workers.items _ before.ready (subst (IsReady c.args.lock.now (c.loop-place.place + 1)) (sym split.new) (record { of = before.at.of; idle = refl; is = refl; unused = refl })));
    }
