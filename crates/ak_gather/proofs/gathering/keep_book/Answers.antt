-- What the lock tells of threads that were joined.
use Rattle.std.proofs.Common.{◌∙◌}
use Rattle.ak_port.specs.ReplySeats.{maker_of}
use Rattle.ak_gather.proofs.Knowing.{knows_all, named_all}
use Rattle.ak_gather.proofs.LastFronts.{ends_at_turn}
use Rattle.ak_gather.proofs.gathering.keep_book.Goals as goal

pub returns : goal.returns
returns g c =
    let turn = c.lock-turn.ensures in
    let list = c.keep-kept.ensures ∙ turn.list in
    record {
      legal = c.slots.ensures.legal;
      texts = c.slots.ensures.texts;
      known = knows_all maker_of c.args.seat c.lock-turn.new.seat c.keep-kept.result turn.seen turn.known list;
      named = λ names at. named_all maker_of c.args.seat c.lock-turn.new.seat c.keep-kept.result turn.seen turn.known list names at;
      ends = λ main. ends_at_turn maker_of c.args.seat c.lock-turn.new.seat c.keep-kept.result main turn.seen list;
    }
