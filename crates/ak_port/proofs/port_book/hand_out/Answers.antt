use Rattle.std.proofs.Common.{◌+◌, ◌<◌, length, drop, ap, ◌∙◌, arith}
use Rattle.std.proofs.lemmas.List.{drop-drop}
use Rattle.ak_port.proofs.PortItems.{handed_on}
use Rattle.ak_port.proofs.port_book.hand_out.Goals as goal

pub loop-k-preserved : goal.loop-k-preserved
loop-k-preserved c =
    let one = c.hand_one.ensures in
    let so_far = c.loop-k.invariant in
    let all = c.args.pending.now.items in
    let there : c.loop-k.k < length all = omega arith in
    record {
      pending = one.pending ∙ ap (drop 1) so_far.pending ∙ drop-drop 1 c.loop-k.k all;
      pending_len = omega arith;
      pending_room = one.pending_room ∙ so_far.pending_room;
      out = handed_on c.args.out.now.items _ _ c.args.first c.loop-k.k _ all _ so_far.out so_far.pending (ap (λ n. c.args.first + n) c.from.ensures) there one.out;
      out_len = omega arith;
      out_room = one.out_room ∙ so_far.out_room;
    }
