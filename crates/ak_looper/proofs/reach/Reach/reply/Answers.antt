-- The entry of the write, at its own port or through the door.
use Rattle.std.proofs.Common.{◌∙◌, refl, subst, sym}
use Rattle.ak_looper.specs.Heard.{RepliedSo}
use Rattle.ak_looper.specs.Ways.{IsWay}
use Rattle.ak_looper.specs.declared.reach.Way.{Way}
use Rattle.ak_looper.proofs.Lifting.{door_does, own_does}
use Rattle.ak_looper.proofs.reach.Reach.reply.Goals as goal

pub returns-in-Own-clause-goes : goal.returns-in-Own-clause-goes
returns-in-Own-clause-goes g c l start so_far was =
    let r = c.args.self.now in
    let done = c.reply_there in
    let way = subst (λ (w : Way). IsWay c.args.looper w r) c.in-Own.is c.requires.way in
    own_does l start so_far r _ (record { number = refl; team = refl; first = refl; loopers = refl; roster_seat = refl }) was c.args.looper (RepliedSo c.args.looper c.args.item done.result) (sym was.number ∙ way) refl
    (done.ensures.does c.args.looper)

pub returns-in-Through-clause-goes : goal.returns-in-Through-clause-goes
returns-in-Through-clause-goes g c l start so_far was =
    let r = c.args.self.now in
    let done = c.reply_there-in-Through in
    let way = subst (λ (w : Way). IsWay c.args.looper w r) c.in-Through.is c.requires.way in
    let door = c.index_mut.result.now in
    door_does l start so_far r _ (record { number = refl; team = refl; first = refl; loopers = refl; roster_seat = refl }) was c.args.looper (RepliedSo c.args.looper c.args.item done.result) c.in-Through.place door _ way.1 c.index_mut.ensures.value refl refl refl done.ensures.seat.lock refl
    (done.ensures.does c.args.looper)
