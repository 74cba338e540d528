-- The entry of the post, at its own port or through the door.
use Rattle.std.proofs.Common.{◌∙◌, ℕ, refl, subst, sym}
use Rattle.ak_diary.specs.Wants.{PostsSo, owed_to, sent_item}
use Rattle.ak_looper.specs.Side.{SideDoes, side}
use Rattle.ak_looper.specs.Ways.{IsWay}
use Rattle.ak_looper.specs.declared.reach.Way.{Way}
use Rattle.ak_looper.proofs.Lifting.{door_does, own_does}
use Rattle.ak_looper.proofs.reach.Reach.post.Goals as goal

pub returns-in-Own-clause-goes : goal.returns-in-Own-clause-goes
returns-in-Own-clause-goes g c l start so_far was =
    let r = c.args.self.now in
    let done = c.post_there in
    let way = subst (λ (w : Way). IsWay c.args.to.looper w r) c.in-Own.is c.requires.way in
    own_does l start so_far r _ (record { number = refl; team = refl; first = refl; loopers = refl; roster_seat = refl }) was c.args.to.looper (PostsSo c.args.to c.args.message.now (sent_item l.team c.args.to (owed_to c.args.back) c.args.message.now) done.result) (sym was.number ∙ way) refl
    (subst (λ (team : ℕ). SideDoes c.args.to.looper (PostsSo c.args.to c.args.message.now (sent_item team c.args.to (owed_to c.args.back) c.args.message.now) done.result) (side r.hands.clock r.hands.book_seat r.port_seat) (side done.new.hands.clock done.new.hands.book_seat done.new.seat)) was.team done.ensures.does)

pub returns-in-Through-clause-goes : goal.returns-in-Through-clause-goes
returns-in-Through-clause-goes g c l start so_far was =
    let r = c.args.self.now in
    let done = c.post_there-in-Through in
    let way = subst (λ (w : Way). IsWay c.args.to.looper w r) c.in-Through.is c.requires.way in
    let door = c.index_mut.result.now in
    door_does l start so_far r _ (record { number = refl; team = refl; first = refl; loopers = refl; roster_seat = refl }) was c.args.to.looper (PostsSo c.args.to c.args.message.now (sent_item l.team c.args.to (owed_to c.args.back) c.args.message.now) done.result) c.in-Through.place door _ way.1 c.index_mut.ensures.value refl refl refl done.ensures.seat.lock refl
    (subst (λ (team : ℕ). SideDoes c.args.to.looper (PostsSo c.args.to c.args.message.now (sent_item team c.args.to (owed_to c.args.back) c.args.message.now) done.result) (side r.hands.clock r.hands.book_seat door.1.port_seat) (side done.new.hands.clock done.new.hands.book_seat done.new.seat)) was.team done.ensures.does)
