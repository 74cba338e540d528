use Rattle.std.proofs.Common.{rules, ◌≡◌, ◌∷◌, [], Some, ◌<◌, ◌^◌, subst}
use Rattle.ak_turn.proofs.Starting.{starts}
use Rattle.ak_turn.proofs.lock.TurnLock.new.Goals as goal

pub new-requires : goal.new-requires
new-requires g c =
    let items : c.push.new.self.items ≡ Some c.args.book ∷ [] = search rules in
    let book : c.of.result.value ≡ c.args.book = search rules in
    let number : c.number_of.result ≡ c.args.thread.0 = c.number_of.ensures in
    rw (items, book, number) (starts _ _ _ _ c.args.book c.args.thread.0 c.len-seen.result c.requires.rest c.requires.own (subst (λ n. n < 2 ^ 32) number c.number_of.type_inv) c.len-seen.type_inv c.len-seen.ensures)
