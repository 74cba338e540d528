use Rattle.std.proofs.Common.{List, ℕ, ap, ◌++◌, ◌∙◌}
use Rattle.std.specs.Int.{w32, to_be_bytes}
use Rattle.ak_flatten.specs.Format.{magic}
use Rattle.ak_flatten.proofs.Writings.{three_pieces}
use Rattle.ak_flatten.proofs.writing.put_opening.Goals as goal

pub returns : goal.returns
returns c =
    three_pieces c.args.out.now c.extend.new.self c.extend-2.new.self c.extend-3.new.self magic (to_be_bytes w32 c.args.what.0) (to_be_bytes w32 c.args.count) c.in_ok-extend.ensures.ok (c.in_ok-extend-2.ensures.ok ∙ ap (λ (t : List ℕ). c.extend.new.self ++ t) c.to_be_bytes.ensures) (c.in_ok-extend-3.ensures.ok ∙ ap (λ (t : List ℕ). c.extend-2.new.self ++ t) c.to_be_bytes-2.ensures)
