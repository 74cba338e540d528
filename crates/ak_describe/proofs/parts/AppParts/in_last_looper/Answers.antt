-- The last looper is the one that the line is read in.
use Rattle.std.proofs.Common.{◌-◌, ◌<◌, List, length, map, vec_len, arith}
use Rattle.std.specs.Prelude.{slice_set}
use Rattle.std.proofs.lemmas.Grind.{common_steps}
use Rattle.ak_describe.specs.Parts.{LooperData}
use Rattle.ak_describe.specs.Pass.{on_last, carry_in_looper}
use Rattle.ak_describe.specs.Seen.{app_data, looper_data}
use Rattle.ak_describe.specs.Words.{texts}
use Rattle.ak_describe.proofs.ground.Changing.{leaves_last, keeps_last, leaves_inside, keeps_inside}
use Rattle.ak_describe.proofs.parts.AppParts.in_last_looper.Goals as goal

pub returns-clause-read : goal.returns-clause-read
returns-clause-read c =
    let there : 0 < length c.args.self.now.loopers.items = grind (arith, common_steps) in
    leaves_inside (λ (xs : List LooperData). record (app_data c.args.self.now) { loopers = xs }) c.carry.result (map looper_data (slice_set c.args.self.now.loopers.items (vec_len c.args.self.now.loopers - 1) c.carry.new.self)) (on_last (λ (l : LooperData). carry_in_looper l c.args.keyword (texts c.args.words.now)) (map looper_data c.args.self.now.loopers.items))
    (leaves_last looper_data (λ (l : LooperData). carry_in_looper l c.args.keyword (texts c.args.words.now)) c.args.self.now.loopers.items (vec_len c.args.self.now.loopers) c.in-Some.looper.now c.carry.new.self c.carry.result c.args.self.now.loopers.ok.0 there c.in-Some.ensures.value c.carry.ensures.read)

pub returns-clause-err : goal.returns-clause-err
returns-clause-err c =
    let there : 0 < length c.args.self.now.loopers.items = grind (arith, common_steps) in
    keeps_inside (λ (xs : List LooperData). record (app_data c.args.self.now) { loopers = xs }) (map looper_data c.args.self.now.loopers.items) (map looper_data (slice_set c.args.self.now.loopers.items (vec_len c.args.self.now.loopers - 1) c.carry.new.self)) c.carry.result
    (keeps_last looper_data c.args.self.now.loopers.items (vec_len c.args.self.now.loopers) c.in-Some.looper.now c.carry.new.self c.carry.result c.args.self.now.loopers.ok.0 there c.in-Some.ensures.value c.carry.ensures.err)
