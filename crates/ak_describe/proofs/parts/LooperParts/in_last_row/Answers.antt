-- The last handler is the one that the line is read in.
use Rattle.std.proofs.Common.{◌-◌, ◌<◌, List, length, map, vec_len, arith}
use Rattle.std.specs.Prelude.{slice_set}
use Rattle.std.proofs.lemmas.Grind.{common_steps}
use Rattle.ak_describe.specs.Parts.{RowData}
use Rattle.ak_describe.specs.Pass.{on_last, carry_in_row}
use Rattle.ak_describe.specs.Seen.{looper_data, row_data}
use Rattle.ak_describe.specs.Words.{texts}
use Rattle.ak_describe.proofs.ground.Changing.{leaves_last, keeps_last, leaves_inside, keeps_inside}
use Rattle.ak_describe.proofs.parts.LooperParts.in_last_row.Goals as goal

pub returns-clause-read : goal.returns-clause-read
returns-clause-read c =
    let there : 0 < length c.args.self.now.rows.items = grind (arith, common_steps) in
    leaves_inside (λ (xs : List RowData). record (looper_data c.args.self.now) { rows = xs }) c.carry.result (map row_data (slice_set c.args.self.now.rows.items (vec_len c.args.self.now.rows - 1) c.carry.new.self)) (on_last (λ (r : RowData). carry_in_row r c.args.keyword (texts c.args.words.now)) (map row_data c.args.self.now.rows.items))
    (leaves_last row_data (λ (r : RowData). carry_in_row r c.args.keyword (texts c.args.words.now)) c.args.self.now.rows.items (vec_len c.args.self.now.rows) c.in-Some.row.now c.carry.new.self c.carry.result c.args.self.now.rows.ok.0 there c.in-Some.ensures.value c.carry.ensures.read)

pub returns-clause-err : goal.returns-clause-err
returns-clause-err c =
    let there : 0 < length c.args.self.now.rows.items = grind (arith, common_steps) in
    keeps_inside (λ (xs : List RowData). record (looper_data c.args.self.now) { rows = xs }) (map row_data c.args.self.now.rows.items) (map row_data (slice_set c.args.self.now.rows.items (vec_len c.args.self.now.rows - 1) c.carry.new.self)) c.carry.result
    (keeps_last row_data c.args.self.now.rows.items (vec_len c.args.self.now.rows) c.in-Some.row.now c.carry.new.self c.carry.result c.args.self.now.rows.ok.0 there c.in-Some.ensures.value c.carry.ensures.err)
