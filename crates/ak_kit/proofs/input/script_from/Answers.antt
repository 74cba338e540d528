use Rattle.ak_kit.proofs.Reading.{same_script}
use Rattle.ak_kit.proofs.Scripts.{reads, refuses}
use Rattle.ak_kit.proofs.input.script_from.Goals as goal

pub returns-clause-refuses : goal.returns-clause-refuses
returns-clause-refuses g c = λ stayed input line why told refusal.
    let same = same_script input c.as_slice.result.now (g.S.Source.left c.args.source.now) (g.S.Source.left c.bytes_from.new.source) told (rw c.as_slice.ensures c.in_ok-input.ensures.read.given) (rw c.as_slice.ensures c.in_ok-input.ensures.read.whole) in
    refuses c.inputs_are_read.ensures.said c.inputs_are_read.ensures.refused c.script_in.result c.as_slice.result.now input line why same c.script_in.ensures.script c.script_in.ensures.fault refusal

pub returns-clause-complete : goal.returns-clause-complete
returns-clause-complete g c = λ stayed input script told text.
    let same = same_script input c.as_slice.result.now (g.S.Source.left c.args.source.now) (g.S.Source.left c.bytes_from.new.source) told (rw c.as_slice.ensures c.in_ok-input.ensures.read.given) (rw c.as_slice.ensures c.in_ok-input.ensures.read.whole) in
    reads c.inputs_are_read.ensures.said c.inputs_are_read.ensures.refused c.script_in.result c.as_slice.result.now input script same c.script_in.ensures.fault text
