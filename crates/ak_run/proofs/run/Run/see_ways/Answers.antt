-- Door after door, what was seen so far stays seen.
use Rattle.std.proofs.Common.{ℕ, [], take, All, subst}
use Rattle.std.proofs.lemmas.List.{take_all}
use Rattle.std.proofs.lemmas.List.Elements.{All-more, All-nil, All-weaker}
use Rattle.ak_looper.specs.declared.door.Door.{Door}
use Rattle.ak_run.specs.Seen.{HasSeenThrough}
use Rattle.ak_run.proofs.Looks.{looked_itself, looked_then}
use Rattle.ak_run.proofs.Seen.{knows_by, through_further}
use Rattle.ak_run.proofs.run.Run.see_ways.Goals as goal

pub loop-door-init : goal.loop-door-init
loop-door-init g c = record {
  seen = All-nil (λ (door : ℕ × Door). HasSeenThrough door c.args.self.now);
  looked = looked_itself c.args.self.now;
  running = c.requires.running;
}

pub loop-door-preserved : goal.loop-door-preserved
loop-door-preserved g c =
    let r = c.args.self.now in
    let s = c.loop-door.self in
    let t = c.see_way.new.self in
    let was = c.loop-door.invariant in
    let one = c.see_way.ensures in
    let more = knows_by [] s t one.looked.did in
    let doors = c.args.doors.now in
    let so_far = take c.loop-door.door-index doors in
    let seen = λ (door : ℕ × Door). HasSeenThrough door t in
    record {
      seen = All-more seen doors c.loop-door.door-index c.door-item.result c.loop-door-test.true (All-weaker (λ (door : ℕ × Door). HasSeenThrough door s) seen (λ door. through_further s t door more) so_far was.seen)
          (subst seen c.door-item.is one.seen);
      looked = looked_then r s t was.looked one.looked;
      running = one.running;
    }

pub returns-clause-seen : goal.returns-clause-seen
returns-clause-seen g c =
    let w = c.loop-door.self in
    subst (All (λ (door : ℕ × Door). HasSeenThrough door w)) (take_all c.loop-door.door-index c.args.doors.now c.loop-door-test.false) c.loop-door.invariant.seen
