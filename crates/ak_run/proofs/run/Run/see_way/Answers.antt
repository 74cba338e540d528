-- Main sees more of the port, and then of the desk.
use Rattle.std.proofs.Common.{[], arith}
use Rattle.ak_port.specs.PortCalls as at_ports
use Rattle.ak_run.specs.Recording.{fronts_of, list_at}
use Rattle.ak_run.proofs.Looks.{looked_then}
use Rattle.ak_run.proofs.Seen.{knows_by, no_shorter}
use Rattle.ak_run.proofs.run.Run.see_way.Goals as goal

pub returns : goal.returns
returns g c =
    let r = c.args.self.now in
    let door = c.args.door.now in
    let s = c.see_port.new.self in
    let t = c.see_desk.new.self in
    let more = knows_by [] s t c.see_desk.ensures.looked.did in
    record {
      seen = record {
        port = omega (arith, c.see_port.ensures.seen, c.seen-at_port.ensures, no_shorter at_ports.by_number at_ports.stamp_number (list_at (fronts_of s).ports door.0) (list_at (fronts_of t).ports door.0) (more.ports door.0));
        desk = omega (arith, c.see_desk.ensures.seen, c.seen-at_desk.ensures);
      };
      looked = looked_then r s t c.see_port.ensures.looked c.see_desk.ensures.looked;
      running = c.see_desk.ensures.running;
    }
