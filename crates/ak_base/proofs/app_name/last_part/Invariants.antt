-- What is left has the last part if it has a slash; otherwise it is the part found so far.
use Rattle.std.proofs.Common.{◌≡◌, length}
use Rattle.std.specs.Prelude.{if◌then◌else◌}
use Rattle.std.specs.List.{list_any}
use Rattle.ak_base.specs.AppName.{is_slash, last_part}
use Rattle.ak_base.proofs.app_name.last_part.Given as goal

abbrev pub invariant-loop-byte : goal.invariant-loop-byte
invariant-loop-byte l = (if list_any is_slash l.rest then last_part l.rest else l.part) ≡ last_part l.path

abbrev pub decreases-loop-byte : goal.decreases-loop-byte
decreases-loop-byte l = length l.rest
