use Rattle.std.proofs.Common.{Err, refl}
use Rattle.ak_base.specs.declared.no_memory.NoMemory.{NoMemory}
use Rattle.ak_lines.specs.Blocks.{IsNothing}
use Rattle.ak_play.specs.Came.{IsLocked, MayCome}
use Rattle.ak_play.proofs.Doing.{nothing_so}
use Rattle.ak_play.proofs.locking.edit_looper.Goals as goal

pub returns-in_default-clause-did : goal.returns-in_default-clause-did
returns-in_default-clause-did g c = nothing_so (MayCome {E = NoMemory} (IsLocked c.args.lock.now c.args.looper) IsNothing (Err (record {}))) c.args.run.now refl
