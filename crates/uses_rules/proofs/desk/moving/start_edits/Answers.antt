-- A copy of the handle, and the desk behind its lock with a seat, may go to the thread.
use Prim.Native.Nat.{ℕ}
use mathlib.Core.List.{[], ◌∷◌}
use mir.Syntax.{Sym, Ty}
use denote.Exit.{no}
use denote.RattleType.{RattleType}
use denote.Param.{param, arg}
use denote.Struct.Tuple.{TupleAt}
use denote.Param.Send.{IsSend, sendable}
use Rattle.std.proofs.Crossing.{crosses}
use Rattle.ak_turn.proofs.lock.TurnLock.TheSendSync as TurnLock'
use Rattle.ak_turn.proofs.seat.Seat.TheSendSync as Seat'
use Rattle.ak_desk.proofs.Surface.{Desk-send}
use Rattle.uses_rules.specs.contracts.desk.moving.Job as Job
use Rattle.uses_rules.proofs.desk.moving.start_edits.Goals as goal

Job-send : IsSend Job.the_row
Job-send = search (Desk-send, TurnLock'.the_send, TurnLock'.the_sync, Seat'.the_send, sendable, crosses) depth 24 fits 6000

-- a closure over two things
closure_send : (i : ℕ) (δ : Ty) (ν : Sym) (A B : RattleType) → IsSend A → IsSend B → IsSend (param i (arg δ no (TupleAt ν (A ∷ B ∷ []))))
closure_send i δ ν A B a b = search (sendable, crosses) depth 12

pub spawn-requires-send-F : goal.spawn-requires-send-F
spawn-requires-send-F g c κs within = closure_send _ _ _ _ _ c.type_bounds.send-R Job-send
