-- What goes to a looper's thread.
use Prim.Native.Nat.{ℕ}
use mathlib.Core.List.{[], ◌∷◌}
use mir.Syntax.{Sym, Ty}
use denote.Exit.{no}
use denote.RattleType.{RattleType}
use denote.Param.{param, arg}
use denote.Param.Send.{IsSend, sendable}
use denote.Struct.Tuple.{TupleAt}
use Rattle.std.proofs.Crossing.{crosses}

-- a closure over three things may go where each of them may
pub closure_send : (i : ℕ) (δ : Ty) (ν : Sym) (A B C : RattleType) → IsSend A → IsSend B → IsSend C → IsSend (param i (arg δ no (TupleAt ν (A ∷ B ∷ C ∷ []))))
closure_send i δ ν A B C a b c = search (sendable, crosses) depth 12
