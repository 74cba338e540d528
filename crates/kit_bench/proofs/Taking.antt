-- What lets a thread take stays so.
use Rattle.std.proofs.Common.{◌≡◌, ℕ, sym, subst}
use Rattle.ak_base.specs.declared.thread.ThreadId.{ThreadId}
use Rattle.ak_port.specs.declared.port_entry.TakeAnswer.{TakeAnswer}
use Rattle.ak_port.specs.declared.port_entry.TakeAnswer.TheVariants as answered
use Rattle.ak_port.specs.PortCalls.{CanTake, IfTook, PortSeat}

-- where its clock alone has gone on
pub can_stay : (t u : ThreadId) (room : ℕ) (a b : PortSeat) → CanTake t room a → u ≡ t → b ≡ a → CanTake u room b
can_stay t u room a b can same seat = subst (λ (x : ThreadId). CanTake x room b) (sym same) (subst (λ (s : PortSeat). CanTake t room s) (sym seat) can)

-- after a take it can take again, by the clock's thread as it is then
pub took_again : (answer : TakeAnswer) (t u : ThreadId) (room : ℕ) (b : PortSeat) → IfTook answer (λ _. CanTake t room b) → u ≡ t → IfTook answer (λ _. CanTake u room b)
took_again (answered.Took k) t u room b can same = subst (λ x. CanTake x room b) (sym same) can
took_again (answered.Rest k) t u room b can same = tt
