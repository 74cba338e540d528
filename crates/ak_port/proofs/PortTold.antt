-- What a taker noted of its own entries tells all that was taken.
use Rattle.std.proofs.Common.{◌≡◌, ◌≢◌, ℕ, List, [], ◌∷◌, ◌++◌, take, cond, eq-eqb, ne_eqb, refl, sym, ap, ◌∙◌}
use Rattle.std.proofs.lemmas.List.{length-take-le}
use mathlib.Core.Logic.{dite}
use native.Mathlib.Decide.{ℕ_discrete}
use Rattle.ak_flatten.specs.declared.item.Taken.{Taken}
use Rattle.ak_turn.specs.Noted.{Noted, note, noted_from}
use Rattle.ak_port.specs.declared.port_entry.PortEntry.{PortEntry}
use Rattle.ak_port.specs.declared.port_entry.PortEvent.{PortEvent}
use Rattle.ak_port.specs.declared.port_entry.PortEvent.TheVariants as event
use Rattle.ak_port.specs.PortCalls.{by_number}
use Rattle.ak_port.specs.PortMachine.{PortState, AreSteps, IsAllowed, handed_from, handed_out, state_after, state_of}
use Rattle.ak_port.specs.TakerLaws.{TakenAreCounted, TakesAreTold, handed_by}
use Rattle.ak_port.proofs.PortItems.{length-numbered, oldest_first}
use Rattle.ak_port.proofs.PortLimits.{within_limits}
use Rattle.ak_port.proofs.PortReplays.{state_of-push}

-- another thread is handed nothing
none_handed : (taker by : ℕ) (s : PortState) (e : PortEvent) → by ≢ taker → IsAllowed taker by s e → handed_out s e ≡ []
none_handed taker by s (event.Made capacity life) other allowed = refl
none_handed taker by s (event.Written p item) other allowed = refl
none_handed taker by s event.Full other allowed = refl
none_handed taker by s event.Refused other allowed = refl
none_handed taker by s event.Spent other allowed = refl
none_handed taker by s (event.Took k) other allowed = absurd (other allowed.0)
none_handed taker by s (event.Rest k) other allowed = absurd (other allowed.0)
none_handed taker by s event.Shut other allowed = refl

told_from : (taker : ℕ) (before : List PortEntry) (s : PortState) (xs : List PortEntry) → s ≡ state_of before → AreSteps taker s xs → handed_by (noted_from by_number taker before xs) ≡ handed_from s xs
told_from taker before s [] is steps = refl
told_from taker before s (x ∷ xs) is steps =
    let on : state_after s x.event ≡ state_of (before ++ x ∷ []) = ap (λ t. state_after t x.event) is ∙ sym (state_of-push before x) in
    let others : List (Noted PortEntry) = noted_from by_number taker (before ++ x ∷ []) xs in
    let rest = told_from taker (before ++ x ∷ []) (state_after s x.event) xs on steps.1 in
    dite (ℕ_discrete (by_number x) taker)
    (λ own. ap (λ b. handed_by (cond b (note before x ∷ others) others)) (eq-eqb (by_number x) taker own)
    ∙ ap (λ t. handed_out t x.event ++ handed_by others) (sym is)
    ∙ ap (λ l. handed_out s x.event ++ l) rest)
    (λ other. ap (λ b. handed_by (cond b (note before x ∷ others) others)) (ne_eqb (by_number x) taker other) ∙ rest
    ∙ ap (λ (l : List Taken). l ++ handed_from (state_after s x.event) xs) (sym (none_handed taker (by_number x) s x.event other steps.0.allowed)))

pub takes_are_told : TakesAreTold
takes_are_told taker xs port = told_from taker [] (state_of []) xs refl port.steps ∙ oldest_first taker xs port

pub taken_are_counted : TakenAreCounted
taken_are_counted taker xs port =
    length-numbered 0 (take (state_of xs).taken (state_of xs).written) ∙ length-take-le (state_of xs).taken (state_of xs).written (within_limits taker xs port).taken
