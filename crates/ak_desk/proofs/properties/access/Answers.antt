-- What is refused is told.
use Rattle.std.proofs.Common.{◌≡◌, ℕ, None, refl, subst}
use Rattle.ak_message.specs.Specifier.{at_of}
use Rattle.ak_action.specs.Properties.{access_at}
use Rattle.ak_desk.specs.Properties.{access_told}
use Rattle.ak_desk.proofs.Accessing.{told_refused}
use Rattle.ak_desk.proofs.properties.access.Goals as goal

pub returns-in_ok-refusal-in-Err : goal.returns-in_ok-refusal-in-Err
returns-in_ok-refusal-in-Err c =
    subst (λ (n : ℕ). access_told (access_at c.args.elements c.args.place n (at_of c.args.at) c.args.m.now) ≡ (c.in_ok-refusal-in-Err.field-0, None)) c.what.ensures.value
    (told_refused _ _ _ c.in-Err.fault c.in_ok-refusal-in-Err.field-0 c.in-Err.is c.access_at.ensures.refused c.access_at.ensures.only
    (c.in_ok-refusal-in-Err.ensures.memory refl) c.in_ok-refusal-in-Err.ensures.reply)
