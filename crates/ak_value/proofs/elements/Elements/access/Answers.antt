-- The message is one, so each refusal has one cause.
use Rattle.ak_value.proofs.Causes.{cause_of}
use Rattle.ak_value.proofs.elements.Elements.access.Goals as goal

pub returns-clause-cause : goal.returns-clause-cause
returns-clause-cause c =
    cause_of _ _ _ _ _ c.what-code.ensures.is_message c.carry_out.ensures.refused c.carry_out.ensures.only
