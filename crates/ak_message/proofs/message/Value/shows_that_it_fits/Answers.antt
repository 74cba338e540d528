-- A message is whole, so it fits as a value.
use Rattle.std.proofs.Common.{sym, subst}
use Rattle.ak_message.specs.Seen.{value_of}
use Rattle.ak_message.specs.Whole.{FitsValue}
use Rattle.ak_message.proofs.Fitting.{fits_message}
use Rattle.ak_message.proofs.message.Value.shows_that_it_fits.Goals as goal

pub returns-in-Message : goal.returns-in-Message
returns-in-Message c =
    subst (λ v. FitsValue (value_of v)) (sym c.in-Message.is) (fits_message _ (rw (← c.deref.ensures) c.what-code.ensures.is_whole))
