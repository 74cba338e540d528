-- What asking for a start, and counting it as a fault, come to.
use Rattle.std.proofs.Common.{◌≡◌, Bool, true, false, Option, Some, None, subst}
use Rattle.ak_outside.specs.Calls.{Calls}
use Rattle.ak_outside.specs.Spawner.{Asks, CountsFault, HasGivenBack, HasStarted}

-- what is refused is given back
pub refused_is_given_back : (old new : Option Calls) (is_refused : Bool) → is_refused ≡ true → Asks old new is_refused → HasGivenBack old new
refused_is_given_back None new is_refused told asked = tt
refused_is_given_back (Some calls) new true told asked = asked.1
refused_is_given_back (Some calls) new false told asked = absurd cc

-- what is not refused may start
pub free_has_started : (old new : Option Calls) (is_refused : Bool) → is_refused ≡ false → Asks old new is_refused → HasStarted old new
free_has_started None new is_refused told asked = tt
free_has_started (Some calls) new true told asked = absurd cc
free_has_started (Some calls) new false told asked = (λ refuses. let answer : false ≡ true = asked.0.1 refuses in absurd cc, asked.1)

-- what is not refused, and fails, is given back
pub failed_is_given_back : (old between new : Option Calls) (is_refused : Bool) → is_refused ≡ false → Asks old between is_refused → CountsFault between new → HasGivenBack old new
failed_is_given_back None between new is_refused told asked counted = tt
failed_is_given_back (Some calls) between new true told asked counted = absurd cc
failed_is_given_back (Some calls) between new false told asked counted = subst (λ (state : Option Calls). CountsFault state new) asked.1 counted

pub ruleset starts = (refused_is_given_back, free_has_started, failed_is_given_back)
