-- What contracts see of handlers as the code holds them.
use Rattle.ak_handler.specs.declared.set.HandlerSet.TheInside.{Inside}
use Rattle.ak_handler.specs.Handlers.{HandlersData, IsHandlers}

module _ {R : Type 0} where
  abbrev pub handlers_inside : Inside R → HandlersData R
  handlers_inside s = record { list = s.rows; preferred = s.preferred; next_token = s.next_token }

  abbrev pub IsSound : Inside R → Type 0
  IsSound s = IsHandlers (handlers_inside s)
