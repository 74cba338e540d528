-- What the handlers end as, once what one of them holds was lent to be changed.
use Rattle.std.specs.Prelude.{ℕ, List, Option}
use Rattle.std.specs.Borrow.{Fml, RattleType, MutBor, Lends, LendsIf}
use Rattle.ak_handler.specs.contracts.rows.Rows.{the_row as the_rows}
use Rattle.ak_handler.specs.contracts.set.HandlerSet.{the_row}
use Rattle.ak_handler.specs.Handlers.{HandlerData, HandlersData}
use Rattle.ak_handler.specs.Changes.{with_content}
use Rattle.ak_handler.specs.Rows.{changed_at}

module _ (R : RattleType) (rows : MutBor (List (HandlerData R.Denot))) (place : ℕ) where
  -- the handler at that place holds the last value written through r
  abbrev pub lends_content_at : MutBor R.Denot → Fml
  lends_content_at r = Lends (the_rows R) R rows r (λ w. changed_at rows.now place (λ h. record h { content = w }))

module _ (R : RattleType) (s : MutBor (HandlersData R.Denot)) (token : ℕ) where
  -- the handler with that token holds the last value written through r
  abbrev pub lends_content : MutBor R.Denot → Fml
  lends_content r = Lends (the_row R) R s r (with_content s.now token)

  -- the same, where there is one, and otherwise they stay as they are
  abbrev pub lends_content_if : Option (MutBor R.Denot) → Fml
  lends_content_if r = LendsIf (the_row R) R s r (with_content s.now token) s.now
