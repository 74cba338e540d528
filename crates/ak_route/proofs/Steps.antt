-- One specifier after the other.
use Rattle.std.proofs.Common.{◌≡◌, ◌<◌, ℕ, suc, List, sym, ap, ◌∙◌, arith}
use Rattle.ak_message.specs.Message.{MessageData}
use Rattle.ak_specifier.specs.Current.{left_of, popped_once}
use Rattle.ak_handler.specs.Handlers.{HandlersData}
use Rattle.ak_property.specs.HandlerRow.{RowData}
use Rattle.ak_route.specs.Resolving.{Step, to_handler, step, go_on, resolve_from}

one_less : (m : MessageData) → 0 < left_of m → left_of m ≡ suc (left_of (popped_once m))
one_less m h = omega (arith, h)

module _ (s : HandlersData RowData) (loopers : List (List ℕ)) where
  -- where some are left, the handler says where to go on
  pub led : (m : MessageData) (token : ℕ) (next : Step) → 0 < left_of m → next ≡ step s loopers m token → go_on m token next (resolve_from s loopers (left_of (popped_once m)) (popped_once m)) ≡ resolve_from s loopers (left_of m) m token
  led m token next h is =
      ap (λ st. go_on m token st (resolve_from s loopers (left_of (popped_once m)) (popped_once m))) is
      ∙ ap (λ n. resolve_from s loopers n m token) (sym (one_less m h))

  pub went_on : (m new : MessageData) (token next : ℕ) → 0 < left_of m → new ≡ popped_once m → to_handler next ≡ step s loopers m token → resolve_from s loopers (left_of new) new next ≡ resolve_from s loopers (left_of m) m token
  went_on m new token next some popped is =
      ap (λ (n : MessageData). resolve_from s loopers (left_of n) n next) popped ∙ led m token (to_handler next) some is
