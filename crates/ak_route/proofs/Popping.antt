-- A route pops specifiers that are left, one for each step that leads on.
use Rattle.std.proofs.Common.{◌≡◌, ℕ, zero, suc, ◌+◌, ◌-◌, ◌≤◌, List, Option, None, Some, refl, arith}
use Rattle.ak_filter.specs.declared.filter.Filter.{Filter}
use Rattle.ak_message.specs.declared.address.Target.{Target}
use Rattle.ak_message.specs.Fields.{specifier_count}
use Rattle.ak_message.specs.Message.{MessageData}
use Rattle.ak_specifier.specs.Current.{left_of, popped_once}
use Rattle.ak_handler.specs.Handlers.{HandlersData}
use Rattle.ak_property.specs.HandlerRow.{RowData}
use Rattle.ak_route.specs.Handlers.{first_target}
use Rattle.ak_route.specs.Resolving.{Step, stay, to_handler, to_looper, lost, Destination, at_handler, at_looper, nowhere, Resolved, step, go_on, resolve_from, first_asked, resolve}
use Rattle.ak_route.specs.Filtering.{Passing, Origin, passing_after, settle}
use Rattle.ak_route.specs.Routing.{delivered, filtered, from_target}
use Rattle.ak_route.specs.Laws.{OnlyPops, ResolvingOnlyPops, PopsWithin, RoutesPopWithin}

-- at most so many further ones are popped
record PopsUpTo (n : ℕ) (m after : MessageData) : Type 0 where
  code : after.what ≡ m.what
  fields : after.fields ≡ m.fields
  at_least : m.popped ≤ after.popped
  at_most : after.popped ≤ m.popped + n

module _ (s : HandlersData RowData) (loopers : List (List ℕ)) where
  go_pops : (n : ℕ) (m : MessageData) (token : ℕ) (st : Step) (on : ℕ → Resolved) → ((next : ℕ) → PopsUpTo n (popped_once m) (on next).message) → PopsUpTo (suc n) m (go_on m token st on).message
  go_pops n m token stay on rest = record { code = refl; fields = refl; at_least = omega arith; at_most = omega arith }
  go_pops n m token (to_handler next) on rest =
      let h = rest next in
      let low = h.at_least in
      let high = h.at_most in
      record { code = h.code; fields = h.fields; at_least = omega arith; at_most = omega arith }
  go_pops n m token (to_looper i) on rest = record { code = refl; fields = refl; at_least = omega arith; at_most = omega arith }
  go_pops n m token lost on rest = record { code = refl; fields = refl; at_least = omega arith; at_most = omega arith }

  from_pops : (n : ℕ) (m : MessageData) (token : ℕ) → PopsUpTo n m (resolve_from s loopers n m token).message
  from_pops zero m token = record { code = refl; fields = refl; at_least = omega arith; at_most = omega arith }
  from_pops (suc n) m token =
      go_pops n m token (step s loopers m token) (resolve_from s loopers n (popped_once m)) (λ next. from_pops n (popped_once m) next)

  within : (n : ℕ) (m after : MessageData) → left_of m ≡ n → m.popped ≤ specifier_count m.fields → PopsUpTo n m after → PopsWithin m after
  within n m after left fits h =
      let low = h.at_least in
      let high = h.at_most in
      record { fields = h.fields; at_least = low; within = omega arith }

  led_by : (m : MessageData) (t : Target) (first n : ℕ) → left_of m ≡ n → PopsUpTo n m (resolve s loopers m t first).message
  led_by m t first zero is = rw is (record { code = refl; fields = refl; at_least = omega arith; at_most = omega arith })
  led_by m t first (suc n) is = rw is (from_pops (suc n) m (first_asked s m t first))

  led_only : (m : MessageData) (t : Target) (first : ℕ) → OnlyPops m (resolve s loopers m t first).message
  led_only m t first =
      let h = led_by m t first (left_of m) refl in
      record {
        same = λ i. record { what = h.code i; fields = h.fields i; popped = (resolve s loopers m t first).message.popped };
        at_least = h.at_least;
        at_most = h.at_most;
      }

  led : (m : MessageData) (t : Target) (first : ℕ) → m.popped ≤ specifier_count m.fields → PopsWithin m (resolve s loopers m t first).message
  led m t first fits = within (left_of m) m (resolve s loopers m t first).message refl fits (led_by m t first (left_of m) refl)

  -- ---- the route
  by_passing : (m after : MessageData) (p : Option Passing) → PopsWithin m after → PopsWithin m (delivered s loopers after p).message
  by_passing m after None h = h
  by_passing m after (Some p) h = record { fields = h.fields; at_least = h.at_least; within = h.within }

  module _ (o : Origin) (common : List Filter) where
    by_place : (m : MessageData) (place : Destination) (after : MessageData) → PopsWithin m after → PopsWithin m (filtered s loopers o common (record { place = place; message = after })).message
    by_place m (at_handler at) after h = by_passing m after (passing_after (settle s o common (record { target = at; what = after.what }))) h
    by_place m (at_looper j) after h = h
    by_place m nowhere after h = h

    by_first : (m : MessageData) (t : Target) (first : Option ℕ) → m.popped ≤ specifier_count m.fields → PopsWithin m (from_target s loopers o common m t first).message
    by_first m t None fits = record { fields = refl; at_least = omega arith; within = fits }
    by_first m t (Some first) fits =
        by_place m (resolve s loopers m t first).place (resolve s loopers m t first).message (led m t first fits)

pub pops_within-proof : RoutesPopWithin
pops_within-proof s loopers o common m t fits = by_first s loopers o common m t (first_target s t) fits

pub only_pops-proof : ResolvingOnlyPops
only_pops-proof s loopers m t first = led_only s loopers m t first
