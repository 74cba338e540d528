-- Who of a chain takes a message, one handler at a time.
use Rattle.std.proofs.Common.{◌≡◌, ℕ, zero, suc, ◌+◌, ◌-◌, ◌<◌, ◌≤◌, Bool, true, false, cond, List, Option, None, Some, option_map, refl, ap, arith}
use Rattle.ak_message.specs.declared.specifier.Specifier.{Specifier}
use Rattle.ak_message.specs.Message.{MessageData}
use Rattle.ak_handler.specs.Handlers.{HandlerData, HandlersData, chain_of, next_in}
use Rattle.ak_property.specs.HandlerRow.{RowData}
use Rattle.ak_route.specs.Handlers.{no_row}
use Rattle.ak_route.specs.Receiving.{is_property_command, or_else, property_place, property_taker, reaction_taker, taker_of, receive, received, Received}

pub or_else_joined : {A : Type 0} (x y z : Option A) → or_else x (or_else y z) ≡ or_else (or_else x y) z
or_else_joined None y z = refl
or_else_joined (Some x) y z = refl

same_both : {A : Type 0} (b : Bool) (x : A) → cond b x x ≡ x
same_both true x = refl
same_both false x = refl

no_place : (m : MessageData) (sp : Option Specifier) → property_place no_row m sp ≡ None
no_place m None = refl
no_place m (Some sp) = same_both (is_property_command m.what) None

-- a handler that is not there takes nothing
pub nobody_takes : (m : MessageData) (sp : Option Specifier) → or_else (property_taker no_row m sp) (reaction_taker no_row m) ≡ None
nobody_takes m sp = rw (no_place m sp) refl

module _ {R : Type 0} (list : List (HandlerData R)) (s : HandlersData RowData) (loopers : List (List ℕ)) (m : MessageData) where
  -- with so many handlers asked
  abbrev pub receive_from : ℕ → ℕ → Option ℕ → Option Received
  receive_from all taken at = receive s loopers m (chain_of list (all - taken) at)

  none_left : (n : ℕ) → receive s loopers m (chain_of list n None) ≡ None
  none_left zero = refl
  none_left (suc n) = refl

  pub receive_none : (all taken : ℕ) → receive_from all taken None ≡ None
  receive_none all taken = none_left (all - taken)

  pub receive_end : (all taken : ℕ) (at : Option ℕ) → all ≤ taken → receive_from all taken at ≡ None
  receive_end all taken at le = let e : all - taken ≡ 0 = omega arith in ap (λ n. receive s loopers m (chain_of list n at)) e

  pub receive_step : (all taken token : ℕ) → taken < all → receive_from all taken (Some token) ≡ or_else (option_map (received token) (taker_of s loopers m token)) (receive_from all (taken + 1) (next_in list token))
  receive_step all taken token lt =
      let e : all - taken ≡ suc (all - (taken + 1)) = omega arith in
      ap (λ n. receive s loopers m (chain_of list n (Some token))) e

pub ruleset receiving_steps = (receive_none, receive_end, receive_step)
