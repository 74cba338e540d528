-- Which handler of a chain takes a message, and as what.
use Rattle.std.specs.Prelude.{ℕ, ◌==◌, ◌&&◌, ◌||◌, nat_lt, Bool, false, if◌then◌else◌, List, [], ◌∷◌, length, codes, Option, None, Some, option_map}
use Rattle.std.specs.List.{position}
use Rattle.ak_message.specs.declared.specifier.Specifier.{Specifier}
use Rattle.ak_message.specs.Message.{MessageData}
use Rattle.ak_specifier.specs.Current.{left_of, current_of}
use Rattle.ak_handler.specs.Handlers.{HandlersData}
use Rattle.ak_route.specs.declared.outcome.Taker.{Taker}
use Rattle.ak_route.specs.declared.outcome.Taker.TheVariants as taker
use Rattle.ak_property.specs.HandlerRow.{RowData}
use Rattle.ak_route.specs.Handlers.{row_of}
use Rattle.ak_route.specs.Matching.{is_code, row_match, gets_built_in, counts_built_in}

-- the commands on properties
abbrev pub is_property_command : ℕ → Bool
is_property_command what =
    is_code what (codes "PGET")
    || (is_code what (codes "PSET")
    || (is_code what (codes "PCNT") || (is_code what (codes "PCRT") || is_code what (codes "PDEL"))))

-- the first of the two that is there
abbrev pub or_else : {A : Type 0} → Option A → Option A → Option A
or_else (Some x) _ = Some x
or_else None y = y

abbrev pub when : Bool → Taker → Option Taker
when holds t = if holds then Some t else None

-- of no specifier
abbrev pub property_place : RowData → MessageData → Option Specifier → Option ℕ
property_place row m None = None
property_place row m (Some sp) = if is_property_command m.what then row_match row.table m sp else None

abbrev pub property_taker : RowData → MessageData → Option Specifier → Option Taker
property_taker row m sp = option_map taker.Property (property_place row m sp)

abbrev pub reaction_taker : RowData → MessageData → Option Taker
reaction_taker row m = option_map taker.Reaction (position (λ code. code == m.what) row.reactions)

-- what every handler takes
abbrev pub handler_takes : MessageData → Option Specifier → Bool
handler_takes m None = left_of m == 0 && is_code m.what (codes "SUIT")
handler_takes m (Some sp) = gets_built_in m sp

abbrev pub counts : MessageData → Option Specifier → List ℕ → Bool
counts m None property = false
counts m (Some sp) property = counts_built_in m sp property

-- what a looper takes beside that, and what an application's own looper does
abbrev pub looper_takes : MessageData → Option Specifier → Bool
looper_takes m sp = counts m sp (codes "Handler") || is_code m.what (codes "_QRQ")

abbrev pub own_looper_takes : MessageData → Option Specifier → Bool
own_looper_takes m sp = counts m sp (codes "Looper") || (is_code m.what (codes "_ARG") || is_code m.what (codes "_RTR"))

-- the looper has the token 0, and an application's own one knows the loopers
abbrev pub takes_built_in : List (List ℕ) → MessageData → ℕ → Bool
takes_built_in loopers m token =
    handler_takes m (current_of m)
    || (token == 0 && (looper_takes m (current_of m) || (nat_lt 0 (length loopers) && own_looper_takes m (current_of m))))

-- as a property, else as a reaction, else as something built in
abbrev pub taker_of : HandlersData RowData → List (List ℕ) → MessageData → ℕ → Option Taker
taker_of s loopers m token =
    or_else (property_taker (row_of s token) m (current_of m))
    (or_else (reaction_taker (row_of s token) m) (when (takes_built_in loopers m token) taker.BuiltIn))

pub record Received : Type 0 where
  pub token : ℕ
  pub taker : Taker

abbrev pub received : ℕ → Taker → Received
received token t = record { token = token; taker = t }

-- the first one of a chain that takes it
abbrev pub receive : HandlersData RowData → List (List ℕ) → MessageData → List ℕ → Option Received
receive s loopers m [] = None
receive s loopers m (token ∷ tokens) = or_else (option_map (received token) (taker_of s loopers m token)) (receive s loopers m tokens)
