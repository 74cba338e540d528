-- What contracts see of the rows of handlers as the code holds them.
use Rattle.std.specs.Prelude.{◌≡◌, ◌<◌, ℕ, zero, suc, List, [], ◌∷◌, map, AllPairs}
use Rattle.std.specs.String.{string_bytes}
use Rattle.indexmap.specs.IndexMap.{keys, values}
use Rattle.ak_handler.specs.declared.rows.Row.{Row}
use Rattle.ak_handler.specs.declared.rows.Rows.TheInside.{Inside}
use Rattle.ak_handler.specs.Handlers.{HandlerData}

module _ {R : Type 0} where
  abbrev pub handler_seen : Row R → HandlerData R
  handler_seen row = record { token = row.token; name = row.name; next = row.next; content = row.content }

  abbrev pub list_seen : List (Row R) → List (HandlerData R)
  list_seen rows = map handler_seen rows

  abbrev pub rows_inside : Inside R → List (HandlerData R)
  rows_inside s = list_seen (values s.by_name)

  -- each row stands under its own name
  abbrev pub AreNamed : Inside R → Type 0
  AreNamed s = map string_bytes (keys s.by_name) ≡ map (λ row. row.name) (values s.by_name)

  -- the tokens of the rows rise
  abbrev pub Rise : List (Row R) → Type 0
  Rise rows = AllPairs (λ a b. a.token < b.token) rows

-- the list, with what stands at that place changed
abbrev pub changed_at : {X : Type 0} → List X → ℕ → (X → X) → List X
changed_at [] place f = []
changed_at (x ∷ xs) zero f = f x ∷ xs
changed_at (x ∷ xs) (suc place) f = x ∷ changed_at xs place f
