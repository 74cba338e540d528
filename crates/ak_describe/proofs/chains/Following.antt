-- Names as they follow one another: lines with a next handler in the order of the handlers, and every handler that has one has its line.
use Rattle.std.proofs.Common.{◌≡◌, ℕ, ◌+◌, ◌*◌, ◌<◌, ◌≤◌, List, [], ◌∷◌, length, Option, None, Some, slice_get}
use Rattle.ak_describe.specs.declared.named.Named.{Named}
use Rattle.ak_describe.specs.declared.named.Need.{Need}
use Rattle.ak_describe.specs.declared.named.Need.TheVariants as needs
use Rattle.ak_describe.specs.Parts.{RowData, AppData}
use Rattle.ak_describe.specs.Pass.{loopers_in, rows_in}

-- ---- the handlers at a place
abbrev pub rows_at : List AppData → ℕ → ℕ → List RowData
rows_at apps app looper = rows_in (slice_get (loopers_in (slice_get apps app)) looper)

abbrev pub next_in : Option RowData → Option (List ℕ)
next_in None = None
next_in (Some r) = r.next

abbrev pub next_at : List AppData → ℕ → ℕ → ℕ → Option (List ℕ)
next_at apps app looper row = next_in (slice_get (rows_at apps app looper) row)

-- the order of handlers: there are at most 8 loopers, and 64 handlers in each
abbrev pub rank : ℕ → ℕ → ℕ → ℕ
rank app looper row = app * 512 + looper * 64 + row

abbrev pub rank_of : Named → ℕ
rank_of n = rank n.app n.looper n.row

-- ---- a line with the next handler: from there to it no other handler has one
pub record NextHere (apps : List AppData) (from : ℕ) (n : Named) (name : List ℕ) : Type 0 where
  pub looper : n.looper < 8
  pub row : n.row < 64
  pub here : next_at apps n.app n.looper n.row ≡ Some name
  pub behind : from ≤ rank_of n
  pub gap : (a l i : ℕ) → l < 8 → i < 64 → from ≤ rank a l i → rank a l i < rank_of n → next_at apps a l i ≡ None

abbrev pub NextFollows : List AppData → ℕ → Named → Need → Type 0
NextFollows apps from n (needs.Next name) = NextHere apps from n name
NextFollows apps from n (needs.Handler name) = Unit {0}
NextFollows apps from n (needs.Looper name) = Unit {0}
NextFollows apps from n (needs.AskLooper name) = Unit {0}
NextFollows apps from n (needs.AskApp word) = Unit {0}

abbrev pub rank_behind : ℕ → Named → Need → ℕ
rank_behind from n (needs.Next name) = rank_of n + 1
rank_behind from n (needs.Handler name) = from
rank_behind from n (needs.Looper name) = from
rank_behind from n (needs.AskLooper name) = from
rank_behind from n (needs.AskApp word) = from

-- none behind that has no line
abbrev pub NoneFrom : List AppData → ℕ → Type 0
NoneFrom apps from = (a l i : ℕ) → l < 8 → i < 64 → from ≤ rank a l i → next_at apps a l i ≡ None

abbrev pub Follows : List AppData → ℕ → List Named → Type 0
Follows apps from [] = NoneFrom apps from
Follows apps from (n ∷ names) = NextFollows apps from n n.need × Follows apps (rank_behind from n n.need) names

-- of each looper there are at most 64 handlers, and the first one, which is itself, has no next one
pub record RowsFit (apps : List AppData) : Type 0 where
  pub few : (a l : ℕ) → length (rows_at apps a l) ≤ 64
  pub first : (a l : ℕ) (r : RowData) → slice_get (rows_at apps a l) 0 ≡ Some r → r.next ≡ None
