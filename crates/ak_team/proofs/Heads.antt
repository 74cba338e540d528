-- A head knows which threads made nothing: those that have had no seat.
use Rattle.std.proofs.Common.{◌≡◌, ◌≢◌, ℕ, true, List, [], map, Option, None, Some, is_some, refl, sym, ap, ◌∙◌, All, Contains}
use Rattle.std.specs.Prelude.{IfSome}
use Rattle.std.proofs.lemmas.List.Elements.{All-weaker, All-contains}
use Rattle.ak_turn.specs.Entries.{AreByOthers, made_by}
use Rattle.ak_turn.specs.Noted.{noted, entry_of}
use Rattle.ak_turn.specs.Seats.{SeatData, KnowsWhole}
use Rattle.ak_turn.specs.Steps.{IsNewName, names_with}
use Rattle.ak_turn.proofs.Surface.{noted_is_made, noted-others}

module _ {L : Type 0} (by : L → ℕ) where
  pub by_others : (names : Option (List ℕ)) (thread : ℕ) (front : List L) → IfSome names (λ ns. All (λ entry. Contains ns (by entry)) front) → IsNewName names thread → AreByOthers by thread front
  by_others None thread front named new = absurd new
  by_others (Some ns) thread front named new =
      All-weaker (λ entry. Contains ns (by entry)) (λ entry. by entry ≢ thread)
      (λ entry there. All-contains (λ name. name ≢ thread) ns (by entry) new there) front named

  pub nothing_by_new : {O : Type 0} (seat : SeatData O L) (thread : ℕ) → KnowsWhole by seat → IsNewName seat.names thread → noted by thread seat.front ≡ []
  nothing_by_new seat thread whole new = noted-others by thread [] seat.front (by_others seat.names thread seat.front whole.names new)

  pub made_nothing : {O : Type 0} (seat : SeatData O L) (thread : ℕ) → KnowsWhole by seat → IsNewName seat.names thread → made_by by thread seat.front ≡ []
  made_nothing seat thread whole new = sym (noted_is_made by thread seat.front) ∙ ap (map entry_of) (nothing_by_new seat thread whole new)

-- a head that was split for another is one still
pub head_with : (names : Option (List ℕ)) (known : List ℕ) (thread : ℕ) → names ≡ Some known → is_some (names_with names thread) ≡ true
head_with None known thread is = absurd (cc)
head_with (Some ns) known thread is = refl
