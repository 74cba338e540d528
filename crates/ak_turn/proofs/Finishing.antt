-- What a seat with the turn holds, once the book is back in the slot.
use Rattle.std.proofs.Common.{◌≡◌, ℕ, Bool, true, List, [], ◌∷◌, Some, refl, ap, ◌∙◌, ⊎_elim}
use Rattle.ak_turn.specs.declared.view.Stage.{Stage}
use Rattle.ak_turn.specs.declared.view.Stage.TheVariants.{Idle, Waits, HasTurn, Spent}
use Rattle.ak_turn.specs.declared.view.View.{View}
use Rattle.ak_turn.specs.Steps.{Sat, HoldsBook, IsNoted}
use Rattle.ak_turn.specs.Seen.{has_turn}

-- the ticket of a seat with the turn
ticket_of : (stage : Stage) → has_turn stage ≡ true → (ticket : ℕ) × (stage ≡ HasTurn ticket)
ticket_of Idle is = absurd (cc)
ticket_of (Waits ticket) is = absurd (cc)
ticket_of (HasTurn ticket) is = (ticket, refl)
ticket_of Spent is = absurd (cc)

module _ {B O L : Type 0} (entries : B → List L) where
  -- the book was put back
  pub holds_book : (v : View O L) (turn : Bool) (book kept : B) (m : Sat B O L) → has_turn v.stage ≡ turn → turn ≡ true → m ≡ (v, (0, Some book) ∷ []) → book ≡ kept → HoldsBook entries kept m
  holds_book v turn book kept m seen is after same =
      let t = ticket_of v.stage (seen ∙ is) in ((t.0, ap (λ x. x.0.stage) after ∙ t.1), ap (λ x. x.1) after ∙ ap (λ b. (0, Some b) ∷ []) same)

  -- a new entry was counted, or there was none
  pub holds_noted : (by : L → ℕ) (book : B) (m n : Sat B O L) → HoldsBook entries book m → IsNoted entries book by m n → HoldsBook entries book n
  holds_noted by book m n has =
      ⊎_elim (λ same. ((has.0.0, ap (λ x. x.0.stage) same.1 ∙ has.0.1), ap (λ x. x.1) same.1 ∙ has.1))
      (λ more. ((has.0.0, ap (λ x. x.0.stage) more.1 ∙ has.0.1), ap (λ x. x.1) more.1 ∙ has.1))
