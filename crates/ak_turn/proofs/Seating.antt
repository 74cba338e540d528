-- What the rule says of seats, one by one and two together.
use Rattle.std.proofs.Common.{◌≡◌, ◌≢◌, ℕ, ◌<◌, ◌≤◌, ◌^◌, List, length, Contains, sym, ap, ◌∙◌}
use Rattle.std.proofs.lemmas.List.Elements.{All-contains, All-weaker}
use mathlib.Core.Option.{some, some-injective}
use lib.ListN.{get_elem?}
use Rattle.atomic_table.specs.Table.{State}
use Rattle.ak_turn.specs.declared.view.Stage.{Stage}
use Rattle.ak_turn.specs.declared.view.Stage.TheVariants.{Idle, Waits, HasTurn, Spent}
use Rattle.ak_turn.specs.declared.view.Part.{Part}
use Rattle.ak_turn.specs.declared.view.View.{View}
use Rattle.ak_turn.specs.Rule.{World, IsOurs, Holds}
use Rattle.ak_turn.proofs.Lists.{at_most}

pub not_spent_idle : (stage : Stage) → stage ≡ Idle → stage ≢ Spent
not_spent_idle stage is spent = let e : Idle ≡ Spent = sym is ∙ spent in absurd (cc)

pub not_spent_waits : (stage : Stage) (ticket : ℕ) → stage ≡ Waits ticket → stage ≢ Spent
not_spent_waits stage ticket is spent = let e : Waits ticket ≡ Spent = sym is ∙ spent in absurd (cc)

pub not_spent_turn : (stage : Stage) (ticket : ℕ) → stage ≡ HasTurn ticket → stage ≢ Spent
not_spent_turn stage ticket is spent = let e : HasTurn ticket ≡ Spent = sym is ∙ spent in absurd (cc)

-- two that stand at one place are one
pub one_at : (xs : List ℕ) (k x y : ℕ) → get_elem? xs k ≡ some x → get_elem? xs k ≡ some y → x ≡ y
one_at xs k x y a b = some-injective x y (sym a ∙ b)

module _ {O L : Type 0} (by : L → ℕ) (w : World O L) where
  -- parts of two seats have two threads
  pub two_threads : (i j : ℕ) (p q : Part L) → IsOurs by w i p → IsOurs by w j q → i ≢ j → p.thread ≢ q.thread
  two_threads i j p q mine theirs differ same = differ (sym mine.owned ∙ ap w.owner same ∙ theirs.owned)

module _ {B O L : Type 0} (opening : B → O) (entries : B → List L) (at_rest : B → Type 0) (by : L → ℕ) where
  -- there are no more tickets than threads
  pub few_tickets : (w : World O L) (s : State _ (View O L)) → Holds opening entries at_rest by w s → length w.queue ≤ 2 ^ 32
  few_tickets w s h = at_most (2 ^ 32) w.queue h.queue (All-weaker (Contains w.names) (λ x. x < 2 ^ 32) (λ x there. All-contains (λ x. x < 2 ^ 32) w.names x h.names there) w.queue h.queued)
