-- What the words that are left say, apart from their columns.
use Rattle.std.proofs.Common.{◌≡◌, ℕ, List, [], ◌∷◌, ◌++◌, Option, Some, None, Ok, ap}
use Rattle.std.specs.Prelude.{ok_or}
use Rattle.ak_base.specs.Option.{◌>>=◌}
use Rattle.ak_base.specs.declared.app_word.AppWord.{AppWord}
use Rattle.ak_base.specs.declared.limited.Limited.{Limited}
use Rattle.ak_input.specs.declared.line.Word.{Word}
use Rattle.ak_message.specs.Message.{MessageData}
use Rattle.ak_hey.specs.declared.reading.Place.{Place}
use Rattle.ak_hey.specs.Draft.{DraftData}
use Rattle.ak_hey.specs.Hey.{State, body, next, finished, or_column, goes_on}
use Rattle.ak_hey.specs.Laws.{texts}

abbrev pub Said : Type 0
Said = AppWord × Limited MessageData

abbrev pub said : State → List (List ℕ) → Option Said
said s [] = finished s
said s (w ∷ words) = next s w >>= λ t. said t words

-- what the words so far make of what was before
abbrev pub after : State → List (List ℕ) → Option State
after s [] = Some s
after s (w ∷ words) = next s w >>= λ t. after t words

pub said_after : (s t : State) (front more : List (List ℕ)) → after s front ≡ Some t → said s (front ++ more) ≡ said t more
said_after s t [] more e = ap (λ (o : Option State). o >>= λ u. said u more) e
said_after s t (w ∷ front) more e = by_next (next s w) e (λ u h. said_after u t front more h) where
  by_next : (o : Option State) → (o >>= λ u. after u front) ≡ Some t → ((u : State) → after u front ≡ Some t → said u (front ++ more) ≡ said t more) → (o >>= λ u. said u (front ++ more)) ≡ said t more
  by_next None e later = absurd cc
  by_next (Some u) e later = later u e

-- ---- behind the verb
-- with the draft at that place
abbrev pub placed : Place → DraftData → Option (Place × DraftData)
placed p d = Some (p, d)

-- what the words that are left say there
abbrev pub goes_with : AppWord → List (List ℕ) → Option (Place × DraftData) → Option Said
goes_with app words o = (o >>= λ s. Some (body app s.0 s.1)) >>= λ t. said t words

-- ---- with columns and without
some_of : (end : ℕ) (o : Option Said) (r : Said) → ok_or o end ≡ Ok r → o ≡ Some r
some_of end None r e = absurd cc
some_of end (Some x) r e = cc

pub goes_said : (end : ℕ) (s : State) (words : List Word) (r : Said) → goes_on end s words ≡ Ok r → said s (texts words) ≡ Some r
goes_said end s [] r e = some_of end (finished s) r e
goes_said end s (w ∷ words) r e = by_next (next s w.bytes) e (λ t h. goes_said end t words r h) where
  by_next : (o : Option State) → or_column w.column o (λ t. goes_on end t words) ≡ Ok r → ((t : State) → goes_on end t words ≡ Ok r → said t (texts words) ≡ Some r) → (o >>= λ t. said t (texts words)) ≡ Some r
  by_next None e later = absurd cc
  by_next (Some t) e later = later t e

pub said_goes : (end : ℕ) (s : State) (words : List Word) (r : Said) → said s (texts words) ≡ Some r → goes_on end s words ≡ Ok r
said_goes end s [] r e = ap (λ (o : Option Said). ok_or o end) e
said_goes end s (w ∷ words) r e = by_next (next s w.bytes) e (λ t h. said_goes end t words r h) where
  by_next : (o : Option State) → (o >>= λ t. said t (texts words)) ≡ Some r → ((t : State) → said t (texts words) ≡ Some r → goes_on end t words ≡ Ok r) → or_column w.column o (λ t. goes_on end t words) ≡ Ok r
  by_next None e later = absurd cc
  by_next (Some t) e later = later t e
