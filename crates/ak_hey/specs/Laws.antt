-- What holds of all hey lines.
use Rattle.std.specs.Prelude.{◌≡◌, ◌≤◌, ◌↔◌, ◌⊎◌, ℕ, List, [], ◌∷◌, ◌++◌, length, map, Ok, Err}
use Rattle.ak_base.specs.declared.app_word.AppWord.{AppWord}
use Rattle.ak_base.specs.declared.limited.Limited.{Limited}
use Rattle.ak_base.specs.declared.limited.Limited.TheVariants.{Within, Over}
use Rattle.ak_flatten.specs.Limits.{flat_limit}
use Rattle.ak_flatten.specs.Spelling.{spelling}
use Rattle.ak_input.specs.declared.line.Word.{Word}
use Rattle.ak_message.specs.Message.{MessageData}
use Rattle.ak_hey.specs.declared.HeyLine.{HeyLine}
use Rattle.ak_hey.specs.declared.fault.HeyFault.{HeyFault}
use Rattle.ak_hey.specs.declared.fault.HeyFault.TheVariants as fault
use Rattle.ak_hey.specs.Grammar.{IsHey, Begins}
use Rattle.ak_hey.specs.Hey.{hey_of}

-- the bytes of each word
abbrev pub texts : List Word → List (List ℕ)
texts words = map (λ (w : Word). w.bytes) words

-- exactly what a line says is read of it
abbrev pub SaidIsRead : Type 0
SaidIsRead =
    (end : ℕ) (words : List Word) (app : AppWord) (message : Limited MessageData) → (hey_of end words ≡ Ok (app, message)) ↔ IsHey (texts words) app message

-- that word is the first one with which the words so far begin no hey line
pub record IsFirstBad (words : List Word) (column : ℕ) : Type 0 where
  pub front : List Word
  pub word : Word
  pub behind : List Word
  pub all : words ≡ front ++ word ∷ behind
  pub begins : Begins (texts front)
  pub bad : Begins (texts (front ++ word ∷ [])) → ⊥
  pub column_is : column ≡ word.column

-- the words end too early: some hey line begins with them, and they are none
pub record EndsEarly (end : ℕ) (words : List Word) (column : ℕ) : Type 0 where
  pub begins : Begins (texts words)
  pub none : (app : AppWord) (message : Limited MessageData) → IsHey (texts words) app message → ⊥
  pub column_is : column ≡ end

-- ---- the answer
-- why words are no hey line
abbrev pub IsRefusal : ℕ → List Word → HeyFault → Type 0
IsRefusal end words (fault.Bad column) = IsFirstBad words column ⊎ EndsEarly end words column
IsRefusal end words fault.TooLong = (app : AppWord) × IsHey (texts words) app Over
IsRefusal end words fault.NoMemory = Unit {0}

-- its message can be sent as it is: it is not too long, and nothing of it is popped
abbrev pub Fits : HeyLine → Type 0
Fits line = (length (spelling line.message) ≤ flat_limit) × (line.message.popped ≡ 0)

-- what the words say
abbrev pub IsLineOf : List Word → HeyLine → Type 0
IsLineOf words line = IsHey (texts words) line.app (Within line.message)

-- exactly there a line is refused
abbrev pub RefusedAtFirstBad : Type 0
RefusedAtFirstBad =
    (end : ℕ) (words : List Word) (column : ℕ) → hey_of end words ≡ Err column → IsFirstBad words column ⊎ EndsEarly end words column
