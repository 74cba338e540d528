-- What a splitting answers: what the definition gives, unless memory ran out.
use Rattle.std.specs.Prelude.{◌≡◌, ℕ, List, Option, Some, None, Result, Ok, Err, IsUtf8}
use Rattle.ak_base.specs.declared.ending.RefusalKind.{RefusalKind}
use Rattle.ak_base.specs.declared.ending.RefusalKind.TheVariants as refusal
use Rattle.ak_input.specs.declared.line.Word.{Word}
use Rattle.ak_input.specs.Words.{IsLine}
use Rattle.ak_input.specs.declared.lines.InputLines.{InputLines}
use Rattle.ak_input.specs.declared.lines.LinesFault.{LinesFault}
use Rattle.ak_input.specs.declared.lines.LinesFault.TheVariants as lines
use Rattle.ak_input.specs.declared.words.WordsFault.{WordsFault}
use Rattle.ak_input.specs.declared.words.WordsFault.TheVariants as fault

-- of the words alone, whatever the bytes
abbrev pub Fails : {Y : Type 0} → WordsFault → Option Y → Type 0
Fails fault.NotUtf8 read = ⊥
Fails fault.BadWord read = read ≡ None
Fails fault.NoMemory read = Unit {0}

-- the line's fault
abbrev pub IsFaultOf : WordsFault → Result (List Word) RefusalKind → Type 0
IsFaultOf fault.NotUtf8 words = words ≡ Err refusal.NotUtf8
IsFaultOf fault.BadWord words = words ≡ Err refusal.BadWord
IsFaultOf fault.NoMemory words = Unit {0}

abbrev pub Splits : Result (List Word) WordsFault → Result (List Word) RefusalKind → Type 0
Splits (Ok words) split = split ≡ Ok words
Splits (Err e) split = IsFaultOf e split

-- why a line has no words: its bytes are not UTF-8; or they are, and are no words and blanks
abbrev pub HasNoWords : List ℕ → WordsFault → Type 0
HasNoWords line fault.NotUtf8 = ¬ (IsUtf8 line)
HasNoWords line fault.BadWord = IsUtf8 line × ((words : List Word) → IsLine 1 line words → ⊥)
HasNoWords line fault.NoMemory = Unit {0}

-- the lines where the input is not too long
abbrev pub SplitsInput : Result InputLines LinesFault → Option ℕ → InputLines → Type 0
SplitsInput (Ok read) too_long all = (too_long ≡ None) × (all ≡ read)
SplitsInput (Err lines.NoMemory) too_long all = Unit {0}
SplitsInput (Err (lines.TooLong line)) too_long all = too_long ≡ Some line
