-- The words for a fault of reading.
use Rattle.std.specs.Prelude.{ℕ, List, codes}
use Rattle.ak_outside.specs.declared.reading.ReadFault.{ReadFault}
use Rattle.ak_outside.specs.declared.reading.ReadFault.TheVariants.{Failed, NoMemory}

abbrev pub text_of : ReadFault → List ℕ
text_of Failed = codes "a read failed"
text_of NoMemory = codes "no memory"
