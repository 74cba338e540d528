-- What a text of an input says: a kind, and a value or the values of a field where they pass no limit.
use Rattle.std.specs.Prelude.{List}
use Rattle.ak_base.specs.declared.limited.Limited.{Limited}
use Rattle.ak_base.specs.declared.limited.Limited.TheVariants.{Within, Over}
use Rattle.ak_message.specs.declared.kind.Kind.{Kind}
use Rattle.ak_message.specs.Message.{ValueData, kind_of}

-- a kind, and the value where it passes no limit
pub record Got : Type 0 where
  pub kind : Kind
  pub value : Limited ValueData

-- the same of the values of a field
pub record GotValues : Type 0 where
  pub kind : Kind
  pub values : Limited (List ValueData)

abbrev pub got : ValueData → Got
got v = record { kind = kind_of v; value = Within v }

abbrev pub over : Kind → Got
over kind = record { kind = kind; value = Over }
