-- Specifiers: their forms, and what contracts see of one whose texts are borrowed.
use Rattle.std.specs.Prelude.{ℕ}
use Rattle.ak_message.specs.declared.specifier.At.{At}
use Rattle.ak_message.specs.declared.specifier.At.TheVariants as at
use Rattle.ak_message.specs.declared.specifier.AtRef.{AtRef}
use Rattle.ak_message.specs.declared.specifier.AtRef.TheVariants as ref
use Rattle.ak_message.specs.declared.specifier.Specifier.{Specifier}
use Rattle.ak_message.specs.declared.specifier.SpecifierRef.{SpecifierRef}

abbrev pub form_of : At → ℕ
form_of at.Direct = 1
form_of (at.Index _) = 2
form_of (at.Reverse _) = 3
form_of (at.Range _ _) = 4
form_of (at.ReverseRange _ _) = 5
form_of (at.Name _) = 6
form_of (at.Id _) = 7

abbrev pub at_of : AtRef → At
at_of ref.Direct = at.Direct
at_of (ref.Index i) = at.Index i
at_of (ref.Reverse i) = at.Reverse i
at_of (ref.Range i count) = at.Range i count
at_of (ref.ReverseRange i count) = at.ReverseRange i count
at_of (ref.Name name) = at.Name name.now
at_of (ref.Id id) = at.Id id

abbrev pub specifier_of : SpecifierRef → Specifier
specifier_of s = record { property = s.property.now; at = at_of s.at }
