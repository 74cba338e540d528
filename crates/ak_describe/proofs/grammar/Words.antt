-- What a word writes is read of it, and what is read of it is what it writes.
use Rattle.std.proofs.Common.{◌≡◌, ℕ, Bool, true, List, Some, refl, ap, ◌∙◌}
use Rattle.std.specs.Str.{bytes_eq}
use Rattle.std.proofs.lemmas.Slice.Eq.{bytes_eq-Decides}
use Rattle.ak_base.specs.Word.{is_word}
use Rattle.ak_base.proofs.Surface.{cond_some, done}
use Rattle.ak_base.specs.Option.{where_true}
use Rattle.ak_base.specs.declared.limited.Limited.{Limited}
use Rattle.ak_input.specs.Written.{quoted_text}
use Rattle.ak_input.proofs.Surface.{texts_are_written}
use Rattle.ak_describe.specs.Grammar.{IsName, WritesText}
use Rattle.ak_describe.specs.Words.{name_of}

pub same_bytes : (word : List ℕ) → bytes_eq word word ≡ true
same_bytes word = (bytes_eq-Decides word word).1 refl

-- ---- names
pub name_takes : (word name : List ℕ) → name_of word ≡ Some name → IsName word name
name_takes word name e = cond_some (is_word word) word name e

pub name_again : (word name : List ℕ) → IsName word name → name_of word ≡ Some name
name_again word name is = ap (λ (b : Bool). where_true b word) is.0 ∙ ap (λ (w : List ℕ). done w) is.1

-- ---- texts
pub text_takes : (word : List ℕ) (text : Limited (List ℕ)) → quoted_text word ≡ Some text → WritesText word text
text_takes word text e = (texts_are_written word text).1 e

pub text_again : (word : List ℕ) (text : Limited (List ℕ)) → WritesText word text → quoted_text word ≡ Some text
text_again word text is = (texts_are_written word text).0 is
