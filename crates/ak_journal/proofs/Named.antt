-- A word that is launched or looked up is read of its text, and its text has no blank.
use Rattle.std.proofs.Common.{◌≡◌, Some}
use Rattle.std.specs.Prelude.{IsTrue}
use Rattle.std.proofs.lemmas.Bool.{and_parts}
use Rattle.ak_base.specs.declared.app_word.AppWord.{AppWord}
use Rattle.ak_base.specs.declared.app_word.AppWord.TheVariants as named
use Rattle.ak_input.specs.Written.{app_word_of, is_launched, is_looked_up, launch_word_of}
use Rattle.ak_input.proofs.Surface.{launched_again, looked_up_again}
use Rattle.ak_journal.specs.Parts.{word_text}
use Rattle.ak_journal.proofs.Dark.{IsDark, decimal_dark, word_dark}

pub launched_dark : (word : AppWord) → IsTrue (is_launched word) → IsDark (word_text word)
launched_dark (named.Path path) is = word_dark path (and_parts _ _ (and_parts _ _ is).0).0
launched_dark (named.Signature signature) is = word_dark signature (and_parts _ _ (and_parts _ _ is).0).0
launched_dark (named.Name name) is = absurd cc
launched_dark (named.Team team) is = absurd cc

pub looked_up_dark : (word : AppWord) → IsTrue (is_looked_up word) → IsDark (word_text word)
looked_up_dark (named.Path path) is = absurd cc
looked_up_dark (named.Signature signature) is = word_dark signature (and_parts _ _ (and_parts _ _ is).0).0
looked_up_dark (named.Name name) is = word_dark name (and_parts _ _ (and_parts _ _ is).0).0
looked_up_dark (named.Team team) is = decimal_dark team

-- each is read of its text
pub launched_read : (word : AppWord) → IsTrue (is_launched word) → launch_word_of (word_text word) ≡ Some word
launched_read (named.Path path) is = launched_again (named.Path path) is
launched_read (named.Signature signature) is = launched_again (named.Signature signature) is
launched_read (named.Name name) is = absurd cc
launched_read (named.Team team) is = absurd cc

pub looked_up_read : (word : AppWord) → IsTrue (is_looked_up word) → app_word_of (word_text word) ≡ Some word
looked_up_read (named.Path path) is = absurd cc
looked_up_read (named.Signature signature) is = looked_up_again (named.Signature signature) is
looked_up_read (named.Name name) is = looked_up_again (named.Name name) is
looked_up_read (named.Team team) is = looked_up_again (named.Team team) is
