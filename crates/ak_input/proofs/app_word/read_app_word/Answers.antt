-- A signature is a name, and so is the name of an application.
use Rattle.std.proofs.Common.{sym, ◌∙◌}
use Rattle.std.proofs.lemmas.Bool.{and_parts}
use Rattle.ak_input.proofs.app_word.read_app_word.Goals as goal

pub from_word-requires : goal.from_word-requires
from_word-requires c = (and_parts _ _ (and_parts _ _ (sym c.is_signature.ensures ∙ c.if-is_signature.true)).0).0

pub from_word-requires-then-is_app_name : goal.from_word-requires-then-is_app_name
from_word-requires-then-is_app_name c = (and_parts _ _ (sym c.is_app_name.ensures ∙ c.if-is_app_name.true)).0
