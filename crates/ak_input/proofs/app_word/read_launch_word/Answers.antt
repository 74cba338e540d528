-- A signature is a word.
use Rattle.std.proofs.Common.{sym, ◌∙◌}
use Rattle.std.proofs.lemmas.Bool.{and_parts}
use Rattle.ak_input.proofs.app_word.read_launch_word.Goals as goal

pub from_word-requires-then-is_signature : goal.from_word-requires-then-is_signature
from_word-requires-then-is_signature c = (and_parts _ _ (and_parts _ _ (sym c.is_signature.ensures ∙ c.if-is_signature.true)).0).0
