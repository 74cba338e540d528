-- The letters of a kind are the bytes of its code.
use Rattle.ak_message.proofs.Surface.{code-letters}

pub ruleset letters = (code-letters)
