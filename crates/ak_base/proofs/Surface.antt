-- What the layers above may cite of these proofs: they name this file alone.
pub use Rattle.ak_base.proofs.Codes.{code_text-hex, code_text-quoted, hex_found, printed_codes_are_read, quoted_found}
pub use Rattle.ak_base.proofs.Digits.{below_from_short, decimal-ne_minus, IsForm-decimal, short_from_below}
pub use Rattle.ak_base.proofs.Lists.{head_pairs, map-remove, tail_pairs}
pub use Rattle.ak_base.proofs.Looking.{find-All, find-map, is_some-position, position-map, position-within}
pub use Rattle.ak_base.proofs.Options.{bind_some, cond_some, done, none_is, passed, some_is}
pub use Rattle.ak_base.proofs.Pigeons.{few_below, pigeons}
pub use Rattle.ak_base.proofs.Words.{word_ascii, word_byte, word_has_no_zero, word_parts}
pub use Rattle.ak_base.proofs.Zeros.{no_zero, zero_in}
