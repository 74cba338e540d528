-- What the layers above may cite of these proofs: they name this file alone.
pub use Rattle.ak_input.proofs.AppWords.{app_word_again, app_word_takes, launched_again, looked_up_again, looked_up_is, signature_no_path}
pub use Rattle.ak_input.proofs.CodeLaws.{code_again, code_takes, no_code}
pub use Rattle.ak_input.proofs.CodeWords.{code_again_is, code_is_read, code_takes_is}
pub use Rattle.ak_input.proofs.FieldWords.{split_again, split_takes}
pub use Rattle.ak_input.proofs.Fine.{Holds, IfWithin, IsFine, message_fine, read_fine, some_any, some_then, value_fine}
pub use Rattle.ak_input.proofs.HexLaws.{raws_take}
pub use Rattle.ak_input.proofs.NumberWords.{mapped_some, no_number, number_again, number_none, number_takes}
pub use Rattle.ak_input.proofs.Numbers.{int_found, int_none, int_value-text, ints_read}
pub use Rattle.ak_input.proofs.SaidLaw.{texts_are_written, values_are_written, fields_are_written, messages_are_written}
pub use Rattle.ak_input.proofs.UnpoppedText.{text-unpopped}
pub use Rattle.ak_input.proofs.WordLaws.{line_again, line_takes}
