-- A word is the text of the code that is read of it, and the codes that it writes are read.
pub use Rattle.ak_input.proofs.Surface.{code_again_is, code_is_read, code_takes_is}
