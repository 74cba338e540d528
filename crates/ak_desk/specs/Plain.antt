-- Which edits a script may ask for: the name of a new handler is a word.
use Rattle.std.specs.Prelude.{Bool, true}
use Rattle.ak_base.specs.Word.{is_word}
use Rattle.ak_desk.specs.declared.entry.Edit.{Edit}
use Rattle.ak_desk.specs.declared.entry.Edit.TheVariants as edit

abbrev pub is_plain_edit : Edit → Bool
is_plain_edit (edit.Add name) = is_word name
is_plain_edit (edit.Remove token) = true
is_plain_edit (edit.Next token next) = true
is_plain_edit (edit.Prefer token) = true
