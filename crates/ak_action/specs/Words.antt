-- Words, and for how many more there is room.
use Rattle.std.specs.Prelude.{ℕ, ◌-◌, List, length}
use Rattle.std.specs.Vec.{vec_capacity}
use Rattle.ak_action.specs.declared.answer.AnswerWord.{AnswerWord}
use Rattle.ak_action.specs.declared.words.Words.TheInside.{Inside}

pub record WordsData : Type 0 where
  pub list : List AnswerWord
  pub room : ℕ

abbrev pub words_inside : Inside → WordsData
words_inside w = record { list = w.list.items; room = vec_capacity w.list - length w.list.items }
