-- Facts that a value keeps have one proof at most.
use Rattle.std.specs.Coded.{Unit-prop}
use Rattle.ak_base.specs.declared.app_word.AppWord.{AppWord}
use Rattle.ak_base.specs.declared.app_word.AppWord.TheVariants as word
use Rattle.ak_roster.specs.Answers.{IsWord}

-- nothing is false in two ways
pub never-prop : IsProp ⊥
never-prop x y = absurd x

-- that a launch may be given the word
pub word-prop : (w : AppWord) → IsProp (IsWord w)
word-prop (word.Path path) = Unit-prop
word-prop (word.Signature signature) = Unit-prop
word-prop (word.Name name) = never-prop
word-prop (word.Team team) = never-prop
