-- The limits of plans, and of what is done by them.
use Rattle.std.specs.Prelude.{ℕ}

-- the most actions of a reaction
abbrev pub action_limit : ℕ
action_limit = 16

-- the most reactions of a handler
abbrev pub reaction_limit : ℕ
reaction_limit = 64

-- the most suites of its own that a handler has
abbrev pub suite_limit : ℕ
suite_limit = 16

-- the most words of a message's actions
abbrev pub answer_word_limit : ℕ
answer_word_limit = 32
