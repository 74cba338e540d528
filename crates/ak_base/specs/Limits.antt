-- The limits that texts and words have, and those that several layers name of which none stands on the other.
use Rattle.std.specs.Prelude.{ℕ}

-- the longest text, in bytes
abbrev pub text_limit : ℕ
text_limit = 1024

-- the longest raw value, in bytes
abbrev pub raw_limit : ℕ
raw_limit = 1024

-- the longest word, in bytes
abbrev pub word_limit : ℕ
word_limit = 64

-- the longest number that is read, in digits
abbrev pub digits_limit : ℕ
digits_limit = 20

-- the most messages that a port keeps at a time
abbrev pub capacity_limit : ℕ
capacity_limit = 1000

-- the most loopers of one application
abbrev pub app_looper_limit : ℕ
app_looper_limit = 8

-- the most loopers of a run, whose numbers are below it
abbrev pub looper_limit : ℕ
looper_limit = 32
