-- What is copied so far is the front of the list.
use Rattle.std.proofs.Common.{◌≡◌, take}
use Rattle.ak_desk.proofs.entry.copied.Given as goal

abbrev pub invariant-loop-word : goal.invariant-loop-word
invariant-loop-word l = l.copies.items ≡ take l.word-index l.words
