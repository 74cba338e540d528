-- What is read so far, and what is read of the words that are left, makes up all of it.
use Rattle.std.proofs.Common.{◌≡◌, ◌++◌, length}
use Rattle.ak_input.specs.Written.{code_of}
use Rattle.ak_describe.specs.Words.{texts, many}
use Rattle.ak_describe.proofs.form.property.codes_at.Given as goal

abbrev pub invariant-loop-word : goal.invariant-loop-word
invariant-loop-word l =
    record {
      items : l.codes.items ++ (many code_of (texts l.rest)).0 ≡ (many code_of (texts l.words)).0;
      behind : (many code_of (texts l.rest)).1 ≡ (many code_of (texts l.words)).1;
    }

abbrev pub decreases-loop-word : goal.decreases-loop-word
decreases-loop-word l = length l.rest
