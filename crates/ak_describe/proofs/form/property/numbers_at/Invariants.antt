-- What is read so far, and what is read of the words that are left, makes up all of it.
use Rattle.std.proofs.Common.{◌≡◌, ◌++◌, length}
use Rattle.ak_describe.specs.Forms.{form_of}
use Rattle.ak_describe.specs.Words.{texts, many}
use Rattle.ak_describe.proofs.form.property.numbers_at.Given as goal

abbrev pub invariant-loop-word : goal.invariant-loop-word
invariant-loop-word l =
    record {
      items : l.numbers.items ++ (many form_of (texts l.rest)).0 ≡ (many form_of (texts l.words)).0;
      behind : (many form_of (texts l.rest)).1 ≡ (many form_of (texts l.words)).1;
    }

abbrev pub decreases-loop-word : goal.decreases-loop-word
decreases-loop-word l = length l.rest
