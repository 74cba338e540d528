-- The texts so far and those to come are all, and there are few.
use Rattle.std.proofs.Common.{◌≡◌, [], drop}
use Rattle.ak_base.specs.declared.limited.Limited.TheVariants.{Within}
use Rattle.ak_base.specs.Limited.{limited_map}
use Rattle.ak_describe.specs.Words.{texts}
use Rattle.ak_script.specs.Forms.{FewTexts, texts_behind}
use Rattle.ak_script.specs.Seen.{items_of}
use Rattle.ak_script.proofs.form.launch.texts_in.Given as goal

abbrev pub invariant-loop-word : goal.invariant-loop-word
invariant-loop-word l =
    record {
      all : texts_behind (limited_map items_of l.read) (texts (drop l.word-index l.words)) ≡ texts_behind (Within []) (texts l.words);
      few : FewTexts (limited_map items_of l.read);
    }
