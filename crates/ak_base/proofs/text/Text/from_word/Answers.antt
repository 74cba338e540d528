-- A word is a text, so nothing but memory can be missing.
use Rattle.std.proofs.Common.{ap, Err}
use Rattle.ak_base.proofs.Words.{only_memory}
use Rattle.ak_base.proofs.text.Text.from_word.Goals as goal
use Rattle.ak_base.proofs.text.Text.from_word.Goals.{in-NoMemory, in_default}

pub prove-unreachable-requires : goal.prove-unreachable-requires
prove-unreachable-requires c =
    let e = c.in-Err.ensures in
    elim c.match-matches.branch [
      | in-NoMemory w ↦ cc
      | in_default w ↦ w.in_default.not-NoMemory (only_memory c.in-Err.fault c.args.word.now c.requires (λ h. e.too_long.0 (ap Err h)) (λ h. (e.not_utf8.0 (ap Err h)).1) (λ h. (e.zero.0 (ap Err h)).2))
    ]
