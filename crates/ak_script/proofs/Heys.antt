-- A hey line is read as a statement exactly where it says its message.
use Rattle.std.proofs.Common.{◌≡◌, ◌⊎◌, ℕ, List, Result, Ok, Err, refl, ap, subst}
use Rattle.ak_base.specs.declared.app_word.AppWord.{AppWord}
use Rattle.ak_base.specs.declared.ending.RefusalKind.TheVariants as refusal
use Rattle.ak_base.specs.declared.limited.Limited.{Limited}
use Rattle.ak_base.specs.declared.limited.Limited.TheVariants.{Within, Over}
use Rattle.ak_input.specs.declared.line.Word.{Word}
use Rattle.ak_message.specs.Message.{MessageData}
use Rattle.ak_describe.specs.Words.{texts}
use Rattle.ak_hey.specs.Grammar.{IsHey}
use Rattle.ak_hey.specs.Hey as lines
use Rattle.ak_hey.specs.Laws.{SaidIsRead, RefusedAtFirstBad, IsFirstBad, EndsEarly}
use Rattle.ak_script.specs.Forms.{hey_from, hey_of}
use Rattle.ak_script.specs.Statement.{HeyData}

read_is : (law : SaidIsRead) (words : List Word) (x : HeyData) (read : Result (AppWord × Limited MessageData) ℕ)
    → lines.hey_of (lines.end_of words) words ≡ read → hey_from read ≡ Ok x → IsHey (texts words) x.app (Within x.message)
read_is law words x (Err column) is e = absurd cc
read_is law words x (Ok (app, Over)) is e = absurd cc
read_is law words x (Ok (app, Within m)) is e =
    let said : HeyData = record { app = app; message = m } in
    let same : said ≡ x = cc in
    subst (λ (s : HeyData). IsHey (texts words) s.app (Within s.message)) same ((law (lines.end_of words) words app (Within m)).0 is)

pub hey_takes : SaidIsRead → (words : List Word) (x : HeyData) → hey_of words ≡ Ok x → IsHey (texts words) x.app (Within x.message)
hey_takes law words x e = read_is law words x (lines.hey_of (lines.end_of words) words) refl e

pub hey_again : SaidIsRead → (words : List Word) (s : HeyData) → IsHey (texts words) s.app (Within s.message) → hey_of words ≡ Ok s
hey_again law words s p = ap hey_from ((law (lines.end_of words) words s.app (Within s.message)).1 p)

-- ---- what is no hey line
told_at : (law : RefusedAtFirstBad) (words : List Word) (column : ℕ) (read : Result (AppWord × Limited MessageData) ℕ)
    → lines.hey_of (lines.end_of words) words ≡ read → hey_from read ≡ Err (refusal.BadHey column) → IsFirstBad words column ⊎ EndsEarly (lines.end_of words) words column
told_at law words column (Ok (app, Over)) is e = absurd cc
told_at law words column (Ok (app, Within m)) is e = absurd cc
told_at law words column (Err told) is e =
    let same : told ≡ column = cc in
    subst (λ (c : ℕ). IsFirstBad words c ⊎ EndsEarly (lines.end_of words) words c) same (law (lines.end_of words) words told is)

pub hey_told : RefusedAtFirstBad → (words : List Word) (column : ℕ) → hey_of words ≡ Err (refusal.BadHey column) → IsFirstBad words column ⊎ EndsEarly (lines.end_of words) words column
hey_told law words column e = told_at law words column (lines.hey_of (lines.end_of words) words) refl e
