-- What holds of every history of a reply book.
use Rattle.std.specs.Prelude.{◌≡◌, ℕ, ◌≤◌, List, ◌∷◌, ◌++◌, count_by}
use Rattle.ak_port.specs.declared.reply_entry.ReplyEntry.{ReplyEntry}
use Rattle.ak_port.specs.declared.reply_entry.ReplyEvent.TheVariants.{Taken}
use Rattle.ak_port.specs.Reply.{IsLegal, settles, takes, FillsWith}

-- a slot is filled or cancelled at most once
abbrev pub SettledOnce : Type 0
SettledOnce = (entries : List ReplyEntry) (n : ℕ) → IsLegal entries → count_by (λ (entry : ReplyEntry). settles n entry.event) entries ≤ 1

-- it is taken at most once
abbrev pub TakenOnce : Type 0
TakenOnce = (entries : List ReplyEntry) (n : ℕ) → IsLegal entries → count_by (λ (entry : ReplyEntry). takes n entry.event) entries ≤ 1

-- it is taken only after it was filled
abbrev pub TakenAfterFilled : Type 0
TakenAfterFilled =
    (before after : List ReplyEntry) (entry : ReplyEntry) (n : ℕ) → IsLegal (before ++ entry ∷ after) → entry.event ≡ Taken n
    → (flat : List ℕ) × FillsWith n flat before
