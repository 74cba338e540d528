-- A line is told as a bad hey line exactly where it has a first word with which none goes on, or ends too early; and as one past a limit
-- exactly where it is a hey line whose message passes one.
use Rattle.std.proofs.Common.{◌≡◌, ◌⊎◌, inl, inr, ℕ, List, [], ◌∷◌, ◌++◌, Result, Ok, Err, refl, ap, sym, subst, ◌∙◌, append_assoc}
use Rattle.std.proofs.lemmas.List.{append-nil, map-append}
use Rattle.ak_base.specs.declared.app_word.AppWord.{AppWord}
use Rattle.ak_base.specs.declared.ending.RefusalKind.{RefusalKind}
use Rattle.ak_base.specs.declared.ending.RefusalKind.TheVariants as refusal
use Rattle.ak_base.specs.declared.limited.Limited.{Limited}
use Rattle.ak_base.specs.declared.limited.Limited.TheVariants.{Within, Over}
use Rattle.ak_input.specs.declared.line.Word.{Word}
use Rattle.ak_message.specs.Message.{MessageData}
use Rattle.ak_describe.specs.Words.{texts}
use Rattle.ak_hey.specs.Grammar.{IsHey, Begins}
use Rattle.ak_hey.specs.Hey as lines
use Rattle.ak_hey.specs.Laws.{SaidIsRead, RefusedAtFirstBad, IsFirstBad, EndsEarly}
use Rattle.ak_script.specs.Forms.{hey_from, hey_of}
use Rattle.ak_script.specs.Statement.{HeyData}

-- ---- some hey line begins with words
begins_before : (front more : List (List ℕ)) → Begins (front ++ more) → Begins front
begins_before front more b = (more ++ b.0, b.1, b.2, subst (λ (ws : List (List ℕ)). IsHey ws b.1 b.2) (append_assoc front more b.0) b.3)

texts_of : (front more : List Word) → texts (front ++ more) ≡ texts front ++ texts more
texts_of front more = map-append (λ (w : Word). w.bytes) front more

-- those up to a word, where all words are these
up_to : (words front : List Word) (word : Word) (behind : List Word) → words ≡ front ++ word ∷ behind → Begins (texts words) → Begins (texts (front ++ word ∷ []))
up_to words front word behind all b =
    let whole : texts words ≡ texts (front ++ word ∷ []) ++ texts behind =
    ap texts (all ∙ sym (append_assoc front (word ∷ []) behind)) ∙ texts_of (front ++ word ∷ []) behind in
    begins_before (texts (front ++ word ∷ [])) (texts behind) (subst Begins whole b)

-- ---- the first bad word is one
-- two places in words are one, or one stands before the other
data Places (front : List Word) (word : Word) (other : List Word) (another : Word) : Type 0 where
  same : word ≡ another → Places front word other another
  earlier : (between : List Word) → other ≡ front ++ word ∷ between → Places front word other another
  later : (between : List Word) → front ≡ other ++ another ∷ between → Places front word other another

one_more : (first : Word) (front : List Word) (word : Word) (other : List Word) (another : Word) → Places front word other another → Places (first ∷ front) word (first ∷ other) another
one_more first front word other another (same e) = same e
one_more first front word other another (earlier between e) = earlier between (ap (λ (ws : List Word). first ∷ ws) e)
one_more first front word other another (later between e) = later between (ap (λ (ws : List Word). first ∷ ws) e)

head_is : (a b : Word) (vs ws : List Word) → a ∷ vs ≡ b ∷ ws → a ≡ b
head_is a b vs ws e = cc

tail_is : (a b : Word) (vs ws : List Word) → a ∷ vs ≡ b ∷ ws → vs ≡ ws
tail_is a b vs ws e = cc

places : (front : List Word) (word : Word) (rest other : List Word) (another : Word) (more : List Word) → front ++ word ∷ rest ≡ other ++ another ∷ more → Places front word other another
places [] word rest [] another more e = same (head_is word another rest more e)
places [] word rest (o ∷ other) another more e = earlier other (ap (λ (w : Word). w ∷ other) (sym (head_is word o rest (other ++ another ∷ more) e)))
places (f ∷ front) word rest [] another more e = later front (ap (λ (w : Word). w ∷ front) (head_is f another (front ++ word ∷ rest) more e))
places (f ∷ front) word rest (o ∷ other) another more e =
    let first = head_is f o (front ++ word ∷ rest) (other ++ another ∷ more) e in
    let further = places front word rest other another more (tail_is f o (front ++ word ∷ rest) (other ++ another ∷ more) e) in
    subst (λ (w : Word). Places (f ∷ front) word (w ∷ other) another) first (one_more f front word other another further)

one_column : (words : List Word) (column other : ℕ) → IsFirstBad words column → IsFirstBad words other → column ≡ other
one_column words column other p q = by_place (places p.front p.word p.behind q.front q.word q.behind (sym p.all ∙ q.all)) where
  by_place : Places p.front p.word q.front q.word → column ≡ other
  by_place (same e) = p.column_is ∙ ap (λ (w : Word). w.column) e ∙ sym q.column_is
  by_place (earlier between e) = absurd (p.bad (up_to q.front p.front p.word between e q.begins))
  by_place (later between e) = absurd (q.bad (up_to p.front q.front q.word between e p.begins))

-- words with a first bad one do not end too early
bad_or_early : (words : List Word) (end column other : ℕ) → IsFirstBad words column → EndsEarly end words other → ⊥
bad_or_early words end column other p q = p.bad (up_to words p.front p.word p.behind p.all q.begins)

same_place : (words : List Word) (end column other : ℕ) → IsFirstBad words column ⊎ EndsEarly end words column → IsFirstBad words other ⊎ EndsEarly end words other → column ≡ other
same_place words end column other (inl p) (inl q) = one_column words column other p q
same_place words end column other (inl p) (inr q) = absurd (bad_or_early words end column other p q)
same_place words end column other (inr p) (inl q) = absurd (bad_or_early words end other column q p)
same_place words end column other (inr p) (inr q) = p.column_is ∙ sym q.column_is

-- and they are no hey line
no_hey : (words : List Word) (end column : ℕ) (app : AppWord) (message : Limited MessageData) → IsFirstBad words column ⊎ EndsEarly end words column → IsHey (texts words) app message → ⊥
no_hey words end column app message (inl p) is =
    p.bad (up_to words p.front p.word p.behind p.all ([], app, message, subst (λ (ws : List (List ℕ)). IsHey ws app message) (sym (append-nil (texts words))) is))
no_hey words end column app message (inr p) is = p.none app message is

-- ---- what is told
abbrev Read : Type 0
Read = Result (AppWord × Limited MessageData) ℕ

told_by : SaidIsRead → RefusedAtFirstBad → (words : List Word) (column : ℕ) (read : Read) → lines.hey_of (lines.end_of words) words ≡ read
    → IsFirstBad words column ⊎ EndsEarly (lines.end_of words) words column → hey_from read ≡ Err (refusal.BadHey column)
told_by said refused words column (Ok (app, message)) is at =
    absurd (no_hey words (lines.end_of words) column app message at ((said (lines.end_of words) words app message).0 is))
told_by said refused words column (Err told) is at =
    ap (λ (c : ℕ). told_at c) (same_place words (lines.end_of words) told column (refused (lines.end_of words) words told is) at)
  where
    told_at : ℕ → Result HeyData RefusalKind
    told_at c = Err (refusal.BadHey c)

pub bad_told : SaidIsRead → RefusedAtFirstBad → (words : List Word) (column : ℕ) → IsFirstBad words column ⊎ EndsEarly (lines.end_of words) words column → hey_of words ≡ Err (refusal.BadHey column)
bad_told said refused words column at = told_by said refused words column (lines.hey_of (lines.end_of words) words) refl at

pub long_told : SaidIsRead → (words : List Word) (app : AppWord) → IsHey (texts words) app Over → hey_of words ≡ Err refusal.Limit
long_told said words app is = ap hey_from ((said (lines.end_of words) words app Over).1 is)

-- why a hey line is refused
pub data HeyRefused (words : List Word) (kind : RefusalKind) : Type 0 where
  bad : (column : ℕ) → kind ≡ refusal.BadHey column → IsFirstBad words column ⊎ EndsEarly (lines.end_of words) words column → HeyRefused words kind
  long : (app : AppWord) → kind ≡ refusal.Limit → IsHey (texts words) app Over → HeyRefused words kind

refused_by : SaidIsRead → RefusedAtFirstBad → (words : List Word) (kind : RefusalKind) (read : Read) → lines.hey_of (lines.end_of words) words ≡ read → hey_from read ≡ Err kind → HeyRefused words kind
refused_by said refused words kind (Err column) is e = bad column (cc) (refused (lines.end_of words) words column is)
refused_by said refused words kind (Ok (app, Over)) is e = long app (cc) ((said (lines.end_of words) words app Over).0 is)
refused_by said refused words kind (Ok (app, Within m)) is e = absurd cc

pub hey_refused : SaidIsRead → RefusedAtFirstBad → (words : List Word) (kind : RefusalKind) → hey_of words ≡ Err kind → HeyRefused words kind
hey_refused said refused words kind e = refused_by said refused words kind (lines.hey_of (lines.end_of words) words) refl e
