-- Exactly the words that say a statement are read as it, by what each form says.
use Rattle.std.proofs.Common.{◌≡◌, ℕ, Bool, true, false, if◌then◌else◌, List, [], ◌∷◌, ◌++◌, codes, Option, Some, None, Result, Ok, Err, refl, ap, sym, subst, ◌∙◌}
use Rattle.std.specs.Str.{bytes_eq}
use Rattle.std.proofs.lemmas.Slice.Eq.{bytes_eq-Decides}
use Rattle.ak_base.specs.declared.ending.RefusalKind.{RefusalKind}
use Rattle.ak_base.specs.declared.ending.RefusalKind.TheVariants as refusal
use Rattle.ak_base.specs.declared.limited.Limited.TheVariants.{Within}
use Rattle.ak_input.specs.declared.line.Word.{Word}
use Rattle.ak_describe.specs.Pass.{then_read}
use Rattle.ak_describe.specs.Words.{texts}
use Rattle.ak_hey.specs.Grammar.{IsHey}
use Rattle.ak_hey.specs.Laws.{SaidIsRead, RefusedAtFirstBad}
use Rattle.ak_script.specs.declared.verb.Verb.{Verb}
use Rattle.ak_script.specs.declared.verb.Verb.TheVariants as verb
use Rattle.ak_script.specs.Forms.{launch_of, hey_of, post_of, lock_of, verb_of, said_by, statement_of, said_in_session, session_line_of}
use Rattle.ak_script.specs.Says.{SaysStatement, SaysSessionLine, StatementsAreRead, SessionLinesAreRead, BadHeysAreTold, BadHeysInSessionsAreTold}
use Rattle.ak_script.specs.Statement.{LaunchData, HeyData, PostData, LockData, SessionLineData, hey_line, post_line, lock_line, StatementData, launch_statement, hey_statement, post_statement, lock_statement, together_statement}
use Rattle.ak_script.proofs.Heys.{hey_takes, hey_again, hey_told}
use Rattle.ak_script.proofs.Launches.{launch_takes, launch_again}
use Rattle.ak_script.proofs.Locks.{lock_takes, lock_again}
use Rattle.ak_script.proofs.Outcomes.{bound}
use Rattle.ak_script.proofs.Posts.{post_takes, post_again}

-- ---- the first word
abbrev word_of : Verb → List ℕ
word_of verb.Launch = codes "launch"
word_of verb.Hey = codes "hey"
word_of verb.Post = codes "post"
word_of verb.Lock = codes "lock"

pub verb_is : (word : List ℕ) (v : Verb) → verb_of word ≡ Some v → word ≡ word_of v
verb_is word v e = by_launch (bytes_eq word (codes "launch")) refl e where
  is : (key : List ℕ) → bytes_eq word key ≡ true → word ≡ key
  is key t = (bytes_eq-Decides word key).0 t

  same : (u : Verb) → word ≡ word_of u → Some u ≡ Some v → word ≡ word_of v
  same u at f = let equal : u ≡ v = cc in at ∙ ap word_of equal

  by_lock : (b : Bool) → bytes_eq word (codes "lock") ≡ b → (if b then Some verb.Lock else None) ≡ Some v → word ≡ word_of v
  by_lock true t f = same verb.Lock (is (codes "lock") t) f
  by_lock false t f = absurd cc

  by_post : (b : Bool) → bytes_eq word (codes "post") ≡ b
      → (if b then Some verb.Post else if bytes_eq word (codes "lock") then Some verb.Lock else None) ≡ Some v → word ≡ word_of v
  by_post true t f = same verb.Post (is (codes "post") t) f
  by_post false t f = by_lock (bytes_eq word (codes "lock")) refl f

  by_hey : (b : Bool) → bytes_eq word (codes "hey") ≡ b
      → (if b then Some verb.Hey else if bytes_eq word (codes "post") then Some verb.Post else if bytes_eq word (codes "lock") then Some verb.Lock else None) ≡ Some v → word ≡ word_of v
  by_hey true t f = same verb.Hey (is (codes "hey") t) f
  by_hey false t f = by_post (bytes_eq word (codes "post")) refl f

  by_launch : (b : Bool) → bytes_eq word (codes "launch") ≡ b
      → (if b then Some verb.Launch else if bytes_eq word (codes "hey") then Some verb.Hey else if bytes_eq word (codes "post") then Some verb.Post else if bytes_eq word (codes "lock") then Some verb.Lock else None) ≡ Some v → word ≡ word_of v
  by_launch true t f = same verb.Launch (is (codes "launch") t) f
  by_launch false t f = by_hey (bytes_eq word (codes "hey")) refl f

-- ---- what the words say
taken : SaidIsRead → (word : Word) (words : List Word) (x : StatementData) (o : Option Verb)
    → verb_of word.bytes ≡ o → said_by o (word ∷ words) (texts words) ≡ Ok x → SaysStatement (texts (word ∷ words)) x
taken law word words x None is e = absurd cc
taken law word words x (Some verb.Launch) is e =
    let b = bound (launch_of (texts words)) (λ (s : LaunchData). Ok (launch_statement s)) x e in
    let same : launch_statement b.value ≡ x = cc in
    let first : texts (word ∷ words) ≡ codes "launch" ∷ texts words = ap (λ (w : List ℕ). w ∷ texts words) (verb_is word.bytes verb.Launch is) in
    subst (SaysStatement (texts (word ∷ words))) same (texts words, first, launch_takes (texts words) b.value b.is)
taken law word words x (Some verb.Hey) is e =
    let b = bound (hey_of (word ∷ words)) (λ (s : HeyData). Ok (hey_statement s)) x e in
    let same : hey_statement b.value ≡ x = cc in
    subst (SaysStatement (texts (word ∷ words))) same (hey_takes law (word ∷ words) b.value b.is)
taken law word words x (Some verb.Post) is e =
    let b = bound (post_of (texts words)) (λ (s : PostData). Ok (post_statement s)) x e in
    let same : post_statement b.value ≡ x = cc in
    let first : texts (word ∷ words) ≡ codes "post" ∷ texts words = ap (λ (w : List ℕ). w ∷ texts words) (verb_is word.bytes verb.Post is) in
    subst (SaysStatement (texts (word ∷ words))) same (texts words, first, post_takes (texts words) b.value b.is)
taken law word words x (Some verb.Lock) is e =
    let b = bound (lock_of (texts words)) (λ (s : LockData). Ok (lock_statement s)) x e in
    let same : lock_statement b.value ≡ x = cc in
    let first : texts (word ∷ words) ≡ codes "lock" ∷ texts words = ap (λ (w : List ℕ). w ∷ texts words) (verb_is word.bytes verb.Lock is) in
    subst (SaysStatement (texts (word ∷ words))) same (texts words, first, lock_takes (texts words) b.value b.is)

takes : SaidIsRead → (words : List Word) (x : StatementData) → statement_of words ≡ Ok x → SaysStatement (texts words) x
unfolding statement_of
takes law [] x e = absurd cc
takes law (word ∷ words) x e = taken law word words x (verb_of word.bytes) refl e

-- ---- and again: words whose first one is a key
pub by_verb : (words : List Word) (rest : List (List ℕ)) (v : Verb) (key : List ℕ) → verb_of key ≡ Some v → texts words ≡ key ∷ rest
    → statement_of words ≡ said_by (Some v) words rest
unfolding statement_of
by_verb [] rest v key is at = absurd cc
by_verb (word ∷ words) rest v key is at =
    let first : word.bytes ≡ key = cc in
    let behind : texts words ≡ rest = cc in
    ap (λ (w : List ℕ). said_by (verb_of w) (word ∷ words) (texts words)) first
    ∙ ap (λ (o : Option Verb). said_by o (word ∷ words) (texts words)) is
    ∙ ap (λ (ws : List (List ℕ)). said_by (Some v) (word ∷ words) ws) behind

-- all words of a hey line
hey_words : (words : List (List ℕ)) (s : HeyData) → IsHey words s.app (Within s.message) → (rest : List (List ℕ)) × (words ≡ codes "hey" ∷ rest)
hey_words words s p = (p.app_word ∷ p.verb ∷ (p.spec_part ++ (p.data_part ++ p.field_part)), p.all)

again : SaidIsRead → (words : List Word) (x : StatementData) → SaysStatement (texts words) x → statement_of words ≡ Ok x
again law words (launch_statement s) p =
    by_verb words p.0 verb.Launch (codes "launch") refl p.1 ∙ ap (λ (r : Result LaunchData RefusalKind). then_read r (λ (x : LaunchData). Ok (launch_statement x))) (launch_again p.0 s p.2)
again law words (hey_statement s) p =
    let rest = hey_words (texts words) s p in
    by_verb words rest.0 verb.Hey (codes "hey") refl rest.1 ∙ ap (λ (r : Result HeyData RefusalKind). then_read r (λ (x : HeyData). Ok (hey_statement x))) (hey_again law words s p)
again law words (post_statement s) p =
    by_verb words p.0 verb.Post (codes "post") refl p.1 ∙ ap (λ (r : Result PostData RefusalKind). then_read r (λ (x : PostData). Ok (post_statement x))) (post_again p.0 s p.2)
again law words (lock_statement s) p =
    by_verb words p.0 verb.Lock (codes "lock") refl p.1 ∙ ap (λ (r : Result LockData RefusalKind). then_read r (λ (x : LockData). Ok (lock_statement x))) (lock_again p.0 s p.2)
again law words (together_statement s) p = absurd p

pub statements_are_read : SaidIsRead → StatementsAreRead
statements_are_read law words x = (takes law words x, again law words x)

-- ---- the same in a session
taken_in : SaidIsRead → (word : Word) (words : List Word) (x : SessionLineData) (o : Option Verb)
    → verb_of word.bytes ≡ o → said_in_session o (word ∷ words) (texts words) ≡ Ok x → SaysSessionLine (texts (word ∷ words)) x
taken_in law word words x None is e = absurd cc
taken_in law word words x (Some verb.Launch) is e = absurd cc
taken_in law word words x (Some verb.Hey) is e =
    let b = bound (hey_of (word ∷ words)) (λ (s : HeyData). Ok (hey_line s)) x e in
    let same : hey_line b.value ≡ x = cc in
    subst (SaysSessionLine (texts (word ∷ words))) same (hey_takes law (word ∷ words) b.value b.is)
taken_in law word words x (Some verb.Post) is e =
    let b = bound (post_of (texts words)) (λ (s : PostData). Ok (post_line s)) x e in
    let same : post_line b.value ≡ x = cc in
    let first : texts (word ∷ words) ≡ codes "post" ∷ texts words = ap (λ (w : List ℕ). w ∷ texts words) (verb_is word.bytes verb.Post is) in
    subst (SaysSessionLine (texts (word ∷ words))) same (texts words, first, post_takes (texts words) b.value b.is)
taken_in law word words x (Some verb.Lock) is e =
    let b = bound (lock_of (texts words)) (λ (s : LockData). Ok (lock_line s)) x e in
    let same : lock_line b.value ≡ x = cc in
    let first : texts (word ∷ words) ≡ codes "lock" ∷ texts words = ap (λ (w : List ℕ). w ∷ texts words) (verb_is word.bytes verb.Lock is) in
    subst (SaysSessionLine (texts (word ∷ words))) same (texts words, first, lock_takes (texts words) b.value b.is)

takes_in : SaidIsRead → (words : List Word) (x : SessionLineData) → session_line_of words ≡ Ok x → SaysSessionLine (texts words) x
unfolding session_line_of
takes_in law [] x e = absurd cc
takes_in law (word ∷ words) x e = taken_in law word words x (verb_of word.bytes) refl e

pub by_verb_in : (words : List Word) (rest : List (List ℕ)) (v : Verb) (key : List ℕ) → verb_of key ≡ Some v → texts words ≡ key ∷ rest
    → session_line_of words ≡ said_in_session (Some v) words rest
unfolding session_line_of
by_verb_in [] rest v key is at = absurd cc
by_verb_in (word ∷ words) rest v key is at =
    let first : word.bytes ≡ key = cc in
    let behind : texts words ≡ rest = cc in
    ap (λ (w : List ℕ). said_in_session (verb_of w) (word ∷ words) (texts words)) first
    ∙ ap (λ (o : Option Verb). said_in_session o (word ∷ words) (texts words)) is
    ∙ ap (λ (ws : List (List ℕ)). said_in_session (Some v) (word ∷ words) ws) behind

again_in : SaidIsRead → (words : List Word) (x : SessionLineData) → SaysSessionLine (texts words) x → session_line_of words ≡ Ok x
again_in law words (hey_line s) p =
    let rest = hey_words (texts words) s p in
    by_verb_in words rest.0 verb.Hey (codes "hey") refl rest.1 ∙ ap (λ (r : Result HeyData RefusalKind). then_read r (λ (x : HeyData). Ok (hey_line x))) (hey_again law words s p)
again_in law words (post_line s) p =
    by_verb_in words p.0 verb.Post (codes "post") refl p.1 ∙ ap (λ (r : Result PostData RefusalKind). then_read r (λ (x : PostData). Ok (post_line x))) (post_again p.0 s p.2)
again_in law words (lock_line s) p =
    by_verb_in words p.0 verb.Lock (codes "lock") refl p.1 ∙ ap (λ (r : Result LockData RefusalKind). then_read r (λ (x : LockData). Ok (lock_line x))) (lock_again p.0 s p.2)

pub session_lines_are_read : SaidIsRead → SessionLinesAreRead
session_lines_are_read law words x = (takes_in law words x, again_in law words x)

-- ---- a line that begins with `hey` and is no hey line
refused_before : (r : Result HeyData RefusalKind) (column : ℕ) → then_read r (λ (s : HeyData). Ok (hey_statement s)) ≡ Err (refusal.BadHey column) → r ≡ Err (refusal.BadHey column)
refused_before (Ok x) column e = absurd cc
refused_before (Err kind) column e = cc

pub bad_heys_are_told : RefusedAtFirstBad → BadHeysAreTold
bad_heys_are_told law words rest column at e =
    hey_told law words column (refused_before (hey_of words) column (sym (by_verb words rest verb.Hey (codes "hey") refl at) ∙ e))

refused_inside : (r : Result HeyData RefusalKind) (column : ℕ) → then_read r (λ (s : HeyData). Ok (hey_line s)) ≡ Err (refusal.BadHey column) → r ≡ Err (refusal.BadHey column)
refused_inside (Ok x) column e = absurd cc
refused_inside (Err kind) column e = cc

pub bad_heys_in_sessions_are_told : RefusedAtFirstBad → BadHeysInSessionsAreTold
bad_heys_in_sessions_are_told law words rest column at e =
    hey_told law words column (refused_inside (hey_of words) column (sym (by_verb_in words rest verb.Hey (codes "hey") refl at) ∙ e))
