-- What is told of the words of a statement is exactly what is wrong with them, by what each form tells.
use Rattle.std.proofs.Common.{◌≡◌, ◌≢◌, ◌↔◌, ◌⊎◌, inl, inr, ℕ, List, [], ◌∷◌, codes, Option, Some, None, Result, Ok, Err, refl, ap, sym, subst, ◌∙◌}
use Rattle.ak_base.specs.declared.app_word.AppWord.{AppWord}
use Rattle.ak_base.specs.declared.ending.RefusalKind.{RefusalKind}
use Rattle.ak_base.specs.declared.ending.RefusalKind.TheVariants as refusal
use Rattle.ak_base.specs.declared.limited.Limited.TheVariants.{Over}
use Rattle.ak_input.specs.declared.line.Word.{Word}
use Rattle.ak_describe.specs.Pass.{then_read}
use Rattle.ak_describe.specs.Words.{texts}
use Rattle.ak_hey.specs.Grammar.{IsHey}
use Rattle.ak_hey.specs.Laws.{SaidIsRead, RefusedAtFirstBad}
use Rattle.ak_script.specs.declared.verb.Verb.{Verb}
use Rattle.ak_script.specs.declared.verb.Verb.TheVariants as verb
use Rattle.ak_script.specs.Faulty.{LaunchPasses, PostPasses, Key, kit_key, script_key, launch_key, hey_key, post_key, lock_key, together_key, session_key, end_key, word_of, IsStatementKey, IsSessionKey, AreOfForm, PassLimit, Opens, IsUnknown, HasFault, StatementFaultsAreTold, SessionFaultsAreTold, FirstBadIsTold, LongHeysAreLimits}
use Rattle.ak_script.specs.Forms.{launch_of, hey_of, post_of, lock_of, verb_of, said_by, statement_of, said_in_session, session_line_of}
use Rattle.ak_script.specs.Says.{SaysLaunch, SaysPost, SaysLock}
use Rattle.ak_script.specs.Statement.{LaunchData, PostData, LockData, hey_line, post_line, lock_line, launch_statement, hey_statement, post_statement, lock_statement}
use Rattle.ak_script.proofs.BadHeys.{HeyRefused, bad, long, bad_told, long_told, hey_refused}
use Rattle.ak_script.proofs.Launches.{launch_takes, launch_again}
use Rattle.ak_script.proofs.Locks.{lock_takes, lock_again}
use Rattle.ak_script.proofs.PastLimits.{Refused, launch_past, launch_refused, lock_refused, post_past, post_refused}
use Rattle.ak_script.proofs.Posts.{post_takes, post_again}
use Rattle.ak_script.proofs.Saying.{by_verb, by_verb_in, verb_is}

-- ---- a line that is read by one of its forms
record Ends {S X : Type 0} (line : Result S RefusalKind) (form : Result X RefusalKind) : Type 0 where
  made : X → S
  line_is : line ≡ then_read form (λ (x : X). Ok (made x))

after_form : {S X : Type 0} (form : Result X RefusalKind) (made : X → S) (kind : RefusalKind) → then_read form (λ (x : X). Ok (made x)) ≡ Err kind → form ≡ Err kind
after_form (Ok x) made kind e = absurd cc
after_form (Err told) made kind e = cc

form_refused : {S X : Type 0} (line : Result S RefusalKind) (form : Result X RefusalKind) (kind : RefusalKind) → Ends line form → line ≡ Err kind → form ≡ Err kind
form_refused line form kind ends e = after_form form ends.made kind (sym ends.line_is ∙ e)

line_refused : {S X : Type 0} (line : Result S RefusalKind) (form : Result X RefusalKind) (kind : RefusalKind) → Ends line form → form ≡ Err kind → line ≡ Err kind
line_refused {S} {X} line form kind ends e = ends.line_is ∙ ap (λ (r : Result X RefusalKind). then_read r (λ (x : X). Ok (ends.made x))) e

-- ---- what is told of a form
form_told : {X : Type 0} (may : Key → Type 0) (words : List Word) (key : Key) (rest : List (List ℕ)) (kind : RefusalKind) (form : Result X RefusalKind) → Opens may (texts words) key rest → key ≢ hey_key → form ≡ Err kind
    → (AreOfForm key rest → (x : X) × (form ≡ Ok x)) → (PassLimit key rest → form ≡ Err refusal.Limit) → Refused (PassLimit key rest) kind → HasFault may words kind
form_told may words key rest kind form opens no_hey e again past (inl is) =
    subst (HasFault may words) (sym is) (record {
      key = key;
      rest = rest;
      opens = opens;
      no_hey = no_hey;
      no_form = λ says. let read = (again says).1 in absurd (cc (read, e));
      no_limit = λ pass. let told = past pass in absurd (cc (told, e, is));
    })
form_told may words key rest kind form opens no_hey e again past (inr is) =
    subst (HasFault may words) (sym is.0) (record { key = key; rest = rest; opens = opens; pass = is.1 })

by_refused : {X : Type 0} (kind : RefusalKind) (form : Result X RefusalKind) (passes : Type 0) → form ≡ Err kind → ¬ passes → Refused passes kind → form ≡ Err refusal.BadValue
by_refused kind form passes e no_limit (inl is) = e ∙ ap (λ (k : RefusalKind). Err k) is
by_refused kind form passes e no_limit (inr is) = absurd (no_limit is.1)

bad_form : {X : Type 0} (form read : Result X RefusalKind) (says passes : Type 0) → form ≡ read → ((x : X) → form ≡ Ok x → says) → ((kind : RefusalKind) → form ≡ Err kind → Refused passes kind) → ¬ says → ¬ passes → form ≡ Err refusal.BadValue
bad_form form (Ok x) says passes is takes refused no_form no_limit = absurd (no_form (takes x is))
bad_form form (Err kind) says passes is takes refused no_form no_limit = by_refused kind form passes is no_limit (refused kind is)

-- ---- a reader of lines, which may begin so
record Reads {S : Type 0} (read : List Word → Result S RefusalKind) (may : Key → Type 0) : Type 0 where
  statement_key : (key : Key) → may key → IsStatementKey key
  unknown : (words : List Word) → IsUnknown may (texts words) → read words ≡ Err refusal.UnknownLine
  launches : (words : List Word) (rest : List (List ℕ)) → may launch_key → texts words ≡ codes "launch" ∷ rest → Ends (read words) (launch_of rest)
  heys : (words : List Word) (rest : List (List ℕ)) → may hey_key → texts words ≡ codes "hey" ∷ rest → Ends (read words) (hey_of words)
  posts : (words : List Word) (rest : List (List ℕ)) → may post_key → texts words ≡ codes "post" ∷ rest → Ends (read words) (post_of rest)
  locks : (words : List Word) (rest : List (List ℕ)) → may lock_key → texts words ≡ codes "lock" ∷ rest → Ends (read words) (lock_of rest)
  decided : (words : List Word) → IsUnknown may (texts words) ⊎ ((key : Key) × (rest : List (List ℕ)) × Opens may (texts words) key rest)

hey_fault : (may : Key → Type 0) (words : List Word) (rest : List (List ℕ)) (kind : RefusalKind) → Opens may (texts words) hey_key rest → HeyRefused words kind → HasFault may words kind
hey_fault may words rest kind opens (bad column is at) = subst (HasFault may words) (sym is) (record { rest = rest; opens = opens; at = at })
hey_fault may words rest kind opens (long app is says) =
    subst (HasFault may words) (sym is) (record { key = hey_key; rest = rest; opens = opens; pass = (app, subst (λ (ws : List (List ℕ)). IsHey ws app Over) opens.all says) })

opened : {S : Type 0} (read : List Word → Result S RefusalKind) (may : Key → Type 0) (reads : Reads read may) → SaidIsRead → RefusedAtFirstBad → (words : List Word) (kind : RefusalKind) → read words ≡ Err kind
    → (key : Key) (rest : List (List ℕ)) → Opens may (texts words) key rest → IsStatementKey key → HasFault may words kind
opened read may reads said refused words kind e launch_key rest opens is =
    let form = form_refused (read words) (launch_of rest) kind (reads.launches words rest opens.stands opens.all) e in
    form_told may words launch_key rest kind (launch_of rest) opens (λ same. absurd (cc (same))) form (λ f. (f.0, launch_again rest f.0 f.1)) (launch_past rest) (launch_refused rest kind form)
opened read may reads said refused words kind e hey_key rest opens is =
    hey_fault may words rest kind opens (hey_refused said refused words kind (form_refused (read words) (hey_of words) kind (reads.heys words rest opens.stands opens.all) e))
opened read may reads said refused words kind e post_key rest opens is =
    let form = form_refused (read words) (post_of rest) kind (reads.posts words rest opens.stands opens.all) e in
    form_told may words post_key rest kind (post_of rest) opens (λ same. absurd (cc (same))) form (λ f. (f.0, post_again rest f.0 f.1)) (post_past rest) (post_refused rest kind form)
opened read may reads said refused words kind e lock_key rest opens is =
    let form = form_refused (read words) (lock_of rest) kind (reads.locks words rest opens.stands opens.all) e in
    form_told may words lock_key rest kind (lock_of rest) opens (λ same. absurd (cc (same))) form (λ f. (f.0, lock_again rest f.0 f.1)) (λ p. absurd p) (inl (lock_refused rest kind form))
opened read may reads said refused words kind e kit_key rest opens is = absurd is
opened read may reads said refused words kind e script_key rest opens is = absurd is
opened read may reads said refused words kind e together_key rest opens is = absurd is
opened read may reads said refused words kind e session_key rest opens is = absurd is
opened read may reads said refused words kind e end_key rest opens is = absurd is

has_fault : {S : Type 0} (read : List Word → Result S RefusalKind) (may : Key → Type 0) (reads : Reads read may) → SaidIsRead → RefusedAtFirstBad → (words : List Word) (kind : RefusalKind) → read words ≡ Err kind
    → IsUnknown may (texts words) ⊎ ((key : Key) × (rest : List (List ℕ)) × Opens may (texts words) key rest) → HasFault may words kind
has_fault read may reads said refused words kind e (inl none) =
    let told = reads.unknown words none in
    let same : refusal.UnknownLine ≡ kind = cc (told, e) in
    subst (HasFault may words) same none
has_fault read may reads said refused words kind e (inr o) = opened read may reads said refused words kind e o.0 o.1 o.2 (reads.statement_key o.0 o.2.stands)

-- ---- and back
bad_read : {S : Type 0} (read : List Word → Result S RefusalKind) (may : Key → Type 0) (reads : Reads read may) (words : List Word) (key : Key) (rest : List (List ℕ)) → Opens may (texts words) key rest → IsStatementKey key → key ≢ hey_key
    → ¬ (AreOfForm key rest) → ¬ (PassLimit key rest) → read words ≡ Err refusal.BadValue
bad_read read may reads words launch_key rest opens is no_hey no_form no_limit =
    line_refused (read words) (launch_of rest) refusal.BadValue (reads.launches words rest opens.stands opens.all)
    (bad_form (launch_of rest) (launch_of rest) ((s : LaunchData) × SaysLaunch rest s) (LaunchPasses rest) refl (λ s e. (s, launch_takes rest s e)) (launch_refused rest) no_form no_limit)
bad_read read may reads words hey_key rest opens is no_hey no_form no_limit = absurd (no_hey refl)
bad_read read may reads words post_key rest opens is no_hey no_form no_limit =
    line_refused (read words) (post_of rest) refusal.BadValue (reads.posts words rest opens.stands opens.all)
    (bad_form (post_of rest) (post_of rest) ((s : PostData) × SaysPost rest s) (PostPasses rest) refl (λ s e. (s, post_takes rest s e)) (post_refused rest) no_form no_limit)
bad_read read may reads words lock_key rest opens is no_hey no_form no_limit =
    line_refused (read words) (lock_of rest) refusal.BadValue (reads.locks words rest opens.stands opens.all)
    (bad_form (lock_of rest) (lock_of rest) ((s : LockData) × SaysLock rest s) ⊥ refl (λ s e. (s, lock_takes rest s e)) (λ kind e. inl (lock_refused rest kind e)) no_form no_limit)
bad_read read may reads words kit_key rest opens is no_hey no_form no_limit = absurd is
bad_read read may reads words script_key rest opens is no_hey no_form no_limit = absurd is
bad_read read may reads words together_key rest opens is no_hey no_form no_limit = absurd is
bad_read read may reads words session_key rest opens is no_hey no_form no_limit = absurd is
bad_read read may reads words end_key rest opens is no_hey no_form no_limit = absurd is

over_read : {S : Type 0} (read : List Word → Result S RefusalKind) (may : Key → Type 0) (reads : Reads read may) → SaidIsRead → (words : List Word) (key : Key) (rest : List (List ℕ)) → Opens may (texts words) key rest → PassLimit key rest
    → read words ≡ Err refusal.Limit
over_read read may reads said words launch_key rest opens pass =
    line_refused (read words) (launch_of rest) refusal.Limit (reads.launches words rest opens.stands opens.all) (launch_past rest pass)
over_read read may reads said words hey_key rest opens pass =
    line_refused (read words) (hey_of words) refusal.Limit (reads.heys words rest opens.stands opens.all)
    (long_told said words pass.0 (subst (λ (ws : List (List ℕ)). IsHey ws pass.0 Over) (sym opens.all) pass.1))
over_read read may reads said words post_key rest opens pass =
    line_refused (read words) (post_of rest) refusal.Limit (reads.posts words rest opens.stands opens.all) (post_past rest pass)
over_read read may reads said words lock_key rest opens pass = absurd pass
over_read read may reads said words kit_key rest opens pass = absurd pass
over_read read may reads said words script_key rest opens pass = absurd pass
over_read read may reads said words together_key rest opens pass = absurd pass
over_read read may reads said words session_key rest opens pass = absurd pass
over_read read may reads said words end_key rest opens pass = absurd pass

fault_told : {S : Type 0} (read : List Word → Result S RefusalKind) (may : Key → Type 0) (reads : Reads read may) → SaidIsRead → RefusedAtFirstBad → (words : List Word) (kind : RefusalKind) → HasFault may words kind → read words ≡ Err kind
fault_told read may reads said refused words refusal.UnknownLine f = reads.unknown words f
fault_told read may reads said refused words (refusal.BadHey column) f =
    line_refused (read words) (hey_of words) (refusal.BadHey column) (reads.heys words f.rest f.opens.stands f.opens.all) (bad_told said refused words column f.at)
fault_told read may reads said refused words refusal.BadValue f =
    bad_read read may reads words f.key f.rest f.opens (reads.statement_key f.key f.opens.stands) f.no_hey f.no_form f.no_limit
fault_told read may reads said refused words refusal.Limit f = over_read read may reads said words f.key f.rest f.opens f.pass
fault_told read may reads said refused words refusal.InputTooLong f = absurd f
fault_told read may reads said refused words refusal.NotUtf8 f = absurd f
fault_told read may reads said refused words refusal.BadWord f = absurd f
fault_told read may reads said refused words refusal.NameInUse f = absurd f
fault_told read may reads said refused words refusal.Unfinished f = absurd f
fault_told read may reads said refused words refusal.UnknownName f = absurd f
fault_told read may reads said refused words refusal.ChainLoop f = absurd f
fault_told read may reads said refused words refusal.AskOrder f = absurd f

both_ways : {S : Type 0} (read : List Word → Result S RefusalKind) (may : Key → Type 0) (reads : Reads read may) → SaidIsRead → RefusedAtFirstBad → (words : List Word) (kind : RefusalKind) → (read words ≡ Err kind) ↔ HasFault may words kind
both_ways read may reads said refused words kind =
    (λ e. has_fault read may reads said refused words kind e (reads.decided words), λ f. fault_told read may reads said refused words kind f)

-- ---- the first word
key_of : Verb → Key
key_of verb.Launch = launch_key
key_of verb.Hey = hey_key
key_of verb.Post = post_key
key_of verb.Lock = lock_key

pub verb_of_key : (key : Key) → IsStatementKey key → (v : Verb) × (verb_of (word_of key) ≡ Some v)
verb_of_key launch_key is = (verb.Launch, refl)
verb_of_key hey_key is = (verb.Hey, refl)
verb_of_key post_key is = (verb.Post, refl)
verb_of_key lock_key is = (verb.Lock, refl)
verb_of_key kit_key is = absurd is
verb_of_key script_key is = absurd is
verb_of_key together_key is = absurd is
verb_of_key session_key is = absurd is
verb_of_key end_key is = absurd is

pub in_statement : (key : Key) → IsSessionKey key → IsStatementKey key
in_statement hey_key is = tt
in_statement post_key is = tt
in_statement lock_key is = tt
in_statement launch_key is = absurd is
in_statement kit_key is = absurd is
in_statement script_key is = absurd is
in_statement together_key is = absurd is
in_statement session_key is = absurd is
in_statement end_key is = absurd is

-- a first word that is none of them
no_verb : (may : Key → Type 0) → ((key : Key) → may key → IsStatementKey key) → (word : Word) (words : List Word) → verb_of word.bytes ≡ None → IsUnknown may (texts (word ∷ words))
no_verb may statement_key word words none key rest opens =
    let v = verb_of_key key (statement_key key opens.stands) in
    let first : word.bytes ≡ word_of key = cc (opens.all) in
    let found : verb_of word.bytes ≡ Some v.0 = ap verb_of first ∙ v.1 in
    absurd (cc (none, found))

no_words : (may : Key → Type 0) → IsUnknown may []
no_words may key rest opens = absurd (cc (opens.all))

-- ---- statements
statement_unknown : (words : List Word) → IsUnknown IsStatementKey (texts words) → statement_of words ≡ Err refusal.UnknownLine
unfolding statement_of
statement_unknown [] none = refl
statement_unknown (word ∷ words) none = by_first (verb_of word.bytes) refl where
  by_first : (o : Option Verb) → verb_of word.bytes ≡ o → said_by o (word ∷ words) (texts words) ≡ Err refusal.UnknownLine
  by_first None is = refl
  by_first (Some verb.Launch) is = absurd (none launch_key (texts words) (record { all = ap (λ (w : List ℕ). w ∷ texts words) (verb_is word.bytes verb.Launch is); stands = tt }))
  by_first (Some verb.Hey) is = absurd (none hey_key (texts words) (record { all = ap (λ (w : List ℕ). w ∷ texts words) (verb_is word.bytes verb.Hey is); stands = tt }))
  by_first (Some verb.Post) is = absurd (none post_key (texts words) (record { all = ap (λ (w : List ℕ). w ∷ texts words) (verb_is word.bytes verb.Post is); stands = tt }))
  by_first (Some verb.Lock) is = absurd (none lock_key (texts words) (record { all = ap (λ (w : List ℕ). w ∷ texts words) (verb_is word.bytes verb.Lock is); stands = tt }))

statement_decided : (words : List Word) → IsUnknown IsStatementKey (texts words) ⊎ ((key : Key) × (rest : List (List ℕ)) × Opens IsStatementKey (texts words) key rest)
statement_decided [] = inl (no_words IsStatementKey)
statement_decided (word ∷ words) = by_first (verb_of word.bytes) refl where
  by_first : (o : Option Verb) → verb_of word.bytes ≡ o → IsUnknown IsStatementKey (texts (word ∷ words)) ⊎ ((key : Key) × (rest : List (List ℕ)) × Opens IsStatementKey (texts (word ∷ words)) key rest)
  by_first None is = inl (no_verb IsStatementKey (λ key stands. stands) word words is)
  by_first (Some verb.Launch) is = inr (launch_key, texts words, record { all = ap (λ (w : List ℕ). w ∷ texts words) (verb_is word.bytes verb.Launch is); stands = tt })
  by_first (Some verb.Hey) is = inr (hey_key, texts words, record { all = ap (λ (w : List ℕ). w ∷ texts words) (verb_is word.bytes verb.Hey is); stands = tt })
  by_first (Some verb.Post) is = inr (post_key, texts words, record { all = ap (λ (w : List ℕ). w ∷ texts words) (verb_is word.bytes verb.Post is); stands = tt })
  by_first (Some verb.Lock) is = inr (lock_key, texts words, record { all = ap (λ (w : List ℕ). w ∷ texts words) (verb_is word.bytes verb.Lock is); stands = tt })

statements : Reads statement_of IsStatementKey
statements = record {
  statement_key = λ key stands. stands;
  unknown = statement_unknown;
  launches = λ words rest stands at. record { made = launch_statement; line_is = by_verb words rest verb.Launch (codes "launch") refl at };
  heys = λ words rest stands at. record { made = hey_statement; line_is = by_verb words rest verb.Hey (codes "hey") refl at };
  posts = λ words rest stands at. record { made = post_statement; line_is = by_verb words rest verb.Post (codes "post") refl at };
  locks = λ words rest stands at. record { made = lock_statement; line_is = by_verb words rest verb.Lock (codes "lock") refl at };
  decided = statement_decided;
}

pub statement_faults_are_told : SaidIsRead → RefusedAtFirstBad → StatementFaultsAreTold
statement_faults_are_told said refused words kind = both_ways statement_of IsStatementKey statements said refused words kind

-- ---- lines of sessions
session_unknown : (words : List Word) → IsUnknown IsSessionKey (texts words) → session_line_of words ≡ Err refusal.UnknownLine
unfolding session_line_of
session_unknown [] none = refl
session_unknown (word ∷ words) none = by_first (verb_of word.bytes) refl where
  by_first : (o : Option Verb) → verb_of word.bytes ≡ o → said_in_session o (word ∷ words) (texts words) ≡ Err refusal.UnknownLine
  by_first None is = refl
  by_first (Some verb.Launch) is = refl
  by_first (Some verb.Hey) is = absurd (none hey_key (texts words) (record { all = ap (λ (w : List ℕ). w ∷ texts words) (verb_is word.bytes verb.Hey is); stands = tt }))
  by_first (Some verb.Post) is = absurd (none post_key (texts words) (record { all = ap (λ (w : List ℕ). w ∷ texts words) (verb_is word.bytes verb.Post is); stands = tt }))
  by_first (Some verb.Lock) is = absurd (none lock_key (texts words) (record { all = ap (λ (w : List ℕ). w ∷ texts words) (verb_is word.bytes verb.Lock is); stands = tt }))

-- what launches begins no line of a session
no_launch : (word : Word) (words : List Word) → verb_of word.bytes ≡ Some verb.Launch → IsUnknown IsSessionKey (texts (word ∷ words))
no_launch word words is key rest opens = by_key key opens.stands (cc (opens.all)) where
  by_key : (other : Key) → IsSessionKey other → word.bytes ≡ word_of other → ⊥
  by_key hey_key stands at = let wrong = ap verb_of at in cc (wrong, is)
  by_key post_key stands at = let wrong = ap verb_of at in cc (wrong, is)
  by_key lock_key stands at = let wrong = ap verb_of at in cc (wrong, is)
  by_key launch_key stands at = stands
  by_key kit_key stands at = stands
  by_key script_key stands at = stands
  by_key together_key stands at = stands
  by_key session_key stands at = stands
  by_key end_key stands at = stands

session_decided : (words : List Word) → IsUnknown IsSessionKey (texts words) ⊎ ((key : Key) × (rest : List (List ℕ)) × Opens IsSessionKey (texts words) key rest)
session_decided [] = inl (no_words IsSessionKey)
session_decided (word ∷ words) = by_first (verb_of word.bytes) refl where
  by_first : (o : Option Verb) → verb_of word.bytes ≡ o → IsUnknown IsSessionKey (texts (word ∷ words)) ⊎ ((key : Key) × (rest : List (List ℕ)) × Opens IsSessionKey (texts (word ∷ words)) key rest)
  by_first None is = inl (no_verb IsSessionKey in_statement word words is)
  by_first (Some verb.Launch) is = inl (no_launch word words is)
  by_first (Some verb.Hey) is = inr (hey_key, texts words, record { all = ap (λ (w : List ℕ). w ∷ texts words) (verb_is word.bytes verb.Hey is); stands = tt })
  by_first (Some verb.Post) is = inr (post_key, texts words, record { all = ap (λ (w : List ℕ). w ∷ texts words) (verb_is word.bytes verb.Post is); stands = tt })
  by_first (Some verb.Lock) is = inr (lock_key, texts words, record { all = ap (λ (w : List ℕ). w ∷ texts words) (verb_is word.bytes verb.Lock is); stands = tt })

session_lines : Reads session_line_of IsSessionKey
session_lines = record {
  statement_key = in_statement;
  unknown = session_unknown;
  launches = λ words rest stands at. absurd stands;
  heys = λ words rest stands at. record { made = hey_line; line_is = by_verb_in words rest verb.Hey (codes "hey") refl at };
  posts = λ words rest stands at. record { made = post_line; line_is = by_verb_in words rest verb.Post (codes "post") refl at };
  locks = λ words rest stands at. record { made = lock_line; line_is = by_verb_in words rest verb.Lock (codes "lock") refl at };
  decided = session_decided;
}

pub session_faults_are_told : SaidIsRead → RefusedAtFirstBad → SessionFaultsAreTold
session_faults_are_told said refused words kind = both_ways session_line_of IsSessionKey session_lines said refused words kind

-- ---- hey lines alone
pub first_bad_is_told : SaidIsRead → RefusedAtFirstBad → FirstBadIsTold
first_bad_is_told said refused words rest column at is =
    let alone : HasFault IsStatementKey words (refusal.BadHey column) = record { rest = rest; opens = record { all = at; stands = tt }; at = is } in
    let in_session : HasFault IsSessionKey words (refusal.BadHey column) = record { rest = rest; opens = record { all = at; stands = tt }; at = is } in
    ((statement_faults_are_told said refused words (refusal.BadHey column)).1 alone, (session_faults_are_told said refused words (refusal.BadHey column)).1 in_session)

long_of : (words : List Word) (kind : RefusalKind) → kind ≡ refusal.Limit → HeyRefused words kind → (app : AppWord) × IsHey (texts words) app Over
long_of words kind limit (bad column is at) = absurd (cc (limit, is))
long_of words kind limit (long app is says) = (app, says)

long_both : {S : Type 0} (words : List Word) (line : Result S RefusalKind) → SaidIsRead → RefusedAtFirstBad → Ends line (hey_of words) → (line ≡ Err refusal.Limit) ↔ ((app : AppWord) × IsHey (texts words) app Over)
long_both words line said refused ends = (
  λ e. long_of words refusal.Limit refl (hey_refused said refused words refusal.Limit (form_refused line (hey_of words) refusal.Limit ends e)),
  λ says. line_refused line (hey_of words) refusal.Limit ends (long_told said words says.0 says.1),
)

pub long_heys_are_limits : SaidIsRead → RefusedAtFirstBad → LongHeysAreLimits
long_heys_are_limits said refused words rest at = (
  long_both words (statement_of words) said refused (statements.heys words rest tt at),
  long_both words (session_line_of words) said refused (session_lines.heys words rest tt at),
)
