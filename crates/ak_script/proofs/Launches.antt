-- A launch line is read of the words that say so, and of no others.
use Rattle.std.proofs.Common.{◌≡◌, ◌≢◌, ◌≤◌, ℕ, Bool, true, false, if◌then◌else◌, List, [], ◌∷◌, ◌++◌, length, codes, Option, Some, None, Result, Ok, refl, ap, sym, subst, ◌∙◌, append_assoc, arith}
use Rattle.std.specs.Prelude.{nat_lt}
use Rattle.std.proofs.lemmas.Grind.{common_steps}
use Rattle.std.proofs.lemmas.List.{append-nil}
use Rattle.ak_base.specs.AppName.{is_path, is_signature}
use Rattle.ak_base.specs.declared.app_word.AppWord.{AppWord}
use Rattle.ak_base.specs.declared.app_word.AppWord.TheVariants as app
use Rattle.ak_base.specs.declared.ending.RefusalKind.{RefusalKind}
use Rattle.ak_base.specs.declared.ending.RefusalKind.TheVariants as refusal
use Rattle.ak_base.specs.declared.limited.Limited.{Limited}
use Rattle.ak_base.specs.declared.limited.Limited.TheVariants.{Within, Over}
use Rattle.ak_message.specs.Limits.{value_limit}
use Rattle.ak_message.specs.Message.{MessageData}
use Rattle.ak_input.specs.Written.{quoted_text}
use Rattle.ak_input.proofs.Surface.{signature_no_path, texts_are_written}
use Rattle.ak_describe.specs.Pass.{or_bad, or_limit}
use Rattle.ak_describe.specs.Words.{behind, ends, first_of}
use Rattle.ak_script.specs.Forms.{launch_word, with_text, texts_behind, some_texts, arguments_at, is_short, launch_kept, launched, launch_of}
use Rattle.ak_script.specs.Messages.{arguments_of}
use Rattle.ak_script.specs.Says.{SaysLaunched, SayTexts, SayArguments, SayWhatIsTold, SaysLaunch}
use Rattle.ak_script.specs.Statement.{LaunchData}
use Rattle.ak_script.proofs.Outcomes.{short_is, is_short_again}
use Rattle.ak_script.proofs.InOrder.{behind_is, ends_is, first_is}
use Rattle.ak_script.proofs.Outcomes.{bind_is, kept_is, read_is, within_is}

-- ---- texts
over_stays : (words texts : List (List ℕ)) → texts_behind Over words ≡ Some (Within texts) → ⊥
unfolding texts_behind
over_stays [] texts e = absurd cc
over_stays (word ∷ words) texts e =
    let b = bind_is (quoted_text word) (λ (t : Limited (List ℕ)). texts_behind (with_text Over t) words) (Within texts) e in
    over_stays words texts b.then_is

record Quoted (read words all : List (List ℕ)) : Type 0 where
  texts : List (List ℕ)
  all_are : all ≡ read ++ texts
  say : SayTexts words texts
  few : length all ≤ value_limit

texts_are : (words read all : List (List ℕ)) → length read ≤ value_limit → texts_behind (Within read) words ≡ Some (Within all) → Quoted read words all
unfolding texts_behind
texts_are [] read all few e =
    let same : read ≡ all = cc in
    record { texts = []; all_are = sym same ∙ sym (append-nil read); say = tt; few = subst (λ (ts : List (List ℕ)). length ts ≤ value_limit) same few }
texts_are (word ∷ words) read all few e =
    let b = bind_is (quoted_text word) (λ (t : Limited (List ℕ)). texts_behind (with_text (Within read) t) words) (Within all) e in
    by_text (λ (text : List ℕ). texts_are words (read ++ text ∷ []) all) b.value b.is b.then_is
  where
    by_room
        : ((text : List ℕ) → length (read ++ text ∷ []) ≤ value_limit → texts_behind (Within (read ++ text ∷ [])) words ≡ Some (Within all) → Quoted (read ++ text ∷ []) words all)
        → (text : List ℕ) → quoted_text word ≡ Some (Within text) → (b : Bool) → nat_lt (length read) value_limit ≡ b
        → texts_behind (if b then Within (read ++ text ∷ []) else Over) words ≡ Some (Within all) → Quoted read (word ∷ words) all
    by_room further text is true room f =
        let more : length (read ++ text ∷ []) ≤ value_limit = grind (arith, common_steps) in
        let q = further text more f in
        record { texts = text ∷ q.texts; all_are = q.all_are ∙ append_assoc read (text ∷ []) q.texts; say = ((texts_are_written word (Within text)).1 is, q.say); few = q.few }
    by_room further text is false room f = absurd (over_stays words all f)

    by_text
        : ((text : List ℕ) → length (read ++ text ∷ []) ≤ value_limit → texts_behind (Within (read ++ text ∷ [])) words ≡ Some (Within all) → Quoted (read ++ text ∷ []) words all)
        → (t : Limited (List ℕ)) → quoted_text word ≡ Some t → texts_behind (with_text (Within read) t) words ≡ Some (Within all) → Quoted read (word ∷ words) all
    by_text further Over is f = absurd (over_stays words all f)
    by_text further (Within text) is f = by_room further text is (nat_lt (length read) value_limit) refl f

texts_again : (words texts read : List (List ℕ)) → SayTexts words texts → length (read ++ texts) ≤ value_limit → texts_behind (Within read) words ≡ Some (Within (read ++ texts))
unfolding texts_behind
texts_again [] [] read say few = ap (λ (ts : List (List ℕ)). Some (Within ts)) (sym (append-nil read))
texts_again (word ∷ words) (text ∷ texts) read say few =
    let room : nat_lt (length read) value_limit ≡ true = grind (arith, common_steps) in
    let all = append_assoc read (text ∷ []) texts in
    let more : length ((read ++ text ∷ []) ++ texts) ≤ value_limit = subst (λ (ts : List (List ℕ)). length ts ≤ value_limit) (sym all) few in
    let is = (texts_are_written word (Within text)).0 say.0 in
    rw (is, room) (texts_again words texts (read ++ text ∷ []) say.1 more ∙ ap (λ (ts : List (List ℕ)). Some (Within ts)) all)
texts_again [] (text ∷ texts) read say few = absurd say
texts_again (word ∷ words) [] read say few = absurd say

-- ---- arguments
pub record Arguments (words texts : List (List ℕ)) : Type 0 where
  pub quoted : List (List ℕ)
  pub parts : words ≡ codes "args" ∷ quoted
  pub some : quoted ≢ []
  pub say : SayTexts quoted texts
  pub few : length texts ≤ value_limit

no_texts : 0 ≤ value_limit
no_texts = omega arith

some_are : (words texts : List (List ℕ)) → some_texts words ≡ Some (Within texts) → (words ≢ []) × Quoted [] words texts
some_are words texts e = by_end (ends words) refl e where
  by_end : (b : Bool) → ends words ≡ b → (if b then None else texts_behind (Within []) words) ≡ Some (Within texts) → (words ≢ []) × Quoted [] words texts
  by_end true is f = absurd cc
  by_end false is f = (λ empty. let ended : ends words ≡ true = ap ends empty in absurd cc, texts_are words [] texts no_texts f)

pub arguments_are : (words texts : List (List ℕ)) → arguments_at words ≡ Some (Within texts) → Arguments words texts
unfolding arguments_at
arguments_are words texts e =
    let b = bind_is (behind words (codes "args")) some_texts (Within texts) e in
    let s = some_are b.value texts b.then_is in
    record {
      quoted = b.value;
      parts = behind_is words (codes "args") b.value b.is;
      some = s.0;
      say = subst (SayTexts b.value) (sym s.1.all_are) s.1.say;
      few = s.1.few;
    }

some_again : (words texts : List (List ℕ)) → words ≢ [] → SayTexts words texts → length texts ≤ value_limit → some_texts words ≡ Some (Within texts)
some_again [] texts some say few = absurd (some refl)
some_again (word ∷ words) texts some say few = texts_again (word ∷ words) texts [] say few

arguments_again : (quoted texts : List (List ℕ)) → quoted ≢ [] → SayTexts quoted texts → length texts ≤ value_limit → arguments_at (codes "args" ∷ quoted) ≡ Some (Within texts)
unfolding arguments_at
arguments_again quoted texts some say few = some_again quoted texts some say few

-- ---- what is launched
pub named_is : (word : List ℕ) (w : AppWord) → launch_word word ≡ Some w → SaysLaunched word w
named_is word w e = by_path (is_path word) refl e where
  by_signature : (b : Bool) → is_signature word ≡ b → (if b then Some (app.Signature word) else None) ≡ Some w → SaysLaunched word w
  by_signature true t f = let same : app.Signature word ≡ w = cc in subst (SaysLaunched word) same (refl, t)
  by_signature false t f = absurd cc

  by_path : (b : Bool) → is_path word ≡ b → (if b then Some (app.Path word) else if is_signature word then Some (app.Signature word) else None) ≡ Some w → SaysLaunched word w
  by_path true t f = let same : app.Path word ≡ w = cc in subst (SaysLaunched word) same (refl, t)
  by_path false t f = by_signature (is_signature word) refl f

-- ---- the line
record Launched (word : AppWord) (rest : List (List ℕ)) (x : LaunchData) : Type 0 where
  arguments : Option MessageData
  told : SayWhatIsTold rest arguments
  same : record { word = word; arguments = arguments } ≡ x

launched_is : (word : AppWord) (rest : List (List ℕ)) (x : LaunchData) → launched word rest ≡ Ok x → Launched word rest x
launched_is word rest x e = by_end (ends rest) refl e where
  by_end : (b : Bool) → ends rest ≡ b
      → (if b then Ok (record { word = word; arguments = None }) else or_bad (arguments_at rest) (λ (texts : Limited (List (List ℕ))). or_limit texts (launch_kept word))) ≡ Ok x
      → Launched word rest x
  by_end true is f = record { arguments = None; told = ends_is rest is; same = cc }
  by_end false is f =
      let r = read_is (arguments_at rest) (λ (texts : Limited (List (List ℕ))). or_limit texts (launch_kept word)) x f in
      let w = within_is r.value (launch_kept word) x r.then_is in
      let k = kept_is (is_short (arguments_of w.value)) (record { word = word; arguments = Some (arguments_of w.value) }) x refusal.Limit w.then_is in
      let a = arguments_are rest w.value (r.is ∙ ap (λ (l : Limited (List (List ℕ))). some_limited l) w.is) in
      let told : SayArguments rest (arguments_of w.value) = record {
        quoted = a.quoted;
        arguments = w.value;
        parts = a.parts;
        some = a.some;
        texts_are = a.say;
        few = a.few;
        message_is = refl;
        short = short_is (arguments_of w.value) k.0;
      } in
      record { arguments = Some (arguments_of w.value); told = told; same = k.1 }
    where
      some_limited : Limited (List (List ℕ)) → Option (Limited (List (List ℕ)))
      some_limited l = Some l

pub launch_takes : (words : List (List ℕ)) (x : LaunchData) → launch_of words ≡ Ok x → SaysLaunch words x
launch_takes words x e =
    let first = read_is (first_of words) (λ (y : List ℕ × List (List ℕ)). or_bad (launch_word y.0) (λ (word : AppWord). launched word y.1)) x e in
    let word = read_is (launch_word first.value.0) (λ (word : AppWord). launched word first.value.1) x first.then_is in
    let l = launched_is word.value first.value.1 x word.then_is in
    let says : SaysLaunch words (record { word = word.value; arguments = l.arguments }) = record {
      named = first.value.0;
      rest = first.value.1;
      parts = first_is words first.value first.is;
      word_is = named_is first.value.0 word.value word.is;
      told = l.told;
    } in
    subst (SaysLaunch words) l.same says

-- ---- and back
pub named_again : (word : List ℕ) (w : AppWord) → SaysLaunched word w → launch_word word ≡ Some w
named_again word (app.Path path) p =
    ap (λ (b : Bool). if b then Some (app.Path word) else if is_signature word then Some (app.Signature word) else None) p.1 ∙ ap (λ (v : List ℕ). some_app (app.Path v)) p.0
  where
    some_app : AppWord → Option AppWord
    some_app a = Some a
named_again word (app.Signature signature) p =
    ap (λ (b : Bool). if b then Some (app.Path word) else if is_signature word then Some (app.Signature word) else None) (signature_no_path word p.1)
    ∙ ap (λ (b : Bool). if b then Some (app.Signature word) else None) p.1
    ∙ ap (λ (v : List ℕ). some_app (app.Signature v)) p.0
  where
    some_app : AppWord → Option AppWord
    some_app a = Some a
named_again word (app.Name name) p = absurd p
named_again word (app.Team team) p = absurd p

kept_again : (word : AppWord) (texts : List (List ℕ)) (m : MessageData) → m ≡ arguments_of texts → is_short m ≡ true → launch_kept word texts ≡ Ok (record { word = word; arguments = Some m })
kept_again word texts m is short =
    let same_short : is_short (arguments_of texts) ≡ true = subst (λ (n : MessageData). is_short n ≡ true) is short in
    rw same_short (ap (λ (n : MessageData). launched_with n) (sym is))
  where
    launched_with : MessageData → Result LaunchData RefusalKind
    launched_with n = Ok (record { word = word; arguments = Some n })

pub launched_again : (word : AppWord) (rest : List (List ℕ)) (o : Option MessageData) → SayWhatIsTold rest o → launched word rest ≡ Ok (record { word = word; arguments = o })
launched_again word rest None told = ap (launched word) told
launched_again word rest (Some m) told =
    ap (launched word) told.parts
    ∙ ap (λ (o : Option (Limited (List (List ℕ)))). or_bad o (λ (texts : Limited (List (List ℕ))). or_limit texts (launch_kept word))) (arguments_again told.quoted told.arguments told.some told.texts_are told.few)
    ∙ kept_again word told.arguments m told.message_is (is_short_again m told.short)

pub launch_again : (words : List (List ℕ)) (s : LaunchData) → SaysLaunch words s → launch_of words ≡ Ok s
launch_again words s p =
    ap launch_of p.parts
    ∙ ap (λ (o : Option AppWord). or_bad o (λ (word : AppWord). launched word p.rest)) (named_again p.named s.word p.word_is)
    ∙ launched_again s.word p.rest s.arguments p.told
