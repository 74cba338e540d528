-- What launch and post lines tell that are of their form and pass a limit: that, and all others that say nothing are bad values.
use Rattle.std.proofs.Common.{◌≡◌, ◌≢◌, ◌<◌, ◌⊎◌, inl, inr, ℕ, Bool, true, false, if◌then◌else◌, List, [], ◌∷◌, length, codes, Option, Some, None, Result, Ok, Err, refl, ap, ◌∙◌, arith}
use Rattle.std.specs.List.{All}
use Rattle.std.proofs.lemmas.Grind.{common_steps}
use Rattle.std.proofs.lemmas.List.Elements.{All-nil, All-cons, All-head, All-tail}
use Rattle.ak_base.specs.declared.app_word.AppWord.{AppWord}
use Rattle.ak_base.specs.declared.ending.RefusalKind.{RefusalKind}
use Rattle.ak_base.specs.declared.ending.RefusalKind.TheVariants as refusal
use Rattle.ak_base.specs.declared.limited.Limited.{Limited}
use Rattle.ak_base.specs.declared.limited.Limited.TheVariants.{Within, Over}
use Rattle.ak_base.specs.Option.{◌>>=◌}
use Rattle.ak_message.specs.Message.{MessageData}
use Rattle.ak_input.specs.Reading.{read_message}
use Rattle.ak_input.specs.Written.{app_word_of, quoted_text}
use Rattle.ak_flatten.specs.Limits.{flat_limit}
use Rattle.ak_flatten.specs.Spelling.{spelling}
use Rattle.ak_describe.specs.Pass.{or_bad, or_limit}
use Rattle.ak_describe.specs.Words.{behind, ends, first_of}
use Rattle.ak_describe.proofs.Surface.{app_word_takes, app_word_again}
use Rattle.ak_input.proofs.Surface.{messages_are_written, texts_are_written}
use Rattle.ak_script.specs.Faulty.{IsQuoted, ArgumentsPass, LaunchPasses, MessagePasses, PostPasses}
use Rattle.ak_script.specs.Forms.{Way, with_text, texts_behind, some_texts, arguments_at, is_short, launch_kept, launch_word, launched, launch_of, way_at, post_kept, post_of, looper_at, edit_of, locked, lock_of}
use Rattle.ak_script.specs.Messages.{arguments_of}
use Rattle.ak_script.specs.Statement.{LaunchData, PostData, LockData}
use Rattle.ak_script.proofs.InOrder.{behind_is, first_is}
use Rattle.ak_script.proofs.Launches.{arguments_are, launched_again, named_again, named_is}
use Rattle.ak_script.proofs.Outcomes.{Then, bind_is, short_is}
use Rattle.ak_script.proofs.Posts.{dropped_no_code, looper_no_code, no_message, token_no_code, wait_no_code, way_again, ways_are}
use Rattle.ak_desk.specs.declared.entry.Edit.{Edit}

-- ---- what a refused step tells
pub bad_or : {A B : Type 0} (o : Option A) (f : A → Result B RefusalKind) (kind : RefusalKind) → or_bad o f ≡ Err kind → (kind ≡ refusal.BadValue) ⊎ Then o f (Err kind)
bad_or None f kind e = inl cc
bad_or (Some x) f kind e = inr (record { value = x; is = refl; then_is = e })

kept_refused : {A : Type 0} (test : Bool) (x : A) (told kind : RefusalKind) → (if test then Ok x else Err told) ≡ Err kind → (test ≡ false) × (kind ≡ told)
kept_refused true x told kind e = absurd cc
kept_refused false x told kind e = (refl, cc)

pub long_is : (m : MessageData) → is_short m ≡ false → flat_limit < length (spelling m)
long_is m e = grind (arith, common_steps)

pub is_long_again : (m : MessageData) → flat_limit < length (spelling m) → is_short m ≡ false
is_long_again m e = grind (arith, common_steps)

abbrev pub Refused : Type 0 → RefusalKind → Type 0
Refused Passes kind = (kind ≡ refusal.BadValue) ⊎ ((kind ≡ refusal.Limit) × Passes)

-- ---- `post`
abbrev message_kept : AppWord → Way → Limited MessageData → Result PostData RefusalKind
message_kept word way m = or_limit m (post_kept word way)

abbrev behind_way : AppWord → Way × List (List ℕ) → Result PostData RefusalKind
behind_way word way = or_bad (read_message way.1) (message_kept word way.0)

abbrev behind_app : List (List ℕ) → AppWord → Result PostData RefusalKind
behind_app words word = or_bad (way_at words) (behind_way word)

abbrev behind_named : List ℕ × List (List ℕ) → Result PostData RefusalKind
behind_named named = or_bad (app_word_of named.0) (behind_app named.1)

message_refused : (word : AppWord) (way : Way) (m : Limited MessageData) (kind : RefusalKind) → message_kept word way m ≡ Err kind → (kind ≡ refusal.Limit) × MessagePasses m
message_refused word way Over kind e = (cc, tt)
message_refused word way (Within m) kind e =
    let k = kept_refused (is_short m) (record { app = word; looper = way.looper; target = way.target; dropped = way.dropped; waits = way.waits; message = m }) refusal.Limit kind e in
    (k.1, long_is m k.0)

message_again : (word : AppWord) (way : Way) (m : Limited MessageData) → MessagePasses m → message_kept word way m ≡ Err refusal.Limit
message_again word way Over pass = refl
message_again word way (Within m) pass =
    ap (λ (b : Bool). if b then Ok (record { app = word; looper = way.looper; target = way.target; dropped = way.dropped; waits = way.waits; message = m }) else Err refusal.Limit) (is_long_again m pass)

pub post_refused : (words : List (List ℕ)) (kind : RefusalKind) → post_of words ≡ Err kind → Refused (PostPasses words) kind
post_refused words kind e = by_named (bad_or (first_of words) behind_named kind e) where
  by_message : (n : Then (first_of words) behind_named (Err kind)) (a : Then (app_word_of n.value.0) (behind_app n.value.1) (Err kind)) (y : Then (way_at n.value.1) (behind_way a.value) (Err kind))
      → (kind ≡ refusal.BadValue) ⊎ Then (read_message y.value.1) (message_kept a.value y.value.0) (Err kind) → Refused (PostPasses words) kind
  by_message n a y (inl bad) = inl bad
  by_message n a y (inr r) =
      let told = message_refused a.value y.value.0 r.value kind r.then_is in
      let w = ways_are n.value.1 y.value y.is in
      inr (
        told.0,
        record {
          named = n.value.0;
          place = w.place;
          for_whom = w.for_whom;
          drops = w.drops;
          waits = w.waits;
          message = y.value.1;
          parts = first_is words n.value n.is ∙ ap (λ (ws : List (List ℕ)). n.value.0 ∷ ws) w.parts;
          word = a.value;
          way = y.value.0;
          app_is = app_word_takes n.value.0 a.value a.is;
          place_is = w.place_says;
          target_is = w.target_says;
          dropped_is = w.dropped_says;
          waits_is = w.waits_says;
          read = r.value;
          message_is = (messages_are_written y.value.1 r.value).1 r.is;
          pass = told.1;
        },
      )

  by_way : (n : Then (first_of words) behind_named (Err kind)) (a : Then (app_word_of n.value.0) (behind_app n.value.1) (Err kind))
      → (kind ≡ refusal.BadValue) ⊎ Then (way_at n.value.1) (behind_way a.value) (Err kind) → Refused (PostPasses words) kind
  by_way n a (inl bad) = inl bad
  by_way n a (inr y) = by_message n a y (bad_or (read_message y.value.1) (message_kept a.value y.value.0) kind y.then_is)

  by_app : (n : Then (first_of words) behind_named (Err kind)) → (kind ≡ refusal.BadValue) ⊎ Then (app_word_of n.value.0) (behind_app n.value.1) (Err kind) → Refused (PostPasses words) kind
  by_app n (inl bad) = inl bad
  by_app n (inr a) = by_way n a (bad_or (way_at n.value.1) (behind_way a.value) kind a.then_is)

  by_named : (kind ≡ refusal.BadValue) ⊎ Then (first_of words) behind_named (Err kind) → Refused (PostPasses words) kind
  by_named (inl bad) = inl bad
  by_named (inr n) = by_app n (bad_or (app_word_of n.value.0) (behind_app n.value.1) kind n.then_is)

pub post_past : (words : List (List ℕ)) → PostPasses words → post_of words ≡ Err refusal.Limit
post_past words p =
    let said = (messages_are_written p.message p.read).0 p.message_is in
    let there = way_again p.place p.for_whom p.drops p.waits p.message p.way p.place_is p.target_is p.dropped_is p.waits_is
    (no_message (codes "looper") p.message p.read looper_no_code said) (no_message (codes "token") p.message p.read token_no_code said)
    (no_message (codes "dropped") p.message p.read dropped_no_code said) (no_message (codes "wait") p.message p.read wait_no_code said) in
    ap post_of p.parts ∙ rw (app_word_again p.named p.word p.app_is, there, said) (message_again p.word p.way p.read p.pass)

-- ---- `lock`
abbrev edited : AppWord → ℕ × List (List ℕ) → Result LockData RefusalKind
edited word looper = or_bad (edit_of looper.1) (λ (c : Edit). Ok (locked word looper.0 c))

abbrev at_looper : List (List ℕ) → AppWord → Result LockData RefusalKind
at_looper words word = or_bad (looper_at words) (edited word)

abbrev in_app : List ℕ × List (List ℕ) → Result LockData RefusalKind
in_app named = or_bad (app_word_of named.0) (at_looper named.1)

pub lock_refused : (words : List (List ℕ)) (kind : RefusalKind) → lock_of words ≡ Err kind → kind ≡ refusal.BadValue
lock_refused words kind e = by_named (bad_or (first_of words) in_app kind e) where
  by_edit : (word : AppWord) (x : ℕ × List (List ℕ)) → (kind ≡ refusal.BadValue) ⊎ Then (edit_of x.1) (λ (c : Edit). Ok (locked word x.0 c)) (Err kind) → kind ≡ refusal.BadValue
  by_edit word x (inl bad) = bad
  by_edit word x (inr c) = let wrong = c.then_is in absurd cc

  by_looper : (words : List (List ℕ)) (word : AppWord) → (kind ≡ refusal.BadValue) ⊎ Then (looper_at words) (edited word) (Err kind) → kind ≡ refusal.BadValue
  by_looper words word (inl bad) = bad
  by_looper words word (inr l) = by_edit word l.value (bad_or (edit_of l.value.1) (λ (c : Edit). Ok (locked word l.value.0 c)) kind l.then_is)

  by_app : (n : List ℕ × List (List ℕ)) → (kind ≡ refusal.BadValue) ⊎ Then (app_word_of n.0) (at_looper n.1) (Err kind) → kind ≡ refusal.BadValue
  by_app n (inl bad) = bad
  by_app n (inr a) = by_looper n.1 a.value (bad_or (looper_at n.1) (edited a.value) kind a.then_is)

  by_named : (kind ≡ refusal.BadValue) ⊎ Then (first_of words) in_app (Err kind) → kind ≡ refusal.BadValue
  by_named (inl bad) = bad
  by_named (inr n) = by_app n.value (bad_or (app_word_of n.value.0) (at_looper n.value.1) kind n.then_is)

-- ---- `launch`
quoted_all : (words : List (List ℕ)) (read x : Limited (List (List ℕ))) → texts_behind read words ≡ Some x → All IsQuoted words
unfolding texts_behind
quoted_all [] read x e = All-nil IsQuoted
quoted_all (word ∷ words) read x e =
    let b = bind_is (quoted_text word) (λ (t : Limited (List ℕ)). texts_behind (with_text read t) words) x e in
    All-cons IsQuoted word words (b.value, (texts_are_written word b.value).1 b.is) (quoted_all words (with_text read b.value) x b.then_is)

-- texts in quotes are read, within the limits or past them
quoted_again : (words : List (List ℕ)) (read : Limited (List (List ℕ))) → All IsQuoted words → (x : Limited (List (List ℕ))) × (texts_behind read words ≡ Some x)
unfolding texts_behind
quoted_again [] read all = (read, refl)
quoted_again (word ∷ words) read all =
    let text = All-head IsQuoted word words all in
    let more = quoted_again words (with_text read text.0) (All-tail IsQuoted word words all) in
    (more.0, ap (λ (o : Option (Limited (List ℕ))). o >>= λ (t : Limited (List ℕ)). texts_behind (with_text read t) words) ((texts_are_written word text.0).0 text.1) ∙ more.1)

abbrev texts_kept : AppWord → Limited (List (List ℕ)) → Result LaunchData RefusalKind
texts_kept word texts = or_limit texts (launch_kept word)

texts_refused : (word : AppWord) (texts : Limited (List (List ℕ))) (kind : RefusalKind) → texts_kept word texts ≡ Err kind → kind ≡ refusal.Limit
texts_refused word Over kind e = cc
texts_refused word (Within texts) kind e =
    (kept_refused (is_short (arguments_of texts)) (record { word = word; arguments = Some (arguments_of texts) }) refusal.Limit kind e).1

record QuotedThere (rest : List (List ℕ)) : Type 0 where
  quoted : List (List ℕ)
  parts : rest ≡ codes "args" ∷ quoted
  some : quoted ≢ []
  texts_are : All IsQuoted quoted

quoted_there : (rest : List (List ℕ)) (x : Limited (List (List ℕ))) → arguments_at rest ≡ Some x → QuotedThere rest
unfolding arguments_at
quoted_there rest x e =
    let b = bind_is (behind rest (codes "args")) some_texts x e in
    let s = by_end b.value (ends b.value) refl b.then_is in
    record { quoted = b.value; parts = behind_is rest (codes "args") b.value b.is; some = s.0; texts_are = s.1 }
  where
    by_end : (words : List (List ℕ)) (b : Bool) → ends words ≡ b → (if b then None else texts_behind (Within []) words) ≡ Some x → (words ≢ []) × All IsQuoted words
    by_end words true is f = absurd cc
    by_end words false is f = (λ empty. let ended : ends words ≡ true = ap ends empty in absurd cc, quoted_all words (Within []) x f)

quoted_read : (quoted : List (List ℕ)) → quoted ≢ [] → All IsQuoted quoted → (x : Limited (List (List ℕ))) × (arguments_at (codes "args" ∷ quoted) ≡ Some x)
unfolding arguments_at
quoted_read [] some all = absurd (some refl)
quoted_read (word ∷ words) some all = quoted_again (word ∷ words) (Within []) all

launched_refused : (word : AppWord) (rest : List (List ℕ)) (kind : RefusalKind) → launched word rest ≡ Err kind → Refused (ArgumentsPass rest) kind
launched_refused word rest kind e = by_end (ends rest) refl e where
  by_texts : (kind ≡ refusal.BadValue) ⊎ Then (arguments_at rest) (texts_kept word) (Err kind) → Refused (ArgumentsPass rest) kind
  by_texts (inl bad) = inl bad
  by_texts (inr t) =
      let q = quoted_there rest t.value t.is in
      inr (
        texts_refused word t.value kind t.then_is,
        record {
          quoted = q.quoted;
          parts = q.parts;
          some = q.some;
          texts_are = q.texts_are;
          pass = λ m say. let read = launched_again word rest (Some m) say in absurd (cc (read, e));
        },
      )

  by_end : (b : Bool) → ends rest ≡ b → (if b then Ok (record { word = word; arguments = None }) else or_bad (arguments_at rest) (texts_kept word)) ≡ Err kind → Refused (ArgumentsPass rest) kind
  by_end true is f = absurd cc
  by_end false is f = by_texts (bad_or (arguments_at rest) (texts_kept word) kind f)

abbrev named_launched : List ℕ × List (List ℕ) → Result LaunchData RefusalKind
named_launched first = or_bad (launch_word first.0) (λ (word : AppWord). launched word first.1)

pub launch_refused : (words : List (List ℕ)) (kind : RefusalKind) → launch_of words ≡ Err kind → Refused (LaunchPasses words) kind
launch_refused words kind e = by_first (bad_or (first_of words) named_launched kind e) where
  by_arguments : (n : Then (first_of words) named_launched (Err kind)) (w : Then (launch_word n.value.0) (λ (word : AppWord). launched word n.value.1) (Err kind)) → Refused (ArgumentsPass n.value.1) kind → Refused (LaunchPasses words) kind
  by_arguments n w (inl bad) = inl bad
  by_arguments n w (inr pass) = inr (
    pass.0,
    record {
      named = n.value.0;
      rest = n.value.1;
      parts = first_is words n.value n.is;
      word = w.value;
      word_is = named_is n.value.0 w.value w.is;
      pass = pass.1;
    },
  )

  by_word : (n : Then (first_of words) named_launched (Err kind)) → (kind ≡ refusal.BadValue) ⊎ Then (launch_word n.value.0) (λ (word : AppWord). launched word n.value.1) (Err kind) → Refused (LaunchPasses words) kind
  by_word n (inl bad) = inl bad
  by_word n (inr w) = by_arguments n w (launched_refused w.value n.value.1 kind w.then_is)

  by_first : (kind ≡ refusal.BadValue) ⊎ Then (first_of words) named_launched (Err kind) → Refused (LaunchPasses words) kind
  by_first (inl bad) = inl bad
  by_first (inr n) = by_word n (bad_or (launch_word n.value.0) (λ (word : AppWord). launched word n.value.1) kind n.then_is)

-- where the arguments pass a limit, that is told
abbrev kept_where : AppWord → List (List ℕ) → Bool → Result LaunchData RefusalKind
kept_where word texts b = if b then Ok (record { word = word; arguments = Some (arguments_of texts) }) else Err refusal.Limit

texts_past : (word : AppWord) (rest : List (List ℕ)) (texts : Limited (List (List ℕ))) → ArgumentsPass rest → arguments_at rest ≡ Some texts → texts_kept word texts ≡ Err refusal.Limit
texts_past word rest Over p e = refl
texts_past word rest (Within texts) p e = by_short (is_short (arguments_of texts)) refl where
  by_short : (b : Bool) → is_short (arguments_of texts) ≡ b → kept_where word texts b ≡ Err refusal.Limit
  by_short true is =
      let a = arguments_are rest texts e in
      absurd (p.pass (arguments_of texts) (record {
        quoted = a.quoted;
        arguments = texts;
        parts = a.parts;
        some = a.some;
        texts_are = a.say;
        few = a.few;
        message_is = refl;
        short = short_is (arguments_of texts) is;
      }))
  by_short false is = refl

launched_past : (word : AppWord) (rest : List (List ℕ)) → ArgumentsPass rest → launched word rest ≡ Err refusal.Limit
launched_past word rest p =
    let q = quoted_read p.quoted p.some p.texts_are in
    let read : arguments_at rest ≡ Some q.0 = ap arguments_at p.parts ∙ q.1 in
    let more : ends rest ≡ false = ap ends p.parts in
    ap (λ (b : Bool). if b then Ok (record { word = word; arguments = None }) else or_bad (arguments_at rest) (texts_kept word)) more
    ∙ ap (λ (o : Option (Limited (List (List ℕ)))). or_bad o (texts_kept word)) read
    ∙ texts_past word rest q.0 p read

pub launch_past : (words : List (List ℕ)) → LaunchPasses words → launch_of words ≡ Err refusal.Limit
launch_past words p =
    ap launch_of p.parts
    ∙ ap (λ (o : Option AppWord). or_bad o (λ (word : AppWord). launched word p.rest)) (named_again p.named p.word p.word_is)
    ∙ launched_past p.word p.rest p.pass
