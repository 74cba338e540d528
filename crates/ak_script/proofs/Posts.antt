-- A post line is read of the words that say so, and of no others.
use Rattle.std.proofs.Common.{◌≡◌, ℕ, Bool, true, false, List, [], ◌∷◌, ◌++◌, codes, Option, Some, None, Ok, refl, ap, subst, ◌∙◌, arith}
use Rattle.std.specs.Str.{bytes_eq}
use Rattle.std.proofs.lemmas.Slice.Eq.{bytes_eq-Decides}
use Rattle.ak_base.specs.Option.{where_true, ◌>>=◌}
use Rattle.ak_base.specs.declared.app_word.AppWord.{AppWord}
use Rattle.ak_base.specs.declared.ending.RefusalKind.TheVariants as refusal
use Rattle.ak_base.specs.declared.limited.Limited.{Limited}
use Rattle.ak_base.specs.declared.limited.Limited.TheVariants.{Within}
use Rattle.ak_message.specs.Message.{MessageData}
use Rattle.ak_input.specs.Reading.{code_from, message_of, read_message}
use Rattle.ak_message.specs.declared.address.Target.{Target}
use Rattle.ak_message.specs.declared.address.Target.TheVariants as target
use Rattle.ak_input.specs.Written.{app_word_of}
use Rattle.ak_describe.specs.Pass.{or_bad, or_limit}
use Rattle.ak_describe.specs.Words.{behind, first_of}
use Rattle.ak_describe.proofs.Surface.{app_word_takes, app_word_again}
use Rattle.ak_input.proofs.Surface.{messages_are_written}
use Rattle.ak_script.specs.Forms.{Way, flag_behind, flag_from, flagged, is_short, looper_at, most_token, number_behind, post_kept, post_of, target_of, way_at}
use Rattle.ak_script.specs.Says.{SayFlag, SayNumber, SayPlace, SayTarget, SaysPost}
use Rattle.ak_script.specs.Statement.{PostData}
use Rattle.ak_script.proofs.Outcomes.{short_is, is_short_again}
use Rattle.ak_script.proofs.InOrder.{behind_is, equal_is, first_is}
use Rattle.ak_script.proofs.Numbers.{number_is, keyed_again, place_is, place_again}
use Rattle.ak_script.proofs.Outcomes.{bind_is, kept_is, read_is, within_is}

-- ---- flags
record Flagged (key : List ℕ) (words : List (List ℕ)) (x : Bool × List (List ℕ)) : Type 0 where
  part : List (List ℕ)
  parts : words ≡ part ++ x.1
  says : SayFlag key part x.0

flag_is : (key : List ℕ) (words : List (List ℕ)) → Flagged key words (flag_behind key words)
flag_is key words = by_key (behind words key) refl where
  by_key : (o : Option (List (List ℕ))) → behind words key ≡ o → Flagged key words (flag_from words o)
  by_key None is = record { part = []; parts = refl; says = refl }
  by_key (Some rest) is = record { part = key ∷ []; parts = behind_is words key rest is; says = refl }

flag_again : (key : List ℕ) (part : List (List ℕ)) (flag : Bool) (rest : List (List ℕ)) → SayFlag key part flag → behind rest key ≡ None → flag_behind key (part ++ rest) ≡ (flag, rest)
flag_again key part false rest says absent = ap (λ (ws : List (List ℕ)). flag_behind key (ws ++ rest)) says ∙ ap (flag_from rest) absent
flag_again key part true rest says absent =
    ap (λ (ws : List (List ℕ)). flag_behind key (ws ++ rest)) says ∙ ap (λ (b : Bool). flag_from (key ∷ rest) (where_true b rest)) (equal_is key key refl)

-- ---- another key does not begin what follows
no_flag : (other key : List ℕ) (part : List (List ℕ)) (flag : Bool) (rest : List (List ℕ)) → bytes_eq other key ≡ false → SayFlag other part flag → behind rest key ≡ None → behind (part ++ rest) key ≡ None
no_flag other key part false rest differs says absent = ap (λ (ws : List (List ℕ)). behind (ws ++ rest) key) says ∙ absent
no_flag other key part true rest differs says absent = ap (λ (ws : List (List ℕ)). behind (ws ++ rest) key) says ∙ ap (λ (b : Bool). where_true b rest) differs

no_target : (key : List ℕ) (part : List (List ℕ)) (t : Target) (rest : List (List ℕ)) → bytes_eq (codes "token") key ≡ false → SayTarget part t → behind rest key ≡ None → behind (part ++ rest) key ≡ None
no_target key part target.Preferred rest differs says absent = ap (λ (ws : List (List ℕ)). behind (ws ++ rest) key) says ∙ absent
no_target key part (target.Token token) rest differs says absent =
    ap (λ (ws : List (List ℕ)). behind (ws ++ rest) key) says.1 ∙ ap (λ (b : Bool). where_true b (says.0 ∷ rest)) differs

-- a message begins with a code
pub no_message : (key : List ℕ) (words : List (List ℕ)) (m : Limited MessageData) → code_from key ≡ None → read_message words ≡ Some m → behind words key ≡ None
unfolding message_of
no_message key [] m none e = refl
no_message key (word ∷ words) m none e = by_key (bytes_eq word key) refl where
  by_key : (b : Bool) → bytes_eq word key ≡ b → where_true b words ≡ None
  by_key true is =
      let code = bind_is (code_from word) _ m e in
      let same : word ≡ key = (bytes_eq-Decides word key).0 is in
      let wrong : code_from word ≡ None = ap code_from same ∙ none in
      absurd cc
  by_key false is = refl

pub looper_no_code : code_from (codes "looper") ≡ None
unfolding code_from
looper_no_code = refl

pub token_no_code : code_from (codes "token") ≡ None
unfolding code_from
token_no_code = refl

pub dropped_no_code : code_from (codes "dropped") ≡ None
unfolding code_from
dropped_no_code = refl

pub wait_no_code : code_from (codes "wait") ≡ None
unfolding code_from
wait_no_code = refl

-- ---- for whom and how
target_is : (words : List (List ℕ)) (given : Option ℕ) → SayNumber (codes "token") most_token words given → SayTarget words (target_of given)
target_is words None says = says
target_is words (Some token) says = says

pub record Ways (words : List (List ℕ)) (way : Way) (rest : List (List ℕ)) : Type 0 where
  pub place : List (List ℕ)
  pub for_whom : List (List ℕ)
  pub drops : List (List ℕ)
  pub waits : List (List ℕ)
  pub parts : words ≡ place ++ (for_whom ++ (drops ++ (waits ++ rest)))
  pub place_says : SayPlace place way.looper
  pub target_says : SayTarget for_whom way.target
  pub dropped_says : SayFlag (codes "dropped") drops way.dropped
  pub waits_says : SayFlag (codes "wait") waits way.waits

pub ways_are : (words : List (List ℕ)) (x : Way × List (List ℕ)) → way_at words ≡ Some x → Ways words x.0 x.1
unfolding way_at
ways_are words x e =
    let l = bind_is (looper_at words) _ x e in
    let t = bind_is (number_behind (codes "token") most_token l.value.1) _ x l.then_is in
    let dropped = flag_behind (codes "dropped") t.value.1 in
    let same : flagged l.value.0 t.value.0 dropped ≡ x = cc in
    let p = place_is words l.value.0 l.value.1 l.is in
    let n = number_is (codes "token") most_token (omega arith) l.value.1 t.value t.is in
    let d = flag_is (codes "dropped") t.value.1 in
    let w = flag_is (codes "wait") dropped.1 in
    subst (λ (y : Way × List (List ℕ)). Ways words y.0 y.1) same (record {
      place = p.part;
      for_whom = n.part;
      drops = d.part;
      waits = w.part;
      parts = p.parts
          ∙ ap (λ (ws : List (List ℕ)). p.part ++ ws) (n.parts ∙ ap (λ (ws : List (List ℕ)). n.part ++ ws) (d.parts ∙ ap (λ (ws : List (List ℕ)). d.part ++ ws) w.parts));
      place_says = p.says;
      target_says = target_is n.part t.value.0 n.says;
      dropped_says = d.says;
      waits_says = w.says;
    })

-- ---- the line
pub post_takes : (words : List (List ℕ)) (x : PostData) → post_of words ≡ Ok x → SaysPost words x
post_takes words x e =
    let named = read_is (first_of words) (λ (y : List ℕ × List (List ℕ)). or_bad (app_word_of y.0) (λ (word : AppWord). or_bad (way_at y.1) (λ (way : Way × List (List ℕ)). or_bad (read_message way.1) (λ (m : Limited MessageData). or_limit m (post_kept word way.0))))) x e in
    let a = read_is (app_word_of named.value.0) (λ (word : AppWord). or_bad (way_at named.value.1) (λ (way : Way × List (List ℕ)). or_bad (read_message way.1) (λ (m : Limited MessageData). or_limit m (post_kept word way.0)))) x named.then_is in
    let y = read_is (way_at named.value.1) (λ (way : Way × List (List ℕ)). or_bad (read_message way.1) (λ (m : Limited MessageData). or_limit m (post_kept a.value way.0))) x a.then_is in
    let r = read_is (read_message y.value.1) (λ (m : Limited MessageData). or_limit m (post_kept a.value y.value.0)) x y.then_is in
    let m = within_is r.value (post_kept a.value y.value.0) x r.then_is in
    let said : PostData = record { app = a.value; looper = y.value.0.looper; target = y.value.0.target; dropped = y.value.0.dropped; waits = y.value.0.waits; message = m.value } in
    let k = kept_is (is_short m.value) said x refusal.Limit m.then_is in
    let w = ways_are named.value.1 y.value y.is in
    let says : SaysPost words said = record {
      named = named.value.0;
      place = w.place;
      for_whom = w.for_whom;
      drops = w.drops;
      waits = w.waits;
      message = y.value.1;
      parts = first_is words named.value named.is ∙ ap (λ (ws : List (List ℕ)). named.value.0 ∷ ws) w.parts;
      app_is = app_word_takes named.value.0 a.value a.is;
      place_is = w.place_says;
      target_is = w.target_says;
      dropped_is = w.dropped_says;
      waits_is = w.waits_says;
      message_is = (messages_are_written y.value.1 (Within m.value)).1 (r.is ∙ ap some_message m.is);
      short = short_is m.value k.0;
    } in
    subst (SaysPost words) k.1 says
  where
    some_message : Limited MessageData → Option (Limited MessageData)
    some_message l = Some l

-- ---- and back
pub way_again : (place for_whom drops waits message : List (List ℕ)) (way : Way) → SayPlace place way.looper → SayTarget for_whom way.target → SayFlag (codes "dropped") drops way.dropped → SayFlag (codes "wait") waits way.waits
    → behind message (codes "looper") ≡ None → behind message (codes "token") ≡ None → behind message (codes "dropped") ≡ None → behind message (codes "wait") ≡ None
    → way_at (place ++ (for_whom ++ (drops ++ (waits ++ message)))) ≡ Some (way, message)
unfolding way_at
way_again place for_whom drops waits message way place_says target_says dropped_says waits_says no_looper no_token no_dropped no_wait =
    let behind_drops = waits ++ message in
    let behind_target = drops ++ behind_drops in
    let behind_place = for_whom ++ behind_target in
    let dropped_there = no_flag (codes "wait") (codes "dropped") waits way.waits message refl waits_says no_dropped in
    let token_there = no_flag (codes "dropped") (codes "token") drops way.dropped behind_drops refl dropped_says (no_flag (codes "wait") (codes "token") waits way.waits message refl waits_says no_token) in
    let looper_behind = no_flag (codes "dropped") (codes "looper") drops way.dropped behind_drops refl dropped_says (no_flag (codes "wait") (codes "looper") waits way.waits message refl waits_says no_looper) in
    let looper_there = no_target (codes "looper") for_whom way.target behind_target refl target_says looper_behind in
    rw (place_again place way.looper behind_place place_says looper_there)
    (by_target way.target refl target_says token_there
    ∙ ap (λ (f : Bool × List (List ℕ)). some_way (flagged_to f)) (flag_again (codes "dropped") drops way.dropped behind_drops dropped_says dropped_there)
    ∙ ap (λ (f : Bool × List (List ℕ)). some_way (record { looper = way.looper; target = way.target; dropped = way.dropped; waits = f.0 }, f.1)) (flag_again (codes "wait") waits way.waits message waits_says no_wait))
  where
    some_way : Way × List (List ℕ) → Option (Way × List (List ℕ))
    some_way x = Some x

    flagged_to : Bool × List (List ℕ) → Way × List (List ℕ)
    flagged_to f = (record { looper = way.looper; target = way.target; dropped = f.0; waits = (flag_behind (codes "wait") f.1).0 }, (flag_behind (codes "wait") f.1).1)

    by_target : (t : Target) → way.target ≡ t → SayTarget for_whom t → behind (drops ++ (waits ++ message)) (codes "token") ≡ None
        → (number_behind (codes "token") most_token (for_whom ++ (drops ++ (waits ++ message))) >>= λ (given : Option ℕ × List (List ℕ)). Some (flagged way.looper given.0 (flag_behind (codes "dropped") given.1)))
        ≡ some_way (flagged_to (flag_behind (codes "dropped") (drops ++ (waits ++ message))))
    by_target target.Preferred is says absent = rw (keyed_again (codes "token") most_token (omega arith) for_whom None (drops ++ (waits ++ message)) says absent, is) refl
    by_target (target.Token token) is says absent = rw (keyed_again (codes "token") most_token (omega arith) for_whom (Some token) (drops ++ (waits ++ message)) says absent, is) refl

pub post_again : (words : List (List ℕ)) (s : PostData) → SaysPost words s → post_of words ≡ Ok s
post_again words s p =
    let way : Way = record { looper = s.looper; target = s.target; dropped = s.dropped; waits = s.waits } in
    let said = (messages_are_written p.message (Within s.message)).0 p.message_is in
    let read = way_again p.place p.for_whom p.drops p.waits p.message way p.place_is p.target_is p.dropped_is p.waits_is
    (no_message (codes "looper") p.message (Within s.message) looper_no_code said) (no_message (codes "token") p.message (Within s.message) token_no_code said)
    (no_message (codes "dropped") p.message (Within s.message) dropped_no_code said) (no_message (codes "wait") p.message (Within s.message) wait_no_code said) in
    let short = is_short_again s.message p.short in
    ap post_of p.parts ∙ rw (app_word_again p.named s.app p.app_is, read, said, short) refl
