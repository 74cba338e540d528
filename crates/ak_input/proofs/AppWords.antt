-- A word names the application that is read of it, and what a word names is read of it; so a word that is launched or looked up is read of
-- its text.
use Rattle.std.proofs.Common.{◌≡◌, ℕ, Bool, true, false, cond, not, ltb, ◌&&◌, length, drop, List, [], ◌∷◌, ◌++◌, Option, Some, None, refl, sym, ap, subst, ◌∙◌, arith}
use Rattle.std.specs.Prelude.{codes, ◌==◌, nat_lt, is_none, IsTrue}
use Rattle.std.specs.Fmt.{decimal}
use Rattle.std.specs.List.{list_any, starts_with, ends_with}
use Rattle.std.proofs.lemmas.Bool.{and_parts, le-leb, leb-true}
use Rattle.std.proofs.lemmas.Bool.Decides.{Decides-eqb}
use Rattle.std.proofs.lemmas.Grind.{common_steps}
use Rattle.std.proofs.lemmas.Slice.Eq.{starts_is}
use Rattle.ak_base.specs.AppName.{begins_with, is_path, is_signature}
use Rattle.ak_base.specs.Option.{where_true}
use Rattle.ak_base.specs.Word.{is_word}
use Rattle.ak_base.specs.declared.app_word.AppWord.{AppWord}
use Rattle.ak_base.specs.declared.app_word.AppWord.TheVariants as app
use Rattle.ak_base.proofs.Surface.{cond_some, some_is}
use Rattle.ak_input.specs.Said.{IsTeamText, SaysAppWord}
use Rattle.ak_input.specs.SaidLaws.{WrittenAppWordsAreRead}
use Rattle.ak_input.specs.Written.{WritesNumber, is_app_name, is_launched, is_looked_up, launch_word_of, number_within, named_app, team_or_name, app_word_of}
use Rattle.ak_input.proofs.NumberWords.{number_again, number_takes, number_none, no_number}

-- a signature begins with `application/`
signature_front : (word : List ℕ) → is_signature word ≡ true → (rest : List ℕ) × (word ≡ codes "application/" ++ rest)
signature_front word is =
    let p = and_parts (is_word word && begins_with (codes "application/") word) (ltb 12 (length word)) is in
    let q = and_parts (is_word word) (begins_with (codes "application/") word) p.0 in
    (drop 12 word, (starts_is Decides-eqb word (codes "application/") (starts_with ◌==◌ word (codes "application/")) refl).0 q.1)

-- so it is no number
signature_no_team : (word : List ℕ) (n : ℕ) → is_signature word ≡ true → WritesNumber 0 4294967295 word n → ⊥
signature_no_team word n is written =
    let f = signature_front word is in
    no_number 0 4294967295 97 (codes "pplication/" ++ f.0) n (omega arith) (omega arith) (subst (λ (w : List ℕ). WritesNumber 0 4294967295 w n) f.1 written)

-- and no name of an application, which has no `/`
has_slash : (word : List ℕ) → is_signature word ≡ true → list_any (λ (b : ℕ). b == 47) word ≡ true
has_slash word is = let f = signature_front word is in subst (λ (w : List ℕ). list_any (λ (b : ℕ). b == 47) w ≡ true) (sym f.1) refl

name_no_signature : (word : List ℕ) → is_app_name word ≡ true → is_signature word ≡ false
name_no_signature word is = by_test (is_signature word) refl where
  by_test : (b : Bool) → is_signature word ≡ b → is_signature word ≡ false
  by_test true e =
      let none = (and_parts (is_word word) (not (list_any (λ (b : ℕ). b == 47) word)) is).1 in
      let wrong : not true ≡ true = subst (λ (b : Bool). not b ≡ true) (has_slash word e) none in
      absurd cc
  by_test false e = e

named_takes : (word : List ℕ) (a : AppWord) → number_within word 0 4294967295 ≡ None → named_app word ≡ Some a → SaysAppWord word a
named_takes word a none e = by_test (is_signature word) refl e where
  by_test : (b : Bool) → is_signature word ≡ b → cond b (Some (app.Signature word)) (where_true (is_app_name word) (app.Name word)) ≡ Some a → SaysAppWord word a
  by_test true is e = subst (λ (x : AppWord). SaysAppWord word x) (some_is (app.Signature word) a e) (refl, is)
  by_test false is e =
      let t = cond_some (is_app_name word) (app.Name word) a e in
      let no_team : ¬ (IsTeamText word) = λ team. no_team_of team.0 team.1 in
      subst (λ (x : AppWord). SaysAppWord word x) t.1 (refl, t.0, no_team) where
        no_team_of : (n : ℕ) → WritesNumber 0 4294967295 word n → ⊥
        no_team_of n written = let read = number_again 0 4294967295 word n (omega arith) written in absurd cc

pub app_word_takes : (word : List ℕ) (a : AppWord) → app_word_of word ≡ Some a → SaysAppWord word a
unfolding app_word_of
app_word_takes word a e = by_number (number_within word 0 4294967295) refl e where
  by_number : (o : Option ℕ) → number_within word 0 4294967295 ≡ o → team_or_name o word ≡ Some a → SaysAppWord word a
  by_number (Some team) is e = subst (λ (x : AppWord). SaysAppWord word x) (some_is (app.Team team) a e) (number_takes 0 4294967295 word team (omega arith) is)
  by_number None is e = named_takes word a is e

pub app_word_again : (word : List ℕ) (a : AppWord) → SaysAppWord word a → app_word_of word ≡ Some a
unfolding app_word_of
app_word_again word (app.Team team) is = ap (λ (o : Option ℕ). team_or_name o word) (number_again 0 4294967295 word team (omega arith) is)
app_word_again word (app.Signature signature) is =
    ap (λ (o : Option ℕ). team_or_name o word) (number_none 0 4294967295 word (omega arith) (λ n written. signature_no_team word n is.1 written))
    ∙ ap (λ (b : Bool). cond b (Some (app.Signature word)) (where_true (is_app_name word) (app.Name word))) is.1
    ∙ ap (λ (w : List ℕ). some_app (app.Signature w)) is.0
  where
    some_app : AppWord → Option AppWord
    some_app a = Some a
app_word_again word (app.Name name) is =
    ap (λ (o : Option ℕ). team_or_name o word) (number_none 0 4294967295 word (omega arith) (λ n written. is.2 (n, written)))
    ∙ ap (λ (b : Bool). cond b (Some (app.Signature word)) (where_true (is_app_name word) (app.Name word))) (name_no_signature word is.1)
    ∙ ap (λ (b : Bool). where_true b (app.Name word)) is.1
    ∙ ap (λ (w : List ℕ). some_app (app.Name w)) is.0
  where
    some_app : AppWord → Option AppWord
    some_app a = Some a
app_word_again word (app.Path path) is = absurd is

pub app_words_are_read : WrittenAppWordsAreRead
app_words_are_read word a = (app_word_again word a, app_word_takes word a)

-- a signature begins with another letter than a path
pub signature_no_path : (word : List ℕ) → is_signature word ≡ true → is_path word ≡ false
signature_no_path word is = by_test (is_path word) refl where
  front : (bytes : List ℕ) → begins_with (codes "application/") bytes ≡ true → begins_with (codes "/") bytes ≡ true → ⊥
  front [] a b = absurd cc
  front (byte ∷ bytes) a b = grind (arith, common_steps)

  by_test : (b : Bool) → is_path word ≡ b → is_path word ≡ false
  by_test true path =
      let begins = (and_parts (is_word word) (begins_with (codes "/") word) (and_parts (is_word word && begins_with (codes "/") word) (not (ends_with ◌==◌ word (codes "/"))) path).0).1 in
      let signs = (and_parts (is_word word) (begins_with (codes "application/") word) (and_parts (is_word word && begins_with (codes "application/") word) (nat_lt 12 (length word)) is).0).1 in
      absurd (front word signs begins)
  by_test false path = path

-- ---- what is launched, and what is looked up, by its text
abbrev pub text_of : AppWord → List ℕ
text_of (app.Path path) = path
text_of (app.Signature signature) = signature
text_of (app.Name name) = name
text_of (app.Team team) = decimal team

-- what is read of a word may be looked up
pub looked_up_is : (word : List ℕ) (a : AppWord) → SaysAppWord word a → IsTrue (is_looked_up a)
looked_up_is word (app.Team team) is = le-leb team 4294967295 is.2
looked_up_is word (app.Signature signature) is = subst (λ (w : List ℕ). is_signature w ≡ true) is.0 is.1
looked_up_is word (app.Name name) is =
    let named = subst (λ (w : List ℕ). is_app_name w ≡ true) is.0 is.1 in
    let none = number_none 0 4294967295 word (omega arith) (λ n written. is.2 (n, written)) in
    rw (named, ap (λ (w : List ℕ). number_within w 0 4294967295) (sym is.0) ∙ none) refl
looked_up_is word (app.Path path) is = absurd is

-- and what may be looked up is what its text says
pub says_looked_up : (a : AppWord) → IsTrue (is_looked_up a) → SaysAppWord (text_of a) a
says_looked_up (app.Team team) is = (refl, omega arith, leb-true team 4294967295 is)
says_looked_up (app.Signature signature) is = (refl, is)
says_looked_up (app.Name name) is =
    let parts = and_parts (is_app_name name) (is_none (number_within name 0 4294967295)) is in
    (refl, parts.0, λ team. no_team team.0 team.1 parts.1) where
      no_team : (n : ℕ) → WritesNumber 0 4294967295 name n → is_none (number_within name 0 4294967295) ≡ true → ⊥
      no_team n written none = let read = number_again 0 4294967295 name n (omega arith) written in let wrong : is_none (Some n) ≡ true = rw read at none in absurd cc
says_looked_up (app.Path path) is = absurd cc

pub looked_up_again : (a : AppWord) → IsTrue (is_looked_up a) → app_word_of (text_of a) ≡ Some a
looked_up_again a is = app_word_again (text_of a) a (says_looked_up a is)

pub launched_again : (a : AppWord) → IsTrue (is_launched a) → launch_word_of (text_of a) ≡ Some a
launched_again (app.Path path) is = rw is refl
launched_again (app.Signature signature) is = rw (signature_no_path signature is, is) refl
launched_again (app.Name name) is = absurd cc
launched_again (app.Team team) is = absurd cc
