-- The further words of the lines of applications and loopers, of those with a name alone, and of those with a code alone.
use Rattle.std.proofs.Common.{◌≡◌, ◌↔◌, ℕ, Bool, true, ◌&&◌, List, [], ◌∷◌, Option, Some, None, refl, sym, ap, subst, ◌∙◌, inl, inr, ⊎_elim, arith}
use Rattle.std.specs.Prelude.{codes}
use Rattle.std.specs.Str.{bytes_eq}
use Rattle.std.proofs.lemmas.Bool.{and_parts}
use Rattle.std.proofs.lemmas.Slice.Eq.{bytes_eq-Decides}
use Rattle.ak_base.specs.Word.{is_word}
use Rattle.ak_base.specs.declared.code.Code.{Code}
use Rattle.ak_base.specs.Option.{where_true, ◌>>=◌}
use Rattle.ak_base.proofs.Surface.{bind_some, cond_some, some_is}
use Rattle.ak_roster.specs.declared.head.Mode.{Mode}
use Rattle.ak_roster.specs.declared.head.Mode.TheVariants as mode
use Rattle.ak_describe.specs.declared.form.heads.AppForm.{AppForm}
use Rattle.ak_describe.specs.declared.form.heads.LooperForm.{LooperForm}
use Rattle.ak_describe.specs.Forms.{app_form, capacity_at, capacity_behind, capacity_from, looper_form}
use Rattle.ak_describe.specs.Grammar.{mode_word, SaysApp, IsCapacity, SaysLooper, SaysName, SaysCode}
use Rattle.ak_base.specs.AppName.{is_path, is_signature}
use Rattle.ak_input.specs.Written.{WritesNumber, code_of}
use Rattle.ak_input.proofs.Surface.{number_takes, number_again}
use Rattle.ak_describe.specs.Words.{mode_of, name_of, behind, name_at, code_at, only_name, only_code}
use Rattle.ak_describe.proofs.grammar.Choices.{chosen}
use Rattle.ak_describe.proofs.grammar.Codes.{code_again_is, code_takes_is}
use Rattle.ak_describe.proofs.grammar.Parts.{behind_takes, word_at, name_at-takes, name_at-again, only_takes, only_again}
use Rattle.ak_describe.proofs.grammar.Words.{name_takes, name_again}

-- ---- `PATH SIGNATURE MODE`
abbrev modes : List Mode
modes = mode.Single ∷ mode.Multiple ∷ mode.Exclusive ∷ []

mode_takes : (word : List ℕ) (m : Mode) → mode_of word ≡ Some m → word ≡ mode_word m
mode_takes word m e = chosen bytes_eq bytes_eq-Decides mode_word word modes m e

mode_again : (m : Mode) → mode_of (mode_word m) ≡ Some m
mode_again mode.Single = refl
mode_again mode.Multiple = refl
mode_again mode.Exclusive = refl

abbrev app_with : List ℕ → List ℕ → Mode → AppForm
app_with path signature m = record { path = path; signature = signature; mode = m }

app_of : (path signature word : List ℕ) (m : Mode) → word ≡ mode_word m → (is_path path && is_signature signature) ≡ true → SaysApp (path ∷ signature ∷ word ∷ []) (app_with path signature m)
app_of path signature word m is tests =
    let both = and_parts (is_path path) (is_signature signature) tests in
    record { all = ap (λ (w : List ℕ). path ∷ signature ∷ w ∷ []) is; path_is = both.0; signature_is = both.1 }

app_takes : (words : List (List ℕ)) (f : AppForm) → app_form words ≡ Some f → SaysApp words f
unfolding app_form
app_takes [] f e = absurd cc
app_takes (a ∷ []) f e = absurd cc
app_takes (a ∷ b ∷ []) f e = absurd cc
app_takes (a ∷ b ∷ c ∷ []) f e =
    let s = bind_some (mode_of c) (λ (m : Mode). where_true (is_path a && is_signature b) (app_with a b m)) f e in
    let t = cond_some (is_path a && is_signature b) (app_with a b s.0) f s.2 in
    subst (λ (g : AppForm). SaysApp (a ∷ b ∷ c ∷ []) g) {x = app_with a b s.0} {y = f} t.1 (app_of a b c s.0 (mode_takes c s.0 s.1) t.0)
app_takes (a ∷ b ∷ c ∷ d ∷ words) f e = absurd cc

app_again : (words : List (List ℕ)) (f : AppForm) → SaysApp words f → app_form words ≡ Some f
unfolding app_form
app_again words f is =
    ap app_form is.all
    ∙ ap (λ (o : Option Mode). o >>= (λ (m : Mode). where_true (is_path f.path && is_signature f.signature) (app_with f.path f.signature m))) (mode_again f.mode)
    ∙ ap (λ (b : Bool). where_true (b && is_signature f.signature) f) is.path_is
    ∙ ap (λ (b : Bool). where_true b f) is.signature_is

pub app_is_read : (words : List (List ℕ)) (f : AppForm) → SaysApp words f ↔ (app_form words ≡ Some f)
app_is_read words f = (λ is. app_again words f is, λ e. app_takes words f e)

-- ---- `NAME [capacity N]`
capacity_at_takes : (least : ℕ) (words : List (List ℕ)) (n : ℕ) → capacity_at least words ≡ Some n → (word : List ℕ) × (words ≡ word ∷ []) × WritesNumber least 1000 word n
unfolding capacity_at
capacity_at_takes least [] n e = absurd cc
capacity_at_takes least (w ∷ []) n e = (w, refl, number_takes least 1000 w n (omega arith) e)
capacity_at_takes least (w ∷ v ∷ words) n e = absurd cc

capacity_takes : (least : ℕ) (words : List (List ℕ)) (n : ℕ) → capacity_from least words ≡ Some n → IsCapacity least n words
unfolding capacity_from
capacity_takes least [] n e = inl (refl, sym (some_is 100 n e))
capacity_takes least (w ∷ words) n e = by_key (behind (w ∷ words) (codes "capacity")) refl e where
  by_key : (o : Option (List (List ℕ))) → behind (w ∷ words) (codes "capacity") ≡ o → capacity_behind least o ≡ Some n → IsCapacity least n (w ∷ words)
  by_key None is e = absurd cc
  by_key (Some rest) is e =
      let c = capacity_at_takes least rest n e in
      inr (c.0, behind_takes (w ∷ words) (codes "capacity") rest is ∙ ap (λ (ws : List (List ℕ)). codes "capacity" ∷ ws) c.1, c.2)

no_capacity : (least n : ℕ) (words : List (List ℕ)) → words ≡ [] → n ≡ 100 → capacity_from least words ≡ Some n
unfolding capacity_from
no_capacity least n words none usual = ap (capacity_from least) none ∙ ap (λ (m : ℕ). some_of m) (sym usual)
  where
    some_of : ℕ → Option ℕ
    some_of m = Some m

one_capacity : (least n : ℕ) (words : List (List ℕ)) (word : List ℕ) → words ≡ codes "capacity" ∷ word ∷ [] → WritesNumber least 1000 word n → capacity_from least words ≡ Some n
unfolding capacity_from capacity_at
one_capacity least n words word is written = ap (capacity_from least) is ∙ number_again least 1000 word n (omega arith) written

capacity_again : (least n : ℕ) (words : List (List ℕ)) → IsCapacity least n words → capacity_from least words ≡ Some n
capacity_again least n words is = ⊎_elim (λ none. no_capacity least n words none.0 none.1) (λ one. one_capacity least n words one.0 one.1 one.2) is

abbrev looper_with : List ℕ → ℕ → LooperForm
looper_with name capacity = record { name = name; capacity = capacity }

abbrev some_looper : List ℕ → ℕ → Option LooperForm
some_looper name capacity = Some (looper_with name capacity)

looper_of : (least : ℕ) (words part : List (List ℕ)) (name : List ℕ) (capacity : ℕ) → (words ≡ name ∷ part) × (is_word name ≡ true) → IsCapacity least capacity part → SaysLooper least words (looper_with name capacity)
looper_of least words part name capacity is capacity_is = record { part = part; all = is.0; name_is = is.1; capacity_is = capacity_is }

looper_takes : (least : ℕ) (words : List (List ℕ)) (f : LooperForm) → looper_form least words ≡ Some f → SaysLooper least words f
unfolding looper_form name_at
looper_takes least words f e =
    let s = bind_some (word_at name_of words) (λ (name : List ℕ × List (List ℕ)). capacity_from least name.1 >>= λ capacity. some_looper name.0 capacity) f e in
    let c = bind_some (capacity_from least s.0.1) (λ (capacity : ℕ). some_looper s.0.0 capacity) f s.2 in
    subst (λ (g : LooperForm). SaysLooper least words g) {x = looper_with s.0.0 c.0} {y = f} (some_is (looper_with s.0.0 c.0) f c.2)
    (looper_of least words s.0.1 s.0.0 c.0 (name_at-takes words s.0.0 s.0.1 s.1) (capacity_takes least s.0.1 c.0 c.1))

looper_again : (least : ℕ) (words : List (List ℕ)) (f : LooperForm) → SaysLooper least words f → looper_form least words ≡ Some f
unfolding looper_form name_at
looper_again least words f is =
    ap (looper_form least) is.all
    ∙ ap (λ (o : Option (List ℕ × List (List ℕ))). o >>= (λ (name : List ℕ × List (List ℕ)). capacity_from least name.1 >>= (λ (capacity : ℕ). some_looper name.0 capacity)))
    (name_at-again f.name is.part is.name_is)
    ∙ ap (λ (o : Option ℕ). o >>= (λ (capacity : ℕ). some_looper f.name capacity)) (capacity_again least f.capacity is.part is.capacity_is)

pub looper_is_read : (least : ℕ) (words : List (List ℕ)) (f : LooperForm) → SaysLooper least words f ↔ (looper_form least words ≡ Some f)
looper_is_read least words f = (λ is. looper_again least words f is, λ e. looper_takes least words f e)

-- ---- `NAME`, `CODE`
name_alone_takes : (words : List (List ℕ)) (name : List ℕ) → only_name words ≡ Some name → SaysName words name
unfolding only_name name_at
name_alone_takes words name e =
    let w = only_takes name_of words name e in
    let is = name_takes w.0 name w.2 in
    (w.1 ∙ ap (λ (v : List ℕ). v ∷ []) is.1, subst (λ (v : List ℕ). is_word v ≡ true) is.1 is.0)

name_alone_again : (words : List (List ℕ)) (name : List ℕ) → SaysName words name → only_name words ≡ Some name
unfolding only_name name_at
name_alone_again words name is = ap only_name is.0 ∙ only_again name_of name name (name_again name name (is.1, refl))

pub name_is_read : (words : List (List ℕ)) (name : List ℕ) → SaysName words name ↔ (only_name words ≡ Some name)
name_is_read words name = (λ is. name_alone_again words name is, λ e. name_alone_takes words name e)

code_alone_takes : (words : List (List ℕ)) (code : Code) → only_code words ≡ Some code → SaysCode words code
unfolding only_code code_at
code_alone_takes words code e =
    let w = only_takes code_of words code e in
    (w.0, w.1, code_takes_is w.0 code w.2)

code_alone_again : (words : List (List ℕ)) (code : Code) → SaysCode words code → only_code words ≡ Some code
unfolding only_code code_at
code_alone_again words code is = ap only_code is.1 ∙ only_again code_of is.0 code (code_again_is is.0 code is.2)

pub code_is_read : (words : List (List ℕ)) (code : Code) → SaysCode words code ↔ (only_code words ≡ Some code)
code_is_read words code = (λ is. code_alone_again words code is, λ e. code_alone_takes words code e)
