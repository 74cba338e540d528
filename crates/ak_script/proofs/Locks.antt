-- A lock line is read of the words that say so, and of no others.
use Rattle.std.proofs.Common.{◌≡◌, ◌≢◌, ℕ, Bool, true, false, if◌then◌else◌, List, [], ◌∷◌, codes, Option, Some, None, Ok, refl, ap, sym, subst, ◌∙◌, arith}
use Rattle.std.specs.Prelude.{option_map}
use Rattle.std.specs.Str.{bytes_eq}
use Rattle.std.proofs.lemmas.Slice.Eq.{bytes_eq-Decides}
use Rattle.ak_base.specs.Option.{where_true, ◌>>=◌}
use Rattle.ak_base.specs.Word.{is_word}
use Rattle.ak_base.specs.declared.app_word.AppWord.{AppWord}
use Rattle.ak_input.specs.Written.{app_word_of}
use Rattle.ak_desk.specs.declared.entry.Edit.{Edit}
use Rattle.ak_desk.specs.declared.entry.Edit.TheVariants as edit
use Rattle.ak_describe.specs.Pass.{or_bad}
use Rattle.ak_describe.specs.Words.{behind, first_of}
use Rattle.ak_describe.proofs.Surface.{app_word_takes, app_word_again}
use Rattle.ak_script.specs.Forms.{only, looper_at, most_token, token_of, token_or_none, next_form, name_of, add_form, remove_form, prefer_form, token_edit, edit_by, edit_of, locked, lock_of}
use Rattle.ak_script.specs.Says.{SaysTokenOrNone, SaysEdit, SaysLock}
use Rattle.ak_script.specs.Statement.{LockData}
use Rattle.ak_script.proofs.InOrder.{first_is, only_is}
use Rattle.ak_script.proofs.Numbers.{place_is, place_again, within_takes, within_again}
use Rattle.ak_script.proofs.Outcomes.{bind_is, mapped_is, read_is, where_is}

-- ---- tokens
none_or_token : (word : List ℕ) (next : Option ℕ) → token_or_none word ≡ Some next → SaysTokenOrNone word next
none_or_token word next e = by_none (bytes_eq word (codes "none")) refl e where
  by_none : (b : Bool) → bytes_eq word (codes "none") ≡ b → (if b then Some None else option_map Some (token_of word)) ≡ Some next → SaysTokenOrNone word next
  by_none true t f = let same : None ≡ next = cc in subst (SaysTokenOrNone word) same ((bytes_eq-Decides word (codes "none")).0 t)
  by_none false t f =
      let m = mapped_is (token_of word) Some next f in
      let differs : word ≢ codes "none" = λ is. let wrong = (bytes_eq-Decides word (codes "none")).1 is in absurd cc in
      subst (SaysTokenOrNone word) m.then_is (differs, within_takes most_token word m.value (omega arith) m.is)

token_again : (word : List ℕ) (next : Option ℕ) → SaysTokenOrNone word next → token_or_none word ≡ Some next
token_again word None is = ap token_or_none is
token_again word (Some token) is = by_none (bytes_eq word (codes "none")) refl where
  by_none : (b : Bool) → bytes_eq word (codes "none") ≡ b → (if b then Some None else option_map Some (token_of word)) ≡ Some (Some token)
  by_none true t = absurd (is.0 ((bytes_eq-Decides word (codes "none")).0 t))
  by_none false t = ap (option_map Some) (within_again most_token word token (omega arith) is.1)

-- ---- edits
add_is : (words : List (List ℕ)) (x : Edit) → add_form words ≡ Some x → SaysEdit (codes "add" ∷ words) x
add_is words x e =
    let m = mapped_is (only words >>= name_of) edit.Add x e in
    let o = bind_is (only words) name_of m.value m.is in
    let w = where_is (is_word o.value) o.value m.value o.then_is in
    subst (SaysEdit (codes "add" ∷ words)) m.then_is
    (ap (λ (ws : List (List ℕ)). codes "add" ∷ ws) (only_is words o.value o.is ∙ ap (λ (v : List ℕ). v ∷ []) w.1), subst (λ (v : List ℕ). is_word v ≡ true) w.1 w.0)

remove_is : (words : List (List ℕ)) (x : Edit) → remove_form words ≡ Some x → SaysEdit (codes "remove" ∷ words) x
remove_is words x e =
    let m = mapped_is (only words >>= token_of) edit.Remove x e in
    let o = bind_is (only words) token_of m.value m.is in
    subst (SaysEdit (codes "remove" ∷ words)) m.then_is (o.value, ap (λ (ws : List (List ℕ)). codes "remove" ∷ ws) (only_is words o.value o.is), within_takes most_token o.value m.value (omega arith) o.then_is)

prefer_is : (words : List (List ℕ)) (x : Edit) → prefer_form words ≡ Some x → SaysEdit (codes "prefer" ∷ words) x
prefer_is words x e =
    let m = mapped_is (only words >>= token_or_none) edit.Prefer x e in
    let o = bind_is (only words) token_or_none m.value m.is in
    subst (SaysEdit (codes "prefer" ∷ words)) m.then_is
    (o.value, ap (λ (ws : List (List ℕ)). codes "prefer" ∷ ws) (only_is words o.value o.is), none_or_token o.value m.value o.then_is)

next_is : (words : List (List ℕ)) (x : Edit) → next_form words ≡ Some x → SaysEdit (codes "next" ∷ words) x
unfolding next_form
next_is words x e =
    let first = bind_is (first_of words) _ x e in
    let token = bind_is (token_of first.value.0) _ x first.then_is in
    let last = bind_is (only first.value.1) _ x token.then_is in
    let next = bind_is (token_or_none last.value) _ x last.then_is in
    let same : edit.Next token.value next.value ≡ x = cc in
    let parts : words ≡ first.value.0 ∷ last.value ∷ [] =
    first_is words first.value first.is ∙ ap (λ (ws : List (List ℕ)). first.value.0 ∷ ws) (only_is first.value.1 last.value last.is) in
    subst (SaysEdit (codes "next" ∷ words)) same
    (first.value.0, last.value, ap (λ (ws : List (List ℕ)). codes "next" ∷ ws) parts, within_takes most_token first.value.0 token.value (omega arith) token.is, none_or_token last.value next.value next.is)

by_tokens : (word : List ℕ) (words : List (List ℕ)) (x : Edit) → token_edit word words ≡ Some x → SaysEdit (word ∷ words) x
by_tokens word words x e = by_remove (bytes_eq word (codes "remove")) refl e where
  with_key : (key : List ℕ) → bytes_eq word key ≡ true → SaysEdit (key ∷ words) x → SaysEdit (word ∷ words) x
  with_key key t says = subst (λ (v : List ℕ). SaysEdit (v ∷ words) x) (sym ((bytes_eq-Decides word key).0 t)) says

  by_prefer : (b : Bool) → bytes_eq word (codes "prefer") ≡ b → (if b then prefer_form words else None) ≡ Some x → SaysEdit (word ∷ words) x
  by_prefer true t f = with_key (codes "prefer") t (prefer_is words x f)
  by_prefer false t f = absurd cc

  by_next : (b : Bool) → bytes_eq word (codes "next") ≡ b
      → (if b then next_form words else if bytes_eq word (codes "prefer") then prefer_form words else None) ≡ Some x → SaysEdit (word ∷ words) x
  by_next true t f = with_key (codes "next") t (next_is words x f)
  by_next false t f = by_prefer (bytes_eq word (codes "prefer")) refl f

  by_remove : (b : Bool) → bytes_eq word (codes "remove") ≡ b
      → (if b then remove_form words else if bytes_eq word (codes "next") then next_form words else if bytes_eq word (codes "prefer") then prefer_form words else None) ≡ Some x → SaysEdit (word ∷ words) x
  by_remove true t f = with_key (codes "remove") t (remove_is words x f)
  by_remove false t f = by_next (bytes_eq word (codes "next")) refl f

edit_takes : (words : List (List ℕ)) (x : Edit) → edit_of words ≡ Some x → SaysEdit words x
edit_takes words x e =
    let first = bind_is (first_of words) (λ (y : List ℕ × List (List ℕ)). edit_by y.0 y.1) x e in
    subst (λ (ws : List (List ℕ)). SaysEdit ws x) (sym (first_is words first.value first.is)) (by_add first.value.0 first.value.1 (bytes_eq first.value.0 (codes "add")) refl first.then_is) where
      by_add : (word : List ℕ) (more : List (List ℕ)) (b : Bool) → bytes_eq word (codes "add") ≡ b → (if b then add_form more else token_edit word more) ≡ Some x → SaysEdit (word ∷ more) x
      by_add word more true t f = subst (λ (v : List ℕ). SaysEdit (v ∷ more) x) (sym ((bytes_eq-Decides word (codes "add")).0 t)) (add_is more x f)
      by_add word more false t f = by_tokens word more x f

edit_again : (words : List (List ℕ)) (x : Edit) → SaysEdit words x → edit_of words ≡ Some x
unfolding next_form
edit_again words (edit.Add name) p = ap edit_of p.0 ∙ ap (λ (b : Bool). option_map edit.Add (where_true b name)) p.1
edit_again words (edit.Remove token) p = ap edit_of p.1 ∙ ap (option_map edit.Remove) (within_again most_token p.0 token (omega arith) p.2)
edit_again words (edit.Next token next) p = ap edit_of p.2 ∙ rw (within_again most_token p.0 token (omega arith) p.3, token_again p.1 next p.4) refl
edit_again words (edit.Prefer token) p = ap edit_of p.1 ∙ ap (option_map edit.Prefer) (token_again p.0 token p.2)

-- what begins an edit is no `looper`
no_place : (words : List (List ℕ)) (x : Edit) → SaysEdit words x → behind words (codes "looper") ≡ None
no_place words (edit.Add name) p = ap (λ (ws : List (List ℕ)). behind ws (codes "looper")) p.0
no_place words (edit.Remove token) p = ap (λ (ws : List (List ℕ)). behind ws (codes "looper")) p.1
no_place words (edit.Next token next) p = ap (λ (ws : List (List ℕ)). behind ws (codes "looper")) p.2
no_place words (edit.Prefer token) p = ap (λ (ws : List (List ℕ)). behind ws (codes "looper")) p.1

-- ---- the line
pub lock_takes : (words : List (List ℕ)) (x : LockData) → lock_of words ≡ Ok x → SaysLock words x
lock_takes words x e =
    let named = read_is (first_of words) (λ (y : List ℕ × List (List ℕ)). or_bad (app_word_of y.0) (λ (word : AppWord). or_bad (looper_at y.1) (λ (z : ℕ × List (List ℕ)). or_bad (edit_of z.1) (λ (c : Edit). Ok (locked word z.0 c))))) x e in
    let a = read_is (app_word_of named.value.0) (λ (word : AppWord). or_bad (looper_at named.value.1) (λ (z : ℕ × List (List ℕ)). or_bad (edit_of z.1) (λ (c : Edit). Ok (locked word z.0 c)))) x named.then_is in
    let l = read_is (looper_at named.value.1) (λ (z : ℕ × List (List ℕ)). or_bad (edit_of z.1) (λ (c : Edit). Ok (locked a.value z.0 c))) x a.then_is in
    let c = read_is (edit_of l.value.1) (λ (c : Edit). Ok (locked a.value l.value.0 c)) x l.then_is in
    let same : locked a.value l.value.0 c.value ≡ x = cc in
    let place = place_is named.value.1 l.value.0 l.value.1 l.is in
    let says : SaysLock words (record { app = a.value; looper = l.value.0; edit = c.value }) = record {
      named = named.value.0;
      place = place.part;
      change = l.value.1;
      parts = first_is words named.value named.is ∙ ap (λ (ws : List (List ℕ)). named.value.0 ∷ ws) place.parts;
      app_is = app_word_takes named.value.0 a.value a.is;
      place_is = place.says;
      edit_is = edit_takes l.value.1 c.value c.is;
    } in
    subst (SaysLock words) same says

pub lock_again : (words : List (List ℕ)) (s : LockData) → SaysLock words s → lock_of words ≡ Ok s
lock_again words s p =
    ap lock_of p.parts
    ∙ rw (app_word_again p.named s.app p.app_is, place_again p.place s.looper p.change p.place_is (no_place p.change s.edit p.edit_is), edit_again p.change s.edit p.edit_is) refl
