-- Where a message is sent.
use Rattle.std.proofs.Common.{◌≡◌, ◌↔◌, ℕ, Bool, true, false, cond, List, [], ◌∷◌, ◌++◌, Option, Some, None, refl, sym, ap, subst, ◌∙◌}
use Rattle.std.specs.Prelude.{codes}
use Rattle.std.specs.Str.{bytes_eq}
use Rattle.std.proofs.lemmas.Slice.Eq.{bytes_eq-Decides}
use Rattle.ak_base.specs.Word.{is_word}
use Rattle.ak_base.specs.declared.app_word.AppWord.{AppWord}
use Rattle.ak_base.specs.Option.{◌>>=◌}
use Rattle.ak_base.proofs.Surface.{bind_some}
use Rattle.ak_action.specs.declared.action.Dest.{Dest}
use Rattle.ak_action.specs.declared.action.Dest.TheVariants as dest
use Rattle.ak_describe.specs.Actions.{to_app, dest_at}
use Rattle.ak_describe.specs.Grammar.{SaysDest}
use Rattle.ak_input.specs.Written.{app_word_of}
use Rattle.ak_input.proofs.Surface.{app_word_again, app_word_takes}
use Rattle.ak_describe.specs.Words.{name_of, name_at}
use Rattle.ak_describe.proofs.grammar.Parts.{read_as, read_is, word_at, name_at-takes, name_at-again}

-- ---- `self`, `looper NAME`, `handler NAME`, `app APP`
abbrev IsDest : List (List ℕ) → Dest → List (List ℕ) → Type 0
IsDest words d rest = (part : List (List ℕ)) × (words ≡ part ++ rest) × SaysDest part d

abbrev named : (List ℕ → Dest) → List (List ℕ) → Option (Dest × List (List ℕ))
named of_name words = word_at name_of words >>= λ name. read_as (of_name name.0) name.1

named_takes_of : (of_name : List ℕ → Dest) (key w : List ℕ) (words : List (List ℕ)) (d : Dest) (rest : List (List ℕ)) → ((name : List ℕ) → is_word name ≡ true → SaysDest (key ∷ name ∷ []) (of_name name)) → w ≡ key
    → named of_name words ≡ read_as d rest → IsDest (w ∷ words) d rest
named_takes_of of_name key w words d rest says is e =
    let s = bind_some {B = Dest × List (List ℕ)} (word_at name_of words) (λ (name : List ℕ × List (List ℕ)). read_as (of_name name.0) name.1) (d, rest) e in
    let p = read_is (of_name s.0.0) d s.0.1 rest s.2 in
    let n = name_at-takes words s.0.0 s.0.1 s.1 in (
      key ∷ s.0.0 ∷ [],
      ap (λ (v : List ℕ). v ∷ words) is ∙ ap (λ (ws : List (List ℕ)). key ∷ ws) (n.0 ∙ ap (λ (ws : List (List ℕ)). s.0.0 ∷ ws) p.1),
      subst (λ (x : Dest). SaysDest (key ∷ s.0.0 ∷ []) x) p.0 (says s.0.0 n.1),
    )

app_takes : (w : List ℕ) (words : List (List ℕ)) (d : Dest) (rest : List (List ℕ)) → w ≡ codes "app" → to_app words ≡ read_as d rest → IsDest (w ∷ words) d rest
app_takes w words d rest is e = by_app words refl e where
  by_app : (ws : List (List ℕ)) → words ≡ ws → to_app ws ≡ read_as d rest → IsDest (w ∷ words) d rest
  by_app [] all e = absurd cc
  by_app (v ∷ more) all e =
      let s = bind_some {B = Dest × List (List ℕ)} (app_word_of v) (λ (a : AppWord). read_as (dest.App a) more) (d, rest) e in
      let p = read_is (dest.App s.0) d more rest s.2 in (
        codes "app" ∷ v ∷ [],
        ap (λ (u : List ℕ). u ∷ words) is ∙ ap (λ (ws : List (List ℕ)). codes "app" ∷ ws) (all ∙ ap (λ (ws : List (List ℕ)). v ∷ ws) p.1),
        subst (λ (x : Dest). SaysDest (codes "app" ∷ v ∷ []) x) p.0 (v, refl, app_word_takes v s.0 s.1),
      )

dest_takes : (words : List (List ℕ)) (d : Dest) (rest : List (List ℕ)) → dest_at words ≡ Some (d, rest) → IsDest words d rest
unfolding dest_at name_at
dest_takes [] d rest e = absurd cc
dest_takes (w ∷ words) d rest e = by_word (bytes_eq w (codes "self")) (bytes_eq w (codes "looper")) (bytes_eq w (codes "handler")) (bytes_eq w (codes "app")) refl refl refl refl e where
  by_word : (own looper handler an_app : Bool) → bytes_eq w (codes "self") ≡ own → bytes_eq w (codes "looper") ≡ looper → bytes_eq w (codes "handler") ≡ handler → bytes_eq w (codes "app") ≡ an_app
      → cond own (read_as dest.Own words) (cond looper (named dest.Looper words) (cond handler (named dest.Handler words) (cond an_app (to_app words) None))) ≡ read_as d rest → IsDest (w ∷ words) d rest
  by_word true looper handler an_app is f g h e =
      let p = read_is dest.Own d words rest e in (
        codes "self" ∷ [],
        ap (λ (v : List ℕ). v ∷ words) ((bytes_eq-Decides w (codes "self")).0 is) ∙ ap (λ (ws : List (List ℕ)). codes "self" ∷ ws) p.1,
        subst (λ (x : Dest). SaysDest (codes "self" ∷ []) x) p.0 refl,
      )
  by_word false true handler an_app is f g h e = named_takes_of dest.Looper (codes "looper") w words d rest (λ name word. (refl, word)) ((bytes_eq-Decides w (codes "looper")).0 f) e
  by_word false false true an_app is f g h e = named_takes_of dest.Handler (codes "handler") w words d rest (λ name word. (refl, word)) ((bytes_eq-Decides w (codes "handler")).0 g) e
  by_word false false false true is f g h e = app_takes w words d rest ((bytes_eq-Decides w (codes "app")).0 h) e
  by_word false false false false is f g h e = absurd cc

dest_again : (part : List (List ℕ)) (d : Dest) (rest : List (List ℕ)) → SaysDest part d → dest_at (part ++ rest) ≡ read_as d rest
unfolding dest_at name_at
dest_again part dest.Own rest is = subst (λ (ps : List (List ℕ)). dest_at (ps ++ rest) ≡ read_as dest.Own rest) (sym is) refl
dest_again part (dest.Looper name) rest is =
    subst (λ (ps : List (List ℕ)). dest_at (ps ++ rest) ≡ read_as (dest.Looper name) rest) (sym is.0)
    (ap (λ (o : Option (List ℕ × List (List ℕ))). o >>= (λ (n : List ℕ × List (List ℕ)). read_as (dest.Looper n.0) n.1)) (name_at-again name rest is.1))
dest_again part (dest.Handler name) rest is =
    subst (λ (ps : List (List ℕ)). dest_at (ps ++ rest) ≡ read_as (dest.Handler name) rest) (sym is.0)
    (ap (λ (o : Option (List ℕ × List (List ℕ))). o >>= (λ (n : List ℕ × List (List ℕ)). read_as (dest.Handler n.0) n.1)) (name_at-again name rest is.1))
dest_again part (dest.App a) rest is =
    subst (λ (ps : List (List ℕ)). dest_at (ps ++ rest) ≡ read_as (dest.App a) rest) (sym is.1)
    (ap (λ (o : Option AppWord). o >>= (λ (x : AppWord). read_as (dest.App x) rest)) (app_word_again is.0 a is.2))

pub dest_is_read : (words : List (List ℕ)) (d : Dest) (rest : List (List ℕ)) → (dest_at words ≡ Some (d, rest)) ↔ ((part : List (List ℕ)) × (words ≡ part ++ rest) × SaysDest part d)
dest_is_read words d rest = (λ e. dest_takes words d rest e, λ is. ap dest_at is.1 ∙ dest_again is.0 d rest is.2)
