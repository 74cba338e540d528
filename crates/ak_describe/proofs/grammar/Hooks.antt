-- The quit hook.
use Rattle.std.proofs.Common.{◌≡◌, ◌↔◌, ℕ, true, List, [], ◌∷◌, Option, Some, None, refl, ap, ◌∙◌}
use Rattle.std.specs.Prelude.{codes}
use Rattle.ak_describe.specs.Forms.{is_end, hook_form}
use Rattle.ak_describe.specs.Words.{behind}
use Rattle.ak_base.specs.Option.{◌>>=◌}
use Rattle.ak_describe.proofs.grammar.Parts.{behind_takes, ends_nil}

-- ---- `quit refuse`
last_takes : (words : List (List ℕ)) (word : List ℕ) → is_end (behind words word) ≡ true → words ≡ word ∷ []
last_takes words word e = by_rest (behind words word) refl e where
  by_rest : (o : Option (List (List ℕ))) → behind words word ≡ o → is_end o ≡ true → words ≡ word ∷ []
  by_rest None is e = absurd cc
  by_rest (Some rest) is e = behind_takes words word rest is ∙ ap (λ (ws : List (List ℕ)). word ∷ ws) (ends_nil rest e)

hook_takes : (words : List (List ℕ)) → hook_form words ≡ true → words ≡ codes "quit" ∷ codes "refuse" ∷ []
unfolding hook_form
hook_takes words e = by_rest (behind words (codes "quit")) refl e where
  by_rest : (o : Option (List (List ℕ))) → behind words (codes "quit") ≡ o → is_end (o >>= λ rest. behind rest (codes "refuse")) ≡ true → words ≡ codes "quit" ∷ codes "refuse" ∷ []
  by_rest None is e = absurd cc
  by_rest (Some rest) is e = behind_takes words (codes "quit") rest is ∙ ap (λ (ws : List (List ℕ)). codes "quit" ∷ ws) (last_takes rest (codes "refuse") e)

hook_again : hook_form (codes "quit" ∷ codes "refuse" ∷ []) ≡ true
unfolding hook_form
hook_again = refl

pub hook_is_read : (words : List (List ℕ)) → (words ≡ codes "quit" ∷ codes "refuse" ∷ []) ↔ (hook_form words ≡ true)
hook_is_read words = (λ is. ap hook_form is ∙ hook_again, λ e. hook_takes words e)
