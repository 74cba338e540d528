-- Words behind blanks, in two lists.
use Rattle.std.proofs.Common.{◌≡◌, ℕ, List, [], ◌∷◌, ◌++◌, refl, ap, sym, ◌∙◌, append_assoc}
use Rattle.ak_journal.specs.Parts.{behind_blanks}

pub behind_blanks-append : (xs ys : List (List ℕ)) → behind_blanks (xs ++ ys) ≡ behind_blanks xs ++ behind_blanks ys
behind_blanks-append [] ys = refl
behind_blanks-append (word ∷ xs) ys =
    ap (λ (t : List ℕ). 32 ∷ word ++ t) (behind_blanks-append xs ys) ∙ ap (λ (t : List ℕ). 32 ∷ t) (sym (append_assoc word (behind_blanks xs) (behind_blanks ys)))

-- what was written part by part is the whole
pub four_parts
    : (out counted routed ended : List ℕ) (front route quit answers : List (List ℕ)) → counted ≡ out ++ behind_blanks front
    → routed ≡ counted ++ behind_blanks route
    → ended ≡ routed ++ behind_blanks quit
    → ended ++ behind_blanks answers ≡ out ++ behind_blanks (front ++ (route ++ quit ++ answers))
four_parts out counted routed ended front route quit answers a b c =
    rw (c, b, a, behind_blanks-append front (route ++ quit ++ answers), behind_blanks-append (route ++ quit) answers, behind_blanks-append route quit) (simp append_assoc)
