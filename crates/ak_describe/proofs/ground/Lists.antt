-- A list that is made of the parts of another, one part after another.
use Rattle.std.proofs.Common.{◌≡◌, ◌∙◌, List, [], ◌∷◌, ◌++◌, map, All, subst, sym, ap, append_assoc}
use Rattle.std.proofs.lemmas.List.Elements.{All-head, All-tail}

pub one_more : {X Z Y : Type 0} (view : X → Z) (g : Z → Y) (made now : List Y) (rest left : List X) (x : X) (y : Y) (all : List Y)
    → rest ≡ x ∷ left → now ≡ made ++ y ∷ [] → y ≡ g (view x) → made ++ map g (map view rest) ≡ all → now ++ map g (map view left) ≡ all
one_more {X} {Z} {Y} view g made now rest left x y all next pushed is before =
    ap (λ (l : List Y). l ++ map g (map view left)) pushed ∙ append_assoc made (y ∷ []) (map g (map view left)) ∙ ap (λ (z : Y). made ++ z ∷ map g (map view left)) is
    ∙ sym (ap (λ (l : List X). made ++ map g (map view l)) next) ∙ before

pub first_of_all : {X Z : Type 0} (P : Z → Type 0) (view : X → Z) (rest left : List X) (x : X) → rest ≡ x ∷ left → All P (map view rest) → P (view x)
first_of_all {X} {Z} P view rest left x next all = All-head P (view x) (map view left) (subst (λ (l : List X). All P (map view l)) next all)

pub rest_of_all : {X Z : Type 0} (P : Z → Type 0) (view : X → Z) (rest left : List X) (x : X) → rest ≡ x ∷ left → All P (map view rest) → All P (map view left)
rest_of_all {X} {Z} P view rest left x next all = All-tail P (view x) (map view left) (subst (λ (l : List X). All P (map view l)) next all)
