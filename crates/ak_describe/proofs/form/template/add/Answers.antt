-- The names as the set holds them, and as they are seen.
use Rattle.std.proofs.Common.{◌≡◌, ℕ, Bool, true, false, ◌||◌, cond, List, [], ◌∷◌, ◌++◌, Bor, None, refl, sym, ap, ap₂, ◌∙◌}
use Rattle.std.specs.Prelude.{map}
use Rattle.std.specs.List.{list_any}
use Rattle.std.specs.Str.{bytes_eq}
use Rattle.std.specs.Cmp.Lexicographic.{nat_list_eq_equiv}
use Rattle.std.proofs.lemmas.Bool.{not-false, not-true}
use Rattle.std.proofs.lemmas.List.{map-append}
use Rattle.ak_describe.specs.Actions.{has_name, named_too}
use Rattle.ak_describe.specs.Seen.{seen, built_of}
use Rattle.ak_describe.proofs.grammar.Building.{some_built}
use Rattle.ak_describe.proofs.form.template.add.Goals as goal

any_seen : (names : List (Bor (List ℕ))) (name : List ℕ) → has_name (map seen names) name ≡ list_any (λ (other : Bor (List ℕ)). bytes_eq name other.now) names
any_seen [] name = refl
any_seen (first ∷ names) name = ap₂ ◌||◌ (nat_list_eq_equiv.symm first.now name) (any_seen names name)

pub returns-then-not-branch : goal.returns-then-not-branch
returns-then-not-branch c =
    let used : list_any (λ (other : Bor (List ℕ)). bytes_eq c.args.name.now other.now) c.args.building.names.keys ≡ true =
    not-false _ (sym c.in_ok-insert.ensures.added ∙ c.if-not-branch.true) in
    ap (λ (t : Bool). cond t None (named_too (built_of c.args.building) c.args.name.now c.args.given)) (any_seen c.args.building.names.keys c.args.name.now ∙ used)

pub returns : goal.returns
returns c =
    let new : list_any (λ (other : Bor (List ℕ)). bytes_eq c.args.name.now other.now) c.args.building.names.keys ≡ false =
    not-true _ (sym c.in_ok-insert.ensures.added ∙ c.if-not-branch.false) in
    let keys : c.insert.new.self.keys ≡ c.args.building.names.keys ++ c.args.name ∷ [] =
    c.in_ok-insert.ensures.keys ∙ ap (λ (t : Bool). cond t c.args.building.names.keys (c.args.building.names.keys ++ c.args.name ∷ [])) new in
    let names : map seen c.args.building.names.keys ++ c.args.name.now ∷ [] ≡ map seen c.insert.new.self.keys =
    sym (map-append seen c.args.building.names.keys (c.args.name ∷ [])) ∙ ap (λ (ks : List (Bor (List ℕ))). map seen ks) (sym keys) in
    let added : named_too (built_of c.args.building) c.args.name.now c.args.given ≡ some_built (map seen c.args.building.names.keys ++ c.args.name.now ∷ []) c.in_ok-fields.fields =
    rw (c.in_ok-text.ensures, c.in_ok-fields.ensures) refl in
    ap (λ (t : Bool). cond t None (named_too (built_of c.args.building) c.args.name.now c.args.given)) (any_seen c.args.building.names.keys c.args.name.now ∙ new)
    ∙ (added ∙ ap (λ (ns : List (List ℕ)). some_built ns c.in_ok-fields.fields) names)
