use Rattle.std.proofs.Common.{◌≡◌, ℕ, Bool, true, false, not, cond, List, [], ◌∷◌, ◌++◌, Bor, Option, Some, refl, sym, ap, ◌∙◌}
use Rattle.std.specs.Prelude.{map}
use Rattle.std.specs.List.{list_any}
use Rattle.std.specs.Str.{bytes_eq}
use Rattle.std.proofs.lemmas.Bool.{not-false, not-true}
use Rattle.std.proofs.lemmas.List.{map-append}
use Rattle.ak_message.specs.Message.{MessageData}
use Rattle.ak_base.specs.Option.{where_true}
use Rattle.ak_base.specs.declared.limited.Limited.{Limited}
use Rattle.ak_input.specs.Reading.{Built}
use Rattle.ak_input.specs.ReadSeen.{seen}
use Rattle.ak_input.proofs.reading.begin.Goals as goal

-- the names as the set holds them, and as they are seen
any_seen : (name : List ℕ) (names : List (Bor (List ℕ))) → list_any (bytes_eq name) (map seen names) ≡ list_any (λ (other : Bor (List ℕ)). bytes_eq name other.now) names
any_seen name [] = refl
any_seen name (first ∷ names) = rw (any_seen name names) refl

abbrev some_built : List (List ℕ) → Limited MessageData → Option Built
some_built names message = Some (record { names = names; message = message })

pub returns-then-branch : goal.returns-then-branch
returns-then-branch c =
    let new : list_any (λ (other : Bor (List ℕ)). bytes_eq c.args.name.now other.now) c.args.building.names.keys ≡ false =
    not-true _ (sym c.in_ok-insert.ensures.added ∙ c.if-branch.true) in
    let keys : c.insert.new.self.keys ≡ c.args.building.names.keys ++ c.args.name ∷ [] =
    c.in_ok-insert.ensures.keys ∙ ap (λ (t : Bool). cond t c.args.building.names.keys (c.args.building.names.keys ++ c.args.name ∷ [])) new in
    let names : map seen c.args.building.names.keys ++ c.args.name.now ∷ [] ≡ map seen c.insert.new.self.keys =
    sym (map-append seen c.args.building.names.keys (c.args.name ∷ [])) ∙ ap (λ (ks : List (Bor (List ℕ))). map seen ks) (sym keys) in
    ap (λ (t : Bool). where_true (not t) (record { names = map seen c.args.building.names.keys ++ c.args.name.now ∷ []; message = c.args.building.message })) (any_seen c.args.name.now c.args.building.names.keys ∙ new)
    ∙ ap (λ (ns : List (List ℕ)). some_built ns c.args.building.message) names

pub returns : goal.returns
returns c =
    let used : list_any (λ (other : Bor (List ℕ)). bytes_eq c.args.name.now other.now) c.args.building.names.keys ≡ true =
    not-false _ (sym c.in_ok-insert.ensures.added ∙ c.if-branch.false) in
    ap (λ (t : Bool). where_true (not t) (record { names = map seen c.args.building.names.keys ++ c.args.name.now ∷ []; message = c.args.building.message })) (any_seen c.args.name.now c.args.building.names.keys ∙ used)
