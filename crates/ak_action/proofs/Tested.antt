-- What the tests of a plan say of its parts.
use Rattle.std.proofs.Common.{◌≡◌, ◌≢◌, ◌∙◌, ℕ, ◌≤◌, Bool, true, false, cond, ◌&&◌, ◌||◌, not, find, List, [], ◌∷◌, length, map, All, AllPairs, Contains, Option, None, Some, IfSome, is_some, is_none, nat_le, bytes_eq, slice_get, refl, sym, ap, arith}
use Rattle.std.specs.List.{list_all, list_any}
use Rattle.std.proofs.lemmas.Bool.{and_parts, both_ways, not-true}
use Rattle.std.proofs.lemmas.List.{get_or-map, length-map}
use Rattle.std.proofs.lemmas.List.Elements.{All-nil, All-cons}
use Rattle.std.proofs.lemmas.List.Kept.{AllPairs-cons}
use Rattle.std.proofs.lemmas.List.Quantifiers.{position-Some}
use Rattle.std.proofs.lemmas.Slice.Eq.{bytes_eq-Decides}
use Rattle.ak_base.proofs.Surface.{passed, none_is, is_some-position}
use Rattle.ak_message.specs.declared.kind.Kind.TheVariants as k
use Rattle.ak_message.specs.Kind.{is_same_kind, same_kind-is}
use Rattle.ak_property.specs.declared.table.PropertyRow.{PropertyRow}
use Rattle.ak_value.specs.Elements.{ElementsData}
use Rattle.ak_action.specs.declared.plan.PlanFault.{PlanFault}
use Rattle.ak_action.specs.declared.plan.PlanParts.{PlanParts}
use Rattle.ak_action.specs.declared.plan.PlanRow.{PlanRow}
use Rattle.ak_action.specs.Plan.{IsPlan, begin_with_looper, chains_end, first_of_faults, fits_actions, fits_table, fits_kind, is_named, kinds_fit, looper_fault, may_be, names_are_there, names_are_words, names_differ, names_fault, place_named, rows_fault, table_names_differ}
use Rattle.ak_action.specs.Whole.{IsNamed, IsWholeTable, names_of}

-- ---- where there is no fault, each test passed
pub record Tests (parts : PlanParts) : Type 0 where
  pub looper : begin_with_looper parts.rows parts.name ≡ true
  pub capacity : (nat_le 1 parts.capacity && nat_le parts.capacity 1000) ≡ true
  pub limit : nat_le (length parts.rows) 64 ≡ true
  pub words : names_are_words parts.rows ≡ true
  pub differ : names_differ parts.rows ≡ true
  pub there : (names_are_there parts.rows && may_be parts.rows parts.preferred) ≡ true
  pub chains : chains_end parts.rows ≡ true
  pub suites : list_all (λ row. nat_le (length row.suites) 16) parts.rows ≡ true
  pub tables : list_all fits_table parts.rows ≡ true
  pub actions : list_all fits_actions parts.rows ≡ true

no_first : (o p : Option PlanFault) → first_of_faults o p ≡ None → (o ≡ None) × (p ≡ None)
no_first None p e = (refl, e)
no_first (Some f) p e = absurd cc

pub tests_passed : (parts : PlanParts) → IsPlan parts → Tests parts
tests_passed parts e =
    let parted = no_first (looper_fault parts parts.rows) (first_of_faults (names_fault parts parts.rows) (rows_fault parts.rows)) e in
    let others = no_first (names_fault parts parts.rows) (rows_fault parts.rows) parted.1 in
    let looper = passed _ _ _ parted.0 in
    let capacity = passed _ _ _ looper.1 in
    let limit = passed _ _ _ capacity.1 in
    let words = passed _ _ _ others.0 in
    let differ = passed _ _ _ words.1 in
    let there = passed _ _ _ differ.1 in
    let chains = passed _ _ _ there.1 in
    let suites = passed _ _ _ others.1 in
    let tables = passed _ _ _ suites.1 in
    let actions = passed _ _ _ tables.1 in
    record {
      looper = looper.0;
      capacity = capacity.0;
      limit = limit.0;
      words = words.0;
      differ = differ.0;
      there = there.0;
      chains = chains.0;
      suites = suites.0;
      tables = tables.0;
      actions = actions.0;
    }

-- ---- of lists
module _ {X : Type 0} (p : X → Bool) where
  pub All-list_all : (xs : List X) → list_all p xs ≡ true → All (λ x. p x ≡ true) xs
  All-list_all [] e = All-nil (λ x. p x ≡ true)
  All-list_all (x ∷ xs) e =
      let both = and_parts (p x) (list_all p xs) e in
      All-cons (λ x. p x ≡ true) x xs both.0 (All-list_all xs both.1)

  -- where none is found, none passes
  none_passes_by : (b t : Bool) → (b || t) ≡ false → (b ≡ false) × (t ≡ false)
  none_passes_by true t e = absurd cc
  none_passes_by false t e = (refl, e)

  pub none_passes : (xs : List X) → list_any p xs ≡ false → All (λ x. p x ≡ false) xs
  none_passes [] e = All-nil (λ x. p x ≡ false)
  none_passes (x ∷ xs) e =
      let both = none_passes_by (p x) (list_any p xs) e in
      All-cons (λ x. p x ≡ false) x xs both.0 (none_passes xs both.1)

  found_by : (b : Bool) (x : X) (o : Option X) → is_some (cond b (Some x) o) ≡ (b || is_some o)
  found_by true x o = refl
  found_by false x o = refl

  pub found_any : (xs : List X) → is_some (find p xs) ≡ list_any p xs
  found_any [] = refl
  found_any (x ∷ xs) = found_by (p x) x (find p xs) ∙ ap (λ b. p x || b) (found_any xs)

differs : (a b : List ℕ) → bytes_eq a b ≡ false → b ≢ a
differs a b e same = let yes = (bytes_eq-Decides a b).1 (sym same) in absurd cc

free : (b t : Bool) → cond b false t ≡ true → (b ≡ false) × (t ≡ true)
free true t e = absurd cc
free false t e = (refl, e)

-- ---- names
abbrev pub no_row : PlanRow
no_row = record { name = []; next = None; suites = []; table = []; elements = []; filters = []; reactions = [] }

named_by : (rows : List PlanRow) (name : List ℕ) (o : Option ℕ) → place_named rows name ≡ o → is_some o ≡ true → Contains (names_of rows) name
named_by rows name None e is = absurd cc
named_by rows name (Some i) e is =
    let at = position-Some (λ row. bytes_eq row.name name) rows i no_row e in
    (i, omega (arith, at.0, length-map rows (λ row. row.name)), get_or-map (λ row. row.name) rows i no_row name at.0 ∙ (bytes_eq-Decides _ _).0 at.1)

pub named : (rows : List PlanRow) (name : Option (List ℕ)) → may_be rows name ≡ true → IsNamed rows name
named rows None e = tt
named rows (Some name) e = named_by rows name (place_named rows name) refl e

pub names_apart : (rows : List PlanRow) → names_differ rows ≡ true → AllPairs (λ a b. a.name ≢ b.name) rows
names_apart [] e = λ i j d lt within. absurd (omega arith)
names_apart (row ∷ rows) e =
    let both = free (is_some (place_named rows row.name)) (names_differ rows) e in
    let none = none_passes (λ other. bytes_eq other.name row.name) rows (sym (found_any (λ other. bytes_eq other.name row.name) rows) ∙ sym (is_some-position (λ other. bytes_eq other.name row.name) rows) ∙ both.0) in
    AllPairs-cons (λ a b. a.name ≢ b.name) row rows (λ i d lt. differs _ _ (none i d lt)) (names_apart rows both.1)

pub looper_is : (rows : List PlanRow) (name : List ℕ) → begin_with_looper rows name ≡ true → IfSome (slice_get rows 0) (λ row. (row.name ≡ name) × (row.next ≡ None)) × (1 ≤ length rows)
looper_is [] name e = absurd cc
looper_is (row ∷ rows) name e =
    let both = and_parts (is_none row.next) (bytes_eq row.name name) e in
    (((bytes_eq-Decides row.name name).0 both.1, none_is row.next both.0), omega arith)

-- ---- properties
table_apart : (ps : List PropertyRow) → table_names_differ ps ≡ true → AllPairs (λ p q. p.name ≢ q.name) ps
table_apart [] e = λ i j d lt within. absurd (omega arith)
table_apart (p ∷ ps) e =
    let both = free (is_named ps p.name) (table_names_differ ps) e in
    let none = none_passes (λ q. bytes_eq q.name p.name) ps both.0 in
    AllPairs-cons (λ p q. p.name ≢ q.name) p ps (λ i d lt. differs _ _ (none i d lt)) (table_apart ps both.1)

no_message : (p : PropertyRow) → not (is_same_kind p.kind k.Message) ≡ true → p.kind ≢ k.Message
no_message p e same = both_ways (is_same_kind p.kind k.Message) (not-true _ e) (ap (λ kind. is_same_kind kind k.Message) same)

kinds_are : (ps : List PropertyRow) (es : List ElementsData) → kinds_fit ps es ≡ true → (map (λ e. e.kind) es ≡ map (λ p. p.kind) ps) × All (λ p. p.kind ≢ k.Message) ps
kinds_are [] [] e = (refl, All-nil (λ p. p.kind ≢ k.Message))
kinds_are [] (x ∷ es) e = absurd cc
kinds_are (p ∷ ps) [] e = absurd cc
kinds_are (p ∷ ps) (x ∷ es) e =
    let both = and_parts (fits_kind p x) (kinds_fit ps es) e in
    let fits = and_parts (is_same_kind x.kind p.kind) (not (is_same_kind p.kind k.Message)) both.0 in
    let rest = kinds_are ps es both.1 in
    let same = same_kind-is x.kind p.kind fits.0 in (
      λ i. same i ∷ rest.0 i,
      All-cons (λ p. p.kind ≢ k.Message) p ps (no_message p fits.1) rest.1,
    )

pub table_whole : (row : PlanRow) → fits_table row ≡ true → IsWholeTable row
table_whole row e =
    let both = and_parts (table_names_differ row.table) (kinds_fit row.table row.elements) e in
    let kinds = kinds_are row.table row.elements both.1 in
    record { names_differ = table_apart row.table both.0; elements_fit = kinds.0; no_messages = kinds.1 }
