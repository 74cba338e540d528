-- Rows that stand under their names.
use Rattle.std.proofs.Common.{◌≡◌, ℕ, zero, suc, Bool, true, false, cond, List, [], ◌∷◌, ◌++◌, map, find, remove, Option, None, Some, option_map, bytes_eq, refl, sym, ap, ap₂, subst, ◌∙◌}
use Rattle.std.specs.Cmp.Lexicographic.{nat_list_eq_equiv}
use Rattle.std.specs.List.{slice_get}
use Rattle.std.specs.Map.{keys_of, values_of, lookup}
use Rattle.std.specs.String.{string_bytes, string_eq}
use Rattle.std.specs.declared.string.String.{String}
use Rattle.std.proofs.lemmas.List.{map_push}
use Rattle.std.proofs.lemmas.Option.{slice_get-map}
use Rattle.ak_base.proofs.Surface.{map-remove}
use Rattle.indexmap.specs.IndexMap.{IndexMap, insert_entry, set_value_at}
use Rattle.indexmap.proofs.CallerLemmas.{insert_entry-new}
use Rattle.ak_handler.specs.declared.rows.Row.{Row}
use Rattle.ak_handler.specs.Handlers.{HandlerData, has_name, token_named}
use Rattle.ak_handler.specs.Rows.{handler_seen, list_seen, changed_at}

module _ {K R : Type 0} where
  -- ---- the handlers of the entries: one more at the end, one changed at its place, one taken out
  pub seen_pushed : (es : List (K × Row R)) (k : K) (row : Row R) → list_seen (values_of (es ++ (k, row) ∷ [])) ≡ list_seen (values_of es) ++ handler_seen row ∷ []
  seen_pushed es k row =
      ap list_seen (map_push (λ e. e.1) es (k, row)) ∙ map_push handler_seen (values_of es) row

  pub seen_changed : (es : List (K × Row R)) (place : ℕ) (row new : Row R) (f : HandlerData R → HandlerData R) → slice_get (values_of es) place ≡ Some row → handler_seen new ≡ f (handler_seen row) → list_seen (values_of (set_value_at es place new)) ≡ changed_at (list_seen (values_of es)) place f
  seen_changed [] place row new f at is = refl
  seen_changed (e ∷ es) zero row new f at is =
      let same : row ≡ e.1 = cc in
      ap (λ h. h ∷ list_seen (values_of es)) (is ∙ ap (λ row. f (handler_seen row)) same)
  seen_changed (e ∷ es) (suc place) row new f at is =
      ap (λ l. handler_seen e.1 ∷ l) (seen_changed es place row new f at is)

  pub seen_removed : (es : List (K × Row R)) (place : ℕ) → list_seen (values_of (remove es place)) ≡ remove (list_seen (values_of es)) place
  seen_removed es place =
      ap list_seen (map-remove (λ e. e.1) es place) ∙ map-remove handler_seen (values_of es) place

  pub seen_at : (es : List (K × Row R)) (place : ℕ) (e : K × Row R) → slice_get es place ≡ Some e → slice_get (list_seen (values_of es)) place ≡ Some (handler_seen e.1)
  seen_at es place e at =
      slice_get-map handler_seen (values_of es) place ∙ ap (option_map handler_seen) (slice_get-map (λ e. e.1) es place ∙ ap (option_map (λ e. e.1)) at)

module _ {K R : Type 0} (name : K → List ℕ) where
  abbrev pub Named : List (K × Row R) → Type 0
  Named es = map name (keys_of es) ≡ map (λ row. row.name) (values_of es)

  head_named : (e : K × Row R) (es : List (K × Row R)) → Named (e ∷ es) → name e.0 ≡ e.1.name
  head_named e es h = cc

  tail_named : (e : K × Row R) (es : List (K × Row R)) → Named (e ∷ es) → Named es
  tail_named e es h = cc

  -- ---- a look-up by name among the entries is one among the handlers
  found_by : (a b : Bool) (row : Row R) (o : Option (Row R)) (p : Option (HandlerData R)) → a ≡ b → option_map (λ row. row.token) o ≡ option_map (λ h. h.token) p → option_map (λ row. row.token) (cond a (Some row) o) ≡ option_map (λ h. h.token) (cond b (Some (handler_seen row)) p)
  found_by true true row o p same rest = refl
  found_by true false row o p same rest = absurd cc
  found_by false true row o p same rest = absurd cc
  found_by false false row o p same rest = rest

  pub name_found : (es : List (K × Row R)) (q : List ℕ) → Named es → option_map (λ row. row.token) (lookup (λ k. bytes_eq q (name k)) es) ≡ token_named (list_seen (values_of es)) q
  name_found [] q h = refl
  name_found (e ∷ es) q h =
      found_by (bytes_eq q (name e.0)) (bytes_eq e.1.name q) e.1 (lookup (λ k. bytes_eq q (name k)) es) (find (has_name q) (list_seen (values_of es)))
      (nat_list_eq_equiv.symm q (name e.0) ∙ ap (λ n. bytes_eq n q) (head_named e es h)) (name_found es q (tail_named e es h))

  none_mapped : (o : Option (Row R)) → option_map (λ row. row.token) o ≡ None → o ≡ None
  none_mapped None e = refl
  none_mapped (Some row) e = absurd cc

  pub name_free : (es : List (K × Row R)) (q : List ℕ) → Named es → token_named (list_seen (values_of es)) q ≡ None → lookup (λ k. bytes_eq q (name k)) es ≡ None
  name_free es q h free = none_mapped (lookup (λ k. bytes_eq q (name k)) es) (name_found es q h ∙ free)

  -- ---- one more at the end
  pub named_pushed : (es : List (K × Row R)) (k : K) (row : Row R) → Named es → name k ≡ row.name → Named (es ++ (k, row) ∷ [])
  named_pushed es k row h is =
      ap (map name) (map_push (λ e. e.0) es (k, row)) ∙ map_push name (keys_of es) k ∙ (λ i. h i ++ is i ∷ []) ∙ sym (ap (map (λ row. row.name)) (map_push (λ e. e.1) es (k, row)) ∙ map_push (λ row. row.name) (values_of es) row)

  -- ---- one changed at its place
  pub named_changed : (es : List (K × Row R)) (place : ℕ) (row new : Row R) → Named es → slice_get (values_of es) place ≡ Some row → new.name ≡ row.name → Named (set_value_at es place new)
  named_changed [] place row new h at same = h
  named_changed (e ∷ es) zero row new h at same =
      let is : e.1.name ≡ row.name = cc in
      ap₂ (λ n l. n ∷ l) (head_named e es h ∙ is ∙ sym same) (tail_named e es h)
  named_changed (e ∷ es) (suc place) row new h at same =
      ap₂ (λ n l. n ∷ l) (head_named e es h) (named_changed es place row new (tail_named e es h) at same)

  -- ---- one taken out
  pub named_removed : (es : List (K × Row R)) (place : ℕ) → Named es → Named (remove es place)
  named_removed es place h =
      ap (map name) (map-remove (λ e. e.0) es place) ∙ map-remove name (keys_of es) place ∙ ap (λ names. remove names place) h ∙ sym (ap (map (λ row. row.name)) (map-remove (λ e. e.1) es place) ∙ map-remove (λ row. row.name) (values_of es) place)

-- a row of a new name goes last
pub inserted : {Y R S : Type 0} (m : IndexMap (String Y) (Row R) S) (k : String Y) (row : Row R) → Named string_bytes m.entries → string_bytes k ≡ row.name → token_named (list_seen (values_of m.entries)) row.name ≡ None → insert_entry string_eq m.entries k row ≡ m.entries ++ (k, row) ∷ []
inserted m k row named is free =
    insert_entry-new string_eq m k row (subst (λ q. lookup (λ x. bytes_eq q (string_bytes x)) m.entries ≡ None) (sym is) (name_free string_bytes m.entries row.name named free))
