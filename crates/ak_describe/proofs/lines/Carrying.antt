-- What a line makes of what is described so far is what it says.
use Rattle.std.proofs.Common.{◌≡◌, ◌≢◌, ℕ, ◌-◌, ◌<◌, ◌≤◌, ◌==◌, Bool, true, false, not, nat_lt, if◌then◌else◌, Decides, Any, List, [], ◌∷◌, ◌++◌, length, Option, Some, None, IfSome, is_some, option_map, slice_set, bytes_eq, codes, Result, Ok, Err, refl, sym, ap, subst, ◌∙◌, eq-eqb, ne_eqb, lt-ltb, arith}
use Rattle.std.proofs.lemmas.Bool.{and_from, and_parts}
use Rattle.std.proofs.lemmas.Bool.Decides.{Decides-ltb, Decides-eqb}
use Rattle.std.proofs.lemmas.Slice.Eq.{bytes_eq-Decides}
use Rattle.ak_base.specs.declared.limited.Limited.{Limited}
use Rattle.ak_base.specs.declared.limited.Limited.TheVariants.{Within, Over}
use Rattle.ak_base.specs.declared.code.Code.{Code}
use Rattle.ak_base.specs.declared.ending.RefusalKind.{RefusalKind}
use Rattle.ak_base.specs.declared.ending.RefusalKind.TheVariants as refusal
use Rattle.ak_filter.specs.declared.filter.Filter.{Filter}
use Rattle.ak_message.specs.declared.kind.Kind.{Kind}
use Rattle.ak_message.specs.Kind.{is_same_kind}
use Rattle.ak_message.specs.Message.{ValueData, kind_of}
use Rattle.ak_base.proofs.Surface.{bind_some}
use Rattle.ak_action.specs.declared.action.Action.{Action}
use Rattle.ak_action.specs.declared.action.Action.TheVariants as action
use Rattle.ak_action.specs.declared.action.Reaction.{Reaction}
use Rattle.ak_value.specs.declared.fault.ElementFault.TheVariants as fault
use Rattle.ak_value.specs.Elements.{has_room, with_last}
use Rattle.ak_input.specs.Reading.{Got}
use Rattle.ak_input.specs.Written.{coded}
use Rattle.ak_describe.specs.declared.form.heads.AppForm.{AppForm}
use Rattle.ak_describe.specs.declared.form.heads.LooperForm.{LooperForm}
use Rattle.ak_describe.specs.declared.form.property.PropertyForm.{PropertyForm}
use Rattle.ak_describe.specs.declared.keyword.After.TheVariants as following
use Rattle.ak_describe.specs.declared.keyword.Keyword.{Keyword}
use Rattle.ak_describe.specs.declared.keyword.Keyword.TheVariants as key
use Rattle.ak_describe.specs.declared.named.Need.{Need}
use Rattle.ak_describe.specs.declared.named.Need.TheVariants as needs
use Rattle.ak_describe.specs.declared.parts.PropertyParts.{PropertyParts}
use Rattle.ak_describe.specs.Actions.{reply_form, post_form, ask_form, set_form}
use Rattle.ak_describe.specs.Forms.{app_form, looper_form, hook_form, filter_form, property_form, element_form, text_behind, both}
use Rattle.ak_describe.specs.Made.{value_of_kind}
use Rattle.ak_describe.specs.Named.{need_of_filter, need_of_action}
use Rattle.ak_describe.specs.Parts.{RowData, LooperData, AppData, opened, has_path, looper_named, row_named, property_named, has_reaction}
use Rattle.ak_describe.specs.Pass.{State, or_bad, or_limit, then_read, judged, last_item, loopers_in, open_looper, new_app, new_looper, least_capacity, new_property, new_reaction, property_added, element_added, element_in, element_kept, element_line, action_added, with_action, added_form, bare, looper_line, looper_in, in_last_app, in_last_row, carry_in_looper, carry_in_row, carry}
use Rattle.ak_describe.specs.Says as says
use Rattle.ak_describe.specs.Says.{Form, says_app, says_looper, says_hook, says_prefer, says_common, says_handler, says_next, says_suite, says_filter, says_property, says_element, says_on, says_action, open_row, properties_in, open_properties, least_of, MayStand, HasLooper, HasRow, HasReaction, IsInUse, RowHas, LooperHas, PropertyHas, ReactionHas, reactions_in, IsKept, IsWithin, with_changed, usage_of, with_form, names_in}
use Rattle.ak_describe.specs.Words.{first_of, ends, only_name, only_code}
use Rattle.ak_describe.proofs.grammar.Properties.{value_is_read}
use Rattle.ak_input.proofs.Surface.{Holds, IfWithin, IsFine, read_fine}
use Rattle.ak_describe.proofs.ground.Ends.{some_there, last_there, changed_is}
use Rattle.ak_describe.proofs.ground.Outcomes.{where_is}
use Rattle.ak_describe.proofs.lines.Judging.{Judged, is_twice, is_over, is_done, over, placed, judged_over, judged_is, never, decides_room, last_over, then_over, put_looper, put_row, app_carried, judged_looper, app_row_carried, judged_row}
use Rattle.ak_describe.proofs.ground.Searching.{any_decides, find_decides, position_decides}
use Rattle.ak_describe.proofs.lines.Standing.{PropertyFits, RowFits, StateFits, opened_parts, open_row_is, fits_at, is_open_after}
use Rattle.ak_describe.proofs.grammar.Says.{where_read, element_read, form_read}

-- what is carried out of a line: a bad value where nothing is read of it, or what is judged of its form
abbrev pub CarriedBy : State → Option Form → Result (List AppData × Option Need) RefusalKind → Type 0
CarriedBy s None r = r ≡ Err refusal.BadValue
CarriedBy s (Some form) r = Judged (IsInUse s form) (IsWithin s form) (List AppData) (with_form s.apps form) (names_in form) r

carried_at : (s : State) (o : Option Form) (r left : Result (List AppData × Option Need) RefusalKind) → r ≡ left → CarriedBy s o left → CarriedBy s o r
carried_at s o r left e h = subst (λ (x : Result (List AppData × Option Need) RefusalKind). CarriedBy s o x) (sym e) h

-- ---- applications and loopers
app_by : (s : State) (o : Option AppForm) → CarriedBy s (option_map says_app o) (or_bad o (λ (f : AppForm). judged (has_path s.apps f.path) (nat_lt (length s.apps) 16) (s.apps ++ new_app f ∷ [], None)))
app_by s None = refl
app_by s (Some f) =
    judged_is (has_path s.apps f.path) (nat_lt (length s.apps) 16) (s.apps ++ new_app f ∷ []) None
    (any_decides (λ (a : AppData). bytes_eq a.path f.path) (λ (a : AppData). a.path ≡ f.path) (λ a. bytes_eq-Decides a.path f.path) s.apps)
    (Decides-ltb (length s.apps) 16)

least_is : (loopers : List LooperData) → least_of loopers ≡ (if length loopers == 0 then 2 else 1)
least_is [] = refl
least_is (l ∷ loopers) = ap (λ (b : Bool). if b then 2 else 1) (sym (ne_eqb (length (l ∷ loopers)) 0 (λ e. absurd (omega arith))))

module _ (s : State) (a : AppData) (is_app : last_item s.apps ≡ Some a) where
  looper_judged : (f : LooperForm) → Judged (HasLooper (last_item s.apps) f.name) (length (loopers_in (last_item s.apps)) < 8) AppData (record a { loopers = a.loopers ++ new_looper f ∷ [] }) None (judged (is_some (looper_named a.loopers f.name)) (nat_lt (length a.loopers) 8) (record a { loopers = a.loopers ++ new_looper f ∷ [] }, None))
  looper_judged f =
      judged_is (is_some (looper_named a.loopers f.name)) (nat_lt (length a.loopers) 8) (record a { loopers = a.loopers ++ new_looper f ∷ [] }) None
      (subst (λ (o : Option AppData). Decides (is_some (looper_named a.loopers f.name)) (HasLooper o f.name)) (sym is_app)
      (position_decides (λ (l : LooperData). bytes_eq l.name f.name) (λ (l : LooperData). l.name ≡ f.name) (λ l. bytes_eq-Decides l.name f.name) a.loopers))
      (subst (λ (o : Option AppData). Decides (nat_lt (length a.loopers) 8) (length (loopers_in o) < 8)) (sym is_app) (Decides-ltb (length a.loopers) 8))

  looper_by : (o : Option LooperForm)
      → CarriedBy s (option_map says_looper o)
      (over (slice_set s.apps (length s.apps - 1)) (or_bad o (λ (f : LooperForm). judged (is_some (looper_named a.loopers f.name)) (nat_lt (length a.loopers) 8) (record a { loopers = a.loopers ++ new_looper f ∷ [] }, None))))
  looper_by None = refl
  looper_by (Some f) =
      let r : Result (AppData × Option Need) RefusalKind = judged (is_some (looper_named a.loopers f.name)) (nat_lt (length a.loopers) 8) (record a { loopers = a.loopers ++ new_looper f ∷ [] }, None) in
      subst
      (λ (done : List AppData). Judged (HasLooper (last_item s.apps) f.name) (length (loopers_in (last_item s.apps)) < 8) (List AppData) done None (over (slice_set s.apps (length s.apps - 1)) r))
      (sym (changed_is (λ (b : AppData). record b { loopers = b.loopers ++ new_looper f ∷ [] }) s.apps a is_app))
      (judged_over (slice_set s.apps (length s.apps - 1)) (record a { loopers = a.loopers ++ new_looper f ∷ [] }) None r (looper_judged f))

  looper_carried : (words : List (List ℕ)) → CarriedBy s (form_read s key.Looper words) (looper_in s.apps words)
  looper_carried words =
      let least : least_of (loopers_in (last_item s.apps)) ≡ least_capacity a = ap (λ (o : Option AppData). least_of (loopers_in o)) is_app ∙ least_is a.loopers in
      let put : Result (List AppData × Option Need) RefusalKind = over (slice_set s.apps (length s.apps - 1)) (looper_line a words) in
      carried_at s (form_read s key.Looper words) (looper_in s.apps words) put (last_over (λ (b : AppData). looper_line b words) s.apps a is_app)
      (subst (λ (n : ℕ). CarriedBy s (option_map says_looper (looper_form n words)) put) (sym least) (looper_by (looper_form (least_capacity a) words)))

-- ---- in a looper
module _ (s : State) (a : AppData) (l : LooperData) (is_app : last_item s.apps ≡ Some a) (is_looper : last_item a.loopers ≡ Some l) where
  is_open : open_looper s.apps ≡ Some l
  is_open = ap (λ (o : Option AppData). last_item (loopers_in o)) is_app ∙ is_looper

  in_looper_at : (t : Bool) (P : LooperData → Type 0) → Decides t (P l) → Decides t (LooperHas (open_looper s.apps) P)
  in_looper_at t P d = subst (λ (o : Option LooperData). Decides t (LooperHas o P)) (sym is_open) d

  hook_by : (b : Bool) → CarriedBy s (where_read b says_hook) (over (put_looper s.apps a) (if b then Ok (record l { quit_refused = true }, None) else Err refusal.BadValue))
  hook_by true =
      judged_looper s.apps a l is_app is_looper ⊥ (Unit {0}) (λ (m : LooperData). record m { quit_refused = true }) None (Ok (record l { quit_refused = true }, None)) (is_done (λ h. h) tt refl)
  hook_by false = refl

  prefer_by : (o : Option (List ℕ)) → CarriedBy s (option_map says_prefer o) (over (put_looper s.apps a) (or_bad o (λ (name : List ℕ). Ok (record l { preferred = Some name }, Some (needs.Handler name)))))
  prefer_by None = refl
  prefer_by (Some name) =
      judged_looper s.apps a l is_app is_looper ⊥ (Unit {0}) (λ (m : LooperData). record m { preferred = Some name }) (Some (needs.Handler name)) (Ok (record l { preferred = Some name }, Some (needs.Handler name))) (is_done (λ h. h) tt refl)

  common_by : length l.common ≤ 32 → (o : Option Filter)
      → CarriedBy s (option_map says_common o) (over (put_looper s.apps a) (or_bad o (λ (f : Filter). judged false (not (length l.common == 32)) (record l { common = l.common ++ f ∷ [] }, need_of_filter f))))
  common_by le None = refl
  common_by le (Some f) =
      judged_looper s.apps a l is_app is_looper ⊥ (LooperHas (open_looper s.apps) (λ m. length m.common < 32)) (λ (m : LooperData). record m { common = m.common ++ f ∷ [] }) (need_of_filter f)
      (judged false (not (length l.common == 32)) (record l { common = l.common ++ f ∷ [] }, need_of_filter f))
      (judged_is false (not (length l.common == 32)) (record l { common = l.common ++ f ∷ [] }) (need_of_filter f) never
      (in_looper_at (not (length l.common == 32)) (λ m. length m.common < 32) (decides_room (length l.common) 32 le)))

  handler_by : (o : Option (List ℕ))
      → CarriedBy s (option_map says_handler o)
      (over (put_looper s.apps a) (or_bad o (λ (name : List ℕ). judged (is_some (row_named l.rows name)) (nat_lt (length l.rows) 64) (record l { rows = l.rows ++ opened name ∷ [] }, None))))
  handler_by None = refl
  handler_by (Some name) =
      judged_looper s.apps a l is_app is_looper (HasRow (open_looper s.apps) name) (LooperHas (open_looper s.apps) (λ m. length m.rows < 64)) (λ (m : LooperData). record m { rows = m.rows ++ opened name ∷ [] }) None
      (judged (is_some (row_named l.rows name)) (nat_lt (length l.rows) 64) (record l { rows = l.rows ++ opened name ∷ [] }, None))
      (judged_is (is_some (row_named l.rows name)) (nat_lt (length l.rows) 64) (record l { rows = l.rows ++ opened name ∷ [] }) None
      (subst (λ (o : Option LooperData). Decides (is_some (row_named l.rows name)) (HasRow o name)) (sym is_open)
      (position_decides (λ (r : RowData). bytes_eq r.name name) (λ (r : RowData). r.name ≡ name) (λ r. bytes_eq-Decides r.name name) l.rows))
      (in_looper_at (nat_lt (length l.rows) 64) (λ m. length m.rows < 64) (Decides-ltb (length l.rows) 64)))

  looper_key : (keyword : Keyword) (words : List (List ℕ)) (o : Option Form) → carry s.apps keyword words ≡ in_last_app s.apps keyword words
      → CarriedBy s o (over (put_looper s.apps a) (carry_in_looper l keyword words)) → CarriedBy s o (carry s.apps keyword words)
  looper_key keyword words o same h =
      carried_at s o (carry s.apps keyword words) (over (put_looper s.apps a) (carry_in_looper l keyword words)) (same ∙ app_carried s.apps a l is_app is_looper keyword words) h

  -- ---- in a handler
  module _ (row : RowData) (is_row : last_item l.rows ≡ Some row) where
    is_open_row : open_row s ≡ Some row
    is_open_row = open_row_is s l row is_open is_row

    in_row_at : (t : Bool) (P : RowData → Type 0) → Decides t (P row) → Decides t (RowHas (open_row s) P)
    in_row_at t P d = subst (λ (o : Option RowData). Decides t (RowHas o P)) (sym is_open_row) d

    next_by : (o : Option (List ℕ)) → CarriedBy s (option_map says_next o) (over (put_row s.apps a l) (or_bad o (λ (name : List ℕ). Ok (record row { next = Some name }, Some (needs.Next name)))))
    next_by None = refl
    next_by (Some name) =
        judged_row s.apps a l is_app is_looper row is_row ⊥ (Unit {0}) (λ (r : RowData). record r { next = Some name }) (Some (needs.Next name)) (Ok (record row { next = Some name }, Some (needs.Next name))) (is_done (λ h. h) tt refl)

    suite_by : (o : Option (List ℕ)) → CarriedBy s (option_map says_suite o) (over (put_row s.apps a l) (or_bad o (λ (name : List ℕ). judged false (nat_lt (length row.suites) 16) (record row { suites = row.suites ++ name ∷ [] }, None))))
    suite_by None = refl
    suite_by (Some name) =
        judged_row s.apps a l is_app is_looper row is_row ⊥ (RowHas (open_row s) (λ r. length r.suites < 16)) (λ (r : RowData). record r { suites = r.suites ++ name ∷ [] }) None
        (judged false (nat_lt (length row.suites) 16) (record row { suites = row.suites ++ name ∷ [] }, None))
        (judged_is false (nat_lt (length row.suites) 16) (record row { suites = row.suites ++ name ∷ [] }) None never
        (in_row_at (nat_lt (length row.suites) 16) (λ r. length r.suites < 16) (Decides-ltb (length row.suites) 16)))

    filter_by : length row.filters ≤ 32 → (o : Option Filter)
        → CarriedBy s (option_map says_filter o) (over (put_row s.apps a l) (or_bad o (λ (f : Filter). judged false (not (length row.filters == 32)) (record row { filters = row.filters ++ f ∷ [] }, need_of_filter f))))
    filter_by le None = refl
    filter_by le (Some f) =
        judged_row s.apps a l is_app is_looper row is_row ⊥ (RowHas (open_row s) (λ r. length r.filters < 32)) (λ (r : RowData). record r { filters = r.filters ++ f ∷ [] }) (need_of_filter f)
        (judged false (not (length row.filters == 32)) (record row { filters = row.filters ++ f ∷ [] }, need_of_filter f))
        (judged_is false (not (length row.filters == 32)) (record row { filters = row.filters ++ f ∷ [] }) (need_of_filter f) never
        (in_row_at (not (length row.filters == 32)) (λ r. length r.filters < 32) (decides_room (length row.filters) 32 le)))

    property_judged : (p : PropertyForm) (U W : Type 0) (u w : Bool) (usage : Limited (List ℕ)) → Decides u U → Decides w W
        → Judged U (IsKept usage × W) RowData (record row { properties = row.properties ++ new_property p (usage_of usage) ∷ [] }) None
        (if u then Err refusal.NameInUse else or_limit usage (λ (text : List ℕ). judged false w (record row { properties = row.properties ++ new_property p text ∷ [] }, None)))
    property_judged p U W true w usage du dw = is_twice (du.0 refl) refl
    property_judged p U W false w Over du dw = is_over (λ h. let wrong = du.1 h in absurd cc) (λ h. h.0) refl
    property_judged p U W false w (Within text) du dw =
        judged_is false w (record row { properties = row.properties ++ new_property p text ∷ [] }) None du (λ e. (tt, dw.0 e), λ h. dw.1 h.1)

    property_by : (o : Option PropertyForm)
        → CarriedBy s (option_map says_property o)
        (over (put_row s.apps a l) (or_bad o (λ (p : PropertyForm). if is_some (property_named row.properties p.name) then Err refusal.NameInUse else property_added row p p.usage)))
    property_by None = refl
    property_by (Some p) =
        let U : Type 0 = Any (λ (q : PropertyParts). q.row.name ≡ p.name) (open_properties s) in
        let W : Type 0 = RowHas (open_row s) (λ r. length r.properties < 64) in
        judged_row s.apps a l is_app is_looper row is_row U (IsKept p.usage × W) (λ (r : RowData). record r { properties = r.properties ++ new_property p (usage_of p.usage) ∷ [] }) None
        (if is_some (property_named row.properties p.name) then Err refusal.NameInUse else property_added row p p.usage)
        (property_judged p U W (is_some (property_named row.properties p.name)) (nat_lt (length row.properties) 64) p.usage
        (subst (λ (o : Option RowData). Decides (is_some (property_named row.properties p.name)) (Any (λ (q : PropertyParts). q.row.name ≡ p.name) (properties_in o))) (sym is_open_row)
        (find_decides (λ (q : PropertyParts). bytes_eq q.row.name p.name) (λ (q : PropertyParts). q.row.name ≡ p.name) (λ q. bytes_eq-Decides q.row.name p.name) row.properties))
        (in_row_at (nat_lt (length row.properties) 64) (λ r. length r.properties < 64) (Decides-ltb (length row.properties) 64)))

    code_decides : (code : Code) (r : Reaction) → Decides (r.what.0 == code.0) (r.what ≡ code)
    code_decides code r = (λ e. ap coded ((Decides-eqb r.what.0 code.0).0 e), λ e. (Decides-eqb r.what.0 code.0).1 (ap (λ (c : Code). c.0) e))

    on_by : (o : Option Code)
        → CarriedBy s (option_map says_on o)
        (over (put_row s.apps a l) (or_bad o (λ (what : Code). judged (has_reaction row.reactions what.0) (nat_lt (length row.reactions) 64) (record row { reactions = row.reactions ++ new_reaction what ∷ [] }, None))))
    on_by None = refl
    on_by (Some code) =
        judged_row s.apps a l is_app is_looper row is_row (HasReaction (open_row s) code) (RowHas (open_row s) (λ r. length r.reactions < 64)) (λ (r : RowData). record r { reactions = r.reactions ++ new_reaction code ∷ [] }) None
        (judged (has_reaction row.reactions code.0) (nat_lt (length row.reactions) 64) (record row { reactions = row.reactions ++ new_reaction code ∷ [] }, None))
        (judged_is (has_reaction row.reactions code.0) (nat_lt (length row.reactions) 64) (record row { reactions = row.reactions ++ new_reaction code ∷ [] }) None
        (subst (λ (o : Option RowData). Decides (has_reaction row.reactions code.0) (HasReaction o code)) (sym is_open_row)
        (any_decides (λ (r : Reaction). r.what.0 == code.0) (λ (r : Reaction). r.what ≡ code) (code_decides code) row.reactions))
        (in_row_at (nat_lt (length row.reactions) 64) (λ r. length r.reactions < 64) (Decides-ltb (length row.reactions) 64)))

    row_key : (keyword : Keyword) (words : List (List ℕ)) (o : Option Form) → carry s.apps keyword words ≡ in_last_app s.apps keyword words → carry_in_looper l keyword words ≡ in_last_row l keyword words
        → CarriedBy s o (over (put_row s.apps a l) (carry_in_row row keyword words)) → CarriedBy s o (carry s.apps keyword words)
    row_key keyword words o same inside h =
        carried_at s o (carry s.apps keyword words) (over (put_row s.apps a l) (carry_in_row row keyword words)) (same ∙ app_row_carried s.apps a l is_app is_looper row is_row keyword words inside) h

    -- ---- of the last property
    module _ (p : PropertyParts) (is_property : last_item row.properties ≡ Some p) (fits : PropertyFits p) where
      abbrev put_property : PropertyParts → RowData
      put_property left = record row { properties = slice_set row.properties (length row.properties - 1) left }

      element_changed : (x : Limited (List ℕ × ValueData)) → record row { properties = with_changed (says.element_added x) row.properties } ≡ put_property (says.element_added x p)
      element_changed x = ap (λ (ps : List PropertyParts). record row { properties = ps }) (changed_is (says.element_added x) row.properties p is_property)

      room_decides : Decides (has_room p.elements) (length p.elements.list < 64)
      room_decides = (
        λ e. let parts = and_parts (nat_lt (length p.elements.list) 64) (nat_lt p.elements.next_id 2147483647) e in (Decides-ltb (length p.elements.list) 64).0 parts.0,
        λ lt. and_from (nat_lt (length p.elements.list) 64) (nat_lt p.elements.next_id 2147483647) ((Decides-ltb (length p.elements.list) 64).1 lt) (lt-ltb p.elements.next_id 2147483647 (omega (arith, fits.next_id))),
      )

      element_judged : (W : Type 0) (same room : Bool) (x : List ℕ × ValueData) → same ≡ true → Decides room W
          → Judged ⊥ (Unit {0} × W) PropertyParts (says.element_added (Within x) p) None
          (element_kept (if same then (if room then None else Some fault.ElementLimit) else Some fault.BadType) (record p { elements = with_last p.elements x.0 x.1 }, None))
      element_judged W true true x is d = is_done (λ h. h) (tt, d.0 refl) refl
      element_judged W true false x is d = is_over (λ h. h) (λ h. let wrong = d.1 h.1 in absurd cc) refl
      element_judged W false room x is d = absurd cc

      last_property : last_item (open_properties s) ≡ Some p
      last_property = ap (λ (o : Option RowData). last_item (properties_in o)) is_open_row ∙ is_property

      element_by : (o : Option (Limited (List ℕ × ValueData))) → ((x : List ℕ × ValueData) → o ≡ Some (Within x) → kind_of x.1 ≡ p.row.kind)
          → CarriedBy s (option_map says_element o) (over (put_row s.apps a l) (over put_property (or_bad o (λ (read : Limited (List ℕ × ValueData)). or_limit read (element_added p)))))
      element_by None kind = refl
      element_by (Some Over) kind = is_over (λ h. h) (λ h. h.0) refl
      element_by (Some (Within x)) kind =
          let W : Type 0 = PropertyHas (last_item (open_properties s)) (λ q. length q.elements.list < 64) in
          let room : Decides (has_room p.elements) W = subst (λ (o : Option PropertyParts). Decides (has_room p.elements) (PropertyHas o (λ q. length q.elements.list < 64))) (sym last_property) room_decides in
          let same : p.elements.kind ≡ kind_of x.1 = fits.same_kind ∙ sym (kind x refl) in
          let alike : is_same_kind p.elements.kind (kind_of x.1) ≡ true = subst (λ (k : Kind). is_same_kind p.elements.kind k ≡ true) same (eq-eqb _ _ refl) in
          let part = element_judged W (is_same_kind p.elements.kind (kind_of x.1)) (has_room p.elements) x alike room in
          judged_row s.apps a l is_app is_looper row is_row ⊥ (Unit {0} × W) (λ (r : RowData). record r { properties = with_changed (says.element_added (Within x)) r.properties }) None
          (over put_property (element_added p x))
          (subst (λ (done : RowData). Judged ⊥ (Unit {0} × W) RowData done None (over put_property (element_added p x))) (sym (element_changed (Within x)))
          (judged_over put_property (says.element_added (Within x) p) None (element_added p x) part))

      element_line_is : (words : List (List ℕ)) → element_line row words ≡ over put_property (element_in p words)
      element_line_is words =
          ap (λ (r : Result (List PropertyParts × Option Need) RefusalKind). then_read r (placed (λ (ps : List PropertyParts). record row { properties = ps })))
          (last_over (λ (q : PropertyParts). element_in q words) row.properties p is_property)
          ∙ then_over (λ (ps : List PropertyParts). record row { properties = ps }) (slice_set row.properties (length row.properties - 1)) (element_in p words)

    -- ---- of the last reaction
    module _ (reaction : Reaction) (is_reaction : last_item row.reactions ≡ Some reaction) (le : length reaction.actions ≤ 16) where
      abbrev put_reaction : Reaction → RowData
      put_reaction left = record row { reactions = slice_set row.reactions (length row.reactions - 1) left }

      action_changed : (x : Limited Action) → record row { reactions = with_changed (says.action_added x) row.reactions } ≡ put_reaction (says.action_added x reaction)
      action_changed x = ap (λ (rs : List Reaction). record row { reactions = rs }) (changed_is (says.action_added x) row.reactions reaction is_reaction)

      last_reaction : last_item (reactions_in (open_row s)) ≡ Some reaction
      last_reaction = ap (λ (o : Option RowData). last_item (reactions_in o)) is_open_row ∙ is_reaction

      action_added_is : (act : Action) → action_added row act ≡ over put_reaction (with_action act reaction)
      action_added_is act =
          ap (λ (r : Result (List Reaction × Option Need) RefusalKind). then_read r (placed (λ (rs : List Reaction). record row { reactions = rs })))
          (last_over (with_action act) row.reactions reaction is_reaction)
          ∙ then_over (λ (rs : List Reaction). record row { reactions = rs }) (slice_set row.reactions (length row.reactions - 1)) (with_action act reaction)

      action_judged : (W : Type 0) (room : Bool) (act : Action) → Decides room W
          → Judged ⊥ (Unit {0} × W) Reaction (says.action_added (Within act) reaction) (need_of_action act) (judged false room (record reaction { actions = reaction.actions ++ act ∷ [] }, need_of_action act))
      action_judged W room act d = judged_is false room (record reaction { actions = reaction.actions ++ act ∷ [] }) (need_of_action act) never (λ e. (tt, d.0 e), λ h. d.1 h.1)

      action_done : (act : Action) → CarriedBy s (Some (says_action (Within act))) (over (put_row s.apps a l) (over put_reaction (with_action act reaction)))
      action_done act =
          let W : Type 0 = ReactionHas (last_item (reactions_in (open_row s))) (λ r. length r.actions < 16) in
          let room : Decides (not (length reaction.actions == 16)) W =
          subst (λ (o : Option Reaction). Decides (not (length reaction.actions == 16)) (ReactionHas o (λ r. length r.actions < 16))) (sym last_reaction) (decides_room (length reaction.actions) 16 le) in
          judged_row s.apps a l is_app is_looper row is_row ⊥ (Unit {0} × W) (λ (r : RowData). record r { reactions = with_changed (says.action_added (Within act)) r.reactions }) (need_of_action act)
          (over put_reaction (with_action act reaction))
          (subst (λ (done : RowData). Judged ⊥ (Unit {0} × W) RowData done (need_of_action act) (over put_reaction (with_action act reaction))) (sym (action_changed (Within act)))
          (judged_over put_reaction (says.action_added (Within act) reaction) (need_of_action act) (with_action act reaction) (action_judged W (not (length reaction.actions == 16)) act room)))

      action_by : (o : Option (Limited Action)) → CarriedBy s (option_map says_action o) (over (put_row s.apps a l) (then_read (or_bad o (λ (x : Limited Action). Ok x)) (λ (read : Limited Action). or_limit read (action_added row))))
      action_by None = refl
      action_by (Some Over) = is_over (λ h. h) (λ h. h.0) refl
      action_by (Some (Within act)) =
          carried_at s (Some (says_action (Within act))) (over (put_row s.apps a l) (action_added row act)) (over (put_row s.apps a l) (over put_reaction (with_action act reaction)))
          (ap (over (put_row s.apps a l)) (action_added_is act)) (action_done act)

      same_properties : open_properties s ≡ row.properties
      same_properties = ap properties_in is_open_row

      action_key : (read : List PropertyParts → Option (Limited Action)) → CarriedBy s (option_map says_action (read (open_properties s))) (over (put_row s.apps a l) (then_read (or_bad (read row.properties) (λ (x : Limited Action). Ok x)) (λ (x : Limited Action). or_limit x (action_added row))))
      action_key read =
          subst (λ (ps : List PropertyParts). CarriedBy s (option_map says_action (read ps)) (over (put_row s.apps a l) (then_read (or_bad (read row.properties) (λ (x : Limited Action). Ok x)) (λ (x : Limited Action). or_limit x (action_added row)))))
          (sym same_properties) (action_by (read row.properties))

-- ---- what is read of an element is of the property's kind
abbrev second_of : {A B : Type 0} → Limited (A × B) → Limited B
second_of Over = Over
second_of (Within p) = Within p.1

both_within : {A B : Type 0} (x : Limited A) (y : Limited B) (z : A × B) → both x y ≡ Within z → y ≡ Within z.1
both_within Over y z e = absurd cc
both_within (Within x) Over z e = absurd cc
both_within (Within x) (Within y) z e = ap second_of e

kind_of_read : (kind : Kind) (word : List ℕ) (o : Limited ValueData) (v : ValueData) → value_of_kind kind word ≡ Some o → o ≡ Within v → kind_of v ≡ kind
kind_of_read kind word o v e is =
    let fine = subst (λ (g : Option Got). IfSome g (IsFine 16)) ((value_is_read kind word o).1 e) (read_fine word) in
    let held : Holds 16 kind v = subst (λ (x : Limited ValueData). IfWithin x (Holds 16 kind)) is fine in
    held.kind_is

pub kind_of_element : (kind : Kind) (words : List (List ℕ)) (x : List ℕ × ValueData) → element_form kind words ≡ Some (Within x) → kind_of x.1 ≡ kind
unfolding element_form
kind_of_element kind words x e =
    let word = bind_some (first_of words) _ (Within x) e in
    let value = bind_some (value_of_kind kind word.0.0) _ (Within x) word.2 in
    let name = bind_some (text_behind word.0.1 (codes "name")) _ (Within x) value.2 in
    let kept = where_is (ends name.0.1) (both name.0.0 value.0) (Within x) name.2 in
    kind_of_read kind word.0.0 value.0 x.1 value.1 (both_within name.0.0 value.0 x kept.1)

-- ---- each line
-- the parts that are open
pub record InPart (s : State) : Type 0 where
  pub app : AppData
  pub looper : LooperData
  pub row : RowData
  pub is_app : last_item s.apps ≡ Some app
  pub is_looper : last_item app.loopers ≡ Some looper
  pub is_row : last_item looper.rows ≡ Some row
  pub common : length looper.common ≤ 32
  pub fits : RowFits row s.after

pub in_part : (s : State) (l : LooperData) → StateFits s → open_looper s.apps ≡ Some l → InPart s
in_part s l h is =
    let parts = opened_parts s.apps l is in
    let f = fits_at (open_looper s.apps) s.after l h is in
    record {
      app = parts.app;
      looper = l;
      row = f.row;
      is_app = parts.is_app;
      is_looper = parts.is_looper;
      is_row = f.is_last;
      common = f.common;
      fits = f.fits;
    }

pub part_after : (s : State) → StateFits s → s.after ≢ following.Plain → InPart s
part_after s h other = let l = is_open_after (open_looper s.apps) s.after h other in in_part s l.0 h l.1

pub property_of : (s : State) (p : InPart s) → s.after ≡ following.Element → (q : PropertyParts) × (last_item p.row.properties ≡ Some q) × PropertyFits q
property_of s p is =
    let q = last_there p.row.properties (p.fits.element is) in
    (q.0, q.1, subst (λ (o : Option PropertyParts). IfSome o PropertyFits) q.1 p.fits.property)

pub reaction_of : (s : State) (p : InPart s) → s.after ≡ following.Action → (r : Reaction) × (last_item p.row.reactions ≡ Some r) × (length r.actions ≤ 16)
reaction_of s p is =
    let r = last_there p.row.reactions (p.fits.action is) in
    (r.0, r.1, subst (λ (o : Option Reaction). IfSome o (λ (x : Reaction). length x.actions ≤ 16)) r.1 p.fits.reaction)

element_carried : (s : State) (words : List (List ℕ)) → StateFits s → s.after ≡ following.Element → CarriedBy s (form_read s key.Element words) (carry s.apps key.Element words)
element_carried s words h is =
    let p = part_after s h (λ plain. cc (is, plain)) in
    let q = property_of s p is in
    let put : RowData → List AppData = put_row s.apps p.app p.looper in
    let left : RowData → PropertyParts → RowData = λ (r : RowData) (x : PropertyParts). record r { properties = slice_set r.properties (length r.properties - 1) x } in
    row_key s p.app p.looper p.is_app p.is_looper p.row p.is_row key.Element words (form_read s key.Element words) refl refl
    (carried_at s (form_read s key.Element words) (over put (element_line p.row words)) (over put (over (left p.row) (element_in q.0 words)))
    (ap (over put) (element_line_is s p.app p.looper p.is_app p.is_looper p.row p.is_row q.0 q.1 q.2 words))
    (subst (λ (o : Option PropertyParts). CarriedBy s (element_read o words) (over put (over (left p.row) (element_in q.0 words)))) (sym (last_property s p.app p.looper p.is_app p.is_looper p.row p.is_row q.0 q.1 q.2))
    (element_by s p.app p.looper p.is_app p.is_looper p.row p.is_row q.0 q.1 q.2 (element_form q.0.row.kind words) (λ x e. kind_of_element q.0.row.kind words x e))))

action_carried : (s : State) (keyword : Keyword) (words : List (List ℕ)) (read : List PropertyParts → Option (Limited Action)) → StateFits s → s.after ≡ following.Action → carry s.apps keyword words ≡ in_last_app s.apps keyword words
    → ((l : LooperData) → carry_in_looper l keyword words ≡ in_last_row l keyword words)
    → ((row : RowData) → carry_in_row row keyword words ≡ then_read (or_bad (read row.properties) (λ (x : Limited Action). Ok x)) (λ (x : Limited Action). or_limit x (action_added row)))
    → CarriedBy s (option_map says_action (read (open_properties s))) (carry s.apps keyword words)
action_carried s keyword words read h is same inside line =
    let p = part_after s h (λ plain. cc (is, plain)) in
    let r = reaction_of s p is in
    let put : RowData → List AppData = put_row s.apps p.app p.looper in
    row_key s p.app p.looper p.is_app p.is_looper p.row p.is_row keyword words (option_map says_action (read (open_properties s))) same (inside p.looper)
    (carried_at s (option_map says_action (read (open_properties s))) (over put (carry_in_row p.row keyword words))
    (over put (then_read (or_bad (read p.row.properties) (λ (x : Limited Action). Ok x)) (λ (x : Limited Action). or_limit x (action_added p.row))))
    (ap (over put) (line p.row))
    (action_key s p.app p.looper p.is_app p.is_looper p.row p.is_row r.0 r.1 r.2 read))

pub carry_is : (s : State) (keyword : Keyword) (words : List (List ℕ)) → StateFits s → MayStand s keyword → CarriedBy s (form_read s keyword words) (carry s.apps keyword words)
carry_is s key.App words h stands = app_by s (app_form words)
carry_is s key.Looper words h stands = let a = last_there s.apps (some_there s.apps stands) in looper_carried s a.0 a.1 words
carry_is s key.Hook words h stands =
    let p = opened_parts s.apps stands.0 stands.1 in
    looper_key s p.app stands.0 p.is_app p.is_looper key.Hook words (form_read s key.Hook words) refl (hook_by s p.app stands.0 p.is_app p.is_looper (hook_form words))
carry_is s key.Prefer words h stands =
    let p = opened_parts s.apps stands.0 stands.1 in
    looper_key s p.app stands.0 p.is_app p.is_looper key.Prefer words (form_read s key.Prefer words) refl (prefer_by s p.app stands.0 p.is_app p.is_looper (only_name words))
carry_is s key.Common words h stands =
    let p = in_part s stands.0 h stands.1 in
    looper_key s p.app p.looper p.is_app p.is_looper key.Common words (form_read s key.Common words) refl (common_by s p.app p.looper p.is_app p.is_looper p.common (filter_form words))
carry_is s key.Handler words h stands =
    let p = opened_parts s.apps stands.0 stands.1 in
    looper_key s p.app stands.0 p.is_app p.is_looper key.Handler words (form_read s key.Handler words) refl (handler_by s p.app stands.0 p.is_app p.is_looper (only_name words))
carry_is s key.Next words h stands =
    let p = in_part s stands.0 h stands.2 in
    row_key s p.app p.looper p.is_app p.is_looper p.row p.is_row key.Next words (form_read s key.Next words) refl refl (next_by s p.app p.looper p.is_app p.is_looper p.row p.is_row (only_name words))
carry_is s key.Suite words h stands =
    let p = in_part s stands.0 h stands.1 in
    row_key s p.app p.looper p.is_app p.is_looper p.row p.is_row key.Suite words (form_read s key.Suite words) refl refl (suite_by s p.app p.looper p.is_app p.is_looper p.row p.is_row (only_name words))
carry_is s key.Filter words h stands =
    let p = in_part s stands.0 h stands.1 in
    row_key s p.app p.looper p.is_app p.is_looper p.row p.is_row key.Filter words (form_read s key.Filter words) refl refl (filter_by s p.app p.looper p.is_app p.is_looper p.row p.is_row p.fits.filters (filter_form words))
carry_is s key.Property words h stands =
    let p = in_part s stands.0 h stands.1 in
    row_key s p.app p.looper p.is_app p.is_looper p.row p.is_row key.Property words (form_read s key.Property words) refl refl (property_by s p.app p.looper p.is_app p.is_looper p.row p.is_row (property_form words))
carry_is s key.Element words h stands = element_carried s words h stands
carry_is s key.On words h stands =
    let p = in_part s stands.0 h stands.1 in
    row_key s p.app p.looper p.is_app p.is_looper p.row p.is_row key.On words (form_read s key.On words) refl refl (on_by s p.app p.looper p.is_app p.is_looper p.row p.is_row (only_code words))
carry_is s key.Reply words h stands = action_carried s key.Reply words (λ ps. reply_form ps words) h stands refl (λ l. refl) (λ row. refl)
carry_is s key.Post words h stands = action_carried s key.Post words (λ ps. post_form ps words) h stands refl (λ l. refl) (λ row. refl)
carry_is s key.Ask words h stands = action_carried s key.Ask words (λ ps. ask_form ps words) h stands refl (λ l. refl) (λ row. refl)
carry_is s key.Set words h stands = action_carried s key.Set words (λ ps. set_form ps words) h stands refl (λ l. refl) (λ row. refl)
carry_is s key.Add words h stands = action_carried s key.Add words (λ ps. added_form ps words) h stands refl (λ l. refl) (λ row. refl)
carry_is s key.Drop words h stands = action_carried s key.Drop words (λ ps. bare action.Stop words) h stands refl (λ l. refl) (λ row. refl)
carry_is s key.Quit words h stands = action_carried s key.Quit words (λ ps. bare action.Quit words) h stands refl (λ l. refl) (λ row. refl)
