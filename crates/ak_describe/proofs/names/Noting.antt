-- Whom an action names is noted, at the place of the action; so where nothing is wrong with the names, each looper is there.
use Rattle.std.proofs.Common.{◌≡◌, ◌⊎◌, ℕ, ◌+◌, ◌-◌, Bool, true, false, ◌||◌, List, [], ◌∷◌, ◌++◌, length, map, All, Option, Some, None, option_map, bytes_eq, slice_get, refl, sym, ap, subst, ◌∙◌, inl, inr, arith}
use Rattle.std.specs.List.{list_any, list_all}
use Rattle.std.proofs.lemmas.Bool.{and_from}
use Rattle.std.proofs.lemmas.List.Elements.{All-head, All-nil, All-push, All-tail, All-weaker}
use Rattle.std.proofs.lemmas.List.Folds.{list_all-map}
use Rattle.std.proofs.lemmas.Slice.Eq.{bytes_eq-Decides}
use Rattle.ak_base.specs.declared.limited.Limited.{Limited}
use Rattle.ak_base.specs.declared.limited.Limited.TheVariants.{Within, Over}
use Rattle.ak_base.specs.declared.ending.RefusalKind.TheVariants as refusal
use Rattle.ak_action.specs.declared.action.Action.{Action}
use Rattle.ak_action.specs.declared.action.Action.TheVariants as action
use Rattle.ak_action.specs.declared.action.Dest.{Dest}
use Rattle.ak_action.specs.declared.action.Dest.TheVariants as dest
use Rattle.ak_action.specs.declared.action.Reaction.{Reaction}
use Rattle.ak_action.specs.declared.plan.PlanParts.{PlanParts}
use Rattle.ak_action.specs.Opening.{contains, fits_dest, knows_loopers, names_loopers, reaction_knows_loopers, row_knows_loopers}
use Rattle.ak_describe.specs.declared.named.Named.{Named}
use Rattle.ak_describe.specs.declared.named.Need.{Need}
use Rattle.ak_describe.specs.declared.named.Need.TheVariants as needs
use Rattle.ak_describe.specs.Described.{app_text, plan_parts, plan_row, plan_rows}
use Rattle.ak_describe.specs.Describes.{IsAt, IsGood, IsLooper, IsNamedThere}
use Rattle.ak_describe.specs.Named.{need_of_action, need_of_ask, need_of_post}
use Rattle.ak_describe.specs.Parts.{RowData, LooperData, AppData, opened}
use Rattle.ak_describe.specs.Pass.{last_item, loopers_in, open_looper_place, new_app, new_looper, new_name, new_property, new_reaction, with_need}
use Rattle.ak_describe.specs.Says.{Form, says_app, says_looper, says_hook, says_prefer, says_common, says_handler, says_next, says_suite, says_filter, says_property, says_element, says_on, says_action, with_changed, in_app, in_looper, in_row, usage_of, element_added, action_added, with_form, names_in}
use Rattle.ak_describe.specs.Whole.{looper_names}
use Rattle.ak_describe.proofs.ground.Ends.{changed_get, get_before, get_push, last_changed, length_changed, push_cases}
use Rattle.ak_describe.proofs.lines.Heading.{all_changed}
use Rattle.ak_describe.proofs.ground.Places.{all_there}
use Rattle.ak_describe.proofs.ground.Searching.{any_decides}

-- ---- what is named
-- it is noted for that looper of that application
pub record Noted (names : List Named) (i j : ℕ) (wanted : Need) : Type 0 where
  pub place : ℕ
  pub named : Named
  pub is : slice_get names place ≡ Some named
  pub app : named.app ≡ i
  pub looper : named.looper ≡ j
  pub need : named.need ≡ wanted

-- where a message is posted to
abbrev pub PostNoted : List Named → ℕ → ℕ → Dest → Type 0
PostNoted names i j dest.Own = Unit {0}
PostNoted names i j (dest.Looper name) = Noted names i j (needs.Looper name)
PostNoted names i j (dest.Handler name) = Unit {0}
PostNoted names i j (dest.App word) = Unit {0}

-- who is asked
abbrev pub AskNoted : List Named → ℕ → ℕ → Dest → Type 0
AskNoted names i j dest.Own = Unit {0}
AskNoted names i j (dest.Looper name) = Noted names i j (needs.AskLooper name)
AskNoted names i j (dest.Handler name) = Unit {0}
AskNoted names i j (dest.App word) = Noted names i j (needs.AskApp word)

abbrev pub ActionNoted : List Named → ℕ → ℕ → Action → Type 0
ActionNoted names i j (action.Reply m) = Unit {0}
ActionNoted names i j (action.Post to m back) = PostNoted names i j to
ActionNoted names i j (action.Ask to m into) = AskNoted names i j to
ActionNoted names i j (action.Set property value) = Unit {0}
ActionNoted names i j (action.Add property amount) = Unit {0}
ActionNoted names i j action.Stop = Unit {0}
ActionNoted names i j action.Quit = Unit {0}

abbrev pub ReactionNoted : List Named → ℕ → ℕ → Reaction → Type 0
ReactionNoted names i j r = All (λ (a : Action). ActionNoted names i j a) r.actions

abbrev pub RowNoted : List Named → ℕ → ℕ → RowData → Type 0
RowNoted names i j r = All (λ (x : Reaction). ReactionNoted names i j x) r.reactions

abbrev pub LooperNoted : List Named → ℕ → ℕ → LooperData → Type 0
LooperNoted names i j l = All (λ (r : RowData). RowNoted names i j r) l.rows

abbrev pub AllNoted : List AppData → List Named → Type 0
AllNoted apps names = (i j : ℕ) (a : AppData) (l : LooperData) → slice_get apps i ≡ Some a → slice_get a.loopers j ≡ Some l → LooperNoted names i j l

pub nothing_noted : AllNoted [] []
nothing_noted i j a l at is = absurd cc

-- ---- names are added behind those that there are
noted_more : (names : List Named) (apps : List AppData) (line : ℕ) (o : Option Need) (i j : ℕ) (wanted : Need) → Noted names i j wanted → Noted (with_need names apps line o) i j wanted
noted_more names apps line None i j wanted h = h
noted_more names apps line (Some need) i j wanted h =
    record { place = h.place; named = h.named; is = get_before names (new_name apps line need) h.place h.named h.is; app = h.app; looper = h.looper; need = h.need }

module _ (names more : List Named) (grows : (i j : ℕ) (wanted : Need) → Noted names i j wanted → Noted more i j wanted) where
  post_more : (i j : ℕ) (to : Dest) → PostNoted names i j to → PostNoted more i j to
  post_more i j dest.Own h = h
  post_more i j (dest.Looper name) h = grows i j (needs.Looper name) h
  post_more i j (dest.Handler name) h = h
  post_more i j (dest.App word) h = h

  ask_more : (i j : ℕ) (to : Dest) → AskNoted names i j to → AskNoted more i j to
  ask_more i j dest.Own h = h
  ask_more i j (dest.Looper name) h = grows i j (needs.AskLooper name) h
  ask_more i j (dest.Handler name) h = h
  ask_more i j (dest.App word) h = grows i j (needs.AskApp word) h

  action_more : (i j : ℕ) (a : Action) → ActionNoted names i j a → ActionNoted more i j a
  action_more i j (action.Reply m) h = h
  action_more i j (action.Post to m back) h = post_more i j to h
  action_more i j (action.Ask to m into) h = ask_more i j to h
  action_more i j (action.Set property value) h = h
  action_more i j (action.Add property amount) h = h
  action_more i j action.Stop h = h
  action_more i j action.Quit h = h

  reaction_more : (i j : ℕ) (r : Reaction) → ReactionNoted names i j r → ReactionNoted more i j r
  reaction_more i j r h = All-weaker (λ (a : Action). ActionNoted names i j a) (λ (a : Action). ActionNoted more i j a) (action_more i j) r.actions h

  row_more : (i j : ℕ) (r : RowData) → RowNoted names i j r → RowNoted more i j r
  row_more i j r h = All-weaker (λ (x : Reaction). ReactionNoted names i j x) (λ (x : Reaction). ReactionNoted more i j x) (reaction_more i j) r.reactions h

  all_more : (apps : List AppData) → AllNoted apps names → AllNoted apps more
  all_more apps h i j a l at is = All-weaker (λ (r : RowData). RowNoted names i j r) (λ (r : RowData). RowNoted more i j r) (row_more i j) l.rows (h i j a l at is)

-- ---- what a line changes
none_at : (loopers : List LooperData) (j : ℕ) (l : LooperData) → loopers ≡ [] → slice_get loopers j ≡ Some l → ⊥
none_at [] j l e at = absurd cc
none_at (x ∷ loopers) j l e at = absurd cc

-- the looper at that place of the application at that place is the last one
record IsLast (apps : List AppData) (i j : ℕ) : Type 0 where
  app : AppData
  last : last_item apps ≡ Some app
  place : i + 1 ≡ length apps
  looper : j + 1 ≡ length app.loopers

module _ (names : List Named) where
  in_looper_noted : (change : LooperData → LooperData) (apps : List AppData) → ((i j : ℕ) (l : LooperData) → IsLast apps i j → LooperNoted names i j l → LooperNoted names i j (change l)) → AllNoted apps names → AllNoted (in_looper change apps) names
  in_looper_noted change apps step h i j a l at is = by_app (changed_get (λ (x : AppData). record x { loopers = with_changed change x.loopers }) apps i a at) where
    by_looper : (x : AppData) → i + 1 ≡ length apps → slice_get apps i ≡ Some x → (slice_get x.loopers j ≡ Some l) ⊎ ((y : LooperData) × (j + 1 ≡ length x.loopers) × (slice_get x.loopers j ≡ Some y) × (l ≡ change y)) → LooperNoted names i j l
    by_looper x place there (inl old) = h i j x l there old
    by_looper x place there (inr t) =
        let end : length apps - 1 ≡ i = omega (arith, place) in
        let last : last_item apps ≡ Some x = ap (slice_get apps) end ∙ there in
        subst (λ (m : LooperData). LooperNoted names i j m) (sym t.3) (step i j t.0 (record { app = x; last = last; place = place; looper = t.1 }) (h i j x t.0 there t.2))

    by_app : (slice_get apps i ≡ Some a) ⊎ ((x : AppData) × (i + 1 ≡ length apps) × (slice_get apps i ≡ Some x) × (a ≡ record x { loopers = with_changed change x.loopers })) → LooperNoted names i j l
    by_app (inl old) = h i j a l old is
    by_app (inr t) =
        let changed : slice_get (with_changed change t.0.loopers) j ≡ Some l = subst (λ (b : AppData). slice_get b.loopers j ≡ Some l) t.3 is in
        by_looper t.0 t.1 t.2 (changed_get change t.0.loopers j l changed)

  in_row_noted : (change : RowData → RowData) (apps : List AppData) → ((i j : ℕ) (r : RowData) → IsLast apps i j → RowNoted names i j r → RowNoted names i j (change r)) → AllNoted apps names → AllNoted (in_row change apps) names
  in_row_noted change apps step h =
      in_looper_noted (λ (l : LooperData). record l { rows = with_changed change l.rows }) apps
      (λ i j l last is. all_changed (λ (r : RowData). RowNoted names i j r) change l.rows (λ r here noted. step i j r last noted) is) h

  -- a new handler, and a new reaction, have no action
  opened_noted : (i j : ℕ) (name : List ℕ) → RowNoted names i j (opened name)
  opened_noted i j name = All-nil (λ (x : Reaction). ReactionNoted names i j x)

  looper_noted : (apps : List AppData) (new : LooperData) → ((i j : ℕ) → LooperNoted names i j new) → AllNoted apps names → AllNoted (in_app (λ (a : AppData). record a { loopers = a.loopers ++ new ∷ [] }) apps) names
  looper_noted apps new fresh h i j a l at is = by_app (changed_get (λ (x : AppData). record x { loopers = x.loopers ++ new ∷ [] }) apps i a at) where
    by_looper : (x : AppData) → slice_get apps i ≡ Some x → (slice_get x.loopers j ≡ Some l) ⊎ ((j ≡ length x.loopers) × (new ≡ l)) → LooperNoted names i j l
    by_looper x there (inl old) = h i j x l there old
    by_looper x there (inr last) = subst (λ (m : LooperData). LooperNoted names i j m) last.1 (fresh i j)

    by_app : (slice_get apps i ≡ Some a) ⊎ ((x : AppData) × (i + 1 ≡ length apps) × (slice_get apps i ≡ Some x) × (a ≡ record x { loopers = x.loopers ++ new ∷ [] })) → LooperNoted names i j l
    by_app (inl old) = h i j a l old is
    by_app (inr t) =
        let pushed : slice_get (t.0.loopers ++ new ∷ []) j ≡ Some l = subst (λ (b : AppData). slice_get b.loopers j ≡ Some l) t.3 is in
        by_looper t.0 t.2 (push_cases t.0.loopers new j l pushed)

  app_noted : (apps : List AppData) (new : AppData) → new.loopers ≡ [] → AllNoted apps names → AllNoted (apps ++ new ∷ []) names
  app_noted apps new none h i j a l at is = by_app (push_cases apps new i a at) where
    by_app : (slice_get apps i ≡ Some a) ⊎ ((i ≡ length apps) × (new ≡ a)) → LooperNoted names i j l
    by_app (inl old) = h i j a l old is
    by_app (inr last) =
        let empty : a.loopers ≡ [] = subst (λ (b : AppData). b.loopers ≡ []) last.1 none in
        absurd (none_at a.loopers j l empty is)

-- ---- the action of a line is noted with it
module _ (names : List Named) (apps : List AppData) (line i j : ℕ) (app : length apps - 1 ≡ i) (looper : open_looper_place apps ≡ j) where
  is_noted : (need : Need) → Noted (with_need names apps line (Some need)) i j need
  is_noted need = record { place = length names; named = new_name apps line need; is = get_push names (new_name apps line need); app = app; looper = looper; need = refl }

  post_noted : (to : Dest) → PostNoted (with_need names apps line (need_of_post to)) i j to
  post_noted dest.Own = tt
  post_noted (dest.Looper name) = is_noted (needs.Looper name)
  post_noted (dest.Handler name) = tt
  post_noted (dest.App word) = tt

  ask_noted : (to : Dest) → AskNoted (with_need names apps line (need_of_ask to)) i j to
  ask_noted dest.Own = tt
  ask_noted (dest.Looper name) = is_noted (needs.AskLooper name)
  ask_noted (dest.Handler name) = tt
  ask_noted (dest.App word) = is_noted (needs.AskApp word)

  action_noted : (a : Action) → ActionNoted (with_need names apps line (need_of_action a)) i j a
  action_noted (action.Reply m) = tt
  action_noted (action.Post to m back) = post_noted to
  action_noted (action.Ask to m into) = ask_noted to
  action_noted (action.Set property value) = tt
  action_noted (action.Add property amount) = tt
  action_noted action.Stop = tt
  action_noted action.Quit = tt

-- the places are those of the looper that is open
last_app : (apps : List AppData) (change : AppData → AppData) (i j : ℕ) → IsLast apps i j → length (in_app change apps) - 1 ≡ i
last_app apps change i j h = omega (arith, h.place, length_changed change apps)

last_looper : (apps : List AppData) (change : LooperData → LooperData) (i j : ℕ) → IsLast apps i j → open_looper_place (in_looper change apps) ≡ j
last_looper apps change i j h =
    let inner : AppData → AppData = λ a. record a { loopers = with_changed change a.loopers } in
    let last : last_item (in_looper change apps) ≡ Some (inner h.app) = last_changed inner apps ∙ ap (option_map inner) h.last in
    ap (λ (o : Option AppData). length (loopers_in o) - 1) last ∙ omega (arith, h.looper, length_changed change h.app.loopers)

abbrev with_action : Limited Action → RowData → RowData
with_action a r = record r { reactions = with_changed (action_added a) r.reactions }

action_line : (apps : List AppData) (names : List Named) (line : ℕ) (a : Action) (i j : ℕ) (r : RowData) → let more = with_need names (in_row (with_action (Within a)) apps) line (need_of_action a) in
    IsLast apps i j → RowNoted more i j r → RowNoted more i j (with_action (Within a) r)
action_line apps names line a i j r h noted =
    let left = in_row (with_action (Within a)) apps in
    let more = with_need names left line (need_of_action a) in
    let app : length left - 1 ≡ i = last_app apps (λ (x : AppData). record x { loopers = with_changed (λ (l : LooperData). record l { rows = with_changed (with_action (Within a)) l.rows }) x.loopers }) i j h in
    let looper : open_looper_place left ≡ j = last_looper apps (λ (l : LooperData). record l { rows = with_changed (with_action (Within a)) l.rows }) i j h in
    all_changed (λ (x : Reaction). ReactionNoted more i j x) (action_added (Within a)) r.reactions
    (λ x here actions. All-push (λ (y : Action). ActionNoted more i j y) x.actions a actions (action_noted names left line i j app looper a)) noted

-- ---- each line
noted_by : (apps : List AppData) (more : List Named) (form : Form) → AllNoted apps more → ((a : Action) → form ≡ says_action (Within a) → AllNoted (with_form apps form) more) → AllNoted (with_form apps form) more
noted_by apps more (says_app f) h act = app_noted more apps (new_app f) refl h
noted_by apps more (says_looper f) h act = looper_noted more apps (new_looper f) (λ i j. All-push (λ (r : RowData). RowNoted more i j r) [] (opened f.name) (All-nil (λ (r : RowData). RowNoted more i j r)) (opened_noted more i j f.name)) h
noted_by apps more says_hook h act = in_looper_noted more (λ (l : LooperData). record l { quit_refused = true }) apps (λ i j l last is. is) h
noted_by apps more (says_prefer name) h act = in_looper_noted more (λ (l : LooperData). record l { preferred = Some name }) apps (λ i j l last is. is) h
noted_by apps more (says_common f) h act = in_looper_noted more (λ (l : LooperData). record l { common = l.common ++ f ∷ [] }) apps (λ i j l last is. is) h
noted_by apps more (says_handler name) h act =
    in_looper_noted more (λ (l : LooperData). record l { rows = l.rows ++ opened name ∷ [] }) apps (λ i j l last is. All-push (λ (r : RowData). RowNoted more i j r) l.rows (opened name) is (opened_noted more i j name)) h
noted_by apps more (says_next name) h act = in_row_noted more (λ (r : RowData). record r { next = Some name }) apps (λ i j r last is. is) h
noted_by apps more (says_suite name) h act = in_row_noted more (λ (r : RowData). record r { suites = r.suites ++ name ∷ [] }) apps (λ i j r last is. is) h
noted_by apps more (says_filter f) h act = in_row_noted more (λ (r : RowData). record r { filters = r.filters ++ f ∷ [] }) apps (λ i j r last is. is) h
noted_by apps more (says_property p) h act = in_row_noted more (λ (r : RowData). record r { properties = r.properties ++ new_property p (usage_of p.usage) ∷ [] }) apps (λ i j r last is. is) h
noted_by apps more (says_element x) h act = in_row_noted more (λ (r : RowData). record r { properties = with_changed (element_added x) r.properties }) apps (λ i j r last is. is) h
noted_by apps more (says_on code) h act =
    in_row_noted more (λ (r : RowData). record r { reactions = r.reactions ++ new_reaction code ∷ [] }) apps
    (λ i j r last is. All-push (λ (x : Reaction). ReactionNoted more i j x) r.reactions (new_reaction code) is (All-nil (λ (a : Action). ActionNoted more i j a))) h
noted_by apps more (says_action Over) h act = in_row_noted more (with_action Over) apps (λ i j r last is. all_changed (λ (x : Reaction). ReactionNoted more i j x) (action_added Over) r.reactions (λ x here actions. actions) is) h
noted_by apps more (says_action (Within a)) h act = act a refl

pub form_noted : (apps : List AppData) (names : List Named) (line : ℕ) (form : Form) → AllNoted apps names → AllNoted (with_form apps form) (with_need names (with_form apps form) line (names_in form))
form_noted apps names line form h =
    let more = with_need names (with_form apps form) line (names_in form) in
    let old : AllNoted apps more = all_more names more (noted_more names (with_form apps form) line (names_in form)) apps h in
    noted_by apps more form old (λ a e. by_action a e) where
      by_action : (a : Action) → form ≡ says_action (Within a) → AllNoted (with_form apps form) (with_need names (with_form apps form) line (names_in form))
      by_action a e =
          let left = in_row (with_action (Within a)) apps in
          let more = with_need names left line (need_of_action a) in
          let old : AllNoted apps more = all_more names more (noted_more names left line (need_of_action a)) apps h in
          let new : AllNoted left more = in_row_noted more (with_action (Within a)) apps (λ i j r last is. action_line apps names line a i j r last is) old in
          subst (λ (f : Form). AllNoted (with_form apps f) (with_need names (with_form apps f) line (names_in f))) (sym e) new

-- ---- what is noted is there, where nothing is wrong with the names
contains_is : (loopers : List LooperData) (name : List ℕ) → contains (map (λ (p : PlanParts). p.name) (map plan_parts loopers)) name ≡ list_any (λ (l : LooperData). bytes_eq l.name name) loopers
contains_is [] name = refl
contains_is (l ∷ loopers) name = ap (λ (b : Bool). bytes_eq l.name name || b) (contains_is loopers name)

looper_found : (a : AppData) (name : List ℕ) → IsLooper a name → list_any (λ (l : LooperData). bytes_eq l.name name) a.loopers ≡ true
looper_found a name h = (any_decides (λ (l : LooperData). bytes_eq l.name name) (λ (l : LooperData). l.name ≡ name) (λ l. bytes_eq-Decides l.name name) a.loopers).1 h

module _ (apps : List AppData) (names : List Named) (good : All (IsGood apps) names) (i j : ℕ) (a : AppData) (l : LooperData) (at : slice_get apps i ≡ Some a) (is : slice_get a.loopers j ≡ Some l) where
  pub is_at : (n : Named) → n.app ≡ i → n.looper ≡ j → IsAt apps n a l
  is_at n app looper = record { in_app = ap (slice_get apps) app ∙ at; in_looper = ap (slice_get a.loopers) looper ∙ is }

  -- what needs a looper of that name
  looper_there : (need : Need) (name : List ℕ) → (IsNamedThere apps a l need → IsLooper a name) → Noted names i j need → contains (looper_names (app_text a)) name ≡ true
  looper_there need name needs_it h = contains_is a.loopers name ∙ by_test (list_any (λ (x : LooperData). bytes_eq x.name name) a.loopers) refl where
    by_test : (b : Bool) → list_any (λ (x : LooperData). bytes_eq x.name name) a.loopers ≡ b → list_any (λ (x : LooperData). bytes_eq x.name name) a.loopers ≡ true
    by_test true e = e
    by_test false e =
        absurd (all_there (IsGood apps) names h.place h.named h.is good refusal.UnknownName
        (a, l, is_at h.named h.app h.looper, λ there. let found = looper_found a name (needs_it (subst (IsNamedThere apps a l) h.need there)) in absurd (cc (found, e))))

  pub asked_there : (name : List ℕ) → Noted names i j (needs.AskLooper name) → contains (looper_names (app_text a)) name ≡ true
  asked_there name h = looper_there (needs.AskLooper name) name (λ there. there) h

  post_known : (to : Dest) → PostNoted names i j to → fits_dest (looper_names (app_text a)) to ≡ true
  post_known dest.Own h = refl
  post_known (dest.Looper name) h = looper_there (needs.Looper name) name (λ there. there) h
  post_known (dest.Handler name) h = refl
  post_known (dest.App word) h = refl

  ask_known : (to : Dest) → AskNoted names i j to → fits_dest (looper_names (app_text a)) to ≡ true
  ask_known dest.Own h = refl
  ask_known (dest.Looper name) h = asked_there name h
  ask_known (dest.Handler name) h = refl
  ask_known (dest.App word) h = refl

  action_known : (x : Action) → ActionNoted names i j x → names_loopers (looper_names (app_text a)) x ≡ true
  action_known (action.Reply m) h = refl
  action_known (action.Post to m back) h = post_known to h
  action_known (action.Ask to m into) h = ask_known to h
  action_known (action.Set property value) h = refl
  action_known (action.Add property amount) h = refl
  action_known action.Stop h = refl
  action_known action.Quit h = refl

  all_true : {X : Type 0} (p : X → Bool) (P : X → Type 0) (xs : List X) → ((x : X) → P x → p x ≡ true) → All P xs → list_all p xs ≡ true
  all_true p P [] each all = refl
  all_true p P (x ∷ xs) each all = and_from (p x) (list_all p xs) (each x (All-head P x xs all)) (all_true p P xs each (All-tail P x xs all))

  reaction_known : (r : Reaction) → ReactionNoted names i j r → reaction_knows_loopers (looper_names (app_text a)) r ≡ true
  reaction_known r h = all_true (names_loopers (looper_names (app_text a))) (λ (x : Action). ActionNoted names i j x) r.actions action_known h

  row_known : (r : RowData) → RowNoted names i j r → row_knows_loopers (looper_names (app_text a)) (plan_row r) ≡ true
  row_known r h = all_true (reaction_knows_loopers (looper_names (app_text a))) (λ (x : Reaction). ReactionNoted names i j x) r.reactions reaction_known h

  pub loopers_known : LooperNoted names i j l → knows_loopers (looper_names (app_text a)) (plan_rows l.rows) ≡ true
  loopers_known h =
      list_all-map (row_knows_loopers (looper_names (app_text a))) plan_row l.rows
      ∙ all_true (λ (r : RowData). row_knows_loopers (looper_names (app_text a)) (plan_row r)) (λ (r : RowData). RowNoted names i j r) l.rows row_known h
