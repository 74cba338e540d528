-- Whom an action asks is noted; so where nothing is wrong with the names, it is described behind the looper that asks.
use Rattle.std.proofs.Common.{◌≡◌, ℕ, ◌<◌, ◌≤◌, Bool, true, false, ◌||◌, List, [], ◌∷◌, map, All, Some, slice_get, refl, sym, ap, subst, ◌∙◌, ⊎_elim, arith}
use Rattle.std.specs.List.{list_any}
use Rattle.std.proofs.lemmas.Bool.{cases_lt}
use Rattle.std.proofs.lemmas.List.Elements.{All-map, All-weaker}
use Rattle.std.proofs.lemmas.Option.{slice_get-map}
use Rattle.ak_base.specs.declared.app_word.AppWord.{AppWord}
use Rattle.ak_base.specs.declared.ending.RefusalKind.TheVariants as refusal
use Rattle.ak_action.specs.declared.action.Action.{Action}
use Rattle.ak_action.specs.declared.action.Action.TheVariants as action
use Rattle.ak_action.specs.declared.action.Dest.{Dest}
use Rattle.ak_action.specs.declared.action.Dest.TheVariants as dest
use Rattle.ak_action.specs.declared.action.Reaction.{Reaction}
use Rattle.ak_action.specs.declared.plan.PlanParts.{PlanParts}
use Rattle.ak_action.specs.declared.plan.PlanRow.{PlanRow}
use Rattle.ak_roster.specs.declared.head.AppHead.{AppHead}
use Rattle.ak_roster.specs.Heads.{head_fits}
use Rattle.ak_describe.specs.declared.described.AppText.{AppText}
use Rattle.ak_describe.specs.declared.named.Named.{Named}
use Rattle.ak_describe.specs.declared.named.Need.{Need}
use Rattle.ak_describe.specs.declared.named.Need.TheVariants as needs
use Rattle.ak_describe.specs.Described.{app_text, described, plan_parts, plan_row, plan_rows}
use Rattle.ak_describe.specs.Describes.{Fits, IsEarly, IsGood, IsNamedThere}
use Rattle.ak_describe.specs.Parts.{RowData, LooperData, AppData}
use Rattle.ak_describe.specs.Second.{fits}
use Rattle.ak_describe.specs.Whole.{ActionGoesOn, AppsAreBehind, AsksGoOn, GoesOn, LooperIsBehind, ReactionGoesOn, RowGoesOn, head_of, heads_of, looper_names}
use Rattle.ak_describe.proofs.names.Naming.{fits_decides}
use Rattle.ak_describe.proofs.names.Noting.{ActionNoted, AllNoted, AskNoted, LooperNoted, Noted, ReactionNoted, RowNoted, asked_there, is_at}
use Rattle.ak_describe.proofs.ground.Outcomes.{Mapped, mapped}
use Rattle.ak_describe.proofs.ground.Places.{all_there}
use Rattle.ak_describe.proofs.ground.Searching.{any_decides}

-- ---- what stands at a place of a list that is made of another one
made_of : {A B : Type 0} (f : A → B) (xs : List A) (i : ℕ) (y : B) → slice_get (map f xs) i ≡ Some y → Mapped (slice_get xs i) f y
made_of f xs i y at = mapped (slice_get xs i) f y (sym (slice_get-map f xs i) ∙ at)

-- ---- a word fits a description as it fits what a roster knows of it
heads_as : (word : AppWord) (apps : List AppData) → list_any (head_fits word) (heads_of (described apps)) ≡ list_any (fits word) apps
heads_as word [] = refl
heads_as word (a ∷ apps) = ap (λ (b : Bool). fits word a || b) (heads_as word apps)

-- ---- a looper at its place
module _ (apps : List AppData) (names : List Named) (good : All (IsGood apps) names) (i j : ℕ) (a : AppData) (l : LooperData) (at : slice_get apps i ≡ Some a) (is : slice_get a.loopers j ≡ Some l) where
  -- who is asked is not early
  not_early : (need : Need) (h : Noted names i j need) → IsEarly apps a h.named need → ⊥
  not_early need h early =
      all_there (IsGood apps) names h.place h.named h.is good refusal.AskOrder
      (a, l, is_at apps names good i j a l at is h.named h.app h.looper, subst (IsEarly apps a h.named) (sym h.need) early)

  looper_behind : (name : List ℕ) → Noted names i j (needs.AskLooper name) → LooperIsBehind (looper_names (app_text a)) j name
  looper_behind name h = record { there = asked_there apps names good i j a l at is name h; behind = λ other here. by_place other here } where
    by_place : (other : ℕ) → slice_get (looper_names (app_text a)) other ≡ Some name → j < other
    by_place other here =
        let p = made_of (λ (q : PlanParts). q.name) (app_text a).loopers other name here in
        let m = made_of plan_parts a.loopers other p.value p.is in
        let called : m.value.name ≡ name = ap (λ (q : PlanParts). q.name) m.then_is ∙ p.then_is in
        ⊎_elim
        (λ (lt : j < other). lt)
        (λ (le : other ≤ j). absurd (not_early (needs.AskLooper name) h (record { place = other; early = omega (arith, le, h.looper); looper = m.value; is_at = m.is; named = called })))
        (cases_lt j other)

  -- an application that fits is there
  app_there : (word : AppWord) → Noted names i j (needs.AskApp word) → list_any (fits word) apps ≡ true
  app_there word h = by_test (list_any (fits word) apps) refl where
    by_test : (b : Bool) → list_any (fits word) apps ≡ b → list_any (fits word) apps ≡ true
    by_test true e = e
    by_test false e =
        absurd (all_there (IsGood apps) names h.place h.named h.is good refusal.UnknownName (
          a,
          l,
          is_at apps names good i j a l at is h.named h.app h.looper,
          λ there.
              let found = (any_decides (fits word) (Fits word) (fits_decides word) apps).1 (subst (IsNamedThere apps a l) h.need there) in
              absurd (cc (found, e)),
        ))

  apps_behind : (word : AppWord) → Noted names i j (needs.AskApp word) → AppsAreBehind (heads_of (described apps)) i word
  apps_behind word h = record { there = heads_as word apps ∙ app_there word h; behind = λ other head here e. by_place other head here e } where
    by_place : (other : ℕ) (head : AppHead) → slice_get (heads_of (described apps)) other ≡ Some head → head_fits word head ≡ true → i < other
    by_place other head here e =
        let t = made_of head_of (described apps) other head here in
        let b = made_of app_text apps other t.value t.is in
        let passes : fits word b.value ≡ true = ap (head_fits word) (ap head_of b.then_is ∙ t.then_is) ∙ e in
        ⊎_elim
        (λ (lt : i < other). lt)
        (λ (le : other ≤ i).
        absurd (not_early (needs.AskApp word) h (record { place = other; early = omega (arith, le, h.app); found = b.value; is_at = b.is; fits = (fits_decides word b.value).0 passes })))
        (cases_lt i other)

  -- ---- its asks
  dest_on : (to : Dest) → AskNoted names i j to → GoesOn (heads_of (described apps)) i (looper_names (app_text a)) j to
  dest_on dest.Own h = tt
  dest_on (dest.Looper name) h = looper_behind name h
  dest_on (dest.Handler name) h = tt
  dest_on (dest.App word) h = apps_behind word h

  action_on : (x : Action) → ActionNoted names i j x → ActionGoesOn (heads_of (described apps)) i (looper_names (app_text a)) j x
  action_on (action.Reply m) h = tt
  action_on (action.Post to m back) h = tt
  action_on (action.Ask to m into) h = dest_on to h
  action_on (action.Set property value) h = tt
  action_on (action.Add property amount) h = tt
  action_on action.Stop h = tt
  action_on action.Quit h = tt

  reaction_on : (r : Reaction) → ReactionNoted names i j r → ReactionGoesOn (heads_of (described apps)) i (looper_names (app_text a)) j r
  reaction_on r h =
      All-weaker (λ (x : Action). ActionNoted names i j x) (λ (x : Action). ActionGoesOn (heads_of (described apps)) i (looper_names (app_text a)) j x) action_on r.actions h

  row_on : (r : RowData) → RowNoted names i j r → RowGoesOn (heads_of (described apps)) i (looper_names (app_text a)) j (plan_row r)
  row_on r h =
      All-weaker (λ (x : Reaction). ReactionNoted names i j x) (λ (x : Reaction). ReactionGoesOn (heads_of (described apps)) i (looper_names (app_text a)) j x) reaction_on r.reactions h

  looper_on : LooperNoted names i j l → All (λ (row : PlanRow). RowGoesOn (heads_of (described apps)) i (looper_names (app_text a)) j row) (plan_rows l.rows)
  looper_on h =
      All-map (λ (row : PlanRow). RowGoesOn (heads_of (described apps)) i (looper_names (app_text a)) j row) plan_row l.rows
      (All-weaker (λ (r : RowData). RowNoted names i j r) (λ (r : RowData). RowGoesOn (heads_of (described apps)) i (looper_names (app_text a)) j (plan_row r)) row_on l.rows h)

-- ---- all of them
pub asks_go_on : (apps : List AppData) (names : List Named) → All (IsGood apps) names → AllNoted apps names → AsksGoOn (described apps)
asks_go_on apps names good noted i j text p at is =
    let a = made_of app_text apps i text at in
    let there : slice_get (app_text a.value).loopers j ≡ Some p = subst (λ (t : AppText). slice_get t.loopers j ≡ Some p) (sym a.then_is) is in
    let l = made_of plan_parts a.value.loopers j p there in
    let on = looper_on apps names good i j a.value l.value a.is l.is (noted i j a.value l.value a.is l.is) in
    subst (λ (t : AppText). All (λ (row : PlanRow). RowGoesOn (heads_of (described apps)) i (looper_names t) j row) p.rows) a.then_is
    (subst (λ (q : PlanParts). All (λ (row : PlanRow). RowGoesOn (heads_of (described apps)) i (looper_names (app_text a.value)) j row) q.rows) l.then_is on)
