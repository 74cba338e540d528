-- What is described is whole.
use Rattle.std.proofs.Common.{◌≡◌, ◌≢◌, ℕ, ◌+◌, ◌-◌, ◌<◌, ◌≤◌, true, List, [], ◌∷◌, length, get_or, map, All, AllPairs, Some, None, IfSome, IsTrue, option_map, slice_get, refl, sym, ap, subst, ◌∙◌, arith}
use Rattle.std.specs.List.{list_all}
use Rattle.std.proofs.lemmas.List.{length-map, get_or-map}
use Rattle.std.proofs.lemmas.List.Elements.{All-map, All-weaker}
use Rattle.std.proofs.lemmas.Option.{slice_get-get_or, slice_get-map}
use Rattle.ak_base.specs.Word.{is_word}
use Rattle.ak_input.specs.declared.line.Line.{Line}
use Rattle.ak_action.specs.declared.plan.PlanParts.{PlanParts}
use Rattle.ak_action.specs.Opening.{FitsPlace, knows_loopers}
use Rattle.ak_action.specs.Plan.{IsPlan}
use Rattle.ak_roster.specs.declared.head.AppHead.{AppHead}
use Rattle.ak_roster.specs.Heads.{IsHeads}
use Rattle.ak_describe.specs.declared.described.AppText.{AppText}
use Rattle.ak_describe.specs.Described.{AreWhole, IsWhole, app_text, described, plan_parts}
use Rattle.ak_describe.specs.Describes.{Adds, Follow, IsGood}
use Rattle.ak_describe.specs.Parts.{LooperData, AppData}
use Rattle.ak_describe.specs.Pass.{State, nothing_read}
use Rattle.ak_describe.specs.Whole.{AreWholeApps, DescriptionsAreWhole, IsWholeApp, head_of, heads_of, looper_names, row_names}
use Rattle.ak_describe.proofs.names.Asking.{asks_go_on}
use Rattle.ak_describe.proofs.answered.BothPasses.{are_whole}
use Rattle.ak_describe.proofs.lines.Heading.{AppIs, AppsAre, Differ, complete_filled, form_are, name_of, nothing_is, path_of}
use Rattle.ak_describe.proofs.answered.LawsHold.{describes_passed, describes_good}
use Rattle.ak_describe.proofs.names.LookedUp.{AllNameApps, AppNamesApps, LooperNamesApps, form_names, looper_is, nothing_names}
use Rattle.ak_describe.proofs.names.Noting.{AllNoted, form_noted, loopers_known, nothing_noted}
use Rattle.ak_describe.proofs.ground.Outcomes.{mapped}
use Rattle.ak_describe.proofs.ground.Places.{all_there}

-- ---- what holds after each line
record Held (s : State) : Type 0 where
  are : AppsAre s.apps
  noted : AllNoted s.apps s.names
  named : AllNameApps s.apps

adds_held : (s : State) (line : Line) (left : State) → Held s → Adds s line left → Held left
adds_held s line left h a =
    subst Held (sym a.left_is)
    (record {
      are = form_are s a.keyword a.words a.form a.opens.stands a.says a.is_new a.within h.are;
      noted = form_noted s.apps s.names line.number a.form h.noted;
      named = form_names s a.keyword a.words a.form a.says a.within h.named;
    })

follow_held : (lines : List Line) (s left : State) → Held s → Follow s lines left → Held left
follow_held [] s left h f = subst Held f h
follow_held (line ∷ lines) s left h f = follow_held lines f.0 left (adds_held s line f.0 h f.1) f.2

nothing_held : Held nothing_read
nothing_held = record { are = nothing_is; noted = nothing_noted; named = nothing_names }

-- ---- an application
-- a looper of that name alone
called : List ℕ → LooperData
called name = record { name = name; capacity = 0; quit_refused = true; preferred = None; common = []; rows = [] }

names-are : (loopers : List LooperData) → map (λ (p : PlanParts). p.name) (map plan_parts loopers) ≡ map name_of loopers
names-are [] = refl
names-are (l ∷ loopers) = ap (λ (names : List (List ℕ)). l.name ∷ names) (names-are loopers)

pairs_differ : (loopers : List LooperData) → Differ name_of loopers → AllPairs (λ (x y : List ℕ). x ≢ y) (map name_of loopers)
pairs_differ loopers h i j d lt within e =
    let same = length-map loopers name_of in
    let one : i < length loopers = omega (arith, lt, within, same) in
    let other : j < length loopers = omega (arith, within, same) in
    h i j (get_or loopers i (called d)) (get_or loopers j (called d)) lt (slice_get-get_or loopers i (called d) one) (slice_get-get_or loopers j (called d) other)
    (sym (get_or-map name_of loopers i (called d) d one) ∙ e ∙ get_or-map name_of loopers j (called d) d other)

own_large : (loopers : List LooperData) → ((l : LooperData) → slice_get loopers 0 ≡ Some l → 2 ≤ l.capacity) → IfSome (slice_get (map plan_parts loopers) 0) (λ (p : PlanParts). 2 ≤ p.capacity)
own_large [] own = tt
own_large (l ∷ loopers) own = own l refl

module _ (s : State) (h : Held s) (good : All (IsGood s.apps) s.names) (wholes : AreWhole s.apps) (i : ℕ) (a : AppData) (at : slice_get s.apps i ≡ Some a) (filled : 1 ≤ length a.loopers) where
  app_is : AppIs a
  app_is = all_there AppIs s.apps i a at h.are.each

  length-loopers : length (app_text a).loopers ≡ length a.loopers
  length-loopers = length-map a.loopers plan_parts

  length-names : length (looper_names (app_text a)) ≡ length a.loopers
  length-names = length-map (app_text a).loopers (λ (p : PlanParts). p.name) ∙ length-loopers

  differ : AllPairs (λ (x y : List ℕ). x ≢ y) (looper_names (app_text a))
  differ = subst (λ (ns : List (List ℕ)). AllPairs (λ (x y : List ℕ). x ≢ y) ns) (sym (names-are a.loopers)) (pairs_differ a.loopers app_is.differ)

  known_at : (j : ℕ) (l : LooperData) → slice_get a.loopers j ≡ Some l → IsTrue (knows_loopers (looper_names (app_text a)) (plan_parts l).rows)
  known_at j l is = loopers_known s.apps s.names good i j a l at is (h.noted i j a l at is)

  plans_are : All IsPlan (app_text a).loopers
  plans_are =
      All-map IsPlan plan_parts a.loopers
      (All-weaker IsWhole (λ (l : LooperData). IsPlan (plan_parts l)) (λ l w. w.plan) a.loopers (all_there (λ (b : AppData). All IsWhole b.loopers) s.apps i a at wholes))

  fits_at : (first place : ℕ) (p : PlanParts) → first + length (app_text a).loopers ≤ 32 → slice_get (app_text a).loopers place ≡ Some p → FitsPlace p (first + place) first (looper_names (app_text a))
  fits_at first place p room there =
      let t = mapped (slice_get a.loopers place) plan_parts p (sym (slice_get-map plan_parts a.loopers place) ∙ there) in
      let back : (first + place) - first ≡ place = omega arith in
      record {
        some = omega (arith, length-names, app_is.few);
        differ = differ;
        numbers = omega (arith, room, length-names, length-loopers);
        at = omega arith;
        named = ap (slice_get (looper_names (app_text a))) back ∙ slice_get-map (λ (q : PlanParts). q.name) (app_text a).loopers place ∙ ap (option_map (λ (q : PlanParts). q.name)) there;
        known = subst (λ (q : PlanParts). IsTrue (knows_loopers (looper_names (app_text a)) q.rows)) t.then_is (known_at place t.value t.is);
      }

  is_whole : IsWholeApp (app_text a)
  is_whole =
      record {
        path_is = app_is.path_is;
        signature_is = app_is.signature_is;
        some_looper = omega (arith, filled, length-loopers);
        few_loopers = omega (arith, app_is.few, length-loopers);
        names_are_words = subst (λ (ns : List (List ℕ)). All (λ (name : List ℕ). IsTrue (is_word name)) ns) (sym (names-are a.loopers)) (All-map (λ (name : List ℕ). IsTrue (is_word name)) name_of a.loopers app_is.words);
        names_differ = differ;
        plans_are = plans_are;
        words_are =
            All-map (λ (p : PlanParts). IsTrue (list_all row_names p.rows)) plan_parts a.loopers
            (All-weaker LooperNamesApps (λ (l : LooperData). IsTrue (list_all row_names (plan_parts l).rows)) looper_is a.loopers (all_there AppNamesApps s.apps i a at h.named));
        own_capacity = own_large a.loopers app_is.own;
        loopers_are_there =
            All-map (λ (p : PlanParts). IsTrue (knows_loopers (looper_names (app_text a)) p.rows)) plan_parts a.loopers
            (λ j d lt. known_at j (get_or a.loopers j d) (slice_get-get_or a.loopers j d lt));
        places_fit = fits_at;
      }

-- ---- all of them
paths_differ : (apps : List AppData) → Differ path_of apps → AllPairs (λ (x y : AppText). x.path ≢ y.path) (described apps)
paths_differ apps h i j d lt within e =
    let one : i < length (described apps) = omega (arith, lt, within) in
    let x = mapped (slice_get apps i) app_text (get_or (described apps) i d) (sym (slice_get-map app_text apps i) ∙ slice_get-get_or (described apps) i d one) in
    let y = mapped (slice_get apps j) app_text (get_or (described apps) j d) (sym (slice_get-map app_text apps j) ∙ slice_get-get_or (described apps) j d within) in
    h i j x.value y.value lt x.is y.is (ap (λ (t : AppText). t.path) x.then_is ∙ e ∙ ap (λ (t : AppText). t.path) (sym y.then_is))

each_whole : (s : State) → Held s → All (IsGood s.apps) s.names → AreWhole s.apps → ((i : ℕ) (a : AppData) → slice_get s.apps i ≡ Some a → 1 ≤ length a.loopers) → All IsWholeApp (described s.apps)
each_whole s h good wholes filled =
    All-map IsWholeApp app_text s.apps
    (λ i d lt. let at = slice_get-get_or s.apps i d lt in is_whole s h good wholes i (get_or s.apps i d) at (filled i (get_or s.apps i d) at))

heads_are : (apps : List AppText) → length apps ≤ 16 → All IsWholeApp apps → IsHeads (heads_of apps)
heads_are apps few each =
    record {
      limit = omega (arith, few, length-map apps head_of);
      loopers = All-map (λ (head : AppHead). (1 ≤ head.loopers) × (head.loopers ≤ 8)) head_of apps (λ i d lt. let a = each i d lt in (a.some_looper, a.few_loopers));
    }

whole : (s : State) → Held s → All (IsGood s.apps) s.names → AreWhole s.apps → ((i : ℕ) (a : AppData) → slice_get s.apps i ≡ Some a → 1 ≤ length a.loopers) → AreWholeApps (described s.apps)
whole s h good wholes filled =
    let few : length (described s.apps) ≤ 16 = omega (arith, h.are.few, length-map s.apps app_text) in
    let each = each_whole s h good wholes filled in
    record {
      limit = few;
      paths_differ = paths_differ s.apps h.are.differ;
      each = each;
      asks_go_on = asks_go_on s.apps s.names good h.noted;
      heads = heads_are (described s.apps) few each;
    }

pub descriptions_are_whole : DescriptionsAreWhole
descriptions_are_whole lines apps d =
    let h = follow_held lines nothing_read d.state nothing_held d.lines_are in
    let wholes = are_whole lines d.state (describes_passed lines apps d) (describes_good lines apps d) in
    subst AreWholeApps (sym d.apps_are) (whole d.state h d.names_are wholes (complete_filled d.state.apps h.are d.complete))
