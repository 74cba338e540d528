-- The application whose loopers count is whole.
use Rattle.std.proofs.Common.{◌≡◌, ◌≢◌, ℕ, zero, suc, ◌+◌, ◌-◌, ◌≤◌, true, false, List, [], ◌∷◌, All, AllPairs, Some, IsTrue, option_map, slice_get, refl, ap, subst, sym, ◌∙◌, arith}
use Rattle.std.specs.Prelude.{codes, pos}
use Rattle.std.specs.List.{list_all}
use Rattle.std.specs.Str.{bytes_eq}
use Rattle.std.proofs.lemmas.List.Elements.{All-nil, All-cons}
use Rattle.std.proofs.lemmas.List.Kept.{AllPairs-cons}
use Rattle.std.proofs.lemmas.Option.{slice_get-map}
use Rattle.ak_base.specs.Limits.{looper_limit}
use Rattle.ak_base.specs.Word.{is_word}
use Rattle.ak_action.specs.declared.action.Action.{Action}
use Rattle.ak_action.specs.declared.action.Action.TheVariants as action
use Rattle.ak_action.specs.declared.action.Reaction.{Reaction}
use Rattle.ak_action.specs.declared.number.Number.TheVariants as number
use Rattle.ak_action.specs.declared.plan.PlanParts.{PlanParts}
use Rattle.ak_action.specs.declared.plan.PlanRow.{PlanRow}
use Rattle.ak_action.specs.Opening.{FitsPlace, knows_loopers}
use Rattle.ak_action.specs.Plan.{IsPlan}
use Rattle.ak_roster.specs.declared.head.AppHead.{AppHead}
use Rattle.ak_describe.specs.declared.described.AppText.{AppText}
use Rattle.ak_describe.specs.Whole.{ActionGoesOn, AreWholeApps, IsWholeApp, ReactionGoesOn, RowGoesOn, head_of, heads_of, looper_names, row_names}
use Rattle.ak_describe.proofs.Surface.{all_there}
use Rattle.ak_script.specs.Generated.{app, bare_row, counting_row, counts_up, looper, loopers, no_error}

-- ---- lists of one to four
module _ {X : Type 0} (P : X → Type 0) where
  all_1 : (a : X) → P a → All P (a ∷ [])
  all_1 a x = All-cons P a [] x (All-nil P)

  all_2 : (a b : X) → P a → P b → All P (a ∷ b ∷ [])
  all_2 a b x y = All-cons P a (b ∷ []) x (all_1 b y)

  all_3 : (a b c : X) → P a → P b → P c → All P (a ∷ b ∷ c ∷ [])
  all_3 a b c x y z = All-cons P a (b ∷ c ∷ []) x (all_2 b c y z)

  all_4 : (a b c d : X) → P a → P b → P c → P d → All P (a ∷ b ∷ c ∷ d ∷ [])
  all_4 a b c d x y z w = All-cons P a (b ∷ c ∷ d ∷ []) x (all_3 b c d y z w)

no_pair : {X : Type 0} (R : X → X → Type 0) → AllPairs R []
no_pair R i j d lt within = absurd (omega (arith, within))

alone : {X : Type 0} (R : X → X → Type 0) (a : X) → AllPairs R (a ∷ [])
alone R a = AllPairs-cons R a [] (All-nil (R a)) (no_pair R)

-- ---- the loopers
abbrev own : PlanParts
own = looper 2 (bare_row (codes "work"))

abbrev first : PlanParts
first = looper 100 (counting_row (codes "w1"))

abbrev second : PlanParts
second = looper 100 (counting_row (codes "w2"))

abbrev third : PlanParts
third = looper 100 (counting_row (codes "w3"))

each_looper : (P : PlanParts → Type 0) → P own → P first → P second → P third → All P loopers
each_looper P x y z w = all_4 P own first second third x y z w

own_plan : IsPlan own
own_plan = refl

first_plan : IsPlan first
first_plan = refl

second_plan : IsPlan second
second_plan = refl

third_plan : IsPlan third
third_plan = refl

-- ---- names
abbrev names : List (List ℕ)
names = codes "work" ∷ codes "w1" ∷ codes "w2" ∷ codes "w3" ∷ []

differ : (a b : List ℕ) → bytes_eq a a ≡ true → bytes_eq a b ≡ false → a ≢ b
differ a b same other e = let both : true ≡ false = sym same ∙ ap (bytes_eq a) e ∙ other in absurd cc

abbrev Differ : List ℕ → List ℕ → Type 0
Differ a b = a ≢ b

names_differ : AllPairs Differ names
names_differ =
    AllPairs-cons Differ (codes "work") (codes "w1" ∷ codes "w2" ∷ codes "w3" ∷ [])
    (all_3 (Differ (codes "work")) (codes "w1") (codes "w2") (codes "w3") (differ (codes "work") (codes "w1") refl refl) (differ (codes "work") (codes "w2") refl refl) (differ (codes "work") (codes "w3") refl refl))
    (AllPairs-cons Differ (codes "w1") (codes "w2" ∷ codes "w3" ∷ [])
    (all_2 (Differ (codes "w1")) (codes "w2") (codes "w3") (differ (codes "w1") (codes "w2") refl refl) (differ (codes "w1") (codes "w3") refl refl))
    (AllPairs-cons Differ (codes "w2") (codes "w3" ∷ [])
    (all_1 (Differ (codes "w2")) (codes "w3") (differ (codes "w2") (codes "w3") refl refl))
    (alone Differ (codes "w3"))))

words : All (λ (name : List ℕ). IsTrue (is_word name)) names
words = all_4 (λ (name : List ℕ). IsTrue (is_word name)) (codes "work") (codes "w1") (codes "w2") (codes "w3") refl refl refl refl

-- ---- no looper asks, or names another
known : All (λ (p : PlanParts). IsTrue (knows_loopers names p.rows)) loopers
known = each_looper (λ (p : PlanParts). IsTrue (knows_loopers names p.rows)) refl refl refl refl

module _ (heads : List AppHead) (at place : ℕ) (all : List (List ℕ)) where
  abbrev Goes : PlanRow → Type 0
  Goes row = RowGoesOn heads at all place row

  bare_goes : (name : List ℕ) → All Goes (bare_row name ∷ [])
  bare_goes name = all_1 Goes (bare_row name) (All-nil (λ (r : Reaction). ReactionGoesOn heads at all place r))

  counts_goes : ReactionGoesOn heads at all place counts_up
  counts_goes =
      all_2 (λ (a : Action). ActionGoesOn heads at all place a) (action.Add (codes "Count") (number.Int32 (pos 1))) (action.Reply no_error) (tt {0}) (tt {0})

  counting_goes : (name : List ℕ) → All Goes (counting_row name ∷ [])
  counting_goes name = all_1 Goes (counting_row name) (all_1 (λ (r : Reaction). ReactionGoesOn heads at all place r) counts_up counts_goes)

  go_on : All (λ (p : PlanParts). All Goes p.rows) loopers
  go_on =
      each_looper (λ (p : PlanParts). All Goes p.rows) (bare_goes (codes "work")) (counting_goes (codes "w1")) (counting_goes (codes "w2")) (counting_goes (codes "w3"))

asks_go_on : (at place : ℕ) (a : AppText) (p : PlanParts) → slice_get (app ∷ []) at ≡ Some a → slice_get a.loopers place ≡ Some p
    → All (λ (row : PlanRow). RowGoesOn (heads_of (app ∷ [])) at (looper_names a) place row) p.rows
asks_go_on zero place a p is there =
    let same : a ≡ app = cc in
    all_there (λ (q : PlanParts). All (Goes (heads_of (app ∷ [])) 0 place (looper_names a)) q.rows) loopers place p
    (subst (λ (b : AppText). slice_get b.loopers place ≡ Some p) same there)
    (go_on (heads_of (app ∷ [])) 0 place (looper_names a))
asks_go_on (suc at) place a p is there = absurd cc

-- ---- the whole
fits_at : (from place : ℕ) (p : PlanParts) → from + 4 ≤ looper_limit → slice_get loopers place ≡ Some p → FitsPlace p (from + place) from names
fits_at from place p room there =
    let back : (from + place) - from ≡ place = omega arith in
    let named : slice_get names place ≡ Some p.name = slice_get-map (λ (q : PlanParts). q.name) loopers place ∙ ap (option_map (λ (q : PlanParts). q.name)) there in
    record {
      some = omega arith;
      differ = names_differ;
      numbers = room;
      at = omega arith;
      named = ap (slice_get names) back ∙ named;
      known = all_there (λ (q : PlanParts). IsTrue (knows_loopers names q.rows)) loopers place p there known;
    }

app_is : IsWholeApp app
app_is =
    record {
      path_is = refl;
      signature_is = refl;
      some_looper = omega arith;
      few_loopers = omega arith;
      names_are_words = words;
      names_differ = names_differ;
      plans_are = each_looper IsPlan own_plan first_plan second_plan third_plan;
      words_are = each_looper (λ (p : PlanParts). IsTrue (list_all row_names p.rows)) refl refl refl refl;
      own_capacity = omega arith;
      loopers_are_there = known;
      places_fit = fits_at;
    }

pub whole : AreWholeApps (app ∷ [])
whole =
    record {
      limit = omega arith;
      paths_differ = alone (λ (x y : AppText). x.path ≢ y.path) app;
      each = all_1 IsWholeApp app app_is;
      asks_go_on = asks_go_on;
      heads =
          record {
            limit = omega arith;
            loopers = all_1 (λ (head : AppHead). (1 ≤ head.loopers) × (head.loopers ≤ 8)) (head_of app) (omega arith, omega arith);
          };
    }
