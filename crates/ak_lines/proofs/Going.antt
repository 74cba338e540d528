-- A session goes on by some steps and then by others; a look-up gets no door.
use Rattle.std.proofs.Common.{◌≡◌, ◌⊎◌, ℕ, Bool, true, false, List, [], ◌++◌, ◌==◌, Option, refl, sym, ap, ◌∙◌, subst, append_assoc, append-nil, inl, inr}
use Rattle.std.specs.List.{list_any}
use Rattle.std.proofs.lemmas.List.Concat.{flat_map-append}
use Rattle.ak_base.specs.declared.app_word.AppWord.{AppWord}
use Rattle.ak_roster.specs.declared.entry.RosterEvent.{RosterEvent}
use Rattle.ak_roster.specs.declared.head.AppHead.{AppHead}
use Rattle.ak_roster.specs.declared.team.Running.{Running}
use Rattle.ak_diary.specs.Looper.{door_got, door_in, doors_got}
use Rattle.ak_diary.specs.Step.{Step}
use Rattle.ak_session.specs.declared.session.Session.{Session}
use Rattle.ak_session.specs.Doing.{FindsAt, LacksDoor, Opens, OpensFor, Through, has_door}
use Rattle.ak_session.specs.Stands.{GoesOn, Stands}

module _ (heads : List AppHead) (start : ℕ) (so_far : List Step) (s' : Session) where
  pub goes_as : (P Q : List Step → Type 0) → ((steps : List Step) → P steps → Q steps) → GoesOn heads start so_far P s' → GoesOn heads start so_far Q s'
  goes_as P Q more on = record { steps = on.steps; does = more on.steps on.does; stands = on.stands }

  pub goes_no_step : (P : List Step → Type 0) → P [] → Stands heads start so_far s' → GoesOn heads start so_far P s'
  goes_no_step P so stands = record { steps = []; does = so; stands = subst (λ (steps : List Step). Stands heads start steps s') (sym (append-nil so_far)) stands }

  pub goes_then : (P Q : List Step → Type 0) (R : List Step → List Step → Type 0) (middle : Session) → GoesOn heads start so_far P middle → ((now : List Step) → Stands heads start now middle → GoesOn heads start now (R now) s')
      → ((xs ys : List Step) → P xs → R (so_far ++ xs) ys → Q (xs ++ ys)) → GoesOn heads start so_far Q s'
  goes_then P Q R middle one two both =
      let on = two (so_far ++ one.steps) one.stands in
      record {
        steps = one.steps ++ on.steps;
        does = both one.steps on.steps one.does on.does;
        stands = subst (λ (steps : List Step). Stands heads start steps s') (append_assoc so_far one.steps on.steps) on.stands;
      }

-- ---- doors
-- a look-up gets none
find_gets_none : (heads : List AppHead) (word : AppWord) (running : Option Running) (place : ℕ) (found : List Step) → FindsAt heads word running place found → doors_got found ≡ []
find_gets_none heads word running place found finds = ap doors_got finds.is ∙ ap (λ (e : RosterEvent). door_in e ++ []) finds.event_is

pub behind_find : (heads : List AppHead) (word : AppWord) (running : Option Running) (place : ℕ) (so_far found : List Step) → FindsAt heads word running place found → doors_got (so_far ++ found) ≡ doors_got so_far
behind_find heads word running place so_far found finds =
    flat_map-append door_got so_far found ∙ ap (λ (l : List ℕ). doors_got so_far ++ l) (find_gets_none heads word running place found finds) ∙ append-nil (doors_got so_far)

module _ (a b : List Step) (same : doors_got a ≡ doors_got b) (looper : ℕ) where
  has_same : has_door a looper ≡ has_door b looper
  has_same = ap (λ (got : List ℕ). list_any (λ (n : ℕ). n == looper) got) same

  opens_for : (has : Bool) (steps : List Step) → OpensFor a has looper steps → OpensFor b has looper steps
  opens_for true steps opens = opens
  opens_for false steps opens = opens

  opens_same : (steps : List Step) → Opens a looper steps → Opens b looper steps
  opens_same steps opens = subst (λ (has : Bool). OpensFor b has looper steps) has_same (opens_for (has_door a looper) steps opens)

  pub through_same : (P : List Step → Type 0) (steps : List Step) → Through a looper P steps → Through b looper P steps
  through_same P steps t = record { door = t.door; opens = opens_same t.door t.opens; rest = t.rest; then_does = t.then_does; is = t.is }

  pub lacks_same : (steps : List Step) → LacksDoor a looper steps → LacksDoor b looper steps
  lacks_same steps l = record { without = sym has_same ∙ l.without; is = l.is }

-- behind no step, it has the door or lacks it
pub has_or_lacks : (so_far : List Step) (looper : ℕ) (P : List Step → Type 0) → P [] → LacksDoor so_far looper [] ⊎ Through so_far looper P []
has_or_lacks so_far looper P so = by_door (has_door so_far looper) refl
  where
    by_door : (has : Bool) → has_door so_far looper ≡ has → LacksDoor so_far looper [] ⊎ Through so_far looper P []
    by_door true is = inr (record { door = []; opens = subst (λ (has : Bool). OpensFor so_far has looper []) (sym is) refl; rest = []; then_does = so; is = refl })
    by_door false is = inl (record { without = is; is = refl })
