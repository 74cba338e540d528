-- Actions carried out one after another, from a place on.
use Rattle.std.proofs.Common.{◌≡◌, ℕ, ◌+◌, ◌<◌, ◌≤◌, Bool, true, false, eqb, cond, List, [], ◌∷◌, length, get_or, drop, is_some, Option, None, Some, IfSome, Result, Ok, Err, OnErr, slice_get, refl, ap, sym, subst, ◌∙◌, arith}
use Rattle.std.proofs.lemmas.Bool.{eq-eqb, ne_eqb}
use Rattle.std.proofs.lemmas.List.{drop_more, drop_all}
use Rattle.std.proofs.lemmas.Option.{slice_get-get_or}
use Rattle.ak_base.specs.declared.error.KitError.TheVariants as error
use Rattle.ak_message.specs.Message.{ValueData}
use Rattle.ak_action.specs.declared.action.Action.{Action}
use Rattle.ak_action.specs.declared.action.Action.TheVariants as action
use Rattle.ak_action.specs.declared.answer.Want.{Want}
use Rattle.ak_action.specs.declared.answer.Want.TheVariants as want
use Rattle.ak_action.specs.declared.interp.Stage.TheVariants as stage
use Rattle.ak_action.specs.declared.state.DeskState.{DeskState}
use Rattle.ak_action.specs.Acts.{is_at, put}
use Rattle.ak_action.specs.Doing.{Doing, says, replies, puts, sends, finds, stops, quits, doing_of, row_of}
use Rattle.ak_action.specs.Interp.{InterpData, Nexted, nexted, failed, Carried, goes, wants, carried, then_go_on, go_on, actions_of, out_of_memory, past, with_stage, MayFail}
use Rattle.ak_action.specs.Properties.{with_first_at}
use Rattle.ak_action.specs.Steps.{carried_as, stepped}
use Rattle.ak_action.proofs.Lending.{actions-kept}

-- ---- what stays where the next action is ready
pub record IsReadyAfter (i : InterpData) (s : DeskState) (j : InterpData) (t : DeskState) : Type 0 where
  pub ready : j.stage ≡ stage.Ready
  pub place : j.place ≡ i.place + 1
  pub token : j.token ≡ i.token
  pub reaction : j.reaction ≡ i.reaction
  pub actions : actions_of t i.token i.reaction ≡ actions_of s i.token i.reaction

after_goes : (i k j : InterpData) (s r t : DeskState) → goes k r ≡ goes j t → IsReadyAfter i s k r → IsReadyAfter i s j t
after_goes i k j s r t e h =
    let same : k ≡ j = cc in
    let state : r ≡ t = cc in
    subst (λ (x : InterpData). IsReadyAfter i s x t) same (subst (λ (x : DeskState). IsReadyAfter i s k x) state h)

ready-carried : (d : Doing) (i j : InterpData) (s t : DeskState) → carried d i s ≡ goes j t → IsReadyAfter i s j t
ready-carried (says e) i j s t h =
    after_goes i _ j s _ t h (record { ready = refl; place = refl; token = refl; reaction = refl; actions = refl })
ready-carried (replies m) i j s t h =
    after_goes i _ j s _ t h (record { ready = refl; place = refl; token = refl; reaction = refl; actions = refl })
ready-carried (puts place value) i j s t h =
    after_goes i _ j s _ t h (record { ready = refl; place = refl; token = refl; reaction = refl; actions = actions-kept s i.token (with_first_at (row_of s i.token).elements place value) i.reaction })
ready-carried (sends to how m) i j s t h = absurd cc
ready-carried (finds w how m) i j s t h = absurd cc
ready-carried stops i j s t h = absurd cc
ready-carried quits i j s t h =
    after_goes i _ j s _ t h (record { ready = refl; place = refl; token = refl; reaction = refl; actions = refl })

-- ---- the action at a place
there : (acts : List Action) (place : ℕ) → place < length acts → (a : Action) × (slice_get acts place ≡ Some a) × (drop place acts ≡ a ∷ drop (place + 1) acts)
there acts place lt = (get_or acts place action.Stop, slice_get-get_or acts place action.Stop lt, drop_more acts place action.Stop lt)

-- none is named, or one that is not before this place
abbrev pub IsFrom : Option ℕ → ℕ → Type 0
IsFrom memory place = IfSome memory (λ at. place ≤ at)

not_here : (memory : Option ℕ) (place : ℕ) → IsFrom memory (place + 1) → is_at memory place ≡ false
not_here None place h = refl
not_here (Some at) place h = ne_eqb at place (λ e. omega (arith, e, h))

from_earlier : (memory : Option ℕ) (place : ℕ) → IsFrom memory (place + 1) → IsFrom memory place
from_earlier None place h = tt
from_earlier (Some at) place h = omega (arith, h)

by_action : (memory : Option ℕ) (a : Action) (rest : List Action) (i : InterpData) (s : DeskState) (c : Carried) → is_at memory i.place ≡ false → stepped (Some a) i s ≡ c → go_on memory (a ∷ rest) i s ≡ then_go_on (go_on memory rest) c
by_action memory a rest i s c later e =
    ap (λ (b : Bool). cond b (failed (out_of_memory i) s) (then_go_on (go_on memory rest) (carried (doing_of s i.token i.message (is_some i.reply) a) i s))) later ∙ ap (then_go_on (go_on memory rest)) e

-- a value is put, and the next action is ready
pub puts-is : (d : Doing) (i j : InterpData) (s t : DeskState) (token place : ℕ) (v : ValueData) → d ≡ puts place v → token ≡ i.token → j ≡ past error.Ok i → t ≡ put s token place v → carried d i s ≡ goes j t
puts-is d i j s t token place v is same e done =
    ap (λ (x : Doing). carried x i s) is ∙ ap (λ (n : ℕ). goes (past error.Ok i) (put s n place v)) (sym same) ∙ ap (λ (x : DeskState). goes (past error.Ok i) x) (sym done) ∙ ap (λ (x : InterpData). goes x t) (sym e)

-- the action that is there, and what it does
pub step-is : (i : InterpData) (s : DeskState) (o : Option Action) (a : Action) (d : Doing) (c : Carried) → Some a ≡ o → d ≡ doing_of s i.token i.message (is_some i.reply) a → carried d i s ≡ c → stepped o i s ≡ c
step-is i s o a d c at is e = ap (λ (p : Option Action). stepped p i s) (sym at) ∙ ap (λ (x : Doing). carried x i s) (sym is) ∙ e

module _ (acts : List Action) (i0 : InterpData) (s0 : DeskState) where
  -- the actions before the place are carried out
  pub record IsGoingOn (place : ℕ) (i : InterpData) (s : DeskState) : Type 0 where
    pub ready : i.stage ≡ stage.Ready
    pub at_place : i.place ≡ place
    pub actions : actions_of s i.token i.reaction ≡ acts
    pub on : (memory : Option ℕ) → IsFrom memory place → go_on memory (drop i0.place acts) i0 s0 ≡ go_on memory (drop place acts) i s

  pub begins : i0.stage ≡ stage.Ready → actions_of s0 i0.token i0.reaction ≡ acts → IsGoingOn i0.place i0 s0
  begins ready e = record { ready = ready; at_place = refl; actions = e; on = λ memory h. refl }

  step_of : (place : ℕ) (i : InterpData) (s : DeskState) (h : IsGoingOn place i s) → (a : Action) (c : Carried) → slice_get acts place ≡ Some a → stepped (slice_get (actions_of s i.token i.reaction) i.place) i s ≡ c → stepped (Some a) i s ≡ c
  step_of place i s h a c at e =
      let same : slice_get (actions_of s i.token i.reaction) i.place ≡ Some a = ap (λ (list : List Action). slice_get list i.place) h.actions ∙ ap (slice_get acts) h.at_place ∙ at in
      subst (λ (o : Option Action). stepped o i s ≡ c) same e

  on_from : (place : ℕ) (i : InterpData) (s : DeskState) (h : IsGoingOn place i s) → (memory : Option ℕ) (a : Action) (c : Carried) → IsFrom memory (place + 1) → drop place acts ≡ a ∷ drop (place + 1) acts → stepped (Some a) i s ≡ c → go_on memory (drop i0.place acts) i0 s0 ≡ then_go_on (go_on memory (drop (place + 1) acts)) c
  on_from place i s h memory a c later is e =
      let passed : is_at memory i.place ≡ false = ap (is_at memory) h.at_place ∙ not_here memory place later in
      h.on memory (from_earlier memory place later) ∙ ap (λ (list : List Action). go_on memory list i s) is ∙ by_action memory a (drop (place + 1) acts) i s c passed e

  pub goes_further : (place : ℕ) (i : InterpData) (s : DeskState) (h : IsGoingOn place i s) → (j : InterpData) (t : DeskState) → place < length acts → stepped (slice_get (actions_of s i.token i.reaction) i.place) i s ≡ goes j t → IsGoingOn (place + 1) j t
  goes_further place i s h j t lt e =
      let a = there acts place lt in
      let step = step_of place i s h a.0 (goes j t) a.1 e in
      let after : IsReadyAfter i s j t = ready-carried (doing_of s i.token i.message (is_some i.reply) a.0) i j s t step in
      record {
        ready = after.ready;
        at_place = omega (arith, after.place, h.at_place);
        actions = ap (λ (token : ℕ). actions_of t token j.reaction) after.token ∙ ap (actions_of t i.token) after.reaction ∙ after.actions ∙ h.actions;
        on = λ memory later. on_from place i s h memory a.0 (goes j t) later a.2 step;
      }

  pub wants_now : (place : ℕ) (i : InterpData) (s : DeskState) (h : IsGoingOn place i s) → (w : Want) (j : InterpData) (t : DeskState) → place < length acts → stepped (slice_get (actions_of s i.token i.reaction) i.place) i s ≡ wants w j t → go_on None (drop i0.place acts) i0 s0 ≡ nexted w j t
  wants_now place i s h w j t lt e =
      let a = there acts place lt in
      on_from place i s h None a.0 (wants w j t) tt a.2 (step_of place i s h a.0 (wants w j t) a.1 e)

  pub fails_here : (place : ℕ) (i : InterpData) (s : DeskState) (h : IsGoingOn place i s) → (j : InterpData) (t : DeskState) → place < length acts → j ≡ out_of_memory i → t ≡ s → go_on (Some j.place) (drop i0.place acts) i0 s0 ≡ failed j t
  fails_here place i s h j t lt e same =
      let a = there acts place lt in
      let where_it_is : j.place ≡ i.place = ap (λ (x : InterpData). x.place) e in
      let here : is_at (Some j.place) i.place ≡ true = eq-eqb j.place i.place where_it_is in
      let last : go_on (Some j.place) (a.0 ∷ drop (place + 1) acts) i s ≡ failed (out_of_memory i) s = rw here refl in
      let there_before : place ≤ j.place = omega (arith, where_it_is, h.at_place) in
      h.on (Some j.place) there_before ∙ ap (λ (list : List Action). go_on (Some j.place) list i s) a.2 ∙ last ∙ ap (λ (x : InterpData). failed x s) (sym e) ∙ ap (failed j) (sym same)

  pub fails_there : (place : ℕ) (i : InterpData) (s : DeskState) (h : IsGoingOn place i s) → (j : InterpData) → j ≡ out_of_memory i → MayFail (slice_get (actions_of s i.token i.reaction) i.place) → MayFail (slice_get acts j.place)
  fails_there place i s h j e fails =
      let where_it_is : j.place ≡ i.place = ap (λ (x : InterpData). x.place) e in
      let here : MayFail (slice_get acts i.place) = subst (λ (list : List Action). MayFail (slice_get list i.place)) h.actions fails in
      subst (λ (n : ℕ). MayFail (slice_get acts n)) (sym where_it_is) here

  pub ends_here : (place : ℕ) (i : InterpData) (s : DeskState) (h : IsGoingOn place i s) → (j : InterpData) → length acts ≤ place → j ≡ with_stage stage.Ended i → go_on None (drop i0.place acts) i0 s0 ≡ nexted want.Done j s
  ends_here place i s h j le e =
      h.on None tt ∙ ap (λ (list : List Action). go_on None list i s) (drop_all place acts le) ∙ ap (λ (x : InterpData). nexted want.Done x s) (sym e)

-- a fact of a result that is Err
pub OnErr-from : {A E P : Type 0} (r : Result A E) → P → OnErr r P
OnErr-from (Ok x) h = tt
OnErr-from (Err e) h = h

pub ruleset stepping = (step-is)
