-- What a message comes to whose words do not tell that memory ran out is what it comes to with memory at every place.
use Rattle.std.proofs.Common.{◌≡◌, ℕ, ◌+◌, ◌-◌, ◌==◌, Bool, true, false, cond, List, [], ◌∷◌, ◌++◌, length, length-append, Option, None, Some, option_map, unwrap_or, slice_get, refl, sym, ap, ◌∙◌, subst, arith}
use Rattle.std.proofs.lemmas.Bool.{false≢true}
use Rattle.ak_base.specs.declared.error.KitError.TheVariants as error
use Rattle.ak_message.specs.Message.{MessageData}
use Rattle.ak_flatten.specs.Item.{ItemData}
use Rattle.ak_route.specs.declared.outcome.Route.{Route}
use Rattle.ak_route.specs.declared.outcome.Route.TheVariants as route
use Rattle.ak_route.specs.declared.outcome.Taker.TheVariants as taker
use Rattle.ak_action.specs.declared.action.Action.{Action}
use Rattle.ak_action.specs.declared.answer.Answer.{Answer}
use Rattle.ak_action.specs.declared.answer.AnswerWord.{AnswerWord}
use Rattle.ak_action.specs.declared.answer.AnswerWord.TheVariants as word
use Rattle.ak_action.specs.declared.state.DeskState.{DeskState}
use Rattle.ak_action.specs.Acts.{Acts, Course, act, acts_on, ended, goes_on, opened, out_of_memory, waits, while_going}
use Rattle.ak_action.specs.Interp.{actions_of}
use Rattle.ak_desk.specs.Answering.{AreAnswered}
use Rattle.ak_desk.specs.Dispatch.{Dispatch, by_reaction, by_route, dispatch_of, is_no_memory, ran_out}
use Rattle.ak_desk.specs.Machine.{Dispatches}
use Rattle.ak_desk.specs.Place.{routed_of}
use Rattle.ak_headline.specs.Headline.{DispatchesWithMemory}
use Rattle.ak_headline.proofs.Resting.{get_middle}

-- ---- the last word
last_tells : (words : List AnswerWord) → ran_out (words ++ word.Error error.NoMemory ∷ []) ≡ true
last_tells words =
    let at : length (words ++ word.Error error.NoMemory ∷ []) - 1 ≡ length words = omega (arith, length-append words (word.Error error.NoMemory ∷ [])) in
    ap (λ (k : ℕ). unwrap_or (option_map is_no_memory (slice_get (words ++ word.Error error.NoMemory ∷ []) k)) false) at
    ∙ ap (λ o. unwrap_or (option_map is_no_memory o) false) (get_middle words (word.Error error.NoMemory) [])

-- ---- a reaction's actions
module _ (token : ℕ) (m : MessageData) (at : ℕ) where
  abbrev On : ℕ → List Action → Acts → Acts
  On place actions p = acts_on token m (Some at) place actions p

  abbrev Off : ℕ → List Action → Acts → Acts
  Off place actions p = acts_on token m None place actions p

  -- where the actions behind come to the same
  by_course : (on off : Acts → Acts) (c : Course) (p : Acts) → (ran_out (on p).words ≡ false → on p ≡ off p) → ran_out (while_going on c p).words ≡ false → while_going on c p ≡ while_going off c p
  by_course on off goes_on p same none = same none
  by_course on off ended p same none = refl
  by_course on off waits p same none = refl

  by_place : (b : Bool) (p : Acts) (on off : Acts) → (ran_out on.words ≡ false → on ≡ off) → ran_out (cond b (out_of_memory p) on).words ≡ false → cond b (out_of_memory p) on ≡ off
  by_place true p on off same none = absurd (false≢true (sym none ∙ last_tells p.words))
  by_place false p on off same none = same none

  acts_same : (place : ℕ) (actions : List Action) (p : Acts) → ran_out (On place actions p).words ≡ false → On place actions p ≡ Off place actions p
  acts_same place [] p none = refl
  acts_same place (a ∷ rest) p none =
      by_place (at == place) p (while_going (On (place + 1) rest) (act token m a p).course (act token m a p)) (while_going (Off (place + 1) rest) (act token m a p).course (act token m a p))
      (by_course (On (place + 1) rest) (Off (place + 1) rest) (act token m a p).course (act token m a p) (acts_same (place + 1) rest (act token m a p))) none

-- ---- each route
module _ (s : DeskState) (m : MessageData) (answers : List Answer) (at : ℕ) where
  route_same : (r : Route) → ran_out (by_route s m r answers (Some at)).words ≡ false → by_route s m r answers (Some at) ≡ by_route s m r answers None
  route_same (route.Deliver token (taker.Property place)) none = absurd (false≢true (sym none))
  route_same (route.Deliver token (taker.Reaction place)) none = ap by_reaction (acts_same token m at 0 (actions_of s token place) (opened s answers) none)
  route_same (route.Deliver token taker.BuiltIn) none = absurd (false≢true (sym none))
  route_same route.Skipped none = refl
  route_same route.Dropped none = refl
  route_same route.NotUnderstood none = refl
  route_same (route.Forward looper) none = refl

dispatch_same : (s : DeskState) (item : ItemData) (answers : List Answer) (memory : Option ℕ) → ran_out (dispatch_of s item answers memory).words ≡ false → dispatch_of s item answers memory ≡ dispatch_of s item answers None
dispatch_same s item answers None none = refl
dispatch_same s item answers (Some at) none = route_same s (routed_of s item).message answers at (routed_of s item).route none

pub with_memory : (s : DeskState) (item : ItemData) (words : List AnswerWord) (quit : Bool) (t : DeskState) → Dispatches s item words quit t → ran_out words ≡ false → DispatchesWithMemory s item words quit t
with_memory s item words quit t d none =
    let same = dispatch_same s item d.answers d.memory (ap ran_out d.words_are ∙ none) in
    record {
      comes = record {
        answers = d.answers;
        memory = None;
        spelled = d.spelled;
        answered = subst (λ (k : Dispatch). AreAnswered k.wants d.answers) same d.answered;
        waits = ap (λ (k : Dispatch). k.waits) (sym same) ∙ d.waits;
        used = ap (λ (k : Dispatch). k.answers) (sym same) ∙ d.used;
        words_are = ap (λ (k : Dispatch). k.words) (sym same) ∙ d.words_are;
        quit_is = ap (λ (k : Dispatch). k.quit) (sym same) ∙ d.quit_is;
        state_is = ap (λ (k : Dispatch). k.state) (sym same) ∙ d.state_is;
      };
      memory = refl;
    }
