-- Each entry that a desk's machine allows has plain words or a plain answer, and leaves the reactions as they are.
use Rattle.std.proofs.Common.{ℕ, ◌+◌, ◌≤◌, Bool, true, false, cond, List, [], ◌∷◌, length, All, Option, None, Some, is_some, sym, subst, arith}
use Rattle.std.specs.Prelude.{IsTrue}
use Rattle.std.specs.List.{AllByRecursion, list_all}
use Rattle.std.proofs.lemmas.List.Elements.{All-from_recursion, recursion_from_All}
use Rattle.ak_base.specs.declared.error.KitError.{KitError}
use Rattle.ak_base.specs.declared.error.KitError.TheVariants as error
use Rattle.ak_flatten.specs.Item.{ItemData}
use Rattle.ak_message.specs.Message.{MessageData}
use Rattle.ak_route.specs.declared.outcome.Route.{Route}
use Rattle.ak_route.specs.declared.outcome.Route.TheVariants as route
use Rattle.ak_route.specs.declared.outcome.Taker.{Taker}
use Rattle.ak_route.specs.declared.outcome.Taker.TheVariants as taker
use Rattle.ak_action.specs.declared.answer.Answer.{Answer}
use Rattle.ak_action.specs.declared.answer.AnswerWord.{AnswerWord}
use Rattle.ak_action.specs.declared.answer.AnswerWord.TheVariants as word
use Rattle.ak_action.specs.declared.answer.Want.TheVariants as want
use Rattle.ak_action.specs.declared.plan.PlanParts.{PlanParts}
use Rattle.ak_action.specs.declared.state.DeskState.{DeskState}
use Rattle.ak_action.specs.Interp.{actions_of}
use Rattle.ak_action.specs.Laws.{IsSpelled, TwoWordsAnAction}
use Rattle.ak_action.specs.Limits.{action_limit}
use Rattle.ak_action.specs.Opening.{Opens}
use Rattle.ak_desk.specs.declared.entry.DeskEvent.{DeskEvent}
use Rattle.ak_desk.specs.declared.entry.DeskEvent.TheVariants as event
use Rattle.ak_desk.specs.declared.entry.EntryRoute.{EntryRoute}
use Rattle.ak_desk.specs.declared.entry.EntryRoute.TheVariants as went
use Rattle.ak_desk.specs.BuiltIns.{built_in_quits, built_in_reply}
use Rattle.ak_desk.specs.Dispatch.{Dispatch, by_route, dispatch_of, forwarded, replied, starved, taken}
use Rattle.ak_desk.specs.Entry.{EntryData}
use Rattle.ak_desk.specs.Machine.{DispatchStep, Dispatches, EventStep, Replays, counted}
use Rattle.ak_desk.specs.Place.{routed_of}
use Rattle.ak_desk.specs.Properties.{property_replied}
use Rattle.ak_desk.specs.Shared.{LeadsOn}
use Rattle.ak_journal.specs.Plain.{ArePlainAnswers, IsPlainEditAnswer}
use Rattle.ak_describe.specs.Whole.{row_names}
use Rattle.ak_plain.proofs.Steps.{IsTold}
use Rattle.ak_plain.proofs.Acting.{IsPlainWant, reaction_holds}
use Rattle.ak_plain.proofs.Rows.{IsNamedDesk, actions_named, edit_answer_plain, edit_named, opened_named, replied_named}

-- ---- one message
-- it wants words that are looked up, its words are plain, and the reactions stay as they are
pub record IsPlainDispatch (p : Dispatch) : Type 0 where
  pub wants : AllByRecursion IsPlainWant p.wants
  pub state : IsNamedDesk p.state
  pub words : ArePlainAnswers p.words

none_plain : ArePlainAnswers []
none_plain = record { each = tt; few = omega arith; few_replies = omega arith }

error_plain : (e : KitError) → ArePlainAnswers (word.Error e ∷ [])
error_plain e = record { each = (tt, tt); few = omega arith; few_replies = omega arith }

starved_plain : (s : DeskState) (quit : Bool) (answers : List Answer) → IsNamedDesk s → IsPlainDispatch (starved s quit answers)
starved_plain s quit answers named = record { wants = tt; state = named; words = error_plain error.NoMemory }

replied_plain : (s : DeskState) (reply : MessageData) (quit : Bool) (answers : List Answer) → IsNamedDesk s → IsPlainDispatch (replied s reply quit answers)
replied_plain s reply quit answers named = record { wants = tt; state = named; words = none_plain }

either_plain : (b : Bool) (p q : Dispatch) → IsPlainDispatch p → IsPlainDispatch q → IsPlainDispatch (cond b p q)
either_plain true p q h k = h
either_plain false p q h k = k

forwarded_plain : (s : DeskState) (looper popped : ℕ) (answers : List Answer) → IsNamedDesk s → IsPlainDispatch (forwarded s (want.Forward looper popped) answers)
forwarded_plain s looper popped [] named = record { wants = (tt, tt); state = named; words = none_plain }
forwarded_plain s looper popped (a ∷ rest) named = record { wants = (tt, tt); state = named; words = error_plain _ }

module _ (two : TwoWordsAnAction) where
  taken_plain : (s : DeskState) (token : ℕ) (m : MessageData) (t : Taker) (answers : List Answer) (memory : Option ℕ) → IsNamedDesk s → AllByRecursion IsSpelled answers → IsPlainDispatch (taken s token m t answers memory)
  taken_plain s token m (taker.Property place) answers memory named spelled =
      let r = property_replied s token place m in
      either_plain (is_some memory) (starved s false answers) (replied r.state r.reply false answers) (starved_plain s false answers named)
      (replied_plain r.state r.reply false answers (replied_named s token place m named))
  taken_plain s token m (taker.Reaction place) answers memory named spelled =
      let h = reaction_holds s token m place answers memory named spelled in
      let few : length (actions_of s token place) ≤ action_limit = (actions_named s token place named).1 in
      let words = two s token m (actions_of s token place) answers memory in
      let room = h.replies in
      record { wants = h.wants; state = h.state; words = record { each = h.words; few = omega (arith, few, words); few_replies = omega (arith, room) } }
  taken_plain s token m taker.BuiltIn answers memory named spelled =
      either_plain (is_some memory) (starved s (built_in_quits s m) answers) (replied s (built_in_reply s token m) (built_in_quits s m) answers)
      (starved_plain s (built_in_quits s m) answers named) (replied_plain s (built_in_reply s token m) (built_in_quits s m) answers named)

  by_route_plain : (s : DeskState) (m : MessageData) (r : Route) (answers : List Answer) (memory : Option ℕ) → IsNamedDesk s → AllByRecursion IsSpelled answers → IsPlainDispatch (by_route s m r answers memory)
  by_route_plain s m (route.Deliver token t) answers memory named spelled = taken_plain s token m t answers memory named spelled
  by_route_plain s m route.Skipped answers memory named spelled = replied_plain s _ false answers named
  by_route_plain s m route.Dropped answers memory named spelled = replied_plain s _ false answers named
  by_route_plain s m route.NotUnderstood answers memory named spelled = replied_plain s _ false answers named
  by_route_plain s m (route.Forward looper) answers memory named spelled = forwarded_plain s (s.first + looper) m.popped answers named

  pub dispatch_plain : (s : DeskState) (item : ItemData) (words : List AnswerWord) (quit : Bool) (t : DeskState) → IsNamedDesk s → (d : Dispatches s item words quit t) → IsPlainDispatch (dispatch_of s item d.answers d.memory)
  dispatch_plain s item words quit t named d = by_route_plain s (routed_of s item).message (routed_of s item).route d.answers d.memory named (recursion_from_All IsSpelled d.answers d.spelled)

  -- ---- one entry
  dispatches_plain : (s : DeskState) (item : ItemData) (words : List AnswerWord) (quit : Bool) (t : DeskState) → IsNamedDesk s → Dispatches s item words quit t → ArePlainAnswers words × IsNamedDesk t
  dispatches_plain s item words quit t named d =
      let p = dispatch_plain s item words quit t named d in
      (subst ArePlainAnswers d.words_are p.words, subst IsNamedDesk d.state_is p.state)

  dispatch_step_plain : (s : DeskState) (r : EntryRoute) (o : Option ItemData) (words : List AnswerWord) (quit : Bool) (t : DeskState) → IsNamedDesk s → DispatchStep s r o words quit t → ArePlainAnswers words × IsNamedDesk t
  dispatch_step_plain s went.NoMemory None words quit t named step = (subst ArePlainAnswers (sym step.0) none_plain, subst IsNamedDesk (sym step.1.1) named)
  dispatch_step_plain s (went.To token) (Some item) words quit t named step = dispatches_plain s item words quit t named step.1
  dispatch_step_plain s went.Skipped (Some item) words quit t named step = dispatches_plain s item words quit t named step.1
  dispatch_step_plain s went.Dropped (Some item) words quit t named step = dispatches_plain s item words quit t named step.1
  dispatch_step_plain s went.NotUnderstood (Some item) words quit t named step = dispatches_plain s item words quit t named step.1
  dispatch_step_plain s (went.Forward looper) (Some item) words quit t named step = dispatches_plain s item words quit t named step.1
  dispatch_step_plain s r o words quit t named step = absurd step

  step_plain : (n : ℕ) (s : DeskState) (e : DeskEvent) (o : Option ItemData) (t : DeskState) → IsNamedDesk s → EventStep n s e o t → IsTold e × IsNamedDesk t
  step_plain n s (event.Dispatched position r words quit) o t named step = dispatch_step_plain s r o words quit t named step.1
  step_plain n s (event.Edited e answer) o t named step =
      (subst IsPlainEditAnswer step.1 (edit_answer_plain s.handlers e), subst IsNamedDesk (sym step.2) (edit_named s.handlers e named))

  -- ---- entry after entry
  abbrev IsToldEntry : EntryData → Type 0
  IsToldEntry entry = IsTold entry.plain.event

  pub replays_plain : (looper n : ℕ) (s : DeskState) (entries : List EntryData) (t : DeskState) → IsNamedDesk s → Replays looper n s entries t → AllByRecursion IsToldEntry entries × IsNamedDesk t
  replays_plain looper n s [] t named same = (tt, subst IsNamedDesk (sym same) named)
  replays_plain looper n s (entry ∷ entries) t named (u, (step, rest)) =
      let here = step_plain n s entry.plain.event entry.item u named step.event in
      let later = replays_plain looper (counted n entry.plain.event) u entries t here.1 rest in
      ((here.0, later.0), later.1)

  -- of a desk that was opened as a plan whose actions name words that are looked up
  pub desk_tells : (plan : PlanParts) (looper team first : ℕ) (names : List (List ℕ)) (opening : DeskState) (entries : List EntryData) → Opens plan looper team first names opening → IsTrue (list_all row_names plan.rows) → LeadsOn opening entries → All IsToldEntry entries
  desk_tells plan looper team first names opening entries opens named leads =
      let start = opened_named plan looper team first names opening opens named in
      All-from_recursion IsToldEntry entries (replays_plain opening.looper 0 opening entries leads.state start leads.history.replays).0
