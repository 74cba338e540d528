-- A list of entries, and one more at its end.
use Rattle.std.proofs.Common.{◌≡◌, ℕ, ◌+◌, ◌<◌, Bool, true, false, ◌||◌, List, [], ◌∷◌, ◌++◌, All, Option, Some, refl, sym, ap, subst}
use Rattle.std.proofs.lemmas.List.Elements.{All-nil, All-push}
use Rattle.ak_flatten.specs.Item.{ItemData}
use Rattle.ak_action.specs.declared.answer.Answer.{Answer}
use Rattle.ak_action.specs.declared.answer.Want.{Want}
use Rattle.ak_action.specs.declared.state.DeskState.{DeskState}
use Rattle.ak_action.specs.declared.answer.Answer.TheVariants as answer
use Rattle.ak_action.specs.declared.doing.Sending.{Sending}
use Rattle.ak_action.specs.declared.doing.Sending.TheVariants as sending
use Rattle.ak_action.specs.declared.interp.Stage.{Stage}
use Rattle.ak_action.specs.declared.interp.Stage.TheVariants as stage
use Rattle.ak_action.specs.Interp.{AnswersFind, AnswersSend, AnswersStage}
use Rattle.ak_action.specs.Laws.{IsSpelled}
use Rattle.ak_route.specs.declared.outcome.Route.{Route}
use Rattle.ak_route.specs.declared.outcome.Route.TheVariants as route
use Rattle.ak_turn.proofs.Surface.{rise_push}
use Rattle.ak_desk.specs.declared.entry.DeskEvent.{DeskEvent}
use Rattle.ak_desk.specs.declared.entry.DeskEvent.TheVariants as event
use Rattle.ak_desk.specs.declared.entry.EntryRoute.{EntryRoute}
use Rattle.ak_desk.specs.declared.task.Task.{Task}
use Rattle.ak_desk.specs.declared.task.Task.TheVariants as task
use Rattle.ak_desk.specs.Answering.{AnswersForward, AreAnswered}
use Rattle.ak_desk.specs.Desk.{BegunData, stamp_in, stamp_number}
use Rattle.ak_desk.specs.DeskInside.{IsBegun, IsOver}
use Rattle.ak_desk.specs.Dispatch.{Came, Dispatch, dispatch_of, entry_route}
use Rattle.ak_desk.specs.Entry.{EntryData}
use Rattle.ak_desk.specs.Machine.{DeskStep, DispatchStep, Dispatches, EventStep, IsBy, IsHistory, Replays, Replies, counted, counted_all, dispatches, gave_up, gives_up, paired}
use Rattle.ak_desk.specs.Place.{routed_of}
use Rattle.ak_desk.specs.Task.{Comes, TakesAnswer}
use Rattle.ak_desk.specs.Task as the

-- ---- one entry more
pub counted_push : (n : ℕ) (entries : List EntryData) (entry : EntryData) → counted_all n (entries ++ entry ∷ []) ≡ counted (counted_all n entries) entry.plain.event
counted_push n [] entry = refl
counted_push n (l ∷ entries) entry = counted_push (counted n l.plain.event) entries entry

pub replays_push : (looper n : ℕ) (s : DeskState) (entries : List EntryData) (u : DeskState) (entry : EntryData) (t : DeskState) → Replays looper n s entries u → DeskStep looper (counted_all n entries) u entry t → Replays looper n s (entries ++ entry ∷ []) t
replays_push looper n s [] u entry t e step = (t, (subst (λ (x : DeskState). DeskStep looper n x entry t) e step, refl))
replays_push looper n s (l ∷ entries) u entry t (m, (first, rest)) step =
    (m, (first, replays_push looper (counted n l.plain.event) m entries u entry t rest step))

-- ---- the whole history
pub history_push : (opening : DeskState) (entries : List EntryData) (u : DeskState) (entry : EntryData) (t : DeskState) → IsHistory opening entries u → DeskStep opening.looper (dispatches entries) u entry t → stamp_in entries < entry.plain.stamp → IsHistory opening (entries ++ entry ∷ []) t
history_push opening entries u entry t h step lt =
    record {
      replays = replays_push opening.looper 0 opening entries u entry t h.replays step;
      stamps = rise_push stamp_number entries entry h.stamps lt;
    }

-- ---- what an entry is paired with
-- a message that is routed is the entry's
pub paired_routed : (s : DeskState) (r : Route) (item : ItemData) → paired (entry_route s r) item ≡ Some item
paired_routed s (route.Deliver token t) item = refl
paired_routed s route.Skipped item = refl
paired_routed s route.Dropped item = refl
paired_routed s route.NotUnderstood item = refl
paired_routed s (route.Forward looper) item = refl

-- ---- giving up
either : (b : Bool) (x : Bool) → b || x ≡ false → (b ≡ false) × (x ≡ false)
either true x e = absurd cc
either false x e = (refl, e)

pub gave_up_before : (entries : List EntryData) (entry : EntryData) → gave_up (entries ++ entry ∷ []) ≡ false → gave_up entries ≡ false
gave_up_before [] entry e = refl
gave_up_before (l ∷ entries) entry e =
    let parts = either (gives_up l.plain.event) (gave_up (entries ++ entry ∷ [])) e in
    rw parts.0 (gave_up_before entries entry parts.1)

pub gave_up_then : (entries : List EntryData) (entry : EntryData) → gives_up entry.plain.event ≡ true → gave_up (entries ++ entry ∷ []) ≡ true
gave_up_then [] entry e = rw e refl
gave_up_then (l ∷ entries) entry e = by_head (gives_up l.plain.event) (gave_up_then entries entry e)
  where
    by_head : (b : Bool) {x : Bool} → x ≡ true → b || x ≡ true
    by_head true h = refl
    by_head false h = h

-- ---- the replies that are heard
abbrev pub IsNoReply : Answer → Type 0
IsNoReply (answer.Reply _ _) = ⊥
IsNoReply _ = Unit {0}

pub find_is_none : (a : Answer) → AnswersFind a → IsNoReply a
find_is_none (answer.Reply flat m) h = absurd h
find_is_none _ h = tt

pub forward_is_none : (a : Answer) → AnswersForward a → IsNoReply a
forward_is_none (answer.Reply flat m) h = absurd h
forward_is_none _ h = tt

none_is_spelled : (a : Answer) → IsNoReply a → IsSpelled a
none_is_spelled (answer.Reply flat m) h = absurd h
none_is_spelled _ h = tt

spelled_by_stage : (at : Stage) (a : Answer) → AnswersStage at a → IsSpelled a
spelled_by_stage stage.Ready a h = absurd h
spelled_by_stage (stage.Finding how m) a h = none_is_spelled a (find_is_none a h)
spelled_by_stage (stage.Found looper how m) a h = absurd h
spelled_by_stage (stage.Sent how) a h = sent how a h
  where
    sent : (how : Sending) (a : Answer) → AnswersSend how a → IsSpelled a
    sent (sending.Post back) (answer.Reply flat m) h = absurd h
    sent (sending.Ask into) (answer.Reply flat m) h = h
    sent how _ h = tt
spelled_by_stage stage.Ended a h = absurd h

spelled_taken : (t : Task) (a : Answer) → TakesAnswer t a → IsSpelled a
spelled_taken (task.Reaction i) a h = spelled_by_stage i.stage a h
spelled_taken (task.Property token place m) a h = absurd h
spelled_taken (task.BuiltIn token m) a h = absurd h
spelled_taken (task.Forward looper popped spare) a h = absurd h
spelled_taken (task.Forwarding spare) a h = none_is_spelled a (forward_is_none a h)
spelled_taken (task.Done word reply quit) a h = absurd h

module _ {before : DeskState} {first : Task} where
  pub all_spelled : (asked : List Want) (heard : List Answer) (t : Task) (s : DeskState) → Comes before first asked heard t s → All IsSpelled heard
  all_spelled _ _ _ _ the.begun = All-nil IsSpelled
  all_spelled _ _ _ _ (the.wanted asked heard t s w u v c may asking e) = all_spelled asked heard t s c
  all_spelled _ _ _ _ (the.given asked heard t s a c takes) = All-push IsSpelled heard a (all_spelled asked heard t s c) (spelled_taken t a takes)

-- ---- what is begun ends
-- the dispatch that it was, with what was asked and heard, and its reply
pub record Dispatched (b : BegunData) (c : Came) (t : DeskState) : Type 0 where
  pub dispatch : Dispatches b.before b.item c.words c.quit t
  pub heard_are : dispatch.answers ≡ b.heard
  pub asked_are : (dispatch_of b.before b.item dispatch.answers dispatch.memory).wants ≡ b.asked
  pub told : (dispatch_of b.before b.item dispatch.answers dispatch.memory).reply ≡ c.reply
  pub replies : Replies b.before b.item c.words c.reply

-- as its event tells it
abbrev pub came_event : BegunData → Came → DeskEvent
came_event b c = event.Dispatched b.position b.route c.words c.quit

module _ (opening : DeskState) (entries : List EntryData) (b : BegunData) (t : Task) (s : DeskState) (c : Came) (h : IsBegun opening entries b t s) (o : IsOver b t s c) where
  abbrev dispatches_so : Dispatches b.before b.item c.words c.quit s
  dispatches_so = record {
    answers = b.heard;
    memory = o.memory;
    spelled = o.spelled;
    answered = subst (λ (ws : List Want). AreAnswered ws b.heard) (sym (ap (λ (d : Dispatch). d.wants) o.is)) o.answered;
    waits = ap (λ (d : Dispatch). d.waits) o.is;
    used = ap (λ (d : Dispatch). d.answers) o.is;
    words_are = ap (λ (d : Dispatch). d.words) o.is;
    quit_is = ap (λ (d : Dispatch). d.quit) o.is;
    state_is = ap (λ (d : Dispatch). d.state) o.is;
  }

  pub dispatched_so : Dispatched b c s
  dispatched_so = record {
    dispatch = dispatches_so;
    heard_are = refl;
    asked_are = ap (λ (d : Dispatch). d.wants) o.is;
    told = ap (λ (d : Dispatch). d.reply) o.is;
    replies = record { quit = c.quit; leaves = s; dispatch = dispatches_so; is = ap (λ (d : Dispatch). d.reply) o.is };
  }

  by_route : (r : Route) (er : EntryRoute) → er ≡ entry_route b.before r → r ≡ (routed_of b.before b.item).route → Dispatches b.before b.item c.words c.quit s → DispatchStep b.before er (Some b.item) c.words c.quit s
  by_route r er e is d = subst (λ (x : EntryRoute). DispatchStep b.before x (Some b.item) c.words c.quit s) (sym e) (step r is)
    where
      step : (r : Route) → r ≡ (routed_of b.before b.item).route → DispatchStep b.before (entry_route b.before r) (Some b.item) c.words c.quit s
      step (route.Deliver token t) is = (ap (entry_route b.before) is, d)
      step route.Skipped is = (ap (entry_route b.before) is, d)
      step route.Dropped is = (ap (entry_route b.before) is, d)
      step route.NotUnderstood is = (ap (entry_route b.before) is, d)
      step (route.Forward looper) is = (ap (entry_route b.before) is, d)

  pub ends_on : (entry : EntryData) → entry.plain.event ≡ came_event b c → entry.item ≡ Some b.item → entry.plain.by.0 ≡ 10000 + opening.looper → stamp_in entries < entry.plain.stamp → IsHistory opening (entries ++ entry ∷ []) s
  ends_on entry is item by lt =
      let step = by_route (routed_of b.before b.item).route b.route h.route refl dispatches_so in
      history_push opening entries b.before entry s h.history
      (record {
        by = subst (IsBy opening.looper entry.plain.by.0) (sym is) by;
        event = subst (λ (e : DeskEvent). EventStep (dispatches entries) b.before e entry.item s) (sym is) (subst (λ (o : Option ItemData). EventStep (dispatches entries) b.before (came_event b c) o s) (sym item) (h.position, step));
      })
      lt
