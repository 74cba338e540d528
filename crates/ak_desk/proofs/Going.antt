-- How a message that is begun goes on, with what it asks for and what it hears.
use Rattle.std.proofs.Common.{◌≡◌, ℕ, ◌≤◌, Bool, true, false, List, [], ◌∷◌, ◌++◌, Option, None, Some, Result, Ok, Err, IfOk, OnErr, option_map, refl, sym, ap, subst, ◌∙◌}
use Rattle.ak_base.specs.declared.no_memory.NoMemory.{NoMemory}
use Rattle.ak_flatten.specs.declared.item.Taken.{Taken}
use Rattle.ak_flatten.specs.Item.{IsItem, message_of}
use Rattle.ak_message.specs.Fields.{specifier_count}
use Rattle.ak_message.specs.Message.{MessageData}
use Rattle.ak_action.specs.declared.answer.Answer.{Answer}
use Rattle.ak_action.specs.declared.answer.Answer.TheVariants as answer
use Rattle.ak_action.specs.declared.answer.Want.{Want}
use Rattle.ak_action.specs.declared.answer.Want.TheVariants as want
use Rattle.ak_action.specs.declared.doing.Sending.{Sending}
use Rattle.ak_action.specs.declared.doing.Sending.TheVariants as sending
use Rattle.ak_action.specs.declared.interp.Stage.{Stage}
use Rattle.ak_action.specs.declared.interp.Stage.TheVariants as stage
use Rattle.ak_action.specs.declared.state.DeskState.{DeskState}
use Rattle.ak_action.specs.Interp.{AnswersSend, AnswersStage, InterpData, give_at, hear_of_send, next_of}
use Rattle.ak_action.specs.Row.{row_data}
use Rattle.ak_route.specs.declared.outcome.Route.{Route}
use Rattle.ak_route.specs.declared.outcome.Route.TheVariants as route
use Rattle.ak_route.specs.declared.outcome.Taker.TheVariants as taker
use Rattle.ak_route.specs.Handlers.{handlers_seen}
use Rattle.ak_route.specs.Laws.{RoutesPopWithin}
use Rattle.ak_action.specs.Laws.{CallsAct, IsAsking, RunsAct}
use Rattle.ak_desk.specs.declared.desk.Begun.{Begun}
use Rattle.ak_desk.specs.declared.entry.EntryRoute.TheVariants as went
use Rattle.ak_desk.specs.declared.task.Task.{Task}
use Rattle.ak_desk.specs.declared.task.Task.TheVariants as task
use Rattle.ak_desk.specs.Answering.{AreAnswered}
use Rattle.ak_desk.specs.BuiltIns.{built_in_quits, built_in_reply}
use Rattle.ak_desk.specs.Desk.{Asks, AsksInto, BegunData, DeskAwaits, DeskData, DeskIsDone, DeskMayWant, DeskTakes, Fails, FailsFrom, Forwards, GoesOn, Hears, IsTakenIn, StaysDone, Turns, Wants, actions_told, begun_at}
use Rattle.ak_desk.specs.DeskInside.{ComesFar, IsBegun, IsOver, Stands, asked_more, begun_seen, came_seen, is_last, noted}
use Rattle.ak_desk.specs.Dispatch.{Came, dispatch_of, entry_route}
use Rattle.ak_desk.specs.Entry.{EntryData}
use Rattle.ak_desk.specs.Machine.{IsHistory, dispatches}
use Rattle.ak_desk.specs.Place.{is_local, loopers_of, routed_of}
use Rattle.ak_desk.specs.Properties.{property_replied}
use Rattle.ak_desk.specs.Task.{Comes, Heard, MayWant, TakesAnswer, wants, wants_none, came_of, heard_of, place_in, task_by, task_of, want_of}
use Rattle.ak_desk.specs.Task as the
use Rattle.ak_action.proofs.Surface.{NextStands, next_stands}
use Rattle.ak_desk.proofs.Coming.{dispatch_comes}
use Rattle.ak_desk.proofs.History.{IsNoReply, all_spelled, find_is_none, forward_is_none}
use Rattle.ak_desk.proofs.InStep.{answered_push, comes_may, comes_takes, done_may, done_never_fails, done_so, done_wants, failed_so, first_may, one_too_many}
use Rattle.ak_desk.proofs.Reacting.{AimsAt, AimsBy, next_is, routed_so, waiting_tells}

-- ---- it begins
pub begins : (opening : DeskState) (old entries : List EntryData) (was : Option Begun) (b : BegunData) (t : Task) (s : DeskState) (taken : Taken) → b ≡ begun_at s taken → t ≡ task_of s.first (routed_of s taken.item) → IsItem taken.item → was ≡ None → entries ≡ old → Stands opening old was s → taken.position ≡ dispatches old → IsBegun opening entries b t s
begins opening old entries was b t s taken seen is fits none same h e =
    let rest : IsHistory opening old s = subst (λ (o : Option Begun). Stands opening old o s) none h in
    let fresh : IsBegun opening old (begun_at s taken) (task_of s.first (routed_of s taken.item)) s = record { history = rest; position = e; route = refl; fits = fits; far = the.begun } in
    subst (λ (x : BegunData). IsBegun opening entries x t s) (sym seen)
    (subst (λ (x : Task). IsBegun opening entries (begun_at s taken) x s) (sym is)
    (subst (λ (l : List EntryData). IsBegun opening l (begun_at s taken) (task_of s.first (routed_of s taken.item)) s) (sym same) fresh))

-- ---- what an answer makes of the handlers
stays_as : (b : BegunData) (a : Answer) (s : DeskState) → IsNoReply a → IsTakenIn a b s s
stays_as b (answer.Reply flat m) s h = absurd h
stays_as b _ s h = refl

-- a reply goes by the reaction of the handler that its message went to, and by the action behind those that are carried out
record GoesTo (b : BegunData) (i : InterpData) : Type 0 where
  routed : (routed_of b.before b.item).route ≡ route.Deliver i.token (taker.Reaction i.reaction)
  goes_to : b.route ≡ went.To i.token
  placed : i.place ≡ actions_told (dispatch_of b.before b.item b.heard None).words

module _ (b : BegunData) where
  send_takes_in : (how : Sending) (i : InterpData) (s : DeskState) (a : Answer) → GoesTo b i → AimsBy how s i.token i.reaction i.place → AnswersSend how a → IsTakenIn a b s (hear_of_send how i s a).state
  send_takes_in how i s answer.NoMemory to aims h = refl
  send_takes_in how i s (answer.Team team first) to aims h = absurd h
  send_takes_in how i s answer.NoTeam to aims h = absurd h
  send_takes_in (sending.Post back) i s (answer.Written at) to aims h = refl
  send_takes_in (sending.Post back) i s answer.Full to aims h = refl
  send_takes_in (sending.Post back) i s answer.Closed to aims h = refl
  send_takes_in (sending.Post back) i s answer.Spent to aims h = refl
  send_takes_in (sending.Post back) i s answer.TooLong to aims h = refl
  send_takes_in (sending.Post back) i s (answer.Reply flat m) to aims h = absurd h
  send_takes_in (sending.Ask into) i s (answer.Written at) to aims h = absurd h
  send_takes_in (sending.Ask into) i s answer.Full to aims h = absurd h
  send_takes_in (sending.Ask into) i s answer.Closed to aims h = refl
  send_takes_in (sending.Ask into) i s answer.Spent to aims h = refl
  send_takes_in (sending.Ask into) i s answer.TooLong to aims h = refl
  send_takes_in (sending.Ask into) i s (answer.Reply flat m) to aims h =
      record {
        token = i.token;
        reaction = i.reaction;
        goes_to = to.goes_to;
        routed = to.routed;
        into = into;
        asks = subst (λ (n : ℕ). AsksInto s i.token i.reaction n into) to.placed aims;
        state = refl;
      }

  stage_takes_in : (at : Stage) (i : InterpData) (s : DeskState) (a : Answer) → GoesTo b i → AimsAt at s i.token i.reaction i.place → AnswersStage at a → IsTakenIn a b s (give_at at i s a).state
  stage_takes_in stage.Ready i s a to aims h = absurd h
  stage_takes_in (stage.Finding how m) i s a to aims h = stays_as b a s (find_is_none a h)
  stage_takes_in (stage.Found looper how m) i s a to aims h = absurd h
  stage_takes_in (stage.Sent how) i s a to aims h = send_takes_in how i s a to aims h
  stage_takes_in stage.Ended i s a to aims h = absurd h

  takes_in : CallsAct → RunsAct → (t : Task) (s : DeskState) (a : Answer) → Comes b.before (task_of b.before.first (routed_of b.before b.item)) b.asked b.heard t s → b.route ≡ entry_route b.before (routed_of b.before b.item).route → TakesAnswer t a → IsTakenIn a b s (heard_of t s a).state
  takes_in act runs (task.Reaction i) s a c is h =
      let goes = routed_so b.before (routed_of b.before b.item).message (routed_of b.before b.item).route b.asked b.heard i s c in
      let tells = waiting_tells i.stage a i.place i.words h goes.clear in
      let words : (dispatch_of b.before b.item b.heard None).words ≡ i.words = (dispatch_comes act runs b.before b.item b.asked b.heard (task.Reaction i) s c).words a h in
      stage_takes_in i.stage i s a
      (record { routed = goes.route_is; goes_to = is ∙ ap (entry_route b.before) goes.route_is; placed = tells.told ∙ ap actions_told (sym words) }) goes.aims h
  takes_in act runs (task.Property token place m) s a c is h = absurd h
  takes_in act runs (task.BuiltIn token m) s a c is h = absurd h
  takes_in act runs (task.Forward looper popped spare) s a c is h = absurd h
  takes_in act runs (task.Forwarding spare) s a c is h = stays_as b a s (forward_is_none a h)
  takes_in act runs (task.Done word reply quit) s a c is h = absurd h

-- ---- what is sent on has the specifiers popped that routing popped
abbrev IsForward : ℕ → Task → Type 0
IsForward popped (task.Forward looper n spare) = n ≡ popped
IsForward popped _ = ⊥

wants_forward : (looper popped : ℕ) (t : Task) (s : DeskState) (u : Task) (v : DeskState) → MayWant t → want_of None t s ≡ wants (want.Forward looper popped) u v → IsForward popped t
wants_forward looper popped (task.Reaction i) s u v may e =
    let n = next_is (next_of None i s) (want.Forward looper popped) u v e in
    absurd (subst NextStands n.is (next_stands None i s))
wants_forward looper popped (task.Property token place m) s u v may e =
    let never : want.Done ≡ want.Forward looper popped = cc in
    absurd cc
wants_forward looper popped (task.BuiltIn token m) s u v may e =
    let never : want.Done ≡ want.Forward looper popped = cc in
    absurd cc
wants_forward looper popped (task.Forward at n spare) s u v may e =
    let same : want.Forward at n ≡ want.Forward looper popped = cc in
    cc
wants_forward looper popped (task.Forwarding spare) s u v may e = absurd may
wants_forward looper popped (task.Done word reply quit) s u v may e =
    let never : want.Done ≡ want.Forward looper popped = cc in
    absurd cc

-- a want leaves none to be sent on, nor does an answer
left_by_want : (popped : ℕ) (t : Task) (s : DeskState) (w : Want) (u : Task) (v : DeskState) → MayWant t → want_of None t s ≡ wants w u v → IsForward popped u → ⊥
left_by_want popped (task.Reaction i) s w u v may e h = subst (IsForward popped) (next_is (next_of None i s) w u v e).task_is h
left_by_want popped (task.Property token place m) s w u v may e h =
    let same : u ≡ task.Done None (Some (property_replied s token place m).reply) false = cc in
    subst (IsForward popped) same h
left_by_want popped (task.BuiltIn token m) s w u v may e h =
    let same : u ≡ task.Done None (Some (built_in_reply s token m)) (built_in_quits s m) = cc in
    subst (IsForward popped) same h
left_by_want popped (task.Forward at n spare) s w u v may e h =
    let same : u ≡ task.Forwarding spare = cc in
    subst (IsForward popped) same h
left_by_want popped (task.Forwarding spare) s w u v may e h = may
left_by_want popped (task.Done word reply quit) s w u v may e h =
    let same : u ≡ task.Done word reply quit = cc in
    subst (IsForward popped) same h

left_by_answer : (popped : ℕ) (t : Task) (s : DeskState) (a : Answer) → TakesAnswer t a → IsForward popped (heard_of t s a).task → ⊥
left_by_answer popped (task.Reaction i) s a takes h = h
left_by_answer popped (task.Property token place m) s a takes h = takes
left_by_answer popped (task.BuiltIn token m) s a takes h = takes
left_by_answer popped (task.Forward at n spare) s a takes h = takes
left_by_answer popped (task.Forwarding spare) s a takes h = h
left_by_answer popped (task.Done word reply quit) s a takes h = takes

comes_forward : (popped : ℕ) (before : DeskState) (first : Task) (asked : List Want) (heard : List Answer) (t : Task) (s : DeskState) → Comes before first asked heard t s → IsForward popped t → IsForward popped first
comes_forward popped before first _ _ _ _ the.begun h = h
comes_forward popped before first _ _ _ _ (the.wanted asked heard t s w u v c may asking e) h = absurd (left_by_want popped t s w u v may e h)
comes_forward popped before first _ _ _ _ (the.given asked heard t s a c takes) h = absurd (left_by_answer popped t s a takes h)

begins_forward : (popped first : ℕ) (m : MessageData) (r : Route) → IsForward popped (task_by first m r) → m.popped ≡ popped
begins_forward popped first m (route.Deliver token (taker.Property place)) h = absurd h
begins_forward popped first m (route.Deliver token (taker.Reaction place)) h = absurd h
begins_forward popped first m (route.Deliver token taker.BuiltIn) h = absurd h
begins_forward popped first m route.Skipped h = absurd h
begins_forward popped first m route.Dropped h = absurd h
begins_forward popped first m route.NotUnderstood h = absurd h
begins_forward popped first m (route.Forward looper) h = h

-- ---- what a call leaves
abbrev pub seen_at : DeskState → List EntryData → BegunData → DeskState → DeskData
seen_at opening entries b s = record { opening = opening; state = s; entries = entries; begun = Some b }

pub record AfterWant (opening : DeskState) (entries : List EntryData) (r : Result Want NoMemory) (d : DeskData) (b : BegunData) (u : Task) (v : DeskState) : Type 0 where
  pub begun : IsBegun opening entries b u v
  pub ok : IfOk r (λ w. Turns (Wants w) d (seen_at opening entries b v))
  pub err : OnErr r (Turns Fails d (seen_at opening entries b v))
  pub awaits : IfOk r (λ w. DeskAwaits w (seen_at opening entries b v))
  pub forwards : IfOk r (λ w. Forwards w b)
  pub ends : OnErr r (DeskIsDone (seen_at opening entries b v))

pub record AfterGiven (opening : DeskState) (entries : List EntryData) (a : Answer) (d : DeskData) (b : BegunData) (u : Task) (v : DeskState) : Type 0 where
  pub begun : IsBegun opening entries b u v
  pub given : Turns (Hears a) d (seen_at opening entries b v)
  pub goes_on : DeskMayWant (seen_at opening entries b v)

-- ---- one step, of what is seen of a message and what is to be done for it
module _ (b : BegunData) (t : Task) (s : DeskState) where
  abbrev first_task : Task
  first_task = task_of b.before.first (routed_of b.before b.item)

  abbrev begins_so : MayWant first_task
  begins_so = first_may b.before.first (routed_of b.before b.item).message (routed_of b.before b.item).route

  pub may_go_on : (o : Option Came) → ComesFar b t s o → AreAnswered b.asked b.heard → MayWant t
  may_go_on None far all = comes_may b.before first_task begins_so b.asked b.heard t s far all
  may_go_on (Some c) over all = done_may t over.done

  pub may_take : (o : Option Came) (a : Answer) → ComesFar b t s o → AreAnswered b.asked (b.heard ++ a ∷ []) → TakesAnswer t a
  may_take None a far all = comes_takes b.before first_task begins_so b.asked b.heard t s a far all
  may_take (Some c) a over all = one_too_many b.asked b.heard a over.answered all

  pub none_came : (o : Option Came) (a : Answer) → ComesFar b t s o → AreAnswered b.asked (b.heard ++ a ∷ []) → o ≡ None
  none_came None a far all = refl
  none_came (Some c) a over all = one_too_many b.asked b.heard a over.answered all

module _ (pops : RoutesPopWithin) (act : CallsAct) (runs : RunsAct) (opening : DeskState) (entries : List EntryData) (b : BegunData) (t : Task) (s : DeskState) (h : IsBegun opening entries b t s) (all : AreAnswered b.asked b.heard) (may : MayWant t) where
  -- what is seen after a want, and after one that found no memory
  abbrev wanting : Want → Task → BegunData
  wanting w u = record b { asked = asked_more w b.asked; came = came_seen (is_last w) u }

  abbrev failing : Task → BegunData
  failing u = record b { came = Some (came_of u) }

  record Step (b' : BegunData) (u : Task) (v : DeskState) (told : Type 0) : Type 0 where
    begun : IsBegun opening entries b' u v
    told_is : told

  asks_from : b.came ≡ None → ComesFar b t s None → (w : Want) (u : Task) (v : DeskState) → IsAsking w → want_of None t s ≡ wants w u v → Step (record b { asked = b.asked ++ w ∷ []; came = None }) u v (Asks w b (record b { asked = b.asked ++ w ∷ []; came = None }) v)
  asks_from e far w u v asking is =
      record {
        begun = record { history = h.history; position = h.position; route = h.route; fits = h.fits; far = the.wanted b.asked b.heard t s w u v far may asking is };
        told_is = record {
          message = ap (λ (o : Option Came). record b { asked = b.asked ++ w ∷ []; came = o }) (sym e);
          carried = (dispatch_comes act runs b.before b.item b.asked b.heard t s far).waits w u v may asking is;
        };
      }

  stays_from : (c : Came) → b.came ≡ Some c → IsOver b t s c → (w : Want) (u : Task) (v : DeskState) → want_of None t s ≡ wants w u v → Step (wanting w u) u v (StaysDone w b s (wanting w u) v)
  stays_from c e over w u v is =
      let same = done_wants t s w u v over.done is in
      let seen : wanting w u ≡ b =
      ap (λ (x : Want). record b { asked = asked_more x b.asked; came = came_seen (is_last x) u }) same.0
      ∙ ap (λ (x : Task). record b { came = Some (came_of x) }) same.1.0
      ∙ ap (λ (x : Came). record b { came = Some x }) (sym over.same)
      ∙ ap (λ (o : Option Came). record b { came = o }) (sym e) in
      record {
        begun =
            subst (λ (x : BegunData). IsBegun opening entries x u v) (sym seen)
            (subst (λ (x : Task). IsBegun opening entries b x v) (sym same.1.0) (subst (λ (x : DeskState). IsBegun opening entries b t x) (sym same.1.1) h));
        told_is = record { done = same.0; message = seen; state = same.1.1 };
      }

  goes_from : (o : Option Came) → b.came ≡ o → ComesFar b t s o → (w : Want) (u : Task) (v : DeskState) → want_of None t s ≡ wants w u v → Step (wanting w u) u v (GoesOn o w b s (wanting w u) v)
  goes_from None e far want.Done u v is =
      let came = (dispatch_comes act runs b.before b.item b.asked b.heard t s far).ends u v may is in
      record {
        begun = record {
          history = h.history;
          position = h.position;
          route = h.route;
          fits = h.fits;
          far = record { spelled = all_spelled b.asked b.heard t s far; answered = all; memory = None; is = came; done = done_so t s u v may is; same = refl };
        };
        told_is = record { came = came_of u; message = refl; carried = came };
      }
  goes_from None e far (want.Find word) u v is = asks_from e far (want.Find word) u v tt is
  goes_from None e far (want.Post to m back) u v is = asks_from e far (want.Post to m back) u v tt is
  goes_from None e far (want.Ask to m) u v is = asks_from e far (want.Ask to m) u v tt is
  goes_from None e far (want.Forward looper popped) u v is = asks_from e far (want.Forward looper popped) u v tt is
  goes_from (Some c) e over w u v is = stays_from c e over w u v is

  fails_from : (o : Option Came) → b.came ≡ o → ComesFar b t s o → (u : Task) (v : DeskState) → want_of (Some (place_in u)) t s ≡ wants_none u v → Step (failing u) u v (FailsFrom o b s (failing u) v)
  fails_from None e far u v is =
      let f = (dispatch_comes act runs b.before b.item b.asked b.heard t s far).fails u v may is in
      record {
        begun = record {
          history = h.history;
          position = h.position;
          route = h.route;
          fits = h.fits;
          far = record { spelled = all_spelled b.asked b.heard t s far; answered = all; memory = Some f.place; is = f.is; done = failed_so (place_in u) t s u v may is; same = refl };
        };
        told_is = record { place = f.place; ends = record { came = came_of u; message = refl; carried = f.is }; word = f.word; without = f.without };
      }
  fails_from (Some c) e over u v is = done_never_fails (place_in u) t s u v over.done is

  goes_on : (w : Want) (u : Task) (v : DeskState) → want_of None t s ≡ wants w u v → Step (wanting w u) u v (Wants w b s (wanting w u) v)
  goes_on w u v is = goes_from b.came refl h.far w u v is

  fails_on : (u : Task) (v : DeskState) → want_of (Some (place_in u)) t s ≡ wants_none u v → Step (failing u) u v (Fails b s (failing u) v)
  fails_on u v is = fails_from b.came refl h.far u v is

  -- ---- which call may follow
  awaits_so : (w : Want) (u : Task) (v : DeskState) → DeskAwaits w (seen_at opening entries (wanting w u) v)
  awaits_so want.Done u v = refl
  awaits_so (want.Find word) u v = λ a g. answered_push b.asked b.heard (want.Find word) a all g
  awaits_so (want.Post to m back) u v = λ a g. answered_push b.asked b.heard (want.Post to m back) a all g
  awaits_so (want.Ask to m) u v = λ a g. answered_push b.asked b.heard (want.Ask to m) a all g
  awaits_so (want.Forward looper popped) u v = λ a g. answered_push b.asked b.heard (want.Forward looper popped) a all g

  -- ---- what is sent on
  forwards_from : (o : Option Came) → ComesFar b t s o → (w : Want) (u : Task) (v : DeskState) → want_of None t s ≡ wants w u v → Forwards w (wanting w u)
  forwards_from None far want.Done u v is = tt
  forwards_from None far (want.Find word) u v is = tt
  forwards_from None far (want.Post to m back) u v is = tt
  forwards_from None far (want.Ask to m) u v is = tt
  forwards_from None far (want.Forward looper popped) u v is =
      let routed = routed_of b.before b.item in
      let same = begins_forward popped b.before.first routed.message routed.route (comes_forward popped b.before (task_of b.before.first routed) b.asked b.heard t s far (wants_forward looper popped t s u v may is)) in
      let within = pops (handlers_seen row_data b.before.handlers) (loopers_of b.before) (record { local = is_local b.before b.item; dropped = b.item.dropped }) b.before.common (message_of b.item) b.item.target h.fits.popped_within in
      (subst (λ (n : ℕ). b.item.popped ≤ n) same within.at_least, subst (λ (n : ℕ). n ≤ specifier_count (message_of b.item).fields) same within.within)
  forwards_from (Some c) over w u v is =
      let done = (done_wants t s w u v over.done is).0 in
      subst (λ (x : Want). Forwards x (wanting w u)) (sym done) tt

  forwards_so : (w : Want) (u : Task) (v : DeskState) → want_of None t s ≡ wants w u v → Forwards w (wanting w u)
  forwards_so w u v is = forwards_from b.came h.far w u v is

  after_want : (r : Result Want NoMemory) (b' : BegunData) (u : Task) (v : DeskState) → IfOk r (λ w. b' ≡ wanting w u) → IfOk r (λ w. want_of None t s ≡ wants w u v) → OnErr r (b' ≡ failing u) → OnErr r (want_of (Some (place_in u)) t s ≡ wants_none u v) → AfterWant opening entries r (seen_at opening entries b s) b' u v
  after_want (Ok w) b' u v same is err failed =
      let step = goes_on w u v is in
      subst (λ (x : BegunData). AfterWant opening entries (Ok w) (seen_at opening entries b s) x u v) (sym same)
      (record { begun = step.begun; ok = step.told_is; err = tt; awaits = awaits_so w u v; forwards = forwards_so w u v is; ends = tt })
  after_want (Err n) b' u v ok is same failed =
      let step = fails_on u v failed in
      subst (λ (x : BegunData). AfterWant opening entries (Err n) (seen_at opening entries b s) x u v) (sym same)
      (record { begun = step.begun; ok = tt; err = step.told_is; awaits = tt; forwards = tt; ends = refl })

seen_ok : (x y : Begun) (r : Result Want NoMemory) → IfOk r (λ w. y ≡ noted w (record x { task = y.task })) → IfOk r (λ w. begun_seen y ≡ record (begun_seen x) { asked = asked_more w x.asked; came = came_seen (is_last w) y.task })
seen_ok x y (Ok w) e = ap begun_seen e
seen_ok x y (Err n) e = tt

seen_err : (x y : Begun) (r : Result Want NoMemory) → OnErr r (y ≡ record x { task = y.task; done = true }) → OnErr r (begun_seen y ≡ record (begun_seen x) { came = Some (came_of y.task) })
seen_err x y (Ok w) e = tt
seen_err x y (Err n) e = ap begun_seen e

none_seen : (done : Bool) (t u : Task) → came_seen done t ≡ None → came_seen done u ≡ None
none_seen true t u e = absurd cc
none_seen false t u e = refl

-- ---- of the desk
module _ (opening : DeskState) (entries : List EntryData) (o : Option Begun) (x : Begun) (s : DeskState) (d : DeskData) (inside : o ≡ Some x) (view : record { opening = opening; state = s; entries = entries; begun = option_map begun_seen o } ≡ d) (h : Stands opening entries o s) where
  abbrev here : DeskData
  here = seen_at opening entries (begun_seen x) s

  seen : here ≡ d
  seen = ap (λ (p : Option Begun). record { opening = opening; state = s; entries = entries; begun = option_map begun_seen p }) (sym inside) ∙ view

  stands : IsBegun opening entries (begun_seen x) x.task s
  stands = subst (λ (p : Option Begun). Stands opening entries p s) inside h

  all_of : DeskMayWant d → AreAnswered x.asked x.heard
  all_of may = subst DeskMayWant (sym seen) may

  one_of : (a : Answer) → DeskTakes d a → AreAnswered x.asked (x.heard ++ a ∷ [])
  one_of a takes = subst (λ (z : DeskData). DeskTakes z a) (sym seen) takes

  pub may_want : DeskMayWant d → MayWant x.task
  may_want may = may_go_on (begun_seen x) x.task s (begun_seen x).came stands.far (all_of may)

  pub may_give : (a : Answer) → DeskTakes d a → TakesAnswer x.task a
  may_give a takes = may_take (begun_seen x) x.task s (begun_seen x).came a stands.far (one_of a takes)

  pub wanted : RoutesPopWithin → CallsAct → RunsAct → DeskMayWant d → (r : Result Want NoMemory) (y : Begun) (v : DeskState) → IfOk r (λ w. y ≡ noted w (record x { task = y.task })) → IfOk r (λ w. want_of None x.task s ≡ wants w y.task v) → OnErr r (y ≡ record x { task = y.task; done = true }) → OnErr r (want_of (Some (place_in y.task)) x.task s ≡ wants_none y.task v) → AfterWant opening entries r d (begun_seen y) y.task v
  wanted pops act runs may r y v ok next err failed =
      subst (λ (z : DeskData). AfterWant opening entries r z (begun_seen y) y.task v) seen
      (after_want pops act runs opening entries (begun_seen x) x.task s stands (all_of may) (may_want may) r (begun_seen y) y.task v (seen_ok x y r ok) next (seen_err x y r err) failed)

  -- ---- an answer
  module _ (a : Answer) (takes : DeskTakes d a) (y : Begun) (v : DeskState) (noted_is : y ≡ record x { task = y.task; heard = x.heard ++ a ∷ [] }) (heard : heard_of x.task s a ≡ record { task = y.task; state = v }) where
    abbrev then : BegunData
    then = record (begun_seen x) { heard = x.heard ++ a ∷ [] }

    none : came_seen x.done x.task ≡ None
    none = none_came (begun_seen x) x.task s (came_seen x.done x.task) a stands.far (one_of a takes)

    then_seen : begun_seen y ≡ then
    then_seen = ap begun_seen noted_is ∙ ap (λ (p : Option Came). record (begun_seen x) { heard = x.heard ++ a ∷ []; came = p }) (none_seen x.done x.task y.task none ∙ sym none)

    came_so_far : ComesFar (begun_seen x) x.task s None
    came_so_far = subst (λ (p : Option Came). ComesFar (begun_seen x) x.task s p) none stands.far

    goes_far : ComesFar then y.task v (came_seen x.done x.task)
    goes_far =
        subst (λ (p : Option Came). ComesFar then y.task v p) (sym none)
        (subst (λ (k : Heard). ComesFar then k.task k.state None) heard (the.given x.asked x.heard x.task s a came_so_far (may_give a takes)))

    pub given : CallsAct → RunsAct → AfterGiven opening entries a d (begun_seen y) y.task v
    given act runs =
        subst (λ (b : BegunData). AfterGiven opening entries a d b y.task v) (sym then_seen)
        (subst (λ (z : DeskData). AfterGiven opening entries a z then y.task v) seen
        (record {
          begun = record { history = stands.history; position = stands.position; route = stands.route; fits = stands.fits; far = goes_far };
          given = record { message = refl; state = subst (λ (k : Heard). IsTakenIn a (begun_seen x) s k.state) heard (takes_in (begun_seen x) act runs x.task s a came_so_far stands.route (may_give a takes)) };
          goes_on = one_of a takes;
        }))
