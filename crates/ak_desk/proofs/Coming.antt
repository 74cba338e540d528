-- However the calls for one message go, they come to what its dispatch comes to with the answers so far.
use Rattle.std.proofs.Common.{◌≡◌, ℕ, ◌+◌, Bool, true, false, List, [], ◌∷◌, ◌++◌, drop, Option, None, Some, Result, Ok, Err, IfOk, OnErr, is_some, unwrap_or, cond, refl, sym, ap, subst, ◌∙◌, append_assoc}
use Rattle.std.proofs.lemmas.Bool.{false≢true}
use Rattle.std.proofs.lemmas.List.{append-nil}
use Rattle.ak_base.specs.declared.error.KitError.TheVariants as error
use Rattle.ak_base.specs.declared.no_memory.NoMemory.{NoMemory}
use Rattle.ak_message.specs.Message.{MessageData}
use Rattle.ak_flatten.specs.Item.{ItemData}
use Rattle.ak_action.specs.declared.action.Action.{Action}
use Rattle.ak_action.specs.declared.answer.Answer.{Answer}
use Rattle.ak_action.specs.declared.answer.AnswerWord.TheVariants as word
use Rattle.ak_action.specs.declared.answer.Want.{Want}
use Rattle.ak_action.specs.declared.answer.Want.TheVariants as want
use Rattle.ak_action.specs.declared.doing.Sending.{Sending}
use Rattle.ak_action.specs.declared.doing.Sending.TheVariants as sending
use Rattle.ak_action.specs.declared.interp.Stage.{Stage}
use Rattle.ak_action.specs.declared.interp.Stage.TheVariants as stage
use Rattle.ak_action.specs.declared.state.DeskState.{DeskState}
use Rattle.ak_action.specs.Acts.{acts, is_at, put}
use Rattle.ak_action.specs.Doing.{Doing, says, replies, puts, sends, finds, stops, quits, doing_of}
use Rattle.ak_action.specs.Interp.{InterpData, Nexted, nexted, failed, Given, Answers, AnswersFind, AnswersSend, AnswersStage, MayGoOn, MayGoOnFrom, actions_of, carried, give_at, give_of, go_on, hear_of_send, hear_of_team, next_at, next_of, out_of_memory, past, started, then_go_on}
use Rattle.ak_action.specs.Laws.{Calls, CallsAct, Ran, RunsAct, answered_so, by_want, finished, found_none, got_one, run, unanswered, wanting}
use Rattle.ak_action.specs.Laws as law
use Rattle.ak_action.specs.Steps.{IsFinding}
use Rattle.ak_action.proofs.Surface.{IsAsking, IsPosting, IsSentAs, IsWaiting, NextStands, StandsBehind, heard_of_send, heard_of_team, next_stands, sent_so}
use Rattle.ak_desk.specs.declared.task.Task.{Task}
use Rattle.ak_desk.specs.declared.task.Task.TheVariants as task
use Rattle.ak_route.specs.declared.outcome.Route.{Route}
use Rattle.ak_route.specs.declared.outcome.Route.TheVariants as route
use Rattle.ak_route.specs.declared.outcome.Taker.{Taker}
use Rattle.ak_route.specs.declared.outcome.Taker.TheVariants as taker
use Rattle.ak_desk.specs.Answering.{AnswersAsk, AnswersPost}
use Rattle.ak_desk.specs.Dispatch.{Dispatch, by_reaction, by_route, came_to, dispatch_of, ran_out, taken}
use Rattle.ak_desk.specs.Place.{routed_of}
use Rattle.ak_desk.specs.Replies.{none_reply, not_understood}
use Rattle.ak_desk.specs.Task.{Awaits, Comes, wants, wants_none, IsDone, MayWant, came_of, place_in, taken_as, task_by, task_of}
use Rattle.ak_desk.specs.Task as the
use Rattle.ak_desk.proofs.AtOnce.{FailsSo, Outcomes, built_in_comes, ends_so, fails_so, forward_comes, property_comes, ready_comes}
use Rattle.ak_desk.proofs.Reacting.{IsClear, TaskKeeps, clear_without, failed_is, keeps_on, next_is, ran_out-push}

finding_waits : (at : Stage) → IsFinding at → IsWaiting at
finding_waits stage.Ready h = absurd h
finding_waits (stage.Finding how m) h = tt
finding_waits (stage.Found looper how m) h = absurd h
finding_waits (stage.Sent how) h = absurd h
finding_waits stage.Ended h = absurd h

sent_waits : (IsSo : Sending → Type 0) (at : Stage) → IsSentAs IsSo at → IsWaiting at
sent_waits IsSo at h = sent_so IsSo IsWaiting (λ how so. tt) at h

pub asking_awaits : (w : Want) (at : Stage) → law.IsAsking w → StandsBehind w at → IsWaiting at
asking_awaits want.Done at asking h = absurd asking
asking_awaits (want.Find word) at asking h = finding_waits at h
asking_awaits (want.Post to m back) at asking h = sent_waits IsPosting at h
asking_awaits (want.Ask to m) at asking h = sent_waits IsAsking at h
asking_awaits (want.Forward looper popped) at asking h = absurd h

pub may_not : {X : Type 0} (at : Stage) → IsWaiting at → MayGoOnFrom at → X
may_not stage.Ready h may = absurd h
may_not (stage.Finding how m) h may = absurd may
may_not (stage.Found looper how m) h may = absurd h
may_not (stage.Sent how) h may = absurd may
may_not stage.Ended h may = absurd h

pub ended_awaits_none : {X : Type 0} (at : Stage) → IsWaiting at → at ≡ stage.Ended → X
ended_awaits_none at h e = absurd (subst IsWaiting e h)

-- ---- behind an answer
team_may : (how : Sending) (m : MessageData) (i : InterpData) (s : DeskState) (a : Answer) → MayGoOn (hear_of_team how m i a)
team_may how m i s a = heard_of_team (λ j t. MayGoOn j) i s tt how m (λ team first. tt) tt a

send_may : (how : Sending) (i : InterpData) (s : DeskState) (a : Answer) → MayGoOn (hear_of_send how i s a).interp
send_may how i s a = heard_of_send (λ j t. MayGoOn j) i s tt how (λ e other. tt) (λ into flat said. tt) a

pub give_may : (at : Stage) (i : InterpData) (s : DeskState) (a : Answer) → AnswersStage at a → MayGoOn (give_at at i s a).interp
give_may stage.Ready i s a h = absurd h
give_may (stage.Finding how m) i s a h = team_may how m i s a
give_may (stage.Found looper how m) i s a h = absurd h
give_may (stage.Sent how) i s a h = send_may how i s a
give_may stage.Ended i s a h = absurd h

pub not_answered : {X : Type 0} (at : Stage) (a : Answer) → MayGoOnFrom at → AnswersStage at a → X
not_answered stage.Ready a may h = absurd h
not_answered (stage.Finding how m) a may h = absurd may
not_answered (stage.Found looper how m) a may h = absurd h
not_answered (stage.Sent how) a may h = absurd may
not_answered stage.Ended a may h = absurd h

-- ---- what a run comes to
-- where more was wanted before
abbrev pub adding : List Want → Ran → Ran
adding asked r = record r { wants = asked ++ r.wants }

adding-wanting : (asked : List Want) (w : Want) (r : Ran) → adding asked (wanting w r) ≡ adding (asked ++ w ∷ []) r
adding-wanting asked w r = ap (λ (ws : List Want). record r { wants = ws }) (sym (append_assoc asked (w ∷ []) r.wants))

asks_by : (on : Want → InterpData → DeskState → Ran) (answers : List Answer) (w : Want) (j : InterpData) (v : DeskState) → law.IsAsking w → by_want on answers (nexted w j v) ≡ on w j v
asks_by on answers want.Done j v asking = absurd asking
asks_by on answers (want.Find word) j v asking = refl
asks_by on answers (want.Post to m back) j v asking = refl
asks_by on answers (want.Ask to m) j v asking = refl
asks_by on answers (want.Forward looper popped) j v asking = refl

-- ---- one step of a run in which no memory runs out
run_asks : (a : Answer) (rest : List Answer) (i : InterpData) (s : DeskState) (w : Want) (j : InterpData) (v : DeskState) → law.IsAsking w → next_of None i s ≡ nexted w j v → run None (a ∷ rest) i s ≡ wanting w (run None rest (give_of j v a).interp (give_of j v a).state)
run_asks a rest i s w j v asking e =
    let on : Want → InterpData → DeskState → Ran = λ x k t. answered_so (run None rest) x (give_of k t a) in
    ap (by_want on (a ∷ rest)) e ∙ asks_by on (a ∷ rest) w j v asking

run_waits : (i : InterpData) (s : DeskState) (w : Want) (j : InterpData) (v : DeskState) → law.IsAsking w → next_of None i s ≡ nexted w j v → run None [] i s ≡ unanswered w j v
run_waits i s w j v asking e = ap (by_want unanswered []) e ∙ asks_by unanswered [] w j v asking

run_ends : (i : InterpData) (s : DeskState) (j : InterpData) (v : DeskState) → next_of None i s ≡ nexted want.Done j v → run None [] i s ≡ finished j v []
run_ends i s j v e = ap (by_want unanswered []) e

-- ---- a reaction, from its beginning
module _ (i0 : InterpData) (s0 : DeskState) where
  -- what is still to come makes calls of the whole, and a run of it
  record Goes (asked : List Want) (heard : List Answer) (i : InterpData) (s : DeskState) : Type 0 where
    may : MayGoOn i
    calls : (rest : List Answer) (r : Ran) → Calls rest i s r → Calls (heard ++ rest) i0 s0 (adding asked r)
    runs : (rest : List Answer) → run None (heard ++ rest) i0 s0 ≡ adding asked (run None rest i s)

  -- so does an answer, and what comes behind it
  record Waits (asked : List Want) (heard : List Answer) (i : InterpData) (s : DeskState) : Type 0 where
    awaits : IsWaiting i.stage
    so_far : (run None heard i0 s0).words ≡ i.words
    calls : (a : Answer) (rest : List Answer) (r : Ran) → Calls rest (give_of i s a).interp (give_of i s a).state r → Calls (heard ++ a ∷ rest) i0 s0 (adding asked r)
    runs : (a : Answer) (rest : List Answer) → run None (heard ++ a ∷ rest) i0 s0 ≡ adding asked (run None rest (give_of i s a).interp (give_of i s a).state)

  data Reacts (asked : List Want) (heard : List Answer) (i : InterpData) (s : DeskState) : Type 0 where
    goes : Goes asked heard i s → Reacts asked heard i s
    waits : Waits asked heard i s → Reacts asked heard i s

  abbrev Stands : List Want → List Answer → Task → DeskState → Type 0
  Stands asked heard (task.Reaction i) s = Reacts asked heard i s
  Stands asked heard _ s = ⊥

  begins : MayGoOn i0 → Reacts [] [] i0 s0
  begins may = goes (record { may = may; calls = λ rest r c. c; runs = λ rest. refl })

  -- ---- a want
  asks_on : (asked : List Want) (heard : List Answer) (i : InterpData) (s : DeskState) (w : Want) (j : InterpData) (v : DeskState) → Goes asked heard i s → law.IsAsking w → next_of None i s ≡ nexted w j v → Waits (asked ++ w ∷ []) heard j v
  asks_on asked heard i s w j v g asking e =
      record {
        awaits = asking_awaits w j.stage asking (subst NextStands e (next_stands None i s));
        so_far =
            ap (λ (l : List Answer). (run None l i0 s0).words) (sym (append-nil heard))
            ∙ ap (λ (r : Ran). r.words) (g.runs [] ∙ ap (adding asked) (run_waits i s w j v asking e));
        calls = λ a rest r c. subst (λ (x : Ran). Calls (heard ++ a ∷ rest) i0 s0 x) (adding-wanting asked w r) (g.calls (a ∷ rest) (wanting w r) (got_one a rest i s w j v r asking e c));
        runs = λ a rest. g.runs (a ∷ rest) ∙ ap (adding asked) (run_asks a rest i s w j v asking e) ∙ adding-wanting asked w (run None rest (give_of j v a).interp (give_of j v a).state);
      }

  wants_on : (asked : List Want) (heard : List Answer) (i : InterpData) (s : DeskState) (w : Want) (j : InterpData) (v : DeskState) → Reacts asked heard i s → MayGoOn i → law.IsAsking w → next_of None i s ≡ nexted w j v → Reacts (asked ++ w ∷ []) heard j v
  wants_on asked heard i s w j v (goes g) may asking e = waits (asks_on asked heard i s w j v g asking e)
  wants_on asked heard i s w j v (waits h) may asking e = may_not i.stage h.awaits may

  -- ---- an answer
  hears_on : (asked : List Want) (heard : List Answer) (i : InterpData) (s : DeskState) (a : Answer) → Reacts asked heard i s → Answers i a → Reacts asked (heard ++ a ∷ []) (give_of i s a).interp (give_of i s a).state
  hears_on asked heard i s a (goes g) h = not_answered i.stage a g.may h
  hears_on asked heard i s a (waits g) h =
      goes (record {
        may = give_may i.stage i s a h;
        calls = λ rest r c. subst (λ (l : List Answer). Calls l i0 s0 (adding asked r)) (sym (append_assoc heard (a ∷ []) rest)) (g.calls a rest r c);
        runs = λ rest. ap (λ (l : List Answer). run None l i0 s0) (append_assoc heard (a ∷ []) rest) ∙ g.runs a rest;
      })

  -- ---- all of it
  stands : (asked : List Want) (heard : List Answer) (t : Task) (s : DeskState) → MayGoOn i0 → Comes s0 (task.Reaction i0) asked heard t s → Stands asked heard t s
  stands _ _ _ _ may0 the.begun = begins may0
  stands _ _ _ _ may0 (the.wanted asked heard (task.Reaction i) s w u v c may asking e) =
      let n = next_is (next_of None i s) w u v e in
      subst (λ (x : Task). Stands (asked ++ w ∷ []) heard x v) (sym n.task_is)
      (wants_on asked heard i s w n.interp v (stands asked heard (task.Reaction i) s may0 c) may asking n.is)
  stands _ _ _ _ may0 (the.given asked heard (task.Reaction i) s a c h) =
      hears_on asked heard i s a (stands asked heard (task.Reaction i) s may0 c) h
  stands _ _ _ _ may0 (the.wanted asked heard (task.Property token place m) s w u v c may asking e) = absurd (stands asked heard (task.Property token place m) s may0 c)
  stands _ _ _ _ may0 (the.wanted asked heard (task.BuiltIn token m) s w u v c may asking e) = absurd (stands asked heard (task.BuiltIn token m) s may0 c)
  stands _ _ _ _ may0 (the.wanted asked heard (task.Forward looper popped spare) s w u v c may asking e) = absurd (stands asked heard (task.Forward looper popped spare) s may0 c)
  stands _ _ _ _ may0 (the.wanted asked heard (task.Forwarding spare) s w u v c may asking e) = absurd (stands asked heard (task.Forwarding spare) s may0 c)
  stands _ _ _ _ may0 (the.wanted asked heard (task.Done word reply quit) s w u v c may asking e) = absurd (stands asked heard (task.Done word reply quit) s may0 c)
  stands _ _ _ _ may0 (the.given asked heard (task.Property token place m) s a c h) = absurd h
  stands _ _ _ _ may0 (the.given asked heard (task.BuiltIn token m) s a c h) = absurd h
  stands _ _ _ _ may0 (the.given asked heard (task.Forward looper popped spare) s a c h) = absurd h
  stands _ _ _ _ may0 (the.given asked heard (task.Forwarding spare) s a c h) = absurd (stands asked heard (task.Forwarding spare) s may0 c)
  stands _ _ _ _ may0 (the.given asked heard (task.Done word reply quit) s a c h) = absurd h

-- ---- where an action finds no memory, the last word tells it
abbrev LastTells : Nexted → Type 0
LastTells (nexted w i s) = Unit {0}
LastTells (failed i s) = ran_out i.words ≡ true

module _ (memory : Option ℕ) where
  carried_tells : (rest : List Action) → ((i : InterpData) (s : DeskState) → LastTells (go_on memory rest i s)) → (d : Doing) (i : InterpData) (s : DeskState) → LastTells (then_go_on (go_on memory rest) (carried d i s))
  carried_tells rest on (says e) i s = on (past e i) s
  carried_tells rest on (replies m) i s = on (past error.Ok (record i { reply = Some m })) s
  carried_tells rest on (puts place value) i s = on (past error.Ok i) (put s i.token place value)
  carried_tells rest on (sends to how m) i s = tt
  carried_tells rest on (finds w how m) i s = tt
  carried_tells rest on stops i s = tt
  carried_tells rest on quits i s = on (past error.Ok (record i { quit = true })) s

  step_tells : (b : Bool) (x y : Nexted) → LastTells x → LastTells y → LastTells (cond b x y)
  step_tells true x y h g = h
  step_tells false x y h g = g

  go_on_tells : (list : List Action) (i : InterpData) (s : DeskState) → LastTells (go_on memory list i s)
  go_on_tells [] i s = tt
  go_on_tells (a ∷ rest) i s =
      step_tells (is_at memory i.place) (failed (out_of_memory i) s)
      (then_go_on (go_on memory rest) (carried (doing_of s i.token i.message (is_some i.reply) a) i s))
      (ran_out-push i.words (word.Error error.NoMemory))
      (carried_tells rest (go_on_tells rest) (doing_of s i.token i.message (is_some i.reply) a) i s)

  next_tells : (at : Stage) (i : InterpData) (s : DeskState) → LastTells (next_at at memory i s)
  next_tells stage.Ready i s = go_on_tells (drop i.place (actions_of s i.token i.reaction)) i s
  next_tells (stage.Finding how m) i s = tt
  next_tells (stage.Found looper how m) i s = tt
  next_tells (stage.Sent how) i s = tt
  next_tells stage.Ended i s = tt

-- ---- what it comes to
abbrev by_ran : Ran → Dispatch
by_ran r =
    record {
      state = r.state;
      wants = r.wants;
      words = r.words;
      reply = Some (unwrap_or r.reply none_reply);
      quit = r.quit;
      no_memory = ran_out r.words;
      waits = r.waits;
      answers = r.answers;
    }

module _ (act : CallsAct) (runs_act : RunsAct) (s0 : DeskState) (m : MessageData) (token place : ℕ) where
  abbrev first : InterpData
  first = started m token place

  abbrev reacted : List Answer → Option ℕ → Dispatch
  reacted answers memory = by_reaction (acts s0 token m (actions_of s0 token place) answers memory)

  -- with what has gone so far, and what its run comes to from here
  ran_so : (asked : List Want) (heard : List Answer) (i : InterpData) (s : DeskState) (r : Ran) → Goes first s0 asked heard i s → run None [] i s ≡ r → reacted heard None ≡ by_ran (adding asked r)
  ran_so asked heard i s r g e =
      ap by_ran (sym (runs_act s0 m token place heard None) ∙ ap (λ (l : List Answer). run None l first s0) (sym (append-nil heard)) ∙ g.runs [] ∙ ap (adding asked) e)

  came_so : (asked : List Want) (j : InterpData) (v : DeskState) → by_ran (adding asked (finished j v [])) ≡ came_to asked (came_of (task.Reaction j)) v
  came_so asked j v = ap (λ (ws : List Want). came_to ws (came_of (task.Reaction j)) v) (append-nil asked)

  -- it ran out at some place, since without that the answers would not have it told
  at_some_place : (asked : List Want) (heard : List Answer) (j : InterpData) (v : DeskState) (memory : Option ℕ) → reacted heard memory ≡ came_to asked (came_of (task.Reaction j)) v → ran_out j.words ≡ true → ran_out (reacted heard None).words ≡ false → (at : ℕ) × (reacted heard (Some at) ≡ came_to asked (came_of (task.Reaction j)) v)
  at_some_place asked heard j v (Some at) is told without = (at, is)
  at_some_place asked heard j v None is told without = absurd (false≢true (sym without ∙ ap (λ (d : Dispatch). ran_out d.words) is ∙ told))

  fails_there : (asked : List Want) (heard : List Answer) (i : InterpData) (s : DeskState) (u : Task) (v : DeskState) → Goes first s0 asked heard i s → IsClear i.stage i.place i.words → the.want_of (Some (place_in u)) (task.Reaction i) s ≡ wants_none u v → FailsSo reacted asked heard u v
  fails_there asked heard i s u v g clear e =
      let n = failed_is (next_of (Some (place_in u)) i s) u v e in
      let there : next_of (Some n.interp.place) i s ≡ failed n.interp v = ap (λ (x : Task). next_of (Some (place_in x)) i s) (sym n.task_is) ∙ n.is in
      let c : Calls heard first s0 (adding asked (finished n.interp v [])) =
      subst (λ (l : List Answer). Calls l first s0 (adding asked (finished n.interp v []))) (append-nil heard)
      (g.calls [] (finished n.interp v []) (found_none [] i s n.interp v there)) in
      let whole = act s0 m token place heard (adding asked (finished n.interp v [])) c in
      let is : reacted heard whole.0 ≡ came_to asked (came_of (task.Reaction n.interp)) v = ap by_ran (sym whole.1) ∙ came_so asked n.interp v in
      let told : ran_out n.interp.words ≡ true = subst LastTells there (next_tells (Some n.interp.place) i.stage i s) in
      let without : ran_out (reacted heard None).words ≡ false =
      ap (λ (d : Dispatch). ran_out d.words) (ran_so asked heard i s (run None [] i s) g refl) ∙ clear_without n.interp.place i.stage i s n.interp v clear there in
      let there_it_did = at_some_place asked heard n.interp v whole.0 is told without in
      fails_so reacted there_it_did.0 asked heard (task.Reaction n.interp) u v v there_it_did.1 (sym n.task_is) refl told without

  outcomes_of : (asked : List Want) (heard : List Answer) (i : InterpData) (s : DeskState) → Reacts first s0 asked heard i s → IsClear i.stage i.place i.words → Outcomes reacted asked heard (task.Reaction i) s
  outcomes_of asked heard i s (goes g) clear = record {
    waits = λ w u v may asking e.
        let n = next_is (next_of None i s) w u v e in
        let whole = ran_so asked heard i s (unanswered w n.interp v) g (run_waits i s w n.interp v asking n.is) in
        record {
          wants = ap (λ (p : Dispatch). p.wants) whole;
          state = ap (λ (p : Dispatch). p.state) whole;
          used = ap (λ (p : Dispatch). p.answers) whole;
          waits = ap (λ (p : Dispatch). p.waits) whole;
        };
    ends = λ u v may e.
        let n = next_is (next_of None i s) want.Done u v e in
        let whole = ran_so asked heard i s (finished n.interp v []) g (run_ends i s n.interp v n.is) in
        ends_so reacted None asked heard (task.Reaction n.interp) u v v (whole ∙ came_so asked n.interp v) (sym n.task_is) refl;
    fails = λ u v may e. fails_there asked heard i s u v g clear e;
    words = λ a takes. not_answered i.stage a g.may takes;
  }
  outcomes_of asked heard i s (waits h) clear = record {
    waits = λ w u v may asking e. may_not i.stage h.awaits may;
    ends = λ u v may e. may_not i.stage h.awaits may;
    fails = λ u v may e. may_not i.stage h.awaits may;
    words = λ a takes. ap (λ (r : Ran). r.words) (sym (runs_act s0 m token place heard None)) ∙ h.so_far;
  }

  outcomes_at : (asked : List Want) (heard : List Answer) (t : Task) (s : DeskState) → Stands first s0 asked heard t s → TaskKeeps token place t s → Outcomes reacted asked heard t s
  outcomes_at asked heard (task.Reaction i) s h kept = outcomes_of asked heard i s h kept.clear
  outcomes_at asked heard (task.Property at place m) s h kept = absurd h
  outcomes_at asked heard (task.BuiltIn at m) s h kept = absurd h
  outcomes_at asked heard (task.Forward looper popped spare) s h kept = absurd h
  outcomes_at asked heard (task.Forwarding spare) s h kept = absurd h
  outcomes_at asked heard (task.Done word reply quit) s h kept = absurd h

  reaction_comes : (asked : List Want) (heard : List Answer) (t : Task) (s : DeskState) → Comes s0 (task.Reaction first) asked heard t s → Outcomes reacted asked heard t s
  reaction_comes asked heard t s c = outcomes_at asked heard t s (stands first s0 asked heard t s tt c) (keeps_on s0 m token place asked heard t s c)

-- ---- each route
module _ (act : CallsAct) (runs_act : RunsAct) (s0 : DeskState) (m : MessageData) where
  taken_comes : (token : ℕ) (t0 : Taker) (asked : List Want) (heard : List Answer) (t : Task) (s : DeskState) → Comes s0 (taken_as token m t0) asked heard t s → Outcomes (λ answers memory. taken s0 token m t0 answers memory) asked heard t s
  taken_comes token (taker.Property place) asked heard t s c = property_comes s0 token place m asked heard t s c
  taken_comes token (taker.Reaction place) asked heard t s c = reaction_comes act runs_act s0 m token place asked heard t s c
  taken_comes token taker.BuiltIn asked heard t s c = built_in_comes s0 token m asked heard t s c

  routed_comes : (r : Route) (asked : List Want) (heard : List Answer) (t : Task) (s : DeskState) → Comes s0 (task_by s0.first m r) asked heard t s → Outcomes (λ answers memory. by_route s0 m r answers memory) asked heard t s
  routed_comes (route.Deliver token t0) asked heard t s c = taken_comes token t0 asked heard t s c
  routed_comes route.Skipped asked heard t s c = ready_comes s0 none_reply asked heard t s c
  routed_comes route.Dropped asked heard t s c = ready_comes s0 none_reply asked heard t s c
  routed_comes route.NotUnderstood asked heard t s c = ready_comes s0 not_understood asked heard t s c
  routed_comes (route.Forward looper) asked heard t s c = forward_comes s0 (s0.first + looper) m.popped asked heard t s c

pub dispatch_comes : CallsAct → RunsAct → (s0 : DeskState) (item : ItemData) (asked : List Want) (heard : List Answer) (t : Task) (s : DeskState) → Comes s0 (task_of s0.first (routed_of s0 item)) asked heard t s → Outcomes (dispatch_of s0 item) asked heard t s
dispatch_comes act runs_act s0 item asked heard t s c =
    routed_comes act runs_act s0 (routed_of s0 item).message (routed_of s0 item).route asked heard t s c

-- ---- what may come behind a want
taken_by_stage : (w : Want) (i : InterpData) → StandsBehind w i.stage → Awaits w (task.Reaction i)
taken_by_stage want.Done i h = h
taken_by_stage (want.Find word) i h = λ a g. found_by i.stage a h g
  where
    found_by : (at : Stage) (a : Answer) → IsFinding at → AnswersFind a → AnswersStage at a
    found_by stage.Ready a h g = absurd h
    found_by (stage.Finding how m) a h g = g
    found_by (stage.Found looper how m) a h g = absurd h
    found_by (stage.Sent how) a h g = absurd h
    found_by stage.Ended a h g = absurd h
taken_by_stage (want.Post to m back) i h = λ a g. sent_so IsPosting (λ at. AnswersStage at a) (λ how so. by_way how a so g) i.stage h
  where
    by_way : (how : Sending) (a : Answer) → IsPosting how → AnswersPost a → AnswersSend how a
    by_way (sending.Post back) a h g = g back
    by_way (sending.Ask into) a h g = absurd h
taken_by_stage (want.Ask to m) i h = λ a g. sent_so IsAsking (λ at. AnswersStage at a) (λ how so. by_way how a so g) i.stage h
  where
    by_way : (how : Sending) (a : Answer) → IsAsking how → AnswersAsk a → AnswersSend how a
    by_way (sending.Post back) a h g = absurd h
    by_way (sending.Ask into) a h g = g into
taken_by_stage (want.Forward looper popped) i h = absurd h

pub reaction_awaits : (w : Want) (i j : InterpData) (s t : DeskState) → next_of None i s ≡ nexted w j t → Awaits w (task.Reaction j)
reaction_awaits w i j s t e = taken_by_stage w j (subst NextStands e (next_stands None i s))

pub reaction_ends : (place : ℕ) (i j : InterpData) (s t : DeskState) → next_of (Some place) i s ≡ failed j t → IsDone (task.Reaction j)
reaction_ends place i j s t e = subst NextStands e (next_stands (Some place) i s)

pub reaction_goes_on : (i j : InterpData) (s t : DeskState) (a : Answer) → Answers i a → give_of i s a ≡ record { interp = j; state = t } → MayWant (task.Reaction j)
reaction_goes_on i j s t a h e = subst (λ (g : Given). MayGoOn g.interp) e (give_may i.stage i s a h)

-- as the calls tell it
pub reactions_await : (i : InterpData) (s : DeskState) (j : InterpData) (t : DeskState) (r : Result Want NoMemory) → IfOk r (λ w. next_of None i s ≡ nexted w j t) → IfOk r (λ w. Awaits w (task.Reaction j))
reactions_await i s j t (Ok w) e = reaction_awaits w i j s t e
reactions_await i s j t (Err n) e = tt

pub reactions_end : (i : InterpData) (s : DeskState) (j : InterpData) (t : DeskState) (r : Result Want NoMemory) → OnErr r (next_of (Some j.place) i s ≡ failed j t) → OnErr r (j.stage ≡ stage.Ended)
reactions_end i s j t (Ok w) e = tt
reactions_end i s j t (Err n) e = reaction_ends j.place i j s t e
