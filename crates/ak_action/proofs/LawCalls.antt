-- The calls of a caller come to what the actions come to.
use Rattle.std.proofs.Common.{◌≡◌, ℕ, ◌+◌, ◌<◌, ◌≤◌, Bool, true, false, cond, List, [], ◌∷◌, drop, Option, None, Some, is_some, refl, sym, ap, subst, ◌∙◌, ne_eqb, eqb-true, arith}
use Rattle.ak_base.specs.declared.error.KitError.TheVariants as error
use Rattle.ak_message.specs.Message.{MessageData}
use Rattle.ak_action.specs.declared.action.Action.{Action}
use Rattle.ak_action.specs.declared.answer.Answer.{Answer}
use Rattle.ak_action.specs.declared.answer.Want.{Want}
use Rattle.ak_action.specs.declared.answer.Want.TheVariants as want
use Rattle.ak_action.specs.declared.doing.Sending.{Sending}
use Rattle.ak_action.specs.declared.interp.Stage.{Stage}
use Rattle.ak_action.specs.declared.interp.Stage.TheVariants as stage
use Rattle.ak_action.specs.declared.state.DeskState.{DeskState}
use Rattle.ak_action.specs.Acts.{is_at, put, want_of}
use Rattle.ak_action.specs.Doing.{Doing, says, replies, puts, sends, finds, stops, quits, doing_of, preferred_of}
use Rattle.ak_action.specs.Interp.{InterpData, Nexted, nexted, failed, actions_of, carried, give_at, give_of, go_on, hear_of_send, hear_of_team, next_at, next_of, out_of_memory, past, started, then_go_on, with_stage}
use Rattle.ak_action.specs.Laws.{Calls, CallsAct, IsAsking, Ran, answered_so, by_want, got_none, got_one, found_none, is_done, run, unanswered, wanting}
use Rattle.ak_action.proofs.Behind.{IsWaiting}
use Rattle.ak_action.proofs.Heard.{heard_of_send, heard_of_team}
use Rattle.ak_action.proofs.LawSteps.{run_is, run_on, runs_act_holds}

-- ---- the place of the next action that memory can fail
abbrev next_place : Stage → ℕ → ℕ
next_place stage.Ready place = place
next_place _ place = place + 1

abbrev place_after : InterpData → ℕ
place_after i = next_place i.stage i.place

heard_place : (how : Sending) (m : MessageData) (i : InterpData) (s : DeskState) (a : Answer) → place_after (hear_of_team how m i a) ≡ i.place + 1
heard_place how m i s a = heard_of_team (λ j t. place_after j ≡ i.place + 1) i s refl how m (λ team first. refl) refl a

sent_place : (how : Sending) (i : InterpData) (s : DeskState) (a : Answer) → place_after (hear_of_send how i s a).interp ≡ i.place + 1
sent_place how i s a = heard_of_send (λ j t. place_after j ≡ i.place + 1) i s refl how (λ e other. refl) (λ into flat message. refl) a

-- an answer leaves the action behind
given_place : (at : Stage) (i : InterpData) (s : DeskState) (a : Answer) → IsWaiting at → place_after (give_at at i s a).interp ≡ i.place + 1
given_place stage.Ready i s a waiting = absurd waiting
given_place (stage.Finding how m) i s a waiting = heard_place how m i s a
given_place (stage.Found looper how m) i s a waiting = absurd waiting
given_place (stage.Sent how) i s a waiting = sent_place how i s a
given_place stage.Ended i s a waiting = absurd waiting

-- ---- what it wants
same_want : (w v : Want) (i j : InterpData) (s t : DeskState) → nexted w i s ≡ nexted v j t → w ≡ v
same_want w v i j s t e = cc

same_interp : (w v : Want) (i j : InterpData) (s t : DeskState) → nexted w i s ≡ nexted v j t → i ≡ j
same_interp w v i j s t e = cc

same_failed : (i j : InterpData) (s t : DeskState) → failed i s ≡ failed j t → i ≡ j
same_failed i j s t e = cc

not_failed : {X : Type 0} (w : Want) (i j : InterpData) (s t : DeskState) → nexted w i s ≡ failed j t → X
not_failed w i j s t e = absurd cc

not_asking : {X : Type 0} (w : Want) (i j : InterpData) (s t : DeskState) → nexted want.Done i s ≡ nexted w j t → IsAsking w → X
not_asking w i j s t e asking = absurd (subst IsAsking (sym (same_want want.Done w i j s t e)) asking)

-- from a place on, it came to a want; that a later action finds no memory does not change this
record Wanted (from : ℕ) (next : Option ℕ → Nexted) (w : Want) (j : InterpData) (t : DeskState) : Type 0 where
  place : from ≤ j.place + 1
  waiting : IsWaiting j.stage
  later : (k : ℕ) → j.place < k → next (Some k) ≡ nexted w j t

-- at the action at hand
wanted_now : (from : ℕ) (next : Option ℕ → Nexted) (w v : Want) (i j : InterpData) (s t : DeskState) → from ≤ i.place + 1 → IsWaiting i.stage → ((k : ℕ) → next (Some k) ≡ nexted v i s) → nexted v i s ≡ nexted w j t → Wanted from next w j t
wanted_now from next w v i j s t le waiting is e =
    let same = same_interp v w i j s t e in
    record {
      place = subst (λ (i : InterpData). from ≤ i.place + 1) same le;
      waiting = subst (λ (i : InterpData). IsWaiting i.stage) same waiting;
      later = λ k lt. is k ∙ e;
    }

-- of actions
abbrev GoesTo : List Action → Type 0
GoesTo list =
    (i : InterpData) (s : DeskState) (w : Want) (j : InterpData) (t : DeskState)
    → IsAsking w
    → go_on None list i s ≡ nexted w j t
    → Wanted (i.place + 1) (λ memory. go_on memory list i s) w j t

one_less : (from : ℕ) (next : Option ℕ → Nexted) (w : Want) (j : InterpData) (t : DeskState) → Wanted (from + 1) next w j t → Wanted from next w j t
one_less from next w j t h =
    let le = h.place in
    record { place = omega arith; waiting = h.waiting; later = h.later }

carried_wanted : (rest : List Action) → GoesTo rest → (d : Doing) (i : InterpData) (s : DeskState) (w : Want) (j : InterpData) (t : DeskState) → IsAsking w → then_go_on (go_on None rest) (carried d i s) ≡ nexted w j t → Wanted (i.place + 1) (λ memory. then_go_on (go_on memory rest) (carried d i s)) w j t
carried_wanted rest holds (says e') i s w j t asking e = one_less (i.place + 1) (λ memory. then_go_on (go_on memory rest) (carried (says e') i s)) w j t (holds (past e' i) s w j t asking e)
carried_wanted rest holds (replies m) i s w j t asking e = one_less (i.place + 1) (λ memory. then_go_on (go_on memory rest) (carried (replies m) i s)) w j t (holds (past error.Ok (record i { reply = Some m })) s w j t asking e)
carried_wanted rest holds (puts at value) i s w j t asking e = one_less (i.place + 1) (λ memory. then_go_on (go_on memory rest) (carried (puts at value) i s)) w j t (holds (past error.Ok i) (put s i.token at value) w j t asking e)
carried_wanted rest holds (sends to how m) i s w j t asking e =
    wanted_now (i.place + 1) (λ memory. then_go_on (go_on memory rest) (carried (sends to how m) i s)) w (want_of to how m) (with_stage (stage.Sent how) i) j s t (omega arith) tt (λ k. refl) e
carried_wanted rest holds (finds a how m) i s w j t asking e =
    wanted_now (i.place + 1) (λ memory. then_go_on (go_on memory rest) (carried (finds a how m) i s)) w (want.Find a) (with_stage (stage.Finding how m) i) j s t (omega arith) tt (λ k. refl) e
carried_wanted rest holds stops i s w j t asking e = not_asking w (with_stage stage.Ended (past error.Ok i)) j s t e asking
carried_wanted rest holds quits i s w j t asking e = one_less (i.place + 1) (λ memory. then_go_on (go_on memory rest) (carried quits i s)) w j t (holds (past error.Ok (record i { quit = true })) s w j t asking e)

goes_to : (list : List Action) → GoesTo list
goes_to [] i s w j t asking e = not_asking w (with_stage stage.Ended i) j s t e asking
goes_to (a ∷ rest) i s w j t asking e =
    let h = carried_wanted rest (goes_to rest) (doing_of s i.token i.message (is_some i.reply) a) i s w j t asking e in
    let le = h.place in
    record {
      place = h.place;
      waiting = h.waiting;
      later = λ k lt.
          ap (λ (b : Bool). cond b (failed (out_of_memory i) s) (then_go_on (go_on (Some k) rest) (carried (doing_of s i.token i.message (is_some i.reply) a) i s)))
          (ne_eqb k i.place (λ same. absurd (omega arith)))
          ∙ h.later k lt;
    }

next_wanted : (at : Stage) (i : InterpData) (s : DeskState) (w : Want) (j : InterpData) (t : DeskState) → IsAsking w → next_at at None i s ≡ nexted w j t → Wanted (next_place at i.place) (λ memory. next_at at memory i s) w j t
next_wanted stage.Ready i s w j t asking e =
    one_less i.place (λ memory. next_at stage.Ready memory i s) w j t (goes_to (drop i.place (actions_of s i.token i.reaction)) i s w j t asking e)
next_wanted (stage.Finding how m) i s w j t asking e = not_asking w (with_stage stage.Ended i) j s t e asking
next_wanted (stage.Found looper how m) i s w j t asking e =
    wanted_now (i.place + 1) (λ memory. next_at (stage.Found looper how m) memory i s) w (want_of (preferred_of looper) how m) (with_stage (stage.Sent how) i) j s t (omega arith) tt (λ k. refl) e
next_wanted (stage.Sent how) i s w j t asking e = not_asking w (with_stage stage.Ended i) j s t e asking
next_wanted stage.Ended i s w j t asking e = not_asking w (with_stage stage.Ended i) j s t e asking

-- ---- where an action finds no memory
less_one : (k n : ℕ) → n + 1 ≤ k → n ≤ k
less_one k n le = omega arith

carried_fails : (k : ℕ) (rest : List Action) → ((i : InterpData) (s : DeskState) (j : InterpData) (t : DeskState) → go_on (Some k) rest i s ≡ failed j t → i.place ≤ k) → (d : Doing) (i : InterpData) (s : DeskState) (j : InterpData) (t : DeskState) → then_go_on (go_on (Some k) rest) (carried d i s) ≡ failed j t → i.place ≤ k
carried_fails k rest holds (says e') i s j t e = less_one k i.place (holds (past e' i) s j t e)
carried_fails k rest holds (replies m) i s j t e = less_one k i.place (holds (past error.Ok (record i { reply = Some m })) s j t e)
carried_fails k rest holds (puts at value) i s j t e = less_one k i.place (holds (past error.Ok i) (put s i.token at value) j t e)
carried_fails k rest holds (sends to how m) i s j t e = not_failed (want_of to how m) (with_stage (stage.Sent how) i) j s t e
carried_fails k rest holds (finds a how m) i s j t e = not_failed (want.Find a) (with_stage (stage.Finding how m) i) j s t e
carried_fails k rest holds stops i s j t e = not_failed want.Done (with_stage stage.Ended (past error.Ok i)) j s t e
carried_fails k rest holds quits i s j t e = less_one k i.place (holds (past error.Ok (record i { quit = true })) s j t e)

fails_by : (k : ℕ) (b : Bool) (n : Nexted) (i : InterpData) (s : DeskState) (j : InterpData) (t : DeskState) → is_at (Some k) i.place ≡ b → (n ≡ failed j t → i.place ≤ k) → cond b (failed (out_of_memory i) s) n ≡ failed j t → i.place ≤ k
fails_by k true n i s j t at holds e = let same = eqb-true k i.place at in omega arith
fails_by k false n i s j t at holds e = holds e

go_on_fails : (k : ℕ) (list : List Action) (i : InterpData) (s : DeskState) (j : InterpData) (t : DeskState) → go_on (Some k) list i s ≡ failed j t → i.place ≤ k
go_on_fails k [] i s j t e = not_failed want.Done (with_stage stage.Ended i) j s t e
go_on_fails k (a ∷ rest) i s j t e =
    fails_by k (is_at (Some k) i.place) (then_go_on (go_on (Some k) rest) (carried (doing_of s i.token i.message (is_some i.reply) a) i s)) i s j t refl
    (carried_fails k rest (go_on_fails k rest) (doing_of s i.token i.message (is_some i.reply) a) i s j t) e

next_fails : (k : ℕ) (at : Stage) (i : InterpData) (s : DeskState) (j : InterpData) (t : DeskState) → next_at at (Some k) i s ≡ failed j t → next_place at i.place ≤ k
next_fails k stage.Ready i s j t e = go_on_fails k (drop i.place (actions_of s i.token i.reaction)) i s j t e
next_fails k (stage.Finding how m) i s j t e = not_failed want.Done (with_stage stage.Ended i) j s t e
next_fails k (stage.Found looper how m) i s j t e = not_failed (want_of (preferred_of looper) how m) (with_stage (stage.Sent how) i) j s t e
next_fails k (stage.Sent how) i s j t e = not_failed want.Done (with_stage stage.Ended i) j s t e
next_fails k stage.Ended i s j t e = not_failed want.Done (with_stage stage.Ended i) j s t e

-- ---- the calls are those of a run
abbrev IsBehind : Option ℕ → ℕ → Type 0
IsBehind None place = Unit {0}
IsBehind (Some k) place = place ≤ k

record IsRun (answers : List Answer) (i : InterpData) (s : DeskState) (r : Ran) : Type 0 where
  memory : Option ℕ
  behind : IsBehind memory (place_after i)
  is : r ≡ run memory answers i s

asks_on : (on : Want → InterpData → DeskState → Ran) (answers : List Answer) (w : Want) (j : InterpData) (t : DeskState) → IsAsking w → by_want on answers (nexted w j t) ≡ on w j t
asks_on on answers (want.Find w) j t asking = refl
asks_on on answers (want.Post to m back) j t asking = refl
asks_on on answers (want.Ask to m) j t asking = refl
asks_on on answers (want.Forward looper popped) j t asking = refl
asks_on on answers want.Done j t asking = absurd asking

-- an answer, and what comes behind it
next_is : (memory : Option ℕ) (i : InterpData) (s : DeskState) (w : Want) (j : InterpData) (t : DeskState) (a : Answer) → IsBehind memory (place_after (give_of j t a).interp) → next_of None i s ≡ nexted w j t → Wanted (place_after i) (λ memory. next_of memory i s) w j t → next_of memory i s ≡ nexted w j t
next_is None i s w j t a behind e h = e
next_is (Some k) i s w j t a behind e h =
    let one_on = given_place j.stage j t a h.waiting in
    h.later k (omega arith)

still_behind : (memory : Option ℕ) (i : InterpData) (s : DeskState) (w : Want) (j : InterpData) (t : DeskState) (a : Answer) → IsBehind memory (place_after (give_of j t a).interp) → Wanted (place_after i) (λ memory. next_of memory i s) w j t → IsBehind memory (place_after i)
still_behind None i s w j t a behind h = tt
still_behind (Some k) i s w j t a behind h =
    let one_on = given_place j.stage j t a h.waiting in
    let le = h.place in
    omega arith

got_by : (a : Answer) (rest : List Answer) (i : InterpData) (s : DeskState) (w : Want) (j : InterpData) (t : DeskState) (r : Ran) → IsAsking w → next_of None i s ≡ nexted w j t → IsRun rest (give_of j t a).interp (give_of j t a).state r → IsRun (a ∷ rest) i s (wanting w r)
got_by a rest i s w j t r asking e h =
    let wanted = next_wanted i.stage i s w j t asking e in
    record {
      memory = h.memory;
      behind = still_behind h.memory i s w j t a h.behind wanted;
      is =
          ap (wanting w) h.is
          ∙ sym (asks_on (λ (v : Want) (l : InterpData) (u : DeskState). answered_so (run h.memory rest) v (give_of l u a)) (a ∷ rest) w j t asking)
          ∙ sym (run_is h.memory (a ∷ rest) i s ∙ ap (run_on h.memory (a ∷ rest)) (next_is h.memory i s w j t a h.behind e wanted));
    }

calls_run : (answers : List Answer) (i : InterpData) (s : DeskState) (r : Ran) → Calls answers i s r → IsRun answers i s r
calls_run _ _ _ _ (is_done answers i s j t e) =
    record { memory = None; behind = tt; is = sym (run_is None answers i s ∙ ap (run_on None answers) e) }
calls_run _ _ _ _ (found_none answers i s j t e) =
    record { memory = Some j.place; behind = next_fails j.place i.stage i s j t e; is = sym (run_is (Some j.place) answers i s ∙ ap (run_on (Some j.place) answers) e) }
calls_run _ _ _ _ (got_none i s w j t asking e) =
    record { memory = None; behind = tt; is = sym (run_is None [] i s ∙ ap (run_on None []) e ∙ asks_on unanswered [] w j t asking) }
calls_run _ _ _ _ (got_one a rest i s w j t r asking e c) =
    got_by a rest i s w j t r asking e (calls_run rest (give_of j t a).interp (give_of j t a).state r c)

pub calls_act_holds : CallsAct
calls_act_holds s m token reaction answers r c =
    let h = calls_run answers (started m token reaction) s r c in
    (h.memory, h.is ∙ runs_act_holds s m token reaction answers h.memory)
