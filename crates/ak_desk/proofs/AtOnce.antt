-- A task without actions: one that is done at once, and a message that is sent on.
use Rattle.std.proofs.Common.{◌≡◌, ℕ, true, false, List, [], ◌∷◌, ◌++◌, Option, None, Some, is_some, refl, sym, ap, subst, ◌∙◌}
use Rattle.ak_message.specs.Message.{MessageData}
use Rattle.ak_action.specs.declared.answer.Answer.{Answer}
use Rattle.ak_action.specs.declared.answer.Answer.TheVariants as answer
use Rattle.ak_action.specs.declared.answer.Want.{Want}
use Rattle.ak_action.specs.declared.answer.Want.TheVariants as want
use Rattle.ak_action.specs.declared.state.DeskState.{DeskState}
use Rattle.ak_action.specs.Acts.{error_of}
use Rattle.ak_action.specs.Laws.{IsAsking}
use Rattle.ak_desk.specs.declared.task.Task.{Task}
use Rattle.ak_desk.specs.declared.task.Task.TheVariants as task
use Rattle.ak_desk.specs.Answering.{AnswersForward}
use Rattle.ak_desk.specs.BuiltIns.{built_in_reply, built_in_quits}
use Rattle.ak_desk.specs.Desk.{IsWaiting}
use Rattle.ak_desk.specs.Dispatch.{Dispatch, by_built_in, by_property, came_to, forward_reply, forwarded, ran_out, replied}
use Rattle.ak_desk.specs.Properties.{property_replied}
use Rattle.ak_desk.specs.Task.{Comes, MayWant, TakesAnswer, Wanted, wants, wants_none, came_of, heard_of, place_in, ready, starved, want_of, words_of}
use Rattle.ak_desk.specs.Task as the

-- ---- what the dispatch comes to, by what is wanted next
-- memory ran out at some place, which the last word tells; without that the answers would not have it told
pub record FailsSo (dispatch : List Answer → Option ℕ → Dispatch) (asked : List Want) (heard : List Answer) (u : Task) (v : DeskState) : Type 0 where
  pub place : ℕ
  pub is : dispatch heard (Some place) ≡ came_to asked (came_of u) v
  pub word : ran_out (words_of u) ≡ true
  pub without : ran_out (dispatch heard None).words ≡ false

pub record Outcomes (dispatch : List Answer → Option ℕ → Dispatch) (asked : List Want) (heard : List Answer) (t : Task) (s : DeskState) : Type 0 where
  pub waits : (w : Want) (u : Task) (v : DeskState) → MayWant t → IsAsking w → want_of None t s ≡ wants w u v → IsWaiting (dispatch heard None) (asked ++ w ∷ []) v
  pub ends : (u : Task) (v : DeskState) → MayWant t → want_of None t s ≡ wants want.Done u v → dispatch heard None ≡ came_to asked (came_of u) v
  pub fails : (u : Task) (v : DeskState) → MayWant t → want_of (Some (place_in u)) t s ≡ wants_none u v → FailsSo dispatch asked heard u v
  -- while it waits for an answer
  pub words : (a : Answer) → TakesAnswer t a → (dispatch heard None).words ≡ words_of t

module _ (dispatch : List Answer → Option ℕ → Dispatch) (memory : Option ℕ) (asked : List Want) (heard : List Answer) (t u : Task) (s v : DeskState) (is : dispatch heard memory ≡ came_to asked (came_of t) s) (a : t ≡ u) (b : s ≡ v) where
  pub ends_so : dispatch heard memory ≡ came_to asked (came_of u) v
  ends_so = is ∙ ap (λ (x : Task). came_to asked (came_of x) s) a ∙ ap (came_to asked (came_of u)) b

pub fails_so : (dispatch : List Answer → Option ℕ → Dispatch) (place : ℕ) (asked : List Want) (heard : List Answer) (t u : Task) (s v : DeskState) → dispatch heard (Some place) ≡ came_to asked (came_of t) s → t ≡ u → s ≡ v → ran_out (words_of t) ≡ true → ran_out (dispatch heard None).words ≡ false → FailsSo dispatch asked heard u v
fails_so dispatch place asked heard t u s v is a b word without =
    record {
      place = place;
      is = ends_so dispatch (Some place) asked heard t u s v is a b;
      word = ap (λ (x : Task). ran_out (words_of x)) (sym a) ∙ word;
      without = without;
    }

-- ---- tasks that nothing is asked for
-- what is done at once, of this task in this state, with or without memory
abbrev IsPlain : Task → Type 0
IsPlain (task.Property token place m) = Unit {0}
IsPlain (task.BuiltIn token m) = Unit {0}
IsPlain (task.Done word reply quit) = Unit {0}
IsPlain _ = ⊥

abbrev IsFinal : Task → Type 0
IsFinal (task.Done word reply quit) = Unit {0}
IsFinal _ = ⊥

-- the want is that it is done
abbrev LeadsToEnd : Wanted → Type 0
LeadsToEnd (wants want.Done t s) = IsFinal t
LeadsToEnd (wants _ t s) = ⊥
LeadsToEnd (wants_none t s) = IsFinal t

leads_to_end : (memory : Option ℕ) (t : Task) (s : DeskState) → IsPlain t → LeadsToEnd (want_of memory t s)
leads_to_end None (task.Property token place m) s h = tt
leads_to_end (Some at) (task.Property token place m) s h = tt
leads_to_end None (task.BuiltIn token m) s h = tt
leads_to_end (Some at) (task.BuiltIn token m) s h = tt
leads_to_end memory (task.Done word reply quit) s h = tt
leads_to_end memory (task.Reaction i) s h = absurd h
leads_to_end memory (task.Forward looper popped spare) s h = absurd h
leads_to_end memory (task.Forwarding spare) s h = absurd h

takes_none : {X : Type 0} (t : Task) (a : Answer) → IsPlain t → TakesAnswer t a → X
takes_none (task.Property token place m) a h takes = absurd takes
takes_none (task.BuiltIn token m) a h takes = absurd takes
takes_none (task.Done word reply quit) a h takes = absurd takes
takes_none (task.Reaction i) a h takes = absurd h
takes_none (task.Forward looper popped spare) a h takes = absurd h
takes_none (task.Forwarding spare) a h takes = absurd h

asks_none : {X : Type 0} (w : Want) (t : Task) (s : DeskState) → LeadsToEnd (wants w t s) → IsAsking w → X
asks_none want.Done t s h asking = absurd asking
asks_none (want.Find word) t s h asking = absurd h
asks_none (want.Post to m back) t s h asking = absurd h
asks_none (want.Ask to m) t s h asking = absurd h
asks_none (want.Forward looper popped) t s h asking = absurd h

-- nothing was asked for, and nothing heard
pub data AtStart (s0 : DeskState) (t0 : Task) : List Want → List Answer → Task → DeskState → Type 0 where
  at_start : AtStart s0 t0 [] [] t0 s0

module _ (s0 : DeskState) (t0 : Task) (plain : IsPlain t0) where
  asks_no_more : {X : Type 0} (asked : List Want) (heard : List Answer) (t : Task) (s : DeskState) (w : Want) (u : Task) (v : DeskState) → AtStart s0 t0 asked heard t s → IsAsking w → want_of None t s ≡ wants w u v → X
  asks_no_more _ _ _ _ w u v at_start asking e = asks_none w u v (subst LeadsToEnd e (leads_to_end None t0 s0 plain)) asking

  hears_no_more : {X : Type 0} (asked : List Want) (heard : List Answer) (t : Task) (s : DeskState) (a : Answer) → AtStart s0 t0 asked heard t s → TakesAnswer t a → X
  hears_no_more _ _ _ _ a at_start takes = takes_none t0 a plain takes

  pub plain_stands : (asked : List Want) (heard : List Answer) (t : Task) (s : DeskState) → Comes s0 t0 asked heard t s → AtStart s0 t0 asked heard t s
  plain_stands _ _ _ _ the.begun = at_start
  plain_stands _ _ _ _ (the.wanted asked heard t s w u v c may asking e) = asks_no_more asked heard t s w u v (plain_stands asked heard t s c) asking e
  plain_stands _ _ _ _ (the.given asked heard t s a c takes) = hears_no_more asked heard t s a (plain_stands asked heard t s c) takes

-- ---- each of them
module _ (s0 : DeskState) where
  module _ (token place : ℕ) (m : MessageData) where
    abbrev Accesses : Task
    Accesses = task.Property token place m

    abbrev accessed : List Answer → Option ℕ → Dispatch
    accessed answers memory = by_property s0 (property_replied s0 token place m) (is_some memory) answers

    property_ends : (asked : List Want) (heard : List Answer) (t : Task) (s : DeskState) → AtStart s0 Accesses asked heard t s → Outcomes accessed asked heard t s
    property_ends _ _ _ _ at_start =
        let r = property_replied s0 token place m in
        record {
          waits = λ w u v may asking e. asks_no_more s0 Accesses tt [] [] Accesses s0 w u v at_start asking e;
          ends = λ u v may e.
              let task_same : task.Done None (Some r.reply) false ≡ u = cc in
              let state_same : r.state ≡ v = cc in
              ends_so accessed None [] [] (task.Done None (Some r.reply) false) u r.state v refl task_same state_same;
          fails = λ u v may e.
              let task_same : starved false ≡ u = cc in
              let state_same : s0 ≡ v = cc in
              fails_so accessed 0 [] [] (starved false) u s0 v refl task_same state_same refl refl;
          words = λ a takes. absurd takes;
        }

    pub property_comes : (asked : List Want) (heard : List Answer) (t : Task) (s : DeskState) → Comes s0 Accesses asked heard t s → Outcomes accessed asked heard t s
    property_comes asked heard t s c = property_ends asked heard t s (plain_stands s0 Accesses tt asked heard t s c)

  module _ (token : ℕ) (m : MessageData) where
    abbrev Knows : Task
    Knows = task.BuiltIn token m

    abbrev known : List Answer → Option ℕ → Dispatch
    known answers memory = by_built_in s0 token m (is_some memory) answers

    built_in_ends : (asked : List Want) (heard : List Answer) (t : Task) (s : DeskState) → AtStart s0 Knows asked heard t s → Outcomes known asked heard t s
    built_in_ends _ _ _ _ at_start =
        let last : Task = task.Done None (Some (built_in_reply s0 token m)) (built_in_quits s0 m) in
        record {
          waits = λ w u v may asking e. asks_no_more s0 Knows tt [] [] Knows s0 w u v at_start asking e;
          ends = λ u v may e.
              let task_same : last ≡ u = cc in
              let state_same : s0 ≡ v = cc in
              ends_so known None [] [] last u s0 v refl task_same state_same;
          fails = λ u v may e.
              let task_same : starved (built_in_quits s0 m) ≡ u = cc in
              let state_same : s0 ≡ v = cc in
              fails_so known 0 [] [] (starved (built_in_quits s0 m)) u s0 v refl task_same state_same refl refl;
          words = λ a takes. absurd takes;
        }

    pub built_in_comes : (asked : List Want) (heard : List Answer) (t : Task) (s : DeskState) → Comes s0 Knows asked heard t s → Outcomes known asked heard t s
    built_in_comes asked heard t s c = built_in_ends asked heard t s (plain_stands s0 Knows tt asked heard t s c)

  module _ (reply : MessageData) where
    abbrev made : List Answer → Option ℕ → Dispatch
    made answers memory = replied s0 reply false answers

    ready_ends : (asked : List Want) (heard : List Answer) (t : Task) (s : DeskState) → AtStart s0 (ready reply) asked heard t s → Outcomes made asked heard t s
    ready_ends _ _ _ _ at_start = record {
      waits = λ w u v may asking e. asks_no_more s0 (ready reply) tt [] [] (ready reply) s0 w u v at_start asking e;
      ends = λ u v may e.
          let task_same : ready reply ≡ u = cc in
          let state_same : s0 ≡ v = cc in
          ends_so made None [] [] (ready reply) u s0 v refl task_same state_same;
      fails = λ u v may e. absurd cc;
      words = λ a takes. absurd takes;
    }

    pub ready_comes : (asked : List Want) (heard : List Answer) (t : Task) (s : DeskState) → Comes s0 (ready reply) asked heard t s → Outcomes made asked heard t s
    ready_comes asked heard t s c = ready_ends asked heard t s (plain_stands s0 (ready reply) tt asked heard t s c)

-- ---- a message that is sent on
module _ (s0 : DeskState) (looper popped : ℕ) where
  abbrev TheWant : Want
  TheWant = want.Forward looper popped

  data Sent : List Want → List Answer → Task → DeskState → Type 0 where
    not_sent : Sent [] [] (task.Forward looper popped tt) s0
    sent : Sent (TheWant ∷ []) [] (task.Forwarding tt) s0
    told : (a : Answer) → AnswersForward a → Sent (TheWant ∷ []) (a ∷ []) (task.Done (Some (error_of a)) (forward_reply a) false) s0

  send_on : (asked : List Want) (heard : List Answer) (t : Task) (s : DeskState) (w : Want) (u : Task) (v : DeskState) → Sent asked heard t s → MayWant t → IsAsking w → want_of None t s ≡ wants w u v → Sent (asked ++ w ∷ []) heard u v
  send_on _ _ _ _ w u v not_sent may asking e =
      let want_same : TheWant ≡ w = cc in
      let task_same : task.Forwarding tt ≡ u = cc in
      let state_same : s0 ≡ v = cc in
      subst (λ (x : Want). Sent (x ∷ []) [] u v) want_same
      (subst (Sent (TheWant ∷ []) [] u) state_same (subst (λ (x : Task). Sent (TheWant ∷ []) [] x s0) task_same sent))
  send_on _ _ _ _ w u v sent may asking e = absurd may
  send_on _ _ _ _ w u v (told a h) may asking e =
      let want_same : want.Done ≡ w = cc in
      absurd (subst IsAsking (sym want_same) asking)

  hear_on : (asked : List Want) (heard : List Answer) (t : Task) (s : DeskState) (a : Answer) → Sent asked heard t s → TakesAnswer t a → Sent asked (heard ++ a ∷ []) (heard_of t s a).task (heard_of t s a).state
  hear_on _ _ _ _ a not_sent takes = absurd takes
  hear_on _ _ _ _ a sent takes = told a takes
  hear_on _ _ _ _ a (told b h) takes = absurd takes

  sent_stands : (asked : List Want) (heard : List Answer) (t : Task) (s : DeskState) → Comes s0 (task.Forward looper popped tt) asked heard t s → Sent asked heard t s
  sent_stands _ _ _ _ the.begun = not_sent
  sent_stands _ _ _ _ (the.wanted asked heard t s w u v c may asking e) = send_on asked heard t s w u v (sent_stands asked heard t s c) may asking e
  sent_stands _ _ _ _ (the.given asked heard t s a c takes) = hear_on asked heard t s a (sent_stands asked heard t s c) takes

  abbrev LastOf : Answer → Task
  LastOf a = task.Done (Some (error_of a)) (forward_reply a) false

  told_is : (a : Answer) → AnswersForward a → forwarded s0 TheWant (a ∷ []) ≡ came_to (TheWant ∷ []) (came_of (LastOf a)) s0
  told_is (answer.Team team first) h = absurd h
  told_is answer.NoTeam h = absurd h
  told_is (answer.Written at) h = refl
  told_is answer.Full h = absurd h
  told_is answer.Closed h = refl
  told_is answer.Spent h = refl
  told_is answer.TooLong h = absurd h
  told_is (answer.Reply flat m) h = absurd h
  told_is answer.NoMemory h = refl

  abbrev sent_so : List Answer → Option ℕ → Dispatch
  sent_so answers memory = forwarded s0 TheWant answers

  sent_ends : (asked : List Want) (heard : List Answer) (t : Task) (s : DeskState) → Sent asked heard t s → Outcomes sent_so asked heard t s
  sent_ends _ _ _ _ not_sent = record {
    waits = λ w u v may asking e.
        let want_same : TheWant ≡ w = cc in
        let state_same : s0 ≡ v = cc in
        record { wants = ap (λ (x : Want). x ∷ []) want_same; state = state_same; used = refl; waits = refl };
    ends = λ u v may e.
        let never : TheWant ≡ want.Done = cc in
        absurd cc;
    fails = λ u v may e. absurd cc;
    words = λ a takes. absurd takes;
  }
  sent_ends _ _ _ _ sent =
      record { waits = λ w u v may asking e. absurd may; ends = λ u v may e. absurd may; fails = λ u v may e. absurd may; words = λ a takes. refl }
  sent_ends _ _ _ _ (told a h) = record {
    waits = λ w u v may asking e.
        let want_same : want.Done ≡ w = cc in
        absurd (subst IsAsking (sym want_same) asking);
    ends = λ u v may e.
        let task_same : LastOf a ≡ u = cc in
        let state_same : s0 ≡ v = cc in
        ends_so sent_so None (TheWant ∷ []) (a ∷ []) (LastOf a) u s0 v (told_is a h) task_same state_same;
    fails = λ u v may e. absurd cc;
    words = λ b takes. absurd takes;
  }

  pub forward_comes : (asked : List Want) (heard : List Answer) (t : Task) (s : DeskState) → Comes s0 (task.Forward looper popped tt) asked heard t s → Outcomes sent_so asked heard t s
  forward_comes asked heard t s c = sent_ends asked heard t s (sent_stands asked heard t s c)
