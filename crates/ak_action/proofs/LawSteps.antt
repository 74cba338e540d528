-- A reaction that is carried out action by action comes to what its actions come to with all answers at once.
use Rattle.std.proofs.Common.{◌≡◌, ℕ, zero, suc, ◌+◌, Bool, true, false, cond, List, [], ◌∷◌, ◌++◌, drop, Option, None, Some, is_some, refl, sym, ap, ◌∙◌, append_assoc, add-one}
use Rattle.std.proofs.lemmas.List.{append-nil}
use Rattle.ak_base.specs.declared.app_word.AppWord.{AppWord}
use Rattle.ak_base.specs.declared.error.KitError.TheVariants as error
use Rattle.ak_message.specs.declared.address.Address.{Address}
use Rattle.ak_message.specs.Message.{MessageData}
use Rattle.ak_action.specs.declared.action.Action.{Action}
use Rattle.ak_action.specs.declared.answer.Answer.{Answer}
use Rattle.ak_action.specs.declared.answer.Answer.TheVariants as answer
use Rattle.ak_action.specs.declared.answer.AnswerWord.{AnswerWord}
use Rattle.ak_action.specs.declared.answer.AnswerWord.TheVariants as word
use Rattle.ak_action.specs.declared.answer.Want.{Want}
use Rattle.ak_action.specs.declared.answer.Want.TheVariants as want
use Rattle.ak_action.specs.declared.doing.Sending.{Sending}
use Rattle.ak_action.specs.declared.doing.Sending.TheVariants as sending
use Rattle.ak_action.specs.declared.interp.Stage.TheVariants as stage
use Rattle.ak_action.specs.declared.state.DeskState.{DeskState}
use Rattle.ak_action.specs.Acts.{Acts, acts_on, asks, carried_out, found, goes_on, is_at, put, sent, taken_in, then_on, want_of, while_going}
use Rattle.ak_action.specs.Acts as all
use Rattle.ak_action.specs.Doing.{Doing, says, replies, puts, sends, finds, stops, quits, doing_of, preferred_of}
use Rattle.ak_action.specs.Interp.{InterpData, Nexted, nexted, failed, actions_of, carried, give_of, go_on, next_of, out_of_memory, started, then_go_on, with_stage}
use Rattle.ak_action.specs.Laws.{Ran, RunsAct, answered_so, by_want, ran_of, run, unanswered, wanting}
use Rattle.ak_action.proofs.Rows.{actions-put, actions-taken_in}

-- one further
pub next_drop : {A : Type 0} (n : ℕ) (all : List A) (x : A) (rest : List A) → drop n all ≡ x ∷ rest → drop (n + 1) all ≡ rest
next_drop n all x rest e = rw add-one (by_suc n all x rest e)
  where
    by_suc : {A : Type 0} (n : ℕ) (all : List A) (x : A) (rest : List A) → drop n all ≡ x ∷ rest → drop (suc n) all ≡ rest
    by_suc zero [] x rest e = absurd cc
    by_suc zero (y ∷ all) x rest e = cc
    by_suc (suc n) [] x rest e = absurd cc
    by_suc (suc n) (y ∷ all) x rest e = by_suc n all x rest e

-- where more was wanted before
abbrev adding : List Want → Ran → Ran
adding wants r = record r { wants = wants ++ r.wants }

adding-wanting : (wants : List Want) (w : Want) (r : Ran) → adding wants (wanting w r) ≡ adding (wants ++ w ∷ []) r
adding-wanting wants w r = ap (λ (ws : List Want). record r { wants = ws }) (sym (append_assoc wants (w ∷ []) r.wants))

no_more : (wants : List Want) (r : Ran) → r.wants ≡ [] → adding wants r ≡ record r { wants = wants }
no_more wants r e = ap (λ (ws : List Want). record r { wants = ws }) (ap (wants ++◌) e ∙ append-nil wants)

-- ---- a run, from what it wants next
module _ (memory : Option ℕ) where
  abbrev after_want : List Answer → Want → InterpData → DeskState → Ran
  after_want [] w i s = unanswered w i s
  after_want (a ∷ rest) w i s = answered_so (run memory rest) w (give_of i s a)

  abbrev pub run_on : List Answer → Nexted → Ran
  run_on answers n = by_want (after_want answers) answers n

  pub run_is : (answers : List Answer) (i : InterpData) (s : DeskState) → run memory answers i s ≡ run_on answers (next_of memory i s)
  run_is [] i s = refl
  run_is (a ∷ rest) i s = refl

-- one reaction of a handler, on one message
module _ (m : MessageData) (token reaction : ℕ) (memory : Option ℕ) where
  -- ---- where it stands
  abbrev ready : ℕ → List AnswerWord → Option MessageData → Bool → InterpData
  ready place words reply quit =
      record { message = m; token = token; reaction = reaction; place = place; stage = stage.Ready; words = words; reply = reply; quit = quit }

  abbrev going : DeskState → List Want → List AnswerWord → Option MessageData → Bool → List Answer → Acts
  going s wants words reply quit answers =
      record { state = s; wants = wants; words = words; reply = reply; quit = quit; course = goes_on; answers = answers }

  -- ---- what is to be shown: of these actions and answers, and of the answers behind the next one
  abbrev Agree : List Answer → List Action → Type 0
  Agree answers actions =
      (place : ℕ) (s : DeskState) (wants : List Want) (words : List AnswerWord) (reply : Option MessageData) (quit : Bool)
      → drop place (actions_of s token reaction) ≡ actions
      → adding wants (run_on memory answers (go_on memory actions (ready place words reply quit) s))
      ≡ ran_of (acts_on token m memory place actions (going s wants words reply quit answers))

  abbrev Later : List Answer → Type 0
  Later [] = Unit {0}
  Later (a ∷ rest) = ((actions : List Action) → Agree rest actions) × Later rest

  -- ---- after an answer
  goes_further : (rest : List Answer) (later : (actions : List Action) → Agree rest actions) (actions : List Action) (place : ℕ) (s : DeskState) (wants : List Want) (w : Want) (words : List AnswerWord) (reply : Option MessageData) (quit : Bool) → drop place (actions_of s token reaction) ≡ actions → adding wants (wanting w (run memory rest (ready place words reply quit) s)) ≡ ran_of (acts_on token m memory place actions (going s (wants ++ w ∷ []) words reply quit rest))
  goes_further rest later actions place s wants w words reply quit e =
      ap (λ r. adding wants (wanting w r)) (run_is memory rest (ready place words reply quit) s)
      ∙ adding-wanting wants w (run_on memory rest (go_on memory (drop place (actions_of s token reaction)) (ready place words reply quit) s))
      ∙ ap (λ (l : List Action). adding (wants ++ w ∷ []) (run_on memory rest (go_on memory l (ready place words reply quit) s))) e
      ∙ later actions place s (wants ++ w ∷ []) words reply quit e

  -- an answer of no memory ends it
  ends_there : (rest : List Answer) (wants : List Want) (w : Want) (i : InterpData) (s : DeskState) → adding wants (wanting w (run memory rest (with_stage stage.Ended i) s)) ≡ record { state = s; wants = wants ++ w ∷ []; words = i.words; reply = i.reply; quit = i.quit; answers = rest; waits = false }
  ends_there rest wants w i s = ap (λ r. adding wants (wanting w r)) (run_is memory rest (with_stage stage.Ended i) s)

  module _ (actions : List Action) (place : ℕ) (s : DeskState) (e : drop (place + 1) (actions_of s token reaction) ≡ actions) (reply : Option MessageData) (quit : Bool) where
    -- ---- a message is sent
    answered : (how : Sending) (a : Answer) (rest : List Answer) → ((actions : List Action) → Agree rest actions) → (wants : List Want) (w : Want) (words : List AnswerWord) → adding wants (answered_so (run memory rest) w (give_of (with_stage (stage.Sent how) (ready place words reply quit)) s a)) ≡ ran_of (then_on (acts_on token m memory (place + 1) actions) (all.heard (sent token how) (a ∷ rest) (going s (wants ++ w ∷ []) words reply quit (a ∷ rest))))
    answered how answer.NoMemory rest later wants w words = ends_there rest wants w (ready place (words ++ word.Error error.NoMemory ∷ []) reply quit) s
    answered (sending.Ask into) (answer.Reply flat said) rest later wants w words =
        goes_further rest later actions (place + 1) (taken_in s token into said) wants w (words ++ word.Reply flat ∷ []) reply quit
        (ap (drop (place + 1)) (actions-taken_in s token reaction into said) ∙ e)
    answered (sending.Post back) (answer.Reply flat said) rest later wants w words =
        goes_further rest later actions (place + 1) s wants w (words ++ word.Error error.Ok ∷ []) reply quit e
    answered (sending.Post back) (answer.Team team first) rest later wants w words =
        goes_further rest later actions (place + 1) s wants w (words ++ word.Error error.Ok ∷ []) reply quit e
    answered (sending.Ask into) (answer.Team team first) rest later wants w words =
        goes_further rest later actions (place + 1) s wants w (words ++ word.Error error.Ok ∷ []) reply quit e
    answered (sending.Post back) answer.NoTeam rest later wants w words =
        goes_further rest later actions (place + 1) s wants w (words ++ word.Error error.NoTeam ∷ []) reply quit e
    answered (sending.Ask into) answer.NoTeam rest later wants w words =
        goes_further rest later actions (place + 1) s wants w (words ++ word.Error error.NoTeam ∷ []) reply quit e
    answered (sending.Post back) (answer.Written at) rest later wants w words =
        goes_further rest later actions (place + 1) s wants w (words ++ word.Error error.Ok ∷ []) reply quit e
    answered (sending.Ask into) (answer.Written at) rest later wants w words =
        goes_further rest later actions (place + 1) s wants w (words ++ word.Error error.Ok ∷ []) reply quit e
    answered (sending.Post back) answer.Full rest later wants w words =
        goes_further rest later actions (place + 1) s wants w (words ++ word.Error error.WouldBlock ∷ []) reply quit e
    answered (sending.Ask into) answer.Full rest later wants w words =
        goes_further rest later actions (place + 1) s wants w (words ++ word.Error error.WouldBlock ∷ []) reply quit e
    answered (sending.Post back) answer.Closed rest later wants w words =
        goes_further rest later actions (place + 1) s wants w (words ++ word.Error error.BadPortId ∷ []) reply quit e
    answered (sending.Ask into) answer.Closed rest later wants w words =
        goes_further rest later actions (place + 1) s wants w (words ++ word.Error error.BadPortId ∷ []) reply quit e
    answered (sending.Post back) answer.Spent rest later wants w words =
        goes_further rest later actions (place + 1) s wants w (words ++ word.Error error.Spent ∷ []) reply quit e
    answered (sending.Ask into) answer.Spent rest later wants w words =
        goes_further rest later actions (place + 1) s wants w (words ++ word.Error error.Spent ∷ []) reply quit e
    answered (sending.Post back) answer.TooLong rest later wants w words =
        goes_further rest later actions (place + 1) s wants w (words ++ word.Error error.TooLong ∷ []) reply quit e
    answered (sending.Ask into) answer.TooLong rest later wants w words =
        goes_further rest later actions (place + 1) s wants w (words ++ word.Error error.TooLong ∷ []) reply quit e

    sends_agree : (answers : List Answer) → Later answers → (wants : List Want) (words : List AnswerWord) (to : Address) (how : Sending) (said : MessageData) → adding wants (run_on memory answers (nexted (want_of to how said) (with_stage (stage.Sent how) (ready place words reply quit)) s)) ≡ ran_of (then_on (acts_on token m memory (place + 1) actions) (asks (want_of to how said) (sent token how) (going s wants words reply quit answers)))
    sends_agree [] later wants words to (sending.Post back) said = refl
    sends_agree [] later wants words to (sending.Ask into) said = refl
    sends_agree (a ∷ rest) later wants words to (sending.Post back) said = answered (sending.Post back) a rest later.0 wants (want.Post to said back) words
    sends_agree (a ∷ rest) later wants words to (sending.Ask into) said = answered (sending.Ask into) a rest later.0 wants (want.Ask to said) words

    -- ---- an application is looked for first
    not_found : (rest : List Answer) → ((actions : List Action) → Agree rest actions) → (wants : List Want) (w : Want) (words : List AnswerWord) → adding wants (wanting w (run memory rest (ready (place + 1) ((words ++ word.NoTeam ∷ []) ++ word.Error error.NoTeam ∷ []) reply quit) s)) ≡ ran_of (acts_on token m memory (place + 1) actions (going s (wants ++ w ∷ []) ((words ++ word.NoTeam ∷ []) ++ word.Error error.NoTeam ∷ []) reply quit rest))
    not_found rest later wants w words = goes_further rest later actions (place + 1) s wants w ((words ++ word.NoTeam ∷ []) ++ word.Error error.NoTeam ∷ []) reply quit e

    finds_agree : (answers : List Answer) → Later answers → (wants : List Want) (words : List AnswerWord) (w : AppWord) (how : Sending) (said : MessageData) → adding wants (run_on memory answers (nexted (want.Find w) (with_stage (stage.Finding how said) (ready place words reply quit)) s)) ≡ ran_of (then_on (acts_on token m memory (place + 1) actions) (asks (want.Find w) (found token how said) (going s wants words reply quit answers)))
    finds_agree [] later wants words w how said = refl
    finds_agree (answer.NoMemory ∷ rest) later wants words w how said = ends_there rest wants (want.Find w) (ready place (words ++ word.Error error.NoMemory ∷ []) reply quit) s
    finds_agree (answer.Team team first ∷ rest) later wants words w how said =
        ap (λ r. adding wants (wanting (want.Find w) r)) (run_is memory rest (with_stage (stage.Found first how said) (ready place (words ++ word.Team team ∷ []) reply quit)) s)
        ∙ adding-wanting wants (want.Find w) (run_on memory rest (nexted (want_of (preferred_of first) how said) (with_stage (stage.Sent how) (ready place (words ++ word.Team team ∷ []) reply quit)) s))
        ∙ sends_agree rest later.1 (wants ++ want.Find w ∷ []) (words ++ word.Team team ∷ []) (preferred_of first) how said
    finds_agree (answer.NoTeam ∷ rest) later wants words w how said = not_found rest later.0 wants (want.Find w) words
    finds_agree (answer.Written at ∷ rest) later wants words w how said = not_found rest later.0 wants (want.Find w) words
    finds_agree (answer.Full ∷ rest) later wants words w how said = not_found rest later.0 wants (want.Find w) words
    finds_agree (answer.Closed ∷ rest) later wants words w how said = not_found rest later.0 wants (want.Find w) words
    finds_agree (answer.Spent ∷ rest) later wants words w how said = not_found rest later.0 wants (want.Find w) words
    finds_agree (answer.TooLong ∷ rest) later wants words w how said = not_found rest later.0 wants (want.Find w) words
    finds_agree (answer.Reply flat message ∷ rest) later wants words w how said = not_found rest later.0 wants (want.Find w) words

    -- ---- any action
    action_agrees : (answers : List Answer) → Later answers → Agree answers actions → (wants : List Want) (words : List AnswerWord) (d : Doing) → adding wants (run_on memory answers (then_go_on (go_on memory actions) (carried d (ready place words reply quit) s))) ≡ ran_of (then_on (acts_on token m memory (place + 1) actions) (carried_out token d (going s wants words reply quit answers)))
    action_agrees answers later further wants words (says error) = further (place + 1) s wants (words ++ word.Error error ∷ []) reply quit e
    action_agrees answers later further wants words (replies said) = further (place + 1) s wants (words ++ word.Error error.Ok ∷ []) (Some said) quit e
    action_agrees answers later further wants words (puts at value) =
        further (place + 1) (put s token at value) wants (words ++ word.Error error.Ok ∷ []) reply quit (ap (drop (place + 1)) (actions-put s token reaction at value) ∙ e)
    action_agrees answers later further wants words (sends to how said) = sends_agree answers later wants words to how said
    action_agrees answers later further wants words (finds w how said) = finds_agree answers later wants words w how said
    action_agrees answers later further wants words stops = no_more wants (run_on memory answers (nexted want.Done (with_stage stage.Ended (ready place (words ++ word.Error error.Ok ∷ []) reply quit)) s)) refl
    action_agrees answers later further wants words quits = further (place + 1) s wants (words ++ word.Error error.Ok ∷ []) reply true e

  -- ---- the actions, one after another
  or_no_memory : (answers : List Answer) (b : Bool) (n : Nexted) (p : Acts) (place : ℕ) (s : DeskState) (wants : List Want) (words : List AnswerWord) (reply : Option MessageData) (quit : Bool) → adding wants (run_on memory answers n) ≡ ran_of p → adding wants (run_on memory answers (cond b (failed (out_of_memory (ready place words reply quit)) s) n)) ≡ ran_of (cond b (all.out_of_memory (going s wants words reply quit answers)) p)
  or_no_memory answers true n p place s wants words reply quit h = no_more wants (run_on memory answers (failed (out_of_memory (ready place words reply quit)) s)) refl
  or_no_memory answers false n p place s wants words reply quit h = h

  actions_agree : (answers : List Answer) → Later answers → (actions : List Action) → Agree answers actions
  actions_agree answers later [] place s wants words reply quit e =
      no_more wants (run_on memory answers (nexted want.Done (with_stage stage.Ended (ready place words reply quit)) s)) refl
  actions_agree answers later (a ∷ actions) place s wants words reply quit e =
      or_no_memory answers (is_at memory place)
      (then_go_on (go_on memory actions) (carried (doing_of s token m (is_some reply) a) (ready place words reply quit) s))
      (then_on (acts_on token m memory (place + 1) actions) (carried_out token (doing_of s token m (is_some reply) a) (going s wants words reply quit answers)))
      place s wants words reply quit
      (action_agrees actions place s (next_drop place (actions_of s token reaction) a actions e) reply quit answers later (actions_agree answers later actions) wants words (doing_of s token m (is_some reply) a))

  later_agree : (answers : List Answer) → Later answers
  later_agree [] = tt
  later_agree (a ∷ rest) = let later : Later rest = later_agree rest in (actions_agree rest later, later)

pub runs_act_holds : RunsAct
runs_act_holds s m token reaction answers memory =
    run_is memory answers (started m token reaction) s
    ∙ actions_agree m token reaction memory answers (later_agree m token reaction memory answers) (actions_of s token reaction) 0 s [] [] None false refl
