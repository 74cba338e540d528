-- What a reaction leaves behind is replayed from the words of its actions.
use Rattle.std.proofs.Common.{◌≡◌, ℕ, ◌+◌, Bool, true, false, cond, List, [], ◌∷◌, ◌++◌, All, Option, Some, is_some, Result, Ok, Err, refl, sym, ap, subst, ◌∙◌, append_assoc}
use Rattle.std.proofs.lemmas.List.{append-nil}
use Rattle.std.proofs.lemmas.List.Elements.{All-head, All-tail}
use Rattle.ak_base.specs.declared.error.KitError.{KitError}
use Rattle.ak_base.specs.declared.error.KitError.TheVariants as error
use Rattle.ak_flatten.specs.declared.fault.FlatFault.{FlatFault}
use Rattle.ak_flatten.specs.Reading.{read_message}
use Rattle.ak_flatten.proofs.Surface.{spelled_is_read}
use Rattle.ak_message.specs.Message.{MessageData}
use Rattle.ak_action.specs.declared.action.Action.{Action}
use Rattle.ak_action.specs.declared.answer.Answer.{Answer}
use Rattle.ak_action.specs.declared.answer.Answer.TheVariants as answer
use Rattle.ak_action.specs.declared.answer.AnswerWord.{AnswerWord}
use Rattle.ak_action.specs.declared.answer.AnswerWord.TheVariants as word
use Rattle.ak_action.specs.declared.answer.Want.{Want}
use Rattle.ak_action.specs.declared.answer.Want.TheVariants as want
use Rattle.ak_action.specs.declared.doing.Sending.{Sending}
use Rattle.ak_action.specs.declared.doing.Sending.TheVariants as sending
use Rattle.ak_action.specs.declared.state.DeskState.{DeskState}
use Rattle.ak_action.specs.Acts.{Acts, Course, goes_on, ended, waits, acts_on, asks, carried_out, found, heard, is_at, opened, out_of_memory, put, sent, taken_in, then_on, want_of, while_going, with_course, with_error, with_word}
use Rattle.ak_action.specs.Doing.{Doing, says, replies, puts, sends, finds, stops, quits, doing_of, preferred_of}
use Rattle.ak_action.specs.Laws.{IsSpelled, Outcome, WordsReplay, outcome_of}

-- ---- the replay
abbrev took : DeskState → ℕ → Option ℕ → Result MessageData FlatFault → DeskState
took s token into (Ok m) = taken_in s token into m
took s token into (Err _) = s

-- the first where the word says that there was no memory
abbrev if_no_memory : AnswerWord → Outcome → Outcome → Outcome
if_no_memory (word.Error error.NoMemory) failed done = failed
if_no_memory _ failed done = done

abbrev sent_again : ℕ → (List AnswerWord → Outcome → Outcome) → Sending → AnswerWord → List AnswerWord → Outcome → Outcome
sent_again token on (sending.Ask into) (word.Reply flat) ws k = on ws (record k { state = took k.state token into (read_message flat) })
sent_again token on how w ws k = on ws k

-- nothing without a word
abbrev first_word : (AnswerWord → List AnswerWord → Outcome → Outcome) → List AnswerWord → Outcome → Outcome
first_word on [] k = k
first_word on (w ∷ ws) k = on w ws k

abbrev found_again : ℕ → (List AnswerWord → Outcome → Outcome) → Sending → AnswerWord → List AnswerWord → Outcome → Outcome
found_again token on how (word.Team _) ws k = first_word (sent_again token on how) ws k
found_again token on how word.NoTeam ws k = first_word (λ w. on) ws k
found_again token on how _ ws k = on ws k

-- one action, by its first word and those behind it
abbrev done_again : ℕ → (List AnswerWord → Outcome → Outcome) → Doing → AnswerWord → List AnswerWord → Outcome → Outcome
done_again token on (says _) w ws k = on ws k
done_again token on (replies m) w ws k = if_no_memory w k (on ws (record k { reply = Some m }))
done_again token on (puts place value) w ws k = if_no_memory w k (on ws (record k { state = put k.state token place value }))
done_again token on (sends to how m) w ws k = sent_again token on how w ws k
done_again token on (finds a how m) w ws k = found_again token on how w ws k
done_again token on stops w ws k = k
done_again token on quits w ws k = if_no_memory w k (on ws (record k { quit = true }))

abbrev replayed : ℕ → MessageData → List Action → List AnswerWord → Outcome → Outcome
replayed token m [] ws k = k
replayed token m (a ∷ rest) ws k = first_word (done_again token (replayed token m rest) (doing_of k.state token m (is_some k.reply) a)) ws k

-- no more words, no more done
none_replayed : (token : ℕ) (m : MessageData) (actions : List Action) (k : Outcome) → replayed token m actions [] k ≡ k
none_replayed token m [] k = refl
none_replayed token m (a ∷ rest) k = refl

-- ---- what comes to q from some words and an outcome is replayed from the words that come behind those
record IsReplayed (on : List AnswerWord → Outcome → Outcome) (words : List AnswerWord) (k : Outcome) (q : Acts) : Type 0 where
  more : List AnswerWord
  all : q.words ≡ words ++ more
  outcome : outcome_of q ≡ on more k

module _ (on : List AnswerWord → Outcome → Outcome) (words : List AnswerWord) (k : Outcome) (q : Acts) where
  by_none : q.words ≡ words → outcome_of q ≡ on [] k → IsReplayed on words k q
  by_none same outcome = record { more = []; all = same ∙ sym (append-nil words); outcome = outcome }

  by_one : (w : AnswerWord) → q.words ≡ words ++ w ∷ [] → outcome_of q ≡ on (w ∷ []) k → IsReplayed on words k q
  by_one w same outcome = record { more = w ∷ []; all = same; outcome = outcome }

  -- one word, and what comes behind it
  by_more : (w : AnswerWord) (further : List AnswerWord → Outcome → Outcome) (between : Outcome) → ((ws : List AnswerWord) → further ws between ≡ on (w ∷ ws) k) → IsReplayed further (words ++ w ∷ []) between q → IsReplayed on words k q
  by_more w further between same r =
      record { more = w ∷ r.more; all = r.all ∙ append_assoc words (w ∷ []) r.more; outcome = r.outcome ∙ same r.more }

-- the actions behind the one at hand
module _ (token : ℕ) (on : List AnswerWord → Outcome → Outcome) (nothing : (k : Outcome) → on [] k ≡ k) (onward : Acts → Acts) (holds : (p : Acts) → All IsSpelled p.answers → IsReplayed on p.words (outcome_of p) (onward p)) where
  by_course : (c : Course) (p : Acts) → All IsSpelled p.answers → IsReplayed on p.words (outcome_of p) (while_going onward c p)
  by_course goes_on p spelled = holds p spelled
  by_course ended p spelled = by_none on p.words (outcome_of p) p refl (sym (nothing (outcome_of p)))
  by_course waits p spelled = by_none on p.words (outcome_of p) p refl (sym (nothing (outcome_of p)))

  onward_replayed : (p : Acts) → All IsSpelled p.answers → IsReplayed on p.words (outcome_of p) (then_on onward p)
  onward_replayed p spelled = by_course p.course p spelled

  -- ---- a message is sent
  error_again : (how : Sending) (e : KitError) (ws : List AnswerWord) (k : Outcome) → on ws k ≡ sent_again token on how (word.Error e) ws k
  error_again (sending.Post back) e ws k = refl
  error_again (sending.Ask into) e ws k = refl

  refused : (how : Sending) (e : KitError) (p : Acts) → All IsSpelled p.answers → IsReplayed (first_word (sent_again token on how)) p.words (outcome_of p) (then_on onward (with_error e p))
  refused how e p spelled =
      by_more (first_word (sent_again token on how)) p.words (outcome_of p) (then_on onward (with_error e p)) (word.Error e) on (outcome_of p) (λ ws. error_again how e ws (outcome_of p)) (onward_replayed (with_error e p) spelled)

  sent_replayed : (how : Sending) (a : Answer) (p : Acts) → IsSpelled a → All IsSpelled p.answers → IsReplayed (first_word (sent_again token on how)) p.words (outcome_of p) (then_on onward (sent token how a p))
  sent_replayed (sending.Ask into) (answer.Reply flat m) p is spelled =
      by_more (first_word (sent_again token on (sending.Ask into))) p.words (outcome_of p) (then_on onward (sent token (sending.Ask into) (answer.Reply flat m) p)) (word.Reply flat) on (record (outcome_of p) { state = taken_in p.state token into m })
      (λ ws. ap (λ (r : Result MessageData FlatFault). on ws (record (outcome_of p) { state = took p.state token into r })) (sym (spelled_is_read flat m is)))
      (onward_replayed (sent token (sending.Ask into) (answer.Reply flat m) p) spelled)
  sent_replayed (sending.Post back) (answer.Reply flat m) p is spelled = refused (sending.Post back) error.Ok p spelled
  sent_replayed (sending.Post back) (answer.Team team first) p is spelled = refused (sending.Post back) error.Ok p spelled
  sent_replayed (sending.Ask into) (answer.Team team first) p is spelled = refused (sending.Ask into) error.Ok p spelled
  sent_replayed (sending.Post back) answer.NoTeam p is spelled = refused (sending.Post back) error.NoTeam p spelled
  sent_replayed (sending.Ask into) answer.NoTeam p is spelled = refused (sending.Ask into) error.NoTeam p spelled
  sent_replayed (sending.Post back) (answer.Written at) p is spelled = refused (sending.Post back) error.Ok p spelled
  sent_replayed (sending.Ask into) (answer.Written at) p is spelled = refused (sending.Ask into) error.Ok p spelled
  sent_replayed (sending.Post back) answer.Full p is spelled = refused (sending.Post back) error.WouldBlock p spelled
  sent_replayed (sending.Ask into) answer.Full p is spelled = refused (sending.Ask into) error.WouldBlock p spelled
  sent_replayed (sending.Post back) answer.Closed p is spelled = refused (sending.Post back) error.BadPortId p spelled
  sent_replayed (sending.Ask into) answer.Closed p is spelled = refused (sending.Ask into) error.BadPortId p spelled
  sent_replayed (sending.Post back) answer.Spent p is spelled = refused (sending.Post back) error.Spent p spelled
  sent_replayed (sending.Ask into) answer.Spent p is spelled = refused (sending.Ask into) error.Spent p spelled
  sent_replayed (sending.Post back) answer.TooLong p is spelled = refused (sending.Post back) error.TooLong p spelled
  sent_replayed (sending.Ask into) answer.TooLong p is spelled = refused (sending.Ask into) error.TooLong p spelled
  sent_replayed (sending.Post back) answer.NoMemory p is spelled = refused (sending.Post back) error.NoMemory p spelled
  sent_replayed (sending.Ask into) answer.NoMemory p is spelled = refused (sending.Ask into) error.NoMemory p spelled

  -- the answer is the next one: none, want of memory, or another
  heard_replayed : (f : List AnswerWord → Outcome → Outcome) (hears : Answer → Acts → Acts) (p : Acts) → outcome_of p ≡ f [] (outcome_of p) → outcome_of p ≡ f (word.Error error.NoMemory ∷ []) (outcome_of p) → ((a : Answer) (rest : List Answer) → IsSpelled a → All IsSpelled rest → IsReplayed f p.words (outcome_of p) (then_on onward (hears a (record p { answers = rest })))) → (answers : List Answer) → All IsSpelled answers → IsReplayed f p.words (outcome_of p) (then_on onward (heard hears answers p))
  heard_replayed f hears p none failed next [] spelled = by_none f p.words (outcome_of p) (with_course waits p) refl none
  heard_replayed f hears p none failed next (answer.NoMemory ∷ rest) spelled =
      by_one f p.words (outcome_of p) (out_of_memory (record p { answers = rest })) (word.Error error.NoMemory) refl failed
  heard_replayed f hears p none failed next (answer.Team team first ∷ rest) spelled =
      next (answer.Team team first) rest tt (All-tail IsSpelled (answer.Team team first) rest spelled)
  heard_replayed f hears p none failed next (answer.NoTeam ∷ rest) spelled =
      next answer.NoTeam rest tt (All-tail IsSpelled answer.NoTeam rest spelled)
  heard_replayed f hears p none failed next (answer.Written at ∷ rest) spelled =
      next (answer.Written at) rest tt (All-tail IsSpelled (answer.Written at) rest spelled)
  heard_replayed f hears p none failed next (answer.Full ∷ rest) spelled =
      next answer.Full rest tt (All-tail IsSpelled answer.Full rest spelled)
  heard_replayed f hears p none failed next (answer.Closed ∷ rest) spelled =
      next answer.Closed rest tt (All-tail IsSpelled answer.Closed rest spelled)
  heard_replayed f hears p none failed next (answer.Spent ∷ rest) spelled =
      next answer.Spent rest tt (All-tail IsSpelled answer.Spent rest spelled)
  heard_replayed f hears p none failed next (answer.TooLong ∷ rest) spelled =
      next answer.TooLong rest tt (All-tail IsSpelled answer.TooLong rest spelled)
  heard_replayed f hears p none failed next (answer.Reply flat m ∷ rest) spelled =
      next (answer.Reply flat m) rest (All-head IsSpelled (answer.Reply flat m) rest spelled) (All-tail IsSpelled (answer.Reply flat m) rest spelled)

  sends_replayed : (how : Sending) (w : Want) (p : Acts) → All IsSpelled p.answers → IsReplayed (first_word (sent_again token on how)) p.words (outcome_of p) (then_on onward (asks w (sent token how) p))
  sends_replayed how w p spelled =
      heard_replayed (first_word (sent_again token on how)) (sent token how) (record p { wants = p.wants ++ w ∷ [] }) refl
      (sym (nothing (outcome_of p)) ∙ error_again how error.NoMemory [] (outcome_of p))
      (λ a rest is behind. sent_replayed how a (record p { wants = p.wants ++ w ∷ []; answers = rest }) is behind)
      p.answers spelled

  -- ---- an application is looked for first
  not_found : (how : Sending) (p : Acts) → All IsSpelled p.answers → IsReplayed (first_word (found_again token on how)) p.words (outcome_of p) (then_on onward (with_error error.NoTeam (with_word word.NoTeam p)))
  not_found how p spelled =
      let after = with_error error.NoTeam (with_word word.NoTeam p) in
      by_more (first_word (found_again token on how)) p.words (outcome_of p) (then_on onward after) word.NoTeam (first_word (λ w. on)) (outcome_of p) (λ ws. refl)
      (by_more (first_word (λ w. on)) (p.words ++ word.NoTeam ∷ []) (outcome_of p) (then_on onward after) (word.Error error.NoTeam) on (outcome_of p) (λ ws. refl) (onward_replayed after spelled))

  found_replayed : (how : Sending) (m : MessageData) (a : Answer) (p : Acts) → All IsSpelled p.answers → IsReplayed (first_word (found_again token on how)) p.words (outcome_of p) (then_on onward (found token how m a p))
  found_replayed how m (answer.Team team first) p spelled =
      by_more (first_word (found_again token on how)) p.words (outcome_of p) (then_on onward (found token how m (answer.Team team first) p)) (word.Team team) (first_word (sent_again token on how)) (outcome_of p) (λ ws. refl)
      (sends_replayed how (want_of (preferred_of first) how m) (with_word (word.Team team) p) spelled)
  found_replayed how m answer.NoTeam p spelled = not_found how p spelled
  found_replayed how m (answer.Written at) p spelled = not_found how p spelled
  found_replayed how m answer.Full p spelled = not_found how p spelled
  found_replayed how m answer.Closed p spelled = not_found how p spelled
  found_replayed how m answer.Spent p spelled = not_found how p spelled
  found_replayed how m answer.TooLong p spelled = not_found how p spelled
  found_replayed how m (answer.Reply flat message) p spelled = not_found how p spelled
  found_replayed how m answer.NoMemory p spelled = not_found how p spelled

  finds_replayed : (how : Sending) (m : MessageData) (w : Want) (p : Acts) → All IsSpelled p.answers → IsReplayed (first_word (found_again token on how)) p.words (outcome_of p) (then_on onward (asks w (found token how m) p))
  finds_replayed how m w p spelled =
      heard_replayed (first_word (found_again token on how)) (found token how m) (record p { wants = p.wants ++ w ∷ [] }) refl (sym (nothing (outcome_of p)))
      (λ a rest is behind. found_replayed how m a (record p { wants = p.wants ++ w ∷ []; answers = rest }) behind)
      p.answers spelled

  -- ---- any action
  done : (d : Doing) (p q : Acts) → ((ws : List AnswerWord) → on ws (outcome_of q) ≡ done_again token on d (word.Error error.Ok) ws (outcome_of p)) → q.words ≡ p.words ++ word.Error error.Ok ∷ [] → All IsSpelled q.answers → IsReplayed (first_word (done_again token on d)) p.words (outcome_of p) (then_on onward q)
  done d p q same words spelled =
      by_more (first_word (done_again token on d)) p.words (outcome_of p) (then_on onward q) (word.Error error.Ok) on (outcome_of q) same
      (subst (λ ws. IsReplayed on ws (outcome_of q) (then_on onward q)) words (onward_replayed q spelled))

  doing_replayed : (d : Doing) (p : Acts) → All IsSpelled p.answers → IsReplayed (first_word (done_again token on d)) p.words (outcome_of p) (then_on onward (carried_out token d p))
  doing_replayed (says e) p spelled =
      by_more (first_word (done_again token on (says e))) p.words (outcome_of p) (then_on onward (with_error e p)) (word.Error e) on (outcome_of p) (λ ws. refl) (onward_replayed (with_error e p) spelled)
  doing_replayed (replies m) p spelled = done (replies m) p (carried_out token (replies m) p) (λ ws. refl) refl spelled
  doing_replayed (puts place value) p spelled = done (puts place value) p (carried_out token (puts place value) p) (λ ws. refl) refl spelled
  doing_replayed (sends to how m) p spelled = sends_replayed how (want_of to how m) p spelled
  doing_replayed (finds w how m) p spelled = finds_replayed how m (want.Find w) p spelled
  doing_replayed stops p spelled =
      by_one (first_word (done_again token on stops)) p.words (outcome_of p) (carried_out token stops p) (word.Error error.Ok) refl refl
  doing_replayed quits p spelled = done quits p (carried_out token quits p) (λ ws. refl) refl spelled

  -- one that finds no memory
  failed_again : (d : Doing) (k : Outcome) → k ≡ done_again token on d (word.Error error.NoMemory) [] k
  failed_again (says e) k = sym (nothing k)
  failed_again (replies m) k = refl
  failed_again (puts place value) k = refl
  failed_again (sends to how m) k = sym (nothing k) ∙ error_again how error.NoMemory [] k
  failed_again (finds w how m) k = sym (nothing k)
  failed_again stops k = refl
  failed_again quits k = refl

  action_replayed : (b : Bool) (d : Doing) (p : Acts) → All IsSpelled p.answers → IsReplayed (first_word (done_again token on d)) p.words (outcome_of p) (cond b (out_of_memory p) (then_on onward (carried_out token d p)))
  action_replayed true d p spelled =
      by_one (first_word (done_again token on d)) p.words (outcome_of p) (out_of_memory p) (word.Error error.NoMemory) refl (failed_again d (outcome_of p))
  action_replayed false d p spelled = doing_replayed d p spelled

-- ---- all actions
module _ (token : ℕ) (m : MessageData) (memory : Option ℕ) where
  actions_replayed : (actions : List Action) (place : ℕ) (p : Acts) → All IsSpelled p.answers → IsReplayed (replayed token m actions) p.words (outcome_of p) (acts_on token m memory place actions p)
  actions_replayed [] place p spelled = by_none (replayed token m []) p.words (outcome_of p) p refl refl
  actions_replayed (a ∷ rest) place p spelled =
      let r = action_replayed token (replayed token m rest) (none_replayed token m rest) (acts_on token m memory (place + 1) rest) (λ q behind. actions_replayed rest (place + 1) q behind)
      (is_at memory place) (doing_of p.state token m (is_some p.reply) a) p spelled in
      record { more = r.more; all = r.all; outcome = r.outcome }

pub words_replay_holds : WordsReplay
words_replay_holds s token m actions answers others memory other spelled spelled' same =
    let r = actions_replayed token m memory actions 0 (opened s answers) spelled in
    let r' = actions_replayed token m other actions 0 (opened s others) spelled' in
    r.outcome ∙ ap (λ (ws : List AnswerWord). replayed token m actions ws (outcome_of (opened s answers))) (sym r.all ∙ same ∙ r'.all) ∙ sym r'.outcome
