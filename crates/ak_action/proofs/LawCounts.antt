-- How many words there are, and which answers are used.
use Rattle.std.proofs.Common.{◌≡◌, ℕ, ◌+◌, ◌*◌, ◌≤◌, List, [], ◌∷◌, ◌++◌, length, drop, is_some, refl, sym, ap, subst, ◌∙◌, arith, length-append, length-drop}
use Rattle.ak_base.specs.declared.error.KitError.TheVariants as error
use Rattle.ak_message.specs.Message.{MessageData}
use Rattle.ak_action.specs.declared.action.Action.{Action}
use Rattle.ak_action.specs.declared.answer.Answer.{Answer}
use Rattle.ak_action.specs.declared.answer.Answer.TheVariants as answer
use Rattle.ak_action.specs.declared.answer.AnswerWord.{AnswerWord}
use Rattle.ak_action.specs.declared.answer.AnswerWord.TheVariants as word
use Rattle.ak_action.specs.declared.answer.Want.{Want}
use Rattle.ak_action.specs.declared.answer.Want.TheVariants as want
use Rattle.ak_action.specs.declared.doing.Sending.{Sending}
use Rattle.ak_action.specs.Acts.{Acts, goes_on, asks, carried_out, found, opened, sent, want_of, with_error, with_word}
use Rattle.ak_action.specs.Doing.{Doing, says, replies, puts, sends, finds, stops, quits, doing_of, preferred_of}
use Rattle.ak_action.specs.Laws.{AnswersInOrder, TwoWordsAnAction, UsesBy}
use Rattle.ak_action.proofs.LawCases.{actions_by, found_by, heard_by, sent_by}
use Rattle.ak_action.proofs.LawSteps.{next_drop}

length-push : {A : Type 0} (xs : List A) (x : A) → length (xs ++ x ∷ []) ≡ length xs + 1
length-push xs x = length-append xs (x ∷ [])

-- ---- words
-- no more than so many
abbrev Few : ℕ → Acts → Type 0
Few n p = length p.words ≤ n

module _ (token : ℕ) where
  one_word : (n : ℕ) (w : AnswerWord) (words : List AnswerWord) → length words ≤ n → length (words ++ w ∷ []) ≤ n + 1
  one_word n w words few = omega (arith, length-push words w)

  sends_few : (n : ℕ) (how : Sending) (w : Want) (p : Acts) → Few n p → Few (n + 1) (asks w (sent token how) p)
  sends_few n how w p few =
      heard_by (Few (n + 1)) (sent token how) p.answers (record p { wants = p.wants ++ w ∷ [] })
      (λ e. omega arith)
      (λ rest e. one_word n (word.Error error.NoMemory) p.words few)
      (λ a rest e. sent_by (Few (n + 1)) token how a (record p { wants = p.wants ++ w ∷ []; answers = rest })
      (λ error. one_word n (word.Error error) p.words few)
      (λ flat s. one_word n (word.Reply flat) p.words few))

  finds_few : (n : ℕ) (how : Sending) (m : MessageData) (w : Want) (p : Acts) → Few n p → Few (n + 1 + 1) (asks w (found token how m) p)
  finds_few n how m w p few =
      heard_by (Few (n + 1 + 1)) (found token how m) p.answers (record p { wants = p.wants ++ w ∷ [] })
      (λ e. omega arith)
      (λ rest e. let one = one_word n (word.Error error.NoMemory) p.words few in omega arith)
      (λ a rest e. found_by (Few (n + 1 + 1)) token how m a (record p { wants = p.wants ++ w ∷ []; answers = rest })
      (one_word (n + 1) (word.Error error.NoTeam) (p.words ++ word.NoTeam ∷ []) (one_word n word.NoTeam p.words few))
      (λ team first. sends_few (n + 1) how (want_of (preferred_of first) how m) (with_word (word.Team team) (record p { wants = p.wants ++ w ∷ []; answers = rest })) (one_word n (word.Team team) p.words few)))

  more_few : (n : ℕ) (p : Acts) → Few (n + 1) p → Few (n + 1 + 1) p
  more_few n p few = omega arith

  doing_few : (n : ℕ) (d : Doing) (p : Acts) → Few n p → Few (n + 1 + 1) (carried_out token d p)
  doing_few n (says e) p few = more_few n (carried_out token (says e) p) (one_word n (word.Error e) p.words few)
  doing_few n (replies m) p few = more_few n (carried_out token (replies m) p) (one_word n (word.Error error.Ok) p.words few)
  doing_few n (puts place value) p few = more_few n (carried_out token (puts place value) p) (one_word n (word.Error error.Ok) p.words few)
  doing_few n (sends to how m) p few = more_few n (carried_out token (sends to how m) p) (sends_few n how (want_of to how m) p few)
  doing_few n (finds w how m) p few = finds_few n how m (want.Find w) p few
  doing_few n stops p few = more_few n (carried_out token stops p) (one_word n (word.Error error.Ok) p.words few)
  doing_few n quits p few = more_few n (carried_out token quits p) (one_word n (word.Error error.Ok) p.words few)

-- so many that two for each action that is left are still within the bound
abbrev LeavesTwo : ℕ → List Action → Acts → Type 0
LeavesTwo bound rest p = length p.words + 2 * length rest ≤ bound

pub two_words_an_action_holds : TwoWordsAnAction
two_words_an_action_holds s token m actions answers memory =
    let bound = 2 * length actions in
    actions_by token m memory (LeavesTwo bound) (LeavesTwo bound) (Few bound)
    (λ p few. omega arith)
    (λ a rest p few. let one = length-push p.words (word.Error error.NoMemory) in omega arith)
    (λ a rest p few. let two = doing_few token (length p.words) (doing_of p.state token m (is_some p.reply) a) p (omega arith) in omega arith)
    (λ rest p going few. few)
    (λ rest p few. omega arith)
    actions 0 (opened s answers) (omega arith)

-- ---- answers
-- as many wants as answers that are used
abbrev InStep : List Answer → List Want → List Answer → Type 0
InStep answers wants left = (length wants ≤ length answers) × (left ≡ drop (length wants) answers)

one_more : (answers : List Answer) (wants : List Want) (w : Want) (left : List Answer) (a : Answer) (rest : List Answer) → left ≡ a ∷ rest → InStep answers wants left → InStep answers (wants ++ w ∷ []) rest
one_more answers wants w left a rest e h =
    let there = sym h.1 ∙ e in
    let count = ap length there in
    let further = next_drop (length wants) answers a rest there in
    (omega (arith, length-push wants w, length-drop (length wants) answers), sym further ∙ ap (λ n. drop n answers) (sym (length-push wants w)))

none_left : (answers : List Answer) (wants : List Want) (w : Want) (left : List Answer) → left ≡ [] → InStep answers wants left → length (wants ++ w ∷ []) ≡ length answers + 1
none_left answers wants w left e h =
    let count = ap length (sym h.1 ∙ e) in
    omega (arith, length-push wants w, length-drop (length wants) answers)

module _ (token : ℕ) (answers : List Answer) where
  abbrev Uses : Acts → Type 0
  Uses p = UsesBy p.course answers p

  uses_so : (p : Acts) → p.course ≡ goes_on → InStep answers p.wants p.answers → Uses p
  uses_so p going h = subst (λ c. UsesBy c answers p) (sym going) h

  sends_use : (how : Sending) (w : Want) (p : Acts) → p.course ≡ goes_on → InStep answers p.wants p.answers → Uses (asks w (sent token how) p)
  sends_use how w p going h =
      heard_by Uses (sent token how) p.answers (record p { wants = p.wants ++ w ∷ [] })
      (λ e. (none_left answers p.wants w p.answers e h, e))
      (λ rest e. one_more answers p.wants w p.answers answer.NoMemory rest e h)
      (λ a rest e. let q = record p { wants = p.wants ++ w ∷ []; answers = rest } in
      let more = one_more answers p.wants w p.answers a rest e h in
      sent_by Uses token how a q
      (λ error. uses_so (with_error error q) going more)
      (λ flat s. uses_so (with_word (word.Reply flat) (record q { state = s })) going more))

  finds_use : (how : Sending) (m : MessageData) (w : Want) (p : Acts) → p.course ≡ goes_on → InStep answers p.wants p.answers → Uses (asks w (found token how m) p)
  finds_use how m w p going h =
      heard_by Uses (found token how m) p.answers (record p { wants = p.wants ++ w ∷ [] })
      (λ e. (none_left answers p.wants w p.answers e h, e))
      (λ rest e. one_more answers p.wants w p.answers answer.NoMemory rest e h)
      (λ a rest e. let q = record p { wants = p.wants ++ w ∷ []; answers = rest } in
      let more = one_more answers p.wants w p.answers a rest e h in
      found_by Uses token how m a q
      (uses_so (with_error error.NoTeam (with_word word.NoTeam q)) going more)
      (λ team first. sends_use how (want_of (preferred_of first) how m) (with_word (word.Team team) q) going more))

  doing_uses : (d : Doing) (p : Acts) → p.course ≡ goes_on → InStep answers p.wants p.answers → Uses (carried_out token d p)
  doing_uses (says e) p going h = uses_so (carried_out token (says e) p) going h
  doing_uses (replies m) p going h = uses_so (carried_out token (replies m) p) going h
  doing_uses (puts place value) p going h = uses_so (carried_out token (puts place value) p) going h
  doing_uses (sends to how m) p going h = sends_use how (want_of to how m) p going h
  doing_uses (finds w how m) p going h = finds_use how m (want.Find w) p going h
  doing_uses stops p going h = h
  doing_uses quits p going h = uses_so (carried_out token quits p) going h

abbrev IsGoing : List Answer → List Action → Acts → Type 0
IsGoing answers rest p = (p.course ≡ goes_on) × InStep answers p.wants p.answers

pub answers_in_order_holds : AnswersInOrder
answers_in_order_holds s token m actions answers memory =
    actions_by token m memory (IsGoing answers) (λ rest p. UsesBy p.course answers p) (λ p. UsesBy p.course answers p)
    (λ p h. uses_so token answers p h.0 h.1)
    (λ a rest p h. h.1)
    (λ a rest p h. doing_uses token answers (doing_of p.state token m (is_some p.reply) a) p h.0 h.1)
    (λ rest p going h. (going, subst (λ c. UsesBy c answers p) going h))
    (λ rest p h. h)
    actions 0 (opened s answers) (refl, (omega arith, refl))
