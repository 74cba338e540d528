-- What the actions of a reaction come to, where they name words that are looked up: they want such words alone, their words are plain, and the
-- handlers' reactions stay as they are.
use Rattle.std.proofs.Common.{◌≡◌, ℕ, ◌+◌, ◌≤◌, suc, Bool, true, false, cond, List, [], ◌∷◌, ◌++◌, length, Option, None, Some, is_some, refl, ap, ◌∙◌, arith}
use Rattle.std.specs.Prelude.{IsTrue, count_by}
use Rattle.std.specs.List.{AllByRecursion, list_all}
use Rattle.std.proofs.lemmas.List.Sums.{fold-append}
use Rattle.ak_base.specs.declared.error.KitError.{KitError}
use Rattle.ak_base.specs.declared.error.KitError.TheVariants as error
use Rattle.ak_message.specs.declared.address.Address.{Address}
use Rattle.ak_message.specs.Message.{MessageData, ValueData}
use Rattle.ak_flatten.specs.Laws.{Spells, first_fault}
use Rattle.ak_flatten.proofs.Surface.{spelled_is_read}
use Rattle.std.specs.Result.{result_err}
use Rattle.ak_value.specs.declared.fault.ElementFault.{ElementFault}
use Rattle.ak_value.specs.declared.fault.ElementFault.TheVariants as fault
use Rattle.ak_value.specs.Elements.{ElementsData}
use Rattle.ak_action.specs.declared.action.Action.{Action}
use Rattle.ak_action.specs.declared.action.Action.TheVariants as action
use Rattle.ak_action.specs.declared.action.Dest.{Dest}
use Rattle.ak_action.specs.declared.action.Dest.TheVariants as dest
use Rattle.ak_action.specs.declared.answer.Answer.{Answer}
use Rattle.ak_action.specs.declared.answer.Answer.TheVariants as answer
use Rattle.ak_action.specs.declared.answer.AnswerWord.{AnswerWord}
use Rattle.ak_action.specs.declared.answer.AnswerWord.TheVariants as word
use Rattle.ak_action.specs.declared.answer.Want.{Want}
use Rattle.ak_action.specs.declared.answer.Want.TheVariants as want
use Rattle.ak_action.specs.declared.doing.Sending.{Sending}
use Rattle.ak_action.specs.declared.doing.Sending.TheVariants as sending
use Rattle.ak_action.specs.declared.number.Number.{Number}
use Rattle.ak_action.specs.declared.row.DeskRow.{DeskRow}
use Rattle.ak_action.specs.declared.state.DeskState.{DeskState}
use Rattle.ak_action.specs.declared.template.Template.{Template}
use Rattle.ak_action.specs.Acts.{Acts, Course, goes_on, ended, waits, act, acts, acts_on, asks, carried_out, error_of, found, heard, is_at, opened, out_of_memory, put, sent, taken_in, then_on, want_of, while_going, with_course, with_error, with_word}
use Rattle.ak_action.specs.Doing.{Doing, says, replies, puts, sends, finds, stops, quits, add_to, back_to, doing_of, into_place, preferred_of, put_at, put_in, put_sum, refused_or_put, reply_of, row_of, sent_to, set_to, sum_with, to_handler, to_looper}
use Rattle.ak_action.specs.Building.{built, first_given}
use Rattle.ak_action.specs.Interp.{actions_of}
use Rattle.ak_action.specs.Laws.{IsSpelled}
use Rattle.ak_action.specs.Limits.{action_limit}
use Rattle.ak_action.specs.Number.{number_of, number_value}
use Rattle.ak_action.specs.Row.{first_of, place_of_property}
use Rattle.ak_action.specs.State.{looper_named}
use Rattle.ak_handler.specs.Handlers.{token_named}
use Rattle.ak_journal.specs.Legible.{is_reply}
use Rattle.ak_journal.specs.Plain.{IsPlainAnswer}
use Rattle.ak_describe.specs.Whole.{action_names, dest_names}
use Rattle.ak_input.specs.Written.{is_looked_up}
use Rattle.ak_plain.proofs.Rows.{AreNamedActions, IsNamedDesk, actions_named, all_push, first_so, put_named, second_so, taken_in_named}

-- ---- wants
-- an application is looked for by a word that is looked up
abbrev pub IsPlainWant : Want → Type 0
IsPlainWant (want.Find w) = IsTrue (is_looked_up w)
IsPlainWant _ = Unit {0}

abbrev IsPlainDoing : Doing → Type 0
IsPlainDoing (finds w how m) = IsTrue (is_looked_up w)
IsPlainDoing _ = Unit {0}

-- ---- what one action does
to_looper_plain : (o : Option ℕ) (how : Sending) (m : MessageData) → IsPlainDoing (to_looper o how m)
to_looper_plain None how m = tt
to_looper_plain (Some looper) how m = tt

to_handler_plain : (looper : ℕ) (o : Option ℕ) (how : Sending) (m : MessageData) → IsPlainDoing (to_handler looper o how m)
to_handler_plain looper None how m = tt
to_handler_plain looper (Some token) how m = tt

sent_to_plain : (s : DeskState) (to : Dest) (how : Sending) (m : MessageData) → IsTrue (dest_names to) → IsPlainDoing (sent_to s to how m)
sent_to_plain s dest.Own how m h = tt
sent_to_plain s (dest.Looper name) how m h = to_looper_plain (looper_named s name) how m
sent_to_plain s (dest.Handler name) how m h = to_handler_plain s.looper (token_named s.handlers.list name) how m
sent_to_plain s (dest.App w) how m h = h

refused_or_put_plain : (place : ℕ) (value : ValueData) (o : Option ElementFault) → IsPlainDoing (refused_or_put place value o)
refused_or_put_plain place value None = tt
refused_or_put_plain place value (Some fault.BadScript) = tt
refused_or_put_plain place value (Some fault.BadValue) = tt
refused_or_put_plain place value (Some fault.BadType) = tt
refused_or_put_plain place value (Some fault.NameNotFound) = tt
refused_or_put_plain place value (Some fault.BadIndex) = tt
refused_or_put_plain place value (Some fault.ElementLimit) = tt
refused_or_put_plain place value (Some fault.NoMemory) = tt

put_in_plain : (place : ℕ) (o : Option ElementsData) (value : ValueData) → IsPlainDoing (put_in place o value)
put_in_plain place None value = tt
put_in_plain place (Some e) value = refused_or_put_plain place value _

put_at_plain : (row : DeskRow) (o : Option ℕ) (value : ValueData) → IsPlainDoing (put_at row o value)
put_at_plain row None value = tt
put_at_plain row (Some place) value = put_in_plain place _ value

set_to_plain : (row : DeskRow) (property : List ℕ) (o : Option ValueData) → IsPlainDoing (set_to row property o)
set_to_plain row property None = tt
set_to_plain row property (Some value) = put_at_plain row (place_of_property row property) value

put_sum_plain : (row : DeskRow) (property : List ℕ) (o : Option Number) → IsPlainDoing (put_sum row property o)
put_sum_plain row property None = tt
put_sum_plain row property (Some sum) = put_at_plain row (place_of_property row property) (number_value sum)

add_to_plain : (row : DeskRow) (property : List ℕ) (o : Option ValueData) (amount : Number) → IsPlainDoing (add_to row property o amount)
add_to_plain row property None amount = tt
add_to_plain row property (Some value) amount = put_sum_plain row property (sum_with (number_of value) amount)

reply_of_plain : (row : DeskRow) (m : MessageData) (t : Template) (replied : Bool) → IsPlainDoing (reply_of row m t replied)
reply_of_plain row m t true = tt
reply_of_plain row m t false = tt

doing_plain : (s : DeskState) (token : ℕ) (m : MessageData) (replied : Bool) (a : Action) → IsTrue (action_names a) → IsPlainDoing (doing_of s token m replied a)
doing_plain s token m replied (action.Reply t) h = reply_of_plain (row_of s token) m t replied
doing_plain s token m replied (action.Post to t back) h = sent_to_plain s to (sending.Post (back_to s token back)) (built (row_of s token) m t) h
doing_plain s token m replied (action.Ask to t into) h = sent_to_plain s to (sending.Ask (into_place (row_of s token) into)) (built (row_of s token) m t) h
doing_plain s token m replied (action.Set property value) h = set_to_plain (row_of s token) property (first_given (row_of s token) m value)
doing_plain s token m replied (action.Add property amount) h = add_to_plain (row_of s token) property (first_of (row_of s token) property) amount
doing_plain s token m replied action.Stop h = tt
doing_plain s token m replied action.Quit h = tt

-- ---- what holds before the actions that are left, of which there is this number: there is room for a reply of each
pub record Holds (left : ℕ) (p : Acts) : Type 0 where
  pub wants : AllByRecursion IsPlainWant p.wants
  pub state : IsNamedDesk p.state
  pub words : AllByRecursion IsPlainAnswer p.words
  pub spelled : AllByRecursion IsSpelled p.answers
  pub replies : count_by is_reply p.words + left ≤ action_limit

fewer : (left less : ℕ) (p : Acts) → less ≤ left → Holds left p → Holds less p
fewer left less p le h = record { wants = h.wants; state = h.state; words = h.words; spelled = h.spelled; replies = let room = h.replies in omega arith }

count_push : (words : List AnswerWord) (w : AnswerWord) → count_by is_reply (words ++ w ∷ []) ≡ count_by is_reply words + cond (is_reply w) 1 0
count_push words w = fold-append (λ (a : ℕ) (x : AnswerWord). a + cond (is_reply x) 1 0) 0 words (w ∷ [])

word_holds : (left : ℕ) (w : AnswerWord) (p : Acts) → IsPlainAnswer w → is_reply w ≡ false → Holds left p → Holds left (with_word w p)
word_holds left w p plain none h =
    let count = count_push p.words w ∙ ap (λ b. count_by is_reply p.words + cond b 1 0) none in
    record { wants = h.wants; state = h.state; words = all_push IsPlainAnswer p.words w h.words plain; spelled = h.spelled; replies = let room = h.replies in omega (arith, count) }

reply_holds : (left : ℕ) (flat : List ℕ) (p : Acts) → first_fault flat ≡ None → Holds (suc left) p → Holds left (with_word (word.Reply flat) p)
reply_holds left flat p plain h =
    let count = count_push p.words (word.Reply flat) in
    record { wants = h.wants; state = h.state; words = all_push IsPlainAnswer p.words (word.Reply flat) h.words plain; spelled = h.spelled; replies = let room = h.replies in omega (arith, count) }

error_holds : (left : ℕ) (e : KitError) (p : Acts) → Holds (suc left) p → Holds left (with_error e p)
error_holds left e p h = word_holds left (word.Error e) p tt refl (fewer (suc left) left p (omega arith) h)

answers_hold : (left : ℕ) (rest : List Answer) (p : Acts) → AllByRecursion IsSpelled rest → Holds left p → Holds left (record p { answers = rest })
answers_hold left rest p spelled h = record { wants = h.wants; state = h.state; words = h.words; spelled = spelled; replies = h.replies }

course_holds : (left : ℕ) (c : Course) (p : Acts) → Holds left p → Holds left (with_course c p)
course_holds left c p h = record { wants = h.wants; state = h.state; words = h.words; spelled = h.spelled; replies = h.replies }

state_holds : (left : ℕ) (s : DeskState) (p : Acts) → IsNamedDesk s → Holds left p → Holds left (record p { state = s })
state_holds left s p named h = record { wants = h.wants; state = named; words = h.words; spelled = h.spelled; replies = h.replies }

-- a flat text that spells a message has no fault
pub spelled_is_flat : (flat : List ℕ) (m : MessageData) → Spells flat m → first_fault flat ≡ None
spelled_is_flat flat m spells = ap (λ r. result_err r) (spelled_is_read flat m spells)

module _ (token : ℕ) where
  sent_holds : (left : ℕ) (how : Sending) (a : Answer) (p : Acts) → IsSpelled a → Holds (suc left) p → Holds left (sent token how a p)
  sent_holds left (sending.Post back) a p spelled h = error_holds left (error_of a) p h
  sent_holds left (sending.Ask into) (answer.Reply flat m) p spelled h =
      reply_holds left flat (record p { state = taken_in p.state token into m }) (spelled_is_flat flat m spelled)
      (state_holds (suc left) (taken_in p.state token into m) p (taken_in_named p.state token into m h.state) h)
  sent_holds left (sending.Ask into) (answer.Team team first) p spelled h = error_holds left error.Ok p h
  sent_holds left (sending.Ask into) answer.NoTeam p spelled h = error_holds left error.NoTeam p h
  sent_holds left (sending.Ask into) (answer.Written at) p spelled h = error_holds left error.Ok p h
  sent_holds left (sending.Ask into) answer.Full p spelled h = error_holds left error.WouldBlock p h
  sent_holds left (sending.Ask into) answer.Closed p spelled h = error_holds left error.BadPortId p h
  sent_holds left (sending.Ask into) answer.Spent p spelled h = error_holds left error.Spent p h
  sent_holds left (sending.Ask into) answer.TooLong p spelled h = error_holds left error.TooLong p h
  sent_holds left (sending.Ask into) answer.NoMemory p spelled h = error_holds left error.NoMemory p h

  heard_holds : (left : ℕ) (hears : Answer → Acts → Acts) → ((a : Answer) (q : Acts) → IsSpelled a → Holds (suc left) q → Holds left (hears a q)) → (answers : List Answer) (p : Acts) → AllByRecursion IsSpelled answers → Holds (suc left) p → Holds left (heard hears answers p)
  heard_holds left hears each [] p spelled h = course_holds left waits p (fewer (suc left) left p (omega arith) h)
  heard_holds left hears each (answer.NoMemory ∷ rest) p spelled h =
      let q = record p { answers = rest } in
      course_holds left ended (with_error error.NoMemory q) (error_holds left error.NoMemory q (answers_hold (suc left) rest p spelled.1 h))
  heard_holds left hears each (answer.Team team first ∷ rest) p spelled h = each (answer.Team team first) _ spelled.0 (answers_hold (suc left) rest p spelled.1 h)
  heard_holds left hears each (answer.NoTeam ∷ rest) p spelled h = each answer.NoTeam _ spelled.0 (answers_hold (suc left) rest p spelled.1 h)
  heard_holds left hears each (answer.Written at ∷ rest) p spelled h = each (answer.Written at) _ spelled.0 (answers_hold (suc left) rest p spelled.1 h)
  heard_holds left hears each (answer.Full ∷ rest) p spelled h = each answer.Full _ spelled.0 (answers_hold (suc left) rest p spelled.1 h)
  heard_holds left hears each (answer.Closed ∷ rest) p spelled h = each answer.Closed _ spelled.0 (answers_hold (suc left) rest p spelled.1 h)
  heard_holds left hears each (answer.Spent ∷ rest) p spelled h = each answer.Spent _ spelled.0 (answers_hold (suc left) rest p spelled.1 h)
  heard_holds left hears each (answer.TooLong ∷ rest) p spelled h = each answer.TooLong _ spelled.0 (answers_hold (suc left) rest p spelled.1 h)
  heard_holds left hears each (answer.Reply flat m ∷ rest) p spelled h = each (answer.Reply flat m) _ spelled.0 (answers_hold (suc left) rest p spelled.1 h)

  asks_hold : (left : ℕ) (w : Want) (hears : Answer → Acts → Acts) → IsPlainWant w → ((a : Answer) (q : Acts) → IsSpelled a → Holds (suc left) q → Holds left (hears a q)) → (p : Acts) → Holds (suc left) p → Holds left (asks w hears p)
  asks_hold left w hears plain each p h =
      heard_holds left hears each p.answers (record p { wants = p.wants ++ w ∷ [] }) h.spelled
      (record { wants = all_push IsPlainWant p.wants w h.wants plain; state = h.state; words = h.words; spelled = h.spelled; replies = h.replies })

  want_plain : (to : Address) (how : Sending) (m : MessageData) → IsPlainWant (want_of to how m)
  want_plain to (sending.Post back) m = tt
  want_plain to (sending.Ask into) m = tt

  sends_hold : (left : ℕ) (to : Address) (how : Sending) (m : MessageData) (p : Acts) → Holds (suc left) p → Holds left (asks (want_of to how m) (sent token how) p)
  sends_hold left to how m p h = asks_hold left (want_of to how m) (sent token how) (want_plain to how m) (sent_holds left how) p h

  not_found_holds : (left : ℕ) (p : Acts) → Holds (suc left) p → Holds left (with_error error.NoTeam (with_word word.NoTeam p))
  not_found_holds left p h = error_holds left error.NoTeam (with_word word.NoTeam p) (word_holds (suc left) word.NoTeam p tt refl h)

  found_holds : (left : ℕ) (how : Sending) (m : MessageData) (a : Answer) (p : Acts) → IsSpelled a → Holds (suc left) p → Holds left (found token how m a p)
  found_holds left how m (answer.Team team first) p spelled h =
      sends_hold left (preferred_of first) how m (with_word (word.Team team) p) (word_holds (suc left) (word.Team team) p tt refl h)
  found_holds left how m answer.NoTeam p spelled h = not_found_holds left p h
  found_holds left how m (answer.Written at) p spelled h = not_found_holds left p h
  found_holds left how m answer.Full p spelled h = not_found_holds left p h
  found_holds left how m answer.Closed p spelled h = not_found_holds left p h
  found_holds left how m answer.Spent p spelled h = not_found_holds left p h
  found_holds left how m answer.TooLong p spelled h = not_found_holds left p h
  found_holds left how m (answer.Reply flat message) p spelled h = not_found_holds left p h
  found_holds left how m answer.NoMemory p spelled h = not_found_holds left p h

  doing_holds : (left : ℕ) (d : Doing) (p : Acts) → IsPlainDoing d → Holds (suc left) p → Holds left (carried_out token d p)
  doing_holds left (says e) p plain h = error_holds left e p h
  doing_holds left (replies m) p plain h =
      error_holds left error.Ok (record p { reply = Some m }) (record { wants = h.wants; state = h.state; words = h.words; spelled = h.spelled; replies = h.replies })
  doing_holds left (puts place value) p plain h =
      error_holds left error.Ok (record p { state = put p.state token place value }) (state_holds (suc left) (put p.state token place value) p (put_named p.state token place value h.state) h)
  doing_holds left (sends to how m) p plain h = sends_hold left to how m p h
  doing_holds left (finds w how m) p plain h = asks_hold left (want.Find w) (found token how m) plain (found_holds left how m) p h
  doing_holds left stops p plain h = course_holds left ended (with_error error.Ok p) (error_holds left error.Ok p h)
  doing_holds left quits p plain h =
      error_holds left error.Ok (record p { quit = true }) (record { wants = h.wants; state = h.state; words = h.words; spelled = h.spelled; replies = h.replies })

-- ---- action after action
module _ (token : ℕ) (m : MessageData) (memory : Option ℕ) where
  by_course : (left : ℕ) (onward : Acts → Acts) → ((q : Acts) → Holds left q → Holds 0 (onward q)) → (c : Course) (q : Acts) → Holds left q → Holds 0 (while_going onward c q)
  by_course left onward holds goes_on q h = holds q h
  by_course left onward holds ended q h = fewer left 0 q (omega arith) h
  by_course left onward holds waits q h = fewer left 0 q (omega arith) h

  by_memory : (b : Bool) (p q : Acts) → Holds 0 p → Holds 0 q → Holds 0 (cond b p q)
  by_memory true p q h k = h
  by_memory false p q h k = k

  acts_hold : (actions : List Action) (place : ℕ) (p : Acts) → IsTrue (list_all action_names actions) → Holds (length actions) p → Holds 0 (acts_on token m memory place actions p)
  acts_hold [] place p named h = h
  acts_hold (a ∷ rest) place p named h =
      let next = act token m a p in
      let after = doing_holds token (length rest) (doing_of p.state token m (is_some p.reply) a) p (doing_plain p.state token m (is_some p.reply) a (first_so (action_names a) (list_all action_names rest) named)) h in
      by_memory (is_at memory place) (out_of_memory p) (then_on (acts_on token m memory (place + 1) rest) next)
      (course_holds 0 ended (with_error error.NoMemory p) (error_holds 0 error.NoMemory p (fewer (suc (length rest)) 1 p (omega arith) h)))
      (by_course (length rest) (acts_on token m memory (place + 1) rest) (λ q k. acts_hold rest (place + 1) q (second_so (action_names a) (list_all action_names rest) named) k) next.course next after)

pub reaction_holds : (s : DeskState) (token : ℕ) (m : MessageData) (reaction : ℕ) (answers : List Answer) (memory : Option ℕ) → IsNamedDesk s → AllByRecursion IsSpelled answers → Holds 0 (acts s token m (actions_of s token reaction) answers memory)
reaction_holds s token m reaction answers memory named spelled =
    let own : AreNamedActions (actions_of s token reaction) = actions_named s token reaction named in
    let few : length (actions_of s token reaction) ≤ action_limit = own.1 in
    acts_hold token m memory (actions_of s token reaction) 0 (opened s answers) own.0
    (record { wants = tt; state = named; words = tt; spelled = spelled; replies = omega (arith, few) })
