-- What holds of every list that the machine of a desk allows.
use Rattle.std.proofs.Common.{◌≡◌, ℕ, ◌+◌, ◌==◌, Bool, true, false, cond, ◌||◌, List, [], ◌∷◌, ◌++◌, All, Option, None, Some, unwrap_or, eq-eqb, refl, sym, ap, subst, ◌∙◌}
use Rattle.ak_base.specs.declared.error.KitError.TheVariants as error
use Rattle.ak_flatten.specs.Item.{ItemData}
use Rattle.ak_handler.specs.declared.fault.HandlerFault.{HandlerFault}
use Rattle.ak_handler.specs.Handlers.{HandlersData}
use Rattle.ak_message.specs.Message.{MessageData}
use Rattle.ak_route.specs.declared.outcome.Route.{Route}
use Rattle.ak_route.specs.declared.outcome.Route.TheVariants as route
use Rattle.ak_route.specs.declared.outcome.Taker.TheVariants as taker
use Rattle.ak_action.specs.declared.answer.Answer.{Answer}
use Rattle.ak_action.specs.declared.answer.Answer.TheVariants as answer
use Rattle.ak_action.specs.declared.answer.AnswerWord.{AnswerWord}
use Rattle.ak_action.specs.declared.answer.AnswerWord.TheVariants as word
use Rattle.ak_action.specs.declared.row.DeskRow.{DeskRow}
use Rattle.ak_action.specs.declared.state.DeskState.{DeskState}
use Rattle.ak_action.specs.Acts.{error_of}
use Rattle.ak_action.specs.Interp.{actions_of}
use Rattle.ak_action.specs.Laws.{IsSpelled, Outcome, WordsReplay}
use Rattle.ak_desk.specs.declared.entry.DeskEvent.{DeskEvent}
use Rattle.ak_desk.specs.declared.entry.DeskEvent.TheVariants as event
use Rattle.ak_desk.specs.declared.entry.Edit.{Edit}
use Rattle.ak_desk.specs.declared.entry.Edit.TheVariants as edit
use Rattle.ak_desk.specs.declared.entry.EditAnswer.TheVariants as answered
use Rattle.ak_desk.specs.declared.entry.EntryRoute.{EntryRoute}
use Rattle.ak_desk.specs.declared.entry.EntryRoute.TheVariants as went
use Rattle.ak_desk.specs.Answering.{AnswersForward, AreAnswered}
use Rattle.ak_desk.specs.Dispatch.{Dispatch, by_route, dispatch_of, entry_route, forward_reply}
use Rattle.ak_desk.specs.Laws.{DispatchesAreOwn, EachEntryFollows, EntryTellsReply, ForwardTellsReply, HasOneReply, PositionsCount, RefusedEditsChangeNothing, StateIsOne, TellsForward, ToldByWord, reply_of_error}
use Rattle.ak_desk.specs.Entry.{EntryData}
use Rattle.ak_desk.specs.Machine.{DeskStep, DispatchStep, Dispatches, EventStep, IsBy, Replays, Replies, StepReplies, counted, counted_all, dispatches, edited, edit_of, gave_up, gives_up}
use Rattle.ak_desk.specs.Place.{routed_of}
use Rattle.ak_desk.specs.Replies.{none_reply}
use Rattle.ak_desk.specs.Shared.{by_number}
use Rattle.ak_turn.specs.Entries.{made_by}

-- ---- one entry among the others
-- with so many dispatches before them
record Parts (looper n : ℕ) (s : DeskState) (before : List EntryData) (entry : EntryData) (behind : List EntryData) (t : DeskState) : Type 0 where
  meets : DeskState
  leaves : DeskState
  before_it : Replays looper n s before meets
  step : DeskStep looper (counted_all n before) meets entry leaves
  behind_it : Replays looper (counted (counted_all n before) entry.plain.event) leaves behind t

parts : (looper n : ℕ) (s : DeskState) (before : List EntryData) (entry : EntryData) (behind : List EntryData) (t : DeskState) → Replays looper n s (before ++ entry ∷ behind) t → Parts looper n s before entry behind t
parts looper n s [] entry behind t (u, (step, rest)) = record { meets = s; leaves = u; before_it = refl; step = step; behind_it = rest }
parts looper n s (l ∷ before) entry behind t (u, (step, rest)) =
    let p = parts looper (counted n l.plain.event) u before entry behind t rest in
    record { meets = p.meets; leaves = p.leaves; before_it = (u, (step, p.before_it)); step = p.step; behind_it = p.behind_it }

pub each_entry_follows : EachEntryFollows
each_entry_follows looper s before entry behind t h =
    let p = parts looper 0 s before entry behind t h in
    record { meets = p.meets; leaves = p.leaves; before_it = p.before_it; step = p.step; behind_it = p.behind_it }

pub positions_count : PositionsCount
positions_count looper s before entry behind t position r words quit h is =
    let p = parts looper 0 s before entry behind t h in
    (subst (λ (e : DeskEvent). EventStep (dispatches before) p.meets e entry.item p.leaves) is p.step.event).0

-- ---- edits
kept : (h t : HandlersData DeskRow) (f : HandlerFault) (o : Option HandlerFault) → (edited h o answered.Done t).answer ≡ answered.Refused f → (edited h o answered.Done t).handlers ≡ h
kept h t f (Some g) e = refl
kept h t f None e = absurd cc

kept_added : (h t : HandlersData DeskRow) (token : ℕ) (f : HandlerFault) (o : Option HandlerFault) → (edited h o (answered.Token token) t).answer ≡ answered.Refused f → (edited h o (answered.Token token) t).handlers ≡ h
kept_added h t token f (Some g) e = refl
kept_added h t token f None e = absurd cc

edit_kept : (h : HandlersData DeskRow) (e : Edit) (f : HandlerFault) → (edit_of h e).answer ≡ answered.Refused f → (edit_of h e).handlers ≡ h
edit_kept h (edit.Add name) f is = kept_added h _ h.next_token f _ is
edit_kept h (edit.Remove token) f is = kept h _ f _ is
edit_kept h (edit.Next token next) f is = kept h _ f _ is
edit_kept h (edit.Prefer token) f is = kept h _ f _ is

pub refused_edits_change_nothing : RefusedEditsChangeNothing
refused_edits_change_nothing looper n s entry t e f step is =
    let h = subst (λ (x : DeskEvent). EventStep n s x entry.item t) is step.event in
    h.2 ∙ ap (λ (k : HandlersData DeskRow). record s { handlers = k }) (edit_kept s.handlers e f h.1)

-- ---- a message that is sent on
may_tell : (a : Answer) → AnswersForward a → TellsForward (error_of a)
may_tell (answer.Team team first) h = absurd h
may_tell answer.NoTeam h = absurd h
may_tell (answer.Written at) h = tt
may_tell answer.Full h = absurd h
may_tell answer.Closed h = tt
may_tell answer.Spent h = tt
may_tell answer.TooLong h = absurd h
may_tell (answer.Reply flat m) h = absurd h
may_tell answer.NoMemory h = tt

reply_told : (a : Answer) → AnswersForward a → forward_reply a ≡ reply_of_error (error_of a)
reply_told (answer.Team team first) h = absurd h
reply_told answer.NoTeam h = absurd h
reply_told (answer.Written at) h = refl
reply_told answer.Full h = absurd h
reply_told answer.Closed h = refl
reply_told answer.Spent h = refl
reply_told answer.TooLong h = absurd h
reply_told (answer.Reply flat m) h = absurd h
reply_told answer.NoMemory h = refl

told_alike : (a b : Answer) → AnswersForward a → AnswersForward b → error_of a ≡ error_of b → forward_reply a ≡ forward_reply b
told_alike a b h g e = reply_told a h ∙ ap reply_of_error e ∙ sym (reply_told b g)

told_by_route : (s : DeskState) (m : MessageData) (looper : ℕ) (r : Route) (answers : List Answer) (memory : Option ℕ) → went.Forward looper ≡ entry_route s r → AreAnswered (by_route s m r answers memory).wants answers → (by_route s m r answers memory).waits ≡ false → ToldByWord (by_route s m r answers memory).words (by_route s m r answers memory).reply
told_by_route s m looper (route.Deliver token t) answers memory e h waits = absurd cc
told_by_route s m looper route.Skipped answers memory e h waits = absurd cc
told_by_route s m looper route.Dropped answers memory e h waits = absurd cc
told_by_route s m looper route.NotUnderstood answers memory e h waits = absurd cc
told_by_route s m looper (route.Forward place) [] memory e h waits =
    let never : true ≡ false = waits in
    absurd cc
told_by_route s m looper (route.Forward place) (a ∷ rest) memory e (first, behind) waits =
    record { error = error_of a; may = may_tell a first; words_are = refl; reply_is = reply_told a first }

pub forward_tells_reply : ForwardTellsReply
forward_tells_reply s looper item words reply is r =
    let d = r.dispatch in
    let told = told_by_route s (routed_of s item).message looper (routed_of s item).route d.answers d.memory is d.answered d.waits in
    record { error = told.error; may = told.may; words_are = sym d.words_are ∙ told.words_are; reply_is = sym r.is ∙ told.reply_is }

-- ---- words tell the rest
module _ (replay : WordsReplay) where
  -- what two dispatches of one message to one list of words leave
  record Alike (d e : Dispatch) : Type 0 where
    state : d.state ≡ e.state
    reply : d.reply ≡ e.reply
    quit : d.quit ≡ e.quit

  record Two (d e : Dispatch) (xs bs : List Answer) : Type 0 where
    waits : d.waits ≡ false
    waits-2 : e.waits ≡ false
    answered : AreAnswered d.wants xs
    answered-2 : AreAnswered e.wants bs
    words_are : d.words ≡ e.words

  alike_by : (s : DeskState) (m : MessageData) (r : Route) (xs bs : List Answer) (memory other : Option ℕ) → All IsSpelled xs → All IsSpelled bs → Two (by_route s m r xs memory) (by_route s m r bs other) xs bs → Alike (by_route s m r xs memory) (by_route s m r bs other)
  alike_by s m (route.Deliver token (taker.Property place)) xs bs None None x y h = record { state = refl; reply = refl; quit = refl }
  alike_by s m (route.Deliver token (taker.Property place)) xs bs (Some i) (Some j) x y h = record { state = refl; reply = refl; quit = refl }
  alike_by s m (route.Deliver token (taker.Property place)) xs bs None (Some j) x y h =
      let differ : [] ≡ word.Error error.NoMemory ∷ [] = h.words_are in
      absurd cc
  alike_by s m (route.Deliver token (taker.Property place)) xs bs (Some i) None x y h =
      let differ : word.Error error.NoMemory ∷ [] ≡ [] = h.words_are in
      absurd cc
  alike_by s m (route.Deliver token (taker.Reaction place)) xs bs memory other x y h =
      let same = replay s token m (actions_of s token place) xs bs memory other x y h.words_are in
      record {
        state = ap (λ (o : Outcome). o.state) same;
        reply = ap (λ (o : Outcome). Some (unwrap_or o.reply none_reply)) same;
        quit = ap (λ (o : Outcome). o.quit) same;
      }
  alike_by s m (route.Deliver token taker.BuiltIn) xs bs None None x y h = record { state = refl; reply = refl; quit = refl }
  alike_by s m (route.Deliver token taker.BuiltIn) xs bs (Some i) (Some j) x y h = record { state = refl; reply = refl; quit = refl }
  alike_by s m (route.Deliver token taker.BuiltIn) xs bs None (Some j) x y h =
      let differ : [] ≡ word.Error error.NoMemory ∷ [] = h.words_are in
      absurd cc
  alike_by s m (route.Deliver token taker.BuiltIn) xs bs (Some i) None x y h =
      let differ : word.Error error.NoMemory ∷ [] ≡ [] = h.words_are in
      absurd cc
  alike_by s m route.Skipped xs bs memory other x y h = record { state = refl; reply = refl; quit = refl }
  alike_by s m route.Dropped xs bs memory other x y h = record { state = refl; reply = refl; quit = refl }
  alike_by s m route.NotUnderstood xs bs memory other x y h = record { state = refl; reply = refl; quit = refl }
  alike_by s m (route.Forward looper) [] bs memory other x y h =
      let never : true ≡ false = h.waits in
      absurd cc
  alike_by s m (route.Forward looper) (a ∷ xs) [] memory other x y h =
      let never : true ≡ false = h.waits-2 in
      absurd cc
  alike_by s m (route.Forward looper) (a ∷ xs) (b ∷ bs) memory other x y h =
      let words : word.Error (error_of a) ∷ [] ≡ word.Error (error_of b) ∷ [] = h.words_are in
      let same : error_of a ≡ error_of b = cc in
      let first : AnswersForward a = h.answered.0 in
      let first-2 : AnswersForward b = h.answered-2.0 in
      record { state = refl; reply = told_alike a b first first-2 same; quit = refl }

  module _ (s : DeskState) (item : ItemData) (words : List AnswerWord) where
    abbrev dispatch_by : (quit : Bool) (t : DeskState) → Dispatches s item words quit t → Dispatch
    dispatch_by quit t d = dispatch_of s item d.answers d.memory

    alike : (quit quit' : Bool) (t u : DeskState) (d : Dispatches s item words quit t) (e : Dispatches s item words quit' u) → Alike (dispatch_by quit t d) (dispatch_by quit' u e)
    alike quit quit' t u d e =
        alike_by s (routed_of s item).message (routed_of s item).route d.answers e.answers d.memory e.memory d.spelled e.spelled
        (record { waits = d.waits; waits-2 = e.waits; answered = d.answered; answered-2 = e.answered; words_are = d.words_are ∙ sym e.words_are })

    one_dispatch : (quit quit' : Bool) (t u : DeskState) → Dispatches s item words quit t → Dispatches s item words quit' u → (quit ≡ quit') × (t ≡ u)
    one_dispatch quit quit' t u d e =
        let same = alike quit quit' t u d e in
        (sym d.quit_is ∙ same.quit ∙ e.quit_is, sym d.state_is ∙ same.state ∙ e.state_is)

    reply_alike : (reply other : Option MessageData) → Replies s item words reply → Replies s item words other → reply ≡ other
    reply_alike reply other r o = sym r.is ∙ (alike r.quit o.quit r.leaves o.leaves r.dispatch o.dispatch).reply ∙ o.is

    has_reply : (quit : Bool) (t : DeskState) (d : Dispatches s item words quit t) → Replies s item words (dispatch_by quit t d).reply
    has_reply quit t d = record { quit = quit; leaves = t; dispatch = d; is = refl }

  one_step : (s : DeskState) (r : EntryRoute) (item : Option ItemData) (words : List AnswerWord) (quit quit' : Bool) (t u : DeskState) → DispatchStep s r item words quit t → DispatchStep s r item words quit' u → (quit ≡ quit') × (t ≡ u)
  one_step s went.NoMemory None words quit quit' t u d e = (d.1.0 ∙ sym e.1.0, d.1.1 ∙ sym e.1.1)
  one_step s went.NoMemory (Some item) words quit quit' t u d e = absurd d
  one_step s (went.To token) None words quit quit' t u d e = absurd d
  one_step s went.Skipped None words quit quit' t u d e = absurd d
  one_step s went.Dropped None words quit quit' t u d e = absurd d
  one_step s went.NotUnderstood None words quit quit' t u d e = absurd d
  one_step s (went.Forward looper) None words quit quit' t u d e = absurd d
  one_step s (went.To token) (Some item) words quit quit' t u d e = one_dispatch s item words quit quit' t u d.1 e.1
  one_step s went.Skipped (Some item) words quit quit' t u d e = one_dispatch s item words quit quit' t u d.1 e.1
  one_step s went.Dropped (Some item) words quit quit' t u d e = one_dispatch s item words quit quit' t u d.1 e.1
  one_step s went.NotUnderstood (Some item) words quit quit' t u d e = one_dispatch s item words quit quit' t u d.1 e.1
  one_step s (went.Forward looper) (Some item) words quit quit' t u d e = one_dispatch s item words quit quit' t u d.1 e.1

  -- the reply of an entry of that route with an item
  module _ (s : DeskState) (r : EntryRoute) (item : ItemData) (words : List AnswerWord) (quit : Bool) (t : DeskState) where
    reply_of_step : ((reply : Option MessageData) → Replies s item words reply → StepReplies s r (Some item) words reply) → ((reply : Option MessageData) → StepReplies s r (Some item) words reply → Replies s item words reply) → Dispatches s item words quit t → HasOneReply s r (Some item) words
    reply_of_step to back d =
        record {
          reply = (dispatch_of s item d.answers d.memory).reply;
          replies = to (dispatch_of s item d.answers d.memory).reply (has_reply s item words quit t d);
          alone = λ other h. reply_alike s item words other (dispatch_of s item d.answers d.memory).reply (back other h) (has_reply s item words quit t d);
        }

  one_reply : (s : DeskState) (r : EntryRoute) (item : Option ItemData) (words : List AnswerWord) (quit : Bool) (t : DeskState) → DispatchStep s r item words quit t → HasOneReply s r item words
  one_reply s went.NoMemory None words quit t d = record { reply = Some none_reply; replies = refl; alone = λ other h. h }
  one_reply s went.NoMemory (Some item) words quit t d = absurd d
  one_reply s (went.To token) None words quit t d = absurd d
  one_reply s went.Skipped None words quit t d = absurd d
  one_reply s went.Dropped None words quit t d = absurd d
  one_reply s went.NotUnderstood None words quit t d = absurd d
  one_reply s (went.Forward looper) None words quit t d = absurd d
  one_reply s (went.To token) (Some item) words quit t d = reply_of_step s (went.To token) item words quit t (λ _ h. h) (λ _ h. h) d.1
  one_reply s went.Skipped (Some item) words quit t d = reply_of_step s went.Skipped item words quit t (λ _ h. h) (λ _ h. h) d.1
  one_reply s went.Dropped (Some item) words quit t d = reply_of_step s went.Dropped item words quit t (λ _ h. h) (λ _ h. h) d.1
  one_reply s went.NotUnderstood (Some item) words quit t d = reply_of_step s went.NotUnderstood item words quit t (λ _ h. h) (λ _ h. h) d.1
  one_reply s (went.Forward looper) (Some item) words quit t d = reply_of_step s (went.Forward looper) item words quit t (λ _ h. h) (λ _ h. h) d.1

  pub entry_tells_reply : EntryTellsReply
  entry_tells_reply s r item words quit quit' t u d e =
      let same = one_step s r item words quit quit' t u d e in
      (same.0, same.1, one_reply s r item words quit t d)

  one_event : (n : ℕ) (s : DeskState) (e : DeskEvent) (item : Option ItemData) (t u : DeskState) → EventStep n s e item t → EventStep n s e item u → t ≡ u
  one_event n s (event.Dispatched position r words quit) item t u d e = (one_step s r item words quit quit t u d.1 e.1).1
  one_event n s (event.Edited what answer) item t u d e = d.2 ∙ sym e.2

  pub state_is_one : StateIsOne
  state_is_one looper n s [] t u d e = d ∙ sym e
  state_is_one looper n s (l ∷ entries) t u (m, (first, rest)) (k, (first-2, rest-2)) =
      let same : k ≡ m = one_event n s l.plain.event l.item k m first-2.event first.event in
      state_is_one looper (counted n l.plain.event) m entries t u rest (subst (λ (x : DeskState). Replays looper (counted n l.plain.event) x entries u) same rest-2)

-- ---- the dispatches are the looper's own
-- an entry that has to be among its own
abbrev IsOwn : DeskEvent → Bool → Type 0
IsOwn (event.Dispatched position r words quit) b = b ≡ true
IsOwn (event.Edited e answer) b = Unit {0}

is_own : (looper by : ℕ) (e : DeskEvent) → IsBy looper by e → IsOwn e (by == 10000 + looper)
is_own looper by (event.Dispatched position r words quit) h = eq-eqb by (10000 + looper) h
is_own looper by (event.Edited e answer) h = tt

counts_none : (n : ℕ) (e : DeskEvent) → IsOwn e false → counted n e ≡ n
counts_none n (event.Dispatched position r words quit) h = absurd cc
counts_none n (event.Edited e answer) h = refl

gives_none : (e : DeskEvent) → IsOwn e false → gives_up e ≡ false
gives_none (event.Dispatched position r words quit) h = absurd cc
gives_none (event.Edited e answer) h = refl

counts_head : (n : ℕ) (l : EntryData) (mine : List EntryData) (b : Bool) → IsOwn l.plain.event b → counted_all (counted n l.plain.event) mine ≡ counted_all n (cond b (l ∷ mine) mine)
counts_head n l mine true h = refl
counts_head n l mine false h = ap (λ (k : ℕ). counted_all k mine) (counts_none n l.plain.event h)

gives_head : (l : EntryData) (mine : List EntryData) (b : Bool) → IsOwn l.plain.event b → gives_up l.plain.event || gave_up mine ≡ gave_up (cond b (l ∷ mine) mine)
gives_head l mine true h = refl
gives_head l mine false h = ap (λ (x : Bool). x || gave_up mine) (gives_none l.plain.event h)

abbrev own_of : ℕ → List EntryData → List EntryData
own_of looper entries = made_by by_number (10000 + looper) entries

own_count : (looper n : ℕ) (s : DeskState) (entries : List EntryData) (t : DeskState) → Replays looper n s entries t → counted_all n entries ≡ counted_all n (own_of looper entries)
own_count looper n s [] t e = refl
own_count looper n s (l ∷ entries) t (u, (step, rest)) =
    own_count looper (counted n l.plain.event) u entries t rest
    ∙ counts_head n l (own_of looper entries) (by_number l == 10000 + looper) (is_own looper l.plain.by.0 l.plain.event step.by)

own_gave_up : (looper n : ℕ) (s : DeskState) (entries : List EntryData) (t : DeskState) → Replays looper n s entries t → gave_up entries ≡ gave_up (own_of looper entries)
own_gave_up looper n s [] t e = refl
own_gave_up looper n s (l ∷ entries) t (u, (step, rest)) =
    ap (λ (x : Bool). gives_up l.plain.event || x) (own_gave_up looper (counted n l.plain.event) u entries t rest)
    ∙ gives_head l (own_of looper entries) (by_number l == 10000 + looper) (is_own looper l.plain.by.0 l.plain.event step.by)

pub dispatches_are_own : DispatchesAreOwn
dispatches_are_own looper s entries t h = (own_count looper 0 s entries t h, own_gave_up looper 0 s entries t h)
