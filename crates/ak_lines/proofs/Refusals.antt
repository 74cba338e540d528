-- What a send or an edit came to, behind the looper's door.
use Rattle.std.proofs.Common.{◌≡◌, ◌≢◌, ℕ, ◌-◌, ◌<◌, List, length, false, Some, Ok, Err, refl, sym, ap, subst, arith}
use Rattle.std.proofs.lemmas.List.{length_push}
use Rattle.std.specs.Prelude.{Result}
use Rattle.ak_base.specs.declared.error.KitError.{KitError}
use Rattle.ak_base.specs.declared.error.KitError.TheVariants as error
use Rattle.ak_base.specs.declared.no_memory.NoMemory.{NoMemory}
use Rattle.ak_message.specs.declared.address.Target.TheVariants as target
use Rattle.ak_flatten.specs.declared.item.Duty.TheVariants as duty
use Rattle.ak_flatten.specs.Item.{ItemData}
use Rattle.ak_flatten.specs.Laws.{Spells}
use Rattle.ak_roster.specs.declared.head.AppHead.{AppHead}
use Rattle.ak_port.specs.declared.port_entry.PortEntry.{PortEntry}
use Rattle.ak_port.specs.declared.port_entry.PortEvent.{PortEvent}
use Rattle.ak_port.specs.declared.port_entry.PortEvent.TheVariants as event
use Rattle.ak_messenger.specs.declared.asking.Reply.{Reply}
use Rattle.ak_messenger.specs.declared.envelope.Envelope.{Envelope}
use Rattle.ak_messenger.specs.declared.fault.SendFault.{SendFault}
use Rattle.ak_messenger.specs.declared.fault.SendFault.TheVariants as fault
use Rattle.ak_messenger.specs.Sends.{item_in}
use Rattle.ak_desk.specs.declared.entry.Edit.{Edit}
use Rattle.ak_desk.specs.declared.entry.EditAnswer.{EditAnswer}
use Rattle.ak_diary.specs.Step.{Step}
use Rattle.ak_script.specs.declared.statement.Hey.{Hey}
use Rattle.ak_script.specs.declared.statement.Lock.{Lock}
use Rattle.ak_script.specs.declared.statement.Post.{Post}
use Rattle.ak_print.specs.declared.told.Told.{Told}
use Rattle.ak_print.specs.declared.told.Told.TheVariants as told
use Rattle.ak_session.specs.declared.answers.Edited.TheVariants as edited
use Rattle.ak_session.specs.declared.session.Session.{Session}
use Rattle.ak_session.specs.Doing.{Answered, AskedSo, EditedSo, EditsAt, EditsThrough, EntersLast, PostedSo, RefusedBy, SendsThrough, Through}
use Rattle.ak_session.specs.Stands.{GoesOn, IsStanding, Stands}
use Rattle.ak_lines.specs.declared.came.Came.{Came}
use Rattle.ak_lines.specs.declared.outcome.Outcome.{Outcome}
use Rattle.ak_lines.specs.declared.outcome.Outcome.TheVariants as came
use Rattle.ak_lines.specs.Blocks.{IsAnswered, IsEdited, IsPostRefused, IsPosted, IsRefused, error_of, hey_item, post_item}
use Rattle.ak_lines.specs.Came.{EndsInVain, IsAsked, IsAskedInVain, IsEnveloped, IsLocked, IsRefusal, IsRefusedAs, IsSent, MayCome, MayRefuse, post_envelope}
use Rattle.ak_lines.proofs.Going.{goes_as}

-- the item of a hey line
hey_item_is : (h : Hey) (e : Envelope) → IsEnveloped target.Preferred false e → item_in e duty.None h.message ≡ hey_item h
hey_item_is h e is = ap (λ (x : Envelope). item_in x duty.None h.message) is

-- an ask and a post, by their answers
abbrev AsksTo : List Step → ℕ → ItemData → Result Reply SendFault → List PortEntry → List Step → Type 0
AsksTo so_far looper item sent seen steps = SendsThrough so_far looper sent (AskedSo looper item sent seen) steps

abbrev PostsTo : List Step → ℕ → Post → Result ℕ SendFault → List PortEntry → List Step → Type 0
PostsTo so_far looper p sent seen steps = SendsThrough so_far looper sent (PostedSo looper (post_envelope p) p.message sent seen) steps

-- it does something else behind the door
through_as : (so_far : List Step) (looper : ℕ) (P Q : List Step → Type 0) (steps : List Step) → ((rest : List Step) → P rest → Q rest) → Through so_far looper P steps → Through so_far looper Q steps
through_as so_far looper P Q steps becomes t = record { door = t.door; opens = t.opens; rest = t.rest; then_does = becomes t.rest t.then_does; is = t.is }

module _ (looper : ℕ) (seen : List PortEntry) where
  -- the entry that refused it is the last that the session has seen
  last_place : (e : PortEvent) (steps : List Step) (last : EntersLast looper e seen steps) → length seen - 1 ≡ length last.enters.noted.before
  last_place e steps last = omega (arith, ap length last.last, length_push last.enters.noted.before last.enters.noted.entry)

  some_seen : (e : PortEvent) (steps : List Step) → EntersLast looper e seen steps → 0 < length seen
  some_seen e steps last = omega (arith, ap length last.last, length_push last.enters.noted.before last.enters.noted.entry)

  -- that holds of the outcome of a refusal, and of what is told
  refused_as : (P : Outcome → Told → Type 0) (why : KitError) (result : Result Came NoMemory) → IsRefusedAs looper seen why result → P (came.SendRefused looper (length seen - 1) why) (told.Refused why) → (Q : Result Came NoMemory → Type 0)
      → ((c : Came) → P c.outcome c.told → Q (Ok c)) → Q result
  refused_as P why (Ok c) is holds Q tells =
      tells c (subst (λ (o : Outcome). P o c.told) (sym is.0) (subst (λ (t : Told). P (came.SendRefused looper (length seen - 1) why) t) (sym is.1) holds))
  refused_as P why (Err e) is holds Q tells = absurd is

  module _ (so_far : List Step) where
    -- ---- asks
    ask_refused : (h : Hey) (e : PortEvent) (why : KitError) (steps : List Step) (result : Result Came NoMemory) → error_of e ≡ Some why → why ≢ error.WouldBlock → Through so_far looper (RefusedBy looper (hey_item h) e seen) steps
        → IsRefusedAs looper seen why result → MayCome (IsAsked so_far h looper) (IsAskedInVain so_far h looper) result steps
    ask_refused h e why steps result why_is waited by is =
        refused_as (λ o t. IsAsked so_far h looper o t steps) why result is (
          refl,
          through_as so_far looper (RefusedBy looper (hey_item h) e seen) (IsRefused (hey_item h) looper (length seen - 1) why looper) steps
              (λ rest b. record { at_is = refl; e = e; why_is = why_is; waited = waited; withdraws = b.withdraws; enters = b.refused.enters; place_is = last_place e b.withdraws.refused b.refused }) by,
        )
        (λ made. MayCome (IsAsked so_far h looper) (IsAskedInVain so_far h looper) made steps) (λ c holds. holds)

    ask_not_written : (h : Hey) (why : SendFault) (steps : List Step) (result : Result Came NoMemory) → AsksTo so_far looper (hey_item h) (Err why) seen steps → IsRefusal looper seen why result
        → MayCome (IsAsked so_far h looper) (IsAskedInVain so_far h looper) result steps
    ask_not_written h fault.BadPort steps result asked is = ask_refused h event.Refused error.BadPortId steps result refl (λ same. absurd (cc same)) asked is
    ask_not_written h fault.Spent steps result asked is = ask_refused h event.Spent error.Spent steps result refl (λ same. absurd (cc same)) asked is
    ask_not_written h fault.TooLong steps result asked is = absurd is
    ask_not_written h fault.NoMemory steps (Ok c) asked is = absurd is
    ask_not_written h fault.NoMemory steps (Err e) asked is = asked
    ask_not_written h fault.WouldBlock steps result asked is = absurd asked.then_does

    ask_may_refuse : (item : ItemData) (why : SendFault) (steps : List Step) → AsksTo so_far looper item (Err why) seen steps → (why ≡ fault.TooLong → ⊥) → MayRefuse seen why
    ask_may_refuse item fault.BadPort steps asked short = some_seen event.Refused asked.then_does.withdraws.refused asked.then_does.refused
    ask_may_refuse item fault.Spent steps asked short = some_seen event.Spent asked.then_does.withdraws.refused asked.then_does.refused
    ask_may_refuse item fault.TooLong steps asked short = short refl
    ask_may_refuse item fault.NoMemory steps asked short = tt
    ask_may_refuse item fault.WouldBlock steps asked short = absurd asked.then_does

    -- ---- posts
    post_refused : (p : Post) (e : PortEvent) (why : KitError) (steps : List Step) (result : Result Came NoMemory) → error_of e ≡ Some why → (why ≡ error.WouldBlock → p.waits ≡ false) → Through so_far looper (EntersLast looper e seen) steps
        → IsRefusedAs looper seen why result → MayCome (IsSent so_far p looper) (EndsInVain so_far looper) result steps
    post_refused p e why steps result why_is at_once through is =
        refused_as (λ o t. IsSent so_far p looper o t steps) why result is (
          refl,
          through_as so_far looper (EntersLast looper e seen) (IsPostRefused p.waits looper (length seen - 1) why looper) steps
              (λ rest last. record { at_is = refl; e = e; why_is = why_is; at_once = at_once; enters = last.enters; place_is = last_place e rest last }) through,
        )
        (λ made. MayCome (IsSent so_far p looper) (EndsInVain so_far looper) made steps) (λ c holds. holds)

    post_not_written : (p : Post) (why : SendFault) → (why ≡ fault.WouldBlock → p.waits ≡ false) → (steps : List Step) (result : Result Came NoMemory)
        → PostsTo so_far looper p (Err why) seen steps → IsRefusal looper seen why result → MayCome (IsSent so_far p looper) (EndsInVain so_far looper) result steps
    post_not_written p fault.BadPort at_once steps result posted is = post_refused p event.Refused error.BadPortId steps result refl (λ same. absurd (cc same)) posted is
    post_not_written p fault.Spent at_once steps result posted is = post_refused p event.Spent error.Spent steps result refl (λ same. absurd (cc same)) posted is
    post_not_written p fault.WouldBlock at_once steps result posted is = post_refused p event.Full error.WouldBlock steps result refl (λ same. at_once refl) posted is
    post_not_written p fault.TooLong at_once steps result posted is = absurd is
    post_not_written p fault.NoMemory at_once steps (Ok c) posted is = absurd is
    post_not_written p fault.NoMemory at_once steps (Err e) posted is = posted

    post_may_refuse : (p : Post) (why : SendFault) (steps : List Step) → PostsTo so_far looper p (Err why) seen steps → (why ≡ fault.TooLong → ⊥) → MayRefuse seen why
    post_may_refuse p fault.BadPort steps posted short = some_seen event.Refused posted.rest posted.then_does
    post_may_refuse p fault.Spent steps posted short = some_seen event.Spent posted.rest posted.then_does
    post_may_refuse p fault.WouldBlock steps posted short = some_seen event.Full posted.rest posted.then_does
    post_may_refuse p fault.TooLong steps posted short = short refl
    post_may_refuse p fault.NoMemory steps posted short = tt

  -- ---- of a session
  pub ask_may : (item : ItemData) (why : SendFault) (s s' : Session) → IsStanding s → ((heads : List AppHead) (start : ℕ) (so_far : List Step) → Stands heads start so_far s → GoesOn heads start so_far (AsksTo so_far looper item (Err why) seen) s')
      → (why ≡ fault.TooLong → ⊥) → MayRefuse seen why
  ask_may item why s s' is goes short = let on = goes is.heads is.start is.steps is.stands in ask_may_refuse is.steps item why on.steps on.does short

  pub post_may : (p : Post) (why : SendFault) (s s' : Session) → IsStanding s
      → ((heads : List AppHead) (start : ℕ) (so_far : List Step) → Stands heads start so_far s → GoesOn heads start so_far (PostsTo so_far looper p (Err why) seen) s')
      → (why ≡ fault.TooLong → ⊥) → MayRefuse seen why
  post_may p why s s' is goes short = let on = goes is.heads is.start is.steps is.stands in post_may_refuse is.steps p why on.steps on.does short

  module _ (heads : List AppHead) (start : ℕ) (so_far : List Step) (s' : Session) where
    pub ask_answered : (h : Hey) (e : Envelope) (reply : Reply) → IsEnveloped target.Preferred false e → Spells reply.flat reply.message
        → GoesOn heads start so_far (AsksTo so_far looper (item_in e duty.None h.message) (Ok reply) seen) s'
        → GoesOn heads start so_far (IsAsked so_far h looper (came.Replied reply.slot) (told.Reply reply.message)) s'
    ask_answered h e reply is spells =
        goes_as heads start so_far s' (Through so_far looper (Answered looper (item_in e duty.None h.message) reply)) (IsAsked so_far h looper (came.Replied reply.slot) (told.Reply reply.message))
        (λ steps asked. through_as so_far looper (Answered looper (item_in e duty.None h.message) reply) (IsAnswered (hey_item h) reply.slot reply.message looper) steps
        (λ rest a. record { reply = reply; answered = subst (λ (item : ItemData). Answered looper item reply rest) (hey_item_is h e is) a; slot_is = refl; message_is = refl; spells = spells }) asked)

    pub ask_in_vain : (h : Hey) (e : Envelope) (why : SendFault) (result : Result Came NoMemory) → IsEnveloped target.Preferred false e → IsRefusal looper seen why result
        → GoesOn heads start so_far (AsksTo so_far looper (item_in e duty.None h.message) (Err why) seen) s'
        → GoesOn heads start so_far (MayCome (IsAsked so_far h looper) (IsAskedInVain so_far h looper) result) s'
    ask_in_vain h e why result is refusal =
        goes_as heads start so_far s' (AsksTo so_far looper (item_in e duty.None h.message) (Err why) seen) (MayCome (IsAsked so_far h looper) (IsAskedInVain so_far h looper) result)
        (λ steps asked. ask_not_written so_far h why steps result (subst (λ (item : ItemData). AsksTo so_far looper item (Err why) seen steps) (hey_item_is h e is) asked) refusal)

    pub post_in_vain : (p : Post) (why : SendFault) (result : Result Came NoMemory) → (why ≡ fault.WouldBlock → p.waits ≡ false) → IsRefusal looper seen why result
        → GoesOn heads start so_far (PostsTo so_far looper p (Err why) seen) s' → GoesOn heads start so_far (MayCome (IsSent so_far p looper) (EndsInVain so_far looper) result) s'
    post_in_vain p why result at_once refusal =
        goes_as heads start so_far s' (PostsTo so_far looper p (Err why) seen) (MayCome (IsSent so_far p looper) (EndsInVain so_far looper) result)
        (λ steps posted. post_not_written so_far p why at_once steps result posted refusal)

    pub post_written : (p : Post) (position : ℕ) → GoesOn heads start so_far (PostsTo so_far looper p (Ok position) seen) s'
        → GoesOn heads start so_far (IsSent so_far p looper (came.Posted looper position) told.Posted) s'
    post_written p position =
        goes_as heads start so_far s' (Through so_far looper (PostedSo looper (post_envelope p) p.message (Ok position) seen)) (IsSent so_far p looper (came.Posted looper position) told.Posted)
        (λ steps posted. through_as so_far looper (PostedSo looper (post_envelope p) p.message (Ok position) seen) (IsPosted (post_item p) looper position looper) steps (λ rest last. record { at_is = refl; enters = last.enters }) posted)

-- ---- edits
pub edit_answered : (heads : List AppHead) (start : ℕ) (so_far : List Step) (s' : Session) (l : Lock) (looper place : ℕ) (edit : Edit) (answer : EditAnswer) → edit ≡ l.edit
    → GoesOn heads start so_far (EditsThrough so_far looper (edited.Entered answer place) (EditedSo looper edit (edited.Entered answer place))) s' → GoesOn heads start so_far (IsLocked so_far l looper (came.Edited looper place) (told.Edit answer)) s'
edit_answered heads start so_far s' l looper place edit answer same =
    goes_as heads start so_far s' (EditsThrough so_far looper (edited.Entered answer place) (EditedSo looper edit (edited.Entered answer place))) (IsLocked so_far l looper (came.Edited looper place) (told.Edit answer))
    (λ steps edits. through_as so_far looper (EditedSo looper edit (edited.Entered answer place)) (IsEdited l looper place answer looper) steps
    (λ rest e. record { at_is = refl; edits = subst (λ (x : Edit). EditsAt looper x answer place rest) same e }) edits)
