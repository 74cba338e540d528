-- What a send came to that was not written.
use Rattle.std.proofs.Common.{◌≡◌, ◌≢◌, ℕ, ◌-◌, ◌<◌, List, length, false, Some, Ok, Err, refl, sym, ap, subst, arith}
use Rattle.std.proofs.lemmas.List.{length_push}
use Rattle.std.specs.Prelude.{Result}
use Rattle.ak_base.specs.declared.error.KitError.{KitError}
use Rattle.ak_base.specs.declared.error.KitError.TheVariants as error
use Rattle.ak_base.specs.declared.no_memory.NoMemory.{NoMemory}
use Rattle.ak_message.specs.declared.address.Target.TheVariants as target
use Rattle.ak_flatten.specs.declared.item.Duty.TheVariants as duty
use Rattle.ak_flatten.specs.Item.{ItemData}
use Rattle.ak_flatten.specs.Laws.{Spells}
use Rattle.ak_port.specs.declared.port_entry.PortEntry.{PortEntry}
use Rattle.ak_port.specs.declared.port_entry.PortEvent.{PortEvent}
use Rattle.ak_port.specs.declared.port_entry.PortEvent.TheVariants as event
use Rattle.ak_messenger.specs.declared.asking.Reply.{Reply}
use Rattle.ak_messenger.specs.declared.envelope.Envelope.{Envelope}
use Rattle.ak_messenger.specs.declared.fault.SendFault.{SendFault}
use Rattle.ak_messenger.specs.declared.fault.SendFault.TheVariants as fault
use Rattle.ak_diary.specs.Step.{Step}
use Rattle.ak_script.specs.declared.statement.Hey.{Hey}
use Rattle.ak_script.specs.declared.statement.Post.{Post}
use Rattle.ak_print.specs.declared.told.Told.{Told}
use Rattle.ak_print.specs.declared.told.Told.TheVariants as told
use Rattle.ak_run.specs.declared.run.Run.{Run}
use Rattle.ak_run.specs.Recording.{fronts_of, list_at}
use Rattle.ak_messenger.specs.Sends.{item_in}
use Rattle.ak_run.specs.Doing.{AskedSo, DoesSo, EntersLast, PostedSo, RefusedBy}
use Rattle.ak_session.specs.Doing.{Answered}
use Rattle.ak_lines.specs.declared.came.Came.{Came}
use Rattle.ak_lines.specs.declared.outcome.Outcome.{Outcome}
use Rattle.ak_lines.specs.declared.outcome.Outcome.TheVariants as came
use Rattle.ak_lines.specs.Blocks.{IsNothing, error_of, hey_item}
use Rattle.ak_play.specs.Came.{IsAsked, IsAskedInVain, IsSent, MayCome}
use Rattle.ak_lines.specs.Came.{IsEnveloped, IsRefusal, IsRefusedAs, MayRefuse, post_envelope}
use Rattle.ak_play.proofs.Doing.{does_as}

-- the item of a hey line
hey_item_is : (h : Hey) (e : Envelope) → IsEnveloped target.Preferred false e → item_in e duty.None h.message ≡ hey_item h
hey_item_is h e is = ap (λ (x : Envelope). item_in x duty.None h.message) is

module _ (looper : ℕ) (r' : Run) where
  abbrev seen : List PortEntry
  seen = list_at (fronts_of r').ports looper

  -- the entry that refused it is the last that main has seen
  last_place : (e : PortEvent) (steps : List Step) (last : EntersLast looper e r' steps) → length seen - 1 ≡ length last.enters.noted.before
  last_place e steps last = omega (arith, ap length last.last, length_push last.enters.noted.before last.enters.noted.entry)

  some_seen : (e : PortEvent) (steps : List Step) → EntersLast looper e r' steps → 0 < length seen
  some_seen e steps last = omega (arith, ap length last.last, length_push last.enters.noted.before last.enters.noted.entry)

  -- that holds of the outcome of a refusal, and of what is told
  refused_as : (P : Outcome → Told → Type 0) (why : KitError) (result : Result Came NoMemory) → IsRefusedAs looper seen why result → P (came.SendRefused looper (length seen - 1) why) (told.Refused why) → (Q : Result Came NoMemory → Type 0)
      → ((c : Came) → P c.outcome c.told → Q (Ok c)) → Q result
  refused_as P why (Ok c) is holds Q tells =
      tells c (subst (λ (o : Outcome). P o c.told) (sym is.0) (subst (λ (t : Told). P (came.SendRefused looper (length seen - 1) why) t) (sym is.1) holds))
  refused_as P why (Err e) is holds Q tells = absurd is

  -- ---- asks
  ask_refused : (h : Hey) (e : PortEvent) (why : KitError) (steps : List Step) (result : Result Came NoMemory) → error_of e ≡ Some why → why ≢ error.WouldBlock → RefusedBy looper (hey_item h) e r' steps → IsRefusedAs looper seen why result → MayCome (IsAsked h looper) (IsAskedInVain h looper) result steps
  ask_refused h e why steps result why_is waited by is =
      refused_as (λ o t. IsAsked h looper o t steps) why result is
      (refl, record { at_is = refl; e = e; why_is = why_is; waited = waited; withdraws = by.withdraws; enters = by.refused.enters; place_is = last_place e by.withdraws.refused by.refused })
      (λ made. MayCome (IsAsked h looper) (IsAskedInVain h looper) made steps) (λ c holds. holds)

  pub ask_came : (h : Hey) (why : SendFault) (steps : List Step) (result : Result Came NoMemory) → AskedSo looper (hey_item h) (Err why) r' steps → IsRefusal looper seen why result → MayCome (IsAsked h looper) (IsAskedInVain h looper) result steps
  ask_came h fault.BadPort steps result asked is = ask_refused h event.Refused error.BadPortId steps result refl (λ same. absurd (cc same)) asked is
  ask_came h fault.Spent steps result asked is = ask_refused h event.Spent error.Spent steps result refl (λ same. absurd (cc same)) asked is
  ask_came h fault.TooLong steps result asked is = absurd is
  ask_came h fault.NoMemory steps (Ok c) asked is = absurd is
  ask_came h fault.NoMemory steps (Err e) asked is = asked
  ask_came h fault.WouldBlock steps result asked is = absurd asked

  pub ask_may : (item : ItemData) (why : SendFault) (steps : List Step) → AskedSo looper item (Err why) r' steps → (why ≡ fault.TooLong → ⊥) → MayRefuse seen why
  ask_may item fault.BadPort steps asked short = some_seen event.Refused asked.withdraws.refused asked.refused
  ask_may item fault.Spent steps asked short = some_seen event.Spent asked.withdraws.refused asked.refused
  ask_may item fault.TooLong steps asked short = short refl
  ask_may item fault.NoMemory steps asked short = tt
  ask_may item fault.WouldBlock steps asked short = absurd asked

  -- a reply
  pub ask_answered : (h : Hey) (e : Envelope) (reply : Reply) (r : Run) → IsEnveloped target.Preferred false e → Spells reply.flat reply.message → DoesSo (AskedSo looper (item_in e duty.None h.message) (Ok reply) r') r r'
      → DoesSo (IsAsked h looper (came.Replied reply.slot) (told.Reply reply.message)) r r'
  ask_answered h e reply r is spells did =
      does_as (AskedSo looper (item_in e duty.None h.message) (Ok reply) r') (IsAsked h looper (came.Replied reply.slot) (told.Reply reply.message)) r r'
      (λ steps asked. record { reply = reply; answered = subst (λ (item : ItemData). Answered looper item reply steps) (hey_item_is h e is) asked; slot_is = refl; message_is = refl; spells = spells }) did

  pub ask_in_vain : (h : Hey) (e : Envelope) (why : SendFault) (r : Run) (result : Result Came NoMemory) → IsEnveloped target.Preferred false e → IsRefusal looper seen why result → DoesSo (AskedSo looper (item_in e duty.None h.message) (Err why) r') r r'
      → DoesSo (MayCome (IsAsked h looper) (IsAskedInVain h looper) result) r r'
  ask_in_vain h e why r result is refusal did =
      does_as (AskedSo looper (item_in e duty.None h.message) (Err why) r') (MayCome (IsAsked h looper) (IsAskedInVain h looper) result) r r'
      (λ steps asked. ask_came h why steps result (subst (λ (item : ItemData). AskedSo looper item (Err why) r' steps) (hey_item_is h e is) asked) refusal) did

  -- ---- posts
  post_refused : (p : Post) (e : PortEvent) (why : KitError) (steps : List Step) (result : Result Came NoMemory) → error_of e ≡ Some why → (why ≡ error.WouldBlock → p.waits ≡ false) → EntersLast looper e r' steps → IsRefusedAs looper seen why result → MayCome (IsSent p looper) IsNothing result steps
  post_refused p e why steps result why_is at_once last is =
      refused_as (λ o t. IsSent p looper o t steps) why result is
      (refl, record { at_is = refl; e = e; why_is = why_is; at_once = at_once; enters = last.enters; place_is = last_place e steps last })
      (λ made. MayCome (IsSent p looper) IsNothing made steps) (λ c holds. holds)

  pub post_not_written : (p : Post) (why : SendFault) → (why ≡ fault.WouldBlock → p.waits ≡ false) → (steps : List Step) (result : Result Came NoMemory) → PostedSo looper (post_envelope p) p.message (Err why) r' steps → IsRefusal looper seen why result → MayCome (IsSent p looper) IsNothing result steps
  post_not_written p fault.BadPort at_once steps result posted is = post_refused p event.Refused error.BadPortId steps result refl (λ same. absurd (cc same)) posted is
  post_not_written p fault.Spent at_once steps result posted is = post_refused p event.Spent error.Spent steps result refl (λ same. absurd (cc same)) posted is
  post_not_written p fault.WouldBlock at_once steps result posted is = post_refused p event.Full error.WouldBlock steps result refl (λ same. at_once refl) posted is
  post_not_written p fault.TooLong at_once steps result posted is = absurd is
  post_not_written p fault.NoMemory at_once steps (Ok c) posted is = absurd is
  post_not_written p fault.NoMemory at_once steps (Err e) posted is = posted

  pub post_may : (p : Post) (why : SendFault) (steps : List Step) → PostedSo looper (post_envelope p) p.message (Err why) r' steps → (why ≡ fault.TooLong → ⊥) → MayRefuse seen why
  post_may p fault.BadPort steps posted short = some_seen event.Refused steps posted
  post_may p fault.Spent steps posted short = some_seen event.Spent steps posted
  post_may p fault.WouldBlock steps posted short = some_seen event.Full steps posted
  post_may p fault.TooLong steps posted short = short refl
  post_may p fault.NoMemory steps posted short = tt

  pub post_in_vain : (p : Post) (why : SendFault) (r : Run) (result : Result Came NoMemory) → (why ≡ fault.WouldBlock → p.waits ≡ false) → IsRefusal looper seen why result → DoesSo (PostedSo looper (post_envelope p) p.message (Err why) r') r r' → DoesSo (MayCome (IsSent p looper) IsNothing result) r r'
  post_in_vain p why r result at_once refusal did =
      does_as (PostedSo looper (post_envelope p) p.message (Err why) r') (MayCome (IsSent p looper) IsNothing result) r r' (λ steps posted. post_not_written p why at_once steps result posted refusal) did
