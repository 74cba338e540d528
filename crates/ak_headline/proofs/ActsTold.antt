-- The diaries of main and of sessions, act after act: they ask and take, and neither send on nor fill.
use Rattle.std.proofs.Common.{◌≡◌, ℕ, true, false, List, [], ◌∷◌, Option, None, Some, refl, arith}
use Rattle.ak_flatten.specs.declared.item.Duty.{Duty}
use Rattle.ak_flatten.specs.declared.item.Duty.TheVariants as duty
use Rattle.ak_roster.specs.declared.entry.RosterEvent.{RosterEvent}
use Rattle.ak_port.specs.declared.port_entry.PortEvent.{PortEvent}
use Rattle.ak_port.specs.declared.port_entry.PortEvent.TheVariants as event
use Rattle.ak_diary.specs.Step.{Step, at_desk, saw_port, saw_roster}
use Rattle.ak_headline.specs.Answers.{owes}
use Rattle.ak_headline.specs.Diaries.{MainTallies, SessionsTally}
use Rattle.ak_headline.specs.Main.{AreActs, IsAct, IsActBy, IsMainDiary, IsSessionAct, IsSessionDiary, MayEnterPort, MayEnterRoster, MayRefuse, SessionMayEnterPort, SessionMayEnterRoster, asks, asks_in_vain, begun, edits, enters_port, enters_roster, finds_gone, finds_shut, owes_no_slot, went_on}
use Rattle.ak_headline.specs.Tally.{Tally, writes_owing}
use Rattle.ak_headline.proofs.Counting.{Adds, add_as, add_both, add_counted, add_none, count_one}
use Rattle.ak_headline.proofs.Wanting.{Keeps, add_converses, add_enters, add_roster, add_withdraws}

no_slot : (n : ℕ) (owed : Duty) → owes_no_slot owed ≡ true → owes n owed ≡ false
no_slot n duty.None e = refl
no_slot n (duty.Slot m) e = absurd cc
no_slot n (duty.Back to) e = refl

idle_event : (n : ℕ) (e : PortEvent) → MayEnterPort e → writes_owing n e ≡ false
idle_event n (event.Made capacity life) may = refl
idle_event n (event.Written position item) may = no_slot n item.duty may
idle_event n event.Full may = refl
idle_event n event.Refused may = refl
idle_event n event.Spent may = refl
idle_event n (event.Took k) may = absurd may
idle_event n (event.Rest k) may = absurd may
idle_event n event.Shut may = refl

idle_session : (n : ℕ) (e : PortEvent) → SessionMayEnterPort e → writes_owing n e ≡ false
idle_session n (event.Made capacity life) may = absurd may
idle_session n (event.Written position item) may = no_slot n item.duty may
idle_session n event.Full may = refl
idle_session n event.Refused may = refl
idle_session n event.Spent may = refl
idle_session n (event.Took k) may = absurd may
idle_session n (event.Rest k) may = absurd may
idle_session n event.Shut may = absurd may

idle_refusal : (n : ℕ) (e : Option PortEvent) → MayRefuse e → Keeps n e
idle_refusal n None may = tt
idle_refusal n (Some event.Refused) may = refl
idle_refusal n (Some event.Spent) may = refl
idle_refusal n (Some (event.Made capacity life)) may = absurd may
idle_refusal n (Some (event.Written position item)) may = absurd may
idle_refusal n (Some event.Full) may = absurd may
idle_refusal n (Some (event.Took k)) may = absurd may
idle_refusal n (Some (event.Rest k)) may = absurd may
idle_refusal n (Some event.Shut) may = absurd may

-- no looper is below who is none
abbrev pub NoLooper : ℕ → Type 0
NoLooper looper = ⊥

module _ (n : ℕ) where
  abbrev AddsNone : List Step → Type 0
  AddsNone steps = Adds NoLooper n 0 0 steps

  one_step : (step : Step) (steps : List Step) → steps ≡ step ∷ [] → AddsNone (step ∷ []) → AddsNone steps
  one_step step steps is a = add_as NoLooper n 0 0 steps (step ∷ []) is a

  -- an act whose entries at ports write nothing that owes the slot, but for asks
  module _ (AtPort : PortEvent → Type 0) (AtRoster : RosterEvent → Type 0) (idle : (e : PortEvent) → AtPort e → writes_owing n e ≡ false) where
    act_adds : (steps : List Step) → IsActBy AtPort AtRoster steps → AddsNone steps
    act_adds steps (asks to item flat c) = add_converses NoLooper n to item flat steps c
    act_adds steps (asks_in_vain to e may w) = add_withdraws NoLooper n to e steps (idle_refusal n e may) w
    act_adds steps (enters_port looper e may enters) = add_enters NoLooper n looper e steps (idle e may) enters
    act_adds steps (finds_shut looper may f) =
        one_step (saw_port looper f.seen) steps f.is (add_counted NoLooper n (saw_port looper f.seen ∷ []) 0 0 (count_one n (saw_port looper f.seen)) (omega arith))
    act_adds steps (edits looper e) = one_step (at_desk looper e.noted) steps e.is (add_counted NoLooper n (at_desk looper e.noted ∷ []) 0 0 (count_one n (at_desk looper e.noted)) (omega arith))
    act_adds steps (enters_roster noted may is) = add_roster NoLooper n noted steps is
    act_adds steps (finds_gone team may seen is) = one_step (saw_roster seen) steps is (add_counted NoLooper n (saw_roster seen ∷ []) 0 0 (count_one n (saw_roster seen)) (omega arith))

  all_add : (Act : List Step → List Step → Type 0) → ((so_far act : List Step) → Act so_far act → AddsNone act) → (steps : List Step) → AreActs Act steps → AddsNone steps
  all_add Act each _ begun = add_none NoLooper n
  all_add Act each _ (went_on so_far act acts does) = add_both NoLooper n 0 0 0 0 so_far act (all_add Act each so_far acts) (each so_far act does)

  pub main_adds : (steps : List Step) → IsMainDiary steps → AddsNone steps
  main_adds steps diary = all_add (λ so_far act. IsAct act) (λ so_far act does. act_adds MayEnterPort MayEnterRoster (idle_event n) act does) steps diary

  pub session_adds : (steps : List Step) → IsSessionDiary steps → AddsNone steps
  session_adds steps diary = all_add IsSessionAct (λ so_far act does. act_adds SessionMayEnterPort SessionMayEnterRoster (idle_session n) act does.does) steps diary

-- such a diary tallies, without a desk
tally_of : (n : ℕ) (steps : List Step) → Adds NoLooper n 0 0 steps → Tally n [] [] [] steps
tally_of n steps a = record { asks = a.asks; sent = a.sent_are; opened = a.opened; took = a.took; filled = a.most; settled = a.settled }

pub main_tallies : MainTallies
main_tallies steps diary n = tally_of n steps (main_adds n steps diary)

pub sessions_tally : SessionsTally
sessions_tally steps diary n = tally_of n steps (session_adds n steps diary)
