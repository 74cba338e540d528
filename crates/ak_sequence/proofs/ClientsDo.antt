-- The diaries of main and of the sessions: between acts nothing is to be done, and each slot that is opened is asked with or cancelled.
use Rattle.std.proofs.Common.{ℕ, List, ◌∷◌, ◌++◌, Option, None, Some, refl, sym, subst, inl, ⊎_elim}
use Rattle.ak_message.specs.declared.address.Address.{Address}
use Rattle.ak_flatten.specs.Item.{ItemData}
use Rattle.ak_roster.specs.declared.entry.RosterEvent.{RosterEvent}
use Rattle.ak_port.specs.declared.port_entry.PortEvent.{PortEvent}
use Rattle.ak_port.specs.declared.port_entry.PortEvent.TheVariants as port_event
use Rattle.ak_port.specs.declared.reply_entry.ReplyEvent.{ReplyEvent}
use Rattle.ak_action.specs.declared.state.DeskState.{DeskState}
use Rattle.ak_desk.specs.declared.entry.DeskEvent.{DeskEvent}
use Rattle.ak_diary.specs.Step.{Step, at_book, at_desk, at_roster, saw_port, saw_roster}
use Rattle.ak_diary.specs.Wants as wants
use Rattle.ak_diary.specs.Wants.{Cancels, Converses, IsRefusedBy, Withdraws}
use Rattle.ak_headline.specs.Headline.{MissesNone}
use Rattle.ak_headline.specs.Main.{AreActs, IsAct, IsActBy, IsSessionAct, MayEnterPort, MayRefuse, SessionMayEnterPort, asks, asks_in_vain, begun, edits, enters_port, enters_roster, finds_gone, finds_shut, went_on}
use Rattle.ak_sequence.proofs.Doing.{Doing, DoesAll, DoesAtBook, DoesAtDesk, DoesAtPort, idle}
use Rattle.ak_sequence.proofs.Parts.{MainDoes, SessionsDo}
use Rattle.ak_sequence.proofs.Steps.{Stays, does_both, does_one, misses_first, misses_rest, no_sight, stays_at_port, stays_none}

-- it opened a slot, and has nothing else to do
abbrev has_opened : ℕ → Doing
has_opened n = record idle { asking = Some n }

module _ (short : List ℕ) (openings : ℕ → DeskState) (thread : ℕ) where
  abbrev Idles : List Step → Type 0
  Idles steps = DoesAll short openings thread idle steps idle

  -- ---- an ask
  converses_does : (to : Address) (item : ItemData) (flat : List ℕ) (steps : List Step) → Converses to item flat steps → Idles steps
  converses_does to item flat steps c =
      let opened : DoesAtBook short openings thread idle c.opened.entry.event (has_opened c.slot) =
      subst (λ (k : ReplyEvent). DoesAtBook short openings thread idle k (has_opened c.slot)) (sym c.opened_is) (refl, refl) in
      let written : DoesAtPort short openings thread (has_opened c.slot) to.looper c.written.before c.written.entry.event idle =
      subst (λ (k : PortEvent). DoesAtPort short openings thread (has_opened c.slot) to.looper c.written.before k idle) (sym c.written_is) (inl (refl, refl)) in
      let taken : DoesAtBook short openings thread idle c.taken.entry.event idle = subst (λ (k : ReplyEvent). DoesAtBook short openings thread idle k idle) (sym c.taken_is) refl in
      subst Idles (sym c.is) (has_opened c.slot, opened, (idle, written, (idle, taken, refl)))

  -- ---- an ask in vain
  refused_stays : (looper : ℕ) (e : Option PortEvent) (steps : List Step) → MayRefuse e → IsRefusedBy looper e steps → Stays short openings thread steps
  refused_stays looper None steps may r = stays_none short openings thread steps r
  refused_stays looper (Some port_event.Refused) steps may r = stays_at_port short openings thread looper port_event.Refused steps tt r
  refused_stays looper (Some port_event.Spent) steps may r = stays_at_port short openings thread looper port_event.Spent steps tt r
  refused_stays looper (Some port_event.Full) steps may r = absurd may
  refused_stays looper (Some port_event.Shut) steps may r = absurd may
  refused_stays looper (Some (port_event.Made capacity life)) steps may r = absurd may
  refused_stays looper (Some (port_event.Written position item)) steps may r = absurd may
  refused_stays looper (Some (port_event.Took k)) steps may r = absurd may
  refused_stays looper (Some (port_event.Rest k)) steps may r = absurd may

  cancels_does : (n : ℕ) (steps : List Step) → MissesNone steps → Cancels n steps → DoesAll short openings thread (has_opened n) steps idle
  cancels_does n steps none c =
      ⊎_elim
      (λ (t : wants.EntersCancel n steps).
      does_one short openings thread (has_opened n) idle (at_book t.noted) steps t.is (subst (λ (k : ReplyEvent). DoesAtBook short openings thread (has_opened n) k idle) (sym t.event_is) (refl, refl)))
      (λ (t : wants.FindsFilled n steps). absurd (no_sight t.seen steps t.is none)) c

  withdraws_does : (to : Address) (e : Option PortEvent) (steps : List Step) → MayRefuse e → MissesNone steps → Withdraws to e steps → Idles steps
  withdraws_does to e steps may none w =
      let opened : DoesAtBook short openings thread idle w.opened.entry.event (has_opened w.slot) =
      subst (λ (k : ReplyEvent). DoesAtBook short openings thread idle k (has_opened w.slot)) (sym w.opened_is) (refl, refl) in
      let front : List Step = at_book w.opened ∷ w.refused in
      does_both short openings thread idle (has_opened w.slot) idle front w.closing steps w.is
      (has_opened w.slot, opened, refused_stays to.looper e w.refused may w.refused_is (has_opened w.slot))
      (cancels_does w.slot w.closing (misses_rest front w.closing steps w.is none) w.closes)

  -- ---- act after act
  module _ (AtPort : PortEvent → Type 0) (AtRoster : RosterEvent → Type 0) (plain : (e : PortEvent) → AtPort e → MayEnterPort e) where
    act_does : (steps : List Step) → MissesNone steps → IsActBy AtPort AtRoster steps → Idles steps
    act_does steps none (asks to item flat c) = converses_does to item flat steps c
    act_does steps none (asks_in_vain to e may w) = withdraws_does to e steps may none w
    act_does steps none (enters_port looper e may enters) = stays_at_port short openings thread looper e steps (plain e may) enters idle
    act_does steps none (finds_shut looper may f) = does_one short openings thread idle idle (saw_port looper f.seen) steps f.is refl
    act_does steps none (edits looper e) =
        does_one short openings thread idle idle (at_desk looper e.noted) steps e.is
        (subst (λ (k : DeskEvent). DoesAtDesk short openings thread idle looper k e.noted idle) (sym e.event_is) refl)
    act_does steps none (enters_roster noted may is) = does_one short openings thread idle idle (at_roster noted) steps is refl
    act_does steps none (finds_gone team may seen is) = does_one short openings thread idle idle (saw_roster seen) steps is refl

  acts_do : (Act : List Step → List Step → Type 0) → ((so_far act : List Step) → MissesNone act → Act so_far act → Idles act) → (steps : List Step) → MissesNone steps → AreActs Act steps → Idles steps
  acts_do Act each _ none begun = refl
  acts_do Act each _ none (went_on so_far act acts does) =
      does_both short openings thread idle idle idle so_far act (so_far ++ act) refl
      (acts_do Act each so_far (misses_first so_far act (so_far ++ act) refl none) acts)
      (each so_far act (misses_rest so_far act (so_far ++ act) refl none) does)

-- ---- main and the sessions
session_plain : (e : PortEvent) → SessionMayEnterPort e → MayEnterPort e
session_plain (port_event.Made capacity life) may = tt
session_plain (port_event.Written position item) may = may
session_plain port_event.Full may = tt
session_plain port_event.Refused may = tt
session_plain port_event.Spent may = tt
session_plain (port_event.Took k) may = may
session_plain (port_event.Rest k) may = may
session_plain port_event.Shut may = tt

pub main_does : MainDoes
main_does steps diary none short openings thread =
    (idle, acts_do short openings thread (λ so_far act. IsAct act) (λ so_far act seen does. act_does short openings thread _ _ (λ e may. may) act seen does) steps none diary)

pub sessions_do : SessionsDo
sessions_do steps diary none short openings thread =
    (idle, acts_do short openings thread IsSessionAct (λ so_far act seen does. act_does short openings thread _ _ session_plain act seen does.does) steps none diary)
