-- A turn at a desk leaves the seat at what the machine allows.
use Rattle.std.proofs.Common.{◌≡◌, Bool, List, [], ◌∷◌, ◌++◌, Option, None, Some, IsSomeAnd, refl, sym, ap, subst, ◌∙◌}
use Rattle.ak_turn.specs.declared.clock.Clock.{Clock}
use Rattle.ak_turn.specs.Seats.{HasCalled, IsGiven, at_leisure, entered_by, with_own}
use Rattle.ak_action.specs.declared.state.DeskState.{DeskState}
use Rattle.ak_desk.specs.declared.entry.DeskEvent.{DeskEvent}
use Rattle.ak_desk.specs.Desk.{DeskData, HasAdded, dispatched_entry, given_up_entry, entry_after}
use Rattle.ak_desk.specs.Laws.{ATurnDispatches, ATurnGivesUp, InATurn}
use Rattle.ak_desk.specs.Entry.{EntryData}
use Rattle.ak_desk.specs.Machine.{IsHistory}
use Rattle.ak_desk.specs.Shared.{DeskSeat, IsAtDesk, LeadsOn, by_number}

at_front : (seat : DeskSeat) (d : DeskData) → seat.opening ≡ Some d.opening → seat.front ≡ d.entries → IsHistory d.opening d.entries d.state → IsAtDesk seat
at_front seat d opening front h =
    subst (λ (o : Option DeskState). IsSomeAnd o (λ (opening : DeskState). LeadsOn opening seat.front)) (sym opening)
    (subst (LeadsOn d.opening) (sym front) (record { state = d.state; history = h }))

module _ (old given new : DeskSeat) (b b' : DeskData) (clock clock' : Clock) (opening : old.opening ≡ Some b.opening) (seen : IsGiven by_number old given) (list : b.entries ≡ given.front) (h : IsHistory b'.opening b'.entries b'.state) (same : b'.entries ≡ given.front → new ≡ at_leisure given) (entered : (entry : EntryData) → b'.entries ≡ given.front ++ entry ∷ [] → new ≡ at_leisure (entered_by given entry)) where
  given_opening : b'.opening ≡ b.opening → given.opening ≡ Some b'.opening
  given_opening kept = ap (λ (s : DeskSeat). s.opening) seen.after ∙ opening ∙ ap (λ (o : DeskState). Some o) (sym kept)

  pub at_desk : (e : Option DeskEvent) → HasAdded e clock clock' b b' → IsAtDesk new
  at_desk None added =
      let entries : b'.entries ≡ given.front = ap (λ (d : DeskData). d.entries) added.0 ∙ list in
      let after = same entries in
      at_front new b' (ap (λ (s : DeskSeat). s.opening) after ∙ given_opening (ap (λ (d : DeskData). d.opening) added.0)) (ap (λ (s : DeskSeat). s.front) after ∙ sym entries) h
  at_desk (Some e) added =
      let entry : EntryData = entry_after b.entries clock e None in
      let entries : b'.entries ≡ given.front ++ entry ∷ [] = added.0.1 ∙ ap (λ (l : List EntryData). l ++ entry ∷ []) list in
      let after = entered entry entries in
      at_front new b' (ap (λ (s : DeskSeat). s.opening) after ∙ given_opening added.0.0) (ap (λ (s : DeskSeat). s.front) after ∙ sym entries) h

-- ---- one entry of the looper's own thread
record EntersThere (entry : EntryData) (opening : DeskState) (entries' : List EntryData) (seat seat' : DeskSeat) : Type 0 where
  front : seat'.front ≡ entries'
  opens : seat'.opening ≡ Some opening
  called : HasCalled by_number entry seat seat'

enters_there : (entry : EntryData) (clock : Clock) (opening : DeskState) (entries entries' : List EntryData) (seat given seat' : DeskSeat) → entries' ≡ entries ++ entry ∷ [] → by_number entry ≡ clock.thread.0 → InATurn clock opening entries entries' seat given seat' (EntersThere entry opening entries' seat seat')
enters_there entry clock opening entries entries' seat given seat' goes_on by idle thread begins seen list entered =
    let grown : entries' ≡ given.front ++ entry ∷ [] = goes_on ∙ ap (λ (l : List EntryData). l ++ entry ∷ []) list in
    let left = entered entry grown in
    record {
      front = ap (λ (s : DeskSeat). s.front) left ∙ sym grown;
      opens = ap (λ (s : DeskSeat). s.opening) left ∙ ap (λ (s : DeskSeat). s.opening) seen.after ∙ begins;
      called = record {
        between = seen.between;
        others = seen.others;
        mine = by ∙ sym thread;
        after =
            left ∙ ap (λ (g : DeskSeat). at_leisure (entered_by g entry)) seen.after
            ∙ ap (λ (b : Bool). record (with_own seat seen.between entry) { turn = b }) (sym idle);
      };
    }

desk_there : (opening after : DeskState) (entries' : List EntryData) (seat' : DeskSeat) → seat'.opening ≡ Some opening → seat'.front ≡ entries' → IsHistory opening entries' after → IsAtDesk seat'
desk_there opening after entries' seat' opens front h = at_front seat' (record { opening = opening; state = after; entries = entries'; begun = None }) opens front h

pub a_turn_dispatches : ATurnDispatches
a_turn_dispatches clock clock' position item asked heard made opening before after entries entries' seat given seat' h idle thread begins seen list entered =
    let entry : EntryData = dispatched_entry entries clock position item before h.words h.quit in
    let there = enters_there entry clock opening entries entries' seat given seat' h.grown refl idle thread begins seen list entered in (
      record {
        opening = opening;
        opening_is = there.opens;
        before = before;
        after = after;
        entries = entries;
        dispatched = record {
          history = h.history;
          position_is = h.position_is;
          words = h.words;
          quit = h.quit;
          dispatch = h.dispatch;
          heard_are = h.heard_are;
          asked_are = h.asked_are;
          reply = h.reply;
          told = h.told;
          replies = h.replies;
          grown = there.front ∙ h.grown;
          goes_on = subst (λ (l : List EntryData). IsHistory opening l after) (sym there.front) h.goes_on;
          clocked = h.clocked;
          made_is = h.made_is;
        };
        called = there.called;
      },
      desk_there opening after entries' seat' there.opens there.front h.goes_on,
    )

pub a_turn_gives_up : ATurnGivesUp
a_turn_gives_up clock clock' position made opening state entries entries' seat given seat' h idle thread begins seen list entered =
    let there = enters_there (given_up_entry entries clock position) clock opening entries entries' seat given seat' h.grown refl idle thread begins seen list entered in (
      record {
        opening = opening;
        opening_is = there.opens;
        state = state;
        entries = entries;
        given_up = record {
          history = h.history;
          once = h.once;
          position_is = h.position_is;
          grown = there.front ∙ h.grown;
          goes_on = subst (λ (l : List EntryData). IsHistory opening l state) (sym there.front) h.goes_on;
          clocked = h.clocked;
          made_is = h.made_is;
        };
        called = there.called;
      },
      desk_there opening state entries' seat' there.opens there.front h.goes_on,
    )
