-- A turn at the looper's desk: where it begins, and what it leaves.
use Rattle.std.proofs.Common.{◌≡◌, ℕ, cond, false, List, [], ◌∷◌, ◌++◌, Option, Some, IsSomeAnd, refl, sym, ap, ◌∙◌, subst, inr, eq-eqb}
use Rattle.std.proofs.lemmas.List.Concat.{flat_map-append}
use Rattle.ak_base.specs.Thread.{looper_thread}
use Rattle.ak_flatten.specs.declared.item.Taken.{Taken}
use Rattle.ak_turn.specs.Called.{KeepsSeat}
use Rattle.ak_turn.specs.Entries.{made_by}
use Rattle.ak_turn.specs.Noted.{Noted, note, noted}
use Rattle.ak_turn.specs.Seats as seats
use Rattle.ak_turn.specs.Seats.{IsGiven, at_leisure, at_turn, entered_by, later}
use Rattle.ak_turn.proofs.Surface.{noted-others, noted-own, passing_keeps, still_made, turn_keeps}
use Rattle.ak_action.specs.declared.state.DeskState.{DeskState}
use Rattle.ak_desk.specs.Desk.{DeskData}
use Rattle.ak_desk.specs.Entry.{EntryData}
use Rattle.ak_desk.specs.Laws.{DispatchesAreOwn}
use Rattle.ak_desk.specs.Machine.{IsHistory, dispatches, gave_up}
use Rattle.ak_desk.specs.Shared.{DeskSeat, by_number}
use Rattle.ak_desk.specs.declared.made.Made.{Made}
use Rattle.ak_diary.specs.Looper.{LooperFacts}
use Rattle.ak_diary.specs.Step.{Step, at_desk, desk_entries, desk_entry}
use Rattle.ak_diary.specs.Turns.{ComesTo}
use Rattle.std.specs.Prelude.{unwrap_or}
use Rattle.ak_looper.specs.declared.reach.Reach.{Reach}
use Rattle.ak_looper.specs.Carrying.{CarriesOut, HasDispatchedOne, IsDeskOf, IsNext}
use Rattle.ak_looper.specs.Stands.{DeskStands, GoesOn, IsStanding, Stands}
use Rattle.ak_looper.proofs.ServedElsewhere.{serves_all}

-- ---- where it begins
-- with the turn the message is still the next one
pub still_next : (taken : Taken) (thread : ℕ) (entries : List EntryData) (seat given : DeskSeat) → IsGiven by_number seat given → entries ≡ given.front → seat.thread ≡ thread → IsNext taken seat.thread seat.front → IsNext taken thread entries
still_next taken thread entries seat given seen list same next =
    let made : made_by by_number seat.thread seat.front ≡ made_by by_number thread entries =
    sym (still_made by_number seat given seen) ∙ ap (λ (l : List EntryData). made_by by_number seat.thread l) (sym list) ∙ ap (λ (t : ℕ). made_by by_number t entries) same in
    record { position = next.position ∙ ap dispatches made; once = sym (ap gave_up made) ∙ next.once }

-- the desk is the looper's, by the opening that the book has
pub desk_of : (number : ℕ) (seat : DeskSeat) (opening : DeskState) → seat.opening ≡ Some opening → IsDeskOf number seat → opening.looper ≡ number
desk_of number seat opening is of = subst (λ (o : Option DeskState). IsSomeAnd o (λ (x : DeskState). x.looper ≡ number)) is of

-- by its own entries it gave none up, and dispatched so many
pub gave_none_up : DispatchesAreOwn → (d : DeskData) (taken : Taken) → IsHistory d.opening d.entries d.state → IsNext taken (looper_thread d.opening.looper) d.entries → gave_up d.entries ≡ false
gave_none_up law d taken history next = (law d.opening.looper d.opening d.entries d.state history.replays).1 ∙ next.once

pub dispatched_all : DispatchesAreOwn → (d : DeskData) (taken : Taken) → IsHistory d.opening d.entries d.state → IsNext taken (looper_thread d.opening.looper) d.entries → taken.position ≡ dispatches d.entries
dispatched_all law d taken history next = next.position ∙ sym (law d.opening.looper d.opening d.entries d.state history.replays).0

some_same : {A : Type 0} (a b : A) → Some a ≡ Some b → a ≡ b
some_same a b same = ap (λ o. unwrap_or o a) same

-- ---- what it leaves
module _ (seat given : DeskSeat) (seen : IsGiven by_number seat given) where
  module _ (seat' : DeskSeat) (entry : EntryData) (after : seat' ≡ at_leisure (entered_by given entry)) where
    whole : seat' ≡ at_leisure (entered_by (at_turn (later seat seen.between)) entry)
    whole = after ∙ ap (λ (g : DeskSeat). at_leisure (entered_by g entry)) seen.after

    keeps : seat.turn ≡ false → KeepsSeat seat seat'
    keeps idle = turn_keeps by_number seat given seat' idle seen (passing_keeps entry given seat' after)

  -- the thread's own entry is noted, with all that stood before it
  notes_one : (n : Noted EntryData) (seat' : DeskSeat) → seat' ≡ at_leisure (entered_by given n.entry) → n.before ≡ given.front → by_number n.entry ≡ seat.thread
      → noted by_number seat'.thread seat'.front ≡ noted by_number seat.thread seat.front ++ n ∷ []
  notes_one n seat' after before mine =
      let list = seat.front ++ seen.between in
      let same : list ≡ n.before = sym (ap (λ (s : DeskSeat). s.front) seen.after) ∙ sym before in
      ap (λ (s : DeskSeat). noted by_number s.thread s.front) (whole seat' n.entry after)
      ∙ noted-own by_number seat.thread list n.entry mine
      ∙ ap (λ (l : List (Noted EntryData)). l ++ note list n.entry ∷ []) (noted-others by_number seat.thread seat.front seen.between seen.others)
      ∙ ap (λ (l : List EntryData). noted by_number seat.thread seat.front ++ note l n.entry ∷ []) same

-- the entry alone is at the desk
own_entry : (number : ℕ) (n : Noted EntryData) → desk_entries number (at_desk number n ∷ []) ≡ n ∷ []
own_entry number n = ap (λ b. cond b (n ∷ []) [] ++ []) (eq-eqb number number refl)

entries_there : (l : LooperFacts) (so_far served : List Step) (n : Noted EntryData) → desk_entries l.number served ≡ [] → desk_entries l.number (so_far ++ (served ++ at_desk l.number n ∷ [])) ≡ desk_entries l.number so_far ++ n ∷ []
entries_there l so_far served n nothing =
    flat_map-append (desk_entry l.number) so_far (served ++ at_desk l.number n ∷ [])
    ∙ ap (λ (m : List (Noted EntryData)). desk_entries l.number so_far ++ m)
    (flat_map-append (desk_entry l.number) served (at_desk l.number n ∷ []) ∙ ap (λ (m : List (Noted EntryData)). m ++ desk_entries l.number (at_desk l.number n ∷ [])) nothing ∙ own_entry l.number n)

module _ (opening : DeskState) (taken : Taken) (made : Made) (entries entries' : List EntryData) (seat given : DeskSeat) (seen : IsGiven by_number seat given) (list : entries ≡ given.front) (r r' : Reach)
    (thread : seat.thread ≡ looper_thread r.number)
    (carried : (l : LooperFacts) (start : ℕ) (so_far : List Step) → Stands l start so_far r → GoesOn l start so_far (CarriesOut l so_far opening taken made entries entries') r') where
  -- one entry more, by the seat's thread
  grown : (l : LooperFacts) (so_far steps : List Step) (c : CarriesOut l so_far opening taken made entries entries' steps) → entries' ≡ given.front ++ c.noted.entry ∷ []
  grown l so_far steps c = c.grown ∙ ap (λ (x : List EntryData). x ++ c.noted.entry ∷ []) list

  own : (l : LooperFacts) (start : ℕ) (so_far steps : List Step) → Stands l start so_far r → (c : CarriesOut l so_far opening taken made entries entries' steps) → by_number c.noted.entry ≡ seat.thread
  own l start so_far steps stands c = c.mine ∙ ap looper_thread (sym stands.number) ∙ sym thread

  pub leaves_next : IsStanding r → seats.IsNext by_number given entries'
  leaves_next is =
      let on = carried is.facts is.start is.steps is.stands in
      let c = on.does in
      inr (c.noted.entry, grown is.facts is.steps on.steps c, own is.facts is.start is.steps on.steps is.stands c ∙ sym (ap (λ (s : DeskSeat). s.thread) seen.after))

  module _ (seat' : DeskSeat) (entered : (entry : EntryData) → entries' ≡ given.front ++ entry ∷ [] → seat' ≡ at_leisure (entered_by given entry)) where
    pub keeps_seat_there : seat.turn ≡ false → IsStanding r → KeepsSeat seat seat'
    keeps_seat_there idle is =
        let on = carried is.facts is.start is.steps is.stands in
        let c = on.does in
        keeps seat given seen seat' c.noted.entry (entered c.noted.entry (grown is.facts is.steps on.steps c)) idle

    pub dispatched_one : seat.opening ≡ Some opening → (l : LooperFacts) (start : ℕ) (so_far : List Step) → Stands l start so_far r → DeskStands l so_far seat → HasDispatchedOne l start so_far taken made seat' r'
    dispatched_one opens l start so_far stands desk =
        let on = carried l start so_far stands in
        let c = on.does in
        let n = c.noted in
        let noted_so : noted by_number seat'.thread seat'.front ≡ desk_entries l.number (so_far ++ on.steps) =
        notes_one seat given seen n seat' (entered n.entry (grown l so_far on.steps c)) (c.before ∙ list) (own l start so_far on.steps stands c)
        ∙ ap (λ (m : List (Noted EntryData)). m ++ n ∷ []) desk.noted_is
        ∙ sym (entries_there l so_far c.served n (serves_all l.number l so_far taken.item c.asked c.heard c.served c.serves))
        ∙ ap (λ (s : List Step). desk_entries l.number (so_far ++ s)) (sym c.is) in
        let same_opening : opening ≡ l.desk = some_same opening l.desk (sym opens ∙ desk.opening) in
        record {
          steps = on.steps;
          does = record { asked = c.asked; heard = c.heard; served = c.served; serves = c.serves; noted = n; comes = subst (λ (o : DeskState). ComesTo o taken c.asked c.heard made n) same_opening c.comes; is = c.is };
          stands = on.stands;
          desk = record { opening = ap (λ (s : DeskSeat). s.opening) (whole seat given seen seat' n.entry (entered n.entry (grown l so_far on.steps c))) ∙ desk.opening; noted_is = noted_so };
        }
