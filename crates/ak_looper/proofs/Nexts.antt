-- The item in hand is the next one of the desk, and what a served item leaves.
use Rattle.std.proofs.Common.{◌≡◌, ℕ, ◌==◌, Bool, true, false, List, [], ◌∷◌, ◌++◌, map, cond, refl, sym, ap, ◌∙◌, subst}
use Rattle.std.specs.Prelude.{◌||◌}
use Rattle.std.proofs.lemmas.Bool.{or_parts}
use Rattle.std.proofs.lemmas.List.{map-append}
use Rattle.std.proofs.lemmas.List.Folds.{list_any-append}
use Rattle.ak_turn.specs.Entries.{made_by}
use Rattle.ak_turn.specs.Noted.{Noted, entry_of}
use Rattle.ak_turn.proofs.Surface.{noted_is_made}
use Rattle.ak_flatten.specs.declared.item.Duty.{Duty}
use Rattle.ak_flatten.specs.declared.item.Taken.{Taken}
use Rattle.ak_port.specs.PortCalls.{CanTake}
use Rattle.ak_desk.specs.Entry.{EntryData}
use Rattle.ak_desk.specs.Machine.{dispatches, gave_up, gives_up}
use Rattle.ak_desk.specs.Shared.{DeskSeat, by_number}
use Rattle.ak_desk.specs.declared.made.Made.{Made}
use Rattle.ak_looper.specs.declared.at_work.After.{After}
use Rattle.ak_looper.specs.declared.reach.Reach.{Reach}
use Rattle.ak_looper.specs.Carrying.{HasDispatchedOne, IsNext}
use Rattle.ak_looper.specs.Living.{CanWork, HasInHand, HasSettled}
use Rattle.ak_looper.specs.Stands.{DeskStands, GoesOn, IsStanding}
use Rattle.ak_looper.specs.Ways.{KeepsReach}
use Rattle.ak_diary.specs.Looper.{LooperFacts, calls_for_closing, desk_list, has_quit_mark, is_closing}
use Rattle.ak_diary.specs.Step.{Step, at_roster, at_book, at_port, at_desk, saw_roster, saw_book, saw_port, lacked, desk_entries, desk_entry}

-- ---- where nothing calls for a closing, no message was given up
if_gave_up : (b : Bool) (n : Noted EntryData) → gives_up n.entry.plain.event ≡ false → gave_up (map entry_of (cond b (n ∷ []) [])) ≡ false
if_gave_up true n none = ap (λ x. x || false) none
if_gave_up false n none = refl

step_gave_up : (looper : ℕ) (s : Step) → calls_for_closing s ≡ false → gave_up (map entry_of (desk_entry looper s)) ≡ false
step_gave_up looper (at_roster n) calls = refl
step_gave_up looper (at_book n) calls = refl
step_gave_up looper (at_port number n) calls = refl
step_gave_up looper (at_desk number n) calls = if_gave_up (number == looper) n (or_parts (has_quit_mark n.entry.plain.event) (gives_up n.entry.plain.event) calls).1
step_gave_up looper (saw_roster seen) calls = refl
step_gave_up looper (saw_book seen) calls = refl
step_gave_up looper (saw_port number seen) calls = refl
step_gave_up looper lacked calls = refl

none_given_up : (l : LooperFacts) (xs : List Step) → is_closing xs ≡ false → gave_up (desk_list l xs) ≡ false
none_given_up l [] calls = refl
none_given_up l (x ∷ xs) calls =
    ap gave_up (map-append entry_of (desk_entry l.number x) (desk_entries l.number xs))
    ∙ list_any-append (λ (entry : EntryData). gives_up entry.plain.event) (map entry_of (desk_entry l.number x)) (desk_list l xs)
    ∙ ap (λ b. b || gave_up (desk_list l xs)) (step_gave_up l.number x (or_parts (calls_for_closing x) (is_closing xs) calls).0)
    ∙ none_given_up l xs (or_parts (calls_for_closing x) (is_closing xs) calls).1

-- what the thread made at its desk
made_is : (l : LooperFacts) (work : List Step) (desk : DeskSeat) → DeskStands l work desk → made_by by_number desk.thread desk.front ≡ desk_list l work
made_is l work desk stands = sym (noted_is_made by_number desk.thread desk.front) ∙ ap (map entry_of) stands.noted_is

pub next_in_hand : (l : LooperFacts) (start : ℕ) (work : List Step) (taken : Taken) (r : Reach) (desk : DeskSeat) → HasInHand l start work taken r desk → IsNext taken desk.thread desk.front
next_in_hand l start work taken r desk hand =
    let made = made_is l work desk hand.worked.at_desk in
    record {
      position = hand.position ∙ ap dispatches (sym made);
      once = ap gave_up made ∙ none_given_up l work hand.not_closing;
    }

pub then_stands : (l : LooperFacts) (start : ℕ) (work : List Step) (taken : Taken) (made : Made) (desk : DeskSeat) (r : Reach) → HasDispatchedOne l start work taken made desk r → IsStanding r
then_stands l start work taken made desk r d = record { facts = l; start = start; steps = work ++ d.steps; stands = d.stands }

-- what was settled of a duty that is that one
pub settled_as : (l : LooperFacts) (start : ℕ) (so_far : List Step) (owed owed' : Duty) (made : Made) (a : After) (r : Reach) → owed ≡ owed' → GoesOn l start so_far (HasSettled l so_far owed made a) r → GoesOn l start so_far (HasSettled l so_far owed' made a) r
settled_as l start so_far owed owed' made a r same goes = subst (λ d. GoesOn l start so_far (HasSettled l so_far d made a) r) same goes

-- it can still be taken from
pub can_still : (room : ℕ) (queue : List Taken) (r r' : Reach) → KeepsReach r r' → CanWork r room queue → CanWork r' room queue
can_still room queue r r' keeps can = record {
  takes = subst (λ t. CanTake t room r'.port_seat) (sym keeps.thread) (keeps.taking r.hands.clock.thread room can.takes);
  queue_is = can.queue_is;
}
