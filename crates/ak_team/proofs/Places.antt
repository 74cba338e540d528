-- Plans that fit their places, and what is opened for one.
use Rattle.std.proofs.Common.{◌≡◌, ℕ, ◌+◌, ◌-◌, ◌<◌, ◌≤◌, List, [], ◌∷◌, length, Some, sym, ap, ◌∙◌, subst, arith}
use Rattle.std.specs.Prelude.{slice_get}
use Rattle.std.specs.VecDeque.{deque_len, deque_capacity}
use Rattle.std.proofs.lemmas.List.{length-map}
use Rattle.std.proofs.lemmas.List.Elements.{All-nil}
use Rattle.std.proofs.lemmas.Option.{slice_get_within}
use Rattle.ak_base.specs.Limits.{app_looper_limit, looper_limit}
use Rattle.ak_base.specs.Thread.{main_thread, looper_thread}
use Rattle.ak_base.specs.declared.thread.ThreadId.{ThreadId}
use Rattle.ak_turn.specs.Seats.{KnowsWhole, LockId, first_seat}
use Rattle.ak_turn.proofs.Surface.{first_knows}
use Rattle.ak_port.specs.declared.port_entry.PortEntry.{PortEntry}
use Rattle.ak_port.specs.PortCalls as ports
use Rattle.ak_port.specs.PortCalls.{CanTake}
use Rattle.ak_action.specs.declared.plan.PlanParts.{PlanParts}
use Rattle.ak_action.specs.declared.state.DeskState.{DeskState}
use Rattle.ak_action.specs.Opening.{FitsPlace, Opens}
use Rattle.ak_desk.specs.Entry.{EntryData}
use Rattle.ak_desk.specs.Shared as desks
use Rattle.ak_team.specs.declared.opening.Opened.{Opened}
use Rattle.ak_team.specs.declared.opening.Place.{Place}
use Rattle.ak_team.specs.Opening.{FitPlaces, IsOpened}

-- a plan's number is below the limit
pub number_fits : (plan : PlanParts) (number first : ℕ) (names : List (List ℕ)) → FitsPlace plan number first names → number < looper_limit
number_fits plan number first names fits = omega (arith, slice_get_within names (number - first) plan.name fits.named, fits.at, fits.numbers)

-- there are few plans, and their numbers are below the limit
pub plans_fit : (first k : ℕ) (plans : List PlanParts) (plan : PlanParts) → FitPlaces first plans → slice_get plans k ≡ Some plan → (length plans ≤ app_looper_limit) × (k < length plans) × (first + length plans ≤ looper_limit)
plans_fit first k plans plan fits there =
    let here = fits k plan there in
    let as_many = length-map plans (λ (p : PlanParts). p.name) in
    (omega (arith, here.some, as_many), slice_get_within plans k plan there, omega (arith, here.numbers, as_many))

-- what is made for a plan: the first seats of a desk and of a port, and a queue with room for what the port holds
pub opened_so : (place : Place) (plan : PlanParts) (names : List (List ℕ)) (o : Opened) (taker : ThreadId) (capacity thread : ℕ) (desk_lock port_lock : LockId) (state : DeskState) (entries : List PortEntry) (own : List ℕ)
    → FitsPlace plan place.number place.first names → thread ≡ main_thread → o.number ≡ place.number → taker.0 ≡ looper_thread place.number
    → deque_capacity o.queue ≡ capacity → deque_len o.queue ≡ 0 → o.queue.items ≡ [] → Opens plan place.number place.team place.first names state
    → o.door.desk_seat ≡ first_seat desk_lock state [] [] thread → o.door.port_seat ≡ first_seat port_lock taker entries own thread
    → KnowsWhole ports.by_number o.door.port_seat → CanTake taker capacity o.door.port_seat → IsOpened place plan names o
opened_so place plan names o taker capacity thread desk_lock port_lock state entries own fits main number taker_is room empty none opens desk port known takes =
    let free : capacity ≡ deque_capacity o.queue - deque_len o.queue = omega (arith, room, empty) in
    record {
      number = number;
      within = number_fits plan place.number place.first names fits;
      taker = taker;
      taker_is = taker_is;
      takes = subst (λ (n : ℕ). CanTake taker n o.door.port_seat) free takes;
      queue = none;
      desk = state;
      desk_is = ap (λ (s : desks.DeskSeat). s.opening) desk;
      opens = opens;
      by_main = ap (λ (s : ports.PortSeat). s.thread) port ∙ main;
      known = record {
        at_port = known;
        at_desk = subst (λ (s : desks.DeskSeat). KnowsWhole desks.by_number s) (sym desk) (first_knows desks.by_number desk_lock state [] thread (All-nil (λ (entry : EntryData). desks.by_number entry ≡ thread)));
      };
      names_are = record {
        at_port = ap (λ (s : ports.PortSeat). s.names) port ∙ ap (λ (t : ℕ). Some (t ∷ [])) main;
        at_desk = ap (λ (s : desks.DeskSeat). s.names) desk ∙ ap (λ (t : ℕ). Some (t ∷ [])) main;
      };
      desk_front = ap (λ (s : desks.DeskSeat). s.front) desk;
    }
