-- A looper that is about to start, and the doors to it.
use Rattle.std.proofs.Common.{◌≡◌, ◌≢◌, ℕ, ◌+◌, ◌-◌, ◌<◌, List, [], ◌∷◌, Option, Some, sym, ap, ◌∙◌, subst, arith, All}
use Rattle.std.specs.VecDeque.{deque_len, deque_capacity}
use Rattle.std.proofs.lemmas.List.Elements.{All-cons, All-nil}
use Rattle.ak_base.specs.Limits.{looper_limit}
use Rattle.ak_base.specs.Thread.{keeper_thread, main_thread, looper_thread}
use Rattle.ak_turn.specs.Seats.{KnowsWhole}
use Rattle.ak_turn.specs.Steps.{named, names_with}
use Rattle.ak_port.specs.PortCalls as ports
use Rattle.ak_port.specs.PortCalls.{CanTake}
use Rattle.ak_desk.specs.Shared as desks
use Rattle.ak_action.specs.declared.plan.PlanParts.{PlanParts}
use Rattle.ak_looper.specs.declared.door.Door.{Door}
use Rattle.ak_looper.specs.declared.kept_door.KeptDoor.{KeptDoor}
use Rattle.ak_looper.specs.Doors.{IsNewDoor}
use Rattle.ak_team.specs.declared.new_looper.NewLooper.{NewLooper}
use Rattle.ak_looper.specs.declared.shared.Shared.{Shared}
use Rattle.ak_team.specs.declared.opening.Opened.{Opened}
use Rattle.ak_team.specs.Doors.{HasNames, IsKeptOf, IsNewAt, IsPartOf, KeepsDoor, KnowsBoth}
use Rattle.ak_looper.specs.NoHead.{HasNoNames}
use Rattle.ak_looper.specs.Shared.{AreSame}
use Rattle.ak_team.specs.NewLooper.{IsKept, IsNewLooper, IsWay}
use Rattle.ak_team.specs.Opening.{IsOpenedAt}
use Rattle.ak_team.proofs.NewDoors.{LeadsAsBefore, new_beside, new_part, part_no_head, part_takes}
use Rattle.ak_team.proofs.Teams.{keeper_is_none, loopers_differ, main_is_none}

-- ---- the names so far
abbrev IsNot : ℕ → ℕ → Type 0
IsNot thread name = name ≢ thread

-- main's alone: a looper's thread is new
pub new_to_main : (number : ℕ) (door : Door) → HasNames (main_thread ∷ []) door → IsNewAt (looper_thread number) door
new_to_main number door has =
    new_beside (main_thread ∷ []) (looper_thread number) door has (All-cons (IsNot (looper_thread number)) main_thread [] (main_is_none number) (All-nil (IsNot (looper_thread number))))

-- and one looper's: another one's is
pub new_to_two : (number other : ℕ) (door : Door) → number ≢ other → HasNames (main_thread ∷ looper_thread number ∷ []) door → IsNewAt (looper_thread other) door
new_to_two number other door differ has =
    new_beside (main_thread ∷ looper_thread number ∷ []) (looper_thread other) door has
    (All-cons (IsNot (looper_thread other)) main_thread (looper_thread number ∷ []) (main_is_none other)
    (All-cons (IsNot (looper_thread other)) (looper_thread number) [] (loopers_differ number other differ) (All-nil (IsNot (looper_thread other)))))

-- the keeper has had no seat where main and loopers have
beside_main : (names : List ℕ) → All (IsNot keeper_thread) names → All (IsNot keeper_thread) (main_thread ∷ names)
beside_main names all = All-cons (IsNot keeper_thread) main_thread names (λ same. omega (arith, same)) all

beside_looper : (number : ℕ) (names : List ℕ) → number < looper_limit → All (IsNot keeper_thread) names → All (IsNot keeper_thread) (looper_thread number ∷ names)
beside_looper number names low all = All-cons (IsNot keeper_thread) (looper_thread number) names (keeper_is_none number low) all

pub keeper_new_to_own : (number : ℕ) (door : Door) → number < looper_limit → HasNames (main_thread ∷ looper_thread number ∷ []) door → IsNewAt keeper_thread door
keeper_new_to_own number door low has =
    new_beside (main_thread ∷ looper_thread number ∷ []) keeper_thread door has
    (beside_main (looper_thread number ∷ []) (beside_looper number [] low (All-nil (IsNot keeper_thread))))

pub keeper_new_to_other : (number first : ℕ) (door : Door) → number < looper_limit → first < looper_limit → HasNames (main_thread ∷ looper_thread number ∷ looper_thread first ∷ []) door → IsNewAt keeper_thread door
keeper_new_to_other number first door low first_low has =
    new_beside (main_thread ∷ looper_thread number ∷ looper_thread first ∷ []) keeper_thread door has
    (beside_main (looper_thread number ∷ looper_thread first ∷ []) (beside_looper number (looper_thread first ∷ []) low (beside_looper first [] first_low (All-nil (IsNot keeper_thread)))))

-- ---- the doors that lead to it
-- the keeper's
pub kept_for : (threads names : List ℕ) (door : Door) (n : NewLooper) (kept : KeptDoor) → IsKeptOf keeper_thread door kept → LeadsAsBefore door n.door → HasNames names door → named names keeper_thread ≡ threads → IsKept threads n kept
kept_for threads names door n kept is leads has all = record {
  port = is.port ∙ sym leads.port;
  desk = is.desk ∙ sym leads.desk;
  threads_are = ap (λ (s : ports.PortSeat). s.names) is.port_seat ∙ ap (λ (ns : Option (List ℕ)). names_with ns keeper_thread) has.at_port ∙ ap (λ (ns : List ℕ). Some ns) all;
}

-- the own looper's
pub way_for : (first : ℕ) (door : Door) (n : NewLooper) (way : Door) → KnowsBoth door → IsNewAt (looper_thread first) door → IsPartOf (looper_thread first) door way → LeadsAsBefore door n.door → IsWay first n way
way_for first door n way known new is leads = record {
  port = is.port ∙ sym leads.port;
  desk = is.desk ∙ sym leads.desk;
  new = new_part (looper_thread first) door way known new is;
}

module _ (plans : List PlanParts) (team first : ℕ) where
  -- ---- the looper
  module _ (k : ℕ) (o : Opened) (at : IsOpenedAt plans team first k o) where
    pub number_is : o.number ≡ first + k
    number_is = at.opened.number

    pub number_below : o.number < looper_limit
    number_below = omega (arith, at.opened.number, at.opened.within)

    pub first_below : first < looper_limit
    first_below = omega (arith, at.opened.within)

    pub new_looper : (shared : Shared) (n : NewLooper) → n.number ≡ o.number → n.queue ≡ o.queue → AreSame n.shared shared → IsPartOf (looper_thread o.number) o.door n.own → LeadsAsBefore o.door n.door → HasNoNames n.door → IsNewLooper plans team first shared k n
    new_looper shared n number queue same part leads no_head =
        let p = at.opened in
        record {
          number = number ∙ p.number;
          within = p.within;
          plan = at.plan;
          described = at.described;
          shared_is = same;
          by_main = leads.thread ∙ p.by_main;
          port_is = part.port ∙ sym leads.port;
          desk_is = part.desk ∙ sym leads.desk;
          new = subst (λ (thread : ℕ). IsNewDoor thread n.own.port_seat n.own.desk_seat) (ap looper_thread p.number)
              (new_part (looper_thread o.number) o.door n.own p.known (new_to_main o.number o.door p.names_are) part);
          taker = p.taker;
          taker_is = p.taker_is;
          takes = subst (λ (q : _). CanTake p.taker (deque_capacity q - deque_len q) n.own.port_seat) (sym queue)
              (part_takes p.taker (deque_capacity o.queue - deque_len o.queue) (looper_thread o.number) o.door.port_seat n.own.port_seat p.takes part.port_seat);
          queue = ap (λ (q : _). q.items) queue ∙ p.queue;
          desk = p.desk;
          opening_is = ap (λ (s : desks.DeskSeat). s.opening) part.desk_seat ∙ p.desk_is;
          opens = p.opens;
          port_opening = leads.port_opening ∙ p.takes.taker;
          desk_opening = leads.desk_opening ∙ p.desk_is;
          desk_front = leads.desk_front ∙ p.desk_front;
          no_head = no_head;
          own_no_head = part_no_head (looper_thread o.number) o.door n.own part;
        }

    -- a call at its port leaves it opened
    pub still_opened : (o' : Opened) → o'.number ≡ o.number → o'.queue ≡ o.queue → KeepsDoor o.door o'.door → IsOpenedAt plans team first k o'
    still_opened o' number queue keeps =
        let p = at.opened in
        record {
          plan = at.plan;
          described = at.described;
          opened = record {
            number = number ∙ p.number;
            within = p.within;
            taker = p.taker;
            taker_is = p.taker_is;
            takes = subst (λ (q : _). CanTake p.taker (deque_capacity q - deque_len q) o'.door.port_seat) (sym queue) (keeps.taking p.taker (deque_capacity o.queue - deque_len o.queue) p.takes);
            queue = ap (λ (q : _). q.items) queue ∙ p.queue;
            desk = p.desk;
            desk_is = ap (λ (s : desks.DeskSeat). s.opening) keeps.desk_seat ∙ p.desk_is;
            opens = p.opens;
            by_main = keeps.port_seat.thread ∙ p.by_main;
            known = record {
              at_port = keeps.known p.known.at_port;
              at_desk = subst (λ (s : desks.DeskSeat). KnowsWhole desks.by_number s) (sym keeps.desk_seat) p.known.at_desk;
            };
            names_are = record {
              at_port = keeps.port_seat.names ∙ p.names_are.at_port;
              at_desk = ap (λ (s : desks.DeskSeat). s.names) keeps.desk_seat ∙ p.names_are.at_desk;
            };
            desk_front = ap (λ (s : desks.DeskSeat). s.front) keeps.desk_seat ∙ p.desk_front;
          };
        }
