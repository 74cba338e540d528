-- A looper's thread, and what follows from the steps that it made so far.
use Rattle.std.specs.Prelude.{ℕ, ◌+◌, ◌-◌, ◌==◌, ◌&&◌, ◌||◌, Bool, true, false, nat_le, nat_lt, List, [], ◌∷◌, length, map, drop, option_map, unwrap_or, slice_get, if◌then◌else◌}
use Rattle.std.specs.List.{flat_map, list_any, range_with_len}
use Rattle.ak_base.specs.Thread.{looper_thread}
use Rattle.ak_turn.specs.Noted.{entry_of}
use Rattle.ak_flatten.specs.declared.item.Taken.{Taken}
use Rattle.ak_roster.specs.declared.head.AppHead.{AppHead}
use Rattle.ak_roster.specs.declared.entry.RosterEvent.{RosterEvent}
use Rattle.ak_roster.specs.declared.entry.RosterEvent.TheVariants as event
use Rattle.ak_port.specs.TakerLaws.{handed_by}
use Rattle.ak_action.specs.declared.state.DeskState.{DeskState}
use Rattle.ak_desk.specs.declared.entry.DeskEvent.{DeskEvent}
use Rattle.ak_desk.specs.declared.entry.DeskEvent.TheVariants as desk_event
use Rattle.ak_desk.specs.Entry.{EntryData}
use Rattle.ak_desk.specs.Machine.{dispatches, gives_up}
use Rattle.ak_diary.specs.Step.{Step, at_roster, at_desk, lacked, desk_entries, port_entries}

-- a looper: its number, its team, the team's first looper, how many loopers the team has, the applications of the run, and its desk as it was opened
pub record LooperFacts : Type 0 where
  pub number : ℕ
  pub team : ℕ
  pub first : ℕ
  pub loopers : ℕ
  pub heads : List AppHead
  pub desk : DeskState

-- it is its application's own
abbrev pub is_own : LooperFacts → Bool
is_own l = l.number == l.first

abbrev pub thread_of : LooperFacts → ℕ
thread_of l = looper_thread l.number

-- the loopers of its team
abbrev pub is_of_team : LooperFacts → ℕ → Bool
is_of_team l looper = nat_le l.first looper && nat_lt looper (l.first + l.loopers)

-- those whose ports it closes, in order: of its whole team where it is the application's own, else of itself
abbrev pub closed_by : LooperFacts → List ℕ
closed_by l = if is_own l then range_with_len l.first l.loopers else l.number ∷ []

-- ---- doors
abbrev pub door_in : RosterEvent → List ℕ
door_in (event.Door looper) = looper ∷ []
door_in (event.Launch word outcome) = []
door_in (event.Find word outcome) = []
door_in (event.Gone team) = []

abbrev pub door_got : Step → List ℕ
door_got (at_roster n) = door_in n.entry.event
door_got _ = []

-- the loopers whose doors it got at the roster, in order
abbrev pub doors_got : List Step → List ℕ
doors_got steps = flat_map door_got steps

-- it had the door from its beginning: its own, and an application's own looper those of its team
abbrev pub is_kept : LooperFacts → ℕ → Bool
is_kept l looper = (looper == l.number) || (is_own l && is_of_team l looper)

abbrev pub has_door : LooperFacts → List Step → ℕ → Bool
has_door l so_far looper = is_kept l looper || list_any (λ got. got == looper) (doors_got so_far)

-- ---- items
-- all that it took, with the positions, oldest first
abbrev pub taken_in : LooperFacts → List Step → List Taken
taken_in l so_far = handed_by (port_entries l.number so_far)

-- what it did at its desk
abbrev pub desk_list : LooperFacts → List Step → List EntryData
desk_list l so_far = map entry_of (desk_entries l.number so_far)

-- how many messages it dispatched
abbrev pub dispatched_in : LooperFacts → List Step → ℕ
dispatched_in l so_far = dispatches (desk_list l so_far)

-- what it took and did not dispatch
abbrev pub in_hand : LooperFacts → List Step → List Taken
in_hand l so_far = drop (dispatched_in l so_far) (taken_in l so_far)

-- ---- its end
abbrev pub has_quit_mark : DeskEvent → Bool
has_quit_mark (desk_event.Dispatched position route words quit) = quit
has_quit_mark (desk_event.Edited edit answer) = false

abbrev pub ends_it : DeskEvent → Bool
ends_it e = has_quit_mark e || gives_up e

-- a step after which the looper closes: a dispatch with the quit mark, one that was given up, and want of memory
abbrev pub calls_for_closing : Step → Bool
calls_for_closing (at_desk looper n) = ends_it n.entry.plain.event
calls_for_closing lacked = true
calls_for_closing _ = false

abbrev pub is_closing : List Step → Bool
is_closing so_far = list_any calls_for_closing so_far

-- the last dispatch has the quit mark
abbrev pub last_quits : List EntryData → Bool
last_quits entries = unwrap_or (option_map (λ (entry : EntryData). has_quit_mark entry.plain.event) (slice_get entries (length entries - 1))) false
