-- The stamps of what main enters at ports, in time; and what main has seen of the new ports of a team.
use Rattle.std.specs.Prelude.{◌≡◌, ℕ, List, [], ◌∷◌, ◌++◌, map, All}
use Rattle.ak_base.specs.Thread.{main_thread}
use Rattle.ak_turn.specs.Entries.{StartsWith}
use Rattle.ak_turn.specs.Noted.{Noted, noted}
use Rattle.ak_port.specs.declared.port_entry.PortEntry.{PortEntry}
use Rattle.ak_port.specs.PortCalls as at_ports
use Rattle.ak_diary.specs.Step.{AreStamped, Step, due, time_of}
use Rattle.ak_headline.specs.Main.{MayEnterPort}
use Rattle.ak_team.specs.declared.new_looper.NewLooper.{NewLooper}
use Rattle.ak_team.specs.declared.new_team.NewTeam.{NewTeam}

-- ---- what main has seen
-- of the new port of a looper that is about to start
abbrev pub new_front : NewLooper → List PortEntry
new_front n = n.door.port_seat.front

-- those of a team that is about to start
abbrev pub team_fronts : NewTeam → List (List PortEntry)
team_fronts t = new_front t.own ∷ map new_front t.others.items

-- ---- in time
-- from that time on each entry of these steps has the stamp that is due, and behind them the time is that
pub record AreInTime (time : ℕ) (steps : List Step) (later : ℕ) : Type 0 where
  pub stamped : AreStamped time steps
  pub time_is : time_of time steps ≡ later

-- so have entries at one port, each with what stands before it
abbrev pub AreNotesInTime : ℕ → List (Noted PortEntry) → ℕ → Type 0
AreNotesInTime time [] later = time ≡ later
AreNotesInTime time (n ∷ notes) later = (n.entry.stamp ≡ due at_ports.stamp_number time n.before) × AreNotesInTime n.entry.stamp notes later

-- and entries there that follow that list
abbrev pub AreEntriesInTime : ℕ → List PortEntry → List PortEntry → ℕ → Type 0
AreEntriesInTime time before [] later = time ≡ later
AreEntriesInTime time before (entry ∷ entries) later = (entry.stamp ≡ due at_ports.stamp_number time before) × AreEntriesInTime entry.stamp (before ++ entry ∷ []) entries later

-- ports with these lists, one behind another
abbrev pub AreMadeInTime : ℕ → List (List PortEntry) → ℕ → Type 0
AreMadeInTime time [] later = time ≡ later
AreMadeInTime time (entries ∷ ports) later = (between : ℕ) × AreEntriesInTime time [] entries between × AreMadeInTime between ports later

-- those of a team: all are made, and then the first one is written to
abbrev pub ArePortsInTime : ℕ → List (List PortEntry) → ℕ → Type 0
ArePortsInTime time ((made ∷ written) ∷ ports) later = (between : ℕ) × AreMadeInTime time ((made ∷ []) ∷ ports) between × AreEntriesInTime between (made ∷ []) written later
ArePortsInTime time _ later = ⊥

-- ---- at one port
-- from one time to the other main made entries there, each of which it may make by itself, and the list goes on
pub record AddsAtPort (time later : ℕ) (a b : List PortEntry) : Type 0 where
  pub added : List (Noted PortEntry)
  pub in_time : AreNotesInTime time added later
  pub on : StartsWith b a
  pub may : All (λ (n : Noted PortEntry). MayEnterPort n.entry.event) added
  pub noted_is : noted at_ports.by_number main_thread b ≡ noted at_ports.by_number main_thread a ++ added
