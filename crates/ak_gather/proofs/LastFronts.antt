-- Behind what main's seats had seen others alone made entries.
use Rattle.std.proofs.Common.{◌≡◌, ◌≢◌, ℕ, suc, List, [], ◌∷◌, map, All, refl, ap, ◌∙◌, subst, arith}
use Rattle.std.proofs.lemmas.List.{map-append}
use Rattle.std.proofs.lemmas.List.Elements.{All-cons, All-head, All-map, All-tail}
use Rattle.ak_base.specs.Thread.{main_thread}
use Rattle.ak_turn.specs.Entries.{AreByOthers}
use Rattle.ak_turn.specs.Noted.{noted}
use Rattle.ak_turn.specs.Seats.{IsGiven, SeatData}
use Rattle.ak_turn.proofs.Surface.{noted-others}
use Rattle.ak_roster.specs.declared.entry.EntryWithObjects.{EntryWithObjects}
use Rattle.ak_roster.specs.declared.entry.RosterEntry.{RosterEntry}
use Rattle.ak_roster.specs.Roster.{RosterData, plain_entries}
use Rattle.ak_port.specs.PortCalls.{PortData}
use Rattle.ak_desk.specs.Desk.{DeskData}
use Rattle.ak_desk.specs.Entry.{EntryData}
use Rattle.ak_desk.specs.Shared as at_desks
use Rattle.ak_looper.specs.declared.kept_door.KeptDoor.{KeptDoor}
use Rattle.ak_looper.specs.Rosters.{Object, RosterSeat, by_number, maker_of, plain_of}
use Rattle.ak_gather.specs.declared.gathering.Joined.{Joined}
use Rattle.ak_gather.specs.Gathering.{AreBooksOf, AreGaining, IsGaining, IsRosterOf, joined_desk_front, joined_front, EndsByOthers, PortsEndByOthers}

-- what main did is in what its seat has seen
module _ {L : Type 0} (by : L → ℕ) where
  pub noted_at_end : (front entries : List L) → EndsByOthers by front entries → noted by main_thread entries ≡ noted by main_thread front
  noted_at_end front entries ends = ap (noted by main_thread) ends.goes_on ∙ noted-others by main_thread front ends.between ends.others

  -- so it is of the list that main keeps
  pub ends_at_turn : {O : Type 0} (seat given : SeatData O L) (entries : List L) → seat.thread ≡ main_thread → IsGiven by seat given → entries ≡ given.front → EndsByOthers by seat.front entries
  ends_at_turn seat given entries main seen list = record {
    between = seen.between;
    goes_on = list ∙ ap (λ s. s.front) seen.after;
    others = subst (λ (t : ℕ). All (λ entry. by entry ≢ t) seen.between) main seen.others;
  }

-- ---- of what was gathered
abbrev pub IsMains : Joined → Type 0
IsMains j = j.door.port_seat.thread ≡ main_thread

-- while its doors take in what other seats know they are at what they were
gaining_tail : (j j' : Joined) (js js' : List Joined) → AreGaining (j ∷ js) (j' ∷ js') → AreGaining js js'
gaining_tail j j' js js' gains = record { count = omega (arith, gains.count); each = λ place x there. gains.each (suc place) x there }

pub fronts_still : (js js' : List Joined) → AreGaining js js' → (map joined_front js' ≡ map joined_front js) × (All IsMains js → All IsMains js')
fronts_still [] [] gains = (refl, λ all. all)
fronts_still [] (j' ∷ js') gains = absurd (omega (arith, gains.count))
fronts_still (j ∷ js) [] gains = absurd (omega (arith, gains.count))
fronts_still (j ∷ js) (j' ∷ js') gains =
    let first : IsGaining j j' = gains.each 0 j refl in
    let rest = fronts_still js js' (gaining_tail j j' js js' gains) in
    (ap (λ front. front ∷ map joined_front js') first.port.front ∙ ap (λ l. joined_front j ∷ l) rest.0, λ all. All-cons IsMains j' js' (first.port.thread ∙ All-head IsMains j js all) (rest.1 (All-tail IsMains j js all)))

pub ports_end : (js : List Joined) (ports : List PortData) (desks : List DeskData) → All IsMains js → AreBooksOf js ports desks → PortsEndByOthers (map joined_front js) ports
ports_end [] [] [] all kept = tt
ports_end (j ∷ js) (port ∷ ports) (desk ∷ desks) all kept = (kept.0.0.ends (All-head IsMains j js all), ports_end js ports desks (All-tail IsMains j js all) kept.1)
ports_end [] [] (desk ∷ desks) all kept = absurd kept
ports_end [] (port ∷ ports) desks all kept = absurd kept
ports_end (j ∷ js) [] desks all kept = absurd kept
ports_end (j ∷ js) (port ∷ ports) [] all kept = absurd kept

-- so it is at each desk
abbrev pub DesksEndByOthers : List (List EntryData) → List DeskData → Type 0
DesksEndByOthers [] [] = Unit {0}
DesksEndByOthers (front ∷ fronts) (desk ∷ desks) = EndsByOthers at_desks.by_number front desk.entries × DesksEndByOthers fronts desks
DesksEndByOthers _ _ = ⊥

pub desk_fronts_still : (js js' : List Joined) → AreGaining js js' → map joined_desk_front js' ≡ map joined_desk_front js
desk_fronts_still [] [] gains = refl
desk_fronts_still [] (j' ∷ js') gains = absurd (omega (arith, gains.count))
desk_fronts_still (j ∷ js) [] gains = absurd (omega (arith, gains.count))
desk_fronts_still (j ∷ js) (j' ∷ js') gains =
    let first : IsGaining j j' = gains.each 0 j refl in
    ap (λ front. front ∷ map joined_desk_front js') first.desk.front ∙ ap (λ l. joined_desk_front j ∷ l) (desk_fronts_still js js' (gaining_tail j j' js js' gains))

pub desks_end : (js : List Joined) (ports : List PortData) (desks : List DeskData) → All IsMains js → AreBooksOf js ports desks → DesksEndByOthers (map joined_desk_front js) desks
desks_end [] [] [] all kept = tt
desks_end (j ∷ js) (port ∷ ports) (desk ∷ desks) all kept = (kept.0.1.ends (j.door.thread ∙ All-head IsMains j js all), desks_end js ports desks (All-tail IsMains j js all) kept.1)
desks_end [] [] (desk ∷ desks) all kept = absurd kept
desks_end [] (port ∷ ports) desks all kept = absurd kept
desks_end (j ∷ js) [] desks all kept = absurd kept
desks_end (j ∷ js) (port ∷ ports) [] all kept = absurd kept

pub roster_ends : (seat : RosterSeat) (roster : RosterData KeptDoor Object) → seat.thread ≡ main_thread → IsRosterOf seat roster → EndsByOthers maker_of (plain_of seat) (plain_entries roster.entries)
roster_ends seat roster main of = record {
  between = plain_entries of.between;
  goes_on = ap (λ (l : List (EntryWithObjects Object)). plain_entries l) of.goes_on ∙ map-append (λ (entry : EntryWithObjects Object). entry.plain) seat.front of.between;
  others = All-map (λ (entry : RosterEntry). maker_of entry ≢ main_thread) (λ (entry : EntryWithObjects Object). entry.plain) of.between (subst (λ (t : ℕ). AreByOthers by_number t of.between) main of.others);
}
