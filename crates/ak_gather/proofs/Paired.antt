-- All threads were joined, and the roster was kept: the doors that it kept, and those that the loopers gave back, lead where main's doors lead.
use Rattle.std.proofs.Common.{◌≡◌, ℕ, ◌+◌, ◌<◌, List, length, map, All, Some, option_map, sym, ap, ◌∙◌, subst, arith}
use Rattle.std.specs.Prelude.{slice_get}
use Rattle.std.specs.Arc.{arc_value}
use Rattle.std.specs.List.{range_with_len}
use Rattle.std.proofs.lemmas.List.{length-map}
use Rattle.std.proofs.lemmas.List.Elements.{All-weaker}
use Rattle.std.proofs.lemmas.Option.{slice_get-map, slice_get_within}
use Rattle.ak_base.specs.Thread.{main_thread}
use Rattle.ak_turn.specs.Entries.{AreByOthers, made_by}
use Rattle.ak_turn.specs.Seats.{LockId}
use Rattle.ak_roster.specs.declared.entry.EntryWithObjects.{EntryWithObjects}
use Rattle.ak_roster.specs.declared.head.AppHead.{AppHead}
use Rattle.ak_roster.specs.Machine.{state_of}
use Rattle.ak_roster.specs.Roster.{RosterData, objects_of, plain_entries}
use Rattle.ak_port.specs.ReplySeats.{ReplySeat}
use Rattle.ak_looper.specs.declared.kept_door.KeptDoor.{KeptDoor}
use Rattle.ak_looper.specs.Doors.{door_object}
use Rattle.ak_looper.specs.Rosters as rosters
use Rattle.ak_looper.specs.Rosters.{Object, RosterSeat}
use Rattle.ak_looper.specs.Stands.{DoorStands}
use Rattle.ak_looper.proofs.Surface.{leads_on, all_by_main, object}
use Rattle.ak_gather.specs.declared.gathering.Joined.{Joined}
use Rattle.ak_looper.specs.Counting.{started_by_main, started_in}
use Rattle.ak_gather.specs.Gathering.{AreKeptIn, IsAt, IsJoined, IsRosterOf, IsWayIn}
use Rattle.ak_gather.proofs.Taking.{some_same, all_at, at_place}
use Rattle.ak_gather.proofs.Knowing.{part_known, plain_still}
use Rattle.ak_gather.proofs.Placed.{kept_in, number_at}

-- these loopers were joined, in order; main started no others; and this is the roster that was kept
pub record AllAreJoined (heads : List AppHead) (main : RosterSeat) (book : ReplySeat) (js : List Joined) (roster : RosterData KeptDoor Object) : Type 0 where
  pub opening : main.opening ≡ Some heads
  pub by_main : main.thread ≡ main_thread
  pub joined : All (IsJoined heads main book) js
  pub numbers : map (λ (j : Joined). j.number) js ≡ range_with_len 0 (length js)
  pub started : started_by_main heads main ≡ length js
  pub of : IsRosterOf main roster

same_locks : (p d p' d' : LockId) → Some (door_object p d) ≡ Some (door_object p' d') → (p ≡ p') × (d ≡ d')
same_locks p d p' d' same =
    let pair : (p, d) ≡ (p', d') = some_same (p, d) (p', d') (some_same (door_object p d) (door_object p' d') same) in
    (ap (λ (o : Object). o.0) pair, ap (λ (o : Object). o.1) pair)

module _ (heads : List AppHead) (main : RosterSeat) (book : ReplySeat) (js : List Joined) (roster : RosterData KeptDoor Object) (all : AllAreJoined heads main book js roster) where
  pub roster_heads : roster.heads ≡ heads
  roster_heads = let both : Some roster.heads ≡ Some heads = sym all.of.opening ∙ all.opening in cc both

  -- all loopers are those that were joined
  pub all_started : length (state_of heads (plain_entries roster.entries)).loopers ≡ length js
  all_started =
      subst (λ (hs : List AppHead). length (state_of hs (plain_entries roster.entries)).loopers ≡ started_in hs (made_by rosters.maker_of main_thread (plain_entries roster.entries))) roster_heads
      (all_by_main roster.heads (plain_entries roster.entries) roster.doors all.of.kept)
      ∙ ap (λ (entries : List (EntryWithObjects Object)). started_in heads (made_by rosters.maker_of main_thread (plain_entries entries))) all.of.goes_on
      ∙ ap (started_in heads) (plain_still main_thread main.front all.of.between (subst (λ (thread : ℕ). AreByOthers rosters.by_number thread all.of.between) all.by_main all.of.others))
      ∙ all.started

  pub door_count : length roster.doors ≡ length js
  door_count = all.of.rest ∙ ap (λ (hs : List AppHead). length (state_of hs (plain_entries roster.entries)).loopers) roster_heads ∙ all_started

  object_count : length (objects_of roster.entries) ≡ length js
  object_count = ap length (sym all.of.objects) ∙ length-map roster.doors object ∙ door_count

  -- main's doors lead to what the roster pairs with the loopers
  leads_at : (place : ℕ) (j : Joined) → slice_get js place ≡ Some j → slice_get (objects_of roster.entries) place ≡ Some (door_object j.door.port_seat.lock j.door.desk_seat.lock)
  leads_at place j there =
      let is = all_at (IsJoined heads main book) js place j all.joined there in
      ap (slice_get (objects_of roster.entries)) (sym (number_at js place j all.numbers there))
      ∙ ap (λ (entries : List (EntryWithObjects Object)). slice_get (objects_of entries) j.number) all.of.goes_on
      ∙ leads_on main.front all.of.between j.number (door_object j.door.port_seat.lock j.door.desk_seat.lock) is.leads

  -- so what leads there leads where main's door leads
  pub at_from : (place : ℕ) (port desk : LockId) → slice_get (objects_of roster.entries) place ≡ Some (door_object port desk) → IsAt js place port desk
  at_from place port desk leads =
      let within : place < length js = subst (λ (n : ℕ). place < n) object_count (slice_get_within (objects_of roster.entries) place (door_object port desk) leads) in
      let j = at_place js place within in
      let both = same_locks port desk j.0.door.port_seat.lock j.0.door.desk_seat.lock (sym leads ∙ leads_at place j.0 j.1) in
      record { looper = j.0; there = j.1; at_port = both.0; at_desk = both.1 }

  pub kept_leads : AreKeptIn js 0 roster.doors
  kept_leads = kept_in js 0 roster.doors each
    where
      each : (i : ℕ) (kept : KeptDoor) → slice_get roster.doors i ≡ Some kept → IsAt js (0 + i) kept.port_seat.lock kept.desk_seat.lock
      each i kept there =
          let at : i ≡ 0 + i = omega arith in
          subst (λ (n : ℕ). IsAt js n kept.port_seat.lock kept.desk_seat.lock) at
          (at_from i kept.port_seat.lock kept.desk_seat.lock
          (ap (λ (os : List _). slice_get os i) (sym all.of.objects) ∙ slice_get-map object roster.doors i ∙ ap (option_map object) there
          ∙ ap (λ (p : LockId). Some (door_object p (arc_value kept.desk))) (sym kept.port_of) ∙ ap (λ (d : LockId). Some (door_object kept.port_seat.lock d)) (sym kept.desk_of)))

  pub ways_lead : All (λ (j : Joined). All (IsWayIn js) j.end.value.doors.items) js
  ways_lead = All-weaker (IsJoined heads main book) (λ (j : Joined). All (IsWayIn js) j.end.value.doors.items) of_one js all.joined
    where
      of_one : (j : Joined) → IsJoined heads main book j → All (IsWayIn js) j.end.value.doors.items
      of_one j is =
          let seat = j.end.value.roster_seat in
          let begins = (part_known rosters.by_number seat main roster.entries all.of.known is.at_roster).begins in
          All-weaker (DoorStands is.lived.steps seat) (IsWayIn js)
          (λ way stands. at_from way.0 way.1.port_seat.lock way.1.desk_seat.lock
          (ap (λ (entries : List (EntryWithObjects Object)). slice_get (objects_of entries) way.0) begins.1 ∙ leads_on seat.front begins.0 way.0 (door_object way.1.port_seat.lock way.1.desk_seat.lock) stands.leads))
          j.end.value.doors.items is.lived.doors
