-- Its thread is a new one, and main's seats are the heads still.
use Rattle.std.proofs.Common.{◌≡◌, ◌+◌, ◌++◌, ◌∷◌, [], ℕ, List, length, None, Some, refl, sym, ap, ◌∙◌, subst}
use Rattle.ak_roster.specs.declared.head.AppHead.{AppHead}
use Rattle.ak_run.specs.declared.slots.Slots.{Slots}
use Rattle.ak_turn.specs.Seats.{new_seat}
use Rattle.ak_turn.specs.Steps.{IsNewName}
use Rattle.ak_port.specs.ReplySeats.{ReplySeat}
use Rattle.ak_looper.specs.Rosters.{RosterSeat}
use Rattle.ak_run.specs.Sessions.{Told, session_count, told_in}
use Rattle.ak_run.specs.Starting.{HasSplit}
use Rattle.ak_run.proofs.OpenedSlots.{adds, book_new, does_nothing, is_ready, roster_new}
use Rattle.ak_run.proofs.run.Run.add_session.Goals as goal

-- it stands behind those that were there before main's seats were split
put_behind : (all : List Told) (before between : Slots) (told : Told) → all ≡ told_in between ++ told ∷ [] → between ≡ before → all ≡ told_in before ++ told ∷ []
put_behind all before between told is same = is ∙ ap (λ (slots : Slots). told_in slots ++ told ∷ []) same

pub split_seats-book_seat-requires-clause-book_new : goal.split_seats-book_seat-requires-clause-book_new
split_seats-book_seat-requires-clause-book_new c = subst (λ (n : ℕ). IsNewName c.args.self.now.hands.book_seat.names (n + 1)) (sym c.sessions.ensures) (book_new c.args.self.now c.requires.running c.requires.few)

pub split_seats-book_seat-requires-clause-roster_new : goal.split_seats-book_seat-requires-clause-roster_new
split_seats-book_seat-requires-clause-roster_new c = subst (λ (n : ℕ). IsNewName c.args.self.now.roster_seat.names (n + 1)) (sym c.sessions.ensures) (roster_new c.args.self.now c.requires.running c.requires.few)

pub returns : goal.returns
returns c =
    let r = c.args.self.now in
    let is = c.requires.running in
    let few = c.requires.few in
    let next = session_count r + 1 in
    let split = c.split_seats-book_seat in
    let now = split.new.self in
    let has_split = subst (λ (n : ℕ). HasSplit (n + 1) r now) c.sessions.ensures split.ensures.split in
    let book : split.result.0 ≡ new_seat next None r.hands.book_seat = split.ensures.book ∙ ap (λ (n : ℕ). new_seat (n + 1) None r.hands.book_seat) c.sessions.ensures in
    let roster : split.result.1 ≡ new_seat next None r.roster_seat = split.ensures.roster ∙ ap (λ (n : ℕ). new_seat (n + 1) None r.roster_seat) c.sessions.ensures in
    let number = ap (λ (n : ℕ). n + 1) c.sessions.ensures in
    let opening = ap (λ (x : RosterSeat). x.opening) roster in
    record {
      ready = is_ready r is few _ number book roster c.new.ensures.items (c.new_seats_know.ensures.split r.hands.book_seat next is.stands.book_known (book_new r is few)).0 (c.new_seats_know-2.ensures.split r.roster_seat next is.stands.roster_known (roster_new r is few)).0;
      number = number;
      time = has_split.time;
      locks = record { book = c.requires.shared.book; roster = c.requires.shared.roster };
      heads = opening ∙ is.stands.opening ∙ ap (λ (h : List AppHead). Some h) is.stands.heads_are;
      opened = put_behind _ r.slots now.slots _ c.put.ensures.sessions has_split.rest.slots;
      did = does_nothing r _ has_split.time has_split.members (ap (λ (x : RosterSeat). x.front) has_split.roster_seat) (ap (λ (x : ReplySeat). x.front) has_split.book_seat);
      running = adds r is few now has_split _ _ (record { apps = refl; hands = refl; shared = refl; roster_seat = refl; members = refl; joined = refl; ports = refl; desks = refl }) number opening (record { book = c.requires.shared.book; roster = c.requires.shared.roster }) (put_behind _ r.slots now.slots _ c.put.ensures.sessions has_split.rest.slots) (c.put.ensures.ways ∙ ap (λ (slots : Slots). slots.ways) has_split.rest.slots) c.requires.room_for_ways;
      count = ap (λ v. length v.items) has_split.members;
      apps = has_split.rest.apps;
    }
