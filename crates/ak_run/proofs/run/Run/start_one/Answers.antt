-- One looper starts: its seats are split from main's, it gets its life, and it is put behind the others.
use Rattle.std.proofs.Common.{ℕ, ◌≡◌, ◌+◌, ◌<◌, length, None, refl, sym, ap, subst, ◌∙◌, vec_capacity}
use Rattle.ak_turn.specs.Seats.{new_seat}
use Rattle.ak_turn.specs.Steps.{IsNewName}
use Rattle.ak_diary.specs.Turns.{Shuts}
use Rattle.ak_looper.specs.declared.door.Door.{Door}
use Rattle.ak_run.specs.declared.run.Run.{Run}
use Rattle.ak_run.specs.Members.{StillLeads}
use Rattle.ak_run.specs.Recording.{RecordsAtNew}
use Rattle.ak_run.specs.Running.{IsStanding}
use Rattle.ak_run.specs.Starting.{HasSplit}
use Rattle.ak_run.specs.Stopping.{StopsAtNew}
use Rattle.ak_run.proofs.Recorded.{start_quiet}
use Rattle.ak_run.proofs.Stopping.{shut_start, stops_start}
use Rattle.ak_run.proofs.Splits.{book_new, can_start, first_there, goes_with, room_there, roster_new, stands_split}
use Rattle.ak_run.proofs.run.Run.start_one.Goals as goal

pub split_seats-book_seat-requires-clause-book_new : goal.split_seats-book_seat-requires-clause-book_new
split_seats-book_seat-requires-clause-book_new g c =
    let s = c.requires.start in
    subst (IsNewName c.args.self.now.hands.book_seat.names) (sym c.looper.ensures) (book_new s.0 s.1 s.2 c.args.team c.args.new c.args.ways.items c.args.self.now s.3)

pub split_seats-book_seat-requires-clause-roster_new : goal.split_seats-book_seat-requires-clause-roster_new
split_seats-book_seat-requires-clause-roster_new g c =
    let s = c.requires.start in
    subst (IsNewName c.args.self.now.roster_seat.names) (sym c.looper.ensures) (roster_new s.0 s.1 s.2 c.args.team c.args.new c.args.ways.items c.args.self.now s.3)

pub into_job-door-requires : goal.into_job-door-requires
into_job-door-requires g c =
    let s = c.requires.start in
    let r = c.args.self.now in
    let seats = c.split_seats-book_seat in
    let book = seats.ensures.book ∙ ap (λ (t : ℕ). new_seat t None r.hands.book_seat) c.looper.ensures in
    let roster = seats.ensures.roster ∙ ap (λ (t : ℕ). new_seat t None r.roster_seat) c.looper.ensures in
    record { start = (s.0, s.1, s.2, can_start s.0 s.1 s.2 c.args.team c.args.new c.args.ways.items r s.3 seats.result.0 seats.result.1 book roster) }

pub life_of-life-requires-clause-stands : goal.life_of-life-requires-clause-stands
life_of-life-requires-clause-stands g c κs within =
    let s = c.requires.start in
    let r = c.args.self.now in
    let now = c.split_seats-book_seat.new.self in
    let split = subst (λ (t : ℕ). HasSplit t r now) c.looper.ensures c.split_seats-book_seat.ensures.split in
    let standing : IsStanding now = record { next = length r.members.items + 1; heads = s.0; stands = stands_split s.0 s.1 s.2 c.args.team c.args.new c.args.ways.items r s.3 now split } in
    standing

pub life_of-life-requires-clause-first : goal.life_of-life-requires-clause-first
life_of-life-requires-clause-first g c κs within =
    let s = c.requires.start in
    let r = c.args.self.now in
    let now = c.split_seats-book_seat.new.self in
    let split = subst (λ (t : ℕ). HasSplit t r now) c.looper.ensures c.split_seats-book_seat.ensures.split in
    first_there s.0 s.1 s.2 c.args.team c.args.new c.args.ways.items r s.3 now split

pub push_reserved-requires : goal.push_reserved-requires
push_reserved-requires g c =
    let s = c.requires.start in
    let r = c.args.self.now in
    let now = c.split_seats-book_seat.new.self in
    let split = subst (λ (t : ℕ). HasSplit t r now) c.looper.ensures c.split_seats-book_seat.ensures.split in
    let later = c.life_of-life.new.self in
    subst (λ (n : ℕ). n < vec_capacity later.members) (sym later.members.ok.0) (room_there s.0 s.1 s.2 c.args.team c.args.new c.args.ways.items r s.3 now split later c.life_of-life.ensures.run)

pub returns : goal.returns
returns g c =
    let s = c.requires.start in
    let r = c.args.self.now in
    let seats = c.split_seats-book_seat in
    let now = seats.new.self in
    let split = subst (λ (t : ℕ). HasSplit t r now) c.looper.ensures seats.ensures.split in
    let book = seats.ensures.book ∙ ap (λ (t : ℕ). new_seat t None r.hands.book_seat) c.looper.ensures in
    let roster = seats.ensures.roster ∙ ap (λ (t : ℕ). new_seat t None r.roster_seat) c.looper.ensures in
    let leads = subst (λ (d : Door). StillLeads d c.life_of-life.new.door) c.into_job-door.ensures.door c.life_of-life.ensures.door in
    record {
      started = goes_with s.0 s.1 s.2 c.args.team c.args.new c.args.ways.items r s.3 now split c.life_of-life.new.self c.life_of-life.ensures.run _ (record { apps = refl; shared = refl; joined = refl; ports = refl; desks = refl; slots = refl }) refl refl
          _ c.push_reserved.ensures.items c.push_reserved.ensures.capacity c.life_of-life.new.door c.into_job-door.result.1 seats.result.0 seats.result.1 book roster c.into_job-door.ensures.job c.into_job-door.ensures.ready leads refl refl c.of-snapshot.ensures c.life_of-life.ensures.life;
      stops = λ start none.
          stops_start c.args.team r now c.life_of-life.new.self _ c.life_of-life.new.door c.args.new.door.port_seat.front _ split.rest.apps split.time split.members (ap (λ s. s.front) split.roster_seat) (ap (λ s. s.front) split.book_seat)
          (subst (λ (d : Door). StopsAtNew c.args.team d.port_seat.front c.life_of-life.new.door.port_seat.front now c.life_of-life.new.self) c.into_job-door.ensures.door (c.life_of-life.ensures.stops start none)) refl c.push_reserved.ensures.items refl refl;
      shut = λ none.
          shut_start r now c.life_of-life.new.self _ c.life_of-life.new.door c.args.new.door.port_seat.front _ split.time split.members (ap (λ s. s.front) split.roster_seat) (ap (λ s. s.front) split.book_seat)
          (subst (λ (d : Door). RecordsAtNew (Shuts (length now.members.items)) d.port_seat.front c.life_of-life.new.door.port_seat.front now c.life_of-life.new.self) c.into_job-door.ensures.door (c.life_of-life.ensures.shut none)) refl c.push_reserved.ensures.items refl refl;
      only = c.life_of-life.ensures.only;
      quiet = λ all.
          let later : c.life_of-life.new.self ≡ now = c.life_of-life.ensures.quiet all in
          start_quiet r c.life_of-life.new.self _ c.args.new.door.port_seat.front _ (ap (λ (u : Run). u.hands.clock.time) later ∙ split.time) (ap (λ (u : Run). u.members) later ∙ split.members) (ap (λ (u : Run). u.roster_seat.front) later ∙ ap (λ s. s.front) split.roster_seat)
          (ap (λ (u : Run). u.hands.book_seat.front) later ∙ ap (λ s. s.front) split.book_seat) (ap (λ (d : Door). d.port_seat.front) (c.life_of-life.ensures.door_kept all ∙ c.into_job-door.ensures.door)) c.push_reserved.ensures.items refl refl;
      kept = c.life_of-life.ensures.kept;
      cause = c.life_of-life.ensures.cause;
      never_falls = c.life_of-life.ensures.never_falls;
      asked = c.life_of-life.ensures.asked;
      given_back = c.life_of-life.ensures.given_back;
      not_asked = c.life_of-life.ensures.not_asked;
    }
