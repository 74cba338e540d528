-- Between its turns it works on.
use Rattle.std.proofs.Common.{◌≡◌, ◌-◌, ℕ, List}
use Rattle.std.specs.VecDeque.{deque_len, deque_capacity}
use Rattle.ak_turn.specs.Called.{KeepsSeat}
use Rattle.ak_diary.specs.Looper.{LooperFacts}
use Rattle.ak_diary.specs.Step.{Step}
use Rattle.ak_looper.specs.Carrying.{IsDeskOf}
use Rattle.ak_looper.specs.Living.{CanWork, GoesOnWorking, IsWorking, Later}
use Rattle.ak_looper.specs.Ways.{KeepsPlaces}
use Rattle.ak_looper.proofs.at_work.Life.work.Given as goal

abbrev pub invariant-loop : goal.invariant-loop
invariant-loop g l = record {
  next : (goal.iterator-loop g).can_next l.iterator';
  finite : (goal.iterator-loop g).is_finite l.iterator';
  can : CanWork l.self.reach (deque_capacity l.self.queue - deque_len l.self.queue) l.self.queue.items;
  desk : IsDeskOf l.self.reach.number l.self.desk_seat;
  working : IsWorking l.self.reach l.self.desk_seat;
  later : (f : LooperFacts) (start : ℕ) (work : List Step) → GoesOnWorking f start work l.fn.self.reach l.fn.self.desk_seat → Later (λ so_far. GoesOnWorking f start so_far l.self.reach l.self.desk_seat) work;
  keeps : KeepsPlaces l.fn.self.reach l.self.reach;
  lock : l.self.desk ≡ l.fn.self.desk;
  seat : KeepsSeat l.fn.self.desk_seat l.self.desk_seat;
}
