-- What contracts see of a port as the code holds it.
use Rattle.std.specs.Prelude.{◌≡◌, ℕ, ◌+◌, ◌≤◌, Bool, true, false, length, drop}
use Rattle.std.specs.Vec.{vec_len, vec_capacity}
use Rattle.std.specs.VecDeque.{deque_len, deque_capacity}
use Rattle.ak_base.specs.Limits.{capacity_limit}
use Rattle.ak_port.specs.declared.port_book.PortBook.TheInside.{Inside}
use Rattle.ak_port.specs.PortMachine.{PortState, IsPort, state_of}
use Rattle.ak_port.specs.PortCalls.{PortData}
use Rattle.ak_port.specs.Limits.{life_limit}

abbrev pub port_inside : Inside → PortData
port_inside b = record { taker = b.taker; entries = b.entries.items }

-- the fields tell the state
pub record Tells (s : PortState) (b : Inside) : Type 0 where
  pub capacity : s.capacity ≡ b.capacity
  pub life : s.life ≡ b.life
  pub count : length s.written ≡ b.written
  pub pending : b.pending.items ≡ drop s.taken s.written
  pub pending_len : s.taken + deque_len b.pending ≡ b.written
  pub shut : s.shut ≡ b.shut
  pub rested : s.rested ≡ b.rested

abbrev pub one_unless : Bool → ℕ
one_unless true = 0
one_unless false = 1

-- how many entries are still to come without memory: one for each pending item, for the Shut and for the Rest
abbrev pub reserved : Inside → ℕ
reserved b = deque_len b.pending + one_unless b.shut + one_unless b.rested

pub record IsSound (b : Inside) : Type 0 where
  pub port : IsPort b.taker.0 b.entries.items
  pub tells : Tells (state_of b.entries.items) b
  pub within : (b.capacity ≤ capacity_limit) × (b.life ≤ life_limit)
  pub entries : vec_len b.entries + reserved b ≤ vec_capacity b.entries
  pub ring : b.capacity ≤ deque_capacity b.pending
