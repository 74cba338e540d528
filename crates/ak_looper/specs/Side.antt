-- What a thread does at the reply book and at one port: from its clock and its seats there to later ones, by some steps.
use Rattle.std.specs.Prelude.{◌≡◌, ℕ, List, ◌++◌, All}
use Rattle.ak_turn.specs.declared.clock.Clock.{Clock}
use Rattle.ak_turn.specs.Called.{KeepsSeat}
use Rattle.ak_turn.specs.Entries.{StartsWith}
use Rattle.ak_turn.specs.Noted.{noted}
use Rattle.ak_port.specs.PortCalls as ports
use Rattle.ak_port.specs.ReplySeats as books
use Rattle.ak_diary.specs.Step.{Step, at_roster, at_book, at_port, at_desk, saw_roster, saw_book, saw_port, lacked, book_entries, book_sights, port_entries, port_sights, AreStamped, time_of}

-- a thread's clock, and its seats at the book and at a port
pub record Side : Type 0 where
  pub clock : Clock
  pub book : books.ReplySeat
  pub port : ports.PortSeat

abbrev pub side : Clock → books.ReplySeat → ports.PortSeat → Side
side clock book port = record { clock = clock; book = book; port = port }

-- a step at the book or at that looper's port, or want of memory
abbrev pub IsOnSide : ℕ → Step → Type 0
IsOnSide looper (at_book n) = Unit {0}
IsOnSide looper (at_port number n) = number ≡ looper
IsOnSide looper (saw_book seen) = Unit {0}
IsOnSide looper (saw_port number seen) = number ≡ looper
IsOnSide looper lacked = Unit {0}
IsOnSide looper (at_roster n) = ⊥
IsOnSide looper (at_desk number n) = ⊥
IsOnSide looper (saw_roster seen) = ⊥

-- by these steps the seats went on, and so did the clock
pub record SideGoes (looper : ℕ) (steps : List Step) (a b : Side) : Type 0 where
  pub on_side : All (IsOnSide looper) steps
  pub thread : b.clock.thread ≡ a.clock.thread
  pub stamped : AreStamped a.clock.time steps
  pub time : time_of a.clock.time steps ≡ b.clock.time
  pub keeps_book : KeepsSeat a.book b.book
  pub keeps_port : KeepsSeat a.port b.port
  pub book_on : StartsWith b.book.front a.book.front
  pub port_on : StartsWith b.port.front a.port.front
  pub book_noted : noted books.maker_of b.book.thread b.book.front ≡ noted books.maker_of a.book.thread a.book.front ++ book_entries steps
  pub port_noted : noted ports.by_number b.port.thread b.port.front ≡ noted ports.by_number a.port.thread a.port.front ++ port_entries looper steps
  pub book_seen : All (StartsWith b.book.front) (book_sights steps)
  pub port_seen : All (StartsWith b.port.front) (port_sights looper steps)

-- by steps of which P holds
pub record SideDoes (looper : ℕ) (P : List Step → Type 0) (a b : Side) : Type 0 where
  pub steps : List Step
  pub does : P steps
  pub goes : SideGoes looper steps a b
