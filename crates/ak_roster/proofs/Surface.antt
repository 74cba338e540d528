-- What the layers above may cite of these proofs: they name this file alone.
pub use Rattle.ak_roster.proofs.Carried.{carried}
pub use Rattle.ak_roster.proofs.Fresh.{fresh_decided, fresh_launch, stranger_fresh}
pub use Rattle.ak_roster.proofs.Histories.{count_started, loopers-after, state_of-append}
pub use Rattle.ak_roster.proofs.Launching.{doors_for_start, started_facts}
