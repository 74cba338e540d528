-- What the layers above may cite of these proofs: they name this file alone.
pub use Rattle.ak_handler.proofs.Chains.{chains_are_whole-proof}
pub use Rattle.ak_handler.proofs.Held.{map-held_by_none}
pub use Rattle.ak_handler.proofs.Placed.{none_there, placed_at}
pub use Rattle.ak_handler.proofs.Tokens.{contains_token, found_has, found_there, looper_there}
pub use Rattle.ak_handler.proofs.Walks.{IsWalk, Ends, after_add, after_none, back_never_ends, ended, ends_before, met, met_all, met_long, met_once}
