-- What the layers above may cite of these proofs: they name this file alone.
pub use Rattle.ak_gather.proofs.Elsewhere.{nothing_after}
pub use Rattle.ak_gather.proofs.Joining.{all_joined_still, goes_on_knowing, knows_as_before, knows_further, took}
pub use Rattle.ak_gather.proofs.Knowing.{known_told, part_known, plain_told}
pub use Rattle.ak_gather.proofs.LastFronts.{DesksEndByOthers, IsMains, desk_fronts_still, desks_end, fronts_still, noted_at_end, ports_end, roster_ends}
pub use Rattle.ak_gather.proofs.Launched.{any_more}
pub use Rattle.ak_gather.proofs.Makers.{IsGathered, as_many, edited_by_holders, history, made_by_holders, port_of}
pub use Rattle.ak_gather.proofs.Paired.{AllAreJoined, at_from, kept_leads, ways_lead}
pub use Rattle.ak_gather.proofs.Placed.{books_at, number_at, way_to}
pub use Rattle.ak_gather.proofs.Taking.{all_at, all_gain_further, at_place, at_set, beside_set, heads_still, of_all, place_or_beside, some_and, some_same, taken_later, ways_later, ways_of_all}
pub use Rattle.ak_gather.proofs.Telling.{is_run}
