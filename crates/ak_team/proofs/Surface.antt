-- What the layers above may cite of these proofs: they name this file alone.
pub use Rattle.ak_team.proofs.Adding.{May, called_on, called_one, may_post, seen_none, seen_on, time_stays}
pub use Rattle.ak_team.proofs.Entering.{all_started, gone_entered, gone_event, gone_in_time, no_time, none_entered, none_in_time, one_entered, one_in_time, plain-append, some_started}
pub use Rattle.ak_team.proofs.Heads.{by_others, made_nothing, nothing_by_new}
pub use Rattle.ak_team.proofs.NewPorts.{MayMake, Mine, noted_on, notes_on, one_at_least, told_fits, told_long}
pub use Rattle.ak_team.proofs.Ways.{all_paired, own_ways}
