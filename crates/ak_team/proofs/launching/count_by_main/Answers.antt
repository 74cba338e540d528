-- Each door that is kept tells that main launched its looper.
use Rattle.ak_roster.specs.Roster.{plain_entries}
use Rattle.ak_looper.proofs.Surface.{all_by_main}
use Rattle.ak_team.proofs.launching.count_by_main.Goals as goal

pub returns : goal.returns
returns c = all_by_main c.args.book.now.heads (plain_entries c.args.book.now.entries) c.args.book.now.doors (c.heads.ensures.is_roster.kept c.requires.rest)
