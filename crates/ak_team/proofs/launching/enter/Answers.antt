-- The launch that was decided on is entered, with the doors of its loopers.
use Rattle.std.proofs.Common.{refl, ◌∙◌}
use Rattle.ak_team.proofs.Entering.{none_entered, none_in_time, one_in_time}
use Rattle.ak_team.proofs.Started.{doors, has_started}
use Rattle.ak_team.proofs.launching.enter.Goals as goal

pub launch-requires-clause-doors : goal.launch-requires-clause-doors
launch-requires-clause-doors g c =
    doors c.args.book.now c.args.book.now c.args.hands.now.clock c.args.hands.now.clock c.requires.main c.args.word.now c.args.making c.requires.decided.0 c.args.team c.args.first c.requires.decided.1

pub returns-in-Started-clause-launch : goal.returns-in-Started-clause-launch
returns-in-Started-clause-launch g c = λ apps shared description decided made.
    has_started c.args.book.now c.launch.new.self c.args.hands.now.clock c.launch.new.clock c.requires.main c.args.word.now c.args.making description c.args.team c.args.first decided c.heads.ensures.is_roster c.requires.rest c.in-Started.ensures.entry
    apps shared made _ refl refl (c.len-loopers.ensures ∙ c.args.making.kept.ok.0) refl refl

pub returns-in-NoMemory-clause-launch : goal.returns-in-NoMemory-clause-launch
returns-in-NoMemory-clause-launch g c = λ apps shared description decided made. none_entered c.args.book.now c.launch.new.self c.args.hands.now.clock c.launch.new.clock c.in-NoMemory.ensures.stays

pub returns-in-Started-clause-in_time : goal.returns-in-Started-clause-in_time
returns-in-Started-clause-in_time g c = one_in_time c.args.book.now c.launch.new.self c.args.hands.now.clock c.launch.new.clock _ _ _ c.in-Started.ensures.entry

pub returns-in-NoMemory-clause-in_time : goal.returns-in-NoMemory-clause-in_time
returns-in-NoMemory-clause-in_time g c = none_in_time c.args.book.now c.launch.new.self c.args.hands.now.clock c.launch.new.clock c.in-NoMemory.ensures.stays
