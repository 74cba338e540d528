use Rattle.ak_diary.specs.Wants.{AsksInVain}
use Rattle.ak_session.specs.Doing.{address_of}
use Rattle.ak_lines.specs.Blocks.{CutsHey, IsHeyLine, hey_item}
use Rattle.ak_lines.proofs.Finding.{hey_came, no_find_came, no_team_came}
use Rattle.ak_lines.proofs.asking.hey.Goals as goal

pub returns-in-Team-clause-goes : goal.returns-in-Team-clause-goes
returns-in-Team-clause-goes g c heads start so_far stands =
    let team = c.in-Team in
    hey_came heads c.args.hey.now team.team team.first team.loopers team.place team.ensures.loopers.0 c.ask_looper.result start so_far c.find.new.self c.ask_looper.new.session
    (team.ensures.goes heads start so_far stands) (λ now at. c.ask_looper.ensures.goes heads start now at)

pub returns-in-NoTeam-clause-goes : goal.returns-in-NoTeam-clause-goes
returns-in-NoTeam-clause-goes g c heads start so_far stands =
    let h = c.args.hey.now in
    no_team_came heads h.app start so_far c.find.new.self (IsHeyLine heads so_far h) (CutsHey heads so_far h) c.in-NoTeam.place c.no_team.result (λ xs none. none) c.no_team.ensures.outcome c.no_team.ensures.told (c.in-NoTeam.ensures.goes heads start so_far stands)

pub returns-in-NoMemory-clause-goes : goal.returns-in-NoMemory-clause-goes
returns-in-NoMemory-clause-goes g c heads start so_far stands =
    let h = c.args.hey.now in
    no_find_came heads h.app start so_far c.find.new.self 0 (λ looper. AsksInVain (address_of looper (hey_item h)) (hey_item h)) (c.in-NoMemory.ensures.goes heads start so_far stands)
