-- What the lock tells of threads that were joined, and the doors that are kept at rest.
use Rattle.std.proofs.Common.{◌∙◌, Some, ap, subst, sym}
use Rattle.ak_roster.specs.Roster.{IsAtRest, RosterData}
use Rattle.ak_looper.specs.declared.kept_door.KeptDoor.{KeptDoor}
use Rattle.ak_looper.specs.Rosters.{Object, RosterSeat, by_number}
use Rattle.ak_gather.proofs.Knowing.{knows_all, named_all}
use Rattle.ak_gather.proofs.gathering.keep_roster.Goals as goal

pub returns : goal.returns
returns g c =
    let turn = c.lock-turn.ensures in
    let kept = c.keep-kept in
    let at_rest = subst (λ (b : RosterData KeptDoor Object). IsAtRest b) (sym kept.ensures) turn.rest in
    let list = ap (λ (b : RosterData KeptDoor Object). b.entries) kept.ensures ∙ turn.list in
    record {
      opening = turn.opening ∙ ap (λ (b : RosterData KeptDoor Object). Some b.heads) (sym kept.ensures);
      legal = c.heads.ensures.is_roster.history;
      known = knows_all by_number c.args.seat c.lock-turn.new.seat kept.result.entries turn.seen turn.known list;
      between = turn.seen.between;
      goes_on = list ∙ ap (λ (s : RosterSeat). s.front) turn.seen.after;
      others = turn.seen.others;
      named = λ names at. named_all by_number c.args.seat c.lock-turn.new.seat kept.result.entries turn.seen turn.known list names at;
      rest = at_rest;
      objects = c.heads.ensures.is_roster.objects at_rest;
      kept = c.heads.ensures.is_roster.kept at_rest;
    }
