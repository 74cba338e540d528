use Rattle.std.proofs.Common.{◌≤◌, List, [], length, vec_capacity, sym, subst}
use Rattle.ak_script.specs.declared.statement.SessionLine.{SessionLine}
use Rattle.ak_lines.specs.Carried.{HasCarriedTo}
use Rattle.ak_lines.proofs.Lines.{carried_out}
use Rattle.ak_lines.proofs.carrying.run_session.Goals as goal

pub carry_out_all-carried-requires : goal.carry_out_all-carried-requires
carry_out_all-carried-requires g c =
    let job = c.args.job in
    let given = c.requires.ready in
    record {
      standing = record { heads = given.ready.heads; start = job.session.hands.clock.time; steps = []; stands = c.ready_sessions_stand.ensures job.session given.ready };
      no_outcomes = given.no_outcomes;
      no_tolds = given.no_tolds;
      room_for_outcomes = subst (λ (ls : List SessionLine). length ls ≤ vec_capacity job.outcomes) (sym c.deref.ensures.value) given.room_for_outcomes;
      room_for_tolds = subst (λ (ls : List SessionLine). length ls ≤ vec_capacity job.tolds) (sym c.deref.ensures.value) given.room_for_tolds;
    }

pub returns : goal.returns
returns g c =
    let job = c.args.job in
    let ready = c.requires.ready.ready in
    let carried = c.carry_out_all-carried in
    let stands = c.ready_sessions_stand.ensures job.session ready in
    let start = job.session.hands.clock.time in
    carried_out job _ carried.result ready carried.ensures.keeps c.is_err.ensures.value
    (subst (λ (ls : List SessionLine). HasCarriedTo ready.heads start ls carried.result carried.new.outcomes.items carried.new.tolds.items carried.new.session) c.deref.ensures.value (carried.ensures.carried ready.heads start stands))
