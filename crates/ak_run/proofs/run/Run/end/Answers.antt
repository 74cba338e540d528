-- The run went on to its end, and the laws of runs that ended say the rest.
use Rattle.std.proofs.Common.{ℕ, List, ap, ◌∙◌, subst}
use Rattle.ak_roster.specs.declared.head.AppHead.{AppHead}
use Rattle.ak_describe.specs.Whole.{heads_of}
use Rattle.ak_headline.specs.Run.{EditsStarted, IsRunWith}
use Rattle.ak_run.specs.Ending.{EndsAs}
use Rattle.ak_run.specs.Opened.{WereOpened}
use Rattle.ak_run.specs.Sessions.{session_count}
use Rattle.ak_run.proofs.Endings.{as_many_sessions, closed_further, each_session, runs_on, same_heads_of, sessions_further, whole}
use Rattle.ak_run.proofs.MainDone.{at_end, ends_further}
use Rattle.ak_run.proofs.run.Run.end.Goals as goal

pub gathered-requires : goal.gathered-requires
gathered-requires g c = record {
  running = runs_on c.args.self c.leave_all.new.self c.leave_all.ensures.goes c.requires.running;
  closed = closed_further c.args.self c.leave_all.new.self c.leave_all.ensures.goes c.requires.closed;
}

pub returns : goal.returns
returns g c =
    let r = c.args.self in
    let left = c.leave_all.new.self in
    let goes = c.leave_all.ensures.goes in
    let ended = c.gathered.result in
    let h = ended.histories in
    let later = heads_of left.apps.items in
    let running = runs_on r left goes c.requires.running in
    let recorded = running.recorded in
    let closed = closed_further r left goes c.requires.closed in
    let many = session_count left in
    let run : IsRunWith many later ended.short h =
    whole later ended.short many h c.gathered.ensures.run recorded.did recorded.recorded.diary recorded.recorded.in_time.stamped (c.gathered.ensures.done recorded.did recorded.recorded recorded.edits)
    (subst (λ (heads : List AppHead). EditsStarted heads recorded.did) running.stands.heads_are recorded.started) running.stands.sessions.few (each_session left h running closed c.gathered.ensures.sessions) in
    let same : EndsAs r h = ends_further r left h goes c.leave_all.ensures.closed.goes.ports_on c.gathered.ensures.same in
    record {
      apps = ap (λ v. v.items) (c.gathered.ensures.apps ∙ goes.apps);
      run = subst (λ (n : ℕ). IsRunWith n (heads_of r.apps.items) ended.short h) (as_many_sessions r left goes) (subst (λ (heads : List AppHead). IsRunWith many heads ended.short h) (same_heads_of r left goes) run);
      accepted = c.runs_are_accounted.ensures many later ended.short h run;
      dispatched = c.runs_go_by_rule.ensures many later ended.short h run;
      answered = c.each_waiting_send_got_one_reply.ensures many later ended.short h run;
      opened = subst (λ v. WereOpened v.items h) goes.apps c.gathered.ensures.opened;
      same = same;
      did = λ steps done. at_end (heads_of r.apps.items) r left h steps c.leave_all.ensures.closed done goes.desks_on c.gathered.ensures.done c.gathered.ensures.same same;
      sessions = sessions_further r left h goes c.gathered.ensures.sessions;
    }
