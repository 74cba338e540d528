-- Main posts to that looper, and the run goes on.
use Rattle.std.proofs.Common.{refl, sym, ◌∙◌}
use Rattle.std.proofs.lemmas.List.{length-set}
use Rattle.ak_messenger.specs.Sends.{post_event}
use Rattle.ak_run.specs.Doing.{EnteredSo}
use Rattle.ak_team.proofs.Surface.{may_post}
use Rattle.ak_turn.proofs.Surface.{keeps_itself}
use Rattle.ak_run.proofs.Calls.{main_has, one_does, port_after, port_before, post_acts, post_goes}
use Rattle.ak_run.proofs.GoingOn.{still_running}
use Rattle.ak_run.proofs.run.Run.post.Goals as goal

pub post-requires-clause-thread : goal.post-requires-clause-thread
post-requires-clause-thread g c =
    let r = c.args.self.now in
    let running = c.requires.running in
    main_has _ running.heads r c.args.looper c.index_mut.result.now c.requires.there (sym c.index_mut.ensures.value) running.stands ∙ sym r.main

pub returns-clause-did : goal.returns-clause-did
returns-clause-did g c =
    let r = c.args.self.now in
    let m = c.index_mut.result.now in
    let e = post_event c.args.envelope c.args.message.now c.post.result in
    one_does r _ c.args.looper m _ c.requires.there (sym c.index_mut.ensures.value) refl refl (λ steps. EnteredSo c.args.looper _ steps e) refl
    (post_acts r _ c.args.looper m _ c.requires.there (sym c.index_mut.ensures.value) refl refl e (main_has _ c.requires.running.heads r c.args.looper m c.requires.there (sym c.index_mut.ensures.value) c.requires.running.stands)
    (may_post c.args.envelope c.args.message.now c.post.result) c.post.ensures.answered c.post.ensures.book_seat)

pub returns-clause-answered : goal.returns-clause-answered
returns-clause-answered g c =
    let r = c.args.self.now in
    let m = c.index_mut.result.now in
    record {
      seat = m.door.port_seat;
      seat' = c.post.new.seat;
      before = port_before r c.args.looper m c.requires.there (sym c.index_mut.ensures.value);
      after = port_after r.members.items c.args.looper _ c.requires.there;
      answered = c.post.ensures.answered;
    }

pub returns-clause-running : goal.returns-clause-running
returns-clause-running g c =
    let r = c.args.self.now in
    let m = c.index_mut.result.now in
    let e = post_event c.args.envelope c.args.message.now c.post.result in
    still_running r _ (post_goes r _ c.args.looper m _ c.requires.there (sym c.index_mut.ensures.value) refl refl e (main_has _ c.requires.running.heads r c.args.looper m c.requires.there (sym c.index_mut.ensures.value) c.requires.running.stands)
    (may_post c.args.envelope c.args.message.now c.post.result) c.post.ensures.answered c.post.ensures.book_seat (record { port = c.post.ensures.seat; desk = keeps_itself m.door.desk_seat; desk_front = refl }) refl (record { apps = refl; shared = refl; joined = refl; ports = refl; desks = refl; slots = refl })) c.requires.running

pub returns-clause-count : goal.returns-clause-count
returns-clause-count g c = length-set c.args.self.now.members.items c.args.looper _
