-- Main asks that looper, and the run goes on.
use Rattle.std.proofs.Common.{refl, sym, ◌∙◌}
use Rattle.std.proofs.lemmas.List.{length-set}
use Rattle.ak_flatten.specs.declared.item.Duty.TheVariants as duty
use Rattle.ak_messenger.specs.Sends.{item_in}
use Rattle.ak_run.specs.Doing.{AskedSo}
use Rattle.ak_turn.proofs.Surface.{keeps_itself}
use Rattle.ak_run.proofs.Calls.{ask_goes, asked_acts, main_has, one_does, port_after, port_before}
use Rattle.ak_run.proofs.GoingOn.{still_running}
use Rattle.ak_run.proofs.run.Run.ask.Goals as goal

pub ask-requires-clause-thread : goal.ask-requires-clause-thread
ask-requires-clause-thread g c =
    let r = c.args.self.now in
    let running = c.requires.running in
    main_has _ running.heads r c.args.looper c.index_mut.result.now c.requires.there (sym c.index_mut.ensures.value) running.stands ∙ sym r.main

pub returns-clause-did : goal.returns-clause-did
returns-clause-did g c =
    let r = c.args.self.now in
    let m = c.index_mut.result.now in
    let item = item_in c.args.envelope duty.None c.args.message.now in
    one_does r _ c.args.looper m _ c.requires.there (sym c.index_mut.ensures.value) refl refl (AskedSo c.args.looper item c.ask.result _) refl
    (asked_acts r _ c.args.looper m _ c.requires.there (sym c.index_mut.ensures.value) refl refl item c.ask.result (r.hands.thread ∙ r.main) (main_has _ c.requires.running.heads r c.args.looper m c.requires.there (sym c.index_mut.ensures.value) c.requires.running.stands) c.ask.ensures.answered)

pub returns-clause-answered : goal.returns-clause-answered
returns-clause-answered g c =
    let r = c.args.self.now in
    let m = c.index_mut.result.now in
    record {
      seat = m.door.port_seat;
      seat' = c.ask.new.seat;
      before = port_before r c.args.looper m c.requires.there (sym c.index_mut.ensures.value);
      after = port_after r.members.items c.args.looper _ c.requires.there;
      tells = c.ask.ensures.answered;
    }

pub returns-clause-running : goal.returns-clause-running
returns-clause-running g c =
    let r = c.args.self.now in
    let m = c.index_mut.result.now in
    let item = item_in c.args.envelope duty.None c.args.message.now in
    still_running r _ (ask_goes r _ c.args.looper m _ c.requires.there (sym c.index_mut.ensures.value) refl refl item c.ask.result (r.hands.thread ∙ r.main) (main_has _ c.requires.running.heads r c.args.looper m c.requires.there (sym c.index_mut.ensures.value) c.requires.running.stands) c.ask.ensures.answered
    (record { port = c.ask.ensures.seat; desk = keeps_itself m.door.desk_seat; desk_front = refl }) refl (record { apps = refl; shared = refl; joined = refl; ports = refl; desks = refl; slots = refl }) (record { keeps = c.ask.ensures.book_seat; known = c.ask.ensures.book_knows_still })) c.requires.running

pub returns-clause-count : goal.returns-clause-count
returns-clause-count g c = length-set c.args.self.now.members.items c.args.looper _
