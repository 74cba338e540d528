-- Main edits the handlers of that looper, and the run goes on.
use Rattle.std.proofs.Common.{refl, sym, ap, ◌∙◌, subst}
use Rattle.std.proofs.lemmas.List.{length-set}
use Rattle.ak_turn.specs.Called.{KeepsSeat}
use Rattle.ak_turn.proofs.Surface.{keeps_itself}
use Rattle.ak_run.proofs.Calls.{desk_after, desk_before, main_has}
use Rattle.ak_run.proofs.Edits.{edit_runs, edited_does}
use Rattle.ak_run.proofs.run.Run.edit.Goals as goal

pub edit_through-requires : goal.edit_through-requires
edit_through-requires g c =
    let r = c.args.self.now in
    let running = c.requires.running in
    record { thread = c.index_mut.result.now.door.thread ∙ main_has _ running.heads r c.args.looper c.index_mut.result.now c.requires.there (sym c.index_mut.ensures.value) running.stands ∙ sym r.main }

pub returns-clause-did : goal.returns-clause-did
returns-clause-did g c =
    let r = c.args.self.now in
    let m = c.index_mut.result.now in
    let main = m.door.thread ∙ main_has _ c.requires.running.heads r c.args.looper m c.requires.there (sym c.index_mut.ensures.value) c.requires.running.stands in
    edited_does r _ c.args.looper m _ c.requires.there (sym c.index_mut.ensures.value) refl refl refl (ap (λ s. s.front) c.edit_through.ensures.port_seat) main c.args.edit c.edit_through.result c.edit_through.ensures.answered c.edit_through.ensures.place

pub returns-clause-answered : goal.returns-clause-answered
returns-clause-answered g c =
    let r = c.args.self.now in
    let m = c.index_mut.result.now in
    record {
      seat = m.door.desk_seat;
      seat' = c.edit_through.new.door.desk_seat;
      before = desk_before r c.args.looper m c.requires.there (sym c.index_mut.ensures.value);
      after = desk_after r.members.items c.args.looper _ c.requires.there;
      answered = c.edit_through.ensures.answered;
    }

pub returns-clause-running : goal.returns-clause-running
returns-clause-running g c =
    let r = c.args.self.now in
    let m = c.index_mut.result.now in
    let there = sym c.index_mut.ensures.value in
    let e = c.edit_through in
    let main = m.door.thread ∙ main_has _ c.requires.running.heads r c.args.looper m c.requires.there there c.requires.running.stands in
    edit_runs r _ c.args.looper m e.new.door c.requires.there there refl refl refl (ap (λ s. s.front) e.ensures.port_seat) main c.args.edit e.result e.ensures.answered e.ensures.place
    (subst (KeepsSeat m.door.port_seat) (sym e.ensures.port_seat) (keeps_itself m.door.port_seat)) refl (record { apps = refl; shared = refl; joined = refl; ports = refl; desks = refl; slots = refl }) c.requires.running

pub returns-clause-count : goal.returns-clause-count
returns-clause-count g c = length-set c.args.self.now.members.items c.args.looper _
