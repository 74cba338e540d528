-- Of a run of worlds the objects run by themselves.
use Rattle.std.proofs.Common.{ℕ, List, [], ◌∷◌, ap}
use Rattle.ak_roster.specs.declared.head.AppHead.{AppHead}
use Rattle.ak_journal.specs.declared.entry.Entry.{Entry}
use Rattle.ak_world.specs.World.{ObjectsRun, World, WorldRun, first_world}
use Rattle.ak_sequence.proofs.laws.merged_runs_objects.Goals as goal

objects_run : (heads : List AppHead) (short : List ℕ) (w : World) (entries : List Entry) (last : World) → WorldRun heads short w entries last → ObjectsRun heads w.objects entries last.objects
objects_run heads short w [] last is = ap (λ (v : World). v.objects) is
objects_run heads short w (entry ∷ entries) last run =
    let between : World = run.0 in
    (run.1.item, between.objects, run.1.object, objects_run heads short between entries last run.2)

pub returns : goal.returns
returns c = λ sessions heads short h run entries merged openings opened.
    let worlds = c.merged_runs_worlds.ensures sessions heads short h run entries merged openings opened in
    (worlds.0.objects, objects_run heads short (first_world openings) entries worlds.0 worlds.2)
