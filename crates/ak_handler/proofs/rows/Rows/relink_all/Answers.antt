-- One more row is relinked.
use Rattle.std.proofs.Common.{◌∙◌, ap}
use Rattle.ak_handler.specs.Changes.{relinked}
use Rattle.ak_handler.specs.Rows.{changed_at}
use Rattle.ak_handler.proofs.Relinking.{so_far_more}
use Rattle.ak_handler.proofs.rows.Rows.relink_all.Goals as goal

pub loop-place-preserved : goal.loop-place-preserved
loop-place-preserved g c =
    c.relink.ensures ∙ ap (λ list. changed_at list c.loop-place.place (relinked c.args.token)) c.loop-place.invariant ∙ so_far_more (relinked c.args.token) c.args.self.now c.loop-place.place
