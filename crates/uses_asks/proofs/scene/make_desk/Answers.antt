-- What a seat knows of a desk on which nothing was done.
use Rattle.std.proofs.Common.{◌∙◌, ap, subst, sym}
use Rattle.ak_base.specs.Thread.{looper_thread}
use Rattle.ak_desk.specs.Desk.{DeskData}
use Rattle.ak_desk.specs.Shared.{DeskSeat}
use Rattle.uses_asks.specs.Serving.{IsOfLooper}
use Rattle.uses_asks.specs.declared.scene.TheConstants.{LOOPER}
use Rattle.uses_asks.proofs.scene.make_desk.Goals as goal

pub returns-clause-looper : goal.returns-clause-looper
returns-clause-looper c = subst (IsOfLooper LOOPER) (sym c.in_ok-lock.ensures) (sym (ap looper_thread c.in_ok-desk.ensures.looper))

pub returns-clause-nothing : goal.returns-clause-nothing
returns-clause-nothing c = ap (λ (s : DeskSeat). s.front) c.in_ok-lock.ensures ∙ ap (λ (d : DeskData). d.entries) c.in_ok-desk.ensures.opened
