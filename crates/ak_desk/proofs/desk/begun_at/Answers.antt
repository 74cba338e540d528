-- What is begun is routed, and came no further.
use Rattle.std.proofs.Common.{◌≡◌, List, [], None, ap, sym, subst, ◌∙◌}
use Rattle.ak_flatten.specs.Item.{IsItem, ItemData}
use Rattle.ak_flatten.specs.declared.item.Taken.{Taken}
use Rattle.ak_route.specs.Routing.{Routed}
use Rattle.ak_action.specs.declared.answer.Answer.{Answer}
use Rattle.ak_action.specs.declared.answer.Want.{Want}
use Rattle.ak_action.specs.declared.state.DeskState.{DeskState}
use Rattle.ak_desk.specs.declared.entry.EntryRoute.{EntryRoute}
use Rattle.ak_desk.specs.Desk.{BegunData, begun_at}
use Rattle.ak_desk.specs.Dispatch.{entry_route}
use Rattle.ak_desk.specs.Place.{routed_of}
use Rattle.ak_desk.specs.Task.{task_of}
use Rattle.ak_desk.proofs.desk.begun_at.Goals as goal

abbrev as_begun : Taken → ItemData → DeskState → EntryRoute → List Want → List Answer → BegunData
as_begun taken item before route asked heard =
    record { position = taken.position; item = item; before = before; route = route; asked = asked; heard = heard; came = None }

began : (s : DeskState) (taken : Taken) (r : Routed) (item : ItemData) (before : DeskState) (route : EntryRoute) (asked : List Want) (heard : List Answer) → item ≡ taken.item → before ≡ s → r ≡ routed_of s taken.item → route ≡ entry_route s r.route → asked ≡ [] → heard ≡ [] → as_begun taken item before route asked heard ≡ begun_at s taken
began s taken r item before route asked heard i b same at a h =
    ap (λ (x : ItemData). as_begun taken x before route asked heard) i
    ∙ ap (λ (x : DeskState). as_begun taken taken.item x route asked heard) b
    ∙ ap (λ (x : EntryRoute). as_begun taken taken.item s x asked heard) (at ∙ ap (λ (q : Routed). entry_route s q.route) same)
    ∙ ap (λ (x : List Want). as_begun taken taken.item s (entry_route s (routed_of s taken.item).route) x heard) a
    ∙ ap (λ (x : List Answer). as_begun taken taken.item s (entry_route s (routed_of s taken.item).route) [] x) h

pub returns-clause-seen : goal.returns-clause-seen
returns-clause-seen c =
    began c.args.state.now c.args.taken.now (record { route = c.routed-route.result; message = c.routed-route.new.message }) c.of.result.value c.of-2.result.value c.entry_route.result c.new-3.result c.new-4.result c.of.ensures c.of-2.ensures
    c.routed-route.ensures.routed c.entry_route.ensures c.new-3.ensures c.new-4.ensures

pub returns-clause-item : goal.returns-clause-item
returns-clause-item c = subst IsItem (sym c.of.ensures) c.popped-popped.ensures.is_item

pub returns-clause-task : goal.returns-clause-task
returns-clause-task c = c.in_ok-start.ensures.task ∙ ap (λ (r : Routed). task_of c.args.state.now.first r) c.routed-route.ensures.routed
