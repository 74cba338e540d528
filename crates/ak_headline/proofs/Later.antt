-- A looper's desk keeps the looper's number, and a message that is sent on goes to a looper of a greater one, with as many of its specifiers popped or more.
use Rattle.std.proofs.Common.{◌≡◌, ℕ, ◌+◌, ◌<◌, ◌≤◌, Bool, true, false, cond, List, [], ◌∷◌, length, Option, None, Some, refl, sym, ap, ◌∙◌, arith, eqb-true}
use Rattle.ak_message.specs.declared.address.Target.{Target}
use Rattle.ak_message.specs.Message.{MessageData}
use Rattle.ak_flatten.specs.Item.{ItemData, message_of}
use Rattle.ak_filter.specs.declared.filter.Filter.{Filter}
use Rattle.ak_handler.specs.Handlers.{HandlersData}
use Rattle.ak_property.specs.HandlerRow.{RowData}
use Rattle.ak_route.specs.declared.outcome.Route.TheVariants as route
use Rattle.ak_route.specs.Filtering.{Origin, Passing, passing_after, settle}
use Rattle.ak_route.specs.Handlers.{first_target, handlers_seen}
use Rattle.ak_route.specs.Laws.{ForwardIsLater, ResolvingOnlyPops}
use Rattle.ak_route.specs.Resolving.{Destination, at_handler, at_looper, nowhere, resolve}
use Rattle.ak_route.specs.Routing.{delivered, filtered, from_target}
use Rattle.ak_action.specs.declared.answer.AnswerWord.{AnswerWord}
use Rattle.ak_action.specs.declared.state.DeskState.{DeskState}
use Rattle.ak_action.specs.Row.{row_data}
use Rattle.ak_desk.specs.declared.entry.DeskEvent.{DeskEvent}
use Rattle.ak_desk.specs.declared.entry.DeskEvent.TheVariants as event
use Rattle.ak_desk.specs.declared.entry.EntryRoute.{EntryRoute}
use Rattle.ak_desk.specs.declared.entry.EntryRoute.TheVariants as went
use Rattle.ak_desk.specs.Entry.{EntryData}
use Rattle.ak_desk.specs.Machine.{DispatchStep, Dispatches, EventStep, Replays, counted}
use Rattle.ak_desk.specs.Place.{is_local, is_own, loopers_of, routed_of}
use Rattle.ak_headline.proofs.OwnWants.{looper_stays}

-- ---- the number
dispatch_keeps : (s : DeskState) (item : ItemData) (words : List AnswerWord) (quit : Bool) (t : DeskState) → Dispatches s item words quit t → t.looper ≡ s.looper
dispatch_keeps s item words quit t d = ap (λ (x : DeskState). x.looper) (sym d.state_is) ∙ looper_stays s (routed_of s item).message (routed_of s item).route d.answers d.memory

step_keeps : (s : DeskState) (r : EntryRoute) (item : Option ItemData) (words : List AnswerWord) (quit : Bool) (t : DeskState) → DispatchStep s r item words quit t → t.looper ≡ s.looper
step_keeps s went.NoMemory None words quit t d = ap (λ (x : DeskState). x.looper) d.1.1
step_keeps s (went.To token) None words quit t d = absurd d
step_keeps s went.Skipped None words quit t d = absurd d
step_keeps s went.Dropped None words quit t d = absurd d
step_keeps s went.NotUnderstood None words quit t d = absurd d
step_keeps s (went.Forward looper) None words quit t d = absurd d
step_keeps s went.NoMemory (Some item) words quit t d = absurd d
step_keeps s (went.To token) (Some item) words quit t d = dispatch_keeps s item words quit t d.1
step_keeps s went.Skipped (Some item) words quit t d = dispatch_keeps s item words quit t d.1
step_keeps s went.Dropped (Some item) words quit t d = dispatch_keeps s item words quit t d.1
step_keeps s went.NotUnderstood (Some item) words quit t d = dispatch_keeps s item words quit t d.1
step_keeps s (went.Forward looper) (Some item) words quit t d = dispatch_keeps s item words quit t d.1

event_keeps : (n : ℕ) (s : DeskState) (e : DeskEvent) (item : Option ItemData) (t : DeskState) → EventStep n s e item t → t.looper ≡ s.looper
event_keeps n s (event.Dispatched position r words quit) item t step = step_keeps s r item words quit t step.1
event_keeps n s (event.Edited edit answer) item t step = ap (λ (x : DeskState). x.looper) step.2

pub number_stays : (looper n : ℕ) (s : DeskState) (entries : List EntryData) (t : DeskState) → Replays looper n s entries t → t.looper ≡ s.looper
number_stays looper n s [] t e = ap (λ (x : DeskState). x.looper) e
number_stays looper n s (x ∷ entries) t (u, (step, rest)) = number_stays looper (counted n x.plain.event) u entries t rest ∙ event_keeps n s x.plain.event x.item u step.event

-- ---- where it goes
-- only an application's own looper sends on
own_first : (s : DeskState) (b : Bool) (i : ℕ) → is_own s ≡ b → i < length (cond b s.names []) → s.looper ≡ s.first
own_first s true i is lt = eqb-true s.looper s.first is
own_first s false i is lt = absurd (omega (arith, lt))

pub goes_up : ForwardIsLater → (s : DeskState) (item : ItemData) (i : ℕ) → (routed_of s item).route ≡ route.Forward i → s.looper < s.first + i
goes_up later s item i e =
    let far = later (handlers_seen row_data s.handlers) (loopers_of s) (record { local = is_local s item; dropped = item.dropped }) s.common (message_of item) item.target i e in
    let first = own_first s (is_own s) i refl far.1 in
    omega (arith, first, far.0)

-- ---- what is popped
module _ (s : HandlersData RowData) (loopers : List (List ℕ)) where
  passing_pops : (m : MessageData) (p : Option Passing) → (delivered s loopers m p).message.popped ≡ m.popped
  passing_pops m None = refl
  passing_pops m (Some p) = refl

  place_pops : (o : Origin) (common : List Filter) (m : MessageData) (place : Destination) → (filtered s loopers o common (record { place = place; message = m })).message.popped ≡ m.popped
  place_pops o common m (at_handler token) = passing_pops m (passing_after (settle s o common (record { target = token; what = m.what })))
  place_pops o common m (at_looper i) = refl
  place_pops o common m nowhere = refl

  target_pops : ResolvingOnlyPops → (o : Origin) (common : List Filter) (m : MessageData) (t : Target) (first : Option ℕ) → m.popped ≤ (from_target s loopers o common m t first).message.popped
  target_pops law o common m t None = omega arith
  target_pops law o common m t (Some first) =
      let to = resolve s loopers m t first in
      omega (arith, (law s loopers m t first).at_least, place_pops o common to.message to.place)

pub pops_more : ResolvingOnlyPops → (s : DeskState) (item : ItemData) → item.popped ≤ (routed_of s item).message.popped
pops_more law s item =
    target_pops (handlers_seen row_data s.handlers) (loopers_of s) law (record { local = is_local s item; dropped = item.dropped }) s.common (message_of item) item.target
    (first_target (handlers_seen row_data s.handlers) item.target)
