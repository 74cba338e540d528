-- What is done for the wants of a message is done at other objects than the desk.
use Rattle.std.proofs.Common.{◌≡◌, ℕ, Bool, true, false, List, [], ◌∷◌, ◌++◌, Option, None, Some, ap, ◌∙◌, inl, inr}
use Rattle.std.proofs.lemmas.List.Concat.{flat_map-append}
use Rattle.ak_base.specs.declared.app_word.AppWord.{AppWord}
use Rattle.ak_message.specs.declared.address.Address.{Address}
use Rattle.ak_message.specs.Message.{MessageData}
use Rattle.ak_flatten.specs.declared.item.Duty.TheVariants as duty
use Rattle.ak_flatten.specs.Item.{ItemData}
use Rattle.ak_port.specs.declared.port_entry.PortEvent.{PortEvent}
use Rattle.ak_action.specs.declared.answer.Answer.{Answer}
use Rattle.ak_action.specs.declared.answer.Answer.TheVariants as answer
use Rattle.ak_action.specs.declared.answer.Want.{Want}
use Rattle.ak_action.specs.declared.answer.Want.TheVariants as want
use Rattle.ak_diary.specs.Looper.{LooperFacts, has_door}
use Rattle.ak_diary.specs.Step.{Step, desk_entries, desk_entry}
use Rattle.ak_diary.specs.Wants.{AsksInVain, AsksSo, Cancels, Converses, EntersPort, ForwardsSo, IsRefusedBy, OpensFor, PostsSo, Serves, ServesAll, ServesFind, Through, ThroughDoor, Withdraws, before_all, for_the_item, for_the_reply, forwarded_item, owed_to, sent_item}

module _ (number : ℕ) where
  -- none of the steps is at that desk
  abbrev IsElsewhere : List Step → Type 0
  IsElsewhere steps = desk_entries number steps ≡ []

  both : (steps more : List Step) → IsElsewhere steps → IsElsewhere more → IsElsewhere (steps ++ more)
  both steps more here there = flat_map-append (desk_entry number) steps more ∙ ap (λ l. l ++ desk_entries number more) here ∙ there

  as_both : (whole steps more : List Step) → whole ≡ steps ++ more → IsElsewhere steps → IsElsewhere more → IsElsewhere whole
  as_both whole steps more is here there = ap (desk_entries number) is ∙ both steps more here there

  nothing : (steps : List Step) → steps ≡ [] → IsElsewhere steps
  nothing steps is = ap (desk_entries number) is

  enters_port : (looper : ℕ) (e : PortEvent) (steps : List Step) → EntersPort looper e steps → IsElsewhere steps
  enters_port looper e steps h = ap (desk_entries number) h.is

  -- ---- each kind of want
  finds : (l : LooperFacts) (word : AppWord) (a : Answer) (steps : List Step) → ServesFind l word a steps → IsElsewhere steps
  finds l word answer.NoMemory steps h = nothing steps h
  finds l word (answer.Team team first) steps h = ap (desk_entries number) h.is
  finds l word answer.NoTeam steps h = ap (desk_entries number) h.is
  finds l word (answer.Written position) steps h = ap (desk_entries number) h.is
  finds l word answer.Full steps h = ap (desk_entries number) h.is
  finds l word answer.Closed steps h = ap (desk_entries number) h.is
  finds l word answer.Spent steps h = ap (desk_entries number) h.is
  finds l word answer.TooLong steps h = ap (desk_entries number) h.is
  finds l word (answer.Reply flat m) steps h = ap (desk_entries number) h.is

  posts : (to : Address) (m : MessageData) (item : ItemData) (a : Answer) (steps : List Step) → PostsSo to m item a steps → IsElsewhere steps
  posts to m item (answer.Written position) steps h = ap (desk_entries number) h.enters.is
  posts to m item answer.Full steps h = ap (desk_entries number) h.enters.is
  posts to m item answer.Closed steps h = ap (desk_entries number) h.enters.is
  posts to m item answer.Spent steps h = ap (desk_entries number) h.enters.is
  posts to m item answer.TooLong steps h = nothing steps h.1
  posts to m item answer.NoMemory steps h = nothing steps h
  posts to m item (answer.Team team first) steps h = absurd h
  posts to m item answer.NoTeam steps h = absurd h
  posts to m item (answer.Reply flat message) steps h = absurd h

  forwards : (looper : ℕ) (item : ItemData) (a : Answer) (steps : List Step) → ForwardsSo looper item a steps → IsElsewhere steps
  forwards looper item (answer.Written position) steps h = ap (desk_entries number) h.is
  forwards looper item answer.Closed steps h = ap (desk_entries number) h.is
  forwards looper item answer.Spent steps h = ap (desk_entries number) h.is
  forwards looper item answer.NoMemory steps h = nothing steps h
  forwards looper item answer.Full steps h = absurd h
  forwards looper item answer.TooLong steps h = absurd h
  forwards looper item (answer.Team team first) steps h = absurd h
  forwards looper item answer.NoTeam steps h = absurd h
  forwards looper item (answer.Reply flat message) steps h = absurd h

  refuses : (looper : ℕ) (e : Option PortEvent) (steps : List Step) → IsRefusedBy looper e steps → IsElsewhere steps
  refuses looper None steps h = nothing steps h
  refuses looper (Some e) steps h = enters_port looper e steps h

  cancels : (n : ℕ) (steps : List Step) → Cancels n steps → IsElsewhere steps
  cancels n steps (inl h) = ap (desk_entries number) h.is
  cancels n steps (inr h) = ap (desk_entries number) h.is

  withdraws : (to : Address) (e : Option PortEvent) (steps : List Step) → Withdraws to e steps → IsElsewhere steps
  withdraws to e steps h = ap (desk_entries number) h.is ∙ both h.refused h.closing (refuses to.looper e h.refused h.refused_is) (cancels h.slot h.closing h.closes)

  converses : (to : Address) (item : ItemData) (flat : List ℕ) (steps : List Step) → Converses to item flat steps → IsElsewhere steps
  converses to item flat steps h = ap (desk_entries number) h.is

  in_vain : (to : Address) (item : ItemData) (steps : List Step) → AsksInVain to item steps → IsElsewhere steps
  in_vain to item steps (before_all h) = nothing steps h
  in_vain to item steps (for_the_item h) = withdraws to None steps h
  in_vain to item steps (for_the_reply flat h) = converses to item flat steps h

  asks : (to : Address) (m : MessageData) (item : ItemData) (a : Answer) (steps : List Step) → AsksSo to m item a steps → IsElsewhere steps
  asks to m item (answer.Reply flat message) steps h = converses to item flat steps h.1.does
  asks to m item answer.Closed steps h = withdraws to _ steps h.does
  asks to m item answer.Spent steps h = withdraws to _ steps h.does
  asks to m item answer.TooLong steps h = nothing steps h.1
  asks to m item answer.NoMemory steps h = in_vain to item steps h
  asks to m item (answer.Written position) steps h = absurd h
  asks to m item answer.Full steps h = absurd h
  asks to m item (answer.Team team first) steps h = absurd h
  asks to m item answer.NoTeam steps h = absurd h

  -- ---- through a door
  opens : (l : LooperFacts) (so_far : List Step) (has : Bool) (looper : ℕ) (steps : List Step) → OpensFor l so_far has looper steps → IsElsewhere steps
  opens l so_far true looper steps h = nothing steps h
  opens l so_far false looper steps h = ap (desk_entries number) h.is

  module _ (l : LooperFacts) (so_far : List Step) (looper : ℕ) (P : List Step → Type 0) (elsewhere : (steps : List Step) → P steps → IsElsewhere steps) where
    through : (steps : List Step) → Through l so_far looper P steps → IsElsewhere steps
    through steps h = as_both steps h.door h.rest h.is (opens l so_far (has_door l so_far looper) looper h.door h.opens) (elsewhere h.rest h.then_does)

    through_door : (a : Answer) (steps : List Step) → ThroughDoor l so_far looper a P steps → IsElsewhere steps
    through_door answer.NoMemory steps (inl h) = nothing steps h.is
    through_door answer.NoMemory steps (inr h) = through steps h
    through_door (answer.Written position) steps h = through steps h
    through_door answer.Full steps h = through steps h
    through_door answer.Closed steps h = through steps h
    through_door answer.Spent steps h = through steps h
    through_door answer.TooLong steps h = through steps h
    through_door (answer.Team team first) steps h = through steps h
    through_door answer.NoTeam steps h = through steps h
    through_door (answer.Reply flat message) steps h = through steps h

  -- ---- all
  serves : (l : LooperFacts) (so_far : List Step) (item : ItemData) (w : Want) (a : Answer) (steps : List Step) → Serves l so_far item w a steps → IsElsewhere steps
  serves l so_far item (want.Find word) a steps h = finds l word a steps h
  serves l so_far item (want.Post to m back) a steps h =
      through_door l so_far to.looper (PostsSo to m (sent_item l.team to (owed_to back) m) a) (posts to m (sent_item l.team to (owed_to back) m) a) a steps h
  serves l so_far item (want.Ask to m) a steps h =
      through_door l so_far to.looper (AsksSo to m (sent_item l.team to duty.None m) a) (asks to m (sent_item l.team to duty.None m) a) a steps h
  serves l so_far item (want.Forward looper popped) a steps h =
      through_door l so_far looper (ForwardsSo looper (forwarded_item item popped) a) (forwards looper (forwarded_item item popped) a) a steps h
  serves l so_far item want.Done a steps h = absurd h

  pub serves_all : (l : LooperFacts) (so_far : List Step) (item : ItemData) (asked : List Want) (heard : List Answer) (steps : List Step) → ServesAll l so_far item asked heard steps → desk_entries number steps ≡ []
  serves_all l so_far item [] [] steps h = nothing steps h
  serves_all l so_far item [] (a ∷ heard) steps h = absurd h
  serves_all l so_far item (w ∷ asked) [] steps h = absurd h
  serves_all l so_far item (w ∷ asked) (a ∷ heard) steps h =
      as_both steps h.0 h.1 h.4 (serves l so_far item w a h.0 h.2) (serves_all l (so_far ++ h.0) item asked heard h.1 h.3)
