-- The entry of a dispatch: the first item in hand is dispatched at its position, and what is owed for it is owed with the reply that the rules make.
use Rattle.std.proofs.Common.{◌≡◌, ◌∙◌, ℕ, Bool, true, false, List, [], ◌∷◌, Option, None, Some, refl, sym, ap, subst, ⊎_elim}
use Rattle.std.specs.Prelude.{Contains, option_map}
use Rattle.ak_message.specs.Message.{MessageData}
use Rattle.ak_flatten.specs.declared.item.Duty.{Duty}
use Rattle.ak_flatten.specs.declared.item.Taken.{Taken}
use Rattle.ak_flatten.specs.Item.{ItemData}
use Rattle.ak_turn.specs.Noted.{Noted}
use Rattle.ak_route.specs.declared.outcome.Route.{Route}
use Rattle.ak_route.specs.declared.outcome.Route.TheVariants as route
use Rattle.ak_action.specs.declared.answer.Answer.{Answer}
use Rattle.ak_action.specs.declared.answer.AnswerWord.{AnswerWord}
use Rattle.ak_action.specs.declared.answer.Want.{Want}
use Rattle.ak_action.specs.declared.state.DeskState.{DeskState}
use Rattle.ak_desk.specs.declared.entry.DeskEvent.{DeskEvent}
use Rattle.ak_desk.specs.declared.entry.DeskEvent.TheVariants as desk_event
use Rattle.ak_desk.specs.declared.entry.EntryRoute.{EntryRoute}
use Rattle.ak_desk.specs.declared.entry.EntryRoute.TheVariants as went
use Rattle.ak_desk.specs.declared.made.Made.{Made}
use Rattle.ak_desk.specs.Desk.{dispatched_entry, given_up_entry}
use Rattle.ak_desk.specs.Dispatch.{entry_route, fitting, ran_out}
use Rattle.ak_desk.specs.Entry.{EntryData}
use Rattle.ak_desk.specs.Machine.{IsHistory, Replies, StepReplies, paired}
use Rattle.ak_desk.specs.Place.{routed_of}
use Rattle.ak_desk.specs.Replies.{none_reply}
use Rattle.ak_desk.proofs.Surface.{paired_routed}
use Rattle.ak_diary.specs.Looper.{LooperFacts, thread_of}
use Rattle.ak_diary.specs.Step.{at_desk}
use Rattle.ak_diary.specs.Turns.{Carried, ComesTo, GivenUp}
use Rattle.ak_headline.proofs.Surface.{same_last}
use Rattle.ak_world.specs.World.{Held, lacks_memory, owed_for}
use Rattle.ak_sequence.proofs.Doing.{DispatchesIt, Does, DoesAtDesk}
use Rattle.ak_sequence.proofs.Settling.{owing_it}

-- ---- what the entry tells
pub record HasCome (opening : DeskState) (taken : Taken) (made : Made) (x : Noted EntryData) : Type 0 where
  pub route : EntryRoute
  pub words : List AnswerWord
  pub quit : Bool
  pub event_is : x.entry.plain.event ≡ desk_event.Dispatched taken.position route words quit
  pub item_is : x.entry.item ≡ paired route taken.item
  pub meets : DeskState
  pub leads_there : IsHistory opening x.before meets
  pub reply : Option MessageData
  pub replies : StepReplies meets route (paired route taken.item) words reply
  pub made_is : made.reply ≡ option_map fitting reply
  pub lacks_is : lacks_memory route words ≡ made.no_memory

replies_there : (s : DeskState) (r : Route) (item : ItemData) (words : List AnswerWord) (reply : Option MessageData) → Replies s item words reply → StepReplies s (entry_route s r) (paired (entry_route s r) item) words reply
replies_there s (route.Deliver token t) item words reply h = h
replies_there s route.Skipped item words reply h = h
replies_there s route.Dropped item words reply h = h
replies_there s route.NotUnderstood item words reply h = h
replies_there s (route.Forward looper) item words reply h = h

-- only by its words
lacks_there : (s : DeskState) (r : Route) (words : List AnswerWord) → lacks_memory (entry_route s r) words ≡ ran_out words
lacks_there s (route.Deliver token t) words = refl
lacks_there s route.Skipped words = refl
lacks_there s route.Dropped words = refl
lacks_there s route.NotUnderstood words = refl
lacks_there s (route.Forward looper) words = refl

module _ (opening : DeskState) (taken : Taken) (asked : List Want) (heard : List Answer) (made : Made) (x : Noted EntryData) where
  carried_comes : Carried opening taken asked heard made x → HasCome opening taken made x
  carried_comes c =
      let d = c.dispatched in
      let is : x.entry ≡ dispatched_entry x.before c.clock taken.position taken.item c.before d.words d.quit = same_last x.before x.entry _ d.grown in
      record {
        route = entry_route c.before (routed_of c.before taken.item).route;
        words = d.words;
        quit = d.quit;
        event_is = ap (λ (e : EntryData). e.plain.event) is;
        item_is = ap (λ (e : EntryData). e.item) is ∙ sym (paired_routed c.before (routed_of c.before taken.item).route taken.item);
        meets = c.before;
        leads_there = d.history;
        reply = d.reply;
        replies = replies_there c.before (routed_of c.before taken.item).route taken.item d.words d.reply d.replies;
        made_is = ap (λ (k : Made). k.reply) d.made_is;
        lacks_is = lacks_there c.before (routed_of c.before taken.item).route d.words ∙ sym (ap (λ (k : Made). k.no_memory) d.made_is);
      }

  given_up_comes : GivenUp opening taken asked heard made x → HasCome opening taken made x
  given_up_comes c =
      let is : x.entry ≡ given_up_entry x.before c.clock taken.position = same_last x.before x.entry _ c.given_up.grown in
      record {
        route = went.NoMemory;
        words = [];
        quit = false;
        event_is = ap (λ (e : EntryData). e.plain.event) is;
        item_is = ap (λ (e : EntryData). e.item) is;
        meets = c.state;
        leads_there = c.given_up.history;
        reply = Some none_reply;
        replies = refl;
        made_is = ap (λ (k : Made). k.reply) c.given_up.made_is;
        lacks_is = sym (ap (λ (k : Made). k.no_memory) c.given_up.made_is);
      }

  pub has_come : ComesTo opening taken asked heard made x → HasCome opening taken made x
  has_come comes =
      ⊎_elim (λ (c : Carried opening taken asked heard made x). carried_comes c) (λ (c : GivenUp opening taken asked heard made x). given_up_comes c) comes

-- ---- it is dispatched
module _ (short : List ℕ) (openings : ℕ → DeskState) (l : LooperFacts) (opening_is : openings l.number ≡ l.desk) where
  pub dispatches_it : (taken : Taken) (owed : Duty) (others : List Held) (made : Made) (x : Noted EntryData) → (c : HasCome l.desk taken made x)
      → (made.no_memory ≡ true → Contains short l.number)
      → Does short openings (thread_of l) (owing_it (record { taken = taken; owing = owed } ∷ others) None) (at_desk l.number x) (owing_it others (owed_for owed c.reply))
  dispatches_it taken owed others made x c among =
      let first : Held = record { taken = taken; owing = owed } in
      let it : DispatchesIt short openings (thread_of l) (owing_it (first ∷ others) None) l.number taken.position c.route c.words x (owing_it others (owed_for owed c.reply)) =
      record {
        is_by = refl;
        first = first;
        others = others;
        oldest = refl;
        position_is = refl;
        item_is = c.item_is;
        owes_none = refl;
        meets = c.meets;
        leads = subst (λ (s : DeskState). IsHistory s x.before c.meets) (sym opening_is) c.leads_there;
        reply = c.reply;
        replies = subst (λ (item : Option ItemData). StepReplies c.meets c.route item c.words c.reply) (sym c.item_is) c.replies;
        lacks = λ lacks. among (sym c.lacks_is ∙ lacks);
        after = refl;
      } in
      subst (λ (e : DeskEvent). DoesAtDesk short openings (thread_of l) (owing_it (first ∷ others) None) l.number e x (owing_it others (owed_for owed c.reply))) (sym c.event_is) it
