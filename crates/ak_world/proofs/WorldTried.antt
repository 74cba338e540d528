-- The steps of a world, tried: an ask of a looper that was started, from the making of its port to the filling of the slot, is a run of worlds; and entries that may not come are no step.
use Rattle.std.proofs.Common.{◌≡◌, ◌≢◌, ◌∙◌, ℕ, ◌<◌, ◌==◌, Bool, true, false, cond, List, [], ◌∷◌, ◌++◌, length, All, None, Some, refl, sym, ap, inl, ⊎_elim, arith}
use Rattle.std.proofs.lemmas.List.Elements.{All-head, All-nil}
use Rattle.ak_base.specs.declared.thread.ThreadId.{ThreadId}
use Rattle.ak_message.specs.Message.{MessageData}
use Rattle.ak_flatten.specs.declared.item.Duty.TheVariants as duty
use Rattle.ak_flatten.specs.Item.{ItemData}
use Rattle.ak_flatten.specs.Spelling.{spelling}
use Rattle.ak_roster.specs.declared.head.AppHead.{AppHead}
use Rattle.ak_roster.specs.Machine.{RosterState}
use Rattle.ak_port.specs.declared.port_entry.PortEvent.{PortEvent}
use Rattle.ak_port.specs.declared.port_entry.PortEvent.TheVariants as port_event
use Rattle.ak_port.specs.declared.reply_entry.ReplyEvent.{ReplyEvent}
use Rattle.ak_port.specs.declared.reply_entry.ReplyEvent.TheVariants as slot
use Rattle.ak_port.specs.PortMachine.{state_after, unmade}
use Rattle.ak_port.specs.Reply.{changed}
use Rattle.ak_action.specs.declared.answer.AnswerWord.{AnswerWord}
use Rattle.ak_action.specs.declared.state.DeskState.{DeskState}
use Rattle.ak_desk.specs.declared.entry.DeskEvent.{DeskEvent}
use Rattle.ak_desk.specs.declared.entry.DeskEvent.TheVariants as desk_event
use Rattle.ak_desk.specs.declared.entry.Edit.{Edit}
use Rattle.ak_desk.specs.declared.entry.EditAnswer.{EditAnswer}
use Rattle.ak_desk.specs.declared.entry.EntryRoute.{EntryRoute}
use Rattle.ak_desk.specs.declared.entry.EntryRoute.TheVariants as went
use Rattle.ak_desk.specs.Dispatch.{fitting}
use Rattle.ak_desk.specs.Machine.{EventStep, StepReplies, paired}
use Rattle.ak_journal.specs.declared.entry.Entry.{Entry}
use Rattle.ak_journal.specs.declared.entry.Event.TheVariants as event
use Rattle.ak_journal.specs.declared.entry.ObjectName.TheVariants as object
use Rattle.ak_world.specs.World.{Held, IsUnwritten, MayAct, ObjectStep, Objects, PaysLeft, PaysOwed, World, WorldRun, WorldStep, first_objects, handed, held, lacks_memory, no_work, put}

-- ---- what an entry of a dispatch is paired with
-- with the item, where there was memory to begin with it
paired_with : (route : EntryRoute) (words : List AnswerWord) (item : ItemData) → lacks_memory route words ≡ false → Some item ≡ paired route item
paired_with (went.To token) words item lacks_none = refl
paired_with went.Skipped words item lacks_none = refl
paired_with went.Dropped words item lacks_none = refl
paired_with went.NotUnderstood words item lacks_none = refl
paired_with (went.Forward looper) words item lacks_none = refl
paired_with went.NoMemory words item lacks_none = let clash : true ≡ false = lacks_none in absurd (cc clash)

-- so with no other
paired_alone : (route : EntryRoute) (a b : ItemData) → Some a ≡ paired route b → a ≡ b
paired_alone (went.To token) a b is = cc is
paired_alone went.Skipped a b is = cc is
paired_alone went.Dropped a b is = cc is
paired_alone went.NotUnderstood a b is = cc is
paired_alone (went.Forward looper) a b is = cc is
paired_alone went.NoMemory a b is = absurd (cc is)

-- one looper was started
module _ (heads : List AppHead) (short : List ℕ) (roster : RosterState) (started : length roster.loopers ≡ 1) (openings : ℕ → DeskState) (item : ItemData) where
  abbrev main_id : ThreadId
  main_id = record { 0 = 0 }

  abbrev looper_id : ThreadId
  looper_id = record { 0 = 10000 }

  -- the item of an ask
  abbrev asked : ItemData
  asked = record item { duty = duty.Slot 0 }

  abbrev at_port : ℕ → ThreadId → PortEvent → Entry
  at_port stamp by e = record { stamp = stamp; by = by; object = object.Port 0; event = event.Port e }

  abbrev at_book : ℕ → ThreadId → ReplyEvent → Entry
  at_book stamp by e = record { stamp = stamp; by = by; object = object.Book; event = event.Book e }

  abbrev at_desk : ℕ → ThreadId → DeskEvent → Entry
  at_desk stamp by e = record { stamp = stamp; by = by; object = object.Desk 0; event = event.Desk e }

  main_may : (o : Objects) → MayAct o 0
  main_may o looper is = absurd (omega arith)

  looper_may : (o : Objects) → o.roster ≡ roster → MayAct o 10000
  looper_may o same looper is = let many : length o.roster.loopers ≡ 1 = ap (λ (r : RosterState). length r.loopers) same ∙ started in omega arith

  abbrev port_after : Objects → PortEvent → Objects
  port_after o e = record o { ports = put 0 (state_after (o.ports 0) e) o.ports }

  abbrev book_after : Objects → ℕ → ReplyEvent → Objects
  book_after o by e = record o { slots = changed o.slots by e }

  -- ---- the port is made, a slot is opened, and the item is written
  abbrev world0 : World
  world0 = record { objects = record (first_objects openings) { roster = roster }; works = λ (looper : ℕ). no_work }

  abbrev world1 : World
  world1 = record world0 { objects = port_after world0.objects (port_event.Made 4 8) }

  abbrev world2 : World
  world2 = record world1 { objects = book_after world1.objects 0 (slot.Opened 0) }

  abbrev world3 : World
  world3 = record world2 { objects = port_after world2.objects (port_event.Written 0 asked) }

  step1 : WorldStep heads short world0 (at_port 1 main_id (port_event.Made 4 8)) world1
  step1 = record { item = None; object = record { may = main_may world0.objects; moves = record { step = record { after_making = refl; allowed = tt }; after = refl } }; works = refl }

  step2 : WorldStep heads short world1 (at_book 2 main_id (slot.Opened 0)) world2
  step2 = record { item = None; object = record { may = main_may world1.objects; moves = record { step = refl; after = refl } }; works = refl }

  unwritten : IsUnwritten world2 0
  unwritten looper = nothing_in (looper == 0)
    where
      nothing_in : (b : Bool) → All (λ (i : ItemData). i.duty ≡ duty.Slot 0 → ⊥) (cond b (state_after unmade (port_event.Made 4 8)) unmade).written
      nothing_in true = All-nil (λ (i : ItemData). i.duty ≡ duty.Slot 0 → ⊥)
      nothing_in false = All-nil (λ (i : ItemData). i.duty ≡ duty.Slot 0 → ⊥)

  step3 : WorldStep heads short world2 (at_port 3 main_id (port_event.Written 0 asked)) world3
  step3 = record {
    item = None;
    object = record { may = main_may world2.objects; moves = record { step = record { after_making = refl; allowed = (refl, omega arith, omega arith, refl) }; after = refl } };
    works = inl (record { opened = refl; unwritten = unwritten; same = refl });
  }

  -- ---- the looper takes it
  abbrev world4 : World
  world4 = record {
    objects = port_after world3.objects (port_event.Took 1);
    works = put 0 (record (world3.works 0) { hand = (world3.works 0).hand ++ handed world3 0 1 }) world3.works;
  }

  step4 : WorldStep heads short world3 (at_port 4 looper_id (port_event.Took 1)) world4
  step4 = record {
    item = None;
    object = record { may = looper_may world3.objects refl; moves = record { step = record { after_making = refl; allowed = (refl, refl, omega arith, omega arith) }; after = refl } };
    works = refl;
  }

  -- ---- it dispatches it, as the rules say, and fills the slot with the reply
  module _ (route : EntryRoute) (words : List AnswerWord) (quit : Bool) (leaves : DeskState) (reply : MessageData) where
    abbrev dispatched : DeskEvent
    dispatched = desk_event.Dispatched 0 route words quit

    abbrev text : List ℕ
    text = spelling (fitting reply)

    abbrev first : Held
    first = held (record { position = 0; item = asked })

    abbrev world5 : World
    world5 = record {
      objects = record world4.objects { desks = put 0 (record { state = leaves; dispatched = 1 }) world4.objects.desks };
      works = put 0 (record (world4.works 0) { hand = []; owed = Some (record { slot = 0; reply = Some reply }) }) world4.works;
    }

    abbrev world6 : World
    world6 = record { objects = book_after world5.objects 10000 (slot.Filled 0 text); works = put 0 (record (world5.works 0) { owed = None }) world5.works }

    -- and memory does not run out
    module _ (goes : EventStep 0 (openings 0) dispatched (Some asked) leaves) (replies : StepReplies (openings 0) route (Some asked) words (Some reply)) (lacks_none : lacks_memory route words ≡ false) where
      has_its_item : Some asked ≡ paired route asked
      has_its_item = paired_with route words asked lacks_none

      one_started : 0 < length roster.loopers
      one_started = omega (arith, started)

      step5 : WorldStep heads short world4 (at_desk 5 looper_id dispatched) world5
      step5 = record {
        item = Some asked;
        object = record { may = looper_may world4.objects refl; moves = record { started = one_started; item_is = (asked, refl, has_its_item); leaves = leaves; step = record { by = refl; event = goes }; after = refl } };
        works = record {
          first = first;
          others = [];
          oldest = refl;
          position_is = refl;
          item_is = has_its_item;
          owes_none = refl;
          reply = Some reply;
          replies = replies;
          lacks = λ lacks. let clash : true ≡ false = sym lacks ∙ lacks_none in absurd (cc clash);
          owes = refl;
        };
      }

      step6 : WorldStep heads short world5 (at_book 6 looper_id (slot.Filled 0 text)) world6
      step6 = record {
        item = None;
        object = record { may = looper_may world5.objects refl; moves = record { step = (0, refl); after = refl } };
        works = inl (record { looper = 0; is_by = refl; reply = reply; owes = refl; text_is = inl refl; owes_no_more = refl });
      }

      -- so all of it is a run
      abbrev told : List Entry
      told =
          at_port 1 main_id (port_event.Made 4 8) ∷ at_book 2 main_id (slot.Opened 0) ∷ at_port 3 main_id (port_event.Written 0 asked) ∷ at_port 4 looper_id (port_event.Took 1)
          ∷ at_desk 5 looper_id dispatched ∷ at_book 6 looper_id (slot.Filled 0 text) ∷ []

      an_ask_runs : WorldRun heads short world0 told world6
      an_ask_runs = (world1, step1, (world2, step2, (world3, step3, (world4, step4, (world5, step5, (world6, step6, refl))))))

    -- ---- what may not come
    -- a dispatch of another item than the one that the port accepted at its position
    not_of_another : (other : ItemData) → other ≢ asked → (o : Objects) → ObjectStep heads world4.objects (at_desk 5 looper_id dispatched) (Some other) o → ⊥
    not_of_another other ne o step =
        let it = step.moves.item_is in
        let accepted : Some asked ≡ Some it.0 = it.1 in
        let same : asked ≡ it.0 = cc accepted in
        ne (paired_alone route other it.0 it.2 ∙ sym same)

  -- an edit at the desk of a looper that was not started
  not_edited : (stamp : ℕ) (by : ThreadId) (edit : Edit) (answer : EditAnswer) (w : World)
      → WorldStep heads short world0 (record { stamp = stamp; by = by; object = object.Desk 1; event = event.Desk (desk_event.Edited edit answer) }) w → ⊥
  not_edited stamp by edit answer w step = let there : 1 < length roster.loopers = step.object.moves.started in absurd (omega (arith, there, started))

  -- a slot that was written is not cancelled
  written_not_cancelled : (w : World) → WorldStep heads short world3 (at_book 4 main_id (slot.Cancelled 0)) w → ⊥
  written_not_cancelled w step = All-head (λ (i : ItemData). i.duty ≡ duty.Slot 0 → ⊥) asked [] (step.works.0 0) refl

  -- nobody fills a slot that it does not owe
  not_filled_yet : (text : List ℕ) (w : World) → WorldStep heads short world3 (at_book 4 looper_id (slot.Filled 0 text)) w → ⊥
  not_filled_yet text w step =
      ⊎_elim
      (λ (pays : PaysOwed short world3 10000 0 text w.works). absurd (cc pays.owes))
      (λ (pays : PaysLeft world3 10000 0 text w.works). none_left pays.before pays.one pays.behind pays.left)
      step.works
    where
      none_left : (before : List Held) (one : Held) (behind : List Held) → [] ≡ before ++ one ∷ behind → ⊥
      none_left [] one behind e = absurd (cc e)
      none_left (x ∷ before) one behind e = absurd (cc e)

-- where no looper found no memory, none gives a dispatch up for want of it
module _ (heads : List AppHead) (stamp position : ℕ) (by : ThreadId) (looper : ℕ) (words : List AnswerWord) (quit : Bool) where
  abbrev gives_up : Entry
  gives_up = record { stamp = stamp; by = by; object = object.Desk looper; event = event.Desk (desk_event.Dispatched position went.NoMemory words quit) }

  not_given_up : (w w' : World) → WorldStep heads [] w gives_up w' → ⊥
  not_given_up w w' step = let among = step.works.lacks refl in let within = among.1 in absurd (omega arith)
