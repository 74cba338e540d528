-- What a thread does at the desk of a looper, in a world.
use Rattle.std.proofs.Common.{◌≡◌, ◌≢◌, ◌∙◌, ℕ, suc, ◌+◌, ◌==◌, Bool, true, false, cond, List, refl, sym, ap, subst, arith, eq-eqb, eqb-true}
use Rattle.ak_base.specs.Thread.{looper_thread}
use Rattle.ak_turn.specs.Noted.{note}
use Rattle.ak_action.specs.declared.answer.AnswerWord.{AnswerWord}
use Rattle.ak_action.specs.declared.state.DeskState.{DeskState}
use Rattle.ak_desk.specs.declared.entry.DeskEvent.{DeskEvent}
use Rattle.ak_desk.specs.declared.entry.DeskEvent.TheVariants as desk_event
use Rattle.ak_desk.specs.declared.entry.EntryRoute.{EntryRoute}
use Rattle.ak_desk.specs.Entry.{EntryData}
use Rattle.ak_desk.specs.Machine.{IsHistory, StepReplies, counted}
use Rattle.ak_journal.specs.declared.entry.Event.TheVariants as event
use Rattle.ak_journal.specs.declared.entry.ObjectName.TheVariants as object
use Rattle.ak_world.specs.World.{DeskPlace, Objects, Work, World, owed_for, put}
use Rattle.ak_sequence.proofs.Doing.{Doing, DoesAtDesk, DispatchesIt}
use Rattle.ak_sequence.proofs.Standing.{Asked, HasDispatched, IsAsked, Stands, Went, put_others, put_own, same_others, same_own}

-- ---- dispatches are counted
counts_on : (n : ℕ) (e : DeskEvent) (position : ℕ) → n ≡ suc position → (place : ℕ) × (counted n e ≡ suc place)
counts_on n (desk_event.Dispatched position route words quit) place is = (n, omega arith)
counts_on n (desk_event.Edited edit answer) place is = (place, is)

module _ (o : Objects) (number : ℕ) (e : DeskEvent) (leaves : DeskState) where
  abbrev behind : Objects
  behind = record o { desks = put number (record { state = leaves; dispatched = counted (o.desks number).dispatched e }) o.desks }

  still_at : (looper : ℕ) (b : Bool) → (looper == number) ≡ b → HasDispatched o looper
      → (position : ℕ) × ((cond b (record { state = leaves; dispatched = counted (o.desks number).dispatched e }) (o.desks looper)).dispatched ≡ suc position)
  still_at looper true is has =
      let here = subst (HasDispatched o) (eqb-true looper number is) has in
      counts_on (o.desks number).dispatched e here.0 here.1
  still_at looper false is has = has

  still : (looper : ℕ) → HasDispatched o looper → HasDispatched behind looper
  still looper has = still_at looper (looper == number) refl has

  asked_elsewhere : (thread n : ℕ) → IsAsked o thread n → IsAsked behind thread n
  asked_elsewhere thread n was = record { opened = was.opened; unwritten = was.unwritten }

module _ (short : List ℕ) (openings : ℕ → DeskState) (w : World) (thread : ℕ) (d d' : Doing) (stands : Stands w thread d) (number : ℕ) (before : List EntryData) (x : EntryData) (leaves : DeskState) where
  abbrev DeskWent : DeskEvent → Type 0
  DeskWent e = Went short w thread d' (behind w.objects number e leaves) x.item (object.Desk number) (event.Desk e)

  asks : (e : DeskEvent) → d'.asking ≡ d.asking → Asked (behind w.objects number e leaves) thread d'.asking
  asks e same n it = asked_elsewhere w.objects number e leaves thread n (stands.asked n (sym same ∙ it))

  keeps : (e : DeskEvent) (other : ℕ) → other ≢ thread → (n : ℕ) → IsAsked w.objects other n → IsAsked (behind w.objects number e leaves) other n
  keeps e other ne n was = asked_elsewhere w.objects number e leaves other n was

  module _ (position : ℕ) (route : EntryRoute) (words : List AnswerWord) (quit : Bool) where
    abbrev dispatched : DeskEvent
    dispatched = desk_event.Dispatched position route words quit

    -- at the looper's own desk, one more was dispatched
    one_more : HasDispatched (behind w.objects number dispatched leaves) number
    one_more =
        let place : DeskPlace = record { state = leaves; dispatched = (w.objects.desks number).dispatched + 1 } in
        let here : cond (number == number) place (w.objects.desks number) ≡ place = ap (λ b. cond b place (w.objects.desks number)) (eq-eqb number number refl) in
        let more : (w.objects.desks number).dispatched + 1 ≡ suc (w.objects.desks number).dispatched = omega arith in
        ((w.objects.desks number).dispatched, ap (λ (p : DeskPlace). p.dispatched) here ∙ more)

    dispatched_went : DispatchesIt short openings thread d number position route words (note before x) d' → ((meets : DeskState) → IsHistory (openings number) before meets → meets ≡ (w.objects.desks number).state) → DeskWent dispatched
    dispatched_went it told =
        let same : w.works number ≡ d.work = stands.works number it.is_by in
        let owing = owed_for it.first.owing it.reply in
        let z : Work = record (w.works number) { hand = it.others; owed = owing } in
        let z_is : z ≡ d'.work = ap (λ (y : Work). record y { hand = it.others; owed = owing }) same ∙ sym (ap (λ (y : Doing). y.work) it.after) in
        let own = asks dispatched (ap (λ (y : Doing). y.asking) it.after) in
        let on = still w.objects number dispatched leaves in
        record {
          works = put number z w.works;
          does = record {
            first = it.first;
            others = it.others;
            oldest = ap (λ (y : Work). y.hand) same ∙ it.oldest;
            position_is = it.position_is;
            item_is = it.item_is;
            owes_none = ap (λ (y : Work). y.owed) same ∙ it.owes_none;
            reply = it.reply;
            replies = subst (λ (s : DeskState). StepReplies s route x.item words it.reply) (told it.meets it.leads) it.replies;
            lacks = it.lacks;
            owes = refl;
          };
          own = put_own w thread d d' (behind w.objects number dispatched leaves) stands on own (keeps dispatched) number it.is_by z z_is (λ one owes. one_more);
          others = put_others w thread d d' (behind w.objects number dispatched leaves) stands on own (keeps dispatched) number it.is_by z z_is (λ one owes. one_more);
        }

  pub desk_went : (thread ≡ looper_thread number → (meets : DeskState) → IsHistory (openings number) before meets → meets ≡ (w.objects.desks number).state)
      → (e : DeskEvent) → DoesAtDesk short openings thread d number e (note before x) d' → DeskWent e
  desk_went told (desk_event.Dispatched position route words quit) it = dispatched_went position route words quit it (told it.is_by)
  desk_went told (desk_event.Edited edit answer) same =
      let e = desk_event.Edited edit answer in
      let own = asks e (ap (λ (y : Doing). y.asking) same) in
      let on = still w.objects number e leaves in
      record {
        works = w.works;
        does = refl;
        own = same_own w thread d d' (behind w.objects number e leaves) stands on own (keeps e) (ap (λ (y : Doing). y.work) same);
        others = same_others w thread d d' (behind w.objects number e leaves) stands on own (keeps e);
      }
