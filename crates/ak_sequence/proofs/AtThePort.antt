-- What a thread does at the port of a looper, in a world.
use Rattle.std.proofs.Common.{◌≡◌, ◌≢◌, ◌∙◌, ℕ, ◌==◌, Bool, true, false, cond, List, [], ◌∷◌, ◌++◌, map, take, All, Option, None, Some, slice_get, refl, sym, ap, subst, ⊎_elim, inl, inr}
use Rattle.std.proofs.lemmas.List.Elements.{All-push}
use Rattle.ak_base.specs.Thread.{looper_thread}
use Rattle.ak_flatten.specs.declared.item.Duty.{Duty}
use Rattle.ak_flatten.specs.declared.item.Duty.TheVariants as duty
use Rattle.ak_flatten.specs.Item.{ItemData}
use Rattle.ak_port.specs.declared.port_entry.PortEntry.{PortEntry}
use Rattle.ak_port.specs.declared.port_entry.PortEvent.{PortEvent}
use Rattle.ak_port.specs.declared.port_entry.PortEvent.TheVariants as port_event
use Rattle.ak_port.specs.PortMachine.{PortState, pending_items, state_after, state_of}
use Rattle.ak_port.specs.Reply.{SlotData, open_stage, slot_of}
use Rattle.ak_action.specs.declared.state.DeskState.{DeskState}
use Rattle.ak_journal.specs.declared.entry.Event.TheVariants as event
use Rattle.ak_journal.specs.declared.entry.ObjectName.TheVariants as object
use Rattle.ak_world.specs.World.{Objects, Owed, Work, WorkAtPort, World, Writes, handed, held, put, settled}
use Rattle.ak_sequence.specs.Places.{IsSound}
use Rattle.ak_sequence.proofs.Doing.{AsksIt, Doing, DoesAtPort, SendsItOn, WritesIt}
use Rattle.ak_sequence.proofs.Standing.{Asked, HasDispatched, IsAsked, Stands, Unwritten, Went, hand_written, one_slot, put_others, put_own, same_others, same_own, written_not}

-- ---- the slots of asks behind an event
abbrev OwesOther : ℕ → ItemData → Type 0
OwesOther n item = item.duty ≢ duty.Slot n

module _ (o : Objects) (number : ℕ) (s : PortState) (n : ℕ) where
  written_at : (looper : ℕ) → Unwritten o n → All (OwesOther n) s.written → (b : Bool) → All (OwesOther n) (cond b s (o.ports looper)).written
  written_at looper was all true = all
  written_at looper was all false = was looper

  asked_put : (thread : ℕ) → IsAsked o thread n → All (OwesOther n) s.written → IsAsked (record o { ports = put number s o.ports }) thread n
  asked_put thread was all = record { opened = was.opened; unwritten = λ looper. written_at looper was.unwritten all (looper == number) }

module _ (o : Objects) (number thread : ℕ) (asking' : Option ℕ) where
  pub record AsksOn (e : PortEvent) : Type 0 where
    pub own : Asked (record o { ports = put number (state_after (o.ports number) e) o.ports }) thread asking'
    pub others : (other : ℕ) → other ≢ thread → (n : ℕ) → IsAsked o other n → IsAsked (record o { ports = put number (state_after (o.ports number) e) o.ports }) other n

module _ (o : Objects) (number thread : ℕ) (asking asking' : Option ℕ) (asked : Asked o thread asking) where
  asks_same : (e : PortEvent) → (state_after (o.ports number) e).written ≡ (o.ports number).written → asking' ≡ asking → AsksOn o number thread asking' e
  asks_same e is same =
      let each : (other n : ℕ) → IsAsked o other n → IsAsked (record o { ports = put number (state_after (o.ports number) e) o.ports }) other n = λ other n was.
      asked_put o number (state_after (o.ports number) e) n other was (subst (All (OwesOther n)) (sym is) (was.unwritten number)) in
      record { own = λ n it. each thread n (asked n (sym same ∙ it)); others = λ other ne n was. each other n was }

  module _ (position : ℕ) (item : ItemData) where
    asked_still : (other n : ℕ) → OwesOther n item → IsAsked o other n → IsAsked (record o { ports = put number (state_after (o.ports number) (port_event.Written position item)) o.ports }) other n
    asked_still other n ne was =
        asked_put o number (state_after (o.ports number) (port_event.Written position item)) n other was (All-push (OwesOther n) (o.ports number).written item (was.unwritten number) ne)

    -- the item owes none of them
    asks_apart : ((other n : ℕ) → IsAsked o other n → OwesOther n item) → asking' ≡ asking → AsksOn o number thread asking' (port_event.Written position item)
    asks_apart apart same = record {
      own = λ n it. let was : IsAsked o thread n = asked n (sym same ∙ it) in asked_still thread n (apart thread n was) was;
      others = λ other ne n was. asked_still other n (apart other n was) was;
    }

    -- the item owes that of the thread itself
    asks_itself : (n : ℕ) → item.duty ≡ duty.Slot n → IsAsked o thread n → asking' ≡ None → AsksOn o number thread asking' (port_event.Written position item)
    asks_itself n owes mine none = record {
      own = λ m it. let clash : None ≡ Some m = sym none ∙ it in absurd (cc clash);
      others = λ other ne m was. asked_still other m (λ it.
          let both : duty.Slot n ≡ duty.Slot m = sym owes ∙ it in
          let is : n ≡ m = cc both in
          let same : slot_of thread open_stage ≡ slot_of other open_stage = one_slot o.slots m (slot_of thread open_stage) (slot_of other open_stage) (ap (slice_get o.slots) (sym is) ∙ mine.opened) was.opened in
          ne (sym (ap (λ (s : SlotData). s.opener) same))) was;
    }

owes_none : (item : ItemData) (n : ℕ) → item.duty ≡ duty.None → OwesOther n item
owes_none item n is it = let clash : duty.None ≡ duty.Slot n = sym is ∙ it in cc clash

-- ---- the step
module _ (short : List ℕ) (openings : ℕ → DeskState) (w : World) (sound : IsSound w) (thread : ℕ) (d d' : Doing) (stands : Stands w thread d) (number : ℕ) where
  abbrev after : PortEvent → Objects
  after e = record w.objects { ports = put number (state_after (w.objects.ports number) e) w.objects.ports }

  abbrev PortWent : PortEvent → Type 0
  PortWent e = Went short w thread d' (after e) None (object.Port number) (event.Port e)

  still : (e : PortEvent) (looper : ℕ) → HasDispatched w.objects looper → HasDispatched (after e) looper
  still e looper has = has

  -- ---- an item is written
  module _ (position : ℕ) (item : ItemData) where
    abbrev e : PortEvent
    e = port_event.Written position item

    by_duty : (k : Duty) → item.duty ≡ k → (works : ℕ → Work) → Writes w thread item k works → Writes w thread item item.duty works
    by_duty k is works writes = subst (λ (z : Duty). Writes w thread item z works) (sym is) writes

    asks_went : (n : ℕ) → item.duty ≡ duty.Slot n → AsksIt short openings thread d n d' → PortWent e
    asks_went n is does =
        let mine = stands.asked n does.0 in
        let asks = asks_itself w.objects number thread d.asking d'.asking stands.asked position item n is mine (ap (λ (x : Doing). x.asking) does.1) in
        record {
          works = w.works;
          does = by_duty (duty.Slot n) is w.works (inl (record { opened = mine.opened; unwritten = mine.unwritten; same = refl }));
          own = same_own w thread d d' (after e) stands (still e) asks.own asks.others (ap (λ (x : Doing). x.work) does.1);
          others = same_others w thread d d' (after e) stands (still e) asks.own asks.others;
        }

    sends_went : (n : ℕ) → item.duty ≡ duty.Slot n → SendsItOn short openings thread d n item d' → PortWent e
    sends_went n is sends =
        let same : w.works sends.looper ≡ d.work = stands.works sends.looper sends.is_by in
        let oldest = ap (λ (x : Work). x.hand) same ∙ sends.oldest in
        let written = hand_written w sound n sends.looper sends.first sends.others oldest sends.owes in
        let asks = asks_apart w.objects number thread d.asking d'.asking stands.asked position item (λ other m was it.
        let both : duty.Slot m ≡ duty.Slot n = sym it ∙ is in
        let m_is : m ≡ n = cc both in
        written_not w sound n m other written was m_is) (ap (λ (x : Doing). x.asking) sends.after) in
        let z : Work = record (w.works sends.looper) { hand = settled sends.first ∷ sends.others } in
        let z_is : z ≡ d'.work = ap (λ (x : Work). record x { hand = settled sends.first ∷ sends.others }) same ∙ sym (ap (λ (x : Doing). x.work) sends.after) in
        let past : (one : Owed) → d'.work.owed ≡ Some one → HasDispatched (after e) sends.looper = λ one it. stands.past sends.looper sends.is_by one (sym (ap (λ (x : Doing). x.work.owed) sends.after) ∙ it) in
        record {
          works = put sends.looper z w.works;
          does = by_duty (duty.Slot n) is (put sends.looper z w.works) (inr (record {
            looper = sends.looper;
            is_by = sends.is_by;
            first = sends.first;
            others = sends.others;
            oldest = oldest;
            owes = sends.owes;
            popped = sends.popped;
            more = sends.more;
            item_is = sends.item_is;
            owes_no_more = refl;
          }));
          own = put_own w thread d d' (after e) stands (still e) asks.own asks.others sends.looper sends.is_by z z_is past;
          others = put_others w thread d d' (after e) stands (still e) asks.own asks.others sends.looper sends.is_by z z_is past;
        }

    free_went : (k : Duty) → item.duty ≡ k → ((n : ℕ) → k ≢ duty.Slot n) → Writes w thread item k w.works → d' ≡ d → PortWent e
    free_went k is free writes same =
        let asks = asks_apart w.objects number thread d.asking d'.asking stands.asked position item (λ other m was it. free m (sym is ∙ it)) (ap (λ (x : Doing). x.asking) same) in
        record {
          works = w.works;
          does = by_duty k is w.works writes;
          own = same_own w thread d d' (after e) stands (still e) asks.own asks.others (ap (λ (x : Doing). x.work) same);
          others = same_others w thread d d' (after e) stands (still e) asks.own asks.others;
        }

    written_went : (k : Duty) → item.duty ≡ k → WritesIt short openings thread d item k d' → PortWent e
    written_went (duty.Slot n) is does = ⊎_elim (λ (asks : AsksIt short openings thread d n d'). asks_went n is asks) (λ (sends : SendsItOn short openings thread d n item d'). sends_went n is sends) does
    written_went duty.None is does = free_went duty.None is (λ n it. cc it) refl does
    written_went (duty.Back to) is does = free_went (duty.Back to) is (λ n it. cc it) refl does

  -- ---- nothing is written
  quiet_went : (e : PortEvent) → (state_after (w.objects.ports number) e).written ≡ (w.objects.ports number).written → WorkAtPort w thread number e w.works → d' ≡ d → PortWent e
  quiet_went e is works same =
      let asks = asks_same w.objects number thread d.asking d'.asking stands.asked e is (ap (λ (x : Doing). x.asking) same) in
      record {
        works = w.works;
        does = works;
        own = same_own w thread d d' (after e) stands (still e) asks.own asks.others (ap (λ (x : Doing). x.work) same);
        others = same_others w thread d d' (after e) stands (still e) asks.own asks.others;
      }

  taken_went : (e : PortEvent) → (state_after (w.objects.ports number) e).written ≡ (w.objects.ports number).written → thread ≡ looper_thread number
      → (z : Work) → z ≡ d'.work → d'.asking ≡ d.asking → d'.work.owed ≡ d.work.owed → WorkAtPort w thread number e (put number z w.works) → PortWent e
  taken_went e is is_by z z_is asking owed works =
      let asks = asks_same w.objects number thread d.asking d'.asking stands.asked e is asking in
      let past : (one : Owed) → d'.work.owed ≡ Some one → HasDispatched (after e) number = λ one it. stands.past number is_by one (sym owed ∙ it) in
      record {
        works = put number z w.works;
        does = works;
        own = put_own w thread d d' (after e) stands (still e) asks.own asks.others number is_by z z_is past;
        others = put_others w thread d d' (after e) stands (still e) asks.own asks.others number is_by z z_is past;
      }

  module _ (before : List PortEntry) (told : w.objects.ports number ≡ state_of before) where
    -- so many of the pending items go to the hand
    abbrev more_in_hand : ℕ → Work → Work
    more_in_hand count x = record x { hand = x.hand ++ handed w number count }

    -- or they are left, behind what was in hand
    abbrev all_left : ℕ → Work → Work
    all_left count x = record x { hand = []; left = x.hand ++ handed w number count }

    pub port_went : (e : PortEvent) → DoesAtPort short openings thread d number before e d' → PortWent e
    port_went (port_event.Made capacity life) does = quiet_went (port_event.Made capacity life) refl refl does
    port_went (port_event.Written position item) does = written_went position item item.duty refl does
    port_went port_event.Full does = quiet_went port_event.Full refl refl does
    port_went port_event.Refused does = quiet_went port_event.Refused refl refl does
    port_went port_event.Spent does = quiet_went port_event.Spent refl refl does
    port_went (port_event.Took count) does =
        let same : more_in_hand count (w.works number) ≡ d'.work =
        ap (more_in_hand count) (stands.works number does.0)
        ∙ ap (λ (s : PortState). record d.work { hand = d.work.hand ++ map held (take count (pending_items s)) }) told
        ∙ sym (ap (λ (x : Doing). x.work) does.1) in
        taken_went (port_event.Took count) refl does.0 (more_in_hand count (w.works number)) same (ap (λ (x : Doing). x.asking) does.1) (ap (λ (x : Doing). x.work.owed) does.1) refl
    port_went (port_event.Rest count) does =
        let same : all_left count (w.works number) ≡ d'.work =
        ap (all_left count) (stands.works number does.0)
        ∙ ap (λ (s : PortState). record d.work { hand = []; left = d.work.hand ++ map held (take count (pending_items s)) }) told
        ∙ sym (ap (λ (x : Doing). x.work) does.1) in
        taken_went (port_event.Rest count) refl does.0 (all_left count (w.works number)) same (ap (λ (x : Doing). x.asking) does.1) (ap (λ (x : Doing). x.work.owed) does.1) refl
    port_went port_event.Shut does = quiet_went port_event.Shut refl refl does
