-- What a thread does at the reply book, in a world.
use Rattle.std.proofs.Common.{◌≡◌, ◌≢◌, ◌∙◌, ℕ, Bool, true, false, List, [], ◌∷◌, ◌++◌, length, Option, None, Some, slice_get, refl, sym, ap, subst, ⊎_elim, inl, inr}
use Rattle.ak_port.specs.declared.reply_entry.ReplyEvent.{ReplyEvent}
use Rattle.ak_port.specs.declared.reply_entry.ReplyEvent.TheVariants as slot
use Rattle.ak_port.specs.Reply.{BookStep, SlotData, cancelled_stage, changed, filled_stage, open_stage, slot_of, taken_stage}
use Rattle.ak_port.proofs.Surface.{get_last}
use Rattle.ak_action.specs.declared.state.DeskState.{DeskState}
use Rattle.ak_journal.specs.declared.entry.Event.TheVariants as event
use Rattle.ak_journal.specs.declared.entry.ObjectName.TheVariants as object
use Rattle.ak_world.specs.World.{Held, Objects, Owed, Work, World, put, settled}
use Rattle.ak_sequence.specs.Places.{IsSound, IsWritten}
use Rattle.ak_sequence.proofs.Doing.{Doing, DoesAtBook, FillsLeft, FillsOwed}
use Rattle.ak_sequence.proofs.Standing.{Asked, HasDispatched, IsAsked, Stands, Went, left_written, new_unwritten, one_slot, opened_more, owed_written, put_others, put_own, same_others, same_own, staged_other, written_not}

-- ---- the slots of asks behind an event
module _ (o : Objects) (thread : ℕ) (asking' : Option ℕ) where
  pub record AsksOn (e : ReplyEvent) : Type 0 where
    pub own : Asked (record o { slots = changed o.slots thread e }) thread asking'
    pub others : (other : ℕ) → other ≢ thread → (n : ℕ) → IsAsked o other n → IsAsked (record o { slots = changed o.slots thread e }) other n

open_not_filled : (text : List ℕ) → open_stage ≢ filled_stage text
open_not_filled text e = cc e

module _ (w : World) (sound : IsSound w) (thread : ℕ) (asking asking' : Option ℕ) (asked : Asked w.objects thread asking) where
  asks_opened : (n : ℕ) → n ≡ length w.objects.slots → asking' ≡ Some n → AsksOn w.objects thread asking' (slot.Opened n)
  asks_opened n is asks = record {
    own = λ m e.
        let same : Some n ≡ Some m = sym asks ∙ e in
        let m_is : n ≡ m = cc same in
        subst (IsAsked (record w.objects { slots = changed w.objects.slots thread (slot.Opened n) }) thread) m_is (record {
          opened = ap (λ (k : ℕ). slice_get (w.objects.slots ++ slot_of thread open_stage ∷ []) k) is ∙ get_last w.objects.slots (slot_of thread open_stage);
          unwritten = new_unwritten w sound n is;
        });
    others = λ other ne m was. opened_more w.objects other m was (slot_of thread open_stage);
  }

  asks_filled : (n : ℕ) (text : List ℕ) → IsWritten w n → asking' ≡ asking → AsksOn w.objects thread asking' (slot.Filled n text)
  asks_filled n text written same = record {
    own = λ m e. let was : IsAsked w.objects thread m = asked m (sym same ∙ e) in staged_other w.objects thread m was n (filled_stage text) (written_not w sound n m thread written was);
    others = λ other ne m was. staged_other w.objects other m was n (filled_stage text) (written_not w sound n m other written was);
  }

  asks_cancelled : (n : ℕ) → slice_get w.objects.slots n ≡ Some (slot_of thread open_stage) → asking' ≡ None → AsksOn w.objects thread asking' (slot.Cancelled n)
  asks_cancelled n there none = record {
    own = λ m e. let clash : None ≡ Some m = sym none ∙ e in absurd (cc clash);
    others = λ other ne m was. staged_other w.objects other m was n cancelled_stage (λ e.
        let same : slot_of other open_stage ≡ slot_of thread open_stage =
        one_slot w.objects.slots m (slot_of other open_stage) (slot_of thread open_stage) was.opened (ap (slice_get w.objects.slots) e ∙ there) in
        ne (ap (λ (s : SlotData). s.opener) same));
  }

  asks_taken : (n : ℕ) (text : List ℕ) → slice_get w.objects.slots n ≡ Some (slot_of thread (filled_stage text)) → asking' ≡ asking → AsksOn w.objects thread asking' (slot.Taken n)
  asks_taken n text there same =
      let apart : (other m : ℕ) → IsAsked w.objects other m → m ≢ n = λ other m was e.
      let one : slot_of other open_stage ≡ slot_of thread (filled_stage text) =
      one_slot w.objects.slots m (slot_of other open_stage) (slot_of thread (filled_stage text)) was.opened (ap (slice_get w.objects.slots) e ∙ there) in
      open_not_filled text (ap (λ (s : SlotData). s.stage) one) in
      record {
        own = λ m e. let was : IsAsked w.objects thread m = asked m (sym same ∙ e) in staged_other w.objects thread m was n taken_stage (apart thread m was);
        others = λ other ne m was. staged_other w.objects other m was n taken_stage (apart other m was);
      }

-- ---- the step
module _ (short : List ℕ) (openings : ℕ → DeskState) (w : World) (sound : IsSound w) (thread : ℕ) (d d' : Doing) (stands : Stands w thread d) where
  abbrev after : ReplyEvent → Objects
  after e = record w.objects { slots = changed w.objects.slots thread e }

  abbrev BookWent : ReplyEvent → Type 0
  BookWent e = Went short w thread d' (after e) None object.Book (event.Book e)

  still : (e : ReplyEvent) (looper : ℕ) → HasDispatched w.objects looper → HasDispatched (after e) looper
  still e looper has = has

  module _ (n : ℕ) (text : List ℕ) where
    owed_went : FillsOwed short openings thread d n text d' → BookWent (slot.Filled n text)
    owed_went pays =
        let same : w.works pays.looper ≡ d.work = stands.works pays.looper pays.is_by in
        let owes = ap (λ (x : Work). x.owed) same ∙ pays.owes in
        let behind = stands.past pays.looper pays.is_by (record { slot = n; reply = Some pays.reply }) pays.owes in
        let asks = asks_filled w sound thread d.asking d'.asking stands.asked n text (owed_written w sound n pays.looper behind.0 (Some pays.reply) owes behind.1) (ap (λ (x : Doing). x.asking) pays.after) in
        let e = slot.Filled n text in
        let z : Work = record (w.works pays.looper) { owed = None } in
        let z_is : z ≡ d'.work = ap (λ (x : Work). record x { owed = None }) same ∙ sym (ap (λ (x : Doing). x.work) pays.after) in
        let past : (one : Owed) → d'.work.owed ≡ Some one → HasDispatched (after e) pays.looper = λ one it.
        let clash : None ≡ Some one = sym (ap (λ (x : Doing). x.work.owed) pays.after) ∙ it in
        absurd (cc clash) in
        record {
          works = put pays.looper z w.works;
          does = inl (record { looper = pays.looper; is_by = pays.is_by; reply = pays.reply; owes = owes; text_is = pays.text_is; owes_no_more = refl });
          own = put_own w thread d d' (after e) stands (still e) asks.own asks.others pays.looper pays.is_by z z_is past;
          others = put_others w thread d d' (after e) stands (still e) asks.own asks.others pays.looper pays.is_by z z_is past;
        }

    -- who left something took the rest of its port
    has_rested : (looper : ℕ) (before : List Held) (one : Held) (behind : List Held) → (w.works looper).left ≡ before ++ one ∷ behind → (b : Bool) → (w.objects.ports looper).rested ≡ b → b ≡ true
    has_rested looper before one behind left true e = refl
    has_rested looper before one behind left false e = let clash : [] ≡ before ++ one ∷ behind = sym ((sound.holds looper).in_hand e).0 ∙ left in absurd (none before clash)
      where
        none : (xs : List Held) → [] ≡ xs ++ one ∷ behind → ⊥
        none [] is = cc is
        none (x ∷ xs) is = cc is

    left_went : FillsLeft short openings thread d n text d' → BookWent (slot.Filled n text)
    left_went pays =
        let same : w.works pays.looper ≡ d.work = stands.works pays.looper pays.is_by in
        let left = ap (λ (x : Work). x.left) same ∙ pays.left in
        let asks = asks_filled w sound thread d.asking d'.asking stands.asked n text (left_written w sound n pays.looper pays.before pays.one pays.behind left pays.owes) (ap (λ (x : Doing). x.asking) pays.after) in
        let e = slot.Filled n text in
        let z : Work = record (w.works pays.looper) { left = pays.before ++ settled pays.one ∷ pays.behind } in
        let z_is : z ≡ d'.work = ap (λ (x : Work). record x { left = pays.before ++ settled pays.one ∷ pays.behind }) same ∙ sym (ap (λ (x : Doing). x.work) pays.after) in
        let past : (one : Owed) → d'.work.owed ≡ Some one → HasDispatched (after e) pays.looper = λ one it. stands.past pays.looper pays.is_by one (sym (ap (λ (x : Doing). x.work.owed) pays.after) ∙ it) in
        let rested = (w.objects.ports pays.looper).rested in
        record {
          works = put pays.looper z w.works;
          does = inr (record {
            looper = pays.looper;
            is_by = pays.is_by;
            rested = has_rested pays.looper pays.before pays.one pays.behind left rested refl;
            before = pays.before;
            one = pays.one;
            behind = pays.behind;
            left = left;
            owes = pays.owes;
            text_is = pays.text_is;
            owes_no_more = refl;
          });
          own = put_own w thread d d' (after e) stands (still e) asks.own asks.others pays.looper pays.is_by z z_is past;
          others = put_others w thread d d' (after e) stands (still e) asks.own asks.others pays.looper pays.is_by z z_is past;
        }

  pub book_went : (e : ReplyEvent) → BookStep w.objects.slots thread e → DoesAtBook short openings thread d e d' → BookWent e
  book_went (slot.Opened n) step does =
      let asks = asks_opened w sound thread d.asking d'.asking stands.asked n step (ap (λ (x : Doing). x.asking) does.1) in
      let e = slot.Opened n in
      record {
        works = w.works;
        does = refl;
        own = same_own w thread d d' (after e) stands (still e) asks.own asks.others (ap (λ (x : Doing). x.work) does.1);
        others = same_others w thread d d' (after e) stands (still e) asks.own asks.others;
      }
  book_went (slot.Filled n text) step does = ⊎_elim (λ (pays : FillsOwed short openings thread d n text d'). owed_went n text pays) (λ (pays : FillsLeft short openings thread d n text d'). left_went n text pays) does
  book_went (slot.Cancelled n) step does =
      let asks = asks_cancelled w sound thread d.asking d'.asking stands.asked n step (ap (λ (x : Doing). x.asking) does.1) in
      let e = slot.Cancelled n in
      record {
        works = w.works;
        does = ((stands.asked n does.0).unwritten, refl);
        own = same_own w thread d d' (after e) stands (still e) asks.own asks.others (ap (λ (x : Doing). x.work) does.1);
        others = same_others w thread d d' (after e) stands (still e) asks.own asks.others;
      }
  book_went (slot.Taken n) step does =
      let asks = asks_taken w sound thread d.asking d'.asking stands.asked n step.0 step.1 (ap (λ (x : Doing). x.asking) does) in
      let e = slot.Taken n in
      record {
        works = w.works;
        does = refl;
        own = same_own w thread d d' (after e) stands (still e) asks.own asks.others (ap (λ (x : Doing). x.work) does);
        others = same_others w thread d d' (after e) stands (still e) asks.own asks.others;
      }
