-- Where the slots of a looper's lot are behind each step, and where they were before.
use Rattle.std.proofs.Common.{◌≡◌, ◌≢◌, ◌⊎◌, ◌∙◌, ℕ, suc, ◌+◌, ◌-◌, ◌<◌, ◌≤◌, true, false, List, [], ◌∷◌, ◌++◌, length, map, take, drop, Option, Some, None, refl, sym, ap, subst, inl, inr, ⊎_elim, arith}
use Rattle.std.specs.Prelude.{slice_get}
use Rattle.std.proofs.lemmas.Bool.{both_ways, cases_Bool, cases_lt}
use Rattle.std.proofs.lemmas.List.{length-drop, length-take-le}
use Rattle.std.proofs.lemmas.Option.{slice_get_within}
use Rattle.ak_message.specs.Message.{MessageData}
use Rattle.ak_flatten.specs.declared.item.Duty.{Duty}
use Rattle.ak_flatten.specs.declared.item.Duty.TheVariants as duty
use Rattle.ak_flatten.specs.declared.item.Taken.{Taken}
use Rattle.ak_flatten.specs.Item.{ItemData}
use Rattle.ak_port.specs.PortMachine.{numbered, pending_count, pending_items}
use Rattle.ak_world.specs.World.{Held, Owed, held, owed_for}
use Rattle.ak_sequence.specs.Places.{taken_of}
use Rattle.ak_port.proofs.Surface.{get_last, get_left, get_push, take-numbered}
use Rattle.ak_sequence.proofs.Lots.{Amid, Here, Holds, IsDue, Lot, Sits, at_hand, due, put_by, undispatched, waiting}
use Rattle.ak_sequence.proofs.Amid.{Among, amid_either, amid_handed, amid_left, amid_one, amid_right, amid_settled, amid_unsettled, amid_within, get_drop, get_take, get_taken, handed_amid}
use Rattle.ak_sequence.proofs.Holds.{after_dispatch, after_left, after_paid, after_rest, after_sent, after_took, after_wrote, first_of_hand, hand_unrested}

-- ---- owing
some_slot : (a b : Owed) → Some a ≡ Some b → a.slot ≡ b.slot
some_slot a b e = let same : a ≡ b = cc in ap (λ (o : Owed). o.slot) same

owed_slot : (owing : Duty) (reply : Option MessageData) (n : ℕ) (message : Option MessageData) → owed_for owing reply ≡ Some (record { slot = n; reply = message }) → owing ≡ duty.Slot n
owed_slot (duty.Slot m) reply n message e = ap (λ (k : ℕ). duty.Slot k) (some_slot (record { slot = m; reply = reply }) (record { slot = n; reply = message }) e)
owed_slot duty.None reply n message e = absurd (cc)
owed_slot (duty.Back to) reply n message e = absurd (cc)

owed_told : (owing : Duty) (reply : Option MessageData) (n : ℕ) → owing ≡ duty.Slot n → owed_for owing reply ≡ Some (record { slot = n; reply = reply })
owed_told owing reply n is = ap (λ (o : Duty). owed_for o reply) is

same_slot : (owing : Option Owed) (n m : ℕ) (a b : Option MessageData) → owing ≡ Some (record { slot = n; reply = a }) → owing ≡ Some (record { slot = m; reply = b }) → n ≡ m
same_slot owing n m a b p q = some_slot (record { slot = n; reply = a }) (record { slot = m; reply = b }) (sym p ∙ q)

module _ (l : Lot) (h : Holds l) (n : ℕ) where
  -- ---- an item of a looper is in one place
  abbrev Lies : Here → ℕ → Type 0
  Lies waiting position = l.port.taken ≤ position
  Lies at_hand position = (l.dispatched ≤ position) × (position < l.port.taken) × (l.port.rested ≡ false)
  Lies put_by position = (l.dispatched ≤ position) × (position < l.port.taken) × (l.port.rested ≡ true)
  Lies due position = l.dispatched ≡ suc position

  pub held_within : (things : List Held) (position : ℕ) → map taken_of things ≡ numbered l.dispatched (undispatched l) → Amid things n position → (l.dispatched ≤ position) × (position < l.port.taken)
  held_within things position order amid =
      let t = amid_within things l.dispatched (undispatched l) n position order amid in
      let low = t.0 in
      let high = t.1 in
      let front : length (take l.port.taken l.port.written) ≡ l.port.taken = length-take-le l.port.taken l.port.written h.taken in
      (low, omega (arith, high, front, length-drop l.dispatched (take l.port.taken l.port.written), h.dispatched))

  lies : (here : Here) (position : ℕ) → Sits l n here position → Lies here position
  lies waiting position there = there.untaken
  lies at_hand position there =
      ⊎_elim
      (λ (rested : l.port.rested ≡ true). absurd (subst (λ (things : List Held). Amid things n position) (h.left_over rested).0 there))
      (λ (rested : l.port.rested ≡ false). let t = held_within l.work.hand position (h.in_hand rested).1 there in (t.0, t.1, rested))
      (cases_Bool l.port.rested)
  lies put_by position there =
      ⊎_elim
      (λ (rested : l.port.rested ≡ true). let t = held_within l.work.left position (h.left_over rested).1 there in (t.0, t.1, rested))
      (λ (rested : l.port.rested ≡ false). absurd (subst (λ (things : List Held). Amid things n position) (h.in_hand rested).0 there))
      (cases_Bool l.port.rested)
  lies due position there = there.last

  lies_once : (here other : Here) (position : ℕ) → l.dispatched ≤ l.port.taken → Lies here position → Lies other position → here ≡ other
  lies_once waiting waiting position few a b = refl
  lies_once waiting at_hand position few a b = let c = b.1 in absurd (omega arith)
  lies_once waiting put_by position few a b = let c = b.1 in absurd (omega arith)
  lies_once waiting due position few a b = absurd (omega arith)
  lies_once at_hand waiting position few a b = let c = a.1 in absurd (omega arith)
  lies_once at_hand at_hand position few a b = refl
  lies_once at_hand put_by position few a b = absurd (both_ways l.port.rested a.2 b.2)
  lies_once at_hand due position few a b = let c = a.0 in absurd (omega arith)
  lies_once put_by waiting position few a b = let c = a.1 in absurd (omega arith)
  lies_once put_by at_hand position few a b = absurd (both_ways l.port.rested b.2 a.2)
  lies_once put_by put_by position few a b = refl
  lies_once put_by due position few a b = let c = a.0 in absurd (omega arith)
  lies_once due waiting position few a b = absurd (omega arith)
  lies_once due at_hand position few a b = let c = b.0 in absurd (omega arith)
  lies_once due put_by position few a b = let c = b.0 in absurd (omega arith)
  lies_once due due position few a b = refl

  pub sits_once : (here other : Here) (position : ℕ) → Sits l n here position → Sits l n other position → here ≡ other
  sits_once here other position a b = lies_once here other position h.dispatched (lies here position a) (lies other position b)

  -- ---- an item is written
  pub wrote_back
      : (item : ItemData) (here : Here) (position : ℕ) → Sits (after_wrote item l) n here position
      → Sits l n here position ⊎ ((here ≡ waiting) × (position ≡ length l.port.written) × (item.duty ≡ duty.Slot n))
  wrote_back item waiting position there =
      ⊎_elim
      (λ (t : slice_get l.port.written position ≡ Some there.item). inl (record { item = there.item; there = t; owes = there.owes; untaken = there.untaken }))
      (λ (t : (position ≡ length l.port.written) × (item ≡ there.item)). inr (refl, t.0, ap (λ (i : ItemData). i.duty) t.1 ∙ there.owes))
      (get_push l.port.written item there.item position there.there)
  wrote_back item at_hand position there = inl there
  wrote_back item put_by position there = inl there
  wrote_back item due position there = inl there

  pub wrote_forth : (item : ItemData) (here : Here) (position : ℕ) → Sits l n here position → Sits (after_wrote item l) n here position
  wrote_forth item waiting position there = record {
    item = there.item;
    there = get_left l.port.written (item ∷ []) position (slice_get_within l.port.written position there.item there.there) ∙ there.there;
    owes = there.owes;
    untaken = there.untaken;
  }
  wrote_forth item at_hand position there = there
  wrote_forth item put_by position there = there
  wrote_forth item due position there = there

  pub wrote_new : (item : ItemData) → item.duty ≡ duty.Slot n → Sits (after_wrote item l) n waiting (length l.port.written)
  wrote_new item owes = record { item = item; there = get_last l.port.written item; owes = owes; untaken = h.taken }

  -- ---- what is handed out
  handed_back : (count position : ℕ) → Amid (map held (take count (pending_items l.port))) n position → Sits l n waiting position
  handed_back count position amid =
      let more : List ItemData = drop l.port.taken l.port.written in
      let same : take count (pending_items l.port) ≡ numbered l.port.taken (take count more) = take-numbered count l.port.taken more in
      let t = amid_handed l.port.taken (take count more) n position (subst (λ (things : List Taken). Amid (map held things) n position) same amid) in
      let e = t.1 in
      record {
        item = t.2.item;
        there = ap (slice_get l.port.written) e ∙ sym (get_drop l.port.taken t.0 l.port.written) ∙ get_take count t.0 more t.2.item t.2.there;
        owes = t.2.owes;
        untaken = omega arith;
      }

  handed_forth : (count position : ℕ) → position < l.port.taken + count → Sits l n waiting position → Amid (map held (take count (pending_items l.port))) n position
  handed_forth count position lt there =
      let more : List ItemData = drop l.port.taken l.port.written in
      let same : take count (pending_items l.port) ≡ numbered l.port.taken (take count more) = take-numbered count l.port.taken more in
      let place : ℕ = position - l.port.taken in
      let low = there.untaken in
      let e : l.port.taken + (position - l.port.taken) ≡ position = omega arith in
      let one : Among (take count more) n place = record {
        item = there.item;
        there = get_taken count place more (omega arith) ∙ get_drop l.port.taken place l.port.written ∙ ap (slice_get l.port.written) e ∙ there.there;
        owes = there.owes;
      } in
      subst (λ (things : List Taken). Amid (map held things) n position) (sym same)
      (subst (λ (k : ℕ). Amid (map held (numbered l.port.taken (take count more))) n k) e (handed_amid l.port.taken (take count more) n place one))

  -- ---- some are taken
  pub took_back : (count : ℕ) (here : Here) (position : ℕ) → Sits (after_took count l) n here position → Sits l n here position ⊎ ((here ≡ at_hand) × Sits l n waiting position)
  took_back count waiting position there = inl (record { item = there.item; there = there.there; owes = there.owes; untaken = let low = there.untaken in omega arith })
  took_back count at_hand position there =
      ⊎_elim
      (λ (t : Amid l.work.hand n position). inl t)
      (λ (t : Amid (map held (take count (pending_items l.port))) n position). inr (refl, handed_back count position t))
      (amid_either l.work.hand (map held (take count (pending_items l.port))) n position there)
  took_back count put_by position there = inl there
  took_back count due position there = inl there

  pub took_forth : (count : ℕ) (here : Here) (position : ℕ) → Sits l n here position → (after : Here) × Sits (after_took count l) n after position
  took_forth count waiting position there =
      ⊎_elim
      (λ (lt : position < l.port.taken + count). (at_hand, amid_right l.work.hand (map held (take count (pending_items l.port))) n position (handed_forth count position lt there)))
      (λ (le : l.port.taken + count ≤ position). (waiting, record { item = there.item; there = there.there; owes = there.owes; untaken = le }))
      (cases_lt position (l.port.taken + count))
  took_forth count at_hand position there = (at_hand, amid_left l.work.hand (map held (take count (pending_items l.port))) n position there)
  took_forth count put_by position there = (put_by, there)
  took_forth count due position there = (due, there)

  -- ---- the rest is taken
  pub rest_back
      : (count : ℕ) (here : Here) (position : ℕ) → Sits (after_rest count l) n here position
      → Sits l n here position ⊎ ((here ≡ put_by) × (Sits l n waiting position ⊎ Sits l n at_hand position))
  rest_back count waiting position there =
      inl (record { item = there.item; there = there.there; owes = there.owes; untaken = let low = there.untaken in omega (arith, low, h.taken) })
  rest_back count at_hand position there = absurd there
  rest_back count put_by position there =
      ⊎_elim
      (λ (t : Amid l.work.hand n position). inr (refl, inr t))
      (λ (t : Amid (map held (take count (pending_items l.port))) n position). inr (refl, inl (handed_back count position t)))
      (amid_either l.work.hand (map held (take count (pending_items l.port))) n position there)
  rest_back count due position there = inl there

  pub rest_forth
      : (count : ℕ) → l.port.rested ≡ false → count ≡ pending_count l.port → (here : Here) (position : ℕ) → Sits l n here position
      → (after : Here) × Sits (after_rest count l) n after position
  rest_forth count rested all waiting position there =
      let within : position < length l.port.written = slice_get_within l.port.written position there.item there.there in
      (put_by, amid_right l.work.hand (map held (take count (pending_items l.port))) n position (handed_forth count position (omega (arith, within, all, h.taken)) there))
  rest_forth count rested all at_hand position there = (put_by, amid_left l.work.hand (map held (take count (pending_items l.port))) n position there)
  rest_forth count rested all put_by position there = absurd (subst (λ (things : List Held). Amid things n position) (h.in_hand rested).0 there)
  rest_forth count rested all due position there = (due, there)

  -- ---- the first in hand is dispatched
  module _ (first : Held) (others : List Held) (oldest : l.work.hand ≡ first ∷ others) where
    in_front : Amid (first ∷ others) n first.taken.position → Sits l n at_hand first.taken.position
    in_front amid = subst (λ (things : List Held). Amid things n first.taken.position) (sym oldest) amid

    pub hand_order : map taken_of (first ∷ others) ≡ numbered l.dispatched (undispatched l)
    hand_order =
        ⊎_elim
        (λ (rested : l.port.rested ≡ true). absurd (hand_unrested l h first others oldest rested))
        (λ (rested : l.port.rested ≡ false). ap (map taken_of) (sym oldest) ∙ (h.in_hand rested).1)
        (cases_Bool l.port.rested)

    pub first_position : first.taken.position ≡ l.dispatched
    first_position = (first_of_hand first others l.dispatched (undispatched l) hand_order).0

    pub dispatch_back
        : (reply : Option MessageData) (here : Here) (position : ℕ) → Sits (after_dispatch others (owed_for first.owing reply) l) n here position
        → Sits l n here position ⊎ ((here ≡ due) × Sits l n at_hand position × (position ≡ first.taken.position))
    dispatch_back reply waiting position there = inl there
    dispatch_back reply at_hand position there = inl (subst (λ (things : List Held). Amid things n position) (sym oldest) (inr there))
    dispatch_back reply put_by position there = inl there
    dispatch_back reply due position there =
        let last = there.last in
        let at = first_position in
        let e : first.taken.position ≡ position = omega arith in
        let owes : first.owing ≡ duty.Slot n = owed_slot first.owing reply n there.reply there.owes in
        inr (refl, subst (λ (things : List Held). Amid things n position) (sym oldest) (inl (e, owes)), sym e)

    pub dispatch_forth
        : (reply : Option MessageData) → l.work.owed ≡ None → (here : Here) (position : ℕ) → Sits l n here position → (after : Here) × Sits (after_dispatch others (owed_for first.owing reply) l) n after position
    dispatch_forth reply none waiting position there = (waiting, there)
    dispatch_forth reply none at_hand position there =
        ⊎_elim
        (λ (t : (first.taken.position ≡ position) × (first.owing ≡ duty.Slot n)).
        let here = t.0 in
        let at = first_position in
        let one : IsDue (l.dispatched + 1) (owed_for first.owing reply) n position = record { reply = reply; owes = owed_told first.owing reply n t.1; last = omega arith } in
        (due, one))
        (λ (t : Amid others n position). (at_hand, t))
        (subst (λ (things : List Held). Amid things n position) oldest there)
    dispatch_forth reply none put_by position there = (put_by, there)
    dispatch_forth reply none due position there = let some = there.owes in absurd (cc)

    -- ---- the first in hand is sent on
    pub sent_back
        : (here : Here) (position : ℕ) → Sits (after_sent first others l) n here position
        → Sits l n here position × (here ≡ at_hand → first.taken.position ≡ position → ⊥)
    sent_back waiting position there = (there, λ here at. absurd (cc))
    sent_back at_hand position there =
        let t = amid_settled [] first others l.dispatched (undispatched l) n position hand_order there in
        (subst (λ (things : List Held). Amid things n position) (sym oldest) t.0, λ here at. t.1 at)
    sent_back put_by position there = (there, λ here at. absurd (cc))
    sent_back due position there = (there, λ here at. absurd (cc))

    pub sent_forth : (first.owing ≡ duty.Slot n → ⊥) → (here : Here) (position : ℕ) → Sits l n here position → Sits (after_sent first others l) n here position
    sent_forth not_owed waiting position there = there
    sent_forth not_owed at_hand position there = amid_unsettled [] first others n position not_owed (subst (λ (things : List Held). Amid things n position) oldest there)
    sent_forth not_owed put_by position there = there
    sent_forth not_owed due position there = there

    pub sent_was : first.owing ≡ duty.Slot n → Sits l n at_hand first.taken.position
    sent_was owes = subst (λ (things : List Held). Amid things n first.taken.position) (sym oldest) (amid_one [] first others n owes)

  -- ---- what it owed is filled
  pub paid_back : (here : Here) (position : ℕ) → Sits (after_paid l) n here position → Sits l n here position × (here ≡ due → ⊥)
  paid_back waiting position there = (there, λ is. absurd (cc))
  paid_back at_hand position there = (there, λ is. absurd (cc))
  paid_back put_by position there = (there, λ is. absurd (cc))
  paid_back due position there = let some = there.owes in absurd (cc)

  pub paid_forth
      : (m : ℕ) (reply : Option MessageData) → l.work.owed ≡ Some (record { slot = m; reply = reply }) → n ≢ m → (here : Here) (position : ℕ) → Sits l n here position
      → Sits (after_paid l) n here position
  paid_forth m reply owes ne waiting position there = there
  paid_forth m reply owes ne at_hand position there = there
  paid_forth m reply owes ne put_by position there = there
  paid_forth m reply owes ne due position there = absurd (ne (same_slot l.work.owed n m there.reply reply there.owes owes))

  pub paid_was : (reply : Option MessageData) → l.work.owed ≡ Some (record { slot = n; reply = reply }) → (position : ℕ) × Sits l n due position
  paid_was reply owes =
      let some = h.owing (record { slot = n; reply = reply }) owes in
      let one : IsDue l.dispatched l.work.owed n (l.dispatched - 1) = record { reply = reply; owes = owes; last = omega arith } in
      (l.dispatched - 1, one)

  -- ---- that of an item that it left is filled
  module _ (before : List Held) (one : Held) (behind : List Held) (left : l.work.left ≡ before ++ one ∷ behind) where
    pub left_back
        : l.port.rested ≡ true → (here : Here) (position : ℕ) → Sits (after_left before one behind l) n here position
        → Sits l n here position × (here ≡ put_by → one.taken.position ≡ position → ⊥)
    left_back rested waiting position there = (there, λ here at. absurd (cc))
    left_back rested at_hand position there = (there, λ here at. absurd (cc))
    left_back rested put_by position there =
        let order : map taken_of (before ++ one ∷ behind) ≡ numbered l.dispatched (undispatched l) = ap (map taken_of) (sym left) ∙ (h.left_over rested).1 in
        let t = amid_settled before one behind l.dispatched (undispatched l) n position order there in
        (subst (λ (things : List Held). Amid things n position) (sym left) t.0, λ here at. t.1 at)
    left_back rested due position there = (there, λ here at. absurd (cc))

    pub left_forth : (one.owing ≡ duty.Slot n → ⊥) → (here : Here) (position : ℕ) → Sits l n here position → Sits (after_left before one behind l) n here position
    left_forth not_owed waiting position there = there
    left_forth not_owed at_hand position there = there
    left_forth not_owed put_by position there = amid_unsettled before one behind n position not_owed (subst (λ (things : List Held). Amid things n position) left there)
    left_forth not_owed due position there = there

    pub left_was : one.owing ≡ duty.Slot n → Sits l n put_by one.taken.position
    left_was owes = subst (λ (things : List Held). Amid things n one.taken.position) (sym left) (amid_one before one behind n owes)
