-- Whatever a step makes of a looper's lot, the looper holds its items in order.
use Rattle.std.proofs.Common.{◌≡◌, ◌∙◌, ℕ, ◌+◌, ◌≤◌, true, false, List, [], ◌∷◌, ◌++◌, length, map, take, drop, Option, None, refl, sym, ap, arith, length-append}
use Rattle.std.proofs.lemmas.Bool.{both_ways}
use Rattle.std.proofs.lemmas.List.{drop-append-le, drop-drop, length-drop, length-take-le, map-append, take-append-le}
use Rattle.std.proofs.Math.Seq.{take-add}
use Rattle.ak_flatten.specs.declared.item.Taken.{Taken}
use Rattle.ak_flatten.specs.Item.{ItemData}
use Rattle.ak_port.specs.PortMachine.{numbered, pending_count, pending_items}
use Rattle.ak_world.specs.World.{Held, Owed, held, settled}
use Rattle.ak_sequence.specs.Places.{taken_of}
use Rattle.ak_port.proofs.Surface.{numbered-append, take-numbered}
use Rattle.ak_sequence.proofs.Lots.{Holds, Lot, undispatched}

-- ---- what the steps make of a lot
abbrev pub after_made : ℕ → ℕ → Lot → Lot
after_made capacity life l = record l { port = record l.port { made = true; capacity = capacity; life = life } }

abbrev pub after_wrote : ItemData → Lot → Lot
after_wrote item l = record l { port = record l.port { written = l.port.written ++ item ∷ [] } }

abbrev pub after_took : ℕ → Lot → Lot
after_took count l = record l {
  port = record l.port { taken = l.port.taken + count };
  work = record l.work { hand = l.work.hand ++ map held (take count (pending_items l.port)) };
}

abbrev pub after_rest : ℕ → Lot → Lot
after_rest count l = record l {
  port = record l.port { taken = length l.port.written; rested = true };
  work = record l.work { hand = []; left = l.work.hand ++ map held (take count (pending_items l.port)) };
}

abbrev pub after_shut : Lot → Lot
after_shut l = record l { port = record l.port { shut = true } }

abbrev pub after_dispatch : List Held → Option Owed → Lot → Lot
after_dispatch others owing l = record l { dispatched = l.dispatched + 1; work = record l.work { hand = others; owed = owing } }

-- the slot that it owed is filled; that of an item that it left; and what is owed for the first in its hand goes with that, sent on
abbrev pub after_paid : Lot → Lot
after_paid l = record l { work = record l.work { owed = None } }

abbrev pub after_left : List Held → Held → List Held → Lot → Lot
after_left before one behind l = record l { work = record l.work { left = before ++ settled one ∷ behind } }

abbrev pub after_sent : Held → List Held → Lot → Lot
after_sent first others l = record l { work = record l.work { hand = settled first ∷ others } }

-- ---- lists
held_taken : (things : List Taken) → map taken_of (map held things) ≡ things
held_taken [] = refl
held_taken (thing ∷ things) = ap (λ (l : List Taken). thing ∷ l) (held_taken things)

pub settled_taken : (before : List Held) (one : Held) (behind : List Held) → map taken_of (before ++ settled one ∷ behind) ≡ map taken_of (before ++ one ∷ behind)
settled_taken [] one behind = refl
settled_taken (other ∷ before) one behind = ap (λ (l : List Taken). other.taken ∷ l) (settled_taken before one behind)

-- the first of a numbered list
pub first_of_hand
    : (first : Held) (others : List Held) (number : ℕ) (items : List ItemData) → map taken_of (first ∷ others) ≡ numbered number items
    → (first.taken.position ≡ number) × (1 ≤ length items) × (map taken_of others ≡ numbered (number + 1) (drop 1 items))
first_of_hand first others number [] e = absurd (cc)
first_of_hand first others number (item ∷ items) e =
    let head : first.taken ≡ record { position = number; item = item } = cc in
    (ap (λ (t : Taken). t.position) head, omega arith, cc)

-- so many more are in hand
handed_on
    : (written : List ItemData) (taken dispatched count : ℕ) (hand : List Held) → dispatched ≤ taken → taken ≤ length written
    → map taken_of hand ≡ numbered dispatched (drop dispatched (take taken written))
    → map taken_of (hand ++ map held (take count (numbered taken (drop taken written)))) ≡ numbered dispatched (drop dispatched (take (taken + count) written))
handed_on written taken dispatched count hand few most order =
    let front : length (take taken written) ≡ taken = length-take-le taken written most in
    let old : List ItemData = drop dispatched (take taken written) in
    let more : List ItemData = take count (drop taken written) in
    let on : dispatched + length old ≡ taken = omega (arith, length-drop dispatched (take taken written), front) in
    map-append taken_of hand (map held (take count (numbered taken (drop taken written))))
    ∙ ap (λ (l : List Taken). map taken_of hand ++ l)
    (held_taken (take count (numbered taken (drop taken written))) ∙ take-numbered count taken (drop taken written) ∙ ap (λ (k : ℕ). numbered k more) (sym on))
    ∙ ap (λ (l : List Taken). l ++ numbered (dispatched + length old) more) order
    ∙ sym (numbered-append dispatched old more)
    ∙ ap (numbered dispatched)
    (sym (drop-append-le dispatched (take taken written) more (omega arith)) ∙ ap (drop dispatched) (sym (take-add taken count written)))

-- ---- each step
module _ (l : Lot) (h : Holds l) where
  pub made_holds : (capacity life : ℕ) → Holds (after_made capacity life l)
  made_holds capacity life = record { dispatched = h.dispatched; taken = h.taken; in_hand = h.in_hand; left_over = h.left_over; shut = h.shut; owing = h.owing }

  pub shut_holds : Holds (after_shut l)
  shut_holds = record { dispatched = h.dispatched; taken = h.taken; in_hand = h.in_hand; left_over = h.left_over; shut = λ is. (refl, (h.shut is).1); owing = h.owing }

  -- where it is not shut, the rest was not taken
  pub unrested : l.port.shut ≡ false → l.port.rested ≡ true → ⊥
  unrested opened rested = both_ways l.port.shut opened (h.shut rested).0

  pub wrote_holds : (item : ItemData) → l.port.shut ≡ false → Holds (after_wrote item l)
  wrote_holds item opened =
      let same : undispatched l ≡ undispatched (after_wrote item l) = ap (drop l.dispatched) (sym (take-append-le l.port.taken l.port.written (item ∷ []) h.taken)) in
      record {
        dispatched = h.dispatched;
        taken = omega (arith, h.taken, length-append l.port.written (item ∷ []));
        in_hand = λ is. let t = h.in_hand is in (t.0, t.1 ∙ ap (numbered l.dispatched) same);
        left_over = λ is. absurd (unrested opened is);
        shut = λ is. absurd (unrested opened is);
        owing = h.owing;
      }

  pub took_holds : (count : ℕ) → l.port.shut ≡ false → count ≤ pending_count l.port → Holds (after_took count l)
  took_holds count opened most = record {
    dispatched = omega (arith, h.dispatched);
    taken = omega (arith, h.taken, most);
    in_hand = λ is. let t = h.in_hand is in (t.0, handed_on l.port.written l.port.taken l.dispatched count l.work.hand h.dispatched h.taken t.1);
    left_over = λ is. absurd (unrested opened is);
    shut = λ is. absurd (unrested opened is);
    owing = h.owing;
  }

  pub rest_holds : (count : ℕ) → l.port.shut ≡ true → l.port.rested ≡ false → count ≡ pending_count l.port → Holds (after_rest count l)
  rest_holds count shut rested all =
      let to_end : l.port.taken + count ≡ length l.port.written = omega (arith, h.taken, all) in
      record {
        dispatched = omega (arith, h.dispatched, h.taken);
        taken = omega arith;
        in_hand = λ is. absurd (both_ways true is refl);
        left_over = λ is. (
          refl,
          handed_on l.port.written l.port.taken l.dispatched count l.work.hand h.dispatched h.taken (h.in_hand rested).1
              ∙ ap (λ (k : ℕ). numbered l.dispatched (drop l.dispatched (take k l.port.written))) to_end,
        );
        shut = λ is. (shut, refl);
        owing = h.owing;
      }

  -- where something is in hand, the rest was not taken
  pub hand_unrested : (first : Held) (others : List Held) → l.work.hand ≡ first ∷ others → l.port.rested ≡ true → ⊥
  hand_unrested first others oldest rested = let none = (h.left_over rested).0 in cc

  pub dispatch_holds
      : (first : Held) (others : List Held) (owing : Option Owed) → l.work.hand ≡ first ∷ others → l.port.rested ≡ false → Holds (after_dispatch others owing l)
  dispatch_holds first others owing oldest rested =
      let order : map taken_of (first ∷ others) ≡ numbered l.dispatched (undispatched l) = ap (map taken_of) (sym oldest) ∙ (h.in_hand rested).1 in
      let next = first_of_hand first others l.dispatched (undispatched l) order in
      let front : length (take l.port.taken l.port.written) ≡ l.port.taken = length-take-le l.port.taken l.port.written h.taken in
      record {
        dispatched = omega (arith, next.1, front, length-drop l.dispatched (take l.port.taken l.port.written));
        taken = h.taken;
        in_hand = λ is. ((h.in_hand rested).0, next.2 ∙ ap (numbered (l.dispatched + 1)) (drop-drop 1 l.dispatched (take l.port.taken l.port.written)));
        left_over = λ is. absurd (hand_unrested first others oldest is);
        shut = h.shut;
        owing = λ one is. omega arith;
      }

  pub paid_holds : Holds (after_paid l)
  paid_holds = record {
    dispatched = h.dispatched;
    taken = h.taken;
    in_hand = h.in_hand;
    left_over = h.left_over;
    shut = h.shut;
    owing = λ one is. absurd (cc);
  }

  pub left_holds : (before : List Held) (one : Held) (behind : List Held) → l.work.left ≡ before ++ one ∷ behind → l.port.rested ≡ true → Holds (after_left before one behind l)
  left_holds before one behind left rested = record {
    dispatched = h.dispatched;
    taken = h.taken;
    in_hand = λ is. absurd (both_ways l.port.rested is rested);
    left_over = λ is. let t = h.left_over is in (t.0, settled_taken before one behind ∙ ap (map taken_of) (sym left) ∙ t.1);
    shut = h.shut;
    owing = h.owing;
  }

  pub sent_holds : (first : Held) (others : List Held) → l.work.hand ≡ first ∷ others → Holds (after_sent first others l)
  sent_holds first others oldest = record {
    dispatched = h.dispatched;
    taken = h.taken;
    in_hand = λ is. let t = h.in_hand is in (t.0, ap (map taken_of) (sym oldest) ∙ t.1);
    left_over = λ is. absurd (hand_unrested first others oldest is);
    shut = h.shut;
    owing = h.owing;
  }
