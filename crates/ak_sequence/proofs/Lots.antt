-- What of a world is one looper's: its port, how many messages its desk dispatched, and its work; and where a slot is there.
use Rattle.std.proofs.Common.{◌≡◌, ◌≢◌, ◌⊎◌, ◌∙◌, ℕ, suc, ◌+◌, ◌≤◌, ◌==◌, Bool, true, false, cond, List, [], ◌∷◌, ◌++◌, length, map, take, drop, Option, Some, refl, sym, ap, subst, inl, inr, ⊎_elim, arith, eq-eqb, ne_eqb, eqb-true}
use Rattle.std.specs.Prelude.{slice_get}
use Rattle.ak_message.specs.Message.{MessageData}
use Rattle.ak_flatten.specs.declared.item.Duty.TheVariants as duty
use Rattle.ak_flatten.specs.Item.{ItemData}
use Rattle.ak_port.specs.PortMachine.{PortState, numbered, taken_items}
use Rattle.ak_world.specs.World.{DeskPlace, Held, Owed, Work, World, put}
use Rattle.ak_sequence.specs.Places.{HoldsInOrder, IsAmong, IsAt, Place, in_hand, left_over, looper_of, owed, pending, position_of, taken_of}
use Rattle.ak_port.proofs.Surface.{drop-numbered}

-- ---- a looper's lot
pub record Lot : Type 0 where
  pub port : PortState
  pub dispatched : ℕ
  pub work : Work

abbrev pub lot : World → ℕ → Lot
lot w looper = record { port = w.objects.ports looper; dispatched = (w.objects.desks looper).dispatched; work = w.works looper }

-- how a slot is there
pub data Here : Type 0 where
  waiting : Here
  at_hand : Here
  put_by : Here
  due : Here

-- an item that was not taken yet
pub record Waits (written : List ItemData) (taken n position : ℕ) : Type 0 where
  pub item : ItemData
  pub there : slice_get written position ≡ Some item
  pub owes : item.duty ≡ duty.Slot n
  pub untaken : taken ≤ position

-- one of these
abbrev pub Amid : List Held → ℕ → ℕ → Type 0
Amid [] n position = ⊥
Amid (one ∷ others) n position = ((one.taken.position ≡ position) × (one.owing ≡ duty.Slot n)) ⊎ Amid others n position

-- the last dispatch
pub record IsDue (dispatched : ℕ) (owing : Option Owed) (n position : ℕ) : Type 0 where
  pub reply : Option MessageData
  pub owes : owing ≡ Some (record { slot = n; reply = reply })
  pub last : dispatched ≡ suc position

abbrev pub Sits : Lot → ℕ → Here → ℕ → Type 0
Sits l n waiting position = Waits l.port.written l.port.taken n position
Sits l n at_hand position = Amid l.work.hand n position
Sits l n put_by position = Amid l.work.left n position
Sits l n due position = IsDue l.dispatched l.work.owed n position

-- in that lot the looper holds its items in order
abbrev pub undispatched : Lot → List ItemData
undispatched l = drop l.dispatched (take l.port.taken l.port.written)

pub record Holds (l : Lot) : Type 0 where
  pub dispatched : l.dispatched ≤ l.port.taken
  pub taken : l.port.taken ≤ length l.port.written
  pub in_hand : l.port.rested ≡ false → (l.work.left ≡ []) × (map taken_of l.work.hand ≡ numbered l.dispatched (undispatched l))
  pub left_over : l.port.rested ≡ true → (l.work.hand ≡ []) × (map taken_of l.work.left ≡ numbered l.dispatched (undispatched l))
  pub shut : l.port.rested ≡ true → (l.port.shut ≡ true) × (l.port.taken ≡ length l.port.written)
  pub owing : (one : Owed) → l.work.owed ≡ Some one → 1 ≤ l.dispatched

-- ---- of a world
abbrev pub here_of : Place → Here
here_of (pending looper position) = waiting
here_of (in_hand looper position) = at_hand
here_of (left_over looper position) = put_by
here_of (owed looper position) = due

abbrev pub place_of : ℕ → Here → ℕ → Place
place_of looper waiting position = pending looper position
place_of looper at_hand position = in_hand looper position
place_of looper put_by position = left_over looper position
place_of looper due position = owed looper position

pub place_is : (place : Place) → place_of (looper_of place) (here_of place) (position_of place) ≡ place
place_is (pending looper position) = refl
place_is (in_hand looper position) = refl
place_is (left_over looper position) = refl
place_is (owed looper position) = refl

-- ---- a list of held items, by its parts and by its elements
amid_parts : (before : List Held) (one : Held) (behind : List Held) (n position : ℕ) → one.taken.position ≡ position → one.owing ≡ duty.Slot n → Amid (before ++ one ∷ behind) n position
amid_parts [] one behind n position is owes = inl (is, owes)
amid_parts (other ∷ before) one behind n position is owes = inr (amid_parts before one behind n position is owes)

pub amid_of : (things : List Held) (n position : ℕ) → IsAmong things n position → Amid things n position
amid_of things n position among =
    subst (λ (l : List Held). Amid l n position) (sym among.there) (amid_parts among.before among.one among.behind n position among.position_is among.owes)

among_more : (one : Held) (others : List Held) (n position : ℕ) → IsAmong others n position → IsAmong (one ∷ others) n position
among_more one others n position among = record {
  before = one ∷ among.before;
  one = among.one;
  behind = among.behind;
  there = ap (λ (l : List Held). one ∷ l) among.there;
  position_is = among.position_is;
  owes = among.owes;
}

pub among_of : (things : List Held) (n position : ℕ) → Amid things n position → IsAmong things n position
among_of [] n position amid = absurd amid
among_of (one ∷ others) n position amid =
    ⊎_elim
    (λ (t : (one.taken.position ≡ position) × (one.owing ≡ duty.Slot n)). record { before = []; one = one; behind = others; there = refl; position_is = t.0; owes = t.1 })
    (λ (t : Amid others n position). among_more one others n position (among_of others n position t))
    amid

-- ---- places of a world, and those in lots
pub sits : (w : World) (n : ℕ) (place : Place) → IsAt w n place → Sits (lot w (looper_of place)) n (here_of place) (position_of place)
sits w n (pending looper position) at = record { item = at.accepts.item; there = at.accepts.there; owes = at.accepts.owes; untaken = at.untaken }
sits w n (in_hand looper position) at = amid_of (w.works looper).hand n position at
sits w n (left_over looper position) at = amid_of (w.works looper).left n position at
sits w n (owed looper position) at = record { reply = at.reply; owes = at.owes; last = at.last }

pub is_at : (w : World) (n looper : ℕ) (here : Here) (position : ℕ) → Sits (lot w looper) n here position → IsAt w n (place_of looper here position)
is_at w n looper waiting position there = record { accepts = record { item = there.item; there = there.there; owes = there.owes }; untaken = there.untaken }
is_at w n looper at_hand position there = among_of (w.works looper).hand n position there
is_at w n looper put_by position there = among_of (w.works looper).left n position there
is_at w n looper due position there = record { reply = there.reply; owes = there.owes; last = there.last }

-- ---- a looper that holds its items in order does so in its lot
numbered_there : (l : Lot) → drop l.dispatched (taken_items l.port) ≡ numbered l.dispatched (undispatched l)
numbered_there l =
    let from : 0 + l.dispatched ≡ l.dispatched = omega arith in
    drop-numbered l.dispatched 0 (take l.port.taken l.port.written) ∙ ap (λ (k : ℕ). numbered k (undispatched l)) from

pub holds_of : (w : World) (looper : ℕ) → HoldsInOrder w looper → Holds (lot w looper)
holds_of w looper h =
    let same = numbered_there (lot w looper) in
    record {
      dispatched = h.dispatched;
      taken = h.taken;
      in_hand = λ is. let t = h.in_hand is in (t.0, t.1 ∙ same);
      left_over = λ is. let t = h.left_over is in (t.0, t.1 ∙ same);
      shut = h.shut;
      owing = h.owing;
    }

pub in_order_of : (w : World) (looper : ℕ) → Holds (lot w looper) → HoldsInOrder w looper
in_order_of w looper h =
    let same = sym (numbered_there (lot w looper)) in
    record {
      dispatched = h.dispatched;
      taken = h.taken;
      in_hand = λ is. let t = h.in_hand is in (t.0, t.1 ∙ same);
      left_over = λ is. let t = h.left_over is in (t.0, t.1 ∙ same);
      shut = h.shut;
      owing = h.owing;
    }

-- ---- what is put at a number
module _ {X : Type 0} (number : ℕ) (thing : X) (things : ℕ → X) where
  pub put_there : put number thing things number ≡ thing
  put_there = ap (λ (b : Bool). cond b thing (things number)) (eq-eqb number number refl)

  pub put_elsewhere : (other : ℕ) → other ≢ number → put number thing things other ≡ things other
  put_elsewhere other ne = ap (λ (b : Bool). cond b thing (things other)) (ne_eqb other number ne)

-- what is there already
pub put_own : {X : Type 0} (number : ℕ) (things : ℕ → X) → things ≡ put number (things number) things
put_own {X} number things = λ i other. at other (other == number) refl i
  where
    at : (other : ℕ) (b : Bool) → (other == number) ≡ b → things other ≡ cond b (things number) (things other)
    at other true e = ap things (eqb-true other number e)
    at other false e = refl

-- ---- the lot of one looper changes
pub record Changes (w : World) (looper : ℕ) (after : Lot) (w' : World) : Type 0 where
  pub there : lot w' looper ≡ after
  pub elsewhere : (other : ℕ) → other ≢ looper → lot w' other ≡ lot w other

pub changes
    : (w : World) (looper : ℕ) (port : PortState) (desk : DeskPlace) (work : Work) (w' : World)
    → w'.objects.ports ≡ put looper port w.objects.ports → w'.objects.desks ≡ put looper desk w.objects.desks → w'.works ≡ put looper work w.works
    → Changes w looper (record { port = port; dispatched = desk.dispatched; work = work }) w'
changes w looper port desk work w' ports desks works = record {
  there =
      let a : w'.objects.ports looper ≡ port = ap (λ (f : ℕ → PortState). f looper) ports ∙ put_there looper port w.objects.ports in
      let b : w'.objects.desks looper ≡ desk = ap (λ (f : ℕ → DeskPlace). f looper) desks ∙ put_there looper desk w.objects.desks in
      let c : w'.works looper ≡ work = ap (λ (f : ℕ → Work). f looper) works ∙ put_there looper work w.works in
      λ i. record { port = a i; dispatched = (b i).dispatched; work = c i };
  elsewhere = λ other ne.
      let a : w'.objects.ports other ≡ w.objects.ports other = ap (λ (f : ℕ → PortState). f other) ports ∙ put_elsewhere looper port w.objects.ports other ne in
      let b : w'.objects.desks other ≡ w.objects.desks other = ap (λ (f : ℕ → DeskPlace). f other) desks ∙ put_elsewhere looper desk w.objects.desks other ne in
      let c : w'.works other ≡ w.works other = ap (λ (f : ℕ → Work). f other) works ∙ put_elsewhere looper work w.works other ne in
      λ i. record { port = a i; dispatched = (b i).dispatched; work = c i };
}

-- of none, where nothing changes; and of one whose work changes alone
pub changes_none : (w w' : World) → w'.objects.ports ≡ w.objects.ports → w'.objects.desks ≡ w.objects.desks → w'.works ≡ w.works → Changes w 0 (lot w 0) w'
changes_none w w' ports desks works =
    changes w 0 (w.objects.ports 0) (w.objects.desks 0) (w.works 0) w' (ports ∙ put_own 0 w.objects.ports) (desks ∙ put_own 0 w.objects.desks) (works ∙ put_own 0 w.works)

pub changes_work
    : (w : World) (looper : ℕ) (work : Work) (w' : World) → w'.objects.ports ≡ w.objects.ports → w'.objects.desks ≡ w.objects.desks → w'.works ≡ put looper work w.works
    → Changes w looper (record (lot w looper) { work = work }) w'
changes_work w looper work w' ports desks works =
    changes w looper (w.objects.ports looper) (w.objects.desks looper) work w' (ports ∙ put_own looper w.objects.ports) (desks ∙ put_own looper w.objects.desks) works
