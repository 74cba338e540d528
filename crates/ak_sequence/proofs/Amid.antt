-- Items that are held, and items that were written: which of them owe a slot, and at which positions.
use Rattle.std.proofs.Common.{◌≡◌, ◌⊎◌, ◌∙◌, ℕ, zero, suc, ◌+◌, ◌<◌, ◌≤◌, List, [], ◌∷◌, ◌++◌, length, map, take, drop, Some, refl, ap, subst, inl, inr, ⊎_elim, arith}
use Rattle.std.specs.Prelude.{slice_get}
use Rattle.ak_flatten.specs.declared.item.Duty.TheVariants as duty
use Rattle.ak_flatten.specs.declared.item.Taken.{Taken}
use Rattle.ak_flatten.specs.Item.{ItemData}
use Rattle.ak_port.specs.PortMachine.{numbered}
use Rattle.ak_world.specs.World.{Held, held, settled}
use Rattle.ak_sequence.specs.Places.{taken_of}
use Rattle.ak_sequence.proofs.Lots.{Amid}

-- ---- duties
pub slots_same : (n m : ℕ) → duty.Slot n ≡ duty.Slot m → n ≡ m
slots_same n m e = cc

pub none_owed : (n : ℕ) → duty.None ≡ duty.Slot n → ⊥
none_owed n e = cc

-- ---- held items, in two parts
pub amid_left : (things others : List Held) (n position : ℕ) → Amid things n position → Amid (things ++ others) n position
amid_left [] others n position amid = absurd amid
amid_left (one ∷ things) others n position amid =
    ⊎_elim (λ (t : (one.taken.position ≡ position) × (one.owing ≡ duty.Slot n)). inl t) (λ (t : Amid things n position). inr (amid_left things others n position t)) amid

pub amid_right : (things others : List Held) (n position : ℕ) → Amid others n position → Amid (things ++ others) n position
amid_right [] others n position amid = amid
amid_right (one ∷ things) others n position amid = inr (amid_right things others n position amid)

pub amid_either : (things others : List Held) (n position : ℕ) → Amid (things ++ others) n position → Amid things n position ⊎ Amid others n position
amid_either [] others n position amid = inr amid
amid_either (one ∷ things) others n position amid =
    ⊎_elim
    (λ (t : (one.taken.position ≡ position) × (one.owing ≡ duty.Slot n)). inl (inl t))
    (λ (t : Amid (things ++ others) n position).
    ⊎_elim (λ (u : Amid things n position). inl (inr u)) (λ (u : Amid others n position). inr u) (amid_either things others n position t))
    amid

-- ---- held items with rising positions
pub amid_within : (things : List Held) (number : ℕ) (items : List ItemData) (n position : ℕ) → map taken_of things ≡ numbered number items → Amid things n position → (number ≤ position) × (position < number + length items)
amid_within [] number items n position order amid = absurd amid
amid_within (one ∷ others) number [] n position order amid = absurd (cc)
amid_within (one ∷ others) number (item ∷ items) n position order amid =
    let head : one.taken ≡ record { position = number; item = item } = cc in
    let here : one.taken.position ≡ number = ap (λ (t : Taken). t.position) head in
    let behind : map taken_of others ≡ numbered (number + 1) items = cc in
    ⊎_elim
    (λ (t : (one.taken.position ≡ position) × (one.owing ≡ duty.Slot n)). let e = t.0 in (omega arith, omega arith))
    (λ (t : Amid others n position). let u = amid_within others (number + 1) items n position behind t in let low = u.0 in let high = u.1 in (omega arith, omega arith))
    amid

-- one behind others has no lesser position
pub one_behind : (before : List Held) (one : Held) (behind : List Held) (number : ℕ) (items : List ItemData) → map taken_of (before ++ one ∷ behind) ≡ numbered number items → number ≤ one.taken.position
one_behind [] one behind number [] order = absurd (cc)
one_behind [] one behind number (item ∷ items) order =
    let head : one.taken ≡ record { position = number; item = item } = cc in
    let here : one.taken.position ≡ number = ap (λ (t : Taken). t.position) head in
    omega arith
one_behind (other ∷ before) one behind number [] order = absurd (cc)
one_behind (other ∷ before) one behind number (item ∷ items) order =
    let rest : map taken_of (before ++ one ∷ behind) ≡ numbered (number + 1) items = cc in
    let low = one_behind before one behind (number + 1) items rest in
    omega arith

-- ---- one of them is settled
-- what is owed for the others stays, and it is for none of that position
pub amid_settled
    : (before : List Held) (one : Held) (behind : List Held) (number : ℕ) (items : List ItemData) (n position : ℕ)
    → map taken_of (before ++ one ∷ behind) ≡ numbered number items → Amid (before ++ settled one ∷ behind) n position
    → Amid (before ++ one ∷ behind) n position × (one.taken.position ≡ position → ⊥)
amid_settled [] one behind number [] n position order amid = absurd (cc)
amid_settled [] one behind number (item ∷ items) n position order amid =
    let head : one.taken ≡ record { position = number; item = item } = cc in
    let here : one.taken.position ≡ number = ap (λ (t : Taken). t.position) head in
    let rest : map taken_of behind ≡ numbered (number + 1) items = cc in
    ⊎_elim
    (λ (t : (one.taken.position ≡ position) × (duty.None ≡ duty.Slot n)). absurd (none_owed n t.1))
    (λ (t : Amid behind n position). let low = (amid_within behind (number + 1) items n position rest t).0 in (inr t, λ (e : one.taken.position ≡ position). omega arith))
    amid
amid_settled (other ∷ before) one behind number [] n position order amid = absurd (cc)
amid_settled (other ∷ before) one behind number (item ∷ items) n position order amid =
    let head : other.taken ≡ record { position = number; item = item } = cc in
    let here : other.taken.position ≡ number = ap (λ (t : Taken). t.position) head in
    let rest : map taken_of (before ++ one ∷ behind) ≡ numbered (number + 1) items = cc in
    let low : number + 1 ≤ one.taken.position = one_behind before one behind (number + 1) items rest in
    ⊎_elim
    (λ (t : (other.taken.position ≡ position) × (other.owing ≡ duty.Slot n)). let there = t.0 in (inl t, λ (e : one.taken.position ≡ position). omega arith))
    (λ (t : Amid (before ++ settled one ∷ behind) n position).
    let u = amid_settled before one behind (number + 1) items n position rest t in (inr u.0, u.1))
    amid

pub amid_unsettled
    : (before : List Held) (one : Held) (behind : List Held) (n position : ℕ) → (one.owing ≡ duty.Slot n → ⊥) → Amid (before ++ one ∷ behind) n position → Amid (before ++ settled one ∷ behind) n position
amid_unsettled [] one behind n position not_owed amid =
    ⊎_elim
    (λ (t : (one.taken.position ≡ position) × (one.owing ≡ duty.Slot n)). absurd (not_owed t.1))
    (λ (t : Amid behind n position). inr t)
    amid
amid_unsettled (other ∷ before) one behind n position not_owed amid =
    ⊎_elim
    (λ (t : (other.taken.position ≡ position) × (other.owing ≡ duty.Slot n)). inl t)
    (λ (t : Amid (before ++ one ∷ behind) n position). inr (amid_unsettled before one behind n position not_owed t))
    amid

-- it is there
pub amid_one : (before : List Held) (one : Held) (behind : List Held) (n : ℕ) → one.owing ≡ duty.Slot n → Amid (before ++ one ∷ behind) n one.taken.position
amid_one [] one behind n owes = inl (refl, owes)
amid_one (other ∷ before) one behind n owes = inr (amid_one before one behind n owes)

-- ---- items at their places
pub get_drop : (k i : ℕ) (items : List ItemData) → slice_get (drop k items) i ≡ slice_get items (k + i)
get_drop zero i items = let e : i ≡ 0 + i = omega arith in ap (slice_get items) e
get_drop (suc k) i [] = refl
get_drop (suc k) i (item ∷ items) = let e : suc (k + i) ≡ suc k + i = omega arith in get_drop k i items ∙ ap (slice_get (item ∷ items)) e

pub get_take : (k i : ℕ) (items : List ItemData) (item : ItemData) → slice_get (take k items) i ≡ Some item → slice_get items i ≡ Some item
get_take zero i items item e = absurd (cc)
get_take (suc k) i [] item e = absurd (cc)
get_take (suc k) zero (first ∷ items) item e = e
get_take (suc k) (suc i) (first ∷ items) item e = get_take k i items item e

pub get_taken : (k i : ℕ) (items : List ItemData) → i < k → slice_get (take k items) i ≡ slice_get items i
get_taken zero i items lt = absurd (omega arith)
get_taken (suc k) i [] lt = refl
get_taken (suc k) zero (first ∷ items) lt = refl
get_taken (suc k) (suc i) (first ∷ items) lt = get_taken k i items (omega arith)

-- ---- items that are handed out
-- one of them, with its place
pub record Among (items : List ItemData) (n place : ℕ) : Type 0 where
  pub item : ItemData
  pub there : slice_get items place ≡ Some item
  pub owes : item.duty ≡ duty.Slot n

pub amid_handed : (number : ℕ) (items : List ItemData) (n position : ℕ) → Amid (map held (numbered number items)) n position → (place : ℕ) × (position ≡ number + place) × Among items n place
amid_handed number [] n position amid = absurd amid
amid_handed number (item ∷ items) n position amid =
    ⊎_elim
    (λ (t : (number ≡ position) × (item.duty ≡ duty.Slot n)). let e = t.0 in (0, omega arith, record { item = item; there = refl; owes = t.1 }))
    (λ (t : Amid (map held (numbered (number + 1) items)) n position).
    let u = amid_handed (number + 1) items n position t in
    let e = u.1 in
    (suc u.0, omega arith, record { item = u.2.item; there = u.2.there; owes = u.2.owes }))
    amid

pub handed_amid : (number : ℕ) (items : List ItemData) (n place : ℕ) → Among items n place → Amid (map held (numbered number items)) n (number + place)
handed_amid number [] n place among = let none = among.there in absurd (cc)
handed_amid number (item ∷ items) n zero among =
    let same : item ≡ among.item = let e = among.there in cc in
    inl (omega arith, ap (λ (i : ItemData). i.duty) same ∙ among.owes)
handed_amid number (item ∷ items) n (suc place) among =
    let e : number + 1 + place ≡ number + suc place = omega arith in
    inr (subst (λ (k : ℕ). Amid (map held (numbered (number + 1) items)) n k) e (handed_amid (number + 1) items n place (record { item = among.item; there = among.there; owes = among.owes })))
