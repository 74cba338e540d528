-- Each message that a port accepted stands at its position; so does the one that a turn dispatches.
use Rattle.std.proofs.Common.{◌≡◌, ℕ, zero, suc, ◌+◌, List, [], ◌∷◌, ◌++◌, length, Some, slice_get, length-append, ap, ◌∙◌, ⊎_elim, arith}
use Rattle.ak_flatten.specs.declared.item.Taken.{Taken}
use Rattle.ak_flatten.specs.Item.{ItemData}
use Rattle.ak_port.specs.declared.port_entry.PortEntry.{PortEntry}
use Rattle.ak_port.specs.declared.port_entry.PortEvent.{PortEvent}
use Rattle.ak_port.specs.declared.port_entry.PortEvent.TheVariants as event
use Rattle.ak_port.specs.PortMachine.{AreSteps, IsAllowed, IsPort, PortState, state_after, unmade, written_in, written_item}
use Rattle.ak_diary.specs.Looper.{LooperFacts, dispatched_in, taken_in}
use Rattle.ak_diary.specs.Step.{Step}
use Rattle.ak_diary.specs.Turns.{IsDispatch}
use Rattle.ak_diary.proofs.Lists.{drop_get, get_front, get_parts}

-- ---- positions
-- an item stands at its position among all that were written
record CountsOn (s : PortState) (e : PortEvent) : Type 0 where
  pub after : length (state_after s e).written ≡ length s.written + length (written_item e)
  pub here : (i : ℕ) (t : Taken) → slice_get (written_item e) i ≡ Some t → t.position ≡ length s.written + i

counts_on : (taker by : ℕ) (s : PortState) (e : PortEvent) → IsAllowed taker by s e → CountsOn s e
counts_on taker by s (event.Made capacity life) allowed = record { after = omega arith; here = λ i t at. absurd (cc at) }
counts_on taker by s (event.Written position item) allowed = record {
  after = length-append s.written (item ∷ []);
  here = one_here (length s.written) position item allowed.3;
}
  where
    one_here : (n position : ℕ) (item : ItemData) → position ≡ n → (i : ℕ) (t : Taken) → slice_get (written_item (event.Written position item)) i ≡ Some t → t.position ≡ n + i
    one_here n position item is zero t at =
        let it : Taken = record { position = position; item = item } in
        let same : it ≡ t = cc at in
        let there : position ≡ t.position = ap (λ (k : Taken). k.position) same in
        omega (arith, there, is)
    one_here n position item is (suc i) t at = absurd (cc at)
counts_on taker by s event.Full allowed = record { after = omega arith; here = λ i t at. absurd (cc at) }
counts_on taker by s event.Refused allowed = record { after = omega arith; here = λ i t at. absurd (cc at) }
counts_on taker by s event.Spent allowed = record { after = omega arith; here = λ i t at. absurd (cc at) }
counts_on taker by s (event.Took k) allowed = record { after = omega arith; here = λ i t at. absurd (cc at) }
counts_on taker by s (event.Rest k) allowed = record { after = omega arith; here = λ i t at. absurd (cc at) }
counts_on taker by s event.Shut allowed = record { after = omega arith; here = λ i t at. absurd (cc at) }

pub position_is : (taker : ℕ) (s : PortState) (entries : List PortEntry) → AreSteps taker s entries → (i : ℕ) (t : Taken) → slice_get (written_in entries) i ≡ Some t → t.position ≡ length s.written + i
position_is taker s [] steps i t at = absurd (cc at)
position_is taker s (x ∷ entries) steps i t at =
    let on = counts_on taker x.by.0 s x.event steps.0.allowed in
    ⊎_elim (λ (first : slice_get (written_item x.event) i ≡ Some t). on.here i t first)
    (λ (later : (j : ℕ) × (i ≡ length (written_item x.event) + j) × (slice_get (written_in entries) j ≡ Some t)).
    omega (arith, on.after, later.1, position_is taker (state_after s x.event) entries steps.1 later.0 t later.2))
    (get_parts (written_item x.event) (written_in entries) i t at)

-- each of these stands at its position
abbrev pub IsNumbered : List Taken → Type 0
IsNumbered accepted = (i : ℕ) (t : Taken) → slice_get accepted i ≡ Some t → t.position ≡ i

pub written_numbered : (taker : ℕ) (port : List PortEntry) → IsPort taker port → IsNumbered (written_in port)
written_numbered taker port is i t at = omega (arith, position_is taker unmade port is.steps i t at)

-- ---- a dispatch
-- the message that a turn dispatches is the one at its position, of those that the port accepted: these begin with what was taken
pub dispatch_listed : (l : LooperFacts) (so_far turn : List Step) (accepted more : List Taken) → accepted ≡ taken_in l so_far ++ more → IsNumbered accepted → (d : IsDispatch l so_far turn)
    → slice_get accepted d.taken.position ≡ Some d.taken
dispatch_listed l so_far turn accepted more is numbered d =
    let place = dispatched_in l so_far in
    let there : slice_get accepted place ≡ Some d.taken =
    ap (λ ts. slice_get ts place) is ∙ get_front (taken_in l so_far) more place d.taken (drop_get place (taken_in l so_far) d.taken d.others d.oldest) in
    ap (λ (k : ℕ). slice_get accepted k) (numbered place d.taken there) ∙ there
