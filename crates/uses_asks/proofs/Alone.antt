-- A port that accepts one item has one.
use Rattle.std.proofs.Common.{◌≡◌, ℕ, ◌≤◌, true, List, [], ◌∷◌, length, Contains, refl, sym, ap, ◌∙◌, subst, arith}
use Rattle.ak_flatten.specs.declared.item.Taken.{Taken}
use Rattle.ak_flatten.specs.Item.{ItemData}
use Rattle.ak_turn.specs.Entries.{StartsWith}
use Rattle.ak_port.specs.declared.port_entry.PortEntry.{PortEntry}
use Rattle.ak_port.specs.declared.port_entry.PortEvent.{PortEvent}
use Rattle.ak_port.specs.declared.port_entry.PortEvent.TheVariants as event
use Rattle.ak_port.specs.PortLaws.{EachOnce, OldestFirst, WithinLimits}
use Rattle.ak_port.specs.PortMachine.{AreSteps, IsPort, PortState, follows_making, numbered, replayed, state_after, state_of, unmade}
use Rattle.ak_port.proofs.Surface.{AreSteps-behind, length-numbered, replayed-append}
use Rattle.uses_asks.specs.Laws.{AcceptsOne, OneItemAlone}
use Rattle.uses_asks.proofs.Numbered.{position_of, same_written, written_numbered}

-- ---- how many items a port accepts stays, once it was made
made_step : (s : PortState) (e : PortEvent) → s.made ≡ true → (state_after s e).made ≡ true
made_step s (event.Made capacity life) is_made = refl
made_step s (event.Written p item) is_made = is_made
made_step s event.Full is_made = is_made
made_step s event.Spent is_made = is_made
made_step s event.Refused is_made = is_made
made_step s (event.Took k) is_made = is_made
made_step s (event.Rest k) is_made = is_made
made_step s event.Shut is_made = is_made

life_step : (s : PortState) (e : PortEvent) → follows_making e ≡ true → (state_after s e).life ≡ s.life
life_step s (event.Made capacity life) behind = absurd (cc)
life_step s (event.Written p item) behind = refl
life_step s event.Full behind = refl
life_step s event.Spent behind = refl
life_step s event.Refused behind = refl
life_step s (event.Took k) behind = refl
life_step s (event.Rest k) behind = refl
life_step s event.Shut behind = refl

life_stays : (taker : ℕ) (s : PortState) (entries : List PortEntry) → s.made ≡ true → AreSteps taker s entries → (replayed s entries).life ≡ s.life
life_stays taker s [] is_made steps = refl
life_stays taker s (x ∷ xs) is_made steps =
    life_stays taker (state_after s x.event) xs (made_step s x.event is_made) steps.1 ∙ life_step s x.event (sym steps.0.after_making ∙ is_made)

-- ---- a list in two parts
accepts_still : (taker : ℕ) (port front : List PortEntry) → IsPort taker port → StartsWith port front → AcceptsOne front → (state_of port).life ≡ 1
accepts_still taker port front is starts one =
    let steps = subst (λ (l : List PortEntry). AreSteps taker unmade l) starts.1 is.steps in
    ap (λ (l : List PortEntry). (state_of l).life) starts.1 ∙ ap (λ (s : PortState). s.life) (replayed-append unmade front starts.0)
    ∙ life_stays taker (state_of front) starts.0 one.is_made (AreSteps-behind taker unmade front starts.0 steps) ∙ one.life

-- ---- of at most one item each is the first
is_first : (items : List ItemData) (t : Taken) → length items ≤ 1 → Contains (numbered 0 items) t → t.position ≡ 0
is_first items t few there =
    let long = length-numbered 0 items in
    let lt = there.1 in
    let at = position_of 0 items there.0 t there.1 there.2 in
    omega arith

pub one_item_alone : EachOnce → OldestFirst → WithinLimits → OneItemAlone
one_item_alone each oldest within taker port front t u is starts one there there' =
    let s = state_of port in
    let life = accepts_still taker port front is starts one in
    let most = (within taker port is).life in
    let few : length s.written ≤ 1 = omega arith in
    let whole = written_numbered each oldest taker port is in
    let first = is_first s.written t few (subst (λ (l : List Taken). Contains l t) whole there) in
    let second = is_first s.written u few (subst (λ (l : List Taken). Contains l u) whole there') in
    same_written each oldest taker port t u is there there' (first ∙ sym second)
