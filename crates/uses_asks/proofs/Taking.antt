-- One item is taken: it is the next one.
use Rattle.std.proofs.Common.{◌≡◌, ℕ, ◌+◌, ◌-◌, ◌≤◌, List, [], ◌∷◌, ◌++◌, take, drop, Option, None, Some, Contains, refl, sym, ap, ◌∙◌, subst, arith}
use Rattle.std.specs.Prelude.{IfSome, min}
use Rattle.std.specs.Option.{option_to_list}
use Rattle.std.proofs.lemmas.List.Elements.{Contains-append_right}
use Rattle.ak_flatten.specs.declared.item.Taken.{Taken}
use Rattle.ak_flatten.specs.Item.{ItemData}
use Rattle.ak_port.specs.PortCalls.{PortSeat}
use Rattle.ak_port.specs.PortMachine.{last_taken, numbered, pending_count, state_of, taken_items}
use Rattle.uses_asks.specs.Serving.{TakesNext}

first_number : (n : ℕ) (items : List ItemData) (x : Taken) (rest : List Taken) → numbered n items ≡ x ∷ rest → x.position ≡ n
first_number n [] x rest e = absurd (cc e)
first_number n (item ∷ items) x rest e =
    let t : Taken = record { position = n; item = item } in
    let same : t ≡ x = cc e in
    ap (λ (u : Taken). u.position) (sym same)

numbers : (t t' k pending : ℕ) → k ≡ min 1 (k + pending) → 1 ≤ k → t' ≡ t + k → t' - k ≡ t
numbers t t' k pending few some rises = omega arith

one_taken : (t t' k pending : ℕ) → k ≡ min 1 (k + pending) → 1 ≤ k → t' ≡ t + k → t' ≡ t + 1
one_taken t t' k pending few some rises = omega arith

-- what holds, holds where an item is given out
pub whichever : (P : Type 0) (told : Option Taken) → P → IfSome told (λ (taken : Taken). P)
whichever P None h = tt
whichever P (Some taken) h = h

pub taken_next : (seat seat' : PortSeat) (k : ℕ) (room out rest : List Taken) (told : Option Taken) → room ≡ [] → out ≡ room ++ last_taken k (state_of seat'.front) → k ≡ min 1 (k + pending_count (state_of seat'.front)) → 1 ≤ k
    → (state_of seat'.front).taken ≡ (state_of seat.front).taken + k → taken_items (state_of seat'.front) ≡ taken_items (state_of seat.front) ++ last_taken k (state_of seat'.front) → out ≡ option_to_list told ++ rest
    → IfSome told (λ (taken : Taken). TakesNext taken seat seat')
taken_next seat seat' k room out rest None empty items few some rises goes_on popped = tt
taken_next seat seat' k room out rest (Some taken) empty items few some rises goes_on popped =
    let s' = state_of seat'.front in
    let list : last_taken k s' ≡ taken ∷ rest = ap (λ l. l ++ last_taken k s') (sym empty) ∙ sym items ∙ popped in
    record {
      next = first_number (s'.taken - k) (drop (s'.taken - k) (take s'.taken s'.written)) taken rest list ∙ numbers (state_of seat.front).taken s'.taken k (pending_count s') few some rises;
      rises = one_taken (state_of seat.front).taken s'.taken k (pending_count s') few some rises;
      among =
          subst (λ l. Contains l taken) (sym (goes_on ∙ ap (λ l. taken_items (state_of seat.front) ++ l) list))
          (Contains-append_right (taken_items (state_of seat.front)) (taken ∷ rest) taken (0, omega arith, refl));
    }

pub ruleset taking = (taken_next)
