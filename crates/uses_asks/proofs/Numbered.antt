-- The items of a port with their positions, by what the laws of ports say of its list.
use Rattle.std.proofs.Common.{◌≡◌, ℕ, zero, suc, ◌+◌, ◌<◌, List, [], ◌∷◌, ◌++◌, length, take, drop, Contains, refl, sym, ap, ◌∙◌, subst, arith}
use Rattle.std.specs.Prelude.{slice_index_or}
use Rattle.ak_flatten.specs.declared.item.Taken.{Taken}
use Rattle.ak_flatten.specs.Item.{ItemData}
use Rattle.ak_port.specs.declared.port_entry.PortEntry.{PortEntry}
use Rattle.ak_port.specs.PortLaws.{EachOnce, OldestFirst}
use Rattle.ak_port.specs.PortMachine.{IsPort, numbered, pending_items, state_of, taken_items, written_in}

-- ---- items that are numbered
-- in two parts, and in one
joined_from : (n k : ℕ) (items : List ItemData) → numbered n (take k items) ++ numbered (n + k) (drop k items) ≡ numbered n items
joined_from n zero items =
    let same : n + zero ≡ n = omega arith in
    ap (λ (m : ℕ). numbered m items) same
joined_from n (suc k) [] = refl
joined_from n (suc k) (x ∷ xs) =
    let first : Taken = record { position = n; item = x } in
    let on : n + suc k ≡ (n + 1) + k = omega arith in
    ap (λ (l : List Taken). first ∷ l) (ap (λ (m : ℕ). numbered (n + 1) (take k xs) ++ numbered m (drop k xs)) on ∙ joined_from (n + 1) k xs)

joined : (k : ℕ) (items : List ItemData) → numbered 0 (take k items) ++ numbered k (drop k items) ≡ numbered 0 items
joined k items =
    let same : k ≡ 0 + k = omega arith in
    ap (λ (m : ℕ). numbered 0 (take k items) ++ numbered m (drop k items)) same ∙ joined_from 0 k items

pub position_of : (n : ℕ) (items : List ItemData) (k : ℕ) (t : Taken) → k < length (numbered n items) → slice_index_or (numbered n items) k t ≡ t → t.position ≡ n + k
position_of n [] k t lt at = absurd (omega arith)
position_of n (x ∷ xs) zero t lt at =
    let first : t.position ≡ n = ap (λ (u : Taken). u.position) (sym at) in
    omega arith
position_of n (x ∷ xs) (suc k) t lt at =
    let behind = position_of (n + 1) xs k t (omega arith) at in
    omega arith

-- at one position there is one item
pub one_at : (n : ℕ) (items : List ItemData) (i j : ℕ) (t u : Taken) → i < length (numbered n items) → slice_index_or (numbered n items) i t ≡ t → j < length (numbered n items) → slice_index_or (numbered n items) j u ≡ u → t.position ≡ u.position → t ≡ u
one_at n [] i j t u lt at lt' at' same = absurd (omega arith)
one_at n (x ∷ xs) zero zero t u lt at lt' at' same = sym at ∙ at'
one_at n (x ∷ xs) zero (suc j) t u lt at lt' at' same =
    let first : t.position ≡ n = ap (λ (v : Taken). v.position) (sym at) in
    let behind = position_of (n + 1) xs j u (omega arith) at' in
    absurd (omega arith)
one_at n (x ∷ xs) (suc i) zero t u lt at lt' at' same =
    let first : u.position ≡ n = ap (λ (v : Taken). v.position) (sym at') in
    let behind = position_of (n + 1) xs i t (omega arith) at in
    absurd (omega arith)
one_at n (x ∷ xs) (suc i) (suc j) t u lt at lt' at' same = one_at (n + 1) xs i j t u (omega arith) at (omega arith) at' same

-- ---- items of a port
module _ (each : EachOnce) (oldest : OldestFirst) where
  pub taken_then_pending : (taker : ℕ) (port : List PortEntry) → IsPort taker port → written_in port ≡ taken_items (state_of port) ++ pending_items (state_of port)
  taken_then_pending taker port is = each taker port is ∙ ap (λ (l : List Taken). l ++ pending_items (state_of port)) (oldest taker port is)

  pub written_numbered : (taker : ℕ) (port : List PortEntry) → IsPort taker port → written_in port ≡ numbered 0 (state_of port).written
  written_numbered taker port is = taken_then_pending taker port is ∙ joined (state_of port).taken (state_of port).written

  -- two items that were written at one position are one
  pub same_written : (taker : ℕ) (port : List PortEntry) (t u : Taken) → IsPort taker port → Contains (written_in port) t → Contains (written_in port) u → t.position ≡ u.position → t ≡ u
  same_written taker port t u is there there' same =
      let whole = written_numbered taker port is in
      let a : Contains (numbered 0 (state_of port).written) t = subst (λ (l : List Taken). Contains l t) whole there in
      let b : Contains (numbered 0 (state_of port).written) u = subst (λ (l : List Taken). Contains l u) whole there' in
      one_at 0 (state_of port).written a.0 b.0 t u a.1 a.2 b.1 b.2 same
