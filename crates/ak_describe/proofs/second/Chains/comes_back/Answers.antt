-- One step less is left.
use Rattle.std.proofs.Common.{◌≡◌, ◌∙◌, ℕ, suc, ◌+◌, ◌-◌, ◌<◌, true, ◌==◌, if◌then◌else◌, length, sym, ap, arith, eq-eqb, ne_eqb}
use Rattle.ak_describe.specs.declared.second.Chains.{Chains}
use Rattle.ak_describe.specs.Led.{meets, next_of}
use Rattle.ak_describe.proofs.second.Chains.comes_back.Goals as goal

one_step : (c : Chains) (row n i at : ℕ) → i < n → meets c row (n - i) at ≡ (if next_of c at == row then true else meets c row (n - (i + 1)) (next_of c at))
one_step c row n i at lt = let e : n - i ≡ suc (n - (i + 1)) = omega arith in ap (λ k. meets c row k at) e

met : (c : Chains) (row n i at x : ℕ) → i < n → x ≡ next_of c at → x ≡ row → meets c row (n - i) at ≡ true
met c row n i at x lt is same =
    one_step c row n i at lt ∙ ap (λ b. if b then true else meets c row (n - (i + 1)) (next_of c at)) (eq-eqb (next_of c at) row (sym is ∙ same))

not_met : (c : Chains) (row n i at x : ℕ) → i < n → x ≡ next_of c at → (x ≡ row → ⊥) → meets c row (n - i) at ≡ meets c row (n - (i + 1)) x
not_met c row n i at x lt is apart =
    one_step c row n i at lt ∙ ap (λ b. if b then true else meets c row (n - (i + 1)) (next_of c at)) (ne_eqb (next_of c at) row (λ e. apart (is ∙ e)))
    ∙ ap (meets c row (n - (i + 1))) (sym is)

pub returns-then-at-row : goal.returns-then-at-row
returns-then-at-row c =
    let lt : c.loop.counter < length c.args.self.now.next = omega arith in
    sym (met c.args.self.now c.args.row (length c.args.self.now.next) c.loop.counter c.loop.at c.next_of-at.result lt c.next_of-at.ensures c.if-at-row.true) ∙ c.loop.invariant

pub loop-preserved : goal.loop-preserved
loop-preserved c =
    let lt : c.loop.counter < length c.args.self.now.next = omega arith in
    sym (not_met c.args.self.now c.args.row (length c.args.self.now.next) c.loop.counter c.loop.at c.next_of-at.result lt c.next_of-at.ensures c.if-at-row.false) ∙ c.loop.invariant
