-- What is gathered: one thing behind the other.
use Rattle.std.proofs.Common.{◌≡◌, ◌≤◌, ℕ, Bool, true, false, List, [], ◌∷◌, ◌++◌, length, None, sym, ap, ◌∙◌, append_assoc, append-nil, arith}
use Rattle.std.specs.Prelude.{if◌then◌else◌}
use Rattle.ak_print.specs.declared.told.Told.{Told}
use Rattle.ak_lines.specs.declared.outcome.Outcome.{Outcome}
use Rattle.ak_play.specs.Gathered.{GatheredData, gathered_and, of_cut, of_part, of_parts}
use Rattle.ak_play.specs.Parts.{Part, all_outcomes, all_short, all_tolds}
use Rattle.ak_play.proofs.Lists.{gathered_push}

abbrev lists : List Outcome → List Told → List ℕ → GatheredData
lists os ts ns = record { outcomes = os; tolds = ts; short = ns }

-- it is the same where each of its lists is
pub gathered_is : (os os' : List Outcome) (ts ts' : List Told) (ns ns' : List ℕ) → os ≡ os' → ts ≡ ts' → ns ≡ ns' → lists os ts ns ≡ lists os' ts' ns'
gathered_is os os' ts ts' ns ns' outcomes tolds short = ap (λ (l : List Outcome). lists l ts ns) outcomes ∙ ap (λ (l : List Told). lists os' l ns) tolds ∙ ap (λ (l : List ℕ). lists os' ts' l) short

pub and_nothing : (os : List Outcome) (ts : List Told) (ns : List ℕ) → gathered_and (lists os ts ns) (lists [] [] []) ≡ lists os ts ns
and_nothing os ts ns = gathered_is (os ++ []) os (ts ++ []) ts (ns ++ []) ns (append-nil os) (append-nil ts) (append-nil ns)

pub and_more : (g a b : GatheredData) → gathered_and (gathered_and g a) b ≡ gathered_and g (gathered_and a b)
and_more g a b =
    gathered_is ((g.outcomes ++ a.outcomes) ++ b.outcomes) (g.outcomes ++ (a.outcomes ++ b.outcomes)) ((g.tolds ++ a.tolds) ++ b.tolds) (g.tolds ++ (a.tolds ++ b.tolds)) ((g.short ++ a.short) ++ b.short) (g.short ++ (a.short ++ b.short))
    (append_assoc g.outcomes a.outcomes b.outcomes) (append_assoc g.tolds a.tolds b.tolds) (append_assoc g.short a.short b.short)

-- a session has one number at most
pub one_at_most : (b : Bool) (n : ℕ) → length (if b then n ∷ [] else []) ≤ 1
one_at_most true n = omega arith
one_at_most false n = omega arith

-- ---- parts
pub no_cut : (ps : List Part) → of_parts ps ≡ gathered_and (of_parts ps) (of_cut None)
no_cut ps = sym (and_nothing (all_outcomes ps) (all_tolds ps) (all_short ps))

pub one_part_more : (ps : List Part) (p : Part) → of_parts (ps ++ p ∷ []) ≡ gathered_and (of_parts ps) (of_part p)
one_part_more ps p =
    gathered_is (all_outcomes (ps ++ p ∷ [])) (all_outcomes ps ++ p.outcomes) (all_tolds (ps ++ p ∷ [])) (all_tolds ps ++ p.tolds) (all_short (ps ++ p ∷ [])) (all_short ps ++ p.short)
    (gathered_push (λ (part : Part). part.outcomes) ps p) (gathered_push (λ (part : Part). part.tolds) ps p) (gathered_push (λ (part : Part). part.short) ps p)
