use Rattle.std.proofs.Common.{rules, ◌≡◌, ℕ, List, subst}
use Rattle.std.proofs.lemmas.Fn.{always_returns_same}
use Rattle.std.specs.List.Sorted.{IsStableBy}
use Rattle.ak_journal.specs.declared.entry.Entry.{Entry}
use Rattle.ak_world.specs.Merged.{is_before}
use Rattle.ak_world.proofs.merging.merge.Goals as goal

-- what the closure answers
abbrev key : Entry → ℕ × ℕ
key entry = (entry.stamp, entry.by.0)

pub returns : goal.returns
returns c =
    let computes = always_returns_same _ (λ a r. r ≡ key a.0.now) _ (λ a r f' k. search rules) in
    record {
      ordered = c.in_ok-sort_by_key.ensures.sorted key computes;
      each = subst (λ (entries : List Entry). IsStableBy is_before entries c.sort_by_key.new.self.items) c.in_ok-entries.ensures (c.in_ok-sort_by_key.ensures.stable key computes);
    }
