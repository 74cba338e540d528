-- Where the filters pass a message, a handler of the set is there.
use Rattle.std.proofs.Common.{ℕ, zero, suc, cond, List, [], ◌∷◌, length, find, Contains, Option, None, Some, IfSome, unwrap_or, option_map, option_and_then}
use Rattle.std.proofs.lemmas.Bool.{cond_both}
use Rattle.ak_filter.specs.declared.filter.Filter.{Filter}
use Rattle.ak_filter.specs.Filter.{admits}
use Rattle.ak_handler.specs.Handlers.{HandlerData, HandlersData, has_name, token_named, tokens_of}
use Rattle.ak_base.proofs.Surface.{find-All}
use Rattle.ak_handler.proofs.Surface.{contains_token}
use Rattle.ak_property.specs.HandlerRow.{RowData}
use Rattle.ak_route.specs.Handlers.{row_of}
use Rattle.ak_route.specs.Filtering.{Passing, Origin, Settled, settled, passing_after, head_of, passed_on, run_filter, run_list, settle_from, settle, asked_already}

module _ (s : HandlersData RowData) (o : Origin) where
  abbrev pub IsKept : Passing → Type 0
  IsKept p = Contains (tokens_of s.list) p.target

  found_there : (f : Option (HandlerData RowData)) (target : ℕ) → IfSome f (λ h. Contains (tokens_of s.list) h.token) → Contains (tokens_of s.list) target → Contains (tokens_of s.list) (unwrap_or (option_map (λ h. h.token) f) target)
  found_there None target found there = there
  found_there (Some h) target found there = found

  named_there : (to : Option (List ℕ)) (target : ℕ) → Contains (tokens_of s.list) target → Contains (tokens_of s.list) (unwrap_or (option_and_then (token_named s.list) to) target)
  named_there None target there = there
  named_there (Some name) target there =
      found_there (find (has_name name) s.list) target
      (find-All (has_name name) (λ h. Contains (tokens_of s.list) h.token) s.list (λ k d lt. contains_token s.list k d lt)) there

  filter_kept : (f : Filter) (p : Passing) → IsKept p → IfSome (run_filter s o f p) IsKept
  filter_kept f p there =
      cond_both (admits f (head_of o p)) (cond f.skip None (Some (passed_on s f p))) (Some p) (λ q. IfSome q IsKept)
      (λ _. cond_both f.skip None (Some (passed_on s f p)) (λ q. IfSome q IsKept) (λ _. tt) (λ _. named_there f.to p.target there))
      (λ _. there)

  pub then_kept : {A : Type 0} (P : A → Type 0) (q : Option Passing) (on : Passing → Option A) → IfSome q IsKept → ((p : Passing) → IsKept p → IfSome (on p) P) → IfSome (option_and_then on q) P
  then_kept P None on there rest = tt
  then_kept P (Some p) on there rest = rest p there

  pub list_kept : (fs : List Filter) (p : Passing) → IsKept p → IfSome (run_list s o fs p) IsKept
  list_kept [] p there = there
  list_kept (f ∷ fs) p there = then_kept IsKept (run_filter s o f p) (run_list s o fs) (filter_kept f p there) (λ q kept. list_kept fs q kept)

  abbrev pub RestsKept : Settled → Type 0
  RestsKept d = IsKept d.passing

  settle_from_kept : (n : ℕ) (asked : List ℕ) (p : Passing) → IsKept p → IfSome (settle_from s o n asked p) RestsKept
  settle_from_kept zero asked p there = there
  settle_from_kept (suc n) asked p there =
      cond_both (asked_already asked p.target) (Some (settled p asked)) (option_and_then (settle_from s o n (p.target ∷ asked)) (run_list s o (row_of s p.target).filters p)) (λ q. IfSome q RestsKept)
      (λ _. there)
      (λ _. then_kept RestsKept (run_list s o (row_of s p.target).filters p) (settle_from s o n (p.target ∷ asked)) (list_kept (row_of s p.target).filters p there) (λ q kept. settle_from_kept n (p.target ∷ asked) q kept))

  passing_kept : (d : Option Settled) → IfSome d RestsKept → IfSome (passing_after d) IsKept
  passing_kept None kept = tt
  passing_kept (Some d) kept = kept

  pub settle_kept : (common : List Filter) (p : Passing) → IsKept p → IfSome (passing_after (settle s o common p)) IsKept
  settle_kept common p there =
      passing_kept (settle s o common p)
      (then_kept RestsKept (run_list s o common p) (settle_from s o (length s.list) []) (list_kept common p there) (λ q kept. settle_from_kept (length s.list) [] q kept))
