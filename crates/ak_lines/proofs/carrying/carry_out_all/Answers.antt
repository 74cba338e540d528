use Rattle.std.proofs.Common.{◌≡◌, ◌≤◌, ◌+◌, ◌∙◌, ℕ, List, [], ◌∷◌, ◌++◌, length, slice_get, Some, refl, sym, ap, subst, arith}
use Rattle.std.proofs.lemmas.List.{length_push}
use Rattle.std.proofs.lemmas.Result.{err_from_is_err_and}
use Rattle.ak_print.specs.declared.told.Told.{Told}
use Rattle.ak_lines.specs.declared.outcome.Outcome.{Outcome}
use Rattle.ak_lines.specs.Carried.{HasCarriedFirst}
use Rattle.ak_lines.proofs.Lines.{at_index, first_all, first_cut, first_none, first_on, keeps_both, keeps_self}
use Rattle.ak_lines.proofs.carrying.carry_out_all.Goals as goal

pub loop-line-init : goal.loop-line-init
loop-line-init g c = record {
  first = λ heads start stands.
      subst (λ (os : List Outcome). HasCarriedFirst heads start c.args.lines.now os c.args.tolds.now.items c.args.session.now) (sym c.requires.no_outcomes)
      (subst (λ (ts : List Told). HasCarriedFirst heads start c.args.lines.now [] ts c.args.session.now) (sym c.requires.no_tolds) (first_none heads start c.args.lines.now c.args.session.now stands));
  outcomes_count = ap length c.requires.no_outcomes;
  tolds_count = ap length c.requires.no_tolds;
  outcomes_room = refl;
  tolds_room = refl;
  standing = c.requires.standing;
  keeps = keeps_self c.args.session.now;
}

pub loop-line-preserved : goal.loop-line-preserved
loop-line-preserved g c =
    let inv = c.loop-line.invariant in
    let lines = c.args.lines.now in
    let l = c.line-item.result in
    let os = c.loop-line.outcomes.items in
    let ts = c.loop-line.tolds.items in
    let before = c.loop-line.session in
    let after = c.carry_out.new.session in
    let came = c.in_ok-came.came in
    let told = c.in_ok-came.ensures in
    let at : slice_get lines (length os) ≡ Some l = ap (slice_get lines) inv.outcomes_count ∙ at_index lines c.loop-line.line-index l c.loop-line-test.true c.line-item.is in
    record {
      first = λ heads start stands.
          let on = first_on heads start lines os ts before after l came.outcome came.told (inv.first heads start stands) at (λ so_far s. told.goes heads start so_far s) in
          subst (λ (o : List Outcome). HasCarriedFirst heads start lines o c.push_reserved-in-loop-line.new.self.items after) (sym {A = List Outcome} c.push_reserved.ensures.items)
          (subst (λ (t : List Told). HasCarriedFirst heads start lines (os ++ came.outcome ∷ []) t after) (sym {A = List Told} c.push_reserved-in-loop-line.ensures.items) on);
      outcomes_count = ap length c.push_reserved.ensures.items ∙ length_push os came.outcome ∙ ap (λ (n : ℕ). n + 1) inv.outcomes_count;
      tolds_count = ap length c.push_reserved-in-loop-line.ensures.items ∙ length_push ts came.told ∙ ap (λ (n : ℕ). n + 1) inv.tolds_count;
      outcomes_room = c.push_reserved.ensures.capacity ∙ inv.outcomes_room;
      tolds_room = c.push_reserved-in-loop-line.ensures.capacity ∙ inv.tolds_room;
      standing = told.standing;
      keeps = keeps_both c.args.session.now before after inv.keeps told.keeps;
    }

pub returns-in_err-came-clause-carried : goal.returns-in_err-came-clause-carried
returns-in_err-came-clause-carried g c heads start stands =
    let p = err_from_is_err_and c.from_residual.result c.from_residual.ensures.1 in
    let inv = c.loop-line.invariant in
    let lines = c.args.lines.now in
    let l = c.line-item.result in
    let os = c.loop-line.outcomes.items in
    let at : slice_get lines (length os) ≡ Some l = ap (slice_get lines) inv.outcomes_count ∙ at_index lines c.loop-line.line-index l c.loop-line-test.true c.line-item.is in
    rw (p.1, p.2) (first_cut heads start lines os c.loop-line.tolds.items c.loop-line.session c.carry_out.new.session l c.in_err-came.field-0.0 (inv.first heads start stands) at (λ so_far s. c.in_err-came.ensures.goes heads start so_far s))

pub returns-clause-carried : goal.returns-clause-carried
returns-clause-carried g c heads start stands =
    let inv = c.loop-line.invariant in
    let most : c.loop-line.line-index ≤ length c.args.lines.now = c.loop-line.auto.line-index-end in
    first_all heads start c.args.lines.now c.loop-line.outcomes.items c.loop-line.tolds.items c.loop-line.session (inv.first heads start stands) (omega (arith, inv.outcomes_count, c.loop-line-test.false, most))
