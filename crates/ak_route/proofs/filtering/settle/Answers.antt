-- Those that are marked are those whose filters ran.
use Rattle.std.proofs.Common.{◌∙◌, ◌-◌, true, false, length, replicate, set, option_map, refl, sym, ap, length-set, arith}
use Rattle.ak_handler.proofs.Surface.{placed_at}
use Rattle.ak_route.specs.Handlers.{handlers_seen}
use Rattle.ak_route.specs.Filtering.{passing_after, settle}
use Rattle.ak_route.specs.Seen.{origin_of, passing_of}
use Rattle.ak_route.proofs.Mapped.{length-seen, no_filters}
use Rattle.ak_route.proofs.Marked.{marked, none_marked, marked_there, marked_more}
use Rattle.ak_route.proofs.Passed.{settle_begun, settle_step, settle_skipped, settle_asked, settle_missing}
use Rattle.ak_route.proofs.filtering.settle.Goals as goal

pub loop-init : goal.loop-init
loop-init g c = record {
  a_mark_each = refl;
  same =
      settle_begun (handlers_seen g.R.HandlerRow.told c.args.set.now) (origin_of c.args.origin) c.as_slice.result.now (length c.args.set.now.list) (marked c.args.set.now.list (replicate 64 false)) (passing_of c.args.passing) (passing_of c.in_ok-passing.passing)
      (sym (length-seen g.R.HandlerRow.told c.args.set.now.list))
      (none_marked c.args.set.now.list 64)
      (sym c.in_ok-passing.ensures)
      ∙ ap (λ common. passing_after (settle (handlers_seen g.R.HandlerRow.told c.args.set.now) (origin_of c.args.origin) common (passing_of c.args.passing))) c.as_slice.ensures.value;
}

pub returns-in_default : goal.returns-in_default
returns-in_default g c =
    sym (settle_missing (handlers_seen g.R.HandlerRow.told c.args.set.now) (origin_of c.args.origin) (length c.args.set.now.list - c.loop.counter) (marked c.args.set.now.list c.loop.asked) (passing_of c.loop.passing)
    (no_filters g.R.HandlerRow.told c.args.set.now c.loop.passing.target (sym c.in_default.ensures))) ∙ c.loop.invariant.same

pub returns-then-asked-place : goal.returns-then-asked-place
returns-then-asked-place g c =
    sym (settle_asked (handlers_seen g.R.HandlerRow.told c.args.set.now) (origin_of c.args.origin) (length c.args.set.now.list - c.loop.counter) (marked c.args.set.now.list c.loop.asked) (passing_of c.loop.passing)
    (marked_there c.args.set.now.list c.loop.asked c.loop.passing.target c.in-Some.place c.len-end.ensures.is_handlers.tokens_rise (sym c.in-Some.ensures) ∙ c.if-asked-place.true)) ∙ c.loop.invariant.same

pub returns-in_err-passing-2 : goal.returns-in_err-passing-2
returns-in_err-passing-2 g c =
    ap (option_map passing_of) c.from_residual-in_err-passing-2.ensures
    ∙ sym (settle_skipped (handlers_seen g.R.HandlerRow.told c.args.set.now) (origin_of c.args.origin) (length c.args.set.now.list) c.loop.counter (marked c.args.set.now.list c.loop.asked) (passing_of c.loop.passing)
    (omega (arith, c.loop-test.true, c.len-end.ensures.value))
    (marked_there c.args.set.now.list c.loop.asked c.loop.passing.target c.in-Some.place c.len-end.ensures.is_handlers.tokens_rise (sym c.in-Some.ensures) ∙ c.if-asked-place.false)
    (sym c.in_err-passing-2.ensures)) ∙ c.loop.invariant.same

pub loop-preserved : goal.loop-preserved
loop-preserved g c = record {
  a_mark_each = length-set c.loop.asked c.in-Some.place true ∙ c.loop.invariant.a_mark_each;
  same =
      sym (settle_step (handlers_seen g.R.HandlerRow.told c.args.set.now) (origin_of c.args.origin) (length c.args.set.now.list) c.loop.counter (marked c.args.set.now.list c.loop.asked) (marked c.args.set.now.list (set c.loop.asked c.in-Some.place true)) (passing_of c.loop.passing) (passing_of c.in_ok-passing-2.passing)
      (omega (arith, c.loop-test.true, c.len-end.ensures.value))
      (marked_there c.args.set.now.list c.loop.asked c.loop.passing.target c.in-Some.place c.len-end.ensures.is_handlers.tokens_rise (sym c.in-Some.ensures) ∙ c.if-asked-place.false)
      (sym c.in_ok-passing-2.ensures)
      (marked_more c.args.set.now.list c.loop.asked c.loop.passing.target c.in-Some.place c.len-end.ensures.is_handlers.tokens_rise (sym c.in-Some.ensures)
      (omega (arith, (placed_at c.args.set.now.list c.loop.passing.target c.in-Some.place c.len-end.ensures.is_handlers.tokens_rise (sym c.in-Some.ensures)).within, c.len-end.ensures.is_handlers.limit, c.loop.invariant.a_mark_each)))) ∙ c.loop.invariant.same;
}
